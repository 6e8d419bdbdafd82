-- Right answers, combined.
use Rattle.std.proofs.Common.{◌≡◌, ℕ, Bool, true, false, true≢false, List, [], Ok, Err, refl, sym, ap, subst, ◌∙◌}
use Rattle.std.specs.Result.{is_ok}
use Rattle.gb_action.specs.Meanings.{Making, Printing}
use Rattle.gb_action.specs.Outputs.{names_only}
use Rattle.gb_action.specs.Replies.{Answers, made_for}
use Rattle.gb_action.specs.Shapes.{IsAsked}
use Rattle.gb_action.specs.declared.reply.Reply.{Reply}
use Rattle.gb_action.specs.declared.reply.ActionFault.TheVariants.{ActionFailed}
use Rattle.gb_action.specs.declared.request.Request.{Request}
use Rattle.gb_action.specs.declared.shape.Shape.{Shape}

pub never_both : (b : Bool) → b ≡ false → b ≡ true → ⊥
never_both b f t = true≢false (sym t ∙ f)

pub not_true : (b : Bool) → (b ≡ true → ⊥) → b ≡ false
not_true true h = absurd (h refl)
not_true false h = refl

-- a kind that cannot reply to changes gets a full request
pub asked_in_full : (shape : Shape) (request : Request) → IsAsked shape request → shape.incremental ≡ false → request.changes.incremental ≡ false
asked_in_full shape request asked never = not_true _ (λ t. never_both _ never (asked.can_answer t))

module _ (makes : Making) (prints : Printing) (request : Request) where
  pub Answers-in_full : (reply : Reply) → request.changes.incremental ≡ false → reply.removes ≡ [] → made_for makes request ≡ Ok reply.writes → names_only request.outputs reply ≡ true
      → reply.lines ≡ prints request.args request.values request.files request.changes.lists → Answers makes prints request (Ok reply)
  Answers-in_full reply full keeps made named lines = record {
    succeeds = λ r e. ap is_ok made;
    removes_nothing = λ r e f. cc;
    in_full = λ r e f. cc;
    by_changes = λ r e t. absurd (never_both _ full t);
    declared = λ r e. let same : reply ≡ r = cc in subst (λ x. names_only request.outputs x ≡ true) same named;
    prints_lines = λ r e. cc;
    failed = λ text e. absurd cc;
  }

  pub Answers-failed : (text : List ℕ) → made_for makes request ≡ Err text → Answers makes prints request (Err (ActionFailed text))
  Answers-failed text made = record {
    succeeds = λ r e. absurd cc;
    removes_nothing = λ r e f. cc;
    in_full = λ r e f. cc;
    by_changes = λ r e t. absurd cc;
    declared = λ r e. cc;
    prints_lines = λ r e. cc;
    failed = λ other e. cc;
  }
