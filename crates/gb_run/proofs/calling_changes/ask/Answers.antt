use Rattle.std.proofs.Common.{◌≡◌, ℕ, List, Result, Ok, Err, ◌∙◌, ap, sym, refl, subst, inr}
use Rattle.std.specs.FinMap.Entries.{find}
use Rattle.gb_core.specs.Lists.{byte_order}
use Rattle.gb_core.specs.declared.value.Value.{Value}
use Rattle.gb_action.specs.Meanings.{Making, Printing, makes_of}
use Rattle.gb_action.specs.Replies.{Answers}
use Rattle.gb_action.specs.declared.reply.ActionFault.{ActionFault}
use Rattle.gb_action.specs.declared.reply.Reply.{Reply}
use Rattle.gb_action.specs.declared.request.Request.{Request}
use Rattle.gb_run.proofs.Agreed.{agreed_makes, agreed_prints}
use Rattle.gb_run.proofs.calling_changes.ask.Goals as goal

-- a right answer is one to the same request
answered : (m n : Making) (p q : Printing) (allowed now : Request) (r : Result Reply ActionFault) (reply : Reply) → Answers m p allowed r → r ≡ Ok reply → allowed ≡ now → n ≡ m → q ≡ p → Answers n q now (Ok reply)
answered m n p q allowed now r reply answers is same makes prints =
    subst (λ (x : Making). Answers x q now (Ok reply)) (sym makes)
    (subst (λ (x : Printing). Answers m x now (Ok reply)) (sym prints)
    (subst (λ (x : Request). Answers m p x (Ok reply)) same
    (subst (λ (x : Result Reply ActionFault). Answers m p allowed x) is answers)))

pub returns-in-Ok-run_action-clause-answered : goal.returns-in-Ok-run_action-clause-answered
returns-in-Ok-run_action-clause-answered g c = λ kinds agrees.
    let meanings = g.A.Actions.meanings in
    let request = c.args.request.now in
    let action = c.args.action.now in
    let stored = c.in-Ok.stored.now in
    let found = ap (λ (name : List ℕ). find byte_order name c.args.table.now) (sym c.as_str.ensures.text) ∙ c.in-Ok.ensures in
    answered _ _ _ _ _ (record request { args = action.args }) _ c.in-Ok-run_action.reply c.run_action.ensures c.in-Ok-run_action.is
    (ap (λ (args : List Value). record request { args = args }) c.in_ok-request.ensures)
    (agreed_makes meanings kinds c.args.table.now c.args.task.now action stored c.requires.ready found agrees)
    (agreed_prints meanings kinds c.args.table.now c.args.task.now action stored c.requires.ready found agrees)

pub returns-in-Err-ActionFailed-clause-err : goal.returns-in-Err-ActionFailed-clause-err
returns-in-Err-ActionFailed-clause-err g c = inr (
  c.in-Err-ActionFailed.text,
  refl,
  λ kinds agrees.
      let meanings = g.A.Actions.meanings in
      let request = c.args.request.now in
      let makes = makes_of meanings c.in-Ok.stored.now in
      let found = ap (λ (name : List ℕ). find byte_order name c.args.table.now) (sym c.as_str.ensures.text) ∙ c.in-Ok.ensures in
      ap (λ f. f c.args.action.now.args c.args.task.now.values request.files) (agreed_makes meanings kinds c.args.table.now c.args.task.now c.args.action.now c.in-Ok.stored.now c.requires.ready found agrees)
      ∙ ap (λ values. makes c.args.action.now.args values request.files) (sym c.requires.allowed.values)
      ∙ ap (λ args. makes args request.values request.files) (sym c.in_ok-request.ensures)
      ∙ c.run_action.ensures.failed c.in-Err-ActionFailed.text (c.in-Err-ActionFailed.is ∙ ap Err c.in-Err-ActionFailed.field-0-is),
)
