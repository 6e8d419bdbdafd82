-- The reply about scripts that were read is the reply to the arguments.
use Rattle.std.specs.Prelude.{ℕ, ◌≡◌, ◌≤◌, ◌⊎◌, IsTrue, List, Result, Ok, Err, IfErr, IfOk, MatchResult, codes, string_bytes}
use Rattle.std.proofs.Common.{inl, inr, subst}
use Rattle.gb_declare.specs.Registered.{registry_said}
use Rattle.gb_folder.specs.Files.{Contents, Place, is_special_under}
use Rattle.gb_graph.specs.Answer.{IsRefusalOf}
use Rattle.gb_semantics.specs.Edits.{Shown}
use Rattle.gb_semantics.specs.declared.events.Invocation.{Invocation}
use Rattle.gb_plan.specs.Graph.{Registry, paths_of}
use Rattle.gb_predict.specs.declared.predicted_outcome.Prediction.{Prediction}
use Rattle.gb_query.specs.Inventory.{AreEntriesOf, IsUnlisted}
use Rattle.gb_query.specs.Notation.{IsStatusOf}
use Rattle.gb_query.specs.declared.answer_lines.Activity.{Activity}
use Rattle.gb_query.specs.declared.notation.Notation.{Notation}
use Rattle.gb_query.specs.declared.at_place.Relation.{Relation}
use Rattle.gb_registry.specs.Source.{Source}
use Rattle.gb_registry.specs.Tables.{Tables}
use Rattle.gb_report.specs.declared.fault.Fault.{Fault}
use Rattle.gb_report.specs.declared.fault.Fault.TheVariants as faults
use Rattle.gb_folder.proofs.Machine.{machine_before}
use Rattle.gb_ask_command.specs.Graph.{IsDrawing}
use Rattle.gb_ask_command.specs.Replies.{AreRead, IsGraphReply, IsReplyAbout, IsReplyOf, IsStatusReply}
use Rattle.gb_ask_command.specs.Reply.{Reply}
use Rattle.gb_ask_command.specs.declared.arguments.Style.{Style}

module _ {M F Z S A : Type 0} (tables : Tables M F Z S A) (known : Type 0) (old : Shown) (after : ℕ) (invocation : Invocation) where
  -- a text, or that memory ran out
  pub of_text : (IsTextOf : Registry → List ℕ → Type 0) (source : Source) → AreRead tables known old after invocation (Ok source)
      → (reply : Reply) → IfOk reply (λ text. IsTextOf (registry_said tables source) (string_bytes text)) → IfErr reply (λ fault. fault ≡ faults.OutOfMemory)
      → IsReplyOf tables known old after IsTextOf invocation reply
  of_text IsTextOf source read (Ok text) is out = (source, read, is)
  of_text IsTextOf source read (Err fault) is out = λ yes. inl (inl out)

  -- a graph, or why there is none
  pub of_drawing : (style : Style) (predicted : List Prediction) (source : Source) → AreRead tables known old after invocation (Ok source)
      → (reply : Reply) → IfOk reply (λ text. IsDrawing style predicted (registry_said tables source) invocation.requested invocation.excluded (string_bytes text))
      → IfErr reply (IsRefusalOf (registry_said tables source) invocation.requested invocation.excluded)
      → IsGraphReply tables known old after style predicted invocation reply
  of_drawing style predicted source read (Ok text) is refused = (source, read, is)
  of_drawing style predicted source read (Err fault) is refused = inr (source, read, refused)

  -- no place is requested
  pub of_no_place : (notation : Notation) (relation : Relation) (place found : Result Place Fault) (fault : Fault) → found ≡ Err fault
      → (found ≡ place) ⊎ (found ≡ Err faults.OutOfMemory) → IsReplyAbout tables known old after notation relation place invocation (Err fault)
  of_no_place notation relation (Ok place) found fault err (inl is) = absurd (cc)
  of_no_place notation relation (Ok place) found fault err (inr is) = λ yes. inl (inl (cc))
  of_no_place notation relation (Err other) found fault err (inl is) = inl (cc)
  of_no_place notation relation (Err other) found fault err (inr is) = inr (cc)

  -- the entries of the folder, after the scripts are read
  pub of_status : (notation : Notation) (activity : Activity) (source : Source) → AreRead tables known old after invocation (Ok source)
      → (mid : Contents) (later : ℕ) → (known → mid ≡ old.contents) → old.failures ≤ later → later ≤ after
      → (reply : Reply) → IfOk reply (λ text. IsStatusOf known notation activity mid.files (paths_of (registry_said tables source)) (string_bytes text))
      → (known → IfErr reply (IsUnlisted mid later after))
      → IsStatusReply tables known old after notation activity invocation reply
  of_status notation activity source read mid later same earlier count (Ok text) is unlisted = (
    source,
    read,
    (is.0, (λ yes. subst (λ (contents : Contents). AreEntriesOf contents.files (paths_of (registry_said tables source)) is.0) (same yes) (is.1 yes)), is.2),
  )
  of_status notation activity source read mid later same earlier count (Err fault) is unlisted = inr (λ yes. elim (unlisted yes) as (λ _. IsUnlisted old.contents old.failures after fault) [
    | inl machine ↦ inl (machine_before old.failures later after fault earlier count machine)
    | inr name ↦ inr (subst (λ (contents : Contents). IsTrue (is_special_under contents (codes ".gb"))) (same yes) name.0, name.1)
  ])

-- what holds of a result where contents are known
pub where_known : {T E : Type 0} (Known : Type 0) (P : T → Type 0) (Q : E → Type 0) (result : Result T E) → (Known → MatchResult result P Q)
    → MatchResult result (λ value. Known → P value) (λ fault. Known → Q fault)
where_known Known P Q (Ok value) is = is
where_known Known P Q (Err fault) is = is
