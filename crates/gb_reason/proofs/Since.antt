-- The reasons of a task that may run incrementally.
use Rattle.std.proofs.Common.{◌≡◌, ◌&&◌, ℕ, Bool, true, false, cond, List, [], ◌∷◌, ◌++◌, map, refl, sym, ap, ap₂, subst, ◌∙◌, append-nil}
use Rattle.std.proofs.lemmas.Grind.{flat_map-append}
use Rattle.std.specs.Cmp.Lexicographic.{pointwise}
use Rattle.std.specs.List.{AllZip, flat_map, zip}
use Rattle.gb_action.specs.Changes.{Changes, changes_between}
use Rattle.gb_action.specs.Files.{Tree}
use Rattle.gb_folder.specs.Files.{is_empty}
use Rattle.gb_history.specs.Decision.{IsAlike, changes_of, changes_since, is_incremental}
use Rattle.gb_history.specs.Record.{Prints}
use Rattle.gb_history.specs.declared.record.OutputRecord.{OutputRecord}
use Rattle.gb_core.specs.declared.value.Value.{Value}
use Rattle.gb_plan.specs.declared.task.Action.{Action}
use Rattle.gb_reason.specs.Real.{ChangesAreReasons}
use Rattle.gb_reason.specs.Reasons.{change_reasons, differences, has_kind, has_name, is_output, kind_reason, of_action, of_files, of_output, of_value, part}
use Rattle.gb_reason.specs.declared.reason.Reason.{Reason}
use Rattle.gb_reason.specs.declared.reason.Reason.TheVariants as reasons
use Rattle.gb_reason.proofs.Actions.{action_none, kind_own}
use Rattle.gb_reason.proofs.Elements.{name_alike, name_own, none_between, output_none, output_own, value_none}
use Rattle.gb_reason.proofs.Parts.{part_none}

module _ (incremental : List (List ℕ)) where
  abbrev reasons_in : Prints × Prints → List Reason
  reasons_in pair = change_reasons (changes_of incremental pair)

  names_alike : (old new : List Prints) → AllZip (IsAlike incremental) old new → pointwise has_name old new ≡ true
  names_alike [] [] all = refl
  names_alike [] (new ∷ more) all = absurd all
  names_alike (old ∷ others) [] all = absurd all
  names_alike (old ∷ others) (new ∷ more) all =
      ap (λ b. b && pointwise has_name others more) (name_alike old new all.0.0) ∙ names_alike others more all.1

  one_alike : (old new : Prints) → IsAlike incremental old new → of_files (old, new) ≡ reasons_in (old, new)
  one_alike old new alike = by (is_incremental incremental old.0) refl
    where
      by : (b : Bool) → is_incremental incremental old.0 ≡ b
          → of_files (old, new) ≡ change_reasons (cond b ((old.0, changes_between old.1 new.1) ∷ []) [])
      by true e = sym (append-nil (map (reasons.File old.0) (changes_between old.1 new.1)))
      by false e =
          ap (map (reasons.File old.0)) (ap (λ (tree : Tree). changes_between old.1 tree) (sym (alike.1 e)) ∙ none_between old.1)

  all_alike : (old new : List Prints) → AllZip (IsAlike incremental) old new
      → flat_map of_files (zip old new) ≡ change_reasons (flat_map (changes_of incremental) (zip old new))
  all_alike [] [] all = refl
  all_alike [] (new ∷ more) all = absurd all
  all_alike (old ∷ others) [] all = absurd all
  all_alike (old ∷ others) (new ∷ more) all =
      ap₂ (λ (a b : List Reason). a ++ b) (one_alike old new all.0) (all_alike others more all.1)
      ∙ sym (flat_map-append (λ (list : Changes). map (reasons.File list.0) list.1) (changes_of incremental (old, new)) (flat_map (changes_of incremental) (zip others more)))

pub changes_are_reasons : ChangesAreReasons
changes_are_reasons run present since outputs =
    ap (λ b. parted b present.is_stale (is_empty present.now.outputs)) since.no_rerun
    ∙ ap (λ b. parted false b (is_empty present.now.outputs)) since.not_stale
    ∙ ap (λ b. parted false false b) outputs
    ∙ ap₂ (λ (a b : List Reason). a ++ b)
    (ap₂ (λ (a b : List Reason). a ++ b)
    (ap₂ (λ (a b : List Reason). a ++ b)
    (subst (λ (actions : List Action). part has_kind of_action (kind_reason run.actions actions) run.actions actions ≡ []) since.same_actions
    (part_none has_kind of_action (kind_reason run.actions run.actions) kind_own action_none run.actions))
    (subst (λ (values : List (List ℕ × Value)). part has_name of_value reasons.ValueNames run.values values ≡ []) since.same_values
    (part_none has_name of_value reasons.ValueNames name_own value_none run.values)))
    (subst (λ (os : List OutputRecord). part is_output of_output reasons.OutputNames run.outputs os ≡ []) since.same_outputs
    (part_none is_output of_output reasons.OutputNames output_own output_none run.outputs)))
    files
  where
    parted : Bool → Bool → Bool → List Reason
    parted rerun stale bare =
        cond rerun (reasons.Rerun ∷ []) (cond stale (reasons.Stale ∷ []) (cond bare (reasons.NoOutputs ∷ []) (differences run present.now)))

    files : part has_name of_files reasons.FileNames run.inputs present.now.inputs ≡ change_reasons (changes_since run present)
    files =
        ap (λ b. cond b (flat_map of_files (zip run.inputs present.now.inputs)) (reasons.FileNames ∷ []))
        (names_alike present.incremental.items run.inputs present.now.inputs since.alike)
        ∙ all_alike present.incremental.items run.inputs present.now.inputs since.alike
