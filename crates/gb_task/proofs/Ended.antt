-- What a full run that ended well leaves, and what is recorded of it.
use Rattle.std.specs.Prelude.{◌≡◌, Bool, true, false, not, cond, List, map, Option, None, Ok}
use Rattle.std.specs.FinMap.Entries.{is_sorted}
use Rattle.std.specs.List.{list_any}
use Rattle.std.proofs.Common.{refl, sym, ap, ◌∙◌}
use Rattle.sha2.specs.Sha256.{sha256}
use Rattle.gb_action.specs.Files.{Trees}
use Rattle.gb_core.specs.Lists.{byte_order}
use Rattle.gb_folder.specs.Files.{Place, Bytes, Files, file_at, is_own}
use Rattle.gb_history.specs.Record.{Prints}
use Rattle.gb_semantics.specs.Kinds.{Kinds}
use Rattle.gb_semantics.specs.Made.{made_of, put_over, rest_of, with_outputs}
use Rattle.gb_semantics.specs.Memory.{entry_of, output_files}
use Rattle.gb_semantics.specs.Tree.{trees_of}
use Rattle.gb_semantics.specs.TrueRecord.{IsMade, output_record_of}
use Rattle.gb_semantics.proofs.Lemmas.Files.{at-put_over, at-where, or_else, same_files, sorted-put_over, sorted-where}
use Rattle.gb_semantics.proofs.Lemmas.Making.{IsRight, made_of_is_right}
use Rattle.gb_semantics.proofs.Lemmas.Reading.{AllUnobserved, trees_same}
use Rattle.gb_semantics.proofs.Lemmas.Sound.{unobserved_of}
use Rattle.gb_semantics.proofs.Lemmas.Truth.{entry_made}
use Rattle.gb_plan.proofs.Places.{out_of}
use Rattle.gb_plan.proofs.Tests.{not_false}
use Rattle.gb_plan.specs.Graph.{reads_output_of}
use Rattle.gb_plan.specs.Task.{is_output_of, output_places}
use Rattle.gb_plan.specs.declared.task.Output.{Output}
use Rattle.gb_plan.specs.declared.task.TaskDeclaration.{TaskDeclaration as Task}
use Rattle.gb_records.specs.Said.{IsSaidOf}
use Rattle.gb_run.proofs.Owned.{narrowed}
use Rattle.gb_label.specs.Reading.{digests_in, recorded_of}
use Rattle.gb_task.specs.Keeping.{run_now}
use Rattle.gb_task.proofs.Outside.{kept, trees_outside}
use Rattle.gb_task.proofs.Own.{is_kept, kept_at, swapped}
use Rattle.gb_task.proofs.Present.{part_same}

-- a task that reads none of its own outputs sees nothing at them
pub finds_none : (task : Task) → reads_output_of task task ≡ false → AllUnobserved (λ q. not (is_output_of task q)) task
finds_none task separate =
    unobserved_of task (λ q. not (is_output_of task q)) (output_places task)
    (λ q none. ap not (out_of task q ∙ none)) separate

-- ---- files put over a part

pub kept_over : (task : Task) → list_any (λ (o : Output). is_own o.place) task.outputs ≡ false → (held files : Files) → is_sorted byte_order held ≡ true
    → IsRight task.outputs files → kept (put_over held files) ≡ put_over (kept held) files
kept_over task out held files sorted right =
    same_files _ _ (sorted-where is_kept (put_over held files) (sorted-put_over held files sorted)) (sorted-put_over (kept held) files (sorted-where is_kept held sorted))
    (λ q. at-where is_kept (put_over held files) q
    ∙ ap (λ o. cond (is_kept q) o None) (at-put_over held files q right.in_order)
    ∙ by (is_kept q) (file_at files q) (file_at held q) (beside q)
    ∙ ap (or_else (file_at files q)) (sym (at-where is_kept held q))
    ∙ sym (at-put_over (kept held) files q right.in_order))
  where
    beside : (q : Place) → is_kept q ≡ false → file_at files q ≡ None
    beside q own = right.beside q (at_none (is_output_of task q) refl)
      where
        at_none : (b : Bool) → is_output_of task q ≡ b → b ≡ false
        at_none true at = not_false (sym (kept_at task.outputs out q at) ∙ own)
        at_none false at = refl

    by : (b : Bool) (new old : Option Bytes) → (b ≡ false → new ≡ None) → cond b (or_else new old) None ≡ or_else new (cond b old None)
    by true new old h = refl
    by false new old h = sym (ap (λ o. or_else o None) (h refl))

-- ---- a run that ended well

module _ (kinds : Kinds) (task : Task) (out : list_any (λ (o : Output). is_own o.place) task.outputs ≡ false) (separate : reads_output_of task task ≡ false)
    (old taken : Files) (sorted : is_sorted byte_order taken ≡ true) (same : kept taken ≡ kept old)
    (files : Files) (makes : made_of kinds task.actions task.values (trees_of task taken) task.outputs ≡ Ok files)
    (ran : Files) (leaves : ran ≡ with_outputs task taken files) where
  right : IsRight task.outputs files
  right = made_of_is_right kinds task.outputs task.values (trees_of task taken) task.actions files makes

  -- the trees are those before the record was deleted
  pub trees_taken : trees_of task taken ≡ trees_of task (kept old)
  trees_taken = sym (trees_outside task taken) ∙ ap (trees_of task) same

  pub makes_outside : made_of kinds task.actions task.values (trees_of task (kept old)) task.outputs ≡ Ok files
  makes_outside = ap (λ (trees : Trees). made_of kinds task.actions task.values trees task.outputs) (sym trees_taken) ∙ makes

  -- what is left outside the tool's own
  pub leaves_outside : kept ran ≡ with_outputs task (kept old) files
  leaves_outside =
      ap kept leaves
      ∙ kept_over task out (rest_of task taken) files (sorted-where (λ q. not (is_output_of task q)) taken sorted) right
      ∙ ap (λ (held : Files). put_over held files) (swapped is_kept (λ q. not (is_output_of task q)) taken ∙ ap (rest_of task) same)

  sorted_outside : is_sorted byte_order (kept old) ≡ true
  sorted_outside = ap (is_sorted byte_order) (sym same) ∙ sorted-where is_kept taken sorted

  pub made_entry : IsMade kinds (entry_of task (with_outputs task (kept old) files))
  made_entry = entry_made kinds task (kept old) files sorted_outside right makes_outside (finds_none task separate)

  -- the files at the outputs are those of the entry
  pub files_entry : (entry_of task (with_outputs task (kept old) files)).files ≡ output_files task ran
  files_entry =
      ap (output_files task) (sym leaves_outside)
      ∙ narrowed (is_output_of task) is_kept (λ q at. kept_at task.outputs out q at) ran

  -- the trees of the entry are those that were read
  trees_after : trees_of task (with_outputs task (kept old) files) ≡ trees_of task (kept old)
  trees_after =
      sym (trees_same (λ q. not (is_output_of task q)) task (with_outputs task (kept old) files) (finds_none task separate))
      ∙ ap (trees_of task) same_rest
      ∙ trees_same (λ q. not (is_output_of task q)) task (kept old) (finds_none task separate)
    where
      sorted_rest : is_sorted byte_order (rest_of task (kept old)) ≡ true
      sorted_rest = sorted-where (λ q. not (is_output_of task q)) (kept old) sorted_outside

      by : (b : Bool) (n o : Option Bytes) → (b ≡ false → n ≡ None) → cond (not b) (or_else n (cond (not b) o None)) None ≡ cond (not b) o None
      by true n o h = refl
      by false n o h = ap (λ m. or_else m o) (h refl)

      same_rest : rest_of task (with_outputs task (kept old) files) ≡ rest_of task (kept old)
      same_rest =
          same_files _ _ (sorted-where (λ q. not (is_output_of task q)) (with_outputs task (kept old) files) (sorted-put_over (rest_of task (kept old)) files sorted_rest)) sorted_rest
          (λ q. at-where (λ q. not (is_output_of task q)) (with_outputs task (kept old) files) q
          ∙ ap (λ o. cond (not (is_output_of task q)) o None) (at-put_over (rest_of task (kept old)) files q right.in_order ∙ ap (or_else (file_at files q)) (at-where (λ p. not (is_output_of task p)) (kept old) q))
          ∙ by (is_output_of task q) (file_at files q) (file_at (kept old) q) (right.beside q)
          ∙ sym (at-where (λ q. not (is_output_of task q)) (kept old) q))

  -- the record that is stored is that of the entry
  pub said_entry : (inputs : List Prints) → inputs ≡ digests_in (trees_of task (kept old)) → IsSaidOf (run_now task inputs ran) (entry_of task (with_outputs task (kept old) files))
  said_entry inputs read =
      λ i. record {
        actions = task.actions;
        values = task.values;
        inputs = (read ∙ ap digests_in (sym trees_after)) i;
        outputs = outputs_are i;
      }
    where
      outputs_are : map (recorded_of ran) task.outputs ≡ map (output_record_of sha256 (output_files task (with_outputs task (kept old) files))) task.outputs
      outputs_are =
          sym (part_same (is_output_of task) ran task.outputs (λ q any. any))
          ∙ ap (λ (fs : Files). map (recorded_of fs) task.outputs) (sym files_entry)
