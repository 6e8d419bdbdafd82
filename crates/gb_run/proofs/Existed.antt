-- What a run made is what is at the outputs, given a rest with no file there.
use Rattle.std.specs.Prelude.{◌≡◌, Bool, true, false, not, cond, ◌||◌, List, [], ◌∷◌, Some, None}
use Rattle.std.specs.List.{list_any}
use Rattle.std.specs.Ordering.{eq_by_cmp}
use Rattle.std.specs.FinMap.Entries.{is_sorted}
use Rattle.std.proofs.Common.{refl, sym, ap, ◌∙◌}
use Rattle.gb_core.specs.Lists.{byte_order}
use Rattle.gb_core.specs.Place.{is_under}
use Rattle.gb_folder.specs.Files.{Place, Bytes, Files, file_at, files_under, files_where, is_own}
use Rattle.gb_action.specs.Files.{Tree, Trees}
use Rattle.gb_plan.specs.Task.{is_output_of}
use Rattle.gb_plan.specs.declared.task.Output.{Output}
use Rattle.gb_plan.specs.declared.task.TaskDeclaration.{TaskDeclaration as Task}
use Rattle.gb_plan.proofs.Tests.{none_left, none_right, not_true, or_right}
use Rattle.gb_tree.specs.Prints.{digests_of}
use Rattle.gb_tree.specs.Tree.{files_from}
use Rattle.gb_semantics.specs.Made.{put_over, rest_of}
use Rattle.gb_semantics.proofs.Lemmas.Ending.{ended_is_made}
use Rattle.gb_semantics.proofs.Lemmas.Files.{at-put_over, at-where, or_else, same_files, same_place, sorted-put_over, sorted-where}
use Rattle.gb_semantics.proofs.Lemmas.Making.{made_of_is_right}
use Rattle.gb_run.specs.RunInput.{whole_run, run_input}
use Rattle.gb_run.specs.Digests.{prints_at}
use Rattle.gb_run.specs.Laws.{MadeExists}
use Rattle.gb_run.proofs.Beside.{or_none}
use Rattle.gb_run.proofs.Digested.{files_from_is, from_root}
use Rattle.gb_run.proofs.Writer.{ok_same}

-- if no file of these passes, there is none at a place that does
none_at : (test : Place → Bool) (files : Files) (q : Place) → list_any (λ (file : Place × Bytes). test file.0) files ≡ false → test q ≡ true → file_at files q ≡ None
none_at test [] q none passes = refl
none_at test (file ∷ files) q none passes =
    ap (λ b. cond b (Some file.1) (file_at files q)) (by (eq_by_cmp byte_order q file.0) refl)
    ∙ none_at test files q (none_right (test file.0) (list_any (λ (f : Place × Bytes). test f.0) files) none) passes
  where
    by : (b : Bool) → eq_by_cmp byte_order q file.0 ≡ b → b ≡ false
    by true e = not_true (sym (none_left (test file.0) (list_any (λ (f : Place × Bytes). test f.0) files) none) ∙ ap test (sym (same_place q file.0 e)) ∙ passes)
    by false e = refl

-- the files outside the outputs are at none
none_beside : (test : Place → Bool) (files : Files) → list_any (λ (file : Place × Bytes). test file.0) (files_where (λ place. not (test place)) files) ≡ false
none_beside test [] = refl
none_beside test (file ∷ files) =
    elim (test file.0) as (λ b. test file.0 ≡ b → list_any (λ (f : Place × Bytes). test f.0) (cond (not b) (file ∷ files_where (λ place. not (test place)) files) (files_where (λ place. not (test place)) files)) ≡ false) [
      | true ↦ λ _. none_beside test files
      | false ↦ λ out. ap (λ b. b || list_any (λ (f : Place × Bytes). test f.0) (files_where (λ place. not (test place)) files)) out ∙ none_beside test files
    ] refl

module _ (test : Place → Bool) (rest held : Files) (rest_in_order : is_sorted byte_order rest ≡ true) (in_order : is_sorted byte_order held ≡ true)
    (none : list_any (λ (file : Place × Bytes). test file.0) rest ≡ false) where
  under_same : (root : Place) → ((q : Place) → is_under q root ≡ true → test q ≡ true) → files_under (put_over rest held) root ≡ files_under held root
  under_same root within =
      same_files (files_under (put_over rest held) root) (files_under held root)
      (sorted-where (λ q. is_under q root) (put_over rest held) (sorted-put_over rest held rest_in_order)) (sorted-where (λ q. is_under q root) held in_order)
      (λ q. at-where (λ p. is_under p root) (put_over rest held) q ∙ by q (is_under q root) refl ∙ sym (at-where (λ p. is_under p root) held q))
    where
      by : (q : Place) (b : Bool) → is_under q root ≡ b → cond b (file_at (put_over rest held) q) None ≡ cond b (file_at held q) None
      by q true under = at-put_over rest held q in_order ∙ ap (or_else (file_at held q)) (none_at test rest q none (within q under)) ∙ or_none (file_at held q)
      by q false under = refl

  from_same : (root : Place) → ((q : Place) → is_under q root ≡ true → test q ≡ true) → files_from (put_over rest held) root ≡ files_from held root
  from_same root within =
      files_from_is (put_over rest held) root (sorted-put_over rest held rest_in_order)
      ∙ ap (λ (fs : Files). cond (is_own root) [] (from_root root fs)) (under_same root within)
      ∙ sym (files_from_is held root in_order)

  -- files outside the outputs do not count
  pub prints_beside : (outputs : List Output) → ((q : Place) → list_any (λ (output : Output). is_under q output.place) outputs ≡ true → test q ≡ true)
      → prints_at outputs (put_over rest held) ≡ prints_at outputs held
  prints_beside [] within = refl
  prints_beside (output ∷ outputs) within =
      ap (λ (fs : Tree). (output.name, digests_of fs) ∷ prints_at outputs (put_over rest held))
      (from_same output.place (λ q under. within q (ap (λ b. b || list_any (λ (o : Output). is_under q o.place) outputs) under)))
      ∙ ap (λ (trees : Trees). (output.name, digests_of (files_from held output.place)) ∷ trees)
      (prints_beside outputs (λ q under. within q (or_right (is_under q output.place) (list_any (λ (o : Output). is_under q o.place) outputs) under)))

-- together with the rest of a folder
pub prints_of_made : (task : Task) (old held : Files) → is_sorted byte_order old ≡ true → is_sorted byte_order held ≡ true
    → prints_at task.outputs (put_over (rest_of task old) held) ≡ prints_at task.outputs held
prints_of_made task old held old_in_order in_order =
    prints_beside (is_output_of task) (rest_of task old) held (sorted-where (λ place. not (is_output_of task place)) old old_in_order) in_order
    (none_beside (is_output_of task) old) task.outputs (λ q under. under)

pub made_exists : MadeExists
made_exists kinds task trees changes old lines new held in_order well made =
    let input = run_input kinds task trees changes (rest_of task old) in
    let ended = ended_is_made kinds task.outputs task.values trees (rest_of task old) [] task.actions refl well.no_fault in
    let same : (whole_run input).held ≡ held = ok_same _ (whole_run input).held held ended.0 made in
    ap (prints_at task.outputs) (well.files ∙ ap (put_over (rest_of task old)) same)
    ∙ prints_of_made task old held in_order (made_of_is_right kinds task.outputs task.values trees task.actions held made).in_order
