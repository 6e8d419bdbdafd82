-- The files of a folder at a task's outputs, and their digests as they are given output by output.
use Rattle.std.specs.Prelude.{ℕ, ◌≡◌, ◌++◌, ◌&&◌, ◌||◌, Bool, true, false, not, cond, List, [], ◌∷◌, map, Option, Some, None, is_some, option_map, unwrap_or, if◌then◌else◌}
use Rattle.std.specs.List.{AllByRecursion, list_any}
use Rattle.std.specs.Ordering.{eq_by_cmp}
use Rattle.std.specs.FinMap.Entries.{find, is_sorted}
use Rattle.std.proofs.Common.{refl, sym, ap, ◌∙◌}
use Rattle.gb_core.specs.Lists.{byte_order}
use Rattle.gb_core.specs.Place.{beneath, is_place, is_under}
use Rattle.gb_folder.specs.Files.{Place, Bytes, Files, are_placed, file_at, files_where, is_own, places_under, with_file}
use Rattle.gb_action.specs.Files.{Tree, Trees}
use Rattle.gb_action.specs.declared.output_files.OutputFiles.{OutputFiles}
use Rattle.gb_plan.specs.Task.{is_output_of}
use Rattle.gb_plan.specs.declared.task.Output.{Output}
use Rattle.gb_plan.specs.declared.task.TaskDeclaration.{TaskDeclaration as Task}
use Rattle.gb_plan.proofs.Tests.{filter_append, not_false, or_right}
use Rattle.gb_tree.specs.Prints.{digests_of}
use Rattle.gb_tree.specs.Tree.{contents_at, entries_from, files_from, path_from}
use Rattle.gb_tree.proofs.Digests.{sorted_digests}
use Rattle.gb_semantics.specs.Made.{put_over, rest_of}
use Rattle.gb_semantics.specs.Memory.{output_files}
use Rattle.gb_semantics.proofs.Lemmas.Files.{at-where, at-with, same_files, sorted-put_over, sorted-where}
use Rattle.gb_run.proofs.Digested.{files_from_is, from_digests, from_root, where_digests}
use Rattle.gb_run.specs.AskingChanges.{observed_of}
use Rattle.gb_run.specs.ChangeDigests.{at_places, digests_at}
use Rattle.gb_run.specs.Named.{put, existing}
use Rattle.gb_run.specs.Steps.{Step, put_steps}
use Rattle.gb_run.proofs.Looks.{at_put}
use Rattle.gb_run.proofs.Observed.{all_back, placed_all, under_all, whole}

-- ---- the files at outputs alone

-- of the files that pass a test, those that pass a narrower one
pub narrowed : (inner wide : Place → Bool) → ((q : Place) → inner q ≡ true → wide q ≡ true) → (files : Files) → files_where inner (files_where wide files) ≡ files_where inner files
narrowed inner wide within [] = refl
narrowed inner wide within (f ∷ files) =
    let rest = narrowed inner wide within files in
    elim (wide f.0) as (λ b. wide f.0 ≡ b → files_where inner (cond b (f ∷ files_where wide files) (files_where wide files)) ≡ cond (inner f.0) (f ∷ files_where inner files) (files_where inner files)) [
      | true ↦ λ _. ap (λ (xs : Files). cond (inner f.0) (f ∷ xs) xs) rest
      | false ↦ λ out. elim (inner f.0) as (λ b. inner f.0 ≡ b → files_where inner (files_where wide files) ≡ cond b (f ∷ files_where inner files) (files_where inner files)) [
        | true ↦ λ e. not_false (sym (within f.0 e) ∙ out)
        | false ↦ λ _. rest
      ] refl
    ] refl

-- those that pass and do not
none_both : (test : Place → Bool) (files : Files) → files_where (λ q. not (test q)) (files_where test files) ≡ []
none_both test [] = refl
none_both test (f ∷ files) =
    elim (test f.0) as (λ b. test f.0 ≡ b → files_where (λ q. not (test q)) (cond b (f ∷ files_where test files) (files_where test files)) ≡ []) [
      | true ↦ λ is. ap (λ b. cond (not b) (f ∷ files_where (λ q. not (test q)) (files_where test files)) (files_where (λ q. not (test q)) (files_where test files))) is ∙ none_both test files
      | false ↦ λ _. none_both test files
    ] refl

-- the files at a task's outputs have no rest
pub no_rest : (task : Task) (files : Files) → rest_of task (output_files task files) ≡ []
no_rest task files = none_both (is_output_of task) files

pub owned_again : (task : Task) (files : Files) → output_files task (output_files task files) ≡ output_files task files
owned_again task files = narrowed (is_output_of task) (is_output_of task) (λ q e. e) files

module _ (test : Place → Bool) (files : Files) (sorted : is_sorted byte_order files ≡ true) where
  owned_from : (root : Place) → ((q : Place) → is_under q root ≡ true → test q ≡ true) → files_from (files_where test files) root ≡ files_from files root
  owned_from root within =
      files_from_is (files_where test files) root (sorted-where test files sorted)
      ∙ ap (λ (fs : Files). cond (is_own root) [] (from_root root fs)) (narrowed (λ q. is_under q root) test within files)
      ∙ sym (files_from_is files root sorted)

  -- so outputs are read as they are in the whole folder
  pub owned_observed : (outputs : List Output) → ((q : Place) → list_any (λ (output : Output). is_under q output.place) outputs ≡ true → test q ≡ true)
      → map (observed_of (files_where test files)) outputs ≡ map (observed_of files) outputs
  owned_observed [] within = refl
  owned_observed (output ∷ outputs) within =
      ap (λ (tree : Tree). let observed : OutputFiles = record { name = output.name; form = output.form; files = tree } in observed ∷ map (observed_of (files_where test files)) outputs)
      (owned_from output.place (λ q under. within q (ap (λ b. b || list_any (λ (o : Output). is_under q o.place) outputs) under)))
      ∙ ap (λ (observed : List OutputFiles). observed_of files output ∷ observed)
      (owned_observed outputs (λ q under. within q (or_right (is_under q output.place) (list_any (λ (o : Output). is_under q o.place) outputs) under)))

-- ---- digests, output by output

-- what is read of an output, in digests
abbrev pub print_of : OutputFiles → List ℕ × Tree
print_of output = (output.name, digests_of output.files)

pub placed_digests : (files : Files) → are_placed (digests_of files) ≡ are_placed files
placed_digests [] = refl
placed_digests (f ∷ files) = ap (λ b. is_place f.0 && b) (placed_digests files)

-- the digests of outputs as they are read, put back under their places
pub observed_digests : (files : Files) → is_sorted byte_order files ≡ true → (outputs : List Output)
    → digests_at outputs (map print_of (map (observed_of files) outputs)) ≡ existing outputs (map (observed_of (digests_of files)) outputs)
observed_digests files sorted [] = refl
observed_digests files sorted (output ∷ outputs) =
    ap (λ (tree : Tree). map (λ (file : Place × Bytes). (beneath output.place file.0, file.1)) tree ++ digests_at outputs (map print_of (map (observed_of files) outputs))) (sym (from_digests files output.place sorted))
    ∙ ap (λ (fs : Files). map (λ (file : Place × Bytes). (beneath output.place file.0, file.1)) (files_from (digests_of files) output.place) ++ fs) (observed_digests files sorted outputs)

module _ (files : Files) (placed : are_placed files ≡ true) where
  back_placed : (root : Place) (places : List Place) → AllByRecursion (λ p. is_under p root ≡ true) places → AllByRecursion (λ p. is_place p ≡ true) places
      → at_places (map (λ (file : Place × Bytes). (beneath root file.0, file.1)) (contents_at files (entries_from root places))) ≡ map (λ (file : Place × Bytes). (beneath root file.0, file.1)) (contents_at files (entries_from root places))
  back_placed root [] under good = refl
  back_placed root (p ∷ places) under good =
      let rest = map (λ (file : Place × Bytes). (beneath root file.0, file.1)) (contents_at files (entries_from root places)) in
      let first : Place × Bytes = (beneath root (path_from root p), unwrap_or (file_at files p) []) in
      ap (λ b. cond b (first ∷ at_places rest) (at_places rest)) (ap is_place (whole root p under.0 good.0) ∙ good.0)
      ∙ ap (λ (fs : Files). first ∷ fs) (back_placed root places under.1 good.1)

  one_placed : (root : Place) → at_places (map (λ (file : Place × Bytes). (beneath root file.0, file.1)) (files_from files root)) ≡ map (λ (file : Place × Bytes). (beneath root file.0, file.1)) (files_from files root)
  one_placed root =
      elim (is_own root) as (λ own. at_places (map (λ (file : Place × Bytes). (beneath root file.0, file.1)) (contents_at files (if own then [] else entries_from root (places_under files root))))
      ≡ map (λ (file : Place × Bytes). (beneath root file.0, file.1)) (contents_at files (if own then [] else entries_from root (places_under files root)))) [
        | true ↦ refl
        | false ↦ back_placed root (places_under files root) (under_all files root files) (placed_all files root files placed)
      ]

  -- what is at outputs is at places
  pub all_placed : (outputs : List Output) → at_places (existing outputs (map (observed_of files) outputs)) ≡ existing outputs (map (observed_of files) outputs)
  all_placed [] = refl
  all_placed (output ∷ outputs) =
      filter_append (λ (file : Place × Bytes). is_place file.0) (map (λ (file : Place × Bytes). (beneath output.place file.0, file.1)) (files_from files output.place)) (existing outputs (map (observed_of files) outputs))
      ∙ ap (λ (fs : List (Place × Bytes)). fs ++ at_places (existing outputs (map (observed_of files) outputs))) (one_placed output.place)
      ∙ ap (λ (fs : List (Place × Bytes)). map (λ (file : Place × Bytes). (beneath output.place file.0, file.1)) (files_from files output.place) ++ fs) (all_placed outputs)

-- files put one after another are what their steps leave
as_steps : (steps : List Step) (held : Files) (files : List (Place × Bytes)) → ((q : Place) → find byte_order q steps ≡ option_map (λ b. Some b) (file_at held q))
    → (q : Place) → find byte_order q (put_steps steps (put files)) ≡ option_map (λ b. Some b) (file_at (put_over held files) q)
as_steps steps held [] same q = same q
as_steps steps held (f ∷ files) same q =
    as_steps (put_steps steps ((f.0, Some f.1) ∷ [])) (with_file held f.0 f.1) files
    (λ p. at_put steps (f.0, Some f.1) p ∙ ap (cond (eq_by_cmp byte_order p f.0) (Some (Some f.1))) (same p) ∙ by p (eq_by_cmp byte_order p f.0)
    ∙ ap (option_map (λ b. Some b)) (sym (at-with held f.0 f.1 p))) q
  where
    by : (p : Place) (b : Bool) → cond b (Some (Some f.1)) (option_map (λ x. Some x) (file_at held p)) ≡ option_map (λ x. Some x) (cond b (Some f.1) (file_at held p))
    by p true = refl
    by p false = refl

only_some : (o w : Option Bytes) (b : Bool) → option_map (λ x. Some x) o ≡ cond (b && is_some w) (Some (Some (unwrap_or w []))) None → o ≡ cond b w None
only_some None None true e = refl
only_some None None false e = refl
only_some None (Some x) true e = absurd (let q = e in (cc))
only_some None (Some x) false e = refl
only_some (Some y) None true e = absurd (let q = e in (cc))
only_some (Some y) None false e = absurd (let q = e in (cc))
only_some (Some y) (Some x) true e = let q = e in (cc)
only_some (Some y) (Some x) false e = absurd (let q = e in (cc))

-- the files at outputs, put back under their places
pub put_back : (task : Task) (files : Files) → is_sorted byte_order files ≡ true → are_placed files ≡ true → list_any (λ (output : Output). is_own output.place) task.outputs ≡ false
    → put_over [] (existing task.outputs (map (observed_of files) task.outputs)) ≡ output_files task files
put_back task files sorted placed out =
    let these = existing task.outputs (map (observed_of files) task.outputs) in
    same_files (put_over [] these) (output_files task files) (sorted-put_over [] these refl) (sorted-where (is_output_of task) files sorted)
    (λ q.
    only_some (file_at (put_over [] these) q) (file_at files q) (is_output_of task q) (sym (as_steps [] [] these (λ p. refl) q) ∙ all_back files placed task.outputs out [] q)
    ∙ sym (at-where (is_output_of task) files q))

-- the digests from before are those of the files at the outputs
pub digests_owned : (task : Task) (files : Files) (outputs : List OutputFiles) (existed : Trees) → is_sorted byte_order files ≡ true → are_placed files ≡ true
    → list_any (λ (output : Output). is_own output.place) task.outputs ≡ false → outputs ≡ map (observed_of files) task.outputs → existed ≡ map print_of outputs
    → put_over [] (at_places (digests_at task.outputs existed)) ≡ digests_of (output_files task files)
digests_owned task files outputs existed sorted placed out exists prints =
    let digests_placed = placed_digests files ∙ placed in
    ap (λ (trees : Trees). put_over [] (at_places (digests_at task.outputs trees))) (prints ∙ ap (map print_of) exists)
    ∙ ap (λ (fs : Files). put_over [] (at_places fs)) (observed_digests files sorted task.outputs)
    ∙ ap (put_over []) (all_placed (digests_of files) digests_placed task.outputs)
    ∙ put_back task (digests_of files) (sorted_digests files ∙ sorted) digests_placed out
    ∙ sym (where_digests (is_output_of task) files)
