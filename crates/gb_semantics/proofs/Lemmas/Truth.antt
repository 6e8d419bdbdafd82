-- Memory that is true stays true, and true memory is what up-to-date tasks rest on.
use Rattle.std.specs.Prelude.{◌≡◌, Bool, true, false, not, cond, ◌||◌, List, [], ◌∷◌, map, Option, Some, None, Ok, bytes_eq}
use Rattle.std.specs.List.{list_any, list_all, filter, AllByRecursion}
use Rattle.std.specs.Ordering.{eq_by_cmp}
use Rattle.std.specs.FinMap.Entries.{is_sorted, by_order}
use Rattle.std.specs.declared.cmp.Ordering.TheVariants.{Less, Equal, Greater}
use Rattle.std.proofs.Common.{refl, sym, ap, subst, ◌∙◌}
use Rattle.gb_folder.specs.Files.{Place, Bytes, Files, is_empty, file_at, files_where, is_blocked, IsFolder}
use Rattle.gb_core.specs.Lists.{byte_order}
use Rattle.gb_core.specs.Place.{is_beneath}
use Rattle.gb_plan.specs.Task.{Path, is_output_of}
use Rattle.gb_plan.specs.declared.task.TaskDeclaration.{TaskDeclaration as Task}
use Rattle.gb_semantics.specs.Tree.{trees_of}
use Rattle.gb_semantics.specs.Kinds.{Kinds}
use Rattle.gb_semantics.specs.Made.{made_of, with_outputs, blocked_in, rest_of}
use Rattle.gb_semantics.specs.Memory.{Memory, Entry, recalled, remember, forget, entry_of, output_files}
use Rattle.gb_semantics.specs.TrueRecord.{IsMade}
use Rattle.gb_plan.proofs.Tests.{not_false, no_longer}
use Rattle.gb_semantics.proofs.Common.{none_some, some_same}
use Rattle.gb_semantics.proofs.Lemmas.Files.{at-where, at-put_over, sorted-where, sorted-put_over, same_files, or_else, left_of, right_of}
use Rattle.gb_semantics.proofs.Lemmas.Worked.{IsTrusted}
use Rattle.gb_semantics.proofs.Lemmas.Making.{IsRight}
use Rattle.gb_semantics.proofs.Lemmas.Reading.{AllUnobserved, trees_same}

abbrev pub AllMade : Kinds → Memory → Type 0
AllMade kinds memory = AllByRecursion (λ (entry : Path × Entry). IsMade kinds entry.1) memory

-- what is recalled is made
pub recalled_made : (kinds : Kinds) (memory : Memory) (path : Path) (entry : Entry) → AllMade kinds memory → recalled memory path ≡ Some entry → IsMade kinds entry
recalled_made kinds [] path entry all e = none_some e
recalled_made kinds (m ∷ memory) path entry all found =
    elim (eq_by_cmp byte_order path m.0) as (λ b. cond b (Some m.1) (recalled memory path) ≡ Some entry → IsMade kinds entry) [
      | true ↦ λ e. subst (IsMade kinds) (some_same e) all.0
      | false ↦ λ e. recalled_made kinds memory path entry all.1 e
    ] found

-- ---- Files at the outputs, and elsewhere

-- a folder is its files at the outputs, added to the others
split : (task : Task) (files : Files) → is_sorted byte_order files ≡ true → files ≡ with_outputs task files (output_files task files)
split task files sorted =
    same_files files (with_outputs task files (output_files task files)) sorted
    (sorted-put_over (files_where (λ q. not (is_output_of task q)) files) (output_files task files) (sorted-where (λ q. not (is_output_of task q)) files sorted))
    (λ q. whole (is_output_of task q) (file_at files q)
    ∙ sym (at-put_over (files_where (λ p. not (is_output_of task p)) files) (output_files task files) q (sorted-where (is_output_of task) files sorted)
    ∙ (λ i. or_else (at-where (is_output_of task) files q i) (at-where (λ p. not (is_output_of task p)) files q i))))
  where
    whole : (b : Bool) (o : Option Bytes) → o ≡ or_else (cond b o None) (cond (not b) o None)
    whole true (Some bytes) = refl
    whole true None = refl
    whole false o = refl

-- no file of a folder blocks another
pub filter_each : {X : Type 0} (t : X → Bool) (P : X → Type 0) (xs : List X) → AllByRecursion P xs → AllByRecursion P (filter t xs)
filter_each t P [] h = tt
filter_each t P (x ∷ xs) h = elim (t x) as (λ b. AllByRecursion P (cond b (x ∷ filter t xs) (filter t xs))) [ true ↦ (h.0, filter_each t P xs h.1) | false ↦ filter_each t P xs h.1 ]

pub each_of_all : {X : Type 0} (p : X → Bool) (xs : List X) → list_all p xs ≡ true → AllByRecursion (λ x. p x ≡ true) xs
each_of_all p [] e = tt
each_of_all p (x ∷ xs) e = (left_of (p x) (list_all p xs) e, each_of_all p xs (right_of (p x) (list_all p xs) e))

none_pass : {X Y : Type 0} (g : X → Y) (p : X → Bool) (xs : List X) → AllByRecursion (λ x. p x ≡ false) xs → is_empty (map g (filter p xs)) ≡ true
none_pass g p [] h = refl
none_pass g p (x ∷ xs) h = ap (λ b. is_empty (map g (cond b (x ∷ filter p xs) (filter p xs)))) h.0 ∙ none_pass g p xs h.1

pub fewer_block : (p : Place × Bytes → Bool) (t : Place × Bytes → Bool) (files : Files) → list_any p files ≡ false → list_any p (filter t files) ≡ false
fewer_block p t [] e = refl
fewer_block p t (f ∷ files) e =
    let rest = fewer_block p t files (right (p f) (list_any p files) e) in
    elim (t f) as (λ b. list_any p (cond b (f ∷ filter t files) (filter t files)) ≡ false) [ true ↦ ap (λ b. b || list_any p (filter t files)) (left (p f) (list_any p files) e) ∙ rest | false ↦ rest ]
  where
    left : (a b : Bool) → (a || b) ≡ false → a ≡ false
    left true b e = e
    left false b e = refl

    right : (a b : Bool) → (a || b) ≡ false → b ≡ false
    right true b e = not_false e
    right false b e = e

room_for : (task : Task) (files : Files) → IsFolder files → is_empty (blocked_in (rest_of task files) (output_files task files)) ≡ true
room_for task files folder =
    none_pass (λ (f : Place × Bytes). f.0) (λ f. is_blocked (files_where (λ q. not (is_output_of task q)) files) f.0) (output_files task files)
    (filter_each (λ f. is_output_of task f.0) (λ f. is_blocked (files_where (λ q. not (is_output_of task q)) files) f.0 ≡ false) files
    (each_blocked files (each_of_all (λ f. not (is_blocked files f.0)) files folder.none_blocked)))
  where
    each_blocked : (xs : Files) → AllByRecursion (λ (f : Place × Bytes). not (is_blocked files f.0) ≡ true) xs → AllByRecursion (λ (f : Place × Bytes). is_blocked (files_where (λ q. not (is_output_of task q)) files) f.0 ≡ false) xs
    each_blocked [] h = tt
    each_blocked (f ∷ xs) h = (fewer_block (λ file. is_beneath f.0 file.0 || is_beneath file.0 f.0) (λ g. not (is_output_of task g.0)) files (no_longer (is_blocked files f.0) h.0), each_blocked xs h.1)

-- ---- Trust

-- Where memory is true, a task that is current has at its outputs what its actions make, in every folder.
pub trusted_in : (kinds : Kinds) (memory : Memory) (task : Task) → AllMade kinds memory
    → IsTrusted kinds memory task
trusted_in kinds memory task all files folder e = record {
  made_files = output_files task files;
  makes = recalled_made kinds memory task.path (entry_of task files) all e;
  same = split task files folder.in_order;
  room = room_for task files folder;
}

-- ---- Truth

-- The entry of a run that ended well is true, if the task reads nothing at its own outputs.
pub entry_made : (kinds : Kinds) (task : Task) (files new : Files) → is_sorted byte_order files ≡ true → IsRight task.outputs new
    → made_of kinds task.actions task.values (trees_of task files) task.outputs ≡ Ok new
    → AllUnobserved (λ q. not (is_output_of task q)) task
    → IsMade kinds (entry_of task (with_outputs task files new))
entry_made kinds task files new sorted right makes unobserved =
    ap (λ trees. made_of kinds task.actions task.values trees task.outputs) same_trees ∙ makes ∙ ap Ok (sym only_new)
  where
    rest : Files
    rest = files_where (λ q. not (is_output_of task q)) files

    same_rest : files_where (λ q. not (is_output_of task q)) (with_outputs task files new) ≡ rest
    same_rest = same_files _ _ (sorted-where (λ q. not (is_output_of task q)) (with_outputs task files new) (sorted-put_over rest new (sorted-where (λ q. not (is_output_of task q)) files sorted))) (sorted-where (λ q. not (is_output_of task q)) files sorted)
        (λ q. at-where (λ q. not (is_output_of task q)) (with_outputs task files new) q
        ∙ ap (λ o. cond (not (is_output_of task q)) o None) (at-put_over rest new q right.in_order ∙ ap (or_else (file_at new q)) (at-where (λ p. not (is_output_of task p)) files q))
        ∙ outside (is_output_of task q) (file_at new q) (file_at files q) (right.beside q)
        ∙ sym (at-where (λ q. not (is_output_of task q)) files q))
      where
        outside : (b : Bool) (n o : Option Bytes) → (b ≡ false → n ≡ None) → cond (not b) (or_else n (cond (not b) o None)) None ≡ cond (not b) o None
        outside true n o h = refl
        outside false n o h = ap (λ m. or_else m o) (h refl)

    same_trees : trees_of task (with_outputs task files new) ≡ trees_of task files
    same_trees = sym (trees_same (λ q. not (is_output_of task q)) task (with_outputs task files new) unobserved) ∙ ap (trees_of task) same_rest ∙ trees_same (λ q. not (is_output_of task q)) task files unobserved

    only_new : output_files task (with_outputs task files new) ≡ new
    only_new = same_files _ _ (sorted-where (is_output_of task) (with_outputs task files new) (sorted-put_over rest new (sorted-where (λ q. not (is_output_of task q)) files sorted))) right.in_order
        (λ q. at-where (is_output_of task) (with_outputs task files new) q
        ∙ ap (λ o. cond (is_output_of task q) o None) (at-put_over rest new q right.in_order ∙ ap (or_else (file_at new q)) (at-where (λ p. not (is_output_of task p)) files q))
        ∙ inside (is_output_of task q) (file_at new q) (file_at files q) (right.beside q))
      where
        inside : (b : Bool) (n o : Option Bytes) → (b ≡ false → n ≡ None) → cond b (or_else n (cond (not b) o None)) None ≡ n
        inside true (Some bytes) o h = refl
        inside true None o h = refl
        inside false n o h = sym (h refl)

-- ---- Memory

pub forget_made : (kinds : Kinds) (memory : Memory) (path : Path) → AllMade kinds memory → AllMade kinds (forget memory path)
forget_made kinds memory path h = filter_each (λ (e : Path × Entry). not (bytes_eq e.0 path)) (λ (e : Path × Entry). IsMade kinds e.1) memory h

pub remember_made : (kinds : Kinds) (memory : Memory) (path : Path) (entry : Entry) → AllMade kinds memory → IsMade kinds entry → AllMade kinds (remember memory path entry)
remember_made kinds [] path entry h new = (new, tt)
remember_made kinds (m ∷ memory) path entry h new =
    elim (byte_order path m.0) as (λ o. AllMade kinds (by_order o ((path, entry) ∷ m ∷ memory) ((m.0, entry) ∷ memory) (m ∷ remember memory path entry))) [
      | Less ↦ (new, h)
      | Equal ↦ (new, h.1)
      | Greater ↦ (h.0, remember_made kinds memory path entry h.1 new)
    ]
