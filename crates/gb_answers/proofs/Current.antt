-- What is read at a task's outputs determines the files there; and what a task shows that is up to date.
use Rattle.std.specs.Prelude.{◌≡◌, ◌&&◌, Bool, true, false, cond, List, [], ◌∷◌, map, Option, Some, None, Ok, is_some, unwrap_or, IsTrue}
use Rattle.std.specs.List.{list_any}
use Rattle.std.specs.FinMap.Entries.{find, is_sorted}
use Rattle.std.specs.Cmp.Lexicographic.{bytes_decides}
use Rattle.std.proofs.Common.{refl, sym, ap, ◌∙◌, true≢false}
use Rattle.gb_core.specs.Lists.{byte_order}
use Rattle.gb_folder.specs.Files.{Bytes, Files, IsFolder, Place, are_placed, file_at, is_own}
use Rattle.gb_action.specs.Files.{Trees}
use Rattle.gb_action.specs.declared.output_files.OutputFiles.{OutputFiles}
use Rattle.gb_plan.specs.Task.{is_output_of}
use Rattle.gb_plan.specs.declared.task.Output.{Output}
use Rattle.gb_plan.specs.declared.task.TaskDeclaration.{TaskDeclaration as Task}
use Rattle.gb_semantics.specs.Kinds.{Kinds}
use Rattle.gb_semantics.specs.Made.{made_of}
use Rattle.gb_semantics.specs.Memory.{Memory, entry_of, output_files, recalled}
use Rattle.gb_semantics.specs.Tree.{trees_of}
use Rattle.gb_semantics.proofs.Lemmas.Files.{at-where, same_files, sorted-where}
use Rattle.gb_semantics.proofs.Lemmas.Making.{IsRight, made_of_is_right}
use Rattle.gb_semantics.proofs.Lemmas.Truth.{trusted_in}
use Rattle.gb_semantics.proofs.Lemmas.Worked.{Shows}
use Rattle.gb_records.proofs.Placed.{made_placed}
use Rattle.gb_label.specs.Reading.{observed_of}
use Rattle.gb_run.specs.Named.{existing, put}
use Rattle.gb_run.specs.Steps.{put_steps}
use Rattle.gb_run.proofs.Looks.{ties}
use Rattle.gb_run.proofs.Observed.{all_back}
use Rattle.gb_task.specs.Truth.{AreMadeOf, AreSeparate}

-- ---- up to date

-- a task whose outputs are what its actions make shows it
pub shows_made : (kinds : Kinds) (task : Task) (files : Files) → IsFolder files → made_of kinds task.actions task.values (trees_of task files) task.outputs ≡ Ok (output_files task files) → Shows kinds task files
shows_made kinds task files folder makes = trusted_in kinds memory task (makes, tt) files folder here
  where
    memory : Memory
    memory = (task.path, entry_of task files) ∷ []

    here : recalled ((task.path, entry_of task files) ∷ []) task.path ≡ Some (entry_of task files)
    here = ap (λ b. cond b (Some (entry_of task files)) None) (sym (ties task.path task.path) ∙ (bytes_decides task.path task.path).1 refl)

-- ---- what is read at outputs

-- files at places that are read alike at outputs are the same there
pub same_at : (task : Task) (a b : Files) → IsTrue (are_placed a) → IsTrue (are_placed b) → list_any (λ (output : Output). is_own output.place) task.outputs ≡ false
    → map (observed_of a) task.outputs ≡ map (observed_of b) task.outputs → (q : Place) → is_output_of task q ≡ true → file_at a q ≡ file_at b q
same_at task a b placed_a placed_b not_own same q is =
    by (is_output_of task q) (file_at a q) (file_at b q) is
    (sym (all_back a placed_a task.outputs not_own [] q) ∙ ap (λ (os : List OutputFiles). find byte_order q (put_steps [] (put (existing task.outputs os)))) same ∙ all_back b placed_b task.outputs not_own [] q)
  where
    by : (t : Bool) (x y : Option Bytes) → t ≡ true
        → cond (t && is_some x) (Some (Some (unwrap_or x []))) None ≡ cond (t && is_some y) (Some (Some (unwrap_or y []))) None → x ≡ y
    by false x y is e = absurd (true≢false (sym is))
    by true None None is e = refl
    by true None (Some y) is e = absurd (cc)
    by true (Some x) None is e = absurd (cc)
    by true (Some x) (Some y) is e = cc

-- so those at the outputs are the same files
pub outputs_same : (task : Task) (a b : Files) → is_sorted byte_order a ≡ true → is_sorted byte_order b ≡ true → IsTrue (are_placed a) → IsTrue (are_placed b)
    → list_any (λ (output : Output). is_own output.place) task.outputs ≡ false → map (observed_of a) task.outputs ≡ map (observed_of b) task.outputs → output_files task a ≡ output_files task b
outputs_same task a b sorted_a sorted_b placed_a placed_b not_own same =
    same_files (output_files task a) (output_files task b) (sorted-where (is_output_of task) a sorted_a) (sorted-where (is_output_of task) b sorted_b)
    (λ q. at-where (is_output_of task) a q ∙ by q (is_output_of task q) refl ∙ sym (at-where (is_output_of task) b q))
  where
    by : (q : Place) (t : Bool) → is_output_of task q ≡ t → cond t (file_at a q) None ≡ cond t (file_at b q) None
    by q true is = same_at task a b placed_a placed_b not_own same q is
    by q false is = refl

-- what is made is at outputs only
pub own_files : (task : Task) (made : Files) → IsRight task.outputs made → made ≡ output_files task made
own_files task made right =
    same_files made (output_files task made) right.in_order (sorted-where (is_output_of task) made right.in_order)
    (λ q. by q (is_output_of task q) refl ∙ sym (at-where (is_output_of task) made q))
  where
    by : (q : Place) (t : Bool) → is_output_of task q ≡ t → file_at made q ≡ cond t (file_at made q) None
    by q true is = refl
    by q false is = right.beside q is

-- what was read at the outputs was made, so what is there was
pub made_at : (kinds : Kinds) (task : Task) (trees : Trees) (observed : List OutputFiles) (files : Files) → IsFolder files → IsTrue (are_placed files) → trees ≡ trees_of task files
    → observed ≡ map (observed_of files) task.outputs → AreSeparate task → AreMadeOf kinds task trees observed
    → made_of kinds task.actions task.values (trees_of task files) task.outputs ≡ Ok (output_files task files)
made_at kinds task trees observed files folder placed trees_are observed_are lie of =
    let right = made_of_is_right kinds task.outputs task.values trees task.actions of.files of.made in
    ap (λ (ts : Trees). made_of kinds task.actions task.values ts task.outputs) (sym trees_are) ∙ of.made
    ∙ ap Ok (own_files task of.files right
    ∙ outputs_same task of.files files right.in_order folder.in_order (made_placed kinds task.outputs task.values trees task.actions of.files of.made) placed lie.not_own (sym of.exist ∙ observed_are))
