-- The files of a task's outputs that were read on the way to a state are those of the contents that it shows.
use Rattle.std.specs.Prelude.{◌≡◌, cond, false, List, [], ◌∷◌, map}
use Rattle.std.specs.List.{AllZip, list_any}
use Rattle.std.proofs.Common.{refl, sym, ap, ap₂, ◌∙◌, inl, inr}
use Rattle.gb_action.specs.declared.output_files.OutputFiles.{OutputFiles}
use Rattle.gb_folder.specs.Files.{Contents, Place, Tearing, is_own, places_under}
use Rattle.gb_label.proofs.Readings.{output_is}
use Rattle.gb_label.specs.Reading.{observed_of as observed_once}
use Rattle.gb_label.specs.ReadingAnswered.{AreOutputsRead, IsOutputRead}
use Rattle.gb_plan.proofs.Tests.{none_left, none_right, not_false}
use Rattle.gb_plan.specs.Task.{given_outputs}
use Rattle.gb_plan.specs.declared.task.Output.{Output}
use Rattle.gb_plan.specs.declared.task.TaskDeclaration.{TaskDeclaration as Task}
use Rattle.gb_run.specs.AskingChanges.{observed_of}
use Rattle.gb_tree.specs.Answered.{AreOutputEntriesListed}
use Rattle.gb_tree.specs.Tree.{Entries, contents_at, entries_from, files_from, output_entries}
use Rattle.gb_answers.proofs.Back.{AreAnswersOf, listed_in}
use Rattle.gb_answers.proofs.Trees.{has_tree, tree_has}
use Rattle.gb_folder.specs.Calls.{Device}

abbrev IsFilesOf : Contents → Output → OutputFiles → Type 0
IsFilesOf contents output observed = observed.files ≡ files_from contents.files output.place

heads : {X : Type 0} (x y : X) (xs ys : List X) → x ∷ xs ≡ y ∷ ys → (x ≡ y) × (xs ≡ ys)
heads x y xs ys e = (cc, cc)

parts : {X Y : Type 0} (p : X × Y) (x : X) (y : Y) → p ≡ (x, y) → (p.0 ≡ x) × (p.1 ≡ y)
parts {X} {Y} p x y e = (ap (λ (q : X × Y). q.0) e, ap (λ (q : X × Y). q.1) e)

outputs_named : (contents : Contents) (outputs : List Output) (observed : List OutputFiles) → AllZip (IsFilesOf contents) outputs observed
    → map (λ output. (output.name, output.form)) observed ≡ given_outputs outputs → observed ≡ map (observed_of contents.files) outputs
outputs_named contents [] [] all named = refl
outputs_named contents [] (one ∷ observed) all named = absurd all
outputs_named contents (output ∷ outputs) [] all named = absurd all
outputs_named contents (output ∷ outputs) (one ∷ observed) all named =
    let both = heads (one.name, one.form) (output.name, output.form) (map (λ (o : OutputFiles). (o.name, o.form)) observed) (given_outputs outputs) named in
    let here = parts (one.name, one.form) output.name output.form both.0 in
    ap₂ (λ (first : OutputFiles) (more : List OutputFiles). first ∷ more)
    (output_is one output.name output.form (files_from contents.files output.place) here.0 here.1 all.0)
    (outputs_named contents outputs observed all.1 both.1)

module _ {F : Type 0} (device : Device F) (leaves : Tearing) (Shows : F → Contents → Type 0)
    (are : AreAnswersOf device.allowed leaves Shows) (old new : F) (contents : Contents) (shows : Shows new contents) where
  -- the entries of an output outside of the tool's own folder that were listed are those of the output
  pub has_output_entries : (root : Place) (entries : Entries) → is_own root ≡ false → AreOutputEntriesListed device old new root entries
      → entries ≡ output_entries contents.files root
  has_output_entries root entries outside (inl own) = not_false (sym own.0 ∙ outside)
  has_output_entries root entries outside (inr were) =
      were.2 ∙ ap (entries_from root) (listed_in device leaves Shows are old new contents shows root were.0 were.1).0
      ∙ ap (λ b. cond b [] (entries_from root (places_under contents.files root))) (sym outside)

  output_is_read : (output : Output) (observed : OutputFiles) → is_own output.place ≡ false → IsOutputRead device old new output observed
      → IsFilesOf contents output observed
  output_is_read output observed outside was =
      tree_has contents was.0 observed.files (has_tree device leaves Shows are old new contents shows was.0 observed.files was.2)
      ∙ ap (contents_at contents.files) (has_output_entries output.place was.0 outside was.1)

  all_read : (outputs : List Output) (observed : List OutputFiles) → list_any (λ (output : Output). is_own output.place) outputs ≡ false
      → AllZip (IsOutputRead device old new) outputs observed → AllZip (IsFilesOf contents) outputs observed
  all_read [] [] outside all = tt
  all_read [] (one ∷ observed) outside all = absurd all
  all_read (output ∷ outputs) [] outside all = absurd all
  all_read (output ∷ outputs) (one ∷ observed) outside all = (
    output_is_read output one (none_left (is_own output.place) (list_any (λ (o : Output). is_own o.place) outputs) outside) all.0,
    all_read outputs observed (none_right (is_own output.place) (list_any (λ (o : Output). is_own o.place) outputs) outside) all.1,
  )

  -- the outputs that were read are those of the contents, if none is in the tool's own folder
  pub outputs_are : (task : Task) (observed : List OutputFiles) → AreOutputsRead device old new task observed
      → map (λ output. (output.name, output.form)) observed ≡ given_outputs task.outputs → list_any (λ output. is_own output.place) task.outputs ≡ false
      → observed ≡ map (observed_of contents.files) task.outputs
  outputs_are task observed were named outside = outputs_named contents task.outputs observed (all_read task.outputs observed outside were) named

  -- the same, as an execution words it
  pub outputs_are_once : (task : Task) (observed : List OutputFiles) → AreOutputsRead device old new task observed
      → map (λ output. (output.name, output.form)) observed ≡ given_outputs task.outputs → list_any (λ output. is_own output.place) task.outputs ≡ false
      → observed ≡ map (observed_once contents.files) task.outputs
  outputs_are_once task observed were named outside = outputs_are task observed were named outside
