-- What was answered of a task's files on a part of the way was so on all of it.
use Rattle.std.proofs.Common.{arith, ◌≡◌, ◌<◌, ◌++◌, ℕ, zero, suc, List, [], ◌∷◌, length, get_or, take, refl, sym, ap, subst}
use Rattle.std.specs.List.{AllByRecursion, AllZip, zip}
use Rattle.gb_action.specs.Files.{Trees}
use Rattle.gb_action.specs.declared.output_files.OutputFiles.{OutputFiles}
use Rattle.gb_folder.proofs.Asked.{requests_nothing, requests_then}
use Rattle.gb_folder.specs.Calls.{Requests, no_change}
use Rattle.gb_folder.specs.Files.{Files}
use Rattle.gb_plan.specs.declared.task.FileProperty.{FileProperty}
use Rattle.gb_plan.specs.declared.task.Output.{Output}
use Rattle.gb_plan.specs.declared.task.TaskDeclaration.{TaskDeclaration as Task}
use Rattle.gb_tree.proofs.Answering.{all_observed_longer, all_zip_more, entries_longer, output_entries_longer, tree_longer}
use Rattle.gb_tree.specs.Answered.{IsTreeRead, WereObserved}
use Rattle.gb_tree.specs.Reading.{entries_observed}
use Rattle.gb_label.specs.ReadingAnswered.{AreInputsAnswered, AreInputsRead, AreOutputsAnswered, AreOutputsRead, IsInputAnswered, IsInputRead, IsOutputAnswered, IsOutputRead}
use Rattle.gb_label.specs.Reading.{Read}
use Rattle.gb_folder.specs.Calls.{Device}

-- ---- Lists in parallel

pub as_many : {A B : Type 0} (R : A → B → Type 0) (xs : List A) (ys : List B) → AllZip R xs ys → length xs ≡ length ys
as_many R [] [] all = refl
as_many R [] (y ∷ ys) all = absurd all
as_many R (x ∷ xs) [] all = absurd all
as_many R (x ∷ xs) (y ∷ ys) all = ap suc (as_many R xs ys all.1)

-- what is made of the next one comes after what is made of those before it
pub next_made : {A B C : Type 0} (R : A → B → Type 0) (S : A → C → Type 0) (xs : List A) (ys : List B) (made : List C) (i : ℕ) (y : B) (z : C) → i < length ys
    → y ≡ get_or ys i y → AllZip R xs ys → ((x : A) → R x y → S x z) → AllZip S (take i xs) made → AllZip S (take (suc i) xs) (made ++ z ∷ [])
next_made R S [] [] made i y z less is all step so_far = absurd (omega (arith, less))
next_made R S [] (b ∷ ys) made i y z less is all step so_far = absurd all
next_made R S (x ∷ xs) [] made i y z less is all step so_far = absurd all
next_made R S (x ∷ xs) (b ∷ ys) [] zero y z less is all step so_far = (step x (subst (R x) (sym is) all.0), tt)
next_made R S (x ∷ xs) (b ∷ ys) (c ∷ made) zero y z less is all step so_far = absurd so_far
next_made R S (x ∷ xs) (b ∷ ys) [] (suc i) y z less is all step so_far = absurd so_far
next_made R S (x ∷ xs) (b ∷ ys) (c ∷ made) (suc i) y z less is all step so_far =
    (so_far.0, next_made R S xs ys made i y z (omega (arith, less)) is all.1 step so_far.1)

pub pairs_all : {A B : Type 0} (R : A → B → Type 0) (xs : List A) (ys : List B) → AllZip R xs ys → AllByRecursion (λ pair. R pair.0 pair.1) (zip xs ys)
pairs_all R [] ys all = tt
pairs_all R (x ∷ xs) [] all = absurd all
pairs_all R (x ∷ xs) (y ∷ ys) all = (all.0, pairs_all R xs ys all.1)

-- what is made of the pairs is made of the first of each
pub firsts_made : {A B C : Type 0} (R : A → B → Type 0) (S : A → C → Type 0) (xs : List A) (ys : List B) (made : List C) → AllZip R xs ys
    → AllZip (λ pair z. S pair.0 z) (zip xs ys) made → AllZip S xs made
firsts_made R S [] ys [] all so_far = tt
firsts_made R S [] ys (z ∷ made) all so_far = absurd so_far
firsts_made R S (x ∷ xs) [] made all so_far = absurd all
firsts_made R S (x ∷ xs) (y ∷ ys) [] all so_far = absurd so_far
firsts_made R S (x ∷ xs) (y ∷ ys) (z ∷ made) all so_far = (so_far.0, firsts_made R S xs ys made all.1 so_far.1)

module _ {F : Type 0} {device : Device F} where
  -- ---- One property, and one output

  pub input_longer : {first old new end : F} → Requests device no_change first old → Requests device no_change new end
      → (property : FileProperty) (reading : Read) → IsInputAnswered device old new property reading
      → IsInputAnswered device first end property reading
  input_longer before following property reading was = (
    entries_longer before following property.naming property.roots property.include property.exclude (entries_observed reading.1) was.0,
    all_observed_longer before following reading.1 was.1,
  )

  pub output_longer : {first old new end : F} → Requests device no_change first old → Requests device no_change new end
      → (output : Output) (reading : Read) → IsOutputAnswered device old new output reading
      → IsOutputAnswered device first end output reading
  output_longer before following output reading was =
      (output_entries_longer before following output.place (entries_observed reading.1) was.0, all_observed_longer before following reading.1 was.1)

  pub tree_read_longer : {first old new end : F} → Requests device no_change first old → Requests device no_change new end
      → (property : FileProperty) (tree : List ℕ × Files) → IsInputRead device old new property tree
      → IsInputRead device first end property tree
  tree_read_longer before following property tree was = (
    was.0,
    entries_longer before following property.naming property.roots property.include property.exclude was.0 was.1,
    tree_longer before following was.0 tree.1 was.2,
  )

  pub files_read_longer : {first old new end : F} → Requests device no_change first old → Requests device no_change new end
      → (output : Output) (observed : OutputFiles) → IsOutputRead device old new output observed
      → IsOutputRead device first end output observed
  files_read_longer before following output observed was = (
    was.0,
    output_entries_longer before following output.place was.0 was.1,
    tree_longer before following was.0 observed.files was.2,
  )

  -- one that was answered, and is completed later
  pub input_completed : {first old mid new : F} → Requests device no_change old mid → Requests device no_change mid new
      → (property : FileProperty) (reading : Read) (tree : List ℕ × Files)
      → (WereObserved device first mid reading.1 → IsTreeRead device first new (entries_observed reading.1) tree.1)
      → IsInputAnswered device first old property reading → IsInputRead device first new property tree
  input_completed {first = first} before now property reading tree completes was = (
    entries_observed reading.1,
    entries_longer (requests_nothing first) (requests_then before now) property.naming property.roots property.include property.exclude (entries_observed reading.1) was.0,
    completes (all_observed_longer (requests_nothing first) before reading.1 was.1),
  )

  pub output_completed : {first old mid new : F} → Requests device no_change old mid → Requests device no_change mid new
      → (output : Output) (reading : Read) (observed : OutputFiles)
      → (WereObserved device first mid reading.1 → IsTreeRead device first new (entries_observed reading.1) observed.files)
      → IsOutputAnswered device first old output reading → IsOutputRead device first new output observed
  output_completed {first = first} before now output reading observed completes was = (
    entries_observed reading.1,
    output_entries_longer (requests_nothing first) (requests_then before now) output.place (entries_observed reading.1) was.0,
    completes (all_observed_longer (requests_nothing first) before reading.1 was.1),
  )

  -- ---- All of a task

  pub inputs_longer : {first old new end : F} → Requests device no_change first old → Requests device no_change new end
      → (task : Task) (readings : List Read) → AreInputsAnswered device old new task readings
      → AreInputsAnswered device first end task readings
  inputs_longer {first = first} {old = old} {new = new} {end = end} before following task readings were =
      all_zip_more (IsInputAnswered device old new) (IsInputAnswered device first end) (input_longer before following)
      task.files readings were

  pub outputs_longer : {first old new end : F} → Requests device no_change first old → Requests device no_change new end
      → (task : Task) (readings : List Read) → AreOutputsAnswered device old new task readings
      → AreOutputsAnswered device first end task readings
  outputs_longer {first = first} {old = old} {new = new} {end = end} before following task readings were =
      all_zip_more (IsOutputAnswered device old new) (IsOutputAnswered device first end) (output_longer before following)
      task.outputs readings were

  pub trees_longer : {first old new end : F} → Requests device no_change first old → Requests device no_change new end
      → (task : Task) (trees : Trees) → AreInputsRead device old new task trees
      → AreInputsRead device first end task trees
  trees_longer {first = first} {old = old} {new = new} {end = end} before following task trees were =
      all_zip_more (IsInputRead device old new) (IsInputRead device first end) (tree_read_longer before following)
      task.files trees were

  pub files_longer : {first old new end : F} → Requests device no_change first old → Requests device no_change new end
      → (task : Task) (observed : List OutputFiles) → AreOutputsRead device old new task observed
      → AreOutputsRead device first end task observed
  files_longer {first = first} {old = old} {new = new} {end = end} before following task observed were =
      all_zip_more (IsOutputRead device old new) (IsOutputRead device first end) (files_read_longer before following)
      task.outputs observed were

-- ---- What may be remembered of them

-- the files of each output were read
pub outputs_were_read : {F : Type 0} (device : Device F) (old new : F) (outputs : List Output) (readings : List Read)
    → AllZip (IsOutputAnswered device old new) outputs readings → AllByRecursion (λ reading. WereObserved device old new reading.1) readings
outputs_were_read device old new [] [] all = tt
outputs_were_read device old new [] (reading ∷ readings) all = absurd all
outputs_were_read device old new (output ∷ outputs) [] all = absurd all
outputs_were_read device old new (output ∷ outputs) (reading ∷ readings) all = (all.0.1, outputs_were_read device old new outputs readings all.1)
