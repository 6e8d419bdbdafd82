-- The readings of a task's properties and outputs, in their order.
use Rattle.std.proofs.Common.{◌≡◌, ◌<◌, ◌+◌, ◌++◌, ℕ, Bool, IsTrue, List, [], ◌∷◌, map, length, get_or, take, refl, sym, ap, ap₂, subst, ◌∙◌}
use Rattle.std.proofs.lemmas.List.{take_more, map-append}
use Rattle.std.proofs.lemmas.Slice.Zip.{all_zipped_more}
use Rattle.std.specs.List.{AllByRecursion, AllZip, zip}
use Rattle.gb_action.specs.Files.{Tree}
use Rattle.gb_action.specs.declared.output_files.Form.{Form}
use Rattle.gb_action.specs.declared.output_files.OutputFiles.{OutputFiles}
use Rattle.gb_folder.specs.Files.{Files, Place}
use Rattle.gb_history.specs.Record.{Prints, prints_in}
use Rattle.gb_semantics.specs.Tree.{tree_of}
use Rattle.gb_plan.specs.Task.{given_outputs}
use Rattle.gb_plan.specs.declared.task.FileProperty.{FileProperty}
use Rattle.gb_plan.specs.declared.task.Output.{Output}
use Rattle.gb_tree.proofs.Blame.{among_read}
use Rattle.gb_tree.specs.Reading.{IsObservedIn, digests_observed, entries_observed}
use Rattle.gb_tree.specs.Tree.{contents_at, is_among}
use Rattle.gb_tree.specs.declared.kept.ScannedFile.{ScannedFile}
use Rattle.gb_label.specs.Reading.{AreWithin, IsOutputObserved, IsPropertyObserved, Read, prints_read, prints_observed, recorded_of, observed_of}
use Rattle.gb_label.proofs.Loops.{map_more}

-- ---- One more

pub pair_is : {A B : Type 0} (p : A × B) (a : A) (b : B) → p.0 ≡ a → p.1 ≡ b → p ≡ (a, b)
pair_is {A} {B} p a b first second = ap₂ (λ (x : A) (y : B). let q : A × B = (x, y) in q) first second

pub mapped_more : {X Y : Type 0} (f : X → Y) (xs more : List X) (x : X) (ys next : List Y) (y : Y) → ys ≡ map f xs → next ≡ ys ++ y ∷ [] → more ≡ xs ++ x ∷ [] → y ≡ f x → next ≡ map f more
mapped_more f xs more x ys next y so_far added longer is =
    added ∙ ap₂ (λ zs z. zs ++ z ∷ []) so_far is ∙ sym (map-append f xs (x ∷ [])) ∙ sym (ap (map f) longer)

-- what is gathered is that of the first ones, and of one more
pub gathered_more : {X Y : Type 0} (f : X → Y) (ys next : List Y) (y : Y) (xs : List X) (i : ℕ) (x : X) → i < length xs → x ≡ get_or xs i x → next ≡ ys ++ y ∷ [] → y ≡ f x → ys ≡ map f (take i xs) → next ≡ map f (take (i + 1) xs)
gathered_more f ys next y xs i x less is added same so_far =
    added ∙ ap₂ (λ zs z. zs ++ z ∷ []) so_far same ∙ sym (map_more f xs i x less is)

pub observed_more : {A B : Type 0} (R : A → B → Type 0) (xs : List A) (ys next : List B) (i : ℕ) (x : A) (y : B) → i < length xs → x ≡ get_or xs i x → next ≡ ys ++ y ∷ [] → AllZip R (take i xs) ys → R x y → AllZip R (take (i + 1) xs) next
observed_more {A} {B} R xs ys next i x y less is added so_far holds =
    subst (λ (zs : List B). AllZip R (take (i + 1) xs) zs) (sym added)
    (subst (λ (zs : List A). AllZip R zs (ys ++ y ∷ [])) (ap (λ z. take i xs ++ z ∷ []) is ∙ sym (take_more xs i x less))
    (all_zipped_more R (take i xs) ys x y so_far holds))

-- the digests of what is read are those of the first ones, and of one more
pub prints_more : {X : Type 0} (reported : X → Prints) (readings next : List Read) (x : Read) (xs : List X) (i : ℕ) (y : X) → i < length xs → y ≡ get_or xs i y → next ≡ readings ++ x ∷ [] → x.0 ≡ (reported y).0 → digests_observed x.1 ≡ (reported y).1
    → prints_read readings ≡ map reported (take i xs) → prints_read next ≡ map reported (take (i + 1) xs)
prints_more reported readings next x xs i y less is added name digests so_far =
    gathered_more reported (prints_read readings) (prints_read next) (x.0, digests_observed x.1) xs i y less is
    (ap prints_read added ∙ map-append (λ (reading : Read). let found : Prints = (reading.0, digests_observed reading.1) in found) readings (x ∷ []))
    (pair_is (x.0, digests_observed x.1) (reported y).0 (reported y).1 name digests) so_far

-- ---- Where they are

entries_all : (P : Place → Type 0) (observed : List ScannedFile) → AllByRecursion (λ file. P file.place) observed → AllByRecursion (λ entry. P entry.1) (entries_observed observed)
entries_all P [] all = tt
entries_all P (file ∷ observed) all = (all.0, entries_all P observed all.1)

-- a place of one of the files passes the test that all of them pass
pub among_within : (test : Place → Bool) (observed : List ScannedFile) → AllByRecursion (λ file. IsTrue (test file.place)) observed → (place : Place) → IsTrue (is_among (entries_observed observed) place) → IsTrue (test place)
among_within test observed all place among =
    among_read (λ at. IsTrue (test at)) (entries_observed observed) (entries_observed observed) refl (entries_all (λ at. IsTrue (test at)) observed all) place among

-- ---- Inputs

-- the files of the reading are as they were read
abbrev pub Persists : Files → Read → Type 0
Persists files reading = AllByRecursion (IsObservedIn files) reading.1

-- the tree of the reading
abbrev pub tree_made : Files → Read → List ℕ × Tree
tree_made files reading = (reading.0, contents_at files (entries_observed reading.1))

pub inputs_exist : (files : Files) (properties : List FileProperty) (readings : List Read) → AllZip (IsPropertyObserved files) properties readings → AllByRecursion (Persists files) readings
inputs_exist files [] [] observed = tt
inputs_exist files [] (reading ∷ readings) observed = absurd observed
inputs_exist files (property ∷ properties) [] observed = tt
inputs_exist files (property ∷ properties) (reading ∷ readings) observed = (observed.0.each, inputs_exist files properties readings observed.1)

heads : {X : Type 0} (x y : X) (xs ys : List X) → x ∷ xs ≡ y ∷ ys → (x ≡ y) × (xs ≡ ys)
heads x y xs ys e = (cc, cc)

pub trees_made : (files : Files) (properties : List FileProperty) (readings : List Read) → map (λ reading. reading.0) readings ≡ map (λ property. property.name) properties → AllZip (IsPropertyObserved files) properties readings
    → map (tree_made files) readings ≡ map (λ property. (property.name, tree_of property files)) properties
trees_made files [] [] named observed = refl
trees_made files [] (reading ∷ readings) named observed = absurd observed
trees_made files (property ∷ properties) [] named observed = absurd observed
trees_made files (property ∷ properties) (reading ∷ readings) named observed =
    let names = heads reading.0 property.name (map (λ (r : Read). r.0) readings) (map (λ (p : FileProperty). p.name) properties) named in
    ap₂ (λ (tree : List ℕ × Tree) (trees : List (List ℕ × Tree)). tree ∷ trees)
    (pair_is (tree_made files reading) property.name (tree_of property files) names.0 (ap (contents_at files) observed.0.placed))
    (trees_made files properties readings names.1 observed.1)

-- ---- Outputs

-- the output with the files of its reading
abbrev pub output_made : Files → Output × Read → OutputFiles
output_made files pair = record { name = pair.0.name; form = pair.0.form; files = contents_at files (entries_observed pair.1.1) }

abbrev pub form_of : Output × Read → List ℕ × Form
form_of pair = (pair.0.name, pair.0.form)

pub output_is : (made : OutputFiles) (name : List ℕ) (form : Form) (files : Tree) → made.name ≡ name → made.form ≡ form → made.files ≡ files → made ≡ record { name = name; form = form; files = files }
output_is made name form files is_named is_formed is_filled =
    ap (λ (n : List ℕ). let one : OutputFiles = record { name = n; form = made.form; files = made.files } in one) is_named
    ∙ ap (λ (f : Form). let one : OutputFiles = record { name = name; form = f; files = made.files } in one) is_formed
    ∙ ap (λ (t : Tree). let one : OutputFiles = record { name = name; form = form; files = t } in one) is_filled

pub pairs_named : (outputs : List Output) (readings : List Read) → map (λ reading. reading.0) readings ≡ map (λ output. output.name) outputs → AllByRecursion (λ pair. pair.1.0 ≡ pair.0.name) (zip outputs readings)
pairs_named [] readings named = tt
pairs_named (output ∷ outputs) [] named = tt
pairs_named (output ∷ outputs) (reading ∷ readings) named =
    let names = heads reading.0 output.name (map (λ (r : Read). r.0) readings) (map (λ (o : Output). o.name) outputs) named in
    (names.0, pairs_named outputs readings names.1)

pub pairs_within : (test : Place → Bool) (outputs : List Output) (readings : List Read) → AreWithin test readings → AllByRecursion (λ pair. AllByRecursion (λ observed. IsTrue (test observed.place)) pair.1.1) (zip outputs readings)
pairs_within test [] readings within = tt
pairs_within test (output ∷ outputs) [] within = tt
pairs_within test (output ∷ outputs) (reading ∷ readings) within = (within.0, pairs_within test outputs readings within.1)

pub pairs_exist : (files : Files) (outputs : List Output) (readings : List Read) → AllZip (IsOutputObserved files) outputs readings → AllByRecursion (λ pair. Persists files pair.1) (zip outputs readings)
pairs_exist files [] [] observed = tt
pairs_exist files [] (reading ∷ readings) observed = absurd observed
pairs_exist files (output ∷ outputs) [] observed = tt
pairs_exist files (output ∷ outputs) (reading ∷ readings) observed = (observed.0.each, pairs_exist files outputs readings observed.1)

pub pairs_formed : (outputs : List Output) (readings : List Read) → map (λ reading. reading.0) readings ≡ map (λ output. output.name) outputs → map form_of (zip outputs readings) ≡ given_outputs outputs
pairs_formed [] readings named = refl
pairs_formed (output ∷ outputs) [] named = absurd (cc)
pairs_formed (output ∷ outputs) (reading ∷ readings) named =
    let names = heads reading.0 output.name (map (λ (r : Read). r.0) readings) (map (λ (o : Output). o.name) outputs) named in
    ap (λ (forms : List (List ℕ × Form)). (output.name, output.form) ∷ forms) (pairs_formed outputs readings names.1)

pub outputs_made : (files : Files) (outputs : List Output) (readings : List Read) → AllZip (IsOutputObserved files) outputs readings → map (output_made files) (zip outputs readings) ≡ map (observed_of files) outputs
outputs_made files [] [] observed = refl
outputs_made files [] (reading ∷ readings) observed = absurd observed
outputs_made files (output ∷ outputs) [] observed = absurd observed
outputs_made files (output ∷ outputs) (reading ∷ readings) observed =
    ap₂ (λ (one : OutputFiles) (more : List OutputFiles). one ∷ more)
    (ap (λ entries. let one : OutputFiles = record { name = output.name; form = output.form; files = contents_at files entries } in one) observed.0.placed)
    (outputs_made files outputs readings observed.1)

-- ---- What is recorded

-- the digests of the files at outputs are those that are recorded
pub prints_recorded : (files : Files) (outputs : List Output) → prints_observed (map (observed_of files) outputs) ≡ prints_in (map (recorded_of files) outputs)
prints_recorded files [] = refl
prints_recorded files (output ∷ outputs) = ap (λ (prints : List Prints). (recorded_of files output).prints ∷ prints) (prints_recorded files outputs)

-- ---- What may be remembered of them

-- the files of each output are as they were read
pub outputs_as_read : (files : Files) (outputs : List Output) (readings : List Read) → AllZip (IsOutputObserved files) outputs readings
    → AllByRecursion (λ reading. AllByRecursion (IsObservedIn files) reading.1) readings
outputs_as_read files [] [] all = tt
outputs_as_read files [] (reading ∷ readings) all = absurd all
outputs_as_read files (output ∷ outputs) [] all = absurd all
outputs_as_read files (output ∷ outputs) (reading ∷ readings) all = (all.0.each, outputs_as_read files outputs readings all.1)
