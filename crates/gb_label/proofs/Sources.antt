-- Whether a task has a source, by the prints of its inputs.
use Rattle.std.specs.Prelude.{ℕ, zero, suc, ◌≡◌, ◌<◌, ◌≤◌, ◌+◌, ◌&&◌, ◌||◌, not, Bool, true, false, List, [], ◌∷◌, map, length, take, get_or}
use Rattle.std.specs.List.{filter, list_all, list_any, zip}
use Rattle.std.proofs.Common.{refl, sym, ap, ◌∙◌, arith, cond}
use Rattle.std.proofs.lemmas.List.{take_all}
use Rattle.gb_action.specs.Files.{Tree}
use Rattle.gb_folder.specs.Files.{Files, is_empty}
use Rattle.gb_semantics.specs.Tree.{has_no_source, tree_of, trees_of}
use Rattle.gb_plan.specs.declared.task.FileProperty.{FileProperty}
use Rattle.gb_plan.specs.declared.task.TaskDeclaration.{TaskDeclaration as Task}
use Rattle.gb_tree.specs.Prints.{digests_of}
use Rattle.gb_tree.specs.Reading.{digests_observed}
use Rattle.gb_tree.specs.declared.kept.ScannedFile.{ScannedFile}
use Rattle.gb_label.specs.Reading.{Read, digests_in, prints_read}
use Rattle.gb_label.specs.Looking.{gives_no_source, lacks_source}

-- one pair more passes
pub all_one_more : {X Y : Type 0} (t : X × Y → Bool) (xs : List X) (ys : List Y) (i : ℕ) (x : X) (y : Y) → i < length xs → i < length ys
    → x ≡ get_or xs i x → y ≡ get_or ys i y → list_all t (take i (zip xs ys)) ≡ true → t (x, y) ≡ true
    → list_all t (take (i + 1) (zip xs ys)) ≡ true
all_one_more t [] ys i x y less short is at all passes = absurd (omega (arith, less))
all_one_more t (w ∷ xs) [] i x y less short is at all passes = absurd (omega (arith, short))
all_one_more t (w ∷ xs) (v ∷ ys) zero x y less short is at all passes =
    ap (λ b. b && true) (ap (λ z. t (z, v)) (sym is) ∙ ap (λ z. t (x, z)) (sym at) ∙ passes)
all_one_more t (w ∷ xs) (v ∷ ys) (suc i) x y less short is at all passes =
    ap (λ n. list_all t (take n ((w, v) ∷ zip xs ys))) (next i)
    ∙ both (t (w, v)) (list_all t (take i (zip xs ys))) (list_all t (take (i + 1) (zip xs ys))) all
    (λ tail. all_one_more t xs ys i x y (omega (arith, less)) (omega (arith, short)) is at tail passes)
  where
    next : (n : ℕ) → suc n + 1 ≡ suc (n + 1)
    next n = omega arith

    both : (b c d : Bool) → (b && c) ≡ true → (c ≡ true → d ≡ true) → (b && d) ≡ true
    both true c d tail on = on tail
    both false c d tail on = tail

pub all_pairs : {X Y : Type 0} (xs : List X) (ys : List Y) (i : ℕ) → length xs ≤ i → take i (zip xs ys) ≡ zip xs ys
all_pairs [] ys i all = take_all i [] (omega arith)
all_pairs (x ∷ xs) [] i all = take_all i [] (omega arith)
all_pairs (x ∷ xs) (y ∷ ys) zero all = absurd (omega (arith, all))
all_pairs (x ∷ xs) (y ∷ ys) (suc i) all = ap (λ ps. (x, y) ∷ ps) (all_pairs xs ys i (omega (arith, all)))

-- one pair that does not pass
pub not_all : {X Y : Type 0} (t : X × Y → Bool) (xs : List X) (ys : List Y) (i : ℕ) (x : X) (y : Y) → i < length xs → i < length ys
    → x ≡ get_or xs i x → y ≡ get_or ys i y → t (x, y) ≡ false → list_all t (zip xs ys) ≡ false
not_all t [] ys i x y less short is at fails = absurd (omega (arith, less))
not_all t (w ∷ xs) [] i x y less short is at fails = absurd (omega (arith, short))
not_all t (w ∷ xs) (v ∷ ys) zero x y less short is at fails =
    ap (λ b. b && list_all t (zip xs ys)) (ap (λ z. t (z, v)) (sym is) ∙ ap (λ z. t (x, z)) (sym at) ∙ fails)
not_all t (w ∷ xs) (v ∷ ys) (suc i) x y less short is at fails =
    ap (λ b. t (w, v) && b) (not_all t xs ys i x y (omega (arith, less)) (omega (arith, short)) is at fails) ∙ nothing (t (w, v))
  where
    nothing : (b : Bool) → (b && false) ≡ false
    nothing true = refl
    nothing false = refl

empty_digests : (tree : Tree) → is_empty (digests_of tree) ≡ is_empty tree
empty_digests [] = refl
empty_digests (file ∷ tree) = refl

-- the digests of trees give the same answer as the trees themselves
same_reasons : (properties : List FileProperty) (files : Files)
    → list_all gives_no_source (zip properties (digests_in (map (λ property. (property.name, tree_of property files)) properties)))
    ≡ list_all (λ property. is_empty (tree_of property files)) (filter (λ property. property.skip_when_empty) properties)
same_reasons [] files = refl
same_reasons (property ∷ properties) files =
    ap (λ b. (not property.skip_when_empty || b) && list_all gives_no_source (zip properties (digests_in (map (λ p. (p.name, tree_of p files)) properties)))) (empty_digests (tree_of property files))
    ∙ ap (λ b. (not property.skip_when_empty || is_empty (tree_of property files)) && b) (same_reasons properties files)
    ∙ by_test property.skip_when_empty
  where
    passes : FileProperty → Bool
    passes p = is_empty (tree_of p files)

    by_test : (b : Bool) → ((not b || passes property) && list_all passes (filter (λ p. p.skip_when_empty) properties))
        ≡ list_all passes (cond b (property ∷ filter (λ p. p.skip_when_empty) properties) (filter (λ p. p.skip_when_empty) properties))
    by_test true = refl
    by_test false = refl

pub same_source : (task : Task) (files : Files) → lacks_source task.files (digests_in (trees_of task files)) ≡ has_no_source task files
same_source task files = ap (λ b. list_any (λ property. property.skip_when_empty) task.files && b) (same_reasons task.files files)

-- readings give the same answer as their digests
reasons_read : (properties : List FileProperty) (readings : List Read)
    → list_all gives_no_source (zip properties (prints_read readings)) ≡ list_all gives_no_source (zip properties readings)
reasons_read [] readings = refl
reasons_read (property ∷ properties) [] = refl
reasons_read (property ∷ properties) (reading ∷ readings) =
    ap (λ b. (not property.skip_when_empty || b) && list_all gives_no_source (zip properties (prints_read readings))) (none_observed reading.1)
    ∙ ap (λ b. (not property.skip_when_empty || is_empty reading.1) && b) (reasons_read properties readings)
  where
    none_observed : (files : List ScannedFile) → is_empty (digests_observed files) ≡ is_empty files
    none_observed [] = refl
    none_observed (file ∷ files) = refl

pub source_read : (properties : List FileProperty) (readings : List Read) → lacks_source properties (prints_read readings) ≡ lacks_source properties readings
source_read properties readings = ap (λ b. list_any (λ property. property.skip_when_empty) properties && b) (reasons_read properties readings)
