-- What differs in incremental properties alone does so by whole contents, if no two contents share a digest.
use Rattle.std.specs.Prelude.{◌≡◌, ◌&&◌, ◌||◌, ℕ, Bool, true, false, not, cond, List, [], ◌∷◌, ◌++◌, map, Some, unwrap_or, Contains, bytes_eq}
use Rattle.std.specs.List.{AllByRecursion, AllZip, filter, flat_map, zip}
use Rattle.std.specs.FinMap.Entries.{below_all, find, is_sorted}
use Rattle.std.specs.Ordering.{eq_by_cmp, is_eq, is_lt}
use Rattle.std.specs.declared.cmp.Ordering.{Ordering}
use Rattle.std.specs.declared.cmp.Ordering.TheVariants.{Less, Equal, Greater}
use Rattle.std.specs.Cmp.Lexicographic.{bytes_decides}
use Rattle.std.proofs.Common.{refl, sym, ap, ap₂, subst, ◌∙◌}
use Rattle.std.proofs.lemmas.Bool.{and_parts}
use Rattle.std.proofs.lemmas.Map.Text.{is_eq-slice_cmp}
use mathlib.Core.Bool.{true≢false}
use Rattle.sha2.specs.Sha256.{sha256}
use Rattle.gb_core.specs.Lists.{byte_order}
use Rattle.gb_folder.specs.Files.{Place, Bytes, Files}
use Rattle.gb_action.specs.Changes.{Changes, changes_between}
use Rattle.gb_action.specs.Files.{Tree, Trees, file_at, tree_at}
use Rattle.gb_tree.specs.Prints.{digests_of}
use Rattle.gb_tree.proofs.Digests.{same_changes}
use Rattle.gb_plan.specs.declared.task.FileProperty.{FileProperty}
use Rattle.gb_semantics.specs.Tree.{tree_of}
use Rattle.gb_semantics.specs.TrueRecord.{prints_of}
use Rattle.gb_history.specs.Decision.{IsAlike, changes_of, is_incremental}
use Rattle.gb_records.proofs.Separate.{tree_back}

-- ---- properties by their names, which strictly rise

abbrev pub named_trees : Files → List FileProperty → Trees
named_trees files properties = map (λ (property : FileProperty). let tree : List ℕ × Tree = (property.name, tree_of property files) in tree) properties

-- digests have the same names
pub sorted_prints : (trees : Trees) → is_sorted byte_order (prints_of sha256 trees) ≡ is_sorted byte_order trees
sorted_prints [] = refl
sorted_prints (tree ∷ trees) = ap₂ (λ (a b : Bool). a && b) (below tree.0 trees) (sorted_prints trees)
  where
    below : (name : List ℕ) (rest : Trees) → below_all byte_order name (prints_of sha256 rest) ≡ below_all byte_order name rest
    below name [] = refl
    below name (one ∷ rest) = ap (λ b. is_lt (byte_order name one.0) && b) (below name rest)

-- a name below others is none of them
not_tied : (o : Ordering) → is_lt o ≡ true → is_eq o ≡ false
not_tied Less e = refl
not_tied Equal e = absurd (true≢false (sym e))
not_tied Greater e = absurd (true≢false (sym e))

distinct_names : (name : List ℕ) (files : Files) (properties : List FileProperty) → below_all byte_order name (named_trees files properties) ≡ true
    → AllByRecursion (λ (property : FileProperty). bytes_eq property.name name ≡ false) properties
distinct_names name files [] h = tt
distinct_names name files (property ∷ properties) h =
    let parts = and_parts (is_lt (byte_order name property.name)) (below_all byte_order name (named_trees files properties)) h in
    (by (bytes_eq property.name name) refl (not_tied (byte_order name property.name) parts.0), distinct_names name files properties parts.1)
  where
    by : (b : Bool) → bytes_eq property.name name ≡ b → eq_by_cmp byte_order name property.name ≡ false → b ≡ false
    by true e separate =
        let same : property.name ≡ name = (bytes_decides property.name name).0 e in
        absurd (true≢false (sym (is_eq-slice_cmp name property.name ∙ (bytes_decides name property.name).1 (sym same)) ∙ separate))
    by false e separate = refl

ties_itself : (name : List ℕ) → eq_by_cmp byte_order name name ≡ true
ties_itself name = is_eq-slice_cmp name name ∙ (bytes_decides name name).1 refl

-- the first tree of a list, and the others
at_first : (name : List ℕ) (tree : Tree) (trees : Trees) → tree_at ((name, tree) ∷ trees) name ≡ tree
at_first name tree trees = ap (λ b. unwrap_or (cond b (Some tree) (find byte_order name trees)) []) (ties_itself name)

at_later : (name other : List ℕ) (tree : Tree) (trees : Trees) → bytes_eq other name ≡ false → tree_at ((name, tree) ∷ trees) other ≡ tree_at trees other
at_later name other tree trees e = ap (λ b. unwrap_or (cond b (Some tree) (find byte_order other trees)) []) (is_eq-slice_cmp other name ∙ e)

-- ---- what is alike is so by whole contents

-- a tree of the same name, and of the same files unless the test says incremental
abbrev pub SameUnless : (List ℕ → Bool) → List ℕ × Tree → List ℕ × Tree → Type 0
SameUnless test old new = (old.0 ≡ new.0) × (test old.0 ≡ false → old.1 ≡ new.1)

module _ (all : List Bytes) (separate : (a b : Bytes) → Contains all a → Contains all b → sha256 a ≡ sha256 b → a ≡ b) where
  abbrev AreObserved : Trees → Type 0
  AreObserved trees = AllByRecursion (λ (tree : List ℕ × Tree). AllByRecursion (λ (file : Place × Bytes). Contains all file.1) tree.1) trees

  pub alike_trees : (incremental : List (List ℕ)) (old new : Trees) → AreObserved old → AreObserved new
      → AllZip (IsAlike incremental) (prints_of sha256 old) (prints_of sha256 new) → AllZip (SameUnless (is_incremental incremental)) old new
  alike_trees incremental [] [] p q alike = tt
  alike_trees incremental [] (b ∷ new) p q alike = absurd alike
  alike_trees incremental (a ∷ old) [] p q alike = absurd alike
  alike_trees incremental (a ∷ old) (b ∷ new) p q alike =
      ((alike.0.0, λ no. tree_back sha256 (Contains all) separate a.1 b.1 p.0 q.0 (alike.0.1 no)), alike_trees incremental old new p.1 q.1 alike.1)

  observed_in : (tree : Tree) → AllByRecursion (λ (file : Place × Bytes). Contains all file.1) tree → (path bytes : List ℕ) → file_at tree path ≡ Some bytes → Contains all bytes
  observed_in [] h path bytes e = absurd (cc)
  observed_in (file ∷ tree) h path bytes e =
      elim (eq_by_cmp byte_order path file.0) as (λ b. cond b (Some file.1) (file_at tree path) ≡ Some bytes → Contains all bytes) [
        | true ↦ λ is. let same : file.1 ≡ bytes = cc in subst (Contains all) same h.0
        | false ↦ λ is. observed_in tree h.1 path bytes is
      ] e

  changes_back : (old new : Tree) → AllByRecursion (λ (file : Place × Bytes). Contains all file.1) old → AllByRecursion (λ (file : Place × Bytes). Contains all file.1) new
      → changes_between (digests_of old) (digests_of new) ≡ changes_between old new
  changes_back old new p q = same_changes old new (λ path a b at to same. separate a b (observed_in old p path a at) (observed_in new q path b to) same)

  pub alike_prints : (incremental : List (List ℕ)) (old new : Trees) → AllZip (SameUnless (is_incremental incremental)) old new
      → AllZip (IsAlike incremental) (prints_of sha256 old) (prints_of sha256 new)
  alike_prints incremental [] [] same = tt
  alike_prints incremental [] (b ∷ new) same = absurd same
  alike_prints incremental (a ∷ old) [] same = absurd same
  alike_prints incremental (a ∷ old) (b ∷ new) same = ((same.0.0, λ no. ap digests_of (same.0.1 no)), alike_prints incremental old new same.1)

  abbrev reported_at : Files → Trees → FileProperty → Changes
  reported_at files old property = (property.name, changes_between (tree_at old property.name) (tree_of property files))

  abbrev reported_of : List ℕ → Tree → Tree → Changes
  reported_of name old new = (name, changes_between old new)

  first_reported : (files : Files) (a : List ℕ × Tree) (old : Trees) (property : FileProperty) → a.0 ≡ property.name
      → AllByRecursion (λ (file : Place × Bytes). Contains all file.1) a.1 → AllByRecursion (λ (file : Place × Bytes). Contains all file.1) (tree_of property files)
      → reported_of a.0 (digests_of a.1) (digests_of (tree_of property files)) ≡ reported_at files (a ∷ old) property
  first_reported files a old property name p q =
      let found : tree_at (a ∷ old) property.name ≡ a.1 = ap (tree_at (a ∷ old)) (sym name) ∙ at_first a.0 a.1 old in
      ap₂ (λ (x : List ℕ) (y : List _). let reported : Changes = (x, y) in reported) name
      (changes_back a.1 (tree_of property files) p q ∙ ap (λ t. changes_between t (tree_of property files)) (sym found))

  -- the changes of digests, property by property
  pub changes_reported : (files : Files) (incremental : List (List ℕ)) (old : Trees) (properties : List FileProperty) → AreObserved old → AreObserved (named_trees files properties)
      → AllZip (SameUnless (is_incremental incremental)) old (named_trees files properties)
      → AllByRecursion (λ (property : FileProperty). is_incremental incremental property.name ≡ property.incremental) properties
      → is_sorted byte_order (named_trees files properties) ≡ true
      → flat_map (changes_of incremental) (zip (prints_of sha256 old) (prints_of sha256 (named_trees files properties)))
      ≡ map (reported_at files old) (filter (λ property. property.incremental) properties)
  changes_reported files incremental [] [] p q same right sorted = refl
  changes_reported files incremental [] (property ∷ properties) p q same right sorted = absurd same
  changes_reported files incremental (a ∷ old) [] p q same right sorted = absurd same
  changes_reported files incremental (a ∷ old) (property ∷ properties) p q same right sorted =
      let parts = and_parts (below_all byte_order property.name (named_trees files properties)) (is_sorted byte_order (named_trees files properties)) sorted in
      let rest = changes_reported files incremental old properties p.1 q.1 same.1 right.1 parts.1 in
      let later : map (reported_at files old) (filter (λ property. property.incremental) properties) ≡ map (reported_at files (a ∷ old)) (filter (λ property. property.incremental) properties) =
      map_same (reported_at files old) (reported_at files (a ∷ old)) (λ property. property.incremental) properties
      (each_later files a old property.name same.0.0 properties (distinct_names property.name files properties parts.0)) in
      let test : is_incremental incremental a.0 ≡ property.incremental = ap (is_incremental incremental) same.0.0 ∙ right.0 in
      ap (λ b. cond b (reported_of a.0 (digests_of a.1) (digests_of (tree_of property files)) ∷ []) [] ++ flat_map (changes_of incremental) (zip (prints_of sha256 old) (prints_of sha256 (named_trees files properties)))) test
      ∙ both (first_reported files a old property same.0.0 p.0 q.0) (rest ∙ later) property.incremental
      ∙ inside (reported_at files (a ∷ old)) property (filter (λ property. property.incremental) properties) property.incremental
    where
      inside : (g : FileProperty → Changes) (x : FileProperty) (ys : List FileProperty) (b : Bool) → cond b (g x ∷ map g ys) (map g ys) ≡ map g (cond b (x ∷ ys) ys)
      inside g x ys true = refl
      inside g x ys false = refl

      both : {x y : Changes} {xs ys : List Changes} → x ≡ y → xs ≡ ys → (b : Bool) → (cond b (x ∷ []) [] ++ xs) ≡ cond b (y ∷ ys) ys
      both {x} {y} {xs} {ys} h t true = ap₂ (λ (a : Changes) (l : List Changes). a ∷ l) h t
      both {x} {y} {xs} {ys} h t false = t

      map_same : (f g : FileProperty → Changes) (t : FileProperty → Bool) (xs : List FileProperty) → AllByRecursion (λ (x : FileProperty). f x ≡ g x) xs → map f (filter t xs) ≡ map g (filter t xs)
      map_same f g t [] h = refl
      map_same f g t (x ∷ xs) h = elim (t x) as (λ b. map f (cond b (x ∷ filter t xs) (filter t xs)) ≡ map g (cond b (x ∷ filter t xs) (filter t xs))) [
        | true ↦ ap₂ (λ (a : Changes) (l : List Changes). a ∷ l) h.0 (map_same f g t xs h.1)
        | false ↦ map_same f g t xs h.1
      ]

      each_later : (fs : Files) (a : List ℕ × Tree) (old : Trees) (name : List ℕ) → a.0 ≡ name → (xs : List FileProperty) → AllByRecursion (λ (x : FileProperty). bytes_eq x.name name ≡ false) xs
          → AllByRecursion (λ (x : FileProperty). reported_at fs old x ≡ reported_at fs (a ∷ old) x) xs
      each_later fs a old name is [] h = tt
      each_later fs a old name is (x ∷ xs) h = (
        ap (λ t. reported_of x.name t (tree_of x fs)) (sym (at_later a.0 x.name a.1 old (ap (bytes_eq x.name) is ∙ h.0))),
        each_later fs a old name is xs h.1,
      )

-- ---- properties looked up by their names

abbrev pub FoundUnless : Files → Trees → List FileProperty → Type 0
FoundUnless files old properties = AllByRecursion (λ (property : FileProperty). property.incremental ≡ false → tree_at old property.name ≡ tree_of property files) properties

found_after : (files : Files) (a : List ℕ × Tree) (old : Trees) (name : List ℕ) → a.0 ≡ name → (properties : List FileProperty)
    → AllByRecursion (λ (property : FileProperty). bytes_eq property.name name ≡ false) properties → FoundUnless files old properties → FoundUnless files (a ∷ old) properties
found_after files a old name is [] separate found = tt
found_after files a old name is (property ∷ properties) separate found = (
  λ no. at_later a.0 property.name a.1 old (ap (bytes_eq property.name) is ∙ separate.0) ∙ found.0 no,
  found_after files a old name is properties separate.1 found.1,
)

found_without : (files : Files) (a : List ℕ × Tree) (old : Trees) (name : List ℕ) → a.0 ≡ name → (properties : List FileProperty)
    → AllByRecursion (λ (property : FileProperty). bytes_eq property.name name ≡ false) properties → FoundUnless files (a ∷ old) properties → FoundUnless files old properties
found_without files a old name is [] separate found = tt
found_without files a old name is (property ∷ properties) separate found = (
  λ no. sym (at_later a.0 property.name a.1 old (ap (bytes_eq property.name) is ∙ separate.0)) ∙ found.0 no,
  found_without files a old name is properties separate.1 found.1,
)

abbrev pub IsRight : (List ℕ → Bool) → List FileProperty → Type 0
IsRight test properties = AllByRecursion (λ (property : FileProperty). test property.name ≡ property.incremental) properties

pub found_of : (files : Files) (test : List ℕ → Bool) (old : Trees) (properties : List FileProperty) → IsRight test properties → is_sorted byte_order (named_trees files properties) ≡ true
    → AllZip (SameUnless test) old (named_trees files properties)
    → (map (λ (tree : List ℕ × Tree). tree.0) old ≡ map (λ (property : FileProperty). property.name) properties) × FoundUnless files old properties
found_of files test [] [] right sorted same = (refl, tt)
found_of files test [] (property ∷ properties) right sorted same = absurd same
found_of files test (a ∷ old) [] right sorted same = absurd same
found_of files test (a ∷ old) (property ∷ properties) right sorted same =
    let parts = and_parts (below_all byte_order property.name (named_trees files properties)) (is_sorted byte_order (named_trees files properties)) sorted in
    let rest = found_of files test old properties right.1 parts.1 same.1 in
    let here : tree_at (a ∷ old) property.name ≡ a.1 = ap (tree_at (a ∷ old)) (sym same.0.0) ∙ at_first a.0 a.1 old in (
      ap₂ (λ (x : List ℕ) (l : List (List ℕ)). x ∷ l) same.0.0 rest.0,
      (
        λ no. here ∙ same.0.1 (ap test same.0.0 ∙ right.0 ∙ no),
        found_after files a old property.name same.0.0 properties (distinct_names property.name files properties parts.0) rest.1,
      ),
    )

pub same_of : (files : Files) (test : List ℕ → Bool) (old : Trees) (properties : List FileProperty) → IsRight test properties → is_sorted byte_order (named_trees files properties) ≡ true
    → map (λ (tree : List ℕ × Tree). tree.0) old ≡ map (λ (property : FileProperty). property.name) properties → FoundUnless files old properties
    → AllZip (SameUnless test) old (named_trees files properties)
same_of files test [] [] right sorted names found = tt
same_of files test [] (property ∷ properties) right sorted names found = absurd (cc)
same_of files test (a ∷ old) [] right sorted names found = absurd (cc)
same_of files test (a ∷ old) (property ∷ properties) right sorted names found =
    let parts = and_parts (below_all byte_order property.name (named_trees files properties)) (is_sorted byte_order (named_trees files properties)) sorted in
    let name : a.0 ≡ property.name = cc in
    let rest : map (λ (tree : List ℕ × Tree). tree.0) old ≡ map (λ (p : FileProperty). p.name) properties = cc in
    let here : tree_at (a ∷ old) property.name ≡ a.1 = ap (tree_at (a ∷ old)) (sym name) ∙ at_first a.0 a.1 old in (
      (name, λ no. sym here ∙ found.0 (sym right.0 ∙ ap test (sym name) ∙ no)),
      same_of files test old properties right.1 parts.1 rest (found_without files a old property.name name properties (distinct_names property.name files properties parts.0) found.1),
    )

-- equations over all properties that are not incremental
pub map_where : (f g : FileProperty → Tree) (xs : List FileProperty) → AllByRecursion (λ (x : FileProperty). x.incremental ≡ false → f x ≡ g x) xs
    → map f (filter (λ x. not x.incremental) xs) ≡ map g (filter (λ x. not x.incremental) xs)
map_where f g [] h = refl
map_where f g (x ∷ xs) h = by (x.incremental) refl (map_where f g xs h.1)
  where
    by : (b : Bool) → x.incremental ≡ b → map f (filter (λ y. not y.incremental) xs) ≡ map g (filter (λ y. not y.incremental) xs)
        → map f (cond (not b) (x ∷ filter (λ y. not y.incremental) xs) (filter (λ y. not y.incremental) xs)) ≡ map g (cond (not b) (x ∷ filter (λ y. not y.incremental) xs) (filter (λ y. not y.incremental) xs))
    by true e rest = rest
    by false e rest = ap₂ (λ (a : Tree) (l : List Tree). a ∷ l) (h.0 e) rest

pub map_where_back : (f g : FileProperty → Tree) (xs : List FileProperty) → map f (filter (λ x. not x.incremental) xs) ≡ map g (filter (λ x. not x.incremental) xs)
    → AllByRecursion (λ (x : FileProperty). x.incremental ≡ false → f x ≡ g x) xs
map_where_back f g [] e = tt
map_where_back f g (x ∷ xs) e = by (λ k. map_where_back f g xs k) (x.incremental) refl e
  where
    by : (map f (filter (λ y. not y.incremental) xs) ≡ map g (filter (λ y. not y.incremental) xs) → AllByRecursion (λ (y : FileProperty). y.incremental ≡ false → f y ≡ g y) xs)
        → (b : Bool) → x.incremental ≡ b
        → map f (cond (not b) (x ∷ filter (λ y. not y.incremental) xs) (filter (λ y. not y.incremental) xs)) ≡ map g (cond (not b) (x ∷ filter (λ y. not y.incremental) xs) (filter (λ y. not y.incremental) xs))
        → AllByRecursion (λ (y : FileProperty). y.incremental ≡ false → f y ≡ g y) (x ∷ xs)
    by later true is k = (λ no. absurd (true≢false (sym is ∙ no)), later k)
    by later false is k =
        let head : f x ≡ g x = cc in
        let rest : map f (filter (λ y. not y.incremental) xs) ≡ map g (filter (λ y. not y.incremental) xs) = cc in
        (λ _. head, later rest)

-- ---- the names of the incremental properties

other_way : (a b : List ℕ) → bytes_eq a b ≡ false → bytes_eq b a ≡ false
other_way a b e = by (bytes_eq b a) refl
  where
    by : (c : Bool) → bytes_eq b a ≡ c → c ≡ false
    by true is = absurd (true≢false (sym ((bytes_decides a b).1 (sym ((bytes_decides b a).0 is))) ∙ e))
    by false is = refl

abbrev incremental_names : List FileProperty → List (List ℕ)
incremental_names properties = map (λ (property : FileProperty). property.name) (filter (λ property. property.incremental) properties)

none_named : (name : List ℕ) (properties : List FileProperty) → AllByRecursion (λ (property : FileProperty). bytes_eq property.name name ≡ false) properties
    → is_incremental (incremental_names properties) name ≡ false
none_named name [] h = refl
none_named name (property ∷ properties) h =
    elim (property.incremental) as (λ b. is_incremental (map (λ (p : FileProperty). p.name) (cond b (property ∷ filter (λ p. p.incremental) properties) (filter (λ p. p.incremental) properties))) name ≡ false) [
      | true ↦ ap (λ b. b || is_incremental (incremental_names properties) name) (other_way property.name name h.0) ∙ none_named name properties h.1
      | false ↦ none_named name properties h.1
    ]

pub names_right : (files : Files) (properties : List FileProperty) → is_sorted byte_order (named_trees files properties) ≡ true → IsRight (is_incremental (incremental_names properties)) properties
names_right files [] sorted = tt
names_right files (property ∷ properties) sorted =
    let parts = and_parts (below_all byte_order property.name (named_trees files properties)) (is_sorted byte_order (named_trees files properties)) sorted in
    let separate = distinct_names property.name files properties parts.0 in
    by (names_right files properties parts.1) separate (property.incremental) refl
  where
    following : (xs : List FileProperty) → AllByRecursion (λ (x : FileProperty). bytes_eq x.name property.name ≡ false) xs → IsRight (is_incremental (incremental_names properties)) xs
        → IsRight (is_incremental (property.name ∷ incremental_names properties)) xs
    following [] separate right = tt
    following (x ∷ xs) separate right = (ap (λ b. b || is_incremental (incremental_names properties) x.name) separate.0 ∙ right.0, following xs separate.1 right.1)

    by : IsRight (is_incremental (incremental_names properties)) properties → AllByRecursion (λ (x : FileProperty). bytes_eq x.name property.name ≡ false) properties
        → (b : Bool) → property.incremental ≡ b
        → IsRight (is_incremental (map (λ (p : FileProperty). p.name) (cond b (property ∷ filter (λ p. p.incremental) properties) (filter (λ p. p.incremental) properties)))) (property ∷ properties)
    by rest separate true is = (ap (λ b. b || is_incremental (incremental_names properties) property.name) ((bytes_decides property.name property.name).1 refl) ∙ sym is, following properties separate rest)
    by rest separate false is = (none_named property.name properties separate ∙ sym is, rest)
