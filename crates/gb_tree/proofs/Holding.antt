-- At most one entry more than the limit is held.
use Rattle.std.proofs.Common.{arith, ◌≡◌, ◌≤◌, ◌<◌, ◌+◌, min, ℕ, zero, suc, true, false, cond, List, [], ◌∷◌, ◌++◌, length, map, take, drop, get_or, refl, sym, ◌∙◌, ap, subst, append_assoc}
use Rattle.std.proofs.lemmas.Bool.{lt-ltb}
use Rattle.std.proofs.lemmas.List.{at_drop_all, length-take, take_all, take-append-le}
use Rattle.std.specs.List.{AllByRecursion, filter}
use Rattle.std.specs.Prelude.{nat_lt}
use Rattle.gb_folder.specs.Files.{Place}
use Rattle.gb_folder.specs.Limits.{max_files}
use Rattle.gb_tree.specs.Property.{entries_in, held, is_in, path_of}
use Rattle.gb_tree.specs.Tree.{Entries}
use Rattle.gb_tree.specs.declared.property.Naming.{Naming}
use Rattle.gb_tree.proofs.Loops.{step_here, with_none}

-- what is taken of a front is taken of the whole
pub take_again : {X : Type 0} (n : ℕ) (xs ys : List X) → take n (take n xs ++ ys) ≡ take n (xs ++ ys)
take_again zero xs ys = refl
take_again (suc n) [] ys = refl
take_again (suc n) (x ∷ xs) ys = ap (λ zs. x ∷ zs) (take_again n xs ys)

-- where there are enough, nothing more counts
pub enough : {X : Type 0} (n : ℕ) (xs ys zs : List X) → n ≤ length xs → take n (xs ++ ys) ≡ take n (xs ++ zs)
enough n xs ys zs le = take-append-le n xs ys le ∙ sym (take-append-le n xs zs le)

-- what belongs is taken in while there is room
pub taken_in : {X : Type 0} (n : ℕ) (kept rest : List X) (x : X) → take n ((kept ++ x ∷ []) ++ rest) ≡ take n (kept ++ x ∷ rest)
taken_in n kept rest x = ap (take n) (append_assoc kept (x ∷ []) rest)

-- ---- The entries of one root

-- the entries among what is left of the places
module _ (naming : Naming) (include exclude : List (List ℕ)) (root : Place) where
  abbrev inside : List Place → Entries
  inside places = entries_in naming include exclude root places

  pub belongs_here : (places : List Place) (i : ℕ) (place : Place) → i < length places → place ≡ get_or places i place → is_in include exclude root place ≡ true
      → inside (drop i places) ≡ (path_of naming root place, place) ∷ inside (drop (i + 1) places)
  belongs_here places i place within is belongs =
      let rest = filter (is_in include exclude root) (drop (i + 1) places) in
      step_here inside places i place within is ∙ ap (λ b. map (λ (place : Place). (path_of naming root place, place)) (cond b (place ∷ rest) rest)) belongs

  pub passed_here : (places : List Place) (i : ℕ) (place : Place) → i < length places → place ≡ get_or places i place → is_in include exclude root place ≡ false
      → inside (drop i places) ≡ inside (drop (i + 1) places)
  passed_here places i place within is not_in =
      let rest = filter (is_in include exclude root) (drop (i + 1) places) in
      step_here inside places i place within is ∙ ap (λ b. map (λ (place : Place). (path_of naming root place, place)) (cond b (place ∷ rest) rest)) not_in

-- ---- At the end

-- nothing is left to take in
pub held_done : {X : Type 0} (F : List X → Entries) (kept all : Entries) (xs : List X) (i : ℕ) → F [] ≡ [] → length xs ≤ i → length kept ≤ max_files + 1 → held (kept ++ F (drop i xs)) ≡ held all → kept ≡ held all
held_done F kept all xs i none past few same =
    sym (take_all (max_files + 1) kept few)
    ∙ sym (ap held (ap (λ es. kept ++ es) (at_drop_all F xs i past ∙ none) ∙ with_none kept))
    ∙ same

few_of : (n l : ℕ) → min (n + 1) l ≤ n → l ≤ n + 1
few_of n l le = omega (arith, le)

many_of : (n l : ℕ) → n < min (n + 1) l → n < l
many_of n l lt = omega (arith, lt)

-- where few are held, they are all
pub held_few : (kept all : Entries) → kept ≡ held all → length kept ≤ max_files → kept ≡ all
held_few kept all is few =
    let count = ap length is ∙ length-take (max_files + 1) all in
    is ∙ take_all (max_files + 1) all (few_of max_files (length all) (subst (λ (n : ℕ). n ≤ max_files) count few))

-- where too many are held, there are too many
pub held_many : (kept all : Entries) → kept ≡ held all → max_files < length kept → nat_lt max_files (length all) ≡ true
held_many kept all is many =
    let count = ap length is ∙ length-take (max_files + 1) all in
    lt-ltb max_files (length all) (many_of max_files (length all) (subst (λ (n : ℕ). max_files < n) count many))

-- ---- What holds of each

pub all_take : {X : Type 0} (P : X → Type 0) (n : ℕ) (xs : List X) → AllByRecursion P xs → AllByRecursion P (take n xs)
all_take P zero xs all = tt
all_take P (suc n) [] all = tt
all_take P (suc n) (x ∷ xs) all = (all.0, all_take P n xs all.1)

pub all_append : {X : Type 0} (P : X → Type 0) (xs ys : List X) → AllByRecursion P xs → AllByRecursion P ys → AllByRecursion P (xs ++ ys)
all_append P [] ys first second = second
all_append P (x ∷ xs) ys first second = (first.0, all_append P xs ys first.1 second)

-- entries at places that are such
pub at_places : (P : Place → Type 0) (path : Place → List ℕ) (places : List Place) → AllByRecursion P places → AllByRecursion (λ (entry : List ℕ × Place). P entry.1) (map (λ place. (path place, place)) places)
at_places P path [] all = tt
at_places P path (place ∷ places) all = (all.0, at_places P path places all.1)

pub all_wider : {X : Type 0} (P Q : X → Type 0) (xs : List X) → ((x : X) → P x → Q x) → AllByRecursion P xs → AllByRecursion Q xs
all_wider P Q [] wider all = tt
all_wider P Q (x ∷ xs) wider all = (wider x all.0, all_wider P Q xs wider all.1)
