-- The common names of two tables.
use Rattle.std.proofs.Common.{◌≡◌, ℕ, Bool, true, false, true≢false, not, ◌&&◌, ◌||◌, cond, List, [], ◌∷◌, ◌++◌, map, Some, is_some, Result, Err, refl, sym, ap, ◌∙◌, append_assoc}
use Rattle.std.proofs.lemmas.List.{append-nil}
use Rattle.std.specs.Ordering.{eq_by_cmp}
use Rattle.std.specs.FinMap.Entries.{find}
use Rattle.gb_core.specs.Lists.{byte_order}
use Rattle.gb_with.specs.Both.{firsts, seconds}
use Rattle.gb_with.specs.Names.{has, are_new, occur_once, share}
use Rattle.gb_with.specs.declared.both.Either.{Either}
use Rattle.gb_with.specs.declared.both.Either.TheVariants.{First, Second}

-- ---- Tests

and_assoc : (a b c : Bool) → ((a && b) && c) ≡ (a && (b && c))
and_assoc true b c = refl
and_assoc false b c = refl

-- none of two, and none of others, in another order
separate : (a b c d : Bool) → (not (a || b) && (not c && d)) ≡ (not (a || c) && (not b && d))
separate true b c d = refl
separate false true true d = refl
separate false true false d = refl
separate false false true d = refl
separate false false false d = refl

-- ---- Look-ups

module _ {S : Type 0} where
  has-append : (name : List ℕ) (a b : List (List ℕ × S)) → has (a ++ b) name ≡ (has a name || has b name)
  has-append name [] b = refl
  has-append name (entry ∷ a) b =
      elim (eq_by_cmp byte_order name entry.0) as
      (λ same. is_some (cond same (Some entry.1) (find byte_order name (a ++ b)))
      ≡ (is_some (cond same (Some entry.1) (find byte_order name a)) || has b name)) [
        | true ↦ refl
        | false ↦ has-append name a b
      ]

  are_new-append : (before xs ys : List (List ℕ × S))
      → are_new before (xs ++ ys) ≡ (are_new before xs && are_new (before ++ xs) ys)
  are_new-append before [] ys = ap (λ all. are_new all ys) (sym (append-nil before))
  are_new-append before (x ∷ xs) ys =
      ap (λ rest. not (has before x.0) && rest) (are_new-append (before ++ x ∷ []) xs ys
      ∙ ap (λ all. are_new (before ++ x ∷ []) xs && are_new all ys) (append_assoc before (x ∷ []) xs))
      ∙ sym (and_assoc (not (has before x.0)) (are_new (before ++ x ∷ []) xs) (are_new (before ++ x ∷ xs) ys))

  -- entries are new after two tables if they are new after the second, and share no name with the first
  are_new-following : (a b ys : List (List ℕ × S)) → are_new (a ++ b) ys ≡ (not (share a ys) && are_new b ys)
  are_new-following a b [] = refl
  are_new-following a b (y ∷ ys) =
      ap (λ rest. not (has (a ++ b) y.0) && rest)
      (ap (λ all. are_new all ys) (append_assoc a b (y ∷ [])) ∙ are_new-following a (b ++ y ∷ []) ys)
      ∙ ap (λ found. not found && (not (share a ys) && are_new (b ++ y ∷ []) ys)) (has-append y.0 a b)
      ∙ separate (has a y.0) (has b y.0) (share a ys) (are_new (b ++ y ∷ []) ys)

-- ---- Tables as tables of both

module _ {A S : Type 0} (sort : A → S) where
  abbrev pub named : List (List ℕ × A) → List (List ℕ × S)
  named table = map (λ entry. (entry.0, sort entry.1)) table

  pub has-named : (name : List ℕ) (table : List (List ℕ × A)) → has (named table) name ≡ has table name
  has-named name [] = refl
  has-named name (entry ∷ table) =
      elim (eq_by_cmp byte_order name entry.0) as
      (λ same. is_some (cond same (Some (sort entry.1)) (find byte_order name (named table)))
      ≡ is_some (cond same (Some entry.1) (find byte_order name table))) [
        | true ↦ refl
        | false ↦ has-named name table
      ]

  named-append : (a b : List (List ℕ × A)) → named (a ++ b) ≡ named a ++ named b
  named-append [] b = refl
  named-append (entry ∷ a) b = ap (λ rest. (entry.0, sort entry.1) ∷ rest) (named-append a b)

  are_new-named : (before table : List (List ℕ × A))
      → are_new (named before) (named table) ≡ are_new before table
  are_new-named before [] = refl
  are_new-named before (entry ∷ table) =
      ap (λ found. not found && are_new (named before ++ (entry.0, sort entry.1) ∷ []) (named table))
      (has-named entry.0 before)
      ∙ ap (λ all. not (has before entry.0) && are_new all (named table)) (sym (named-append before (entry ∷ [])))
      ∙ ap (λ rest. not (has before entry.0) && rest) (are_new-named (before ++ entry ∷ []) table)

module _ {A B S : Type 0} (one : A → S) (other : B → S) where
  share-named : (first : List (List ℕ × A)) (second : List (List ℕ × B))
      → share (named one first) (named other second) ≡ share first second
  share-named first [] = refl
  share-named first (entry ∷ second) =
      ap (λ found. found || share (named one first) (named other second)) (has-named one entry.0 first)
      ∙ ap (λ rest. has first entry.0 || rest) (share-named first second)

  pub new-following : (first : List (List ℕ × A)) (second : List (List ℕ × B))
      → are_new (named one first) (named other second) ≡ (not (share first second) && occur_once second)
  new-following first second =
      ap (λ all. are_new all (named other second)) (sym (append-nil (named one first)))
      ∙ are_new-following (named one first) [] (named other second)
      ∙ ap (λ found. not found && are_new [] (named other second)) (share-named first second)
      ∙ ap (λ rest. not (share first second) && rest) (are_new-named other [] second)

-- a table with each name once, and entries that are new after it, have each name once together
pub once-together : {S : Type 0} (xs ys : List (List ℕ × S)) → occur_once xs ≡ true → are_new xs ys ≡ true
    → occur_once (xs ++ ys) ≡ true
once-together xs ys e f = are_new-append [] xs ys ∙ ap (λ b. b && are_new xs ys) e ∙ f

pub once-named : {A S : Type 0} (one : A → S) (table : List (List ℕ × A))
    → occur_once (named one table) ≡ occur_once table
once-named one table = are_new-named one [] table

-- ---- What is known about them

not_both : (b c : Bool) → (not b && c) ≡ true → b ≡ false
not_both true c e = absurd (cc)
not_both false c e = refl

some_one : (b c : Bool) → (not b && c) ≡ false → c ≡ true → b ≡ true
some_one true c e f = refl
some_one false c e f = absurd (cc)

module _ {A B S : Type 0} (one : A → S) (other : B → S) (first : List (List ℕ × A))
    (second : List (List ℕ × B)) where
  pub separate-where_new : are_new (named one first) (named other second) ≡ true → share first second ≡ false
  separate-where_new e = not_both (share first second) (occur_once second) (sym (new-following one other first second) ∙ e)

  pub shared-where_not : are_new (named one first) (named other second) ≡ false → occur_once second ≡ true
      → share first second ≡ true
  shared-where_not e once =
      some_one (share first second) (occur_once second) (sym (new-following one other first second) ∙ e) once

-- ---- Two tables, one appended to the other

same_fault : {X Y : Type 0} (one other : Y) → ◌≡◌ {A = Result X Y} (Err one) (Err other) → one ≡ other
same_fault one other e = cc

-- a fault that is passed on is the one that was returned
pub handed : {X Y Z : Type 0} (r : Result X Z) (s : Result Y Z) (fault reported what : Z) → r ≡ Err fault
    → fault ≡ reported → s ≡ Err reported → r ≡ Err what → s ≡ Err what
handed {X = X} r s fault reported what a b c d = c ∙ ap Err (sym b ∙ same_fault {X = X} fault what (sym a ∙ d))

module _ {A B : Type 0} (first : List (List ℕ × A)) (second : List (List ℕ × B))
    (empty table : List (List ℕ × Either A B)) (nothing : empty ≡ []) where
  new_firsts : (is : Bool) → are_new empty (firsts first) ≡ is → occur_once first ≡ is
  new_firsts is e =
      sym (once-named {S = Either A B} First first)
      ∙ sym (ap (λ before. are_new before (firsts first)) nothing) ∙ e

  pub once-broken : are_new empty (firsts first) ≡ false → occur_once first ≡ true → ⊥
  once-broken e once = true≢false (sym once ∙ new_firsts false e)

  module _ (put : table ≡ empty ++ firsts first) where
    table_is : table ≡ firsts first
    table_is = put ∙ ap (λ before. before ++ firsts first) nothing

    new_seconds : (is : Bool) → are_new table (seconds second) ≡ is → are_new (firsts first) (seconds second) ≡ is
    new_seconds is e = sym (ap (λ before. are_new before (seconds second)) table_is) ∙ e

    pub separate-made : are_new table (seconds second) ≡ true → share first second ≡ false
    separate-made e = separate-where_new {S = Either A B} First Second first second (new_seconds true e)

    pub shared-made : are_new table (seconds second) ≡ false → occur_once second ≡ true → share first second ≡ true
    shared-made e once =
        shared-where_not {S = Either A B} First Second first second (new_seconds false e) once

    pub once-made : (made : List (List ℕ × Either A B)) → are_new empty (firsts first) ≡ true
        → are_new table (seconds second) ≡ true → made ≡ table ++ seconds second → occur_once made ≡ true
    once-made made e f is =
        ap occur_once (is ∙ ap (λ before. before ++ seconds second) table_is)
        ∙ once-together (firsts first) (seconds second)
        (sym (ap (λ before. are_new before (firsts first)) nothing) ∙ e) (new_seconds true f)
