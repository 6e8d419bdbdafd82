-- Names of two tables in one.
use Rattle.std.specs.Prelude.{ℕ, Bool, true, not, ◌&&◌, List, [], ◌∷◌, ◌++◌, is_some}
use Rattle.std.specs.List.{list_any}
use Rattle.std.specs.FinMap.Entries.{find}
use Rattle.gb_core.specs.Lists.{byte_order}

-- some entry has the name
abbrev pub has : {S : Type 0} → List (List ℕ × S) → List ℕ → Bool
has table name = is_some (find byte_order name table)

-- no entry has a name of one of these or of one before it
abbrev pub are_new : {S : Type 0} → List (List ℕ × S) → List (List ℕ × S) → Bool
are_new before [] = true
are_new before (entry ∷ others) = not (has before entry.0) && are_new (before ++ entry ∷ []) others

-- each name occurs once
abbrev pub occur_once : {S : Type 0} → List (List ℕ × S) → Bool
occur_once table = are_new [] table

-- a name occurs in both
abbrev pub share : {A B : Type 0} → List (List ℕ × A) → List (List ℕ × B) → Bool
share first second = list_any (λ entry. has first entry.0) second
