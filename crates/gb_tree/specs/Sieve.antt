-- Patterns of which those without a wildcard are in a set.
use Rattle.std.specs.Prelude.{◌≡◌, ◌||◌, ℕ, List, String}
use Rattle.std.specs.BTreeSet.{BTreeSet, contains_text}
use Rattle.std.specs.Global.{Global}
use Rattle.gb_tree.specs.Property.{matches_any}

-- a path is in the set or is matched by one of the other patterns, if one of all patterns matches it
abbrev pub Sieves : BTreeSet (String Global) → List (List ℕ) → List (List ℕ) → Type 0
Sieves plain wild patterns =
    (path : List ℕ) → (contains_text plain path || matches_any wild path) ≡ matches_any patterns path
