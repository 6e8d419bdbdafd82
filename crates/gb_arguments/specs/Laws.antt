-- Consequences of the definitions alone.
use Rattle.std.specs.Prelude.{ℕ, ◌≡◌, List}
use Rattle.gb_arguments.specs.Values.{AreLast}

-- The same texts always give the same list of values.
abbrev pub ValuesAreOne : Type 0
ValuesAreOne =
    (texts : List (List ℕ)) (one other : List (List ℕ × List ℕ)) → AreLast texts one → AreLast texts other
    → one ≡ other
