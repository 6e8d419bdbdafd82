-- The meaning of a line.
use Rattle.std.specs.Prelude.{ℕ, ◌==◌, List, [], ◌∷◌, Option, None, Some, if◌then◌else◌}
use Rattle.gb_core.specs.declared.place.PlaceFault.{PlaceFault}
use Rattle.gb_core.specs.declared.place.PlaceFault.TheVariants as places
use Rattle.gb_lines.specs.declared.line.LineFault.{LineFault}
use Rattle.gb_lines.specs.declared.line.LineFault.TheVariants as faults

-- the byte that a backslash with this letter denotes: a line feed, a tab or a backslash
abbrev pub escape : ℕ → Option ℕ
escape letter =
    if letter == 110 then Some 10
    else (if letter == 116 then Some 9
    else (if letter == 92 then Some 92
    else None))

-- a byte, if there is one, and then the text, if there is one
abbrev pub before : Option ℕ → Option (List ℕ) → Option (List ℕ)
before None text = None
before (Some b) None = None
before (Some b) (Some text) = Some (b ∷ text)

-- the bytes that a text denotes: a backslash with its letter denotes one byte, any other byte denotes itself;
-- there are none where a backslash has another letter or none
unfoldable pub unescaped : List ℕ → Option (List ℕ)
unescaped [] = Some []
unescaped (b ∷ []) = if b == 92 then None else Some (b ∷ [])
unescaped (b ∷ c ∷ text) =
    if b == 92 then before (escape c) (unescaped text) else before (Some b) (unescaped (c ∷ text))

-- a text that is no valid place makes a bad line
abbrev pub line_fault_of : PlaceFault → LineFault
line_fault_of places.BadPlace = faults.BadLine
line_fault_of places.OutOfMemory = faults.OutOfMemory
