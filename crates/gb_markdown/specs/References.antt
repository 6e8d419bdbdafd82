-- Links by reference: lines `[label]: address "title"`, and what a label refers to.
use Rattle.std.specs.Prelude.{ℕ, ◌+◌, ◌==◌, nat_lt, Bool, true, false, not, ◌&&◌, ◌||◌, List, [], ◌∷◌}
use Rattle.std.specs.Prelude.{if◌then◌else◌, map, take, drop, Option, None, Some, bytes_eq, is_some}
use Rattle.std.specs.Char.{eq_ignore_ascii_case}
use Rattle.gb_markdown.specs.Runs.{run, is_space, is_blank}
use Rattle.gb_markdown.specs.Targets.{address, following, quote_end, title}
use Rattle.gb_markdown.specs.declared.references.Reference.{Reference}

-- labels, each with an address and a title
abbrev pub Refs : Type 0
Refs = List (List ℕ × List ℕ × List ℕ)

abbrev pub meaning : Reference → List ℕ × List ℕ × List ℕ
meaning reference = (reference.label.now, reference.target.address.now, reference.target.title.now)

abbrev pub meanings : List Reference → Refs
meanings references = map meaning references

-- ---- Labels

-- white space is white space, and a letter is a letter in either case
abbrev pub is_like : ℕ → ℕ → Bool
is_like b c = eq_ignore_ascii_case b c || (is_space b && is_space c)

abbrev pub is_same : List ℕ → List ℕ → Bool
is_same [] [] = true
is_same [] (c ∷ others) = false
is_same (b ∷ rest) [] = false
is_same (b ∷ rest) (c ∷ others) = is_like b c && is_same rest others

-- the address and the title of the first reference with a label
abbrev pub referred : List ℕ → Refs → Option (List ℕ × List ℕ)
referred label [] = None
referred label (reference ∷ others) =
    if is_same label reference.0 then Some (reference.1, reference.2) else referred label others

-- ---- Lines that define a label

-- an address, and a title or nothing after it
abbrev pub defined_as : List ℕ → List ℕ → List ℕ × List ℕ → Option (List ℕ × List ℕ × List ℕ)
defined_as label address found =
    if not (bytes_eq address []) && is_blank found.1 then Some (label, address, found.0) else None

abbrev pub after_colon : List ℕ → List ℕ → Option (List ℕ × List ℕ × List ℕ)
after_colon label [] = None
after_colon label (b ∷ rest) =
    if b == 58 then defined_as label (address (following rest)).0 (title (address (following rest)).1)
    else None

-- a label has words, and no brackets in it except after backslashes
abbrev pub is_label : List ℕ → Bool
is_label label = not (is_blank label) && not (is_some (quote_end 91 false 0 label))

abbrev pub defined_to : List ℕ → Option ℕ → Option (List ℕ × List ℕ × List ℕ)
defined_to rest None = None
defined_to rest (Some end) =
    if is_label (take end rest) then after_colon (take end rest) (drop (end + 1) rest) else None

abbrev pub defined_in : List ℕ → Option (List ℕ × List ℕ × List ℕ)
defined_in [] = None
defined_in (b ∷ rest) = if b == 91 then defined_to rest (quote_end 93 false 0 rest) else None

-- after at most three spaces
abbrev pub defined : List ℕ → Option (List ℕ × List ℕ × List ℕ)
defined line = if nat_lt (run 32 line) 4 then defined_in (drop (run 32 line) line) else None
