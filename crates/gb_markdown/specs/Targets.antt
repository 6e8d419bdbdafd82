-- Targets of links: an address, and a title.
use Rattle.std.specs.Prelude.{ℕ, ◌+◌, ◌-◌, ◌==◌, Bool, true, false, not, ◌&&◌, ◌||◌, List, [], ◌∷◌, ◌++◌}
use Rattle.std.specs.Prelude.{if◌then◌else◌, take, drop, Option, None, Some}
use Rattle.std.specs.Option.{option_map}
use Rattle.std.specs.Char.{is_ascii_punctuation}
use Rattle.gb_markdown.specs.Runs.{is_space, spaces}

-- ---- Addresses

-- where an address in `<` and `>` ends, on its line, if the text begins this many bytes after the `<`; a
-- backslash hides the byte after it
abbrev pub is_hidden : Bool → ℕ → Bool
is_hidden hidden b = not hidden && b == 92

abbrev pub angle_end : Bool → ℕ → List ℕ → Option ℕ
angle_end hidden at [] = None
angle_end hidden at (b ∷ rest) =
    if not hidden && b == 62 then Some at else if not hidden && (b == 60 || b == 10) then None
    else angle_end (is_hidden hidden b) (at + 1) rest

-- where another address ends: at white space, at a `)` without its `(`, or at the fourth `(` that is open
abbrev pub ends_address : Bool → ℕ → ℕ → Bool
ends_address hidden deep b =
    not hidden && (is_space b || (b == 40 && deep == 3) || (b == 41 && deep == 0))

abbrev pub parentheses : Bool → ℕ → ℕ → ℕ
parentheses hidden deep b =
    if not hidden && b == 40 then deep + 1 else if not hidden && b == 41 then deep - 1 else deep

abbrev pub address_end : Bool → ℕ → ℕ → List ℕ → ℕ
address_end hidden deep at [] = at
address_end hidden deep at (b ∷ rest) =
    if ends_address hidden deep b then at
    else address_end (is_hidden hidden b) (parentheses hidden deep b) (at + 1) rest

-- a part of a text, and the rest after it
abbrev pub in_signs : List ℕ → List ℕ → Option ℕ → List ℕ × List ℕ
in_signs line inside None = ([], line)
in_signs line inside (Some end) = (take end inside, drop (end + 1) inside)

abbrev pub address : List ℕ → List ℕ × List ℕ
address [] = ([], [])
address (b ∷ rest) =
    if b == 60 then in_signs (b ∷ rest) rest (angle_end false 0 rest)
    else let end = address_end false 0 0 (b ∷ rest) in
    (take end (b ∷ rest), drop end (b ∷ rest))

-- ---- Titles

-- where a title ends that this sign closes
abbrev pub quote_end : ℕ → Bool → ℕ → List ℕ → Option ℕ
quote_end sign hidden at [] = None
quote_end sign hidden at (b ∷ rest) =
    if not hidden && b == sign then Some at else if not hidden && (b == 40 && sign == 41) then None
    else quote_end sign (is_hidden hidden b) (at + 1) rest

-- the sign that ends a title that begins with this one: a title is in double quotes, in quotes or in
-- parentheses
abbrev pub quote_of : ℕ → Option ℕ
quote_of b =
    if b == 34 then Some 34 else if b == 39 then Some 39 else if b == 40 then Some 41 else None

abbrev pub quoted : List ℕ → List ℕ → Option ℕ → List ℕ × List ℕ
quoted line inside None = ([], line)
quoted line inside (Some sign) = in_signs line inside (quote_end sign false 0 inside)

abbrev pub title_in : List ℕ → List ℕ × List ℕ
title_in [] = ([], [])
title_in (b ∷ rest) = quoted (b ∷ rest) rest (quote_of b)

-- the title at the beginning of a text, if white space precedes it
abbrev pub title : List ℕ → List ℕ × List ℕ
title line = if spaces line == 0 then ([], line) else title_in (drop (spaces line) line)

-- ---- Targets

abbrev pub following : List ℕ → List ℕ
following line = drop (spaces line) line

-- the rest after a `)`
abbrev pub closed : List ℕ → Option (List ℕ)
closed [] = None
closed (b ∷ rest) = if b == 41 then Some rest else None

-- the address, the title, and the rest after the `)`; white space may precede each
abbrev pub target : List ℕ → Option (List ℕ × List ℕ × List ℕ)
target line =
    let address = address (following line) in
    let title = title address.1 in
    option_map (λ rest. (address.0, title.0, rest)) (closed (following title.1))

-- ---- Backslashes

-- what a byte becomes, after a backslash or not: a backslash before a sign of ASCII is left out
abbrev pub unescape : Bool → ℕ → List ℕ
unescape false b = if b == 92 then [] else b ∷ []
unescape true b = if is_ascii_punctuation b then b ∷ [] else 92 ∷ b ∷ []

abbrev pub unescaped : Bool → List ℕ → List ℕ
unescaped false [] = []
unescaped true [] = 92 ∷ []
unescaped hidden (b ∷ rest) = unescape hidden b ++ unescaped (is_hidden hidden b) rest
