-- How names are written where some characters have a special meaning.
use Rattle.std.specs.Prelude.{ℕ, ◌==◌, ◌||◌, Bool, true, false, List, [], ◌∷◌, Option, Some, None, codes}
use Rattle.std.specs.Prelude.{if◌then◌else◌}
use Rattle.std.specs.Option.{option_map}

-- in a text of DOT between quotes: a backslash before each quote and each backslash
abbrev pub dot_char : ℕ → List ℕ
dot_char c = if (c == 34) || (c == 92) then 92 ∷ c ∷ [] else c ∷ []

-- in XML
abbrev pub xml_char : ℕ → List ℕ
xml_char c =
    if c == 34 then codes "&quot;" else if c == 38 then codes "&amp;" else if c == 39 then codes "&#39;"
    else if c == 60 then codes "&lt;" else if c == 62 then codes "&gt;" else c ∷ []

-- in a text of Mermaid between quotes
abbrev pub mermaid_char : ℕ → List ℕ
mermaid_char c =
    if c == 34 then codes "#quot;" else if c == 35 then codes "#35;" else if c == 38 then codes "#amp;"
    else if c == 60 then codes "#lt;" else if c == 62 then codes "#gt;" else if c == 96 then codes "#96;"
    else c ∷ []

-- a quote, or what begins or ends an element
abbrev pub is_markup : ℕ → Bool
is_markup c = (c == 34) || (c == 39) || (c == 60) || (c == 62)

-- a quote, what begins or ends an element, or what begins and ends Markdown
abbrev pub is_special : ℕ → Bool
is_special c = (c == 34) || (c == 38) || (c == 60) || (c == 62) || (c == 96)

abbrev pub with_prefix : ℕ → Option (List ℕ × List ℕ) → Option (List ℕ × List ℕ)
with_prefix c read = option_map (λ parts. (c ∷ parts.0, parts.1)) read

-- How DOT reads the text after a quote, given whether a backslash precedes it: the text up to the next quote
-- that no backslash precedes, and the text after that quote.
abbrev pub read_dot : Bool → List ℕ → Option (List ℕ × List ℕ)
read_dot escaped [] = None
read_dot true (c ∷ rest) = with_prefix c (read_dot false rest)
read_dot false (c ∷ rest) =
    if c == 34 then Some ([], rest) else if c == 92 then read_dot true rest
    else with_prefix c (read_dot false rest)
