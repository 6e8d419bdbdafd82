-- What follows from the definitions alone.
use Rattle.std.specs.Prelude.{ℕ, ◌≡◌, ◌++◌, ◌∷◌, false, List, Some}
use Rattle.std.specs.List.{AllByRecursion, flat_map}
use Rattle.gb_picture.specs.Escapes.{dot_char, is_markup, is_special, mermaid_char, read_dot, xml_char}
use Rattle.gb_picture.specs.Shown.{is_hidden, shown}

-- no hidden character of a text is shown
abbrev pub ShowsNoHidden : Type 0
ShowsNoHidden = (text : List ℕ) → AllByRecursion (λ c. is_hidden c ≡ false) (shown text)

-- What DOT reads after a quote is the whole name, and it ends at the quote that follows the name.
abbrev pub DotReadsBack : Type 0
DotReadsBack = (name rest : List ℕ) → read_dot false (flat_map dot_char name ++ 34 ∷ rest) ≡ Some (name, rest)

-- a name in XML has no quote and neither `<` nor `>`
abbrev pub XmlHasNoMarkup : Type 0
XmlHasNoMarkup = (name : List ℕ) → AllByRecursion (λ c. is_markup c ≡ false) (flat_map xml_char name)

-- a name in Mermaid has no quote, and nothing of HTML or Markdown
abbrev pub MermaidHasNoSpecial : Type 0
MermaidHasNoSpecial =
    (name : List ℕ) → AllByRecursion (λ c. is_special c ≡ false) (flat_map mermaid_char name)
