-- Tables.
use Rattle.std.specs.Prelude.{ℕ, ◌+◌, ◌==◌, Bool, false, not, ◌&&◌, ◌||◌, List, [], ◌∷◌, ◌++◌}
use Rattle.std.specs.Prelude.{if◌then◌else◌, map, take, drop, Option, option_and_then}
use Rattle.std.specs.List.{flat_map}
use Rattle.std.specs.Option.{option_map}
use Rattle.memchr.specs.Find.{first_of, matches}
use Rattle.bstr.specs.Text.{lines_of, without_terminator}
use Rattle.gb_markdown.specs.Runs.{is_space, trimmed}
use Rattle.gb_markdown.specs.Lines.{without_signs, words_of}
use Rattle.gb_markdown.specs.Targets.{is_hidden}
use Rattle.gb_markdown.specs.References.{Refs}
use Rattle.gb_markdown.specs.Inline.{inline}
use Rattle.gb_markdown.specs.Pieces.{Piece, Open, Close, Text}
use Rattle.gb_markdown.specs.declared.rendered.Element.{Element}
use Rattle.gb_markdown.specs.declared.rendered.Element.TheVariants as elements

abbrev pub line_end : Piece
line_end = Text (10 ∷ [])

-- how deep labels may be nested
unfoldable pub words_depth : ℕ
words_depth = 6

abbrev pub inline_of : Refs → List ℕ → List Piece
inline_of refs text = inline words_depth refs text

-- a text in an element
abbrev pub words_in : Refs → Element → List ℕ → List Piece
words_in refs element text = Open element ∷ inline_of refs text ++ Close element ∷ []

-- two elements end, and the line with them
unfoldable pub both_ended : Element → Element → List Piece
both_ended inner outer = Close inner ∷ Close outer ∷ line_end ∷ []

abbrev pub lines_in : List ℕ → List (List ℕ)
lines_in text = map without_terminator (lines_of text)

-- ---- Which paragraphs are tables

-- the text before the first end of a line, and the text after it
abbrev pub cut : List ℕ → Option (List ℕ × List ℕ)
cut text = option_map (λ k. (take k text, drop (k + 1) text)) (first_of (matches text (10 ∷ []) 0))

-- the first line, the second and the others
abbrev pub rows_of : List ℕ → Option (List ℕ × List ℕ × List ℕ)
rows_of text =
    option_and_then (λ front. option_map (λ back. (front.0, back.0, back.1)) (cut front.1)) (cut text)

-- a line of `-`, `:`, `|` and white space alone, with a `-` and a `|`
abbrev pub is_divider : Bool → Bool → List ℕ → Bool
is_divider dash bar [] = dash && bar
is_divider dash bar (b ∷ rest) =
    (b == 45 || b == 124 || b == 58 || is_space b) && is_divider (dash || b == 45) (bar || b == 124) rest

-- ---- Rows

abbrev pub cell : Refs → Element → List ℕ → List Piece
cell refs element text = words_in refs element (trimmed (words_of text))

-- a `|` ends a cell, unless a backslash hides it
abbrev pub cells : Refs → Element → Bool → List ℕ → List ℕ → List Piece
cells refs element hidden taken [] = cell refs element taken
cells refs element hidden taken (b ∷ rest) =
    if not hidden && b == 124 then cell refs element taken ++ cells refs element false [] rest
    else cells refs element (is_hidden hidden b) (taken ++ b ∷ []) rest

abbrev pub without_bar : List ℕ → List ℕ
without_bar [] = []
without_bar (b ∷ rest) = if b == 124 then rest else b ∷ rest

-- a row may have a `|` before its first cell and after its last
abbrev pub within_bars : List ℕ → List ℕ
within_bars line = without_signs 124 (without_bar (trimmed (words_of line)))

unfoldable pub row : Refs → Element → List ℕ → List Piece
row refs element line =
    Open elements.Row ∷ cells refs element false [] (within_bars line) ++ Close elements.Row ∷ line_end ∷ []

abbrev pub rows : Refs → List (List ℕ) → List Piece
rows refs lines = flat_map (row refs elements.Cell) lines

unfoldable pub table_begun : List Piece
table_begun = Open elements.Table ∷ Open elements.Head ∷ []

unfoldable pub head_ended : List Piece
head_ended = Close elements.Head ∷ Open elements.Body ∷ []

abbrev pub table : Refs → List ℕ → List ℕ → List Piece
table refs head others =
    table_begun ++ (row refs elements.HeadCell head ++ (head_ended
    ++ (rows refs (lines_in others) ++ both_ended elements.Body elements.Table)))
