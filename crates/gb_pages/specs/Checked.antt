-- What is wrong with pages.
use Rattle.std.specs.Prelude.{ℕ, ◌+◌, ◌==◌, Bool, not, ◌&&◌, ◌||◌, is_some, List, [], ◌∷◌, ◌++◌, codes}
use Rattle.std.specs.Prelude.{if◌then◌else◌, decimal, nat_eq, take}
use Rattle.std.specs.Prelude.{Option, None, Some, count_by}
use Rattle.std.specs.List.{starts_with}
use Rattle.std.specs.Option.{option_map, option_or}
use Rattle.std.specs.Str.{is_utf8}
use Rattle.std.specs.Str.Lossy.{utf8_valid_len}
use Rattle.gb_core.specs.declared.value.Value.{Value}
use Rattle.gb_action.specs.Files.{Tree, Trees, tree_at}
use Rattle.gb_action.specs.Shapes.{source}
use Rattle.gb_pages.specs.FrontMatter.{body, front_matter, halves, heading, value_of}

-- the line with the first byte that is not text
abbrev pub bad_line : List ℕ → ℕ
bad_line bytes = count_by (λ b. b == 10) (take (utf8_valid_len bytes) bytes) + 1

abbrev pub no_text : ℕ → List ℕ
no_text line = decimal line ++ codes ": not UTF-8"

-- front matter begins, but does not end
abbrev pub is_unended : List ℕ → Bool
is_unended text = starts_with nat_eq text (codes "---\n") && not (is_some (halves text))

-- a page begins with a heading, or its front matter has a title
abbrev pub has_title : List ℕ → Bool
has_title text = is_some (heading (body text)) || is_some (value_of (codes "title") (front_matter text))

abbrev pub wrong_text : List ℕ → Option (List ℕ)
wrong_text text =
    if is_unended text then Some (codes "1: no end of the front matter")
    else if has_title text then None else Some (codes "1: no heading")

-- and is valid UTF-8 text
abbrev pub wrong : List ℕ → Option (List ℕ)
wrong bytes = if is_utf8 bytes then wrong_text bytes else Some (no_text (bad_line bytes))

-- after the path of the page
abbrev pub wrong_at : List ℕ → List ℕ → Option (List ℕ)
wrong_at path bytes = option_map (λ text. path ++ codes ":" ++ text) (wrong bytes)

-- the first error of all pages, in the order of their paths
abbrev pub first_wrong : Tree → Option (List ℕ)
first_wrong [] = None
first_wrong (file ∷ files) = option_or (wrong_at file.0 file.1) (first_wrong files)

abbrev pub wrong_in : List Value → Trees → Option (List ℕ)
wrong_in arguments trees = first_wrong (tree_at trees source)
