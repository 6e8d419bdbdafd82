-- The paths of pages, and kinds that make all pages at once.
use Rattle.std.specs.Prelude.{ℕ, ◌-◌, ◌&&◌, Bool, List, [], ◌∷◌, ◌++◌, if◌then◌else◌, codes, bytes_eq, length}
use Rattle.std.specs.Prelude.{take, drop, Option, None, Some, Result, Ok, Err, is_some}
use Rattle.std.specs.Option.{option_or}
use Rattle.std.specs.Str.{is_utf8}
use Rattle.memchr.specs.Find.{first_of, matches}
use Rattle.gb_kinds.specs.Contents.{replaced}
use Rattle.gb_core.specs.Place.{is_rel_path}
use Rattle.gb_core.specs.declared.value.Value.{Value}
use Rattle.gb_action.specs.Files.{Tree, Trees, tree_at}
use Rattle.gb_action.specs.Shapes.{source}
use Rattle.gb_kinds.specs.Builtin.{first_text}
use Rattle.gb_with.specs.Renamed.{onto}

-- the path that these bytes form, if they form one
abbrev pub as_path : List ℕ → Option (List ℕ)
as_path text = if is_utf8 text && is_rel_path text then Some text else None

-- the text before an ending
abbrev pub before : List ℕ → List ℕ → Option (List ℕ)
before ending path =
    if bytes_eq (drop (length path - length ending) path) ending
    then Some (take (length path - length ending) path) else None

-- the text before `.md`
abbrev pub stem : List ℕ → Option (List ℕ)
stem path = before (codes ".md") path

-- the same, or the text before `.markdown`
abbrev pub front : List ℕ → Option (List ℕ)
front path = option_or (stem path) (before (codes ".markdown") path)

-- the path of a text's page: `.html` replaces `.md`
abbrev pub page_path : Option (List ℕ) → Option (List ℕ)
page_path None = None
page_path (Some text) = as_path (text ++ codes ".html")

-- the path of a text's page, without a layout
abbrev pub html_path : List ℕ → Option (List ℕ)
html_path path = page_path (front path)

-- ---- Pages in a layout

-- `{{NAME}}`
abbrev pub token : List ℕ → List ℕ
token name = codes "{{" ++ name ++ codes "}}"

abbrev pub has_token : List ℕ → List ℕ → Bool
has_token sign layout = is_some (first_of (matches layout sign 0))

-- the layout with a page replacing each token
abbrev pub filled : List ℕ → List ℕ → List ℕ → List ℕ
filled sign layout page = replaced layout sign page

-- the file of a page
abbrev pub page_at : List ℕ → List ℕ → List ℕ × List ℕ → Option (List ℕ) → Result (List ℕ × List ℕ) (List ℕ)
page_at sign layout file None = Err (file.0 ++ codes ": no path of a page")
page_at sign layout file (Some path) = Ok (path, filled sign layout file.1)

abbrev pub all_pages : List ℕ → List ℕ → Tree → Result Tree (List ℕ)
all_pages sign layout [] = Ok []
all_pages sign layout (file ∷ files) =
    onto (page_at sign layout file (page_path (stem file.0))) (all_pages sign layout files)

-- the pages of all files in a layout that has a token
abbrev pub in_layout : List ℕ → Tree → List ℕ → List ℕ → Result Tree (List ℕ)
in_layout sign files path layout =
    if has_token sign layout then all_pages sign layout files else Err (path ++ codes ": no " ++ sign)

abbrev pub unless_more : Tree → Result Tree (List ℕ) → Result Tree (List ℕ)
unless_more [] made = made
unless_more (file ∷ files) made = Err (codes "more than one layout")

-- there is one layout
abbrev pub laid_out : List ℕ → Tree → Tree → Result Tree (List ℕ)
laid_out name files [] = Err (codes "no layout")
laid_out name files (layout ∷ others) = unless_more others (in_layout (token name) files layout.0 layout.1)

-- the name of the token: the argument, or `page` if it is left out
abbrev pub token_name : List Value → List ℕ
token_name [] = codes "page"
token_name (argument ∷ others) = first_text (argument ∷ others)

abbrev pub templated : List Value → Trees → Result Tree (List ℕ)
templated arguments trees =
    laid_out (token_name arguments) (tree_at trees source) (tree_at trees (codes "layout"))
