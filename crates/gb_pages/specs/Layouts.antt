-- Pages in a layout, filled with values of their front matter.
use Rattle.std.specs.Prelude.{ℕ, ◌+◌, ◌==◌, Bool, true, false, List, [], ◌∷◌, ◌++◌, codes, decimal, take}
use Rattle.std.specs.Prelude.{if◌then◌else◌, bytes_eq, count_by, Option, None, Some, unwrap_or}
use Rattle.std.specs.Prelude.{Result, Ok, Err}
use Rattle.std.specs.List.{flat_map}
use Rattle.std.specs.Option.{option_map}
use Rattle.std.specs.Str.{is_utf8}
use Rattle.memchr.specs.Find.{first_of, matches}
use Rattle.gb_core.specs.declared.value.Value.{Value}
use Rattle.gb_action.specs.Files.{Tree, Trees, file_at, tree_at}
use Rattle.gb_action.specs.Shapes.{source}
use Rattle.gb_with.specs.Renamed.{onto}
use Rattle.gb_pages.specs.FrontMatter.{cut, front_matter, parts, title_of, value_of}
use Rattle.gb_pages.specs.Paths.{page_path, stem, token, unless_more}
use Rattle.gb_pages.specs.Contents.{contents}
use Rattle.gb_markdown.specs.Addresses.{address_of}
use Rattle.gb_markdown.specs.Pieces.{Piece, Close, Link, Text, escaped, written}
use Rattle.gb_markdown.specs.declared.rendered.Element.TheVariants as elements

-- ---- The value that replaces a name

-- the relative path from a page to the folder of the site: `../` for each folder that contains the page
abbrev pub root_of : List ℕ → List ℕ
root_of path = flat_map (λ b. if b == 47 then codes "../" else []) path

-- the page itself, a list of links to its headings, the links to the pages before and after it, the relative
-- path to the folder of the site, its title, or a value of its front matter
abbrev pub value_for : List ℕ → List ℕ → List ℕ → List ℕ → List ℕ → List ℕ → Option (List ℕ)
value_for previous next path text page name =
    if bytes_eq name (codes "content") then Some page
    else if bytes_eq name (codes "contents") then Some (contents page)
    else if bytes_eq name (codes "previous") then Some previous
    else if bytes_eq name (codes "next") then Some next
    else if bytes_eq name (codes "root") then Some (root_of path)
    else if bytes_eq name (codes "title") then Some (escaped (title_of text (unwrap_or (stem path) path)))
    else option_map escaped (value_of name (front_matter text))

-- ---- Layouts

-- bytes before others, or the first failure
abbrev pub before : Result (List ℕ) (List ℕ) → Result (List ℕ) (List ℕ) → Result (List ℕ) (List ℕ)
before (Err name) others = Err name
before (Ok bytes) (Err name) = Err name
before (Ok bytes) (Ok others) = Ok (bytes ++ others)

-- the value of a name and the rest after it, or the name that has no value
abbrev pub replaced : List ℕ → List ℕ → Option (List ℕ) → Result (List ℕ) (List ℕ)
replaced name rest None = Err name
replaced name rest (Some value) = Ok (value ++ rest)

-- the text after `{{`: a name and `}}`, or that sign itself and text
abbrev pub after_braces : (List ℕ → Option (List ℕ)) → List ℕ → Option (List ℕ × List ℕ)
    → Result (List ℕ) (List ℕ)
after_braces value part None = Ok (codes "{{" ++ part)
after_braces value part (Some found) = replaced found.0 found.1 (value found.0)

-- the parts between `{{`; each part except the first follows one
abbrev pub filled : (List ℕ → Option (List ℕ)) → Bool → List (List ℕ) → Result (List ℕ) (List ℕ)
filled value following [] = Ok []
filled value false (part ∷ others) = before (Ok part) (filled value true others)
filled value true (part ∷ others) =
    before (after_braces value part (cut (codes "}}") part)) (filled value true others)

-- the bytes, or the name without a value
abbrev pub ended : List ℕ → Option (List ℕ) → Result (List ℕ) (List ℕ)
ended bytes None = Ok bytes
ended bytes (Some name) = Err name

-- ---- Pages

-- the line where a text occurs first
abbrev pub line_of : List ℕ → List ℕ → ℕ
line_of sign text = count_by (λ b. b == 10) (take (unwrap_or (first_of (matches text sign 0)) 0) text) + 1

-- a name or an address as it is printed
abbrev pub shown : List ℕ → List ℕ
shown name = if is_utf8 name then name else codes "(no text)"

-- the message for a name that the layout has and the page does not
abbrev pub unknown : List ℕ → List ℕ → List ℕ → List ℕ → List ℕ
unknown at layout path name =
    at ++ codes ":" ++ decimal (line_of (token name) layout) ++ codes ": " ++ path ++ codes " has no "
    ++ shown name

abbrev pub or_unknown : List ℕ → List ℕ → List ℕ → Result (List ℕ) (List ℕ) → Result (List ℕ) (List ℕ)
or_unknown at layout path (Ok bytes) = Ok bytes
or_unknown at layout path (Err name) = Err (unknown at layout path name)

-- The layout of a page, from the path and the bytes of the layout, the links to the pages before and after
-- it, the path and the text of the page, and the Markdown output of that text.
abbrev pub laid_out_page : List ℕ → List ℕ → List ℕ → List ℕ → List ℕ → List ℕ → List ℕ
    → Result (List ℕ) (List ℕ)
laid_out_page at layout previous next path text page =
    or_unknown at layout path
    (filled (value_for previous next path text page) false (parts (codes "{{") layout))

-- the file of a page, if it has a path
abbrev pub laid_out_file : List ℕ → Option (List ℕ) → Result (List ℕ) (List ℕ)
    → Result (List ℕ × List ℕ) (List ℕ)
laid_out_file path None made = Err (path ++ codes ": no path of a page")
laid_out_file path (Some new) (Err text) = Err text
laid_out_file path (Some new) (Ok bytes) = Ok (new, bytes)

-- the text of a page; empty if there is none
abbrev pub text_at : Tree → List ℕ → List ℕ
text_at texts path = unwrap_or (file_at texts path) []

-- ---- Pages before and after a page

abbrev pub link_to : List ℕ → List ℕ → Option (List ℕ) → Option (List ℕ) → List Piece
link_to path text (Some name) (Some new) =
    Link (root_of path ++ address_of new) [] ∷ Text (title_of text name) ∷ Close elements.Anchor ∷ []
link_to path text None new = []
link_to path text (Some name) None = []

-- the link from a page to another, under the title of the other, if there is one
abbrev pub neighbour : Tree → List ℕ → Option (List ℕ) → List ℕ
neighbour texts path None = []
neighbour texts path (Some other) =
    written (link_to path (text_at texts other) (stem other) (page_path (stem other)))

abbrev pub first_path : Tree → Option (List ℕ)
first_path [] = None
first_path (file ∷ files) = Some file.0

-- ---- All pages

-- the file of a page between one at a path and others
abbrev pub laid_out_between : List ℕ → List ℕ → Tree → Option (List ℕ) → List ℕ → List ℕ → Tree
    → Result (List ℕ × List ℕ) (List ℕ)
laid_out_between at layout texts before path page others =
    laid_out_file path (page_path (stem path))
    (laid_out_page at layout (neighbour texts path before) (neighbour texts path (first_path others)) path
    (text_at texts path) page)

-- the pages in the order of their paths, after one at a path
abbrev pub all_laid_out : List ℕ → List ℕ → Tree → Option (List ℕ) → Tree → Result Tree (List ℕ)
all_laid_out at layout texts before [] = Ok []
all_laid_out at layout texts before (file ∷ files) =
    onto (laid_out_between at layout texts before file.0 file.1 files)
    (all_laid_out at layout texts (Some file.0) files)

-- there is one layout
abbrev pub in_one_layout : Tree → Tree → Tree → Result Tree (List ℕ)
in_one_layout texts files [] = Err (codes "no layout")
in_one_layout texts files (layout ∷ others) =
    unless_more others (all_laid_out layout.0 layout.1 texts None files)

-- the pages of `src`, with the front matter of the texts of `texts`, in the one file of `layout`
abbrev pub site_pages : List Value → Trees → Result Tree (List ℕ)
site_pages arguments trees =
    in_one_layout (tree_at trees (codes "texts")) (tree_at trees source) (tree_at trees (codes "layout"))
