-- The page that links to all pages.
use Rattle.std.specs.Prelude.{ℕ, List, [], ◌∷◌, ◌++◌, if◌then◌else◌, codes, bytes_eq, Option, None, Some}
use Rattle.std.specs.Prelude.{Result, Ok, Err, reverse}
use Rattle.std.specs.List.{flat_map}
use Rattle.gb_core.specs.declared.value.Value.{Value}
use Rattle.gb_action.specs.Files.{Tree, Trees, tree_at}
use Rattle.gb_action.specs.Shapes.{source}
use Rattle.gb_kinds.specs.Builtin.{first_text, second_text}
use Rattle.gb_markdown.specs.Addresses.{address_of}
use Rattle.gb_pages.specs.Dates.{and_next, date_of, day_path, message_at, with_entry}
use Rattle.gb_pages.specs.FrontMatter.{title_of}
use Rattle.gb_pages.specs.Paths.{page_path, stem}
use Rattle.gb_markdown.specs.Pieces.{Piece, Open, Close, Link, Text, written}
use Rattle.gb_markdown.specs.declared.rendered.Element.TheVariants as elements

-- the link to an address, under a title
abbrev pub linked : List ℕ → List ℕ → List Piece
linked address title =
    Open elements.Item ∷ Link address [] ∷ Text title ∷ Close elements.Anchor ∷ Close elements.Item
    ∷ Text (10 ∷ []) ∷ []

-- the link to the page of a text, from the part of its path before `.md` and the path of the page
abbrev pub entry : List ℕ → Option (List ℕ) → Option (List ℕ) → List Piece
entry text (Some name) (Some path) = linked (address_of path) (title_of text name)
entry text None path = []
entry text (Some name) None = []

abbrev pub entry_of : List ℕ → List ℕ → List ℕ
entry_of path text = written (entry text (stem path) (page_path (stem path)))

-- ---- In the order of names, or of dates

-- the links in the order of the paths
abbrev pub by_name : Tree → List ℕ
by_name files = flat_map (λ file. entry_of file.0 file.1) files

-- the links with that of one more text at its date; a file that is no page has no link, and each page needs
-- a date
abbrev pub with_day : Tree → List ℕ → List ℕ → Option (List ℕ) → Result (Option (List ℕ)) (List ℕ)
    → Result Tree (List ℕ)
with_day days path text None date = Ok days
with_day days path text (Some name) (Err message) = Err message
with_day days path text (Some name) (Ok None) = Err (message_at path 1 (codes "no date"))
with_day days path text (Some name) (Ok (Some date)) =
    with_entry days path (entry_of path text) (day_path date path)

abbrev pub by_day : Tree → Tree → Result Tree (List ℕ)
by_day days [] = Ok days
by_day days (file ∷ files) =
    and_next (λ more. by_day more files)
    (with_day days file.0 file.1 (stem file.0) (date_of file.0 file.1))

-- the latest first
abbrev pub latest_first : Tree → List ℕ
latest_first days = flat_map (λ day. day.1) (reverse days)

-- the links in an order
abbrev pub in_days : Result Tree (List ℕ) → Result (List ℕ) (List ℕ)
in_days (Err text) = Err text
in_days (Ok days) = Ok (latest_first days)

abbrev pub links_by : List ℕ → Tree → Result (List ℕ) (List ℕ)
links_by order files =
    if bytes_eq order (codes "date") then in_days (by_day [] files)
    else if bytes_eq order (codes "") then Ok (by_name files)
    else Err (codes "no order " ++ order)

-- ---- The page

abbrev pub begun : List ℕ → List Piece
begun title =
    Open elements.HeadingOne ∷ Text title ∷ Close elements.HeadingOne ∷ Text (10 ∷ [])
    ∷ Open elements.Items ∷ Text (10 ∷ []) ∷ []

abbrev pub ended_list : List Piece
ended_list = Close elements.Items ∷ Text (10 ∷ []) ∷ []

abbrev pub index_page : List ℕ → List ℕ → List ℕ
index_page title links = written (begun title) ++ (links ++ written ended_list)

abbrev pub one_page : List ℕ → Result (List ℕ) (List ℕ) → Result Tree (List ℕ)
one_page title (Err text) = Err text
one_page title (Ok links) = Ok ((codes "index.html", index_page title links) ∷ [])

-- the arguments: the title, and `date` for the latest page first
abbrev pub indexed : List Value → Trees → Result Tree (List ℕ)
indexed arguments trees =
    one_page (first_text arguments) (links_by (second_text arguments) (tree_at trees source))
