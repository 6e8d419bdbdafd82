-- The contents of a page: a list of links to its headings of the second and the third rank; those of the
-- third rank are nested in the items of those of the second. Headings of other ranks are left out.
use Rattle.std.specs.Prelude.{ℕ, ◌==◌, Bool, true, false, List, [], ◌∷◌, ◌++◌, if◌then◌else◌, codes}
use Rattle.std.specs.Prelude.{Option, None, Some, option_and_then}
use Rattle.std.specs.Option.{option_map, option_or}
use Rattle.gb_pages.specs.FrontMatter.{following, cut, parts, up_to}
use Rattle.gb_pages.specs.declared.contents.Depth.{Depth}
use Rattle.gb_pages.specs.declared.contents.Depth.TheVariants as depths
use Rattle.gb_markdown.specs.Pieces.{Piece, Open, Close, Link, Text, written}
use Rattle.gb_markdown.specs.declared.rendered.Element.TheVariants as elements

abbrev pub line_end : Piece
line_end = Text (10 ∷ [])

-- ---- Headings

-- the words of a page without tags
abbrev pub untagged : Bool → List ℕ → List ℕ
untagged inside [] = []
untagged inside (b ∷ rest) =
    if b == 60 then untagged true rest else if b == 62 then untagged false rest
    else if inside then untagged true rest else b ∷ untagged false rest

-- the id of a heading and its words with tags, after the beginning of its tag
abbrev pub heading_after : List ℕ → List ℕ → Option (List ℕ × List ℕ)
heading_after sign part =
    option_and_then
    (λ rest. option_map (λ half. (half.0, up_to (codes "</h") half.1)) (cut (codes "\">") rest))
    (following sign part)

-- whether a heading of the third rank follows `<h`, or one of the second; its id and its words
abbrev pub heading_in : List ℕ → Option (Bool × List ℕ × List ℕ)
heading_in part =
    option_or (option_map (λ found. (false, found.0, found.1)) (heading_after (codes "2 id=\"") part))
    (option_map (λ found. (true, found.0, found.1)) (heading_after (codes "3 id=\"") part))

-- ---- The list

abbrev pub list_begun : List Piece
list_begun = Open elements.Items ∷ line_end ∷ Open elements.Item ∷ []

abbrev pub item_ended : List Piece
item_ended = Close elements.Item ∷ line_end ∷ Open elements.Item ∷ []

abbrev pub list_ended : List Piece
list_ended = Close elements.Item ∷ line_end ∷ Close elements.Items ∷ line_end ∷ []

-- the list in an item ends, and the item is still open
abbrev pub nested_ended : List Piece
nested_ended = Close elements.Item ∷ line_end ∷ Close elements.Items ∷ []

-- the pieces before an item
abbrev pub item_begun : Bool → Depth → List Piece
item_begun nested depths.Nothing = list_begun
item_begun nested depths.Items = if nested then line_end ∷ list_begun else item_ended
item_begun nested depths.Nested = if nested then item_ended else nested_ended ++ item_ended

abbrev pub deeper : Bool → Depth → Depth
deeper nested depths.Nothing = depths.Items
deeper nested depths.Items = if nested then depths.Nested else depths.Items
deeper nested depths.Nested = if nested then depths.Nested else depths.Items

abbrev pub lists_ended : Depth → List Piece
lists_ended depths.Nothing = []
lists_ended depths.Items = list_ended
lists_ended depths.Nested = nested_ended ++ list_ended

-- the link to a heading, whose words are those of the page without tags
abbrev pub fragment_link : List ℕ → List ℕ → List ℕ
fragment_link id words =
    written (Link (35 ∷ id) [] ∷ []) ++ (untagged false words ++ written (Close elements.Anchor ∷ []))

abbrev pub item_of : Depth → Option (Bool × List ℕ × List ℕ) → List ℕ
item_of deep None = []
item_of deep (Some found) =
    written (item_begun found.0 deep) ++ fragment_link found.1 found.2

abbrev pub depth_after : Depth → Option (Bool × List ℕ × List ℕ) → Depth
depth_after deep None = deep
depth_after deep (Some found) = deeper found.0 deep

-- the items of the parts between `<h`
abbrev pub items_of : Depth → List (List ℕ) → List ℕ
items_of deep [] = written (lists_ended deep)
items_of deep (part ∷ others) =
    item_of deep (heading_in part) ++ items_of (depth_after deep (heading_in part)) others

abbrev pub contents_after : Option (List ℕ × List ℕ) → List ℕ
contents_after None = []
contents_after (Some found) = items_of depths.Nothing (parts (codes "<h") found.1)

abbrev pub contents : List ℕ → List ℕ
contents page = contents_after (cut (codes "<h") page)
