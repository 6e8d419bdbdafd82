-- What a page is made of, and how it is written.
use Rattle.std.specs.Prelude.{ℕ, ◌==◌, List, [], ◌∷◌, ◌++◌, if◌then◌else◌, codes}
use Rattle.std.specs.List.{flat_map}
use Rattle.gb_markdown.specs.declared.rendered.Element.{Element}
use Rattle.gb_markdown.specs.declared.rendered.Element.TheVariants as elements
use Rattle.gb_markdown.specs.declared.rendered.Attribute.{Attribute}
use Rattle.gb_markdown.specs.declared.rendered.Attribute.TheVariants as attributes
use Rattle.gb_markdown.specs.Addresses.{is_safe}

-- the beginning or end of an element, the beginning of a link to an address with a title, a picture at an
-- address, the beginning of a list whose items have numbers, of code in a language, or of an element with a
-- name, or text
pub data Piece : Type 0 where
  Open : Element → Piece
  Close : Element → Piece
  Link : List ℕ → List ℕ → Piece
  Picture : List ℕ → List ℕ → List ℕ → Piece
  Listing : List ℕ → Piece
  Coded : List ℕ → Piece
  Named : Element → List ℕ → Piece
  Text : List ℕ → Piece

abbrev pub name_of : Element → List ℕ
name_of elements.HeadingOne = codes "h1"
name_of elements.HeadingTwo = codes "h2"
name_of elements.HeadingThree = codes "h3"
name_of elements.HeadingFour = codes "h4"
name_of elements.HeadingFive = codes "h5"
name_of elements.HeadingSix = codes "h6"
name_of elements.Paragraph = codes "p"
name_of elements.Items = codes "ul"
name_of elements.Numbered = codes "ol"
name_of elements.Item = codes "li"
name_of elements.Quote = codes "blockquote"
name_of elements.Emphasis = codes "em"
name_of elements.Strong = codes "strong"
name_of elements.Code = codes "code"
name_of elements.Block = codes "pre"
name_of elements.Anchor = codes "a"
name_of elements.Table = codes "table"
name_of elements.Head = codes "thead"
name_of elements.Body = codes "tbody"
name_of elements.Row = codes "tr"
name_of elements.HeadCell = codes "th"
name_of elements.Cell = codes "td"
name_of elements.Image = codes "img"
name_of elements.Rule = codes "hr"
name_of elements.Break = codes "br"

-- `<`, `>`, `&` and the double quote are written by their names
abbrev pub escaped_byte : ℕ → List ℕ
escaped_byte b =
    if b == 60 then codes "&lt;" else if b == 62 then codes "&gt;" else if b == 38 then codes "&amp;"
    else if b == 34 then codes "&quot;" else b ∷ []

abbrev pub escaped : List ℕ → List ℕ
escaped text = flat_map escaped_byte text

-- ---- Attributes

abbrev pub attribute_begun : Attribute → List ℕ
attribute_begun attributes.Href = codes " href=\""
attribute_begun attributes.Source = codes " src=\""
attribute_begun attributes.Shown = codes " alt=\""
attribute_begun attributes.Title = codes " title=\""
attribute_begun attributes.Language = codes " class=\"language-"
attribute_begun attributes.Start = codes " start=\""
attribute_begun attributes.Name = codes " id=\""

abbrev pub attribute_text : Attribute × List ℕ → List ℕ
attribute_text attribute = attribute_begun attribute.0 ++ (escaped attribute.1 ++ 34 ∷ [])

abbrev pub attributes_text : List (Attribute × List ℕ) → List ℕ
attributes_text attributes = flat_map attribute_text attributes

-- an address that is not safe is left out
abbrev pub address_in : Attribute → List ℕ → List (Attribute × List ℕ)
address_in attribute address = if is_safe address then (attribute, address) ∷ [] else []

-- an empty value is left out
abbrev pub value_in : Attribute → List ℕ → List (Attribute × List ℕ)
value_in attribute [] = []
value_in attribute (b ∷ value) = (attribute, b ∷ value) ∷ []

-- the attributes of the tag of a piece
abbrev pub attributes_of : Piece → List (Attribute × List ℕ)
attributes_of (Open element) = []
attributes_of (Close element) = []
attributes_of (Link address title) = address_in attributes.Href address ++ value_in attributes.Title title
attributes_of (Picture address shown title) =
    address_in attributes.Source address
    ++ ((attributes.Shown, shown) ∷ value_in attributes.Title title)
attributes_of (Listing first) = value_in attributes.Start first
attributes_of (Coded language) = value_in attributes.Language language
attributes_of (Named element name) = value_in attributes.Name name
attributes_of (Text text) = []

-- ---- The page

-- the tag that begins an element
abbrev pub tag : Element → List (Attribute × List ℕ) → List ℕ
tag element attributes = 60 ∷ name_of element ++ (attributes_text attributes ++ 62 ∷ [])

abbrev pub piece_text : Piece → List ℕ
piece_text (Open element) = tag element []
piece_text (Close element) = 60 ∷ 47 ∷ name_of element ++ 62 ∷ []
piece_text (Link address title) = tag elements.Anchor (attributes_of (Link address title))
piece_text (Picture address shown title) = tag elements.Image (attributes_of (Picture address shown title))
piece_text (Listing first) = tag elements.Numbered (attributes_of (Listing first))
piece_text (Coded language) = tag elements.Code (attributes_of (Coded language))
piece_text (Named element name) = tag element (attributes_of (Named element name))
piece_text (Text text) = escaped text

abbrev pub written : List Piece → List ℕ
written pieces = flat_map piece_text pieces
