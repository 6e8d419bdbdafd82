-- What holds of every page, whatever its text.
use Rattle.std.specs.Prelude.{◌≡◌, ℕ, ◌*◌, ◌==◌, Bool, true, false, List, cond, count_by, length, sum_by}
use Rattle.std.specs.Prelude.{All}
use Rattle.gb_markdown.specs.declared.rendered.Attribute.{Attribute}
use Rattle.gb_markdown.specs.declared.rendered.Attribute.TheVariants as attributes
use Rattle.gb_markdown.specs.Addresses.{address_of, is_safe}
use Rattle.gb_markdown.specs.Pieces.{Piece, Open, Close, Link, Picture, Listing, Coded, Named, Text}
use Rattle.gb_markdown.specs.Pieces.{attributes_of, written}

-- ---- No sign of a text is parsed as one of the page

abbrev pub is_tag : Piece → Bool
is_tag (Open element) = true
is_tag (Close element) = true
is_tag (Link address title) = true
is_tag (Picture address shown title) = true
is_tag (Listing first) = true
is_tag (Coded language) = true
is_tag (Named element name) = true
is_tag (Text text) = false

-- how many pieces are no text
abbrev pub tags : List Piece → ℕ
tags pieces = sum_by (λ piece. cond (is_tag piece) 1 0) pieces

-- how many double quotes the attributes of a tag need
abbrev pub quotes_of : Piece → ℕ
quotes_of piece = 2 * length (attributes_of piece)

abbrev pub quotes : List Piece → ℕ
quotes pieces = sum_by quotes_of pieces

-- Whatever the texts, addresses and other values, a page has one `<` and one `>` for each piece that is no
-- text, two double quotes for each attribute of these, and no other.
abbrev pub TextsAreEscaped : Type 0
TextsAreEscaped =
    (pieces : List Piece) → (count_by (λ b. b == 60) (written pieces) ≡ tags pieces)
    × (count_by (λ b. b == 62) (written pieces) ≡ tags pieces)
    × (count_by (λ b. b == 34) (written pieces) ≡ quotes pieces)

-- ---- Addresses

-- an attribute that holds an address holds a safe one
abbrev pub LeadsToSafety : Attribute × List ℕ → Type 0
LeadsToSafety (attributes.Href, address) = is_safe address ≡ true
LeadsToSafety (attributes.Source, address) = is_safe address ≡ true
LeadsToSafety (attributes.Shown, value) = Unit {0}
LeadsToSafety (attributes.Title, value) = Unit {0}
LeadsToSafety (attributes.Language, value) = Unit {0}
LeadsToSafety (attributes.Start, value) = Unit {0}
LeadsToSafety (attributes.Name, value) = Unit {0}

-- Whatever the pieces of a page, no address that is written there has another scheme than `http`, `https` and
-- `mailto`, a control character or white space.
abbrev pub AddressesAreSafe : Type 0
AddressesAreSafe = (piece : Piece) → All LeadsToSafety (attributes_of piece)

-- The address made from a path is safe, so the link to a page always exists.
abbrev pub PathsAreSafe : Type 0
PathsAreSafe = (path : List ℕ) → is_safe (address_of path) ≡ true
