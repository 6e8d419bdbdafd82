-- Addresses that are written are safe.
use Rattle.std.proofs.Common.{◌≡◌, ℕ, ◌==◌, arith, Bool, true, false, ◌&&◌, ◌||◌}
use Rattle.std.proofs.Common.{if◌then◌else◌}
use Rattle.std.proofs.Common.{List, [], ◌∷◌, All, refl, ap, ◌∙◌}
use Rattle.std.proofs.lemmas.Bool.Decides.{nat_tests}
use Rattle.std.proofs.lemmas.List.Elements.{All-nil, All-cons, All-head, All-tail, All-append, All-weaker}
use Rattle.percent_encoding.specs.Percent.{percent_encode_byte}
use Rattle.percent_encoding.proofs.PercentLemmas.{IsEscapeByte, All-percent_encode_byte}
use Rattle.gb_markdown.specs.declared.rendered.Attribute.{Attribute}
use Rattle.gb_markdown.specs.declared.rendered.Attribute.TheVariants as attributes
use Rattle.gb_markdown.specs.Addresses.{address_of, encoded_byte, has_safe_scheme, has_scheme, is_plain}
use Rattle.gb_markdown.specs.Addresses.{is_safe}
use Rattle.gb_markdown.specs.Addresses.{is_visible, is_visible_byte}
use Rattle.gb_markdown.specs.Pieces.{Piece, Open, Close, Link, Picture, Listing, Coded, Named, Text}
use Rattle.gb_markdown.specs.Pieces.{address_in, attributes_of, value_in}
use Rattle.gb_markdown.specs.Laws.{LeadsToSafety}

-- ---- Attributes

in_href : (address : List ℕ) → All LeadsToSafety (address_in attributes.Href address)
in_href address = by (is_safe address) refl
  where
    by : (b : Bool) → is_safe address ≡ b
        → All LeadsToSafety (if b then (attributes.Href, address) ∷ [] else [])
    by true e = All-cons LeadsToSafety (attributes.Href, address) [] e (All-nil LeadsToSafety)
    by false e = All-nil LeadsToSafety

in_source : (address : List ℕ) → All LeadsToSafety (address_in attributes.Source address)
in_source address = by (is_safe address) refl
  where
    by : (b : Bool) → is_safe address ≡ b
        → All LeadsToSafety (if b then (attributes.Source, address) ∷ [] else [])
    by true e = All-cons LeadsToSafety (attributes.Source, address) [] e (All-nil LeadsToSafety)
    by false e = All-nil LeadsToSafety

in_value : (attribute : Attribute) → ((value : List ℕ) → LeadsToSafety (attribute, value)) → (value : List ℕ)
    → All LeadsToSafety (value_in attribute value)
in_value attribute none [] = All-nil LeadsToSafety
in_value attribute none (b ∷ value) =
    All-cons LeadsToSafety (attribute, b ∷ value) [] (none (b ∷ value)) (All-nil LeadsToSafety)

pub all_safe : (piece : Piece) → All LeadsToSafety (attributes_of piece)
all_safe (Open element) = All-nil LeadsToSafety
all_safe (Close element) = All-nil LeadsToSafety
all_safe (Link address title) =
    All-append LeadsToSafety (address_in attributes.Href address) (value_in attributes.Title title)
    (in_href address) (in_value attributes.Title (λ value. tt) title)
all_safe (Picture address shown title) =
    All-append LeadsToSafety (address_in attributes.Source address)
    ((attributes.Shown, shown) ∷ value_in attributes.Title title) (in_source address)
    (All-cons LeadsToSafety (attributes.Shown, shown) (value_in attributes.Title title) tt
    (in_value attributes.Title (λ value. tt) title))
all_safe (Listing first) = in_value attributes.Start (λ value. tt) first
all_safe (Coded language) = in_value attributes.Language (λ value. tt) language
all_safe (Named element name) = in_value attributes.Name (λ value. tt) name
all_safe (Text text) = All-nil LeadsToSafety

-- ---- Paths

-- a byte that is written of a path
abbrev IsWritten : ℕ → Type 0
IsWritten b = (is_visible_byte b ≡ true) × ((b == 58) ≡ false)

plain_is_written : (b : ℕ) → is_plain b ≡ true → IsWritten b
plain_is_written b plain = grind (arith, nat_tests)

escape_is_written : (b : ℕ) → IsEscapeByte b → IsWritten b
escape_is_written b escape = grind (arith, nat_tests)

byte_is_written : (b : ℕ) → All IsWritten (encoded_byte b)
byte_is_written b = by (is_plain b) refl
  where
    by : (t : Bool) → is_plain b ≡ t → All IsWritten (if t then b ∷ [] else percent_encode_byte b)
    by true e = All-cons IsWritten b [] (plain_is_written b e) (All-nil IsWritten)
    by false e =
        All-weaker IsEscapeByte IsWritten escape_is_written (percent_encode_byte b)
        (All-percent_encode_byte b)

all_written : (path : List ℕ) → All IsWritten (address_of path)
all_written [] = All-nil IsWritten
all_written (b ∷ path) =
    All-append IsWritten (encoded_byte b) (address_of path) (byte_is_written b) (all_written path)

visible : (address : List ℕ) → All IsWritten address → is_visible address ≡ true
visible [] all = refl
visible (b ∷ address) all =
    ap (λ t. t && is_visible address) (All-head IsWritten b address all).0
    ∙ visible address (All-tail IsWritten b address all)

no_scheme : (address : List ℕ) → All IsWritten address → has_scheme address ≡ false
no_scheme [] all = refl
no_scheme (b ∷ address) all =
    ap (λ t. if t then true else if b == 47 || b == 63 || b == 35 then false else has_scheme address)
    (All-head IsWritten b address all).1
    ∙ by (b == 47 || b == 63 || b == 35) (no_scheme address (All-tail IsWritten b address all))
  where
    by : (t : Bool) → has_scheme address ≡ false → (if t then false else has_scheme address) ≡ false
    by true e = refl
    by false e = e

pub path_is_safe : (path : List ℕ) → is_safe (address_of path) ≡ true
path_is_safe path =
    let all = all_written path in
    ap (λ t. t && has_safe_scheme (address_of path)) (visible (address_of path) all)
    ∙ without_scheme (address_of path) (no_scheme (address_of path) all)
  where
    without_scheme : (address : List ℕ) → has_scheme address ≡ false → has_safe_scheme address ≡ true
    without_scheme address none = grind (arith, nat_tests, none)
