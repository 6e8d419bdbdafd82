-- The address of a site, and texts in XML.
use Rattle.std.specs.Prelude.{ℕ, nat_lt, Bool, ◌&&◌, List, [], ◌++◌, if◌then◌else◌, codes, is_some}
use Rattle.std.specs.Prelude.{Result, Err}
use Rattle.std.specs.List.{flat_map}
use Rattle.gb_action.specs.Files.{Tree}
use Rattle.gb_markdown.specs.Addresses.{address_of, has_scheme, is_safe}
use Rattle.gb_markdown.specs.Pieces.{escaped_byte}
use Rattle.gb_pages.specs.Paths.{before}

-- a safe address with a scheme, which ends in `/`
abbrev pub is_site : List ℕ → Bool
is_site base = is_safe base && (has_scheme base && is_some (before (codes "/") base))

-- a text as written in XML, without control characters
abbrev pub xml_byte : ℕ → List ℕ
xml_byte b = if nat_lt b 32 then [] else escaped_byte b

abbrev pub xml : List ℕ → List ℕ
xml text = flat_map xml_byte text

-- the address of a page of the site
unfoldable pub xml_address : List ℕ → List ℕ → List ℕ
xml_address base path = xml base ++ xml (address_of path)

-- the one file that is made for a site at an address
abbrev pub for_site : List ℕ → Result Tree (List ℕ) → Result Tree (List ℕ)
for_site base made = if is_site base then made else Err (codes "no address of a site: " ++ base)
