-- Addresses of links.
use Rattle.std.specs.Prelude.{ℕ, ◌==◌, nat_le, Bool, true, false, not, ◌&&◌, ◌||◌, ◌-◌, List, [], ◌∷◌, ◌++◌}
use Rattle.std.specs.Prelude.{codes}
use Rattle.std.specs.Prelude.{if◌then◌else◌, bytes_eq, drop, length, take}
use Rattle.std.specs.List.{flat_map, prefix_len}
use Rattle.std.specs.Char.{eq_ignore_ascii_case, is_ascii_alphanumeric}
use Rattle.percent_encoding.specs.Percent.{percent_encode_byte}

-- ---- Which addresses a link may have

-- neither a control character nor white space
abbrev pub is_visible_byte : ℕ → Bool
is_visible_byte b = not (nat_le b 32 || b == 127)

abbrev pub is_visible : List ℕ → Bool
is_visible [] = true
is_visible (b ∷ others) = is_visible_byte b && is_visible others

-- a `:` precedes each `/`, `?` and `#`
abbrev pub has_scheme : List ℕ → Bool
has_scheme [] = false
has_scheme (b ∷ others) =
    if b == 58 then true else if b == 47 || b == 63 || b == 35 then false else has_scheme others

-- the address begins with these letters, in either case
abbrev pub begins : List ℕ → List ℕ → Bool
begins [] address = true
begins (c ∷ scheme) [] = false
begins (c ∷ scheme) (b ∷ others) = eq_ignore_ascii_case b c && begins scheme others

abbrev pub has_safe_scheme : List ℕ → Bool
has_safe_scheme address =
    not (has_scheme address) || begins (codes "http:") address || begins (codes "https:") address
    || begins (codes "mailto:") address

abbrev pub is_safe : List ℕ → Bool
is_safe address = is_visible address && has_safe_scheme address

-- ---- The address of a text's page

-- the path of an address ends before a query and a fragment
abbrev pub is_in_path : ℕ → Bool
is_in_path b = not (b == 63 || b == 35)

-- an address without scheme and host refers to a file of the site
abbrev pub leads_within : List ℕ → Bool
leads_within address = not (has_scheme address || begins (codes "//") address)

-- a path that ends in `.md` refers to the page of that text, whose path ends in `.html`
abbrev pub as_page : List ℕ → List ℕ → List ℕ
as_page path rest =
    if bytes_eq (drop (length path - 3) path) (codes ".md")
    then take (length path - 3) path ++ (codes ".html" ++ rest) else path ++ rest

abbrev pub page_address : List ℕ → List ℕ
page_address address =
    if leads_within address
    then as_page (take (prefix_len is_in_path address) address) (drop (prefix_len is_in_path address) address)
    else address

-- ---- Addresses in links

-- a letter, a digit, or a sign with a meaning in an address
abbrev pub is_meant : ℕ → Bool
is_meant b =
    is_ascii_alphanumeric b || b == 33 || (nat_le 35 b && nat_le b 47) || b == 58 || b == 59 || b == 61
    || b == 63 || b == 64 || b == 95 || b == 126

-- another byte is written as `%XX`
abbrev pub link_byte : ℕ → List ℕ
link_byte b = if is_meant b then b ∷ [] else percent_encode_byte b

abbrev pub link_address : List ℕ → List ℕ
link_address address = flat_map link_byte address

-- ---- The address of a file

-- a letter, a digit, or one of `-._~/`
abbrev pub is_plain : ℕ → Bool
is_plain b = is_ascii_alphanumeric b || b == 45 || b == 46 || b == 95 || b == 126 || b == 47

-- another byte is written as `%XX`
abbrev pub encoded_byte : ℕ → List ℕ
encoded_byte b = if is_plain b then b ∷ [] else percent_encode_byte b

abbrev pub address_of : List ℕ → List ℕ
address_of path = flat_map encoded_byte path
