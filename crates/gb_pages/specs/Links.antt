-- Dead links of pages.
use Rattle.std.specs.Prelude.{ℕ, Bool, true, false, ◌||◌, List, [], ◌∷◌, ◌++◌, codes, decimal}
use Rattle.std.specs.Prelude.{if◌then◌else◌, bytes_eq, length, take, drop, Option, None, Some, is_some}
use Rattle.std.specs.Prelude.{nat_eq, unwrap_or, option_and_then}
use Rattle.std.specs.List.{starts_with}
use Rattle.std.specs.Option.{option_map, option_or}
use Rattle.memchr.specs.Find.{first_of, matches, rmatches}
use Rattle.percent_encoding.specs.Percent.{percent_decode}
use Rattle.gb_core.specs.declared.value.Value.{Value}
use Rattle.gb_action.specs.Files.{Tree, Trees, file_at, tree_at}
use Rattle.gb_action.specs.Shapes.{source}
use Rattle.gb_pages.specs.FrontMatter.{cut, parts, up_to}
use Rattle.gb_pages.specs.Layouts.{line_of, shown}
use Rattle.gb_pages.specs.Paths.{as_path, before}

-- ---- The target of an address

-- the text after it, or nothing
abbrev pub from : List ℕ → List ℕ → List ℕ
from sign text = unwrap_or (option_map (λ half. half.1) (cut sign text)) []

-- the address without its fragment and its query
abbrev pub path_in : List ℕ → List ℕ
path_in address = up_to (codes "?") (up_to (codes "#") address)

-- it has a scheme or a host
abbrev pub leads_out : List ℕ → Bool
leads_out path = is_some (first_of (matches path (codes ":") 0)) || starts_with nat_eq path (codes "//")

-- the folder that contains a path; each path begins with `/`
abbrev pub above : List ℕ → Option (List ℕ)
above path = option_map (λ k. take k path) (first_of (rmatches path (codes "/") (length path)))

abbrev pub step : List ℕ → List ℕ → Option (List ℕ)
step folder segment =
    if bytes_eq segment (codes "..") then above folder
    else if bytes_eq segment (codes ".") then Some folder
    else Some (folder ++ (codes "/" ++ segment))

-- the target of segments from a folder
abbrev pub walk : List ℕ → List (List ℕ) → Option (List ℕ)
walk folder [] = Some folder
walk folder (segment ∷ others) = option_and_then (λ next. walk next others) (step folder segment)

-- the folder from which a path of a page is resolved: the folder of the site if the path begins with `/`
abbrev pub start : List ℕ → List ℕ → List ℕ
start page path =
    if starts_with nat_eq path (codes "/") then [] else unwrap_or (above (codes "/" ++ page)) []

abbrev pub unrooted : List ℕ → List ℕ
unrooted path = if starts_with nat_eq path (codes "/") then drop 1 path else path

abbrev pub target_of : List ℕ → List ℕ → Option (List ℕ)
target_of page path = walk (start page path) (parts (codes "/") (unrooted path))

-- the folder of the site means its `index.html`, as does a path that ends with `/`
abbrev pub as_file : List ℕ → List ℕ
as_file [] = codes "/index.html"
as_file (b ∷ others) =
    if is_some (before (codes "/") (b ∷ others)) then (b ∷ others) ++ codes "index.html" else b ∷ others

-- the file there
abbrev pub file_in : Tree → List ℕ → Option (List ℕ)
file_in files [] = None
file_in files (slash ∷ path) = option_and_then (file_at files) (as_path path)

-- ---- Dead links

abbrev pub id_sign : List ℕ → List ℕ
id_sign fragment = codes " id=\"" ++ (fragment ++ codes "\"")

-- what is wrong with a link to a fragment of a file
abbrev pub wrong_with : List ℕ → Option (List ℕ) → Option (List ℕ)
wrong_with fragment None = Some (codes "no file")
wrong_with fragment (Some bytes) =
    if bytes_eq fragment [] || is_some (first_of (matches bytes (id_sign fragment) 0)) then None
    else Some (codes "no fragment")

-- the file that a path on a page refers to: the page itself if the path is empty
abbrev pub led_to : Tree → List ℕ → List ℕ → List ℕ → Option (List ℕ)
led_to files page html path =
    if bytes_eq path [] then Some html
    else option_and_then (λ target. file_in files (as_file target)) (target_of page path)

abbrev pub wrong_in_site : Tree → List ℕ → List ℕ → List ℕ → Option (List ℕ)
wrong_in_site files page html address =
    wrong_with (percent_decode (from (codes "#") address))
    (led_to files page html (percent_decode (path_in address)))

abbrev pub wrong_link : Tree → List ℕ → List ℕ → List ℕ → Option (List ℕ)
wrong_link files page html address =
    if leads_out (path_in address) then None else wrong_in_site files page html address

-- ---- Pages

-- the message for a link: the page, the line, what is wrong, and the address
abbrev pub line_mark : ℕ → List ℕ
line_mark line = codes ":" ++ decimal line ++ codes ": "

abbrev pub reported : List ℕ → ℕ → List ℕ → List ℕ → List ℕ
reported page line wrong address = page ++ (line_mark line ++ (wrong ++ (codes " at " ++ address)))

-- the line where an address occurs first after a sign
abbrev pub line_in : List ℕ → List ℕ → List ℕ → ℕ
line_in html sign address = line_of (sign ++ (address ++ codes "\"")) html

-- what is wrong with the address after the sign of an attribute
abbrev pub dead_address : Tree → List ℕ → List ℕ → List ℕ → List ℕ → Option (List ℕ)
dead_address files page html sign address =
    option_map (λ wrong. reported page (line_in html sign address) wrong (shown address))
    (wrong_link files page html address)

abbrev pub dead_at : Tree → List ℕ → List ℕ → List ℕ → List ℕ → Option (List ℕ)
dead_at files page html sign part = dead_address files page html sign (up_to (codes "\"") part)

abbrev pub dead_parts : (List ℕ → Option (List ℕ)) → Bool → List (List ℕ) → Option (List ℕ)
dead_parts dead following [] = None
dead_parts dead false (part ∷ others) = dead_parts dead true others
dead_parts dead true (part ∷ others) = option_or (dead part) (dead_parts dead true others)

abbrev pub dead_by : Tree → List ℕ → List ℕ → List ℕ → Option (List ℕ)
dead_by files page html sign = dead_parts (dead_at files page html sign) false (parts sign html)

-- the first dead link of a page, or else its first dead picture
abbrev pub dead_in : Tree → List ℕ → List ℕ → Option (List ℕ)
dead_in files page html =
    if is_some (before (codes ".html") page)
    then option_or (dead_by files page html (codes " href=\"")) (dead_by files page html (codes " src=\""))
    else None

abbrev pub first_dead : Tree → Tree → Option (List ℕ)
first_dead files [] = None
first_dead files (file ∷ others) = option_or (dead_in files file.0 file.1) (first_dead files others)

abbrev pub dead_links : List Value → Trees → Option (List ℕ)
dead_links arguments trees = first_dead (tree_at trees source) (tree_at trees source)
