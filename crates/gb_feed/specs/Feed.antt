-- The Atom feed: the pages that have a date, the latest first.
use Rattle.std.specs.Prelude.{ℕ, List, [], ◌∷◌, ◌++◌, codes, take, length, ◌-◌}
use Rattle.std.specs.Prelude.{Option, None, Some, Result, Ok, Err}
use Rattle.std.specs.List.{slice_get}
use Rattle.gb_core.specs.declared.value.Value.{Value}
use Rattle.gb_action.specs.Files.{Tree, Trees, tree_at}
use Rattle.gb_action.specs.Shapes.{source}
use Rattle.gb_kinds.specs.Builtin.{first_text, second_text}
use Rattle.gb_pages.specs.Dates.{and_next, date_of, day_path, with_entry}
use Rattle.gb_pages.specs.FrontMatter.{title_of}
use Rattle.gb_pages.specs.Listing.{latest_first}
use Rattle.gb_pages.specs.Paths.{page_path, stem}
use Rattle.gb_feed.specs.Sites.{for_site, xml, xml_address}

-- ---- Entries

-- a day at its beginning in UTC
unfoldable pub updated : List ℕ → List ℕ
updated date = codes "<updated>" ++ (xml date ++ codes "T00:00:00Z</updated>\n")

unfoldable pub titled : List ℕ → List ℕ
titled title = codes "<title>" ++ (xml title ++ codes "</title>\n")

-- an address as an id and as a link
abbrev pub id_at : List ℕ → List ℕ
id_at address = codes "<id>" ++ (address ++ codes "</id>\n")

unfoldable pub quoted : List ℕ → List ℕ
quoted value = 34 ∷ value ++ 34 ∷ []

abbrev pub link_at : List ℕ → List ℕ
link_at address = codes "<link href=" ++ (quoted address ++ codes "/>\n")

unfoldable pub at_address : List ℕ → List ℕ
at_address address = id_at address ++ link_at address

unfoldable pub feed_entry : List ℕ → List ℕ → List ℕ → List ℕ → List ℕ
feed_entry base path title date =
    codes "<entry>\n" ++ (titled title ++ (at_address (xml_address base path)
    ++ (updated date ++ codes "</entry>\n")))

-- a text without a date has no entry, and neither has a text that is no page
abbrev pub with_page : List ℕ → Tree → List ℕ → List ℕ → Option (List ℕ) → Option (List ℕ)
    → Result (Option (List ℕ)) (List ℕ) → Result Tree (List ℕ)
with_page base days path text (Some name) (Some page) (Ok (Some date)) =
    with_entry days path (feed_entry base page (title_of text name) date) (day_path date path)
with_page base days path text (Some name) (Some page) (Ok None) = Ok days
with_page base days path text (Some name) (Some page) (Err message) = Err message
with_page base days path text (Some name) None date = Ok days
with_page base days path text None page date = Ok days

abbrev pub with_file : List ℕ → Tree → List ℕ → List ℕ → Result Tree (List ℕ)
with_file base days path text =
    with_page base days path text (stem path) (page_path (stem path)) (date_of path text)

-- the entries of all texts by their dates, added to others
abbrev pub entries : List ℕ → Tree → Tree → Result Tree (List ℕ)
entries base days [] = Ok days
entries base days (file ∷ files) =
    and_next (λ more. entries base more files) (with_file base days file.0 file.1)

-- ---- The feed

unfoldable pub feed_head : List ℕ
feed_head = codes "<?xml version=\"1.0\" encoding=\"UTF-8\"?>\n<feed xmlns=\"http://www.w3.org/2005/Atom\">\n"

-- the address of the feed itself
abbrev pub feed_address : List ℕ → List ℕ
feed_address base = xml_address base (codes "feed.xml")

unfoldable pub self_begun : List ℕ
self_begun = codes "<link rel=\"self\" href="

unfoldable pub self_link : List ℕ → List ℕ
self_link address = self_begun ++ (quoted address ++ codes "/>\n")

unfoldable pub author : List ℕ → List ℕ
author title = codes "<author><name>" ++ (xml title ++ codes "</name></author>\n")

unfoldable pub feed_begun : List ℕ → List ℕ → List ℕ → List ℕ
feed_begun title base date =
    feed_head ++ (titled title ++ (at_address (xml base) ++ (self_link (feed_address base) ++ (author title
    ++ updated date))))

abbrev pub feed_text : List ℕ → List ℕ → Tree → List ℕ → List ℕ
feed_text title base days date =
    feed_begun title base date ++ (latest_first days ++ codes "</feed>\n")

-- its date is that of its latest page
abbrev pub by_latest : List ℕ → List ℕ → Tree → Option (List ℕ × List ℕ) → Result Tree (List ℕ)
by_latest title base days None = Err (codes "no page with a date")
by_latest title base days (Some latest) =
    Ok ((codes "feed.xml", feed_text title base days (take 10 latest.0)) ∷ [])

abbrev pub feed_of : List ℕ → List ℕ → Result Tree (List ℕ) → Result Tree (List ℕ)
feed_of title base (Err text) = Err text
feed_of title base (Ok days) = by_latest title base days (slice_get days (length days - 1))

-- the title and the address of the site
abbrev pub fed : List Value → Trees → Result Tree (List ℕ)
fed arguments trees =
    for_site (second_text arguments)
    (feed_of (first_text arguments) (second_text arguments)
    (entries (second_text arguments) [] (tree_at trees source)))
