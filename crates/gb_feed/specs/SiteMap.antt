-- The site map: the addresses of all pages for search engines.
use Rattle.std.specs.Prelude.{ℕ, List, [], ◌∷◌, ◌++◌, codes, Option, None, Some, Result, Ok, Err}
use Rattle.gb_core.specs.declared.value.Value.{Value}
use Rattle.gb_action.specs.Files.{Tree, Trees, tree_at}
use Rattle.gb_action.specs.Shapes.{source}
use Rattle.gb_kinds.specs.Builtin.{first_text}
use Rattle.gb_pages.specs.Dates.{and_next, date_of}
use Rattle.gb_pages.specs.Paths.{page_path, stem}
use Rattle.gb_feed.specs.Sites.{for_site, xml, xml_address}

abbrev pub lastmod : Option (List ℕ) → List ℕ
lastmod None = []
lastmod (Some date) = codes "<lastmod>" ++ (xml date ++ codes "</lastmod>")

-- the address of a page, and its date
abbrev pub location : List ℕ → List ℕ → Option (List ℕ) → List ℕ
location base path date =
    codes "<url><loc>" ++ (xml_address base path ++ (codes "</loc>" ++ (lastmod date ++ codes "</url>\n")))

-- the locations so far with that of one more text; a text that is no page has none
abbrev pub with_location : List ℕ → List ℕ → Option (List ℕ) → Result (Option (List ℕ)) (List ℕ)
    → Result (List ℕ) (List ℕ)
with_location base made None date = Ok made
with_location base made (Some path) (Err message) = Err message
with_location base made (Some path) (Ok date) = Ok (made ++ location base path date)

abbrev pub locations : List ℕ → List ℕ → Tree → Result (List ℕ) (List ℕ)
locations base made [] = Ok made
locations base made (file ∷ files) =
    and_next (λ more. locations base more files)
    (with_location base made (page_path (stem file.0)) (date_of file.0 file.1))

abbrev pub map_begun : List ℕ
map_begun =
    codes "<?xml version=\"1.0\" encoding=\"UTF-8\"?>\n"
    ++ codes "<urlset xmlns=\"http://www.sitemaps.org/schemas/sitemap/0.9\">\n"

-- the one file, after these locations
abbrev pub map_of : Result (List ℕ) (List ℕ) → Result Tree (List ℕ)
map_of (Err message) = Err message
map_of (Ok made) = Ok ((codes "sitemap.xml", made ++ codes "</urlset>\n") ∷ [])

abbrev pub site_map : List ℕ → Tree → Result Tree (List ℕ)
site_map base files = map_of (locations base map_begun files)

abbrev pub mapped : List Value → Trees → Result Tree (List ℕ)
mapped arguments trees =
    for_site (first_text arguments) (site_map (first_text arguments) (tree_at trees source))
