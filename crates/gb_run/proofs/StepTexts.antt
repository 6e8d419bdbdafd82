-- The steps of a map by texts, entry by entry.
use Rattle.std.proofs.Common.{◌≡◌, List, [], ◌∷◌, map, Option, refl, ◌∙◌, ap, string_bytes}
use Rattle.std.specs.Borrow.{Bor}
use Rattle.std.specs.Global.{Global}
use Rattle.std.specs.Option.{option_copied}
use Rattle.std.specs.declared.string.String.{String}
use Rattle.std.specs.declared.cmp.Ordering.TheVariants.{Less, Equal, Greater}
use Rattle.std.specs.BTreeMap.{insert_entry}
use Rattle.std.specs.Cmp.Lexicographic.{slice_cmp}
use Rattle.std.specs.FinMap.Entries.{put, by_order}
use Rattle.std.specs.Ordering.{nat_cmp, match_ordering}
use Rattle.std.specs.String.{string_cmp}
use Rattle.gb_core.specs.Lists.{byte_order}
use Rattle.gb_folder.specs.Files.{Bytes}
use Rattle.gb_run.specs.Steps.{Step}
use Rattle.gb_run.specs.ChangeTexts.{ByText, steps_in}

abbrev Entry : Type 0
Entry = String Global × Option (Bor Bytes)

abbrev shown : List Entry → List Step
shown es = map (λ (e : Entry). (string_bytes e.0, option_copied e.1)) es

put_shown : (key : String Global) (bytes : Option (Bor Bytes)) (es : List Entry) → shown (insert_entry string_cmp es key bytes) ≡ put byte_order (string_bytes key) (option_copied bytes) (shown es)
put_shown key bytes [] = refl
put_shown key bytes (e ∷ es) =
    elim (slice_cmp nat_cmp (string_bytes key) (string_bytes e.0)) as (λ o.
    shown (match_ordering o ((key, bytes) ∷ e ∷ es) ((e.0, bytes) ∷ es) (e ∷ insert_entry string_cmp es key bytes))
    ≡ by_order o ((string_bytes key, option_copied bytes) ∷ (string_bytes e.0, option_copied e.1) ∷ shown es)
    ((string_bytes e.0, option_copied bytes) ∷ shown es)
    ((string_bytes e.0, option_copied e.1) ∷ put byte_order (string_bytes key) (option_copied bytes) (shown es))) [
      | Less ↦ refl
      | Equal ↦ refl
      | Greater ↦ ap (λ (steps : List Step). (string_bytes e.0, option_copied e.1) ∷ steps) (put_shown key bytes es)
    ]

-- a step is put
pub put_by_text : (held new : ByText) (key : String Global) (bytes : Option (Bor Bytes))
    → new.entries ≡ insert_entry string_cmp held.entries key bytes → steps_in new ≡ put byte_order (string_bytes key) (option_copied bytes) (steps_in held)
put_by_text held new key bytes is = ap shown is ∙ put_shown key bytes held.entries
