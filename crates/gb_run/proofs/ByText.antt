-- The files of a map by texts, entry by entry.
use Rattle.std.proofs.Common.{◌≡◌, List, [], ◌∷◌, map, refl, ◌∙◌, ap, string_bytes}
use Rattle.std.specs.Global.{Global}
use Rattle.std.specs.declared.string.String.{String}
use Rattle.std.specs.declared.cmp.Ordering.TheVariants.{Less, Equal, Greater}
use Rattle.std.specs.BTreeMap.{insert_entry}
use Rattle.std.specs.Cmp.Lexicographic.{slice_cmp}
use Rattle.std.specs.FinMap.Entries.{put, by_order}
use Rattle.std.specs.Ordering.{nat_cmp, match_ordering}
use Rattle.std.specs.String.{string_cmp}
use Rattle.gb_core.specs.Lists.{byte_order}
use Rattle.gb_folder.specs.Files.{Bytes, Files, with_file}
use Rattle.gb_run.specs.Texts.{ByText, files_in}

abbrev Entry : Type 0
Entry = String Global × Bytes

put_shown : (key : String Global) (bytes : Bytes) (es : List Entry)
    → map (λ e. (string_bytes e.0, e.1)) (insert_entry string_cmp es key bytes) ≡ put byte_order (string_bytes key) bytes (map (λ e. (string_bytes e.0, e.1)) es)
put_shown key bytes [] = refl
put_shown key bytes (e ∷ es) =
    elim (slice_cmp nat_cmp (string_bytes key) (string_bytes e.0)) as (λ o.
    map (λ (e : Entry). (string_bytes e.0, e.1)) (match_ordering o ((key, bytes) ∷ e ∷ es) ((e.0, bytes) ∷ es) (e ∷ insert_entry string_cmp es key bytes))
    ≡ by_order o ((string_bytes key, bytes) ∷ (string_bytes e.0, e.1) ∷ map (λ e. (string_bytes e.0, e.1)) es)
    ((string_bytes e.0, bytes) ∷ map (λ e. (string_bytes e.0, e.1)) es)
    ((string_bytes e.0, e.1) ∷ put byte_order (string_bytes key) bytes (map (λ e. (string_bytes e.0, e.1)) es))) [
      | Less ↦ refl
      | Equal ↦ refl
      | Greater ↦ ap (λ (files : Files). (string_bytes e.0, e.1) ∷ files) (put_shown key bytes es)
    ]

-- a file is put
pub put_by_text : (held new : ByText) (key : String Global) (bytes : Bytes)
    → new.entries ≡ insert_entry string_cmp held.entries key bytes → files_in new ≡ with_file (files_in held) (string_bytes key) bytes
put_by_text held new key bytes is = ap (λ (es : List Entry). map (λ e. (string_bytes e.0, e.1)) es) is ∙ put_shown key bytes held.entries
