-- No other file is in the way of a file that exists.
use Rattle.std.proofs.Common.{◌≡◌, ℕ, true, false, cond, not, List, [], ◌∷◌, Some, refl, ◌∙◌, ap}
use Rattle.std.proofs.lemmas.Bool.{and_parts, not-true}
use Rattle.std.proofs.lemmas.Option.{none-some}
use Rattle.std.specs.Cmp.Lexicographic.{slice_cmp}
use Rattle.std.specs.List.{list_all}
use Rattle.std.specs.Ordering.{nat_cmp, is_eq}
use Rattle.gb_folder.specs.Files.{Files, IsFolder, file_at, is_blocked}
use Rattle.gb_folder.proofs.Held.{equal_from}
use Rattle.gb_folder.proofs.Sound.{same_from}

free_among : (all files : Files) (place bytes : List ℕ) → list_all (λ (file : List ℕ × List ℕ). not (is_blocked all file.0)) files ≡ true → file_at files place ≡ Some bytes → is_blocked all place ≡ false
free_among all [] place bytes sound exists = absurd (none-some bytes exists)
free_among all (file ∷ files) place bytes sound exists =
    let parts = and_parts (not (is_blocked all file.0)) _ sound in
    elim (is_eq (slice_cmp nat_cmp place file.0)) as (λ b. is_eq (slice_cmp nat_cmp place file.0) ≡ b → cond b (Some file.1) (file_at files place) ≡ Some bytes → is_blocked all place ≡ false) [
      | true ↦ λ is _. ap (is_blocked all) (same_from place file.0 (equal_from _ is)) ∙ not-true _ parts.0
      | false ↦ λ _ later. free_among all files place bytes parts.1 later
    ] refl exists

pub free_at : (files : Files) (place bytes : List ℕ) → IsFolder files → file_at files place ≡ Some bytes → is_blocked files place ≡ false
free_at files place bytes sound exists = free_among files files place bytes sound.none_blocked exists
