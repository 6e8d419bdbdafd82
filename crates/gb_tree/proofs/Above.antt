-- Which of some places are above a text.
use Rattle.std.proofs.Common.{arith, ◌≡◌, ℕ, Bool, true, false, ◌<◌, ◌||◌, eqb, List, [], ◌∷◌, refl, ◌∙◌, ap}
use Rattle.std.proofs.lemmas.Str.Pattern.{NoCharPasses-char}
use Rattle.std.specs.List.{list_any}
use Rattle.std.specs.Prelude.{bytes_eq}
use Rattle.std.specs.Str.{NoCharPasses}
use Rattle.gb_core.specs.Place.{is_beneath}
use Rattle.gb_folder.specs.Files.{Place}
use Rattle.gb_folder.proofs.Above.{IsSplit}
use Rattle.gb_folder.proofs.Beneath.{above_split, none_above_segment}

mixed : (a b c d : Bool) → ((a || b) || (c || d)) ≡ ((a || c) || (b || d))
mixed true b c d = refl
mixed false true true d = refl
mixed false true false d = refl
mixed false false c d = refl

-- the folder is one of them, or one is above the folder
pub any_above : (text folder last : List ℕ) (places : List Place) → IsSplit text folder last
    → list_any (is_beneath text) places ≡ (list_any (λ other. bytes_eq other folder) places || list_any (is_beneath folder) places)
any_above text folder last [] split = refl
any_above text folder last (place ∷ places) split =
    ap (λ b. b || list_any (is_beneath text) places) (above_split text folder last place split.whole split.segment)
    ∙ ap (λ b. (bytes_eq place folder || is_beneath folder place) || b) (any_above text folder last places split)
    ∙ mixed (bytes_eq place folder) (is_beneath folder place) (list_any (λ other. bytes_eq other folder) places) (list_any (is_beneath folder) places)

-- a text with no slash has no folders
pub none_above : (text : List ℕ) (places : List Place) → NoCharPasses (λ d. eqb d 47) text → list_any (is_beneath text) places ≡ false
none_above text [] clear = refl
none_above text (place ∷ places) clear =
    let small : 47 < 128 = omega arith in
    ap (λ b. b || list_any (is_beneath text) places) (none_above_segment text place (λ k h. NoCharPasses-char 47 text k clear small h))
    ∙ none_above text places clear
