-- How a match advances along a pattern: before which of its items a match can end once a text has been read.
use Rattle.std.specs.Prelude.{Bool, true, false, ◌&&◌, ◌||◌, List, [], ◌∷◌, if◌then◌else◌, Option, None, Some}
use Rattle.gb_tree.specs.Pattern.{matches_by}

-- One more element is read; it fits some items of the pattern. `entered`: a match reaches the position before
-- the first item; `waiting`: a match was there that had read nothing of the element.
abbrev pub pass : {P : Type 0} → (P → Bool) → (P → Bool) → Bool → Bool → List Bool → List P → List Bool × Bool
pass any fits entered waiting states [] = (states, entered)
pass any fits entered waiting [] (p ∷ ps) = ([], entered)
pass any fits entered waiting (existed ∷ states) (p ∷ ps) =
    let here = existed || waiting in
    let exists = entered || (any p && here) in
    let rest = pass any fits (if any p then exists else here && fits p) (any p && here) states ps in
    (exists ∷ rest.0, rest.1)

-- one of the matches along the pattern, or at its end, continues to the text's end
abbrev pub goes_on : {P X : Type 0} → (P → Bool) → (P → X → Bool) → List Bool → List P → Bool → List X → Bool
goes_on any fits states [] ended xs = ended && matches_by any fits [] xs
goes_on any fits [] (p ∷ ps) ended xs = false
goes_on any fits (exists ∷ states) (p ∷ ps) ended xs =
    (exists && matches_by any fits (p ∷ ps) xs) || goes_on any fits states ps ended xs

-- whether what was read fits an item; where nothing was read it fits none
abbrev pub fits_read : {P X : Type 0} → (P → X → Bool) → Option X → P → Bool
fits_read fits None p = false
fits_read fits (Some x) p = fits p x

abbrev pub is_start : {X : Type 0} → Option X → Bool
is_start None = true
is_start (Some x) = false
