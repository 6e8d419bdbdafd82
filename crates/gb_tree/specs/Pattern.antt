-- Patterns, and the paths that they match.
use Rattle.std.specs.Prelude.{ℕ, Bool, true, false, not, ◌&&◌, ◌||◌, ◌==◌, List, [], ◌∷◌, ◌++◌, if◌then◌else◌}
use Rattle.std.specs.Prelude.{codes, bytes_eq}
use Rattle.std.specs.List.{before_first, before_last, list_any, ends_with}
use Rattle.std.specs.Str.{chars}
use Rattle.gb_core.specs.Place.{is_place, segments}

-- the list and each of its ends
abbrev pub ends_of : {X : Type 0} → List X → List (List X)
ends_of [] = [] ∷ []
ends_of (x ∷ xs) = (x ∷ xs) ∷ ends_of xs

-- A list of elements against a pattern: an item of the pattern that is `any` matches any number of elements,
-- zero included, and each other item matches one element that fits it.
abbrev pub matches_by : {P X : Type 0} → (P → Bool) → (P → X → Bool) → List P → List X → Bool
matches_by any fits [] [] = true
matches_by any fits [] (x ∷ xs) = false
matches_by any fits (p ∷ ps) [] = any p && matches_by any fits ps []
matches_by any fits (p ∷ ps) (x ∷ xs) =
    if any p then list_any (matches_by any fits ps) (ends_of (x ∷ xs))
    else fits p x && matches_by any fits ps xs

-- in a segment `*` matches any characters, `?` matches one, and any other character matches itself
abbrev pub is_star : ℕ → Bool
is_star p = p == 42

abbrev pub represents : ℕ → ℕ → Bool
represents p c = (p == 63) || (p == c)

abbrev pub wild_matches : List ℕ → List ℕ → Bool
wild_matches pattern text = matches_by is_star represents (chars pattern) (chars text)

-- a wildcard byte
abbrev pub is_wild : ℕ → Bool
is_wild b = (b == 42) || (b == 63)

-- a segment without one matches itself
abbrev pub segment_matches : List ℕ → List ℕ → Bool
segment_matches pattern text =
    if list_any is_wild pattern then wild_matches pattern text else bytes_eq pattern text

-- in a path the segment `**` matches any segments
abbrev pub is_double_star : List ℕ → Bool
is_double_star segment = bytes_eq segment (codes "**")

abbrev pub path_matches : List ℕ → List ℕ → Bool
path_matches pattern path = matches_by is_double_star segment_matches (segments pattern) (segments path)

-- a last '/' is short for "/**"
abbrev pub spelled_out : List ℕ → List ℕ
spelled_out text = if ends_with (λ a b. a == b) text (codes "/") then text ++ codes "**" else text

abbrev pub is_backslash : ℕ → Bool
is_backslash b = b == 92

-- a place, once it is written in full, without backslashes
abbrev pub is_pattern : List ℕ → Bool
is_pattern text = is_place (spelled_out text) && not (list_any is_backslash text)

-- ---- Where its matches are

-- the text before the first `*` and before the first `?`
abbrev pub plain_prefix : List ℕ → List ℕ
plain_prefix pattern = before_first (λ b. b == 63) (before_first (λ b. b == 42) pattern)

-- The folder before its first `*` or `?`; a pattern that has neither is its own front.
abbrev pub prefix_of : List ℕ → List ℕ
prefix_of pattern =
    if list_any is_wild pattern then before_last (λ b. b == 47) (plain_prefix pattern) else pattern
