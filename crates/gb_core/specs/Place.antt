-- Places: texts of segments separated by single slashes.
use Rattle.std.specs.Prelude.{◌≡◌, not, nat_le, ◌&&◌, ◌==◌, ◌++◌, ◌||◌, ◌⊎◌, nat_eq, ℕ, Bool, true, List, []}
use Rattle.std.specs.Prelude.{◌∷◌, length, codes, bytes_eq, Option, None, Some}
use Rattle.std.specs.List.{slice_split, starts_with, list_all}

-- the parts between the slashes
abbrev pub segments : List ℕ → List (List ℕ)
segments text = slice_split (λ b. b == 47) text

-- a name that can occur in a folder
abbrev pub is_segment : List ℕ → Bool
is_segment segment =
    not (bytes_eq segment []) && not (bytes_eq segment (codes ".")) && not (bytes_eq segment (codes ".."))

-- neither a control byte nor the delete byte
abbrev pub is_printable : ℕ → Bool
is_printable b = nat_le 32 b && not (b == 127)

-- at most 1,024 bytes; the text is also UTF-8
abbrev pub is_place : List ℕ → Bool
is_place text = nat_le (length text) 1024 && list_all is_printable text && list_all is_segment (segments text)

-- a place, or empty for the root itself
abbrev pub is_rel_path : List ℕ → Bool
is_rel_path [] = true
is_rel_path (c ∷ text) = is_place (c ∷ text)

-- The place lies strictly under the folder: its segments are the folder's and at least one more.
abbrev pub IsBeneath : List ℕ → List ℕ → Type 0
IsBeneath place folder =
    (first : List ℕ) × (rest : List (List ℕ)) × (segments place ≡ segments folder ++ first ∷ rest)

-- equal, or one is under the other
abbrev pub Overlap : List ℕ → List ℕ → Type 0
Overlap a b = (a ≡ b) ⊎ IsBeneath a b ⊎ IsBeneath b a

-- strictly under, by bytes: the place starts with the folder and a slash
abbrev pub is_beneath : List ℕ → List ℕ → Bool
is_beneath place folder = starts_with nat_eq place (folder ++ 47 ∷ [])

-- at it or under it
abbrev pub is_under : List ℕ → List ℕ → Bool
is_under place root = bytes_eq place root || is_beneath place root

-- equal, or one is under the other
abbrev pub overlaps : List ℕ → List ℕ → Bool
overlaps a b = is_under a b || is_under b a

-- a text in a folder, or in no folder
abbrev pub joined : Option (List ℕ) → List ℕ → List ℕ
joined None text = text
joined (Some folder) text = folder ++ 47 ∷ text

-- the place of a path under a root; the empty path is the root itself
abbrev pub beneath : List ℕ → List ℕ → List ℕ
beneath root [] = root
beneath root (c ∷ path) = root ++ 47 ∷ c ∷ path
