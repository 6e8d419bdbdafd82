-- The places of a row that overlap a place.
use Rattle.std.specs.Prelude.{ℕ, ◌≡◌, ◌≤◌, ◌<◌, ◌↔◌, ◌⊎◌, Bool, true, false, not, ◌&&◌, List, [], ◌∷◌, ◌++◌}
use Rattle.std.specs.Prelude.{Option, None, Some, length, Contains, IsTrue}
use Rattle.gb_folder.specs.Files.{Place}
use Rattle.gb_graph.specs.declared.places.TaskPlace.{TaskPlace}
use Rattle.gb_graph.specs.Places.{place_at, is_before}

-- the indices of the places that pass the test are found too
abbrev pub FindsToo : List TaskPlace → (Place → Bool) → List ℕ → List ℕ → Type 0
FindsToo row test old new = (index : ℕ) → Contains new index
    ↔ (Contains old index ⊎ ((index < length row) × IsTrue (test (place_at row index))))

-- from the one text on, and before the other
abbrev pub is_between : List ℕ → List ℕ → Place → Bool
is_between from to place = not (is_before place from) && is_before place to

-- the text, followed by this byte if there is one
abbrev pub with_sign : List ℕ → Option ℕ → List ℕ
with_sign text None = text
with_sign text (Some sign) = text ++ sign ∷ []

-- as many places as sort before the text are no fewer than the one number, and no more than the other
pub record AreBounds (row : List TaskPlace) (text : List ℕ) (low high : ℕ) : Type 0 where
  pub ordered : low ≤ high
  pub within : high ≤ length row
  pub below : (i : ℕ) → i < low → is_before (place_at row i) text ≡ true
  pub above : (i : ℕ) → high ≤ i → i < length row → is_before (place_at row i) text ≡ false
