-- Places as a set of texts.
use Rattle.std.specs.Prelude.{◌≡◌, ℕ, List, String, bytes_eq}
use Rattle.std.specs.BTreeSet.{BTreeSet, contains_text}
use Rattle.std.specs.Global.{Global}
use Rattle.std.specs.List.{list_any}

-- the set has these places, and no others
abbrev pub HoldsPlaces : BTreeSet (String Global) → List (List ℕ) → Type 0
HoldsPlaces met places =
    (text : List ℕ) → contains_text met text ≡ list_any (λ place. bytes_eq place text) places
