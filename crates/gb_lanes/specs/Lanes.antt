-- Four messages side by side: each word of the state is a vector, with one lane for each message.
use Rattle.std.specs.Prelude.{ℕ, List, [], ◌∷◌, map, slice_index, slice_index_or}

-- lane j of vector k
abbrev pub lane_at : List (List ℕ) → ℕ → ℕ → ℕ
lane_at x k j = slice_index (slice_index_or x k []) j

-- the eight words of message j: of its hash value, or of its working variables
abbrev pub lane : ℕ → List (List ℕ) → List ℕ
lane j x =
    lane_at x 0 j ∷ lane_at x 1 j ∷ lane_at x 2 j ∷ lane_at x 3 j
    ∷ lane_at x 4 j ∷ lane_at x 5 j ∷ lane_at x 6 j ∷ lane_at x 7 j ∷ []

-- the words of message j in a window of any length
abbrev pub window_lane : ℕ → List (List ℕ) → List ℕ
window_lane j w = map (λ v. slice_index v j) w

-- which of four messages, or of their blocks, is in lane j
abbrev pub in_lane : List ℕ → List ℕ → List ℕ → List ℕ → ℕ → List ℕ
in_lane a b c d j = slice_index_or (a ∷ b ∷ c ∷ d ∷ []) j []
