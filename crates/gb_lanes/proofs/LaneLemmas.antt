-- Facts about each lane, and the layout of words in lanes.
use Rattle.std.proofs.Common.{◌≡◌, ℕ, zero, suc, ◌<◌, ◌+◌, ◌-◌, ◌*◌, ◌/◌, ◌%◌, ◌^◌, List, [], ◌∷◌, length, take, drop, slice_index, slice_set, bit_or, Fits, arith, refl, sym}
use Rattle.std.specs.Int.{w32, rotate_right}
use Rattle.std.specs.Simd.Lanes.{Each1, zip2}
use Rattle.std.proofs.Math.ListN.{get_or-map}
use Rattle.std.proofs.lemmas.List.{map-set}
use Rattle.sha2.specs.Sha256.{compress, hash_after, initial_hash_256, padded_message}
use Rattle.sha2.proofs.Absorbing256.{hash_after_next}
use Rattle.gb_lanes.specs.Lanes.{in_lane, lane_at, window_lane}

-- a property of each of the four lanes
pub below_four : (P : ℕ → Type 0) → P 0 → P 1 → P 2 → P 3 → (j : ℕ) → j < 4 → P j
below_four P p0 p1 p2 p3 zero h = p0
below_four P p0 p1 p2 p3 (suc zero) h = p1
below_four P p0 p1 p2 p3 (suc (suc zero)) h = p2
below_four P p0 p1 p2 p3 (suc (suc (suc zero))) h = p3
below_four P p0 p1 p2 p3 (suc (suc (suc (suc n)))) h = absurd (omega arith)

-- a property of each list of four elements
pub four_lanes : (P : List ℕ → Type 0) → ((a b c d : ℕ) → P (a ∷ b ∷ c ∷ d ∷ [])) → (xs : List ℕ) → length xs ≡ 4 → P xs
four_lanes P p (a ∷ b ∷ c ∷ d ∷ []) h = p a b c d
four_lanes P p [] h = absurd (omega arith)
four_lanes P p (a ∷ []) h = absurd (omega arith)
four_lanes P p (a ∷ b ∷ []) h = absurd (omega arith)
four_lanes P p (a ∷ b ∷ c ∷ []) h = absurd (omega arith)
four_lanes P p (a ∷ b ∷ c ∷ d ∷ e ∷ xs) h = absurd (omega arith)

-- a shift of each lane is a division
abbrev Shifts : ℕ → List ℕ → Type 0
Shifts k a = (j : ℕ) → j < 4
    → slice_index (zip2 (λ x n. x / 2 ^ n) a (k ∷ k ∷ k ∷ k ∷ [])) j ≡ slice_index a j / 2 ^ k

pub shifts_divide : (k : ℕ) → k < 32 → (a : List ℕ) → length a ≡ 4 → Shifts k a
shifts_divide k high =
    four_lanes (Shifts k) (λ a0 a1 a2 a3. below_four _ refl refl refl refl)

-- two shifts of each lane and an or are a rotation
abbrev Rotates : ℕ → List ℕ → Type 0
Rotates k a = (j : ℕ) → j < 4
    → slice_index (zip2 bit_or
    (zip2 (λ x n. x / 2 ^ n) a (k ∷ k ∷ k ∷ k ∷ []))
    (zip2 (λ x n. x * 2 ^ n % 2 ^ 32) a ((32 - k) ∷ (32 - k) ∷ (32 - k) ∷ (32 - k) ∷ []))) j
    ≡ rotate_right w32 (slice_index a j) k

pub shifts_rotate : (k : ℕ) → 0 < k → k < 32 → (a : List ℕ) → length a ≡ 4 → Rotates k a
shifts_rotate k low high =
    let right : k % 32 ≡ k = omega arith in
    let left : (32 - k) % 32 ≡ 32 - k = omega arith in
    four_lanes (Rotates k) (λ a0 a1 a2 a3.
    below_four _ (rw (right, left) refl) (rw (right, left) refl) (rw (right, left) refl) (rw (right, left) refl))

-- word k of message j in a window
pub slice_index-window : (j : ℕ) (w : List (List ℕ)) (k : ℕ) → slice_index (window_lane j w) k ≡ lane_at w k j
slice_index-window j w k = get_or-map (λ (v : List ℕ). slice_index v j) w k []

-- a word written into a window is written into the window of each message
pub window-set : (j : ℕ) (w : List (List ℕ)) (k : ℕ) (x : List ℕ)
    → window_lane j (slice_set w k x) ≡ slice_set (window_lane j w) k (slice_index x j)
window-set j w k x = map-set (λ (v : List ℕ). slice_index v j) w k x

-- the hash value of each message after one more block
pub next_block : (a b c d a' b' c' d' h : List ℕ) (i : ℕ)
    → a' ≡ take 64 (drop (i * 64) (padded_message a)) → b' ≡ take 64 (drop (i * 64) (padded_message b))
    → c' ≡ take 64 (drop (i * 64) (padded_message c)) → d' ≡ take 64 (drop (i * 64) (padded_message d))
    → (j : ℕ) → j < 4 → h ≡ hash_after initial_hash_256 (padded_message (in_lane a b c d j)) i
    → compress h (in_lane a' b' c' d' j) ≡ hash_after initial_hash_256 (padded_message (in_lane a b c d j)) (i + 1)
next_block a b c d a' b' c' d' h i ea eb ec ed j low eh =
    let block : in_lane a' b' c' d' j ≡ take 64 (drop (i * 64) (padded_message (in_lane a b c d j))) =
    below_four (λ k. in_lane a' b' c' d' k ≡ take 64 (drop (i * 64) (padded_message (in_lane a b c d k)))) ea eb ec ed j low in
    rw (eh, block) (sym (hash_after_next initial_hash_256 (padded_message (in_lane a b c d j)) i))

-- each lane is a word
pub lane_fits : (xs : List ℕ) → length xs ≡ 4 → Each1 (Fits w32) xs → (j : ℕ) → j < 4 → slice_index xs j < 2 ^ 32
lane_fits xs long fit j low =
    four_lanes (λ ys. Each1 (Fits w32) ys → (k : ℕ) → k < 4 → slice_index ys k < 2 ^ 32)
    (λ a b c d each. below_four _ each.0.fits each.1.0.fits each.1.1.0.fits each.1.1.1.0.fits) xs long fit j low
