-- The blocks of a message, from its own bytes and from what follows them.
use Rattle.std.proofs.Common.{subst, ◌≡◌, ℕ, suc, ◌+◌, ◌-◌, ◌*◌, ◌/◌, ◌%◌, ◌^◌, ◌<◌, ◌≤◌, List, ◌∷◌, ◌++◌, length, take, drop, replicate, slice_set, refl, sym, ap, ◌∙◌, arith, length-append, length-drop, add-one}
use Rattle.std.proofs.lemmas.List.{take-append-le, drop-append-le, append_assoc, drop-take, take-take, drop-drop, length-replicate, take-replicate, drop-replicate, length-set}
use Rattle.std.proofs.lemmas.Slice.{take-put_mid}
use Rattle.std.proofs.Math.Seq.{set-append_seam, take-append-add}
use Rattle.std.specs.Int.{w64, to_be_bytes}
use Rattle.sha2.specs.Sha256.{padded_message, padding}
use Rattle.gb_lanes.specs.Padded.{IsTail, block_count}
use borrow.Rule.Slice.PartMut.{put_mid}

pub length-padded : (m : List ℕ) → length (padded_message m) ≡ length m + (9 + (119 - length m % 64) % 64)
length-padded m =
    let z : ℕ = (119 - length m % 64) % 64 in
    let bits : List ℕ = to_be_bytes w64 (length m * 8 % 2 ^ 64) in
    let zs : List ℕ = replicate z 0 in
    let zeros : length zs ≡ z = length-replicate z 0 in
    let both : length (zs ++ bits) ≡ z + 8 = length-append zs bits ∙ ap (λ (k : ℕ). k + 8) zeros in
    length-append m (0x80 ∷ zs ++ bits) ∙ ap (λ (k : ℕ). length m + suc k) both ∙ omega arith

-- a block of the message's own bytes
pub block_of_content : (m : List ℕ) (i : ℕ) → i < length m / 64
    → take 64 (drop (i * 64) m) ≡ take 64 (drop (i * 64) (padded_message m))
block_of_content m i low =
    let p : List ℕ = padding (length m) in
    let fits : 64 ≤ length (drop (i * 64) m) = omega (arith, length-drop (i * 64) m) in
    rw (drop-append-le (i * 64) m p (omega arith)) (sym (take-append-le 64 (drop (i * 64) m) p fits))

-- a block of what follows them
pub block_of_tail : (t m : List ℕ) (i : ℕ) → IsTail t m → length m / 64 ≤ i → i < block_count m
    → take 64 (drop ((i - length m / 64) * 64) t) ≡ take 64 (drop (i * 64) (padded_message m))
block_of_tail t m i tail low high =
    let w : ℕ = length m / 64 in
    let p : List ℕ = padded_message m in
    let a : ℕ = (i - w) * 64 in
    let n : ℕ = (block_count m - w) * 64 in
    let place : w * 64 + a ≡ i * 64 = omega arith in
    let prefix : take (a + 64) t ≡ take (a + 64) (drop (w * 64) p) =
    sym (take-take (a + 64) n t (omega arith)) ∙ ap (take (a + 64)) tail in
    sym (drop-take a 64 t) ∙ ap (drop a) prefix ∙ drop-take a 64 (drop (w * 64) p)
    ∙ ap (take 64) (drop-drop a (w * 64) p ∙ ap (λ (k : ℕ). drop k p) place)

abbrev zeros : ℕ → List ℕ
zeros n = replicate n 0

-- the tail's bytes, up to the length of the message
before_length : (rest : List ℕ) (z : ℕ) → z + length rest < 128
    → take (length rest + (z + 1)) (slice_set (rest ++ drop (length rest) (zeros 128)) (length rest) 0x80) ≡ rest ++ 0x80 ∷ zeros z
before_length rest z fits =
    let left : ℕ = 127 - length rest in
    let more : 128 - length rest ≡ left + 1 = omega arith in
    let blank : drop (length rest) (zeros 128) ≡ 0 ∷ zeros left =
    drop-replicate {X = ℕ} (length rest) 128 0 ∙ ap zeros more ∙ rw add-one refl in
    let kept : take (z + 1) (0x80 ∷ zeros left) ≡ 0x80 ∷ zeros z =
    rw (add-one, take-replicate {X = ℕ} z left 0 (omega arith)) refl in
    let written : slice_set (rest ++ drop (length rest) (zeros 128)) (length rest) 0x80 ≡ rest ++ 0x80 ∷ zeros left =
    rw blank (set-append_seam {A = ℕ} rest 0 (zeros left) 0x80) in
    ap (take (length rest + (z + 1))) written ∙ take-append-add rest (0x80 ∷ zeros left) (z + 1)
    ∙ ap (λ (x : List ℕ). rest ++ x) kept

-- the last bytes of a message, a bit, zeros and the length are its tail
pub tail_made : (m rest bits : List ℕ) (used end k : ℕ) → used ≡ length m % 64
    → end ≡ used + (9 + (119 - used) % 64) → rest ≡ drop (length m - used) m
    → bits ≡ to_be_bytes w64 (length m * 8 % 2 ^ 64)
    → IsTail (put_mid (end - 8) k (slice_set (rest ++ drop used (zeros 128)) used 0x80) bits) m
tail_made m rest bits used end k eu ee er eb =
    let z : ℕ = (119 - used) % 64 in
    let w : ℕ = length m / 64 in
    let zs : List ℕ = zeros z in
    let s : List ℕ = slice_set (rest ++ drop used (zeros 128)) used 0x80 in
    let long : length rest ≡ used = omega (arith, ap length er, length-drop (length m - used) m) in
    let at : end - 8 ≡ used + (z + 1) = omega arith in
    let eight : length bits ≡ 8 = ap length eb in
    let room : length s ≡ 128 = length-set (rest ++ drop used (zeros 128)) used 0x80
    ∙ length-append rest (drop used (zeros 128)) ∙ omega (arith, long, length-drop used (zeros 128)) in
    let all : (block_count m - w) * 64 ≡ end = omega (arith, length-padded m) in
    let before : take (end - 8) s ≡ rest ++ 0x80 ∷ zs =
    ap (λ (n : ℕ). take n s) at ∙ subst (λ (u : ℕ). take (u + (z + 1)) (slice_set (rest ++ drop u (zeros 128)) u 0x80) ≡ rest ++ 0x80 ∷ zs)
    long (before_length rest z (omega arith)) in
    let prefix : take end (put_mid (end - 8) k s bits) ≡ (rest ++ 0x80 ∷ zs) ++ bits =
    take-put_mid (end - 8) k s bits end (omega arith) (omega arith) ∙ ap (λ (x : List ℕ). x ++ bits) before in
    let pad : 0x80 ∷ zs ++ bits ≡ padding (length m) = rw (eb, eu) refl in
    let edge : w * 64 ≡ length m - used = omega arith in
    let back : drop (w * 64) (padded_message m) ≡ rest ++ padding (length m) =
    drop-append-le (w * 64) m (padding (length m)) (omega arith)
    ∙ ap (λ (x : List ℕ). x ++ padding (length m)) (ap (λ (n : ℕ). drop n m) edge ∙ sym er) in
    ap (λ (n : ℕ). take n (put_mid (end - 8) k s bits)) all ∙ prefix ∙ append_assoc rest (0x80 ∷ zs) bits
    ∙ ap (λ (x : List ℕ). rest ++ x) pad ∙ sym back
