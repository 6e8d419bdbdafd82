-- The operations of SHA-256 on words, with fewer operations than in their definitions.
use Rattle.std.proofs.Common.{◌≡◌, ℕ, ◌-◌, ◌/◌, ◌%◌, ◌^◌, ◌<◌, bit_and, bit_xor, sym, ap, ◌∙◌, arith}
use Rattle.std.proofs.lemmas.Nat.{and_comm, and_assoc, and_shr, xor_shr, xor_comm, and-not}
use Rattle.sha2.specs.Sha256.{ch, maj}
use lib.Arith.{bin_ind}
use lib.Bits.{and_step, and_zero_l, and_self, xor_add_and, xor_assoc, xor_self, xor_zero_l}

-- equal halves and equal last digits make equal numbers
by_digits : (a b : ℕ) → a / 2 ≡ b / 2 → a % 2 ≡ b % 2 → a ≡ b
by_digits a b high low = omega arith

-- `&` distributes over `^`
and_xor : (x y z : ℕ) → bit_and x (bit_xor y z) ≡ bit_xor (bit_and x y) (bit_and x z)
and_xor =
    bin_ind (λ (x : ℕ). (y z : ℕ) → bit_and x (bit_xor y z) ≡ bit_xor (bit_and x y) (bit_and x z))
    (λ y z. rw (and_zero_l y, and_zero_l z) (and_zero_l (bit_xor y z)))
    (λ x ih y z.
    let high : bit_and x (bit_xor y z) / 2 ≡ bit_xor (bit_and x y) (bit_and x z) / 2 =
    and_shr x (bit_xor y z) 1 ∙ ap (bit_and (x / 2)) (xor_shr y z 1) ∙ ih (y / 2) (z / 2)
    ∙ sym (xor_shr (bit_and x y) (bit_and x z) 1 ∙ ap (λ a. bit_xor a (bit_and x z / 2)) (and_shr x y 1)
    ∙ ap (bit_xor (bit_and (x / 2) (y / 2))) (and_shr x z 1)) in
    let low : bit_and x (bit_xor y z) % 2 ≡ bit_xor (bit_and x y) (bit_and x z) % 2 =
    omega (arith, and_step x (bit_xor y z), and_step x y, and_step x z, xor_add_and y z, xor_add_and (bit_and x y) (bit_and x z)) in
    by_digits _ _ high low)

-- the bits of z where x has none
and_not_xor : (x z : ℕ) → x < 2 ^ 32 → z < 2 ^ 32 → bit_and (2 ^ 32 - 1 - x) z ≡ bit_xor z (bit_and x z)
and_not_xor x z fits_x fits_z =
    let common : bit_and z (bit_and x z) ≡ bit_and x z =
    and_comm z (bit_and x z) ∙ and_assoc z x z ∙ ap (bit_and x) (and_self z) in
    omega (arith, and-not 32 x z fits_x fits_z, xor_add_and z (bit_and x z))

-- Ch by three operations
pub ch_by_three : (x y z : ℕ) → x < 2 ^ 32 → z < 2 ^ 32 → bit_xor z (bit_and x (bit_xor y z)) ≡ ch x y z
ch_by_three x y z fits_x fits_z =
    let a : ℕ = bit_and x y in
    let b : ℕ = bit_and x z in
    ap (bit_xor z) (and_xor x y z) ∙ sym (xor_assoc z a b) ∙ ap (λ n. bit_xor n b) (xor_comm z a)
    ∙ xor_assoc a z b ∙ ap (bit_xor a) (sym (and_not_xor x z fits_x fits_z))

-- Maj by four operations
pub maj_by_four : (x y z : ℕ) → bit_xor y (bit_and (bit_xor x y) (bit_xor y z)) ≡ maj x y z
maj_by_four x y z =
    let p : ℕ = bit_and x y in
    let q : ℕ = bit_and x z in
    let r : ℕ = bit_and y z in
    let prefix : bit_and (bit_xor x y) y ≡ bit_xor p y =
    and_comm (bit_xor x y) y ∙ and_xor y x y ∙ ap (λ n. bit_xor n (bit_and y y)) (and_comm y x)
    ∙ ap (bit_xor p) (and_self y) in
    let back : bit_and (bit_xor x y) z ≡ bit_xor q r =
    and_comm (bit_xor x y) z ∙ and_xor z x y ∙ ap (λ n. bit_xor n (bit_and z y)) (and_comm z x)
    ∙ ap (bit_xor q) (and_comm z y) in
    let parts : bit_and (bit_xor x y) (bit_xor y z) ≡ bit_xor (bit_xor p y) (bit_xor q r) =
    and_xor (bit_xor x y) y z ∙ ap (λ n. bit_xor n (bit_and (bit_xor x y) z)) prefix
    ∙ ap (bit_xor (bit_xor p y)) back in
    let gone : bit_xor y (bit_xor p y) ≡ p =
    ap (bit_xor y) (xor_comm p y) ∙ sym (xor_assoc y y p) ∙ ap (λ n. bit_xor n p) (xor_self y) ∙ xor_zero_l p in
    ap (bit_xor y) parts ∙ sym (xor_assoc y (bit_xor p y) (bit_xor q r)) ∙ ap (λ n. bit_xor n (bit_xor q r)) gone
    ∙ sym (xor_assoc p q r)
