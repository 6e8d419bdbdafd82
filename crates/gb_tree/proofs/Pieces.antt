-- A file is read piece by piece.
use Rattle.std.proofs.Common.{arith, ◌≡◌, ◌≤◌, ◌<◌, ◌+◌, ◌++◌, ℕ, true, false, List, length, take, drop, length-take, length-drop, sym, ◌∙◌, ap}
use Rattle.std.proofs.lemmas.List.{take_all, take-append-drop}
use Rattle.std.proofs.lemmas.Bool.Decides.{nat_tests}
use Rattle.std.proofs.Math.Seq.{take-add}
use Rattle.std.specs.Prelude.{nat_lt, ◌==◌}
use Rattle.gb_folder.specs.Files.{Place, Contents}
use Rattle.sha2.specs.Sha256.{sha256}
use Rattle.gb_folder.specs.Limits.{max_file}
use Rattle.gb_tree.specs.Tree.{bytes_at}

-- a piece that a folder returned whose contents are still the same
pub same_piece : (old now : Contents) (place : Place) (at count : ℕ) (piece : List ℕ) → now ≡ old → piece ≡ take count (drop at (bytes_at now.files place)) → piece ≡ take count (drop at (bytes_at old.files place))
same_piece old now place at count piece same is = is ∙ ap (λ contents. take count (drop at (bytes_at contents.files place))) same

-- a piece that is not full is the last
pub last_piece : (at : ℕ) (bytes piece : List ℕ) → piece ≡ take 65536 (drop at bytes) → length piece < 65536 → length bytes < at + 65536
last_piece at bytes piece is short =
    let count = ap length is ∙ length-take 65536 (drop at bytes) in
    omega (arith, count, short, length-drop at bytes)

pub whole : (at : ℕ) (bytes piece : List ℕ) → piece ≡ take 65536 (drop at bytes) → length piece < 65536 → take at bytes ++ piece ≡ bytes
whole at bytes piece is short =
    ap (λ more. take at bytes ++ more) (is ∙ take_all 65536 (drop at bytes) (omega (arith, last_piece at bytes piece is short, length-drop at bytes)))
    ∙ take-append-drop at bytes

pub whole_digest : (at : ℕ) (bytes piece : List ℕ) (digest : List ℕ) → digest ≡ sha256 (take at bytes ++ piece) → piece ≡ take 65536 (drop at bytes) → length piece < 65536 → digest ≡ sha256 bytes
whole_digest at bytes piece digest of is short = of ∙ ap sha256 (whole at bytes piece is short)

pub one_more : (at : ℕ) (bytes piece : List ℕ) → piece ≡ take 65536 (drop at bytes) → take at bytes ++ piece ≡ take (at + 65536) bytes
one_more at bytes piece is = ap (λ more. take at bytes ++ more) is ∙ sym (take-add at 65536 bytes)

-- a full piece is within the file
pub within_file : (at : ℕ) (bytes piece : List ℕ) → at ≤ length bytes → piece ≡ take 65536 (drop at bytes) → 65536 ≤ length piece → at + 65536 ≤ length bytes
within_file at bytes piece le is full =
    let count = ap length is ∙ length-take 65536 (drop at bytes) in
    omega (arith, count, full, le, length-drop at bytes)

-- nothing follows
pub nothing_after : (at : ℕ) (bytes more : List ℕ) → more ≡ take 1 (drop at bytes) → length more ≡ 0 → length bytes ≤ at
nothing_after at bytes more is none =
    let count = ap length is ∙ length-take 1 (drop at bytes) in
    omega (arith, count, none, length-drop at bytes)

pub something_after : (at : ℕ) (bytes more : List ℕ) → more ≡ take 1 (drop at bytes) → 0 < length more → at < length bytes
something_after at bytes more is some =
    let count = ap length is ∙ length-take 1 (drop at bytes) in
    omega (arith, count, some, length-drop at bytes)

pub not_large : (bytes : List ℕ) → length bytes ≤ 8388608 → nat_lt max_file (length bytes) ≡ false
not_large bytes le = grind (arith, nat_tests)

pub is_too_large : (bytes : List ℕ) → 8388608 < length bytes → nat_lt max_file (length bytes) ≡ true
is_too_large bytes le = grind (arith, nat_tests)

pub is_none : (n : ℕ) → true ≡ (n == 0) → n ≡ 0
is_none n e = grind (arith, nat_tests)

pub is_some : (n : ℕ) → false ≡ (n == 0) → 0 < n
is_some n e = grind (arith, nat_tests)
