-- The piece at the front of a text.
use Rattle.std.proofs.Common.{◌≡◌, ℕ, ◌-◌, List, ◌++◌, length, take, drop, sym, ap, ◌∙◌, arith, length-append, IsUtf8}
use Rattle.std.proofs.Math.Seq.{take-append_seam, drop-append_seam}
use Rattle.std.proofs.lemmas.Str.{IsCharBoundary-at_seam}
use Rattle.std.specs.Str.{IsCharBoundary}
use Rattle.gb_script.specs.declared.lexing.Part.{Part}
use Rattle.gb_script.specs.Lexing.{Piece, written, MayPrecede}
use Rattle.gb_script.specs.Scanning.{part_at}
use Rattle.gb_format.specs.Shown.{EndsWith, HasPrefix}
use Rattle.gb_format.proofs.Cut.{again}

abbrev prefix_of : Part → List ℕ → Part × List ℕ
prefix_of part rest = (part, rest)

rest_is : (text : List ℕ) (p : Piece) (after : List ℕ) (part : Part) (rest : List ℕ) → text ≡ written p ++ after → MayPrecede p after → prefix_of part rest ≡ part_at text → rest ≡ after
rest_is text p after part rest whole exists found = ap (λ (x : Part × List ℕ). x.1) (found ∙ ap part_at whole ∙ again p after exists)

pub ends_with : (text : List ℕ) (f : HasPrefix text) (part : Part) (rest : List ℕ) → prefix_of part rest ≡ part_at text → EndsWith text rest
ends_with text f part rest found =
    (written f.piece, f.whole ∙ ap (λ (l : List ℕ). written f.piece ++ l) (sym (rest_is text f.piece f.after part rest f.whole f.exists found)))

prefix_len : (text prefix rest : List ℕ) → text ≡ prefix ++ rest → length text - length rest ≡ length prefix
prefix_len text prefix rest h = omega (arith, ap length h, length-append prefix rest)

pub seam : (text rest : List ℕ) → EndsWith text rest → IsUtf8 rest → IsCharBoundary text (length text - length rest)
seam text rest e utf8 = rw (prefix_len text e.0 rest e.1) (IsCharBoundary-at_seam text e.0 rest e.1 utf8)

pub past_seam : (text rest : List ℕ) → EndsWith text rest → drop (length text - length rest) text ≡ rest
past_seam text rest e = rw (prefix_len text e.0 rest e.1) (ap (drop (length e.0)) e.1 ∙ drop-append_seam e.0 rest)

pub parts_are : (text : List ℕ) (part : Part) (prefix rest old : List ℕ) → prefix_of part old ≡ part_at text → prefix ≡ take (length text - length old) text → rest ≡ old → (p : Piece) (after : List ℕ) → text ≡ written p ++ after → MayPrecede p after → (prefix ≡ written p) × (rest ≡ after)
parts_are text part prefix rest old found f r p after whole exists =
    let same = rest_is text p after part old whole exists found in
    let size : length text - length old ≡ length (written p) = ap (λ (l : List ℕ). length text - length l) same ∙ prefix_len text (written p) after whole in
    (f ∙ ap (λ n. take n text) size ∙ ap (take (length (written p))) whole ∙ take-append_seam (written p) after, r ∙ same)
