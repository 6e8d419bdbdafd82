use Rattle.std.proofs.Common.{◌≡◌, ℕ, ◌<◌, false, List, [], ◌∷◌, length, drop, drop-cons, arith, refl, sym}
use Rattle.std.proofs.Common.{◌∙◌}
use Rattle.gb_markdown.specs.References.{is_same}
use Rattle.gb_markdown.proofs.references.is_same.Goals as goal

none_left : (label rest : List ℕ) (i : ℕ) → i < length label → length rest ≡ 0
    → is_same (drop i label) rest ≡ false
none_left label [] i within e = rw (drop-cons label i 0) refl
none_left label (b ∷ rest) i within e =
    let no : ⊥ = omega arith in
    absurd no

pub returns-in_default : goal.returns-in_default
returns-in_default c =
    sym (none_left c.args.label.now c.loop-byte.rest.now c.loop-byte.byte-index c.loop-byte-test.true
    c.in_default.ensures.cases) ∙ c.loop-byte.invariant
