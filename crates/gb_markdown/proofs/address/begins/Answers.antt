use Rattle.std.proofs.Common.{◌≡◌, ℕ, ◌<◌, false, List, [], ◌∷◌, length, drop, drop-cons, arith, refl, sym}
use Rattle.std.proofs.Common.{◌∙◌}
use Rattle.gb_markdown.specs.Addresses.{begins}
use Rattle.gb_markdown.proofs.address.begins.Goals as goal

none_left : (scheme rest : List ℕ) (i : ℕ) → i < length scheme → length rest ≡ 0
    → begins (drop i scheme) rest ≡ false
none_left scheme [] i within e = rw (drop-cons scheme i 0) refl
none_left scheme (b ∷ rest) i within e =
    let no : ⊥ = omega arith in
    absurd no

pub returns-in_default : goal.returns-in_default
returns-in_default c =
    sym (none_left c.args.scheme.now c.loop-letter.rest.now c.loop-letter.letter-index c.loop-letter-test.true
    c.in_default.ensures.cases) ∙ c.loop-letter.invariant
