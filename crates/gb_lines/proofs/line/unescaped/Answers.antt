use Rattle.std.proofs.Common.{◌≡◌, ◌+◌, inr, Bool, true, false, drop, subst, sym, ◌∙◌, List, ℕ}
use Rattle.std.proofs.lemmas.List.{at_drop_all, at_drop_more}
use Rattle.std.proofs.lemmas.Bool.{ne_eqb}
use Rattle.gb_lines.specs.Lines.{unescaped}
use Rattle.gb_lines.proofs.Escapes.{pending, prefixed, opens, closes, stuck, exists, ends, open_end}
use Rattle.gb_lines.proofs.line.unescaped.Goals as goal
use Rattle.gb_lines.proofs.line.unescaped.Goals.{then-is_escape+in-Some+in_ok-push, else-is_escape+then-byte-eq92, else-is_escape+else-byte-eq92+in_ok-push-2}

pub loop-byte-preserved : goal.loop-byte-preserved
loop-byte-preserved c =
    let text = c.args.text.now in
    let i = c.loop-byte.byte-index in
    let here = at_drop_more (λ (ys : List ℕ). ys) text i 0 c.loop-byte-test.true in
    let so_far = λ (e : Bool) (is : c.loop-byte.is_escape ≡ e). subst (λ (e : Bool). prefixed c.loop-byte.bytes.items (unescaped (pending e (drop i text))) ≡ unescaped text) is c.loop-byte.invariant in
    elim c.if-is_escape.branch [
      | then-is_escape+in-Some+in_ok-push w ↦ rw (w.bytes-is, w.is_escape-is, w.in_ok-push.ensures.items) (closes _ _ _ _ _ _ here (sym w.escape.ensures ∙ w.in-Some.is) (so_far true w.if-is_escape.true))
      | else-is_escape+then-byte-eq92 w ↦ rw (w.bytes-is, w.is_escape-is) (opens _ _ _ _ _ here w.if-byte-eq92.true (so_far false w.if-is_escape.false))
      | else-is_escape+else-byte-eq92+in_ok-push-2 w ↦ rw (w.bytes-is, w.is_escape-is, w.if-is_escape.false, w.in_ok-push-2.ensures.items) (exists _ _ _ _ _ here (ne_eqb _ _ w.if-byte-eq92.false) (so_far false w.if-is_escape.false))
    ]

pub returns-in_default : goal.returns-in_default
returns-in_default c =
    let text = c.args.text.now in
    let here = at_drop_more (λ (ys : List ℕ). ys) text c.loop-byte.byte-index 0 c.loop-byte-test.true in
    inr (stuck _ _ _ _ _ here (sym c.escape.ensures ∙ c.in_default.is) (subst (λ (e : Bool). prefixed c.loop-byte.bytes.items (unescaped (pending e (drop c.loop-byte.byte-index text))) ≡ unescaped text) c.if-is_escape.true c.loop-byte.invariant))

pub returns-then-is_escape-2 : goal.returns-then-is_escape-2
returns-then-is_escape-2 c =
    let text = c.args.text.now in
    inr (open_end _ text _ (at_drop_all (λ (ys : List ℕ). ys) text c.loop-byte.byte-index c.loop-byte-test.false)
    (subst (λ (e : Bool). prefixed c.loop-byte.bytes.items (unescaped (pending e (drop c.loop-byte.byte-index text))) ≡ unescaped text) c.if-is_escape-2.true c.loop-byte.invariant))

pub returns : goal.returns
returns c =
    let text = c.args.text.now in
    ends _ text _ (at_drop_all (λ (ys : List ℕ). ys) text c.loop-byte.byte-index c.loop-byte-test.false)
    (subst (λ (e : Bool). prefixed c.loop-byte.bytes.items (unescaped (pending e (drop c.loop-byte.byte-index text))) ≡ unescaped text) c.if-is_escape-2.false c.loop-byte.invariant)
