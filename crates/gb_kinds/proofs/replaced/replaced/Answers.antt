use Rattle.std.proofs.Common.{◌≡◌, ◌++◌, ◌+◌, ◌-◌, length, take, drop, take_all, append_assoc, length-drop, sym, ap, subst, ◌∙◌, arith}
use Rattle.std.proofs.lemmas.List.{take-append-le}
use Rattle.bstr.specs.Text.{MatchList, replaced_at}
use Rattle.bstr.proofs.lemmas.MatchListLemmas.{matches-list, MatchList-head, replaced-next, replaced-end}
use Rattle.gb_kinds.specs.Contents.{most_made}
use Rattle.gb_kinds.proofs.replaced.replaced.Goals as goal

pub loop-at-init : goal.loop-at-init
loop-at-init c =
    let hay = c.args.bytes.now in
    let sign = c.args.sign.now in
    let found = c.into_iter-at-iterator.ensures.into_iter_gives ∙ c.find_iter-at-items.ensures.value in (
      omega arith,
      subst (λ l. MatchList hay (length sign) 0 l) (sym found) (matches-list hay sign 0),
      ap (λ l. replaced_at hay (length sign) c.args.value.now 0 l) (sym found)
          ∙ ap (λ d. d ++ replaced_at hay (length sign) c.args.value.now 0 c.into_iter-at-iterator.result) (sym c.new-made.ensures.items),
    )

pub slice_bounds-extend_from_slice-count : goal.slice_bounds-extend_from_slice-count
slice_bounds-extend_from_slice-count c =
    (MatchList-head c.args.bytes.now (length c.args.sign.now) c.loop-at.last c.in-Some.at c.loop-at.at-iterator c.next.new.self c.in-Some.ensures.steps c.loop-at.invariant.1).0

pub slice_bounds-extend_from_slice-start : goal.slice_bounds-extend_from_slice-start
slice_bounds-extend_from_slice-start c =
    (MatchList-head c.args.bytes.now (length c.args.sign.now) c.loop-at.last c.in-Some.at c.loop-at.at-iterator c.next.new.self c.in-Some.ensures.steps c.loop-at.invariant.1).0

pub slice_bounds-extend_from_slice-end : goal.slice_bounds-extend_from_slice-end
slice_bounds-extend_from_slice-end c =
    let head = MatchList-head c.args.bytes.now (length c.args.sign.now) c.loop-at.last c.in-Some.at c.loop-at.at-iterator c.next.new.self c.in-Some.ensures.steps c.loop-at.invariant.1 in
    omega arith

pub loop-at-preserved : goal.loop-at-preserved
loop-at-preserved c =
    let hay = c.args.bytes.now in
    let m = length c.args.sign.now in
    let rep = c.args.value.now in
    let last = c.loop-at.last in
    let k = c.in-Some.at in
    let rest = c.next.new.self in
    let steps = c.in-Some.ensures.steps in
    let head = MatchList-head hay m last k c.loop-at.at-iterator rest steps c.loop-at.invariant.1 in
    let made = c.loop-at.made.items in
    let tail = replaced_at hay m rep (k + m) rest in
    let piece = take (k - last) (drop last hay) in (
      head.1,
      head.2,
      c.loop-at.invariant.2
          ∙ ap (λ l. made ++ replaced_at hay m rep last l) steps
          ∙ ap (λ t. made ++ t) (replaced-next hay m rep last k rest)
          ∙ sym (append_assoc made piece (rep ++ tail))
          ∙ ap (λ t. t ++ (rep ++ tail)) (sym c.in_ok-extend_from_slice.ensures.items)
          ∙ sym (append_assoc c.extend_from_slice.new.self.items rep tail)
          ∙ ap (λ t. t ++ tail) (sym c.in_ok-extend_from_slice-2.ensures.items),
    )

pub returns-then-len-ge-MOST_MADE : goal.returns-then-len-ge-MOST_MADE
returns-then-len-ge-MOST_MADE c =
    let hay = c.args.bytes.now in
    let m = length c.args.sign.now in
    let made = c.loop-at.made.items in
    c.cut.ensures
    ∙ sym (ap (take most_made) c.loop-at.invariant.2 ∙ take-append-le most_made made (replaced_at hay m c.args.value.now c.loop-at.last c.loop-at.at-iterator) (omega arith))

pub returns : goal.returns
returns c =
    let hay = c.args.bytes.now in
    let m = length c.args.sign.now in
    let rep = c.args.value.now in
    let last = c.loop-at.last in
    let made = c.loop-at.made.items in
    let left = length-drop last hay in
    let tail : take (length hay - last) (drop last hay) ≡ drop last hay = take_all _ _ (omega arith) in
    c.cut-2.ensures
    ∙ ap (take most_made) (c.in_ok-extend_from_slice-3.ensures.items ∙ ap (λ t. made ++ t) tail
    ∙ sym (c.loop-at.invariant.2 ∙ ap (λ l. made ++ replaced_at hay m rep last l) c.in-None.ensures.steps.0 ∙ ap (λ t. made ++ t) (replaced-end hay m rep last)))
