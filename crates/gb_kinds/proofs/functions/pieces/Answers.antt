use Rattle.std.specs.Borrow.{Bor}
use Rattle.std.proofs.Common.{◌≡◌, ◌∷◌, ◌++◌, [], List, ℕ, refl, sym, ap, subst, ◌∙◌, append_assoc, arith}
use Rattle.std.specs.Str.Iter.{split_has_more, split_text, split_pattern}
use Rattle.std.specs.Str.Pattern.{FindsText, IsSplitAtFirstMatch}
use Rattle.gb_kinds.specs.Functions.{pieces}
use Rattle.gb_kinds.proofs.Splitting.{IsLeft, IsLeft-next}
use Rattle.gb_kinds.proofs.functions.pieces.Goals as goal

pub loop-piece-init : goal.loop-piece-init
loop-piece-init c =
    let text = c.args.text.now in
    let separator = c.args.separator.now in
    let is = c.into_iter-piece-iterator.ensures.into_iter_gives in
    let cut = c.split-piece-items.ensures in
    let iterator = c.into_iter-piece-iterator.result in
    record {
      same = ap (λ it. (split_pattern {P = Bor (List ℕ)} it).now) is ∙ ap (λ (pattern : Bor (List ℕ)). pattern.now) cut.pattern;
      left = (
        pieces separator text,
        subst (λ b. IsLeft text separator b (split_text iterator) (pieces separator text)) (sym (ap split_has_more is ∙ cut.has_more)) (0, omega arith, ap split_text is ∙ cut.text, refl),
        ap (λ texts. texts ++ pieces separator text) c.new-texts.ensures,
      );
    }

pub loop-piece-preserved : goal.loop-piece-preserved
loop-piece-preserved c =
    let text = c.args.text.now in
    let separator = c.args.separator.now in
    let before = c.loop-piece.piece-iterator in
    let after = c.next.new.self in
    let piece = c.in-Some.piece.now in
    let invariant = c.loop-piece.invariant in
    let step = c.in-Some.ensures.steps in
    let cut = subst (λ pattern. IsSplitAtFirstMatch (FindsText pattern) (split_text before) piece (split_has_more after) (split_text after)) invariant.same step.1.1 in
    let left = subst (λ more. IsLeft text separator more (split_text before) invariant.left.0) (sym step.0) invariant.left.1 in
    let next = IsLeft-next text separator c.requires piece (split_has_more after) (split_text before) (split_text after) invariant.left.0 left cut in
    let pushed : c.push.new.self ≡ c.loop-piece.texts ++ piece ∷ [] = (c.in_ok-push.ensures).ok ∙ ap (λ made. c.loop-piece.texts ++ made ∷ []) c.in_ok-from_str.ensures in
    record {
      same = step.1.0 ∙ invariant.same;
      left = (
        next.0,
        next.1,
        ap (λ texts. texts ++ next.0) pushed ∙ append_assoc c.loop-piece.texts (piece ∷ []) next.0 ∙ ap (λ later. c.loop-piece.texts ++ later) (sym next.2) ∙ invariant.left.2,
      );
    }
