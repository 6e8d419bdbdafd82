use Rattle.std.proofs.Common.{◌≢◌, ℕ, List, ◌+◌, ◌<◌, arith, drop, take, subst, sym}
use Rattle.std.specs.declared.cmp.Ordering.TheVariants.{Greater}
use Rattle.gb_provider.specs.Names.{names_order}
use Rattle.gb_provider.proofs.NamesLemmas.{least_now, least_still}
use Rattle.gb_provider.proofs.circle_names.least_place.Goals.{then-is_before, else-is_before}
use Rattle.gb_provider.proofs.circle_names.least_place.Goals as goal

pub loop-i-preserved : goal.loop-i-preserved
loop-i-preserved c =
    let round : ℕ → List (List ℕ) = λ k. take c.args.count (drop k c.args.names.now) in
    let i = c.loop-i.i in
    let least = c.loop-i.least in
    elim c.if-is_before.branch [
      | then-is_before w ↦
          record {
            within = omega (arith, w.least-is, c.loop-i-test.true);
            so_far = subst (λ (m : ℕ). (k : ℕ) → k < i + 1 → names_order (round m) (round k) ≢ Greater) (sym w.least-is) (least_now round least i c.loop-i.invariant.so_far w.if-is_before.ensures.before);
          }
      | else-is_before w ↦
          record {
            within = omega (arith, w.least-is, c.loop-i.invariant.within);
            so_far = subst (λ (m : ℕ). (k : ℕ) → k < i + 1 → names_order (round m) (round k) ≢ Greater) (sym w.least-is) (least_still round least i c.loop-i.invariant.so_far w.if-is_before.ensures.not_before);
          }
    ]
