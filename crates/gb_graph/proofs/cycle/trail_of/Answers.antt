use Rattle.std.proofs.Common.{◌≡◌, ◌<◌, true, false, inl, inr, length, Contains, sym, ap, subst, ◌∙◌, arith}
use Rattle.std.proofs.Math.ListN.{set}
use Rattle.std.proofs.lemmas.List.{get_or_default}
use Rattle.std.proofs.lemmas.List.Elements.{Contains-push_cases}
use Rattle.gb_graph.specs.Order.{rows, row}
use Rattle.gb_graph.specs.Settled.{is_marked}
use Rattle.gb_graph.specs.Ranked.{AreDistinct}
use Rattle.gb_graph.specs.Cycle.{IsNextNumber, IsLeastNumber, LeadsTo, is_there}
use Rattle.gb_graph.proofs.Keeping.{fewer, not_both}
use Rattle.gb_graph.proofs.Numbers.{separate_push}
use Rattle.gb_graph.proofs.Reached.{none_exist}
use Rattle.gb_graph.proofs.Rounds.{leads_push, met_grows, exists_within}
use Rattle.gb_graph.proofs.Rows.{rows_row}
use Rattle.gb_graph.proofs.cycle.trail_of.Goals as goal

pub loop-met-init : goal.loop-met-init
loop-met-init c = record {
  each = c.in_ok-met.ensures.len;
  reported = λ k. (
    λ h. not_both h (ap (λ s. is_marked s k) (c.in_ok-met.ensures.items_if_clones_equal (λ y e. e)) ∙ none_exist (length c.args.tasks.now) k),
    λ d. let lt = (subst (λ ks. Contains ks k) c.new-trail.ensures.items d).1 in absurd (omega (arith, lt)),
  );
  leads = subst (λ ks. LeadsTo (IsNextNumber c.args.tasks.now (rows c.args.after.now) c.args.marks.now) c.args.start ks c.args.start) (sym c.new-trail.ensures.items) is_there;
  separate = subst AreDistinct (sym c.new-trail.ensures.items) tt;
  marked = λ k d. let lt = (subst (λ ks. Contains ks k) c.new-trail.ensures.items d).1 in absurd (omega (arith, lt));
  here = c.requires.start;
}

pub bounds-after-at : goal.bounds-after-at
bounds-after-at c =
    let lt = exists_within c.args.marks.now c.loop-met.at c.loop-met.invariant.here in
    omega (arith, lt, c.requires.each, c.requires.rows)

pub least_of-requires : goal.least_of-requires
least_of-requires c =
    let at = c.loop-met.at in
    let within = exists_within c.args.marks.now at c.loop-met.invariant.here in
    let lt : at < length c.args.after.now = omega (arith, within, c.requires.each, c.requires.rows) in
    let is : c.deref.result.now ≡ row (rows c.args.after.now) at = c.deref.ensures.value ∙ sym (rows_row c.args.after.now at c.index-after-at.result lt c.index-after-at.is) in
    record {
      known = λ k h. c.requires.known at k (subst (λ ks. Contains ks k) is h);
      each = c.requires.each;
    }

pub unreachable-requires : goal.unreachable-requires
unreachable-requires c =
    let at = c.loop-met.at in
    let within = exists_within c.args.marks.now at c.loop-met.invariant.here in
    let lt : at < length c.args.after.now = omega (arith, within, c.requires.each, c.requires.rows) in
    let is : c.deref.result.now ≡ row (rows c.args.after.now) at = c.deref.ensures.value ∙ sym (rows_row c.args.after.now at c.index-after-at.result lt c.index-after-at.is) in
    let on = c.requires.goes_on at c.loop-met.invariant.here in
    not_both on.2 (c.in-None.ensures on.0 (subst (λ ks. Contains ks on.0) (sym is) on.1))

pub loop-met-preserved : goal.loop-met-preserved
loop-met-preserved c =
    let tasks = c.args.tasks.now in
    let after = rows c.args.after.now in
    let marks = c.args.marks.now in
    let old = c.loop-met.invariant in
    let at = c.loop-met.at in
    let met = c.loop-met.met.items in
    let trail = c.loop-met.trail.items in
    let within = exists_within marks at old.here in
    let lt : at < length c.args.after.now = omega (arith, within, c.requires.each, c.requires.rows) in
    let in_met : at < length met = omega (arith, within, c.requires.each, old.each) in
    let lacks : is_marked met at ≡ false = get_or_default met at false c.index.result.now in_met ∙ (sym c.index.ensures ∙ c.loop-met-test.true) in
    let is : c.deref.result.now ≡ row after at = c.deref.ensures.value ∙ sym (rows_row c.args.after.now at c.index-after-at.result lt c.index-after-at.is) in
    let next : IsNextNumber tasks after marks at c.in-Some.next = subst (λ ks. IsLeastNumber tasks ks marks c.in-Some.next) is c.in-Some.ensures in
    let pushed = c.in_ok-push.ensures.items in
    record {
      each = old.each;
      reported = λ k. subst (λ ks. (is_marked (set met at true) k ≡ true → Contains ks k) × (Contains ks k → is_marked (set met at true) k ≡ true)) (sym pushed) (met_grows met trail at in_met old.reported k);
      leads = subst (λ ks. LeadsTo (IsNextNumber tasks after marks) c.args.start ks c.in-Some.next) (sym pushed) (leads_push (IsNextNumber tasks after marks) c.args.start at c.in-Some.next trail old.leads next);
      separate = subst AreDistinct (sym pushed) (separate_push trail at old.separate (λ d. not_both ((old.reported at).1 d) lacks));
      marked = λ k d. elim (Contains-push_cases trail at k (subst (λ ks. Contains ks k) pushed d)) [ inl was ↦ old.marked k was | inr e ↦ ap (is_marked marks) (sym e) ∙ old.here ];
      here = next.marked;
    }

pub loop-met-smaller : goal.loop-met-smaller
loop-met-smaller c =
    let old = c.loop-met.invariant in
    let at = c.loop-met.at in
    let met = c.loop-met.met.items in
    let within = exists_within c.args.marks.now at old.here in
    let in_met : at < length met = omega (arith, within, c.requires.each, old.each) in
    fewer met at in_met (get_or_default met at false c.index.result.now in_met ∙ (sym c.index.ensures ∙ c.loop-met-test.true))

pub returns : goal.returns
returns c =
    let old = c.loop-met.invariant in
    let at = c.loop-met.at in
    let met = c.loop-met.met.items in
    let within = exists_within c.args.marks.now at old.here in
    let in_met : at < length met = omega (arith, within, c.requires.each, old.each) in
    record {
      leads = old.leads;
      separate = old.separate;
      comes_back = (old.reported at).0 (get_or_default met at false c.index.result.now in_met ∙ (sym c.index.ensures ∙ c.loop-met-test.false));
      marked = old.marked;
    }
