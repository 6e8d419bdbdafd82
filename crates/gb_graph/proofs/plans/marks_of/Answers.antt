use Rattle.std.proofs.Common.{◌≡◌, ◌<◌, true, false, length, get_or, take, Contains, sym, ap, subst, ◌∙◌, arith, inl, inr}
use Rattle.std.proofs.Math.ListN.{set}
use Rattle.std.proofs.Math.Seq.{take-length}
use Rattle.std.proofs.lemmas.List.{get_or_default, get_or-set_same}
use Rattle.std.proofs.lemmas.Bool.{cases_eq}
use Rattle.std.proofs.lemmas.List.Elements.{Contains-get_or}
use Rattle.gb_graph.specs.Settled.{is_marked}
use Rattle.gb_graph.proofs.Edges.{take_grows}
use Rattle.gb_graph.proofs.Keeping.{mark_kept, mark_other}
use Rattle.gb_graph.proofs.plans.marks_of.Goals as goal

pub index_mut-requires : goal.index_mut-requires
index_mut-requires c =
    let lt = c.requires _ (Contains-get_or c.args.numbers.now c.loop-number.number-index 0 c.loop-number-test.true) in
    omega (arith, lt, c.loop-number.invariant.each)

pub loop-number-preserved : goal.loop-number-preserved
loop-number-preserved c =
    let numbers = c.args.numbers.now in
    let i = c.loop-number.number-index in
    let t = get_or numbers i 0 in
    let exists = c.loop-number.marks.items in
    let known = c.requires t (Contains-get_or numbers i 0 c.loop-number-test.true) in
    let lt : t < length exists = omega (arith, known, c.loop-number.invariant.each) in
    record {
      each = c.loop-number.invariant.each;
      reported = λ k.
          let grows = take_grows numbers i t k c.loop-number-test.true (get_or_default numbers i 0 t c.loop-number-test.true) in (
            λ h. elim (cases_eq k t) [
              | inl e ↦ grows.1 (inr (sym e))
              | inr separate ↦ grows.1 (inl ((c.loop-number.invariant.reported k).0 (sym (mark_other exists t k separate) ∙ h)))
            ],
            λ h. elim (grows.0 h) [
              | inl old ↦ mark_kept exists t k lt ((c.loop-number.invariant.reported k).1 old)
              | inr e ↦ ap (is_marked (set exists t true)) (sym e) ∙ get_or-set_same exists t true false lt
            ],
          );
    }

pub returns : goal.returns
returns c =
    let numbers = c.args.numbers.now in
    let e : length numbers ≡ c.loop-number.number-index = omega (arith, c.loop-number-test.false, c.loop-number.auto.number-index-end) in
    let whole : take c.loop-number.number-index numbers ≡ numbers = ap (λ n. take n numbers) (sym e) ∙ take-length numbers in
    record {
      each = omega (arith, c.loop-number.invariant.each);
      reported = λ k. subst (λ ks. (is_marked c.loop-number.marks.items k ≡ true → Contains ks k) × (Contains ks k → is_marked c.loop-number.marks.items k ≡ true)) whole (c.loop-number.invariant.reported k);
    }
