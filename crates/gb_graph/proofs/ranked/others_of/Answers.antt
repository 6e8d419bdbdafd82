use Rattle.std.proofs.Common.{◌≡◌, ◌<◌, ◌++◌, true, false, [], ◌∷◌, length, get_or, take, Contains, sym, ap, subst, ◌∙◌, arith, inl, inr}
use Rattle.std.proofs.Math.ListN.{set}
use Rattle.std.proofs.Math.Seq.{take-length}
use Rattle.std.proofs.lemmas.List.{get_or_default, get_or-set_same}
use Rattle.std.proofs.lemmas.Bool.{cases_eq, cases_Bool}
use Rattle.std.proofs.lemmas.List.Elements.{Contains-get_or, Contains-append_left, Contains-push, Contains-push_cases}
use Rattle.gb_graph.specs.Ranked.{AreDistinct}
use Rattle.gb_graph.specs.Settled.{is_marked}
use Rattle.gb_graph.proofs.Edges.{take_grows}
use Rattle.gb_graph.proofs.Keeping.{mark_kept, mark_other, not_both}
use Rattle.gb_graph.proofs.Numbers.{separate_push}
use Rattle.gb_graph.proofs.ranked.others_of.Goals as goal
use Rattle.gb_graph.proofs.ranked.others_of.Goals.{then-not-index+in_ok-push, else-not-index}

pub index_mut-requires : goal.index_mut-requires
index_mut-requires c =
    let lt = c.requires _ (Contains-get_or c.args.numbers.now c.loop-number.number-index 0 c.loop-number-test.true) in
    omega (arith, lt, c.loop-number.invariant.each)

pub loop-number-preserved : goal.loop-number-preserved
loop-number-preserved c =
    let numbers = c.args.numbers.now in
    let i = c.loop-number.number-index in
    let t = get_or numbers i 0 in
    let exists = c.loop-number.exists.items in
    let known = c.requires t (Contains-get_or numbers i 0 c.loop-number-test.true) in
    let lt : t < length exists = omega (arith, known, c.loop-number.invariant.each) in
    record {
      each = c.loop-number.invariant.each;
      reported = λ k.
          let grows = take_grows numbers i t k c.loop-number-test.true (get_or_default numbers i 0 t c.loop-number-test.true) in (
            λ h. elim (cases_eq k t) [
              | inl e ↦ grows.1 (inr (sym e))
              | inr separate ↦ grows.1 (inl ((c.loop-number.invariant.reported k).0 (sym (mark_other exists t k separate) ∙ h)))
            ],
            λ h. elim (grows.0 h) [
              | inl old ↦ mark_kept exists t k lt ((c.loop-number.invariant.reported k).1 old)
              | inr e ↦ ap (is_marked (set exists t true)) (sym e) ∙ get_or-set_same exists t true false lt
            ],
          );
    }

pub loop-number-2-preserved : goal.loop-number-2-preserved
loop-number-2-preserved c =
    let n = c.loop-number-2.number in
    let others = c.loop-number-2.others.items in
    let exists = c.loop-number.exists.items in
    let old = c.loop-number-2.invariant in
    let fits : n < length exists = omega (arith, c.loop-number.invariant.each, c.loop-number-2-test.true) in
    elim c.if-not-index.branch [
      | then-not-index+in_ok-push w ↦
          let is : c.if-not-index.others.items ≡ others ++ n ∷ [] = ap (λ (v : _). v.items) w.others-is ∙ w.in_ok-push.ensures.items in
          let opened : is_marked exists n ≡ false = get_or_default exists n false c.index.result.now fits ∙ (sym c.index.ensures ∙ w.if-not-index.true) in
          record {
            separate = subst AreDistinct (sym is) (separate_push others n old.separate (λ h. let low = ((old.reported n).0 h).0 in omega (arith, low)));
            reported = λ k. (
              λ h. elim (Contains-push_cases others n k (subst (λ xs. Contains xs k) is h)) [
                | inl g ↦ let at = (old.reported k).0 g in (omega (arith, at.0), at.1)
                | inr e ↦ (omega (arith, e), ap (is_marked exists) (sym e) ∙ opened)
              ],
              λ h. subst (λ xs. Contains xs k) (sym is) (elim (cases_eq k n) [
                | inl e ↦ subst (λ v. Contains (others ++ n ∷ []) v) (sym e) (Contains-push others n)
                | inr differs ↦ Contains-append_left others (n ∷ []) k ((old.reported k).1 (omega (arith, h.0, differs), h.1))
              ]),
            );
          }
      | else-not-index w ↦
          let is : c.if-not-index.others.items ≡ others = ap (λ (v : _). v.items) w.others-is in
          let shut : is_marked exists n ≡ true = get_or_default exists n false c.index.result.now fits ∙ (sym c.index.ensures ∙ w.if-not-index.false) in
          record {
            separate = subst AreDistinct (sym is) old.separate;
            reported = λ k. (
              λ h. let at = (old.reported k).0 (subst (λ xs. Contains xs k) is h) in (omega (arith, at.0), at.1),
              λ h. subst (λ xs. Contains xs k) (sym is) (elim (cases_eq k n) [
                | inl e ↦ not_both shut (ap (is_marked exists) (sym e) ∙ h.1)
                | inr differs ↦ (old.reported k).1 (omega (arith, h.0, differs), h.1)
              ]),
            );
          }
    ]

pub returns : goal.returns
returns c =
    let numbers = c.args.numbers.now in
    let exists = c.loop-number.exists.items in
    let reported = c.loop-number-2.invariant.reported in
    let e : length numbers ≡ c.loop-number.number-index = omega (arith, c.loop-number-test.false) in
    let whole : take c.loop-number.number-index numbers ≡ numbers = ap (λ n. take n numbers) (sym e) ∙ take-length numbers in
    let all : c.args.count ≡ c.loop-number-2.number = omega (arith, c.loop-number-2-test.false, c.loop-number-2.auto.number-end) in
    record {
      separate = c.loop-number-2.invariant.separate;
      within = λ k h. let at = (reported k).0 h in
          (omega (arith, at.0, all), λ g. not_both ((c.loop-number.invariant.reported k).1 (subst (λ xs. Contains xs k) (sym whole) g)) at.1);
      back = λ k lt lacks. (reported k).1 (
        omega (arith, lt, all),
        elim (cases_Bool (is_marked exists k)) [
          | inl h ↦ absurd (lacks (subst (λ xs. Contains xs k) whole ((c.loop-number.invariant.reported k).0 h)))
          | inr h ↦ h
        ],
      );
    }
