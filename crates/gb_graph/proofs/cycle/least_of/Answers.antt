use Rattle.std.proofs.Common.{◌≡◌, ◌+◌, ℕ, Option, false, length, get_or, take, Contains, MatchOption, sym, ap, subst, ◌∙◌, arith}
use Rattle.std.proofs.Math.Seq.{take-length}
use Rattle.std.proofs.lemmas.List.{get_or_default}
use Rattle.std.proofs.lemmas.List.Elements.{Contains-get_or}
use Rattle.gb_graph.specs.Settled.{is_marked}
use Rattle.gb_graph.specs.Cycle.{IsLeastNumber}
use Rattle.gb_graph.proofs.Rounds.{IsWithin, so_far_marked, so_far_shut}
use Rattle.gb_graph.proofs.cycle.least_of.Goals as goal
use Rattle.gb_graph.proofs.cycle.least_of.Goals.{then-marks-number, else-marks-number}

pub bounds-marks-number : goal.bounds-marks-number
bounds-marks-number c =
    let lt = c.requires.known _ (Contains-get_or c.args.numbers.now c.loop-number.number-index 0 c.loop-number-test.true) in
    omega (arith, lt, c.requires.each)

pub loop-number-preserved : goal.loop-number-preserved
loop-number-preserved c =
    let tasks = c.args.tasks.now in
    let marks = c.args.marks.now in
    let numbers = c.args.numbers.now in
    let i = c.loop-number.number-index in
    let lt = c.loop-number-test.true in
    let t = get_or numbers i 0 in
    let known = c.requires.known t (Contains-get_or numbers i 0 lt) in
    let old = c.loop-number.invariant in
    let is = get_or_default numbers i 0 t lt in
    let SoFar : Option ℕ → Type 0 = λ found. MatchOption found ((k : ℕ) → Contains (take (i + 1) numbers) k → is_marked marks k ≡ false) (λ k. IsLeastNumber tasks (take (i + 1) numbers) marks k) in
    elim c.if-marks-number.branch [
      | then-marks-number w ↦
          let next = so_far_marked tasks marks numbers i t lt is known c.loop-number.least w.lesser.result old.reported old.known w.if-marks-number.true w.lesser.ensures in
          record { reported = subst SoFar (sym w.least-is) next.0; known = subst (IsWithin tasks) (sym w.least-is) next.1 }
      | else-marks-number w ↦ record {
        reported = subst SoFar (sym w.least-is) (so_far_shut tasks marks numbers i t lt is known c.loop-number.least old.reported w.if-marks-number.false);
        known = subst (IsWithin tasks) (sym w.least-is) old.known;
      }
    ]

pub returns : goal.returns
returns c =
    let numbers = c.args.numbers.now in
    let e : length numbers ≡ c.loop-number.number-index = omega (arith, c.loop-number-test.false, c.loop-number.auto.number-index-end) in
    subst (λ ks. MatchOption c.loop-number.least ((k : ℕ) → Contains ks k → is_marked c.args.marks.now k ≡ false) (λ k. IsLeastNumber c.args.tasks.now ks c.args.marks.now k))
    (ap (λ n. take n numbers) (sym e) ∙ take-length numbers) c.loop-number.invariant.reported
