use Rattle.std.proofs.Common.{◌≡◌, ◌<◌, ◌+◌, ◌↔◌, ℕ, Option, false, List, length, get_or, take, Contains, MatchOption, refl, sym, ap, subst, ◌∙◌, arith}
use Rattle.std.proofs.Math.Seq.{take-length}
use Rattle.std.proofs.lemmas.List.{get_or_default}
use Rattle.std.proofs.lemmas.Result.{IfOk-weaker}
use Rattle.std.specs.Ordering.{is_gt}
use Rattle.gb_core.specs.Lists.{byte_order}
use Rattle.gb_graph.specs.Order.{rows}
use Rattle.gb_graph.specs.Cycle.{path_at}
use Rattle.gb_graph.specs.declared.least.Found.{Found}
use Rattle.gb_graph.specs.declared.least.FoundConflict.{FoundConflict}
use Rattle.gb_graph.specs.declared.places.TaskPlace.{TaskPlace}
use Rattle.gb_graph.specs.declared.last_overlap.Last.{Last}
use Rattle.gb_graph.specs.declared.near.Near.{Near}
use Rattle.gb_graph.specs.Near.{AreNear, IsLast}
use Rattle.gb_graph.specs.Places.{place_at}
use Rattle.gb_graph.specs.Conflicts.{IsLeast, IsConflictThere, IsConflictAt, IsConflictTask, IsWithin, found_by, lesser}
use Rattle.gb_graph.proofs.Lesser.{IsNear, least_same, least_either, least_near, passed_near, task_within, within_near}
use Rattle.gb_graph.proofs.MoreConflicts.{meets_more}
use Rattle.gb_graph.proofs.RefusalRows.{place_found}
use Rattle.gb_graph.proofs.least.least_conflict.Goals as goal
use Rattle.gb_graph.proofs.least.least_conflict.Goals.{then-not-is_later+in_ok-last+in_ok-others, else-not-is_later}

-- the outputs that overlap the place of this index
near_there : (outputs places : List TaskPlace) (i : ℕ) (at : TaskPlace) (row slice : List Near) → i < length places → at ≡ get_or places i at → slice ≡ row
    → AreNear outputs (place_at places i) row → AreNear outputs at.place slice
near_there outputs places i at row slice lt is same near =
    subst (AreNear outputs at.place) (sym same)
    (subst (λ place. AreNear outputs place row) (place_found places i at lt ∙ ap (λ (it : TaskPlace). it.place) (sym is)) near)

pub is_later-requires-clause-task : goal.is_later-requires-clause-task
is_later-requires-clause-task c =
    let places = c.args.places.now in
    let i = c.loop-place.place in
    let d = c.index-places-place.result in
    let lt = c.loop-place-test.true in
    c.requires.places (get_or places i d) (i, lt, get_or_default places i (get_or places i d) d lt)

pub is_later-requires-clause-found : goal.is_later-requires-clause-found
is_later-requires-clause-found c = task_within c.args.tasks.now c.args.places.now c.loop-place.least c.loop-place.invariant.within

pub least_at-met-requires : goal.least_at-met-requires
least_at-met-requires c = λ k h.
    let outputs = c.args.outputs.now in
    let at = c.index-places-place-then-not-is_later.result in
    let near = near_there outputs c.args.places.now c.loop-place.place at c.in_ok-last.last.near.items c.as_slice.result.now c.loop-place-test.true c.index-places-place-then-not-is_later.is c.as_slice.ensures.value c.in_ok-last.ensures.near in
    let m = (c.in_ok-others.ensures outputs near k).0 (subst (λ ks. Contains ks k) c.as_slice-then-not-is_later.ensures.value h) in
    subst (λ n. n < length c.args.tasks.now) m.is_task (c.requires.outputs m.output m.output_in)

pub lesser-least-requires-clause-found : goal.lesser-least-requires-clause-found
lesser-least-requires-clause-found c = c.loop-place.invariant.within

pub lesser-least-requires-clause-other : goal.lesser-least-requires-clause-other
lesser-least-requires-clause-other c =
    let tasks = c.args.tasks.now in
    let places = c.args.places.now in
    let i = c.loop-place.place in
    let d = c.index-places-place.result in
    let lt = c.loop-place-test.true in
    let outputs = c.args.outputs.now in
    let near = near_there outputs places i c.index-places-place-then-not-is_later.result c.in_ok-last.last.near.items c.as_slice.result.now lt c.index-places-place-then-not-is_later.is c.as_slice.ensures.value c.in_ok-last.ensures.near in
    within_near tasks places c.as_slice-then-not-is_later.result.now (get_or places i d).task i c.least_at-met.result
    (c.requires.places (get_or places i d) (i, lt, get_or_default places i (get_or places i d) d lt)) lt
    (λ k h.
    let m = (c.in_ok-others.ensures outputs near k).0 (subst (λ ks. Contains ks k) c.as_slice-then-not-is_later.ensures.value h) in
    subst (λ n. n < length tasks) m.is_task (c.requires.outputs m.output m.output_in))
    c.least_at-met.ensures

pub loop-place-preserved : goal.loop-place-preserved
loop-place-preserved c =
    let search = c.args.search in
    let chains = rows c.args.chains.now in
    let tasks = c.args.tasks.now in
    let outputs = c.args.outputs.now in
    let places = c.args.places.now in
    let i = c.loop-place.place in
    let d = c.index-places-place.result in
    let at : TaskPlace = get_or places i d in
    let lt = c.loop-place-test.true in
    let is : at ≡ get_or places i at = get_or_default places i d at lt in
    let old = c.loop-place.invariant in
    let Least : Option FoundConflict → Type 0 = λ o. IsLeast (IsConflictThere search chains tasks outputs (take (i + 1) places)) (found_by tasks places o) in
    let Within : Option FoundConflict → Type 0 = λ o. MatchOption o (Unit {0}) (IsWithin tasks places) in
    let IsLastHere : Last → Type 0 = λ it. IsLast outputs places it in
    elim c.if-not-is_later.branch [
      | then-not-is_later+in_ok-last+in_ok-others w ↦
          let others = w.in_ok-others.others.items in
          let other = w.index-places-place-then-not-is_later.result in
          let met = w.least_at-met.result in
          let near = near_there outputs places i other w.in_ok-last.last.near.items w.as_slice.result.now lt w.index-places-place-then-not-is_later.is w.as_slice.ensures.value w.in_ok-last.ensures.near in
          let reported = subst (λ (p : TaskPlace). (task : ℕ) → Contains others task ↔ IsConflictTask search chains outputs p task) (w.index-places-place-then-not-is_later.is ∙ get_or_default places i other d lt) (w.in_ok-others.ensures outputs near) in
          let more = meets_more search chains tasks outputs places i at lt is others reported in
          record {
            least = subst Least (sym w.least-is)
                (subst (IsLeast (IsConflictThere search chains tasks outputs (take (i + 1) places))) (sym w.lesser-least.ensures.lesser)
                (least_same _ _ (λ m. (more m).1) (λ m. (more m).0) (lesser (found_by tasks places c.loop-place.least) (found_by tasks places met))
                (least_either (IsConflictThere search chains tasks outputs (take i places)) (IsConflictAt tasks at others) (found_by tasks places c.loop-place.least) (found_by tasks places met) old.least
                (least_near tasks places at others at.task i met refl (place_found places i d lt) (subst (λ ks. IsNear tasks ks at.task i met) w.as_slice-then-not-is_later.ensures.value w.least_at-met.ensures)))));
            last = subst IsLastHere (sym w.last-is) w.in_ok-last.ensures.last;
            within = subst Within (sym w.least-is) w.lesser-least.ensures.within;
          }
      | else-not-is_later w ↦ record {
        least = subst Least (sym w.least-is)
            (passed_near search chains tasks outputs places i at lt is c.loop-place.least
            (subst (λ b. MatchOption c.loop-place.least (b ≡ false) (λ met. b ≡ is_gt (byte_order (path_at tasks at.task) (path_at tasks met.task)))) w.if-not-is_later.false c.is_later.ensures) old.least);
        last = subst IsLastHere (sym w.last-is) old.last;
        within = subst Within (sym w.least-is) old.within;
      }
    ]

pub returns : goal.returns
returns c =
    let tasks = c.args.tasks.now in
    let places = c.args.places.now in
    let Least : Option Found → Type 0 = λ o. IsLeast (IsConflictThere c.args.search (rows c.args.chains.now) tasks c.args.outputs.now places) o in
    let e : length places ≡ c.loop-place.place = omega (arith, c.loop-place-test.false, c.loop-place.auto.place-end) in
    IfOk-weaker c.copied.result (λ o. o ≡ found_by tasks places c.loop-place.least) Least
    (λ o is. subst Least (sym is)
    (subst (λ ps. IsLeast (IsConflictThere c.args.search (rows c.args.chains.now) tasks c.args.outputs.now ps) (found_by tasks places c.loop-place.least)) (ap (λ n. take n places) (sym e) ∙ take-length places) c.loop-place.invariant.least))
    c.copied.ensures
