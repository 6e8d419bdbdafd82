use Rattle.std.proofs.Common.{◌≡◌, ◌<◌, ◌+◌, ℕ, [], Option, true, length, get_or, take, MatchOption, sym, subst}
use Rattle.std.specs.Ordering.{is_lt}
use Rattle.std.proofs.lemmas.List.{get_or_default}
use Rattle.std.proofs.lemmas.List.Elements.{Contains-get_or}
use Rattle.gb_core.specs.Lists.{byte_order}
use Rattle.gb_graph.specs.Cycle.{path_at}
use Rattle.gb_graph.specs.Conflicts.{IsLeastTask}
use Rattle.gb_graph.proofs.Lesser.{task_lesser, task_passed}
use Rattle.gb_graph.proofs.least.least_task.Goals as goal
use Rattle.gb_graph.proofs.least.least_task.Goals.{then-is_lesser, else-is_lesser}

pub is_lesser-requires-clause-number : goal.is_lesser-requires-clause-number
is_lesser-requires-clause-number c = c.requires _ (Contains-get_or c.args.numbers.now c.loop-number.number-index 0 c.loop-number-test.true)

pub loop-number-preserved : goal.loop-number-preserved
loop-number-preserved c =
    let tasks = c.args.tasks.now in
    let numbers = c.args.numbers.now in
    let i = c.loop-number.number-index in
    let lt = c.loop-number-test.true in
    let k : ℕ = get_or numbers i 0 in
    let is = get_or_default numbers i 0 k lt in
    let least = c.loop-number.least in
    let old = c.loop-number.invariant in
    let Reported : Option ℕ → Type 0 = λ o. MatchOption o (take (i + 1) numbers ≡ []) (IsLeastTask tasks (take (i + 1) numbers)) in
    let Known : Option ℕ → Type 0 = λ o. MatchOption o (Unit {0}) (λ n. n < length tasks) in
    elim c.if-is_lesser.branch [
      | then-is_lesser w ↦ record {
        reported = subst Reported (sym w.least-is) (task_lesser tasks numbers i k lt is least old.reported
            (subst (λ b. MatchOption least (b ≡ true) (λ l. b ≡ is_lt (byte_order (path_at tasks k) (path_at tasks l)))) w.if-is_lesser.true c.is_lesser.ensures));
        known = subst Known (sym w.least-is) (c.requires k (Contains-get_or numbers i 0 lt));
      }
      | else-is_lesser w ↦ record {
        reported = subst Reported (sym w.least-is) (task_passed tasks numbers i k lt is least old.reported
            (subst (λ b. MatchOption least (b ≡ true) (λ l. b ≡ is_lt (byte_order (path_at tasks k) (path_at tasks l)))) w.if-is_lesser.false c.is_lesser.ensures));
        known = subst Known (sym w.least-is) old.known;
      }
    ]
