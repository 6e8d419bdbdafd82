use Rattle.std.proofs.Common.{◌≡◌, ◌<◌, ℕ, Some, None, take, map, length, vec_len, get_or, Contains}
use Rattle.gb_plan.specs.declared.plan.Planned.{Planned}
use Rattle.gb_graph.proofs.ranked.tasks_at.Given as goal

abbrev pub invariant-loop-number : goal.invariant-loop-number
invariant-loop-number l = record {
  each : vec_len l.slots ≡ length l.fn.tasks.items;
  filled : (k : ℕ) (d : Planned) → k < length l.fn.tasks.items → (¬ Contains (take l.number-index l.numbers) k) → get_or l.slots.items k None ≡ Some (get_or l.fn.tasks.items k d);
  placed : (d : Planned) → l.placed.items ≡ map (λ k. get_or l.fn.tasks.items k d) (take l.number-index l.numbers);
}
