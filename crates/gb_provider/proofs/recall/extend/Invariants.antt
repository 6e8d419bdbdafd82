use Rattle.std.proofs.Common.{◌≡◌, ◌≢◌, ℕ, length, Some}
use Rattle.std.specs.Prelude.{slice_get}
use Rattle.gb_provider.specs.declared.evaluation.State.TheVariants.{Open}
use Rattle.gb_provider.specs.Search.{known}
use Rattle.gb_provider.proofs.recall.extend.Given as goal

abbrev pub invariant-loop-i : goal.invariant-loop-i
invariant-loop-i g l = record {
  known : (e : ℕ) → known l.states.items e ≡ known l.initial.states.items e;
  closed : (e : ℕ) → slice_get l.initial.states.items e ≢ Some Open → slice_get l.states.items e ≢ Some Open;
  count : length l.states.items ≡ l.i;
}
