use Rattle.std.proofs.Common.{◌≡◌, ◌++◌, drop}
use Rattle.gb_run.specs.ChangeTexts.{shown_steps}
use Rattle.gb_run.proofs.planning.owned.Given as goal

abbrev pub invariant-loop-step : goal.invariant-loop-step
invariant-loop-step l = l.owned.items ++ shown_steps (drop l.step-index l.steps) ≡ shown_steps l.steps
