use Rattle.std.proofs.Common.{◌≡◌, ◌++◌, ◌&&◌, Option, map, string_bytes}
use Rattle.std.specs.Borrow.{Bor}
use Rattle.std.specs.Global.{Global}
use Rattle.std.specs.List.{filter}
use Rattle.std.specs.Option.{is_some, option_copied}
use Rattle.std.specs.declared.string.String.{String}
use Rattle.gb_core.specs.Place.{is_place}
use Rattle.gb_folder.specs.Files.{Bytes}
use Rattle.gb_run.specs.Steps.{Step}
use Rattle.gb_run.specs.ChangeTexts.{shown_steps, steps_in}
use Rattle.gb_run.proofs.step_order.push_coming.Given as goal

abbrev pub invariant-loop-text : goal.invariant-loop-text
invariant-loop-text l =
    shown_steps l.ordered.items ++ filter (λ (step : Step). is_place step.0 && is_some step.1) (map (λ (e : String Global × Option (Bor Bytes)). (string_bytes e.0, option_copied e.1)) l.text-iterator)
    ≡ shown_steps l.fn.ordered.items ++ filter (λ (step : Step). is_place step.0 && is_some step.1) (steps_in l.steps)
