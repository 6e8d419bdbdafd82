use Rattle.std.specs.Option.{option_copied}
use Rattle.gb_build.proofs.PlaceLemmas.{blamed_at}
use Rattle.gb_build.proofs.each_script.read_script_of.Goals as goal

pub returns-clause-blamed : goal.returns-clause-blamed
returns-clause-blamed g c = λ place device.
    blamed_at (option_copied c.as_ref.result) c.in_ok-place.place place c.in_ok-place.ensures (c.script_at.ensures.blamed place device)
