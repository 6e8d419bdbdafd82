use Rattle.std.proofs.Common.{ap, ◌∙◌}
use Rattle.gb_folder.specs.Files.{Place, without}
use Rattle.gb_run.specs.Digests.{digests_in}
use Rattle.gb_run.proofs.ByPlace.{take_by_place}
use Rattle.gb_run.proofs.digests.take_out.Goals as goal

pub returns : goal.returns
returns c =
    take_by_place c.args.held.now c.remove.new.self c.as_str.result.now c.requires c.remove.ensures.entries
    ∙ ap (λ (place : Place). without (digests_in c.args.held.now) place) c.as_str.ensures.text
