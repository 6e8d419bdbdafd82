use Rattle.std.proofs.Common.{ap, ◌∙◌}
use Rattle.gb_folder.specs.Files.{Place, with_file}
use Rattle.gb_run.specs.Digests.{digests_in}
use Rattle.gb_run.proofs.ByPlace.{put_by_place}
use Rattle.gb_run.proofs.digests.hold.Goals as goal

pub returns-clause-ok : goal.returns-clause-ok
returns-clause-ok c =
    put_by_place c.args.held.now c.insert.new.self c.in_ok-from_str.field-0 c.args.digest c.in_ok-insert.ensures.entries
    ∙ ap (λ (place : Place). with_file (digests_in c.args.held.now) place c.args.digest) (c.in_ok-from_str.ensures.ok ∙ c.as_str-text.ensures.text)
