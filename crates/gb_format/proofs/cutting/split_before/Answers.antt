use Rattle.std.proofs.Common.{◌∙◌}
use Rattle.gb_format.proofs.Prefixes.{seam, past_seam}
use Rattle.gb_format.proofs.cutting.split_before.Goals as goal

pub split_at-requires : goal.split_at-requires
split_at-requires c = seam c.args.text.now c.args.rest.now c.requires c.utf8.rest

pub returns-clause-rest : goal.returns-clause-rest
returns-clause-rest c = c.split_at.ensures.back ∙ past_seam c.args.text.now c.args.rest.now c.requires
