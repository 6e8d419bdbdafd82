use Rattle.gb_format.proofs.Prefixes.{ends_with, parts_are}
use Rattle.gb_format.proofs.cutting.cut_first.Goals as goal

pub split_before-requires : goal.split_before-requires
split_before-requires c = ends_with c.args.text.now c.requires _ _ c.in_ok-part.ensures.exact

pub returns-clause-exact : goal.returns-clause-exact
returns-clause-exact c = parts_are c.args.text.now _ _ _ _ c.in_ok-part.ensures.exact c.split_before.ensures.prefix c.split_before.ensures.rest
