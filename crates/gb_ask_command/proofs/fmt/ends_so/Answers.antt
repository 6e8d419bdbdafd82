use Rattle.std.specs.Prelude.{codes}
use Rattle.std.proofs.lemmas.Str.Pattern.{ends_text}
use Rattle.gb_ask_command.proofs.fmt.ends_so.Goals as goal

pub returns : goal.returns
returns c = ends_text c.ends_with.result (codes "/settings.gb") c.args.place.now c.ends_with.ensures.cases
