use Rattle.std.proofs.Common.{lit<, None}
use Rattle.std.proofs.lemmas.Str.Pattern.{strip_prefix_char}
use Rattle.gb_core.proofs.TaskPaths.{no_colon}
use Rattle.gb_core.proofs.path.is_task_path.Goals as goal

pub returns-in-None : goal.returns-in-None
returns-in-None c = no_colon c.args.text.now (strip_prefix_char 58 c.args.text.now None c.in-None.ensures.cases (lit< tt))
