use Rattle.std.proofs.Common.{List, sym, ◌∙◌}
use Rattle.std.proofs.lemmas.Result.{IfOk-weaker}
use Rattle.std.specs.List.{list_any}
use Rattle.gb_plan.proofs.Tests.{any_map}
use Rattle.gb_registry.specs.Projects.{Path}
use Rattle.gb_registry.specs.declared.checking.Scripted.{Scripted}
use Rattle.gb_script.specs.declared.script.Statement.{Statement}
use Rattle.gb_ask_command.specs.Unread.{is_read_by}
use Rattle.gb_ask_command.proofs.unread.is_read.Goals as goal

pub returns-clause-is : goal.returns-clause-is
returns-clause-is c =
    IfOk-weaker c.is_read_in_scripts.result _ _
    (λ is read. read ∙ sym (any_map (λ (script : Path × List Statement). list_any (is_read_by c.args.name.now) script.1) (λ (s : Scripted). (s.project, s.script)) c.args.scripts.now))
    c.is_read_in_scripts.ensures.is
