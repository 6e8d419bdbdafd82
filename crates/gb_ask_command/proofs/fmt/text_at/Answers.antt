use Rattle.std.proofs.Common.{sym, ◌∙◌}
use Rattle.gb_ask_command.specs.Fmt.{bytes_in}
use Rattle.gb_ask_command.proofs.Treating.{read_done}
use Rattle.gb_ask_command.proofs.fmt.text_at.Goals as goal

pub returns-else-is_input : goal.returns-else-is_input
returns-else-is_input g c =
    read_done g.F.Folder.device c.args.place.now c.args.folder.now c.read_at.new.folder c.args.input.now (bytes_in c.read_at.result) (sym c.is_input.ensures ∙ c.if-is_input.false) c.read_at.ensures
