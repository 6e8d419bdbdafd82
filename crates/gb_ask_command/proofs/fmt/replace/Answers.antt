use Rattle.std.specs.Prelude.{string_bytes}
use Rattle.gb_ask_command.specs.Fmt.{string_in}
use Rattle.gb_ask_command.proofs.Treating.{write_done}
use Rattle.gb_ask_command.proofs.fmt.replace.Goals as goal

pub returns : goal.returns
returns g c =
    write_done g.F.Folder.device c.args.place.now c.args.folder.now c.write-answer.new.self c.in_ok-at.at c.as_bytes.result.now (string_bytes c.args.out.now) c.write-answer.result (string_in c.named_after.result)
    c.in_ok-at.ensures c.as_bytes.ensures.value c.write-answer.ensures c.named_after.ensures
