use Rattle.std.proofs.Common.{◌++◌, length, map, string_bytes, sym, ◌∙◌}
use Rattle.gb_folder.proofs.Leading.{requests_of}
use Rattle.gb_printer.proofs.Printed.{all_printed, prints_more}
use Rattle.gb_ask_command.specs.Fmt.{end_text, is_headed, may_write}
use Rattle.gb_ask_command.proofs.Writing.{all_may}
use Rattle.gb_ask_command.proofs.fmt.run.Goals as goal

pub returns-then-is_whole-clause-requests : goal.returns-then-is_whole-clause-requests
returns-then-is_whole-clause-requests g c =
    let F = g.F.Folder in
    let device = F.device in
    let all = c.treat_all-ended.ensures in
    let mode = c.args.mode in
    let names = c.args.names.now in
    requests_of device (may_write mode (map string_bytes names)) c.args.folder.now c.treat_all-ended.new.folder all.0
    (all_may mode (is_headed mode (length names)) c.args.input.now names all.0 all.1 c.treat_all-ended.result all.3)
    all.2

pub returns-then-is_whole-clause-treated : goal.returns-then-is_whole-clause-treated
returns-then-is_whole-clause-treated g c =
    let W = g.W.Printer in
    let all = c.treat_all-ended.ensures in
    let ended = c.treat_all-ended.result in
    let end = c.print_end.new.writer in
    let prints = prints_more W.contents W.whole all.1 (end_text ended) c.args.writer.now c.treat_all-ended.new.writer end all.4 c.print_end.ensures in (
      all.0,
      all.1,
      ended,
      all.2,
      all.3,
      prints,
      (all_printed W.contents W.whole (all.1 ++ end_text ended) c.args.writer.now end prints (sym c.is_whole.ensures ∙ c.if-is_whole.true), c.status_of-status.ensures all.1 all.5),
    )

pub returns-else-is_whole-clause-requests : goal.returns-else-is_whole-clause-requests
returns-else-is_whole-clause-requests g c =
    let F = g.F.Folder in
    let device = F.device in
    let all = c.treat_all-ended.ensures in
    let mode = c.args.mode in
    let names = c.args.names.now in
    requests_of device (may_write mode (map string_bytes names)) c.args.folder.now c.treat_all-ended.new.folder all.0
    (all_may mode (is_headed mode (length names)) c.args.input.now names all.0 all.1 c.treat_all-ended.result all.3)
    all.2

pub returns-else-is_whole-clause-treated : goal.returns-else-is_whole-clause-treated
returns-else-is_whole-clause-treated g c =
    let W = g.W.Printer in
    let all = c.treat_all-ended.ensures in
    let ended = c.treat_all-ended.result in
    let prints = prints_more W.contents W.whole all.1 (end_text ended) c.args.writer.now c.treat_all-ended.new.writer c.print_end.new.writer all.4 c.print_end.ensures in
    (all.0, all.1, ended, all.2, all.3, prints, tt)
