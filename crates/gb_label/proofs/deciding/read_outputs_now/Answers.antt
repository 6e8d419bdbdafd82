use Rattle.std.proofs.Common.{sym, ap, ◌∙◌}
use Rattle.std.specs.List.{list_any}
use Rattle.std.proofs.lemmas.Result.{on_ok_weaker}
use Rattle.gb_folder.specs.Files.{is_own}
use Rattle.gb_plan.specs.declared.task.Output.{Output}
use Rattle.gb_label.proofs.Growth.{cannot_print, err_as, none_reported}
use Rattle.gb_label.proofs.deciding.read_outputs_now.Goals as goal

pub returns-clause-none_special : goal.returns-clause-none_special
returns-clause-none_special g c = λ faithful known.
    on_ok_weaker c.read_outputs.result
    (none_reported (g.F.Folder.device.contents c.args.folder.now) c.args.task.now.outputs
    (ap (list_any (λ (output : Output). is_own output.place)) (sym c.as_slice.ensures) ∙ sym c.has_own.ensures ∙ c.if-has_own.false))
    (c.read_outputs.ensures.fit faithful known)

pub returns-clause-err : goal.returns-clause-err
returns-clause-err g c = λ faithful known.
    err_as c.read_outputs.result (c.read_outputs.ensures.err faithful known) (λ fault cannot.
    cannot_print c.args.task.now (g.F.Folder.device.contents c.args.folder.now) _ _ fault
    (ap (list_any (λ (output : Output). is_own output.place)) (sym c.as_slice.ensures) ∙ sym c.has_own.ensures ∙ c.if-has_own.false) cannot)
