use Rattle.std.proofs.Common.{Bool, List, Ok, subst}
use Rattle.std.specs.Global.{Global}
use Rattle.std.specs.declared.string.String.{String}
use Rattle.std.proofs.lemmas.List.{take_all}
use Rattle.std.proofs.lemmas.Result.{err_from_is_err_and}
use Rattle.gb_folder.specs.Each.{Ended}
use Rattle.gb_report.specs.declared.fault.Fault.{Fault}
use Rattle.gb_folder.proofs.Machine.{at_err}
use Rattle.gb_ask_command.specs.Fmt.{IsTreated}
use Rattle.gb_ask_command.proofs.Treating.{AllDone, all_more, all_none, all_short}
use Rattle.gb_ask_command.proofs.fmt.treat_all.Goals as goal

pub loop-name-init : goal.loop-name-init
loop-name-init g c =
    let F = g.F.Folder in
    let W = g.W.Printer in
    all_none F.device W.contents W.whole (IsTreated c.args.mode c.is_headed-headed.result c.args.input.now) c.args.folder.now c.args.writer.now c.args.any.now

pub loop-name-preserved : goal.loop-name-preserved
loop-name-preserved g c =
    let F = g.F.Folder in
    let W = g.W.Printer in
    all_more F.device W.contents W.whole (IsTreated c.args.mode c.is_headed-headed.result c.args.input.now) c.args.names.now c.loop-name.name-index c.name-item.result c.loop-name-test.true c.name-item.is
    c.args.folder.now c.loop-name.folder c.treat_one.new.folder c.args.writer.now c.loop-name.writer c.treat_one.new.writer c.args.any.now c.loop-name.any c.treat_one.new.any
    c.loop-name.invariant c.in_ok-treat_one.ensures

pub returns-in_err-treat_one : goal.returns-in_err-treat_one
returns-in_err-treat_one g c =
    let F = g.F.Folder in
    let W = g.W.Printer in
    let p = err_from_is_err_and c.from_residual.result c.from_residual.ensures.1 in
    subst (λ (headed : Bool). AllDone F.device W.contents W.whole (IsTreated c.args.mode headed c.args.input.now) c.args.names.now c.args.folder.now c.args.writer.now c.args.any.now c.from_residual.result c.treat_one.new.folder c.treat_one.new.writer c.treat_one.new.any)
    c.is_headed-headed.ensures
    (at_err (λ (r : Ended Fault). AllDone F.device W.contents W.whole (IsTreated c.args.mode c.is_headed-headed.result c.args.input.now) c.args.names.now c.args.folder.now c.args.writer.now c.args.any.now r c.treat_one.new.folder c.treat_one.new.writer c.treat_one.new.any)
    c.from_residual.result p.0 c.in_err-treat_one.field-0.0 p.1 p.2
    (all_short F.device W.contents W.whole (IsTreated c.args.mode c.is_headed-headed.result c.args.input.now) c.args.names.now c.loop-name.name-index c.name-item.result c.loop-name-test.true c.name-item.is
    c.args.folder.now c.loop-name.folder c.treat_one.new.folder c.args.writer.now c.loop-name.writer c.treat_one.new.writer c.args.any.now c.loop-name.any c.treat_one.new.any
    c.in_err-treat_one.field-0.0 c.loop-name.invariant c.in_err-treat_one.ensures))

pub returns : goal.returns
returns g c =
    let F = g.F.Folder in
    let W = g.W.Printer in
    let all = subst (λ (xs : List (String Global)). AllDone F.device W.contents W.whole (IsTreated c.args.mode c.is_headed-headed.result c.args.input.now) xs c.args.folder.now c.args.writer.now c.args.any.now (Ok tt) c.loop-name.folder c.loop-name.writer c.loop-name.any)
    (take_all c.loop-name.name-index c.args.names.now c.loop-name-test.false) c.loop-name.invariant in
    subst (λ (headed : Bool). AllDone F.device W.contents W.whole (IsTreated c.args.mode headed c.args.input.now) c.args.names.now c.args.folder.now c.args.writer.now c.args.any.now (Ok tt) c.loop-name.folder c.loop-name.writer c.loop-name.any)
    c.is_headed-headed.ensures all
