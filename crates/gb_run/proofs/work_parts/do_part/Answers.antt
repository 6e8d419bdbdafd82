use Rattle.std.proofs.Common.{◌++◌, [], ◌∷◌, List, Ok, Err, sym, ap, subst, ◌∙◌}
use Rattle.std.proofs.lemmas.Result.{err_from_is_err_and}
use Rattle.gb_report.specs.declared.fault.Fault.TheVariants as faults
use Rattle.gb_plan.specs.Task.{Text}
use Rattle.gb_folder.proofs.Machine.{at_err}
use Rattle.gb_run.specs.Steps.{Step}
use Rattle.gb_run.proofs.Endings.{with_none}
use Rattle.gb_run.specs.Doing.{Does, Ending}
use Rattle.gb_run.specs.Worked.{part_held}
use Rattle.gb_run.proofs.PartByPart.{PartsLed, part_full, part_mute, part_short}
use Rattle.gb_run.proofs.work_parts.do_part.Goals as goal

pub returns-in_err-do_steps : goal.returns-in_err-do_steps
returns-in_err-do_steps g c =
    let F = g.F.Folder in
    let part = c.args.part.now in
    let p = err_from_is_err_and c.from_residual.result c.from_residual.ensures.1 in
    let led = c.in_err-do_steps.ensures in
    at_err (λ (r : Ending). PartsLed F.device (part ∷ []) c.args.folder.now c.args.lines.now r c.do_steps.new.folder c.args.lines.now)
    c.from_residual.result p.0 c.in_err-do_steps.field-0.0 p.1 p.2
    (led.0, [], led.1, part_short (part_held part) led.0 c.in_err-do_steps.field-0.0 (subst (λ (ss : List Step). Does ss led.0 (Err c.in_err-do_steps.field-0.0)) c.as_slice.ensures.value led.2), sym (with_none c.args.lines.now))

pub returns-in_err-printed : goal.returns-in_err-printed
returns-in_err-printed g c =
    let F = g.F.Folder in
    let part = c.args.part.now in
    let p = err_from_is_err_and c.from_residual-in_err-printed.result c.from_residual-in_err-printed.ensures.1 in
    let led = c.in_ok-do_steps.ensures in
    at_err (λ (r : Ending). PartsLed F.device (part ∷ []) c.args.folder.now c.args.lines.now r c.do_steps.new.folder c.args.lines.now)
    c.from_residual-in_err-printed.result p.0 faults.OutOfMemory p.1 p.2
    (led.0, [], led.1, part_mute (part_held part) led.0 (subst (λ (ss : List Step). Does ss led.0 (Ok tt)) c.as_slice.ensures.value led.2), sym (with_none c.args.lines.now))

pub returns-in_err-append : goal.returns-in_err-append
returns-in_err-append g c =
    let F = g.F.Folder in
    let part = c.args.part.now in
    let p = err_from_is_err_and c.from_residual-in_err-append.result c.from_residual-in_err-append.ensures.1 in
    let led = c.in_ok-do_steps.ensures in
    at_err (λ (r : Ending). PartsLed F.device (part ∷ []) c.args.folder.now c.args.lines.now r c.do_steps.new.folder c.append.new.self)
    c.from_residual-in_err-append.result p.0 faults.OutOfMemory p.1 p.2
    (led.0, [], led.1, part_mute (part_held part) led.0 (subst (λ (ss : List Step). Does ss led.0 (Ok tt)) c.as_slice.ensures.value led.2), c.in_err-append.ensures.err ∙ sym (with_none c.args.lines.now))

pub returns : goal.returns
returns g c =
    let part = c.args.part.now in
    let led = c.in_ok-do_steps.ensures in (
      led.0,
      part.lines,
      led.1,
      part_full (part_held part) led.0 (subst (λ (ss : List Step). Does ss led.0 (Ok tt)) c.as_slice.ensures.value led.2),
      c.in_ok-append.ensures.ok ∙ ap (λ (ls : List Text). c.args.lines.now ++ ls) c.in_ok-printed.ensures,
    )
