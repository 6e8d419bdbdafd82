use Rattle.std.proofs.Common.{sym, ap, subst, ◌∙◌, true≢false, refl, Err}
use Rattle.std.specs.Result.{IsErrOf}
use Rattle.gb_core.specs.declared.name.NameFault.TheVariants.{BadName}
use Rattle.gb_core.specs.Path.{is_task_path, task_in}
use Rattle.gb_core.proofs.Parts.{parts_make}
use Rattle.gb_registry.proofs.so_far.task_path.Goals as goal

pub unreachable-requires : goal.unreachable-requires
unreachable-requires c =
    let project = c.args.project.now in
    let good = parts_make project c.args.name.now c.as_str.ensures.path c.as_str-2.ensures.name in
    let path =
    c.as_str-3.ensures.value ∙ c.in_ok-path.ensures ∙ ap (λ p. task_in p c.as_str-2.result.now) c.as_str.ensures.text
    ∙ ap (task_in project) c.as_str-2.ensures.text in
    true≢false (sym good.0 ∙ ap is_task_path (sym path) ∙ c.read.ensures.bad (subst (λ r. IsErrOf r BadName) (sym (c.in-Err-BadName.is ∙ ap Err c.in-Err-BadName.field-0-is)) refl))
