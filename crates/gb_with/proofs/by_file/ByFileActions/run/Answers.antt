use mathlib.Core.Path.{fun_ext}
use Rattle.std.proofs.Common.{refl, subst}
use Rattle.gb_action.specs.declared.output_files.Form.TheVariants.{Dir}
use Rattle.gb_action.proofs.Asked.{declares_target}
use Rattle.gb_kinds.specs.Builtin.{of_files}
use Rattle.gb_kinds.specs.ByFile.{IsByFile}
use Rattle.gb_kinds.proofs.ByFileAnswers.{by_file-answers}
use Rattle.gb_with.proofs.by_file.ByFileActions.run.Goals as goal

pub returns : goal.returns
returns g c =
    let request = c.args.request.now in
    let reply = c.in_ok-reply_by_file.field-0 in
    by_file-answers g.K.FileKind.makes request reply c.in_ok-reply_by_file.ensures.ordered
    (subst (λ edit. IsByFile edit request reply) (fun_ext c.in_ok-maker.ensures)
    c.in_ok-reply_by_file.ensures.reply)
    (declares_target (of_files g.K.FileKind.takes) request c.requires Dir refl)
