use Rattle.std.proofs.Common.{refl, subst}
use Rattle.gb_action.specs.declared.output_files.Form.TheVariants.{Dir}
use Rattle.gb_action.proofs.Asked.{declares_target}
use Rattle.gb_kinds.specs.ByFile.{IsByFile}
use Rattle.gb_kinds.specs.Contents.{kept_lines}
use Rattle.gb_kinds.specs.Builtin.{builtin_shape, first_text}
use Rattle.gb_kinds.specs.declared.shapes.TheConstants.{KEEP_LINES}
use Rattle.gb_kinds.proofs.ByFileAnswers.{by_file-answers}
use Rattle.gb_kinds.proofs.file_kinds.keep_lines.Goals as goal

pub returns : goal.returns
returns c =
    by_file-answers (λ arguments. kept_lines (first_text arguments)) c.args.request.now c.in_ok-reply_by_file.field-0 c.in_ok-reply_by_file.ensures.ordered (subst (λ text. IsByFile (kept_lines text) c.args.request.now c.in_ok-reply_by_file.field-0) c.first_text.ensures c.in_ok-reply_by_file.ensures.reply)
    (declares_target (builtin_shape KEEP_LINES) c.args.request.now c.requires Dir refl)
