use Rattle.std.proofs.Common.{refl}
use Rattle.gb_action.specs.declared.output_files.Form.TheVariants.{Dir}
use Rattle.gb_action.proofs.Asked.{declares_target}
use Rattle.gb_kinds.specs.Builtin.{builtin_shape}
use Rattle.gb_kinds.specs.declared.shapes.TheConstants.{COPY_FILES}
use Rattle.gb_kinds.proofs.ByFileAnswers.{by_file-answers}
use Rattle.gb_kinds.proofs.file_kinds.copy_files.Goals as goal

pub returns : goal.returns
returns c =
    by_file-answers (λ arguments bytes. bytes) c.args.request.now c.in_ok-reply_by_file.field-0 c.in_ok-reply_by_file.ensures.ordered c.in_ok-reply_by_file.ensures.reply
    (declares_target (builtin_shape COPY_FILES) c.args.request.now c.requires Dir refl)
