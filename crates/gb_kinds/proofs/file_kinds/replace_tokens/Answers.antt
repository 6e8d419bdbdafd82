use Rattle.std.proofs.Common.{refl, subst}
use Rattle.gb_action.specs.declared.output_files.Form.TheVariants.{Dir}
use Rattle.gb_action.proofs.Asked.{declares_target}
use Rattle.gb_kinds.specs.ByFile.{IsByFile}
use Rattle.gb_kinds.specs.Contents.{with_value}
use Rattle.gb_kinds.specs.Builtin.{builtin_shape, first_text, second_text}
use Rattle.gb_kinds.specs.declared.shapes.TheConstants.{REPLACE_TOKENS}
use Rattle.gb_kinds.proofs.ByFileAnswers.{by_file-answers}
use Rattle.gb_kinds.proofs.file_kinds.replace_tokens.Goals as goal

pub returns : goal.returns
returns c =
    by_file-answers (λ arguments. with_value (first_text arguments) (second_text arguments)) c.args.request.now c.in_ok-reply_by_file.field-0 c.in_ok-reply_by_file.ensures.ordered (subst (λ key. IsByFile (with_value key (second_text c.args.request.now.args)) c.args.request.now c.in_ok-reply_by_file.field-0) c.first_text.ensures
    (subst (λ value. IsByFile (with_value c.first_text.result.now value) c.args.request.now c.in_ok-reply_by_file.field-0) c.second_text.ensures c.in_ok-reply_by_file.ensures.reply))
    (declares_target (builtin_shape REPLACE_TOKENS) c.args.request.now c.requires Dir refl)
