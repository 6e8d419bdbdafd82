use Rattle.std.proofs.Common.{◌≡◌, [], Ok, refl, sym, ap, subst, ◌∙◌, rules}
use Rattle.gb_action.specs.Replies.{Answers}
use Rattle.gb_action.specs.declared.output_files.Form.TheVariants.{File}
use Rattle.gb_kinds.specs.Builtin.{builtin_makes, builtin_prints, builtin_shape, first_text}
use Rattle.gb_kinds.specs.ByFile.{one_file}
use Rattle.gb_kinds.specs.declared.shapes.TheConstants.{WRITE_TEXT}
use Rattle.gb_kinds.proofs.OneFile.{one_file-answers}
use Rattle.gb_kinds.proofs.text_kinds.write_text.Goals as goal

pub returns : goal.returns
returns c =
    let request = c.args.request.now in
    let path-is : c.in_ok-own_path.field-0 ≡ [] = c.in_ok-own_path.ensures in
    let bytes-is : c.in_ok-bytes.bytes ≡ first_text c.args.request.now.args = search rules in
    let is : c.in_ok-one_file.field-0 ≡ one_file ([]) (first_text c.args.request.now.args) = c.in_ok-one_file.ensures ∙ ap (λ p. one_file p (c.in_ok-bytes.bytes)) path-is ∙ ap (one_file ([])) bytes-is in
    subst (λ reply. Answers (builtin_makes WRITE_TEXT) (builtin_prints WRITE_TEXT) request (Ok reply)) (sym is)
    (one_file-answers (builtin_makes WRITE_TEXT) (builtin_prints WRITE_TEXT) (builtin_shape WRITE_TEXT) request File ([]) (first_text c.args.request.now.args) c.requires refl refl refl refl)
