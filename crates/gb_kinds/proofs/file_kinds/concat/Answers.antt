use Rattle.std.proofs.Common.{◌≡◌, [], Ok, refl, sym, ap, subst, ◌∙◌}
use Rattle.gb_action.specs.Replies.{Answers}
use Rattle.gb_action.specs.Files.{tree_at}
use Rattle.gb_action.specs.Shapes.{source}
use Rattle.gb_action.specs.declared.output_files.Form.TheVariants.{File}
use Rattle.gb_kinds.specs.Builtin.{builtin_makes, builtin_prints, builtin_shape}
use Rattle.gb_kinds.specs.ByFile.{one_file, all_bytes}
use Rattle.gb_kinds.specs.declared.shapes.TheConstants.{CONCAT}
use Rattle.gb_kinds.proofs.OneFile.{one_file-answers}
use Rattle.gb_kinds.proofs.file_kinds.concat.Goals as goal

pub returns : goal.returns
returns c =
    let request = c.args.request.now in
    let path-is : c.in_ok-own_path.field-0 ≡ [] = c.in_ok-own_path.ensures in
    let bytes-is : c.in_ok-bytes.bytes ≡ all_bytes (tree_at c.args.request.now.files source) = c.in_ok-bytes.ensures ∙ ap all_bytes (c.files_of.ensures.files ∙ ap (tree_at c.args.request.now.files) c.in_ok-name.ensures) in
    let is : c.in_ok-one_file.field-0 ≡ one_file ([]) (all_bytes (tree_at c.args.request.now.files source)) = c.in_ok-one_file.ensures ∙ ap (λ p. one_file p (c.in_ok-bytes.bytes)) path-is ∙ ap (one_file ([])) bytes-is in
    subst (λ reply. Answers (builtin_makes CONCAT) (builtin_prints CONCAT) request (Ok reply)) (sym is)
    (one_file-answers (builtin_makes CONCAT) (builtin_prints CONCAT) (builtin_shape CONCAT) request File ([]) (all_bytes (tree_at c.args.request.now.files source)) c.requires refl refl refl refl)
