use Rattle.std.proofs.Common.{◌≡◌, Ok, refl, sym, ap, subst, ◌∙◌, rules, true}
use Rattle.gb_core.specs.Place.{is_rel_path}
use Rattle.gb_action.specs.Replies.{Answers}
use Rattle.gb_action.proofs.Asked.{has_its_args}
use Rattle.gb_action.specs.declared.output_files.Form.TheVariants.{Dir}
use Rattle.gb_kinds.specs.Builtin.{builtin_makes, builtin_prints, builtin_shape, first_text, second_text}
use Rattle.gb_kinds.specs.ByFile.{one_file}
use Rattle.gb_kinds.specs.declared.shapes.TheConstants.{ADD_FILE}
use Rattle.gb_kinds.proofs.OneFile.{one_file-answers, first-is_path}
use Rattle.gb_kinds.proofs.file_kinds.add_file.Goals as goal

pub returns : goal.returns
returns c =
    let request = c.args.request.now in
    let path-is : c.in_ok-path.path ≡ first_text c.args.request.now.args = c.in_ok-path.ensures ∙ c.first_text.ensures in
    let bytes-is : c.in_ok-from_slice.field-0 ≡ second_text c.args.request.now.args = search rules in
    let is : c.in_ok-one_file.field-0 ≡ one_file (first_text c.args.request.now.args) (second_text c.args.request.now.args) = c.in_ok-one_file.ensures ∙ ap (λ p. one_file p (c.in_ok-from_slice.field-0)) path-is ∙ ap (one_file (first_text c.args.request.now.args)) bytes-is in
    subst (λ reply. Answers (builtin_makes ADD_FILE) (builtin_prints ADD_FILE) request (Ok reply)) (sym is)
    (one_file-answers (builtin_makes ADD_FILE) (builtin_prints ADD_FILE) (builtin_shape ADD_FILE) request Dir (first_text c.args.request.now.args) (second_text c.args.request.now.args) c.requires refl refl refl refl)

pub rel_path-requires : goal.rel_path-requires
rel_path-requires c = subst (λ text. is_rel_path text ≡ true) (sym c.first_text.ensures) (first-is_path c.args.request.now.args (has_its_args (builtin_shape ADD_FILE) c.args.request.now c.requires))
