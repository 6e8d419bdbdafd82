use mathlib.Core.Path.{fun_ext}
use Rattle.std.proofs.Common.{◌≡◌, Ok, [], map, unwrap_or, refl, ap, sym, ◌∙◌}
use Rattle.std.specs.FinMap.Entries.{find}
use Rattle.gb_core.specs.Lists.{byte_order}
use Rattle.gb_action.specs.Files.{tree_at}
use Rattle.gb_action.specs.declared.output_files.Form.TheVariants.{Dir}
use Rattle.gb_action.proofs.Asked.{declares_target}
use Rattle.gb_kinds.specs.Builtin.{of_files, prints_changes}
use Rattle.gb_kinds.specs.ByFile.{change_line}
use Rattle.gb_with.proofs.RecheckAnswers.{remaking-answers}
use Rattle.gb_with.specs.TreeKinds.{makes_of_trees, of_trees-own, written_or}
use Rattle.gb_with.specs.TryKinds.{all_tried, tried_tree}
use Rattle.gb_with.proofs.try_by_file.TryByFileActions.run.Goals as goal

pub returns-in-Ok : goal.returns-in-Ok
returns-in-Ok g c =
    let request = c.args.request.now in
    let makes = tried_tree g.K.TryFileKind.makes in
    let tried = g.K.TryFileKind.makes request.args in
    let is : makes request.args request.files ≡ Ok c.in-Ok.files.items =
    ap (all_tried tried) (sym (c.files_of.ensures ∙ ap (tree_at request.files) c.in_ok-name.ensures))
    ∙ ap (λ t. all_tried t c.files_of.result.now) (sym (fun_ext c.in_ok-maker.ensures))
    ∙ c.in-Ok.ensures in
    remaking-answers (makes_of_trees makes) prints_changes c.in-Ok.files.items c.in_ok-lines-in-Ok.lines request
    c.in_ok-reply_recheck-in-Ok.field-0
    c.in_ok-reply_recheck-in-Ok.ensures (λ trees written. of_trees-own makes request.args request.values trees written)
    (ap written_or is)
    (sym (c.in_ok-lines-in-Ok.ensures ∙ ap (map change_line) (c.changes_of.ensures
    ∙ ap (λ name. unwrap_or (find byte_order name request.changes.lists) []) c.in_ok-name.ensures)))
    (declares_target (of_files g.K.TryFileKind.takes) request c.requires Dir refl)
