use Rattle.std.proofs.Common.{refl, ap, sym}
use Rattle.gb_action.specs.declared.output_files.Form.TheVariants.{Dir}
use Rattle.gb_action.proofs.Asked.{declares_target}
use Rattle.gb_kinds.specs.Builtin.{of_files}
use Rattle.gb_with.proofs.RecheckAnswers.{remaking-answers}
use Rattle.gb_with.specs.TreeKinds.{makes_of_trees, of_trees-own, prints_nothing, written_or}
use Rattle.gb_with.proofs.of_trees.OfTreesActions.run.Goals as goal

pub returns-in_ok-reply_recheck-in-Ok : goal.returns-in_ok-reply_recheck-in-Ok
returns-in_ok-reply_recheck-in-Ok g c =
    let request = c.args.request.now in
    let makes = g.K.TreeKind.makes in
    remaking-answers (makes_of_trees makes) prints_nothing c.in-Ok.files.items c.new.result request c.in_ok-reply_recheck-in-Ok.field-0
    c.in_ok-reply_recheck-in-Ok.ensures (λ trees written. of_trees-own makes request.args request.values trees written)
    (ap written_or c.in-Ok.ensures) (sym c.new.ensures) (declares_target (of_files g.K.TreeKind.takes) request c.requires Dir refl)
