use Rattle.std.proofs.Common.{Option, option_copied, Bor, sym, subst}
use Rattle.gb_history.specs.declared.decide.Decision.{Decision}
use Rattle.gb_history.specs.declared.record.Record.{Record}
use Rattle.gb_label.specs.Deciding.{FollowsFrom, IsBasisIn, MayDecide}
use Rattle.gb_label.specs.declared.deciding.Basis.{Basis}
use Rattle.gb_label.specs.declared.deciding.Basis.TheVariants.{Forced}
use Rattle.gb_label.specs.declared.deciding.FullReason.TheVariants as causes
use Rattle.gb_label.proofs.Answering.{full_decided}
use Rattle.gb_label.proofs.Growth.{ok_as}
use Rattle.gb_label.proofs.Recorded.{none_for, none_observed_for}
use Rattle.gb_label.proofs.deciding.decided.Goals as goal

pub returns-in_default-clause-goes_by : goal.returns-in_default-clause-goes_by
returns-in_default-clause-goes_by g c =
    ok_as c.in_full.result c.in_full.ensures.full (λ found full.
    subst (λ (b : Basis). FollowsFrom c.args.options c.args.task.now (option_copied c.args.old) found.decision b) (sym full.1)
    (subst (λ (old : Option (Bor Record)). FollowsFrom c.args.options c.args.task.now (option_copied old) found.decision (Forced causes.NoRecord))
    (sym c.in_default.is) (full.0, tt)))

pub returns-in_default-clause-based : goal.returns-in_default-clause-based
returns-in_default-clause-based g c = λ faithful known inputs.
    ok_as c.in_full.result c.in_full.ensures.full (λ found full.
    subst (λ (b : Basis). IsBasisIn c.args.options c.args.task.now (g.F.Folder.device.contents c.args.folder.now) b) (sym full.1) tt)

pub returns-in_default-clause-may_decide : goal.returns-in_default-clause-may_decide
returns-in_default-clause-may_decide g c =
    ok_as c.in_full.result c.in_full.ensures.full (λ found full.
    subst (λ (d : Decision). MayDecide c.args.options c.args.task.now d) (sym full.0) tt)

pub returns-in_default-clause-read : goal.returns-in_default-clause-read
returns-in_default-clause-read g c = ok_as c.in_full.result c.in_full.ensures.full (λ found full. none_for c.args.task.now found.decision found.outputs.items full.0)

pub returns-in_default-clause-observed : goal.returns-in_default-clause-observed
returns-in_default-clause-observed g c = λ faithful known.
    ok_as c.in_full.result c.in_full.ensures.full (λ found full. none_observed_for c.args.task.now (g.F.Folder.device.contents c.args.folder.now).files found.decision found.outputs.items full.0)

pub returns-in_default-clause-answered : goal.returns-in_default-clause-answered
returns-in_default-clause-answered g c = λ first before known.
    ok_as c.in_full.result c.in_full.ensures.full (λ found full.
    full_decided g.F.Folder.device first c.in_full.new.folder c.args.options c.args.task.now (option_copied c.args.old) c.args.inputs.now found.decision found.outputs.items full.0)

pub returns-then-options-clause-goes_by : goal.returns-then-options-clause-goes_by
returns-then-options-clause-goes_by g c =
    ok_as c.in_full-then-options.result c.in_full-then-options.ensures.full (λ found full.
    subst (λ (b : Basis). FollowsFrom c.args.options c.args.task.now (option_copied c.args.old) found.decision b) (sym full.1)
    (subst (λ (old : Option (Bor Record)). FollowsFrom c.args.options c.args.task.now (option_copied old) found.decision (Forced causes.Rerun))
    (sym c.in-Some.is) (full.0, c.if-options.true)))

pub returns-then-options-clause-based : goal.returns-then-options-clause-based
returns-then-options-clause-based g c = λ faithful known inputs.
    ok_as c.in_full-then-options.result c.in_full-then-options.ensures.full (λ found full.
    subst (λ (b : Basis). IsBasisIn c.args.options c.args.task.now (g.F.Folder.device.contents c.args.folder.now) b) (sym full.1) tt)

pub returns-then-options-clause-may_decide : goal.returns-then-options-clause-may_decide
returns-then-options-clause-may_decide g c =
    ok_as c.in_full-then-options.result c.in_full-then-options.ensures.full (λ found full.
    subst (λ (d : Decision). MayDecide c.args.options c.args.task.now d) (sym full.0) tt)

pub returns-then-options-clause-read : goal.returns-then-options-clause-read
returns-then-options-clause-read g c = ok_as c.in_full-then-options.result c.in_full-then-options.ensures.full (λ found full. none_for c.args.task.now found.decision found.outputs.items full.0)

pub returns-then-options-clause-observed : goal.returns-then-options-clause-observed
returns-then-options-clause-observed g c = λ faithful known.
    ok_as c.in_full-then-options.result c.in_full-then-options.ensures.full (λ found full. none_observed_for c.args.task.now (g.F.Folder.device.contents c.args.folder.now).files found.decision found.outputs.items full.0)

pub returns-then-options-clause-answered : goal.returns-then-options-clause-answered
returns-then-options-clause-answered g c = λ first before known.
    ok_as c.in_full-then-options.result c.in_full-then-options.ensures.full (λ found full.
    full_decided g.F.Folder.device first c.in_full-then-options.new.folder c.args.options c.args.task.now (option_copied c.args.old) c.args.inputs.now found.decision found.outputs.items full.0)

pub returns-then-task-clause-goes_by : goal.returns-then-task-clause-goes_by
returns-then-task-clause-goes_by g c =
    ok_as c.in_full-then-task.result c.in_full-then-task.ensures.full (λ found full.
    subst (λ (b : Basis). FollowsFrom c.args.options c.args.task.now (option_copied c.args.old) found.decision b) (sym full.1)
    (subst (λ (old : Option (Bor Record)). FollowsFrom c.args.options c.args.task.now (option_copied old) found.decision (Forced causes.Stale))
    (sym c.in-Some.is) (full.0, (c.if-options.false, c.if-task.true))))

pub returns-then-task-clause-based : goal.returns-then-task-clause-based
returns-then-task-clause-based g c = λ faithful known inputs.
    ok_as c.in_full-then-task.result c.in_full-then-task.ensures.full (λ found full.
    subst (λ (b : Basis). IsBasisIn c.args.options c.args.task.now (g.F.Folder.device.contents c.args.folder.now) b) (sym full.1) tt)

pub returns-then-task-clause-may_decide : goal.returns-then-task-clause-may_decide
returns-then-task-clause-may_decide g c =
    ok_as c.in_full-then-task.result c.in_full-then-task.ensures.full (λ found full.
    subst (λ (d : Decision). MayDecide c.args.options c.args.task.now d) (sym full.0) tt)

pub returns-then-task-clause-read : goal.returns-then-task-clause-read
returns-then-task-clause-read g c = ok_as c.in_full-then-task.result c.in_full-then-task.ensures.full (λ found full. none_for c.args.task.now found.decision found.outputs.items full.0)

pub returns-then-task-clause-observed : goal.returns-then-task-clause-observed
returns-then-task-clause-observed g c = λ faithful known.
    ok_as c.in_full-then-task.result c.in_full-then-task.ensures.full (λ found full. none_observed_for c.args.task.now (g.F.Folder.device.contents c.args.folder.now).files found.decision found.outputs.items full.0)

pub returns-then-task-clause-answered : goal.returns-then-task-clause-answered
returns-then-task-clause-answered g c = λ first before known.
    ok_as c.in_full-then-task.result c.in_full-then-task.ensures.full (λ found full.
    full_decided g.F.Folder.device first c.in_full-then-task.new.folder c.args.options c.args.task.now (option_copied c.args.old) c.args.inputs.now found.decision found.outputs.items full.0)
