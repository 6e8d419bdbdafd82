use Rattle.std.proofs.Common.{◌≡◌, Bool, not, IfErr, IfOk, option_copied, sym, subst}
use Rattle.gb_folder.specs.Files.{Contents, is_empty}
use Rattle.gb_label.specs.Preparing.{FollowsFromAs, IsPrepared}
use Rattle.gb_label.specs.Reading.{CannotRead}
use Rattle.gb_label.specs.declared.prepare.Prepared.{Prepared}
use Rattle.gb_semantics.specs.Memory.{output_files}
use Rattle.gb_semantics.specs.Tree.{listing_faults}
use Rattle.gb_predict.specs.Prediction.{IsPredictedOf, IsReasoned}
use Rattle.gb_predict.specs.declared.predicted_outcome.PredictedOutcome.{PredictedOutcome}
use Rattle.gb_predict.specs.declared.predicted_outcome.PredictedOutcome.TheVariants as comings
use Rattle.gb_tree.proofs.Remembering.{none_seen_in}
use Rattle.gb_predict.proofs.Predicting.{decided_prediction, sourceless_prediction, reported_reasoned}
use Rattle.gb_predict.proofs.task.predicted_outcome.Goals as goal

pub returns-in-Ok-Skips-clause-prediction : goal.returns-in-Ok-Skips-clause-prediction
returns-in-Ok-Skips-clause-prediction g c = λ faithful kinds agrees.
    subst (λ (found : Prepared). IsPrepared c.args.options c.args.task.now (g.F.Folder.device.contents c.args.folder.now) (option_copied c.args.old) found) c.in-Ok-Skips.field-0-is
    (c.in-Ok-Skips.ensures.prepared faithful (none_seen_in (g.F.Folder.device.contents c.args.folder.now).files _ c.new-seen.ensures))

pub returns-in-Ok-HasNoActions-clause-prediction : goal.returns-in-Ok-HasNoActions-clause-prediction
returns-in-Ok-HasNoActions-clause-prediction g c = λ faithful kinds agrees.
    subst (λ (found : Prepared). IsPrepared c.args.options c.args.task.now (g.F.Folder.device.contents c.args.folder.now) (option_copied c.args.old) found) c.in-Ok-HasNoActions.field-0-is
    (c.in-Ok-HasNoActions.ensures.prepared faithful (none_seen_in (g.F.Folder.device.contents c.args.folder.now).files _ c.new-seen.ensures))

pub returns-in-Ok-HasNoSource-clause-reasoned : goal.returns-in-Ok-HasNoSource-clause-reasoned
returns-in-Ok-HasNoSource-clause-reasoned g c =
    subst (λ (coming : PredictedOutcome). IsReasoned coming) (sym c.reported.ensures) (reported_reasoned c.sourceless.result c.sourceless.ensures.reasoned)

pub returns-in-Ok-HasNoSource-clause-prediction : goal.returns-in-Ok-HasNoSource-clause-prediction
returns-in-Ok-HasNoSource-clause-prediction g c = λ faithful kinds agrees.
    let F = g.F.Folder in
    let known = c.sourceless.ensures.reads.requests.back faithful in
    let task = c.args.task.now in
    let old : Contents = F.device.contents c.args.folder.now in
    let now : Contents = F.device.contents c.prepare.new.folder in
    let same : now ≡ old = c.prepare.ensures.reads.same known in
    let before = F.device.failures c.args.folder.now in
    let mid = F.device.failures c.prepare.new.folder in
    let after = F.device.failures c.sourceless.new.folder in
    let found = c.sourceless.result in
    let case = subst (λ (found : Prepared). IsPrepared c.args.options task old (option_copied c.args.old) found) c.in-Ok-HasNoSource.field-0-is (c.in-Ok-HasNoSource.ensures.prepared known (none_seen_in (g.F.Folder.device.contents c.args.folder.now).files _ c.new-seen.ensures)) in
    subst (λ (coming : PredictedOutcome). IsPredictedOf kinds c.args.options task old (option_copied c.args.old) before after coming) (sym c.reported.ensures)
    (sourceless_prediction kinds c.args.options task old (option_copied c.args.old) before mid after found c.prepare.ensures.reads.requests.count c.sourceless.ensures.reads.requests.count case
    (subst (λ (folder : Contents). IfOk found (λ coming. (removes : Bool) × (coming ≡ comings.HasNoSource removes) × (removes ≡ not (is_empty (output_files task folder.files))))) same (c.sourceless.ensures.removes faithful))
    (subst (λ (folder : Contents). IfErr found (CannotRead mid after (listing_faults task folder))) same (c.sourceless.ensures.err faithful)))

pub explained-requires-clause-goes_by : goal.explained-requires-clause-goes_by
explained-requires-clause-goes_by g c = (
  c.args.options,
  subst (λ (found : Prepared). FollowsFromAs c.args.options c.args.task.now (option_copied c.args.old) found) c.in-Ok-Decided.field-0-is c.in-Ok-Decided.ensures.goes_by,
)

pub returns-in-Ok-Decided-clause-prediction : goal.returns-in-Ok-Decided-clause-prediction
returns-in-Ok-Decided-clause-prediction g c = λ faithful kinds agrees.
    let F = g.F.Folder in
    let task = c.args.task.now in
    let old : Contents = F.device.contents c.args.folder.now in
    let is = subst (λ (found : Prepared). IsPrepared c.args.options task old (option_copied c.args.old) found) c.in-Ok-Decided.field-0-is (c.in-Ok-Decided.ensures.prepared faithful (none_seen_in (g.F.Folder.device.contents c.args.folder.now).files _ c.new-seen.ensures)) in
    decided_prediction kinds c.args.options task old (option_copied c.args.old) (F.device.failures c.args.folder.now) (F.device.failures c.prepare.new.folder) c.in-Ok-Decided.decision c.in-Ok-Decided.basis
    c.explained.result is.0 is.1 is.2 (c.explained.ensures.explained kinds agrees)
