use Rattle.std.proofs.Common.{List, Option, IfErr, false, refl, sym, ap, subst, ◌∙◌}
use Rattle.std.proofs.lemmas.List.{length-map}
use Rattle.std.proofs.lemmas.Result.{err_from_is_err_and}
use Rattle.std.specs.List.{AllZip}
use Rattle.std.specs.Prelude.{length}
use Rattle.gb_folder.specs.Files.{Contents}
use Rattle.gb_predict.specs.Prediction.{ArePredictedOf}
use Rattle.gb_history.specs.Record.{Record}
use Rattle.gb_build.proofs.Read.{as_long, unread}
use Rattle.gb_build.specs.Refusing.{IsUnread}
use Rattle.gb_plan.proofs.Tests.{each_all}
use Rattle.gb_plan.specs.Graph.{order}
use Rattle.gb_plan.specs.Task.{Path}
use Rattle.gb_plan.specs.declared.plan.Planned.{Planned}
use Rattle.gb_records.specs.Answered.{WasAnswered}
use Rattle.gb_records.specs.Said.{IsReadAt}
use Rattle.gb_ask_command.specs.Reported.{Answer}
use Rattle.gb_ask_command.proofs.Reported.{prediction_since}
use Rattle.gb_ask_command.proofs.predicting.predict_planned.Goals as goal

pub returns-in_err-records-clause-unread : goal.returns-in_err-records-clause-unread
returns-in_err-records-clause-unread g c =
    let failures = g.F.Folder.device.failures in
    let residual = c.from_residual-in_err-records in
    let p = err_from_is_err_and residual.result residual.ensures.1 in
    subst (λ (r : Answer). IfErr r (IsUnread false (failures c.args.folder.now) (failures c.read_records.new.folder))) (sym p.1)
    (unread c.read_records.result c.in_err-records.field-0.0 p.0 c.as_slice.result.now (failures c.args.folder.now) (failures c.read_records.new.folder) c.in_err-records.was p.2
    c.read_records.ensures.blamed c.in_err-records.ensures.err false refl)

pub predict-requires-clause-ready : goal.predict-requires-clause-ready
predict-requires-clause-ready g c = each_all _ _ (λ planned is. is.ready) c.args.plan.now c.requires

pub predict-requires-clause-in_order : goal.predict-requires-clause-in_order
predict-requires-clause-in_order g c = each_all _ _ (λ planned is. is.in_order) c.args.plan.now c.requires

pub predict-requires-clause-each : goal.predict-requires-clause-each
predict-requires-clause-each g c =
    let F = g.F.Folder in
    ap length c.as_slice-2.ensures.value
    ∙ as_long (WasAnswered F.device c.args.folder.now c.read_records.new.folder) c.as_slice.result.now c.in_ok-records.records.items c.in_ok-records.ensures.answered
    ∙ ap length (c.as_slice.ensures.value ∙ c.in_ok-paths.ensures)
    ∙ length-map c.args.plan.now (λ (planned : Planned). planned.task.path)

pub returns-clause-reported : goal.returns-clause-reported
returns-clause-reported g c =
    let F = g.F.Folder in
    let plan = c.args.plan.now in
    let reported = c.in_ok-reported.reported.items in
    let old : Contents = F.device.contents c.args.folder.now in
    let records : List (Option Record) = c.as_slice-2.result.now in
    let before = F.device.failures c.args.folder.now in
    let later = F.device.failures c.read_records.new.folder in
    let after = F.device.failures c.predict.new.folder in
    let back = c.predict.ensures.reads.requests.back in
    record {
      paths = c.in_ok-reported.ensures.paths;
      reasoned = c.in_ok-reported.ensures.reasoned;
      marked = c.in_ok-reported.ensures.marked;
      prediction = λ faithful. record {
        records = records;
        read =
            subst (λ (read : List (Option Record)). AllZip (IsReadAt old.files) (order plan) read) (sym c.as_slice-2.ensures.value)
            (subst (λ (paths : List Path). AllZip (IsReadAt old.files) paths c.in_ok-records.records.items) (c.as_slice.ensures.value ∙ c.in_ok-paths.ensures) (c.in_ok-records.ensures.read (back faithful)));
        prediction = λ kinds agrees.
            prediction_since kinds c.args.options old before later after c.read_records.ensures.reads.requests.count c.predict.ensures.reads.requests.count plan records reported
            (subst (λ (folder : Contents). ArePredictedOf kinds c.args.options folder later after plan records reported) (c.read_records.ensures.reads.same (back faithful)) (c.in_ok-reported.ensures.prediction faithful kinds agrees));
      };
    }
