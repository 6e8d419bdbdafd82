use Rattle.std.proofs.Common.{◌≡◌, ◌<◌, ◌∷◌, [], ◌&&◌, Bool, true, false, length, map, None, slice_index_or, refl, sym, ap, subst, ◌∙◌, option_copied, List, ℕ, arith}
use Rattle.std.proofs.lemmas.List.{get_or_default}
use Rattle.std.proofs.lemmas.Option.{slice_get-get_or, get_or_from_slice_get}
use Rattle.gb_task.specs.Case.{IsKnown}
use Rattle.gb_exec.specs.Notifying.{AllReported}
use Rattle.gb_semantics.proofs.Common.{some_same}
use Rattle.gb_semantics.specs.Outline.{IsOutline}
use Rattle.gb_plan.proofs.Tests.{not_false, not_true}
use Rattle.gb_plan.specs.declared.plan.Planned.{Planned}
use Rattle.gb_report.specs.Outcome.{is_started}
use Rattle.gb_report.specs.declared.report.Heard.{Heard}
use Rattle.gb_report.specs.declared.report.Heard.TheVariants as heard
use Rattle.gb_report.specs.declared.report.Outcome.TheVariants.{NotRun}
use Rattle.gb_report.specs.declared.report.TaskReport.{TaskReport}
use Rattle.gb_exec.specs.Starts.{Progress, has_executed_need}
use Rattle.gb_task.specs.Executing.{setting_with}
use Rattle.gb_exec.specs.Built.{IsExecutionOf}
use Rattle.gb_exec.specs.Reports.{IsOf, report_with}
use Rattle.gb_exec.proofs.Hearing.{heard_passed, heard_started, unnotified}
use Rattle.gb_exec.proofs.Outlining.{outline_passed, outline_started}
use Rattle.gb_exec.proofs.Taking.{own_separate, read_so, execution_passed, execution_started}
use Rattle.gb_history.specs.Record.{Record}
use Rattle.gb_task.specs.ByOutcome.{ExecutionRequests, since_after}
use Rattle.gb_tree.specs.DigestCache.{AreCached}
use Rattle.std.specs.Prelude.{Option}
use Rattle.gb_exec.proofs.one_task.execute_one.Goals as goal
use Rattle.gb_exec.proofs.one_task.execute_one.Goals.{then-begun, else-begun}

pub returns-then-not-does_start-clause-heard : goal.returns-then-not-does_start-clause-heard
returns-then-not-does_start-clause-heard g c =
    let ears = map g.L.TaskListener.ear c.args.listeners.now.items in
    subst (λ (reported : List Heard). AllReported reported true ears ears)
    (sym (heard_passed c.not_run_report.result (ap (λ (r : TaskReport). is_started r.outcome) c.not_run_report.ensures))) (unnotified ears)

pub returns-then-not-does_start-clause-outline : goal.returns-then-not-does_start-clause-outline
returns-then-not-does_start-clause-outline g c = λ moment planned is endings.
    let tasks = c.args.build.now.tasks.now in
    let got = slice_get-get_or tasks c.args.index c.index-build-index.result c.requires.index in
    let same : slice_index_or tasks c.args.index c.index-build-index.result ≡ planned = some_same (sym got ∙ is) in
    let by_number = c.starts_by_number.ensures c.args.build.now.options tasks c.args.starts.now moment c.args.index planned c.requires.can.once c.requires.of_plan endings is in
    outline_passed c.args.build.now.options tasks moment planned c.not_run_report.result (c.not_run_report.ensures ∙ ap (report_with NotRun) same)
    (λ starts. not_false (sym (c.does_start.ensures.starts.1 (by_number.0 starts)) ∙ c.if-not-does_start.true))

pub returns-then-not-does_start-clause-execution : goal.returns-then-not-does_start-clause-execution
returns-then-not-does_start-clause-execution g c = λ faithful since before was kinds registry_of moment planned is assumed folder failures exists endings known.
    let F = g.F.Folder in
    let tasks = c.args.build.now.tasks.now in
    let got = slice_get-get_or tasks c.args.index c.index-build-index.result c.requires.index in
    let same : slice_index_or tasks c.args.index c.index-build-index.result ≡ planned = some_same (sym got ∙ is) in
    let by_number = c.starts_by_number.ensures c.args.build.now.options tasks c.args.starts.now moment c.args.index planned c.requires.can.once c.requires.of_plan endings is in
    execution_passed kinds registry_of (F.device.may_leave c.args.folder.now) c.args.build.now.options tasks moment planned c.not_run_report.result (F.device.contents c.args.folder.now) (F.device.failures c.args.folder.now)
    (c.not_run_report.ensures ∙ ap (report_with NotRun) same)
    (λ starts. not_false (sym (c.does_start.ensures.starts.1 (by_number.0 starts)) ∙ c.if-not-does_start.true))
    folder exists

pub execute_task-report-requires-clause-outputs_separate : goal.execute_task-report-requires-clause-outputs_separate
execute_task-report-requires-clause-outputs_separate g c =
    let tasks = c.args.build.now.tasks.now in
    own_separate tasks c.args.index (slice_index_or tasks c.args.index c.index-build-index.result) (slice_get-get_or tasks c.args.index c.index-build-index.result c.requires.index)
    c.requires.can.sound.outputs_separate

pub execute_task-report-requires-clause-path : goal.execute_task-report-requires-clause-path
execute_task-report-requires-clause-path g c =
    let tasks = c.args.build.now.tasks.now in
    c.requires.path (slice_index_or tasks c.args.index c.index-build-index.result) (slice_get-get_or tasks c.args.index c.index-build-index.result c.requires.index)

pub returns-clause-of_task : goal.returns-clause-of_task
returns-clause-of_task g c = λ planned is.
    let tasks = c.args.build.now.tasks.now in
    let got = slice_get-get_or tasks c.args.index c.index-build-index.result c.requires.index in
    let same : slice_index_or tasks c.args.index c.index-build-index.result ≡ planned = some_same (sym got ∙ is) in
    subst (λ (p : Planned). IsOf p c.execute_task-report.result) same (record { path = c.execute_task-report.ensures.path; has_actions = c.execute_task-report.ensures.has_actions })

pub returns-clause-heard : goal.returns-clause-heard
returns-clause-heard g c =
    let ear = g.L.TaskListener.ear in
    let report = c.execute_task-report.result in
    let first = map ear c.args.listeners.now.items in
    let mid = map ear c.notify-begun.new.listeners.items in
    let last = map ear c.notify-ended.new.listeners.items in
    let both : c.if-begun.result ≡ (c.notify-begun.result && c.notify-ended.result) = elim c.if-begun.branch [
      | then-begun w ↦ w.result-is ∙ on_true c.notify-begun.result c.notify-ended.result w.if-begun.true
      | else-begun w ↦ w.result-is ∙ w.if-begun.false ∙ on_false c.notify-begun.result c.notify-ended.result w.if-begun.false
    ] in
    let path = (slice_index_or c.args.build.now.tasks.now c.args.index c.index-build-index.result).task.path in
    let begun : List Heard = heard.Start path ∷ [] in
    let ended : List Heard = heard.End path report.outcome ∷ [] in
    let both_reported : List Heard = heard.Start path ∷ heard.End path report.outcome ∷ [] in
    let reported = c.reported_more.ensures begun ended c.notify-begun.result c.notify-ended.result first mid last c.notify-begun.ensures c.notify-ended.ensures in
    subst (λ (reported : List Heard). AllReported reported c.if-begun.result first last) (sym (heard_started report c.execute_task-report.ensures.started))
    (subst (λ (path : List ℕ). AllReported (heard.Start path ∷ heard.End path report.outcome ∷ []) c.if-begun.result first last) (sym c.execute_task-report.ensures.path)
    (subst (λ b. AllReported both_reported b first last) (sym both) reported))
  where
    on_true : (a b : Bool) → a ≡ true → b ≡ (a && b)
    on_true true b e = refl
    on_true false b e = not_true e

    on_false : (a b : Bool) → a ≡ false → false ≡ (a && b)
    on_false true b e = not_false e
    on_false false b e = refl

pub returns-clause-outline : goal.returns-clause-outline
returns-clause-outline g c = λ moment planned is endings.
    let build = c.args.build.now in
    let tasks = build.tasks.now in
    let index = c.args.index in
    let task = slice_index_or tasks index c.index-build-index.result in
    let got = slice_get-get_or tasks index c.index-build-index.result c.requires.index in
    let same : task ≡ planned = some_same (sym got ∙ is) in
    let need = c.needs_by_number.ensures tasks c.args.starts.now moment index task c.requires.can.once c.requires.of_plan endings got
    ∙ sym (c.has_executed_need-need.ensures ∙ ap (λ (p : Progress). has_executed_need p index) c.does_start.ensures.same) in
    let by_number = c.starts_by_number.ensures build.options tasks c.args.starts.now moment index task c.requires.can.once c.requires.of_plan endings got in
    let report = c.execute_task-report in
    subst (λ (p : Planned). IsOutline build.options tasks moment p report.result) same
    (outline_started build.options tasks moment task report.result c.has_executed_need-need.result
    (record { path = report.ensures.path; has_actions = report.ensures.has_actions })
    (by_number.1 (c.does_start.ensures.starts.0 c.if-not-does_start.false)) need report.ensures.alone report.ensures.answer)

pub returns-clause-execution : goal.returns-clause-execution
returns-clause-execution g c = λ faithful since before was kinds registry_of moment planned is assumed folder failures exists endings known.
    let F = g.F.Folder in
    let build = c.args.build.now in
    let tasks = build.tasks.now in
    let index = c.args.index in
    let old = c.args.folder.now in
    let new = c.execute_task-report.new.folder in
    let task = slice_index_or tasks index c.index-build-index.result in
    let got = slice_get-get_or tasks index c.index-build-index.result c.requires.index in
    let same : task ≡ planned = some_same (sym got ∙ is) in
    let within : index < length build.records.now = omega (arith, c.requires.each, c.requires.index) in
    let last : option_copied c.as_ref-last.result ≡ slice_index_or build.records.now index None =
    c.as_ref-last.ensures.value ∙ get_or_default build.records.now index c.index-build-index-2.result None within in
    let need = c.needs_by_number.ensures tasks c.args.starts.now moment index task c.requires.can.once c.requires.of_plan endings got
    ∙ sym (c.has_executed_need-need.ensures ∙ ap (λ (p : Progress). has_executed_need p index) c.does_start.ensures.same) in
    let by_number = c.starts_by_number.ensures build.options tasks c.args.starts.now moment index task c.requires.can.once c.requires.of_plan endings got in
    subst (λ (p : Planned). IsExecutionOf (setting_with kinds registry_of (F.device.may_leave old)) build.options tasks moment p c.execute_task-report.result (F.device.contents old) (F.device.failures new) (F.device.contents new)) same
    (execution_started kinds registry_of (F.device.may_leave old) build.options tasks moment task c.execute_task-report.result (F.device.contents old) (F.device.failures new) (F.device.contents new)
    (record { path = c.execute_task-report.ensures.path; has_actions = c.execute_task-report.ensures.has_actions })
    (by_number.1 (c.does_start.ensures.starts.0 (not_not c.does_start.result c.if-not-does_start.false)))
    (let known_so : IsKnown kinds task.task moment.world (option_copied c.as_ref-last.result) =
    subst (IsKnown kinds task.task moment.world) (sym last) (subst (λ (p : Planned). IsKnown kinds p.task moment.world (slice_index_or build.records.now index None)) (sym same) known) in
    c.execute_task-report.ensures.execution faithful since before was kinds registry_of tasks moment assumed
    (record { folder = folder; failures = failures; records = exists; read = read_so kinds task.task moment.world (option_copied c.as_ref-last.result) known_so })
    need known_so))
  where
    not_not : (b : Bool) → b ≡ true → b ≡ true
    not_not b e = e

pub returns-then-not-does_start-clause-requests : goal.returns-then-not-does_start-clause-requests
returns-then-not-does_start-clause-requests g c = λ planned is since before was.
    let F = g.F.Folder in
    let build = c.args.build.now in
    subst (λ (r : TaskReport). ExecutionRequests F.device g.A.Actions.meanings build.table.now build.options planned.task (slice_index_or build.records.now c.args.index None) r.outcome r.lines
    since c.args.folder.now c.args.folder.now) (sym c.not_run_report.ensures) refl

pub returns-then-not-does_start-clause-seen : goal.returns-then-not-does_start-clause-seen
returns-then-not-does_start-clause-seen g c = λ since before was.
    let F = g.F.Folder in
    let now = c.args.folder.now in
    subst (λ (r : TaskReport). AreCached F.device (since_after r.outcome since now) now c.args.seen.now) (sym c.not_run_report.ensures) was

pub returns-clause-requests : goal.returns-clause-requests
returns-clause-requests g c = λ planned at since before was.
    let F = g.F.Folder in
    let build = c.args.build.now in
    let tasks = build.tasks.now in
    let index = c.args.index in
    let outcome = c.execute_task-report.result.outcome in
    let lines = c.execute_task-report.result.lines in
    let same : slice_index_or tasks index c.index-build-index.result ≡ planned = get_or_from_slice_get tasks index planned c.index-build-index.result at in
    let within : index < length build.records.now = omega (arith, c.requires.each, c.requires.index) in
    let last : option_copied c.as_ref-last.result ≡ slice_index_or build.records.now index None =
    c.as_ref-last.ensures.value ∙ get_or_default build.records.now index c.index-build-index-2.result None within in
    subst (λ (read : Option Record). ExecutionRequests F.device g.A.Actions.meanings build.table.now build.options planned.task read outcome lines since c.args.folder.now
    c.execute_task-report.new.folder) last
    (subst (λ (p : Planned). ExecutionRequests F.device g.A.Actions.meanings build.table.now build.options p.task (option_copied c.as_ref-last.result) outcome lines
    since c.args.folder.now c.execute_task-report.new.folder) same
    (c.execute_task-report.ensures.requests since before was))
