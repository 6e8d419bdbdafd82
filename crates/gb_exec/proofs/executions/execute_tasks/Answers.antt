use Rattle.std.proofs.Common.{rules, ◌≡◌, ◌<◌, ◌≤◌, ◌+◌, ◌-◌, ◌++◌, ◌∷◌, ◌&&◌, [], ℕ, Bool, true, false, List, IsTrue, drop, length, map, take, replicate, ◌⊎◌, inl, inr, not, refl, sym, ap, subst, ◌∙◌, arith, slice_set, slice_index_or, None}
use Rattle.std.specs.List.{AllByRecursion, AllZip, flat_map}
use Rattle.std.specs.Vec.Iter.{into_iter_items}
use Rattle.std.proofs.lemmas.List.{drop_all, get_or-replicate, length-append, length-drop, length-map, length-replicate, length-set, map-append, take_all, take_more}
use Rattle.std.proofs.Math.ListN.{get_or-eq_default}
use Rattle.std.proofs.lemmas.Bool.{cases_order}
use Rattle.gb_core.specs.Path.{is_task_path}
use Rattle.gb_folder.specs.Files.{Contents, IsFolder, are_placed, is_own}
use Rattle.gb_exec.specs.Notifying.{AllReported}
use Rattle.gb_semantics.specs.Events.{State}
use Rattle.gb_semantics.specs.Outline.{AreOutlines, moment_by}
use Rattle.gb_semantics.specs.Execution.{heard_of}
use Rattle.gb_semantics.proofs.Lemmas.Success.{folder_where}
use Rattle.gb_plan.proofs.Tests.{not_false, not_true}
use Rattle.gb_plan.specs.Graph.{no_repeats, order}
use Rattle.gb_plan.specs.Task.{Path}
use Rattle.gb_plan.specs.declared.plan.Planned.{Planned}
use Rattle.gb_printer.specs.Printing.{Prints}
use Rattle.gb_printer.proofs.Printed.{prints_more, prints_nothing}
use Rattle.gb_report.specs.Report.{task_text}
use Rattle.gb_report.specs.declared.report.Heard.{Heard}
use Rattle.gb_report.specs.declared.report.Outcome.{Outcome}
use Rattle.gb_report.specs.declared.report.TaskReport.{TaskReport}
use Rattle.gb_exec.proofs.ByNumber.{path_is}
use Rattle.gb_exec.specs.Plans.{AreEndings, AreOfPlan}
use Rattle.gb_exec.specs.Starts.{Progress, ending_in, ending_of}
use Rattle.gb_exec.specs.declared.may_start.Ending.{Ending}
use Rattle.gb_exec.specs.declared.may_start.Ending.TheVariants.{ToCome}
use Rattle.gb_folder.proofs.Elsewhere.{changed_there}
use Rattle.gb_task.proofs.Parts.{differs_outside}
use Rattle.gb_task.proofs.Recorded.{assumed_later}
use Rattle.gb_exec.specs.Asking.{ExecutionsRequest}
use Rattle.gb_task.specs.Buildable.{IsBuildable}
use Rattle.gb_exec.proofs.Asking.{AreSoFar, executions_places, executions_until, more_so_far, none_so_far}
use Rattle.gb_task.proofs.ByOutcome.{execution_places}
use Rattle.gb_semantics.specs.Headline.{HasFailed}
use Rattle.gb_exec.specs.Failing.{times_attributed}
use Rattle.gb_exec.specs.Reports.{IsOf}
use Rattle.gb_exec.proofs.Counting.{failed_more}
use Rattle.gb_exec.proofs.Ending.{endings_more, none_ended}
use Rattle.gb_exec.proofs.Hearing.{heard_more, unnotified}
use Rattle.gb_exec.proofs.Knowing.{knows}
use Rattle.gb_exec.proofs.Outlining.{outlines_more}
use Rattle.gb_exec.proofs.Printing.{parts_more}
use Rattle.gb_exec.proofs.Shut.{HasOwnPlaces}
use Rattle.gb_exec.proofs.Underway.{IsUnderway, begun, built, goes_on, outcome_in}
use Rattle.gb_exec.proofs.Walking.{at_index, drop_at, each_at, left_less, next_path, once_after, placed_where, take_at, whole_at, zip_more}
use Rattle.gb_exec.proofs.executions.execute_tasks.Goals as goal
use Rattle.gb_exec.proofs.executions.execute_tasks.Goals.{then-all_heard, else-all_heard}
use Rattle.gb_history.proofs.Lists.{AllByRecursion-push}
use Rattle.gb_history.specs.Record.{Record}
use Rattle.std.specs.Prelude.{Option}

all_come : (endings : List Ending) (n : ℕ) → endings ≡ replicate n ToCome → (number : ℕ) → ending_in endings number ≡ ToCome
all_come endings n is number = ap (λ (es : List Ending). ending_in es number) is ∙ come (cases_order number n)
  where
    long : length (replicate n ToCome) ≡ n
    long = length-replicate n ToCome

    come : (number ≡ n) ⊎ ((number < n) ⊎ (n < number)) → ending_in (replicate n ToCome) number ≡ ToCome
    come (inl e) = get_or-eq_default (replicate n ToCome) ToCome (omega (arith, e, long))
    come (inr (inl less)) = get_or-replicate n number ToCome ToCome less
    come (inr (inr more)) = get_or-eq_default (replicate n ToCome) ToCome (omega (arith, more, long))

pub loop-path-init : goal.loop-path-init
loop-path-init g c =
    let F = g.F.Folder in
    let P = g.P.Printer in
    let tasks = c.args.build.now.tasks.now in
    let start = c.args.folder.now in
    let ears = map g.L.TaskListener.ear c.args.listeners.now.items in
    let none = c.requires.none in
    record {
      left = search (rules, c.requires.paths);
      within = omega arith;
      room = c.requires.room;
      long = ap length none;
      of_plan = c.requires.of_plan;
      lasting = ap length c.requires.to_come ∙ length-replicate (length tasks) ToCome;
      endings = subst (λ (rs : List TaskReport). AreEndings tasks (map outcome_in rs) c.args.starts.now.endings) (sym none)
          (none_ended tasks c.args.starts.now.endings (all_come c.args.starts.now.endings (length tasks) c.requires.to_come));
      of_tasks = subst (AllZip IsOf []) (sym none) tt;
      outline = subst (λ (rs : List TaskReport). AreOutlines c.args.build.now.options tasks [] [] rs) (sym none) tt;
      places = tt;
      heard = subst (λ (rs : List TaskReport). AllReported (heard_of false rs) true ears ears) (sym none) (unnotified ears);
      printed = subst (λ (rs : List TaskReport). Prints P.contents P.whole (flat_map task_text rs) c.args.printer.now c.args.printer.now) (sym none)
          (prints_nothing P.contents P.whole c.args.printer.now);
      requests = subst (λ (rs : List TaskReport). AreSoFar F.device g.A.Actions.meanings c.args.build.now.table.now c.args.build.now.options [] [] rs start start c.new-seen.result) (sym none)
          (none_so_far F.device g.A.Actions.meanings c.args.build.now.table.now c.args.build.now.options start c.new-seen.result c.new-seen.ensures);
      device = subst (λ (rs : List TaskReport). HasFailed (times_attributed rs) (F.device.failures start) (F.device.failures start)) (sym none) (inl (omega arith));
      build = λ faithful kinds registry_of remembered clear observed assumed worth.
          let old : State = record { contents = F.device.contents start; remembered = remembered; failures = F.device.failures start } in
          subst (λ (rs : List TaskReport). IsUnderway kinds registry_of (F.device.may_leave start) clear observed c.args.build.now.options tasks old [] tasks rs
          (record { contents = F.device.contents start; failures = F.device.failures start })) (sym none)
          (begun kinds registry_of (F.device.may_leave start) clear observed c.args.build.now.options tasks old (λ e. (worth e).existing));
    }

pub execute_one-taken-requires-clause-path : goal.execute_one-taken-requires-clause-path
execute_one-taken-requires-clause-path g c = λ planned is.
    let tasks = c.args.build.now.tasks.now in
    (next_path tasks c.loop-path.index planned c.in-Some.path (into_iter_items c.next.new.self) is (sym c.loop-path.invariant.left ∙ c.in-Some.ensures.steps.0)).0

pub loop-path-preserved : goal.loop-path-preserved
loop-path-preserved g c =
    let F = g.F.Folder in
    let P = g.P.Printer in
    let ear = g.L.TaskListener.ear in
    let build = c.args.build.now in
    let tasks = build.tasks.now in
    let i = c.loop-path.index in
    let start = c.args.folder.now in
    let now = c.loop-path.folder in
    let next = c.execute_one-taken.new.folder in
    let inv = c.loop-path.invariant in
    let report = c.execute_one-taken.result.report in
    let reports = c.loop-path.reports.items in
    let items : c.push_reserved.new.reports.items ≡ reports ++ report ∷ [] = c.push_reserved.ensures.items in
    let rest = into_iter_items c.next.new.self in
    let left : order (drop i tasks) ≡ c.in-Some.path ∷ rest = sym inv.left ∙ c.in-Some.ensures.steps.0 in
    let less : i < length tasks = left_less tasks i c.in-Some.path rest left in
    let planned = (at_index tasks i less).0 in
    let is = (at_index tasks i less).1 in
    let along = next_path tasks i planned c.in-Some.path rest is left in
    let of_task = c.execute_one-taken.ensures.of_task planned is in
    let remembered_now = c.execute_one-taken.new.seen in
    let far = inv.requests in
    let way = executions_places F.device g.A.Actions.meanings build.table.now build.options (take i tasks) (take i build.records.now) reports start start now
    (executions_until F.device g.A.Actions.meanings build.table.now build.options (take i tasks) (take i build.records.now) reports start start far.last now far.executions) in
    let taken = c.execute_one-taken.ensures.requests planned is far.last far.none far.were in
    let step = execution_places F.device g.A.Actions.meanings build.table.now build.options planned.task (slice_index_or build.records.now i None) report.lines far.last now next
    report.outcome taken in
    let count = step.count in
    let read = take_more build.records.now i None (omega (arith, c.requires.each, less)) in
    let can = each_at (λ (p : Planned). IsBuildable g.A.Actions.meanings build.table.now p.task) tasks i planned is c.requires.can.tasks in
    let is_path : IsTrue (is_task_path planned.task.path) = subst (λ (p : Path). IsTrue (is_task_path p)) along.0 c.as_str-path.ensures.path in
    let places : HasOwnPlaces planned = record { is_path = is_path; not_own = can.not_own } in
    let started : c.execute_one-taken.new.starts ≡ c.loop-path.starts = c.execute_one-taken.ensures.starts in
    let of_plan : AreOfPlan tasks c.execute_one-taken.new.starts = subst (AreOfPlan tasks) (sym started) inv.of_plan in
    let lasting : length c.execute_one-taken.new.starts.endings ≡ length tasks = ap (λ (p : Progress). length p.endings) started ∙ inv.lasting in
    let outcomes = map outcome_in reports in
    let mapped : length outcomes ≡ length reports = length-map _ _ in
    let long : length outcomes ≡ i = mapped ∙ inv.long in
    let ended = endings_more tasks outcomes c.execute_one-taken.new.starts.endings report.path report.outcome i long less lasting (of_task.path ∙ sym (path_is tasks i planned is))
    (subst (λ (p : Progress). AreEndings tasks outcomes p.endings) (sym started) inv.endings) in
    let take_is = take_at tasks i planned is in
    let both : c.if-all_heard.all_heard ≡ (c.loop-path.all_heard && c.execute_one-taken.result.all_heard) = elim c.if-all_heard.branch [
      | then-all_heard w ↦ w.all_heard-is ∙ on_true c.loop-path.all_heard c.execute_one-taken.result.all_heard w.if-all_heard.true
      | else-all_heard w ↦ w.all_heard-is ∙ w.if-all_heard.false ∙ on_false c.loop-path.all_heard c.execute_one-taken.result.all_heard w.if-all_heard.false
    ] in
    let first = map ear c.args.listeners.now.items in
    let mid = map ear c.loop-path.listeners.items in
    let last = map ear c.execute_one-taken.new.listeners.items in
    let reported = c.reported_more.ensures (heard_of false reports) (heard_of false (report ∷ [])) c.loop-path.all_heard c.execute_one-taken.result.all_heard first mid last inv.heard c.execute_one-taken.ensures.heard in
    record {
      left = along.1;
      within = omega (arith, less);
      room = omega (arith, inv.room, c.push_reserved.ensures.capacity);
      long = ap length items ∙ length-append reports (report ∷ []) ∙ ap (λ (n : ℕ). n + 1) inv.long;
      of_plan = subst (AreOfPlan tasks) (sym c.end.ensures) (record { needs = of_plan.needs; finalizers = of_plan.finalizers; wanted = of_plan.wanted });
      lasting = ap (λ (p : Progress). length p.endings) c.end.ensures ∙ length-set c.execute_one-taken.new.starts.endings i (ending_of report.outcome) ∙ lasting;
      endings = subst (λ (p : Progress). AreEndings tasks (map outcome_in c.push_reserved.new.reports.items) p.endings) (sym c.end.ensures)
          (subst (λ (os : List (Path × Outcome)). AreEndings tasks os (slice_set c.execute_one-taken.new.starts.endings i (ending_of report.outcome)))
          (sym (ap (map outcome_in) items ∙ map-append outcome_in reports (report ∷ []))) ended);
      of_tasks = subst (λ (ps : List Planned). AllZip IsOf ps c.push_reserved.new.reports.items) (sym take_is)
          (subst (AllZip IsOf (take i tasks ++ planned ∷ [])) (sym items) (zip_more IsOf (take i tasks) reports planned report inv.of_tasks of_task));
      outline = subst (λ (ps : List Planned). AreOutlines build.options tasks [] ps c.push_reserved.new.reports.items) (sym take_is)
          (subst (λ (rs : List TaskReport). AreOutlines build.options tasks [] (take i tasks ++ planned ∷ []) rs) (sym items)
          (outlines_more build.options tasks [] (take i tasks) planned reports report inv.outline
          (c.execute_one-taken.ensures.outline (moment_by outcomes) planned is inv.endings)));
      places = subst (AllByRecursion HasOwnPlaces) (sym take_is) (AllByRecursion-push HasOwnPlaces (take i tasks) planned inv.places places);
      heard = subst (λ (b : Bool). AllReported (heard_of false c.push_reserved.new.reports.items) b first last) (sym both)
          (subst (λ (hs : List Heard). AllReported hs (c.loop-path.all_heard && c.execute_one-taken.result.all_heard) first last)
          (sym (ap (heard_of false) items ∙ heard_more reports report)) reported);
      printed = subst (λ (rs : List TaskReport). Prints P.contents P.whole (flat_map task_text rs) c.args.printer.now c.print_task.new.self) (sym items)
          (subst (λ (text : List ℕ). Prints P.contents P.whole text c.args.printer.now c.print_task.new.self) (sym (parts_more reports report))
          (prints_more P.contents P.whole (flat_map task_text reports) (task_text report) c.args.printer.now c.loop-path.printer c.print_task.new.self inv.printed c.print_task.ensures));
      requests = subst (λ (ps : List Planned). AreSoFar F.device g.A.Actions.meanings build.table.now build.options ps (take (i + 1) build.records.now) c.push_reserved.new.reports.items start next remembered_now) (sym take_is)
          (subst (λ (last : List (Option Record)). AreSoFar F.device g.A.Actions.meanings build.table.now build.options (take i tasks ++ planned ∷ []) last c.push_reserved.new.reports.items start next remembered_now) (sym read)
          (subst (λ (rs : List TaskReport). AreSoFar F.device g.A.Actions.meanings build.table.now build.options (take i tasks ++ planned ∷ []) (take i build.records.now ++ slice_index_or build.records.now i None ∷ []) rs start next remembered_now) (sym items)
          (more_so_far F.device g.A.Actions.meanings build.table.now build.options (take i tasks) (take i build.records.now) reports start now c.loop-path.seen far planned (slice_index_or build.records.now i None) report next remembered_now
          taken (c.execute_one-taken.ensures.seen far.last far.none far.were))));
      device = subst (λ (rs : List TaskReport). HasFailed (times_attributed rs) (F.device.failures start) (F.device.failures next)) (sym items)
          (failed_more reports report (F.device.failures start) (F.device.failures now) (F.device.failures next) inv.device count c.execute_one-taken.ensures.blame);
      build = λ faithful kinds registry_of remembered clear observed assumed worth.
          let old : State = record { contents = F.device.contents start; remembered = remembered; failures = F.device.failures start } in
          let u = subst (λ (ps : List Planned). IsUnderway kinds registry_of (F.device.may_leave start) clear observed build.options tasks old (take i tasks) ps reports
          (record { contents = F.device.contents now; failures = F.device.failures now })) (drop_at tasks i planned is) (inv.build (step.back faithful) kinds registry_of remembered clear observed assumed worth) in
          let changes = changed_there step faithful in
          subst (λ (ps : List Planned). IsUnderway kinds registry_of (F.device.may_leave start) clear observed build.options tasks old ps (drop (i + 1) tasks) c.push_reserved.new.reports.items
          (record { contents = F.device.contents next; failures = F.device.failures next })) (sym take_is)
          (subst (λ (rs : List TaskReport). IsUnderway kinds registry_of (F.device.may_leave start) clear observed build.options tasks old (take i tasks ++ planned ∷ []) (drop (i + 1) tasks) rs
          (record { contents = F.device.contents next; failures = F.device.failures next })) (sym items)
          (goes_on kinds registry_of (F.device.may_leave start) clear observed build.options tasks old (take i tasks) (drop (i + 1) tasks) planned (whole_at tasks i planned is) reports
          (record { contents = F.device.contents now; failures = F.device.failures now }) u report (record { contents = F.device.contents next; failures = F.device.failures next }) count
          (g.met.F.Folder.sound next) (differs_outside planned.task (F.device.contents now).files (F.device.contents next).files changes.elsewhere) changes.special c.requires.can.sound.outputs_separate
          (F.device.may_leave now) way.tearing (once_after (take i tasks) (drop (i + 1) tasks) planned (subst (λ (ps : List Planned). no_repeats (order ps) ≡ true) (whole_at tasks i planned is) c.requires.can.once))
          (λ given still.
          c.execute_one-taken.ensures.execution faithful far.last far.none far.were kinds registry_of u.moment planned is (assumed_later (F.device.may_leave start) (F.device.may_leave now) way.tearing assumed) u.folder u.failures still.existing
          (subst (λ (os : List (Path × Outcome)). AreEndings tasks os c.loop-path.starts.endings) (sym u.outcomes) inv.endings)
          (knows c.what_is_read_is_known.ensures kinds tasks build.records.now observed u.observed_now (F.device.contents start) remembered u.moment.world i planned is (worth given.0) is_path still.same.0
          (subst (λ (folder : Contents). IsFolder folder.files) (sym u.folder) (folder_where (λ place. not (is_own place)) (F.device.contents now).files (g.met.F.Folder.sound now)))
          (subst (λ (folder : Contents). IsTrue (are_placed folder.files)) (sym u.folder) (placed_where (λ place. not (is_own place)) (F.device.contents now).files (g.met.F.Folder.placed now)))
          can.not_own u.keeps given.1))
          (inv.places, is_path, changed_there way (step.back faithful))));
    }
  where
    on_true : (a b : Bool) → a ≡ true → b ≡ (a && b)
    on_true true b e = refl
    on_true false b e = not_true e

    on_false : (a b : Bool) → a ≡ false → false ≡ (a && b)
    on_false true b e = not_false e
    on_false false b e = refl

pub returns-clause-outline : goal.returns-clause-outline
returns-clause-outline g c =
    let tasks = c.args.build.now.tasks.now in
    let i = c.loop-path.index in
    let inv = c.loop-path.invariant in
    let empty : length (into_iter_items c.loop-path.path-iterator) ≡ 0 = omega (arith, c.loop-path.path-iterator.rest.ok.0, c.in-None.ensures.steps.0) in
    let mapped : length (order (drop i tasks)) ≡ length (drop i tasks) = length-map _ _ in
    let dropped : length (drop i tasks) ≡ length tasks - i = length-drop i tasks in
    let all : length tasks ≤ i = omega (arith, empty, ap length inv.left, mapped, dropped) in
    subst (λ (ps : List Planned). AreOutlines c.args.build.now.options tasks [] ps c.loop-path.reports.items) (take_all i tasks all) inv.outline

pub returns-clause-build : goal.returns-clause-build
returns-clause-build g c = λ faithful kinds registry_of remembered clear observed assumed worth.
    let F = g.F.Folder in
    let tasks = c.args.build.now.tasks.now in
    let i = c.loop-path.index in
    let start = c.args.folder.now in
    let inv = c.loop-path.invariant in
    let empty : length (into_iter_items c.loop-path.path-iterator) ≡ 0 = omega (arith, c.loop-path.path-iterator.rest.ok.0, c.in-None.ensures.steps.0) in
    let mapped : length (order (drop i tasks)) ≡ length (drop i tasks) = length-map _ _ in
    let dropped : length (drop i tasks) ≡ length tasks - i = length-drop i tasks in
    let all : length tasks ≤ i = omega (arith, empty, ap length inv.left, mapped, dropped) in
    let old : State = record { contents = F.device.contents start; remembered = remembered; failures = F.device.failures start } in
    built kinds registry_of (F.device.may_leave start) clear observed c.args.build.now.options tasks old c.loop-path.reports.items
    (record { contents = F.device.contents c.loop-path.folder; failures = F.device.failures c.loop-path.folder }) c.requires.not_dry
    (subst (λ (ps : List Planned). IsUnderway kinds registry_of (F.device.may_leave start) clear observed c.args.build.now.options tasks old ps [] c.loop-path.reports.items
    (record { contents = F.device.contents c.loop-path.folder; failures = F.device.failures c.loop-path.folder })) (take_all i tasks all)
    (subst (λ (ps : List Planned). IsUnderway kinds registry_of (F.device.may_leave start) clear observed c.args.build.now.options tasks old (take i tasks) ps c.loop-path.reports.items
    (record { contents = F.device.contents c.loop-path.folder; failures = F.device.failures c.loop-path.folder })) (drop_all i tasks all)
    (inv.build faithful kinds registry_of remembered clear observed assumed worth)))

pub returns-clause-requests : goal.returns-clause-requests
returns-clause-requests g c =
    let F = g.F.Folder in
    let build = c.args.build.now in
    let tasks = build.tasks.now in
    let i = c.loop-path.index in
    let start = c.args.folder.now in
    let far = c.loop-path.invariant.requests in
    let empty : length (into_iter_items c.loop-path.path-iterator) ≡ 0 = omega (arith, c.loop-path.path-iterator.rest.ok.0, c.in-None.ensures.steps.0) in
    let mapped : length (order (drop i tasks)) ≡ length (drop i tasks) = length-map _ _ in
    let dropped : length (drop i tasks) ≡ length tasks - i = length-drop i tasks in
    let all : length tasks ≤ i = omega (arith, empty, ap length c.loop-path.invariant.left, mapped, dropped) in
    subst (λ (ps : List Planned). ExecutionsRequest F.device g.A.Actions.meanings build.table.now build.options ps build.records.now c.loop-path.reports.items start start c.loop-path.folder) (take_all i tasks all)
    (subst (λ (read : List (Option Record)). ExecutionsRequest F.device g.A.Actions.meanings build.table.now build.options (take i tasks) read c.loop-path.reports.items start start c.loop-path.folder)
    (take_all i build.records.now (omega (arith, all, c.requires.each)))
    (executions_until F.device g.A.Actions.meanings build.table.now build.options (take i tasks) (take i build.records.now) c.loop-path.reports.items start start far.last c.loop-path.folder far.executions))
