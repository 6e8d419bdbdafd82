use Rattle.std.proofs.Common.{option_copied, sym, subst}
use Rattle.gb_folder.specs.Files.{is_empty}
use Rattle.gb_task.specs.Settled.{AnswersAlone, IsOfTask, SettlesExecution, ReportsAnswer}
use Rattle.gb_task.specs.Executing.{setting_with}
use Rattle.gb_task.specs.declared.before_changes.Settled.{Settled}
use Rattle.gb_task.proofs.Answering.{faithful as reports_answer}
use Rattle.gb_task.proofs.Idle.{alone, of_task, settles}
use Rattle.gb_task.specs.Current.{WasSettled}
use Rattle.gb_task.specs.CacheChanges.{Remembers}
use Rattle.gb_task.proofs.Answered.{was_settled}
use Rattle.gb_task.proofs.CacheAfter.{remembers}
use Rattle.gb_task.proofs.before_changes.settle.Goals as goal

pub returns-clause-of_task : goal.returns-clause-of_task
returns-clause-of_task g c =
    let F = g.F.Folder in
    let found = c.prepare_by_cache-prepared in
    subst (λ (s : Settled). IsOfTask c.args.task.now (F.device.failures c.args.folder.now) (F.device.failures found.new.folder) s) (sym c.settled_by.ensures.settled)
    (of_task c.args.task.now c.args.path c.requires.path (F.device.failures c.args.folder.now) (F.device.failures found.new.folder) c.args.has_executed_need found.result found.ensures.may_be found.ensures.read found.ensures.blame
    found.ensures.blamed)

pub returns-clause-alone : goal.returns-clause-alone
returns-clause-alone g c =
    let F = g.F.Folder in
    let found = c.prepare_by_cache-prepared in
    subst (λ (s : Settled). AnswersAlone c.args.task.now.runs (is_empty c.args.task.now.actions) c.args.has_executed_need s) (sym c.settled_by.ensures.settled)
    (alone c.args.task.now c.args.path c.requires.path (F.device.failures c.args.folder.now) (F.device.failures found.new.folder) c.args.has_executed_need found.result found.ensures.may_be found.ensures.reading)

pub returns-clause-answer : goal.returns-clause-answer
returns-clause-answer g c =
    let found = c.prepare_by_cache-prepared in
    subst (λ (s : Settled). ReportsAnswer c.args.options c.args.task.now s) (sym c.settled_by.ensures.settled)
    (reports_answer c.args.options c.args.task.now c.args.path c.args.has_executed_need found.result found.ensures.may_be found.ensures.may_decide)

pub returns-clause-settled : goal.returns-clause-settled
returns-clause-settled g c = λ faithful since before was kinds registry_of plan moment folder count needed known.
    let F = g.F.Folder in
    let start = c.args.folder.now in
    let found = c.prepare_by_cache-prepared in
    let now = found.new.folder in
    subst (λ (s : Settled). SettlesExecution (setting_with kinds registry_of (F.device.may_leave start)) c.args.options plan c.args.task.now moment (F.device.contents start) (F.device.failures now) s) (sym c.settled_by.ensures.settled)
    (settles (setting_with kinds registry_of (F.device.may_leave start)) c.args.options plan c.args.task.now c.args.path moment (F.device.contents start) (F.device.failures start) (F.device.failures now) c.args.has_executed_need
    (option_copied c.args.last) c.requires.not_own folder count needed known c.outside_is_enough.ensures c.prepared_is_case.ensures c.idle_executions_are_executions.ensures c.runs_are_of_case.ensures
    found.result (found.ensures.prepared faithful since before was) (found.ensures.observed faithful since before was) (found.ensures.err faithful) found.ensures.reading found.ensures.blamed)

pub returns-clause-answered : goal.returns-clause-answered
returns-clause-answered g c = λ since before was.
    let F = g.F.Folder in
    let found = c.prepare_by_cache-prepared in
    let start = c.args.folder.now in
    let now = found.new.folder in
    subst (λ (s : Settled). WasSettled F.device since start now c.args.options c.args.task.now (option_copied c.args.last) s) (sym c.settled_by.ensures.settled)
    (was_settled F.device since start now c.args.options c.args.task.now (option_copied c.args.last) c.args.path c.args.has_executed_need found.result found.ensures.may_be
    (found.ensures.answered since before was))

pub returns-clause-remembers : goal.returns-clause-remembers
returns-clause-remembers g c =
    let F = g.F.Folder in
    let found = c.prepare_by_cache-prepared in
    let start = c.args.folder.now in
    let now = found.new.folder in
    subst (λ (s : Settled). Remembers F.device start now c.args.seen.now c.settled_by.new.seen s) (sym c.settled_by.ensures.settled)
    (remembers F.device start now c.args.options c.args.task.now (option_copied c.args.last) c.settled_by.new.seen found.new.seen c.args.seen.now found.ensures.seen
    c.args.path c.args.has_executed_need found.result c.settled_by.ensures.seen found.ensures.answered)
