use Rattle.std.proofs.Common.{sym, subst}
use Rattle.gb_build.specs.Registering.{registers_in}
use Rattle.gb_build.specs.Leading.{IsTransition}
use Rattle.gb_semantics.specs.declared.events.Answer.{Answer}
use Rattle.gb_semantics.specs.declared.events.Event.{Event}
use Rattle.gb_semantics.specs.declared.events.Event.TheVariants as events
use Rattle.gb_semantics.specs.Edits.{Shown}
use Rattle.gb_semantics.specs.Headline.{EventKeeps, HasFailed, times_attributed}
use Rattle.gb_registry.specs.Tables.{tables_of}
use Rattle.gb_build.specs.Answers.{edit_answer}
use Rattle.gb_build.proofs.Blaming.{edit_blames}
use Rattle.gb_build.proofs.Editing.{shows}
use Rattle.gb_build.proofs.Kept.{put_keeps, remove_keeps}
use Rattle.gb_build.proofs.Losing.{loss_leads}
use Rattle.gb_build.proofs.Outside.{put_leads, remove_leads}
use Rattle.gb_records.specs.Setting.{setting_by}
use Rattle.gb_build.specs.EventAsked.{EventRequests}
use Rattle.gb_build.proofs.EventAsked.{invocation_requests}
use Rattle.gb_build.proofs.events.take.Goals as goal

pub returns-in-Put-clause-keeps : goal.returns-in-Put-clause-keeps
returns-in-Put-clause-keeps g c = λ faithful.
    let F = g.F.Folder in
    let registers = registers_in (tables_of g.T.Transforms.meanings g.A.Actions.meanings c.args.tables.now) in
    let old : Shown = shows (F.device.contents c.args.folder.now) (F.device.failures c.args.folder.now) in
    let new : Shown = shows (F.device.contents c.put.new.folder) (F.device.failures c.put.new.folder) in
    subst (λ (event : Event). EventKeeps registers event c.edited.result old.contents new.contents) (sym c.in-Put.is)
    (subst (λ (answer : Answer). EventKeeps registers (events.Put c.in-Put.place c.in-Put.bytes) answer old.contents new.contents) (sym c.edited.ensures)
    (put_keeps registers (F.device.may_leave c.args.folder.now) c.in-Put.place c.in-Put.bytes old new (edit_answer c.put.result) (c.put.ensures.step faithful)))

pub returns-in-Put-clause-leads : goal.returns-in-Put-clause-leads
returns-in-Put-clause-leads g c = λ faithful kinds assumed.
    let F = g.F.Folder in
    let registers = registers_in (tables_of g.T.Transforms.meanings g.A.Actions.meanings c.args.tables.now) in
    let may_leave = F.device.may_leave c.args.folder.now in
    let old : Shown = shows (F.device.contents c.args.folder.now) (F.device.failures c.args.folder.now) in
    let new : Shown = shows (F.device.contents c.put.new.folder) (F.device.failures c.put.new.folder) in
    subst (λ (event : Event). IsTransition (setting_by kinds registers may_leave) old event c.edited.result new) (sym c.in-Put.is)
    (subst (λ (answer : Answer). IsTransition (setting_by kinds registers may_leave) old (events.Put c.in-Put.place c.in-Put.bytes) answer new) (sym c.edited.ensures)
    (put_leads kinds registers may_leave old new (g.met.F.Folder.sound c.put.new.folder) c.in-Put.place c.in-Put.bytes (edit_answer c.put.result) (c.put.ensures.step faithful)))

pub returns-in-Remove-clause-keeps : goal.returns-in-Remove-clause-keeps
returns-in-Remove-clause-keeps g c = λ faithful.
    let F = g.F.Folder in
    let registers = registers_in (tables_of g.T.Transforms.meanings g.A.Actions.meanings c.args.tables.now) in
    let old : Shown = shows (F.device.contents c.args.folder.now) (F.device.failures c.args.folder.now) in
    let new : Shown = shows (F.device.contents c.remove.new.folder) (F.device.failures c.remove.new.folder) in
    subst (λ (event : Event). EventKeeps registers event c.edited-in-Remove.result old.contents new.contents) (sym c.in-Remove.is)
    (subst (λ (answer : Answer). EventKeeps registers (events.Remove c.in-Remove.place) answer old.contents new.contents) (sym c.edited-in-Remove.ensures)
    (remove_keeps registers (F.device.may_leave c.args.folder.now) c.in-Remove.place old new (edit_answer c.remove.result) (c.remove.ensures.step faithful)))

pub returns-in-Remove-clause-leads : goal.returns-in-Remove-clause-leads
returns-in-Remove-clause-leads g c = λ faithful kinds assumed.
    let F = g.F.Folder in
    let registers = registers_in (tables_of g.T.Transforms.meanings g.A.Actions.meanings c.args.tables.now) in
    let may_leave = F.device.may_leave c.args.folder.now in
    let old : Shown = shows (F.device.contents c.args.folder.now) (F.device.failures c.args.folder.now) in
    let new : Shown = shows (F.device.contents c.remove.new.folder) (F.device.failures c.remove.new.folder) in
    subst (λ (event : Event). IsTransition (setting_by kinds registers may_leave) old event c.edited-in-Remove.result new) (sym c.in-Remove.is)
    (subst (λ (answer : Answer). IsTransition (setting_by kinds registers may_leave) old (events.Remove c.in-Remove.place) answer new) (sym c.edited-in-Remove.ensures)
    (remove_leads kinds registers may_leave old new (g.met.F.Folder.sound c.remove.new.folder) c.in-Remove.place (edit_answer c.remove.result) (c.remove.ensures.step faithful)))

pub returns-in-Lost-clause-leads : goal.returns-in-Lost-clause-leads
returns-in-Lost-clause-leads g c = λ faithful kinds assumed.
    let F = g.F.Folder in
    let registers = registers_in (tables_of g.T.Transforms.meanings g.A.Actions.meanings c.args.tables.now) in
    let may_leave = F.device.may_leave c.args.folder.now in
    let old : Shown = shows (F.device.contents c.args.folder.now) (F.device.failures c.args.folder.now) in
    let new : Shown = shows (F.device.contents c.lose.new.folder) (F.device.failures c.lose.new.folder) in
    subst (λ (event : Event). IsTransition (setting_by kinds registers may_leave) old event c.edited-in-Lost.result new) (sym c.in-Lost.is)
    (subst (λ (answer : Answer). IsTransition (setting_by kinds registers may_leave) old events.Lost answer new) (sym c.edited-in-Lost.ensures)
    (loss_leads kinds registers may_leave assumed.tears old new (g.met.F.Folder.sound c.lose.new.folder) (edit_answer c.lose.result) (c.lose.ensures.step faithful)))

pub returns-in-Put-clause-device : goal.returns-in-Put-clause-device
returns-in-Put-clause-device g c =
    let F = g.F.Folder in
    subst (λ (answer : Answer). HasFailed (times_attributed answer) (F.device.failures c.args.folder.now) (F.device.failures c.put.new.folder)) (sym c.edited.ensures)
    (edit_blames c.put.result (F.device.failures c.args.folder.now) (F.device.failures c.put.new.folder) c.put.ensures.count c.put.ensures.blame)

pub returns-in-Remove-clause-device : goal.returns-in-Remove-clause-device
returns-in-Remove-clause-device g c =
    let F = g.F.Folder in
    subst (λ (answer : Answer). HasFailed (times_attributed answer) (F.device.failures c.args.folder.now) (F.device.failures c.remove.new.folder)) (sym c.edited-in-Remove.ensures)
    (edit_blames c.remove.result (F.device.failures c.args.folder.now) (F.device.failures c.remove.new.folder) c.remove.ensures.count c.remove.ensures.blame)

pub returns-in-Lost-clause-device : goal.returns-in-Lost-clause-device
returns-in-Lost-clause-device g c =
    let F = g.F.Folder in
    subst (λ (answer : Answer). HasFailed (times_attributed answer) (F.device.failures c.args.folder.now) (F.device.failures c.lose.new.folder)) (sym c.edited-in-Lost.ensures)
    (edit_blames c.lose.result (F.device.failures c.args.folder.now) (F.device.failures c.lose.new.folder) c.lose.ensures.requests.count c.lose.ensures.blame)

pub returns-in-Put-clause-requests : goal.returns-in-Put-clause-requests
returns-in-Put-clause-requests g c =
    let F = g.F.Folder in
    subst (λ (event : Event). EventRequests F.device (tables_of g.T.Transforms.meanings g.A.Actions.meanings c.args.tables.now) event c.edited.result c.args.folder.now c.put.new.folder) (sym c.in-Put.is)
    c.put.ensures.requests

pub returns-in-Remove-clause-requests : goal.returns-in-Remove-clause-requests
returns-in-Remove-clause-requests g c =
    let F = g.F.Folder in
    subst (λ (event : Event). EventRequests F.device (tables_of g.T.Transforms.meanings g.A.Actions.meanings c.args.tables.now) event c.edited-in-Remove.result c.args.folder.now c.remove.new.folder) (sym c.in-Remove.is)
    c.remove.ensures.requests

pub returns-in-Lost-clause-requests : goal.returns-in-Lost-clause-requests
returns-in-Lost-clause-requests g c =
    let F = g.F.Folder in
    subst (λ (event : Event). EventRequests F.device (tables_of g.T.Transforms.meanings g.A.Actions.meanings c.args.tables.now) event c.edited-in-Lost.result c.args.folder.now c.lose.new.folder) (sym c.in-Lost.is)
    c.lose.ensures.requests

pub returns-in-Invoke-clause-requests : goal.returns-in-Invoke-clause-requests
returns-in-Invoke-clause-requests g c =
    let F = g.F.Folder in
    subst (λ (event : Event). EventRequests F.device (tables_of g.T.Transforms.meanings g.A.Actions.meanings c.args.tables.now) event c.built.result c.args.folder.now c.invoke.new.folder) (sym c.in-Invoke.is)
    (subst (λ (answer : Answer). EventRequests F.device (tables_of g.T.Transforms.meanings g.A.Actions.meanings c.args.tables.now) (events.Invoke c.in-Invoke.invocation) answer c.args.folder.now c.invoke.new.folder) (sym c.built.ensures)
    (invocation_requests g.F.Folder.device (tables_of g.T.Transforms.meanings g.A.Actions.meanings c.args.tables.now) c.in-Invoke.invocation c.invoke.result c.args.folder.now c.invoke.new.folder c.invoke.ensures.does.requests))

-- ---- An invocation

pub returns-in-Invoke-clause-device : goal.returns-in-Invoke-clause-device
returns-in-Invoke-clause-device g c =
    let F = g.F.Folder in
    subst (λ (answer : Answer). HasFailed (times_attributed answer) (F.device.failures c.args.folder.now) (F.device.failures c.invoke.new.folder)) (sym c.built.ensures) c.invoke.ensures.does.blame

pub returns-in-Invoke-clause-keeps : goal.returns-in-Invoke-clause-keeps
returns-in-Invoke-clause-keeps g c = λ faithful.
    let F = g.F.Folder in
    let registers = registers_in (tables_of g.T.Transforms.meanings g.A.Actions.meanings c.args.tables.now) in
    let old = F.device.contents c.args.folder.now in
    let new = F.device.contents c.invoke.new.folder in
    subst (λ (event : Event). EventKeeps registers event c.built.result old new) (sym c.in-Invoke.is)
    (subst (λ (answer : Answer). EventKeeps registers (events.Invoke c.in-Invoke.invocation) answer old new) (sym c.built.ensures) (c.invoke.ensures.promise faithful).keeps)

pub returns-in-Invoke-clause-leads : goal.returns-in-Invoke-clause-leads
returns-in-Invoke-clause-leads g c = λ faithful kinds assumed.
    let F = g.F.Folder in
    let registers = registers_in (tables_of g.T.Transforms.meanings g.A.Actions.meanings c.args.tables.now) in
    let may_leave = F.device.may_leave c.args.folder.now in
    let old : Shown = shows (F.device.contents c.args.folder.now) (F.device.failures c.args.folder.now) in
    let new : Shown = shows (F.device.contents c.invoke.new.folder) (F.device.failures c.invoke.new.folder) in
    subst (λ (event : Event). IsTransition (setting_by kinds registers may_leave) old event c.built.result new) (sym c.in-Invoke.is)
    (subst (λ (answer : Answer). IsTransition (setting_by kinds registers may_leave) old (events.Invoke c.in-Invoke.invocation) answer new) (sym c.built.ensures)
    ((c.invoke.ensures.promise faithful).continues kinds assumed))
