use Rattle.std.proofs.Common.{arith, ◌≡◌, List, [], ◌∷◌, ◌++◌, ◌+◌, map, take, sym, ap, subst, ◌∙◌}
use Rattle.std.proofs.lemmas.List.{take_more}
use Rattle.gb_build.specs.Registering.{registers_in}
use Rattle.gb_task.proofs.Recorded.{assumed_later}
use Rattle.gb_semantics.proofs.Lemmas.Plain.{headline}
use Rattle.gb_semantics.specs.declared.events.Answer.{Answer}
use Rattle.gb_semantics.specs.declared.events.Event.{Event}
use Rattle.gb_semantics.specs.Edits.{Shown}
use Rattle.gb_semantics.specs.Headline.{AllKeepElsewhere, HasFailed, HaveHeardAll, times_attributed_in_all}
use Rattle.gb_registry.specs.Tables.{tables_of}
use Rattle.gb_build.proofs.Alike.{leads_alike}
use Rattle.gb_build.proofs.Blaming.{blamed_more}
use Rattle.gb_build.proofs.Editing.{shows}
use Rattle.gb_records.specs.Setting.{setting_by}
use Rattle.gb_build.proofs.Running.{RunsFrom, heard_more, keeps_more, more_ahead, runs_hold, runs_nowhere, runs_on, take_all, taken_all, to_the_end}
use Rattle.gb_build.specs.EventAsked.{EventsRequest}
use Rattle.gb_build.proofs.EventAsked.{event_keeps, events_keep, requests_more_events}
use Rattle.gb_build.proofs.events.run_events.Goals as goal

pub loop-event-preserved : goal.loop-event-preserved
loop-event-preserved g c =
    let F = g.F.Folder in
    let ear = g.L.TaskListener.ear in
    let registers = registers_in (tables_of g.T.Transforms.meanings g.A.Actions.meanings c.args.tables.now) in
    let first = F.device.may_leave c.args.folder.now in
    let second = F.device.may_leave c.loop-event.folder in
    let so_far = c.loop-event.invariant in
    let index = c.loop-event.event-index in
    let start : Shown = shows (F.device.contents c.args.folder.now) (F.device.failures c.args.folder.now) in
    let here : Shown = shows (F.device.contents c.loop-event.folder) (F.device.failures c.loop-event.folder) in
    let next : Shown = shows (F.device.contents c.take.new.folder) (F.device.failures c.take.new.folder) in
    let items : c.push.new.self.items ≡ c.loop-event.answers.items ++ c.take.result ∷ [] = c.in_ok-push.ensures.items in
    let tables = tables_of g.T.Transforms.meanings g.A.Actions.meanings c.args.tables.now in
    let gone = events_keep F.device tables (take index c.args.events.now) c.loop-event.answers.items c.args.folder.now c.loop-event.folder so_far.requests in
    let taken = event_keeps F.device tables c.event-item.result c.take.result c.loop-event.folder c.take.new.folder c.take.ensures.requests in
    let taken_here = ap (λ event. take index c.args.events.now ++ event ∷ []) c.event-item.is ∙ sym (take_more c.args.events.now index c.event-item.result c.loop-event-test.true) in
    record {
      room = omega (arith, c.push.ensures.capacity, so_far.room);
      long = omega (arith, c.in_ok-push.ensures.len, so_far.long);
      each = grind arith;
      device = subst (λ (reported : List Answer). HasFailed (times_attributed_in_all reported) start.failures next.failures) (sym items)
          (blamed_more c.loop-event.answers.items c.take.result start.failures here.failures next.failures so_far.device c.take.ensures.device taken.count);
      heard = subst (λ (reported : List Answer). HaveHeardAll reported (map ear c.args.listeners.now.items) (map ear c.take.new.listeners.items)) (sym items)
          (heard_more c.loop-event.answers.items c.take.result _ _ _ so_far.heard c.take.ensures.heard);
      requests =
          subst (λ (reported : List Answer). EventsRequest F.device (tables_of g.T.Transforms.meanings g.A.Actions.meanings c.args.tables.now) (take (index + 1) c.args.events.now) reported c.args.folder.now c.take.new.folder) (sym items)
          (subst (λ (events : List Event). EventsRequest F.device (tables_of g.T.Transforms.meanings g.A.Actions.meanings c.args.tables.now) events (c.loop-event.answers.items ++ c.take.result ∷ []) c.args.folder.now c.take.new.folder) taken_here
          (requests_more_events g.F.Folder.device (tables_of g.T.Transforms.meanings g.A.Actions.meanings c.args.tables.now) (take index c.args.events.now) c.loop-event.answers.items c.event-item.result c.take.result c.args.folder.now c.loop-event.folder c.take.new.folder
          (taken_all index c.args.events.now c.loop-event.answers.items so_far.each c.loop-event-test.true) so_far.requests c.take.ensures.requests));
      elsewhere = λ faithful.
          subst (λ (reported : List Answer). AllKeepElsewhere registers (take (index + 1) c.args.events.now) reported start.contents next.contents) (sym items)
          (subst (λ (events : List Event). AllKeepElsewhere registers events (c.loop-event.answers.items ++ c.take.result ∷ []) start.contents next.contents) taken_here
          (keeps_more registers (take index c.args.events.now) c.loop-event.answers.items c.event-item.result c.take.result start.contents here.contents next.contents
          (taken_all index c.args.events.now c.loop-event.answers.items so_far.each c.loop-event-test.true) (so_far.elsewhere (taken.back faithful)) (c.take.ensures.keeps faithful)));
      holds = λ faithful kinds assumed rest others end runs.
          let setting = setting_by kinds registers first in
          subst (λ (reported : List Answer). RunsFrom setting start (take (index + 1) c.args.events.now ++ rest) (reported ++ others) end) (sym items)
          (subst (λ (events : List Event). RunsFrom setting start (events ++ rest) (c.loop-event.answers.items ++ c.take.result ∷ [] ++ others) end) taken_here
          (more_ahead setting start end (take index c.args.events.now) c.event-item.result rest c.loop-event.answers.items c.take.result others
          (so_far.holds (taken.back faithful) kinds assumed (c.event-item.result ∷ rest) (c.take.result ∷ others) end
          (runs_on setting here next end c.event-item.result c.take.result rest others taken.count
          (leads_alike first second gone.tearing kinds registers here c.event-item.result c.take.result next
          (c.take.ensures.leads faithful kinds (assumed_later first second gone.tearing assumed))) runs))));
    }

pub returns-clause-holds : goal.returns-clause-holds
returns-clause-holds g c = λ faithful kinds assumed.
    let F = g.F.Folder in
    let registers = registers_in (tables_of g.T.Transforms.meanings g.A.Actions.meanings c.args.tables.now) in
    let setting = setting_by kinds registers (F.device.may_leave c.args.folder.now) in
    let so_far = c.loop-event.invariant in
    let start : Shown = shows (F.device.contents c.args.folder.now) (F.device.failures c.args.folder.now) in
    let end : Shown = shows (F.device.contents c.loop-event.folder) (F.device.failures c.loop-event.folder) in
    runs_hold setting start end c.args.events.now c.loop-event.answers.items
    (to_the_end setting start end c.loop-event.event-index c.args.events.now c.loop-event.answers.items c.loop-event-test.false
    (so_far.holds faithful kinds assumed [] [] end (runs_nowhere setting end)))

pub returns-clause-promise : goal.returns-clause-promise
returns-clause-promise g c = λ faithful kinds assumed.
    let F = g.F.Folder in
    let registers = registers_in (tables_of g.T.Transforms.meanings g.A.Actions.meanings c.args.tables.now) in
    headline (setting_by kinds registers (F.device.may_leave c.args.folder.now)) (shows (F.device.contents c.args.folder.now) (F.device.failures c.args.folder.now))
    (shows (F.device.contents c.loop-event.folder) (F.device.failures c.loop-event.folder)) c.args.events.now c.loop-event.answers.items
    (returns-clause-holds g c faithful kinds assumed)

pub returns-clause-requests : goal.returns-clause-requests
returns-clause-requests g c =
    let F = g.F.Folder in
    subst (λ (events : List Event). EventsRequest F.device (tables_of g.T.Transforms.meanings g.A.Actions.meanings c.args.tables.now) events c.loop-event.answers.items c.args.folder.now c.loop-event.folder)
    (take_all c.loop-event.event-index c.args.events.now c.loop-event-test.false) c.loop-event.invariant.requests
