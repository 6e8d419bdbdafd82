use Rattle.std.proofs.Common.{◌≡◌, ◌≤◌, ◌++◌, List, length, map, take, vec_len}
use Rattle.std.specs.Vec.{vec_capacity}
use Rattle.gb_build.specs.Registering.{registers_in}
use Rattle.gb_semantics.specs.declared.events.Answer.{Answer}
use Rattle.gb_semantics.specs.declared.events.Event.{Event}
use Rattle.gb_semantics.specs.Edits.{Shown}
use Rattle.gb_semantics.specs.Headline.{AllKeepElsewhere, HasFailed, HaveHeardAll, times_attributed_in_all}
use Rattle.gb_semantics.specs.Kinds.{Kinds}
use Rattle.gb_records.specs.Assumed.{IsAssumed}
use Rattle.gb_registry.specs.Tables.{tables_of}
use Rattle.gb_build.specs.EventAsked.{EventsRequest}
use Rattle.gb_build.proofs.Editing.{shows}
use Rattle.gb_records.specs.Setting.{setting_by}
use Rattle.gb_build.proofs.Running.{RunsFrom}
use Rattle.gb_build.proofs.events.run_events.Given as goal

abbrev pub invariant-loop-event : goal.invariant-loop-event
invariant-loop-event g l =
    let F = g.F.Folder in
    let tables = tables_of g.T.Transforms.meanings g.A.Actions.meanings l.tables in
    record {
      room : length l.events ≤ vec_capacity l.answers;
      long : vec_len l.answers ≡ l.event-index;
      each : length l.answers.items ≡ l.event-index;
      requests : EventsRequest F.device (tables_of g.T.Transforms.meanings g.A.Actions.meanings l.tables) (take l.event-index l.events) l.answers.items l.fn.folder l.folder;
      device : HasFailed (times_attributed_in_all l.answers.items) (F.device.failures l.fn.folder) (F.device.failures l.folder);
      heard : HaveHeardAll l.answers.items (map g.L.TaskListener.ear l.fn.listeners.items) (map g.L.TaskListener.ear l.listeners.items);
      elsewhere : F.device.faithful l.folder → AllKeepElsewhere (registers_in tables) (take l.event-index l.events) l.answers.items (F.device.contents l.fn.folder) (F.device.contents l.folder);
      -- with any run that continues from here, these events are one run
      holds : F.device.faithful l.folder → (kinds : Kinds) → IsAssumed g.A.Actions.meanings l.tables.actions kinds (F.device.may_leave l.fn.folder)
          → (rest : List Event) (others : List Answer) (end : Shown)
          → RunsFrom (setting_by kinds (registers_in tables) (F.device.may_leave l.fn.folder)) (shows (F.device.contents l.folder) (F.device.failures l.folder)) rest others end
          → RunsFrom (setting_by kinds (registers_in tables) (F.device.may_leave l.fn.folder)) (shows (F.device.contents l.fn.folder) (F.device.failures l.fn.folder))
          (take l.event-index l.events ++ rest) (l.answers.items ++ others) end;
    }
