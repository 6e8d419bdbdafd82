-- What is remembered after a task's execution was prepared.
use Rattle.std.specs.Prelude.{◌≡◌, Bool, true, false, List, [], ◌∷◌, Option, Result, Ok, Err, IfOk}
use Rattle.std.proofs.Common.{arith, refl}
use Rattle.std.proofs.lemmas.List.Elements.{Contains-append_left}
use Rattle.gb_folder.specs.Calls.{Requests, no_change, Device}
use Rattle.gb_folder.proofs.Asked.{requests_nothing}
use Rattle.gb_history.specs.Record.{Record}
use Rattle.gb_history.specs.declared.decide.Decision.TheVariants as decisions
use Rattle.gb_label.specs.declared.prepare.Prepared.{Prepared}
use Rattle.gb_label.specs.declared.prepare.Prepared.TheVariants as prepared
use Rattle.gb_label.proofs.Answering.{decided_longer}
use Rattle.gb_label.proofs.ReadingAnswering.{inputs_longer, outputs_were_read}
use Rattle.gb_plan.specs.Task.{Path}
use Rattle.gb_plan.specs.declared.task.TaskDeclaration.{TaskDeclaration as Task}
use Rattle.gb_report.specs.declared.fault.Fault.{Fault}
use Rattle.gb_report.specs.declared.report.Options.{Options}
use Rattle.gb_tree.specs.DigestCache.{AreAmong, AreCached, CachedFile, WasCached}
use Rattle.gb_tree.proofs.Remembering.{all_among, none_seen, seen_remembered}
use Rattle.gb_label.specs.Answered.{WasPrepared}
use Rattle.gb_task.specs.Current.{WasPreparedSince, is_current}
use Rattle.gb_task.specs.CacheChanges.{Remembers, cached_by}
use Rattle.gb_task.specs.Settled.{settled_as}

none_after : (seen : List CachedFile) → AreAmong seen [] → seen ≡ []
none_after [] among = refl
none_after (file ∷ seen) among = absurd (omega (arith, (among file (Contains-append_left (file ∷ []) seen file (0, omega arith, refl))).1))

-- what was prepared on a part of the way was so on all of it
module _ {F : Type 0} {device : Device F} where
  pub prepared_longer : (since : F) {old mid : F} (new : F) → Requests device no_change old mid → (options : Options) (task : Task) (last : Option Record) (found : Prepared)
      → WasPreparedSince device since mid new options task last found → WasPreparedSince device since old new options task last found
  prepared_longer since new before options task last prepared.Skips was = was
  prepared_longer since new before options task last prepared.HasNoActions was = was
  prepared_longer since new before options task last prepared.HasNoSource was = (was.0, inputs_longer before (requests_nothing new) task was.0 was.1, was.2)
  prepared_longer since new before options task last (prepared.Decided decisions.UpToDate basis observed) was = was
  prepared_longer since new before options task last (prepared.Decided (decisions.Incremental changes) basis observed) was = (
    was.0,
    inputs_longer before (requests_nothing new) task observed.inputs.items was.1,
    decided_longer before (requests_nothing new) options task last observed.inputs.items (decisions.Incremental changes) observed.outputs.items was.2,
  )
  prepared_longer since new before options task last (prepared.Decided decisions.Full basis observed) was = (was.0, inputs_longer before (requests_nothing new) task observed.inputs.items was.1, was.2)

-- what is up to date may have been found so since an earlier state
module _ {F : Type 0} (device : Device F) (since old new : F) (options : Options) (task : Task) (last : Option Record) where
  pub current_since : (found : Prepared) → is_current found ≡ true → WasPrepared device since new options task last found
      → WasPreparedSince device since old new options task last found
  current_since prepared.Skips is was = was
  current_since prepared.HasNoActions is was = was
  current_since prepared.HasNoSource is was = absurd (cc)
  current_since (prepared.Decided decisions.UpToDate basis observed) is was = was
  current_since (prepared.Decided (decisions.Incremental changes) basis observed) is was = absurd (cc)
  current_since (prepared.Decided decisions.Full basis observed) is was = absurd (cc)

module _ {F : Type 0} (device : Device F) (old new : F) (options : Options) (task : Task) (last : Option Record)
    (seen middle before : List CachedFile)
    (held : (since : F) → Requests device no_change since old → AreCached device since old before → AreCached device since new middle) where
  pub remembers : (path : Path) (need : Bool) (result : Result Prepared Fault) → AreAmong seen (cached_by result need middle)
      → ((since : F) → Requests device no_change since old → AreCached device since old before
      → IfOk result (WasPreparedSince device since old new options task last))
      → Remembers device old new before seen (settled_as task path result need)
  remembers path need (Err fault) e prepares = λ since earlier was. none_seen device new new seen (none_after seen e)
  remembers path need (Ok prepared.Skips) e prepares = λ since earlier was. all_among (WasCached device since new) seen middle e (held since earlier was)
  remembers path true (Ok prepared.HasNoActions) e prepares = λ since earlier was. none_seen device new new seen (none_after seen e)
  remembers path false (Ok prepared.HasNoActions) e prepares = λ since earlier was. all_among (WasCached device since new) seen middle e (held since earlier was)
  remembers path need (Ok prepared.HasNoSource) e prepares = none_after seen e
  remembers path need (Ok (prepared.Decided decisions.UpToDate basis observed)) e prepares =
      λ since earlier was.
      seen_remembered device since new seen middle observed.outputs.items e (held since earlier was)
      (outputs_were_read device since new task.outputs observed.outputs.items (prepares since earlier was).2.1)
  remembers path need (Ok (prepared.Decided (decisions.Incremental changes) basis observed)) e prepares = none_after seen e
  remembers path need (Ok (prepared.Decided decisions.Full basis observed)) e prepares = none_after seen e
