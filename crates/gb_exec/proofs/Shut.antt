-- What is in the way of a record in a build was so before it: so its executions fail by what existed at
-- first.
use Rattle.std.specs.Prelude.{◌≡◌, ◌⊎◌, ◌||◌, Bool, true, false, not, List, [], ◌∷◌, Option, IsTrue}
use Rattle.std.specs.List.{AllByRecursion, list_any}
use Rattle.std.specs.Cmp.Lexicographic.{bytes_decides}
use Rattle.std.proofs.Common.{refl, sym, ap, subst, ◌∙◌, inl, inr}
use Rattle.gb_core.specs.Path.{is_task_path}
use Rattle.gb_core.specs.Place.{is_beneath, is_place}
use Rattle.gb_folder.specs.Files.{Bytes, Contents, Files, HasRisen, Place, SameTearing, Tearing, is_blocked, is_own}
use Rattle.gb_history.specs.Places.{record_place}
use Rattle.gb_semantics.specs.Events.{IsTornInRun, ExistsInRun, is_record_shut_out, is_record_too_long, may_occur, own_files, rules_in}
use Rattle.gb_semantics.specs.Kinds.{Kinds}
use Rattle.gb_semantics.specs.Label.{Moment}
use Rattle.gb_semantics.specs.Execution.{WorldState, Execution}
use Rattle.gb_semantics.proofs.Lemmas.Weaker.{execution_weaker}
use Rattle.gb_plan.specs.Graph.{Plan}
use Rattle.gb_plan.specs.Task.{Path, is_output_of}
use Rattle.gb_plan.specs.declared.plan.Planned.{Planned}
use Rattle.gb_plan.proofs.Tests.{neither, no_longer, not_false, not_true, open_in}
use Rattle.gb_records.proofs.Reported.{texts_are_records}
use Rattle.gb_report.specs.declared.fault.Fault.{Fault}
use Rattle.gb_report.specs.declared.fault.Fault.TheVariants as faults
use Rattle.gb_report.specs.declared.report.Options.{Options}
use Rattle.gb_report.specs.declared.report.TaskReport.{TaskReport}
use Rattle.gb_folder.specs.Changes.{ChangesOnly, is_at}
use Rattle.gb_task.specs.Executing.{Registering, is_of_execution, setting_with}
use Rattle.gb_task.proofs.Own.{blocked_where, false_if, kept_at, not_in_own_way}
use Rattle.gb_task.proofs.Parts.{blocked_by_own}
use Rattle.gb_exec.specs.Building.{is_of_executions}

-- a task that can have a record, and none of whose outputs is the tool's own
pub record HasOwnPlaces (planned : Planned) : Type 0 where
  pub is_path : IsTrue (is_task_path planned.task.path)
  pub not_own : list_any (λ output. is_own output.place) planned.task.outputs ≡ false

not_false_so : (b : Bool) → not b ≡ false → b ≡ true
not_false_so true e = refl
not_false_so false e = not_false e

module _ (path : Path) (is_path : IsTrue (is_task_path path)) where
  -- nothing at the outputs of a task is in the way of a record, nor is another record
  free_of : (planned : Planned) → HasOwnPlaces planned → (f : Place) → is_of_execution planned.task f ≡ true
      → (is_beneath (record_place path) f || is_beneath f (record_place path)) ≡ false
  free_of planned places f h = by (is_output_of planned.task f) refl
    where
      at_record : is_at (record_place planned.task.path) f ≡ true → (is_beneath (record_place path) f || is_beneath f (record_place path)) ≡ false
      at_record e =
          let same : f ≡ record_place planned.task.path = (bytes_decides f (record_place planned.task.path)).0 e in
          subst (λ (g : Place). (is_beneath (record_place path) g || is_beneath g (record_place path)) ≡ false) (sym same)
          (neither (is_beneath (record_place path) (record_place planned.task.path)) (is_beneath (record_place planned.task.path) (record_place path))
          (false_if (is_beneath (record_place path) (record_place planned.task.path)) (texts_are_records.none_beneath path planned.task.path is_path places.is_path))
          (false_if (is_beneath (record_place planned.task.path) (record_place path)) (texts_are_records.none_beneath planned.task.path path places.is_path is_path)))

      by : (t : Bool) → is_output_of planned.task f ≡ t → (is_beneath (record_place path) f || is_beneath f (record_place path)) ≡ false
      by true e = not_in_own_way (record_place path) f refl (no_longer (is_own f) (kept_at planned.task.outputs places.not_own f e))
      by false e = at_record (open_in (is_output_of planned.task f) (is_at (record_place planned.task.path) f) h e)

  free : (prefix : List Planned) → AllByRecursion HasOwnPlaces prefix → (f : Place) → is_of_executions prefix f ≡ true
      → (is_beneath (record_place path) f || is_beneath f (record_place path)) ≡ false
  free [] places f h = not_true h
  free (planned ∷ prefix) places f h = by (is_of_execution planned.task f) refl (λ e. free prefix places.1 f (open_in (is_of_execution planned.task f) (is_of_executions prefix f) h e))
    where
      by : (t : Bool) → is_of_execution planned.task f ≡ t
          → (is_of_execution planned.task f ≡ false → (is_beneath (record_place path) f || is_beneath f (record_place path)) ≡ false)
          → (is_beneath (record_place path) f || is_beneath f (record_place path)) ≡ false
      by true e rest = free_of planned places.0 f e
      by false e rest = rest e

  in_way_before : (prefix : List Planned) → AllByRecursion HasOwnPlaces prefix → (old now : Contents) → ChangesOnly (is_of_executions prefix) old now
      → is_blocked (own_files now) (record_place path) ≡ is_blocked (own_files old) (record_place path)
  in_way_before prefix places old now changes =
      let others : Place → Bool = λ q. not (is_of_executions prefix q) in
      let none : (f : Place) → others f ≡ false → (is_beneath (record_place path) f || is_beneath f (record_place path)) ≡ false =
      λ f e. free prefix places f (not_false_so (is_of_executions prefix f) e) in
      sym (blocked_by_own path now.files)
      ∙ sym (blocked_where others (record_place path) none now.files)
      ∙ ap (λ (files : Files). is_blocked files (record_place path)) changes.elsewhere
      ∙ blocked_where others (record_place path) none old.files
      ∙ blocked_by_own path old.files

module _ (kinds : Kinds) (registry_of : Registering) (may_leave second : Tearing) (same : SameTearing may_leave second) (options : Options) (plan : Plan) (prefix : List Planned) (old now : Contents)
    (places : AllByRecursion HasOwnPlaces prefix) (changes : ChangesOnly (is_of_executions prefix) old now) (planned : Planned) (is_path : IsTrue (is_task_path planned.task.path))
    (moment : Moment) (new : WorldState) where
  shut_so : is_record_shut_out (setting_with kinds registry_of second) (own_files now) planned.task.path
      ≡ is_record_shut_out (setting_with kinds registry_of may_leave) (own_files old) planned.task.path
  shut_so = ap (λ b. not (is_place (record_place planned.task.path)) || b) (in_way_before planned.task.path is_path prefix places old now changes)

  left_so : (place : Place) (left : Option Bytes)
      → ExistsInRun kinds planned.task moment.world.folder.files place left ⊎ IsTornInRun (setting_with kinds registry_of second) planned.task moment.world.folder.files place left
      → ExistsInRun kinds planned.task moment.world.folder.files place left ⊎ IsTornInRun (setting_with kinds registry_of may_leave) planned.task moment.world.folder.files place left
  left_so place left (inl exists) = inl exists
  left_so place left (inr torn) = inr (torn.0, torn.1, torn.2, torn.3, (same place torn.0 torn.1 left).0 torn.4)

  written_so : HasRisen moment.failures new.failures ⊎ IsTrue (is_record_shut_out (setting_with kinds registry_of second) (own_files now) planned.task.path)
      ⊎ IsTrue (is_record_too_long (setting_with kinds registry_of second) planned.task moment.world.folder.files)
      → HasRisen moment.failures new.failures ⊎ IsTrue (is_record_shut_out (setting_with kinds registry_of may_leave) (own_files old) planned.task.path)
      ⊎ IsTrue (is_record_too_long (setting_with kinds registry_of may_leave) planned.task moment.world.folder.files)
  written_so (inl risen) = inl risen
  written_so (inr (inl shut)) = inr (inl (sym shut_so ∙ shut))
  written_so (inr (inr long)) = inr (inr long)

  may_so : (fault : Fault) → may_occur (setting_with kinds registry_of second) (own_files now) options planned.task moment new fault
      → may_occur (setting_with kinds registry_of may_leave) (own_files old) options planned.task moment new fault
  may_so faults.OutOfMemory may = tt
  may_so (faults.Device place) may = (may.0, may.1, left_so place _ may.2)
  may_so faults.HistoryNotWritten may = (may.0, written_so may.1)
  may_so (faults.BadName a) may = absurd may
  may_so (faults.BadPlace a) may = absurd may
  may_so (faults.Missing a) may = absurd may
  may_so (faults.Blocked a) may = absurd may
  may_so (faults.TooLarge a) may = absurd may
  may_so (faults.BadFileName a) may = absurd may
  may_so (faults.Syntax a b) may = absurd may
  may_so (faults.TooLong a) may = absurd may
  may_so (faults.TooDeep a b) may = absurd may
  may_so (faults.NotUtf8 a) may = absurd may
  may_so (faults.Circular a) may = absurd may
  may_so (faults.UnknownTransform a) may = absurd may
  may_so (faults.BadArguments a) may = absurd may
  may_so (faults.NoValue a b) may = absurd may
  may_so (faults.WrongValue a) may = absurd may
  may_so (faults.Final a) may = absurd may
  may_so (faults.UnknownAction a) may = absurd may
  may_so (faults.ActionFailed a) may = absurd may
  may_so (faults.BadArgument a b) may = absurd may
  may_so (faults.UnknownProject a) may = absurd may
  may_so (faults.DuplicateTask a) may = absurd may
  may_so (faults.TaskNotFound a) may = absurd may
  may_so (faults.DuplicateProperty a) may = absurd may
  may_so (faults.UnknownProperty a) may = absurd may
  may_so (faults.BadShape a) may = absurd may
  may_so (faults.OutputOutsideBuild a b) may = absurd may
  may_so (faults.BadProjectPlace a) may = absurd may
  may_so (faults.TooMany a) may = absurd may
  may_so (faults.UnknownOutput a b) may = absurd may
  may_so (faults.Cycle a) may = absurd may
  may_so (faults.OverlappingOutputs a b c) may = absurd may
  may_so (faults.UndeclaredDependency a b c) may = absurd may
  may_so (faults.OwnOutputAsInput a b) may = absurd may
  may_so faults.NoTasks may = absurd may
  may_so (faults.BadPattern a) may = absurd may
  may_so (faults.DuplicateInput a b) may = absurd may
  may_so (faults.TooManyFiles a) may = absurd may
  may_so (faults.OwnState a) may = absurd may
  may_so (faults.BadLine a) may = absurd may
  may_so faults.Usage may = absurd may

  -- an execution over the tool's own files of now is one over those of the beginning
  pub execution_so : (report : TaskReport) → Execution (rules_in (setting_with kinds registry_of second) (own_files now) options plan) moment planned report new
      → Execution (rules_in (setting_with kinds registry_of may_leave) (own_files old) options plan) moment planned report new
  execution_so report execution = execution_weaker kinds options plan (may_occur (setting_with kinds registry_of second) (own_files now) options) (may_occur (setting_with kinds registry_of may_leave) (own_files old) options) moment planned report new may_so execution
