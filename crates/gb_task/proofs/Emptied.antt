-- The execution of a task without source, by the result of deleting its record and outputs.
use Rattle.std.specs.Prelude.{ℕ, ◌≡◌, ◌≤◌, ◌⊎◌, ◌||◌, ◌&&◌, ◌++◌, Bool, true, false, not, List, [], ◌∷◌, map, is_some, Option, None, Some, Result, Ok, Err}
use Rattle.std.specs.List.{list_any}
use Rattle.std.proofs.Common.{refl, sym, ap, ap₂, subst, ◌∙◌, inl, inr}
use Rattle.gb_core.specs.Lists.{first_of}
use Rattle.gb_core.specs.Place.{is_place, is_under}
use Rattle.gb_folder.specs.Files.{Place, Contents, Files, HasRisen, Tearing, file_at, files_where, is_empty, is_own}
use Rattle.gb_folder.proofs.Changes.{HasRisen-before}
use Rattle.gb_history.specs.Places.{record_place}
use Rattle.gb_semantics.specs.Events.{Setting, is_touched_by, may_occur, own_files, rules_in}
use Rattle.gb_semantics.specs.Kinds.{Kinds}
use Rattle.gb_semantics.specs.Label.{Early, HasNoSource, IsOutcomeAt, Moment, early_case}
use Rattle.gb_semantics.specs.Made.{rest_of}
use Rattle.gb_semantics.specs.Memory.{Memory, World, forget}
use Rattle.gb_semantics.specs.Tree.{has_no_source, input_faults, listing_faults, reported_of_tree}
use Rattle.gb_semantics.specs.TrueRecord.{outside}
use Rattle.gb_semantics.specs.Execution.{FailureLeaves, FailurePrints, InventsNothing, IsGivenUp, IsWritten, WorldState as Exists, StartedExecution, TouchesRecordIn}
use Rattle.gb_plan.specs.Graph.{Plan}
use Rattle.gb_plan.specs.Task.{is_output_of, output_places, roots_of}
use Rattle.gb_plan.specs.declared.task.Output.{Output}
use Rattle.gb_plan.specs.declared.task.TaskDeclaration.{TaskDeclaration as Task}
use Rattle.gb_plan.proofs.Tests.{not_false, not_true, or_right}
use Rattle.gb_semantics.proofs.Common.{none_some}
use Rattle.gb_records.specs.Holding.{CannotBeStored}
use Rattle.gb_report.specs.declared.fault.Fault.{Fault}
use Rattle.gb_report.specs.declared.fault.Fault.TheVariants as faults
use Rattle.gb_report.specs.declared.report.Options.{Options}
use Rattle.gb_report.specs.declared.report.Outcome.TheVariants as outcomes
use Rattle.gb_report.specs.declared.report.TaskReport.{TaskReport}
use Rattle.gb_run.specs.Emptying.{CannotEmpty}
use Rattle.gb_run.proofs.Placed.{none_after}
use Rattle.gb_run.proofs.CutEmptying.{cut_emptyings_invent_nothing, torn_places_are_of_the_emptying}
use Rattle.gb_folder.specs.Changes.{ChangesOnly}
use Rattle.gb_folder.specs.Faults.{IsOfMachine}
use Rattle.gb_tree.specs.Tree.{special_roots}
use Rattle.gb_task.specs.Clearing.{HasCleared, IsCleared, IsHalfCleared, IsKept}
use Rattle.gb_task.specs.Keeping.{IsForgotten, IsUnwritten}
use Rattle.gb_task.specs.Executing.{BeginsAt, HasExecuted, Registering, cleared_outcome, is_of_execution, setting_with}
use Rattle.gb_task.proofs.Outside.{kept}
use Rattle.gb_task.proofs.Own.{is_kept, swapped}
use Rattle.gb_task.proofs.Parts.{blocked_by_own, differs_outside, outside_same}
use Rattle.gb_task.proofs.Taken.{found_at, taken_kept, taken_left, taken_existed}
use Rattle.gb_task.proofs.DueExecutions.{same_fault}
use Rattle.gb_task.proofs.Whole.{as_found}
use Rattle.gb_label.proofs.Cases.{cased}

-- ---- the case

abbrev is_dry : Option Early → Bool
is_dry (Some HasNoSource) = true
is_dry other = false

record Dry (task : Task) (folder : Contents) : Type 0 where
  pub runs : task.runs ≡ true
  pub acts : is_empty task.actions ≡ false
  pub listed : listing_faults task folder ≡ []

dry : (task : Task) (folder : Contents) → early_case task folder ≡ Some HasNoSource → Dry task folder
dry task folder case = record {
  runs = runs_if task.runs (is_empty task.actions) there (has_no_source task folder.files) case;
  acts = acts_if task.runs (is_empty task.actions) there (has_no_source task folder.files) case;
  listed = none_after (input_faults task folder) (listing_faults task folder) (free_if task.runs (is_empty task.actions) there (has_no_source task folder.files) case);
}
  where
    there : List Fault
    there = input_faults task folder ++ listing_faults task folder

    runs_if : (runs idle : Bool) (hindrances : List Fault) (b : Bool) → cased runs idle hindrances b ≡ Some HasNoSource → runs ≡ true
    runs_if false idle hindrances b e = not_true (ap is_dry e)
    runs_if true idle hindrances b e = refl

    acts_if : (runs idle : Bool) (hindrances : List Fault) (b : Bool) → cased runs idle hindrances b ≡ Some HasNoSource → idle ≡ false
    acts_if false idle hindrances b e = not_true (ap is_dry e)
    acts_if true true hindrances b e = not_true (ap is_dry e)
    acts_if true false hindrances b e = refl

    free_if : (runs idle : Bool) (hindrances : List Fault) (b : Bool) → cased runs idle hindrances b ≡ Some HasNoSource → hindrances ≡ []
    free_if false idle hindrances b e = not_true (ap is_dry e)
    free_if true true hindrances b e = not_true (ap is_dry e)
    free_if true false [] b e = refl
    free_if true false (f ∷ fs) b e = not_true (ap is_dry e)

-- the report
abbrev pub reported_of : Task → Result (Unit {0}) Fault → TaskReport
reported_of task result = record { path = task.path; outcome = cleared_outcome result; has_actions = not (is_empty task.actions); lines = [] }

-- ---- how it ended

module _ (setting : Setting) (own : Files) (options : Options) (plan : Plan) (task : Task) (moment : Moment) (case : early_case task moment.world.folder ≡ Some HasNoSource) where
  still : (fault : Fault) (new : Exists) → may_occur setting own options task moment new fault → new.world ≡ moment.world
      → StartedExecution (rules_in setting own options plan) moment task (reported_of task (Err fault)) new
  still fault new may same = record {
    label = inr (fault, may, refl);
    leaves = subst (λ (early : Option Early). FailureLeaves setting.kinds options task fault moment.world new.world early) (sym case) (inl same);
    prints = subst (λ (early : Option Early). FailurePrints setting.kinds options task moment.world [] fault early) (sym case) refl;
    reading = λ place is at. same;
    begun = λ other is printed. not_false printed;
  }

  begun_so : (fault : Fault) (new : Exists) → may_occur setting own options task moment new fault → IsGivenUp setting.kinds task fault moment.world new.world
      → ((place : Place) → fault ≡ faults.Device place → is_output_of task place ≡ true)
      → StartedExecution (rules_in setting own options plan) moment task (reported_of task (Err fault)) new
  begun_so fault new may up at = record {
    label = inr (fault, may, refl);
    leaves = subst (λ (early : Option Early). FailureLeaves setting.kinds options task fault moment.world new.world early) (sym case) (inr up);
    prints = subst (λ (early : Option Early). FailurePrints setting.kinds options task moment.world [] fault early) (sym case) refl;
    reading = λ place is elsewhere. not_true (sym elsewhere ∙ at place (same_fault fault (faults.Device place) is));
    begun = λ other is printed. not_false printed;
  }

  emptied : (new : Exists) → new.world ≡ (let w : World = record { folder = record moment.world.folder { files = rest_of task moment.world.folder.files }; memory = forget moment.world.memory task.path } in w)
      → StartedExecution (rules_in setting own options plan) moment task (reported_of task (Ok tt)) new
  emptied new leaves = record {
    label = inl (subst (λ (early : Option Early). IsOutcomeAt setting.kinds options plan task moment early outcomes.NoSource) (sym case) refl);
    leaves = leaves;
    prints = refl;
    reading = λ place is at. absurd (let e = is in (cc));
    begun = λ fault is printed. absurd (let e = is in (cc));
  }

module _ (kinds : Kinds) (registry_of : Registering) (may_leave : Tearing) (options : Options) (plan : Plan) (task : Task) (was_read : Bool)
    (moment : Moment) (old : Contents) (before : ℕ) (out : list_any (λ (o : Output). is_own o.place) task.outputs ≡ false)
    (at : BeginsAt task was_read old before moment) (case : early_case task moment.world.folder ≡ Some HasNoSource) where
  abbrev memory : Memory
  memory = moment.world.memory

  abbrev setting : Setting
  setting = setting_with kinds registry_of may_leave

  abbrev moment_then : Moment
  moment_then = record { world = record { folder = outside old; memory = moment.world.memory }; outcomes = moment.outcomes; failures = before }

  abbrev existing : ℕ → Contents → Memory → Exists
  existing after new now = record { world = record { folder = outside new; memory = now }; failures = after }

  case_then : early_case task (outside old) ≡ Some HasNoSource
  case_then = ap (early_case task) (sym at.folder) ∙ case

  is_dry_task : Dry task (outside old)
  is_dry_task = dry task (outside old) case_then

  abbrev Then : Result (Unit {0}) Fault → ℕ → Contents → Type 0
  Then result after new = HasExecuted setting options plan task moment_then (reported_of task result) old after new

  touched_out : (place : Place) → is_output_of task place ≡ true → is_touched_by task place ≡ true
  touched_out place e = λ i. (is_dry_task.runs i && not (is_dry_task.acts i)) && or_right (list_any (is_under place) (roots_of task)) (is_output_of task place) e i

  touches : was_read ≡ true → TouchesRecordIn options task (record { folder = outside old; memory = moment.world.memory }) (early_case task (outside old))
  touches was =
      subst (λ (early : Option Early). TouchesRecordIn options task (record { folder = outside old; memory = moment.world.memory }) early) (sym case_then)
      (λ none. not_false (sym (at.read ∙ was) ∙ ap is_some none))

  module _ (early after : ℕ) (new : Contents) (le : before ≤ early) (more : early ≤ after) (changes : ChangesOnly (is_of_execution task) old new) where
    held_back : (fault : Fault) → IsKept task was_read memory early old fault after new → Then (Err fault) after new
    held_back fault held = by held.why
      where
        same : outside new ≡ outside old
        same = outside_same task.path old new held.changes

        same_world : (now : Memory) → (let w : World = record { folder = outside new; memory = now } in w) ≡ record { folder = outside old; memory = now }
        same_world now = ap (λ (folder : Contents). let w : World = record { folder = folder; memory = now } in w) same

        may_fail : (CannotBeStored old.files task.path None ⊎ HasRisen early after) → (now : Memory)
            → may_occur setting (own_files old) options task moment_then (existing after new now) faults.HistoryNotWritten
        may_fail (inl (inl exist)) now = (touches held.read, inr (inl (ap (λ b. not (is_place (record_place task.path)) || b) (sym (blocked_by_own task.path old.files)) ∙ exist)))
        may_fail (inl (inr long)) now = not_false (sym long)
        may_fail (inr risen) now = (touches held.read, inl (HasRisen-before before early after le more risen))

        unwritten : (CannotBeStored old.files task.path None ⊎ HasRisen early after) → IsForgotten task.path memory (Err faults.HistoryNotWritten) new.files → Then (Err faults.HistoryNotWritten) after new
        unwritten why (inl exists) = record {
          memory = memory;
          execution = still setting (own_files old) options plan task moment_then case_then faults.HistoryNotWritten (existing after new memory) (may_fail why memory) (same_world memory);
          records = exists;
        }
        unwritten why (inr gone) = record {
          memory = forget memory task.path;
          execution = begun_so setting (own_files old) options plan task moment_then case_then faults.HistoryNotWritten (existing after new (forget memory task.path)) (may_fail why (forget memory task.path))
              (record {
                files = ap (λ (c : Contents). files_where (λ q. not (is_output_of task q)) c.files) same;
                invents_nothing = λ place bytes output e. inl (ap (λ (c : Contents). file_at c.files place) (sym same) ∙ e);
                special = ap (λ (c : Contents). c.special) same;
                memory = refl;
              }) (λ place e. absurd (let d = e in (cc)));
          records = gone;
        }

        by : IsUnwritten task.path None old.files early after fault → Then (Err fault) after new
        by (inl memory_out) =
            subst (λ (f : Fault). Then (Err f) after new) (sym memory_out)
            (record {
              memory = memory;
              execution = still setting (own_files old) options plan task moment_then case_then faults.OutOfMemory (existing after new memory) tt (same_world memory);
              records = subst (λ (f : Fault). IsForgotten task.path memory (Err f) new.files) memory_out held.records;
            })
        by (inr unwritten_so) =
            subst (λ (f : Fault). Then (Err f) after new) (sym unwritten_so.0)
            (unwritten unwritten_so.1 (subst (λ (f : Fault). IsForgotten task.path memory (Err f) new.files) unwritten_so.0 held.records))

    half : (fault : Fault) → ((place : Place) → fault ≡ faults.Device place → is_output_of task place ≡ true)
        → (cut : IsHalfCleared task memory may_leave early old fault after new) → Then (Err fault) after new
    half fault blamed cut = by cut.why
      where
        invents : InventsNothing kinds task fault (record { folder = outside old; memory = memory }) (record { folder = outside new; memory = forget memory task.path })
        invents place bytes output e = by_law (cut_emptyings_invent_nothing setting task early cut.taken fault after new cut.why place bytes (sym (found_at task out new.files place output) ∙ e))
          where
            by_law : (file_at cut.taken.files place ≡ Some bytes) ⊎ (fault ≡ faults.Device place)
                → (file_at (kept old.files) place ≡ Some bytes) ⊎ IsWritten kinds task (kept old.files) place bytes ⊎ (fault ≡ faults.Device place)
            by_law (inl there) = inl (taken_existed setting task out old cut.taken cut.out place bytes output there)
            by_law (inr device) = inr (inr device)

        gives : may_occur setting (own_files old) options task moment_then (existing after new (forget memory task.path)) fault → Then (Err fault) after new
        gives may = record {
          memory = forget memory task.path;
          execution = begun_so setting (own_files old) options plan task moment_then case_then fault (existing after new (forget memory task.path)) may
              (record {
                files = differs_outside task old.files new.files changes.elsewhere;
                invents_nothing = invents;
                special = changes.special;
                memory = refl;
              }) blamed;
          records = cut.records;
        }

        of_machine : IsOfMachine early after fault → Then (Err fault) after new
        of_machine (inl memory_out) =
            gives (subst (λ (f : Fault). may_occur setting (own_files old) options task moment_then (existing after new (forget memory task.path)) f) (sym memory_out) tt)
        of_machine (inr device) =
            gives (subst (λ (f : Fault). may_occur setting (own_files old) options task moment_then (existing after new (forget memory task.path)) f) (sym device.1) (
              HasRisen-before before early after le more device.2,
              touched_out device.0 (blamed device.0 device.1),
              taken_left setting task out old cut.taken cut.out new.files device.0 (blamed device.0 device.1)
                  (torn_places_are_of_the_emptying setting task early cut.taken device.0 after new (subst (λ (f : Fault). CannotEmpty task may_leave early cut.taken f after new) device.1 cut.why)),
            ))

        none_special : listing_faults task cut.taken ≡ []
        none_special =
            ap (λ (special : List (List ℕ)). map reported_of_tree (special_roots (record { files = cut.taken.files; special = special }) (output_places task))) cut.out.special ∙ is_dry_task.listed

        by : CannotEmpty task may_leave early cut.taken fault after new → Then (Err fault) after new
        by (inl special) = none_some (ap first_of (sym none_special) ∙ special.0)
        by (inr machine) = of_machine machine.0

    all_gone : IsCleared task memory old new → Then (Ok tt) after new
    all_gone cleared = record {
      memory = forget memory task.path;
      execution = emptied setting (own_files old) options plan task moment_then case_then (existing after new (forget memory task.path))
          (ap₂ (λ (fs : Files) (special : List (List ℕ)). let w : World = record { folder = record { files = fs; special = special }; memory = forget memory task.path } in w) rest_left changes.special);
      records = cleared.records;
    }
      where
        rest_left : kept new.files ≡ rest_of task (kept old.files)
        rest_left =
            ap kept cleared.emptied ∙ swapped is_kept (λ q. not (is_output_of task q)) cleared.taken.files
            ∙ ap (rest_of task) (taken_kept task old cleared.taken cleared.out)

    pub cleared_execution : (result : Result (Unit {0}) Fault) → ((place : Place) → result ≡ Err (faults.Device place) → is_output_of task place ≡ true)
        → HasCleared task was_read memory may_leave early old result after new
        → HasExecuted (setting_with kinds registry_of may_leave) options plan task moment (reported_of task result) old after new
    cleared_execution result blamed cleared =
        subst (λ (m : Moment). HasExecuted (setting_with kinds registry_of may_leave) options plan task m (reported_of task result) old after new) (as_found task was_read old before moment at)
        (by result blamed cleared)
      where
        by : (r : Result (Unit {0}) Fault) → ((place : Place) → r ≡ Err (faults.Device place) → is_output_of task place ≡ true) → HasCleared task was_read memory may_leave early old r after new → Then r after new
        by (Ok done) blamed cleared = all_gone cleared
        by (Err fault) blamed (inl held) = held_back fault held
        by (Err fault) blamed (inr cut) = half fault (λ place e. blamed place (ap Err e)) cut
