-- What the definitions refuse: wrong outcomes, outputs left over, a finalizer left out.
use Rattle.std.specs.Prelude.{◌≡◌, Bool, true, false, [], ◌∷◌, codes, refl, Option, bytes_eq, is_some}
use Rattle.std.specs.List.{list_any}
use Rattle.std.specs.Option.{unwrap_or}
use Rattle.std.specs.Result.{result_unwrap_or}
use Rattle.std.proofs.Common.{inl, inr, ap, sym, ◌∙◌}
use Rattle.gb_report.specs.declared.report.Outcome.{Outcome}
use Rattle.gb_report.specs.declared.report.Outcome.TheVariants as outcomes
use Rattle.gb_folder.specs.Files.{Files, file_at, is_empty}
use Rattle.gb_plan.specs.Graph.{start}
use Rattle.gb_report.specs.declared.fault.Fault.{Fault}
use Rattle.gb_report.specs.declared.fault.Fault.TheVariants as faults
use Rattle.gb_plan.specs.declared.task.TaskDeclaration.{TaskDeclaration as Task}
use Rattle.gb_semantics.proofs.Existing.{rules_of, existing}
use Rattle.gb_semantics.specs.Memory.{World, Entry, entry_of}
use Rattle.gb_semantics.specs.Label.{IsOutcomeOf}
use Rattle.gb_report.specs.Outcome.{is_executed, is_started}
use Rattle.gb_semantics.specs.Execution.{May, Execution, StartedExecution, Leaves}
use Rattle.gb_semantics.proofs.RowKinds.{row_kinds}
use Rattle.gb_plan.proofs.Tests.{not_true, not_false}
use Rattle.gb_semantics.proofs.Rows.Graphs.{action, fin, plan, reported}
use Rattle.gb_semantics.proofs.Rows.Finalized.{plain_run, no_fault_comes, second, world}
use Rattle.gb_semantics.proofs.Rows.Copies.{before, gen, gen_entry, after_gen, folder, only, at_first, cp, edited}

abbrev is_current : Outcome → Bool
is_current outcomes.Executed = false
is_current outcomes.UpToDate = true
is_current outcomes.Skipped = false
is_current outcomes.NoSource = false
is_current (outcomes.Failed fault) = false
is_current outcomes.NotRun = false

-- an edited output is not up to date
abbrev pub output_edited : World
output_edited = folder ((codes "build.gb", codes "..") ∷ (codes "build/a.txt", codes "Z") ∷ []) ((codes ":gen", gen_entry) ∷ [])

abbrev has_z : Option Entry → Bool
has_z entry = list_any (λ file. bytes_eq file.1 (codes "Z")) (unwrap_or entry gen_entry).files

pub edited_output_is_not_current : ¬ IsOutcomeOf row_kinds plain_run (only gen) gen (at_first output_edited) outcomes.UpToDate
edited_output_is_not_current label = elim label [
  | inl current ↦ not_true (ap has_z current.0.same)
  | inr run ↦ not_false (ap is_current run.1)
]

-- what is current is not run again
pub current_is_not_run : ¬ IsOutcomeOf row_kinds plain_run (only gen) gen (at_first after_gen) outcomes.Executed
current_is_not_run label = elim label [
  | inl current ↦ not_false (ap is_executed current.1)
  | inr run ↦ run.0 (record { has_outputs = refl; not_stale = refl; no_rerun = refl; same = refl })
]

-- an incremental run that leaves the output of a removed file
abbrev pub b_left : Files
b_left = (codes "build/o/a", codes "X") ∷ (codes "build/o/b", codes "B") ∷ (codes "build/o/c", codes "C") ∷ (codes "build/o/d", codes "D")
    ∷ (codes "src/a", codes "X") ∷ (codes "src/c", codes "C") ∷ (codes "src/d", codes "D") ∷ []

abbrev holds_b : World → Bool
holds_b world = is_some (file_at world.folder.files (codes "build/o/b"))

abbrev made_files : Files → Bool
made_files files = list_any (λ file. bytes_eq file.0 (codes "build/o/b")) files

pub removed_is_not_left : ¬ Leaves row_kinds plain_run cp edited outcomes.Executed (folder b_left ((codes ":cp", entry_of cp b_left) ∷ []))
removed_is_not_left leaves = elim leaves [
  | inl none ↦ not_true none.0
  | inr ended ↦ not_false (ap holds_b ended.1.2 ∙ ap (λ files. holds_b (Rattle.gb_semantics.specs.Execution.world_with cp edited files [])) (sym (ap (λ r. result_unwrap_or r []) ended.1.1)))
]

-- lines of a run that never began, reported as out of memory
abbrev wants_memory : May
wants_memory task moment new fault = fault ≡ faults.OutOfMemory

abbrev is_unwritten : Fault → Bool
is_unwritten faults.HistoryNotWritten = true
is_unwritten other = false

pub unbegun_prints_nothing : ¬ StartedExecution (rules_of row_kinds plain_run wants_memory (only cp)) (at_first edited) cp (reported cp (outcomes.Failed faults.OutOfMemory) (codes "MODIFIED a" ∷ [])) (existing edited 0)
unbegun_prints_nothing execution = elim (execution.begun faults.OutOfMemory refl refl) [
  | inl given ↦ not_true (ap is_empty given.0.memory)
  | inr ended ↦ not_true (ap is_unwritten ended.0)
]

-- a run that began and failed is not remembered as what was there before it
abbrev pub failing_gen : Task
failing_gen = record gen { actions = action (codes "fail") (codes "no") ∷ [] }

pub begun_is_forgotten : ¬ Leaves row_kinds plain_run failing_gen after_gen (outcomes.Failed (faults.ActionFailed (codes "no"))) after_gen
begun_is_forgotten leaves = not_true (ap is_empty leaves.0.memory)

-- a finalizer of a started task that is left out
pub finalizer_is_not_passed_over : ¬ Execution (rules_of row_kinds plain_run no_fault_comes plan) second (record { task = fin; word = 0; is_selected = false }) (reported fin outcomes.NotRun []) (existing world 0)
finalizer_is_not_passed_over execution = elim execution.2 [
  | inl started ↦ elim started.1.label [
    | inl label ↦ elim label [
      | inl current ↦ not_false current.0.has_outputs
      | inr run ↦ not_true (ap is_started run.1)
    ]
    | inr fault ↦ absurd fault.1
  ]
  | inr passed ↦ passed.0 (record { needs_ended_well = refl; is_called = refl; goes_on = inr (start refl refl) })
]

-- a task that ran out of memory is not remembered as if it had ended well
pub unended_is_not_remembered : ¬ Leaves row_kinds plain_run gen before (outcomes.Failed faults.OutOfMemory) after_gen
unended_is_not_remembered leaves = elim leaves.1 [
  | inl same ↦ not_true (ap (λ world. is_empty world.memory) same)
  | inr begun ↦ elim begun [ inl given ↦ not_true (ap is_empty given.0.memory) | inr ended ↦ not_true (ap is_unwritten ended.0) ]
]
