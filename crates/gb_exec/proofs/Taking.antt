-- The execution of one task, started or passed over.
use Rattle.std.specs.Prelude.{ℕ, ◌≡◌, false, List, [], ◌∷◌, ◌++◌, Option, Some, None, is_some, slice_get}
use Rattle.std.specs.List.{flat_map, list_any}
use Rattle.std.proofs.Common.{zero, suc, refl, sym, ap, subst, ◌∙◌, inl, inr}
use Rattle.gb_task.specs.Case.{IsKnown}
use Rattle.gb_core.specs.Place.{overlaps}
use Rattle.gb_folder.specs.Files.{Contents, Place, Tearing}
use Rattle.gb_history.specs.Record.{Record}
use Rattle.gb_semantics.specs.Kinds.{Kinds}
use Rattle.gb_semantics.specs.Label.{Moment}
use Rattle.gb_semantics.specs.Memory.{World, recalled}
use Rattle.gb_semantics.specs.TrueRecord.{outside}
use Rattle.gb_semantics.specs.Execution.{DoesStart}
use Rattle.gb_semantics.proofs.Common.{none_some, some_same}
use Rattle.gb_plan.specs.Graph.{Plan, some_overlap}
use Rattle.gb_plan.specs.Task.{output_places}
use Rattle.gb_plan.specs.declared.plan.Planned.{Planned}
use Rattle.gb_plan.specs.declared.task.TaskDeclaration.{TaskDeclaration as Task}
use Rattle.gb_plan.proofs.Places.{overlap_tail}
use Rattle.gb_plan.proofs.Tests.{any_append, neither, none_left, none_right}
use Rattle.gb_records.specs.Holding.{HoldsRecords}
use Rattle.gb_report.specs.declared.report.Options.{Options}
use Rattle.gb_report.specs.declared.report.Outcome.TheVariants.{NotRun}
use Rattle.gb_report.specs.declared.report.TaskReport.{TaskReport}
use Rattle.gb_task.specs.Executing.{HasExecuted, Registering, setting_with}
use Rattle.gb_exec.specs.Built.{IsExecutionOf}
use Rattle.gb_exec.specs.Reports.{IsOf, report_with}

-- ---- Outputs of one task

overlap_head : (xs ys : List Place) → some_overlap (xs ++ ys) ≡ false → some_overlap xs ≡ false
overlap_head [] ys e = refl
overlap_head (x ∷ xs) ys e =
    neither (list_any (overlaps x) xs) (some_overlap xs)
    (none_left (list_any (overlaps x) xs) (list_any (overlaps x) ys) (sym (any_append (overlaps x) xs ys) ∙ none_left (list_any (overlaps x) (xs ++ ys)) (some_overlap (xs ++ ys)) e))
    (overlap_head xs ys (none_right (list_any (overlaps x) (xs ++ ys)) (some_overlap (xs ++ ys)) e))

pub own_separate : (plan : List Planned) (index : ℕ) (planned : Planned) → slice_get plan index ≡ Some planned → some_overlap (flat_map (λ planned. output_places planned.task) plan) ≡ false
    → some_overlap (output_places planned.task) ≡ false
own_separate [] index planned is e = none_some is
own_separate (p ∷ plan) zero planned is e =
    subst (λ (z : Planned). some_overlap (output_places z.task) ≡ false) (some_same is) (overlap_head (output_places p.task) (flat_map (λ planned. output_places planned.task) plan) e)
own_separate (p ∷ plan) (suc index) planned is e = own_separate plan index planned is (overlap_tail (output_places p.task) (flat_map (λ planned. output_places planned.task) plan) e)

-- ---- What was read

pub read_so : (kinds : Kinds) (task : Task) (world : World) (read : Option Record) → IsKnown kinds task world read → is_some (recalled world.memory task.path) ≡ is_some read
read_so kinds task world None known = ap is_some known
read_so kinds task world (Some run) known = ap is_some known.1

-- ---- Executions

pub execution_passed : (kinds : Kinds) (registry_of : Registering) (may_leave : Tearing) (options : Options) (plan : Plan) (moment : Moment) (planned : Planned) (report : TaskReport)
    (folder : Contents) (after : ℕ) → report ≡ report_with NotRun planned → (¬ DoesStart options plan moment planned) → moment.world.folder ≡ outside folder → HoldsRecords folder.files moment.world.memory
    → IsExecutionOf (setting_with kinds registry_of may_leave) options plan moment planned report folder after folder
execution_passed kinds registry_of may_leave options plan moment planned report folder after is not_starts there exists = record {
  memory = moment.world.memory;
  execution = (
    ap (λ (r : TaskReport). r.path) is,
    ap (λ (r : TaskReport). r.has_actions) is,
    inr (
      not_starts,
      record {
        outcome = ap (λ (r : TaskReport). r.outcome) is;
        no_lines = ap (λ (r : TaskReport). r.lines) is;
        unchanged = ap (λ (f : Contents). let world : World = record { folder = f; memory = moment.world.memory } in world) (sym there);
      },
    ),
  );
  records = exists;
}

pub execution_started : (kinds : Kinds) (registry_of : Registering) (may_leave : Tearing) (options : Options) (plan : Plan) (moment : Moment) (planned : Planned) (report : TaskReport)
    (old : Contents) (after : ℕ) (new : Contents) → IsOf planned report → DoesStart options plan moment planned
    → HasExecuted (setting_with kinds registry_of may_leave) options plan planned.task moment report old after new
    → IsExecutionOf (setting_with kinds registry_of may_leave) options plan moment planned report old after new
execution_started kinds registry_of may_leave options plan moment planned report old after new of_task starts turned = record {
  memory = turned.memory;
  execution = (of_task.path, of_task.has_actions, inl (starts, turned.execution));
  records = turned.records;
}
