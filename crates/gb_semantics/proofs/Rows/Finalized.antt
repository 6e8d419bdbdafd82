-- The build of that plan: the task fails, its finalizer runs, and the rest is not run.
use Rattle.gb_report.specs.declared.report.TaskReport.{TaskReport}
use Rattle.gb_plan.specs.Task.{is_output_of}
use Rattle.std.specs.Prelude.{⊤, true, false, [], ◌∷◌, ◌++◌, codes, refl, ◌≡◌, ◌≤◌, not}
use Rattle.std.proofs.Common.{inl, inr, ap, sym, lit≤}
use Rattle.gb_report.specs.declared.fault.Fault.TheVariants as faults
use Rattle.gb_report.specs.declared.report.Outcome.TheVariants as outcomes
use Rattle.gb_report.specs.declared.report.Options.{Options}
use Rattle.gb_semantics.proofs.Existing.{rules_of, existing}
use Rattle.gb_semantics.specs.Memory.{World}
use Rattle.gb_semantics.specs.Label.{Moment}
use Rattle.gb_semantics.specs.Execution.{May, GuardedExecution, Builds, Execution, DoesStart, ServesFinalizer}
use Rattle.gb_semantics.proofs.RowKinds.{row_kinds}
use Rattle.gb_plan.proofs.Tests.{reached_in, not_true, not_false}
use Rattle.gb_semantics.proofs.Common.{none_some, all_assumed}
use Rattle.gb_semantics.proofs.Rows.Graphs.{bad, fin, q, p, plan, report, reported}
use Rattle.gb_plan.specs.Graph.{start}
use Rattle.gb_plan.specs.declared.plan.Planned.{Planned}
use Rattle.gb_folder.specs.Files.{IsFolder, files_where}

abbrev pub plain_run : Options
plain_run = record { keep_going = false; rerun = false; dry_run = false }

abbrev pub no_fault_comes : May
no_fault_comes task moment new fault = ⊥

abbrev pub world : World
world = record { folder = record { files = (codes "build.gb", codes "..") ∷ []; special = [] }; memory = [] }

abbrev pub first : Moment
first = record { world = world; outcomes = []; failures = 0 }

abbrev pub second : Moment
second = record { world = world; outcomes = (codes ":bad", outcomes.Failed (faults.ActionFailed (codes "boom"))) ∷ []; failures = 0 }

abbrev pub third : Moment
third = record { world = world; outcomes = second.outcomes ++ (codes ":fin", outcomes.Executed) ∷ []; failures = 0 }

abbrev pub fourth : Moment
fourth = record { world = world; outcomes = third.outcomes ++ (codes ":q", outcomes.NotRun) ∷ []; failures = 0 }

bad_execution : Execution (rules_of row_kinds plain_run no_fault_comes plan) first (record { task = bad; word = 0; is_selected = false }) (reported bad (outcomes.Failed (faults.ActionFailed (codes "boom"))) []) (existing world 0)
bad_execution = (
  refl,
  refl,
  inl (
    record { needs_ended_well = refl; is_called = refl; goes_on = inl refl },
    record {
      label = inl (inr (λ current. not_false current.has_outputs, refl));
      leaves = (record { files = refl; invents_nothing = λ place bytes out exists. inl exists; special = refl; memory = refl }, λ incremental files made place bytes new old. old);
      prints = ([], inr (λ incremental. none_some incremental.remembered, refl), refl);
      reading = λ place is out. absurd (cc);
      begun = λ fault is printed. absurd (cc);
    },
  ),
)

fin_execution : Execution (rules_of row_kinds plain_run no_fault_comes plan) second (record { task = fin; word = 0; is_selected = false }) (reported fin outcomes.Executed (codes "fin" ∷ [])) (existing world 0)
fin_execution = (
  refl,
  refl,
  inl (
    record { needs_ended_well = refl; is_called = refl; goes_on = inr (start refl refl) },
    record {
      label = inl (inr (λ current. not_false current.has_outputs, refl));
      leaves = inr (refl, ([], refl, refl));
      prints = ([], inr (λ incremental. none_some incremental.remembered, refl), refl);
      reading = λ place is out. absurd (cc);
      begun = λ fault is printed. absurd (cc);
    },
  ),
)

q_execution : Execution (rules_of row_kinds plain_run no_fault_comes plan) third (record { task = q; word = 0; is_selected = true }) (reported q outcomes.NotRun []) (existing world 0)
q_execution = (refl, refl, inr (λ starts. not_false starts.needs_ended_well, record { outcome = refl; no_lines = refl; unchanged = refl }))

p_serves_none : ¬ ServesFinalizer plan fourth (codes ":p")
p_serves_none r = not_true (reached_in _ _ _ (codes ":fin" ∷ []) refl refl r)

p_does_not_start : ¬ DoesStart plain_run plan fourth (record { task = p; word = 1; is_selected = true })
p_does_not_start starts = elim starts.goes_on [ inl e ↦ not_false e | inr r ↦ p_serves_none r ]

p_execution : Execution (rules_of row_kinds plain_run no_fault_comes plan) fourth (record { task = p; word = 1; is_selected = true }) (reported p outcomes.NotRun []) (existing world 0)
p_execution = (refl, refl, inr (p_does_not_start, record { outcome = refl; no_lines = refl; unchanged = refl }))

is_folder : IsFolder world.folder.files
is_folder = record { in_order = refl; none_blocked = refl }

kept : (moment : Moment) (planned : Planned) (reported : TaskReport) → moment.world ≡ world → moment.failures ≤ 0 → Execution (rules_of row_kinds plain_run no_fault_comes plan) moment planned reported (existing world 0)
    → GuardedExecution (rules_of row_kinds plain_run no_fault_comes plan) ⊤ moment planned reported (existing world 0)
kept moment planned reported same count execution = record {
  folder = is_folder;
  files = ap (λ (w : World). files_where (λ place. not (is_output_of planned.task place)) w.folder.files) (sym same);
  special = ap (λ (w : World). w.folder.special) (sym same);
  count = count;
  execution = λ assumed. execution;
}

pub built : Builds (rules_of row_kinds plain_run no_fault_comes plan) all_assumed [] (existing world 0) report.tasks (existing world 0)
built = inr (refl, (existing world 0, kept first _ _ refl (lit≤ tt) bad_execution, (existing world 0, kept second _ _ refl (lit≤ tt) fin_execution, (existing world 0, kept third _ _ refl (lit≤ tt) q_execution, (existing world 0, kept fourth _ _ refl (lit≤ tt) p_execution, (refl, lit≤ tt))))))
