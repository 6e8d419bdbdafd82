-- One task: a text that is written, and files that are copied, from scratch and incrementally.
use Rattle.std.specs.Prelude.{◌≡◌, Bool, true, false, [], ◌∷◌, codes, refl, Option, Some, Ok, bytes_eq}
use Rattle.std.specs.List.{list_any}
use Rattle.std.specs.Option.{unwrap_or}
use Rattle.std.specs.Fmt.{digits}
use Rattle.std.proofs.Common.{inl, inr, ap, ◌∙◌}
use Rattle.gb_report.specs.declared.fault.Fault.TheVariants as faults
use Rattle.gb_report.specs.declared.report.Outcome.TheVariants as outcomes
use Rattle.gb_report.specs.declared.report.Options.{Options}
use Rattle.gb_core.specs.declared.value.Value.TheVariants as values
use Rattle.gb_folder.specs.Files.{Files}
use Rattle.gb_plan.specs.declared.task.TaskDeclaration.{TaskDeclaration as Task}
use Rattle.gb_plan.specs.declared.task.FileProperty.{FileProperty}
use Rattle.gb_action.specs.declared.output_files.Form.TheVariants.{File as FileForm, Dir as DirForm}
use Rattle.gb_plan.specs.Graph.{Plan}
use Rattle.gb_tree.specs.declared.property.Naming.TheVariants.{Relative}
use Rattle.gb_semantics.proofs.Existing.{rules_of, existing}
use Rattle.gb_semantics.specs.Memory.{World, Entry, Memory, entry_of}
use Rattle.gb_semantics.specs.Tree.{tree_faults}
use Rattle.gb_semantics.specs.Made.{made}
use Rattle.gb_semantics.specs.Scratch.{from_scratch}
use Rattle.gb_semantics.specs.Label.{Moment, IsIncremental, IsOutcomeOf}
use Rattle.gb_semantics.specs.Execution.{StartedExecution}
use Rattle.gb_report.specs.Report.{report_text}
use Rattle.gb_semantics.proofs.RowKinds.{row_kinds}
use Rattle.gb_plan.proofs.Tests.{not_true, not_false}
use Rattle.gb_semantics.proofs.Common.{none_some}
use Rattle.gb_semantics.proofs.Rows.Graphs.{action, asks, reported}
use Rattle.gb_semantics.proofs.Rows.Finalized.{plain_run, no_fault_comes}

abbrev pub only : Task → Plan
only task = record { task = task; word = 0; is_selected = true } ∷ []

abbrev pub at_first : World → Moment
at_first world = record { world = world; outcomes = []; failures = 0 }

abbrev pub folder : Files → Memory → World
folder files memory = record { folder = record { files = files; special = [] }; memory = memory }

-- ---- A text

abbrev pub gen : Task
gen = record {
  path = codes ":gen";
  runs = true;
  is_stale = false;
  values = [];
  files = [];
  outputs = record { name = codes "out"; form = FileForm; place = codes "build/a.txt" } ∷ [];
  actions = action (codes "writeText") (codes "abc") ∷ [];
  needs = [];
  must_run_after = [];
  finalizers = [];
}

abbrev pub before : World
before = folder ((codes "build.gb", codes "..") ∷ []) []

abbrev pub with_text : Files
with_text = (codes "build.gb", codes "..") ∷ (codes "build/a.txt", codes "abc") ∷ []

abbrev pub gen_entry : Entry
gen_entry = record {
  actions = action (codes "writeText") (codes "abc") ∷ [];
  values = [];
  inputs = [];
  outputs = gen.outputs;
  files = (codes "build/a.txt", codes "abc") ∷ [];
}

abbrev pub after_gen : World
after_gen = folder with_text ((codes ":gen", gen_entry) ∷ [])

pub scratch_gen : from_scratch row_kinds plain_run (only gen) before.folder ≡ Some with_text
scratch_gen = refl

pub gen_runs : StartedExecution (rules_of row_kinds plain_run no_fault_comes (only gen)) (at_first before) gen (reported gen outcomes.Executed []) (existing after_gen 0)
gen_runs = record {
  label = inl (inr (λ current. none_some current.same, refl));
  leaves = inr (refl, ((codes "build/a.txt", codes "abc") ∷ [], refl, refl));
  prints = ([], inr (λ incremental. none_some incremental.remembered, refl), refl);
  reading = λ place is out. absurd (cc);
  begun = λ fault is printed. absurd (cc);
}

pub gen_is_current : StartedExecution (rules_of row_kinds plain_run no_fault_comes (only gen)) (at_first after_gen) gen (reported gen outcomes.UpToDate []) (existing after_gen 0)
gen_is_current = record {
  label = inl (inl (record { has_outputs = refl; not_stale = refl; no_rerun = refl; same = refl }, refl));
  leaves = refl;
  prints = refl;
  reading = λ place is out. absurd (cc);
  begun = λ fault is printed. absurd (cc);
}

-- with a requested rerun, it runs
abbrev pub rerun : Options
rerun = record { keep_going = false; rerun = true; dry_run = false }

pub gen_reruns : IsOutcomeOf row_kinds rerun (only gen) gen (at_first after_gen) outcomes.Executed
gen_reruns = inr (λ current. not_false current.no_rerun, refl)

pub reported_current : report_text (record { tasks = reported gen outcomes.UpToDate [] ∷ []; dry_run = false; listener_refused = false })
    ≡ codes "> Task :gen UP-TO-DATE\nBUILD SUCCESSFUL\n1 actionable task: 1 up-to-date\n"
unfolding digits
reported_current = refl

-- ---- Copies

abbrev pub cp : Task
cp = record {
  path = codes ":cp";
  runs = true;
  is_stale = false;
  values = [];
  files = record { name = codes "src"; roots = codes "src" ∷ []; include = []; exclude = []; incremental = true; skip_when_empty = true; naming = Relative } ∷ [];
  outputs = record { name = codes "out"; form = DirForm; place = codes "build/o" } ∷ [];
  actions = asks (codes "copyFiles") [] ∷ [];
  needs = [];
  must_run_after = [];
  finalizers = [];
}

abbrev pub three : World
three = folder ((codes "src/a", codes "A") ∷ (codes "src/b", codes "B") ∷ (codes "src/c", codes "C") ∷ []) []

abbrev pub copied : Files
copied = (codes "build/o/a", codes "A") ∷ (codes "build/o/b", codes "B") ∷ (codes "build/o/c", codes "C") ∷ three.folder.files

abbrev pub after_copy : World
after_copy = folder copied ((codes ":cp", entry_of cp copied) ∷ [])

pub cp_runs : StartedExecution (rules_of row_kinds plain_run no_fault_comes (only cp)) (at_first three) cp (reported cp outcomes.Executed (codes "ADDED a" ∷ codes "ADDED b" ∷ codes "ADDED c" ∷ [])) (existing after_copy 0)
cp_runs = record {
  label = inl (inr (λ current. none_some current.same, refl));
  leaves = inr (refl, ((codes "build/o/a", codes "A") ∷ (codes "build/o/b", codes "B") ∷ (codes "build/o/c", codes "C") ∷ [], refl, refl));
  prints = (_, inr (λ incremental. none_some incremental.remembered, refl), refl);
  reading = λ place is out. absurd (cc);
  begun = λ fault is printed. absurd (cc);
}

-- a changed, b removed, d added
abbrev pub edited : World
edited = folder ((codes "build/o/a", codes "A") ∷ (codes "build/o/b", codes "B") ∷ (codes "build/o/c", codes "C")
    ∷ (codes "src/a", codes "X") ∷ (codes "src/c", codes "C") ∷ (codes "src/d", codes "D") ∷ []) after_copy.memory

abbrev pub copied_again : Files
copied_again = (codes "build/o/a", codes "X") ∷ (codes "build/o/c", codes "C") ∷ (codes "build/o/d", codes "D")
    ∷ (codes "src/a", codes "X") ∷ (codes "src/c", codes "C") ∷ (codes "src/d", codes "D") ∷ []

cp_is_incremental : IsIncremental row_kinds plain_run cp edited
cp_is_incremental = record {
  entry = entry_of cp copied;
  remembered = refl;
  same_actions = refl;
  same_values = refl;
  same_outputs = refl;
  same_files = refl;
  same_properties = refl;
  same_others = refl;
  not_stale = refl;
  no_rerun = refl;
  one_writer = refl;
}

-- whether a remembered entry has a file b among its inputs
abbrev has_b : Option Entry → Bool
has_b entry = list_any (λ tree. list_any (λ file. bytes_eq file.0 (codes "b")) tree.1) (unwrap_or entry (entry_of gen [])).inputs

pub cp_follows : StartedExecution (rules_of row_kinds plain_run no_fault_comes (only cp)) (at_first edited) cp (reported cp outcomes.Executed (codes "MODIFIED a" ∷ codes "REMOVED b" ∷ codes "ADDED d" ∷ [])) (existing (folder copied_again ((codes ":cp", entry_of cp copied_again) ∷ [])) 0)
unfolding cp_is_incremental
cp_follows = record {
  label = inl (inr (λ current. not_false (ap has_b current.same), refl));
  leaves = inr (refl, ((codes "build/o/a", codes "X") ∷ (codes "build/o/c", codes "C") ∷ (codes "build/o/d", codes "D") ∷ [], refl, refl));
  prints = (_, inl (cp_is_incremental, refl), refl);
  reading = λ place is out. absurd (cc);
  begun = λ fault is printed. absurd (cc);
}

pub scratch_cp : from_scratch row_kinds plain_run (only cp) edited.folder ≡ Some copied_again
scratch_cp = refl

-- no source left: the outputs go, and nothing is remembered
abbrev pub emptied : World
emptied = folder ((codes "build/o/a", codes "X") ∷ (codes "build/o/c", codes "C") ∷ (codes "build/o/d", codes "D") ∷ []) ((codes ":cp", entry_of cp copied_again) ∷ [])

pub cp_has_no_source : StartedExecution (rules_of row_kinds plain_run no_fault_comes (only cp)) (at_first emptied) cp (reported cp outcomes.NoSource []) (existing (folder [] []) 0)
cp_has_no_source = record { label = inl refl; leaves = refl; prints = refl; reading = λ place is out. absurd (cc); begun = λ fault is printed. absurd (cc) }

pub scratch_no_source : from_scratch row_kinds plain_run (only cp) emptied.folder ≡ Some []
scratch_no_source = refl

-- a foreign file at the outputs: the run is full, every path is added, and the file goes
abbrev pub foreign : World
foreign = folder ((codes "build/o/a", codes "X") ∷ (codes "build/o/c", codes "C") ∷ (codes "build/o/d", codes "D") ∷ (codes "build/o/zz", codes "Z")
    ∷ (codes "src/a", codes "X") ∷ (codes "src/c", codes "C") ∷ (codes "src/d", codes "D") ∷ []) ((codes ":cp", entry_of cp copied_again) ∷ [])

abbrev has_zz : Files → Bool
has_zz files = list_any (λ file. bytes_eq file.0 (codes "build/o/zz")) files

abbrev files_of : Option Entry → Files
files_of entry = (unwrap_or entry (entry_of gen [])).files

foreign_not_incremental : ¬ IsIncremental row_kinds plain_run cp foreign
foreign_not_incremental incremental =
    not_true (ap has_zz (ap files_of incremental.remembered ∙ incremental.same_files))

pub cp_clears : StartedExecution (rules_of row_kinds plain_run no_fault_comes (only cp)) (at_first foreign) cp (reported cp outcomes.Executed (codes "ADDED a" ∷ codes "ADDED c" ∷ codes "ADDED d" ∷ [])) (existing (folder copied_again ((codes ":cp", entry_of cp copied_again) ∷ [])) 0)
cp_clears = record {
  label = inl (inr (λ current. not_true (ap (λ o. has_zz (files_of o)) current.same), refl));
  leaves = inr (refl, ((codes "build/o/a", codes "X") ∷ (codes "build/o/c", codes "C") ∷ (codes "build/o/d", codes "D") ∷ [], refl, refl));
  prints = (_, inr (foreign_not_incremental, refl), refl);
  reading = λ place is out. absurd (cc);
  begun = λ fault is printed. absurd (cc);
}

pub scratch_foreign : from_scratch row_kinds plain_run (only cp) foreign.folder ≡ Some copied_again
scratch_foreign = refl

-- ---- A second action that writes: no run is incremental

abbrev pub both : Task
both = record cp { actions = asks (codes "copyFiles") [] ∷ asks (codes "addFile") (values.Text (codes "n") ∷ values.Text (codes "N") ∷ []) ∷ [] }

pub both_is_full : (world : World) → ¬ IsIncremental row_kinds plain_run both world
both_is_full world incremental = not_true incremental.one_writer

pub both_makes : made row_kinds both ((codes "src/a", codes "X") ∷ (codes "src/b", codes "B") ∷ [])
    ≡ Ok ((codes "build/o/a", codes "X") ∷ (codes "build/o/b", codes "B") ∷ (codes "build/o/n", codes "N") ∷ [])
both_makes = refl

-- ---- Two roots with one relative path

abbrev pub two_roots : FileProperty
two_roots = record { name = codes "src"; roots = codes "m" ∷ codes "n" ∷ []; include = []; exclude = []; incremental = false; skip_when_empty = false; naming = Relative }

pub one_path_twice : tree_faults two_roots (record { files = (codes "m/a", codes "1") ∷ (codes "n/a", codes "2") ∷ []; special = [] })
    ≡ faults.DuplicateInput (codes "src") (codes "a") ∷ []
one_path_twice = refl
