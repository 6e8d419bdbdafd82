-- A folder without room, a record that nothing touches, lines that nothing printed, requested names, and
-- small examples of trees.
use Rattle.gb_tree.specs.declared.property.Naming.TheVariants.{NameOnly}
use Rattle.gb_plan.specs.Refusal.{request_of}
use Rattle.gb_plan.specs.Graph.{absolute}
use Rattle.gb_core.specs.Path.{is_task_path}
use Rattle.gb_tree.specs.Pattern.{path_matches, spelled_out}
use Rattle.gb_tree.specs.Property.{doubled, in_order, paths_of}
use Rattle.gb_semantics.proofs.Existing.{rules_of, existing}
use Rattle.gb_semantics.specs.Events.{Setting, may_occur}
use Rattle.std.specs.Str.{chars}
use Rattle.std.specs.Prelude.{map, ◌≡◌, ◌⊎◌, List, true, false, [], ◌∷◌, codes, refl, Err, IsTrue}
use Rattle.std.proofs.Common.{inl, inr, ap, arith}
use Rattle.gb_report.specs.declared.fault.Fault.TheVariants as faults
use Rattle.gb_report.specs.declared.report.Outcome.TheVariants as outcomes
use Rattle.gb_folder.specs.Files.{is_empty, Bytes, Files}
use Rattle.gb_plan.specs.declared.task.TaskDeclaration.{TaskDeclaration as Task}
use Rattle.gb_plan.specs.declared.task.FileProperty.{FileProperty}
use Rattle.gb_semantics.specs.Tree.{tree_of}
use Rattle.gb_action.specs.Changes.{changes_between}
use Rattle.gb_action.specs.declared.change.Change.TheVariants.{Removed, Modified, Added}
use Rattle.gb_semantics.specs.Memory.{World, Entry}
use Rattle.gb_semantics.specs.Label.{IsOutcomeOf}
use Rattle.gb_report.specs.Outcome.{is_executed, is_started}
use Rattle.gb_semantics.specs.TrueRecord.{AreCollisionFree}
use Rattle.gb_semantics.specs.Execution.{Guard, StartedExecution, Prints, Executions, TouchesRecord}
use Rattle.gb_semantics.proofs.RowKinds.{row_kinds}
use Rattle.gb_plan.proofs.Tests.{not_true, not_false}
use Rattle.gb_semantics.proofs.Common.{none_some}
use Rattle.gb_semantics.proofs.Rows.Graphs.{action, reported, p, registry}
use Rattle.gb_semantics.proofs.Rows.Finalized.{plain_run, no_fault_comes}
use Rattle.gb_semantics.proofs.Rows.Copies.{only, at_first, folder, gen, before, after_gen, gen_entry, two_roots}

-- ---- A file at `build`: it blocks the first action, before the second fails

abbrev pub gen_fail : Task
gen_fail = record gen { actions = action (codes "writeText") (codes "abc") ∷ action (codes "fail") (codes "boom") ∷ [] }

abbrev pub blocked : World
blocked = folder ((codes "build", codes "x") ∷ []) []

pub no_room : StartedExecution (rules_of row_kinds plain_run no_fault_comes (only gen_fail)) (at_first blocked) gen_fail (reported gen_fail (outcomes.Failed (faults.Blocked (codes "build/a.txt"))) []) (existing blocked 0)
no_room = record {
  label = inl (inr (λ current. none_some current.same, refl));
  leaves = (record { files = refl; invents_nothing = λ place bytes out exists. inl exists; special = refl; memory = refl }, λ incremental files made place bytes new old. old);
  prints = ([], inr (λ incremental. none_some incremental.remembered, refl), refl);
  reading = λ place is out. absurd (cc);
  begun = λ fault is printed. absurd (cc);
}

-- with room, the second fails
pub fails : IsOutcomeOf row_kinds plain_run (only gen_fail) gen_fail (at_first before) (outcomes.Failed (faults.ActionFailed (codes "boom")))
fails = inr (λ current. none_some current.same, refl)

-- ---- A task without outputs and without an entry touches no record

pub touches_none : ¬ TouchesRecord plain_run p before
touches_none touches = elim touches.1 [ inl outputs ↦ not_false outputs | inr entry ↦ entry refl ]

pub none_unwritten : (setting : Setting) (own : Files) → ¬ may_occur setting own plain_run p (at_first before) (existing before 0) faults.HistoryNotWritten
none_unwritten setting own come = touches_none come.0

-- ---- After one failure of the device, a later execution may not report it again

pub second_blame : (setting : Setting) (own : Files) → ¬ may_occur setting own plain_run p (record { world = before; outcomes = []; failures = 1 }) (existing before 1) (faults.Device (codes "src"))
second_blame setting own come = elim come.0 [ inl risen ↦ omega arith | inr last ↦ omega arith ]

-- ---- A current task prints nothing, whatever it fails with

abbrev pub gen_says : Task
gen_says = record gen { actions = action (codes "writeText") (codes "abc") ∷ action (codes "printLine") (codes "hi") ∷ [] }

abbrev pub says_entry : Entry
says_entry = record gen_entry { actions = gen_says.actions }

abbrev pub current : World
current = folder after_gen.folder.files ((codes ":gen", says_entry) ∷ [])

pub prints_none : ¬ Prints row_kinds plain_run gen_says current (outcomes.Failed (faults.Device (codes "build.gb"))) (codes "hi" ∷ [])
prints_none prints = elim prints [
  | inl none ↦ not_false (ap is_empty_of none)
  | inr some ↦ some.0 (record { has_outputs = refl; not_stale = refl; no_rerun = refl; same = refl })
]
  where
    is_empty_of : List Bytes → Rattle.std.specs.Prelude.Bool
    is_empty_of lines = Rattle.std.specs.Prelude.not (is_empty lines)

-- ---- Without memory an outcome is right, though all contents have the same digest

abbrev pub all_collide : Guard
all_collide contents = IsTrue (is_empty before.memory) ⊎ AreCollisionFree (λ bytes. []) contents

pub no_lie : (new : World) → ¬ Executions (rules_of row_kinds plain_run no_fault_comes (only gen)) all_collide [] (only gen) (at_first before) (reported gen outcomes.UpToDate [] ∷ []) (existing new 0)
no_lie new executions = elim (executions.1.execution (inl refl)).2 [
  | inl started ↦ elim started.1.label [
    | inl label ↦ elim label [
      | inl current ↦ none_some current.0.same
      | inr run ↦ not_true (ap is_executed run.1)
    ]
    | inr fault ↦ absurd fault.1
  ]
  | inr passed ↦ not_false (ap is_started passed.1.outcome)
]

-- ---- Requested names that are no path

pub bad_words : (request_of registry (codes "1a" ∷ []) [] ≡ Err (faults.BadName (codes "1a")))
    × (request_of registry (codes ":" ∷ []) [] ≡ Err (faults.BadName (codes ":")))
    × (request_of registry (codes "q" ∷ []) (codes "a::b" ∷ []) ≡ Err (faults.BadName (codes "a::b")))
    × (is_task_path (absolute (codes "lib:gen")) ≡ true)
    × (request_of registry (codes "lib:gen" ∷ []) [] ≡ Err (faults.UnknownProject (codes "lib:gen")))
    × (request_of registry (codes "gen" ∷ []) [] ≡ Err (faults.TaskNotFound (codes "gen")))
bad_words = (refl, refl, refl, refl, refl, refl)

-- ---- Trees

pub patterns : (path_matches (codes "**/*.txt") (codes "a.txt") ≡ true) × (path_matches (codes "**/*.txt") (codes "d/a.txt") ≡ true)
    × (path_matches (codes "**/*.txt") (codes "a.txt.b") ≡ false) × (path_matches (spelled_out (codes "src/")) (codes "src/a/b") ≡ true)
    × (path_matches (codes "?.c") (codes "ab.c") ≡ false) × (path_matches (codes "?.c") (codes ".c") ≡ false)
    × (path_matches (codes "a*") (codes "a/b") ≡ false) × (path_matches (codes "a/**") (codes "a") ≡ true)
unfolding chars
patterns = (refl, refl, refl, refl, refl, refl, refl, refl)

pub nested : doubled (paths_of (in_order (map (λ path. (path, path)) (codes "b/x" ∷ codes "a" ∷ codes "b" ∷ codes "a-" ∷ codes "a/c" ∷ []))))
    ≡ codes "a/c" ∷ codes "b/x" ∷ []
nested = refl

pub changes : changes_between ((codes "a", codes "1") ∷ (codes "b", codes "2") ∷ []) ((codes "b", codes "3") ∷ (codes "c", codes "1") ∷ []) ≡ Removed (codes "a") ∷ Modified (codes "b") ∷ Added (codes "c") ∷ []
changes = refl

-- by their names alone
abbrev pub named : FileProperty
named = record two_roots { naming = NameOnly }

pub names_alone : tree_of named ((codes "m/p/a", codes "1") ∷ (codes "n/z/b", codes "2") ∷ []) ≡ (codes "a", codes "1") ∷ (codes "b", codes "2") ∷ []
names_alone = refl
