-- Worked lists of calls: what the execution of a task may have done, and lists that no execution makes. The task
-- is `:a`, which writes `build/x`.
use Rattle.std.specs.Prelude.{◌≡◌, ◌++◌, true, List, [], ◌∷◌, Option, Some, Ok, Err, bytes_eq, codes}
use Rattle.std.specs.List.{AllByRecursion}
use Rattle.std.proofs.Common.{append-nil, append_assoc, refl, sym, ap, subst, inl, inr, ◌∙◌}
use Rattle.gb_action.specs.Meanings.{Meanings}
use Rattle.gb_folder.specs.Calls.{Call, Device, IsPermitted, Lists, Permit, Removes, Requests, Writes, changes_at, no_change, none}
use Rattle.gb_folder.specs.Device.{Leads}
use Rattle.gb_folder.specs.Each.{Ended, OrStops}
use Rattle.gb_folder.specs.Faults.{reported_at}
use Rattle.gb_folder.specs.Files.{Place}
use Rattle.gb_folder.specs.Limits.{max_file}
use Rattle.gb_folder.specs.Semantics.{Answer}
use Rattle.gb_folder.specs.declared.folder.FolderFault.TheVariants as folders
use Rattle.gb_folder.proofs.Leading.{calls_in}
use Rattle.gb_history.specs.Places.{record_place}
use Rattle.gb_history.specs.Record.{Record}
use Rattle.gb_history.specs.Text.{record_text}
use Rattle.gb_semantics.specs.Events.{max_record}
use Rattle.gb_plan.specs.Ready.{Rows}
use Rattle.gb_plan.specs.Task.{Text}
use Rattle.gb_plan.proofs.RowTasks.{a}
use Rattle.gb_plan.proofs.Tests.{not_true}
use Rattle.gb_records.specs.Called.{Deletion, storing_ending}
use Rattle.gb_records.specs.Faults.{reported_of, unwritten_for}
use Rattle.gb_records.specs.declared.fault.Unwritten.{Unwritten}
use Rattle.gb_report.specs.declared.fault.Fault.{Fault}
use Rattle.gb_report.specs.declared.fault.Fault.TheVariants as faults
use Rattle.gb_report.specs.declared.report.Options.{Options}
use Rattle.gb_report.specs.declared.report.Outcome.TheVariants as outcomes
use Rattle.gb_run.specs.Doing.{Does, Ending, OrEnds, ending_of}
use Rattle.gb_run.specs.Emptying.{Emptying}
use Rattle.gb_run.specs.Work.{DoesParts, OrPrints, Part}
use Rattle.gb_task.specs.ByOutcome.{ExecutionRequests}
use Rattle.gb_task.specs.Executing.{is_of_execution}
use Rattle.gb_task.specs.Stages.{Clears, StoresRecord, as_ending}
use Rattle.gb_task.proofs.ByOutcome.{execution_places}

abbrev out : Place
out = codes "build/x"

abbrev deleted : Call
deleted = Removes (record_place a.path) (Ok tt)

abbrev listed : Call
listed = Lists out (Ok (out ∷ []))

abbrev removed : Call
removed = Removes out (Ok tt)

abbrev written : Call
written = Writes out (codes "A") max_file (Ok tt)

-- the record of a run is written, with this answer
abbrev stored : Record → Answer → Call
stored run answer = Writes (record_place a.path) (record_text a.path run) max_record answer

-- ---- What is left of the last execution is removed

-- the record, and then the file that was listed at the output
clears : Clears a true (deleted ∷ listed ∷ removed ∷ []) [] (Ok tt)
clears = (
  deleted ∷ [],
  listed ∷ removed ∷ [],
  [],
  [],
  Ok tt,
  refl,
  refl,
  (refl, (Ok tt, inr (Ok tt, refl, refl), refl)),
  (
    refl,
    (
      listed ∷ [],
      removed ∷ [],
      out ∷ [],
      Ok tt,
      refl,
      (listed ∷ [], [], out ∷ [], [], Ok tt, refl, refl, (Ok (out ∷ []), refl, inl (refl, refl)), (refl, refl, refl)),
      (removed ∷ [], [], [], [], Ok tt, refl, refl, (refl, inr (Ok tt, refl, refl)), (refl, refl, refl)),
    ),
  ),
)

-- what went well did not end with a fault
not_ended : (fault : Fault) → ◌≡◌ {A = Ending} (Ok tt) (Err fault) → ⊥
not_ended fault e = cc

-- how a deletion that went well begins
deletes : (calls : List Call) (ended : Ended Unwritten) → Deletion a.path true calls ended → Ok tt ≡ as_ending ended
    → (answer : Answer) × (calls ≡ Removes (record_place a.path) answer ∷ [])
deletes calls ended (inl hindered) well = absurd (elim hindered.1 [
  | inl memory ↦ not_ended faults.OutOfMemory (well ∙ ap as_ending memory)
  | inr other ↦ not_ended faults.HistoryNotWritten (well ∙ ap as_ending other.0)
])
deletes calls ended (inr made) well = (made.0, made.1)

-- a clearing that went well begins with the deletion of the record that was read
begins : (calls : List Call) (lines : List Text) → Clears a true calls lines (Ok tt) → (answer : Answer) × (rest : List Call) × (calls ≡ Removes (record_place a.path) answer ∷ rest)
begins calls lines cleared = at cleared.4 cleared.7.1 cleared.8
  where
    at : (mid : Ending) → (ended : Ended Unwritten) × Deletion a.path true cleared.0 ended × (mid ≡ as_ending ended)
        → OrStops mid ((cleared.3 ≡ []) × Emptying a.outputs cleared.1 (Ok tt)) cleared.1 cleared.3 (Ok tt)
        → (answer : Answer) × (rest : List Call) × (calls ≡ Removes (record_place a.path) answer ∷ rest)
    at (Ok done) deletion rest =
        let first = deletes cleared.0 deletion.0 deletion.1 deletion.2 in
        (first.0, cleared.1, cleared.5 ∙ ap (λ (here : List Call). here ++ cleared.1) first.1)
    at (Err fault) deletion rest = absurd (not_ended fault rest.2)

record_is_kept : ¬ Clears a true (listed ∷ removed ∷ []) [] (Ok tt)
record_is_kept cleared = let first = begins (listed ∷ removed ∷ []) [] cleared in clash first.0 first.1 first.2
  where
    clash : (answer : Answer) (rest : List Call) → listed ∷ removed ∷ [] ≡ Removes (record_place a.path) answer ∷ rest → ⊥
    clash answer rest e = cc

outputs_go_first : ¬ Clears a true (listed ∷ removed ∷ deleted ∷ []) [] (Ok tt)
outputs_go_first cleared = let first = begins (listed ∷ removed ∷ deleted ∷ []) [] cleared in clash first.0 first.1 first.2
  where
    clash : (answer : Answer) (rest : List Call) → listed ∷ removed ∷ deleted ∷ [] ≡ Removes (record_place a.path) answer ∷ rest → ⊥
    clash answer rest e = cc

-- ---- What the actions make is written

abbrev part : Part
part = record { steps = (out, Some (codes "A")) ∷ []; lines = codes "L" ∷ [] }

writes : DoesParts (part ∷ []) (written ∷ []) (codes "L" ∷ []) (Ok tt)
writes = (written ∷ [], [], Ok tt, refl, inr (Ok tt, [], refl, (refl, refl)), inr ([], refl, (refl, refl, refl)))

-- a write that the device failed ends it, and its lines are not printed
stops : DoesParts (part ∷ []) (Writes out (codes "A") max_file (Err folders.Device) ∷ []) [] (Err (faults.Device out))
stops = (
  Writes out (codes "A") max_file (Err folders.Device) ∷ [],
  [],
  Err (faults.Device out),
  refl,
  inr (Err folders.Device, [], refl, (refl, refl)),
  (refl, refl, refl),
)

-- what was done well is just this
just_this : (calls : List Call) (lines : List Text) → DoesParts (part ∷ []) calls lines (Ok tt) → (calls ≡ written ∷ []) × (lines ≡ codes "L" ∷ [])
just_this calls lines done = at done.2 done.4 done.5
  where
    step_at : (ended : Ending) (answer : Answer) (later : List Call) → OrEnds (ending_of (out, Some (codes "A")) answer) ((later ≡ []) × (ended ≡ Ok tt)) later ended
        → ended ≡ Ok tt → (Writes out (codes "A") max_file answer ∷ later ≡ written ∷ [])
    step_at ended (Ok answered) later rest well = ap (λ (more : List Call). written ∷ more) rest.0
    step_at ended (Err fault) later rest well = absurd (not_ended (reported_at out fault) (sym well ∙ rest.1))

    at : (mid : Ending) → Does part.steps done.0 mid → OrPrints mid part.lines (λ more. DoesParts [] done.1 more (Ok tt)) done.1 lines (Ok tt)
        → (calls ≡ written ∷ []) × (lines ≡ codes "L" ∷ [])
    at (Err fault) does prints = absurd (not_ended fault prints.2)
    at (Ok ended) (inl early) prints = absurd (not_ended faults.OutOfMemory early.1)
    at (Ok ended) (inr made) (inl unprinted) = absurd (not_ended faults.OutOfMemory unprinted.2)
    at (Ok ended) (inr made) (inr printed) =
        let first = made.2 ∙ step_at (Ok ended) made.0 made.1 made.3 refl in (
          done.3 ∙ ap (λ (here : List Call). here ++ done.1) first ∙ ap (λ (later : List Call). written ∷ later) printed.2.0,
          printed.1 ∙ ap (λ (more : List Text). codes "L" ∷ more) printed.2.1,
        )

nothing_is_written : ¬ DoesParts (part ∷ []) [] (codes "L" ∷ []) (Ok tt)
nothing_is_written done = clash (just_this [] (codes "L" ∷ []) done).0
  where
    clash : [] ≡ written ∷ [] → ⊥
    clash e = cc

a_line_more : ¬ DoesParts (part ∷ []) (written ∷ []) (codes "L" ∷ codes "M" ∷ []) (Ok tt)
a_line_more done = clash (just_this (written ∷ []) (codes "L" ∷ codes "M" ∷ []) done).1
  where
    clash : codes "L" ∷ codes "M" ∷ [] ≡ codes "L" ∷ [] → ⊥
    clash e = cc

written_twice : ¬ DoesParts (part ∷ []) (written ∷ written ∷ []) (codes "L" ∷ []) (Ok tt)
written_twice done = clash (just_this (written ∷ written ∷ []) (codes "L" ∷ []) done).0
  where
    clash : written ∷ written ∷ [] ≡ written ∷ [] → ⊥
    clash e = cc

-- the bytes of a first write
abbrev bytes_written : List Call → Text
bytes_written (Writes place bytes limit answer ∷ rest) = bytes
bytes_written calls = []

other_bytes : ¬ DoesParts (part ∷ []) (Writes out (codes "B") max_file (Ok tt) ∷ []) (codes "L" ∷ []) (Ok tt)
other_bytes done =
    not_true (ap (λ (calls : List Call). bytes_eq (bytes_written calls) (codes "A")) (just_this (Writes out (codes "B") max_file (Ok tt) ∷ []) (codes "L" ∷ []) done).0)

-- a task is not reported as executed though a write failed
failed_but_well : ¬ DoesParts (part ∷ []) (Writes out (codes "A") max_file (Err folders.Device) ∷ []) (codes "L" ∷ []) (Ok tt)
failed_but_well done = clash (just_this (Writes out (codes "A") max_file (Err folders.Device) ∷ []) (codes "L" ∷ []) done).0
  where
    clash : Writes out (codes "A") max_file (Err folders.Device) ∷ [] ≡ written ∷ [] → ⊥
    clash e = cc

-- ---- The record is stored

-- what was stored well is just this
just_stored : (run : Record) (calls : List Call) → StoresRecord a run calls (Ok tt) → calls ≡ stored run (Ok tt) ∷ []
just_stored run calls stores = elim stores.1 [
  | inl hindered ↦ absurd (elim hindered.1 [
    | inl memory ↦ not_ended faults.OutOfMemory (stores.2 ∙ ap as_ending memory)
    | inr other ↦ not_ended faults.HistoryNotWritten (stores.2 ∙ ap as_ending other.0)
  ])
  | inr made ↦ at made.0 made.1 (stores.2 ∙ ap as_ending made.2)
]
  where
    at : (answer : Answer) → calls ≡ stored run answer ∷ [] → Ok tt ≡ as_ending (storing_ending answer) → calls ≡ stored run (Ok tt) ∷ []
    at (Ok done) is ok = is
    at (Err fault) is ok = absurd (not_ended (reported_of (unwritten_for fault)) ok)

no_record : (run : Record) → ¬ StoresRecord a run [] (Ok tt)
no_record run stores = clash (just_stored run [] stores)
  where
    clash : [] ≡ stored run (Ok tt) ∷ [] → ⊥
    clash e = cc

record_failed_but_well : (run : Record) → ¬ StoresRecord a run (stored run (Err folders.Device) ∷ []) (Ok tt)
record_failed_but_well run stores = clash (just_stored run (stored run (Err folders.Device) ∷ []) stores)
  where
    clash : stored run (Err folders.Device) ∷ [] ≡ stored run (Ok tt) ∷ [] → ⊥
    clash e = cc

-- ---- Executions, over a folder that is nothing but the list of its calls

abbrev of_calls : Device (List Call)
of_calls = record {
  failures = λ calls. 0;
  may_leave = λ calls place next left old. ⊥;
  allowed = λ old call new. new ≡ old ++ call ∷ [];
  faithful = λ calls. ⊥;
  contents = λ calls. record { files = []; special = [] };
}

led_to : (old calls new : List Call) → Leads of_calls old calls new → new ≡ old ++ calls
led_to old [] new same = same ∙ sym (append-nil old)
led_to old (call ∷ calls) new led =
    led_to led.0 calls new led.2 ∙ ap (λ (mid : List Call). mid ++ calls) led.1.allowed ∙ append_assoc old (call ∷ []) calls

-- all calls from the empty list on are permitted
all_permitted : (permit : Permit) (calls : List Call) → Requests of_calls permit [] calls → AllByRecursion (IsPermitted permit) calls
all_permitted permit calls requests =
    let found = calls_in of_calls permit [] (requests.calls none) in
    subst (AllByRecursion (IsPermitted permit)) (sym (led_to [] found.0 calls found.1)) found.2

module _ {S : Type 0} (meanings : Meanings S) (rows : Rows S) (options : Options) (last : Option Record) (since : List Call) where
  skipped_but_emptied : ¬ ExecutionRequests of_calls meanings rows options a last outcomes.Skipped [] since [] (listed ∷ removed ∷ [])
  unfolding no_change
  skipped_but_emptied requests = (all_permitted no_change (listed ∷ removed ∷ []) requests).1.0

  current_but_written : ¬ ExecutionRequests of_calls meanings rows options a last outcomes.UpToDate [] since [] (written ∷ [])
  unfolding no_change
  current_but_written requests = (all_permitted no_change (written ∷ []) requests.0).0

  not_run_but_written : ¬ ExecutionRequests of_calls meanings rows options a last outcomes.NotRun [] since [] (written ∷ [])
  not_run_but_written requests = clash requests
    where
      clash : written ∷ [] ≡ [] → ⊥
      clash e = cc

  -- the output of another task
  at_another_output : ¬ ExecutionRequests of_calls meanings rows options a last outcomes.Executed [] since [] (Removes (codes "build/y") (Ok tt) ∷ [])
  unfolding changes_at
  at_another_output requests =
      not_true ((all_permitted (changes_at (is_of_execution a)) (Removes (codes "build/y") (Ok tt) ∷ [])
      (execution_places of_calls meanings rows options a last [] since [] (Removes (codes "build/y") (Ok tt) ∷ []) outcomes.Executed requests)).0)
