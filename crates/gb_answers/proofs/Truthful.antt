-- All records that builds were to store are true, and all that they reported as up to date was right, over any
-- folder that keeps its calls, wherever the process of one was stopped.
use Rattle.std.specs.Prelude.{ℕ, ◌≡◌, ◌⊎◌, ◌++◌, Bool, true, false, not, List, [], ◌∷◌, map, Option, None, Some, Result, Ok, Err, Contains, IsTrue, is_some}
use Rattle.std.specs.List.{AllByRecursion, AllZip, flat_map}
use Rattle.std.proofs.Common.{refl, sym, ap, subst, ◌∙◌, inl, inr, true≢false}
use Rattle.std.proofs.lemmas.List.{append-nil}
use Rattle.std.proofs.lemmas.List.Elements.{All-contains, All-from_recursion, Contains-append_left, Contains-append_right, Contains-push}
use Rattle.sha2.specs.Sha256.{sha256}
use Rattle.gb_action.specs.Changes.{Changes}
use Rattle.gb_action.specs.Files.{Trees}
use Rattle.gb_action.specs.Meanings.{Meanings, WritesItsOutput}
use Rattle.gb_action.specs.declared.output_files.OutputFiles.{OutputFiles}
use Rattle.gb_build.specs.InvocationAsked.{BuildsDeclared, InvocationRequests}
use Rattle.gb_build.specs.Registering.{setting_of}
use Rattle.gb_core.specs.Path.{is_task_path}
use Rattle.gb_exec.specs.Asking.{ExecutionsRequest}
use Rattle.gb_folder.specs.Calls.{Call, Lists, Reads, ReadsPart, Writes, Removes, IsPermitted, Permit, Requests, changes_at, fault_of, no_change, Device}
use Rattle.gb_folder.specs.Each.{Each, Ended, OrStops}
use Rattle.gb_folder.specs.Files.{Bytes, Contents, Files, IsFolder, Place, are_placed, is_empty}
use Rattle.gb_folder.specs.Limits.{max_file}
use Rattle.gb_folder.specs.Semantics.{Answer}
use Rattle.gb_history.specs.Places.{record_place}
use Rattle.gb_history.specs.Record.{IsWellFormed, Record}
use Rattle.gb_history.specs.Text.{record_text}
use Rattle.gb_logged.specs.Logged.{LogsCalls}
use Rattle.gb_semantics.specs.Events.{has_failure, max_record}
use Rattle.gb_semantics.specs.Every.{IsFromScratch}
use Rattle.gb_semantics.specs.Execution.{dry_reports}
use Rattle.gb_semantics.specs.Headline.{Agrees, contents_outside}
use Rattle.gb_semantics.specs.Kinds.{Kinds}
use Rattle.gb_semantics.specs.Label.{has_one_writer}
use Rattle.gb_semantics.specs.TrueRecord.{AreCollisionFree, contents_in, contents_of}
use Rattle.gb_semantics.specs.declared.events.Invocation.{Invocation}
use Rattle.gb_semantics.proofs.Lemmas.Clear.{found, in_left, in_right, listed}
use Rattle.gb_semantics.proofs.Lemmas.Reading.{all_map, each}
use Rattle.gb_plan.specs.Graph.{order, some_overlap}
use Rattle.gb_plan.specs.Ready.{Rows}
use Rattle.gb_plan.specs.Task.{Path, Text, has_path, is_output_of, output_places}
use Rattle.gb_plan.specs.declared.plan.Planned.{Planned}
use Rattle.gb_plan.specs.declared.task.Output.{Output}
use Rattle.gb_plan.specs.declared.task.TaskDeclaration.{TaskDeclaration as Task}
use Rattle.gb_records.specs.Answered.{WasAnswered}
use Rattle.gb_records.specs.Called.{Deletion, Storing}
use Rattle.gb_records.specs.Said.{IsText}
use Rattle.gb_records.specs.declared.fault.Unwritten.{Unwritten}
use Rattle.gb_records.proofs.Reported.{texts_are_records}
use Rattle.gb_registry.specs.Tables.{Tables}
use Rattle.gb_report.specs.declared.fault.Fault.{Fault}
use Rattle.gb_report.specs.declared.report.Options.{Options}
use Rattle.gb_report.specs.declared.report.Outcome.{Outcome}
use Rattle.gb_report.specs.declared.report.Outcome.TheVariants as outcomes
use Rattle.gb_report.specs.declared.report.Report.{Report}
use Rattle.gb_report.specs.declared.report.TaskReport.{TaskReport}
use Rattle.gb_run.specs.AskingChanges.{GoesOn}
use Rattle.gb_run.specs.Doing.{Ending, OrEnds}
use Rattle.gb_run.specs.Emptying.{Emptying, Listing}
use Rattle.gb_run.specs.Work.{AreAtOutputs}
use Rattle.gb_run.proofs.Fitting.{all_fitting}
use Rattle.gb_folder.specs.Removals.{Removal, Removals}
use Rattle.gb_task.specs.Buildable.{IsBuildable}
use Rattle.gb_task.specs.ByOutcome.{ExecutionRequests, since_after}
use Rattle.gb_task.specs.Current.{IsCurrentOn, IsReportedCurrent}
use Rattle.gb_task.specs.Keeping.{IsRecordOf}
use Rattle.gb_task.specs.Ran.{GoesFrom, HaveRead, WasCleared, WasRun}
use Rattle.gb_task.specs.Reading.{added_of}
use Rattle.gb_task.specs.Stages.{Clears, DeletesRecord, FullRun, IsOfFullRun, IsOfRunByChanges, RunByChanges, Silently, Stage, Stores, StoresUnless, Then, WritesAll, WritesChanges}
use Rattle.gb_task.specs.Truth.{AreSeparate, IsTrueBeside, contents_read}
use Rattle.gb_task.proofs.Own.{kept_at}
use Rattle.gb_task.proofs.Truth.{goes_from_true, up_to_date_is_made}
use Rattle.gb_tree.proofs.Holding.{all_append}
use Rattle.gb_answers.specs.Answering.{AnswersSoundly}
use Rattle.gb_answers.specs.Stored.{AreCurrentRight, EachReadsOnly, HadRight, IsCurrentRight, IsTrueText, IsTruthful, BuildWithLog, ReadsOnly, RecordsStayTrue, StoresTruth, content_of}
use Rattle.gb_answers.proofs.Built.{from_scratch_left}
use Rattle.gb_answers.proofs.Chain.{IsTrueWithin, MayStep}
use Rattle.gb_answers.proofs.Cut.{AllButLast, HoldsFrom, all_but_last, at_last, calls_back, from_first, front_last, requests_back}
use Rattle.gb_answers.proofs.Going.{IsOfTrue}
use Rattle.gb_answers.proofs.Kept.{IsWithin, all_among, each_kept, has_on_way, trees_among, within_calls, within_requests}
use Rattle.gb_answers.proofs.Made.{Has, WroteFile, left_part, made_by_changes, made_in_full, right_part}
use Rattle.gb_answers.proofs.OfPlan.{each_may, each_named}
use Rattle.gb_answers.proofs.Step.{step}
use Rattle.gb_folder.specs.Device.{Leads}

-- ---- Lists

member : {X : Type 0} (P : X → Type 0) (xs : List X) (x : X) → AllByRecursion P xs → Contains xs x → P x
member P xs x all has = All-contains P xs x (All-from_recursion P xs all) has

-- all of these are among those
each_in : {X : Type 0} (ys : List X) (all : List X) → ((y : X) → Contains ys y → Contains all y) → AllByRecursion (Contains all) ys
each_in [] all within = tt
each_in (y ∷ ys) all within = (
  within y (Contains-append_left (y ∷ []) ys y (Contains-push [] y)),
  each_in ys all (λ z has. within z (Contains-append_right (y ∷ []) ys z has)),
)

-- and so are those of each part
parts_in : {X Y : Type 0} (f : X → List Y) (xs : List X) (all : List Y) → ((y : Y) → Contains (flat_map f xs) y → Contains all y) → AllByRecursion (λ (x : X). AllByRecursion (Contains all) (f x)) xs
parts_in f [] all within = tt
parts_in f (x ∷ xs) all within = (
  each_in (f x) all (λ y has. within y (Contains-append_left (f x) (flat_map f xs) y has)),
  parts_in f xs all (λ y has. within y (Contains-append_right (f x) (flat_map f xs) y has)),
)

-- what holds of all parts holds of each
each_part : {X Y : Type 0} (P : Y → Type 0) (f : X → List Y) (xs : List X) → AllByRecursion P (flat_map f xs) → AllByRecursion (λ (x : X). AllByRecursion P (f x)) xs
each_part P f [] all = tt
each_part P f (x ∷ xs) all = (left_part P (f x) (flat_map f xs) all, each_part P f xs (right_part P (f x) (flat_map f xs) all))

-- contents among others share no digest if those do not
fewer : (all some : List Bytes) → AllByRecursion (Contains all) some → AreCollisionFree sha256 all → AreCollisionFree sha256 some
fewer all some among separate a b in_a in_b same = separate a b (member (Contains all) some a among in_a) (member (Contains all) some b among in_b) same

-- what holds of all calls holds of one that is among them
one_of : (P : Call → Type 0) (calls : List Call) (call : Call) → AllByRecursion P calls → Has calls call → P call
one_of P [] call all has = absurd has
one_of P (first ∷ calls) call all (inl here) = subst P here all.0
one_of P (first ∷ calls) call all (inr later) = one_of P calls call all.1 later

-- ---- Executions

-- the calls of executions are kept after those before
module _ {F S : Type 0} (device : Device F) (log : F → List Call) (keeps : LogsCalls device.allowed log)
    (meanings : Meanings S) (rows : Rows S) (options : Options) (final : List Call) where
  abbrev Before : F → F → Type 0
  Before old new = IsWithin device log keeps final new → IsWithin device log keeps final old

  asked_before : {permit : Permit} (old new : F) → Requests device permit old new → Before old new
  asked_before old new requests = within_requests device log keeps final old new requests

  done_before : (old : F) (calls : List Call) (new : F) → Leads device old calls new → Before old new
  done_before old calls new led = within_calls device log keeps final old calls new led

  run_before : (task : Task) (last : Option Record) (result : Ending) (lines : List Text) (old new : F) → WasRun device meanings rows task options last lines result old new → Before old new
  run_before task last result lines old new (inl was) within = asked_before old was.1 was.2.requests (done_before was.1 was.3.0 new was.3.1 within)
  run_before task last result lines old new (inr by) within = let was = by.3 in asked_before old was.3 was.4.requests (done_before was.3 was.6.0 new was.6.1 within)

  cleared_before : (task : Task) (was_read : Bool) (result : Ending) (lines : List Text) (old new : F) → WasCleared device task was_read lines result old new → Before old new
  cleared_before task was_read result lines old new was within = asked_before old was.0 was.1 (done_before was.0 was.3.0 new was.3.1 within)

  execution_before : (task : Task) (last : Option Record) (outcome : Outcome) (lines : List Text) (since old new : F)
      → ExecutionRequests device meanings rows options task last outcome lines since old new → Before old new
  execution_before task last outcomes.NotRun lines since old new requests within = subst (λ (f : F). IsWithin device log keeps final f) requests within
  execution_before task last outcomes.Skipped lines since old new requests within = asked_before old new requests within
  execution_before task last outcomes.UpToDate lines since old new requests within = asked_before old new requests.0 within
  execution_before task last outcomes.NoSource lines since old new requests within = cleared_before task (is_some last) (Ok tt) lines old new requests within
  execution_before task last outcomes.Executed lines since old new (inl rests) within = asked_before old new rests.1 within
  execution_before task last outcomes.Executed lines since old new (inr was) within = run_before task last (Ok tt) lines old new was within
  execution_before task last (outcomes.Failed fault) lines since old new (inl read) within = asked_before old new read.0 within
  execution_before task last (outcomes.Failed fault) lines since old new (inr (inl was)) within = cleared_before task (is_some last) (Err fault) lines old new was within
  execution_before task last (outcomes.Failed fault) lines since old new (inr (inr was)) within = run_before task last (Err fault) lines old new was within

  executions_before : (rest : List Planned) (records : List (Option Record)) (reports : List TaskReport) (since old new : F)
      → ExecutionsRequest device meanings rows options rest records reports since old new → Before old new
  executions_before [] [] [] since old new requests within = subst (λ (f : F). IsWithin device log keeps final f) requests within
  executions_before [] [] (report ∷ reports) since old new requests within = absurd requests
  executions_before [] (last ∷ records) reports since old new requests within = absurd requests
  executions_before (planned ∷ rest) [] reports since old new requests within = absurd requests
  executions_before (planned ∷ rest) (last ∷ records) [] since old new requests within = absurd requests
  executions_before (planned ∷ rest) (last ∷ records) (report ∷ reports) since old new requests within =
      execution_before planned.task last report.outcome report.lines since old requests.0 requests.1
      (executions_before rest records reports (since_after report.outcome since requests.0) requests.0 new requests.2 within)

-- the record that was read of a task, if one was, is of a true entry whose contents are among these
abbrev IsTrusted : Kinds → List Bytes → Option Record → Type 0
IsTrusted kinds all last = (run : Record) → last ≡ Some run → (true_one : IsOfTrue kinds run) × AllByRecursion (Contains all) (contents_of true_one.entry)

module _ {F S : Type 0} (device : Device F) (log : F → List Call) (keeps : LogsCalls device.allowed log)
    (meanings : Meanings S) (rows : Rows S) (kinds : Kinds) (agrees : Agrees meanings rows kinds) (own_output : (kind : ℕ) → WritesItsOutput meanings kind) (options : Options)
    (made unmade : List Call) (all : List Bytes) (among : (call : Call) → Contains made call → AllByRecursion (Contains all) (content_of call)) (separate : AreCollisionFree sha256 all) where
  abbrev Stored : Call → Type 0
  Stored = StoresTruth kinds all

  abbrev Within : F → Type 0
  Within state = IsWithin device log keeps made state

  abbrev StoredFrom : F → Type 0
  StoredFrom state = HoldsFrom device log keeps Stored made unmade state

  no_calls : (calls : List Call) → calls ≡ [] → AllByRecursion Stored calls
  no_calls calls none = subst (AllByRecursion Stored) (sym none) tt

  no_last : (calls : List Call) → calls ≡ [] → AllButLast Stored calls
  no_last calls none = subst (AllButLast Stored) (sym none) tt

  -- ---- what changes nothing

  reads : (call : Call) → IsPermitted no_change call → Stored call
  unfolding no_change
  reads (Lists root answer) may = tt
  reads (Reads place limit answer) may = tt
  reads (ReadsPart place at len answer) may = tt
  reads (Writes place bytes limit answer) may = absurd may
  reads (Removes place answer) may = tt

  only_read : (old new : F) → Requests device no_change old new → StoredFrom new → StoredFrom old
  only_read old new requests later = requests_back device log keeps Stored made unmade no_change reads old new requests later

  -- ---- stages

  split : (here later : List Call) (old new : F) (calls : List Call) → calls ≡ here ++ later → Leads device old calls new
      → (mid : F) × Leads device old here mid × Leads device mid later new
  split here later old new calls is led = parted here later old new (subst (λ (cs : List Call). Leads device old cs new) is led)
    where
      parted : (first more : List Call) (from to : F) → Leads device from (first ++ more) to
          → (mid : F) × Leads device from first mid × Leads device mid more to
      parted [] more from to h = (from, refl, h)
      parted (call ∷ first) more from to h = let rest = parted first more h.0 to h.2 in (rest.0, (h.0, h.1, rest.1), rest.2)

  then_stored : (first second : Stage) → ((calls : List Call) (lines : List Text) (result : Ending) → first calls lines result → AllByRecursion Stored calls)
      → ((calls : List Call) (lines : List Text) (result : Ending) → second calls lines result → AllByRecursion Stored calls)
      → (calls : List Call) (lines : List Text) (result : Ending) → Then first second calls lines result → AllByRecursion Stored calls
  then_stored first second one two calls lines result does =
      subst (AllByRecursion Stored) (sym does.5) (all_append Stored does.0 does.1 (one does.0 does.2 does.4 does.7) (rest does.4 does.8))
    where
      rest : (mid : Ending) → OrStops mid (second does.1 does.3 result) does.1 does.3 result → AllByRecursion Stored does.1
      rest (Ok done) h = two does.1 does.3 result h
      rest (Err fault) h = no_calls does.1 h.0

  then_last : (first second : Stage) → ((calls : List Call) (lines : List Text) (result : Ending) → first calls lines result → AllByRecursion Stored calls)
      → ((calls : List Call) (lines : List Text) (result : Ending) → second calls lines result → AllButLast Stored calls)
      → (calls : List Call) (lines : List Text) (result : Ending) → Then first second calls lines result → AllButLast Stored calls
  then_last first second one two calls lines result does =
      subst (AllButLast Stored) (sym does.5) (front_last Stored does.0 does.1 (one does.0 does.2 does.4 does.7) (rest does.4 does.8))
    where
      rest : (mid : Ending) → OrStops mid (second does.1 does.3 result) does.1 does.3 result → AllButLast Stored does.1
      rest (Ok done) h = two does.1 does.3 result h
      rest (Err fault) h = no_last does.1 h.0

  each_stored : {E X Y : Type 0} (One : X → List Call → List Y → Ended E → Type 0) → ((x : X) (calls : List Call) (made : List Y) (result : Ended E) → One x calls made result → AllByRecursion Stored calls)
      → (xs : List X) (calls : List Call) (made : List Y) (result : Ended E) → Each One xs calls made result → AllByRecursion Stored calls
  each_stored One one [] calls made result is = no_calls calls is.0
  each_stored One one (x ∷ xs) calls made result is =
      subst (AllByRecursion Stored) (sym is.5) (all_append Stored is.0 is.1 (one x is.0 is.2 is.4 is.7) (rest is.4 is.8 (λ h. each_stored One one xs is.1 is.3 result h)))
    where
      rest : (mid : Ended _) → OrStops mid (Each One xs is.1 is.3 result) is.1 is.3 result → (Each One xs is.1 is.3 result → AllByRecursion Stored is.1) → AllByRecursion Stored is.1
      rest (Ok done) h goes = goes h
      rest (Err fault) h goes = no_calls is.1 h.0

  listing : (output : Output) (calls : List Call) (places : List Place) (result : Ended Fault) → Listing output calls places result → AllByRecursion Stored calls
  listing output calls places result is = subst (AllByRecursion Stored) (sym is.1) (tt, tt)

  removal : (place : Place) (calls : List Call) (made : List (Unit {0})) (result : Ended Fault) → Removal place calls made result → AllByRecursion Stored calls
  removal place calls made result (none, inl lost) = no_calls calls lost.0
  removal place calls made result (none, inr called) = subst (AllByRecursion Stored) (sym called.1) (tt, tt)

  empties : (outputs : List Output) (calls : List Call) (result : Ended Fault) → Emptying outputs calls result → AllByRecursion Stored calls
  empties outputs calls result is =
      subst (AllByRecursion Stored) (sym is.4) (all_append Stored is.0 is.1 (each_stored Listing listing outputs is.0 is.2 is.3 is.5) (rest is.3 is.6))
    where
      rest : (mid : Ended Fault) → OrEnds mid (Removals is.2 is.1 result) is.1 result → AllByRecursion Stored is.1
      rest (Ok done) h = each_stored Removal removal is.2 is.1 [] result h
      rest (Err fault) h = no_calls is.1 h.0

  deletes : (path : Path) (was_read : Bool) (calls : List Call) (ended : Ended Unwritten) → Deletion path was_read calls ended → AllByRecursion Stored calls
  deletes path false calls ended is = no_calls calls is.0
  deletes path true calls ended (inl hindered) = no_calls calls hindered.0
  deletes path true calls ended (inr called) = subst (AllByRecursion Stored) (sym called.1) (tt, tt)

  module _ (task : Task) (last : Option Record) (buildable : IsBuildable meanings rows task) (apart : some_overlap (output_places task) ≡ false) (named : IsTrue (is_task_path task.path)) where
    lie : AreSeparate task
    lie = record { separate = apart; not_own = buildable.not_own }

    deletes_record : (was_read : Bool) (calls : List Call) (lines : List Text) (result : Ending) → Silently (DeletesRecord task.path was_read) calls lines result → AllByRecursion Stored calls
    deletes_record was_read calls lines result does = deletes task.path was_read calls does.1.0 does.1.1

    clears : (was_read : Bool) (calls : List Call) (lines : List Text) (result : Ending) → Clears task was_read calls lines result → AllByRecursion Stored calls
    clears was_read calls lines result does =
        then_stored (Silently (DeletesRecord task.path was_read)) (Silently (Emptying task.outputs)) (deletes_record was_read) (λ cs ls r is. empties task.outputs cs r is.1) calls lines result does

    -- what is written at outputs is not among the tool's own
    at_outputs : (calls : List Call) → AreAtOutputs task calls → AllByRecursion Stored calls
    unfolding changes_at
    at_outputs [] at = tt
    at_outputs (call ∷ calls) at = (by call at.0, at_outputs calls at.1)
      where
        by : (c : Call) → IsPermitted (changes_at (is_output_of task)) c → Stored c
        by (Lists root answer) may = tt
        by (Reads place limit answer) may = tt
        by (ReadsPart place from len answer) may = tt
        by (Writes place bytes limit answer) may = λ own. absurd (true≢false (sym (kept_at task.outputs buildable.not_own place may) ∙ ap not own))
        by (Removes place answer) may = tt

    -- ---- records

    true_text : (trees : Trees) (run : Record) (of : IsRecordOf kinds task trees run) → AllByRecursion (Contains all) (contents_in trees) → AllByRecursion (λ (file : Place × Bytes). Contains all file.1) of.0
        → IsText task.path run (record_text task.path run) → IsTrueText kinds all (record_place task.path) (record_text task.path run)
    true_text trees run of read made text = record {
      path = task.path;
      is_path = named;
      at = refl;
      run = run;
      text = text;
      entry = record { actions = task.actions; values = task.values; inputs = trees; outputs = task.outputs; files = of.0 };
      is_made = of.1;
      said = of.2;
      among = all_append (Contains all) (contents_in trees) (map (λ file. file.1) of.0) read (all_map (Contains all) (λ (file : Place × Bytes). file.1) of.0 made);
    }

    stores : (IsGood : Record → Type 0) → ((run : Record) → IsGood run → IsText task.path run (record_text task.path run) → IsTrueText kinds all (record_place task.path) (record_text task.path run))
        → (calls : List Call) (lines : List Text) (result : Ending) → Stores task IsGood calls lines result → AllByRecursion Stored calls
    stores IsGood truth calls lines result (inl memory) = no_calls calls memory.0
    stores IsGood truth calls lines result (inr does) = unless (is_empty task.outputs) does.1.2
      where
        unless : (none : Bool) → StoresUnless none task.path does.1.0 calls result → AllByRecursion Stored calls
        unless true is = no_calls calls is.0
        unless false is = called is.1
          where
            called : Storing task.path does.1.0 calls is.0 → AllByRecursion Stored calls
            called (inl hindered) = no_calls calls hindered.0
            called (inr one) = subst (AllByRecursion Stored) (sym one.1) ((λ own. truth does.1.0 does.1.1 one.3), tt)

    stores_once : (IsGood : Record → Type 0) (calls : List Call) (lines : List Text) (result : Ending) → Stores task IsGood calls lines result → AllButLast Stored calls
    stores_once IsGood calls lines result (inl memory) = no_last calls memory.0
    stores_once IsGood calls lines result (inr does) = unless (is_empty task.outputs) does.1.2
      where
        unless : (none : Bool) → StoresUnless none task.path does.1.0 calls result → AllButLast Stored calls
        unless true is = no_last calls is.0
        unless false is = called is.1
          where
            called : Storing task.path does.1.0 calls is.0 → AllButLast Stored calls
            called (inl hindered) = no_last calls hindered.0
            called (inr one) = subst (AllButLast Stored) (sym one.1) (tt, tt)

    -- what was written is among the contents
    written_among : (calls : List Call) (old new : F) → Leads device old calls new → Within new → (place : Place) (bytes : Bytes) → WroteFile calls place bytes → Contains all bytes
    written_among calls old new led within place bytes wrote =
        (among (Writes place bytes max_file (Ok tt))
        (one_of (λ (call : Call). fault_of call ≡ None → Contains made call) calls (Writes place bytes max_file (Ok tt)) (each_kept device log keeps made old calls new led within) wrote refl)).0

    -- ---- runs

    -- whatever was read, all calls but that of the storing
    writes_last : (writing : Stage) (IsGood : Record → Type 0) → ((calls : List Call) (lines : List Text) (result : Ending) → writing calls lines result → AllByRecursion Stored calls)
        → (calls : List Call) (lines : List Text) (result : Ending) → Then writing (Stores task IsGood) calls lines result → AllButLast Stored calls
    writes_last writing IsGood written calls lines result does = then_last writing (Stores task IsGood) written (stores_once IsGood) calls lines result does

    full_last : (trees : Trees) (was_read : Bool) (calls : List Call) (lines : List Text) (result : Ending) → FullRun meanings rows task trees was_read calls lines result → AllButLast Stored calls
    full_last trees was_read calls lines result (inl memory) = no_last calls memory.0
    full_last trees was_read calls lines result (inr does) =
        then_last (Clears task was_read) (Then (WritesAll meanings rows task trees) (Stores task (IsOfFullRun meanings rows task trees))) (clears was_read)
        (writes_last (WritesAll meanings rows task trees) (IsOfFullRun meanings rows task trees) (λ cs ls r is. at_outputs cs is.0)) calls lines result does

    changes_last : (trees : Trees) (changes : List Changes) (observed : List OutputFiles) (calls : List Call) (lines : List Text) (result : Ending)
        → RunByChanges meanings rows task trees changes observed calls lines result → AllButLast Stored calls
    changes_last trees changes observed calls lines result does =
        then_last (Silently (DeletesRecord task.path true)) (Then (WritesChanges meanings rows task trees changes observed) (Stores task (IsOfRunByChanges meanings rows task trees changes observed)))
        (deletes_record true)
        (writes_last (WritesChanges meanings rows task trees changes observed) (IsOfRunByChanges meanings rows task trees changes observed) (λ cs ls r is. at_outputs cs is.0)) calls lines result does

    module _ (trees : Trees) (first read : F) (have : HaveRead device task trees first read) where
      full : (was_read : Bool) (calls : List Call) (lines : List Text) (result : Ending) (new : F) → Leads device read calls new → Within new
          → FullRun meanings rows task trees was_read calls lines result → AllByRecursion Stored calls
      full was_read calls lines result new led within (inl memory) = no_calls calls memory.0
      full was_read calls lines result new led within (inr does) =
          subst (AllByRecursion Stored) (sym does.5) (all_append Stored does.0 does.1 (clears was_read does.0 does.2 does.4 does.7) (rest does.4 does.8))
        where
          parts : (mid : F) × Leads device read does.0 mid × Leads device mid does.1 new
          parts = split does.0 does.1 read new calls does.5 led

          trees_read : AllByRecursion (Contains all) (contents_in trees)
          trees_read = trees_among device log keeps made all among first read (within_calls device log keeps made read calls new led within) task trees have.inputs

          second : Then (WritesAll meanings rows task trees) (Stores task (IsOfFullRun meanings rows task trees)) does.1 does.3 result → AllByRecursion Stored does.1
          second then = subst (AllByRecursion Stored) (sym then.5) (all_append Stored then.0 then.1 (at_outputs then.0 then.7.0) (last_one then.4 then.7 then.8))
            where
              ends : (mid : F) × Leads device parts.0 then.0 mid × Leads device mid then.1 new
              ends = split then.0 then.1 parts.0 new does.1 then.5 parts.2

              last_one : (mid : Ending) → WritesAll meanings rows task trees then.0 then.2 mid
                  → OrStops mid (Stores task (IsOfFullRun meanings rows task trees) then.1 then.3 result) then.1 then.3 result → AllByRecursion Stored then.1
              last_one (Err fault) writes stop = no_calls then.1 stop.0
              last_one (Ok done) writes next =
                  stores (IsOfFullRun meanings rows task trees)
                  (λ run of text.
                  true_text trees run (of kinds agrees) trees_read
                  (each (λ (file : Place × Bytes). WroteFile then.0 file.0 file.1) (λ (file : Place × Bytes). Contains all file.1)
                  (λ file wrote. written_among then.0 parts.0 ends.0 ends.1 (within_calls device log keeps made ends.0 then.1 new ends.2 within) file.0 file.1 wrote) (of kinds agrees).0
                  (made_in_full kinds task trees (added_of task.files trees) (of kinds agrees).0 then.0 then.2 (of kinds agrees).1 (writes.1 kinds agrees)))
                  text)
                  then.1 then.3 result next

          rest : (mid : Ending) → OrStops mid (Then (WritesAll meanings rows task trees) (Stores task (IsOfFullRun meanings rows task trees)) does.1 does.3 result) does.1 does.3 result → AllByRecursion Stored does.1
          rest (Ok done) h = second h
          rest (Err fault) h = no_calls does.1 h.0

      module _ (trusted : IsTrusted kinds all last) (run : Record) (is : last ≡ Some run) (one : IsTrue (has_one_writer kinds task.actions)) (changes : List Changes) (observed : List OutputFiles)
          (goes : GoesFrom device options task run trees changes observed first read) where
        by_changes : (calls : List Call) (lines : List Text) (result : Ending) (new : F) → Leads device read calls new → Within new
            → RunByChanges meanings rows task trees changes observed calls lines result → AllByRecursion Stored calls
        by_changes calls lines result new led within does =
            subst (AllByRecursion Stored) (sym does.5) (all_append Stored does.0 does.1 (deletes_record true does.0 does.2 does.4 does.7) (rest does.4 does.8))
          where
            parts : (mid : F) × Leads device read does.0 mid × Leads device mid does.1 new
            parts = split does.0 does.1 read new calls does.5 led

            read_within : Within read
            read_within = within_calls device log keeps made read calls new led within

            trees_read : AllByRecursion (Contains all) (contents_in trees)
            trees_read = trees_among device log keeps made all among first read read_within task trees have.inputs

            all_read : AllByRecursion (Contains all) (contents_read trees observed)
            all_read = all_among device log keeps made all among first read read_within task trees observed have.inputs goes.outputs

            observed_read : AllByRecursion (Contains all) (contents_in (map (λ output. (output.name, output.files)) observed))
            observed_read = right_part (Contains all) (contents_in trees) (contents_in (map (λ output. (output.name, output.files)) observed)) all_read

            known : (true_one : IsOfTrue kinds run) × AllByRecursion (Contains all) (contents_of true_one.entry)
            known = trusted run is

            beside : IsTrueBeside kinds run (contents_read trees observed)
            beside = record {
              entry = known.0.entry;
              is_made = known.0.is_made;
              said = known.0.said;
              separate = fewer all (contents_of known.0.entry ++ contents_read trees observed) (all_append (Contains all) (contents_of known.0.entry) (contents_read trees observed) known.1 all_read) separate;
            }

            from : (before : Trees) × (existing : Files) × IsFolder existing × IsTrue (are_placed existing) × GoesOn kinds task before trees changes observed existing
            from = goes_from_true device kinds options task run trees changes observed first read lie one known.0.held goes beside

            second : Then (WritesChanges meanings rows task trees changes observed) (Stores task (IsOfRunByChanges meanings rows task trees changes observed)) does.1 does.3 result → AllByRecursion Stored does.1
            second then = subst (AllByRecursion Stored) (sym then.5) (all_append Stored then.0 then.1 (at_outputs then.0 then.7.0) (last_one then.4 then.7 then.8))
              where
                ends : (mid : F) × Leads device parts.0 then.0 mid × Leads device mid then.1 new
                ends = split then.0 then.1 parts.0 new does.1 then.5 parts.2

                now_among : (file : Place × Bytes) → WroteFile then.0 file.0 file.1 ⊎ Contains all file.1 → Contains all file.1
                now_among file (inl wrote) =
                    written_among then.0 parts.0 ends.0 ends.1 (within_calls device log keeps made ends.0 then.1 new ends.2 within) file.0 file.1 wrote
                now_among file (inr there) = there

                last_one : (mid : Ending) → WritesChanges meanings rows task trees changes observed then.0 then.2 mid
                    → OrStops mid (Stores task (IsOfRunByChanges meanings rows task trees changes observed) then.1 then.3 result) then.1 then.3 result → AllByRecursion Stored then.1
                last_one (Err fault) writes stop = no_calls then.1 stop.0
                last_one (Ok done) writes next =
                    stores (IsOfRunByChanges meanings rows task trees changes observed)
                    (λ made of text.
                    let record_of : IsRecordOf kinds task trees made = of kinds agrees from.0 from.1 from.2 from.3 from.4 in
                    true_text trees made record_of trees_read
                    (each (λ (file : Place × Bytes). WroteFile then.0 file.0 file.1 ⊎ Contains all file.1) (λ (file : Place × Bytes). Contains all file.1) now_among record_of.0
                    (made_by_changes kinds task trees changes observed from.0 from.1 from.4 (all_fitting meanings kinds rows task task.actions own_output agrees buildable.ready) from.2 from.3 (Contains all)
                    record_of.0 then.0 then.2 observed_read record_of.1 (writes.1 kinds agrees)))
                    text)
                    then.1 then.3 result next

            rest : (mid : Ending) → OrStops mid (Then (WritesChanges meanings rows task trees changes observed) (Stores task (IsOfRunByChanges meanings rows task trees changes observed)) does.1 does.3 result) does.1 does.3 result
                → AllByRecursion Stored does.1
            rest (Ok done) h = second h
            rest (Err fault) h = no_calls does.1 h.0

    -- ---- executions

    cleared : (result : Ending) (lines : List Text) (old new : F) → WasCleared device task (is_some last) lines result old new → StoredFrom new → StoredFrom old
    cleared result lines old new was later =
        let all_clear : AllByRecursion Stored was.3.0 = clears (is_some last) was.3.0 lines result was.3.2 in
        only_read old was.0 was.1
        (calls_back device log keeps Stored made unmade was.0 was.3.0 new was.3.1 (all_but_last Stored was.3.0 all_clear) (λ within. all_clear) later)

    ran : (result : Ending) (lines : List Text) (old new : F) → (Within old → IsTrusted kinds all last)
        → WasRun device meanings rows task options last lines result old new → StoredFrom new → StoredFrom old
    ran result lines old new trusted (inl was) later =
        only_read old was.1 was.2.requests
        (calls_back device log keeps Stored made unmade was.1 was.3.0 new was.3.1 (full_last was.0 (is_some last) was.3.0 lines result was.3.2)
        (λ within. full was.0 old was.1 was.2 (is_some last) was.3.0 lines result new was.3.1 within was.3.2) later)
    ran result lines old new trusted (inr by) later =
        let was = by.3 in
        only_read old was.3 was.4.requests
        (calls_back device log keeps Stored made unmade was.3 was.6.0 new was.6.1 (changes_last was.0 was.1 was.2 was.6.0 lines result was.6.2)
        (λ within.
        by_changes was.0 old was.3 was.4 (trusted (run_before device log keeps meanings rows options made task last result lines old new (inr by) within))
        by.0 by.1 (by.2 kinds agrees) was.1 was.2 was.5 was.6.0 lines result new was.6.1 within was.6.2) later)

    execution : (outcome : Outcome) (lines : List Text) (since old new : F) → (Within old → IsTrusted kinds all last)
        → ExecutionRequests device meanings rows options task last outcome lines since old new → StoredFrom new → StoredFrom old
    execution outcomes.NotRun lines since old new trusted requests later = subst (λ (f : F). StoredFrom f) requests later
    execution outcomes.Skipped lines since old new trusted requests later = only_read old new requests later
    execution outcomes.UpToDate lines since old new trusted requests later = only_read old new requests.0 later
    execution outcomes.NoSource lines since old new trusted requests later = cleared (Ok tt) lines old new requests later
    execution outcomes.Executed lines since old new trusted (inl rests) later = only_read old new rests.1 later
    execution outcomes.Executed lines since old new trusted (inr was) later = ran (Ok tt) lines old new trusted was later
    execution (outcomes.Failed fault) lines since old new trusted (inl read) later = only_read old new read.0 later
    execution (outcomes.Failed fault) lines since old new trusted (inr (inl was)) later = cleared (Err fault) lines old new was later
    execution (outcomes.Failed fault) lines since old new trusted (inr (inr was)) later = ran (Err fault) lines old new trusted was later

    -- what is reported as up to date had the right files
    had_right : (since new : F) → IsTrusted kinds all last → Within new → IsReportedCurrent device options task last since new outcomes.UpToDate → is_empty task.actions ≡ false
        → HadRight device log kinds made task
    had_right since new trusted within current acts = record {
      since = since;
      at = new;
      later = within.later;
      during = within.is;
      trees = on.trees;
      inputs = on.inputs_read;
      named = on.named;
      observed = on.observed;
      outputs = on.outputs_read;
      formed = on.formed;
      made = up_to_date_is_made device kinds options task last since new lie on beside;
    }
      where
        on : IsCurrentOn device options task last since new
        on = current refl acts

        known : (true_one : IsOfTrue kinds on.run) × AllByRecursion (Contains all) (contents_of true_one.entry)
        known = trusted on.run on.remembered

        all_read : AllByRecursion (Contains all) (contents_read on.trees on.observed)
        all_read = all_among device log keeps made all among since new within task on.trees on.observed on.inputs_read on.outputs_read

        beside : IsTrueBeside kinds on.run (contents_read on.trees on.observed)
        beside = record {
          entry = known.0.entry;
          is_made = known.0.is_made;
          said = known.0.said;
          separate = fewer all (contents_of known.0.entry ++ contents_read on.trees on.observed) (all_append (Contains all) (contents_of known.0.entry) (contents_read on.trees on.observed) known.1 all_read) separate;
        }

  -- ---- one after another

  executed : (rest : List Planned) (records : List (Option Record)) (reports : List TaskReport) (since old new : F) → AllByRecursion (MayStep meanings rows) rest
      → AllByRecursion (λ (path : Path). IsTrue (is_task_path path)) (order rest) → (Within old → AllByRecursion (IsTrusted kinds all) records)
      → ExecutionsRequest device meanings rows options rest records reports since old new → StoredFrom new → StoredFrom old
  executed [] [] [] since old new may named trusted requests later = subst (λ (f : F). StoredFrom f) requests later
  executed [] [] (report ∷ reports) since old new may named trusted requests later = absurd requests
  executed [] (last ∷ records) reports since old new may named trusted requests later = absurd requests
  executed (planned ∷ rest) [] reports since old new may named trusted requests later = absurd requests
  executed (planned ∷ rest) (last ∷ records) [] since old new may named trusted requests later = absurd requests
  executed (planned ∷ rest) (last ∷ records) (report ∷ reports) since old new may named trusted requests later =
      execution planned.task last may.0.0 may.0.2 named.0 report.outcome report.lines since old requests.0 (λ within. (trusted within).0) requests.1
      (executed rest records reports (since_after report.outcome since requests.0) requests.0 new may.1 named.1
      (λ within.
      (trusted (execution_before device log keeps meanings rows options made planned.task last report.outcome report.lines since old requests.0 requests.1 within)).1)
      requests.2 later)

  -- in a dry run
  dry : (rest : List Planned) (records : List (Option Record)) (since old new : F)
      → ExecutionsRequest device meanings rows options rest records (dry_reports rest) since old new → StoredFrom new → StoredFrom old
  dry [] [] since old new requests later = subst (λ (f : F). StoredFrom f) requests later
  dry [] (last ∷ records) since old new requests later = absurd requests
  dry (planned ∷ rest) [] since old new requests later = absurd requests
  dry (planned ∷ rest) (last ∷ records) since old new requests later = only_read old requests.0 requests.1 (dry rest records since requests.0 new requests.2 later)

  -- ---- what was reported, if all calls were made

  abbrev AreRight : List Planned → List TaskReport → Type 0
  AreRight rest reports = AllZip (IsCurrentRight device log kinds made) rest reports

  each_right : (rest : List Planned) (records : List (Option Record)) (reports : List TaskReport) (since old new : F) → AllByRecursion (MayStep meanings rows) rest
      → AllByRecursion (λ (path : Path). IsTrue (is_task_path path)) (order rest) → AllByRecursion (IsTrusted kinds all) records
      → ExecutionsRequest device meanings rows options rest records reports since old new → Within new → AreRight rest reports
  each_right [] [] [] since old new may named trusted requests within = tt
  each_right [] [] (report ∷ reports) since old new may named trusted requests within = absurd requests
  each_right [] (last ∷ records) reports since old new may named trusted requests within = absurd requests
  each_right (planned ∷ rest) [] reports since old new may named trusted requests within = absurd requests
  each_right (planned ∷ rest) (last ∷ records) [] since old new may named trusted requests within = absurd requests
  each_right (planned ∷ rest) (last ∷ records) (report ∷ reports) since old new may named trusted requests within =
      let mid = executions_before device log keeps meanings rows options made rest records reports (since_after report.outcome since requests.0) requests.0 new requests.2 within in (
        λ is acts. had_right planned.task last may.0.0 may.0.2 named.0 since requests.0 trusted.0 mid
            (subst (λ (o : Outcome). ExecutionRequests device meanings rows options planned.task last o report.lines since old requests.0) is requests.1).1 acts,
        each_right rest records reports (since_after report.outcome since requests.0) requests.0 new may.1 named.1 trusted.1 requests.2 within,
      )

  -- in a dry run nothing is
  dry_right : (rest : List Planned) → AreRight rest (dry_reports rest)
  dry_right [] = tt
  dry_right (planned ∷ rest) = (λ is acts. absurd (let e = is in (cc)), dry_right rest)

-- ---- Builds

-- a record that was read of a task was stored by an earlier build, so it is true
trusted_record : {F : Type 0} (device : Device F) (log : F → List Call) (keeps : LogsCalls device.allowed log) (kinds : Kinds)
    (all : List Bytes) (earlier final : List Call) → AllByRecursion (StoresTruth kinds all) earlier → ReadsOnly earlier final → (old new : F) → IsWithin device log keeps final new
    → (path : Path) (last : Option Record) → IsTrue (is_task_path path) → WasAnswered device old new path last → IsTrusted kinds all last
trusted_record device log keeps kinds all earlier final stored only old new within path None named answered run is = absurd (let e = is in (cc))
trusted_record device log keeps kinds all earlier final stored only old new within path (Some said) named answered run is = (
  record {
    held = subst IsWellFormed whole answered.1.held;
    entry = text.entry;
    is_made = text.is_made;
    said = sym whole ∙ one ∙ text.said;
  },
  text.among,
)
  where
    written : (limit : ℕ) × (answer : Answer) × Contains earlier (Writes (record_place path) answered.0 limit answer)
    written = only path said answered.0 answered.1
        (has_on_way device log keeps final (Reads (record_place path) max_record (Ok answered.0)) old new refl answered.2 within)

    text : IsTrueText kinds all (record_place path) answered.0
    text = member (StoresTruth kinds all) earlier (Writes (record_place path) answered.0 written.0 written.1) stored written.2 refl

    one : said ≡ text.run
    one = texts_are_records.one path said text.run answered.0 answered.1
        (subst (λ (p : Path). IsText p text.run answered.0) (sym (texts_are_records.separate path text.path named text.is_path text.at)) text.text)

    whole : said ≡ run
    whole = let e = is in (cc)

trusted_records : {F : Type 0} (device : Device F) (log : F → List Call) (keeps : LogsCalls device.allowed log) (kinds : Kinds)
    (all : List Bytes) (earlier final : List Call) → AllByRecursion (StoresTruth kinds all) earlier → ReadsOnly earlier final → (old new : F) → IsWithin device log keeps final new
    → (paths : List Path) (records : List (Option Record)) → AllByRecursion (λ (path : Path). IsTrue (is_task_path path)) paths
    → AllZip (WasAnswered device old new) paths records → AllByRecursion (IsTrusted kinds all) records
trusted_records device log keeps kinds all earlier final stored only old new within [] [] named answered = tt
trusted_records device log keeps kinds all earlier final stored only old new within [] (last ∷ records) named answered = absurd answered
trusted_records device log keeps kinds all earlier final stored only old new within (path ∷ paths) [] named answered = absurd answered
trusted_records device log keeps kinds all earlier final stored only old new within (path ∷ paths) (last ∷ records) named answered = (
  trusted_record device log keeps kinds all earlier final stored only old new within path last named.0 answered.0,
  trusted_records device log keeps kinds all earlier final stored only old new within paths records named.1 answered.1,
)

module _ {F M N Z S A : Type 0} (device : Device F) (tables : Tables M N Z S A)
    (own_output : (kind : ℕ) → WritesItsOutput tables.shapes kind) (log : F → List Call) (keeps : LogsCalls device.allowed log) (kinds : Kinds) (agrees : Agrees tables.shapes tables.kinds kinds)
    (all : List Bytes) (separate : AreCollisionFree sha256 all) where
  abbrev Build : Type 0
  Build = BuildWithLog device log tables kinds

  module _ (earlier : List Call) (stored : AllByRecursion (StoresTruth kinds all) earlier) (invocation : Invocation) (old new : F) (begins : log old ≡ [])
      (made unmade : List Call) (cut : log new ≡ made ++ unmade) (only : ReadsOnly earlier made)
      (among : (call : Call) → Contains made call → AllByRecursion (Contains all) (content_of call)) where
    abbrev StoredAfter : F → Type 0
    StoredAfter state = HoldsFrom device log keeps (StoresTruth kinds all) made unmade state

    all_at_end : StoredAfter new
    all_at_end = at_last device log keeps (StoresTruth kinds all) made unmade new cut

    all_from : StoredAfter old → AllByRecursion (StoresTruth kinds all) made
    all_from later = from_first device log keeps (StoresTruth kinds all) made unmade old begins later

    read_before : (from to : F) → Requests device no_change from to → StoredAfter to → StoredAfter from
    read_before from to requests later =
        only_read device log keeps tables.shapes tables.kinds kinds agrees own_output invocation.options made unmade all among separate from to requests later

    -- a build that ended made all calls
    all_made : unmade ≡ [] → log new ≡ made
    all_made ended = cut ∙ ap (λ (calls : List Call). made ++ calls) ended ∙ append-nil made

    new_within : unmade ≡ [] → IsWithin device log keeps made new
    new_within ended = record { later = []; is = sym (all_made ended) ∙ sym (append-nil (log new)) }

    module _ (report : Report) (builds : BuildsDeclared device tables invocation report old new) where
      trusted : IsWithin device log keeps made builds.plan.begun → invocation.options.dry_run ≡ false → AllByRecursion (IsTrusted kinds all) builds.plan.records
      trusted within wet =
          trusted_records device log keeps kinds all earlier made stored only builds.begun builds.plan.begun within
          (order builds.by.plan) builds.plan.records (each_named device tables invocation report old new builds) (builds.plan.answered wet)

      executions_stored : StoredAfter builds.plan.begun
      executions_stored = elim builds.by.outlines [
        | inl is_dry ↦ dry device log keeps tables.shapes tables.kinds kinds agrees own_output invocation.options made unmade all among separate
            builds.by.plan builds.plan.records builds.plan.begun builds.plan.begun new
            (subst (λ (reports : List TaskReport). ExecutionsRequest device tables.shapes tables.kinds invocation.options builds.by.plan builds.plan.records reports builds.plan.begun builds.plan.begun new) is_dry.1
            builds.plan.executions) all_at_end
        | inr wet ↦ executed device log keeps tables.shapes tables.kinds kinds agrees own_output invocation.options made unmade all among separate
            builds.by.plan builds.plan.records report.tasks builds.plan.begun builds.plan.begun new
            (each_may device tables invocation report old new builds) (each_named device tables invocation report old new builds)
            (λ within. trusted within wet.0) builds.plan.executions all_at_end
      ]

      all_stored : AllByRecursion (StoresTruth kinds all) made
      all_stored = all_from (read_before old builds.begun builds.first (read_before builds.begun builds.plan.begun builds.plan.first executions_stored))

      plan_within : unmade ≡ [] → IsWithin device log keeps made builds.plan.begun
      plan_within ended =
          executions_before device log keeps tables.shapes tables.kinds invocation.options made builds.by.plan builds.plan.records report.tasks
          builds.plan.begun builds.plan.begun new builds.plan.executions (new_within ended)

      all_right : unmade ≡ [] → AllZip (IsCurrentRight device log kinds made) builds.by.plan report.tasks
      all_right ended = elim builds.by.outlines [
        | inl is_dry ↦ subst (λ (reports : List TaskReport). AllZip (IsCurrentRight device log kinds made) builds.by.plan reports) (sym is_dry.1)
            (dry_right device log keeps tables.shapes tables.kinds kinds agrees own_output invocation.options made unmade all among separate builds.by.plan)
        | inr wet ↦ each_right device log keeps tables.shapes tables.kinds kinds agrees own_output invocation.options made unmade all among separate
            builds.by.plan builds.plan.records report.tasks builds.plan.begun builds.plan.begun new
            (each_may device tables invocation report old new builds) (each_named device tables invocation report old new builds)
            (trusted (plan_within ended) wet.0) builds.plan.executions (new_within ended)
      ]

      -- in contents that answer the calls
      module _ (ended : unmade ≡ []) (none_failed : has_failure report ≡ false) (start end : Contents) (answers : AnswersSoundly (device.may_leave old) start (log new) end)
          (none_shared : AreCollisionFree sha256 (all ++ contents_outside start ++ contents_outside end)) where
        abbrev wider : List Bytes
        wider = all ++ contents_outside start ++ contents_outside end

        in_wider : (c : Bytes) → Contains all c → has_path wider c ≡ true
        in_wider c has = in_left c (all ++ contents_outside start) (contents_outside end) (in_left c all (contents_outside start) (found all c has))

        true_within : (records : List (Option Record)) → AllByRecursion (IsTrusted kinds all) records → AllByRecursion (IsTrueWithin kinds wider) records
        true_within records trusts = each (IsTrusted kinds all) (IsTrueWithin kinds wider)
            (λ last trust run is. let known = trust run is in (known.0, λ c has. in_wider c (member (Contains all) (contents_of known.0.entry) c known.1 (listed (contents_of known.0.entry) c has)))) records trusts

        left : IsFromScratch (setting_of tables kinds (device.may_leave old)) start invocation report end
        left =
            from_scratch_left device tables
            (λ leaves Shows are for_kinds for_agrees options plan. step device leaves Shows are tables.shapes tables.kinds for_kinds for_agrees own_output options plan)
            log keeps kinds agrees invocation report old new start end begins answers builds none_failed wider none_shared
            (λ c h. in_left c (all ++ contents_outside start) (contents_outside end) (in_right c all (contents_outside start) h))
            (λ c h. in_right c (all ++ contents_outside start) (contents_outside end) h)
            (λ shows wet. true_within builds.plan.records (trusted (plan_within ended) wet))

    stored_by : (answer : Result Report Fault) → InvocationRequests device tables invocation answer old new → AllByRecursion (StoresTruth kinds all) made
    stored_by (Ok report) builds = all_stored report builds
    stored_by (Err fault) requests = all_from (read_before old new requests all_at_end)

    current_by : unmade ≡ [] → (answer : Result Report Fault) (requests : InvocationRequests device tables invocation answer old new)
        → AreCurrentRight device log tables kinds invocation answer old new requests
    current_by ended (Ok report) builds =
        subst (λ (calls : List Call). AllZip (IsCurrentRight device log kinds calls) builds.by.plan report.tasks) (sym (all_made ended)) (all_right report builds ended)
    current_by ended (Err fault) requests = tt

  truthful : (earlier : List Call) → AllByRecursion (StoresTruth kinds all) earlier → (build : Build) → ReadsOnly earlier build.made
      → ((call : Call) → Contains build.made call → AllByRecursion (Contains all) (content_of call)) → IsTruthful device log tables kinds all build
  truthful earlier stored build only among = record {
    stored = stored_by earlier stored build.invocation build.old build.new build.begins build.made build.unmade build.cut only among build.answer build.requests;
    current = λ ended. current_by earlier stored build.invocation build.old build.new build.begins build.made build.unmade build.cut only among ended build.answer build.requests;
    left = λ ended report is none_failed start end answers none_shared.
        left earlier stored build.invocation build.old build.new build.begins build.made build.unmade build.cut only among report
        (subst (λ (answer : Result Report Fault). InvocationRequests device tables build.invocation answer build.old build.new) is build.requests) ended none_failed start end answers none_shared;
  }

  all_truthful : (earlier : List Call) (builds : List Build) → AllByRecursion (StoresTruth kinds all) earlier
      → EachReadsOnly earlier (map (λ (build : Build). build.made) builds)
      → AllByRecursion (λ (calls : List Call). AllByRecursion (λ (call : Call). AllByRecursion (Contains all) (content_of call)) calls) (map (λ (build : Build). build.made) builds)
      → AllByRecursion (IsTruthful device log tables kinds all) builds
  all_truthful earlier [] stored only among = tt
  all_truthful earlier (build ∷ builds) stored only among =
      let here = truthful earlier stored build only.0 (λ call has. member (λ (c : Call). AllByRecursion (Contains all) (content_of c)) build.made call among.0 has) in
      (here, all_truthful (earlier ++ build.made) builds (all_append (StoresTruth kinds all) earlier build.made stored here.stored) only.1 among.1)

-- records stay true
pub records_stay_true : {F M N Z S A : Type 0} (device : Device F) (tables : Tables M N Z S A)
    → ((kind : ℕ) → WritesItsOutput tables.shapes kind) → RecordsStayTrue device tables
records_stay_true device tables own_output log keeps kinds agrees builds separate only =
    let kept = map (λ (build : BuildWithLog device log tables kinds). build.made) builds in
    let all = flat_map (λ (calls : List Call). flat_map content_of calls) kept in
    all_truthful device tables own_output log keeps kinds agrees all separate [] builds tt only
    (each (λ (calls : List Call). AllByRecursion (Contains all) (flat_map content_of calls)) (λ (calls : List Call). AllByRecursion (λ (call : Call). AllByRecursion (Contains all) (content_of call)) calls)
    (λ calls h. each_part (Contains all) content_of calls h) kept
    (parts_in (λ (calls : List Call). flat_map content_of calls) kept all (λ bytes has. has)))
