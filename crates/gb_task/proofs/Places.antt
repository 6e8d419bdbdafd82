-- The stages of an execution change files at the outputs and the record of the task alone.
use Rattle.std.specs.Prelude.{ℕ, ◌≡◌, ◌≢◌, ◌⊎◌, ◌||◌, ◌++◌, Bool, true, false, List, [], ◌∷◌, Some, Result, Ok, Err}
use Rattle.std.specs.List.{AllByRecursion, list_all}
use Rattle.std.specs.Cmp.Lexicographic.{bytes_decides}
use Rattle.std.proofs.Common.{refl, sym, ap, subst, ◌∙◌, inl, inr}
use Rattle.std.proofs.lemmas.Bool.{and_from, and_parts}
use Rattle.std.proofs.lemmas.List.Folds.{list_all-append}
use Rattle.std.proofs.lemmas.List.Sums.{list_all-from_AllPass}
use Rattle.gb_action.specs.Changes.{Changes}
use Rattle.gb_action.specs.Files.{Trees}
use Rattle.gb_action.specs.Meanings.{Meanings}
use Rattle.gb_action.specs.declared.output_files.OutputFiles.{OutputFiles}
use Rattle.gb_core.specs.Place.{is_under}
use Rattle.gb_folder.specs.Calls.{Requests, Call, IsPermitted, Lists, Reads, ReadsPart, Removes, Writes, changes_at, put_at, taken_at, takes_at, Device}
use Rattle.gb_folder.proofs.Asked.{change_at, requests_more, requests_put, requests_taken, requests_where, take_at, takes_where, taking_is_change}
use Rattle.gb_folder.specs.Device.{Leads}
use Rattle.gb_folder.specs.Each.{Each, Ended, OrStops}
use Rattle.gb_folder.specs.Files.{Place, is_empty}
use Rattle.gb_folder.specs.declared.folder.FolderFault.{FolderFault}
use Rattle.gb_folder.proofs.Leading.{requests_of}
use Rattle.gb_history.specs.Places.{record_place}
use Rattle.gb_history.specs.Record.{Record}
use Rattle.gb_history.specs.Text.{record_text}
use Rattle.gb_semantics.specs.Events.{max_record}
use Rattle.gb_plan.specs.Ready.{Rows}
use Rattle.gb_plan.specs.Task.{Text, is_output_of}
use Rattle.gb_plan.specs.declared.task.Output.{Output}
use Rattle.gb_plan.specs.declared.task.TaskDeclaration.{TaskDeclaration as Task}
use Rattle.gb_plan.proofs.Tests.{or_right}
use Rattle.gb_records.specs.Called.{Deletion, Storing}
use Rattle.gb_records.specs.declared.fault.Unwritten.{Unwritten}
use Rattle.gb_report.specs.declared.fault.Fault.{Fault}
use Rattle.gb_run.specs.Doing.{Ending, OrEnds}
use Rattle.gb_run.specs.Emptying.{Emptying, IsFound, Listing, is_at_output}
use Rattle.gb_run.specs.Work.{AreAtOutputs}
use Rattle.gb_folder.specs.Changes.{is_at}
use Rattle.gb_folder.specs.Removals.{Removal, Removals}
use Rattle.gb_task.specs.Executing.{is_of_execution}
use Rattle.gb_task.specs.Ran.{WasDone}
use Rattle.gb_task.specs.Stages.{Clears, DeletesRecord, FullRun, IsOfFullRun, IsOfRunByChanges, RunByChanges, Silently, Stage, Stores, StoresUnless, Then, WritesAll, WritesChanges}

-- the record's place is one of the execution's
at_record : (task : Task) → is_of_execution task (record_place task.path) ≡ true
at_record task = or_right (is_output_of task (record_place task.path)) (is_at (record_place task.path) (record_place task.path)) ((bytes_decides (record_place task.path) (record_place task.path)).1 refl)

-- and so is each at an output
at_output : (task : Task) (place : Place) → is_output_of task place ≡ true → is_of_execution task place ≡ true
at_output task place is = ap (λ b. b || is_at (record_place task.path) place) is

module _ {F : Type 0} {device : Device F} {old new : F} where
  -- the record is deleted
  pub record_taken : (task : Task) → Requests device (taken_at (record_place task.path)) old new → Requests device (takes_at (is_of_execution task)) old new
  record_taken task takes = requests_taken (record_place task.path) (take_at (is_of_execution task) (record_place task.path) (at_record task)) takes

  -- the outputs are emptied
  pub outputs_taken : (task : Task) → Requests device (takes_at (is_output_of task)) old new → Requests device (takes_at (is_of_execution task)) old new
  outputs_taken task takes = takes_where (is_output_of task) (is_of_execution task) (at_output task) takes

  -- what is taken is a change
  pub taken_of : (task : Task) → Requests device (takes_at (is_of_execution task)) old new → Requests device (changes_at (is_of_execution task)) old new
  taken_of task takes = requests_more (taking_is_change (is_of_execution task)) takes

  -- files at the outputs are changed
  pub outputs_of : (task : Task) → Requests device (changes_at (is_output_of task)) old new → Requests device (changes_at (is_of_execution task)) old new
  outputs_of task changes = requests_where (is_output_of task) (is_of_execution task) (at_output task) changes

  -- the record is stored
  pub record_of : (task : Task) (bytes : List ℕ) → Requests device (put_at (record_place task.path) bytes) old new → Requests device (changes_at (is_of_execution task)) old new
  record_of task bytes puts = requests_put (record_place task.path) bytes (change_at (is_of_execution task) (record_place task.path) (Some bytes) (at_record task)) puts

-- ---- calls one after another

all_append : {X : Type 0} (P : X → Type 0) (prefix following : List X) → AllByRecursion P prefix → AllByRecursion P following → AllByRecursion P (prefix ++ following)
all_append P [] following one two = two
all_append P (x ∷ prefix) following one two = (one.0, all_append P prefix following one.1 two)

leads_split : {F : Type 0} (device : Device F) (prefix following : List Call) (old new : F) → Leads device old (prefix ++ following) new → (mid : F) × Leads device old prefix mid × Leads device mid following new
leads_split device [] following old new led = (old, refl, led)
leads_split device (call ∷ prefix) following old new led =
    let rest = leads_split device prefix following led.0 new led.2 in
    (rest.0, (led.0, led.1, rest.1), rest.2)

list_all_wider : (some wide : Place → Bool) → ((place : Place) → some place ≡ true → wide place ≡ true) → (places : List Place) → list_all some places ≡ true → list_all wide places ≡ true
list_all_wider some wide within [] all = refl
list_all_wider some wide within (place ∷ places) all =
    let parts = and_parts (some place) (list_all some places) all in
    and_from (wide place) (list_all wide places) (within place parts.0) (list_all_wider some wide within places parts.1)

-- ---- one call

module _ (test : Place → Bool) where
  abbrev May : Call → Type 0
  May = IsPermitted (changes_at test)

  removes_may : (place : Place) (answer : Result (Unit {0}) FolderFault) → test place ≡ true → May (Removes place answer)
  unfolding changes_at
  removes_may place answer is = is

  writes_may : (place : Place) (bytes : List ℕ) (limit : ℕ) (answer : Result (Unit {0}) FolderFault) → test place ≡ true → May (Writes place bytes limit answer)
  unfolding changes_at
  writes_may place bytes limit answer is = is

  -- the removals of places that pass
  removals_may : (places : List Place) (calls : List Call) (made : List (Unit {0})) (result : Ended Fault) → list_all test places ≡ true → Each Removal places calls made result → AllByRecursion May calls
  removals_may [] calls made result all removes = subst (λ (cs : List Call). AllByRecursion May cs) (sym removes.0) tt
  removals_may (place ∷ places) calls made result all removes =
      let parts = and_parts (test place) (list_all test places) all in
      subst (λ (cs : List Call). AllByRecursion May cs) (sym removes.5)
      (all_append May removes.0 removes.1 (one removes.0 removes.2 removes.4 parts.0 removes.7) (rest removes.4 removes.8 (λ h. removals_may places removes.1 removes.3 result parts.1 h)))
    where
      one : (here : List Call) (some : List (Unit {0})) (mid : Ended Fault) → test place ≡ true → Removal place here some mid → AllByRecursion May here
      one here some mid passes (none, inl memory) = subst (λ (cs : List Call). AllByRecursion May cs) (sym memory.0) tt
      one here some mid passes (none, inr called) = subst (λ (cs : List Call). AllByRecursion May cs) (sym called.1) (removes_may place called.0 passes, tt)

      rest : (mid : Ended Fault) → OrStops mid (Each Removal places removes.1 removes.3 result) removes.1 removes.3 result → (Each Removal places removes.1 removes.3 result → AllByRecursion May removes.1) → AllByRecursion May removes.1
      rest (Ok done) h goes = goes h
      rest (Err fault) h goes = subst (λ (cs : List Call). AllByRecursion May cs) (sym h.0) tt

  -- a listing changes nothing
  listings_may : (outputs : List Output) (calls : List Call) (places : List Place) (result : Ended Fault) → Each Listing outputs calls places result → AllByRecursion May calls
  listings_may [] calls places result lists = subst (λ (cs : List Call). AllByRecursion May cs) (sym lists.0) tt
  listings_may (output ∷ outputs) calls places result lists =
      subst (λ (cs : List Call). AllByRecursion May cs) (sym lists.5)
      (all_append May lists.0 lists.1 (subst (λ (cs : List Call). AllByRecursion May cs) (sym lists.7.1) (tt, tt)) (rest lists.4 lists.8 (λ h. listings_may outputs lists.1 lists.3 result h)))
    where
      rest : (mid : Ended Fault) → OrStops mid (Each Listing outputs lists.1 lists.3 result) lists.1 lists.3 result → (Each Listing outputs lists.1 lists.3 result → AllByRecursion May lists.1) → AllByRecursion May lists.1
      rest (Ok done) h goes = goes h
      rest (Err fault) h goes = subst (λ (cs : List Call). AllByRecursion May cs) (sym h.0) tt

-- ---- what is listed is at the outputs

found_under : {F : Type 0} (device : Device F) (outputs : List Output) (calls : List Call) (places : List Place) (old new : F) → Leads device old calls new → Each Listing outputs calls places (Ok tt)
    → list_all (is_at_output outputs) places ≡ true
found_under device [] calls places old new led lists = ap (list_all (is_at_output [])) lists.1
found_under {F = F} device (output ∷ outputs) calls places old new led lists =
    ap (list_all (is_at_output (output ∷ outputs))) lists.6 ∙ list_all-append (is_at_output (output ∷ outputs)) lists.2 lists.3
    ∙ and_from _ _
    (list_all_wider (λ place. is_under place output.place) (is_at_output (output ∷ outputs)) (λ place is. ap (λ b. b || is_at_output outputs place) is) lists.2 (here lists.4 lists.7 lists.8))
    (list_all_wider (is_at_output outputs) (is_at_output (output ∷ outputs)) (λ place is. or_right (is_under place output.place) (is_at_output outputs place) is) lists.3 (rest lists.4 lists.8 (λ h. found_under device outputs lists.1 lists.3 parts.0 new parts.2 h)))
  where
    parts : (mid : F) × Leads device old lists.0 mid × Leads device mid lists.1 new
    parts = leads_split device lists.0 lists.1 old new (subst (λ (cs : List Call). Leads device old cs new) lists.5 led)

    well : (answer : Result (List Place) FolderFault) → lists.0 ≡ Lists output.place answer ∷ [] → (mid : Ended Fault) → IsFound output.place answer lists.2 mid → mid ≢ Ok tt ⊎ (list_all (λ place. is_under place output.place) lists.2 ≡ true)
    well (Ok found) is mid (inl was) =
        let led_one = subst (λ (cs : List Call). Leads device old cs parts.0) is parts.1 in
        inr (ap (list_all (λ place. is_under place output.place)) was.0 ∙ list_all-from_AllPass (λ place. is_under place output.place) found led_one.1.well.0)
    well (Ok found) is mid (inr lost) = inl (λ e. let d = sym e ∙ lost.1 in cc)
    well (Err fault) is mid (none, inl lost) = inl (λ e. let d = sym e ∙ lost in cc)
    well (Err fault) is mid (none, inr at) = inl (λ e. let d = sym e ∙ at in cc)

    here : (mid : Ended Fault) → Listing output lists.0 lists.2 mid → OrStops mid (Each Listing outputs lists.1 lists.3 (Ok tt)) lists.1 lists.3 (Ok tt) → list_all (λ place. is_under place output.place) lists.2 ≡ true
    here (Ok done) listing h = elim (well listing.0 listing.1 (Ok done) listing.2) [ inl never ↦ absurd (never refl) | inr all ↦ all ]
    here (Err fault) listing h = absurd (let e = h.2 in (cc))

    rest : (mid : Ended Fault) → OrStops mid (Each Listing outputs lists.1 lists.3 (Ok tt)) lists.1 lists.3 (Ok tt) → (Each Listing outputs lists.1 lists.3 (Ok tt) → list_all (is_at_output outputs) lists.3 ≡ true)
        → list_all (is_at_output outputs) lists.3 ≡ true
    rest (Ok done) h goes = goes h
    rest (Err fault) h goes = absurd (let e = h.2 in (cc))

-- ---- the stages

module _ {F : Type 0} (device : Device F) (task : Task) where
  abbrev At : List Call → Type 0
  At calls = AllByRecursion (May (is_of_execution task)) calls

  -- in whatever folder it is done, the stage changes files there alone
  abbrev pub StageAt : Stage → Type 0
  StageAt stage = (calls : List Call) (lines : List Text) (result : Ending) (old new : F) → Leads device old calls new → stage calls lines result → At calls

  none_at : (calls : List Call) → calls ≡ [] → At calls
  none_at calls is = subst At (sym is) tt

  one_at : (calls : List Call) (call : Call) → calls ≡ call ∷ [] → May (is_of_execution task) call → At calls
  one_at calls call is may = subst At (sym is) (may, tt)

  then_at : (first second : Stage) → StageAt first → StageAt second → StageAt (Then first second)
  then_at first second one two calls lines result old new led does =
      subst At (sym does.5) (all_append (May (is_of_execution task)) does.0 does.1 (one does.0 does.2 does.4 old parts.0 parts.1 does.7) (rest does.4 does.8))
    where
      parts : (mid : F) × Leads device old does.0 mid × Leads device mid does.1 new
      parts = leads_split device does.0 does.1 old new (subst (λ (cs : List Call). Leads device old cs new) does.5 led)

      rest : (mid : Ending) → OrStops mid (second does.1 does.3 result) does.1 does.3 result → At does.1
      rest (Ok done) h = two does.1 does.3 result parts.0 new parts.2 h
      rest (Err fault) h = none_at does.1 h.0

  deletion_at : (was_read : Bool) (calls : List Call) (ended : Ended Unwritten) → Deletion task.path was_read calls ended → At calls
  deletion_at false calls ended deletes = none_at calls deletes.0
  deletion_at true calls ended (inl hindered) = none_at calls hindered.0
  deletion_at true calls ended (inr called) = one_at calls (Removes (record_place task.path) called.0) called.1 (removes_may (is_of_execution task) (record_place task.path) called.0 (at_record task))

  deletes_at : (was_read : Bool) → StageAt (Silently (DeletesRecord task.path was_read))
  deletes_at was_read calls lines result old new led does = deletion_at was_read calls does.1.0 does.1.1

  storing_at : (run : Record) (calls : List Call) (ended : Ended Unwritten) → Storing task.path run calls ended → At calls
  storing_at run calls ended (inl hindered) = none_at calls hindered.0
  storing_at run calls ended (inr called) = one_at calls (Writes (record_place task.path) (record_text task.path run) max_record called.0) called.1
      (writes_may (is_of_execution task) (record_place task.path) (record_text task.path run) max_record called.0 (at_record task))

  stores_by : (none : Bool) (run : Record) (calls : List Call) (result : Ending) → StoresUnless none task.path run calls result → At calls
  stores_by true run calls result stores = none_at calls stores.0
  stores_by false run calls result stores = storing_at run calls stores.0 stores.1

  stores_at : (IsRight : Record → Type 0) → StageAt (Stores task IsRight)
  stores_at IsRight calls lines result old new led (inl memory) = none_at calls memory.0
  stores_at IsRight calls lines result old new led (inr does) = stores_by (is_empty task.outputs) does.1.0 calls result does.1.2

  -- the outputs are emptied
  empties_at : StageAt (Silently (Emptying task.outputs))
  empties_at calls lines result old new led does =
      subst At (sym empties.4) (all_append (May (is_of_execution task)) empties.0 empties.1 (listings_may (is_of_execution task) task.outputs empties.0 empties.2 empties.3 empties.5) (rest empties.3 empties.5 empties.6))
    where
      empties : Emptying task.outputs calls result
      empties = does.1

      parts : (mid : F) × Leads device old empties.0 mid × Leads device mid empties.1 new
      parts = leads_split device empties.0 empties.1 old new (subst (λ (cs : List Call). Leads device old cs new) empties.4 led)

      rest : (mid : Ended Fault) → Each Listing task.outputs empties.0 empties.2 mid → OrEnds mid (Removals empties.2 empties.1 result) empties.1 result → At empties.1
      rest (Ok done) lists h =
          removals_may (is_of_execution task) empties.2 empties.1 [] result
          (list_all_wider (is_output_of task) (is_of_execution task) (at_output task) empties.2 (found_under _ task.outputs empties.0 empties.2 old parts.0 parts.1 lists)) h
      rest (Err fault) lists h = none_at empties.1 h.0

  pub at_clearing : (was_read : Bool) → StageAt (Clears task was_read)
  at_clearing was_read = then_at (Silently (DeletesRecord task.path was_read)) (Silently (Emptying task.outputs)) (deletes_at was_read) empties_at

  -- what is at an output is at a place of the execution
  outputs_at : (calls : List Call) → AreAtOutputs task calls → At calls
  unfolding changes_at
  outputs_at [] all = tt
  outputs_at (call ∷ calls) all = (by call all.0, outputs_at calls all.1)
    where
      by : (c : Call) → May (is_output_of task) c → May (is_of_execution task) c
      by (Lists root answer) may = tt
      by (Reads place limit answer) may = tt
      by (ReadsPart place at len answer) may = tt
      by (Writes place bytes limit answer) may = at_output task place may
      by (Removes place answer) may = at_output task place may

  module _ {S : Type 0} (meanings : Meanings S) (rows : Rows S) (trees : Trees) where
    pub at_full : (was_read : Bool) → StageAt (FullRun meanings rows task trees was_read)
    at_full was_read calls lines result old new led (inl memory) = none_at calls memory.0
    at_full was_read calls lines result old new led (inr does) =
        then_at (Clears task was_read) (Then (WritesAll meanings rows task trees) (Stores task (IsOfFullRun meanings rows task trees))) (at_clearing was_read)
        (then_at (WritesAll meanings rows task trees) (Stores task (IsOfFullRun meanings rows task trees)) (λ calls lines result old new led does. outputs_at calls does.0) (stores_at (IsOfFullRun meanings rows task trees)))
        calls lines result old new led does

    pub at_changes : (changes : List Changes) (observed : List OutputFiles) → StageAt (RunByChanges meanings rows task trees changes observed)
    at_changes changes observed =
        then_at (Silently (DeletesRecord task.path true)) (Then (WritesChanges meanings rows task trees changes observed) (Stores task (IsOfRunByChanges meanings rows task trees changes observed))) (deletes_at true)
        (then_at (WritesChanges meanings rows task trees changes observed) (Stores task (IsOfRunByChanges meanings rows task trees changes observed)) (λ calls lines result old new led does. outputs_at calls does.0)
        (stores_at (IsOfRunByChanges meanings rows task trees changes observed)))

  -- a stage that was done requests changes there alone
  pub done_places : (stage : Stage) → StageAt stage → (lines : List Text) (result : Ending) (old new : F) → WasDone device stage lines result old new
      → Requests device (changes_at (is_of_execution task)) old new
  done_places stage at lines result old new was =
      requests_of device (changes_at (is_of_execution task)) old new was.0 (at was.0 lines result old new was.1 was.2) was.1
