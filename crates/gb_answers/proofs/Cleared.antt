-- What the calls that delete a task's record, empty its outputs and store its record leave in contents.
use Rattle.std.specs.Prelude.{◌≡◌, ◌++◌, Bool, true, false, not, List, [], ◌∷◌, Result, Ok, Err, IsTrue, bytes_eq}
use Rattle.std.specs.List.{AllByRecursion, fold}
use Rattle.std.proofs.Common.{sym, ap, ap₂, subst, ◌∙◌, inl, inr}
use Rattle.gb_folder.specs.Calls.{Call, IsPermitted, Lists, Removes, Writes, changes_at}
use Rattle.gb_folder.specs.Each.{Each, Ended, OrStops}
use Rattle.gb_folder.specs.Files.{Contents, Files, IsFolder, Place, Tearing, are_placed, is_empty, places_under, without}
use Rattle.gb_folder.specs.Semantics.{Answer, AnswersAll, Removed}
use Rattle.gb_folder.specs.declared.folder.FolderFault.{FolderFault}
use Rattle.gb_folder.specs.declared.folder.FolderFault.TheVariants as folders
use Rattle.gb_folder.proofs.Sound.{placed_where, sound_where}
use Rattle.gb_report.specs.declared.fault.Fault.{Fault}
use Rattle.gb_history.specs.Places.{record_place}
use Rattle.gb_history.specs.Record.{Record}
use Rattle.gb_history.specs.Text.{record_text}
use Rattle.gb_semantics.specs.Events.{max_record}
use Rattle.gb_semantics.specs.Made.{rest_of}
use Rattle.gb_semantics.specs.TrueRecord.{outside}
use Rattle.gb_plan.specs.Task.{Path, Text, is_output_of}
use Rattle.gb_plan.specs.declared.task.Output.{Output}
use Rattle.gb_plan.specs.declared.task.TaskDeclaration.{TaskDeclaration as Task}
use Rattle.gb_plan.proofs.Tests.{itself}
use Rattle.gb_records.specs.Called.{Deletion, Storing, deletion_ending}
use Rattle.gb_records.specs.declared.fault.Unwritten.{Unwritten}
use Rattle.gb_folder.specs.Changes.{is_at}
use Rattle.gb_folder.specs.Removals.{Removal, Removals, removal_ending}
use Rattle.gb_folder.proofs.Emptied.{blocked_none, emptied as emptied_files, without_none}
use Rattle.gb_run.specs.Doing.{Ending, OrEnds}
use Rattle.gb_run.specs.Emptying.{Emptying, IsFound, Listing, places_at}
use Rattle.gb_run.proofs.Changed.{changes_of}
use Rattle.gb_run.proofs.Composed.{answered_then}
use Rattle.gb_task.specs.Stages.{Clears, DeletesRecord, Silently, Stores, StoresRecord, StoresUnless, as_ending}
use Rattle.gb_task.specs.Truth.{AreSeparate}
use Rattle.gb_task.proofs.Outside.{kept}
use Rattle.gb_task.proofs.Own.{is_kept, swapped}
use Rattle.gb_task.proofs.Parts.{narrowed, outside_same}

-- ---- the record

-- the calls change files at the place of the record alone
abbrev AreAtRecord : Path → List Call → Type 0
AreAtRecord path calls = AllByRecursion (IsPermitted (changes_at (is_at (record_place path)))) calls

no_calls : (path : Path) (calls : List Call) → calls ≡ [] → AreAtRecord path calls
no_calls path calls none = subst (λ (cs : List Call). AreAtRecord path cs) (sym none) tt

removes_there : (path : Path) (answer : Answer) → IsPermitted (changes_at (is_at (record_place path))) (Removes (record_place path) answer)
unfolding changes_at
removes_there path answer = itself (record_place path)

writes_there : (path : Path) (run : Record) (answer : Answer) → IsPermitted (changes_at (is_at (record_place path))) (Writes (record_place path) (record_text path run) max_record answer)
unfolding changes_at
writes_there path run answer = itself (record_place path)

deletion_there : (path : Path) (was_read : Bool) (calls : List Call) (ended : Ended Unwritten) → Deletion path was_read calls ended → AreAtRecord path calls
deletion_there path false calls ended deletes = no_calls path calls deletes.0
deletion_there path true calls ended (inl hindered) = no_calls path calls hindered.0
deletion_there path true calls ended (inr called) = subst (λ (cs : List Call). AreAtRecord path cs) (sym called.1) (removes_there path called.0, tt)

-- what is deleted is one of the tool's own files
pub deleted : (leaves : Tearing) (path : Path) (was_read : Bool) (calls : List Call) (old new : Contents)
    → DeletesRecord path was_read calls (Ok tt) → AnswersAll leaves old calls new → outside new ≡ outside old
deleted leaves path was_read calls old new deletes answers =
    outside_same path old new (changes_of (is_at (record_place path)) leaves old new calls (deletion_there path was_read calls deletes.0 deletes.1) answers)

stored_there : (none : Bool) (path : Path) (run : Record) (calls : List Call) (result : Ending) → StoresUnless none path run calls result → AreAtRecord path calls
stored_there true path run calls result stores = no_calls path calls stores.0
stored_there false path run calls result stores = by stores.1
  where
    by : Storing path run calls stores.0 → AreAtRecord path calls
    by (inl hindered) = no_calls path calls hindered.0
    by (inr called) = subst (λ (cs : List Call). AreAtRecord path cs) (sym called.1) (writes_there path run called.0, tt)

-- so is what is stored
pub stored : (leaves : Tearing) (task : Task) (run : Record) (calls : List Call) (old new : Contents)
    → StoresRecord task run calls (Ok tt) → AnswersAll leaves old calls new → outside new ≡ outside old
stored leaves task run calls old new stores answers =
    outside_same task.path old new (changes_of (is_at (record_place task.path)) leaves old new calls (stored_there (is_empty task.outputs) task.path run calls (Ok tt) stores) answers)

pub stored_stage : (leaves : Tearing) (task : Task) (IsRight : Record → Type 0) (calls : List Call) (lines : List Text) (old new : Contents)
    → Stores task IsRight calls lines (Ok tt) → AnswersAll leaves old calls new → outside new ≡ outside old
stored_stage leaves task IsRight calls lines old new (inl memory) answers = absurd (let e = memory.2 in (cc))
stored_stage leaves task IsRight calls lines old new (inr stores) answers = stored leaves task stores.1.0 calls old new stores.1.2 answers

-- ---- removals

-- A property of files that stays when a file is removed.
abbrev StaysWithout : (Files → Type 0) → Type 0
StaysWithout Holds = (files : Files) (place : Place) → Holds files → Holds (without files place)

-- a deletion that went well removed a file, or changed nothing
deletion_keeps : (Holds : Files → Type 0) → StaysWithout Holds → (leaves : Tearing) (path : Path) (was_read : Bool) (calls : List Call) (old new : Contents)
    → DeletesRecord path was_read calls (Ok tt) → AnswersAll leaves old calls new → Holds old.files → Holds new.files
deletion_keeps Holds stays leaves path was_read calls old new deletes answers holds = by was_read deletes.0 deletes.1 deletes.2
  where
    same : new ≡ old → Holds new.files
    same is = subst (λ (c : Contents). Holds c.files) (sym is) holds

    one : (answer : Answer) (mid : Contents) → new ≡ mid → Removed leaves old (record_place path) answer mid → Ok tt ≡ as_ending (deletion_ending answer) → Holds new.files
    one (Ok done) mid is removed went = subst (λ (c : Contents). Holds c.files) (sym (is ∙ removed.1)) (stays old.files (record_place path) holds)
    one (Err folders.OutOfMemory) mid is removed went = same (is ∙ removed)
    one (Err folders.Device) mid is removed went = absurd (let e = went in (cc))
    one (Err folders.Missing) mid is removed went = same (is ∙ removed.2)
    one (Err folders.Blocked) mid is removed went = same (is ∙ removed.1)
    one (Err folders.TooLarge) mid is removed went = absurd removed
    one (Err folders.BadFileName) mid is removed went = absurd removed

    by : (read : Bool) (ended : Ended Unwritten) → Deletion path read calls ended → Ok tt ≡ as_ending ended → Holds new.files
    by false ended none went = same (subst (λ (cs : List Call). AnswersAll leaves old cs new) none.0 answers)
    by true ended (inl hindered) went = same (subst (λ (cs : List Call). AnswersAll leaves old cs new) hindered.0 answers)
    by true ended (inr called) went =
        let led = subst (λ (cs : List Call). AnswersAll leaves old cs new) called.1 answers in
        one called.0 led.1.0 led.1.2 led.1.1 (went ∙ ap as_ending called.2)

pub deleted_folder : (leaves : Tearing) (path : Path) (was_read : Bool) (calls : List Call) (old new : Contents)
    → DeletesRecord path was_read calls (Ok tt) → AnswersAll leaves old calls new → IsFolder old.files → IsFolder new.files
deleted_folder = deletion_keeps IsFolder (λ files place sound. sound_where files (λ other. not (bytes_eq other place)) sound)

pub deleted_placed : (leaves : Tearing) (path : Path) (was_read : Bool) (calls : List Call) (old new : Contents)
    → DeletesRecord path was_read calls (Ok tt) → AnswersAll leaves old calls new → IsTrue (are_placed old.files) → IsTrue (are_placed new.files)
deleted_placed = deletion_keeps (λ (files : Files). IsTrue (are_placed files)) (λ files place placed. placed_where (λ other. not (bytes_eq other place)) files placed)

one_removed : (leaves : Tearing) (place : Place) (answer : Answer) (old mid : Contents) → IsFolder old.files → Ok tt ≡ removal_ending place answer → Removed leaves old place answer mid
    → mid ≡ record old { files = without old.files place }
one_removed leaves place (Ok done) old mid sound went removed = removed.1
one_removed leaves place (Err folders.OutOfMemory) old mid sound went removed = absurd (let e = went in (cc))
one_removed leaves place (Err folders.Device) old mid sound went removed = absurd (let e = went in (cc))
one_removed leaves place (Err folders.Missing) old mid sound went removed = removed.2 ∙ ap (λ fs. record old { files = fs }) (sym (without_none old.files place sound removed.0))
one_removed leaves place (Err folders.Blocked) old mid sound went removed =
    removed.1 ∙ ap (λ fs. record old { files = fs }) (sym (without_none old.files place sound (blocked_none old.files place sound removed.0)))
one_removed leaves place (Err folders.TooLarge) old mid sound went removed = absurd removed
one_removed leaves place (Err folders.BadFileName) old mid sound went removed = absurd removed

-- removals that went well leave the folder without the files at their places
removed_all : (leaves : Tearing) (places : List Place) (calls : List Call) (made : List (Unit {0})) (old new : Contents) → Each Removal places calls made (Ok tt) → AnswersAll leaves old calls new
    → IsFolder old.files → (new.files ≡ fold without old.files places) × (new.special ≡ old.special)
removed_all leaves [] calls made old new removes answers sound =
    let same : new ≡ old = subst (λ (cs : List Call). AnswersAll leaves old cs new) removes.0 answers in
    (ap (λ (c : Contents). c.files) same, ap (λ (c : Contents). c.special) same)
removed_all leaves (place ∷ places) calls made old new removes answers sound =
    on removes.4 removes.7 removes.8 (λ rest folder. removed_all leaves places removes.1 removes.3 parts.0 new rest parts.2 folder)
  where
    parts : (mid : Contents) × AnswersAll leaves old removes.0 mid × AnswersAll leaves mid removes.1 new
    parts = answered_then leaves removes.0 removes.1 old new (subst (λ (cs : List Call). AnswersAll leaves old cs new) removes.5 answers)

    one : Removal place removes.0 removes.2 (Ok tt) → parts.0 ≡ record old { files = without old.files place }
    one (none, inl lost) = absurd (let e = lost.1 in (cc))
    one (none, inr called) =
        let led = subst (λ (cs : List Call). AnswersAll leaves old cs parts.0) called.1 parts.1 in
        led.1.2 ∙ one_removed leaves place called.0 old led.1.0 sound called.2 led.1.1

    on : (mid : Ended Fault) → Removal place removes.0 removes.2 mid → OrStops mid (Each Removal places removes.1 removes.3 (Ok tt)) removes.1 removes.3 (Ok tt)
        → (Each Removal places removes.1 removes.3 (Ok tt) → IsFolder parts.0.files → (new.files ≡ fold without parts.0.files places) × (new.special ≡ parts.0.special))
        → (new.files ≡ fold without old.files (place ∷ places)) × (new.special ≡ old.special)
    on (Ok done) removal rest goes =
        let is = one removal in
        let left = goes rest (subst (λ (c : Contents). IsFolder c.files) (sym is) (sound_where old.files (λ other. not (bytes_eq other place)) sound)) in
        (left.0 ∙ ap (λ (c : Contents). fold without c.files places) is, left.1 ∙ ap (λ (c : Contents). c.special) is)
    on (Err fault) removal rest goes = absurd (let e = rest.2 in (cc))

-- ---- the outputs

-- listings that went well found the places at the outputs, and changed nothing
listed_all : (leaves : Tearing) (outputs : List Output) (calls : List Call) (places : List Place) (old new : Contents) → Each Listing outputs calls places (Ok tt) → AnswersAll leaves old calls new
    → (places ≡ places_at outputs old.files) × (new ≡ old)
listed_all leaves [] calls places old new lists answers = (lists.1, subst (λ (cs : List Call). AnswersAll leaves old cs new) lists.0 answers)
listed_all leaves (output ∷ outputs) calls places old new lists answers =
    on lists.4 lists.7 lists.8 (λ rest. listed_all leaves outputs lists.1 lists.3 parts.0 new rest parts.2)
  where
    parts : (mid : Contents) × AnswersAll leaves old lists.0 mid × AnswersAll leaves mid lists.1 new
    parts = answered_then leaves lists.0 lists.1 old new (subst (λ (cs : List Call). AnswersAll leaves old cs new) lists.5 answers)

    one : (answer : Result (List Place) FolderFault) → lists.0 ≡ Lists output.place answer ∷ [] → IsFound output.place answer lists.2 (Ok tt) → (lists.2 ≡ places_under old.files output.place) × (parts.0 ≡ old)
    one (Ok found) is (inl was) =
        let led = subst (λ (cs : List Call). AnswersAll leaves old cs parts.0) is parts.1 in
        (was.0 ∙ led.1.1.0.0, led.1.2 ∙ led.1.1.1)
    one (Ok found) is (inr lost) = absurd (let e = lost.1 in (cc))
    one (Err fault) is (none, inl lost) = absurd (let e = lost in (cc))
    one (Err fault) is (none, inr at) = absurd (let e = at in (cc))

    on : (mid : Ended Fault) → Listing output lists.0 lists.2 mid → OrStops mid (Each Listing outputs lists.1 lists.3 (Ok tt)) lists.1 lists.3 (Ok tt)
        → (Each Listing outputs lists.1 lists.3 (Ok tt) → (lists.3 ≡ places_at outputs parts.0.files) × (new ≡ parts.0))
        → (places ≡ places_at (output ∷ outputs) old.files) × (new ≡ old)
    on (Ok done) listing rest goes =
        let first = one listing.0 listing.1 listing.2 in
        let more = goes rest in (
          lists.6 ∙ ap₂ (λ (here there : List Place). here ++ there) first.0 (more.0 ∙ ap (λ (c : Contents). places_at outputs c.files) first.1),
          more.1 ∙ first.1,
        )
    on (Err fault) listing rest goes = absurd (let e = rest.2 in (cc))

-- emptying that went well leaves what is at no output
pub emptied : (leaves : Tearing) (task : Task) (calls : List Call) (old new : Contents) → IsFolder old.files
    → Emptying task.outputs calls (Ok tt) → AnswersAll leaves old calls new → (new.files ≡ rest_of task old.files) × (new.special ≡ old.special)
emptied leaves task calls old new sound empties answers = on empties.3 empties.5 empties.6
  where
    parts : (mid : Contents) × AnswersAll leaves old empties.0 mid × AnswersAll leaves mid empties.1 new
    parts = answered_then leaves empties.0 empties.1 old new (subst (λ (cs : List Call). AnswersAll leaves old cs new) empties.4 answers)

    on : (mid : Ended Fault) → Each Listing task.outputs empties.0 empties.2 mid → OrEnds mid (Removals empties.2 empties.1 (Ok tt)) empties.1 (Ok tt) → (new.files ≡ rest_of task old.files) × (new.special ≡ old.special)
    on (Ok done) lists removes =
        let listed = listed_all leaves task.outputs empties.0 empties.2 old parts.0 lists parts.1 in
        let left = removed_all leaves empties.2 empties.1 [] parts.0 new removes parts.2 (subst (λ (c : Contents). IsFolder c.files) (sym listed.1) sound) in (
          left.0 ∙ ap (λ (c : Contents). fold without c.files empties.2) listed.1 ∙ ap (fold without old.files) listed.0
              ∙ emptied_files (λ (output : Output). output.place) task.outputs old.files sound,
          left.1 ∙ ap (λ (c : Contents). c.special) listed.1,
        )
    on (Err fault) lists removes = absurd (let e = removes.1 in (cc))

-- ---- both

module _ (leaves : Tearing) (task : Task) (was_read : Bool) (calls : List Call) (lines : List Text) (old new : Contents) (sound : IsFolder old.files)
    (clears : Clears task was_read calls lines (Ok tt)) (answers : AnswersAll leaves old calls new) where
  parts : (mid : Contents) × AnswersAll leaves old clears.0 mid × AnswersAll leaves mid clears.1 new
  parts = answered_then leaves clears.0 clears.1 old new (subst (λ (cs : List Call). AnswersAll leaves old cs new) clears.5 answers)

  -- the contents in between: the record is deleted, and the outputs are not yet empty
  abbrev Between : Type 0
  Between = (outside parts.0 ≡ outside old) × IsFolder parts.0.files × (new.files ≡ rest_of task parts.0.files) × (new.special ≡ parts.0.special)

  between : Between
  between = on clears.4 clears.7 clears.8
    where
      on : (mid : Ending) → Silently (DeletesRecord task.path was_read) clears.0 clears.2 mid → OrStops mid (Silently (Emptying task.outputs) clears.1 clears.3 (Ok tt)) clears.1 clears.3 (Ok tt) → Between
      on (Ok done) first second =
          let folder = deleted_folder leaves task.path was_read clears.0 old parts.0 first.1 parts.1 sound in
          let left = emptied leaves task clears.1 parts.0 new folder second.1 parts.2 in
          (deleted leaves task.path was_read clears.0 old parts.0 first.1 parts.1, folder, left.0, left.1)
      on (Err fault) first second = absurd (let e = second.2 in (cc))

  cleared_so : ((outside new).files ≡ rest_of task (outside old).files) × (new.special ≡ old.special) × (new.files ≡ rest_of task new.files)
  cleared_so = (
    ap kept between.2 ∙ swapped is_kept (λ q. not (is_output_of task q)) parts.0.files ∙ ap (λ (c : Contents). rest_of task c.files) between.0,
    between.3 ∙ ap (λ (c : Contents). c.special) between.0,
    between.2 ∙ sym (narrowed (λ q. not (is_output_of task q)) (λ q. not (is_output_of task q)) (λ q is. is) parts.0.files) ∙ ap (rest_of task) (sym between.2),
  )

  pub cleared_folder : IsFolder new.files
  cleared_folder = subst IsFolder (sym between.2) (sound_where parts.0.files (λ q. not (is_output_of task q)) between.1)

-- What is left of the last execution is gone: the record, and then the files at the outputs.
pub cleared : (leaves : Tearing) (task : Task) (was_read : Bool) (calls : List Call) (lines : List Text) (old new : Contents) → IsFolder old.files → AreSeparate task
    → Clears task was_read calls lines (Ok tt) → AnswersAll leaves old calls new
    → ((outside new).files ≡ rest_of task (outside old).files) × (new.special ≡ old.special) × (new.files ≡ rest_of task new.files)
cleared leaves task was_read calls lines old new sound separate clears answers = cleared_so leaves task was_read calls lines old new sound clears answers
