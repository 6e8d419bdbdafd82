-- What the definitions refuse: for losses, for folders whose contents are not known, and for failed tasks.
use Rattle.std.specs.Prelude.{bytes_eq, ℕ, zero, suc, ◌≡◌, Bool, true, false, List, [], ◌∷◌, ◌++◌, codes, refl, Some, None, Result, Ok, Err, Contains, take, ◌⊎◌, cond, length, not}
use Rattle.std.proofs.Common.{inl, inr, ap, sym, arith, subst, lit≤, ◌∙◌}
use Rattle.gb_report.specs.declared.fault.Fault.TheVariants as faults
use Rattle.gb_report.specs.declared.report.Outcome.{Outcome}
use Rattle.gb_report.specs.declared.report.Outcome.TheVariants as outcomes
use Rattle.gb_semantics.specs.Kinds.{kind_of}
use Rattle.gb_semantics.specs.declared.events.Answer.TheVariants as answers
use Rattle.gb_folder.specs.Files.{is_empty, Bytes, Contents, Tearing, Files}
use Rattle.gb_action.specs.declared.reply.Written.{Written}
use Rattle.gb_report.specs.declared.report.Heard.{Heard}
use Rattle.gb_report.specs.declared.report.Report.{Report}
use Rattle.gb_report.specs.declared.report.Heard.TheVariants as heard
use Rattle.gb_semantics.specs.Headline.{Ear, HaveHeard, counted, is_of_device, TornWritesAreDetected}
use Rattle.gb_plan.specs.declared.task.TaskDeclaration.{TaskDeclaration as Task}
use Rattle.gb_action.specs.declared.output_files.Form.TheVariants.{Dir as DirForm}
use Rattle.gb_plan.specs.Task.{Text}
use Rattle.gb_plan.specs.declared.task.Action.{Action}
use Rattle.gb_semantics.specs.TrueRecord.{RecordTexts, IsTextOfNoRecord}
use Rattle.std.specs.Ordering.{eq_by_cmp}
use Rattle.gb_core.specs.Lists.{byte_order}
use Rattle.gb_report.specs.declared.fault.Fault.{Fault}
use Rattle.gb_semantics.proofs.Lemmas.Files.{same_place}
use Rattle.gb_semantics.proofs.Rows.Copies.{before, only, folder, gen, at_first}
use Rattle.gb_semantics.specs.Execution.{Leaves, InventsNothing, IsWritten}
use Rattle.gb_semantics.specs.Outline.{Outlines}
use Rattle.gb_semantics.specs.Events.{Setting, State, shown_in, may_occur, ExistsInRun, is_read_first, IsNotBuilt}
use Rattle.gb_semantics.specs.declared.events.Invocation.{Invocation}
use Rattle.gb_plan.specs.Graph.{Registry}
use Rattle.gb_semantics.specs.Made.{placed}
use Rattle.gb_semantics.specs.Memory.{World}
use Rattle.gb_tree.specs.declared.property.Naming.TheVariants.{Relative}
use Rattle.gb_semantics.proofs.Existing.{existing}
use Rattle.std.specs.Result.{result_unwrap_or}
use Rattle.gb_semantics.specs.Edits.{LossStep}
use Rattle.std.specs.List.{count_by, items_where_true, list_any}
use Rattle.gb_semantics.proofs.RowKinds.{row_kinds}
use Rattle.gb_plan.proofs.Tests.{not_true, not_false}
use Rattle.gb_semantics.proofs.Common.{none_some, some_same}
use Rattle.gb_semantics.proofs.Rows.Graphs.{action, reported}
use Rattle.gb_semantics.proofs.Rows.Finalized.{plain_run}

-- ---- A loss that is refused changes nothing outside `.gb`

abbrev sources : Contents
sources = record { files = (codes "src/a", codes "A") ∷ (codes "src/b", codes "B") ∷ []; special = [] }

abbrev less_sources : Contents
less_sources = record { files = (codes "src/b", codes "B") ∷ []; special = [] }

abbrev has_a : Contents → Bool
has_a contents = list_any (λ file. bytes_eq file.0 (codes "src/a")) contents.files

abbrev state_of : Contents → State
state_of contents = record { contents = contents; remembered = []; failures = 0 }

no_place : (gone left : List Bytes) (place : Bytes) → [] ≡ gone ++ place ∷ left → ⊥
no_place [] left place e = not_false (ap is_empty e)
no_place (other ∷ gone) left place e = not_false (ap is_empty e)

-- refused because memory ran out, the loss leaves the sources
pub loss_keeps_sources : ¬ LossStep (λ place existed next left. ⊥) (shown_in (state_of sources)) (answers.Refused faults.OutOfMemory) (shown_in (state_of less_sources))
loss_keeps_sources step = elim step [
  | inl kept ↦ not_true (ap has_a kept.0)
  | inr cut ↦ no_place cut.1.gone cut.1.left cut.1.place cut.1.all
]

-- ---- Where the folder's contents are not known, a started task is neither passed over nor skipped

pub not_passed_over : ¬ Outlines plain_run (only gen) (reported gen outcomes.NotRun [] ∷ [])
not_passed_over outlines = elim outlines [
  | inl dry ↦ not_true dry.0
  | inr run ↦ elim run.1.0.answer [
    | inl started ↦ started.1
    | inr passed ↦ passed.0 (record { needs_ended_well = refl; is_called = refl; goes_on = inl refl })
  ]
]

pub not_skipped : ¬ Outlines plain_run (only gen) (reported gen outcomes.Skipped [] ∷ [])
not_skipped outlines = elim outlines [
  | inl dry ↦ not_true dry.0
  | inr run ↦ elim run.1.0.answer [ inl started ↦ started.1 | inr passed ↦ passed.0 (record { needs_ended_well = refl; is_called = refl; goes_on = inl refl }) ]
]

-- ---- A failed task leaves nothing that was not there and that no action writes

abbrev failing : Task
failing = record gen { outputs = record { name = codes "out"; form = DirForm; place = codes "build/o" } ∷ []; actions = action (codes "fail") (codes "no") ∷ [] }

abbrev fails : Outcome
fails = outcomes.Failed (faults.ActionFailed (codes "no"))

-- the reply has files
abbrev has_files : Result (List Written) Text → Bool
has_files (Ok written) = true
has_files (Err text) = false

-- the action that fails is the only one that is reached, and makes no files
fails_alone : (x : Action) (written : List Written) → Contains (action (codes "fail") (codes "no") ∷ []) x
    → row_kinds.makes (kind_of x) x.args [] [] ≡ Ok written → ⊥
fails_alone x written (zero, less, e) makes =
    not_true (ap has_files (subst (λ y. row_kinds.makes (kind_of y) y.args [] [] ≡ Ok written) (sym e) makes))
fails_alone x written (suc k, less, e) makes = absurd (omega arith)

pub nothing_is_picked : (a b : Bytes) → ¬ Leaves row_kinds plain_run failing (folder [] []) fails (folder ((codes "build/o/x", a) ∷ (codes "build/o/y", b) ∷ []) [])
nothing_is_picked a b leaves = elim (leaves.0.invents_nothing (codes "build/o/x") a refl refl) [
  | inl existed ↦ none_some existed
  | inr other ↦ elim other [
    | inl written ↦ fails_alone written.1 written.2 written.3 written.4
    | inr device ↦ not_true (ap (λ f. is_of_device f) device)
  ]
]

abbrev text_exists : World
text_exists = folder ((codes "build.gb", codes "..") ∷ (codes "build/a.txt", codes "abc") ∷ []) []

-- no file of an action after the one that failed
abbrev first_fails : Task
first_fails = record gen { actions = action (codes "fail") (codes "no") ∷ action (codes "writeText") (codes "abc") ∷ [] }

pub none_after_the_failed : ¬ Leaves row_kinds plain_run first_fails before fails text_exists
none_after_the_failed leaves = elim (leaves.0.invents_nothing (codes "build/a.txt") (codes "abc") refl refl) [
  | inl existed ↦ none_some existed
  | inr other ↦ elim other [ inl written ↦ fails_alone written.1 written.2 written.3 written.4 | inr device ↦ not_true (ap (λ f. is_of_device f) device) ]
]

-- no file where there is no source
abbrev no_source : Task
no_source = record gen { files = record { name = codes "src"; roots = codes "src" ∷ []; include = []; exclude = []; incremental = false; skip_when_empty = true; naming = Relative } ∷ [] }

abbrev has_text : World → Bool
has_text world = list_any (λ file. bytes_eq file.0 (codes "build/a.txt")) world.folder.files

pub none_without_source : ¬ Leaves row_kinds plain_run no_source before (outcomes.Failed faults.OutOfMemory) text_exists
none_without_source leaves = elim leaves [
  | inl same ↦ not_false (ap has_text same)
  | inr given ↦ elim (given.invents_nothing (codes "build/a.txt") (codes "abc") refl refl) [
    | inl existed ↦ none_some existed
    | inr other ↦ elim other [ inl written ↦ not_false written.0 | inr device ↦ not_true (ap (λ f. is_of_device f) device) ]
  ]
]

-- ---- A device that may leave any prefix of a text

abbrev says_r : RecordTexts
says_r path reported bytes = bytes ≡ codes "R"

abbrev prefixes : Tearing
prefixes place old new left = (bytes : Bytes) × (count : ℕ) × (new ≡ Some bytes) × (left ≡ Some (take count bytes))

-- A prefix of what the tool writes is that text or no text of a record, though a prefix of other bytes may be
-- one.
pub prefixes_are_observed : TornWritesAreDetected says_r (λ path. path) prefixes
prefixes_are_observed path old None left is of_tool torn = none_some torn.2
prefixes_are_observed path old (Some text) left is of_tool torn = by_count torn.1 (torn.3 ∙ ap (λ b. Some (take torn.1 b)) (sym (some_same torn.2) ∙ of_tool.1))
  where
    none_left : (n : ℕ) → take {A = ℕ} n [] ≡ []
    none_left zero = refl
    none_left (suc n) = refl

    by_count : (count : ℕ) → left ≡ Some (take count (codes "R")) → (left ≡ old) ⊎ (left ≡ Some text) ⊎ IsTextOfNoRecord says_r path left
    by_count zero e = inr (inr (subst (IsTextOfNoRecord says_r path) (sym e) (λ reported same. not_true (sym (ap is_empty same)))))
    by_count (suc n) e = inr (inl (e ∙ ap (λ (more : Bytes). Some (82 ∷ more)) (none_left n) ∙ ap Some (sym of_tool.1)))

-- ---- Where one listener refuses a call, the others are notified all the same

abbrev is_silent : List Heard → Bool
is_silent hears = is_empty hears

abbrev executed : Report
executed = record { tasks = reported gen outcomes.Executed [] ∷ []; dry_run = false; listener_refused = true }

abbrev one_task : List Heard
one_task = heard.Start (codes ":gen") ∷ heard.End (codes ":gen") outcomes.Executed ∷ []

both_kept : (kept : List Bool) → length kept ≡ 2 → 0 ≡ counted 0 (count_by not kept) → items_where_true kept one_task ≡ one_task
both_kept (true ∷ true ∷ []) long none = refl
both_kept (true ∷ false ∷ []) long none = absurd (omega (arith, none))
both_kept (false ∷ true ∷ []) long none = absurd (omega (arith, none))
both_kept (false ∷ false ∷ []) long none = absurd (omega (arith, none))
both_kept [] long none = absurd (omega (arith, long))
both_kept (a ∷ []) long none = absurd (omega (arith, long))
both_kept (a ∷ b ∷ c ∷ more) long none = absurd (omega (arith, long))

pub second_is_reported : ¬ HaveHeard executed (([], 0) ∷ ([], 0) ∷ []) ((heard.Start (codes ":gen") ∷ [], 1) ∷ ([], 0) ∷ [])
second_is_reported have =
    let some = have.each.1.0 in
    not_false (ap (λ (ear : Ear). is_empty ear.0) some.2 ∙ ap (λ (hears : List Heard). is_empty hears) (both_kept some.0 some.1 (ap (λ (ear : Ear). ear.1) some.2)))

-- ---- A listener that refused one call was notified of the others

one_kept : (kept : List Bool) → length kept ≡ 2 → 1 ≡ counted 0 (count_by not kept) → is_empty (items_where_true kept one_task) ≡ false
one_kept (true ∷ true ∷ []) long one = absurd (omega (arith, one))
one_kept (true ∷ false ∷ []) long one = refl
one_kept (false ∷ true ∷ []) long one = refl
one_kept (false ∷ false ∷ []) long one = absurd (omega (arith, one))
one_kept [] long one = absurd (omega (arith, long))
one_kept (a ∷ []) long one = absurd (omega (arith, long))
one_kept (a ∷ b ∷ c ∷ more) long one = absurd (omega (arith, long))

pub one_refusal_frees_no_other : ¬ HaveHeard executed (([], 0) ∷ []) (([], 1) ∷ [])
one_refusal_frees_no_other have =
    let some = have.each.0 in
    not_false (ap (λ (ear : Ear). is_empty ear.0) some.2 ∙ one_kept some.0 some.1 (ap (λ (ear : Ear). ear.1) some.2))

-- ---- A correct run that the device stopped as it wrote its file: the torn file is at the reported place

abbrev torn_files : Files
torn_files = (codes "build.gb", codes "..") ∷ (codes "build/a.txt", codes "ab") ∷ []

abbrev stopped : Fault
stopped = faults.Device (codes "build/a.txt")

torn_invents_nothing : InventsNothing row_kinds gen stopped before (folder torn_files [])
torn_invents_nothing place bytes out exists =
    elim (eq_by_cmp byte_order place (codes "build.gb")) as (λ b. cond b (Some (codes "..")) (cond (eq_by_cmp byte_order place (codes "build/a.txt")) (Some (codes "ab")) None) ≡ Some bytes
    → (cond b (Some (codes "..")) None ≡ Some bytes) ⊎ IsWritten row_kinds gen before.folder.files place bytes ⊎ (stopped ≡ faults.Device place)) [
      | true ↦ λ e. inl e
      | false ↦ λ e. elim (eq_by_cmp byte_order place (codes "build/a.txt")) as (λ b. eq_by_cmp byte_order place (codes "build/a.txt") ≡ b → cond b (Some (codes "ab")) None ≡ Some bytes
          → (None ≡ Some bytes) ⊎ IsWritten row_kinds gen before.folder.files place bytes ⊎ (stopped ≡ faults.Device place)) [
            | true ↦ λ same _. inr (inr (ap (λ p. faults.Device p) (sym (same_place place (codes "build/a.txt") same))))
            | false ↦ λ _ none. none_some none
          ] refl e
    ] exists

pub torn_write : Leaves row_kinds plain_run gen before (outcomes.Failed stopped) (folder torn_files [])
torn_write = (
  λ current. none_some current.same,
  inr (inl (record { files = refl; invents_nothing = torn_invents_nothing; special = refl; memory = refl }, λ incremental. none_some incremental.remembered)),
)

-- ---- Where the device failed in a write: the place has what it had, what was written, or what it may leave

abbrev with_device : Tearing → Setting
with_device may_leave = record {
  kinds = row_kinds;
  registers = λ files properties said. Err faults.NoTasks ≡ said;
  digest = λ bytes. bytes;
  says = λ path said bytes. ⊥;
  record_place = λ path. path;
  record_text = λ path said. [];
  may_leave = may_leave;
}

abbrev gen_writes : IsWritten row_kinds gen before.folder.files (codes "build/a.txt") (codes "abc")
gen_writes = (refl, action (codes "writeText") (codes "abc"), record { output = codes "out"; path = []; bytes = codes "abc" } ∷ [], (0, lit≤ tt, refl), refl, (0, lit≤ tt, refl))

pub prefix_may_exist : (own : Files) → may_occur (with_device prefixes) own plain_run gen (at_first before) (existing (folder torn_files []) 1) stopped
prefix_may_exist own = (inl (omega arith), refl, inr (None, Some (codes "abc"), tt, inr gen_writes, (codes "abc", 2, refl, refl)))

-- leaves what was there, or what was being written
abbrev whole : Tearing
whole place existed next left = (left ≡ existed) ⊎ (left ≡ next)

only_text : (bytes : Bytes) → ExistsInRun row_kinds gen before.folder.files (codes "build/a.txt") (Some bytes) → bytes ≡ codes "abc"
only_text bytes (inl existed) = none_some existed
only_text bytes (inr written) = of_action written.1 written.2 written.3 written.4 written.5
  where
    in_one : Contains {X = Bytes × Bytes} ((codes "build/a.txt", codes "abc") ∷ []) (codes "build/a.txt", bytes) → bytes ≡ codes "abc"
    in_one (zero, less, e) = sym (ap (λ (file : Bytes × Bytes). file.1) e)
    in_one (suc k, less, e) = absurd (omega arith)

    of_action : (x : Action) (files : List Written) → Contains gen.actions x → row_kinds.makes (kind_of x) x.args [] [] ≡ Ok files
        → Contains (placed gen.outputs files) (codes "build/a.txt", bytes) → bytes ≡ codes "abc"
    of_action x files (zero, less, e) makes in_files =
        in_one (subst (λ (f : List Written). Contains (placed gen.outputs f) (codes "build/a.txt", bytes))
        (sym (ap (λ r. result_unwrap_or r []) (ap (λ (y : Action). row_kinds.makes (kind_of y) y.args [] []) e ∙ makes))) in_files)
    of_action x files (suc k, less, e) makes in_files = absurd (omega arith)

no_lie : codes "lie" ≡ codes "abc" → ⊥
no_lie e = not_true (ap (bytes_eq (codes "abc")) e)

pub nothing_else_exists : (own : Files) → ¬ may_occur (with_device whole) own plain_run gen (at_first before)
    (existing (folder ((codes "build.gb", codes "..") ∷ (codes "build/a.txt", codes "lie") ∷ []) []) 1) stopped
nothing_else_exists own comes = elim comes.2 [
  | inl exists ↦ no_lie (only_text (codes "lie") exists)
  | inr torn ↦ elim torn.4 [
    | inl existed ↦ no_lie (only_text (codes "lie") (subst (ExistsInRun row_kinds gen before.folder.files (codes "build/a.txt")) (sym existed) torn.2))
    | inr next ↦ no_lie (only_text (codes "lie") (subst (ExistsInRun row_kinds gen before.folder.files (codes "build/a.txt")) (sym next) torn.3))
  ]
]

-- ---- A refused build's device fault names a place where a script or a record is read, in a dry run no
-- record

abbrev asks_for : Bool → Invocation
asks_for dry_run = record { requested = []; excluded = []; properties = []; options = record plain_run { dry_run = dry_run } }

abbrev is_err : Result Registry Fault → Bool
is_err (Ok registry) = false
is_err (Err fault) = true

abbrev device_in : Result Registry Fault → Bool
device_in (Ok registry) = false
device_in (Err fault) = is_of_device fault

abbrev place_of : Fault → Bytes
place_of (faults.Device place) = place
place_of other = []

not_read : (dry_run : Bool) (place : Bytes) (count : ℕ) → is_read_first (asks_for dry_run).options place ≡ false
    → ¬ IsNotBuilt (with_device whole).registers (shown_in (state_of sources)) (asks_for dry_run) (faults.Device place) count
not_read dry_run place count is_not (inl scripts) = not_true (ap device_in scripts)
not_read dry_run place count is_not (inr (inl refused)) = not_false (ap is_err refused.1)
not_read dry_run place count is_not (inr (inr (inl memory))) = not_false (ap is_of_device memory)
not_read dry_run place count is_not (inr (inr (inr device))) =
    not_true (sym is_not ∙ subst (λ (p : Bytes). is_read_first (asks_for dry_run).options p ≡ true) (sym (ap place_of device.2.1)) device.1)

pub no_source_is_read_first : (count : ℕ) → ¬ IsNotBuilt (with_device whole).registers (shown_in (state_of sources)) (asks_for false) (faults.Device (codes "src/a")) count
no_source_is_read_first count = not_read false (codes "src/a") count refl

pub dry_run_reads_no_record : (count : ℕ) → ¬ IsNotBuilt (with_device whole).registers (shown_in (state_of sources)) (asks_for true) (faults.Device (codes ".gb/x")) count
dry_run_reads_no_record count = not_read true (codes ".gb/x") count refl

-- ---- A record whose place is invalid cannot be written

pub no_place_is_reported : may_occur (record (with_device whole) { record_place = λ path. [] }) [] plain_run gen (at_first before) (existing before 0) faults.HistoryNotWritten
no_place_is_reported = ((λ current. none_some current.same, inl refl), inr (inl refl))
