-- Which tasks start. They are numbered 0, 1, .. in the order of their executions.
use Rattle.std.specs.Prelude.{ℕ, ◌≡◌, ◌<◌, [], Bool, true, false, not, ◌&&◌, ◌⊎◌, ◌↔◌, List, map, length}
use Rattle.std.specs.Prelude.{Contains, IsTrue, Vec, slice_index_or}
use Rattle.std.specs.List.{list_any}
use Rattle.std.specs.Global.{Global}
use Rattle.gb_report.specs.declared.report.Outcome.{Outcome}
use Rattle.gb_report.specs.declared.report.Outcome.TheVariants as outcomes
use Rattle.gb_exec.specs.declared.may_start.Ending.{Ending}
use Rattle.gb_exec.specs.declared.may_start.Ending.TheVariants.{ToCome, Executed, NothingDone, Failed, NotRun}

-- rows of numbers, without their allocations
abbrev pub rows : List (Vec ℕ Global) → List (List ℕ)
rows vecs = map (λ v. v.items) vecs

abbrev pub row : List (List ℕ) → ℕ → List ℕ
row table number = slice_index_or table number []

abbrev pub mark_at : List Bool → ℕ → Bool
mark_at marks number = slice_index_or marks number false

-- Of each task those that it needs and those that finalize it; whether it is wanted, as it is selected or a
-- task of the plan needs it; and how its execution ended, if it has ended.
pub record Progress : Type 0 where
  pub needs : List (List ℕ)
  pub finalizers : List (List ℕ)
  pub wanted : List Bool
  pub endings : List Ending

-- each task has its rows; what it needs comes before it, and what finalizes it is a task
pub record IsWired (needs finalizers : List (List ℕ)) (wanted : List Bool) : Type 0 where
  pub each_finalized : length finalizers ≡ length needs
  pub each_wanted : length wanted ≡ length needs
  pub needs_first : (task before : ℕ) → Contains (row needs task) before → before < task
  pub finalizers_known : (task later : ℕ) → Contains (row finalizers task) later → later < length needs

abbrev pub ending_in : List Ending → ℕ → Ending
ending_in endings task = slice_index_or endings task ToCome

-- how an execution with this outcome ended
abbrev pub ending_of : Outcome → Ending
ending_of (outcomes.Failed fault) = Failed
ending_of outcomes.NotRun = NotRun
ending_of outcomes.Executed = Executed
ending_of outcomes.UpToDate = NothingDone
ending_of outcomes.Skipped = NothingDone
ending_of outcomes.NoSource = NothingDone

abbrev pub has_started : Ending → Bool
has_started ToCome = false
has_started Executed = true
has_started NothingDone = true
has_started Failed = true
has_started NotRun = false

abbrev pub has_failed : Ending → Bool
has_failed Failed = true
has_failed other = false

-- it failed or was not run
abbrev pub ended_badly : Ending → Bool
ended_badly ToCome = false
ended_badly Executed = false
ended_badly NothingDone = false
ended_badly Failed = true
ended_badly NotRun = true

abbrev pub lacks_need : Progress → ℕ → Bool
lacks_need progress task = list_any (λ before. ended_badly (ending_in progress.endings before))
    (row progress.needs task)

abbrev pub has_executed : Ending → Bool
has_executed Executed = true
has_executed other = false

-- a task that it needs was executed
abbrev pub has_executed_need : Progress → ℕ → Bool
has_executed_need progress task =
    list_any (λ before. has_executed (ending_in progress.endings before)) (row progress.needs task)

-- it finalizes a task that was started
abbrev pub FinalizesStarted : Progress → ℕ → Type 0
FinalizesStarted progress task =
    (started : ℕ) × IsTrue (has_started (ending_in progress.endings started))
    × Contains (row progress.finalizers started) task

-- a finalizer of a started task, or reached by needs from one
pub data Serves (progress : Progress) : ℕ → Type 0 where
  called : {task : ℕ} → FinalizesStarted progress task → Serves progress task
  needed : {later : ℕ} {task : ℕ} → Serves progress later → Contains (row progress.needs later) task
      → Serves progress task

-- a task has failed, and the build is not to continue
abbrev pub is_stopping : Bool → Progress → Bool
is_stopping keep_going progress = list_any has_failed progress.endings && not keep_going

pub record DoesStart (keep_going : Bool) (progress : Progress) (task : ℕ) : Type 0 where
  pub needs_ended_well : lacks_need progress task ≡ false
  pub is_wanted : IsTrue (mark_at progress.wanted task) ⊎ FinalizesStarted progress task
  pub goes_on : (is_stopping keep_going progress ≡ false) ⊎ Serves progress task

-- each number that is marked has its row marked
abbrev pub AreClosed : List (List ℕ) → List Bool → Type 0
AreClosed needs marks =
    (later task : ℕ) → mark_at marks later ≡ true → Contains (row needs later) task
    → mark_at marks task ≡ true

-- what is reached by rows from a marked number
pub data Spreads (needs : List (List ℕ)) (marks : List Bool) : ℕ → Type 0 where
  marked : {task : ℕ} → mark_at marks task ≡ true → Spreads needs marks task
  further : {later : ℕ} {task : ℕ} → Spreads needs marks later → Contains (row needs later) task
      → Spreads needs marks task

-- ---- What is kept

-- The marks are true of the endings so far: which tasks are called, and, once that was computed, which serve
-- a finalizer.
pub record Keeps (progress : Progress) (called serving : List Bool)
    (is_spread some_failed : Bool) : Type 0 where
  pub wired : IsWired progress.needs progress.finalizers progress.wanted
  pub each_ending : length progress.endings ≡ length progress.needs
  pub each_called : length called ≡ length progress.needs
  pub each_serving : length serving ≡ length progress.needs
  pub are_called : (task : ℕ) → (mark_at called task ≡ true) ↔ FinalizesStarted progress task
  pub are_serving : is_spread ≡ true → (task : ℕ) → (mark_at serving task ≡ true) ↔ Serves progress task
  pub failed : some_failed ≡ list_any has_failed progress.endings
