-- A search for the answer of one entry.
use Rattle.std.specs.Prelude.{◌≡◌, ◌≢◌, ℕ, ◌+◌, ◌<◌, List, length, Option, Some, None, Result, Ok, Err, Vec}
use Rattle.std.specs.Prelude.{drop, slice_get, slice_index, sum_by, Bool, true, false, IsTrue}
use Rattle.gb_provider.specs.declared.expression.Outcome.{Outcome}
use Rattle.gb_provider.specs.declared.expression.Outcome.TheVariants.{Given, Absent, Refused}
use Rattle.gb_provider.specs.declared.produced.Produced.{Produced}
use Rattle.gb_provider.specs.declared.produced.Produced.TheVariants as produced
use Rattle.std.specs.declared.alloc.Global.{Global}
use Rattle.std.specs.declared.alloc.AllocError.{AllocError}
use Rattle.gb_provider.specs.Circle.{IsCircle}
use Rattle.gb_provider.specs.declared.evaluation.State.{State}
use Rattle.gb_provider.specs.declared.evaluation.State.TheVariants.{New, Open, Known}
use Rattle.gb_provider.specs.declared.evaluation.Reading.{Reading}
use Rattle.gb_provider.specs.declared.evaluation.Reading.TheVariants.{Settles, Waits}
use Rattle.std.proofs.Common.{zero, suc}
use Rattle.gb_provider.specs.Rounds.{Rule, Answers, Reads, reading, answer, and_then}

-- the answer of an entry, if it is known
abbrev pub known_answer : {A : Type 0} → State A → Option A
known_answer New = None
known_answer Open = None
known_answer (Known a) = Some a

abbrev pub known : {A : Type 0} → List (State A) → ℕ → Option A
known states entry = and_then known_answer (slice_get states entry)

-- an evaluation step waits for one of the first n
abbrev pub WaitsWithin : {A : Type 0} → ℕ → Reading ℕ A → Type 0
WaitsWithin n (Settles a) = Unit {0}
WaitsWithin n (Waits operand) = operand < n

-- with the answers f, the rule of an entry waits for an operand
pub record WaitsFor {A : Type 0} (rules : List (Rule ℕ A)) (f : ℕ → Option A)
    (entry operand : ℕ) : Type 0 where
  pub rule : Rule ℕ A
  pub there : slice_get rules entry ≡ Some rule
  pub waits : reading f rule ≡ Waits operand

-- the result of one evaluation step of an entry, with the answers f
abbrev pub IsLook : {A : Type 0} → List (Rule ℕ A) → (ℕ → Option A) → ℕ → Reading ℕ A → Type 0
IsLook {A} rules f entry found =
    (rule : Rule ℕ A) × (slice_get rules entry ≡ Some rule) × (found ≡ reading f rule)

-- each answer that is known follows from others that are known
abbrev pub AreSettled : {A : Type 0} → List (Rule ℕ A) → List (State A) → Type 0
AreSettled {A} rules states =
    (e : ℕ) (a : A) → known states e ≡ Some a
    → (rule : Rule ℕ A) × (slice_get rules e ≡ Some rule) × (reading (known states) rule ≡ Settles a)

-- each known answer is right and is based on known answers, and the open entries are a path on
-- which each waits for the next
pub record IsSearch {A : Type 0} (rules : List (Rule ℕ A)) (entry : ℕ) (states : List (State A))
    (path : List ℕ) : Type 0 where
  pub same : length states ≡ length rules
  pub right : (e : ℕ) (a : A) → known states e ≡ Some a → answer rules e ≡ Some a
  pub settled : AreSettled rules states
  pub first : 0 < length path → slice_index path 0 ≡ entry
  pub done : length path ≡ 0 → (a : A) × (known states entry ≡ Some a)
  pub opened : (k : ℕ) → k < length path → slice_get states (slice_index path k) ≡ Some Open
  pub waits : (k : ℕ) → k + 1 < length path
      → WaitsFor rules (known states) (slice_index path k) (slice_index path (k + 1))
  pub different : (i j : ℕ) → i < j → j < length path → slice_index path i ≢ slice_index path j
  pub listed : (e : ℕ) → slice_get states e ≡ Some Open
      → (k : ℕ) × (k < length path) × (slice_index path k ≡ e)

-- each known answer is right and is based on known answers, and no entry is being evaluated
pub record IsSound {A : Type 0} (rules : List (Rule ℕ A)) (states : List (State A)) : Type 0 where
  pub right : (e : ℕ) (a : A) → known states e ≡ Some a → answer rules e ≡ Some a
  pub settled : AreSettled rules states
  pub closed : (e : ℕ) → slice_get states e ≢ Some Open

-- the result of an evaluation of an entry: its answer is known, or it runs into a circle
abbrev pub IsEvaluated : {A : Type 0} → List (Rule ℕ A) → ℕ → List (State A)
    → Result (Option (Vec ℕ Global)) AllocError → Type 0
IsEvaluated {A} rules entry states (Ok None) =
    (length states ≡ length rules) × IsSound rules states × ((a : A) × (known states entry ≡ Some a))
IsEvaluated rules entry states (Ok (Some circle)) =
    (answer rules entry ≡ None) × IsCircle rules entry circle.items
IsEvaluated rules entry states (Err failed) = Unit {0}

-- the end of a path, from the position of the operand on
abbrev pub IsPathEnd : List ℕ → ℕ → Result (Option (Vec ℕ Global)) AllocError → Type 0
IsPathEnd path operand (Ok (Some circle)) =
    (k : ℕ) × (k < length path) × (slice_index path k ≡ operand) × (circle.items ≡ drop k path)
IsPathEnd path operand (Ok None) = ⊥
IsPathEnd path operand (Err failed) = Unit {0}

-- how much is left to do at an entry
abbrev pub left_at : {A : Type 0} → State A → ℕ
left_at New = 2
left_at Open = 1
left_at (Known a) = 0

abbrev pub left : {A : Type 0} → List (State A) → ℕ
left states = sum_by left_at states

-- after n operands that are known, a rule reads this one
abbrev pub ReadsAfter : {A : Type 0} → (ℕ → Option A) → ℕ → ℕ → Rule ℕ A → Type 0
ReadsAfter f operand n (Answers a) = ⊥
ReadsAfter f operand zero (Reads next_operand next) = next_operand ≡ operand
ReadsAfter {A} f operand (suc n) (Reads next_operand next) =
    (a : A) × (f next_operand ≡ Some a) × ReadsAfter f operand n (next a)

-- the first n operands of a rule are known, and do not decide its answer yet
abbrev pub IsPast : {A : Type 0} → (ℕ → Option A) → ℕ → Rule ℕ A → Type 0
IsPast f zero rule = Unit {0}
IsPast f (suc n) rule = (operand : ℕ) × ReadsAfter f operand (suc n) rule

-- the same of the rule of an entry
abbrev pub IsPastAt : {A : Type 0} → List (Rule ℕ A) → (ℕ → Option A) → ℕ → ℕ → Type 0
IsPastAt {A} rules f entry n = (rule : Rule ℕ A) → slice_get rules entry ≡ Some rule → IsPast f n rule

-- the first n operands pass
abbrev pub AreBefore : (ℕ → Bool) → List ℕ → ℕ → Type 0
AreBefore passes operands n = (i : ℕ) → i < n → i < length operands → IsTrue (passes (slice_index operands i))

-- an answer that is a value
abbrev pub is_given : Option Outcome → Bool
is_given (Some (Given value)) = true
is_given (Some Absent) = false
is_given (Some (Refused fault)) = false
is_given None = false

-- an answer that has tasks
abbrev pub has_tasks : Option (Produced ℕ) → Bool
has_tasks (Some (produced.Tasks tasks)) = true
has_tasks (Some (produced.Refused fault)) = false
has_tasks (Some (produced.Endless chooser)) = false
has_tasks None = false
