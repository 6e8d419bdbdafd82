-- Answers that depend on one another: each key has a rule, which reads the answers of other keys.
use Rattle.std.specs.Prelude.{ℕ, List, length, Option, Some, None, slice_get}
use Rattle.std.proofs.Common.{zero, suc}
use Rattle.gb_provider.specs.declared.evaluation.Reading.{Reading}
use Rattle.gb_provider.specs.declared.evaluation.Reading.TheVariants.{Settles, Waits}

-- The rule of a key: an answer, or an operand to read first, whose answer decides how to continue.
pub data Rule (K A : Type 0) : Type 0 where
  Answers : A → Rule K A
  Reads : K → (A → Rule K A) → Rule K A

abbrev pub and_then : {A B : Type 0} → (A → Option B) → Option A → Option B
and_then f None = None
and_then f (Some a) = f a

module _ {K A : Type 0} where
  abbrev pub after_operand : K → (A → Reading K A) → Option A → Reading K A
  after_operand operand go_on None = Waits operand
  after_operand operand go_on (Some a) = go_on a

  -- A rule, given these answers of the operands; `None` means not yet.
  abbrev pub reading : (K → Option A) → Rule K A → Reading K A
  reading answers (Answers a) = Settles a
  reading answers (Reads operand next) =
      after_operand operand (λ a. reading answers (next a)) (answers operand)

  abbrev pub settled : Reading K A → Option A
  settled (Settles a) = Some a
  settled (Waits operand) = None

  abbrev pub awaited : Reading K A → Option K
  awaited (Settles a) = None
  awaited (Waits operand) = Some operand

  -- The answer of a key after n rounds: there is none at first, and each round reads the
  -- operands as they were before it. A key without a rule has none.
  abbrev pub answer_in : (K → Option (Rule K A)) → ℕ → K → Option A
  answer_in rule zero key = None
  answer_in rule (suc n) key = and_then (λ r. settled (reading (answer_in rule n) r)) (rule key)

  -- The first operand of a key that has no answer among these.
  abbrev pub next_in : (K → Option (Rule K A)) → (K → Option A) → K → Option K
  next_in rule answers key = and_then (λ r. awaited (reading answers r)) (rule key)

module _ {A : Type 0} where
  -- The same of the rules of a table, whose keys are the numbers of its entries.
  abbrev pub answer_after : List (Rule ℕ A) → ℕ → ℕ → Option A
  answer_after rules n entry = answer_in (slice_get rules) n entry

  -- The answer of an entry, if it ever has one.
  abbrev pub answer : List (Rule ℕ A) → ℕ → Option A
  answer rules entry = answer_after rules (length rules) entry

  -- The first operand of an entry that never has an answer.
  abbrev pub next_awaited : List (Rule ℕ A) → ℕ → Option ℕ
  next_awaited rules entry = next_in (slice_get rules) (answer rules) entry
