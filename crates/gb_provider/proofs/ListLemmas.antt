-- Lists of operands, the first of which are known.
use Rattle.std.proofs.Common.{◌≡◌, ℕ, zero, suc, ◌<◌, ◌+◌, List, [], ◌∷◌, ◌++◌, length, refl, ap, ◌∙◌, arith, inl, inr, Bool, true, false, IsTrue}
use Rattle.std.specs.Borrow.{Bor}
use Rattle.std.specs.Option.{is_some, option_copied}
use Rattle.std.proofs.lemmas.Bool.{cases_lt}
use Rattle.gb_core.specs.declared.value.Value.{Value}
use Rattle.std.specs.Prelude.{Option, Some, None, slice_index}
use Rattle.gb_core.specs.declared.value.Value.TheVariants as values
use Rattle.gb_provider.specs.declared.expression.Outcome.{Outcome}
use Rattle.gb_provider.specs.declared.expression.Outcome.TheVariants.{Given, Absent, Refused}
use Rattle.gb_provider.specs.declared.produced.Produced.{Produced}
use Rattle.gb_provider.specs.declared.produced.Produced.TheVariants as produced
use Rattle.gb_provider.specs.declared.evaluation.Reading.TheVariants.{Waits}
use Rattle.gb_provider.specs.Produced.{carry_all, on_tasks}
use Rattle.gb_core.specs.Tasks.{with_tasks}
use Rattle.gb_provider.specs.Rounds.{Rule, Answers, Reads, reading}
use Rattle.gb_provider.specs.Rules.{list_rule, listed, on_text, on_value}
use Rattle.gb_provider.specs.Search.{AreBefore, ReadsAfter, IsPast, has_tasks, is_given}
use Rattle.gb_provider.proofs.RoundsLemmas.{after_is}

module _ {A : Type 0} (f : ℕ → Option A) (operand : ℕ) where
  no_reads : (n : ℕ) (a : A) → ReadsAfter f operand n (Answers a) → ⊥
  no_reads zero a reads = reads
  no_reads (suc n) a reads = reads

  -- a rule waits for an operand that it reads and that is not known
  pub reads_wait : (n : ℕ) (rule : Rule ℕ A) → ReadsAfter f operand n rule → f operand ≡ None → reading f rule ≡ Waits operand
  reads_wait n (Answers a) reads none = absurd (no_reads n a reads)
  reads_wait zero (Reads next_operand next) reads none =
      after_is next_operand (λ a. reading f (next a)) (f next_operand) None (ap f reads ∙ none) ∙ ap Waits reads
  reads_wait (suc n) (Reads next_operand next) reads none =
      after_is next_operand (λ a. reading f (next a)) (f next_operand) (Some reads.0) reads.1 ∙ reads_wait n (next reads.0) reads.2 none

  -- and the operands before that one need not be read again
  pub reads_past : (n : ℕ) (rule : Rule ℕ A) → ReadsAfter f operand n rule → IsPast f n rule
  reads_past zero rule reads = tt
  reads_past (suc n) rule reads = (operand, reads)

pub none_before : (passes : ℕ → Bool) (operands : List ℕ) → AreBefore passes operands 0
none_before passes operands i less below = absurd (omega arith)

one_more_before : (passes : ℕ → Bool) (operand : ℕ) (operands : List ℕ) (n : ℕ) → IsTrue (passes operand) → AreBefore passes operands n → AreBefore passes (operand ∷ operands) (suc n)
one_more_before passes operand operands n first rest zero less below = first
one_more_before passes operand operands n first rest (suc i) less below = rest i (omega arith) (omega arith)

rest_before : (passes : ℕ → Bool) (operand : ℕ) (operands : List ℕ) (n : ℕ) → AreBefore passes (operand ∷ operands) (suc n) → AreBefore passes operands n
rest_before passes operand operands n all i less below = all (suc i) (omega arith) (omega arith)

module _ (f : ℕ → Option Outcome) where
  given_of : (o : Option Outcome) → IsTrue (is_given o) → (value : Value) × (o ≡ Some (Given value))
  given_of (Some (Given value)) is = (value, refl)
  given_of (Some Absent) is = cc
  given_of (Some (Refused fault)) is = cc
  given_of None is = cc

  -- the operands read after an element, whatever value it is
  reads_after : (operand n : ℕ) (go_on : List ℕ → Rule ℕ Outcome) (other : Rule ℕ Outcome) → ((text : List ℕ) → ReadsAfter f operand n (go_on text)) → ReadsAfter f operand n other → (value : Value) → ReadsAfter f operand n (on_text go_on other value)
  reads_after operand n go_on other all also (values.Text text) = all text
  reads_after operand n go_on other all also (values.Flag flag) = also
  reads_after operand n go_on other all also (values.List texts) = also
  reads_after operand n go_on other all also (values.Place place) = also
  reads_after operand n go_on other all also (values.Task task) = also

  -- after elements that are values a list reads the next
  pub texts_read : (operands : List ℕ) (is_wrong : Bool) (texts : List (List ℕ)) (n : ℕ) → AreBefore (λ o. is_given (f o)) operands n → n < length operands → ReadsAfter f (slice_index operands n) n (list_rule is_wrong texts operands)
  texts_read [] is_wrong texts n all below = absurd (omega arith)
  texts_read (operand ∷ operands) is_wrong texts zero all below = refl
  texts_read (operand ∷ operands) is_wrong texts (suc n) all below =
      let first = given_of (f operand) (all 0 (omega arith) (omega arith)) in
      let rest = rest_before (λ o. is_given (f o)) operand operands n all in
      (Given first.0, first.1, reads_after (slice_index operands n) n (λ text. list_rule is_wrong (texts ++ text ∷ []) operands) (list_rule true texts operands) (λ text. texts_read operands is_wrong (texts ++ text ∷ []) n rest (omega arith)) (texts_read operands true texts n rest (omega arith)) first.0)

  reads_texts : (operands : List ℕ) (is_wrong : Bool) (texts : List (List ℕ)) (operand n : ℕ) → ReadsAfter f operand n (list_rule is_wrong texts operands) → AreBefore (λ o. is_given (f o)) operands n
  reads_texts [] is_wrong texts operand n reads = absurd (no_reads f operand n (listed is_wrong texts) reads)
  reads_texts (first ∷ operands) is_wrong texts operand zero reads = none_before (λ o. is_given (f o)) (first ∷ operands)
  reads_texts (first ∷ operands) is_wrong texts operand (suc n) reads =
      (elim reads.0 as (λ a. f first ≡ Some a → ReadsAfter f operand n (on_value (on_text (λ text. list_rule is_wrong (texts ++ text ∷ []) operands) (list_rule true texts operands)) a) → AreBefore (λ o. is_given (f o)) (first ∷ operands) (suc n)) [
        | Given value ↦
            elim value as (λ v. f first ≡ Some (Given v) → ReadsAfter f operand n (on_text (λ text. list_rule is_wrong (texts ++ text ∷ []) operands) (list_rule true texts operands) v) → AreBefore (λ o. is_given (f o)) (first ∷ operands) (suc n)) [
              | values.Text text ↦ λ is rest. one_more_before (λ o. is_given (f o)) first operands n (ap is_given is) (reads_texts operands is_wrong (texts ++ text ∷ []) operand n rest)
              | values.Flag flag ↦ λ is rest. one_more_before (λ o. is_given (f o)) first operands n (ap is_given is) (reads_texts operands true texts operand n rest)
              | values.List more ↦ λ is rest. one_more_before (λ o. is_given (f o)) first operands n (ap is_given is) (reads_texts operands true texts operand n rest)
              | values.Place place ↦ λ is rest. one_more_before (λ o. is_given (f o)) first operands n (ap is_given is) (reads_texts operands true texts operand n rest)
              | values.Task task ↦ λ is rest. one_more_before (λ o. is_given (f o)) first operands n (ap is_given is) (reads_texts operands true texts operand n rest)
            ]
        | Absent ↦ λ is rest. absurd (no_reads f operand n Absent rest)
        | Refused fault ↦ λ is rest. absurd (no_reads f operand n (Refused fault) rest)
      ]) reads.1 reads.2

  -- the elements that need not be read again are values
  pub past_texts : (operands : List ℕ) (n : ℕ) → IsPast f n (list_rule false [] operands) → AreBefore (λ o. is_given (f o)) operands n
  past_texts operands zero past = none_before (λ o. is_given (f o)) operands
  past_texts operands (suc n) past = reads_texts operands false [] past.0 (suc n) past.1

module _ (f : ℕ → Option (Produced ℕ)) where
  tasks_of : (o : Option (Produced ℕ)) → IsTrue (has_tasks o) → (tasks : List (List ℕ)) × (o ≡ Some (produced.Tasks tasks))
  tasks_of (Some (produced.Tasks tasks)) is = (tasks, refl)
  tasks_of (Some (produced.Refused fault)) is = cc
  tasks_of (Some (produced.Endless chooser)) is = cc
  tasks_of None is = cc

  -- after operands whose tasks are known the next is read
  pub tasks_read : (operands : List ℕ) (tasks : List (List ℕ)) (n : ℕ) → AreBefore (λ o. has_tasks (f o)) operands n → n < length operands → ReadsAfter f (slice_index operands n) n (carry_all tasks operands)
  tasks_read [] tasks n all below = absurd (omega arith)
  tasks_read (operand ∷ operands) tasks zero all below = refl
  tasks_read (operand ∷ operands) tasks (suc n) all below =
      let first = tasks_of (f operand) (all 0 (omega arith) (omega arith)) in
      (produced.Tasks first.0, first.1, tasks_read operands (with_tasks tasks first.0) n (rest_before (λ o. has_tasks (f o)) operand operands n all) (omega arith))

  reads_tasks : (operands : List ℕ) (tasks : List (List ℕ)) (operand n : ℕ) → ReadsAfter f operand n (carry_all tasks operands) → AreBefore (λ o. has_tasks (f o)) operands n
  reads_tasks [] tasks operand n reads = absurd (no_reads f operand n (produced.Tasks tasks) reads)
  reads_tasks (first ∷ operands) tasks operand zero reads = none_before (λ o. has_tasks (f o)) (first ∷ operands)
  reads_tasks (first ∷ operands) tasks operand (suc n) reads =
      (elim reads.0 as (λ a. f first ≡ Some a → ReadsAfter f operand n (on_tasks (λ more. carry_all (with_tasks tasks more) operands) a) → AreBefore (λ o. has_tasks (f o)) (first ∷ operands) (suc n)) [
        | produced.Tasks more ↦ λ is rest. one_more_before (λ o. has_tasks (f o)) first operands n (ap has_tasks is) (reads_tasks operands (with_tasks tasks more) operand n rest)
        | produced.Refused fault ↦ λ is rest. absurd (no_reads f operand n (produced.Refused fault) rest)
        | produced.Endless chooser ↦ λ is rest. absurd (no_reads f operand n (produced.Endless chooser) rest)
      ]) reads.1 reads.2

  pub past_tasks : (operands : List ℕ) (n : ℕ) → IsPast f n (carry_all [] operands) → AreBefore (λ o. has_tasks (f o)) operands n
  past_tasks operands zero past = none_before (λ o. has_tasks (f o)) operands
  past_tasks operands (suc n) past = reads_tasks operands [] past.0 (suc n) past.1

-- one more operand that passes
pub before_grown : (passes : ℕ → Bool) (operands : List ℕ) (n m : ℕ) → m ≡ n + 1 → AreBefore passes operands n → IsTrue (passes (slice_index operands n)) → AreBefore passes operands m
before_grown passes operands n m next all last i less below =
    elim (cases_lt i n) [
      | inl old ↦ all i old below
      | inr past ↦ let same : i ≡ n = omega arith in rw same last
    ]

pub none_copied : {A : Type 0} (o : Option (Bor A)) → is_some o ≡ false → option_copied o ≡ None
none_copied None none = refl
none_copied (Some a) none = cc
