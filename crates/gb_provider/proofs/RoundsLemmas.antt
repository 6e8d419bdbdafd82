-- The rounds go forward only, and are over after as many as the table has entries.
use Rattle.std.proofs.Common.{◌≡◌, ℕ, zero, suc, ◌+◌, ◌<◌, ◌≤◌, List, length, refl, ◌∙◌, ap, subst, inl, inr, arith}
use Rattle.std.specs.Prelude.{Option, Some, None, slice_get, ◌⊎◌}
use Rattle.std.proofs.lemmas.Bool.{cases_lt}
use Rattle.std.proofs.lemmas.Option.{slice_get_within}
use Rattle.gb_provider.specs.Rounds.{Rule, Answers, Reads, after_operand, reading, settled, and_then, answer_after, answer}
use Rattle.gb_provider.specs.declared.evaluation.Reading.{Reading}
use Rattle.gb_provider.specs.declared.evaluation.Reading.TheVariants.{Settles, Waits}

-- g has each answer that f has
pub record Extends {A : Type 0} (f g : ℕ → Option A) : Type 0 where
  pub keeps : (entry : ℕ) (a : A) → f entry ≡ Some a → g entry ≡ Some a

module _ {A : Type 0} where
  pub after_is : (operand : ℕ) (go_on : A → Reading ℕ A) (o p : Option A) → o ≡ p → after_operand operand go_on o ≡ after_operand operand go_on p
  after_is operand go_on o p e = ap (after_operand operand go_on) e

  pub settled_is : (r : Reading ℕ A) (a : A) → settled r ≡ Some a → r ≡ Settles a
  settled_is (Settles b) a e = cc
  settled_is (Waits s) a e = cc

module _ {A : Type 0} (f g : ℕ → Option A) (x : Extends f g) where
  kept_at : (operand : ℕ) (next : A → Rule ℕ A) (a : A) → ((b : A) → reading f (next b) ≡ Settles a → reading g (next b) ≡ Settles a) → (o : Option A) → f operand ≡ o → after_operand operand (λ b. reading f (next b)) o ≡ Settles a → after_operand operand (λ b. reading g (next b)) (g operand) ≡ Settles a
  kept_at operand next a ih None was e = cc
  kept_at operand next a ih (Some b) was e = after_is operand (λ c. reading g (next c)) (g operand) (Some b) (x.keeps operand b was) ∙ ih b e

  -- a rule that settles keeps settling
  pub reading_kept : (rule : Rule ℕ A) (a : A) → reading f rule ≡ Settles a → reading g rule ≡ Settles a
  reading_kept (Answers b) a e = e
  reading_kept (Reads operand next) a e = kept_at operand next a (λ b. reading_kept (next b) a) (f operand) refl e

  waits_at : (operand : ℕ) (next : A → Rule ℕ A) (s : ℕ) → ((b : A) → reading f (next b) ≡ Waits s → g s ≡ None → reading g (next b) ≡ Waits s) → (o : Option A) → f operand ≡ o → after_operand operand (λ b. reading f (next b)) o ≡ Waits s → g s ≡ None → after_operand operand (λ b. reading g (next b)) (g operand) ≡ Waits s
  waits_at operand next s ih None was e none =
      let same : operand ≡ s = cc in
      after_is operand (λ c. reading g (next c)) (g operand) None (ap g same ∙ none) ∙ ap Waits same
  waits_at operand next s ih (Some b) was e none = after_is operand (λ c. reading g (next c)) (g operand) (Some b) (x.keeps operand b was) ∙ ih b e none

  -- a rule that waits keeps waiting for the same operand, while that has no answer
  pub reading_waits : (rule : Rule ℕ A) (s : ℕ) → reading f rule ≡ Waits s → g s ≡ None → reading g rule ≡ Waits s
  reading_waits (Answers b) s e none = cc
  reading_waits (Reads operand next) s e none = waits_at operand next s (λ b. reading_waits (next b) s) (f operand) refl e none

module _ {A : Type 0} (f g h : ℕ → Option A) (x : Extends f h) (y : Extends g h) where
  still_at : (operand : ℕ) (next : A → Rule ℕ A) (s : ℕ) → ((b : A) → reading f (next b) ≡ Waits s → g s ≡ None → settled (reading g (next b)) ≡ None) → (o p : Option A) → f operand ≡ o → g operand ≡ p → after_operand operand (λ b. reading f (next b)) o ≡ Waits s → g s ≡ None → settled (after_operand operand (λ b. reading g (next b)) p) ≡ None
  still_at operand next s ih o None was is e none = refl
  still_at operand next s ih None (Some c) was is e none =
      let same : operand ≡ s = cc in
      let clash : g operand ≡ None = ap g same ∙ none in cc
  still_at operand next s ih (Some b) (Some c) was is e none =
      let left = x.keeps operand b was in
      let right = y.keeps operand c is in
      let same : b ≡ c = cc in
      ih c (subst (λ d. reading f (next d) ≡ Waits s) same e) none

  -- of two tables of right answers: if a rule waits for s in one, it does not settle in the other while s has
  -- no answer there
  pub reading_still_waits : (rule : Rule ℕ A) (s : ℕ) → reading f rule ≡ Waits s → g s ≡ None → settled (reading g rule) ≡ None
  reading_still_waits (Answers b) s e none = cc
  reading_still_waits (Reads operand next) s e none = still_at operand next s (λ b. reading_still_waits (next b) s) (f operand) (g operand) refl refl e none

-- one round
abbrev pub round : {A : Type 0} → List (Rule ℕ A) → (ℕ → Option A) → ℕ → Option A
round rules f entry = and_then (λ rule. settled (reading f rule)) (slice_get rules entry)

module _ {A : Type 0} (rules : List (Rule ℕ A)) where
  round_at : (f g : ℕ → Option A) → Extends f g → (o : Option (Rule ℕ A)) (a : A) → and_then (λ rule. settled (reading f rule)) o ≡ Some a → and_then (λ rule. settled (reading g rule)) o ≡ Some a
  round_at f g x None a e = cc
  round_at f g x (Some rule) a e = ap settled (reading_kept f g x rule a (settled_is (reading f rule) a e))

  pub round_extends : (f g : ℕ → Option A) → Extends f g → Extends (round rules f) (round rules g)
  round_extends f g x = record { keeps = λ entry a e. round_at f g x (slice_get rules entry) a e }

  -- no answer is lost in a round
  pub next_extends : (n : ℕ) → Extends (answer_after rules n) (answer_after rules (suc n))
  next_extends zero = record { keeps = λ entry a e. cc }
  next_extends (suc n) = round_extends (answer_after rules n) (answer_after rules (suc n)) (next_extends n)

  -- ever more rounds lose no answer
  pub later_extends : (m n : ℕ) → n ≤ m → Extends (answer_after rules n) (answer_after rules m)
  later_extends zero n le = let same : n ≡ zero = omega arith in rw same (record { keeps = λ entry a e. e })
  later_extends (suc m) n le =
      elim (cases_lt m n) [
        | inl more ↦ let same : n ≡ suc m = omega arith in rw same (record { keeps = λ entry a e. e })
        | inr fits ↦ record { keeps = λ entry a e. (next_extends m).keeps entry a ((later_extends m n fits).keeps entry a e) }
      ]

module _ {A : Type 0} where
  waiting : Option A → ℕ
  waiting None = 1
  waiting (Some a) = 0

  -- how many of the first k entries have no answer
  pub missing : (ℕ → Option A) → ℕ → ℕ
  missing f zero = 0
  missing f (suc k) = waiting (f k) + missing f k

  waiting_le : (o p : Option A) → ((a : A) → o ≡ Some a → p ≡ Some a) → waiting p ≤ waiting o
  unfolding waiting
  waiting_le None None keeps = omega arith
  waiting_le None (Some b) keeps = omega arith
  waiting_le (Some a) None keeps = let clash = keeps a refl in cc
  waiting_le (Some a) (Some b) keeps = omega arith

  same_waiting : (o p : Option A) → waiting p ≡ waiting o → o ≡ None → p ≡ None
  unfolding waiting
  same_waiting None None same e = refl
  same_waiting None (Some b) same e = absurd (omega arith)
  same_waiting (Some a) p same e = cc

  waiting_at_most : (o : Option A) → waiting o ≤ 1
  unfolding waiting
  waiting_at_most None = omega arith
  waiting_at_most (Some a) = omega arith

  pub missing_at_most : (f : ℕ → Option A) (k : ℕ) → missing f k ≤ k
  unfolding missing
  missing_at_most f zero = omega arith
  missing_at_most f (suc k) = omega (arith, missing_at_most f k, waiting_at_most (f k))

module _ {A : Type 0} (f g : ℕ → Option A) (x : Extends f g) where
  pub missing_falls : (k : ℕ) → missing g k ≤ missing f k
  unfolding missing
  missing_falls zero = omega arith
  missing_falls (suc k) = omega (arith, missing_falls k, waiting_le (f k) (g k) (x.keeps k))

  pub same_missing : (k : ℕ) → missing g k ≡ missing f k → (i : ℕ) → i < k → f i ≡ None → g i ≡ None
  unfolding missing
  same_missing zero same i below none = absurd (omega arith)
  same_missing (suc k) same i below none =
      let one = waiting_le (f k) (g k) (x.keeps k) in
      let rest = missing_falls k in
      let here : waiting (g k) ≡ waiting (f k) = omega arith in
      let there : missing g k ≡ missing f k = omega arith in
      elim (cases_lt i k) [
        | inl less ↦ same_missing k there i less none
        | inr past ↦ let at : i ≡ k = omega arith in rw at (same_waiting (f k) (g k) here (rw at at none))
      ]

module _ {A : Type 0} (rules : List (Rule ℕ A)) where
  -- n rounds that each answer something new leave at most the rest open; else some round was idle
  progress : (n : ℕ) → (missing (answer_after rules n) (length rules) + n ≤ length rules) ⊎ ((m : ℕ) × (m < n) × (missing (answer_after rules (suc m)) (length rules) ≡ missing (answer_after rules m) (length rules)))
  progress zero = inl (omega (arith, missing_at_most (answer_after rules zero) (length rules)))
  progress (suc n) =
      elim (progress n) [
        | inl fits ↦
            elim (cases_lt (missing (answer_after rules (suc n)) (length rules)) (missing (answer_after rules n) (length rules))) [
              | inl less ↦ inl (omega arith)
              | inr past ↦ inr (n, omega arith, omega (arith, missing_falls (answer_after rules n) (answer_after rules (suc n)) (next_extends rules n) (length rules)))
            ]
        | inr idle ↦ inr (idle.0, omega (arith, idle.1), idle.2)
      ]

  round_past : (f : ℕ → Option A) (entry : ℕ) (o : Option (Rule ℕ A)) (a : A) → and_then (λ rule. settled (reading f rule)) o ≡ Some a → (rule : Rule ℕ A) × (o ≡ Some rule)
  round_past f entry None a e = cc
  round_past f entry (Some rule) a e = (rule, refl)

  -- an entry that has an answer is in the table
  pub answered_within : (n entry : ℕ) (a : A) → answer_after rules n entry ≡ Some a → entry < length rules
  answered_within zero entry a e = cc
  answered_within (suc n) entry a e = let found = round_past (answer_after rules n) entry (slice_get rules entry) a e in slice_get_within rules entry found.0 found.1

  module _ (m : ℕ) (idle : missing (answer_after rules (suc m)) (length rules) ≡ missing (answer_after rules m) (length rules)) where
    idle_at : (entry : ℕ) (a : A) (o : Option A) → answer_after rules m entry ≡ o → answer_after rules (suc m) entry ≡ Some a → o ≡ Some a
    idle_at entry a None was e =
        let none = same_missing (answer_after rules m) (answer_after rules (suc m)) (next_extends rules m) (length rules) idle entry (answered_within (suc m) entry a e) was in cc
    idle_at entry a (Some b) was e = let kept = (next_extends rules m).keeps entry b was in cc

    -- after an idle round nothing changes
    idle_next : Extends (answer_after rules (suc m)) (answer_after rules m)
    idle_next = record { keeps = λ entry a e. idle_at entry a (answer_after rules m entry) refl e }

    idle_later : (n : ℕ) → m ≤ n → Extends (answer_after rules n) (answer_after rules m)
    idle_later zero le = let same : m ≡ zero = omega arith in rw same (record { keeps = λ entry a e. e })
    idle_later (suc n) le =
        elim (cases_lt n m) [
          | inl more ↦ let same : m ≡ suc n = omega arith in rw same (record { keeps = λ entry a e. e })
          | inr fits ↦
              let past = round_extends rules (answer_after rules n) (answer_after rules m) (idle_later n fits) in
              record { keeps = λ entry a e. idle_next.keeps entry a (past.keeps entry a e) }
        ]

  -- an answer that exists at all exists within as many rounds as the table has entries
  pub answer_found : (n : ℕ) → Extends (answer_after rules n) (answer rules)
  answer_found n =
      elim (cases_lt (length rules) n) [
        | inr fits ↦ later_extends rules (length rules) n fits
        | inl more ↦
            elim (progress (suc (length rules))) [
              | inl past ↦ absurd (omega arith)
              | inr idle ↦
                  let back = idle_later idle.0 idle.2 n (omega (arith, idle.1)) in
                  let on = later_extends rules (length rules) idle.0 (omega (arith, idle.1)) in
                  record { keeps = λ entry a e. on.keeps entry a (back.keeps entry a e) }
            ]
      ]

  none_at : (entry : ℕ) → answer rules entry ≡ None → (n : ℕ) (o : Option A) → answer_after rules n entry ≡ o → o ≡ None
  none_at entry none n None is = refl
  none_at entry none n (Some a) is = let found = (answer_found n).keeps entry a is in cc

  -- without an answer by then there never is one
  pub none_bounded : (entry : ℕ) → answer rules entry ≡ None → (n : ℕ) → answer_after rules n entry ≡ None
  none_bounded entry none n = none_at entry none n (answer_after rules n entry) refl
