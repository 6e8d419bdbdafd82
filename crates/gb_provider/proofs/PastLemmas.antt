-- Operands that need not be read again.
use Rattle.std.proofs.Common.{◌≡◌, ℕ, zero, suc, List, [], ◌∷◌, ◌++◌, sym, ap, ◌∙◌, inl, inr, set}
use Rattle.std.specs.Prelude.{Option, Some, None, slice_get}
use Rattle.std.proofs.lemmas.Bool.{cases_eq}
use Rattle.gb_provider.specs.Rounds.{Rule, Answers, Reads, and_then}
use Rattle.gb_provider.specs.Search.{ReadsAfter, IsPast, IsPastAt, known, known_answer}
use Rattle.gb_provider.specs.declared.evaluation.State.{State}
use Rattle.gb_provider.specs.declared.evaluation.State.TheVariants.{New, Open, Known}
use Rattle.gb_provider.proofs.RoundsLemmas.{Extends}
use Rattle.gb_provider.proofs.SearchLemmas.{get_set_other}

module _ {A : Type 0} (f g : ℕ → Option A) (x : Extends f g) where
  reads_kept : (operand n : ℕ) (rule : Rule ℕ A) → ReadsAfter f operand n rule → ReadsAfter g operand n rule
  reads_kept operand zero (Answers a) reads = absurd reads
  reads_kept operand (suc n) (Answers a) reads = absurd reads
  reads_kept operand zero (Reads next_operand next) reads = reads
  reads_kept operand (suc n) (Reads next_operand next) reads =
      (reads.0, x.keeps next_operand reads.0 reads.1, reads_kept operand n (next reads.0) reads.2)

  past_kept : (n : ℕ) (rule : Rule ℕ A) → IsPast f n rule → IsPast g n rule
  past_kept zero rule past = tt
  past_kept (suc n) rule past = (past.0, reads_kept past.0 (suc n) rule past.1)

  -- more answers leave them as they are
  pub past_at_kept : (rules : List (Rule ℕ A)) (entry n : ℕ) → IsPastAt rules f entry n → IsPastAt rules g entry n
  past_at_kept rules entry n past rule there = past_kept n rule (past rule there)

-- the operands along a path that need not be read again
abbrev pub ArePast : {A : Type 0} → List (Rule ℕ A) → (ℕ → Option A) → List ℕ → List ℕ → Type 0
ArePast rules f [] [] = Unit {0}
ArePast rules f [] (n ∷ pasts) = ⊥
ArePast rules f (entry ∷ path) [] = ⊥
ArePast rules f (entry ∷ path) (n ∷ pasts) = IsPastAt rules f entry n × ArePast rules f path pasts

module _ {A : Type 0} (rules : List (Rule ℕ A)) where
  pub are_past_kept : (f g : ℕ → Option A) → Extends f g → (path pasts : List ℕ) → ArePast rules f path pasts → ArePast rules g path pasts
  are_past_kept f g x [] [] past = tt
  are_past_kept f g x [] (n ∷ pasts) past = absurd past
  are_past_kept f g x (entry ∷ path) [] past = absurd past
  are_past_kept f g x (entry ∷ path) (n ∷ pasts) past = (past_at_kept f g x rules entry n past.0, are_past_kept f g x path pasts past.1)

  module _ (f : ℕ → Option A) where
    -- one more entry on the path
    pub past_pushed : (path pasts : List ℕ) (entry n : ℕ) → ArePast rules f path pasts → IsPastAt rules f entry n → ArePast rules f (path ++ entry ∷ []) (pasts ++ n ∷ [])
    past_pushed [] [] entry n past at = (at, tt)
    past_pushed [] (m ∷ pasts) entry n past at = absurd past
    past_pushed (e ∷ path) [] entry n past at = absurd past
    past_pushed (e ∷ path) (m ∷ pasts) entry n past at = (past.0, past_pushed path pasts entry n past.1 at)

    none_past : (e : ℕ) (path : List ℕ) (entry : ℕ) → ArePast rules f (path ++ entry ∷ []) [] → ⊥
    none_past e [] entry past = past
    none_past e (d ∷ path) entry past = past

    none_left : (n m : ℕ) (pasts : List ℕ) → ArePast rules f [] (n ∷ m ∷ pasts) → ⊥
    none_left n m pasts past = past

    -- one entry less
    pub past_popped : (path pasts : List ℕ) (entry n : ℕ) → ArePast rules f (path ++ entry ∷ []) (pasts ++ n ∷ []) → ArePast rules f path pasts × IsPastAt rules f entry n
    past_popped [] [] entry n past = (tt, past.0)
    past_popped [] (m ∷ []) entry n past = absurd past.1
    past_popped [] (m ∷ k ∷ pasts) entry n past = absurd past.1
    past_popped (e ∷ []) [] entry n past = absurd past.1
    past_popped (e ∷ d ∷ path) [] entry n past = absurd past.1
    past_popped (e ∷ path) (m ∷ pasts) entry n past = let rest = past_popped path pasts entry n past.1 in ((past.0, rest.0), rest.1)

  -- where an entry settles that had no answer, the others keep theirs
  pub settled_extends : (states : List (State A)) (at : ℕ) (a : A) → slice_get states at ≡ Some Open → Extends (known states) (known (set states at (Known a)))
  settled_extends states at a is_open = record {
    keeps = λ e b was.
        elim (cases_eq at e) [
          | inl same ↦ let none : known states e ≡ None = ap (known states) (sym same) ∙ ap (and_then known_answer) is_open in cc
          | inr other ↦ ap (and_then known_answer) (get_set_other states at e (Known a) other) ∙ was
        ];
  }

  -- and so where an entry is opened
  pub opened_extends : (states : List (State A)) (at : ℕ) → slice_get states at ≡ Some New → Extends (known states) (known (set states at Open))
  opened_extends states at is_new = record {
    keeps = λ e b was.
        elim (cases_eq at e) [
          | inl same ↦ let none : known states e ≡ None = ap (known states) (sym same) ∙ ap (and_then known_answer) is_new in cc
          | inr other ↦ ap (and_then known_answer) (get_set_other states at e Open other) ∙ was
        ];
  }
