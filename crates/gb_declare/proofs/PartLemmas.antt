-- A result in a part of a table is the result in the whole.
use Rattle.std.proofs.Common.{◌≡◌, ℕ, zero, suc, ◌<◌, List, length, refl, ◌∙◌, ap, sym, subst, inl, inr, arith}
use Rattle.std.specs.Prelude.{Option, Some, None, slice_get, ◌⊎◌}
use Rattle.std.proofs.lemmas.Option.{slice_get_cases}
use Rattle.gb_provider.proofs.RoundsLemmas.{after_is, settled_is, answer_found, none_bounded}
use Rattle.gb_provider.specs.Rounds.{Rule, Answers, Reads, after_operand, reading, settled, and_then, answer_after, answer}
use Rattle.gb_provider.specs.declared.evaluation.Reading.{Reading}
use Rattle.gb_provider.specs.declared.evaluation.Reading.TheVariants.{Settles}
use Rattle.gb_declare.specs.Parts.{IsLike, ArePart, PartsAnswer, PartsAreEndless}

module _ {A : Type 0} where
  same_settled : (a b : A) → ◌≡◌ {A = Reading ℕ A} (Settles a) (Settles b) → a ≡ b
  same_settled a b e = cc

  same_answer : (a b : A) → Some a ≡ Some b → a ≡ b
  same_answer a b e = cc

-- each index within a list has an element
past_end : {X : Type 0} (xs : List X) (i : ℕ) → i < length xs → slice_get xs i ≡ None → ⊥
past_end xs i within none =
    elim (slice_get_cases xs i).1 [
      | inl here ↦ let found = here.2 in cc
      | inr past ↦ omega (arith, past.0)
    ]

module _ {A : Type 0} (size : ℕ) (number : ℕ → ℕ) (Pending : A → Type 0) (f g : ℕ → Option A) where
  -- a result in the part is the result in the whole, or pending
  abbrev pub Answered : Type 0
  Answered = (entry : ℕ) (a : A) → f entry ≡ Some a → Pending a ⊎ (g (number entry) ≡ Some a)

  -- what has a result in the whole has some result in the part
  abbrev pub Covered : Type 0
  Covered = (entry : ℕ) (b : A) → entry < size → g (number entry) ≡ Some b → (a : A) × (f entry ≡ Some a)

  -- a rule that passes on a pending result ends with it
  passed_on : (next : A → Rule ℕ A) (b : A) → next b ≡ Answers b → reading f (next b) ≡ Settles b
  passed_on next b passes = ap (reading f) passes

  module _ (answered : Answered) where
    settled_at : (operand operand' : ℕ) (next next' : A → Rule ℕ A) (a : A) → IsLike size number Pending (Reads operand next) (Reads operand' next')
        → ((b : A) → IsLike size number Pending (next b) (next' b) → reading f (next b) ≡ Settles a → Pending a ⊎ (reading g (next' b) ≡ Settles a))
        → (o : Option A) → f operand ≡ o → after_operand operand (λ b. reading f (next b)) o ≡ Settles a
        → Pending a ⊎ (after_operand operand' (λ b. reading g (next' b)) (g operand') ≡ Settles a)
    settled_at operand operand' next next' a like ih None was e = cc
    settled_at operand operand' next next' a like ih (Some b) was e =
        let out : Pending b → Pending a = λ pending. subst Pending (same_settled b a (sym (passed_on next b (like.2 b pending)) ∙ e)) pending in
        elim (answered operand b was) [
          | inl pending ↦ inl (out pending)
          | inr known ↦
              elim (like.3 b) [
                | inl pending ↦ inl (out pending)
                | inr on ↦
                    elim (ih b on e) [
                      | inl pending ↦ inl pending
                      | inr settles ↦ inr (after_is operand' (λ c. reading g (next' c)) (g operand') (Some b) (ap g like.1 ∙ known) ∙ settles)
                    ]
              ]
        ]

    -- if a rule of the part ends with a result, the rule of the whole ends with the same, or the result is
    -- pending
    pub settled_alike : (rule other : Rule ℕ A) (a : A) → IsLike size number Pending rule other → reading f rule ≡ Settles a → Pending a ⊎ (reading g other ≡ Settles a)
    settled_alike (Answers b) other a (inl pending) e = inl (subst Pending (same_settled b a e) pending)
    settled_alike (Answers b) other a (inr same) e = inr (ap (reading g) same ∙ e)
    settled_alike (Reads operand next) (Answers b) a like e = absurd like
    settled_alike (Reads operand next) (Reads operand' next') a like e =
        settled_at operand operand' next next' a like (λ b on. settled_alike (next b) (next' b) a on) (f operand) refl e

    module _ (covered : Covered) where
      covered_at : (operand operand' : ℕ) (next next' : A → Rule ℕ A) (a : A) → IsLike size number Pending (Reads operand next) (Reads operand' next')
          → ((b : A) → IsLike size number Pending (next b) (next' b) → reading g (next' b) ≡ Settles a → (c : A) × (reading f (next b) ≡ Settles c))
          → (o p : Option A) → f operand ≡ o → g operand' ≡ p → after_operand operand' (λ b. reading g (next' b)) p ≡ Settles a
          → (c : A) × (after_operand operand (λ b. reading f (next b)) o ≡ Settles c)
      covered_at operand operand' next next' a like ih o None was is e = cc
      covered_at operand operand' next next' a like ih None (Some d) was is e =
          let found = covered operand d like.0 (sym (ap g like.1) ∙ is) in
          let clash : None ≡ Some found.0 = sym was ∙ found.1 in cc
      covered_at operand operand' next next' a like ih (Some b) (Some d) was is e =
          let out : Pending b → (c : A) × (reading f (next b) ≡ Settles c) = λ pending. (b, passed_on next b (like.2 b pending)) in
          elim (answered operand b was) [
            | inl pending ↦ out pending
            | inr known ↦
                elim (like.3 b) [
                  | inl pending ↦ out pending
                  | inr on ↦
                      let same : d ≡ b = same_answer d b (sym is ∙ ap g like.1 ∙ known) in
                      ih b on (subst (λ x. reading g (next' x) ≡ Settles a) same e)
                ]
          ]

      -- where a rule of the whole ends, that of the part ends too
      pub covered_alike : (rule other : Rule ℕ A) (a : A) → IsLike size number Pending rule other → reading g other ≡ Settles a → (c : A) × (reading f rule ≡ Settles c)
      covered_alike (Answers b) other a like e = (b, refl)
      covered_alike (Reads operand next) (Answers b) a like e = absurd like
      covered_alike (Reads operand next) (Reads operand' next') a like e =
          covered_at operand operand' next next' a like (λ b on. covered_alike (next b) (next' b) a on) (f operand) (g operand') refl refl e

module _ {A : Type 0} (number : ℕ → ℕ) (Pending : A → Type 0) (part whole : List (Rule ℕ A)) (are : ArePart number Pending part whole) where
  module _ (f g : ℕ → Option A) (answered : Answered (length part) number Pending f g) where
    -- one round preserves it
    next_answered : (entry : ℕ) (a : A) (o : Option (Rule ℕ A)) → slice_get part entry ≡ o → and_then (λ rule. settled (reading f rule)) o ≡ Some a
        → Pending a ⊎ (and_then (λ rule. settled (reading g rule)) (slice_get whole (number entry)) ≡ Some a)
    next_answered entry a None is e = cc
    next_answered entry a (Some rule) is e =
        let found = are.like entry rule is in
        elim (settled_alike (length part) number Pending f g answered rule found.0 a found.2 (settled_is (reading f rule) a e)) [
          | inl pending ↦ inl pending
          | inr settles ↦ inr (ap (and_then (λ r. settled (reading g r))) found.1 ∙ ap settled settles)
        ]

    next_covered : Covered (length part) number Pending f g → (entry : ℕ) (b : A) (o : Option (Rule ℕ A)) → slice_get part entry ≡ o → entry < length part
        → and_then (λ rule. settled (reading g rule)) (slice_get whole (number entry)) ≡ Some b → (a : A) × (and_then (λ rule. settled (reading f rule)) o ≡ Some a)
    next_covered covered entry b None is within e = absurd (past_end part entry within is)
    next_covered covered entry b (Some rule) is within e =
        let found = are.like entry rule is in
        let here : settled (reading g found.0) ≡ Some b = sym (ap (and_then (λ r. settled (reading g r))) found.1) ∙ e in
        let settles = covered_alike (length part) number Pending f g answered covered rule found.0 b found.2 (settled_is (reading g found.0) b here) in
        (settles.0, ap settled settles.1)

  -- after as many rounds
  after_rounds : (n : ℕ) → Answered (length part) number Pending (answer_after part n) (answer_after whole n) × Covered (length part) number Pending (answer_after part n) (answer_after whole n)
  after_rounds zero = (λ entry a e. cc, λ entry b within e. cc)
  after_rounds (suc n) =
      let so_far = after_rounds n in (
        λ entry a e. next_answered (answer_after part n) (answer_after whole n) so_far.0 entry a (slice_get part entry) refl e,
        λ entry b within e. next_covered (answer_after part n) (answer_after whole n) so_far.0 so_far.1 entry b (slice_get part entry) refl within e,
      )

  -- a result in the part is the result in the whole, unless it is pending
  pub part_answers : (entry : ℕ) (a : A) → answer part entry ≡ Some a → Pending a ⊎ (answer whole (number entry) ≡ Some a)
  part_answers entry a e =
      elim ((after_rounds (length part)).0 entry a e) [
        | inl pending ↦ inl pending
        | inr known ↦ inr ((answer_found whole (length part)).keeps (number entry) a known)
      ]

  endless_at : (entry : ℕ) → entry < length part → answer part entry ≡ None → (o : Option A) → answer whole (number entry) ≡ o → o ≡ None
  endless_at entry within none None is = refl
  endless_at entry within none (Some b) is =
      let found = (after_rounds (length whole)).1 entry b within is in
      let never = none_bounded part entry none (length whole) in
      cc

  -- what never has a result in the part never has one in the whole
  pub part_is_endless : (entry : ℕ) → entry < length part → answer part entry ≡ None → answer whole (number entry) ≡ None
  part_is_endless entry within none = endless_at entry within none (answer whole (number entry)) refl

pub parts_answer : {A : Type 0} → PartsAnswer A
parts_answer number Pending part whole are entry a e = part_answers number Pending part whole are entry a e

pub parts_are_endless : {A : Type 0} → PartsAreEndless A
parts_are_endless number Pending part whole are entry within none = part_is_endless number Pending part whole are entry within none
