-- The steps of a search.
use Rattle.std.proofs.Common.{◌≡◌, ◌≢◌, ℕ, zero, suc, ◌+◌, ◌-◌, ◌<◌, List, [], ◌∷◌, ◌++◌, length, refl, sym, ◌∙◌, ap, arith, inl, inr, get_or, set, length-append, length-set}
use Rattle.std.specs.Prelude.{Some, None, slice_get}
use Rattle.std.proofs.Math.ListN.{get_or-append}
use Rattle.std.proofs.Math.Seq.{get_or-append_seam}
use Rattle.std.proofs.lemmas.Bool.{cases_lt, cases_eq}
use Rattle.std.proofs.lemmas.Option.{slice_get_within, get_or_from_slice_get}
use Rattle.std.proofs.lemmas.List.Sums.{sum_by-set}
use Rattle.gb_provider.specs.declared.evaluation.State.{State}
use Rattle.gb_provider.specs.declared.evaluation.State.TheVariants.{New, Open, Known}
use Rattle.gb_provider.specs.declared.evaluation.Reading.TheVariants.{Settles, Waits}
use Rattle.gb_provider.specs.Rounds.{Rule, reading, answer, and_then}
use Rattle.gb_provider.specs.Search.{AreSettled, WaitsFor, IsSearch, IsSound, known, known_answer, left_at, left}
use Rattle.gb_provider.proofs.RoundsLemmas.{Extends, reading_kept, reading_waits}
use Rattle.gb_provider.proofs.CircleLemmas.{IsIndexedCircle, answer_settled, awaits, circle_of_index, never}
use Rattle.gb_provider.specs.Rounds.{next_awaited}
use Rattle.gb_provider.specs.Circle.{awaited_after, IsCircle}
use Rattle.std.proofs.lemmas.List.{get_or-drop, length-drop}
use Rattle.std.proofs.Common.{drop}

module _ {X : Type 0} where
  pub get_set_same : (xs : List X) (i : ℕ) (y : X) → i < length xs → slice_get (set xs i y) i ≡ Some y
  get_set_same [] i y below = absurd (omega arith)
  get_set_same (x ∷ xs) zero y below = refl
  get_set_same (x ∷ xs) (suc i) y below = get_set_same xs i y (omega arith)

  pub get_set_other : (xs : List X) (i j : ℕ) (y : X) → i ≢ j → slice_get (set xs i y) j ≡ slice_get xs j
  get_set_other [] i j y other = refl
  get_set_other (x ∷ xs) zero zero y other = absurd (other refl)
  get_set_other (x ∷ xs) zero (suc j) y other = refl
  get_set_other (x ∷ xs) (suc i) zero y other = refl
  get_set_other (x ∷ xs) (suc i) (suc j) y other = get_set_other xs i j y (λ same. other (ap suc same))

module _ {A : Type 0} (states : List (State A)) (at : ℕ) (o : A) (within : at < length states) where
  known_same : known (set states at (Known o)) at ≡ Some o
  known_same = ap (and_then known_answer) (get_set_same states at (Known o) within)

  known_other : (e : ℕ) → at ≢ e → known (set states at (Known o)) e ≡ known states e
  known_other e other = ap (and_then known_answer) (get_set_other states at e (Known o) other)

-- an entry that is opened is not yet known
known_opened : {A : Type 0} (states : List (State A)) (at : ℕ) → slice_get states at ≡ Some Open → known states at ≡ None
known_opened states at is = ap (and_then known_answer) is

known_new : {A : Type 0} (states : List (State A)) (at : ℕ) → slice_get states at ≡ Some New → known states at ≡ None
known_new states at is = ap (and_then known_answer) is

module _ {A : Type 0} (rules : List (Rule ℕ A)) (entry : ℕ) (states : List (State A)) (prefix : List ℕ) (at : ℕ) (search : IsSearch rules entry states (prefix ++ at ∷ [])) where
  longer : length (prefix ++ at ∷ []) ≡ length prefix + 1
  longer = simp length-append refl

  top : get_or (prefix ++ at ∷ []) (length prefix) 0 ≡ at
  top = get_or-append_seam prefix at [] 0

  below_top : (k : ℕ) → k < length prefix → get_or (prefix ++ at ∷ []) k 0 ≡ get_or prefix k 0
  below_top k less = get_or-append prefix (at ∷ []) 0 k less

  -- the entry at the end of the path is open
  pub top_open : slice_get states at ≡ Some Open
  top_open = rw top at (search.opened (length prefix) (omega (arith, longer)))

  pub top_within : at < length states
  top_within = slice_get_within states at Open top_open

  -- the entries of the path before its end are others
  prefix_other : (k : ℕ) → k < length prefix → at ≢ get_or prefix k 0
  prefix_other k less same =
      search.different k (length prefix) less (omega (arith, longer)) (below_top k less ∙ (sym same ∙ sym top))

  module _ (rule : Rule ℕ A) (there : slice_get rules at ≡ Some rule) (o : A) (is : reading (known states) rule ≡ Settles o) where
    known_more : Extends (known states) (known (set states at (Known o)))
    known_more = record {
      keeps = λ e a was.
          elim (cases_eq at e) [
            | inl same ↦ let none = known_opened states at top_open in let clash : known states at ≡ Some a = rw same was in cc
            | inr other ↦ known_other states at o top_within e other ∙ was
          ];
    }

    right_then : (e : ℕ) (a : A) → known (set states at (Known o)) e ≡ Some a → answer rules e ≡ Some a
    right_then e a now =
        elim (cases_eq at e) [
          | inl same ↦
              let here = known_same states at o top_within in
              let found = answer_settled rules (known states) (record { keeps = search.right }) at rule o there is in
              let there : known (set states at (Known o)) at ≡ Some a = ap (known (set states at (Known o))) same ∙ now in
              let answered : answer rules at ≡ Some a = cc in
              rw (← same) answered
          | inr other ↦ search.right e a (sym (known_other states at o top_within e other) ∙ now)
        ]

    settled_then : AreSettled rules (set states at (Known o))
    settled_then e a now =
        elim (cases_eq at e) [
          | inl same ↦
              let here = known_same states at o top_within in
              let moved : known (set states at (Known o)) at ≡ Some a = ap (known (set states at (Known o))) same ∙ now in
              let alike : o ≡ a = cc in
              (rule, ap (slice_get rules) (sym same) ∙ there, reading_kept (known states) (known (set states at (Known o))) known_more rule a (is ∙ ap Settles alike))
          | inr other ↦
              let was = search.settled e a (sym (known_other states at o top_within e other) ∙ now) in
              (was.0, was.1, reading_kept (known states) (known (set states at (Known o))) known_more was.0 a was.2)
        ]

    opened_then : (k : ℕ) → k < length prefix → slice_get (set states at (Known o)) (get_or prefix k 0) ≡ Some Open
    opened_then k less =
        get_set_other states at (get_or prefix k 0) (Known o) (prefix_other k less)
        ∙ rw (below_top k less) at (search.opened k (omega (arith, longer)))

    waits_then : (k : ℕ) → k + 1 < length prefix → WaitsFor rules (known (set states at (Known o))) (get_or prefix k 0) (get_or prefix (k + 1) 0)
    waits_then k less =
        let w = rw (below_top k (omega arith), below_top (k + 1) less) at (search.waits k (omega (arith, longer))) in
        record {
          rule = w.rule;
          there = w.there;
          waits = reading_waits (known states) (known (set states at (Known o))) known_more w.rule (get_or prefix (k + 1) 0) w.waits (known_opened (set states at (Known o)) (get_or prefix (k + 1) 0) (opened_then (k + 1) less));
        }

    different_then : (i j : ℕ) → i < j → j < length prefix → get_or prefix i 0 ≢ get_or prefix j 0
    different_then i j less below same =
        search.different i j less (omega (arith, longer)) (below_top i (omega arith) ∙ (same ∙ sym (below_top j below)))

    listed_then : (e : ℕ) → slice_get (set states at (Known o)) e ≡ Some Open → (k : ℕ) × (k < length prefix) × (get_or prefix k 0 ≡ e)
    listed_then e is_open =
        elim (cases_eq at e) [
          | inl same ↦
              let here = get_set_same states at (Known o) top_within in
              let there : slice_get (set states at (Known o)) at ≡ Some Open = ap (slice_get (set states at (Known o))) same ∙ is_open in
              absurd (cc)
          | inr other ↦
              let l = search.listed e (sym (get_set_other states at e (Known o) other) ∙ is_open) in
              elim (cases_lt l.0 (length prefix)) [
                | inl less ↦ (l.0, less, sym (below_top l.0 less) ∙ l.2)
                | inr past ↦
                    let last : l.0 ≡ length prefix = omega (arith, longer, l.1) in
                    absurd (other (sym top ∙ (rw last at l.2)))
              ]
        ]

    done_then : length prefix ≡ 0 → (a : A) × (known (set states at (Known o)) entry ≡ Some a)
    done_then none =
        let first : get_or (prefix ++ at ∷ []) 0 0 ≡ entry = search.first (omega (arith, longer)) in
        let same : at ≡ entry = sym (rw none at top) ∙ first in
        (o, rw (← same) (known_same states at o top_within))

    -- the entry at the end of the path is answered
    pub settled_search : IsSearch rules entry (set states at (Known o)) prefix
    settled_search = record {
      same = length-set states at (Known o) ∙ search.same;
      right = right_then;
      settled = settled_then;
      first = λ some. sym (below_top 0 some) ∙ search.first (omega (arith, longer));
      done = done_then;
      opened = opened_then;
      waits = waits_then;
      different = different_then;
      listed = listed_then;
    }

    -- and less remains to do
    pub settled_less : left (set states at (Known o)) < left states
    settled_less =
        let was_open : get_or states at Open ≡ Open = get_or_from_slice_get states at Open Open top_open in
        let sums : left (set states at (Known o)) + 1 ≡ left states + 0 = rw was_open at (sum_by-set left_at states at (Known o) Open top_within) in
        omega arith

  module _ (rule : Rule ℕ A) (there : slice_get rules at ≡ Some rule) (operand : ℕ) (is : reading (known states) rule ≡ Waits operand) where
    module _ (is_new : slice_get states operand ≡ Some New) where
      new_within : operand < length states
      new_within = slice_get_within states operand New is_new

      -- what is known stays the same
      keeps_then : (e : ℕ) → known (set states operand Open) e ≡ known states e
      keeps_then e =
          elim (cases_eq operand e) [
            | inl same ↦
                let now : known (set states operand Open) operand ≡ None = ap (and_then known_answer) (get_set_same states operand Open new_within) in
                let was = known_new states operand is_new in
                ap (known (set states operand Open)) (sym same) ∙ (now ∙ (sym was ∙ ap (known states) same))
            | inr other ↦ ap (and_then known_answer) (get_set_other states operand e Open other)
          ]

      same_extends : Extends (known states) (known (set states operand Open))
      same_extends = record { keeps = λ e a was. keeps_then e ∙ was }

      longest : length ((prefix ++ at ∷ []) ++ operand ∷ []) ≡ length (prefix ++ at ∷ []) + 1
      longest = simp length-append refl

      end : get_or ((prefix ++ at ∷ []) ++ operand ∷ []) (length (prefix ++ at ∷ [])) 0 ≡ operand
      end = get_or-append_seam (prefix ++ at ∷ []) operand [] 0

      before_end : (k : ℕ) → k < length (prefix ++ at ∷ []) → get_or ((prefix ++ at ∷ []) ++ operand ∷ []) k 0 ≡ get_or (prefix ++ at ∷ []) k 0
      before_end k less = get_or-append (prefix ++ at ∷ []) (operand ∷ []) 0 k less

      operand_other : (k : ℕ) → k < length (prefix ++ at ∷ []) → operand ≢ get_or (prefix ++ at ∷ []) k 0
      operand_other k less same =
          let was = search.opened k less in
          let clash : slice_get states operand ≡ Some Open = ap (slice_get states) same ∙ was in
          absurd (cc)

      opened_next : (k : ℕ) → k < length ((prefix ++ at ∷ []) ++ operand ∷ []) → slice_get (set states operand Open) (get_or ((prefix ++ at ∷ []) ++ operand ∷ []) k 0) ≡ Some Open
      opened_next k below =
          elim (cases_lt k (length (prefix ++ at ∷ []))) [
            | inl less ↦
                ap (slice_get (set states operand Open)) (before_end k less)
                ∙ (get_set_other states operand (get_or (prefix ++ at ∷ []) k 0) Open (operand_other k less) ∙ search.opened k less)
            | inr past ↦
                let last : k ≡ length (prefix ++ at ∷ []) = omega (arith, longest) in
                ap (λ i. slice_get (set states operand Open) (get_or ((prefix ++ at ∷ []) ++ operand ∷ []) i 0)) last
                ∙ (ap (slice_get (set states operand Open)) end ∙ get_set_same states operand Open new_within)
          ]

      waits_next : (k : ℕ) → k + 1 < length ((prefix ++ at ∷ []) ++ operand ∷ []) → WaitsFor rules (known (set states operand Open)) (get_or ((prefix ++ at ∷ []) ++ operand ∷ []) k 0) (get_or ((prefix ++ at ∷ []) ++ operand ∷ []) (k + 1) 0)
      waits_next k below =
          elim (cases_lt (k + 1) (length (prefix ++ at ∷ []))) [
            | inl less ↦
                let w = search.waits k less in
                let shut = known_opened (set states operand Open) (get_or ((prefix ++ at ∷ []) ++ operand ∷ []) (k + 1) 0) (opened_next (k + 1) below) in
                rw (before_end k (omega arith)) (record {
                  rule = w.rule;
                  there = w.there;
                  waits = reading_waits (known states) (known (set states operand Open)) same_extends w.rule (get_or ((prefix ++ at ∷ []) ++ operand ∷ []) (k + 1) 0) (w.waits ∙ ap Waits (sym (before_end (k + 1) less))) shut;
                })
            | inr past ↦
                let last : k ≡ length prefix = omega (arith, longest, longer) in
                let next : k + 1 ≡ length (prefix ++ at ∷ []) = omega (arith, longest) in
                let here : get_or ((prefix ++ at ∷ []) ++ operand ∷ []) k 0 ≡ at = before_end k (omega (arith, longer)) ∙ (ap (λ i. get_or (prefix ++ at ∷ []) i 0) last ∙ top) in
                let there_is : get_or ((prefix ++ at ∷ []) ++ operand ∷ []) (k + 1) 0 ≡ operand = ap (λ i. get_or ((prefix ++ at ∷ []) ++ operand ∷ []) i 0) next ∙ end in
                let shut : known (set states operand Open) operand ≡ None = keeps_then operand ∙ known_new states operand is_new in
                record {
                  rule = rule;
                  there = ap (slice_get rules) here ∙ there;
                  waits = reading_waits (known states) (known (set states operand Open)) same_extends rule operand is shut ∙ ap Waits (sym there_is);
                }
          ]

      different_next : (i j : ℕ) → i < j → j < length ((prefix ++ at ∷ []) ++ operand ∷ []) → get_or ((prefix ++ at ∷ []) ++ operand ∷ []) i 0 ≢ get_or ((prefix ++ at ∷ []) ++ operand ∷ []) j 0
      different_next i j less below same =
          elim (cases_lt j (length (prefix ++ at ∷ []))) [
            | inl within ↦ search.different i j less within (sym (before_end i (omega arith)) ∙ (same ∙ before_end j within))
            | inr past ↦
                let last : j ≡ length (prefix ++ at ∷ []) = omega (arith, longest) in
                let at_end : get_or ((prefix ++ at ∷ []) ++ operand ∷ []) j 0 ≡ operand = ap (λ k. get_or ((prefix ++ at ∷ []) ++ operand ∷ []) k 0) last ∙ end in
                operand_other i (omega arith) (sym at_end ∙ (sym same ∙ before_end i (omega arith)))
          ]

      listed_next : (e : ℕ) → slice_get (set states operand Open) e ≡ Some Open → (k : ℕ) × (k < length ((prefix ++ at ∷ []) ++ operand ∷ [])) × (get_or ((prefix ++ at ∷ []) ++ operand ∷ []) k 0 ≡ e)
      listed_next e is_open =
          elim (cases_eq operand e) [
            | inl same ↦ (length (prefix ++ at ∷ []), omega (arith, longest), end ∙ same)
            | inr other ↦
                let l = search.listed e (sym (get_set_other states operand e Open other) ∙ is_open) in
                (l.0, omega (arith, longest, l.1), before_end l.0 l.1 ∙ l.2)
          ]

      -- the operand is opened, and joins the path
      pub opened_search : IsSearch rules entry (set states operand Open) ((prefix ++ at ∷ []) ++ operand ∷ [])
      opened_search = record {
        same = length-set states operand Open ∙ search.same;
        right = λ e a now. search.right e a (sym (keeps_then e) ∙ now);
        settled = λ e a now.
            let was = search.settled e a (sym (keeps_then e) ∙ now) in
            (was.0, was.1, reading_kept (known states) (known (set states operand Open)) same_extends was.0 a was.2);
        first = λ some. before_end 0 (omega (arith, longer)) ∙ search.first (omega (arith, longer));
        done = λ none. absurd (omega (arith, longest));
        opened = opened_next;
        waits = waits_next;
        different = different_next;
        listed = listed_next;
      }

      -- and less remains to do
      pub opened_less : left (set states operand Open) < left states
      opened_less =
          let was : get_or states operand New ≡ New = get_or_from_slice_get states operand New New is_new in
          let sums : left (set states operand Open) + 2 ≡ left states + 1 = rw was at (sum_by-set left_at states operand Open New new_within) in
          omega arith

    -- the operand is on the path, at this position
    module _ (place : ℕ) (on_path : place < length (prefix ++ at ∷ [])) (found : get_or (prefix ++ at ∷ []) place 0 ≡ operand) where
      right_record : Extends (known states) (answer rules)
      right_record = record { keeps = search.right }

      last_waits : (k : ℕ) → k ≡ length prefix → WaitsFor rules (known states) (get_or (prefix ++ at ∷ []) k 0) (get_or (prefix ++ at ∷ []) place 0)
      last_waits k last =
          let here : get_or (prefix ++ at ∷ []) k 0 ≡ at = ap (λ i. get_or (prefix ++ at ∷ []) i 0) last ∙ top in
          record {
            rule = rule;
            there = ap (slice_get rules) here ∙ there;
            waits = is ∙ ap Waits (sym found);
          }

      each_waits : (k : ℕ) → k < length (prefix ++ at ∷ []) → (j : ℕ) × (j < length (prefix ++ at ∷ [])) × WaitsFor rules (known states) (get_or (prefix ++ at ∷ []) k 0) (get_or (prefix ++ at ∷ []) j 0)
      each_waits k below =
          elim (cases_lt (k + 1) (length (prefix ++ at ∷ []))) [
            | inl less ↦ (k + 1, less, search.waits k less)
            | inr past ↦ (place, on_path, last_waits k (omega (arith, longer)))
          ]

      -- the entry of the search never has an answer
      pub no_answer : answer rules entry ≡ None
      no_answer =
          ap (answer rules) (sym (search.first (omega (arith, longer))))
          ∙ never rules (known states) right_record (λ k. get_or (prefix ++ at ∷ []) k 0) (length (prefix ++ at ∷ [])) each_waits (length rules) 0 (omega (arith, longer))

      awaits_next : (k : ℕ) → k + 1 < length (prefix ++ at ∷ []) → next_awaited rules (get_or (prefix ++ at ∷ []) k 0) ≡ Some (get_or (prefix ++ at ∷ []) (k + 1) 0)
      awaits_next k less = awaits rules (known states) right_record (λ i. get_or (prefix ++ at ∷ []) i 0) (length (prefix ++ at ∷ [])) each_waits k (k + 1) less (search.waits k less)

      awaits_first : (k : ℕ) → k ≡ length prefix → next_awaited rules (get_or (prefix ++ at ∷ []) k 0) ≡ Some (get_or (prefix ++ at ∷ []) place 0)
      awaits_first k last = awaits rules (known states) right_record (λ i. get_or (prefix ++ at ∷ []) i 0) (length (prefix ++ at ∷ [])) each_waits k place on_path (last_waits k last)

      path_reached : (k : ℕ) → k < length (prefix ++ at ∷ []) → awaited_after rules k entry ≡ Some (get_or (prefix ++ at ∷ []) k 0)
      path_reached zero below = ap Some (sym (search.first below))
      path_reached (suc k) below =
          ap (and_then (next_awaited rules)) (path_reached k (omega arith))
          ∙ (awaits_next k (omega arith) ∙ let same : k + 1 ≡ suc k = omega arith in ap (λ i. Some (get_or (prefix ++ at ∷ []) i 0)) same)

      circle_length : length (drop place (prefix ++ at ∷ [])) ≡ length (prefix ++ at ∷ []) - place
      circle_length = length-drop place (prefix ++ at ∷ [])

      circle_at : (i : ℕ) → get_or (drop place (prefix ++ at ∷ [])) i 0 ≡ get_or (prefix ++ at ∷ []) (place + i) 0
      circle_at i = get_or-drop place (prefix ++ at ∷ []) i 0

      circle_first : get_or (drop place (prefix ++ at ∷ [])) 0 0 ≡ get_or (prefix ++ at ∷ []) place 0
      circle_first = circle_at 0 ∙ (let same : place + 0 ≡ place = omega arith in ap (λ i. get_or (prefix ++ at ∷ []) i 0) same)

      circle_next : (i : ℕ) → i + 1 < length (drop place (prefix ++ at ∷ [])) → next_awaited rules (get_or (drop place (prefix ++ at ∷ [])) i 0) ≡ Some (get_or (drop place (prefix ++ at ∷ [])) (i + 1) 0)
      circle_next i less =
          let same : (place + i) + 1 ≡ place + (i + 1) = omega arith in
          ap (next_awaited rules) (circle_at i)
          ∙ (awaits_next (place + i) (omega (arith, circle_length))
          ∙ (ap (λ k. Some (get_or (prefix ++ at ∷ []) k 0)) same ∙ ap Some (sym (circle_at (i + 1)))))

      circle_closed : next_awaited rules (get_or (drop place (prefix ++ at ∷ [])) (length (drop place (prefix ++ at ∷ [])) - 1) 0) ≡ Some (get_or (drop place (prefix ++ at ∷ [])) 0 0)
      circle_closed =
          ap (next_awaited rules) (circle_at (length (drop place (prefix ++ at ∷ [])) - 1))
          ∙ (awaits_first (place + (length (drop place (prefix ++ at ∷ [])) - 1)) (omega (arith, circle_length, longer))
          ∙ ap Some (sym circle_first))

      circle_different : (i j : ℕ) → i < j → j < length (drop place (prefix ++ at ∷ [])) → get_or (drop place (prefix ++ at ∷ [])) i 0 ≢ get_or (drop place (prefix ++ at ∷ [])) j 0
      circle_different i j less below same =
          search.different (place + i) (place + j) (omega arith) (omega (arith, circle_length)) (sym (circle_at i) ∙ (same ∙ circle_at j))

      path_indexed : IsIndexedCircle rules entry (drop place (prefix ++ at ∷ []))
      path_indexed = record {
        some = omega (arith, circle_length);
        reached = (place, path_reached place on_path ∙ ap Some (sym circle_first));
        next = circle_next;
        closed = circle_closed;
        different = circle_different;
      }

      -- the path from that place on is the circle
      pub path_circle : IsCircle rules entry (drop place (prefix ++ at ∷ []))
      path_circle = circle_of_index rules entry (drop place (prefix ++ at ∷ [])) path_indexed

-- the same answers depend on one another
pub still_settled : {A : Type 0} (rules : List (Rule ℕ A)) (old new : List (State A)) → ((e : ℕ) → known new e ≡ known old e) → AreSettled rules old → AreSettled rules new
still_settled rules old new same settled e a now =
    let was = settled e a (sym (same e) ∙ now) in
    (was.0, was.1, reading_kept (known old) (known new) (record { keeps = λ i b is. same i ∙ is }) was.0 a was.2)

module _ {A : Type 0} (rules : List (Rule ℕ A)) (entry : ℕ) (states : List (State A)) (same : length states ≡ length rules) (sound : IsSound rules states) (is_new : slice_get states entry ≡ Some New) where
  first_within : entry < length states
  first_within = slice_get_within states entry New is_new

  known_still : (e : ℕ) → known (set states entry Open) e ≡ known states e
  known_still e =
      elim (cases_eq entry e) [
        | inl same_entry ↦
            let now : known (set states entry Open) entry ≡ None = ap (and_then known_answer) (get_set_same states entry Open first_within) in
            let was = known_new states entry is_new in
            ap (known (set states entry Open)) (sym same_entry) ∙ (now ∙ (sym was ∙ ap (known states) same_entry))
        | inr other ↦ ap (and_then known_answer) (get_set_other states entry e Open other)
      ]

  first_open : slice_get (set states entry Open) entry ≡ Some Open
  first_open = get_set_same states entry Open first_within

  only_first : (e : ℕ) → slice_get (set states entry Open) e ≡ Some Open → entry ≡ e
  only_first e is_open =
      elim (cases_eq entry e) [
        | inl same_entry ↦ same_entry
        | inr other ↦ absurd (sound.closed e (sym (get_set_other states entry e Open other) ∙ is_open))
      ]

  -- the search begins at its entry
  pub started_search : IsSearch rules entry (set states entry Open) (entry ∷ [])
  started_search = record {
    same = length-set states entry Open ∙ same;
    right = λ e a now. sound.right e a (sym (known_still e) ∙ now);
    settled = still_settled rules states (set states entry Open) known_still sound.settled;
    first = λ some. refl;
    done = λ none. absurd (omega arith);
    opened = λ k below. let zeroth : k ≡ 0 = omega arith in rw zeroth first_open;
    waits = λ k below. absurd (omega arith);
    different = λ i j less below. absurd (omega arith);
    listed = λ e is_open. (0, omega arith, only_first e is_open);
  }

-- a search that is over leaves no entry open
pub ended_sound : {A : Type 0} (rules : List (Rule ℕ A)) (entry : ℕ) (states : List (State A)) (path : List ℕ) → IsSearch rules entry states path → length path ≡ 0 → IsSound rules states
ended_sound rules entry states path search none = record {
  right = search.right;
  settled = search.settled;
  closed = λ e is_open. let l = search.listed e is_open in absurd (omega (arith, l.1, none));
}
