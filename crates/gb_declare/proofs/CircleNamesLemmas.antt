-- From an entry its circle is reached in as many steps as there are entries, and as many more go around it.
use Rattle.std.proofs.Common.{◌≡◌, ◌≢◌, ℕ, zero, suc, ◌+◌, ◌-◌, ◌<◌, ◌≤◌, List, [], ◌∷◌, ◌++◌, length, refl, sym, ap, ◌∙◌, subst, arith, inl, inr, Bool, true, false, not, cond, eqb, ◌||◌}
use Rattle.std.proofs.Math.Logic.{∥∥₁_elim}
use Rattle.std.proofs.lemmas.Bool.{cases_lt, cases_eq, eqb-true, eq-eqb, ne_eqb}
use Rattle.std.proofs.lemmas.List.{append-nil}
use Rattle.std.proofs.lemmas.List.Sums.{take_while-cons}
use Rattle.std.proofs.lemmas.Map.Steps.{length-le_from_distinct_below}
use Rattle.std.proofs.lemmas.Option.{slice_get_within}
use Rattle.std.specs.Coded.{Coded-set, coded_list, coded_ℕ}
use Rattle.std.specs.List.{AllByRecursion, IsDistinct, list_any, take_while}
use Rattle.std.specs.Ordering.{min_by_ordering, ordering_reverse}
use Rattle.std.specs.Prelude.{Option, Some, None, slice_get, slice_index, ◌⊎◌}
use Rattle.std.specs.declared.cmp.Ordering.{Ordering}
use Rattle.std.specs.declared.cmp.Ordering.TheVariants.{Less, Equal, Greater}
use Rattle.gb_provider.proofs.CircleLemmas.{circle_by_index}
use Rattle.gb_provider.proofs.NamesLemmas.{least_now, least_still}
use Rattle.gb_provider.specs.Answers.{RunsInto}
use Rattle.gb_provider.specs.Circle.{awaited_after}
use Rattle.gb_provider.specs.Meanings.{Meanings}
use Rattle.gb_provider.specs.Names.{names_on, names_order, round_from}
use Rattle.gb_provider.specs.Rounds.{Rule, and_then, awaited, next_awaited, answer, reading}
use Rattle.gb_provider.specs.Rules.{rules}
use Rattle.gb_provider.specs.declared.expression.Expression.{Expression}
use Rattle.gb_report.specs.declared.fault.Fault.TheVariants.{Circular}
use Rattle.gb_registry.specs.Source.{Source}
use Rattle.gb_registry.specs.Tables.{Tables}
use Rattle.gb_declare.specs.CircleNames.{way_from, circle_from, circle_names, least_of, least_round, until_again}
use Rattle.gb_declare.specs.Reported.{IsReportedBy, reported_circle}
use Rattle.gb_declare.specs.Whole.{whole}
use Rattle.gb_declare.proofs.OneCircleLemmas.{names_total, IsLeast, one_least, least_of_all, Lack, AwaitsThrough, IsRing, ring_of, ring_turned, lacks_first, least_on_turned, circle_reported}

-- ---- Of more numbers below n than n, one repeats

module _ (w : ℕ → ℕ) where
  -- the first ones, the last of them in front
  first_ones : ℕ → List ℕ
  first_ones zero = []
  first_ones (suc n) = w n ∷ first_ones n

  length-first_ones : (n : ℕ) → length (first_ones n) ≡ n
  unfolding first_ones
  length-first_ones zero = refl
  length-first_ones (suc n) = let rest = length-first_ones n in omega arith

  -- none of them is x, or one is
  none_or_one : (x n : ℕ) → AllByRecursion (λ y. eqb x y ≡ false) (first_ones n) ⊎ ((k : ℕ) × (k < n) × (x ≡ w k))
  unfolding first_ones
  none_or_one x zero = inl tt
  none_or_one x (suc n) =
      elim (cases_eq x (w n)) [
        | inl same ↦ inr (n, omega arith, same)
        | inr separate ↦
            elim (none_or_one x n) [
              | inl none ↦ inl (ne_eqb x (w n) separate, none)
              | inr one ↦ inr (one.0, omega (arith, one.1), one.2)
            ]
      ]

  abbrev Again : ℕ → Type 0
  Again n = (i : ℕ) × (j : ℕ) × (i < j) × (j < n) × (w i ≡ w j)

  different_or_again : (n : ℕ) → IsDistinct eqb (first_ones n) ⊎ Again n
  unfolding first_ones IsDistinct
  different_or_again zero = inl tt
  different_or_again (suc n) =
      elim (none_or_one (w n) n) [
        | inr one ↦ inr (one.0, n, one.1, omega arith, sym one.2)
        | inl none ↦
            elim (different_or_again n) [
              | inl different ↦ inl (none, different)
              | inr again ↦ inr (again.0, again.1, again.2, omega (arith, again.3), again.4)
            ]
      ]

  module _ (bound : ℕ) where
    within_at : (q n : ℕ) → w n < bound → (list_any (eqb q) (first_ones n) ≡ true → q < bound) → (b : Bool) → eqb q (w n) ≡ b → (b || list_any (eqb q) (first_ones n)) ≡ true → q < bound
    within_at q n below rest true is found = let same = eqb-true q (w n) is in omega arith
    within_at q n below rest false is found = rest found

    within_all : (q n : ℕ) → ((k : ℕ) → k < n → w k < bound) → list_any (eqb q) (first_ones n) ≡ true → q < bound
    unfolding first_ones
    within_all q zero below found = cc
    within_all q (suc n) below found =
        within_at q n (below n (omega arith)) (within_all q n (λ k less. below k (omega arith))) (eqb q (w n)) refl found

    one_again : (n : ℕ) → ((k : ℕ) → k < n → w k < bound) → bound < n → Again n
    one_again n below more =
        elim (different_or_again n) [
          | inr again ↦ again
          | inl different ↦
              let count = length-first_ones n in
              absurd (omega (arith, more, count, length-le_from_distinct_below (first_ones n) bound different (λ q found. within_all q n below found)))
        ]

-- ---- The least of the rotations

module _ (names : List (List ℕ)) where
  -- the least of the rotations by the first positions
  abbrev IsLeastOf : ℕ → List (List ℕ) → Type 0
  IsLeastOf n round = ((i : ℕ) × (round ≡ round_from names i)) × ((k : ℕ) → k < n → names_order round (round_from names k) ≢ Greater)

  -- one more rotation, by its order relative to the least so far, which is the one from i on
  lesser_least : (n i : ℕ) (least : List (List ℕ)) → least ≡ round_from names i → ((k : ℕ) → k < n → names_order (round_from names i) (round_from names k) ≢ Greater)
      → (r : Ordering) → names_order (round_from names i) (round_from names n) ≡ r → IsLeastOf (suc n) (min_by_ordering r least (round_from names n))
  lesser_least n i least is so_far r e = by r e
    where
      stays : names_order (round_from names i) (round_from names n) ≢ Greater → IsLeastOf (suc n) least
      stays not_after = ((i, is), λ k below. subst (λ l. names_order l (round_from names k) ≢ Greater) (sym is) (least_still (round_from names) i n so_far not_after k (omega (arith, below))))

      by : (r : Ordering) → names_order (round_from names i) (round_from names n) ≡ r → IsLeastOf (suc n) (min_by_ordering r least (round_from names n))
      by Less e = stays (λ greater. cc)
      by Equal e = stays (λ greater. cc)
      by Greater e =
          let less = names_total.antisymm (round_from names n) (round_from names i) ∙ ap ordering_reverse e in
          ((n, refl), λ k below. least_now (round_from names) i n so_far less k (omega (arith, below)))

  least_of_is : (n : ℕ) → IsLeastOf n (least_of names n)
  least_of_is zero = ((0, sym (append-nil names)), λ k below. absurd (omega arith))
  least_of_is (suc n) =
      let before = least_of_is n in
      let is = before.0.1 in
      lesser_least n before.0.0 (least_of names n) is (λ k below. subst (λ l. names_order l (round_from names k) ≢ Greater) is (before.1 k below))
      (names_order (least_of names n) (round_from names n)) (ap (λ l. names_order l (round_from names n)) (sym is))

-- ---- To the circle, and around it

module _ {A : Type 0} (rules : List (Rule ℕ A)) where
  rule_there : (entry y : ℕ) (o : Option (Rule ℕ A)) → and_then (λ rule. awaited (reading (answer rules) rule)) o ≡ Some y → (rule : Rule ℕ A) × (o ≡ Some rule)
  rule_there entry y None e = cc
  rule_there entry y (Some rule) e = (rule, refl)

  -- what awaits another is an entry
  awaits_within : (x y : ℕ) → next_awaited rules x ≡ Some y → x < length rules
  awaits_within x y e = let found = rule_there x y (slice_get rules x) e in slice_get_within rules x found.0 found.1

  leads_within : (x : ℕ) (xs : List ℕ) (last : ℕ) → AwaitsThrough rules x xs last → (k : ℕ) → k < length (x ∷ xs) → slice_index (x ∷ xs) k < length rules
  leads_within x [] last leads zero below = awaits_within x last leads
  leads_within x [] last leads (suc k) below = absurd (omega arith)
  leads_within x (y ∷ ys) last leads zero below = awaits_within x y leads.0
  leads_within x (y ∷ ys) last leads (suc k) below = leads_within y ys last leads.1 k (omega (arith, below))

  -- a ring has no more entries than there are
  ring_fits : (x : ℕ) (xs : List ℕ) → IsRing rules (x ∷ xs) → length (x ∷ xs) ≤ length rules
  ring_fits x xs ring =
      elim (cases_lt (length rules) (length (x ∷ xs))) [
        | inr fits ↦ fits
        | inl more ↦
            let again = one_again (slice_index (x ∷ xs)) (length rules) (length (x ∷ xs)) (leads_within x xs x ring.0) more in
            absurd (ring.1 again.0 again.1 again.2 again.3 again.4)
      ]

  -- where the first one repeats, no more is taken
  stops : (x more : ℕ) → take_while (λ other. not (eqb other x)) (way_from rules more (Some x)) ≡ []
  stops x zero = refl
  stops x (suc more) =
      let others = way_from rules more (next_awaited rules x) in
      take_while-cons (λ other. not (eqb other x)) x others
      ∙ ap (λ b. cond (not b) (x ∷ take_while (λ other. not (eqb other x)) others) []) (eq-eqb x x refl)

  -- from an entry of the ring on
  goes_on : (x y : ℕ) (ys : List ℕ) (more : ℕ) → AwaitsThrough rules y ys x → Lack x ys → length ys ≤ more
      → take_while (λ other. not (eqb other x)) (way_from rules more (next_awaited rules y)) ≡ ys
  goes_on x y [] more leads lack within =
      ap (λ o. take_while (λ other. not (eqb other x)) (way_from rules more o)) leads ∙ stops x more
  goes_on x y (z ∷ zs) zero leads lack within = absurd (omega arith)
  goes_on x y (z ∷ zs) (suc more) leads lack within =
      let others = way_from rules more (next_awaited rules z) in
      ap (λ o. take_while (λ other. not (eqb other x)) (way_from rules (suc more) o)) leads.0
      ∙ take_while-cons (λ other. not (eqb other x)) z others
      ∙ ap (λ b. cond (not b) (z ∷ take_while (λ other. not (eqb other x)) others) []) (ne_eqb z x (lack 0 (omega arith)))
      ∙ ap (λ l. z ∷ l) (goes_on x z zs more leads.1 (λ i below. lack (suc i) (omega (arith, below))) (omega (arith, within)))

  -- as many entries as there are contain the whole ring
  goes_round : (x : ℕ) (xs : List ℕ) (count : ℕ) → IsRing rules (x ∷ xs) → length (x ∷ xs) ≤ count → until_again (way_from rules count (Some x)) ≡ x ∷ xs
  goes_round x xs zero ring within = absurd (omega arith)
  goes_round x xs (suc more) ring within =
      ap (λ l. x ∷ l) (goes_on x x xs more ring.0 (lacks_first rules x xs ring.1) (omega (arith, within)))

  module _ (entry : ℕ) where
    -- the step before the last
    step_before : (y : ℕ) (o : Option ℕ) → and_then (next_awaited rules) o ≡ Some y → (x : ℕ) × (o ≡ Some x) × (next_awaited rules x ≡ Some y)
    step_before y None e = cc
    step_before y (Some x) e = (x, refl, e)

    -- all steps before one that awaits another are entries
    on_the_way : (steps y z : ℕ) → awaited_after rules steps entry ≡ Some y → next_awaited rules y ≡ Some z → (k : ℕ) → k ≤ steps
        → (x : ℕ) × (awaited_after rules k entry ≡ Some x) × (x < length rules)
    on_the_way zero y z at next k within =
        let first : zero ≡ k = omega arith in
        (y, ap (λ n. awaited_after rules n entry) (sym first) ∙ at, awaits_within y z next)
    on_the_way (suc steps) y z at next k within =
        elim (cases_lt steps k) [
          | inl last ↦
              let same : suc steps ≡ k = omega arith in
              (y, ap (λ n. awaited_after rules n entry) (sym same) ∙ at, awaits_within y z next)
          | inr earlier ↦
              let before = step_before y (awaited_after rules steps entry) at in
              on_the_way steps before.0 y before.1 before.2 k earlier
        ]

    -- from one entry there is one way to continue
    goes_alike : (n i j : ℕ) → awaited_after rules i entry ≡ awaited_after rules j entry → awaited_after rules (n + i) entry ≡ awaited_after rules (n + j) entry
    goes_alike zero i j same =
        let left : zero + i ≡ i = omega arith in
        let right : j ≡ zero + j = omega arith in
        ap (λ n. awaited_after rules n entry) left ∙ same ∙ ap (λ n. awaited_after rules n entry) right
    goes_alike (suc n) i j same =
        let left : suc n + i ≡ suc (n + i) = omega arith in
        let right : suc (n + j) ≡ suc n + j = omega arith in
        ap (λ n. awaited_after rules n entry) left
        ∙ ap (and_then (next_awaited rules)) (goes_alike n i j same)
        ∙ ap (λ n. awaited_after rules n entry) right

    -- the current entry, if there is one
    passed : Option ℕ → ℕ
    passed None = 0
    passed (Some x) = x

    -- what is reached after more steps than there are entries is reached sooner too
    sooner : (steps y z : ℕ) → awaited_after rules steps entry ≡ Some y → next_awaited rules y ≡ Some z → length rules < steps
        → (less : ℕ) × (less < steps) × (awaited_after rules less entry ≡ Some y)
    unfolding passed
    sooner steps y z at next more =
        let way = on_the_way steps y z at next in
        let reported : (k : ℕ) → k ≤ steps → awaited_after rules k entry ≡ Some (passed (awaited_after rules k entry)) =
        λ k within. (way k within).1 ∙ ap (λ o. Some (passed o)) (sym (way k within).1) in
        let below : (k : ℕ) → k < steps → passed (awaited_after rules k entry) < length rules =
        λ k less. subst (λ n. n < length rules) (ap passed (sym (way k (omega (arith, less))).1)) (way k (omega (arith, less))).2 in
        let again = one_again (λ k. passed (awaited_after rules k entry)) (length rules) steps below more in
        let i = again.0 in
        let j = again.1 in
        let last : steps - j + j ≡ steps = omega (arith, again.3) in
        let alike : awaited_after rules i entry ≡ awaited_after rules j entry =
        reported i (omega (arith, again.2, again.3)) ∙ ap Some again.4 ∙ sym (reported j (omega (arith, again.3))) in (
          steps - j + i,
          omega (arith, again.2, again.3),
          goes_alike (steps - j) i j alike ∙ ap (λ n. awaited_after rules n entry) last ∙ at,
        )

    -- so it is reached in as many steps as there are entries
    soon : (most steps y z : ℕ) → steps ≤ most → awaited_after rules steps entry ≡ Some y → next_awaited rules y ≡ Some z
        → (few : ℕ) × (few ≤ length rules) × (awaited_after rules few entry ≡ Some y)
    soon zero steps y z within at next = (steps, omega arith, at)
    soon (suc most) steps y z within at next =
        elim (cases_lt (length rules) steps) [
          | inr fits ↦ (steps, fits, at)
          | inl more ↦
              let less = sooner steps y z at next more in
              soon most less.0 y z (omega (arith, within, less.1)) less.2 next
        ]

    module _ {M F Z : Type 0} (nodes : List (Expression M F Z)) where
      -- the circle that begins at the entry that is reached after more steps
      abbrev IsOn : ℕ → List (List ℕ) → ℕ → List ℕ → Type 0
      IsOn steps round x xs = IsRing rules (x ∷ xs) × (awaited_after rules steps entry ≡ Some x) × IsLeast (names_on nodes (x ∷ xs)) round

      -- some steps later it begins elsewhere
      stays_on : (n steps x : ℕ) (xs : List ℕ) (round : List (List ℕ)) → IsOn steps round x xs → (y : ℕ) × (ys : List ℕ) × IsOn (n + steps) round y ys
      stays_on zero steps x xs round on =
          let now : zero + steps ≡ steps = omega arith in
          (x, xs, (on.0, ap (λ n. awaited_after rules n entry) now ∙ on.1, on.2))
      stays_on (suc n) steps x xs round on =
          let count : suc n + steps ≡ n + suc steps = omega arith in
          let on' = turned steps x xs round on in
          let later = stays_on n (suc steps) on'.0 on'.1 round on'.2 in
          (later.0, later.1, (later.2.0, ap (λ n. awaited_after rules n entry) count ∙ later.2.1, later.2.2))
        where
          turned : (steps x : ℕ) (xs : List ℕ) (round : List (List ℕ)) → IsOn steps round x xs → (y : ℕ) × (ys : List ℕ) × IsOn (suc steps) round y ys
          turned steps x [] round on = (x, [], (on.0, ap (and_then (next_awaited rules)) on.1 ∙ on.0.0, on.2))
          turned steps x (y ∷ ys) round on = (
            y,
            ys ++ x ∷ [],
            (ring_turned rules x (y ∷ ys) on.0, ap (and_then (next_awaited rules)) on.1 ∙ on.0.0.0, least_on_turned rules nodes entry x (y ∷ ys) round on.2),
          )

      -- where it begins after as many steps as there are entries, its names are reported
      reported_there : (x : ℕ) (xs : List ℕ) (round : List (List ℕ)) → IsOn (length rules) round x xs
          → round ≡ least_round (names_on nodes (circle_from rules entry))
      reported_there x xs round on =
          let around : circle_from rules entry ≡ x ∷ xs =
          ap (λ o. until_again (way_from rules (length rules) o)) on.1 ∙ goes_round x xs (length rules) on.0 (ring_fits x xs on.0) in
          let names = names_on nodes (circle_from rules entry) in
          one_least names round (least_round names)
          (subst (λ l. IsLeast (names_on nodes l) round) (sym around) on.2)
          (least_of_all names (least_round names) (least_of_is names (length names)))

      -- and therefore wherever it begins
      reported_at : (steps x : ℕ) (xs : List ℕ) (round : List (List ℕ)) → IsOn steps round x xs
          → round ≡ least_round (names_on nodes (circle_from rules entry))
      reported_at steps x xs round on =
          let few = soon steps steps x (next_of x xs) (omega arith) on.1 (leaves x xs on.0) in
          let count : length rules - few.0 + few.0 ≡ length rules = omega (arith, few.1) in
          let there = stays_on (length rules - few.0) few.0 x xs round (on.0, few.2, on.2) in
          reported_there there.0 there.1 round (there.2.0, ap (λ n. awaited_after rules n entry) (sym count) ∙ there.2.1, there.2.2)
        where
          next_of : ℕ → List ℕ → ℕ
          next_of x [] = x
          next_of x (y ∷ ys) = y

          leaves : (x : ℕ) (xs : List ℕ) → IsRing rules (x ∷ xs) → next_awaited rules x ≡ Some (next_of x xs)
          leaves x [] ring = ring.0
          leaves x (y ∷ ys) ring = ring.0.0

      reported_by : (steps : ℕ) (circle : List ℕ) (round : List (List ℕ)) → IsRing rules circle → awaited_after rules steps entry ≡ Some (slice_index circle 0) → IsLeast (names_on nodes circle) round
          → round ≡ least_round (names_on nodes (circle_from rules entry))
      reported_by steps [] round ring at least = absurd ring
      reported_by steps (x ∷ xs) round ring at least = reported_at steps x xs round (ring, at, least)

-- ---- Troubles

module _ {M F Z S : Type 0} (meanings : Meanings M F Z S) (nodes : List (Expression M F Z)) (entry : ℕ) where
  runs_into_names : (names : List (List ℕ)) → RunsInto meanings nodes entry names → names ≡ circle_names meanings nodes entry
  runs_into_names names run =
      let at = circle_by_index (rules meanings nodes) entry run.0 run.1 in
      reported_by (rules meanings nodes) entry nodes at.reached.0 run.0 names (ring_of (rules meanings nodes) entry run.0 at) at.reached.1
      (least_of_all (names_on nodes run.0) names run.2)

pub reported_by_names : {M F Z S A : Type 0} (tables : Tables M F Z S A) (source : Source) → IsReportedBy tables source (reported_circle tables source)
reported_by_names tables source entry fault reported =
    let one = circle_reported tables source entry fault reported in
    let names = circle_names tables.means (whole tables source) entry in
    let set : IsSet (List (List ℕ)) = Coded-set (coded_list (coded_list coded_ℕ)) in
    one.1 ∙ ap Circular (∥∥₁_elim one.2 (set one.0 names) (λ run. runs_into_names tables.means (whole tables source) entry one.0 run))
