-- From an entry one circle is reached, whatever its first entry; so a trouble is reported by one fault.
use Rattle.std.proofs.Common.{◌≡◌, ◌≢◌, ℕ, zero, suc, ◌+◌, ◌-◌, ◌<◌, ◌≤◌, List, [], ◌∷◌, ◌++◌, length, take, drop, refl, sym, ap, ◌∙◌, subst, arith, inl, inr}
use Rattle.std.proofs.Math.ListN.{get_or-append}
use Rattle.std.proofs.Math.Logic.{∥∥₁_elim}
use Rattle.std.proofs.Math.Seq.{drop-append-add, take-append-add, get_or-append_seam}
use Rattle.std.proofs.lemmas.Bool.{cases_lt}
use Rattle.std.proofs.lemmas.Grind.{flat_map-append}
use Rattle.std.proofs.lemmas.List.{append_assoc, append-nil, drop_all, take_all, drop-append-le, take-append-le, length-append}
use Rattle.std.specs.Cmp.{IsTotalOrder, tied_itself}
use Rattle.std.specs.Cmp.Lexicographic.{nat_list_cmp_total, lists_total}
use Rattle.std.specs.Coded.{Coded-set, coded_list, coded_ℕ}
use Rattle.std.specs.FinMap.{slice_cmp-IsAntisymmetric, nat_cmp-IsAntisymmetric}
use Rattle.std.specs.Ordering.{ordering_reverse}
use Rattle.std.specs.Prelude.{Some, slice_get, slice_index, ◌⊎◌}
use Rattle.std.specs.declared.cmp.Ordering.{Ordering}
use Rattle.std.specs.declared.cmp.Ordering.TheVariants.{Less, Equal, Greater}
use Rattle.gb_provider.specs.Answers.{RunsInto}
use Rattle.gb_provider.proofs.CircleLemmas.{IsIndexedCircle, circle_by_index}
use Rattle.gb_provider.specs.Circle.{awaited_after}
use Rattle.gb_provider.specs.Meanings.{Meanings}
use Rattle.gb_provider.specs.Names.{IsLeastRound, names_of, names_on, names_order, round_from}
use Rattle.gb_provider.specs.Rounds.{Rule, and_then, next_awaited}
use Rattle.gb_provider.specs.Rules.{rules}
use Rattle.gb_provider.specs.declared.expression.Expression.{Expression}
use Rattle.gb_report.specs.declared.fault.Fault.{Fault}
use Rattle.gb_report.specs.declared.fault.Fault.TheVariants.{Circular}
use Rattle.gb_registry.specs.Source.{Source}
use Rattle.gb_registry.specs.Tables.{Tables}
use Rattle.gb_declare.specs.Realised.{Plain, Endless}
use Rattle.gb_declare.specs.Reported.{IsCircleReported, ReportedOneWay}
use Rattle.gb_declare.specs.Whole.{whole}

-- ---- The least rotation of names

pub names_total : IsTotalOrder names_order
names_total = lists_total nat_list_cmp_total

-- two lists of names, neither of which comes after the other
neither_after : (a b : List (List ℕ)) → names_order a b ≢ Greater → names_order b a ≢ Greater → a ≡ b
neither_after a b not_ab not_ba = by (names_order a b) refl
  where
    by : (r : Ordering) → names_order a b ≡ r → a ≡ b
    by Less e = absurd (not_ba (names_total.antisymm b a ∙ ap ordering_reverse e))
    by Equal e = slice_cmp-IsAntisymmetric (slice_cmp-IsAntisymmetric nat_cmp-IsAntisymmetric) a b e
    by Greater e = absurd (not_ab e)

not_after_itself : (a : List (List ℕ)) → names_order a a ≢ Greater
not_after_itself a greater = let tied = tied_itself names_total a in cc

-- a rotation that comes after no other, whatever position the other starts from
abbrev pub IsLeast : List (List ℕ) → List (List ℕ) → Type 0
IsLeast names round = ((i : ℕ) × (round ≡ round_from names i)) × ((k : ℕ) → names_order round (round_from names k) ≢ Greater)

pub one_least : (names a b : List (List ℕ)) → IsLeast names a → IsLeast names b → a ≡ b
one_least names a b of_a of_b =
    neither_after a b
    (subst (λ r. names_order a r ≢ Greater) (sym of_b.0.1) (of_a.1 of_b.0.0))
    (subst (λ r. names_order b r ≢ Greater) (sym of_a.0.1) (of_b.1 of_a.0.0))

-- a position after the names gives the same rotation as the first
past_end : (names : List (List ℕ)) (k : ℕ) → length names ≤ k → round_from names k ≡ round_from names 0
past_end names k past = ap (λ l. l ++ take k names) (drop_all k names past) ∙ take_all k names past ∙ sym (append-nil names)

pub least_of_all : (names round : List (List ℕ)) → IsLeastRound names round → IsLeast names round
least_of_all names round is = (is.0, λ k. by k (cases_lt k (length names)) (cases_lt 0 (length names)))
  where
    by : (k : ℕ) → (k < length names) ⊎ (length names ≤ k) → (0 < length names) ⊎ (length names ≤ 0) → names_order round (round_from names k) ≢ Greater
    by k (inl below) other = is.1 k below
    by k (inr past) (inl some) = subst (λ r. names_order round r ≢ Greater) (sym (past_end names k past)) (is.1 0 some)
    by k (inr past) (inr none) =
        let same : round ≡ round_from names k = is.0.1 ∙ past_end names is.0.0 (omega (arith, none)) ∙ sym (past_end names k past) in
        subst (λ r. names_order round r ≢ Greater) same (not_after_itself round)

module _ (p q : List (List ℕ)) where
  -- the same rotation of two parts that are swapped
  turned_round : (i : ℕ) → i ≤ length q → round_from (p ++ q) (length p + i) ≡ round_from (q ++ p) i
  turned_round i within =
      ap (λ l. l ++ take (length p + i) (p ++ q)) (drop-append-add p q i)
      ∙ ap (λ l. drop i q ++ l) (take-append-add p q i)
      ∙ sym (append_assoc (drop i q) p (take i q))
      ∙ ap (λ l. drop i q ++ p ++ l) (sym (take-append-le i q p within))
      ∙ ap (λ l. l ++ take i (q ++ p)) (sym (drop-append-le i q p within))

-- each rotation of names is a rotation of the names with two parts swapped
round_there : (p q : List (List ℕ)) (i : ℕ) → (j : ℕ) × (round_from (p ++ q) i ≡ round_from (q ++ p) j)
round_there p q i =
    elim (cases_lt i (length p)) [
      | inl prefix ↦ (length q + i, sym (turned_round q p i (omega (arith, prefix))))
      | inr following ↦
          elim (cases_lt (length p + length q) i) [
            | inl past ↦
                let count = length-append p q in
                (length q + 0, past_end (p ++ q) i (omega (arith, past, count)) ∙ sym (turned_round q p 0 (omega arith)))
            | inr within ↦
                let place : i ≡ length p + (i - length p) = omega (arith, following) in
                (i - length p, ap (round_from (p ++ q)) place ∙ turned_round p q (i - length p) (omega (arith, following, within)))
          ]
    ]

least_turned : (p q round : List (List ℕ)) → IsLeast (p ++ q) round → IsLeast (q ++ p) round
least_turned p q round is =
    let own = round_there p q is.0.0 in (
      (own.0, is.0.1 ∙ own.1),
      λ k.
          let there = round_there q p k in
          subst (λ r. names_order round r ≢ Greater) (sym there.1) (is.1 there.0),
    )

-- ---- Circles from their first entry on

some_same : (x y : ℕ) → Some x ≡ Some y → x ≡ y
some_same x y e = cc

abbrev Different : List ℕ → Type 0
Different xs = (i j : ℕ) → i < j → j < length xs → slice_index xs i ≢ slice_index xs j

-- x is none of these
abbrev pub Lack : ℕ → List ℕ → Type 0
Lack x xs = (i : ℕ) → i < length xs → slice_index xs i ≢ x

-- different entries stay different when the first one moves to the end
different_turned : (x : ℕ) (xs : List ℕ) → Different (x ∷ xs) → Different (xs ++ x ∷ [])
different_turned x xs different i j less below same =
    let count = length-append xs (x ∷ []) in
    elim (cases_lt j (length xs)) [
      | inl inner ↦
          different (suc i) (suc j) (omega (arith, less)) (omega (arith, inner))
          (sym (get_or-append xs (x ∷ []) 0 i (omega (arith, less, inner))) ∙ same ∙ get_or-append xs (x ∷ []) 0 j inner)
      | inr past ↦
          let last : j ≡ length xs = omega (arith, past, below, count) in
          different 0 (suc i) (omega arith) (omega (arith, less, last))
          (sym (get_or-append_seam xs x [] 0) ∙ ap (slice_index (xs ++ x ∷ [])) (sym last) ∙ sym same ∙ get_or-append xs (x ∷ []) 0 i (omega (arith, less, last)))
    ]

module _ {A : Type 0} (rules : List (Rule ℕ A)) where
  -- each awaits the one after it, and the last of them awaits this one
  abbrev pub AwaitsThrough : ℕ → List ℕ → ℕ → Type 0
  AwaitsThrough x [] last = next_awaited rules x ≡ Some last
  AwaitsThrough x (y ∷ ys) last = (next_awaited rules x ≡ Some y) × AwaitsThrough y ys last

  abbrev pub IsRing : List ℕ → Type 0
  IsRing [] = ⊥
  IsRing (x ∷ xs) = AwaitsThrough x xs x × Different (x ∷ xs)

  leads_of : (x : ℕ) (xs : List ℕ) (last : ℕ)
      → ((i : ℕ) → i + 1 < length (x ∷ xs) → next_awaited rules (slice_index (x ∷ xs) i) ≡ Some (slice_index (x ∷ xs) (i + 1)))
      → next_awaited rules (slice_index (x ∷ xs) (length (x ∷ xs) - 1)) ≡ Some last → AwaitsThrough x xs last
  leads_of x [] last next closed = closed
  leads_of x (y ∷ ys) last next closed =
      let at : suc (length (y ∷ ys) - 1) ≡ length (x ∷ y ∷ ys) - 1 = omega arith in (
        next 0 (omega arith),
        leads_of y ys last
            (λ i below.
            let step : suc i + 1 ≡ suc (i + 1) = omega arith in
            next (suc i) (omega (arith, below)) ∙ ap (λ k. Some (slice_index (x ∷ y ∷ ys) k)) step)
            (ap (λ k. next_awaited rules (slice_index (x ∷ y ∷ ys) k)) at ∙ closed),
      )

  pub ring_of : (entry : ℕ) (circle : List ℕ) → IsIndexedCircle rules entry circle → IsRing circle
  ring_of entry [] is = absurd (let some = is.some in omega (arith, some))
  ring_of entry (x ∷ xs) is = (leads_of x xs x is.next is.closed, is.different)

  leads_on : (x : ℕ) (xs : List ℕ) (y z : ℕ) → AwaitsThrough x xs y → next_awaited rules y ≡ Some z → AwaitsThrough x (xs ++ y ∷ []) z
  leads_on x [] y z leads e = (leads, e)
  leads_on x (w ∷ ws) y z leads e = (leads.0, leads_on w ws y z leads.1 e)

  -- the same circle from its second entry on
  pub ring_turned : (x : ℕ) (xs : List ℕ) → IsRing (x ∷ xs) → IsRing (xs ++ x ∷ [])
  ring_turned x [] ring = ring
  ring_turned x (y ∷ ys) ring = (leads_on y ys x y ring.0.1 ring.0.0, different_turned x (y ∷ ys) ring.1)

  second : (x : ℕ) (xs : List ℕ) → IsRing (x ∷ xs) → next_awaited rules x ≡ Some (slice_index (xs ++ x ∷ []) 0)
  second x [] ring = ring.0
  second x (y ∷ ys) ring = ring.0.0

  -- entries that lead to the same one, which does not occur between
  same_way : (x last : ℕ) (ys zs : List ℕ) → AwaitsThrough x ys last → AwaitsThrough x zs last → Lack last ys → Lack last zs → ys ≡ zs
  same_way x last [] [] one other lack lacks = refl
  same_way x last [] (z ∷ zs) one other lack lacks = absurd (lacks 0 (omega arith) (some_same z last (sym other.0 ∙ one)))
  same_way x last (y ∷ ys) [] one other lack lacks = absurd (lack 0 (omega arith) (some_same y last (sym one.0 ∙ other)))
  same_way x last (y ∷ ys) (z ∷ zs) one other lack lacks =
      let same : z ≡ y = some_same z y (sym other.0 ∙ one.0) in
      ap (λ l. y ∷ l)
      (same_way y last ys zs one.1 (subst (λ n. AwaitsThrough n zs last) same other.1)
      (λ i below. lack (suc i) (omega (arith, below)))
      (λ i below. lacks (suc i) (omega (arith, below))))
      ∙ ap (λ n. n ∷ zs) (sym same)

  pub lacks_first : (x : ℕ) (xs : List ℕ) → Different (x ∷ xs) → Lack x xs
  lacks_first x xs different i below same = different 0 (suc i) (omega arith) (omega (arith, below)) (sym same)

  -- circles with the same first entry
  same_ring : (x y : ℕ) (xs ys : List ℕ) → x ≡ y → IsRing (x ∷ xs) → IsRing (y ∷ ys) → x ∷ xs ≡ y ∷ ys
  same_ring x y xs ys same one other =
      let moved : IsRing (x ∷ ys) = subst (λ n. IsRing (n ∷ ys)) (sym same) other in
      ap (λ l. x ∷ l) (same_way x x xs ys one.0 moved.0 (lacks_first x xs one.1) (lacks_first x ys moved.1))
      ∙ ap (λ n. n ∷ ys) same

  module _ {M F Z : Type 0} (nodes : List (Expression M F Z)) (entry : ℕ) where
    pub least_on_turned : (x : ℕ) (xs : List ℕ) (round : List (List ℕ)) → IsLeast (names_on nodes (x ∷ xs)) round → IsLeast (names_on nodes (xs ++ x ∷ [])) round
    least_on_turned x xs round is =
        let names = names_of (slice_get nodes x) in
        let turned : names_on nodes (xs ++ x ∷ []) ≡ names_on nodes xs ++ names =
        flat_map-append (λ number. names_of (slice_get nodes number)) xs (x ∷ []) ∙ ap (λ l. names_on nodes xs ++ l) (append-nil names) in
        subst (λ l. IsLeast l round) (sym turned) (least_turned names (names_on nodes xs) round is)

    -- The circle is rotated step by step, until it begins where the other does.
    one_way : (n steps : ℕ) (c d : List ℕ) (a b : List (List ℕ)) → IsRing c → IsRing d
        → awaited_after rules steps entry ≡ Some (slice_index c 0) → awaited_after rules (n + steps) entry ≡ Some (slice_index d 0)
        → IsLeast (names_on nodes c) a → IsLeast (names_on nodes d) b → a ≡ b
    one_way n steps [] d a b one other at later of_a of_b = absurd one
    one_way zero steps (x ∷ xs) [] a b one other at later of_a of_b = absurd other
    one_way zero steps (x ∷ xs) (y ∷ ys) a b one other at later of_a of_b =
        let now : steps ≡ zero + steps = omega arith in
        let first : x ≡ y = some_same x y (sym at ∙ ap (λ k. awaited_after rules k entry) now ∙ later) in
        one_least (names_on nodes (y ∷ ys)) a b (subst (λ l. IsLeast (names_on nodes l) a) (same_ring x y xs ys first one other) of_a) of_b
    one_way (suc n) steps (x ∷ xs) d a b one other at later of_a of_b =
        let count : n + suc steps ≡ suc n + steps = omega arith in
        one_way n (suc steps) (xs ++ x ∷ []) d a b (ring_turned x xs one) other
        (ap (and_then (next_awaited rules)) at ∙ second x xs one)
        (ap (λ k. awaited_after rules k entry) count ∙ later)
        (least_on_turned x xs a of_a)
        of_b

-- ---- Troubles

module _ {M F Z S : Type 0} (meanings : Meanings M F Z S) (nodes : List (Expression M F Z)) (entry : ℕ) where
  -- an expression runs into a circle under the same names, however the circle is found
  runs_into_one : (a b : List (List ℕ)) → RunsInto meanings nodes entry a → RunsInto meanings nodes entry b → a ≡ b
  runs_into_one a b one other =
      let at = circle_by_index (rules meanings nodes) entry one.0 one.1 in
      let at' = circle_by_index (rules meanings nodes) entry other.0 other.1 in
      let s = at.reached.0 in
      let t = at'.reached.0 in
      let ring = ring_of (rules meanings nodes) entry one.0 at in
      let ring' = ring_of (rules meanings nodes) entry other.0 at' in
      let least = least_of_all (names_on nodes one.0) a one.2 in
      let least' = least_of_all (names_on nodes other.0) b other.2 in
      elim (cases_lt s t) [
        | inl less ↦
            let count : t - s + s ≡ t = omega (arith, less) in
            one_way (rules meanings nodes) nodes entry (t - s) s one.0 other.0 a b ring ring' at.reached.1
            (ap (λ k. awaited_after (rules meanings nodes) k entry) count ∙ at'.reached.1) least least'
        | inr more ↦
            let count : s - t + t ≡ s = omega (arith, more) in
            sym (one_way (rules meanings nodes) nodes entry (s - t) t other.0 one.0 b a ring' ring at'.reached.1
            (ap (λ k. awaited_after (rules meanings nodes) k entry) count ∙ at.reached.1) least' least)
      ]

module _ {M F Z S A : Type 0} (tables : Tables M F Z S A) (source : Source) (entry : ℕ) where
  -- a fault that reports a circle
  pub circle_reported : (fault : Fault) → IsCircleReported tables source entry fault
      → (names : List (List ℕ)) × (fault ≡ Circular names) × ∥ RunsInto tables.means (whole tables source) entry names ∥₁
  circle_reported (Circular names) is = (names, refl, is)
  circle_reported other is = absurd is

  circle_reported_one_way : (a b : Fault) → IsCircleReported tables source entry a → IsCircleReported tables source entry b → a ≡ b
  circle_reported_one_way a b is_a is_b =
      let one = circle_reported a is_a in
      let other = circle_reported b is_b in
      let set : IsSet (List (List ℕ)) = Coded-set (coded_list (coded_list coded_ℕ)) in
      let same : one.0 ≡ other.0 =
      ∥∥₁_elim one.2 (set one.0 other.0)
      (λ x. ∥∥₁_elim other.2 (set one.0 other.0) (λ y. runs_into_one tables.means (whole tables source) entry one.0 other.0 x y)) in
      one.1 ∙ ap Circular same ∙ sym other.1

pub reported_one_way : {M F Z S A : Type 0} (tables : Tables M F Z S A) (source : Source) → ReportedOneWay tables source
reported_one_way tables source (Plain known) a b is_a is_b = is_a ∙ sym is_b
reported_one_way tables source (Endless entry) a b is_a is_b = circle_reported_one_way tables source entry a b is_a is_b
