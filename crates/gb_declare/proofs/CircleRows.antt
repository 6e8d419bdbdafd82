-- Two properties that are set to one another: the circle is reported by its names, starting with the least.
use Rattle.std.proofs.Common.{◌≡◌, ◌≢◌, ℕ, zero, suc, ◌+◌, ◌<◌, List, [], ◌∷◌, length, Some, refl, arith}
use Rattle.std.specs.Prelude.{codes, slice_index}
use Rattle.std.specs.declared.cmp.Ordering.TheVariants.{Greater}
use Rattle.gb_provider.proofs.CircleLemmas.{circle_of_index}
use Rattle.gb_provider.specs.Circle.{IsCircle}
use Rattle.gb_provider.specs.Names.{IsLeastRound, names_on, names_order, round_from}
use Rattle.gb_provider.specs.Rounds.{next_awaited}
use Rattle.gb_provider.specs.Rules.{rules}
use Rattle.gb_provider.specs.declared.expression.Expression.{Expression}
use Rattle.gb_report.specs.declared.fault.Fault.TheVariants as faults
use Rattle.gb_declare.specs.Realised.{Endless}
use Rattle.gb_registry.specs.Source.{Source, source_of}
use Rattle.gb_declare.specs.Reported.{IsReported, reported_circle}
use Rattle.gb_declare.specs.Whole.{whole}
use Rattle.gb_registry.proofs.Sample.{tables, property, set}
use Rattle.gb_declare.proofs.TaskRows.{nineteen, a, b}

abbrev pub source : Source
source = source_of [] (nineteen (set a (property b) ∷ []) ∷ []) []

abbrev pub nodes : List (Expression ℕ ℕ ℕ)
nodes = whole tables source

-- `b`, `a.map(upper)` and `a`
abbrev pub circle : List ℕ
circle = 1 ∷ 4 ∷ 0 ∷ []

next_is : (i : ℕ) → i + 1 < length circle → next_awaited (rules tables.means nodes) (slice_index circle i) ≡ Some (slice_index circle (i + 1))
next_is zero below = refl
next_is (suc zero) below = refl
next_is (suc (suc i)) below = absurd (omega arith)

are_different : (i j : ℕ) → i < j → j < length circle → slice_index circle i ≢ slice_index circle j
are_different zero (suc zero) less below same = omega (arith, same)
are_different zero (suc (suc zero)) less below same = omega (arith, same)
are_different (suc zero) (suc (suc zero)) less below same = omega (arith, same)
are_different zero zero less below same = omega arith
are_different (suc i) zero less below same = omega arith
are_different (suc i) (suc zero) less below same = omega arith
are_different (suc (suc i)) (suc (suc zero)) less below same = omega arith
are_different i (suc (suc (suc j))) less below same = omega arith

pub is_circle : IsCircle (rules tables.means nodes) 1 circle
is_circle =
    circle_of_index (rules tables.means nodes) 1 circle
    (record { some = omega arith; reached = (0, refl); next = next_is; closed = refl; different = are_different })

abbrev pub names : List (List ℕ)
names = codes ":#a" ∷ codes ":#b" ∷ []

-- the names in the order of the circle
abbrev pub round : List (List ℕ)
round = codes ":#b" ∷ codes ":#a" ∷ []

not_greater : (k : ℕ) → k < 2 → names_order names (round_from round k) ≢ Greater
not_greater zero below same = cc
not_greater (suc zero) below same = cc
not_greater (suc (suc k)) below same = omega arith

pub least_round : IsLeastRound (names_on nodes circle) names
least_round = ((1, refl), not_greater)

pub reported : IsReported tables source (Endless 1) (faults.Circular names)
reported = ∣ (circle, is_circle, least_round) ∣₁

-- The same by computation: from `b`, from `a.map(upper)`, and from the second occurrence of `a`, which is not
-- on the circle but leads to it.
pub reported_on_it : reported_circle tables source 1 ≡ faults.Circular names
reported_on_it = refl

pub reported_elsewhere_on_it : reported_circle tables source 4 ≡ faults.Circular names
reported_elsewhere_on_it = refl

pub reported_before_it : reported_circle tables source 3 ≡ faults.Circular names
reported_before_it = refl

-- a text reaches no circle
pub reported_of_none : reported_circle tables source 5 ≡ faults.Circular []
reported_of_none = refl
