-- A circle of a part of a table is one of the whole, under the same names.
use Rattle.std.proofs.Common.{◌≡◌, ◌≢◌, ℕ, suc, ◌+◌, ◌-◌, ◌<◌, List, [], ◌∷◌, ◌++◌, length, refl, sym, ap, ◌∙◌, arith, inl, inr}
use Rattle.std.proofs.lemmas.Bool.{cases_lt}
use Rattle.std.proofs.lemmas.List.{length-map, get_or-map}
use Rattle.std.proofs.lemmas.Option.{slice_get-map}
use Rattle.std.specs.Prelude.{Option, Some, None, slice_get, slice_index, map}
use Rattle.gb_provider.proofs.CircleLemmas.{IsIndexedCircle, circle_by_index, circle_of_index}
use Rattle.gb_provider.specs.Meanings.{Meanings}
use Rattle.gb_provider.specs.Names.{names_of, names_on}
use Rattle.gb_provider.specs.Rounds.{Rule, reading, awaited, and_then, answer, next_awaited}
use Rattle.gb_provider.specs.Rules.{rule, rules}
use Rattle.gb_provider.specs.declared.expression.Expression.{Expression}
use Rattle.gb_provider.specs.declared.expression.Expression.TheVariants.{Constant, OfProperty, OfOutput, Listed, Mapped, FlatMapped, Zipped, OrElse}
use Rattle.gb_provider.specs.declared.expression.Outcome.{Outcome}
use Rattle.gb_declare.specs.Circles.{AreDistinct, CirclesStay}
use Rattle.gb_declare.specs.Partly.{renamed, IsPartOf, IsPending}
use Rattle.gb_declare.proofs.CopyLemmas.{mapped_at, rules_are_part}
use Rattle.gb_declare.proofs.RoundLemmas.{next_in_part, after_in_part}

-- an entry of a renamed row
at_map : (number : ℕ → ℕ) (circle : List ℕ) (i : ℕ) → i < length circle → slice_index (map number circle) i ≡ number (slice_index circle i)
at_map number circle i below = get_or-map number circle i 0 0 below

module _ {M F Z S : Type 0} (meanings : Meanings M F Z S) (number : ℕ → ℕ) (part whole : List (Expression M F Z)) (is_part : IsPartOf number part whole) where
  abbrev next_of : ℕ → Option ℕ
  next_of = next_awaited (rules meanings part)

  pub next_there : (x s : ℕ) → next_of x ≡ Some s → next_awaited (rules meanings whole) (number x) ≡ Some (number s)
  next_there x s e = next_in_part number (IsPending part whole) (rules meanings part) (rules meanings whole) (rules_are_part meanings number part whole is_part) x s e

  -- what awaits something is in the table
  rule_there : (x s : ℕ) (o : Option (Rule ℕ Outcome)) → and_then (λ r. awaited (reading (answer (rules meanings part)) r)) o ≡ Some s → (r : Rule ℕ Outcome) × (o ≡ Some r)
  rule_there x s None e = cc
  rule_there x s (Some r) e = (r, refl)

  node_there : (x s : ℕ) → next_of x ≡ Some s → (e : Expression M F Z) × (slice_get part x ≡ Some e)
  node_there x s e =
      let here = rule_there x s (slice_get (rules meanings part) x) e in
      let found = mapped_at meanings number part whole is_part (rule meanings part) part x here.0 (slice_get part x) refl (sym (slice_get-map (rule meanings part) part x) ∙ here.1) in
      (found.0, found.1)

  -- names are not changed
  renamed_names : (e : Expression M F Z) → names_of (Some (renamed number e)) ≡ names_of (Some e)
  renamed_names (Constant value) = refl
  renamed_names (OfProperty property) = refl
  renamed_names (OfOutput output) = refl
  renamed_names (Listed operands) = refl
  renamed_names (Mapped source call) = refl
  renamed_names (FlatMapped source call) = refl
  renamed_names (Zipped left right call) = refl
  renamed_names (OrElse left right) = refl

  same_names : (x : ℕ) (e : Expression M F Z) → slice_get part x ≡ Some e → names_of (slice_get whole (number x)) ≡ names_of (slice_get part x)
  same_names x e is = ap names_of (is_part.copied x e is) ∙ renamed_names e ∙ sym (ap names_of is)

  names_same : (xs : List ℕ) → ((i : ℕ) → i < length xs → (e : Expression M F Z) × (slice_get part (slice_index xs i) ≡ Some e)) → names_on whole (map number xs) ≡ names_on part xs
  names_same [] all = refl
  names_same (x ∷ xs) all =
      let here = all 0 (omega arith) in
      ap (λ l. l ++ names_on whole (map number xs)) (same_names x here.0 here.1)
      ∙ ap (λ l. names_of (slice_get part x) ++ l) (names_same xs (λ i below. all (suc i) (omega arith)))

  module _ (entry : ℕ) (circle : List ℕ) (separate : AreDistinct number circle) (is : IsIndexedCircle (rules meanings part) entry circle) where
    same_length : length (map number circle) ≡ length circle
    same_length = length-map circle number

    moved_next : (i : ℕ) → i + 1 < length (map number circle) → next_awaited (rules meanings whole) (slice_index (map number circle) i) ≡ Some (slice_index (map number circle) (i + 1))
    moved_next i below =
        let within : i + 1 < length circle = omega (arith, below, same_length) in
        ap (next_awaited (rules meanings whole)) (at_map number circle i (omega arith))
        ∙ next_there (slice_index circle i) (slice_index circle (i + 1)) (is.next i within)
        ∙ ap Some (sym (at_map number circle (i + 1) within))

    moved_closed : next_awaited (rules meanings whole) (slice_index (map number circle) (length (map number circle) - 1)) ≡ Some (slice_index (map number circle) 0)
    moved_closed =
        let some = is.some in
        ap (λ n. next_awaited (rules meanings whole) (slice_index (map number circle) (n - 1))) same_length
        ∙ ap (next_awaited (rules meanings whole)) (at_map number circle (length circle - 1) (omega arith))
        ∙ next_there (slice_index circle (length circle - 1)) (slice_index circle 0) is.closed
        ∙ ap Some (sym (at_map number circle 0 some))

    moved_different : (i j : ℕ) → i < j → j < length (map number circle) → slice_index (map number circle) i ≢ slice_index (map number circle) j
    moved_different i j less below same =
        let within : j < length circle = omega (arith, below, same_length) in
        separate i j less within (sym (at_map number circle i (omega arith)) ∙ same ∙ at_map number circle j within)

    moved_circle : IsIndexedCircle (rules meanings whole) (number entry) (map number circle)
    moved_circle = record {
      some = omega (arith, same_length, is.some);
      reached = (
        is.reached.0,
        after_in_part number (IsPending part whole) (rules meanings part) (rules meanings whole) (rules_are_part meanings number part whole is_part) is.reached.0 entry (slice_index circle 0) is.reached.1
            ∙ ap Some (sym (at_map number circle 0 is.some)),
      );
      next = moved_next;
      closed = moved_closed;
      different = moved_different;
    }

    -- an entry on the circle is an expression
    exists_at : (i : ℕ) → i < length circle → (e : Expression M F Z) × (slice_get part (slice_index circle i) ≡ Some e)
    exists_at i below =
        elim (cases_lt (i + 1) (length circle)) [
          | inl more ↦ node_there (slice_index circle i) (slice_index circle (i + 1)) (is.next i more)
          | inr past ↦
              let last : i ≡ length circle - 1 = omega (arith, below, past) in
              node_there (slice_index circle i) (slice_index circle 0) (ap (λ n. next_of (slice_index circle n)) last ∙ is.closed)
        ]

    moved_names : names_on whole (map number circle) ≡ names_on part circle
    moved_names = names_same circle exists_at

pub circles_stay : {M F Z S : Type 0} (meanings : Meanings M F Z S) → CirclesStay meanings
circles_stay meanings number part whole is_part entry circle separate is =
    let indexed = circle_by_index (rules meanings part) entry circle is in (
      circle_of_index (rules meanings whole) (number entry) (map number circle) (moved_circle meanings number part whole is_part entry circle separate indexed),
      moved_names meanings number part whole is_part entry circle separate indexed,
    )
