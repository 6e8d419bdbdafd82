-- The properties among expressions.
use Rattle.std.proofs.Common.{◌≡◌, ◌≢◌, ℕ, ◌==◌, true, false, List, ◌++◌, length, get_or, refl, sym, ap, ◌∙◌, Option, Some, None}
use Rattle.std.proofs.lemmas.Bool.{eqb-true, eq-eqb, ltb-true, ltb-false}
use Rattle.std.proofs.lemmas.List.Quantifiers.{position-Some}
use Rattle.std.proofs.lemmas.Option.{slice_get_within, slice_get-get_or}
use Rattle.std.specs.Prelude.{slice_get, slice_set, nat_lt}
use Rattle.gb_provider.specs.Indexed.{IsNoOutput}
use Rattle.gb_provider.specs.Rules.{is_output, output_place}
use Rattle.gb_provider.specs.declared.expression.Expression.{Expression}
use Rattle.gb_provider.specs.declared.expression.Expression.TheVariants.{Constant, OfProperty, OfOutput, Listed, Mapped, FlatMapped, Zipped, OrElse}
use Rattle.gb_provider.specs.declared.expression.Property.{Property}
use Rattle.gb_provider.specs.declared.fault.Chosen.{Chosen}
use Rattle.gb_provider.proofs.SearchLemmas.{get_set_same, get_set_other}
use Rattle.gb_registry.specs.Projects.{Path}
use Rattle.gb_declare.specs.Circles.{is_named}
use Rattle.gb_declare.specs.Partly.{renamed}
use Rattle.gb_declare.proofs.GrownLemmas.{ArePlain, at_prefix}

-- a property by its project and its name
abbrev pub Key : Type 0
Key = Path × List ℕ

module _ {M F Z : Type 0} where
  abbrev pub key_of : Option (Expression M F Z) → Option Key
  key_of (Some (OfProperty property)) = Some (property.project, property.name)
  key_of other = None

  abbrev pub key_at : List (Expression M F Z) → ℕ → Option Key
  key_at nodes x = key_of (slice_get nodes x)

  pub key_renamed : (number : ℕ → ℕ) (e : Expression M F Z) → key_of (Some (renamed number e)) ≡ key_of (Some e)
  key_renamed number (Constant value) = refl
  key_renamed number (OfProperty property) = refl
  key_renamed number (OfOutput output) = refl
  key_renamed number (Listed operands) = refl
  key_renamed number (Mapped from call) = refl
  key_renamed number (FlatMapped from call) = refl
  key_renamed number (Zipped left right call) = refl
  key_renamed number (OrElse left right) = refl

  pub keyed : (o : Option (Expression M F Z)) (k : Key) → key_of o ≡ Some k → (p : Property) × (o ≡ Some (OfProperty p)) × ((p.project, p.name) ≡ k)
  keyed None k is = absurd (cc)
  keyed (Some (Constant value)) k is = absurd (cc)
  keyed (Some (OfProperty property)) k is = let same : (property.project, property.name) ≡ k = cc in (property, refl, same)
  keyed (Some (OfOutput output)) k is = absurd (cc)
  keyed (Some (Listed operands)) k is = absurd (cc)
  keyed (Some (Mapped from call)) k is = absurd (cc)
  keyed (Some (FlatMapped from call)) k is = absurd (cc)
  keyed (Some (Zipped left right call)) k is = absurd (cc)
  keyed (Some (OrElse left right)) k is = absurd (cc)

  -- each property occurs once
  abbrev pub AreOnce : List (Expression M F Z) → Type 0
  AreOnce nodes = (x y : ℕ) (k : Key) → key_at nodes x ≡ Some k → key_at nodes y ≡ Some k → x ≡ y

  -- the properties of the second are those of the first, at their places
  abbrev pub HasKeysOf : List (Expression M F Z) → List (Expression M F Z) → Type 0
  HasKeysOf nodes more = (x : ℕ) (k : Key) → key_at more x ≡ Some k → key_at nodes x ≡ Some k

  pub once_kept : (nodes more : List (Expression M F Z)) → HasKeysOf nodes more → AreOnce nodes → AreOnce more
  once_kept nodes more keys once x y k at_x at_y = once x y k (keys x k at_x) (keys y k at_y)

  -- what is added has no key
  pub keys_grown : (nodes more rest : List (Expression M F Z)) → more ≡ nodes ++ rest → ArePlain (length nodes) more → HasKeysOf nodes more
  keys_grown nodes more rest prefix plain x k at =
      elim (nat_lt x (length nodes)) as (λ b. nat_lt x (length nodes) ≡ b → key_at nodes x ≡ Some k) [
        | true ↦ λ here. ap key_of (sym (ap (λ l. slice_get l x) prefix ∙ at_prefix nodes rest x (ltb-true x (length nodes) here))) ∙ at
        | false ↦ λ there.
            let found = keyed (slice_get more x) k at in
            let unnamed = plain x (OfProperty found.0) (ltb-false x (length nodes) there) found.1 in
            let clash : true ≡ false = unnamed.0 in
            absurd (cc)
      ] refl

  -- what is changed keeps its key
  module _ (nodes : List (Expression M F Z)) (place : ℕ) (old new : Property) (exists : slice_get nodes place ≡ Some (OfProperty old)) where
    abbrev pub changed_nodes : List (Expression M F Z)
    changed_nodes = slice_set nodes place (OfProperty new)

    pub at_change : slice_get changed_nodes place ≡ Some (OfProperty new)
    at_change = get_set_same nodes place (OfProperty new) (slice_get_within nodes place (OfProperty old) exists)

    pub off_change : (x : ℕ) → x ≢ place → slice_get changed_nodes x ≡ slice_get nodes x
    off_change x other = get_set_other nodes place x (OfProperty new) (λ same. other (sym same))

    pub keys_changed : ◌≡◌ {A = Key} (old.project, old.name) (new.project, new.name) → HasKeysOf nodes changed_nodes
    keys_changed same x k at =
        elim (x == place) as (λ b. (x == place) ≡ b → key_at nodes x ≡ Some k) [
          | true ↦ λ here.
              let is : x ≡ place = eqb-true x place here in
              ap (key_at nodes) is ∙ ap key_of exists ∙ ap Some same ∙ sym (ap key_of at_change) ∙ ap (key_at changed_nodes) (sym is) ∙ at
          | false ↦ λ there.
              let other : x ≢ place = λ is. (let clash : true ≡ false = sym (eq-eqb x place is) ∙ there in absurd (cc)) in
              ap key_of (sym (off_change x other)) ∙ at
        ] refl

  -- ---- Outputs

  abbrev pub HasNoOutputs : List (Expression M F Z) → Type 0
  HasNoOutputs nodes = (x : ℕ) (e : Expression M F Z) → slice_get nodes x ≡ Some e → IsNoOutput e

  pub unnamed_plain : (e : Expression M F Z) → is_named (Some e) ≡ false → IsNoOutput e
  unnamed_plain (Constant value) is = tt
  unnamed_plain (OfProperty property) is = tt
  unnamed_plain (OfOutput output) is = absurd (cc)
  unnamed_plain (Listed operands) is = tt
  unnamed_plain (Mapped from call) is = tt
  unnamed_plain (FlatMapped from call) is = tt
  unnamed_plain (Zipped left right call) is = tt
  unnamed_plain (OrElse left right) is = tt

  no_output_is : (e : Expression M F Z) (chosen : Chosen) → IsNoOutput e → is_output chosen e ≡ false
  no_output_is (Constant value) chosen plain = refl
  no_output_is (OfProperty property) chosen plain = refl
  no_output_is (OfOutput output) chosen plain = absurd plain
  no_output_is (Listed operands) chosen plain = refl
  no_output_is (Mapped from call) chosen plain = refl
  no_output_is (FlatMapped from call) chosen plain = refl
  no_output_is (Zipped left right call) chosen plain = refl
  no_output_is (OrElse left right) chosen plain = refl

  pub outputs_none : (nodes : List (Expression M F Z)) → HasNoOutputs nodes → (chosen : Chosen) → output_place nodes chosen ≡ None
  outputs_none nodes none chosen =
      elim (output_place nodes chosen) as (λ o. output_place nodes chosen ≡ o → o ≡ None) [
        | None ↦ λ _. refl
        | Some k ↦ λ found.
            let blank : Expression M F Z = Constant None in
            let at = position-Some (is_output chosen) nodes k blank found in
            let fails = no_output_is (get_or nodes k blank) chosen (none k (get_or nodes k blank) (slice_get-get_or nodes k blank at.0)) in
            let clash : true ≡ false = sym at.1 ∙ fails in
            absurd (cc)
      ] refl
