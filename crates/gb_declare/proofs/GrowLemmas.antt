-- A part of a table stays a part as it grows.
use Rattle.std.proofs.Common.{◌≡◌, ℕ, zero, suc, ◌<◌, Bool, true, false, List, [], ◌∷◌, ◌++◌, length, refl, sym, ap, subst, ◌∙◌, arith, inl, inr}
use Rattle.std.proofs.lemmas.Bool.{lt-ltb, le-ltb}
use Rattle.std.proofs.lemmas.Option.{slice_get_within, get_or_from_slice_get}
use Rattle.std.specs.Prelude.{All, Option, Some, None, slice_get, option_map, map, if◌then◌else◌, ◌⊎◌}
use Rattle.gb_provider.specs.Rules.{OperandsWithin, PlaceWithin, SettingWithin, is_output, output_place}
use Rattle.gb_provider.specs.declared.expression.Expression.{Expression}
use Rattle.gb_provider.specs.declared.expression.Expression.TheVariants.{Constant, OfProperty, OfOutput, Listed, Mapped, FlatMapped, Zipped, OrElse}
use Rattle.gb_provider.specs.declared.expression.Setting.{Setting}
use Rattle.gb_provider.specs.declared.expression.Setting.TheVariants.{Held, Followed}
use Rattle.gb_provider.specs.declared.fault.Chosen.{Chosen}
use Rattle.gb_provider.proofs.IndexLemmas.{grown, place_within, position_grown}
use Rattle.gb_provider.proofs.WithinLemmas.{added_within}
use Rattle.gb_declare.specs.Growing.{extended, PartGrows}
use Rattle.gb_declare.specs.Partly.{IsPartOf, renamed, renamed_setting}

prefix_or_last : {X : Type 0} (xs : List X) (y z : X) (i : ℕ) → slice_get (xs ++ y ∷ []) i ≡ Some z → (slice_get xs i ≡ Some z) ⊎ ((i ≡ length xs) × (y ≡ z))
prefix_or_last [] y z zero e = let same : y ≡ z = cc in inr (refl, same)
prefix_or_last [] y z (suc i) e = cc
prefix_or_last (x ∷ xs) y z zero e = inl e
prefix_or_last (x ∷ xs) y z (suc i) e =
    elim (prefix_or_last xs y z i e) [
      | inl prefix ↦ inl prefix
      | inr last ↦ let at = last.0 in inr (omega arith, last.1)
    ]

module _ (number number' : ℕ → ℕ) (n : ℕ) (agree : (i : ℕ) → i < n → number' i ≡ number i) where
  same_setting : (setting : Option (Setting ℕ)) → SettingWithin n setting → option_map (renamed_setting number') setting ≡ option_map (renamed_setting number) setting
  same_setting None within = refl
  same_setting (Some (Held value)) within = refl
  same_setting (Some (Followed source)) within = ap (λ i. Some (Followed i)) (agree source within)

  same_convention : (convention : Option ℕ) → PlaceWithin n convention → option_map number' convention ≡ option_map number convention
  same_convention None within = refl
  same_convention (Some source) within = ap Some (agree source within)

  same_operands : (operands : List ℕ) → All (λ operand. operand < n) operands → map number' operands ≡ map number operands
  same_operands [] all = refl
  same_operands (operand ∷ operands) all =
      ap (λ i. i ∷ map number' operands) (agree operand (all 0 operand (omega arith)))
      ∙ ap (λ is. number operand ∷ is) (same_operands operands (λ k d below. all (suc k) d (omega arith)))

  -- numbers that agree on the operands
  pub same_renamed : {M F Z : Type 0} (e : Expression M F Z) → OperandsWithin n e → renamed number' e ≡ renamed number e
  same_renamed (Constant value) within = refl
  same_renamed (OfProperty property) within =
      ap (λ s. OfProperty (record property { setting = s; convention = option_map number' property.convention })) (same_setting property.setting within.0)
      ∙ ap (λ c. OfProperty (record property { setting = option_map (renamed_setting number) property.setting; convention = c })) (same_convention property.convention within.1)
  same_renamed (OfOutput output) within = ap (λ d. OfOutput (record output { declared = d })) (same_convention output.declared within)
  same_renamed (Listed operands) within = ap Listed (same_operands operands within)
  same_renamed (Mapped source call) within = ap (λ i. Mapped i call) (agree source within)
  same_renamed (FlatMapped source call) within = ap (λ i. FlatMapped i call) (agree source within)
  same_renamed (Zipped left right call) within = ap (λ i. Zipped i (number' right) call) (agree left within.0) ∙ ap (λ i. Zipped (number left) i call) (agree right within.1)
  same_renamed (OrElse left right) within = ap (λ i. OrElse i (number' right)) (agree left within.0) ∙ ap (λ i. OrElse (number left) i) (agree right within.1)

module _ {M F Z : Type 0} (number : ℕ → ℕ) (part whole : List (Expression M F Z)) (is_part : IsPartOf number part whole) (e : Expression M F Z) (place : ℕ) (within : OperandsWithin (length part) e)
    (exists : slice_get whole place ≡ Some (renamed number e)) (if_output : (chosen : Chosen) → is_output chosen e ≡ true → output_place whole chosen ≡ Some place) where
  abbrev more : ℕ → ℕ
  more = extended number (length part) place

  old_number : (i : ℕ) → i < length part → more i ≡ number i
  old_number i below = ap (λ b. if b then number i else place) (lt-ltb i (length part) below)

  new_number : more (length part) ≡ place
  new_number = ap (λ b. if b then number (length part) else place) (le-ltb (length part) (length part) (omega arith))

  old_within : (i : ℕ) (x : Expression M F Z) → slice_get part i ≡ Some x → OperandsWithin (length part) x
  old_within i x is = subst (OperandsWithin (length part)) (get_or_from_slice_get part i x x is) (is_part.within i x (slice_get_within part i x is))

  copied_more : (i : ℕ) (x : Expression M F Z) → slice_get (part ++ e ∷ []) i ≡ Some x → slice_get whole (more i) ≡ Some (renamed more x)
  copied_more i x is =
      elim (prefix_or_last part e x i is) [
        | inl prefix ↦
            ap (slice_get whole) (old_number i (slice_get_within part i x prefix)) ∙ is_part.copied i x prefix
            ∙ ap Some (sym (same_renamed number more (length part) old_number x (old_within i x prefix)))
        | inr last ↦
            ap (λ k. slice_get whole (more k)) last.0 ∙ ap (slice_get whole) new_number ∙ exists
            ∙ ap Some (sym (same_renamed number more (length part) old_number e within)) ∙ ap (λ y. Some (renamed more y)) last.1
      ]

  placed_at : (chosen : Chosen) (k : ℕ) (o : Option ℕ) (b : Bool) → output_place part chosen ≡ o → is_output chosen e ≡ b → grown o b (length part) ≡ Some k → output_place whole chosen ≡ Some (more k)
  placed_at chosen k (Some j) b existed is g =
      let same : j ≡ k = cc in
      let below : PlaceWithin (length part) (Some j) = subst (PlaceWithin (length part)) existed (place_within part chosen) in
      is_part.placed chosen j existed ∙ ap Some (sym (old_number j below)) ∙ ap (λ i. Some (more i)) same
  placed_at chosen k None true existed is g =
      let same : length part ≡ k = cc in
      if_output chosen is ∙ ap Some (sym new_number) ∙ ap (λ i. Some (more i)) same
  placed_at chosen k None false existed is g = cc

  pub grown_part : IsPartOf more (part ++ e ∷ []) whole
  grown_part = record {
    within = added_within part e is_part.within within;
    copied = copied_more;
    placed = λ chosen k is. placed_at chosen k (output_place part chosen) (is_output chosen e) refl refl (sym (position_grown (is_output chosen) e part) ∙ is);
  }

pub part_grows : {M F Z : Type 0} → PartGrows M F Z
part_grows number part whole is_part e place within exists if_output = grown_part number part whole is_part e place within exists if_output
