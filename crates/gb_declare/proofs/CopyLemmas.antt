-- The rules of a part of a table are like those of the whole.
use Rattle.std.proofs.Common.{◌≡◌, ℕ, suc, ◌<◌, List, [], ◌∷◌, ◌++◌, length, refl, sym, ap, subst, ◌∙◌, arith, inl, inr}
use Rattle.std.proofs.lemmas.List.{length-map}
use Rattle.std.proofs.lemmas.Option.{slice_get-map, slice_get_within, get_or_from_slice_get}
use Rattle.std.specs.Prelude.{Bool, true, false, All, Option, Some, None, Result, Ok, Err, slice_get, option_map, map, ◌⊎◌}
use Rattle.gb_core.specs.declared.value.Value.{Value}
use Rattle.gb_core.specs.declared.value.Value.TheVariants as values
use Rattle.gb_provider.specs.Answers.{value_of}
use Rattle.gb_provider.specs.Meanings.{Meanings, meaning_of}
use Rattle.gb_provider.specs.Rounds.{Rule, Answers, Reads}
use Rattle.gb_provider.specs.Rules.{OperandsWithin, PlaceWithin, SettingWithin, chosen_rule, follow, list_rule, on_text, on_value, or_else, output_place, output_rule, property_rule, rule, rules}
use Rattle.gb_provider.specs.declared.expression.Expression.{Expression}
use Rattle.gb_provider.specs.declared.expression.Expression.TheVariants.{Constant, OfProperty, OfOutput, Listed, Mapped, FlatMapped, Zipped, OrElse}
use Rattle.gb_provider.specs.declared.expression.Outcome.{Outcome}
use Rattle.gb_provider.specs.declared.expression.Outcome.TheVariants.{Given, Absent, Refused}
use Rattle.gb_provider.specs.declared.expression.Setting.{Setting}
use Rattle.gb_provider.specs.declared.expression.Setting.TheVariants.{Held, Followed}
use Rattle.gb_provider.specs.declared.fault.Chosen.{Chosen}
use Rattle.gb_provider.specs.declared.fault.Refusal.{Refusal}
use Rattle.gb_provider.specs.declared.fault.ValueFault.TheVariants.{Unrealised}
use Rattle.gb_provider.proofs.IndexLemmas.{place_within}
use Rattle.gb_declare.specs.Partly.{renamed, renamed_setting, IsPartOf, IsPending, PartAnswers, PartIsEndless}
use Rattle.gb_declare.specs.Parts.{IsLike, ArePart}
use Rattle.gb_declare.proofs.PartLemmas.{part_answers, part_is_endless}

module _ {M F Z S : Type 0} (meanings : Meanings M F Z S) (number : ℕ → ℕ) (part whole : List (Expression M F Z)) (is_part : IsPartOf number part whole) where
  abbrev Pending : Outcome → Type 0
  Pending = IsPending part whole

  abbrev Like : Rule ℕ Outcome → Rule ℕ Outcome → Type 0
  Like = IsLike (length part) number Pending

  -- what a rule does with a fault it does with a pending one
  passed : (next : Outcome → Rule ℕ Outcome) → ((chosen : Chosen) → next (Refused (Unrealised chosen)) ≡ Answers (Refused (Unrealised chosen))) → (a : Outcome) → Pending a → next a ≡ Answers a
  passed next refuses a pending = subst (λ b. next b ≡ Answers b) (sym pending.1) (refuses pending.0)

  same_follow : (operand : ℕ) → operand < length part → Like (follow operand) (follow (number operand))
  same_follow operand within = (within, refl, λ a pending. refl, λ a. inr (inr refl))

  value_next : (go_on go_on' : Value → Rule ℕ Outcome) → ((value : Value) → Like (go_on value) (go_on' value)) → (a : Outcome) → Pending a ⊎ Like (on_value go_on a) (on_value go_on' a)
  value_next go_on go_on' all (Given value) = inr (all value)
  value_next go_on go_on' all Absent = inr (inr refl)
  value_next go_on go_on' all (Refused fault) = inr (inr refl)

  -- a rule that continues where its operand is a value
  same_value : (operand : ℕ) (go_on go_on' : Value → Rule ℕ Outcome) → operand < length part → ((value : Value) → Like (go_on value) (go_on' value))
      → Like (Reads operand (on_value go_on)) (Reads (number operand) (on_value go_on'))
  same_value operand go_on go_on' within all = (within, refl, passed (on_value go_on) (λ chosen. refl), value_next go_on go_on' all)

  same_property : (setting : Option (Setting ℕ)) (convention : Option ℕ) → SettingWithin (length part) setting → PlaceWithin (length part) convention
      → Like (property_rule setting convention) (property_rule (option_map (renamed_setting number) setting) (option_map number convention))
  same_property (Some (Held value)) convention s p = inr refl
  same_property (Some (Followed source)) convention s p = same_follow source s
  same_property None (Some source) s p = same_follow source p
  same_property None None s p = inr refl

  same_output : (chosen : Chosen) (declared : Option ℕ) → PlaceWithin (length part) declared → Like (output_rule chosen declared) (output_rule chosen (option_map number declared))
  same_output chosen (Some source) p = same_follow source p
  same_output chosen None p = inr refl

  same_text : (go_on go_on' : List ℕ → Rule ℕ Outcome) (other other' : Rule ℕ Outcome) → ((text : List ℕ) → Like (go_on text) (go_on' text)) → Like other other'
      → (value : Value) → Like (on_text go_on other value) (on_text go_on' other' value)
  same_text go_on go_on' other other' all same (values.Text text) = all text
  same_text go_on go_on' other other' all same (values.Flag flag) = same
  same_text go_on go_on' other other' all same (values.List texts) = same
  same_text go_on go_on' other other' all same (values.Place place) = same
  same_text go_on go_on' other other' all same (values.Task task) = same

  same_list : (operands : List ℕ) (is_wrong : Bool) (texts : List (List ℕ)) → All (λ operand. operand < length part) operands
      → Like (list_rule is_wrong texts operands) (list_rule is_wrong texts (map number operands))
  same_list [] is_wrong texts all = inr refl
  same_list (operand ∷ operands) is_wrong texts all =
      same_value operand (on_text (λ text. list_rule is_wrong (texts ++ text ∷ []) operands) (list_rule true texts operands))
      (on_text (λ text. list_rule is_wrong (texts ++ text ∷ []) (map number operands)) (list_rule true texts (map number operands))) (all 0 operand (omega arith))
      (same_text (λ text. list_rule is_wrong (texts ++ text ∷ []) operands) (λ text. list_rule is_wrong (texts ++ text ∷ []) (map number operands))
      (list_rule true texts operands) (list_rule true texts (map number operands))
      (λ text. same_list operands is_wrong (texts ++ text ∷ []) (λ k d below. all (suc k) d (omega arith)))
      (same_list operands true texts (λ k d below. all (suc k) d (omega arith))))

  -- an output that is chosen: by its place in both, or pending, or in neither
  same_place : (chosen : Chosen) (o p : Option ℕ) → output_place part chosen ≡ o → output_place whole chosen ≡ p → Like (output_rule chosen o) (output_rule chosen p)
  same_place chosen (Some k) p is there =
      let same : p ≡ Some (number k) = sym there ∙ is_part.placed chosen k is in
      let within : PlaceWithin (length part) (Some k) = subst (PlaceWithin (length part)) is (place_within part chosen) in
      subst (λ q. Like (output_rule chosen (Some k)) (output_rule chosen q)) (sym same) (same_follow k within)
  same_place chosen None (Some k) is there = inl (chosen, refl, is, (k, there))
  same_place chosen None None is there = inr refl

  same_choice : (function : List ℕ) (reply : Result (Option Chosen) Refusal) → Like (chosen_rule (output_place part) function reply) (chosen_rule (output_place whole) function reply)
  same_choice function (Ok (Some chosen)) = same_place chosen (output_place part chosen) (output_place whole chosen) refl refl
  same_choice function (Ok None) = inr refl
  same_choice function (Err refusal) = inr refl

  else_next : (right : ℕ) → right < length part → (a : Outcome) → Pending a ⊎ Like (or_else right a) (or_else (number right) a)
  else_next right within (Given value) = inr (inr refl)
  else_next right within Absent = inr (same_follow right within)
  else_next right within (Refused fault) = inr (inr refl)

  -- the rule of an expression in the part, and that of the same expression in the whole
  same_rule : (e : Expression M F Z) → OperandsWithin (length part) e → Like (rule meanings part e) (rule meanings whole (renamed number e))
  same_rule (Constant value) within = inr refl
  same_rule (OfProperty property) within = same_property property.setting property.convention within.0 within.1
  same_rule (OfOutput output) within = same_output output.chosen output.declared within
  same_rule (Listed operands) within = same_list operands false [] within
  same_rule (Mapped source call) within = same_value source _ _ within (λ value. inr refl)
  same_rule (FlatMapped source call) within = same_value source _ _ within (λ value. same_choice call.name (meaning_of meanings.flat_map call.function value call.arguments))
  same_rule (Zipped left right call) within = same_value left _ _ within.0 (λ a. same_value right _ _ within.1 (λ b. inr refl))
  same_rule (OrElse left right) within = (within.0, refl, passed (or_else right) (λ chosen. refl), else_next right within.1)

  pub mapped_at : {X Y : Type 0} (h : X → Y) (xs : List X) (i : ℕ) (y : Y) (o : Option X) → slice_get xs i ≡ o → option_map h o ≡ Some y → (x : X) × (slice_get xs i ≡ Some x) × (h x ≡ y)
  mapped_at h xs i y None is found = cc
  mapped_at h xs i y (Some x) is found = (x, is, let same : h x ≡ y = cc in same)

  node_within : (i : ℕ) (e : Expression M F Z) → slice_get part i ≡ Some e → OperandsWithin (length part) e
  node_within i e is = subst (OperandsWithin (length part)) (get_or_from_slice_get part i e e is) (is_part.within i e (slice_get_within part i e is))

  pub rules_are_part : ArePart number Pending (rules meanings part) (rules meanings whole)
  rules_are_part = record {
    like = λ entry r is.
        let found = mapped_at (rule meanings part) part entry r (slice_get part entry) refl (sym (slice_get-map (rule meanings part) part entry) ∙ is) in
        let same : length part ≡ length (rules meanings part) = sym (length-map part (rule meanings part)) in (
          rule meanings whole (renamed number found.0),
          slice_get-map (rule meanings whole) whole (number entry) ∙ ap (option_map (rule meanings whole)) (is_part.copied entry found.0 found.1),
          subst (λ n. IsLike n number Pending r (rule meanings whole (renamed number found.0))) same
              (subst (λ s. Like s (rule meanings whole (renamed number found.0))) found.2 (same_rule found.0 (node_within entry found.0 found.1))),
        );
  }

  pub answers_in_part : (entry : ℕ) (outcome : Outcome) → value_of meanings part entry ≡ Some outcome → Pending outcome ⊎ (value_of meanings whole (number entry) ≡ Some outcome)
  answers_in_part entry outcome e = part_answers number Pending (rules meanings part) (rules meanings whole) rules_are_part entry outcome e

  pub endless_in_part : (entry : ℕ) → entry < length part → value_of meanings part entry ≡ None → value_of meanings whole (number entry) ≡ None
  endless_in_part entry within none =
      let same : length part ≡ length (rules meanings part) = sym (length-map part (rule meanings part)) in
      part_is_endless number Pending (rules meanings part) (rules meanings whole) rules_are_part entry (omega (arith, within, same)) none

module _ {M F Z S : Type 0} (meanings : Meanings M F Z S) where
  pub part_answers_lem : PartAnswers meanings
  part_answers_lem number part whole is_part entry outcome e = answers_in_part meanings number part whole is_part entry outcome e

  pub part_is_endless_lem : PartIsEndless meanings
  part_is_endless_lem number part whole is_part entry within none = endless_in_part meanings number part whole is_part entry within none
