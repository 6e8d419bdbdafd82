-- The tasks that an expression has in a part of a table are those that it has in the whole.
use Rattle.std.proofs.Common.{◌≡◌, ℕ, zero, suc, ◌<◌, List, [], ◌∷◌, length, refl, sym, ap, subst, ◌∙◌, arith, inl, inr}
use Rattle.std.proofs.lemmas.List.{length-map}
use Rattle.std.proofs.lemmas.Option.{slice_get-map, slice_get_within, get_or_from_slice_get}
use Rattle.std.specs.Prelude.{All, Option, Some, None, slice_get, option_map, map, ◌⊎◌}
use Rattle.gb_core.specs.declared.value.Value.{Value}
use Rattle.gb_provider.specs.Answers.{value_of}
use Rattle.gb_provider.specs.Called.{Called}
use Rattle.gb_provider.specs.Meanings.{Meanings}
use Rattle.gb_provider.specs.Produced.{carrier, carriers, carry, carry_all, carry_property, carry_side, choose_tasks, on_tasks, produced_by}
use Rattle.gb_core.specs.Tasks.{with_tasks}
use Rattle.gb_provider.specs.Rounds.{Rule, Answers}
use Rattle.gb_provider.specs.Rules.{OperandsWithin, PlaceWithin, SettingWithin}
use Rattle.gb_provider.specs.declared.expression.Expression.{Expression}
use Rattle.gb_provider.specs.declared.expression.Expression.TheVariants.{Constant, OfProperty, OfOutput, Listed, Mapped, FlatMapped, Zipped, OrElse}
use Rattle.gb_provider.specs.declared.expression.Outcome.{Outcome}
use Rattle.gb_provider.specs.declared.expression.Outcome.TheVariants.{Given, Absent, Refused}
use Rattle.gb_provider.specs.declared.expression.Setting.{Setting}
use Rattle.gb_provider.specs.declared.expression.Setting.TheVariants.{Held, Followed}
use Rattle.gb_provider.specs.declared.produced.Produced.{Produced}
use Rattle.gb_provider.specs.declared.produced.Produced.TheVariants as produced
use Rattle.gb_declare.specs.Needs.{PartProduces}
use Rattle.gb_declare.specs.Partly.{renamed, renamed_setting, IsPartOf}
use Rattle.gb_declare.specs.Parts.{IsLike, ArePart}
use Rattle.gb_declare.proofs.CopyLemmas.{answers_in_part}
use Rattle.gb_declare.proofs.PartLemmas.{part_answers}

-- a result that gives no tasks
abbrev pub NoTasks : Produced ℕ → Type 0
NoTasks (produced.Tasks tasks) = ⊥
NoTasks (produced.Refused fault) = Unit {0}
NoTasks (produced.Endless chooser) = Unit {0}

module _ {M F Z S : Type 0} (meanings : Meanings M F Z S) (number : ℕ → ℕ) (part whole : List (Expression M F Z)) (is_part : IsPartOf number part whole) where
  abbrev Like : Rule ℕ (Produced ℕ) → Rule ℕ (Produced ℕ) → Type 0
  Like = IsLike (length part) number NoTasks

  same_carry : (operand : ℕ) → operand < length part → Like (carry operand) (carry (number operand))
  same_carry operand within = (within, refl, λ a none. refl, λ a. inr (inr refl))

  same_property : (setting : Option (Setting ℕ)) (convention : Option ℕ) → SettingWithin (length part) setting → PlaceWithin (length part) convention
      → Like (carry_property setting convention) (carry_property (option_map (renamed_setting number) setting) (option_map number convention))
  same_property (Some (Held value)) convention s p = inr refl
  same_property (Some (Followed source)) convention s p = same_carry source s
  same_property None (Some source) s p = same_carry source p
  same_property None None s p = inr refl

  passed_tasks : (go_on : List (List ℕ) → Rule ℕ (Produced ℕ)) (a : Produced ℕ) → NoTasks a → on_tasks go_on a ≡ Answers a
  passed_tasks go_on (produced.Tasks tasks) none = absurd none
  passed_tasks go_on (produced.Refused fault) none = refl
  passed_tasks go_on (produced.Endless chooser) none = refl

  next_tasks : (go_on go_on' : List (List ℕ) → Rule ℕ (Produced ℕ)) → ((tasks : List (List ℕ)) → Like (go_on tasks) (go_on' tasks)) → (a : Produced ℕ) → NoTasks a ⊎ Like (on_tasks go_on a) (on_tasks go_on' a)
  next_tasks go_on go_on' all (produced.Tasks tasks) = inr (all tasks)
  next_tasks go_on go_on' all (produced.Refused fault) = inl tt
  next_tasks go_on go_on' all (produced.Endless chooser) = inl tt

  same_all : (operands : List ℕ) (tasks : List (List ℕ)) → All (λ operand. operand < length part) operands → Like (carry_all tasks operands) (carry_all tasks (map number operands))
  same_all [] tasks all = inr refl
  same_all (operand ∷ operands) tasks all = (
    all 0 operand (omega arith),
    refl,
    passed_tasks (λ more. carry_all (with_tasks tasks more) operands),
    next_tasks (λ more. carry_all (with_tasks tasks more) operands) (λ more. carry_all (with_tasks tasks more) (map number operands))
        (λ more. same_all operands (with_tasks tasks more) (λ k d below. all (suc k) d (omega arith))),
  )

  both_within : (left right : ℕ) → left < length part → right < length part → All (λ operand. operand < length part) (left ∷ right ∷ [])
  both_within left right l r zero d below = l
  both_within left right l r (suc zero) d below = r
  both_within left right l r (suc (suc k)) d below = absurd (omega arith)

  -- a value, or none, that an expression has in the part is what it has in the whole
  same_given : (entry : ℕ) (value : Value) → value_of meanings part entry ≡ Some (Given value) → value_of meanings whole (number entry) ≡ Some (Given value)
  same_given entry value is =
      elim (answers_in_part meanings number part whole is_part entry (Given value) is) [
        | inl pending ↦ let clash = pending.1 in cc
        | inr same ↦ same
      ]

  same_absent : (entry : ℕ) → value_of meanings part entry ≡ Some Absent → value_of meanings whole (number entry) ≡ Some Absent
  same_absent entry is =
      elim (answers_in_part meanings number part whole is_part entry Absent is) [
        | inl pending ↦ let clash = pending.1 in cc
        | inr same ↦ same
      ]

  same_choice : (source : ℕ) (call : Called F) (o p : Option Outcome) → value_of meanings part source ≡ o → value_of meanings whole (number source) ≡ p
      → Like (Answers (choose_tasks meanings source call o)) (Answers (choose_tasks meanings (number source) call p))
  same_choice source call (Some (Given value)) p is there =
      let same : p ≡ Some (Given value) = sym there ∙ same_given source value is in
      inr (ap (λ q. Answers (choose_tasks meanings (number source) call q)) same)
  same_choice source call (Some Absent) p is there =
      let same : p ≡ Some Absent = sym there ∙ same_absent source is in
      inr (ap (λ q. Answers (choose_tasks meanings (number source) call q)) same)
  same_choice source call (Some (Refused fault)) p is there = inl tt
  same_choice source call None p is there = inl tt

  same_side : (left right : ℕ) → left < length part → right < length part → (o p : Option Outcome) → value_of meanings part left ≡ o → value_of meanings whole (number left) ≡ p
      → Like (carry_side left right o) (carry_side (number left) (number right) p)
  same_side left right l r (Some (Given value)) p is there =
      let same : p ≡ Some (Given value) = sym there ∙ same_given left value is in
      subst (λ q. Like (carry left) (carry_side (number left) (number right) q)) (sym same) (same_carry left l)
  same_side left right l r (Some Absent) p is there =
      let same : p ≡ Some Absent = sym there ∙ same_absent left is in
      subst (λ q. Like (carry right) (carry_side (number left) (number right) q)) (sym same) (same_carry right r)
  same_side left right l r (Some (Refused fault)) p is there = inl tt
  same_side left right l r None p is there = inl tt

  same_carrier : (e : Expression M F Z) → OperandsWithin (length part) e → Like (carrier meanings part e) (carrier meanings whole (renamed number e))
  same_carrier (Constant value) within = inr refl
  same_carrier (OfProperty property) within = same_property property.setting property.convention within.0 within.1
  same_carrier (OfOutput output) within = inr refl
  same_carrier (Listed operands) within = same_all operands [] within
  same_carrier (Mapped source call) within = same_carry source within
  same_carrier (FlatMapped source call) within = same_choice source call (value_of meanings part source) (value_of meanings whole (number source)) refl refl
  same_carrier (Zipped left right call) within = same_all (left ∷ right ∷ []) [] (both_within left right within.0 within.1)
  same_carrier (OrElse left right) within = same_side left right within.0 within.1 (value_of meanings part left) (value_of meanings whole (number left)) refl refl

  mapped_at : {X Y : Type 0} (h : X → Y) (xs : List X) (i : ℕ) (y : Y) (o : Option X) → slice_get xs i ≡ o → option_map h o ≡ Some y → (x : X) × (slice_get xs i ≡ Some x) × (h x ≡ y)
  mapped_at h xs i y None is found = cc
  mapped_at h xs i y (Some x) is found = (x, is, let same : h x ≡ y = cc in same)

  node_within : (i : ℕ) (e : Expression M F Z) → slice_get part i ≡ Some e → OperandsWithin (length part) e
  node_within i e is = subst (OperandsWithin (length part)) (get_or_from_slice_get part i e e is) (is_part.within i e (slice_get_within part i e is))

  carriers_are_part : ArePart number NoTasks (carriers meanings part) (carriers meanings whole)
  carriers_are_part = record {
    like = λ entry r is.
        let found = mapped_at (carrier meanings part) part entry r (slice_get part entry) refl (sym (slice_get-map (carrier meanings part) part entry) ∙ is) in
        let same : length part ≡ length (carriers meanings part) = sym (length-map part (carrier meanings part)) in (
          carrier meanings whole (renamed number found.0),
          slice_get-map (carrier meanings whole) whole (number entry) ∙ ap (option_map (carrier meanings whole)) (is_part.copied entry found.0 found.1),
          subst (λ n. IsLike n number NoTasks r (carrier meanings whole (renamed number found.0))) same
              (subst (λ s. Like s (carrier meanings whole (renamed number found.0))) found.2 (same_carrier found.0 (node_within entry found.0 found.1))),
        );
  }

  pub tasks_in_part : (entry : ℕ) (tasks : List (List ℕ)) → produced_by meanings part entry ≡ Some (produced.Tasks tasks) → produced_by meanings whole (number entry) ≡ Some (produced.Tasks tasks)
  tasks_in_part entry tasks is =
      elim (part_answers number NoTasks (carriers meanings part) (carriers meanings whole) carriers_are_part entry (produced.Tasks tasks) is) [
        | inl none ↦ absurd none
        | inr same ↦ same
      ]

pub part_produces : {M F Z S : Type 0} (meanings : Meanings M F Z S) → PartProduces meanings
part_produces meanings number part whole is_part entry tasks is = tasks_in_part meanings number part whole is_part entry tasks is
