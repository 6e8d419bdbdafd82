-- One more expression that is no output leaves all answers as they were.
use Rattle.std.proofs.Common.{◌≡◌, ℕ, zero, suc, ◌+◌, ◌<◌, ◌≤◌, List, [], ◌∷◌, ◌++◌, length, refl, sym, ap, subst, ◌∙◌, arith, inl, inr, length-append, Bool, true, false}
use Rattle.std.proofs.lemmas.List.{length-map}
use Rattle.std.specs.Prelude.{All, Option, Some, None, Result, Ok, Err, slice_get, option_map, map}
use Rattle.std.proofs.lemmas.Option.{slice_get-map, slice_get_cases, slice_get_within, get_or_from_slice_get}
use Rattle.gb_core.specs.declared.value.Value.{Value}
use Rattle.gb_core.specs.declared.value.Value.TheVariants as values
use Rattle.gb_provider.specs.declared.fault.Chosen.{Chosen}
use Rattle.gb_provider.specs.declared.fault.Refusal.{Refusal}
use Rattle.gb_provider.specs.declared.expression.Setting.{Setting}
use Rattle.gb_provider.specs.declared.expression.Setting.TheVariants.{Held, Followed}
use Rattle.gb_provider.specs.declared.expression.Expression.{Expression}
use Rattle.gb_provider.specs.declared.expression.Expression.TheVariants.{Constant, OfProperty, OfOutput, Listed, Mapped, FlatMapped, Zipped, OrElse}
use Rattle.gb_provider.specs.declared.expression.Outcome.{Outcome}
use Rattle.gb_provider.specs.declared.expression.Outcome.TheVariants.{Given, Absent, Refused}
use Rattle.gb_provider.specs.declared.produced.Produced.{Produced}
use Rattle.gb_provider.specs.declared.produced.Produced.TheVariants as produced
use Rattle.gb_provider.specs.declared.evaluation.State.{State}
use Rattle.gb_provider.specs.Answers.{value_of}
use Rattle.gb_provider.specs.Called.{Called}
use Rattle.gb_provider.specs.Indexed.{IsNoOutput}
use Rattle.gb_provider.specs.Meanings.{Meanings, meaning_of}
use Rattle.gb_provider.specs.Produced.{carrier, carriers, carry_all, carry_property, carry_side, choose_tasks, on_tasks, produced_by}
use Rattle.gb_core.specs.Tasks.{with_tasks}
use Rattle.gb_provider.specs.Remembered.{AreWithin, IsRemembered}
use Rattle.gb_provider.specs.Rounds.{Rule, Answers, Reads, after_operand, and_then, answer, answer_after, reading, settled}
use Rattle.gb_provider.specs.Rules.{OperandsWithin, PlaceWithin, SettingWithin, chosen_rule, is_output, list_rule, on_text, on_value, or_else, output_place, output_rule, property_rule, rule, rules}
use Rattle.gb_provider.specs.Search.{IsSound, known}
use Rattle.gb_provider.proofs.IndexLemmas.{grown, grown_kept, position_grown, place_within}
use Rattle.gb_provider.proofs.RoundsLemmas.{answer_found, answered_within, later_extends}

module _ {A : Type 0} (n : ℕ) where
  -- each operand that the rule may read is among the first n
  abbrev ReadsWithin : Rule ℕ A → Type 0
  ReadsWithin (Answers a) = Unit {0}
  ReadsWithin (Reads operand next) = (operand < n) × ((a : A) → ReadsWithin (next a))

  module _ (f g : ℕ → Option A) (agree : (i : ℕ) → i < n → f i ≡ g i) where
    after_agree : (next : A → Rule ℕ A) (operand : ℕ) → ((a : A) → reading f (next a) ≡ reading g (next a)) → (o : Option A) → after_operand operand (λ a. reading f (next a)) o ≡ after_operand operand (λ a. reading g (next a)) o
    after_agree next operand ih None = refl
    after_agree next operand ih (Some a) = ih a

    -- such a rule is read alike where the first n answers are the same
    reading_agree : (r : Rule ℕ A) → ReadsWithin r → reading f r ≡ reading g r
    reading_agree (Answers a) within = refl
    reading_agree (Reads operand next) within =
        ap (after_operand operand (λ a. reading f (next a))) (agree operand within.0)
        ∙ after_agree next operand (λ a. reading_agree (next a) (within.1 a)) (g operand)

both_ways : {A : Type 0} (o p : Option A) → ((a : A) → o ≡ Some a → p ≡ Some a) → ((a : A) → p ≡ Some a → o ≡ Some a) → p ≡ o
both_ways None None up down = refl
both_ways None (Some a) up down = sym (down a refl)
both_ways (Some a) p up down = up a refl

-- two tables of which the second begins with rules that are read as those of the first
module _ {A : Type 0} (old new : List (Rule ℕ A)) (longer : length old ≤ length new)
    (within : (e : ℕ) (r : Rule ℕ A) → slice_get old e ≡ Some r → ReadsWithin (length old) r)
    (alike : (e : ℕ) (r : Rule ℕ A) → slice_get old e ≡ Some r → (s : Rule ℕ A) × (slice_get new e ≡ Some s) × ((f : ℕ → Option A) → reading f s ≡ reading f r)) where
  rule_at : (e : ℕ) → e < length old → (r : Rule ℕ A) × (slice_get old e ≡ Some r)
  rule_at e below = elim (slice_get_cases old e).1 [ inl found ↦ (found.0, found.2) | inr past ↦ absurd (omega (arith, below, past.0)) ]

  same_after : (n e : ℕ) → e < length old → answer_after new n e ≡ answer_after old n e
  same_after zero e below = refl
  same_after (suc n) e below =
      let here = rule_at e below in
      let there = alike e here.0 here.1 in
      ap (and_then (λ r. settled (reading (answer_after new n) r))) there.1
      ∙ (ap settled (there.2 (answer_after new n) ∙ reading_agree (length old) (answer_after new n) (answer_after old n) (λ i less. same_after n i less) here.0 (within e here.0 here.1))
      ∙ sym (ap (and_then (λ r. settled (reading (answer_after old n) r))) here.1))

  -- have the same answers
  pub same_answers : (e : ℕ) → e < length old → answer new e ≡ answer old e
  same_answers e below = same_after (length new) e below ∙ both_ways (answer old e) (answer_after old (length new) e) ((later_extends old (length new) (length old) longer).keeps e) ((answer_found old (length new)).keeps e)

  -- and what was right of the first is right of the second
  pub sound_grown : (states : List (State A)) → length states ≤ length old → IsSound old states → IsRemembered new states
  sound_grown states less sound = (
    omega arith,
    record {
      right = λ e a is. same_answers e (answered_within old (length old) e a (sound.right e a is)) ∙ sound.right e a is;
      settled = λ e a is.
          let was = sound.settled e a is in
          let now = alike e was.0 was.1 in
          (now.0, now.1, now.2 (known states) ∙ was.2);
      closed = sound.closed;
    },
  )

slice_get_prefix : {X : Type 0} (xs : List X) (y x : X) (i : ℕ) → slice_get xs i ≡ Some x → slice_get (xs ++ y ∷ []) i ≡ Some x
slice_get_prefix [] y x i is = cc
slice_get_prefix (z ∷ xs) y x zero is = is
slice_get_prefix (z ∷ xs) y x (suc i) is = slice_get_prefix xs y x i is

-- the elements after an entry of a mapped list
pub mapped_at : {X Y : Type 0} (h : X → Y) (xs : List X) (i : ℕ) (y : Y) (o : Option X) → slice_get xs i ≡ o → option_map h o ≡ Some y → (x : X) × (slice_get xs i ≡ Some x) × (h x ≡ y)
mapped_at h xs i y None is found = cc
mapped_at h xs i y (Some x) is found = (x, is, let same : h x ≡ y = cc in same)

-- two tables in which outputs have the same numbers
module _ {M F Z S : Type 0} (meanings : Meanings M F Z S) (nodes new : List (Expression M F Z)) (same_place : (chosen : Chosen) → output_place new chosen ≡ output_place nodes chosen) where
  same_choice : (function : List ℕ) (reply : Result (Option Chosen) Refusal) → chosen_rule (output_place new) function reply ≡ chosen_rule (output_place nodes) function reply
  same_choice function (Ok (Some chosen)) = ap (output_rule chosen) (same_place chosen)
  same_choice function (Ok None) = refl
  same_choice function (Err refusal) = refl

  module _ (f : ℕ → Option Outcome) where
    flat_at : (source : ℕ) (call : Called F) (o : Option Outcome)
        → after_operand source (λ a. reading f (on_value (λ value. chosen_rule (output_place new) call.name (meaning_of meanings.flat_map call.function value call.arguments)) a)) o
        ≡ after_operand source (λ a. reading f (on_value (λ value. chosen_rule (output_place nodes) call.name (meaning_of meanings.flat_map call.function value call.arguments)) a)) o
    flat_at source call None = refl
    flat_at source call (Some (Given value)) = ap (reading f) (same_choice call.name (meaning_of meanings.flat_map call.function value call.arguments))
    flat_at source call (Some Absent) = refl
    flat_at source call (Some (Refused fault)) = refl

    -- read each expression alike
    pub same_rule : (node : Expression M F Z) → reading f (rule meanings new node) ≡ reading f (rule meanings nodes node)
    same_rule (Constant value) = refl
    same_rule (OfProperty property) = refl
    same_rule (OfOutput output) = refl
    same_rule (Listed operands) = refl
    same_rule (Mapped source call) = refl
    same_rule (FlatMapped source call) = flat_at source call (f source)
    same_rule (Zipped left right call) = refl
    same_rule (OrElse left right) = refl

module _ {M F Z S : Type 0} (meanings : Meanings M F Z S) (nodes : List (Expression M F Z)) where
  property_within : (setting : Option (Setting ℕ)) (convention : Option ℕ) → SettingWithin (length nodes) setting → PlaceWithin (length nodes) convention → ReadsWithin (length nodes) (property_rule setting convention)
  property_within (Some (Held value)) convention s p = tt
  property_within (Some (Followed source)) convention s p = (s, λ a. tt)
  property_within None (Some source) s p = (p, λ a. tt)
  property_within None None s p = tt

  output_within : (chosen : Chosen) (place : Option ℕ) → PlaceWithin (length nodes) place → ReadsWithin (length nodes) (output_rule chosen place)
  output_within chosen (Some source) p = (p, λ a. tt)
  output_within chosen None p = tt

  value_within : (go_on : Value → Rule ℕ Outcome) → ((value : Value) → ReadsWithin (length nodes) (go_on value)) → (a : Outcome) → ReadsWithin (length nodes) (on_value go_on a)
  value_within go_on all (Given value) = all value
  value_within go_on all Absent = tt
  value_within go_on all (Refused fault) = tt

  text_within : (go_on : List ℕ → Rule ℕ Outcome) (other : Rule ℕ Outcome) → ((text : List ℕ) → ReadsWithin (length nodes) (go_on text)) → ReadsWithin (length nodes) other → (value : Value) → ReadsWithin (length nodes) (on_text go_on other value)
  text_within go_on other all also (values.Text text) = all text
  text_within go_on other all also (values.Flag flag) = also
  text_within go_on other all also (values.List texts) = also
  text_within go_on other all also (values.Place place) = also
  text_within go_on other all also (values.Task task) = also

  list_within : (operands : List ℕ) (is_wrong : Bool) (texts : List (List ℕ)) → All (λ operand. operand < length nodes) operands → ReadsWithin (length nodes) (list_rule is_wrong texts operands)
  list_within [] is_wrong texts all = tt
  list_within (operand ∷ operands) is_wrong texts all = (
    all 0 operand (omega arith),
    value_within (on_text (λ text. list_rule is_wrong (texts ++ text ∷ []) operands) (list_rule true texts operands))
        (text_within (λ text. list_rule is_wrong (texts ++ text ∷ []) operands) (list_rule true texts operands) (λ text. list_within operands is_wrong (texts ++ text ∷ []) (λ k d below. all (suc k) d (omega arith))) (list_within operands true texts (λ k d below. all (suc k) d (omega arith)))),
  )

  chosen_within : (function : List ℕ) (reply : Result (Option Chosen) Refusal) → ReadsWithin (length nodes) (chosen_rule (output_place nodes) function reply)
  chosen_within function (Ok (Some chosen)) = output_within chosen (output_place nodes chosen) (place_within nodes chosen)
  chosen_within function (Ok None) = tt
  chosen_within function (Err refusal) = tt

  else_within : (right : ℕ) → right < length nodes → (a : Outcome) → ReadsWithin (length nodes) (or_else right a)
  else_within right below (Given value) = tt
  else_within right below Absent = (below, λ a. tt)
  else_within right below (Refused fault) = tt

  rule_within : (node : Expression M F Z) → OperandsWithin (length nodes) node → ReadsWithin (length nodes) (rule meanings nodes node)
  rule_within (Constant value) within = tt
  rule_within (OfProperty property) within = property_within property.setting property.convention within.0 within.1
  rule_within (OfOutput output) within = output_within output.chosen output.declared within
  rule_within (Listed operands) within = list_within operands false [] within
  rule_within (Mapped source call) within = (within, value_within _ (λ value. tt))
  rule_within (FlatMapped source call) within = (within, value_within _ (λ value. chosen_within call.name (meaning_of meanings.flat_map call.function value call.arguments)))
  rule_within (Zipped left right call) within = (within.0, value_within _ (λ a. (within.1, value_within _ (λ b. tt))))
  rule_within (OrElse left right) within = (within.0, else_within right within.1)

  carry_property_within : (setting : Option (Setting ℕ)) (convention : Option ℕ) → SettingWithin (length nodes) setting → PlaceWithin (length nodes) convention → ReadsWithin (length nodes) (carry_property setting convention)
  carry_property_within (Some (Held value)) convention s p = tt
  carry_property_within (Some (Followed source)) convention s p = (s, λ a. tt)
  carry_property_within None (Some source) s p = (p, λ a. tt)
  carry_property_within None None s p = tt

  tasks_within : (go_on : List (List ℕ) → Rule ℕ (Produced ℕ)) → ((tasks : List (List ℕ)) → ReadsWithin (length nodes) (go_on tasks)) → (a : Produced ℕ) → ReadsWithin (length nodes) (on_tasks go_on a)
  tasks_within go_on all (produced.Tasks tasks) = all tasks
  tasks_within go_on all (produced.Refused fault) = tt
  tasks_within go_on all (produced.Endless chooser) = tt

  carry_all_within : (operands : List ℕ) (tasks : List (List ℕ)) → All (λ operand. operand < length nodes) operands → ReadsWithin (length nodes) (carry_all tasks operands)
  carry_all_within [] tasks all = tt
  carry_all_within (operand ∷ operands) tasks all = (
    all 0 operand (omega arith),
    tasks_within (λ more. carry_all (with_tasks tasks more) operands) (λ more. carry_all_within operands (with_tasks tasks more) (λ k d below. all (suc k) d (omega arith))),
  )

  side_within : (left right : ℕ) → left < length nodes → right < length nodes → (o : Option Outcome) → ReadsWithin (length nodes) (carry_side left right o)
  side_within left right l r (Some (Given value)) = (l, λ a. tt)
  side_within left right l r (Some Absent) = (r, λ a. tt)
  side_within left right l r (Some (Refused fault)) = tt
  side_within left right l r None = tt

  both_within : (left right : ℕ) → left < length nodes → right < length nodes → All (λ operand. operand < length nodes) (left ∷ right ∷ [])
  both_within left right l r zero d below = l
  both_within left right l r (suc zero) d below = r
  both_within left right l r (suc (suc k)) d below = absurd (omega arith)

  carrier_within : (node : Expression M F Z) → OperandsWithin (length nodes) node → ReadsWithin (length nodes) (carrier meanings nodes node)
  carrier_within (Constant value) within = tt
  carrier_within (OfProperty property) within = carry_property_within property.setting property.convention within.0 within.1
  carrier_within (OfOutput output) within = tt
  carrier_within (Listed operands) within = carry_all_within operands [] within
  carrier_within (Mapped source call) within = (within, λ a. tt)
  carrier_within (FlatMapped source call) within = tt
  carrier_within (Zipped left right call) within = carry_all_within (left ∷ right ∷ []) [] (both_within left right within.0 within.1)
  carrier_within (OrElse left right) within = side_within left right within.0 within.1 (value_of meanings nodes left)

  module _ (e : Expression M F Z) (plain : IsNoOutput e) (within : AreWithin nodes) where
    is_plain : (chosen : Chosen) (x : Expression M F Z) → IsNoOutput x → is_output chosen x ≡ false
    is_plain chosen (Constant value) p = refl
    is_plain chosen (OfProperty property) p = refl
    is_plain chosen (OfOutput output) p = absurd p
    is_plain chosen (Listed operands) p = refl
    is_plain chosen (Mapped source call) p = refl
    is_plain chosen (FlatMapped source call) p = refl
    is_plain chosen (Zipped left right call) p = refl
    is_plain chosen (OrElse left right) p = refl

    same_place : (chosen : Chosen) → output_place (nodes ++ e ∷ []) chosen ≡ output_place nodes chosen
    same_place chosen =
        position_grown (is_output chosen) e nodes
        ∙ (ap (λ b. grown (output_place nodes chosen) b (length nodes)) (is_plain chosen e plain) ∙ grown_kept (output_place nodes chosen) (length nodes))

    node_within : (i : ℕ) (node : Expression M F Z) → slice_get nodes i ≡ Some node → OperandsWithin (length nodes) node
    node_within i node is = subst (OperandsWithin (length nodes)) (get_or_from_slice_get nodes i node node is) (within i node (slice_get_within nodes i node is))

    longer_by : {Y : Type 0} (h : Expression M F Z → Y) (k : Expression M F Z → Y) → length (map h nodes) ≤ length (map k (nodes ++ e ∷ []))
    longer_by h k =
        let less : length (map h nodes) ≡ length nodes = length-map nodes h in
        let more : length (map k (nodes ++ e ∷ [])) ≡ length nodes + 1 = length-map (nodes ++ e ∷ []) k ∙ simp length-append refl in
        omega (arith, less, more)

    value_rule_within : (i : ℕ) (r : Rule ℕ Outcome) → slice_get (rules meanings nodes) i ≡ Some r → ReadsWithin (length (rules meanings nodes)) r
    value_rule_within i r is =
        let found = mapped_at (rule meanings nodes) nodes i r (slice_get nodes i) refl (sym (slice_get-map (rule meanings nodes) nodes i) ∙ is) in
        let same : length nodes ≡ length (rules meanings nodes) = sym (length-map nodes (rule meanings nodes)) in
        subst (λ n. ReadsWithin n r) same (subst (ReadsWithin (length nodes)) found.2 (rule_within found.0 (node_within i found.0 found.1)))

    value_rule_alike : (i : ℕ) (r : Rule ℕ Outcome) → slice_get (rules meanings nodes) i ≡ Some r → (s : Rule ℕ Outcome) × (slice_get (rules meanings (nodes ++ e ∷ [])) i ≡ Some s) × ((f : ℕ → Option Outcome) → reading f s ≡ reading f r)
    value_rule_alike i r is =
        let found = mapped_at (rule meanings nodes) nodes i r (slice_get nodes i) refl (sym (slice_get-map (rule meanings nodes) nodes i) ∙ is) in (
          rule meanings (nodes ++ e ∷ []) found.0,
          slice_get-map (rule meanings (nodes ++ e ∷ [])) (nodes ++ e ∷ []) i ∙ ap (option_map (rule meanings (nodes ++ e ∷ []))) (slice_get_prefix nodes e found.0 i found.1),
          λ f. same_rule meanings nodes (nodes ++ e ∷ []) same_place f found.0 ∙ ap (reading f) found.2,
        )

    -- the values stay
    pub values_grown : (i : ℕ) → i < length nodes → value_of meanings (nodes ++ e ∷ []) i ≡ value_of meanings nodes i
    values_grown i below =
        let same : length nodes ≡ length (rules meanings nodes) = sym (length-map nodes (rule meanings nodes)) in
        same_answers (rules meanings nodes) (rules meanings (nodes ++ e ∷ [])) (longer_by (rule meanings nodes) (rule meanings (nodes ++ e ∷ []))) value_rule_within value_rule_alike i (omega (arith, below, same))

    -- cached values stay right
    pub values_remembered : (states : List (State Outcome)) → IsRemembered (rules meanings nodes) states → IsRemembered (rules meanings (nodes ++ e ∷ [])) states
    values_remembered states was =
        sound_grown (rules meanings nodes) (rules meanings (nodes ++ e ∷ [])) (longer_by (rule meanings nodes) (rule meanings (nodes ++ e ∷ []))) value_rule_within value_rule_alike states was.0 was.1

    same_carrier : (node : Expression M F Z) → OperandsWithin (length nodes) node → carrier meanings (nodes ++ e ∷ []) node ≡ carrier meanings nodes node
    same_carrier (Constant value) w = refl
    same_carrier (OfProperty property) w = refl
    same_carrier (OfOutput output) w = refl
    same_carrier (Listed operands) w = refl
    same_carrier (Mapped source call) w = refl
    same_carrier (FlatMapped source call) w = ap (λ o. Answers (choose_tasks meanings source call o)) (values_grown source w)
    same_carrier (Zipped left right call) w = refl
    same_carrier (OrElse left right) w = ap (carry_side left right) (values_grown left w.0)

    task_rule_within : (i : ℕ) (r : Rule ℕ (Produced ℕ)) → slice_get (carriers meanings nodes) i ≡ Some r → ReadsWithin (length (carriers meanings nodes)) r
    task_rule_within i r is =
        let found = mapped_at (carrier meanings nodes) nodes i r (slice_get nodes i) refl (sym (slice_get-map (carrier meanings nodes) nodes i) ∙ is) in
        let same : length nodes ≡ length (carriers meanings nodes) = sym (length-map nodes (carrier meanings nodes)) in
        subst (λ n. ReadsWithin n r) same (subst (ReadsWithin (length nodes)) found.2 (carrier_within found.0 (node_within i found.0 found.1)))

    task_rule_alike : (i : ℕ) (r : Rule ℕ (Produced ℕ)) → slice_get (carriers meanings nodes) i ≡ Some r → (s : Rule ℕ (Produced ℕ)) × (slice_get (carriers meanings (nodes ++ e ∷ [])) i ≡ Some s) × ((f : ℕ → Option (Produced ℕ)) → reading f s ≡ reading f r)
    task_rule_alike i r is =
        let found = mapped_at (carrier meanings nodes) nodes i r (slice_get nodes i) refl (sym (slice_get-map (carrier meanings nodes) nodes i) ∙ is) in (
          carrier meanings (nodes ++ e ∷ []) found.0,
          slice_get-map (carrier meanings (nodes ++ e ∷ [])) (nodes ++ e ∷ []) i ∙ ap (option_map (carrier meanings (nodes ++ e ∷ []))) (slice_get_prefix nodes e found.0 i found.1),
          λ f. ap (reading f) (same_carrier found.0 (node_within i found.0 found.1) ∙ found.2),
        )

    -- and so do the tasks
    pub tasks_grown : (i : ℕ) → i < length nodes → produced_by meanings (nodes ++ e ∷ []) i ≡ produced_by meanings nodes i
    tasks_grown i below =
        let same : length nodes ≡ length (carriers meanings nodes) = sym (length-map nodes (carrier meanings nodes)) in
        same_answers (carriers meanings nodes) (carriers meanings (nodes ++ e ∷ [])) (longer_by (carrier meanings nodes) (carrier meanings (nodes ++ e ∷ []))) task_rule_within task_rule_alike i (omega (arith, below, same))

    -- and so do the cached tasks
    pub tasks_remembered : (states : List (State (Produced ℕ))) → IsRemembered (carriers meanings nodes) states → IsRemembered (carriers meanings (nodes ++ e ∷ [])) states
    tasks_remembered states was =
        sound_grown (carriers meanings nodes) (carriers meanings (nodes ++ e ∷ [])) (longer_by (carrier meanings nodes) (carrier meanings (nodes ++ e ∷ []))) task_rule_within task_rule_alike states was.0 was.1
