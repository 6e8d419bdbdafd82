-- What has a value has its tasks. They are good where the tasks that the expressions of the table name are
-- good.
use Rattle.std.proofs.Common.{◌≡◌, ◌⊎◌, inl, inr, ℕ, zero, suc, Bool, true, false, ◌&&◌, List, [], ◌∷◌, ◌++◌, length, get_or, refl, sym, ap, subst, ◌∙◌}
use Rattle.std.proofs.lemmas.List.Quantifiers.{position-Some}
use Rattle.std.proofs.lemmas.Option.{slice_get-get_or, slice_get-map}
use Rattle.std.proofs.lemmas.Slice.Eq.{bytes_eq-Decides}
use Rattle.std.specs.List.{AllByRecursion}
use Rattle.std.specs.Prelude.{Option, Some, None, Result, Ok, Err, position, slice_get, option_map}
use Rattle.gb_core.specs.declared.value.Value.{Value}
use Rattle.gb_core.specs.declared.value.Value.TheVariants as values
use Rattle.gb_provider.specs.Answers.{value_of}
use Rattle.gb_provider.specs.Called.{Called}
use Rattle.gb_provider.specs.Meanings.{Meanings, meaning_of}
use Rattle.gb_provider.specs.Produced.{carrier, carriers, carry, carry_all, carry_property, carry_side, choose_tasks, chosen_tasks, constant_tasks, on_tasks, produced_by, tasks_of}
use Rattle.gb_core.specs.Tasks.{with_tasks}
use Rattle.gb_provider.specs.Rounds.{Rule, Answers, Reads, after_operand, and_then, answer, answer_after, reading, settled}
use Rattle.gb_provider.specs.Rules.{chosen_rule, follow, is_output, list_rule, on_text, on_value, or_else, output_place, output_rule, property_rule, rule, rules}
use Rattle.gb_provider.specs.declared.expression.Expression.{Expression}
use Rattle.gb_provider.specs.declared.expression.Expression.TheVariants.{Constant, OfProperty, OfOutput, Listed, Mapped, FlatMapped, Zipped, OrElse}
use Rattle.gb_provider.specs.declared.expression.Outcome.{Outcome}
use Rattle.gb_provider.specs.declared.expression.Outcome.TheVariants.{Given, Absent, Refused}
use Rattle.gb_provider.specs.declared.expression.Setting.{Setting}
use Rattle.gb_provider.specs.declared.expression.Setting.TheVariants.{Held, Followed}
use Rattle.gb_provider.specs.declared.fault.Chosen.{Chosen}
use Rattle.gb_provider.specs.declared.fault.Refusal.{Refusal}
use Rattle.gb_provider.specs.declared.produced.Produced.{Produced}
use Rattle.gb_provider.specs.declared.produced.Produced.TheVariants as produced
use Rattle.gb_provider.specs.declared.evaluation.Reading.{Reading}
use Rattle.gb_provider.specs.declared.evaluation.Reading.TheVariants.{Settles}
use Rattle.gb_provider.proofs.CircleLemmas.{answer_settled}
use Rattle.gb_provider.proofs.RoundsLemmas.{after_is, answer_found, settled_is}
use Rattle.gb_declare.specs.Needs.{GivenHasTasks}
use Rattle.gb_declare.proofs.AllLemmas.{with_all}

module _ (f : ℕ → Option Outcome) where
  -- a rule that continues where its operand is a value, and ends with a value
  given_at : (operand : ℕ) (go_on : Value → Rule ℕ Outcome) (v : Value) (o : Option Outcome) → f operand ≡ o → after_operand operand (λ a. reading f (on_value go_on a)) o ≡ Settles (Given v)
      → (w : Value) × (f operand ≡ Some (Given w)) × (reading f (go_on w) ≡ Settles (Given v))
  given_at operand go_on v None is e = cc
  given_at operand go_on v (Some (Given w)) is e = (w, is, e)
  given_at operand go_on v (Some Absent) is e = cc
  given_at operand go_on v (Some (Refused fault)) is e = cc

  given_operand : (operand : ℕ) (go_on : Value → Rule ℕ Outcome) (v : Value) → reading f (Reads operand (on_value go_on)) ≡ Settles (Given v)
      → (w : Value) × (f operand ≡ Some (Given w)) × (reading f (go_on w) ≡ Settles (Given v))
  given_operand operand go_on v e = given_at operand go_on v (f operand) refl e

  follow_at : (operand : ℕ) (v : Value) (o : Option Outcome) → f operand ≡ o → after_operand operand (λ a. reading f (Answers a)) o ≡ Settles (Given v) → f operand ≡ Some (Given v)
  follow_at operand v None is e = cc
  follow_at operand v (Some a) is e = let same : a ≡ Given v = same_given a e in is ∙ ap Some same
    where
      same_given : (b : Outcome) → ◌≡◌ {A = Reading ℕ Outcome} (Settles b) (Settles (Given v)) → b ≡ Given v
      same_given b e = cc

  followed_operand : (operand : ℕ) (v : Value) → reading f (follow operand) ≡ Settles (Given v) → f operand ≡ Some (Given v)
  followed_operand operand v e = follow_at operand v (f operand) refl e

  -- a given list continues after each of its elements
  text_given : (go_on : List ℕ → Rule ℕ Outcome) (other : Rule ℕ Outcome) (v w : Value) → reading f (on_text go_on other w) ≡ Settles (Given v)
      → ((text : List ℕ) × (reading f (go_on text) ≡ Settles (Given v))) ⊎ (reading f other ≡ Settles (Given v))
  text_given go_on other v (values.Text text) e = inl (text, e)
  text_given go_on other v (values.Flag flag) e = inr e
  text_given go_on other v (values.List texts) e = inr e
  text_given go_on other v (values.Place place) e = inr e
  text_given go_on other v (values.Task task) e = inr e

-- ---- Good tasks: those with some property, whatever it is

-- the tasks of the value that a property holds
abbrev pub held_tasks : Option (Setting ℕ) → List (List ℕ)
held_tasks (Some (Held value)) = tasks_of value
held_tasks (Some (Followed source)) = []
held_tasks None = []

-- the tasks that an expression names itself are good
abbrev pub NamesGood : {M F Z : Type 0} → (List ℕ → Type 0) → Expression M F Z → Type 0
NamesGood Good (Constant value) = AllByRecursion Good (constant_tasks value)
NamesGood Good (OfProperty property) = AllByRecursion Good (held_tasks property.setting)
NamesGood Good (OfOutput output) = Good output.chosen.task
NamesGood Good (Listed operands) = Unit {0}
NamesGood Good (Mapped source call) = Unit {0}
NamesGood Good (FlatMapped source call) = Unit {0}
NamesGood Good (Zipped left right call) = Unit {0}
NamesGood Good (OrElse left right) = Unit {0}

-- the first element that passes is at the index that is found
placed : {X : Type 0} (p : X → Bool) (xs : List X) (i : ℕ) → position p xs ≡ Some i → (x : X) × (slice_get xs i ≡ Some x) × (p x ≡ true)
placed p [] i is = absurd (cc)
placed p (x ∷ xs) i is = let found = position-Some p (x ∷ xs) i x is in (get_or (x ∷ xs) i x, slice_get-get_or (x ∷ xs) i x found.0, found.1)

prefix_true : (a b : Bool) → (a && b) ≡ true → a ≡ true
prefix_true true b e = refl
prefix_true false b e = absurd (cc)

module _ {M F Z S : Type 0} (meanings : Meanings M F Z S) (nodes : List (Expression M F Z)) (Good : List ℕ → Type 0) (good : (entry : ℕ) (e : Expression M F Z) → slice_get nodes entry ≡ Some e → NamesGood Good e) where
  -- an expression has tasks, and good ones
  HasTasks : ℕ → Type 0
  HasTasks entry = (tasks : List (List ℕ)) × (produced_by meanings nodes entry ≡ Some (produced.Tasks tasks)) × AllByRecursion Good tasks

  -- the tasks of an expression whose rule reads these
  abbrev now : Rule ℕ (Produced ℕ) → Reading ℕ (Produced ℕ)
  now r = reading (answer (carriers meanings nodes)) r

  Settled : Rule ℕ (Produced ℕ) → Type 0
  Settled r = (tasks : List (List ℕ)) × (now r ≡ Settles (produced.Tasks tasks)) × AllByRecursion Good tasks

  carried : (operand : ℕ) → HasTasks operand → Settled (carry operand)
  unfolding HasTasks Settled
  carried operand has = (has.0, after_is operand (λ a. now (Answers a)) (answer (carriers meanings nodes) operand) (Some (produced.Tasks has.0)) has.1, has.2)

  module _ (f : ℕ → Option Outcome) (right : (entry : ℕ) (v : Value) → f entry ≡ Some (Given v) → HasTasks entry) (known : (entry : ℕ) (a : Outcome) → f entry ≡ Some a → value_of meanings nodes entry ≡ Some a) where
    property_tasks : (setting : Option (Setting ℕ)) (convention : Option ℕ) (v : Value) → AllByRecursion Good (held_tasks setting) → reading f (property_rule setting convention) ≡ Settles (Given v) → Settled (carry_property setting convention)
    unfolding Settled
    property_tasks (Some (Held value)) convention v held e = (_, refl, held)
    property_tasks (Some (Followed source)) convention v held e = carried source (right source v (followed_operand f source v e))
    property_tasks None (Some source) v held e = carried source (right source v (followed_operand f source v e))
    property_tasks None None v held e = cc

    list_tasks : (operands : List ℕ) (is_wrong : Bool) (texts tasks : List (List ℕ)) (v : Value) → AllByRecursion Good tasks
        → reading f (list_rule is_wrong texts operands) ≡ Settles (Given v) → Settled (carry_all tasks operands)
    unfolding Settled HasTasks
    list_tasks [] is_wrong texts tasks v all e = (tasks, refl, all)
    list_tasks (operand ∷ operands) is_wrong texts tasks v all e =
        let here = given_operand f operand (on_text (λ text. list_rule is_wrong (texts ++ text ∷ []) operands) (list_rule true texts operands)) v e in
        let has = right operand here.0 here.1 in
        let both = with_all Good tasks has.0 all has.2 in
        let rest : Settled (carry_all (with_tasks tasks has.0) operands) =
        elim (text_given f (λ text. list_rule is_wrong (texts ++ text ∷ []) operands) (list_rule true texts operands) v here.0 here.2) [
          | inl text ↦ list_tasks operands is_wrong (texts ++ text.0 ∷ []) (with_tasks tasks has.0) v both text.1
          | inr other ↦ list_tasks operands true texts (with_tasks tasks has.0) v both other
        ] in
        (rest.0, after_is operand (λ a. now (on_tasks (λ more. carry_all (with_tasks tasks more) operands) a)) (answer (carriers meanings nodes) operand) (Some (produced.Tasks has.0)) has.1 ∙ rest.1, rest.2)

    both_tasks : (left right' : ℕ) → HasTasks left → HasTasks right' → Settled (carry_all [] (left ∷ right' ∷ []))
    unfolding Settled HasTasks
    both_tasks left right' l r = (
      with_tasks (with_tasks [] l.0) r.0,
      after_is left (λ a. now (on_tasks (λ more. carry_all (with_tasks [] more) (right' ∷ [])) a)) (answer (carriers meanings nodes) left) (Some (produced.Tasks l.0)) l.1
          ∙ after_is right' (λ a. now (on_tasks (λ more. carry_all (with_tasks (with_tasks [] l.0) more) []) a)) (answer (carriers meanings nodes) right') (Some (produced.Tasks r.0)) r.1,
      with_all Good (with_tasks [] l.0) r.0 (with_all Good [] l.0 tt l.2) r.2,
    )

    output_good : (chosen : Chosen) (e : Expression M F Z) → NamesGood Good e → is_output chosen e ≡ true → Good chosen.task
    output_good chosen (OfOutput output) names is = subst Good ((bytes_eq-Decides output.chosen.task chosen.task).0 (prefix_true _ _ is)) names
    output_good chosen (Constant value) names is = absurd (cc)
    output_good chosen (OfProperty property) names is = absurd (cc)
    output_good chosen (Listed operands) names is = absurd (cc)
    output_good chosen (Mapped source call) names is = absurd (cc)
    output_good chosen (FlatMapped source call) names is = absurd (cc)
    output_good chosen (Zipped left right' call) names is = absurd (cc)
    output_good chosen (OrElse left right') names is = absurd (cc)

    -- an output that is chosen and has a value is in the table
    chosen_good : (chosen : Chosen) (v : Value) (o : Option ℕ) → output_place nodes chosen ≡ o → reading f (output_rule chosen o) ≡ Settles (Given v) → Good chosen.task
    chosen_good chosen v None is e = absurd (cc)
    chosen_good chosen v (Some place) is e = let found = placed (is_output chosen) nodes place is in output_good chosen found.0 (good place found.0 found.1) found.2

    chosen_has : (source : ℕ) (call : Called F) (w v : Value) (reply : Result (Option Chosen) Refusal) → value_of meanings nodes source ≡ Some (Given w)
        → meaning_of meanings.flat_map call.function w call.arguments ≡ reply → reading f (chosen_rule (output_place nodes) call.name reply) ≡ Settles (Given v)
        → Settled (Answers (choose_tasks meanings source call (value_of meanings nodes source)))
    unfolding Settled
    chosen_has source call w v (Ok (Some chosen)) has meant e =
        (chosen.task ∷ [], ap (λ o. Settles (choose_tasks meanings source call o)) has ∙ ap (λ r. Settles (chosen_tasks call.name r)) meant, (chosen_good chosen v (output_place nodes chosen) refl e, tt))
    chosen_has source call w v (Ok None) has meant e = cc
    chosen_has source call w v (Err refusal) has meant e = cc

    side_tasks : (left right' : ℕ) (v : Value) (o : Option Outcome) → f left ≡ o → after_operand left (λ a. reading f (or_else right' a)) o ≡ Settles (Given v) → Settled (carry_side left right' (value_of meanings nodes left))
    unfolding Settled
    side_tasks left right' v None is e = cc
    side_tasks left right' v (Some (Given w)) is e =
        let has = carried left (right left w is) in
        (has.0, ap (λ o. now (carry_side left right' o)) (known left (Given w) is) ∙ has.1, has.2)
    side_tasks left right' v (Some Absent) is e =
        let has = carried right' (right right' v (followed_operand f right' v e)) in
        (has.0, ap (λ o. now (carry_side left right' o)) (known left Absent is) ∙ has.1, has.2)
    side_tasks left right' v (Some (Refused fault)) is e = cc

    rule_tasks : (e : Expression M F Z) (v : Value) → NamesGood Good e → reading f (rule meanings nodes e) ≡ Settles (Given v) → Settled (carrier meanings nodes e)
    unfolding Settled
    rule_tasks (Constant value) v names e = (_, refl, names)
    rule_tasks (OfProperty property) v names e = property_tasks property.setting property.convention v names e
    rule_tasks (OfOutput output) v names e = (_, refl, (names, tt))
    rule_tasks (Listed operands) v names e = list_tasks operands false [] [] v tt e
    rule_tasks (Mapped source call) v names e = let here = given_operand f source _ v e in carried source (right source here.0 here.1)
    rule_tasks (FlatMapped source call) v names e =
        let here = given_operand f source _ v e in
        chosen_has source call here.0 v (meaning_of meanings.flat_map call.function here.0 call.arguments) (known source (Given here.0) here.1) refl here.2
    rule_tasks (Zipped left right' call) v names e =
        let l = given_operand f left _ v e in
        let r = given_operand f right' _ v l.2 in
        both_tasks left right' (right left l.0 l.1) (right right' r.0 r.1)
    rule_tasks (OrElse left right') v names e = side_tasks left right' v (f left) refl e

  node_at : (entry n : ℕ) (v : Value) (o : Option (Expression M F Z)) → slice_get nodes entry ≡ o → and_then (λ r. settled (reading (answer_after (rules meanings nodes) n) r)) (option_map (rule meanings nodes) o) ≡ Some (Given v)
      → (e : Expression M F Z) × (slice_get nodes entry ≡ Some e) × (reading (answer_after (rules meanings nodes) n) (rule meanings nodes e) ≡ Settles (Given v))
  node_at entry n v None is found = cc
  node_at entry n v (Some e) is found = (e, is, settled_is _ (Given v) found)

  tasks_after : (n entry : ℕ) (v : Value) → answer_after (rules meanings nodes) n entry ≡ Some (Given v) → HasTasks entry
  unfolding Settled HasTasks
  tasks_after zero entry v found = cc
  tasks_after (suc n) entry v found =
      let here = node_at entry n v (slice_get nodes entry) refl (sym (ap (and_then (λ r. settled (reading (answer_after (rules meanings nodes) n) r))) (slice_get-map (rule meanings nodes) nodes entry)) ∙ found) in
      let has = rule_tasks (answer_after (rules meanings nodes) n) (tasks_after n) (λ e a is. (answer_found (rules meanings nodes) n).keeps e a is) here.0 v (good entry here.0 here.1) here.2 in (
        has.0,
        answer_settled (carriers meanings nodes) (answer (carriers meanings nodes)) (record { keeps = λ e a is. is }) entry (carrier meanings nodes here.0) (produced.Tasks has.0)
            (slice_get-map (carrier meanings nodes) nodes entry ∙ ap (option_map (carrier meanings nodes)) here.1) has.1,
        has.2,
      )

  -- what has a value has its tasks, and they are good
  pub good_tasks : (entry : ℕ) (value : Value) → value_of meanings nodes entry ≡ Some (Given value)
      → (tasks : List (List ℕ)) × (produced_by meanings nodes entry ≡ Some (produced.Tasks tasks)) × AllByRecursion Good tasks
  unfolding HasTasks
  good_tasks entry value found = tasks_after (length (rules meanings nodes)) entry value found

-- ---- Any tasks

Any : List ℕ → Type 0
Any task = Unit {0}

all_any : (tasks : List (List ℕ)) → AllByRecursion Any tasks
unfolding Any
all_any [] = tt
all_any (task ∷ tasks) = (tt, all_any tasks)

names_any : {M F Z : Type 0} (e : Expression M F Z) → NamesGood Any e
unfolding Any
names_any (Constant value) = all_any (constant_tasks value)
names_any (OfProperty property) = all_any (held_tasks property.setting)
names_any (OfOutput output) = tt
names_any (Listed operands) = tt
names_any (Mapped source call) = tt
names_any (FlatMapped source call) = tt
names_any (Zipped left right call) = tt
names_any (OrElse left right) = tt

pub given_has_tasks : {M F Z S : Type 0} (meanings : Meanings M F Z S) → GivenHasTasks meanings
given_has_tasks meanings nodes entry value found =
    let has = good_tasks meanings nodes Any (λ entry e is. names_any e) entry value found in
    (has.0, has.1)
