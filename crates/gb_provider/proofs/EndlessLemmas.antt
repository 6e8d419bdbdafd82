-- A chooser that an answer names is an expression whose value never has an answer.
use Rattle.std.proofs.Common.{◌≡◌, ◌<◌, ℕ, zero, suc, List, [], ◌∷◌, length, refl, sym, subst, ◌∙◌}
use Rattle.std.specs.Prelude.{Option, Some, None, Result, Ok, Err, slice_get, option_map}
use Rattle.std.proofs.lemmas.Option.{slice_get-map, slice_get_within, get_or_from_slice_get}
use Rattle.gb_provider.specs.declared.fault.ProviderFault.{ProviderFault}
use Rattle.gb_provider.specs.declared.fault.ProviderFault.TheVariants as faults
use Rattle.gb_provider.specs.declared.expression.Setting.{Setting}
use Rattle.gb_provider.specs.declared.expression.Setting.TheVariants.{Held, Followed}
use Rattle.gb_provider.specs.declared.expression.Expression.{Expression}
use Rattle.gb_provider.specs.declared.expression.Expression.TheVariants.{Constant, OfProperty, OfOutput, Listed, Mapped, FlatMapped, Zipped, OrElse}
use Rattle.gb_provider.specs.declared.expression.Outcome.{Outcome}
use Rattle.gb_provider.specs.declared.expression.Outcome.TheVariants as outcomes
use Rattle.gb_provider.specs.declared.fault.Chosen.{Chosen}
use Rattle.gb_provider.specs.declared.fault.Refusal.{Refusal}
use Rattle.gb_provider.specs.declared.produced.Produced.{Produced}
use Rattle.gb_provider.specs.declared.produced.Produced.TheVariants.{Tasks, Refused, Endless}
use Rattle.gb_provider.specs.declared.evaluation.Reading.TheVariants.{Settles}
use Rattle.gb_provider.specs.Answers.{IsGot, value_of}
use Rattle.gb_provider.specs.Called.{Called}
use Rattle.gb_provider.specs.Meanings.{Meanings, meaning_of}
use Rattle.gb_provider.specs.Produced.{IsEndlessReported, carrier, carriers, carry_all, carry_property, carry_side, choose_tasks, chosen_tasks, on_tasks, produced_by}
use Rattle.gb_core.specs.Tasks.{with_tasks}
use Rattle.gb_provider.specs.Remembered.{AreWithin}
use Rattle.gb_provider.specs.Rounds.{Rule, Answers, Reads, after_operand, and_then, answer_after, reading, settled}
use Rattle.gb_provider.specs.Rules.{OperandsWithin}
use Rattle.gb_provider.proofs.RoundsLemmas.{settled_is}

module _ {A : Type 0} (P : A → Type 0) where
  -- each answer of the rule is fit, as long as those of its operands are
  abbrev Keeps : Rule ℕ A → Type 0
  Keeps (Answers a) = P a
  Keeps (Reads operand next) = (a : A) → P a → Keeps (next a)

  module _ (f : ℕ → Option A) (fit : (e : ℕ) (a : A) → f e ≡ Some a → P a) where
    kept_at : (operand : ℕ) (next : A → Rule ℕ A) (a : A) → ((b : A) → P b → reading f (next b) ≡ Settles a → P a) → (o : Option A) → f operand ≡ o → after_operand operand (λ b. reading f (next b)) o ≡ Settles a → P a
    kept_at operand next a ih None was e = cc
    kept_at operand next a ih (Some b) was e = ih b (fit operand b was) e

    kept : (rule : Rule ℕ A) (a : A) → Keeps rule → reading f rule ≡ Settles a → P a
    kept (Answers b) a keeps e = let same : b ≡ a = cc in subst P same keeps
    kept (Reads operand next) a keeps e = kept_at operand next a (λ b b_fit. kept (next b) a (keeps b b_fit)) (f operand) refl e

  module _ (rules : List (Rule ℕ A)) (all : (e : ℕ) (rule : Rule ℕ A) → slice_get rules e ≡ Some rule → Keeps rule) where
    round_kept : (n e : ℕ) (a : A) → ((i : ℕ) (b : A) → answer_after rules n i ≡ Some b → P b) → (o : Option (Rule ℕ A)) → slice_get rules e ≡ o → and_then (λ rule. settled (reading (answer_after rules n) rule)) o ≡ Some a → P a
    round_kept n e a before None is answered = cc
    round_kept n e a before (Some rule) is answered = kept (answer_after rules n) before rule a (all e rule is) (settled_is (reading (answer_after rules n) rule) a answered)

    -- then so are all answers
    answers_kept : (n e : ℕ) (a : A) → answer_after rules n e ≡ Some a → P a
    answers_kept zero e a answered = cc
    answers_kept (suc n) e a answered = round_kept n e a (answers_kept n) (slice_get rules e) refl answered

module _ {M F Z S : Type 0} (meanings : Meanings M F Z S) (nodes : List (Expression M F Z)) where
  -- an answer that names a chooser names one whose value never has an answer
  abbrev IsFit : Produced ℕ → Type 0
  IsFit (Tasks tasks) = Unit {0}
  IsFit (Refused fault) = Unit {0}
  IsFit (Endless chooser) = (chooser < length nodes) × (value_of meanings nodes chooser ≡ None)

  property_fit : (setting : Option (Setting ℕ)) (convention : Option ℕ) → Keeps IsFit (carry_property setting convention)
  property_fit (Some (Held value)) convention = tt
  property_fit (Some (Followed source)) convention = λ a fit. fit
  property_fit None (Some source) = λ a fit. fit
  property_fit None None = tt

  on_fit : (go_on : List (List ℕ) → Rule ℕ (Produced ℕ)) → ((more : List (List ℕ)) → Keeps IsFit (go_on more)) → (a : Produced ℕ) → IsFit a → Keeps IsFit (on_tasks go_on a)
  on_fit go_on fits (Tasks more) fit = fits more
  on_fit go_on fits (Refused fault) fit = tt
  on_fit go_on fits (Endless chooser) fit = fit

  all_fit : (operands : List ℕ) (tasks : List (List ℕ)) → Keeps IsFit (carry_all tasks operands)
  all_fit [] tasks = tt
  all_fit (operand ∷ operands) tasks = on_fit (λ more. carry_all (with_tasks tasks more) operands) (λ more. all_fit operands (with_tasks tasks more))

  side_fit : (left right : ℕ) → left < length nodes → (o : Option Outcome) → value_of meanings nodes left ≡ o → Keeps IsFit (carry_side left right o)
  side_fit left right below (Some (outcomes.Given value)) is = λ a fit. fit
  side_fit left right below (Some outcomes.Absent) is = λ a fit. fit
  side_fit left right below (Some (outcomes.Refused fault)) is = tt
  side_fit left right below None is = (below, is)

  chosen_fit : (function : List ℕ) (reply : Result (Option Chosen) Refusal) → IsFit (chosen_tasks function reply)
  chosen_fit function (Ok (Some chosen)) = tt
  chosen_fit function (Ok None) = tt
  chosen_fit function (Err refusal) = tt

  choice_fit : (source : ℕ) (call : Called F) → source < length nodes → (o : Option Outcome) → value_of meanings nodes source ≡ o → IsFit (choose_tasks meanings source call o)
  choice_fit source call below (Some (outcomes.Given value)) is = chosen_fit call.name (meaning_of meanings.flat_map call.function value call.arguments)
  choice_fit source call below (Some outcomes.Absent) is = tt
  choice_fit source call below (Some (outcomes.Refused fault)) is = tt
  choice_fit source call below None is = (below, is)

  carrier_fit : (node : Expression M F Z) → OperandsWithin (length nodes) node → Keeps IsFit (carrier meanings nodes node)
  carrier_fit (Constant value) within = tt
  carrier_fit (OfProperty property) within = property_fit property.setting property.convention
  carrier_fit (OfOutput output) within = tt
  carrier_fit (Listed operands) within = all_fit operands []
  carrier_fit (Mapped source call) within = λ a fit. fit
  carrier_fit (FlatMapped source call) within = choice_fit source call within (value_of meanings nodes source) refl
  carrier_fit (Zipped left right call) within = all_fit (left ∷ right ∷ []) []
  carrier_fit (OrElse left right) within = side_fit left right within.0 (value_of meanings nodes left) refl

  module _ (within : AreWithin nodes) where
    rule_fit : (o : Option (Expression M F Z)) (e : ℕ) (rule : Rule ℕ (Produced ℕ)) → slice_get nodes e ≡ o → option_map (carrier meanings nodes) o ≡ Some rule → Keeps IsFit rule
    rule_fit None e rule is there = cc
    rule_fit (Some node) e rule is there =
        let same : carrier meanings nodes node ≡ rule = cc in
        let operands = subst (OperandsWithin (length nodes)) (get_or_from_slice_get nodes e node node is) (within e node (slice_get_within nodes e node is)) in
        subst (Keeps IsFit) same (carrier_fit node operands)

    -- if the tasks of an expression wait for a value that never has an answer
    pub endless_fit : (entry chooser : ℕ) → produced_by meanings nodes entry ≡ Some (Endless chooser) → (chooser < length nodes) × (value_of meanings nodes chooser ≡ None)
    endless_fit entry chooser is =
        answers_kept IsFit (carriers meanings nodes) (λ e rule there. rule_fit (slice_get nodes e) e rule refl (sym (slice_get-map (carrier meanings nodes) nodes e) ∙ there))
        (length (carriers meanings nodes)) entry (Endless chooser) is

  -- the result for a value that never has an answer
  pub endless_reported : (chooser : ℕ) → value_of meanings nodes chooser ≡ None → (fault : ProviderFault) → IsGot meanings nodes chooser (Err fault) → IsEndlessReported meanings nodes chooser fault
  endless_reported chooser none (faults.Circular names) got = got
  endless_reported chooser none (faults.Step fault) got = absurd got
  endless_reported chooser none faults.NoValue got = absurd got
  endless_reported chooser none (faults.Value fault) got = cc
  endless_reported chooser none faults.OutOfMemory got = tt
