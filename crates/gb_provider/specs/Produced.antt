-- Which tasks produce the value of an expression.
use Rattle.std.specs.Prelude.{◌≡◌, ◌⊎◌, ℕ, List, [], ◌∷◌, Option, Some, None, Result, Ok, Err, map}
use Rattle.gb_core.specs.declared.value.Value.{Value}
use Rattle.gb_core.specs.declared.value.Value.TheVariants as values
use Rattle.gb_provider.specs.declared.fault.Chosen.{Chosen}
use Rattle.gb_provider.specs.declared.fault.Refusal.{Refusal}
use Rattle.gb_provider.specs.declared.fault.ValueFault.TheVariants as faults
use Rattle.gb_provider.specs.declared.fault.ProviderFault.{ProviderFault}
use Rattle.gb_provider.specs.declared.fault.ProviderFault.TheVariants as providers
use Rattle.gb_provider.specs.declared.expression.Setting.{Setting}
use Rattle.gb_provider.specs.declared.expression.Setting.TheVariants.{Held, Followed}
use Rattle.gb_provider.specs.declared.expression.Expression.{Expression}
use Rattle.gb_provider.specs.declared.expression.Outcome.{Outcome}
use Rattle.gb_provider.specs.declared.expression.Outcome.TheVariants as outcomes
use Rattle.gb_provider.specs.declared.produced.Produced.{Produced}
use Rattle.gb_provider.specs.declared.produced.Produced.TheVariants.{Tasks, Refused, Endless}
use Rattle.gb_provider.specs.Answers.{IsFault, value_of}
use Rattle.gb_provider.specs.Called.{Called}
use Rattle.gb_provider.specs.Forms as forms
use Rattle.gb_provider.specs.Forms.{Form, view}
use Rattle.gb_provider.specs.Circle.{IsCircle}
use Rattle.gb_provider.specs.Meanings.{Meanings, meaning_of}
use Rattle.gb_provider.specs.Names.{IsLeastRound, names_on}
use Rattle.gb_provider.specs.Rounds.{Rule, Answers, Reads, answer}
use Rattle.gb_core.specs.Tasks.{with_tasks}

-- a value that is a task has itself as its task, and another value has none
abbrev pub tasks_of : Value → List (List ℕ)
tasks_of (values.Text text) = []
tasks_of (values.Flag flag) = []
tasks_of (values.List texts) = []
tasks_of (values.Place place) = []
tasks_of (values.Task task) = task ∷ []

-- an absent value has no tasks
abbrev pub constant_tasks : Option Value → List (List ℕ)
constant_tasks (Some value) = tasks_of value
constant_tasks None = []

-- the tasks of another expression
abbrev pub carry : {K : Type 0} → K → Rule K (Produced K)
carry operand = Reads operand Answers

-- the rule that continues if the operand has tasks; else the operand is the answer
abbrev pub on_tasks : {K : Type 0} → (List (List ℕ) → Rule K (Produced K)) → Produced K → Rule K (Produced K)
on_tasks go_on (Tasks tasks) = go_on tasks
on_tasks go_on (Refused fault) = Answers (Refused fault)
on_tasks go_on (Endless chooser) = Answers (Endless chooser)

-- the tasks of all operands, added to those already found
abbrev pub carry_all : {K : Type 0} → List (List ℕ) → List K → Rule K (Produced K)
carry_all tasks [] = Answers (Tasks tasks)
carry_all tasks (operand ∷ operands) =
    Reads operand (on_tasks (λ more. carry_all (with_tasks tasks more) operands))

-- A property: the tasks of its setting, else of its convention, else none.
abbrev pub carry_property : {K : Type 0} → Option (Setting K) → Option K → Rule K (Produced K)
carry_property (Some (Held value)) convention = Answers (Tasks (tasks_of value))
carry_property (Some (Followed source)) convention = carry source
carry_property None (Some source) = carry source
carry_property None None = Answers (Tasks [])

-- `orElse`: the tasks of the side that the value of the left selects
abbrev pub carry_side : {K : Type 0} → K → K → Option Outcome → Rule K (Produced K)
carry_side left right (Some (outcomes.Given value)) = carry left
carry_side left right (Some outcomes.Absent) = carry right
carry_side left right (Some (outcomes.Refused fault)) = Answers (Refused fault)
carry_side left right None = Answers (Endless left)

-- the task of the chosen output; none if none is chosen
abbrev pub chosen_tasks : {K : Type 0} → List ℕ → Result (Option Chosen) Refusal → Produced K
chosen_tasks function (Ok (Some chosen)) = Tasks (chosen.task ∷ [])
chosen_tasks function (Ok None) = Tasks []
chosen_tasks function (Err refusal) = Refused (faults.Refused function refusal)

module _ {M F Z S : Type 0} (meanings : Meanings M F Z S) where
  -- `flatMap`: the task of the output that the value of the source chooses
  abbrev pub choose_tasks : {K : Type 0} → K → Called F → Option Outcome → Produced K
  choose_tasks source call (Some (outcomes.Given value)) =
      chosen_tasks call.name (meaning_of meanings.flat_map call.function value call.arguments)
  choose_tasks source call (Some outcomes.Absent) = Tasks []
  choose_tasks source call (Some (outcomes.Refused fault)) = Refused fault
  choose_tasks source call None = Endless source

  -- From which expressions the tasks of one come. Values are read only if they choose.
  abbrev pub makers_rule : {K : Type 0} → (K → Option Outcome) → Form M F Z K → Rule K (Produced K)
  makers_rule value (forms.Constant constant) = Answers (Tasks (constant_tasks constant))
  makers_rule value (forms.OfProperty project name setting convention) = carry_property setting convention
  makers_rule value (forms.OfOutput chosen declared) = Answers (Tasks (chosen.task ∷ []))
  makers_rule value (forms.Listed operands) = carry_all [] operands
  makers_rule value (forms.Mapped source call) = carry source
  makers_rule value (forms.FlatMapped source call) = Answers (choose_tasks source call (value source))
  makers_rule value (forms.Zipped left right call) = carry_all [] (left ∷ right ∷ [])
  makers_rule value (forms.OrElse left right) = carry_side left right (value left)

  module _ (nodes : List (Expression M F Z)) where
    -- the same of an expression of a table
    abbrev pub carrier : Expression M F Z → Rule ℕ (Produced ℕ)
    carrier expression = makers_rule (λ entry. value_of meanings nodes entry) (view expression)

    abbrev pub carriers : List (Rule ℕ (Produced ℕ))
    carriers = map carrier nodes

    module _ (entry : ℕ) where
      -- The tasks that produce the value of an expression.
      abbrev pub produced_by : Option (Produced ℕ)
      produced_by = answer carriers entry

      -- finding the tasks runs into a circle, or the value of the expression that has to choose does
      abbrev pub IsEndless : List (List ℕ) → Type 0
      IsEndless names =
          ((produced_by ≡ None)
          × ((circle : List ℕ) × IsCircle carriers entry circle
          × IsLeastRound (names_on nodes circle) names))
          ⊎ ((chooser : ℕ) × (produced_by ≡ Some (Endless chooser))
          × IsFault meanings nodes chooser (providers.Circular names))

      -- `producers`: the tasks, or the fault of a value that has to choose
      abbrev pub AreProducers : Result (List (List ℕ)) ProviderFault → Type 0
      AreProducers (Ok tasks) = produced_by ≡ Some (Tasks tasks)
      AreProducers (Err (providers.Circular names)) = IsEndless names
      AreProducers (Err (providers.Step fault)) = ⊥
      AreProducers (Err providers.NoValue) = ⊥
      AreProducers (Err (providers.Value fault)) = produced_by ≡ Some (Refused fault)
      AreProducers (Err providers.OutOfMemory) = Unit {0}

-- the fault that reports that the value of an expression never has an answer
abbrev pub IsEndlessReported : {M F Z S : Type 0} → Meanings M F Z S → List (Expression M F Z) → ℕ
    → ProviderFault
    → Type 0
IsEndlessReported meanings nodes chooser (providers.Circular names) =
    IsFault meanings nodes chooser (providers.Circular names)
IsEndlessReported meanings nodes chooser (providers.Step fault) = ⊥
IsEndlessReported meanings nodes chooser providers.NoValue = ⊥
IsEndlessReported meanings nodes chooser (providers.Value fault) = ⊥
IsEndlessReported meanings nodes chooser providers.OutOfMemory = Unit {0}
