-- How an expression is evaluated.
use Rattle.std.specs.Prelude.{◌≡◌, ℕ, ◌<◌, List, [], ◌∷◌, ◌++◌, Bool, true, false, ◌&&◌, Option, Some, None}
use Rattle.std.specs.Prelude.{Result, Ok, Err, position, map, codes, All}
use Rattle.std.specs.Str.{bytes_eq}
use Rattle.gb_core.specs.declared.value.Value.{Value}
use Rattle.gb_core.specs.declared.value.Value.TheVariants as values
use Rattle.gb_provider.specs.declared.fault.Chosen.{Chosen}
use Rattle.gb_provider.specs.declared.fault.Refusal.{Refusal}
use Rattle.gb_provider.specs.declared.fault.Refusal.TheVariants.{WrongValue}
use Rattle.gb_provider.specs.declared.fault.TransformFault.{TransformFault}
use Rattle.gb_provider.specs.declared.fault.TransformFault.TheVariants as thrown
use Rattle.gb_provider.specs.declared.fault.ValueFault.{ValueFault}
use Rattle.gb_provider.specs.declared.fault.ValueFault.TheVariants as faults
use Rattle.gb_provider.specs.declared.expression.Node.{Node}
use Rattle.gb_provider.specs.declared.expression.Setting.{Setting}
use Rattle.gb_provider.specs.declared.expression.Setting.TheVariants.{Held, Followed}
use Rattle.gb_provider.specs.declared.expression.Expression.{Expression}
use Rattle.gb_provider.specs.declared.expression.Expression.TheVariants.{Constant, OfProperty, OfOutput}
use Rattle.gb_provider.specs.declared.expression.Expression.TheVariants.{Listed, Mapped, FlatMapped, Zipped}
use Rattle.gb_provider.specs.declared.expression.Expression.TheVariants.{OrElse}
use Rattle.gb_provider.specs.declared.expression.Outcome.{Outcome}
use Rattle.gb_provider.specs.declared.expression.Outcome.TheVariants.{Given, Absent, Refused}
use Rattle.gb_provider.specs.Called.{Called}
use Rattle.gb_provider.specs.Forms as forms
use Rattle.gb_provider.specs.Forms.{Form, view}
use Rattle.gb_provider.specs.Meanings.{Meanings, meaning_of}
use Rattle.gb_provider.specs.Rounds.{Rule, Answers, Reads}

abbrev pub numbers_of : List Node → List ℕ
numbers_of nodes = map (λ node. node.number) nodes

-- the function of this name refuses
abbrev pub refused : List ℕ → Refusal → Outcome
refused function refusal = Refused (faults.Refused function refusal)

-- a function's fault, under the name of the function
abbrev pub RefusedAs : List ℕ → TransformFault → ValueFault → Type 0
RefusedAs function (thrown.Refused refusal) fault = fault ≡ faults.Refused function refusal
RefusedAs function thrown.OutOfMemory fault = ⊥

-- a value, or nothing
abbrev pub constant : Option Value → Outcome
constant (Some value) = Given value
constant None = Absent

-- the answer of another expression
abbrev pub follow : {K : Type 0} → K → Rule K Outcome
follow operand = Reads operand Answers

-- the rule that continues if the operand is a value; else the operand is the answer
abbrev pub on_value : {K : Type 0} → (Value → Rule K Outcome) → Outcome → Rule K Outcome
on_value go_on (Given value) = go_on value
on_value go_on Absent = Answers Absent
on_value go_on (Refused fault) = Answers (Refused fault)

-- A property: its setting, else the convention, else absent.
abbrev pub property_rule : {K : Type 0} → Option (Setting K) → Option K → Rule K Outcome
property_rule (Some (Held value)) convention = Answers (Given value)
property_rule (Some (Followed source)) convention = follow source
property_rule None (Some source) = follow source
property_rule None None = Answers Absent

-- An output: the value of its expression; 36 while it is not declared.
abbrev pub output_rule : {K : Type 0} → Chosen → Option K → Rule K Outcome
output_rule chosen (Some source) = follow source
output_rule chosen None = Answers (Refused (faults.Unrealised chosen))

-- the rule that continues if an element of a list is a text, and the other if it is another value
abbrev pub on_text : {K : Type 0} → (List ℕ → Rule K Outcome) → Rule K Outcome → Value → Rule K Outcome
on_text go_on other (values.Text text) = go_on text
on_text go_on other (values.Flag flag) = other
on_text go_on other (values.List texts) = other
on_text go_on other (values.Place place) = other
on_text go_on other (values.Task task) = other

-- the list of the texts, unless an element was no text
abbrev pub listed : Bool → List (List ℕ) → Outcome
listed false texts = Given (values.List texts)
listed true texts = refused (codes "list") WrongValue

-- A list: each element is read, and the first that is no value decides; then 34 if one is no text.
abbrev pub list_rule : {K : Type 0} → Bool → List (List ℕ) → List K → Rule K Outcome
list_rule is_wrong texts [] = Answers (listed is_wrong texts)
list_rule is_wrong texts (operand ∷ operands) =
    Reads operand (on_value
    (on_text (λ text. list_rule is_wrong (texts ++ text ∷ []) operands) (list_rule true texts operands)))

abbrev pub mapped : List ℕ → Result (Option Value) Refusal → Outcome
mapped function (Ok (Some value)) = Given value
mapped function (Ok None) = Absent
mapped function (Err refusal) = refused function refusal

abbrev pub zipped : List ℕ → Result Value Refusal → Outcome
zipped function (Ok value) = Given value
zipped function (Err refusal) = refused function refusal

abbrev pub is_chosen : Chosen → Chosen → Bool
is_chosen chosen other = bytes_eq other.task chosen.task && bytes_eq other.output chosen.output

module _ {M F Z : Type 0} where
  abbrev pub is_output : Chosen → Expression M F Z → Bool
  is_output chosen (Constant value) = false
  is_output chosen (OfProperty property) = false
  is_output chosen (OfOutput output) = is_chosen chosen output.chosen
  is_output chosen (Listed operands) = false
  is_output chosen (Mapped source call) = false
  is_output chosen (FlatMapped source call) = false
  is_output chosen (Zipped left right call) = false
  is_output chosen (OrElse left right) = false

  -- the number of an output
  abbrev pub output_place : List (Expression M F Z) → Chosen → Option ℕ
  output_place nodes chosen = position (is_output chosen) nodes

-- `flatMap`: the chosen output; absent if none is chosen. `output` gives the key of an output.
abbrev pub chosen_rule : {K : Type 0} → (Chosen → Option K) → List ℕ → Result (Option Chosen) Refusal
    → Rule K Outcome
chosen_rule output function (Ok (Some chosen)) = output_rule chosen (output chosen)
chosen_rule output function (Ok None) = Answers Absent
chosen_rule output function (Err refusal) = Answers (refused function refusal)

-- `orElse`: the left unless it is absent, then the right.
abbrev pub or_else : {K : Type 0} → K → Outcome → Rule K Outcome
or_else right (Given value) = Answers (Given value)
or_else right Absent = follow right
or_else right (Refused fault) = Answers (Refused fault)

module _ {M F Z S K : Type 0} (meanings : Meanings M F Z S) where
  abbrev pub map_rule : K → Called M → Rule K Outcome
  map_rule source call =
      Reads source (on_value (λ value.
      Answers (mapped call.name (meaning_of meanings.map call.function value call.arguments))))

  abbrev pub flat_map_rule : (Chosen → Option K) → K → Called F → Rule K Outcome
  flat_map_rule output source call =
      Reads source (on_value (λ value.
      chosen_rule output call.name (meaning_of meanings.flat_map call.function value call.arguments)))

  abbrev pub zip_rule : K → K → Called Z → Rule K Outcome
  zip_rule left right call =
      Reads left (on_value (λ a.
      Reads right (on_value (λ b.
      Answers (zipped call.name (meaning_of meanings.zip call.function a b call.arguments))))))

module _ {M F Z S K : Type 0} (meanings : Meanings M F Z S) (output : Chosen → Option K) where
  -- How an expression is evaluated; `output` gives the key of an output.
  abbrev pub value_rule : Form M F Z K → Rule K Outcome
  value_rule (forms.Constant value) = Answers (constant value)
  value_rule (forms.OfProperty project name setting convention) = property_rule setting convention
  value_rule (forms.OfOutput chosen declared) = output_rule chosen declared
  value_rule (forms.Listed operands) = list_rule false [] operands
  value_rule (forms.Mapped source call) = map_rule meanings source call
  value_rule (forms.FlatMapped source call) = flat_map_rule meanings output source call
  value_rule (forms.Zipped left right call) = zip_rule meanings left right call
  value_rule (forms.OrElse left right) = Reads left (or_else right)

module _ {M F Z S : Type 0} (meanings : Meanings M F Z S) where
  -- the same of an expression of a table
  abbrev pub rule : List (Expression M F Z) → Expression M F Z → Rule ℕ Outcome
  rule nodes expression = value_rule meanings (output_place nodes) (view expression)

  abbrev pub rules : List (Expression M F Z) → List (Rule ℕ Outcome)
  rules nodes = map (rule nodes) nodes

-- the place, if there is one, is one of the first n
abbrev pub PlaceWithin : ℕ → Option ℕ → Type 0
PlaceWithin n None = Unit {0}
PlaceWithin n (Some place) = place < n

abbrev pub SettingWithin : ℕ → Option (Setting ℕ) → Type 0
SettingWithin n None = Unit {0}
SettingWithin n (Some (Held value)) = Unit {0}
SettingWithin n (Some (Followed source)) = source < n

-- the operands that an expression names are among the first n
abbrev pub OperandsWithin : {M F Z : Type 0} → ℕ → Expression M F Z → Type 0
OperandsWithin n (Constant value) = Unit {0}
OperandsWithin n (OfProperty property) = SettingWithin n property.setting × PlaceWithin n property.convention
OperandsWithin n (OfOutput output) = PlaceWithin n output.declared
OperandsWithin n (Listed operands) = All (λ operand. operand < n) operands
OperandsWithin n (Mapped source call) = source < n
OperandsWithin n (FlatMapped source call) = source < n
OperandsWithin n (Zipped left right call) = (left < n) × (right < n)
OperandsWithin n (OrElse left right) = (left < n) × (right < n)
