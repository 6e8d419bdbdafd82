-- The record of a run that ended well, with digests in place of contents.
use Rattle.std.specs.Prelude.{◌≡◌, ◌<◌, ℕ, List, length, map, IsTrue, ⊤}
use Rattle.std.specs.List.{AllByRecursion}
use Rattle.std.specs.Str.{IsUtf8}
use Rattle.std.specs.FinMap.Entries.{is_sorted}
use Rattle.gb_core.specs.Lists.{byte_order}
use Rattle.gb_core.specs.Name.{is_name}
use Rattle.gb_core.specs.Path.{is_task_path}
use Rattle.gb_core.specs.Place.{is_place, is_rel_path}
use Rattle.gb_core.specs.declared.value.Value.{Value}
use Rattle.gb_core.specs.declared.value.Value.TheVariants as values
use Rattle.gb_plan.specs.declared.task.Action.{Action}
use Rattle.gb_history.specs.declared.record.OutputRecord.{OutputRecord}

-- the digests of the files of a property or an output by their paths, with its name
abbrev pub Prints : Type 0
Prints = List ℕ × List (List ℕ × List ℕ)

-- the prints of these outputs
abbrev pub prints_in : List OutputRecord → List Prints
prints_in outputs = map (λ output. output.prints) outputs

-- The record of a run that ended well: its actions with versions and arguments, its input values, the
-- digests of its input files, and its outputs, each with the digests of its files.
pub record Record : Type 0 where
  pub actions : List Action
  pub values : List (List ℕ × Value)
  pub inputs : List Prints
  pub outputs : List OutputRecord

-- the names of values, properties and outputs are strictly ascending
pub record AreInOrder (run : Record) : Type 0 where
  pub values : IsTrue (is_sorted byte_order run.values)
  pub inputs : IsTrue (is_sorted byte_order run.inputs)
  pub outputs : IsTrue (is_sorted byte_order (prints_in run.outputs))

-- ---- What the types of records hold, where a text can encode it

abbrev pub IsName : List ℕ → Type 0
IsName name = IsTrue (is_name name) × IsUtf8 name

abbrev pub IsArgument : Value → Type 0
IsArgument (values.Text text) = IsUtf8 text
IsArgument (values.Flag flag) = ⊤
IsArgument (values.List texts) = AllByRecursion IsUtf8 texts
IsArgument (values.Place place) = IsTrue (is_place place) × IsUtf8 place
IsArgument (values.Task path) = IsTrue (is_task_path path) × IsUtf8 path

abbrev pub IsInput : List ℕ × Value → Type 0
IsInput input = IsName input.0 × IsArgument input.1

-- a version has 32 bits
abbrev pub IsAction : Action → Type 0
IsAction action = IsName action.kind × (action.version < 4294967296) × AllByRecursion IsArgument action.args

-- a path and 32 bytes
abbrev pub IsPrint : List ℕ × List ℕ → Type 0
IsPrint print =
    IsTrue (is_rel_path print.0) × IsUtf8 print.0 × (length print.1 ≡ 32)
    × AllByRecursion (λ b. b < 256) print.1

-- a name, and each path once, in the order of the paths
abbrev pub ArePrints : Prints → Type 0
ArePrints prints = IsName prints.0 × AllByRecursion IsPrint prints.1 × IsTrue (is_sorted byte_order prints.1)

abbrev pub IsOutput : OutputRecord → Type 0
IsOutput output = IsTrue (is_place output.place) × IsUtf8 output.place × ArePrints output.prints

-- the parts of a record are such, and in order
pub record IsWellFormed (run : Record) : Type 0 where
  pub actions : AllByRecursion IsAction run.actions
  pub values : AllByRecursion IsInput run.values
  pub inputs : AllByRecursion ArePrints run.inputs
  pub outputs : AllByRecursion IsOutput run.outputs
  pub in_order : AreInOrder run

-- a path and a record that a text can encode
abbrev pub IsSaid : List ℕ × Record → Type 0
IsSaid one = IsUtf8 one.0 × IsWellFormed one.1

-- what a history may hold for a task
abbrev pub IsHeld : List ℕ × Record → Type 0
IsHeld one = IsTrue (is_task_path one.0) × IsSaid one

-- what a history holds: records of tasks, by strictly ascending paths
pub record AreHeld (records : List (List ℕ × Record)) : Type 0 where
  pub each : AllByRecursion IsHeld records
  pub in_order : IsTrue (is_sorted byte_order records)
