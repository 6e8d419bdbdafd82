-- Functions and kinds for the worked rows, and short ways to write scripts.
use Rattle.std.proofs.Common.{ℕ, ◌==◌, Bool, true, false, List, [], ◌∷◌, ◌++◌, None, Some, Ok, Err, if◌then◌else◌}
use Rattle.std.specs.Prelude.{codes, bytes_eq, Option, Result, map}
use Rattle.std.specs.Char.{to_ascii_uppercase}
use Rattle.gb_core.specs.Place.{is_place, joined}
use Rattle.gb_core.specs.declared.value.Value.{Value}
use Rattle.gb_core.specs.declared.value.Value.TheVariants as values
use Rattle.gb_action.specs.declared.output_files.Form.TheVariants.{File, Dir}
use Rattle.gb_action.specs.declared.shape.Arg.TheVariants.{Text, Line}
use Rattle.gb_action.specs.declared.shape.Parameter.TheVariants.{Required}
use Rattle.gb_action.specs.declared.shape.Shape.{Shape}
use Rattle.gb_provider.specs.declared.fault.Chosen.{Chosen}
use Rattle.gb_provider.specs.declared.fault.Refusal.{Refusal}
use Rattle.gb_provider.specs.declared.fault.Refusal.TheVariants.{BadArguments, WrongValue}
use Rattle.gb_provider.specs.declared.table.Transform.TheVariants as stored
use Rattle.gb_script.specs.Tree.{Tree, Chain, TextOf, FlagOf, PropertyOf, DirOf, TheBuildDir, GradlePropertyOf, TaskOf, MapBy, FlatMapBy, links_of}
use Rattle.gb_script.specs.declared.function.Function.{Function}
use Rattle.gb_script.specs.declared.script.Call.{Call}
use Rattle.gb_script.specs.declared.script.Assignment.{Assignment}
use Rattle.gb_script.specs.declared.script.Clause.{Clause}
use Rattle.gb_script.specs.declared.script.Clause.TheVariants as clauses
use Rattle.gb_script.specs.declared.script.Statement.{Statement}
use Rattle.gb_script.specs.declared.script.Statement.TheVariants as statements
use Rattle.gb_registry.specs.Tables.{Tables}

-- ---- Functions

abbrev pub of_text : {A : Type 0} → Value → (List ℕ → Result A Refusal) → Result A Refusal
of_text (values.Text text) meant = meant text
of_text other meant = Err WrongValue

abbrev pub of_place : {A : Type 0} → Value → (List ℕ → Result A Refusal) → Result A Refusal
of_place (values.Place place) meant = meant place
of_place other meant = Err WrongValue

abbrev pub of_task : {A : Type 0} → Value → (List ℕ → Result A Refusal) → Result A Refusal
of_task (values.Task task) meant = meant task
of_task (values.Text text) meant = meant text
of_task other meant = Err WrongValue

abbrev pub with_one : {A : Type 0} → List (List ℕ) → (List ℕ → Result A Refusal) → Result A Refusal
with_one (text ∷ []) meant = meant text
with_one other meant = Err BadArguments

abbrev pub if_any : List ℕ → Option Value
if_any [] = None
if_any (c ∷ text) = Some (values.Text (c ∷ text))

abbrev pub if_place : List ℕ → Result (Option Value) Refusal
if_place text = if is_place text then Ok (Some (values.Place text)) else Err BadArguments

-- 0 is upper, 1 append, 2 child, 3 nonEmpty
abbrev pub map_means : ℕ → Value → List (List ℕ) → Result (Option Value) Refusal
map_means number value arguments =
    if number == 0 then of_text value (λ text. Ok (Some (values.Text (map to_ascii_uppercase text))))
    else (if number == 1 then of_text value (λ text. with_one arguments (λ end. Ok (Some (values.Text (text ++ end)))))
    else (if number == 2 then of_place value (λ place. with_one arguments (λ path. if_place (joined (Some place) path)))
    else of_text value (λ text. Ok (if_any text))))

abbrev pub map_arity : ℕ → ℕ
map_arity number = if number == 0 then 0 else (if number == 3 then 0 else 1)

abbrev pub flat_map_means : ℕ → Value → List (List ℕ) → Result (Option Chosen) Refusal
flat_map_means number value arguments = of_task value (λ task. with_one arguments (λ name. Ok (Some (record { task = task; output = name }))))

abbrev pub zip_means : ℕ → Value → Value → List (List ℕ) → Result Value Refusal
zip_means number left right arguments = of_text left (λ prefix. of_text right (λ back. Ok (values.Text (prefix ++ back))))

abbrev pub test_means : ℕ → Value → List (List ℕ) → Result Bool Refusal
test_means number value arguments = of_text value (λ text. with_one arguments (λ other. Ok (bytes_eq text other)))

-- ---- Kinds: 0 is writeText, 1 printLine, 2 copyFiles

abbrev pub shape : ℕ → Shape
shape number =
    if number == 0 then record { args = Required Text ∷ []; src = false; out = Some File; incremental = false }
    else (if number == 1 then record { args = Required Line ∷ []; src = false; out = None; incremental = false }
    else record { args = []; src = true; out = Some Dir; incremental = true })

abbrev pub tables : Tables ℕ ℕ ℕ ℕ ℕ
tables = record {
  functions = (codes "upper", stored.Map 0) ∷ (codes "append", stored.Map 1) ∷ (codes "child", stored.Map 2) ∷ (codes "nonEmpty", stored.Map 3)
      ∷ (codes "output", stored.FlatMap 0) ∷ (codes "concat", stored.Zip 0) ∷ (codes "equals", stored.Test 0) ∷ [];
  means = record {
    map = record { kind = λ number. number; arity = map_arity; means = map_means };
    flat_map = record { kind = λ number. number; arity = λ number. 1; means = flat_map_means };
    zip = record { kind = λ number. number; arity = λ number. 0; means = zip_means };
    test = record { kind = λ number. number; arity = λ number. 1; means = test_means };
  };
  kinds = (codes "writeText", 0) ∷ (codes "printLine", 1) ∷ (codes "copyFiles", 2) ∷ [];
  shapes = record { kind = λ number. number; version = λ number. 1; shape = shape; makes = λ number args values trees. Ok []; prints = λ number args values trees changes. [] };
}

-- ---- Expressions

abbrev pub text : List ℕ → Tree
text t = Chain (TextOf t) (links_of [])

abbrev pub flag : Bool → Tree
flag b = Chain (FlagOf b) (links_of [])

abbrev pub property : List ℕ → Tree
property w = Chain (PropertyOf w) (links_of [])

abbrev pub folder : List ℕ → Tree
folder t = Chain (DirOf t) (links_of [])

abbrev pub task : List ℕ → Tree
task t = Chain (TaskOf t) (links_of [])

abbrev pub given : List ℕ → Tree
given t = Chain (GradlePropertyOf t) (links_of [])

abbrev pub call_of : List ℕ → List (List ℕ) → Function
call_of name arguments = record { name = name; arguments = arguments }

-- buildDir.map(child(..))
abbrev pub in_build : List ℕ → Tree
in_build path = Chain TheBuildDir (links_of (MapBy (call_of (codes "child") (path ∷ [])) ∷ []))

-- task(..).flatMap(output(..))
abbrev pub made_by : List ℕ → List ℕ → Tree
made_by t name = Chain (TaskOf t) (links_of (FlatMapBy (call_of (codes "output") (name ∷ [])) ∷ []))

-- ---- Clauses

abbrev pub assigned : List ℕ → Tree → Assignment
assigned name value = record { name = name; value = value }

abbrev pub called : List ℕ → List Tree → Call
called name arguments = record { name = name; arguments = arguments }

abbrev pub input : List ℕ → Tree → Clause
input name value = clauses.Input (assigned name value)

abbrev pub output_file : List ℕ → Tree → Clause
output_file name value = clauses.OutputFile (assigned name value)

abbrev pub output_dir : List ℕ → Tree → Clause
output_dir name value = clauses.OutputDir (assigned name value)

abbrev pub input_files : List ℕ → List Tree → Clause
input_files name from = clauses.InputFiles (record { name = name; incremental = true; skip_when_empty = true; name_only = false; from = from; include = []; exclude = [] })

abbrev pub do_last : List ℕ → Tree → Clause
do_last name argument = clauses.DoLast (called name (argument ∷ []))

abbrev pub do_first : List ℕ → Tree → Clause
do_first name argument = clauses.DoFirst (called name (argument ∷ []))

abbrev pub only_if : Tree → List ℕ → Clause
only_if value wanted = clauses.OnlyIf (record { value = value; test = call_of (codes "equals") (wanted ∷ []) })

-- ---- Statements

abbrev pub set : List ℕ → Tree → Statement
set name value = statements.Set (assigned name value)

abbrev pub convention : List ℕ → Tree → Statement
convention name value = statements.Convention (assigned name value)

abbrev pub register : List ℕ → List Clause → Statement
register name block = statements.Register (record { name = name; action = None; block = block })

abbrev pub register_of : List ℕ → Call → List Clause → Statement
register_of name action block = statements.Register (record { name = name; action = Some action; block = block })

abbrev pub named : List ℕ → List Clause → Statement
named name block = statements.Named (record { name = name; block = block })
