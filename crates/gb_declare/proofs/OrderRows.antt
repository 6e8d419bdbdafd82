-- Which of several faults is reported, by computation.
use Rattle.std.proofs.Common.{◌≡◌, ℕ, true, false, List, [], ◌∷◌, Some, Err, refl}
use Rattle.std.specs.Prelude.{codes, Option, Result}
use Rattle.gb_script.specs.Tree.{Tree, Chain, ListOf, FileOf, Link, MapBy, ZipBy, links_of, trees_of}
use Rattle.gb_script.specs.declared.script.Clause.{Clause}
use Rattle.gb_script.specs.declared.script.Clause.TheVariants as clauses
use Rattle.gb_script.specs.declared.script.Statement.{Statement}
use Rattle.gb_script.specs.declared.script.Statement.TheVariants as statements
use Rattle.gb_report.specs.declared.fault.Fault.{Fault}
use Rattle.gb_report.specs.declared.fault.Fault.TheVariants as faults
use Rattle.gb_plan.specs.declared.task.TaskDeclaration.{TaskDeclaration}
use Rattle.gb_registry.specs.Configure.{configure_faults}
use Rattle.gb_registry.specs.Faults.{first_of}
use Rattle.gb_declare.specs.Realised.{Trouble, Plain}
use Rattle.gb_registry.specs.Source.{source_of}
use Rattle.gb_registry.proofs.Sample.{tables, text, flag, property, folder, task, given, made_by, call_of, in_build, called, input, output_file, set, register, register_of}
use Rattle.gb_declare.proofs.TaskRows.{task_of, out, a, b}

abbrev pub refusal : List Statement → Option Fault
refusal script = first_of (configure_faults tables (source_of [] (script ∷ []) []))

-- the task `t` of these clauses
abbrev pub t_of : List Clause → Result TaskDeclaration Trouble
t_of block = task_of (register (codes "t") block ∷ []) [] (codes ":t")

abbrev pub after : Tree → Link → Tree
after (Chain root links) step = Chain root (links_of (step ∷ []))

abbrev pub files : List Tree → List (List ℕ) → List (List ℕ) → Clause
files from include exclude = clauses.InputFiles (record { name = codes "f"; incremental = false; skip_when_empty = false; name_only = false; from = from; include = include; exclude = exclude })

abbrev pub test : Tree → List ℕ → List (List ℕ) → Clause
test value name arguments = clauses.OnlyIf (record { value = value; test = call_of name arguments })

abbrev pub nothing : Tree
nothing = given (codes "no")

abbrev pub f : List ℕ
f = codes "f"

-- ---- Statements

pub look_ups_last : refusal (statements.Property a ∷ set a (after (task (codes "no")) (MapBy (call_of (codes "nope") []))) ∷ set b (text (codes "x")) ∷ []) ≡ Some (faults.UnknownTransform (codes "nope"))
look_ups_last = refl

-- `disallowChanges` twice is no fault, `unset` after it is
pub final_twice : refusal (statements.Property a ∷ statements.DisallowChanges a ∷ statements.DisallowChanges a ∷ statements.Unset a ∷ []) ≡ Some (faults.Final a)
final_twice = refl

-- ---- Declaring

pub main_first : task_of (register_of (codes "t") (called (codes "nope") (folder (codes "a//b") ∷ [])) (clauses.DependsOn (codes "1x" ∷ []) ∷ []) ∷ []) [] (codes ":t")
    ≡ Err (Plain (faults.UnknownAction (codes "nope")))
main_first = refl

pub from_the_left : task_of (register_of (codes "t") (called (codes "writeText") (property (codes "p") ∷ folder (codes "a//b") ∷ [])) (clauses.DependsOn (codes "1x" ∷ []) ∷ []) ∷ []) [] (codes ":t")
    ≡ Err (Plain (faults.UnknownProperty (codes "p")))
from_the_left = refl

pub roots_before_patterns : t_of (files (folder (codes "x") ∷ property (codes "q") ∷ []) (codes "/a" ∷ []) (codes "b" ∷ []) ∷ test (property (codes "p")) (codes "nope") [] ∷ [])
    ≡ Err (Plain (faults.UnknownProperty (codes "q")))
roots_before_patterns = refl

pub includes_first : t_of (files (folder (codes "x") ∷ []) (codes "a\\b" ∷ []) (codes "/b" ∷ []) ∷ []) ≡ Err (Plain (faults.BadPattern (codes "a\\b")))
includes_first = refl

pub value_before_test : t_of (test (after (text a) (MapBy (call_of (codes "upper") (codes "1" ∷ [])))) (codes "nope") [] ∷ []) ≡ Err (Plain (faults.BadArguments (codes "upper")))
value_before_test = refl

pub count_of_a_test : t_of (test (text a) (codes "equals") [] ∷ clauses.Enabled (text (codes "x")) ∷ []) ≡ Err (Plain (faults.BadArguments (codes "equals")))
count_of_a_test = refl

-- ---- Evaluating

pub enabled_first : t_of (test (flag true) (codes "equals") (codes "x" ∷ []) ∷ input (codes "i") nothing ∷ clauses.Enabled (text (codes "x")) ∷ []) ≡ Err (Plain (faults.WrongValue (codes "enabled")))
enabled_first = refl

pub enabled_absent : t_of (test (flag true) (codes "equals") (codes "x" ∷ []) ∷ input (codes "i") nothing ∷ clauses.Enabled nothing ∷ []) ≡ Err (Plain (faults.NoValue (codes ":t") (codes "enabled")))
enabled_absent = refl

pub tests_next : t_of (clauses.Enabled (flag true) ∷ input (codes "i") nothing ∷ test (flag true) (codes "equals") (codes "x" ∷ []) ∷ []) ≡ Err (Plain (faults.WrongValue (codes "equals")))
tests_next = refl

-- inputs by their names, before files
pub inputs_by_name : t_of (input b nothing ∷ input a (Chain (ListOf (trees_of (text (codes "x") ∷ flag true ∷ []))) (links_of [])) ∷ files (text (codes "x") ∷ []) [] [] ∷ []) ≡ Err (Plain (faults.WrongValue (codes "list")))
inputs_by_name = refl

pub absent_root : t_of (files (nothing ∷ text (codes "x") ∷ []) [] [] ∷ input b (task (codes "t")) ∷ []) ≡ Err (Plain (faults.NoValue (codes ":t") f))
absent_root = refl

pub root_no_place : t_of (files (text (codes "x") ∷ nothing ∷ []) [] [] ∷ input b (text a) ∷ []) ≡ Err (Plain (faults.WrongValue f))
root_no_place = refl

-- all arguments are evaluated before the check whether they fit
pub arguments_first : task_of (register_of (codes "t") (called (codes "writeText") (text a ∷ nothing ∷ [])) (output_file out (in_build a) ∷ []) ∷ []) [] (codes ":t")
    ≡ Err (Plain (faults.NoValue (codes ":t") (codes "writeText")))
arguments_first = refl

-- a list is evaluated from the left: the task that is read first is at fault
pub list_from_the_left : task_of (register (codes "t") (input (codes "i") (Chain (ListOf (trees_of (made_by (codes "u") out ∷ nothing ∷ []))) (links_of [])) ∷ [])
    ∷ register (codes "u") (output_file out (Chain (FileOf (codes "a//b")) (links_of [])) ∷ []) ∷ []) [] (codes ":t") ≡ Err (Plain (faults.BadPlace (codes "a//b")))
list_from_the_left = refl

pub absent_output : task_of (register (codes "t") (input (codes "i") (after (text a) (ZipBy (made_by (codes "u") out) (call_of (codes "concat") []))) ∷ [])
    ∷ register_of (codes "u") (called (codes "writeText") (text (codes "x") ∷ [])) (output_file out nothing ∷ []) ∷ []) [] (codes ":t") ≡ Err (Plain (faults.NoValue (codes ":t") (codes "i")))
absent_output = refl
