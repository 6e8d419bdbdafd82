-- Worked rows, by computation: what tasks declare, over one script in the root.
use Rattle.std.proofs.Common.{◌≡◌, ℕ, true, false, List, [], ◌∷◌, Ok, Err, refl}
use Rattle.std.specs.Prelude.{codes, Result}
use Rattle.gb_core.specs.declared.value.Value.TheVariants as values
use Rattle.gb_action.specs.declared.output_files.Form.TheVariants.{File}
use Rattle.gb_script.specs.Tree.{Chain, PropertyOf, TheBuildDir, GradlePropertyOf, MapBy, links_of}
use Rattle.gb_script.specs.declared.script.Statement.{Statement}
use Rattle.gb_script.specs.declared.script.Statement.TheVariants as statements
use Rattle.gb_report.specs.declared.fault.Fault.TheVariants as faults
use Rattle.gb_plan.specs.declared.task.TaskDeclaration.{TaskDeclaration}
use Rattle.gb_registry.specs.Source.{source_of}
use Rattle.gb_declare.specs.Realised.{Trouble, Plain, Endless, realised}
use Rattle.gb_registry.proofs.Sample.{tables, text, flag, property, given, call_of, in_build, called, output_file, set, convention, register, register_of, do_last}

-- the task at a path, where there is one script, in the root, and the command line gives these
abbrev pub task_of : List Statement → List (List ℕ × List ℕ) → List ℕ → Result TaskDeclaration Trouble
task_of script given path = realised tables (source_of [] (script ∷ []) given) path

abbrev pub out : List ℕ
out = codes "out"

-- an output at the build folder itself
pub outside : task_of (register_of (codes "t") (called (codes "writeText") (text (codes "a") ∷ [])) (output_file out (Chain TheBuildDir (links_of [])) ∷ []) ∷ []) [] (codes ":t")
    ≡ Err (Plain (faults.OutputOutsideBuild (codes ":t") (codes "build")))
outside = refl

-- an argument that is no text
pub no_text : task_of (register (codes "t") (do_last (codes "printLine") (flag true) ∷ []) ∷ []) [] (codes ":t")
    ≡ Err (Plain (faults.BadArgument (codes ":t") (codes "printLine")))
no_text = refl

-- ---- an argument from the command line

abbrev pub eight : List Statement
eight = register_of (codes "t") (called (codes "writeText") (Chain (GradlePropertyOf (codes "v")) (links_of (MapBy (call_of (codes "append") (codes "!" ∷ [])) ∷ [])) ∷ []))
    (output_file out (in_build (codes "a")) ∷ []) ∷ []

-- the last value of a name applies
pub given_x : task_of eight ((codes "v", codes "w") ∷ (codes "v", codes "x") ∷ []) (codes ":t") ≡ Ok (record {
  path = codes ":t";
  runs = true;
  is_stale = false;
  values = [];
  files = [];
  outputs = record { name = out; form = File; place = codes "build/a" } ∷ [];
  actions = record { kind = codes "writeText"; version = 1; args = values.Text (codes "x!") ∷ [] } ∷ [];
  needs = [];
  must_run_after = [];
  finalizers = [];
})
given_x = refl

pub given_nothing : task_of eight [] (codes ":t") ≡ Err (Plain (faults.NoValue (codes ":t") (codes "writeText")))
given_nothing = refl

-- ---- a shape

pub special : task_of (register (codes "ok") (do_last (codes "printLine") (text (codes "ok")) ∷ []) ∷ register_of (codes "odd") (called (codes "copyFiles") []) [] ∷ []) [] (codes ":odd")
    ≡ Err (Plain (faults.BadShape (codes ":odd")))
special = refl

pub ok : task_of (register (codes "ok") (do_last (codes "printLine") (text (codes "ok")) ∷ []) ∷ register_of (codes "odd") (called (codes "copyFiles") []) [] ∷ []) [] (codes ":ok") ≡ Ok (record {
  path = codes ":ok";
  runs = true;
  is_stale = false;
  values = [];
  files = [];
  outputs = [];
  actions = record { kind = codes "printLine"; version = 1; args = values.Text (codes "ok") ∷ [] } ∷ [];
  needs = [];
  must_run_after = [];
  finalizers = [];
})
ok = refl

-- ---- properties

abbrev pub a : List ℕ
a = codes "a"

abbrev pub b : List ℕ
b = codes "b"

-- .. and more statements after the first
abbrev pub nineteen : List Statement → List Statement
nineteen more =
    statements.Property a ∷ statements.Property b ∷ convention a (text (codes "x")) ∷ set b (Chain (PropertyOf a) (links_of (MapBy (call_of (codes "upper") []) ∷ []))) ∷ set a (text (codes "y"))
    ∷ register (codes "t") (do_last (codes "printLine") (property b) ∷ []) ∷ more

abbrev pub prints : List ℕ → TaskDeclaration
prints line = record {
  path = codes ":t";
  runs = true;
  is_stale = false;
  values = [];
  files = [];
  outputs = [];
  actions = record { kind = codes "printLine"; version = 1; args = values.Text line ∷ [] } ∷ [];
  needs = [];
  must_run_after = [];
  finalizers = [];
}

pub set_value : task_of (nineteen []) [] (codes ":t") ≡ Ok (prints (codes "Y"))
set_value = refl

pub unset_value : task_of (nineteen (statements.Unset a ∷ [])) [] (codes ":t") ≡ Ok (prints (codes "X"))
unset_value = refl

pub circular_value : task_of (nineteen (set a (property b) ∷ [])) [] (codes ":t") ≡ Err (Endless 1)
circular_value = refl
