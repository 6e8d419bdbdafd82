-- Worked rows, by computation: tasks that need one another.
use Rattle.std.proofs.Common.{◌≡◌, ℕ, Bool, true, false, List, [], ◌∷◌, Ok, Err, refl}
use Rattle.std.specs.Prelude.{codes, Result}
use Rattle.gb_core.specs.declared.value.Value.TheVariants as values
use Rattle.gb_action.specs.declared.output_files.Form.TheVariants.{File, Dir}
use Rattle.gb_tree.specs.declared.property.Naming.TheVariants.{Relative}
use Rattle.gb_script.specs.Tree.{Tree, Chain, TextOf, GradlePropertyOf, FlatMapBy, links_of}
use Rattle.gb_script.specs.declared.script.Clause.TheVariants as clauses
use Rattle.gb_script.specs.declared.script.Statement.{Statement}
use Rattle.gb_report.specs.declared.fault.Fault.TheVariants as faults
use Rattle.gb_plan.specs.Task.{bare}
use Rattle.gb_plan.specs.declared.task.TaskDeclaration.{TaskDeclaration}
use Rattle.gb_registry.specs.Source.{source_of}
use Rattle.gb_declare.specs.Realised.{Trouble, Plain, realised}
use Rattle.gb_registry.proofs.Sample.{tables, text, flag, folder, made_by, call_of, in_build, called, input, input_files, output_file, output_dir, only_if, register, register_of, named, do_last}
use Rattle.gb_declare.proofs.TaskRows.{task_of, out, a, b}

abbrev pub src : List ℕ
src = codes "src"

-- ---- A task alone

abbrev pub cp : List Statement
cp = register_of (codes "cp") (called (codes "copyFiles") []) (input_files src (folder (codes "src") ∷ []) ∷ output_dir out (in_build (codes "o")) ∷ []) ∷ []

pub copies : task_of cp [] (codes ":cp") ≡ Ok (record {
  path = codes ":cp";
  runs = true;
  is_stale = false;
  values = [];
  files = record { name = src; incremental = true; skip_when_empty = true; naming = Relative; roots = codes "src" ∷ []; include = []; exclude = [] } ∷ [];
  outputs = record { name = out; form = Dir; place = codes "build/o" } ∷ [];
  actions = record { kind = codes "copyFiles"; version = 1; args = [] } ∷ [];
  needs = [];
  must_run_after = [];
  finalizers = [];
})
copies = refl

-- ---- files that another task makes

abbrev pub v : List ℕ
v = codes "v"

abbrev pub seven : List Statement
seven =
    register_of (codes "gen") (called (codes "writeText") (text (codes "abc") ∷ [])) (input v (Chain (GradlePropertyOf v) (links_of [])) ∷ output_file out (in_build (codes "a")) ∷ [])
    ∷ register_of (codes "use") (called (codes "copyFiles") []) (input_files src (made_by (codes "gen") out ∷ []) ∷ output_dir out (in_build (codes "s")) ∷ [])
    ∷ []

pub generates : task_of seven ((v, codes "1") ∷ []) (codes ":gen") ≡ Ok (record {
  path = codes ":gen";
  runs = true;
  is_stale = false;
  values = (v, values.Text (codes "1")) ∷ [];
  files = [];
  outputs = record { name = out; form = File; place = codes "build/a" } ∷ [];
  actions = record { kind = codes "writeText"; version = 1; args = values.Text (codes "abc") ∷ [] } ∷ [];
  needs = [];
  must_run_after = [];
  finalizers = [];
})
generates = refl

-- `gen` is only read: its input `v`, which has no value, is not evaluated
pub uses : task_of seven [] (codes ":use") ≡ Ok (record {
  path = codes ":use";
  runs = true;
  is_stale = false;
  values = [];
  files = record { name = src; incremental = true; skip_when_empty = true; naming = Relative; roots = codes "build/a" ∷ []; include = []; exclude = [] } ∷ [];
  outputs = record { name = out; form = Dir; place = codes "build/s" } ∷ [];
  actions = record { kind = codes "copyFiles"; version = 1; args = [] } ∷ [];
  needs = codes ":gen" ∷ [];
  must_run_after = [];
  finalizers = [];
})
uses = refl

pub asks : task_of seven [] (codes ":gen") ≡ Err (Plain (faults.NoValue (codes ":gen") v))
asks = refl

-- ---- a test

abbrev pub thirteen : List Statement
thirteen =
    register_of a (called (codes "writeText") (text (codes "A") ∷ [])) (only_if (Chain (GradlePropertyOf (codes "go")) (links_of [])) (codes "yes") ∷ output_file out (in_build (codes "x")) ∷ [])
    ∷ register_of b (called (codes "copyFiles") []) (input_files src (made_by a out ∷ []) ∷ output_dir out (in_build (codes "y")) ∷ [])
    ∷ []

abbrev pub writes_a : Bool → TaskDeclaration
writes_a runs = record {
  path = codes ":a";
  runs = runs;
  is_stale = false;
  values = [];
  files = [];
  outputs = record { name = out; form = File; place = codes "build/x" } ∷ [];
  actions = record { kind = codes "writeText"; version = 1; args = values.Text (codes "A") ∷ [] } ∷ [];
  needs = [];
  must_run_after = [];
  finalizers = [];
}

pub goes : task_of thirteen ((codes "go", codes "yes") ∷ []) (codes ":a") ≡ Ok (writes_a true)
goes = refl

pub is_skipped : task_of thirteen ((codes "go", codes "no") ∷ []) (codes ":a") ≡ Ok (writes_a false)
is_skipped = refl

-- a missing value passes no test
pub is_skipped_too : task_of thirteen [] (codes ":a") ≡ Ok (writes_a false)
is_skipped_too = refl

-- ---- two projects

abbrev pub eighteen : List ℕ → Result TaskDeclaration Trouble
eighteen path = realised tables (source_of ((codes ":lib" ∷ []) ∷ [])
    ((register (codes "gen") (clauses.DependsOn (codes ":lib:gen" ∷ []) ∷ []) ∷ [])
    ∷ (register_of (codes "gen") (called (codes "writeText") (text (codes "L") ∷ [])) (output_file out (in_build a) ∷ []) ∷ [])
    ∷ []) []) path

pub depends : eighteen (codes ":gen") ≡ Ok (record {
  path = codes ":gen";
  runs = true;
  is_stale = false;
  values = [];
  files = [];
  outputs = [];
  actions = [];
  needs = codes ":lib:gen" ∷ [];
  must_run_after = [];
  finalizers = [];
})
depends = refl

pub in_lib : eighteen (codes ":lib:gen") ≡ Ok (record {
  path = codes ":lib:gen";
  runs = true;
  is_stale = false;
  values = [];
  files = [];
  outputs = record { name = out; form = File; place = codes "lib/build/a" } ∷ [];
  actions = record { kind = codes "writeText"; version = 1; args = values.Text (codes "L") ∷ [] } ∷ [];
  needs = [];
  must_run_after = [];
  finalizers = [];
})
in_lib = refl

-- ---- Blocks

-- a later input of the name replaces an earlier one, whose absent value is not evaluated; inputs are sorted
-- by name
pub replaced : task_of
    (register (codes "t") (input v (Chain (GradlePropertyOf v) (links_of [])) ∷ input a (text (codes "1")) ∷ clauses.DependsOn (b ∷ []) ∷ [])
    ∷ register b []
    ∷ named (codes "t") (input v (text (codes "2")) ∷ clauses.DependsOn (b ∷ []) ∷ clauses.MustRunAfter (b ∷ []) ∷ clauses.FinalizedBy (codes ":b" ∷ []) ∷ [])
    ∷ []) [] (codes ":t") ≡ Ok (record {
      path = codes ":t";
      runs = true;
      is_stale = false;
      values = (a, values.Text (codes "1")) ∷ (v, values.Text (codes "2")) ∷ [];
      files = [];
      outputs = [];
      actions = [];
      needs = codes ":b" ∷ [];
      must_run_after = codes ":b" ∷ [];
      finalizers = codes ":b" ∷ [];
    })
replaced = refl

-- the last `enabled` applies
pub disabled : task_of (register (codes "t") (clauses.Enabled (text a) ∷ []) ∷ named (codes "t") (clauses.Enabled (flag false) ∷ []) ∷ []) [] (codes ":t") ≡ Ok (bare (codes ":t") false)
disabled = refl

-- but the fault of a clause that is replaced is reported
pub replaced_fault : task_of (register (codes "t") (input v (folder (codes "a//b")) ∷ input v (text a) ∷ []) ∷ []) [] (codes ":t")
    ≡ Err (Plain (faults.BadPlace (codes "a//b")))
replaced_fault = refl

-- one name in two forms is reported before the faults of the second clause
pub two_forms : task_of (register (codes "t") (input out (text a) ∷ output_file out (folder (codes "a//b")) ∷ []) ∷ []) [] (codes ":t")
    ≡ Err (Plain (faults.BadShape (codes ":t")))
two_forms = refl

pub two_forms_of_output : task_of (register (codes "t") (output_dir out (in_build a) ∷ output_file out (in_build a) ∷ do_last (codes "printLine") (text a) ∷ []) ∷ []) [] (codes ":t")
    ≡ Err (Plain (faults.BadShape (codes ":t")))
two_forms_of_output = refl

-- outputs without actions
pub no_actions : task_of (register (codes "t") (output_file out (in_build a) ∷ []) ∷ []) [] (codes ":t") ≡ Err (Plain (faults.BadShape (codes ":t")))
no_actions = refl

-- ---- Outputs that do not exist

-- flatMap(output(..)) of a text
abbrev pub made_at : List ℕ → List ℕ → Tree
made_at path name = Chain (TextOf path) (links_of (FlatMapBy (call_of (codes "output") (name ∷ [])) ∷ []))

abbrev pub reads : Tree → List Statement → List Statement
reads tree more = register (codes "t") (input v tree ∷ []) ∷ more

pub no_such_output : task_of (reads (made_by b (codes "z")) (register b [] ∷ [])) [] (codes ":t") ≡ Err (Plain (faults.UnknownOutput (codes ":b") (codes "z")))
no_such_output = refl

pub no_such_task : task_of (reads (made_at (codes ":b") out) []) [] (codes ":t") ≡ Err (Plain (faults.TaskNotFound (codes ":b")))
no_such_task = refl

pub no_such_project : task_of (reads (made_at (codes ":lib:b") out) []) [] (codes ":t") ≡ Err (Plain (faults.UnknownProject (codes ":lib:b")))
no_such_project = refl

-- a task that is read and at fault itself
pub faulty_task : task_of (reads (made_by b out) (register b (output_file out (in_build a) ∷ []) ∷ [])) [] (codes ":t") ≡ Err (Plain (faults.BadShape (codes ":b")))
faulty_task = refl

-- its other expressions are not evaluated, nor the place of the output
pub outside_too : task_of (reads (made_by b out) (register_of b (called (codes "writeText") (Chain (GradlePropertyOf v) (links_of []) ∷ [])) (output_file out (folder (codes "x")) ∷ []) ∷ [])) [] (codes ":t") ≡ Ok (record {
  path = codes ":t";
  runs = true;
  is_stale = false;
  values = (v, values.Place (codes "x")) ∷ [];
  files = [];
  outputs = [];
  actions = [];
  needs = codes ":b" ∷ [];
  must_run_after = [];
  finalizers = [];
})
outside_too = refl
