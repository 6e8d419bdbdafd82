-- Worked rows, by computation: projects, the registry and arguments.
use Rattle.std.proofs.Common.{◌≡◌, ℕ, List, [], ◌∷◌, ◌++◌, None, Some, refl}
use Rattle.std.specs.Prelude.{codes}
use Rattle.gb_script.specs.declared.script.Statement.{Statement}
use Rattle.gb_script.specs.declared.script.Statement.TheVariants as statements
use Rattle.gb_script.specs.Tree.{Chain, PropertyOf, MapBy, links_of}
use Rattle.gb_report.specs.declared.fault.Fault.{Fault}
use Rattle.gb_report.specs.declared.fault.Fault.TheVariants as faults
use Rattle.gb_registry.specs.Projects.{projects_of, settings_faults}
use Rattle.gb_registry.specs.Source.{Source, source_of}
use Rattle.gb_registry.specs.Configure.{configure_faults}
use Rattle.gb_registry.specs.Select.{default_tasks, selected, word_faults}
use Rattle.gb_registry.proofs.Sample.{tables, text, property, folder, task, call_of, in_build, called, output_file, set, convention, register, register_of, named}

-- ---- `projects`

pub lib_a : projects_of ((codes "lib:a" ∷ []) ∷ []) ≡ (codes ":", None) ∷ (codes ":lib", Some (codes "lib")) ∷ (codes ":lib:a", Some (codes "lib/a")) ∷ []
lib_a = refl

pub no_fault : settings_faults ((codes "lib:a" ∷ codes ":lib" ∷ []) ∷ []) ≡ []
no_fault = refl

pub build_is_refused : settings_faults ((codes "build" ∷ []) ∷ []) ≡ faults.BadProjectPlace (codes ":build") ∷ []
build_is_refused = refl

pub parents_are_refused : settings_faults ((codes "a:build:b" ∷ []) ∷ []) ≡ faults.BadProjectPlace (codes ":a:build") ∷ []
parents_are_refused = refl

pub no_path : settings_faults ((codes "a" ∷ codes "b:" ∷ []) ∷ []) ≡ faults.BadName (codes "b:") ∷ []
no_path = refl

pub the_root_again : projects_of ((codes ":" ∷ codes "" ∷ []) ∷ []) ≡ (codes ":", None) ∷ []
the_root_again = refl

-- ---- `configure` of one script in the root

abbrev pub faults_of : List Statement → List Fault
faults_of script = configure_faults tables (source_of [] (script ∷ []) [])

abbrev pub a : List ℕ
a = codes "a"

abbrev pub b : List ℕ
b = codes "b"

pub duplicate_task : faults_of (register a [] ∷ register b [] ∷ register a [] ∷ []) ≡ faults.DuplicateTask (codes ":a") ∷ []
duplicate_task = refl

pub duplicate_property : faults_of (statements.Property a ∷ statements.Property a ∷ []) ≡ faults.DuplicateProperty a ∷ []
duplicate_property = refl

pub unknown_property : faults_of (set (codes "y") (text a) ∷ []) ≡ faults.UnknownProperty (codes "y") ∷ []
unknown_property = refl

-- in a statement a property is one declared earlier
pub declared_later : faults_of (statements.Property a ∷ set a (property b) ∷ statements.Property b ∷ []) ≡ faults.UnknownProperty b ∷ []
declared_later = refl

-- a final property that is set again: that it is final is reported before the faults of the expression
pub final_property : faults_of (statements.Property a ∷ statements.DisallowChanges a ∷ set a (Chain (PropertyOf a) (links_of (MapBy (call_of (codes "nope") []) ∷ []))) ∷ [])
    ≡ faults.Final a ∷ faults.UnknownTransform (codes "nope") ∷ []
final_property = refl

pub named_without_task : faults_of (named a [] ∷ register a [] ∷ []) ≡ faults.TaskNotFound a ∷ []
named_without_task = refl

-- tasks of statements are looked up after all other checks, and found where they are registered later
pub tasks_later : faults_of (statements.Property a ∷ set a (task (codes "no")) ∷ set a (task (codes "late")) ∷ set a (task (codes ":lib:x")) ∷ set a (task (codes "1x")) ∷ set b (text a) ∷ register (codes "late") [] ∷ [])
    ≡ faults.BadName (codes "1x") ∷ faults.UnknownProperty b ∷ faults.TaskNotFound (codes "no") ∷ faults.UnknownProject (codes ":lib:x") ∷ faults.TaskNotFound (codes "1x") ∷ []
tasks_later = refl

pub bad_place_and_count : faults_of (statements.Property a ∷ convention a (folder (codes "a//b")) ∷ set a (Chain (PropertyOf a) (links_of (MapBy (call_of (codes "child") []) ∷ []))) ∷ [])
    ≡ faults.BadPlace (codes "a//b") ∷ faults.BadArguments (codes "child") ∷ []
bad_place_and_count = refl

-- ---- `names` and `select`

abbrev pub lib_script : List Statement
lib_script = register_of (codes "gen") (called (codes "writeText") (text (codes "L") ∷ [])) (output_file (codes "out") (in_build a) ∷ []) ∷ []

abbrev pub root_script : List Statement
root_script = register (codes "gen") [] ∷ statements.DefaultTasks (a ∷ []) ∷ statements.DefaultTasks (b ∷ codes "gen" ∷ []) ∷ []

abbrev pub eighteen : Source
eighteen = source_of ((codes ":lib" ∷ []) ∷ []) (root_script ∷ lib_script ∷ []) []

pub names_of_both : eighteen.names.tasks ≡ codes ":gen" ∷ codes ":lib:gen" ∷ []
names_of_both = refl

pub both : selected eighteen.names (codes "gen") ≡ codes ":gen" ∷ codes ":lib:gen" ∷ []
both = refl

pub one : selected eighteen.names (codes "lib:gen") ≡ codes ":lib:gen" ∷ []
one = refl

pub no_faults : word_faults eighteen.names (codes "gen") ++ word_faults eighteen.names (codes "lib:gen") ≡ []
no_faults = refl

pub no_project : word_faults eighteen.names (codes ":no:gen") ≡ faults.UnknownProject (codes ":no:gen") ∷ []
no_project = refl

pub no_task : word_faults eighteen.names (codes "no") ≡ faults.TaskNotFound (codes "no") ∷ []
no_task = refl

pub no_word : word_faults eighteen.names (codes "1a") ++ word_faults eighteen.names (codes "") ++ word_faults eighteen.names (codes ":") ≡ faults.BadName (codes "1a") ∷ faults.BadName (codes "") ∷ faults.BadName (codes ":") ∷ []
no_word = refl

-- the last `defaultTasks` of the root applies
pub defaults : default_tasks (source_of ((codes "lib" ∷ []) ∷ []) (root_script ∷ (statements.DefaultTasks (a ∷ []) ∷ []) ∷ []) []).said ≡ b ∷ codes "gen" ∷ []
defaults = refl
