-- Statements are in the scripts of projects.
use Rattle.std.proofs.Common.{◌≡◌, Bool, true, ◌&&◌, List, [], ◌∷◌, ◌++◌, refl, sym, ap, ◌∙◌}
use Rattle.std.proofs.lemmas.List.Folds.{list_all-append}
use Rattle.std.specs.List.{list_all}
use Rattle.gb_plan.proofs.Tests.{all_both, all_of_members, left_of, right_of}
use Rattle.gb_script.specs.declared.script.Statement.{Statement}
use Rattle.gb_registry.specs.Projects.{Path, is_among, project_paths}
use Rattle.gb_registry.specs.Read.{IsRead}
use Rattle.gb_registry.specs.Said.{Said, all_said, paths_of, said_by}
use Rattle.gb_registry.specs.Source.{Source}
use Rattle.gb_core.specs.Path.{is_project_path}
use Rattle.gb_project.specs.Named.{is_named, registers_named}

-- it is in the script of one of these projects
abbrev pub is_said_in : List Path → Said → Bool
is_said_in projects s = is_among projects s.project

-- The names of tasks are those that the scripts register, and scripts are those of the projects and name
-- their tasks. So the path of a task has its project and its name.
pub record AreNamed (source : Source) : Type 0 where
  pub tasks : source.names.tasks ≡ paths_of source.said
  pub in_projects : list_all (is_said_in source.names.projects) source.said ≡ true
  pub named : list_all is_named source.said ≡ true

one_script : (all : List Path) (project : Path) (script : List Statement) → is_among all project ≡ true → list_all (is_said_in all) (said_by (project, script)) ≡ true
one_script all project [] there = refl
one_script all project (statement ∷ script) there = ap (λ b. b && list_all (is_said_in all) (said_by (project, script))) there ∙ one_script all project script there

each_script : (all projects : List Path) (scripts : List (List Statement)) → list_all (is_among all) projects ≡ true → list_all (is_said_in all) (all_said projects scripts) ≡ true
each_script all [] scripts there = refl
each_script all (project ∷ projects) [] there = refl
each_script all (project ∷ projects) (script ∷ scripts) there =
    all_both (is_said_in all) (said_by (project, script)) (all_said projects scripts)
    (one_script all project script (left_of (is_among all project) (list_all (is_among all) projects) there))
    (each_script all projects scripts (right_of (is_among all project) (list_all (is_among all) projects) there))

-- what is read is in the scripts of projects
pub said_in_projects : (source : Source) (scripts : List (Path × List Statement)) → IsRead source scripts → list_all (is_said_in source.names.projects) source.said ≡ true
said_in_projects source scripts read =
    ap (λ (s : Source). list_all (is_said_in s.names.projects) s.said) read.said
    ∙ each_script (project_paths read.settings) (project_paths read.settings) read.texts
    (all_of_members (is_among (project_paths read.settings)) (project_paths read.settings) (λ p h. h))

-- a script of a project names what it registers
named_script : (project : Path) (script : List Statement) → is_project_path project ≡ true → list_all registers_named script ≡ true → list_all is_named (said_by (project, script)) ≡ true
named_script project [] path named = refl
named_script project (statement ∷ script) path named =
    ap (λ b. b && registers_named statement && list_all is_named (said_by (project, script))) path
    ∙ ap (λ b. b && list_all is_named (said_by (project, script))) (left_of (registers_named statement) (list_all registers_named script) named)
    ∙ named_script project script path (right_of (registers_named statement) (list_all registers_named script) named)

-- and so do those that follow, if all do
pub named_after : (project : Path) (script : List Statement) (others : List Said) → is_project_path project ≡ true → list_all registers_named script ≡ true
    → list_all is_named (said_by (project, script) ++ others) ≡ list_all is_named others
named_after project script others path named =
    list_all-append is_named (said_by (project, script)) others
    ∙ ap (λ b. b && list_all is_named others) (named_script project script path named)

-- what is read, with names that are names, is named
pub read_named : (source : Source) (scripts : List (Path × List Statement)) → IsRead source scripts → list_all is_named source.said ≡ true → AreNamed source
read_named source scripts read named = record {
  tasks = ap (λ (s : Source). s.names.tasks) read.said ∙ sym (ap (λ (s : Source). paths_of s.said) read.said);
  in_projects = said_in_projects source scripts read;
  named = named;
}
