-- The tasks of a script, one statement after another.
use Rattle.std.proofs.Common.{◌≡◌, ℕ, zero, suc, ◌+◌, ◌<◌, List, [], ◌∷◌, ◌++◌, length, drop, get_or, refl, sym, ap, subst, ◌∙◌, arith, Option, Some, None, Result, Ok, Err}
use Rattle.std.specs.List.{AllByRecursion, flat_map}
use Rattle.std.specs.Prelude.{filter_map, fold}
use Rattle.std.specs.Result.{OnOk}
use Rattle.gb_core.specs.Path.{task_in}
use Rattle.gb_registry.proofs.Firsts.{left_from}
use Rattle.gb_registry.specs.Projects.{Path, with_paths}
use Rattle.gb_registry.specs.References.{Names}
use Rattle.gb_registry.specs.Said.{Registered, added_clauses, declared_property}
use Rattle.gb_registry.specs.Tables.{Tables}
use Rattle.gb_report.specs.declared.fault.Fault.{Fault}
use Rattle.gb_script.specs.declared.script.Registration.{Registration}
use Rattle.gb_script.specs.declared.script.Statement.{Statement}
use Rattle.gb_script.specs.declared.script.Statement.TheVariants.{Register}
use Rattle.gb_declare.specs.Declaring.{scope_in}
use Rattle.gb_declare.specs.Joined.{Joined}
use Rattle.gb_declare.specs.Site.{Site}
use Rattle.gb_project.proofs.TaskLemmas.{length_last}
use Rattle.gb_project.specs.Stage.{IsGood, Stage, declared_in, with_declared, with_task}
use Rattle.gb_project.specs.Steps.{Begins, declared_within, task_paths, with_any}
use Rattle.gb_project.specs.Tasks.{registered_in}

-- ---- Registered tasks

-- what holds where a call succeeds
pub on_ok : {T E : Type 0} (answer : Result T E) (before after : Type 0) → (before → after) → OnOk answer before → OnOk answer after
on_ok (Ok x) before after then is = then is
on_ok (Err e) before after then is = tt

-- the task that a registration registers
abbrev pub task_with : Path → List Statement → Registration → Registered
task_with project script r = record { project = project; path = task_in project r.name; action = r.action; clauses = r.block ++ flat_map (added_clauses r.name) script }

pub same_task : (task : Registered) (project project' : Path) (script : List Statement) (r : Registration) → project' ≡ project → Some task ≡ registered_in project' script (Register r) → task ≡ task_with project script r
same_task task project project' script r same is = let one : task ≡ task_with project' script r = cc in one ∙ ap (λ p. task_with p script r) same

-- ---- Paths

-- the rest after the first of the paths from a number on
drop_next : (paths : List Path) (n : ℕ) (path : Path) (rest : List Path) → drop n paths ≡ path ∷ rest → drop (suc n) paths ≡ rest
drop_next [] zero path rest is = absurd (cc)
drop_next [] (suc n) path rest is = absurd (cc)
drop_next (first ∷ paths) zero path rest is = cc
drop_next (first ∷ paths) (suc n) path rest is = drop_next paths n path rest is

pub begins_on : (paths : List Path) (n : ℕ) (path : Path) (prefix : List Path) → Begins (path ∷ prefix) (drop n paths) → Begins prefix (drop (n + 1) paths)
begins_on paths n path prefix begins =
    let one : n + 1 ≡ suc n = omega arith in
    (begins.0, ap (λ k. drop k paths) one ∙ drop_next paths n path (prefix ++ begins.0) begins.1)

-- ---- Tasks from statements

module _ {X Y : Type 0} (pick : X → Option Y) where
  abbrev pub picked : Option Y → List Y → List Y
  picked None ys = ys
  picked (Some y) ys = y ∷ ys

  filter_first : (x : X) (xs : List X) → filter_map pick (x ∷ xs) ≡ picked (pick x) (filter_map pick xs)
  filter_first x xs =
      elim (pick x) as (λ o. pick x ≡ o → filter_map pick (x ∷ xs) ≡ picked o (filter_map pick xs)) [
        | None ↦ λ e. rw e refl
        | Some y ↦ λ e. rw e refl
      ] refl

  pub filter_from : (xs : List X) (i : ℕ) (x : X) → i < length xs → x ≡ get_or xs i x → filter_map pick (drop i xs) ≡ picked (pick x) (filter_map pick (drop (i + 1) xs))
  filter_from xs i x below is = ap (filter_map pick) (left_from xs i x below is) ∙ filter_first x (drop (i + 1) xs)

module _ {M F Z S A : Type 0} (tables : Tables M F Z S A) (names : Names) where
  -- what a task declares, by its own project and the properties of its script
  pub same_declared : (script : List Statement) (project : Path) (properties : List (List ℕ)) (task other : Registered) → task ≡ other → project ≡ other.project → properties ≡ with_paths [] (filter_map declared_property script)
      → declared_within tables (scope_in project properties (Some names)) task ≡ declared_in tables names script other
  same_declared script project properties task other same of known =
      ap (declared_within tables (scope_in project properties (Some names))) same
      ∙ ap (λ p. declared_within tables (scope_in p properties (Some names)) other) of
      ∙ ap (λ ps. declared_within tables (scope_in other.project ps (Some names)) other) known

  -- one task more
  count_declared : (site : Site) (path : Path) (stage : Stage M F Z) (outcome : Result Joined Fault) → length (with_declared tables.functions site path stage outcome).faults ≡ length stage.faults + 1
  count_declared site path stage (Ok task) = length_last stage.faults None
  count_declared site path stage (Err fault) = length_last stage.faults (Some fault)

  abbrev pub count_any : Option Registered → ℕ
  count_any None = 0
  count_any (Some task) = 1

  module _ (site : Site) (script : List Statement) where
    pub count_staged : (stage : Stage M F Z) (any : Option Registered) → length (with_any tables names site script stage any).faults ≡ length stage.faults + count_any any
    count_staged stage None = omega arith
    count_staged stage (Some task) = count_declared site task.path stage (declared_in tables names script task)

    pub count_folded : (stage : Stage M F Z) (tasks : List Registered) → length (fold (with_task tables names site script) stage tasks).faults ≡ length stage.faults + length tasks
    count_folded stage [] = omega arith
    count_folded stage (task ∷ tasks) =
        omega (arith, count_folded (with_task tables names site script stage task) tasks, count_declared site task.path stage (declared_in tables names script task))

    folded_picked : (pick : Statement → Option Registered) (stage : Stage M F Z) (any : Option Registered) (tasks : List Registered)
        → fold (with_task tables names site script) stage (picked pick any tasks) ≡ fold (with_task tables names site script) (with_any tables names site script stage any) tasks
    folded_picked pick stage None tasks = refl
    folded_picked pick stage (Some task) tasks = refl

    module _ (pick : Statement → Option Registered) (ss : List Statement) (i : ℕ) (s : Statement) (below : i < length ss) (is : s ≡ get_or ss i s) where
      -- one statement more
      pub staged_on : (whole stage stage' : Stage M F Z) → stage' ≡ with_any tables names site script stage (pick s) → whole ≡ fold (with_task tables names site script) stage (filter_map pick (drop i ss))
          → whole ≡ fold (with_task tables names site script) stage' (filter_map pick (drop (i + 1) ss))
      staged_on whole stage stage' more before =
          before ∙ ap (fold (with_task tables names site script) stage) (filter_from pick ss i s below is)
          ∙ folded_picked pick stage (pick s) (filter_map pick (drop (i + 1) ss))
          ∙ sym (ap (λ t. fold (with_task tables names site script) t (filter_map pick (drop (i + 1) ss))) more)

      abbrev AreGoodTasks : List Registered → Type 0
      AreGoodTasks tasks = AllByRecursion (λ task. IsGood tables names site (declared_in tables names script task)) tasks

      good_later : (any : Option Registered) (tasks : List Registered) → AreGoodTasks (picked pick any tasks) → AreGoodTasks tasks
      good_later None tasks all = all
      good_later (Some task) tasks all = all.1

      pub good_on : AreGoodTasks (filter_map pick (drop i ss)) → AreGoodTasks (filter_map pick (drop (i + 1) ss))
      good_on all = good_later (pick s) (filter_map pick (drop (i + 1) ss)) (subst AreGoodTasks (filter_from pick ss i s below is) all)

      next_later : (paths : List Path) (n m : ℕ) (any : Option Registered) (tasks : List Registered) → m ≡ n + count_any any → Begins (task_paths (picked pick any tasks)) (drop n paths) → Begins (task_paths tasks) (drop m paths)
      next_later paths n m None tasks more begins = let same : n ≡ m = omega (arith, more) in subst (λ k. Begins (task_paths tasks) (drop k paths)) same begins
      next_later paths n m (Some task) tasks more begins = subst (λ k. Begins (task_paths tasks) (drop k paths)) (sym more) (begins_on paths n task.path (task_paths tasks) begins)

      pub next_on : (paths : List Path) (stage stage' : Stage M F Z) → stage' ≡ with_any tables names site script stage (pick s)
          → Begins (task_paths (filter_map pick (drop i ss))) (drop (length stage.faults) paths) → Begins (task_paths (filter_map pick (drop (i + 1) ss))) (drop (length stage'.faults) paths)
      next_on paths stage stage' more begins =
          next_later paths (length stage.faults) (length stage'.faults) (pick s) (filter_map pick (drop (i + 1) ss)) (ap (λ (t : Stage M F Z). length t.faults) more ∙ count_staged stage (pick s))
          (subst (λ tasks. Begins (task_paths tasks) (drop (length stage.faults) paths)) (filter_from pick ss i s below is) begins)
