-- Where the executions of a plan change files: at records of its tasks, and in build folders.
use Rattle.std.specs.Prelude.{ℕ, ◌≡◌, ◌++◌, ◌&&◌, ◌||◌, Bool, true, false, not, cond, List, [], ◌∷◌, bytes_eq, nat_eq, map}
use Rattle.std.specs.List.{AllByRecursion, list_all, list_any, starts_with}
use Rattle.std.specs.Cmp.Lexicographic.{bytes_decides}
use Rattle.std.proofs.Common.{refl, sym, ap, ◌∙◌, inl, inr}
use Rattle.gb_core.specs.Path.{project_of}
use Rattle.gb_core.specs.Place.{is_beneath, is_under}
use Rattle.gb_folder.specs.Files.{Contents, DiffersOnlyAt, Files, Place, files_where, is_own}
use Rattle.gb_history.specs.Places.{record_place}
use Rattle.gb_semantics.specs.Events.{own_files}
use Rattle.gb_semantics.specs.Headline.{is_of_build}
use Rattle.gb_semantics.proofs.Lemmas.Clear.{either}
use Rattle.gb_plan.specs.Graph.{IsDeclared, Registry, build_folder}
use Rattle.gb_plan.specs.Task.{Path, has_path, is_output_of}
use Rattle.gb_plan.specs.declared.plan.Planned.{Planned}
use Rattle.gb_plan.specs.declared.task.Output.{Output}
use Rattle.gb_plan.specs.declared.task.TaskDeclaration.{TaskDeclaration as Task}
use Rattle.gb_plan.proofs.Tests.{left_of, neither, no_longer, none_left, none_right, not_false, not_true, or_right, right_of}
use Rattle.gb_records.proofs.Reported.{texts_are_records}
use Rattle.gb_folder.specs.Changes.{ChangesOnly, is_at}
use Rattle.gb_tree.proofs.Under.{IsUnder, under_parts}
use Rattle.gb_task.specs.Executing.{is_of_execution}
use Rattle.gb_task.proofs.Own.{kept_at}
use Rattle.gb_task.proofs.Parts.{widened}
use Rattle.gb_exec.specs.Building.{is_of_executions}

-- ---- Records

-- no output of the tasks is the tool's own
abbrev pub HaveOwnPlaces : List Planned → Type 0
HaveOwnPlaces plan = AllByRecursion (λ planned. list_any (λ output. is_own output.place) planned.task.outputs ≡ false) plan

-- the place is that of a record of these tasks
abbrev pub is_record_of : List Planned → Place → Bool
is_record_of plan place = list_any (λ planned. bytes_eq place (record_place planned.task.path)) plan

-- no execution of these tasks changes the tool's own files, except their records
none_of_executions : (plan : List Planned) → HaveOwnPlaces plan → (q : Place) → is_own q ≡ true → is_record_of plan q ≡ false → is_of_executions plan q ≡ false
none_of_executions [] places q own none = refl
none_of_executions (planned ∷ plan) places q own none =
    neither (is_of_execution planned.task q) (is_of_executions plan q)
    (neither (is_output_of planned.task q) (is_at (record_place planned.task.path) q) (by (is_output_of planned.task q) refl)
    (none_left (bytes_eq q (record_place planned.task.path)) (is_record_of plan q) none))
    (none_of_executions plan places.1 q own (none_right (bytes_eq q (record_place planned.task.path)) (is_record_of plan q) none))
  where
    by : (b : Bool) → is_output_of planned.task q ≡ b → b ≡ false
    by true at = not_false (sym own ∙ no_longer (is_own q) (kept_at planned.task.outputs places.0 q at))
    by false at = refl

one_then_other : (one other : Place → Bool) (files : Files) → files_where one (files_where other files) ≡ files_where (λ q. not (not (other q) || not (one q))) files
one_then_other one other [] = refl
one_then_other one other (f ∷ files) =
    let rest = one_then_other one other files in
    elim (other f.0) as (λ b. files_where one (cond b (f ∷ files_where other files) (files_where other files))
    ≡ cond (not (not b || not (one f.0))) (f ∷ files_where (λ q. not (not (other q) || not (one q))) files) (files_where (λ q. not (not (other q) || not (one q))) files)) [
      | true ↦ elim (one f.0) as (λ b. cond b (f ∷ files_where one (files_where other files)) (files_where one (files_where other files))
          ≡ cond (not (not b)) (f ∷ files_where (λ q. not (not (other q) || not (one q))) files) (files_where (λ q. not (not (other q) || not (one q))) files)) [
            | true ↦ ap (λ (xs : Files). f ∷ xs) rest
            | false ↦ rest
          ]
      | false ↦ rest
    ]

-- the place is none of the tool's own, or that of a record of these tasks
abbrev is_outside_or_record : List Planned → Place → Bool
is_outside_or_record plan place = not (is_own place) || not (not (is_record_of plan place))

-- in the tool's own files, executions change only records of their tasks
pub records_differ : (plan : List Planned) → HaveOwnPlaces plan → (old new : Contents) → ChangesOnly (is_of_executions plan) old new
    → DiffersOnlyAt (is_record_of plan) (own_files old) (own_files new)
records_differ plan places old new changes =
    one_then_other (λ q. not (is_record_of plan q)) is_own new.files
    ∙ (widened (is_of_executions plan) (is_outside_or_record plan) within old new changes).elsewhere
    ∙ sym (one_then_other (λ q. not (is_record_of plan q)) is_own old.files)
  where
    within : (q : Place) → is_of_executions plan q ≡ true → is_outside_or_record plan q ≡ true
    within q at = by (is_own q) refl (is_record_of plan q) refl
      where
        by : (own : Bool) → is_own q ≡ own → (record_there : Bool) → is_record_of plan q ≡ record_there → (not own || not (not record_there)) ≡ true
        by false _ record_there _ = refl
        by true own true _ = refl
        by true own false none = not_false (sym at ∙ none_of_executions plan places q own none)

-- ---- Build folders

starts_longer : (xs more needle : List ℕ) → starts_with nat_eq xs needle ≡ true → starts_with nat_eq (xs ++ more) needle ≡ true
starts_longer [] [] [] h = refl
starts_longer [] (y ∷ more) [] h = refl
starts_longer (x ∷ xs) more [] h = refl
starts_longer [] more (d ∷ needle) h = not_true h
starts_longer (x ∷ xs) more (d ∷ needle) h =
    ap (λ b. b && starts_with nat_eq (xs ++ more) needle) (left_of (nat_eq d x) (starts_with nat_eq xs needle) h)
    ∙ starts_longer xs more needle (right_of (nat_eq d x) (starts_with nat_eq xs needle) h)

under_beneath : (q root top : Place) → is_under q root ≡ true → is_beneath root top ≡ true → is_under q top ≡ true
under_beneath q root top under beneath = or_right (bytes_eq q top) (is_beneath q top) (by (under_parts q root under))
  where
    by : IsUnder q root → is_beneath q top ≡ true
    by (inl same) = ap (λ (p : Place). is_beneath p top) same ∙ beneath
    by (inr found) = ap (λ (p : Place). is_beneath p top) found.1 ∙ starts_longer root (47 ∷ found.0) (top ++ 47 ∷ []) beneath

module _ (registry : Registry) where
  in_folder : (folder q : Place) (outputs : List Output) → list_all (λ place. is_beneath place folder) (map (λ (output : Output). output.place) outputs) ≡ true
      → list_any (λ (output : Output). is_under q output.place) outputs ≡ true → is_under q folder ≡ true
  in_folder folder q [] all at = not_true at
  in_folder folder q (output ∷ outputs) all at =
      let others : List Place = map (λ (other : Output). other.place) outputs in
      elim (either (is_under q output.place) (list_any (λ (other : Output). is_under q other.place) outputs) at) [
        | inl under ↦ under_beneath q output.place folder under (left_of (is_beneath output.place folder) (list_all (λ place. is_beneath place folder) others) all)
        | inr later ↦ in_folder folder q outputs (right_of (is_beneath output.place folder) (list_all (λ place. is_beneath place folder) others) all) later
      ]

  of_project : (projects : List Path) (project : Path) (q : Place) → has_path projects project ≡ true → is_under q (build_folder project) ≡ true
      → list_any (λ other. is_under q (build_folder other)) projects ≡ true
  of_project [] project q has under = not_true has
  of_project (first ∷ projects) project q has under =
      let others : Bool = list_any (λ other. is_under q (build_folder other)) projects in
      elim (either (bytes_eq project first) (has_path projects project) has) [
        | inl same ↦ ap (λ b. b || others) (ap (λ (p : Path). is_under q (build_folder p)) (sym ((bytes_decides project first).0 same)) ∙ under)
        | inr later ↦ or_right (is_under q (build_folder first)) others (of_project projects project q later under)
      ]

  execution_in_build : (task : Task) → IsDeclared registry task.path task → (q : Place) → is_of_execution task q ≡ true → is_of_build registry.projects q ≡ true
  execution_in_build task declared q at = elim (either (is_output_of task q) (is_at (record_place task.path) q) at) [
    | inl output ↦
        or_right (is_own q) (list_any (λ project. is_under q (build_folder project)) registry.projects)
        (of_project registry.projects (project_of task.path) q declared.in_project (in_folder (build_folder (project_of task.path)) q task.outputs declared.in_build_folder output))
    | inr recorded ↦
        ap (λ b. b || list_any (λ project. is_under q (build_folder project)) registry.projects)
        (ap is_own ((bytes_decides q (record_place task.path)).0 recorded) ∙ texts_are_records.own task.path)
  ]

  -- the executions of declared tasks change files only in `.gb` and in build folders
  pub executions_in_build : (plan : List Planned) → AllByRecursion (λ (planned : Planned). IsDeclared registry planned.task.path planned.task) plan
      → (q : Place) → is_of_executions plan q ≡ true → is_of_build registry.projects q ≡ true
  executions_in_build [] declared q at = not_true at
  executions_in_build (planned ∷ plan) declared q at = elim (either (is_of_execution planned.task q) (is_of_executions plan q) at) [
    | inl here ↦ execution_in_build planned.task declared.0 q here
    | inr later ↦ executions_in_build plan declared.1 q later
  ]

  pub elsewhere : (plan : List Planned) → AllByRecursion (λ (planned : Planned). IsDeclared registry planned.task.path planned.task) plan
      → (old new : Contents) → ChangesOnly (is_of_executions plan) old new → ChangesOnly (is_of_build registry.projects) old new
  elsewhere plan declared old new changes = widened (is_of_executions plan) (is_of_build registry.projects) (executions_in_build plan declared) old new changes
