-- What is known about registered tasks by their numbers.
use Rattle.std.specs.Prelude.{ℕ, ◌≡◌, ◌<◌, Bool, true, false, cond, List, [], ◌∷◌, map, length, get_or, nat_lt, Option, Some, None, Result, Ok, Err, IfOk, bytes_eq, filter_map, find, option_map, position, slice_get, refl}
use Rattle.std.specs.List.{cons_option, position_or_len}
use Rattle.std.proofs.Common.{sym, ap, subst, ◌∙◌, inl, inr, arith}
use Rattle.std.proofs.lemmas.Bool.{lt-ltb, ltb-true}
use Rattle.std.proofs.lemmas.List.Folds.{find_at}
use Rattle.std.proofs.lemmas.Option.{slice_get-map, slice_get_cases, slice_get_read, slice_get_within}
use Rattle.gb_provider.specs.declared.fault.Chosen.{Chosen}
use Rattle.gb_registry.specs.Faults.{first_of}
use Rattle.gb_registry.proofs.Among.{position-map}
use Rattle.gb_registry.specs.Projects.{Path, root_path}
use Rattle.gb_registry.specs.References.{Names, lookup_faults}
use Rattle.gb_registry.specs.Said.{Registered, Said, paths_of, registered_by, registered_path, task_at, tasks_of}
use Rattle.gb_registry.specs.Source.{Source}
use Rattle.gb_registry.specs.Tables.{Tables}
use Rattle.gb_report.specs.declared.fault.Fault.{Fault}
use Rattle.gb_report.specs.declared.fault.Fault.TheVariants as faults
use Rattle.gb_script.specs.declared.script.Statement.{Statement}
use Rattle.gb_script.specs.declared.script.Statement.TheVariants as statements
use Rattle.gb_plan.proofs.Tests.{not_true, turned}
use Rattle.gb_declare.specs.Declaring.{declared}
use Rattle.gb_declare.specs.Joined.{Joined}
use Rattle.gb_declare.specs.Realised.{first_or, no_output, unknown_output}
use Rattle.gb_project.specs.Over.{AreKnown, IsFault, fault_in}

-- ---- Results

pub first_reported : (other : Fault) (fs : List Fault) (fault : Fault) → first_of fs ≡ Some fault → fault ≡ first_or other fs
first_reported other [] fault is = cc
first_reported other (f ∷ fs) fault is = cc

module _ {E : Type 0} (Given : Source → Type 0) (expected : Source → Fault) (known : Fault) (same : (source : Source) → Given source → known ≡ expected source) where
  pub answered : (r : Result Fault E) → IfOk r (IsFault known) → IfOk r (λ fault. (source : Source) → Given source → IsFault (expected source) fault)
  answered (Ok fault) reported = λ source given. subst (λ k. IsFault k fault) (same source given) reported
  answered (Err e) reported = tt

  pub answered_same : (r : Result Fault E) → IfOk r (λ fault. fault ≡ known) → IfOk r (λ fault. (source : Source) → Given source → IsFault (expected source) fault)
  answered_same (Ok fault) reported = λ source given. inr (reported ∙ same source given)
  answered_same (Err e) reported = tt

-- ---- Lists

mapped_as : {X Y Z : Type 0} (f : X → Option Y) (g : X → Option Z) (h : Y → Z) → ((x : X) → g x ≡ option_map h (f x)) → (xs : List X) → filter_map g xs ≡ map h (filter_map f xs)
mapped_as f g h same [] = refl
mapped_as f g h same (x ∷ xs) =
    ap (λ o. cons_option o (filter_map g xs)) (same x)
    ∙ elim (f x) as (λ o. cons_option (option_map h o) (filter_map g xs) ≡ map h (cons_option o (filter_map f xs))) [
      | None ↦ mapped_as f g h same xs
      | Some y ↦ ap (λ l. h y ∷ l) (mapped_as f g h same xs)
    ]

found_as : {X : Type 0} (p q : X → Bool) → ((x : X) → p x ≡ q x) → (xs : List X) → find p xs ≡ find q xs
found_as p q same [] = refl
found_as p q same (x ∷ xs) = (λ i. cond (same x i) (Some x) (found_as p q same xs i))

pub find_passes : {X : Type 0} (p : X → Bool) (xs : List X) (x : X) → find p xs ≡ Some x → p x ≡ true
find_passes p [] x e = cc
find_passes p (y ∷ ys) x e = elim (p y) as (λ b. p y ≡ b → cond b (Some y) (find p ys) ≡ Some x → p x ≡ true) [
  | true ↦ λ passes here. let same : y ≡ x = cc in sym (ap p same) ∙ passes
  | false ↦ λ _ later. find_passes p ys x later
] refl e

module _ {X : Type 0} (p : X → Bool) (xs : List X) where
  none_found : (within : Bool) → nat_lt (position_or_len p xs) (length xs) ≡ within → cond within (Some (position_or_len p xs)) None ≡ None → find p xs ≡ None
  none_found true is h = absurd (let no_way : ⊥ = cc in no_way)
  none_found false is h = elim (slice_get_cases xs (position_or_len p xs)).1 [
    | inl here ↦ not_true (sym is ∙ lt-ltb (position_or_len p xs) (length xs) here.1)
    | inr past ↦ find_at p xs ∙ past.1
  ]

  one_found : (k : ℕ) (within : Bool) → nat_lt (position_or_len p xs) (length xs) ≡ within → cond within (Some (position_or_len p xs)) None ≡ Some k → (x : X) × (find p xs ≡ Some x) × (slice_get xs k ≡ Some x)
  one_found k true is h =
      let same : position_or_len p xs ≡ k = cc in
      elim (slice_get_cases xs (position_or_len p xs)).1 [
        | inl here ↦ (here.0, find_at p xs ∙ here.2, sym (ap (slice_get xs) same) ∙ here.2)
        | inr past ↦
            let less = ltb-true (position_or_len p xs) (length xs) is in
            let le = past.0 in
            absurd (omega (arith, less, le))
      ]
  one_found k false is h = absurd (let no_way : ⊥ = cc in no_way)

  pub placed_at : (k : ℕ) → position p xs ≡ Some k → (x : X) × (find p xs ≡ Some x) × (slice_get xs k ≡ Some x)
  placed_at k h = one_found k (nat_lt (position_or_len p xs) (length xs)) refl h

-- ---- Paths of registered tasks

path_same : (said : List Said) (project : Path) (statement : Statement) → registered_path (record { project = project; statement = statement }) ≡ option_map (λ (t : Registered). t.path) (registered_by said (record { project = project; statement = statement }))
path_same said project (statements.DefaultTasks texts) = refl
path_same said project (statements.Property name) = refl
path_same said project (statements.Set a) = refl
path_same said project (statements.Convention a) = refl
path_same said project (statements.Unset name) = refl
path_same said project (statements.DisallowChanges name) = refl
path_same said project (statements.Register r) = refl
path_same said project (statements.Named c) = refl

pub paths_are : (said : List Said) → paths_of said ≡ map (λ (t : Registered). t.path) (tasks_of said)
paths_are said = mapped_as (registered_by said) registered_path (λ (t : Registered). t.path) (λ s. path_same said s.project s.statement) said

-- ---- Their faults

module _ {M F Z S A : Type 0} (tables : Tables M F Z S A) (source : Source) (names : Names) (known_faults : List (Option Fault)) (known : AreKnown tables source names known_faults) (chosen : Chosen) where
  abbrev is_it : Registered → Bool
  is_it task = bytes_eq chosen.task task.path

  abbrev fault_of : Registered → Option Fault
  fault_of task = fault_in (declared tables source.names source.said task)

  found_it : find is_it (tasks_of source.said) ≡ task_at source.said chosen.task
  found_it = found_as is_it (λ (t : Registered). bytes_eq t.path chosen.task) (λ t. turned chosen.task t.path) (tasks_of source.said)

  placed : position (bytes_eq chosen.task) names.tasks ≡ position is_it (tasks_of source.said)
  placed =
      ap (position (bytes_eq chosen.task)) (ap (λ (n : Names). n.tasks) known.names ∙ (known.tasks ∙ paths_are source.said))
      ∙ position-map (λ (t : Registered). t.path) (bytes_eq chosen.task) (tasks_of source.said)

  pub not_there : position (bytes_eq chosen.task) names.tasks ≡ None → task_at source.said chosen.task ≡ None
  not_there h = sym found_it ∙ none_found is_it (tasks_of source.said) (nat_lt (position_or_len is_it (tasks_of source.said)) (length (tasks_of source.said))) refl (sym placed ∙ h)

  pub not_found : position (bytes_eq chosen.task) names.tasks ≡ None → first_or (faults.TaskNotFound chosen.task) (lookup_faults names root_path chosen.task) ≡ no_output tables source chosen (task_at source.said chosen.task)
  not_found h =
      ap (λ (n : Names). first_or (faults.TaskNotFound chosen.task) (lookup_faults n root_path chosen.task)) known.names
      ∙ sym (ap (no_output tables source chosen) (not_there h))

  module _ (k : ℕ) (is : position (bytes_eq chosen.task) names.tasks ≡ Some k) where
    there : (t : Registered) × (find is_it (tasks_of source.said) ≡ Some t) × (slice_get (tasks_of source.said) k ≡ Some t)
    there = one_found is_it (tasks_of source.said) k (nat_lt (position_or_len is_it (tasks_of source.said)) (length (tasks_of source.said))) refl (sym placed ∙ is)

    task : task_at source.said chosen.task ≡ Some there.0
    task = sym found_it ∙ there.1

    fault_there : slice_get known_faults k ≡ Some (fault_of there.0)
    fault_there = ap (λ fs. slice_get fs k) known.faults ∙ (slice_get-map fault_of (tasks_of source.said) k ∙ ap (option_map fault_of) there.2)

    by_fault : (of : Result Joined Fault) (reported : Option Fault) → Some reported ≡ Some (fault_in of) → (fault : Fault) → reported ≡ Some fault → fault ≡ unknown_output tables source chosen of
    by_fault (Ok joined) reported same fault is = absurd (let no_way : ⊥ = cc in no_way)
    by_fault (Err other) reported same fault is = let e : fault ≡ other = cc in e

    by_none : (of : Result Joined Fault) (reported : Option Fault) → Some reported ≡ Some (fault_in of) → reported ≡ None → faults.UnknownOutput chosen.task chosen.output ≡ unknown_output tables source chosen of
    by_none (Ok joined) reported same is = refl
    by_none (Err other) reported same is = absurd (let no_way : ⊥ = cc in no_way)

    abbrev expected : Fault
    expected = no_output tables source chosen (task_at source.said chosen.task)

    reported_of : unknown_output tables source chosen (declared tables source.names source.said there.0) ≡ expected
    reported_of = sym (ap (no_output tables source chosen) task)

    pub its_fault : (reported : Option Fault) → slice_get known_faults k ≡ Some reported → (fault : Fault) → reported ≡ Some fault → fault ≡ expected
    its_fault reported e fault is = by_fault (declared tables source.names source.said there.0) reported (sym e ∙ fault_there) fault is ∙ reported_of

    pub no_such : (reported : Option Fault) → slice_get known_faults k ≡ Some reported → reported ≡ None → faults.UnknownOutput chosen.task chosen.output ≡ expected
    no_such reported e is = by_none (declared tables source.names source.said there.0) reported (sym e ∙ fault_there) is ∙ reported_of

    pub never : false ≡ nat_lt k (length known_faults) → ⊥
    never e = not_true (e ∙ lt-ltb k (length known_faults) (slice_get_within known_faults k (fault_of there.0) fault_there))

    pub at_place : (reported : Option Fault) → k < length known_faults → reported ≡ get_or known_faults k reported → slice_get known_faults k ≡ Some reported
    at_place reported within is = slice_get_read known_faults (length known_faults) k reported refl within is
