-- What arguments select, as defined by plans and by scripts.
use Rattle.std.proofs.Common.{inl, inr, ◌≡◌, ◌==◌, ℕ, Bool, true, false, not, cond, ◌||◌, ◌&&◌, List, [], ◌∷◌, ◌++◌, filter, refl, sym, ap, subst, ◌∙◌, bytes_eq, rules}
use Rattle.std.specs.Cmp.Lexicographic.{bytes_decides}
use Rattle.std.specs.Prelude.{◌⊎◌, IfErr, IfOk, OnOk, Result, Ok, Err, Some, codes, if◌then◌else◌, nat_eq}
use Rattle.std.specs.Ordering.{match_ordering}
use Rattle.std.specs.List.{list_all, list_any, slice_split, onto_first, starts_with}
use Rattle.gb_core.proofs.Found.{same_tied}
use Rattle.gb_core.specs.Lists.{first_of}
use Rattle.gb_core.specs.Name.{is_name}
use Rattle.gb_core.specs.Path.{is_task_path, project_of, task_name}
use Rattle.gb_core.specs.Tasks.{with_tasks}
use Rattle.gb_folder.specs.Files.{is_empty}
use Rattle.gb_plan.proofs.Tests.{none_left, none_right, not_true, not_false}
use Rattle.gb_plan.specs.Graph as plans
use Rattle.gb_plan.specs.Graph.{Registry}
use Rattle.gb_plan.specs.Refusal as refusal
use Rattle.gb_plan.specs.Task.{Path, Text, has_path}
use Rattle.gb_registry.specs.Faults.{ReportsFirst, first_of as first_fault}
use Rattle.gb_registry.specs.Projects.{absolute, is_among, root_path}
use Rattle.gb_registry.specs.References.{Names, reference_faults}
use Rattle.gb_registry.specs.Select.{is_path, name_word_faults, none_faults, selected, tasks_named, word_faults}
use Rattle.gb_report.specs.declared.fault.Fault.{Fault}
use Rattle.gb_report.specs.declared.fault.Fault.TheVariants as faults

-- ---- Of one path

-- a path that is alone stays alone with more copies of it
still_alone : (path : Path) (paths : List Path) → with_tasks (path ∷ []) (filter (bytes_eq path) paths) ≡ path ∷ []
still_alone path [] = refl
still_alone path (x ∷ paths) =
    elim (bytes_eq path x) as (λ b. bytes_eq path x ≡ b → with_tasks (path ∷ []) (cond b (x ∷ filter (bytes_eq path) paths) (filter (bytes_eq path) paths)) ≡ path ∷ []) [
      | true ↦ λ is.
          let tied = same_tied x path (sym ((bytes_decides path x).0 is)) in
          ap (λ o. with_tasks (match_ordering o (x ∷ path ∷ []) (path ∷ []) (path ∷ x ∷ [])) (filter (bytes_eq path) paths)) tied ∙ still_alone path paths
      | false ↦ λ _. still_alone path paths
    ] refl

-- from paths that include it, it alone is selected
pub selects_one : (path : Path) (paths : List Path) → has_path paths path ≡ true → with_tasks [] (filter (bytes_eq path) paths) ≡ path ∷ []
selects_one path [] there = not_true there
selects_one path (x ∷ paths) there =
    elim (bytes_eq path x) as (λ b. bytes_eq path x ≡ b → (b || has_path paths path) ≡ true → with_tasks [] (cond b (x ∷ filter (bytes_eq path) paths) (filter (bytes_eq path) paths)) ≡ path ∷ []) [
      | true ↦ λ is _.
          let same : path ≡ x = (bytes_decides path x).0 is in
          subst (λ p. with_tasks (p ∷ []) (filter (bytes_eq path) paths) ≡ path ∷ []) same (still_alone path paths)
      | false ↦ λ _ there. selects_one path paths there
    ] refl there

-- from paths that lack it, nothing is selected
pub selects_none : (path : Path) (paths : List Path) → has_path paths path ≡ false → filter (bytes_eq path) paths ≡ []
selects_none path [] none = refl
selects_none path (x ∷ paths) none =
    ap (λ b. cond b (x ∷ filter (bytes_eq path) paths) (filter (bytes_eq path) paths)) (none_left (bytes_eq path x) (has_path paths path) none)
    ∙ selects_none path paths (none_right (bytes_eq path x) (has_path paths path) none)

-- ---- An argument without a colon

no_colon_first : (word : Text) → list_any (λ b. b == 58) word ≡ false → starts_with nat_eq word (codes ":") ≡ false
no_colon_first [] none = refl
no_colon_first (c ∷ word) none = by (c == 58) refl
  where
    by : (b : Bool) → (c == 58) ≡ b → starts_with nat_eq (c ∷ word) (codes ":") ≡ false
    by true is = not_false (sym (ap (λ b. b || list_any (λ b. b == 58) word) is) ∙ none)
    by false is = turned c is
      where
        turned : (c : ℕ) → (c == 58) ≡ false → (nat_eq 58 c && true) ≡ false
        turned c is = search (rules, is)

one_part : (word : Text) → list_any (λ b. b == 58) word ≡ false → slice_split (λ b. b == 58) word ≡ word ∷ []
one_part [] none = refl
one_part (c ∷ word) none =
    ap (λ b. cond b ([] ∷ slice_split (λ b. b == 58) word) (onto_first c (slice_split (λ b. b == 58) word))) (none_left (c == 58) (list_any (λ b. b == 58) word) none)
    ∙ ap (onto_first c) (one_part word (none_right (c == 58) (list_any (λ b. b == 58) word) none))

and_true : (b : Bool) → (b && true) ≡ b
and_true true = refl
and_true false = refl

name_is_path : (word : Text) → list_any (λ b. b == 58) word ≡ false → is_task_path (58 ∷ word) ≡ is_name word
name_is_path word none = ap (list_all is_name) (one_part word none) ∙ and_true (is_name word)

-- ---- Any argument

-- what an argument selects from these paths, with a colon and without one
abbrev chosen : Text → List Path → Bool → List Path
chosen word paths colon = with_tasks [] (if colon then filter (bytes_eq (plans.absolute word)) paths else filter (λ path. bytes_eq (task_name path) word) paths)

-- its faults, where its path is valid and where it is not
abbrev wrong : Text → List Path → List Path → Bool → Bool → List Fault
wrong word projects paths colon good =
    if not good then faults.BadName word ∷ []
    else if colon && not (has_path projects (project_of (plans.absolute word))) then faults.UnknownProject word ∷ []
    else if is_empty (chosen word paths colon) then faults.TaskNotFound word ∷ [] else []

-- the path of an argument is selected where it is among the paths
empty_unless : (path : Path) (paths : List Path) (there : Bool) → has_path paths path ≡ there → is_empty (with_tasks [] (filter (bytes_eq path) paths)) ≡ not there
empty_unless path paths true is = ap is_empty (selects_one path paths is)
empty_unless path paths false is = ap (λ l. is_empty (with_tasks [] l)) (selects_none path paths is)

-- the faults of a path, in their order
of_path : (word : Text) (good known there empty : Bool) → empty ≡ not there
    → (if good then (if known then (if there then [] else faults.TaskNotFound word ∷ []) else faults.UnknownProject word ∷ []) else faults.BadName word ∷ [])
    ≡ (if not good then faults.BadName word ∷ [] else if true && not known then faults.UnknownProject word ∷ [] else if empty then faults.TaskNotFound word ∷ [] else [])
of_path word false known there empty is = refl
of_path word true false there empty is = refl
of_path word true true true empty is = sym (ap (λ e. if e then faults.TaskNotFound word ∷ [] else []) is)
of_path word true true false empty is = sym (ap (λ e. if e then faults.TaskNotFound word ∷ [] else []) is)

-- the faults of a name, in their order
of_name : (word : Text) (named good : Bool) (found : List Path) → named ≡ good
    → (if named then none_faults word found else faults.BadName word ∷ [])
    ≡ (if not good then faults.BadName word ∷ [] else if is_empty found then faults.TaskNotFound word ∷ [] else [])
of_name word named good found same = by good found (ap (λ b. if b then none_faults word found else faults.BadName word ∷ []) same)
  where
    by : (good : Bool) (found : List Path) → (if named then none_faults word found else faults.BadName word ∷ []) ≡ (if good then none_faults word found else faults.BadName word ∷ [])
        → (if named then none_faults word found else faults.BadName word ∷ [])
        ≡ (if not good then faults.BadName word ∷ [] else if is_empty found then faults.TaskNotFound word ∷ [] else [])
    by true [] e = e
    by true (x ∷ found) e = e
    by false found e = e

module _ (names : Names) (word : Text) where
  by_colon : (colon : Bool) → is_path word ≡ colon
      → (if colon then reference_faults names root_path word else name_word_faults names word) ≡ wrong word names.projects names.tasks colon (is_task_path (plans.absolute word))
  by_colon true is =
      let path = plans.absolute word in
      of_path word (is_task_path path) (is_among names.projects (project_of path)) (is_among names.tasks path) (is_empty (chosen word names.tasks true))
      (empty_unless path names.tasks (is_among names.tasks path) refl)
  by_colon false is =
      of_name word (is_name word) (is_task_path (plans.absolute word)) (tasks_named names word)
      (sym (ap (λ b. is_task_path (if b then word else codes ":" ++ word)) (no_colon_first word is) ∙ name_is_path word is))

  there_by : (good known there : Bool) → (if good then (if known then (if there then [] else faults.TaskNotFound word ∷ []) else faults.UnknownProject word ∷ []) else faults.BadName word ∷ []) ≡ []
      → there ≡ true
  there_by false known there none = absurd (cc)
  there_by true false there none = absurd (cc)
  there_by true true true none = refl
  there_by true true false none = absurd (cc)

  selected_by_colon : (colon : Bool) → (if colon then reference_faults names root_path word else name_word_faults names word) ≡ []
      → (if colon then absolute root_path word ∷ [] else tasks_named names word) ≡ chosen word names.tasks colon
  selected_by_colon true none =
      let path = plans.absolute word in
      sym (selects_one path names.tasks (there_by (is_task_path path) (is_among names.projects (project_of path)) (is_among names.tasks path) none))
  selected_by_colon false none = refl

  module _ (registry : Registry) (projects : registry.projects ≡ names.projects) (tasks : plans.paths_of registry ≡ names.tasks) where
    -- the faults of an argument are those that plans define
    pub same_faults : word_faults names word ≡ refusal.word_faults registry word
    same_faults =
        by_colon (is_path word) refl
        ∙ ap (λ ps. wrong word ps names.tasks (is_path word) (is_task_path (plans.absolute word))) (sym projects)
        ∙ ap (λ ts. wrong word registry.projects ts (is_path word) (is_task_path (plans.absolute word))) (sym tasks)

    -- and what it selects is what it selects in plans
    pub same_selected : word_faults names word ≡ [] → selected names word ≡ plans.selected_by registry word
    same_selected none = selected_by_colon (is_path word) none ∙ ap (λ ts. chosen word ts (is_path word)) (sym tasks)

    -- ---- The results

    pub selects : (answer : Result (List Path) Fault) → IfOk answer (λ found. found ≡ selected names word) → ReportsFirst (word_faults names word) answer
        → IfOk answer (λ found. found ≡ plans.selected_by registry word)
    selects (Ok found) is none = is ∙ same_selected none
    selects (Err fault) is first = tt

    pub without_fault : (answer : Result (List Path) Fault) → ReportsFirst (word_faults names word) answer → OnOk answer (refusal.word_faults registry word ≡ [])
    without_fault (Ok found) none = sym same_faults ∙ none
    without_fault (Err fault) first = tt

    pub first_reported : (answer : Result (List Path) Fault) → ReportsFirst (word_faults names word) answer
        → IfErr answer (λ fault. (fault ≡ faults.OutOfMemory) ⊎ (first_of (refusal.word_faults registry word) ≡ Some fault))
    first_reported (Ok found) none = tt
    first_reported (Err fault) (inl memory) = inl memory
    first_reported (Err fault) (inr first) = inr (ap first_of (sym same_faults) ∙ as_first (word_faults names word) fault first)
      where
        as_first : (all : List Fault) (fault : Fault) → first_fault all ≡ Some fault → first_of all ≡ Some fault
        as_first [] fault first = absurd (cc)
        as_first (x ∷ all) fault first = first
