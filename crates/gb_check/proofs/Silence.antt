-- Where no task has a fault, nothing is refused for one.
use Rattle.std.proofs.Common.{◌≡◌, ◌≢◌, ◌⊎◌, true, false, cond, ◌||◌, List, [], ◌∷◌, ◌++◌, Some, None, Result, Ok, Err, IfOk, map, arith, refl, ap, sym, subst, ◌∙◌, inl, inr}
use Rattle.std.specs.Prelude.{Contains, bytes_eq}
use Rattle.std.specs.List.{flat_map}
use Rattle.std.specs.FinMap.Entries.{find}
use Rattle.std.specs.Ordering.{is_eq}
use Rattle.std.specs.Cmp.Lexicographic.{bytes_decides}
use Rattle.std.specs.declared.cmp.Ordering.TheVariants.{Less, Equal, Greater}
use Rattle.std.proofs.lemmas.Grind.{flat_map-append}
use Rattle.std.proofs.lemmas.List.Concat.{flat_map-cons}
use Rattle.std.proofs.lemmas.List.Elements.{Contains-append_left, Contains-append_right}
use Rattle.gb_core.specs.Lists.{byte_order, first_of}
use Rattle.gb_core.proofs.Found.{tied_same}
use Rattle.gb_folder.specs.Files.{is_empty}
use Rattle.gb_plan.specs.Graph.{Registry, Request, declaration_at, paths_of, selected_by, words_of}
use Rattle.gb_plan.specs.Refusal.{request_of, word_faults}
use Rattle.gb_plan.specs.Task.{Path, Text, has_path}
use Rattle.gb_plan.proofs.Tests.{not_true, or_right}
use Rattle.gb_report.specs.declared.fault.Fault.{Fault}
use Rattle.gb_report.specs.declared.fault.Fault.TheVariants as faults
use Rattle.gb_check.specs.DefaultWords.{default_faults, fault_at}
use Rattle.gb_check.specs.Found.{IsFound, IsOfWords, IsSilent, faults_of, found_of, in_plan, in_tasks, task_found, tasks_found}
use Rattle.gb_check.specs.declared.findings.Finding.{Finding}
use Rattle.gb_check.specs.declared.clause_lines.ClauseMark.{ClauseMark}
use Rattle.gb_check.specs.declared.findings.Spot.{Spot}
use Rattle.gb_check.specs.declared.sites.Site.{Site}

-- ---- Findings

prefix_empty : {X : Type 0} (xs ys : List X) → xs ++ ys ≡ [] → xs ≡ []
prefix_empty [] ys e = refl
prefix_empty (x ∷ xs) ys e = absurd (cc)

back_empty : {X : Type 0} (xs ys : List X) → xs ++ ys ≡ [] → ys ≡ []
back_empty [] ys e = e
back_empty (x ∷ xs) ys e = absurd (cc)

nothing_in : {X : Type 0} (f : Path → List X) (paths : List Path) (path : Path) → flat_map f paths ≡ [] → has_path paths path ≡ true → f path ≡ []
nothing_in f [] path none is = not_true is
nothing_in {X} f (p ∷ paths) path none is =
    let both : f p ++ flat_map f paths ≡ [] = sym (flat_map-cons f p paths) ∙ none in
    elim (bytes_eq path p) as (λ b. bytes_eq path p ≡ b → (b || has_path paths path) ≡ true → f path ≡ []) [
      | true ↦ λ same _. ap f ((bytes_decides path p).0 same) ∙ prefix_empty (f p) (flat_map f paths) both
      | false ↦ λ _ there. nothing_in f paths path (back_empty (f p) (flat_map f paths) both) there
    ] refl is

-- ---- Tasks

registered : {X : Type 0} (rows : List (Path × X)) (path : Path) (x : X) → find byte_order path rows ≡ Some x → has_path (map (λ row. row.0) rows) path ≡ true
registered [] path x e = absurd (cc)
registered (row ∷ rows) path x e =
    elim (byte_order path row.0) as (λ o. byte_order path row.0 ≡ o → cond (is_eq o) (Some row.1) (find byte_order path rows) ≡ Some x → (bytes_eq path row.0 || has_path (map (λ r. r.0) rows) path) ≡ true) [
      | Less ↦ λ _ later. or_right (bytes_eq path row.0) (has_path (map (λ r. r.0) rows) path) (registered rows path x later)
      | Equal ↦ λ same _. ap (λ b. b || has_path (map (λ r. r.0) rows) path) ((bytes_decides path row.0).1 (tied_same path row.0 same))
      | Greater ↦ λ _ later. or_right (bytes_eq path row.0) (has_path (map (λ r. r.0) rows) path) (registered rows path x later)
    ] refl e

-- ---- Requests

module _ (registry : Registry) where
  abbrev IsAsked : Result Request Fault → Type 0
  IsAsked allowed = IfOk allowed (λ request. request.registry ≡ registry)

  by_first : (request : Request) → request.registry ≡ registry → (reported : List Fault)
      → IsAsked (elim (first_of reported) [ None ↦ Ok request | Some fault ↦ Err fault ])
  by_first request of_registry [] = of_registry
  by_first request of_registry (fault ∷ reported) = tt

  asked_so : (requested excluded : List Text) → IsAsked (request_of registry requested excluded)
  asked_so requested excluded = checked (words_of registry requested)
    where
      checked : (words : List Text) → IsAsked (cond (is_empty words) (Err faults.NoTasks)
          (elim (first_of (flat_map (word_faults registry) (words ++ excluded))) [
            | None ↦ Ok (record { registry = registry; words = words; excluded = flat_map (selected_by registry) excluded })
            | Some fault ↦ Err fault
          ]))
      checked [] = tt
      checked (word ∷ words) =
          by_first (record { registry = registry; words = word ∷ words; excluded = flat_map (selected_by registry) excluded }) refl (flat_map (word_faults registry) ((word ∷ words) ++ excluded))

  request_registry : (requested excluded : List Text) (request : Request) → request_of registry requested excluded ≡ Ok request → request.registry ≡ registry
  request_registry requested excluded request e = subst (λ r. IfOk r (λ (q : Request). q.registry ≡ registry)) e (asked_so requested excluded)

-- ---- Words

among : {X : Type 0} (first : X) (later : List X) → Contains (first ∷ later) first
among first later = Contains-append_left (first ∷ []) later first (0, omega arith, refl)

module _ (registry : Registry) where
  of_word : (words : List Text) (fault : Fault) → first_of (flat_map (word_faults registry) words) ≡ Some fault → (word : Text) × Contains words word × Contains (word_faults registry word) fault
  of_word [] fault e = absurd (cc)
  of_word (word ∷ words) fault e =
      elim (word_faults registry word) as (λ own. word_faults registry word ≡ own → first_of (own ++ flat_map (word_faults registry) words) ≡ Some fault → (one : Text) × Contains (word ∷ words) one × Contains (word_faults registry one) fault) [
        | [] ↦ λ _ later. let found = of_word words fault later in (found.0, Contains-append_right (word ∷ []) words found.0 found.1, found.2)
        | first ∷ more ↦ λ is one.
            let same : first ≡ fault = cc in
            (word, among word words, subst (λ reported. Contains reported fault) (sym (is ∙ ap (λ f. f ∷ more) same)) (among fault more))
      ] refl (ap first_of (sym (flat_map-cons (word_faults registry) word words)) ∙ e)

  -- what is requested by these words
  abbrev allowed : List Text → List Text → Result Request Fault
  allowed words excluded = cond (is_empty words) (Err faults.NoTasks)
      (elim (first_of (flat_map (word_faults registry) (words ++ excluded))) [
        | None ↦ Ok (record { registry = registry; words = words; excluded = flat_map (selected_by registry) excluded })
        | Some fault ↦ Err fault
      ])

  first_refused : (request : Request) (reported : List Fault) (fault : Fault) → elim (first_of reported) as (λ _. Result Request Fault) [ None ↦ Ok request | Some f ↦ Err f ] ≡ Err fault → first_of reported ≡ Some fault
  first_refused request [] fault e = absurd (cc)
  first_refused request (f ∷ reported) fault e = let same : f ≡ fault = cc in ap Some same

  abbrev fault_of : Result Request Fault → Fault
  fault_of (Ok request) = faults.NoTasks
  fault_of (Err fault) = fault

  refused_by : (words excluded : List Text) (fault : Fault) → allowed words excluded ≡ Err fault → ((words ≡ []) × (fault ≡ faults.NoTasks)) ⊎ (first_of (flat_map (word_faults registry) (words ++ excluded)) ≡ Some fault)
  refused_by [] excluded fault e = inl (refl, sym (ap fault_of e))
  refused_by (word ∷ words) excluded fault e =
      inr (first_refused (record { registry = registry; words = word ∷ words; excluded = flat_map (selected_by registry) excluded }) (flat_map (word_faults registry) ((word ∷ words) ++ excluded)) fault e)

  by_words : default_faults registry ≡ [] → (requested excluded : List Text) (fault : Fault) → request_of registry requested excluded ≡ Err fault → IsOfWords registry requested excluded fault
  by_words good [] excluded fault e = elim (refused_by registry.default_tasks excluded fault e) as (λ _. IsOfWords registry [] excluded fault) [
    | inl none ↦ inr (refl, none.0, none.1)
    | inr first ↦ inl (of_word excluded fault (sym (ap first_of (flat_map-append (word_faults registry) registry.default_tasks excluded ∙ ap (λ fs. fs ++ flat_map (word_faults registry) excluded) good)) ∙ first))
  ]
  by_words good (word ∷ words) excluded fault e = elim (refused_by (word ∷ words) excluded fault e) as (λ _. IsOfWords registry (word ∷ words) excluded fault) [
    | inl none ↦ absurd (no_word none.0)
    | inr first ↦ inl (of_word ((word ∷ words) ++ excluded) fault first)
  ]
    where
      no_word : word ∷ words ≢ []
      no_word e = cc

-- ---- Silence

module _ (sites : List Site) (marks : List ClauseMark) (registry : Registry) (none : tasks_found sites marks registry ≡ []) (good : default_faults registry ≡ []) where
  not_at_fault : (path : Path) (fault : Fault) → declaration_at registry path ≢ Some (Err fault)
  not_at_fault path fault is =
      let empty = nothing_in (task_found sites marks registry) (paths_of registry) path none (registered registry.tasks path (Err fault) is) in
      let one : map (found_of sites marks path) (fault ∷ []) ≡ [] = sym (ap (λ d. map (found_of sites marks path) (faults_of d)) is) ∙ empty in
      cc

  pub silent_of : IsSilent registry
  silent_of requested excluded fault (inl memory) = inl memory
  silent_of requested excluded fault (inr (inl words)) = inr (inl (by_words registry good requested excluded fault words))
  silent_of requested excluded fault (inr (inr (request, allowed, inl task))) =
      absurd (not_at_fault task.path fault (ap (λ r. declaration_at r task.path) (sym (request_registry registry requested excluded request allowed)) ∙ task.at_fault))
  silent_of requested excluded fault (inr (inr (request, allowed, inr (plan, schedule, bad)))) = inr (inr (plan, bad))

-- no fault of tasks and of default words
pub silence : (sites : List Site) (marks : List ClauseMark) (registry : Registry) (first rest : List Finding)
    → (spot : Spot) → first ≡ map (fault_at spot) (default_faults registry) → IsFound sites marks registry rest → first ++ rest ≡ [] → IsSilent registry
silence sites marks registry first rest spot are (in_tasks full is) empty = absurd (full (back_empty first rest empty))
silence sites marks registry first rest spot are (in_plan none is) empty = silent_of sites marks registry none (nothing_of (default_faults registry) (sym are ∙ prefix_empty first rest empty))
  where
    nothing_of : (reported : List Fault) → map (fault_at spot) reported ≡ [] → reported ≡ []
    nothing_of [] e = refl
    nothing_of (fault ∷ reported) e = absurd (cc)
