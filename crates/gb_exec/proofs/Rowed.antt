-- Rows made from a plan have its needs and finalizers; and what a task needs comes before it.
use Rattle.std.specs.Prelude.{ℕ, zero, suc, ◌≡◌, ◌<◌, ◌⊎◌, ◌↔◌, Bool, true, false, cond, ◌||◌, List, [], ◌∷◌, ◌++◌, map, length, get_or, take, bytes_eq, refl, Contains, Some, slice_get, option_map}
use Rattle.std.proofs.Common.{sym, ap, subst, ◌∙◌, inl, inr, arith, append-nil}
use Rattle.std.proofs.lemmas.Option.{slice_get_within, slice_get-map, get_or_from_slice_get}
use Rattle.std.proofs.lemmas.List.{length-map, append_assoc, get_or-take, length-take, take-map}
use Rattle.gb_folder.specs.Files.{is_empty}
use Rattle.gb_plan.specs.declared.plan.Planned.{Planned}
use Rattle.gb_plan.specs.Task.{Path, has_path}
use Rattle.gb_plan.specs.Graph.{after, finalized_by, orders_in, is_ready, is_scheduled_in, needs_in, no_repeats, order, stuck}
use Rattle.gb_semantics.proofs.Common.{none_some, some_same}
use Rattle.gb_plan.proofs.Tests.{not_false, any_append, at_member, into_filter}
use Rattle.gb_graph.specs.Ranked.{Numbers, GiveNumbers, number_at, numbers_in}
use Rattle.gb_graph.proofs.Edges.{of_kept, into_kept, one_number}
use Rattle.gb_graph.proofs.Numbers.{in_of, of_in}
use Rattle.gb_exec.specs.declared.may_start.Ending.{Ending}
use Rattle.gb_exec.specs.Starts.{IsWired, mark_at, row}
use Rattle.gb_exec.specs.Plans.{AreOfPlan, IsNeeded, GiveRows, finalizers_of, needs_of, path_at}
use Rattle.gb_exec.proofs.Marks.{row_known}
use Rattle.gb_exec.proofs.ByNumber.{in_order, of_order}

-- ---- Rows

module _ (plan : List Planned) (numbers : Numbers) (notify : GiveNumbers (order plan) numbers) (paths : Planned → List Path) where
  rowed : (task : ℕ) (planned : Planned) → slice_get plan task ≡ Some planned
      → row (map (λ z. numbers_in numbers (paths z)) plan) task ≡ numbers_in numbers (paths planned)
  rowed task planned here =
      get_or_from_slice_get (map (λ z. numbers_in numbers (paths z)) plan) task (numbers_in numbers (paths planned)) []
      (slice_get-map (λ z. numbers_in numbers (paths z)) plan task ∙ ap (option_map (λ z. numbers_in numbers (paths z))) here)

  pub give_rows : GiveRows paths plan (map (λ z. numbers_in numbers (paths z)) plan)
  give_rows = record {
    each = length-map _ _;
    reported = λ task number planned here. (
      λ h.
          let kept = of_kept (number_at numbers) (paths planned) number (in_of _ number (subst (λ xs. Contains xs number) (rowed task planned here) h)) in
          let is = (notify kept.0 number).0 kept.2 in
          (subst (λ n. number < n) (length-map _ _) is.0, ap (has_path (paths planned)) is.1 ∙ kept.1),
      λ h. subst (λ xs. Contains xs number) (sym (rowed task planned here))
          (of_in number _ (into_kept (number_at numbers) (paths planned) (path_at plan number) number h.1
          ((notify (path_at plan number) number).1 (subst (λ n. number < n) (sym (length-map _ _)) h.0, refl)))),
    );
  }

-- ---- What is needed comes before

-- when its execution begins, each task is ready
ready_at : (plan : List Planned) (existing : List Path) (rest : List Planned) → stuck plan existing rest ≡ [] → (number : ℕ) (planned : Planned)
    → slice_get rest number ≡ Some planned → is_ready plan (existing ++ order (take number rest)) planned.task ≡ true
ready_at plan existing [] none number planned here = none_some here
ready_at plan existing (next ∷ rest) none number planned here =
    elim (is_ready plan existing next.task) as (λ b. is_ready plan existing next.task ≡ b
    → cond b (stuck plan (existing ++ next.task.path ∷ []) rest) (next ∷ rest) ≡ [] → is_ready plan (existing ++ order (take number (next ∷ rest))) planned.task ≡ true) [
      | true ↦ λ ready later. by_number (λ at is. ready_at plan (existing ++ next.task.path ∷ []) rest later at planned is) number here ready
      | false ↦ λ _ e. not_false (sym (ap is_empty e))
    ] refl none
  where
    by_number : ((at : ℕ) → slice_get rest at ≡ Some planned → is_ready plan ((existing ++ next.task.path ∷ []) ++ order (take at rest)) planned.task ≡ true)
        → (at : ℕ) → slice_get (next ∷ rest) at ≡ Some planned → is_ready plan existing next.task ≡ true
        → is_ready plan (existing ++ order (take at (next ∷ rest))) planned.task ≡ true
    by_number further zero is ready =
        ap (λ s. is_ready plan s planned.task) (append-nil existing) ∙ subst (λ z. is_ready plan existing z.task ≡ true) (some_same is) ready
    by_number further (suc at) is ready =
        ap (λ s. is_ready plan s planned.task) (sym (append_assoc existing (next.task.path ∷ []) (order (take at rest)))) ∙ further at is

has_left : (xs ys : List Path) (p : Path) → has_path xs p ≡ true → has_path (xs ++ ys) p ≡ true
has_left xs ys p h = any_append (bytes_eq p) xs ys ∙ ap (λ b. b || has_path ys p) h

pub needs_first : (plan : List Planned) → no_repeats (order plan) ≡ true → stuck plan [] plan ≡ [] → (task before : ℕ) (planned : Planned)
    → slice_get plan task ≡ Some planned → before < length plan → has_path planned.task.needs (path_at plan before) ≡ true → before < task
needs_first plan once none task before planned here less has =
    let ready = ready_at plan [] plan none task planned here in
    let scheduled = into_filter (is_scheduled_in plan) planned.task.needs (path_at plan before) has (in_order plan before less) in
    let exists = at_member (has_path (order (take task plan))) (after plan planned.task) (path_at plan before) ready
    (has_left (needs_in plan planned.task ++ finalized_by plan planned.task.path) (orders_in plan planned.task) (path_at plan before)
    (has_left (needs_in plan planned.task) (finalized_by plan planned.task.path) (path_at plan before) scheduled)) in
    let found = of_order (take task plan) (path_at plan before) exists in
    let within = slice_get_within plan task planned here in
    let short : found.0 < task = omega (arith, found.1, length-take task plan) in
    let same : before ≡ found.0 = one_number (order plan) once before found.0 (subst (λ n. before < n) (sym (length-map _ _)) less)
    (subst (λ n. found.0 < n) (sym (length-map _ _)) (omega (arith, short, within))) (sym found.2 ∙ taken found.0 short) in
    omega (arith, same, short)
  where
    taken : (at : ℕ) → at < task → path_at (take task plan) at ≡ path_at plan at
    taken at low = ap (λ xs. get_or xs at []) (sym (take-map (λ (z : Planned). z.task.path) task plan)) ∙ get_or-take task (order plan) at [] low

-- ---- The numbers of a plan

module _ (plan : List Planned) (needs finalizers : List (List ℕ)) (give_needs : GiveRows needs_of plan needs) (give_finalizers : GiveRows finalizers_of plan finalizers) where
  -- the task of a number
  planned_at : (table : List (List ℕ)) → length table ≡ length plan → (task other : ℕ) → Contains (row table task) other → (planned : Planned) × (slice_get plan task ≡ Some planned)
  planned_at table same task other h = there plan task (let known = row_known table task other h in omega (arith, known, same))
    where
      there : (some : List Planned) (at : ℕ) → at < length some → (planned : Planned) × (slice_get some at ≡ Some planned)
      there [] at less = absurd (omega (arith, less))
      there (planned ∷ rest) zero less = (planned, refl)
      there (planned ∷ rest) (suc at) less = there rest at (omega (arith, less))

  pub wired : no_repeats (order plan) ≡ true → stuck plan [] plan ≡ [] → (wanted : List Bool) → length wanted ≡ length plan → IsWired needs finalizers wanted
  wired once none wanted each = record {
    each_finalized = give_finalizers.each ∙ sym give_needs.each;
    each_wanted = each ∙ sym give_needs.each;
    needs_first = λ task before h.
        let planned = planned_at needs give_needs.each task before h in
        let reported = (give_needs.reported task before planned.0 planned.1).0 h in
        needs_first plan once none task before planned.0 planned.1 reported.0 reported.1;
    finalizers_known = λ task later h.
        let planned = planned_at finalizers give_finalizers.each task later h in
        let reported = (give_finalizers.reported task later planned.0 planned.1).0 h in
        omega (arith, reported.0, give_needs.each);
  }

  pub of_plan : (selected wanted : List Bool) (endings : List Ending) → selected ≡ map (λ planned. planned.is_selected) plan
      → ((task : ℕ) → (mark_at wanted task ≡ true) ↔ ((mark_at selected task ≡ true) ⊎ IsNeeded needs task))
      → AreOfPlan plan (record { needs = needs; finalizers = finalizers; wanted = wanted; endings = endings })
  of_plan selected wanted endings is marked = record {
    needs = give_needs;
    finalizers = give_finalizers;
    wanted = λ number planned here.
        let same : mark_at selected number ≡ planned.is_selected =
        ap (λ marks. mark_at marks number) is
        ∙ get_or_from_slice_get (map (λ z. z.is_selected) plan) number planned.is_selected false (slice_get-map (λ z. z.is_selected) plan number ∙ ap (option_map (λ z. z.is_selected)) here) in (
          λ h. elim ((marked number).0 h) [ inl first ↦ inl (sym same ∙ first) | inr needed ↦ inr needed ],
          λ either. elim either [ inl first ↦ (marked number).1 (inl (same ∙ first)) | inr needed ↦ (marked number).1 (inr needed) ],
        );
  }

  -- each row names tasks of the plan
  pub needs_within : (later task : ℕ) → Contains (row needs later) task → task < length plan
  needs_within later task h =
      let planned = planned_at needs give_needs.each later task h in
      ((give_needs.reported later task planned.0 planned.1).0 h).0
