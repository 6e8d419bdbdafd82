-- A sound plan in order gives each task what the law on building from scratch requires of it.
use Rattle.std.specs.Prelude.{◌≡◌, Bool, true, false, not, cond, ◌||◌, List, [], ◌∷◌, ◌++◌, map, bytes_eq}
use Rattle.std.specs.List.{list_any, filter, flat_map, AllByRecursion}
use Rattle.std.proofs.Common.{refl, sym, ap, subst, ◌∙◌}
use Rattle.gb_folder.specs.Files.{Place, is_empty}
use Rattle.gb_core.specs.Place.{is_under, overlaps}
use Rattle.gb_plan.specs.Task.{Path, is_output_of, has_path, roots_of, output_places, IsShaped}
use Rattle.gb_plan.specs.declared.task.TaskDeclaration.{TaskDeclaration as Task}
use Rattle.gb_plan.specs.declared.task.FileProperty.{FileProperty}
use Rattle.gb_plan.specs.declared.task.Output.{Output}
use Rattle.gb_plan.specs.Graph.{Plan, order, stuck, no_repeats, IsSound, some_overlap, reads_output_of}
use Rattle.gb_plan.specs.declared.plan.Planned.{Planned}
use Rattle.gb_plan.proofs.Tests.{not_true, none_left, none_right, neither, any_append, all_at, each_all, no_longer, turned}
use Rattle.gb_plan.proofs.Places.{none_under, out_of, separate_places, overlap_tail}
use Rattle.gb_plan.proofs.Chains.{Closed, closed_more, closed_push, grouped, order_append, reads_no_later, ready_here, stuck_rest}
use Rattle.gb_semantics.proofs.Lemmas.Files.{left_of, right_of}
use Rattle.gb_semantics.proofs.Lemmas.Reading.{AllUnobserved}
use Rattle.gb_semantics.proofs.Lemmas.Scratch.{any_out, no_out, AllFit, actives, PathsDistinct}

-- ---- Tests on lists

fewer_any : {X : Type 0} (p t : X → Bool) (xs : List X) → list_any p xs ≡ false → list_any p (filter t xs) ≡ false
fewer_any p t [] e = refl
fewer_any p t (x ∷ xs) e =
    let rest = fewer_any p t xs (none_right (p x) (list_any p xs) e) in
    elim (t x) as (λ b. list_any p (cond b (x ∷ filter t xs) (filter t xs)) ≡ false) [ true ↦ neither (p x) (list_any p (filter t xs)) (none_left (p x) (list_any p xs) e) rest | false ↦ rest ]

abbrev places_of : List Planned → List Place
places_of plan = flat_map (λ planned. output_places planned.task) plan

abbrev tasks_of : List Planned → List Task
tasks_of plan = map (λ planned. planned.task) plan

any_out_of : (plan : List Planned) (q : Place) → any_out (tasks_of plan) q ≡ list_any (is_under q) (places_of plan)
any_out_of [] q = refl
any_out_of (planned ∷ plan) q = (λ i. out_of planned.task q i || any_out_of plan q i) ∙ sym (any_append (is_under q) (output_places planned.task) (places_of plan))

-- ---- Who reads what

-- no root of the task overlaps one of the places
abbrev ReadsNone : Task → List Place → Type 0
ReadsNone task places = list_any (λ root. list_any (overlaps root) places) (roots_of task) ≡ false

roots_each : (p : Place → Bool) (files : List FileProperty) → list_any p (flat_map (λ property. property.roots) files) ≡ false
    → AllByRecursion (λ (property : FileProperty). AllByRecursion (λ root. p root ≡ false) property.roots) files
roots_each p [] e = tt
roots_each p (property ∷ files) e =
    let both = sym (any_append p property.roots (flat_map (λ (f : FileProperty). f.roots) files)) ∙ e in (
      each_root property.roots (none_left (list_any p property.roots) (list_any p (flat_map (λ (f : FileProperty). f.roots) files)) both),
      roots_each p files (none_right (list_any p property.roots) (list_any p (flat_map (λ (f : FileProperty). f.roots) files)) both),
    )
  where
    each_root : (roots : List Place) → list_any p roots ≡ false → AllByRecursion (λ root. p root ≡ false) roots
    each_root [] e = tt
    each_root (root ∷ roots) e = (none_left (p root) (list_any p roots) e, each_root roots (none_right (p root) (list_any p roots) e))

-- what reads none of the places reads none of the files there
pub unobserved_of : (task : Task) (test : Place → Bool) (places : List Place) → ((q : Place) → list_any (is_under q) places ≡ false → test q ≡ true) → ReadsNone task places → AllUnobserved test task
unobserved_of task test places passes e =
    each_all _ _ (λ property h. each_all _ _ (λ root h q under. passes q (none_under q root places under h)) property.roots h)
    task.files (roots_each (λ root. list_any (overlaps root) places) task.files e)

reads_append : (task : Task) (xs ys : List Place) → ReadsNone task xs → ReadsNone task ys → ReadsNone task (xs ++ ys)
reads_append task xs ys e f = walk (roots_of task) e f
  where
    walk : (roots : List Place) → list_any (λ root. list_any (overlaps root) xs) roots ≡ false → list_any (λ root. list_any (overlaps root) ys) roots ≡ false → list_any (λ root. list_any (overlaps root) (xs ++ ys)) roots ≡ false
    walk [] e f = refl
    walk (root ∷ roots) e f =
        neither (list_any (overlaps root) (xs ++ ys)) (list_any (λ r. list_any (overlaps r) (xs ++ ys)) roots)
        (any_append (overlaps root) xs ys ∙ neither (list_any (overlaps root) xs) (list_any (overlaps root) ys)
        (none_left (list_any (overlaps root) xs) (list_any (λ r. list_any (overlaps r) xs) roots) e)
        (none_left (list_any (overlaps root) ys) (list_any (λ r. list_any (overlaps r) ys) roots) f))
        (walk roots (none_right (list_any (overlaps root) xs) (list_any (λ r. list_any (overlaps r) xs) roots) e)
        (none_right (list_any (overlaps root) ys) (list_any (λ r. list_any (overlaps r) ys) roots) f))

reads_all : (task : Task) (rest : List Planned) → AllByRecursion (λ (writer : Planned). reads_output_of task writer.task ≡ false) rest → ReadsNone task (places_of rest)
reads_all task [] h = none (roots_of task)
  where
    none : (roots : List Place) → list_any (λ root. list_any (overlaps root) []) roots ≡ false
    none [] = refl
    none (root ∷ roots) = none roots
reads_all task (writer ∷ rest) h = reads_append task (output_places writer.task) (places_of rest) h.0 (reads_all task rest h.1)

-- ---- The whole plan

no_outputs : (task : Task) → is_empty task.outputs ≡ true → (q : Place) → is_output_of task q ≡ false
no_outputs task e q = walk task.outputs e
  where
    walk : (outputs : List Output) → is_empty outputs ≡ true → list_any (λ output. is_under q output.place) outputs ≡ false
    walk [] e = refl
    walk (output ∷ outputs) e = not_true e

not_empty : {X : Type 0} {x : X} {xs : List X} {A : Type 0} → x ∷ xs ≡ [] → A
not_empty e = not_true (ap is_empty e)

module _ (plan : Plan) where
  all_fit : (set : List Path) (placed rest : List Planned) → plan ≡ placed ++ rest → set ≡ order placed → no_repeats (order plan) ≡ true → Closed plan set placed
      → stuck plan set rest ≡ [] → IsSound plan → AllByRecursion (λ (planned : Planned). IsShaped planned.task) rest → AllFit (tasks_of rest)
  all_fit set placed [] whole same once closed ready sound shaped = tt
  all_fit set placed (next ∷ rest) whole same once closed ready sound shaped =
      let is_next = ready_here plan set next rest ready in
      let reads_none_later = reads_no_later plan set placed next rest whole same once closed is_next sound in
      let reads_none_own = (all_at _ placed next rest (subst (AllByRecursion (λ (planned : Planned). reads_output_of planned.task planned.task ≡ false)) whole sound.inputs_separate)).0 in (
        record {
          separate = λ q e. any_out_of rest q ∙ separate_places q (output_places next.task) (places_of rest) (places_separate placed (ap (λ p. some_overlap (places_of p)) (sym whole) ∙ sound.outputs_separate)) (sym (out_of next.task q) ∙ e);
          unobserved = unobserved_of next.task (no_out (tasks_of (next ∷ rest))) (places_of (next ∷ rest)) (λ q e. ap not (any_out_of (next ∷ rest) q ∙ e)) (reads_all next.task (next ∷ rest) (reads_none_own, reads_none_later));
          idle_writes_none = λ e q. no_outputs next.task (shaped.0 e) q;
        },
        all_fit (set ++ next.task.path ∷ []) (placed ++ next ∷ []) rest (whole ∙ grouped placed next rest)
            (ap (λ s. s ++ next.task.path ∷ []) same ∙ sym (order_append placed (next ∷ []))) once
            (closed_more plan set (next.task.path ∷ []) (placed ++ next ∷ []) (closed_push plan set placed next closed is_next))
            (stuck_rest plan set next rest ready) sound shaped.1,
      )
    where
      places_append : (xs ys : List Planned) → places_of (xs ++ ys) ≡ places_of xs ++ places_of ys
      places_append [] ys = refl
      places_append (x ∷ xs) ys = ap (λ ps. output_places x.task ++ ps) (places_append xs ys) ∙ joined (output_places x.task) (places_of xs) (places_of ys)
        where
          joined : (xs ys zs : List Place) → xs ++ (ys ++ zs) ≡ (xs ++ ys) ++ zs
          joined [] ys zs = refl
          joined (x ∷ xs) ys zs = ap (λ ps. x ∷ ps) (joined xs ys zs)

      places_separate : (before : List Planned) → some_overlap (places_of (before ++ next ∷ rest)) ≡ false → some_overlap (output_places next.task ++ places_of rest) ≡ false
      places_separate before e = overlap_tail (places_of before) (output_places next.task ++ places_of rest) (ap some_overlap (sym (places_append before (next ∷ rest))) ∙ e)

-- the tasks that are skipped may be left out
fewer_fit : (tasks : List Task) → AllFit tasks → AllFit (filter (λ task. task.runs) tasks)
fewer_fit [] h = tt
fewer_fit (task ∷ tasks) h =
    let rest = fewer_fit tasks h.1 in
    elim task.runs as (λ b. AllFit (cond b (task ∷ filter (λ t. t.runs) tasks) (filter (λ t. t.runs) tasks))) [
      | true ↦ (
        record {
          separate = λ q e. fewer_any (λ t. is_output_of t q) (λ t. t.runs) tasks (h.0.separate q e);
          unobserved = each_all _ _ (λ property u. each_all _ _ (λ root observed q under. fewer q (observed q under)) property.roots u) task.files h.0.unobserved;
          idle_writes_none = h.0.idle_writes_none;
        },
        rest,
      )
      | false ↦ rest
    ]
  where
    fewer : (q : Place) → not (is_output_of task q || any_out tasks q) ≡ true → not (is_output_of task q || any_out (filter (λ t. t.runs) tasks) q) ≡ true
    fewer q e =
        let none = no_longer (is_output_of task q || any_out tasks q) e in
        ap not (neither (is_output_of task q) (any_out (filter (λ t. t.runs) tasks) q) (none_left (is_output_of task q) (any_out tasks q) none)
        (fewer_any (λ t. is_output_of t q) (λ t. t.runs) tasks (none_right (is_output_of task q) (any_out tasks q) none)))

pub paths_distinct : (plan : List Planned) → no_repeats (order plan) ≡ true → PathsDistinct plan
paths_distinct [] e = tt
paths_distinct (planned ∷ rest) e = (
  others rest (no_longer (has_path (order rest) planned.task.path) (left_of (not (has_path (order rest) planned.task.path)) (no_repeats (order rest)) e)),
  paths_distinct rest (right_of (not (has_path (order rest) planned.task.path)) (no_repeats (order rest)) e),
)
  where
    others : (later : List Planned) → has_path (order later) planned.task.path ≡ false → AllByRecursion (λ (other : Planned). bytes_eq other.task.path planned.task.path ≡ false) later
    others [] e = tt
    others (other ∷ later) e = (
      turned other.task.path planned.task.path ∙ none_left (bytes_eq planned.task.path other.task.path) (has_path (order later) planned.task.path) e,
      others later (none_right (bytes_eq planned.task.path other.task.path) (has_path (order later) planned.task.path) e),
    )

pub sound_fits : (plan : Plan) → no_repeats (order plan) ≡ true → stuck plan [] plan ≡ [] → IsSound plan → AllByRecursion (λ (planned : Planned). IsShaped planned.task) plan → AllFit (actives plan)
sound_fits plan once ready sound shaped = fewer_fit (tasks_of plan) (all_fit plan [] [] plan refl refl once tt ready sound shaped)
