-- A request that has a plan is not refused.
use Rattle.std.specs.Prelude.{◌≡◌, Bool, true, false, not, ◌&&◌, ◌||◌, List, [], ◌∷◌, ◌++◌, map, bytes_eq, refl, Option, Some, None, Result, Ok, Err, Contains}
use Rattle.std.specs.List.{list_any, filter, flat_map, AllByRecursion}
use Rattle.std.specs.Cmp.Lexicographic.{bytes_decides}
use Rattle.std.proofs.Common.{sym, ap, subst, ◌∙◌, inl, inr}
use Rattle.std.proofs.lemmas.List.Elements.{All-contains, All-from_recursion}
use Rattle.std.proofs.lemmas.List.{map-append}
use Rattle.gb_core.specs.Place.{is_under, overlaps}
use Rattle.gb_folder.specs.Files.{Place, is_empty}
use Rattle.gb_report.specs.declared.fault.Fault.{Fault}
use Rattle.gb_tree.specs.Property.{distinct}
use Rattle.gb_plan.specs.declared.plan.Planned.{Planned}
use Rattle.gb_plan.specs.declared.task.TaskDeclaration.{TaskDeclaration}
use Rattle.gb_plan.specs.Task.{Path, has_path, roots_of, output_places}
use Rattle.gb_plan.specs.Graph.{Plan, Request, start, step, brings, declaration_at, selected, leaves_out, stuck, some_overlap, reads_output_of, IsScheduled, IsSchedule, IsReadInOrder, IsSound, IsPlan}
use Rattle.gb_plan.specs.Refusal.{Queued, begins, goes_on, open_of, IsTaskFault, Conflict, outputs_of, IsOverlap, IsRead, IsOwnInput, IsUndeclared, IsScheduleFault, has_cycle, has_overlap, has_own_input, is_undeclared, IsRefused}
use Rattle.gb_plan.proofs.Tests.{not_true, not_false, no_longer, none_left, none_right, neither, or_right, any_append, any_map, in_filter}
use Rattle.gb_plan.proofs.Same.{at_in, planned_at, schedules_are_one}

-- ---- Tasks at fault

in_distinct : (paths : List Path) (path : Path) → has_path (distinct paths) path ≡ true → has_path paths path ≡ true
in_distinct [] path h = h
in_distinct (p ∷ paths) path h =
    elim (bytes_eq path p) as (λ b. (b || has_path (filter (λ other. not (bytes_eq p other)) (distinct paths)) path) ≡ true → (b || has_path paths path) ≡ true) [
      | true ↦ λ _. refl
      | false ↦ λ h. in_distinct paths path (in_filter (λ other. not (bytes_eq p other)) (distinct paths) path h).0
    ] h

split_any : {A : Type 0} (a b : Bool) → (a || b) ≡ true → (a ≡ true → A) → (b ≡ true → A) → A
split_any true b e f g = f refl
split_any false b e f g = g e

-- what waits in the queue is scheduled
pub waits_scheduled : (request : Request) (done waiting : List Path) → Queued request done waiting → (path : Path) → has_path waiting path ≡ true → IsScheduled request path
waits_scheduled request done waiting begins path h =
    let is_open = in_filter (λ p. not (leaves_out request p)) (selected request) path (in_distinct (open_of request (selected request)) path h) in
    start is_open.0 (no_longer (leaves_out request path) is_open.1)
waits_scheduled request done waiting (goes_on {done = before} {path = next} {waiting = others} queued declared) path h =
    split_any (has_path others path) _ (sym (any_append (bytes_eq path) others _) ∙ h)
    (λ waits. waits_scheduled request before (next ∷ others) queued path (or_right (bytes_eq path next) (has_path others path) waits))
    (λ comes.
    let fresh = in_filter (λ p. not (has_path (before ++ next ∷ others) p)) (open_of request (brings request.registry next)) path comes in
    let is_open = in_filter (λ p. not (leaves_out request p)) (brings request.registry next) path fresh.0 in
    step (waits_scheduled request before (next ∷ others) queued next (ap (λ b. b || has_path others next) ((bytes_decides next next).1 refl))) is_open.0 (no_longer (leaves_out request path) is_open.1))

is_declared : Option (Result TaskDeclaration Fault) → Bool
is_declared (Some (Ok task)) = true
is_declared (Some (Err fault)) = false
is_declared None = false

-- what is scheduled is declared
pub scheduled_declared : (request : Request) (plan : Plan) → IsSchedule request plan → (path : Path) → IsScheduled request path
    → (task : TaskDeclaration) × (declaration_at request.registry path ≡ Some (Ok task))
scheduled_declared request plan schedule path scheduled =
    let at = planned_at plan path ((schedule.scheduled path).1 scheduled) in (
      at.0.task,
      ap (declaration_at request.registry) (sym at.2) ∙ at_in (λ (z : Planned). declaration_at request.registry z.task.path ≡ Some (Ok z.task)) plan at.0 schedule.declared at.1,
    )

-- where there is a schedule, no task of the queue is at fault
pub no_task_fault : (request : Request) (plan : Plan) (fault : Fault) → IsSchedule request plan → ¬ IsTaskFault request fault
unfolding is_declared
no_task_fault request plan fault schedule at =
    let declared = scheduled_declared request plan schedule at.path
    (waits_scheduled request at.done (at.path ∷ at.waiting) at.queued at.path (ap (λ b. b || has_path at.waiting at.path) ((bytes_decides at.path at.path).1 refl))) in
    not_true (ap is_declared (sym at.at_fault ∙ declared.1))

-- ---- Overlaps

or_turned : (a b : Bool) → (a || b) ≡ (b || a)
or_turned true true = refl
or_turned true false = refl
or_turned false true = refl
or_turned false false = refl

places_in : (task : TaskDeclaration) (places : List Place) → map (λ (output : Path × Place). output.1) (map (λ place. (task.path, place)) places) ≡ places
places_in task [] = refl
places_in task (place ∷ places) = ap (λ ps. place ∷ ps) (places_in task places)

-- the places of the outputs
pub places_of : (plan : Plan) → map (λ (output : Path × Place). output.1) (outputs_of plan) ≡ flat_map (λ (planned : Planned). output_places planned.task) plan
places_of [] = refl
places_of (planned ∷ plan) =
    map-append (λ (output : Path × Place). output.1) (map (λ place. (planned.task.path, place)) (output_places planned.task)) (outputs_of plan)
    ∙ (λ i. places_in planned.task (output_places planned.task) i ++ places_of plan i)

-- of disjoint places, one overlaps none of the others
none_meet : (prefix : List (Path × Place)) (path : Path) (place : Place) (back : List (Path × Place))
    → some_overlap (map (λ (output : Path × Place). output.1) (prefix ++ (path, place) ∷ back)) ≡ false → list_any (λ (output : Path × Place). overlaps place output.1) (prefix ++ back) ≡ false
none_meet [] path place back e =
    sym (any_map (overlaps place) (λ (output : Path × Place). output.1) back) ∙ none_left (list_any (overlaps place) (map (λ (output : Path × Place). output.1) back)) _ e
none_meet (first ∷ prefix) path place back e =
    let separate = sym (any_map (overlaps first.1) (λ (output : Path × Place). output.1) (prefix ++ (path, place) ∷ back)) ∙ none_left (list_any (overlaps first.1) (map (λ (output : Path × Place). output.1) (prefix ++ (path, place) ∷ back))) _ e in
    let following = none_right (list_any (λ (output : Path × Place). overlaps first.1 output.1) prefix) _ (sym (any_append (λ (output : Path × Place). overlaps first.1 output.1) prefix ((path, place) ∷ back)) ∙ separate) in
    neither (overlaps place first.1) (list_any (λ (output : Path × Place). overlaps place output.1) (prefix ++ back))
    (or_turned (is_under place first.1) (is_under first.1 place) ∙ none_left (overlaps first.1 place) _ following)
    (none_meet prefix path place back (none_right (list_any (overlaps first.1) (map (λ (output : Path × Place). output.1) (prefix ++ (path, place) ∷ back))) _ e))

fewer_pass : {X : Type 0} (p q : X → Bool) (xs : List X) → list_any q xs ≡ false → list_any (λ x. p x && q x) xs ≡ false
fewer_pass p q [] e = refl
fewer_pass p q (x ∷ xs) e = neither (p x && q x) _ (fails (p x) (q x) (none_left (q x) (list_any q xs) e)) (fewer_pass p q xs (none_right (q x) (list_any q xs) e))
  where
    fails : (a b : Bool) → b ≡ false → (a && b) ≡ false
    fails true b e = e
    fails false b e = refl

pub no_overlap : (plan : Plan) → some_overlap (flat_map (λ (planned : Planned). output_places planned.task) plan) ≡ false → (conflict : Conflict) → ¬ IsOverlap plan conflict
no_overlap plan separate conflict at =
    not_true (sym (fewer_pass (λ (output : Path × Place). bytes_eq output.0 conflict.other) (λ output. overlaps conflict.place output.1) (at.prefix ++ at.back)
    (none_meet at.prefix conflict.task conflict.place at.back (ap (λ os. some_overlap (map (λ (output : Path × Place). output.1) os)) (sym at.exists) ∙ (ap some_overlap (places_of plan) ∙ separate)))) ∙ at.overlapped)

-- ---- Reads

-- what holds of each task of the plan
of_task : (P : TaskDeclaration → Type 0) (plan : Plan) (task : TaskDeclaration) → AllByRecursion (λ (planned : Planned). P planned.task) plan → Contains (map (λ (planned : Planned). planned.task) plan) task → P task
of_task P plan task all is_in = All-contains P (map (λ (planned : Planned). planned.task) plan) task (All-from_recursion P (map (λ (planned : Planned). planned.task) plan) (each plan all)) is_in
  where
    each : (planned : List Planned) → AllByRecursion (λ (z : Planned). P z.task) planned → AllByRecursion P (map (λ (z : Planned). z.task) planned)
    each [] h = tt
    each (z ∷ zs) h = (h.0, each zs h.1)

does_read : (plan : Plan) (reader writer : TaskDeclaration) (root : Place) → IsRead plan reader writer root → reads_output_of reader writer ≡ true
does_read plan reader writer root read = walk (roots_of reader) read.is_root
  where
    walk : (roots : List Place) → has_path roots root ≡ true → list_any (λ r. list_any (overlaps r) (output_places writer)) roots ≡ true
    walk [] h = not_true h
    walk (r ∷ roots) h =
        elim (bytes_eq root r) as (λ b. bytes_eq root r ≡ b → (b || has_path roots root) ≡ true → list_any (λ r. list_any (overlaps r) (output_places writer)) (r ∷ roots) ≡ true) [
          | true ↦ λ same _. ap (λ b. b || list_any (λ r. list_any (overlaps r) (output_places writer)) roots)
              (ap (λ place. list_any (overlaps place) (output_places writer)) (sym ((bytes_decides root r).0 same)) ∙ read.overlapped)
          | false ↦ λ _ h. or_right (list_any (overlaps r) (output_places writer)) _ (walk roots h)
        ] refl h

pub no_own_input : (plan : Plan) → AllByRecursion (λ (planned : Planned). reads_output_of planned.task planned.task ≡ false) plan → (conflict : Conflict) → ¬ IsOwnInput plan conflict
no_own_input plan separate conflict at =
    not_true (sym (of_task (λ task. reads_output_of task task ≡ false) plan at.task separate at.reads.reader_in) ∙ does_read plan at.task at.task conflict.place at.reads)

pub none_undeclared : (plan : Plan) → AllByRecursion (λ (reader : Planned). AllByRecursion (λ (writer : Planned). IsReadInOrder plan reader.task writer.task) plan) plan
    → (conflict : Conflict) → ¬ IsUndeclared plan conflict
none_undeclared plan declared conflict at =
    at.not_after (of_task (λ writer. IsReadInOrder plan at.reader writer) plan at.writer
    (of_task (λ reader. AllByRecursion (λ (writer : Planned). IsReadInOrder plan reader writer.task) plan) plan at.reader declared at.reads.reader_in) at.reads.writer_in
    (does_read plan at.reader at.writer conflict.place at.reads) at.two)

-- ---- Plans

-- a sound plan in which all tasks become ready has no fault
pub no_schedule_fault : (plan : Plan) (fault : Fault) → stuck plan [] plan ≡ [] → IsSound plan → ¬ IsScheduleFault plan fault
no_schedule_fault plan fault ready sound (has_cycle at) = not_false (sym (ap is_empty ready) ∙ at.some_stuck)
no_schedule_fault plan fault ready sound (has_overlap at) = no_overlap plan sound.outputs_separate at.conflict at.is_least.meets
no_schedule_fault plan fault ready sound (has_own_input at) = no_own_input plan sound.inputs_separate at.conflict at.is_least.meets
no_schedule_fault plan fault ready sound (is_undeclared at) = none_undeclared plan sound.declared at.conflict at.is_least.meets

pub refusals_exclude_plans : (request : Request) (plan : Plan) (fault : Fault) → IsPlan request plan → ¬ IsRefused request fault
refusals_exclude_plans request plan fault of_plan (inl task_fault) = no_task_fault request plan fault of_plan.schedule task_fault
refusals_exclude_plans request plan fault of_plan (inr at) =
    no_schedule_fault plan fault of_plan.all_ready of_plan.sound
    (subst (λ p. IsScheduleFault p fault) (sym (schedules_are_one request plan at.0 of_plan.schedule at.1 of_plan.all_ready)) at.2)
