-- In a build in which no task failed, each task is started.
use Rattle.std.specs.Prelude.{◌≡◌, ◌⊎◌, Bool, true, false, not, cond, ◌&&◌, ◌||◌, List, [], ◌∷◌, ◌++◌, map, bytes_eq, Option, Some, None, Ok, ℕ}
use Rattle.std.specs.List.{list_any, list_all, filter, AllByRecursion}
use Rattle.std.specs.Cmp.Lexicographic.{bytes_decides}
use Rattle.std.proofs.Common.{refl, sym, ap, subst, ◌∙◌, inl, inr}
use Rattle.gb_report.specs.declared.fault.Fault.{Fault}
use Rattle.gb_report.specs.declared.report.Outcome.{Outcome}
use Rattle.gb_report.specs.declared.report.Options.{Options}
use Rattle.gb_report.specs.declared.report.TaskReport.{TaskReport}
use Rattle.gb_folder.specs.Files.{Bytes, is_empty}
use Rattle.gb_plan.specs.Task.{Path, has_path}
use Rattle.gb_plan.specs.declared.task.TaskDeclaration.{TaskDeclaration as Task}
use Rattle.gb_plan.proofs.Registered.{in_with_tasks}
use Rattle.gb_semantics.proofs.Existing.{rules_of, existing}
use Rattle.gb_semantics.specs.Kinds.{Kinds}
use Rattle.gb_semantics.specs.Memory.{World, folder_contents}
use Rattle.gb_plan.specs.Graph.{Plan, Request, start, step, order, needs_in, finalized_by, is_ready, is_scheduled_in, stuck, brings, brought_by, declaration_at, selected, IsSchedule, IsScheduled}
use Rattle.gb_plan.specs.declared.plan.Planned.{Planned}
use Rattle.gb_report.specs.declared.report.Outcome.TheVariants as outcomes
use Rattle.gb_semantics.specs.Label.{Moment, Early, Skips, HasNoActions, CannotRead, HasNoSource, early_case, some_outcome, IsOutcomeAt, EndsWith, run_of}
use Rattle.gb_report.specs.Outcome.{is_failed, is_executed, is_started}
use Rattle.gb_semantics.specs.Execution.{May, Executions, StartedExecution, DoesStart, has_not_ended_well, is_uncalled, finalizes_started, moment_after}
use Rattle.gb_semantics.specs.Outline.{AnswersAlone, AreOutlines, MayAnswer, idle_outcome, moment_by}
use Rattle.gb_plan.proofs.Tests.{at_member, not_true, any_append, any_map, all_at, itself, none_left, none_right, no_longer}
use Rattle.gb_semantics.proofs.Common.{all_assumed}
use Rattle.gb_semantics.proofs.Lemmas.Files.{left_of, right_of}
use Rattle.gb_semantics.proofs.Lemmas.Scratch.{ended_well}
use Rattle.gb_plan.proofs.Chains.{grouped, ready_here, stuck_rest}

either : (a b : Bool) → (a || b) ≡ true → (a ≡ true) ⊎ (b ≡ true)
either true b e = inl refl
either false b e = inr e

or_right : (a b : Bool) → b ≡ true → (a || b) ≡ true
or_right true b e = refl
or_right false b e = e

both_true : (a b : Bool) → a ≡ true → b ≡ true → (a && b) ≡ true
both_true true b e f = f
both_true false b e f = e

-- ---- Members

filter_has : (t : Path → Bool) (xs : List Path) (p : Path) → has_path (filter t xs) p ≡ true → has_path xs p ≡ true
filter_has t [] p e = e
filter_has t (x ∷ xs) p e =
    elim (t x) as (λ b. has_path (cond b (x ∷ filter t xs) (filter t xs)) p ≡ true → (bytes_eq p x || has_path xs p) ≡ true) [
      | true ↦ λ e. elim (bytes_eq p x) as (λ b. (b || has_path (filter t xs) p) ≡ true → (b || has_path xs p) ≡ true) [ true ↦ λ _. refl | false ↦ filter_has t xs p ] e
      | false ↦ λ e. or_right (bytes_eq p x) (has_path xs p) (filter_has t xs p e)
    ] e

-- a test that a member passes is passed by some
members : {X : Type 0} (xs : List X) → AllByRecursion (λ x. (p : X → Bool) → p x ≡ true → list_any p xs ≡ true) xs
members [] = tt
members (x ∷ xs) = (λ p e. ap (λ b. b || list_any p xs) e, wider xs (members xs))
  where
    wider : (ys : List _) → AllByRecursion (λ y. (p : _ → Bool) → p y ≡ true → list_any p xs ≡ true) ys → AllByRecursion (λ y. (p : _ → Bool) → p y ≡ true → list_any p (x ∷ xs) ≡ true) ys
    wider [] h = tt
    wider (y ∷ ys) h = (λ p e. or_right (p x) (list_any p xs) (h.0 p e), wider ys h.1)

any_filter : {X : Type 0} (p t : X → Bool) (xs : List X) → list_any (λ x. t x && p x) xs ≡ true → list_any p (filter t xs) ≡ true
any_filter p t [] e = e
any_filter p t (x ∷ xs) e =
    elim (t x) as (λ b. ((b && p x) || list_any (λ y. t y && p y) xs) ≡ true → list_any p (cond b (x ∷ filter t xs) (filter t xs)) ≡ true) [
      | true ↦ λ e. elim (p x) as (λ c. (c || list_any (λ y. t y && p y) xs) ≡ true → (c || list_any p (filter t xs)) ≡ true) [ true ↦ λ _. refl | false ↦ any_filter p t xs ] e
      | false ↦ any_filter p t xs
    ] e

-- what holds at the path of each holds at a path that the plan has
at_planned : (P : Path → Type 0) (plan : List Planned) (path : Path) → AllByRecursion (λ (z : Planned). P z.task.path) plan → has_path (order plan) path ≡ true → P path
at_planned P [] path all h = not_true h
at_planned P (z ∷ plan) path all h = elim (bytes_eq path z.task.path) as (λ b. bytes_eq path z.task.path ≡ b → (b || has_path (order plan) path) ≡ true → P path) [
  | true ↦ λ e _. subst P (sym ((bytes_decides path z.task.path).0 e)) all.0
  | false ↦ λ _ h. at_planned P plan path all.1 h
] refl h

-- ---- Outcomes so far

abbrev Outcomes : Type 0
Outcomes = List (Path × Outcome)

abbrev all_well : Outcomes → Bool
all_well done = list_all (λ (e : Path × Outcome). is_started e.1 && not (is_failed e.1)) done

abbrev paths_done : Outcomes → List Path
paths_done done = map (λ (e : Path × Outcome). e.0) done

none_failed : (done : Outcomes) → all_well done ≡ true → list_any (λ (e : Path × Outcome). is_failed e.1) done ≡ false
none_failed [] h = refl
none_failed (e ∷ done) h =
    ap (λ b. b || list_any (λ (e : Path × Outcome). is_failed e.1) done)
    (no_longer (is_failed e.1) (right_of (is_started e.1) (not (is_failed e.1)) (left_of (is_started e.1 && not (is_failed e.1)) (all_well done) h)))
    ∙ none_failed done (right_of (is_started e.1 && not (is_failed e.1)) (all_well done) h)

none_lacking : (needs : List Path) (done : Outcomes) → all_well done ≡ true → list_any (λ (e : Path × Outcome). has_path needs e.0 && has_not_ended_well e.1) done ≡ false
none_lacking needs [] h = refl
none_lacking needs (e ∷ done) h =
    let here = left_of (is_started e.1 && not (is_failed e.1)) (all_well done) h in
    ap (λ b. (has_path needs e.0 && (b || not (is_started e.1))) || list_any (λ (e : Path × Outcome). has_path needs e.0 && has_not_ended_well e.1) done)
    (no_longer (is_failed e.1) (right_of (is_started e.1) (not (is_failed e.1)) here))
    ∙ ap (λ b. (has_path needs e.0 && not b) || list_any (λ (e : Path × Outcome). has_path needs e.0 && has_not_ended_well e.1) done) (left_of (is_started e.1) (not (is_failed e.1)) here)
    ∙ never (has_path needs e.0) (list_any (λ (e : Path × Outcome). has_path needs e.0 && has_not_ended_well e.1) done)
    ∙ none_lacking needs done (right_of (is_started e.1 && not (is_failed e.1)) (all_well done) h)
  where
    never : (a b : Bool) → ((a && false) || b) ≡ b
    never true b = refl
    never false b = refl

some_started : (paths : List Path) (done : Outcomes) (q : Path) → all_well done ≡ true → has_path (paths_done done) q ≡ true → has_path paths q ≡ true
    → list_any (λ (e : Path × Outcome). has_path paths e.0 && is_started e.1) done ≡ true
some_started paths [] q h at in_paths = at
some_started paths (e ∷ done) q h at in_paths =
    elim (bytes_eq q e.0) as (λ b. bytes_eq q e.0 ≡ b → (b || has_path (paths_done done) q) ≡ true → list_any (λ (e : Path × Outcome). has_path paths e.0 && is_started e.1) (e ∷ done) ≡ true) [
      | true ↦ λ same _. ap (λ b. b || list_any (λ (e : Path × Outcome). has_path paths e.0 && is_started e.1) done)
          (both_true (has_path paths e.0) (is_started e.1) (ap (has_path paths) (sym ((bytes_decides q e.0).0 same)) ∙ in_paths)
          (left_of (is_started e.1) (not (is_failed e.1)) (left_of (is_started e.1 && not (is_failed e.1)) (all_well done) h)))
      | false ↦ λ _ at. or_right (has_path paths e.0 && is_started e.1) (list_any (λ (e : Path × Outcome). has_path paths e.0 && is_started e.1) done)
          (some_started paths done q (right_of (is_started e.1 && not (is_failed e.1)) (all_well done) h) at in_paths)
    ] refl at

all_push : (done : Outcomes) (e : Path × Outcome) → all_well done ≡ true → (is_started e.1 && not (is_failed e.1)) ≡ true → all_well (done ++ e ∷ []) ≡ true
all_push [] e h g = ap (λ b. b && true) g
all_push (d ∷ done) e h g = both_true (is_started d.1 && not (is_failed d.1)) (all_well (done ++ e ∷ [])) (left_of (is_started d.1 && not (is_failed d.1)) (all_well done) h)
    (all_push done e (right_of (is_started d.1 && not (is_failed d.1)) (all_well done) h) g)

paths_push : (done : Outcomes) (path : Path) (outcome : Outcome) → paths_done (done ++ (path, outcome) ∷ []) ≡ paths_done done ++ path ∷ []
paths_push [] path outcome = refl
paths_push (d ∷ done) path outcome = ap (λ ps. d.0 ∷ ps) (paths_push done path outcome)

-- the outcome is that of a started task
ran_started : (fault : Option Fault) (outcome : Outcome) → EndsWith fault outcome → is_started outcome ≡ true
ran_started None outcome to = ap is_started to
ran_started (Some fault) outcome to = ap is_started to

label_started : (kinds : Kinds) (options : Options) (plan : Plan) (task : Task) (moment : Moment) (case : Option Early) (outcome : Outcome) → IsOutcomeAt kinds options plan task moment case outcome → is_started outcome ≡ true
label_started kinds options plan task moment (Some Skips) outcome label = ap is_started label
label_started kinds options plan task moment (Some HasNoActions) outcome label = ap is_started label ∙ one_of (some_outcome is_executed moment (needs_in plan task))
  where
    one_of : (b : Bool) → is_started (cond b outcomes.Executed outcomes.UpToDate) ≡ true
    one_of true = refl
    one_of false = refl
label_started kinds options plan task moment (Some (CannotRead hindrances)) outcome label = ap is_started label.2
label_started kinds options plan task moment (Some HasNoSource) outcome label = ap is_started label
label_started kinds options plan task moment None outcome label = elim label [
  | inl current ↦ ap is_started current.1
  | inr run ↦ ran_started (run_of kinds task moment.world.folder.files).fault outcome run.1
]

-- so is what an outline leaves open
outline_started : (options : Options) (plan : Plan) (moment : Moment) (task : Task) (runs idle : Bool) (outcome : Outcome)
    → AnswersAlone options plan moment task runs idle outcome → is_started outcome ≡ true
outline_started options plan moment task false idle outcome (inl skipped) = ap is_started skipped
outline_started options plan moment task false idle outcome (inr failed) = ap is_started failed
outline_started options plan moment task true true outcome (inl is) = ap is_started is ∙ started_idly (some_outcome is_executed moment (needs_in plan task))
  where
    started_idly : (b : Bool) → is_started (idle_outcome b) ≡ true
    started_idly true = refl
    started_idly false = refl
outline_started options plan moment task true true outcome (inr failed) = ap is_started failed
outline_started options plan moment task true false outcome may = may_started outcome may
  where
    may_started : (o : Outcome) → MayAnswer options task o → is_started o ≡ true
    may_started outcomes.Executed may = refl
    may_started outcomes.UpToDate may = refl
    may_started outcomes.Skipped may = absurd may
    may_started outcomes.NoSource may = refl
    may_started (outcomes.Failed fault) may = refl
    may_started outcomes.NotRun may = absurd may

-- ---- A task that is ready starts

all_right : {X : Type 0} (p : X → Bool) (xs ys : List X) → list_all p (xs ++ ys) ≡ true → list_all p ys ≡ true
all_right p [] ys e = e
all_right p (x ∷ xs) ys e = all_right p xs ys (right_of (p x) (list_all p (xs ++ ys)) e)

all_left : {X : Type 0} (p : X → Bool) (xs ys : List X) → list_all p (xs ++ ys) ≡ true → list_all p xs ≡ true
all_left p [] ys e = refl
all_left p (x ∷ xs) ys e = both_true (p x) (list_all p xs) (left_of (p x) (list_all p (xs ++ ys)) e) (all_left p xs ys (right_of (p x) (list_all p (xs ++ ys)) e))

module _ (options : Options) (request : Request) (plan : Plan) (schedule : IsSchedule request plan) where
  abbrev Called : Moment → Planned → Type 0
  Called moment planned = (planned.is_selected ≡ true)
      ⊎ (list_any (λ (other : Planned). has_path other.task.needs planned.task.path) plan ≡ true)
      ⊎ (finalizes_started plan moment planned.task.path ≡ true)

  is_called_so : (moment : Moment) (planned : Planned) → Called moment planned → is_uncalled plan moment planned ≡ false
  is_called_so moment planned called = elim called [
    | inl e ↦ ap (λ b. not b && not needed && not finalizes) e
    | inr others ↦ elim others [
      | inl e ↦ ap (λ b. not planned.is_selected && not b && not finalizes) e ∙ and_false (not planned.is_selected) (not finalizes)
      | inr e ↦ ap (λ b. not planned.is_selected && not needed && not b) e ∙ last_false (not planned.is_selected && not needed)
    ]
  ]
    where
      needed : Bool
      needed = list_any (λ (other : Planned). has_path other.task.needs planned.task.path) plan

      finalizes : Bool
      finalizes = finalizes_started plan moment planned.task.path

      and_false : (a b : Bool) → ((a && false) && b) ≡ false
      and_false true b = refl
      and_false false b = refl

      last_false : (a : Bool) → (a && false) ≡ false
      last_false true = refl
      last_false false = refl

  -- a task that another brings is needed, or finalizes a task that was started
  brought : (moment : Moment) (planned : Planned) → all_well moment.outcomes ≡ true → is_ready plan (paths_done moment.outcomes) planned.task ≡ true
      → (zs : List Planned) → AllByRecursion (λ (z : Planned). (p : Planned → Bool) → p z ≡ true → list_any p plan ≡ true) zs
      → AllByRecursion (λ (z : Planned). declaration_at request.registry z.task.path ≡ Some (Ok z.task)) zs
      → AllByRecursion (λ (z : Planned). has_path (brings request.registry z.task.path) planned.task.path ≡ true → Called moment planned) zs
  brought moment planned well ready [] in_plan declared = tt
  brought moment planned well ready (z ∷ zs) in_plan declared = (λ h. one h, brought moment planned well ready zs in_plan.1 declared.1)
    where
      path : Path
      path = planned.task.path

      one : has_path (brings request.registry z.task.path) planned.task.path ≡ true → Called moment planned
      one h =
          of_two (ap (λ o. has_path (brought_by o) planned.task.path) (sym declared.0)
          ∙ (sym (in_with_tasks [] (brought_by (declaration_at request.registry z.task.path)) planned.task.path) ∙ h))
        where
          of_two : has_path (z.task.needs ++ z.task.finalizers) planned.task.path ≡ true → Called moment planned
          of_two some = elim (either (has_path z.task.needs planned.task.path) (has_path z.task.finalizers planned.task.path) (sym (any_append (bytes_eq planned.task.path) z.task.needs z.task.finalizers) ∙ some)) [
            | inl needed ↦ inr (inl (in_plan.0 (λ (other : Planned). has_path other.task.needs planned.task.path) needed))
            | inr finalizer ↦
                let following = any_map (bytes_eq z.task.path) (λ (y : Planned). y.task.path) (filter (λ (y : Planned). has_path y.task.finalizers planned.task.path) plan)
                ∙ any_filter (λ (y : Planned). bytes_eq z.task.path y.task.path) (λ (y : Planned). has_path y.task.finalizers planned.task.path) plan
                (in_plan.0 (λ (y : Planned). has_path y.task.finalizers planned.task.path && bytes_eq z.task.path y.task.path)
                (both_true (has_path z.task.finalizers planned.task.path) (bytes_eq z.task.path z.task.path) finalizer (itself z.task.path))) in
                let exists = at_member (has_path (paths_done moment.outcomes)) (finalized_by plan planned.task.path) z.task.path
                (all_right (has_path (paths_done moment.outcomes)) (needs_in plan planned.task) (finalized_by plan planned.task.path)
                (all_left (has_path (paths_done moment.outcomes)) (needs_in plan planned.task ++ finalized_by plan planned.task.path) (filter (is_scheduled_in plan) planned.task.must_run_after) ready)) following in
                inr (inr (some_started (finalized_by plan planned.task.path) moment.outcomes z.task.path well exists following))
          ]

  called_by : (moment : Moment) (planned : Planned) → all_well moment.outcomes ≡ true → is_ready plan (paths_done moment.outcomes) planned.task ≡ true
      → planned.is_selected ≡ has_path (selected request) planned.task.path
      → {p : Path} → IsScheduled request p → p ≡ planned.task.path → Called moment planned
  called_by moment planned well ready selection (start {path = p} h open_path) e = inl (selection ∙ ap (has_path (selected request)) (sym e) ∙ h)
  called_by moment planned well ready selection (step {from = q} {path = p} r h open_path) e =
      at_planned (λ q. has_path (brings request.registry q) planned.task.path ≡ true → Called moment planned) plan q
      (brought moment planned well ready plan (members plan) schedule.declared) ((schedule.scheduled q).1 r)
      (ap (has_path (brings request.registry q)) (sym e) ∙ h)

  does_start : (moment : Moment) (placed : List Planned) (planned : Planned) (rest : List Planned) → plan ≡ placed ++ planned ∷ rest
      → all_well moment.outcomes ≡ true → is_ready plan (paths_done moment.outcomes) planned.task ≡ true → DoesStart options plan moment planned
  does_start moment placed planned rest whole well ready = record {
    needs_ended_well = none_lacking (needs_in plan planned.task) moment.outcomes well;
    is_called = is_called_so moment planned (called_by moment planned well ready here.0 ((schedule.scheduled planned.task.path).0 in_plan) refl);
    goes_on = inl (ap (λ b. b && not options.keep_going) (none_failed moment.outcomes well));
  }
    where
      here : (planned.is_selected ≡ has_path (selected request) planned.task.path) × AllByRecursion (λ (p : Planned). p.is_selected ≡ has_path (selected request) p.task.path) rest
      here = all_at _ placed planned rest (subst (AllByRecursion (λ (p : Planned). p.is_selected ≡ has_path (selected request) p.task.path)) whole schedule.selection)

      in_plan : is_scheduled_in plan planned.task.path ≡ true
      in_plan = ap (λ zs. has_path (order zs) planned.task.path) whole ∙ at_place placed
        where
          at_place : (before : List Planned) → has_path (order (before ++ planned ∷ rest)) planned.task.path ≡ true
          at_place [] = ap (λ b. b || has_path (order rest) planned.task.path) (itself planned.task.path)
          at_place (z ∷ before) = or_right (bytes_eq planned.task.path z.task.path) (has_path (order (before ++ planned ∷ rest)) planned.task.path) (at_place before)

  pub all_started : (kinds : Kinds) (may_occur : May) (observed : List Bytes) (placed rest : List Planned) (moment : Moment) (reports : List TaskReport) (new : World) (failures : ℕ)
      → plan ≡ placed ++ rest → all_well moment.outcomes ≡ true → stuck plan (paths_done moment.outcomes) rest ≡ []
      → list_any (λ (report : TaskReport). is_failed report.outcome) reports ≡ false
      → Executions (rules_of kinds options may_occur plan) all_assumed observed rest moment reports (existing new failures) → list_all ended_well reports ≡ true
  all_started kinds may_occur observed placed [] moment [] new failures whole well ready none executions = refl
  all_started kinds may_occur observed placed [] moment (report ∷ reports) new failures whole well ready none executions = absurd executions
  all_started kinds may_occur observed placed (planned ∷ rest) moment [] new failures whole well ready none executions = absurd executions
  all_started kinds may_occur observed placed (planned ∷ rest) moment (report ∷ reports) new failures whole well ready none executions =
      let is_next = ready_here plan (paths_done moment.outcomes) planned rest ready in
      let not_failed = none_left (is_failed report.outcome) (list_any (λ (r : TaskReport). is_failed r.outcome) reports) none in
      elim (executions.1.execution tt).2 [
        | inl started ↦
            let here = ended report executions.0.world executions.0.failures started.1 not_failed in
            both_true (ended_well report) (list_all ended_well reports) here
            (all_started kinds may_occur (observed ++ folder_contents moment.world) (placed ++ planned ∷ []) rest (moment_after moment report executions.0) reports new failures
            (whole ∙ grouped placed planned rest)
            (all_push moment.outcomes (report.path, report.outcome) well here)
            (ap (λ s. stuck plan s rest) (paths_push moment.outcomes report.path report.outcome ∙ ap (λ p. paths_done moment.outcomes ++ p ∷ []) (executions.1.execution tt).0) ∙ stuck_rest plan (paths_done moment.outcomes) planned rest ready)
            (none_right (is_failed report.outcome) (list_any (λ (r : TaskReport). is_failed r.outcome) reports) none) executions.2)
        | inr passed ↦ absurd (passed.0 (does_start moment placed planned rest whole well is_next))
      ]
    where
      ended : (r : TaskReport) (w : World) (count : ℕ) → StartedExecution (rules_of kinds options may_occur plan) moment planned.task r (existing w count) → is_failed r.outcome ≡ false → ended_well r ≡ true
      ended r w count execution e = both_true (is_started r.outcome) (not (is_failed r.outcome))
          (elim execution.label [
            | inl label ↦ label_started kinds options plan planned.task moment (early_case planned.task moment.world.folder) r.outcome label
            | inr fault ↦ ap is_started fault.2
          ]) (ap not e)

  -- The same by outlines, whatever the folder is.
  pub outlines_started : (placed rest : List Planned) (done : Outcomes) (reports : List TaskReport)
      → plan ≡ placed ++ rest → all_well done ≡ true → stuck plan (paths_done done) rest ≡ []
      → list_any (λ (report : TaskReport). is_failed report.outcome) reports ≡ false
      → AreOutlines options plan done rest reports → list_all ended_well reports ≡ true
  outlines_started placed [] done [] whole well ready none outlines = refl
  outlines_started placed [] done (report ∷ reports) whole well ready none outlines = absurd outlines
  outlines_started placed (planned ∷ rest) done [] whole well ready none outlines = absurd outlines
  outlines_started placed (planned ∷ rest) done (report ∷ reports) whole well ready none outlines =
      let is_next = ready_here plan (paths_done done) planned rest ready in
      let not_failed = none_left (is_failed report.outcome) (list_any (λ (r : TaskReport). is_failed r.outcome) reports) none in
      elim outlines.0.answer [
        | inl started ↦
            let here = both_true (is_started report.outcome) (not (is_failed report.outcome))
            (outline_started options plan (moment_by done) planned.task planned.task.runs (is_empty planned.task.actions) report.outcome started.1) (ap not not_failed) in
            both_true (ended_well report) (list_all ended_well reports) here
            (outlines_started (placed ++ planned ∷ []) rest (done ++ (report.path, report.outcome) ∷ []) reports
            (whole ∙ grouped placed planned rest)
            (all_push done (report.path, report.outcome) well here)
            (ap (λ s. stuck plan s rest) (paths_push done report.path report.outcome ∙ ap (λ p. paths_done done ++ p ∷ []) outlines.0.path) ∙ stuck_rest plan (paths_done done) planned rest ready)
            (none_right (is_failed report.outcome) (list_any (λ (r : TaskReport). is_failed r.outcome) reports) none) outlines.1)
        | inr passed ↦ absurd (passed.0 (does_start (moment_by done) placed planned rest whole well is_next))
      ]
