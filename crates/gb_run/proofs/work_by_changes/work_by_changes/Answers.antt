use Rattle.std.proofs.Common.{rules, ◌≡◌, ◌++◌, ℕ, [], ◌∷◌, List, Result, Ok, Err, IfOk, IfErr, OnOk, map, sym, ap, ap₂, subst, ◌∙◌, inl, inr}
use Rattle.std.specs.Global.{Global}
use Rattle.std.specs.List.{AllByRecursion}
use Rattle.std.specs.Result.{result_err}
use Rattle.std.specs.VecDeque.Iter.{deque_iter_rest}
use Rattle.std.specs.declared.alloc.AllocError.{AllocError}
use Rattle.std.specs.declared.vec.Vec.{Vec}
use Rattle.gb_action.specs.Changes.{Changes}
use Rattle.gb_action.specs.Files.{Trees}
use Rattle.gb_action.specs.declared.output_files.OutputFiles.{OutputFiles}
use Rattle.gb_report.specs.declared.fault.Fault.{Fault}
use Rattle.gb_report.specs.declared.fault.Fault.TheVariants as faults
use Rattle.gb_plan.specs.Ready.{IsReadyAction}
use Rattle.gb_plan.specs.Task.{is_output_of}
use Rattle.gb_plan.specs.declared.task.Action.{Action}
use Rattle.gb_plan.specs.declared.task.Output.{Output}
use Rattle.gb_semantics.specs.Headline.{Agrees}
use Rattle.gb_semantics.specs.Kinds.{Kinds}
use Rattle.gb_semantics.specs.Made.{put_over}
use Rattle.gb_run.specs.Asking.{IsFullRequest, made_by}
use Rattle.gb_run.specs.AskingChanges.{CanGoOn}
use Rattle.gb_run.specs.ChangeDigests.{at_places, digests_at}
use Rattle.gb_run.specs.Digests.{prints_at}
use Rattle.gb_run.specs.Execution.{IsItsExecution, Makes}
use Rattle.gb_run.specs.WorkByChanges.{FailsWith, Increment, IsPart, IsWorkByChanges, increment_of}
use Rattle.gb_run.specs.Work.{Work as SaidWork}
use Rattle.gb_run.specs.Worked.{AreStepsAt, part_held, work_held}
use Rattle.gb_run.specs.declared.work.Part.{Part}
use Rattle.gb_run.specs.declared.work.Work.{Work}
use Rattle.gb_run.proofs.Endings.{none_left}
use Rattle.gb_run.proofs.Fitting.{all_fitting}
use Rattle.gb_run.proofs.Owned.{digests_owned}
use Rattle.gb_run.proofs.Reporting.{IsReporting, reports_all, reports_more, reports_none}
use Rattle.gb_run.proofs.WorkingBy.{IsWorkingBy, works_all, works_more, works_none, works_until}
use Rattle.gb_run.proofs.work_by_changes.work_by_changes.Goals as goal

abbrev Prints : Type 0
Prints = List ℕ × List (List ℕ × List ℕ)

all_last : {X : Type 0} (P : X → Type 0) (xs : List X) (x : X) → AllByRecursion P xs → P x → AllByRecursion P (xs ++ x ∷ [])
all_last P [] x all last = (last, tt)
all_last P (y ∷ xs) x all last = (all.0, all_last P xs x all.1 last)

pub loop-action-init : goal.loop-action-init
loop-action-init g c = record {
  full = search rules;
  observed = search rules;
  ready = search rules;
  able = search rules;
  places = search rules;
  works = λ kinds agrees. works_none (increment_of kinds c.args.task.now c.args.files c.args.changes c.args.outputs) _ _ (search rules) c.new-parts.ensures.items;
  makes = λ kinds agrees old existing sorted good goes_on.
      reports_none kinds c.args.task.now c.args.files c.args.changes existing _ _ (search rules)
      (c.in_ok-digests.ensures ∙ ap (λ (outputs : List Output). put_over [] (at_places (digests_at outputs c.as_slice-2.result.now))) c.as_slice.ensures
      ∙ digests_owned c.args.task.now existing c.args.outputs c.as_slice-2.result.now sorted good goes_on.not_own goes_on.exists (c.as_slice-2.ensures.value ∙ c.requires.prints));
}

-- what holds of the current request holds of the run
same_run : (P : Increment → Type 0) (kinds : Kinds) (task : _) (files trees : Trees) (lists changes : List Changes) (observed outputs : List OutputFiles) → files ≡ trees → lists ≡ changes → observed ≡ outputs
    → P (increment_of kinds task files lists observed) → P (increment_of kinds task trees changes outputs)
same_run P kinds task files trees lists changes observed outputs a b c is =
    subst (λ (fs : Trees). P (increment_of kinds task fs changes outputs)) a
    (subst (λ (ls : List Changes). P (increment_of kinds task files ls outputs)) b
    (subst (λ (ss : List OutputFiles). P (increment_of kinds task files lists ss)) c is))

pub loop-action-preserved : goal.loop-action-preserved
loop-action-preserved g c =
    let task = c.args.task.now in
    let old = c.loop-action in
    let action = c.in-Some.action.now in
    let left = deque_iter_rest c.next.new.self in
    let next : deque_iter_rest old.action-iterator ≡ action ∷ left = c.in-Some.ensures.steps in
    let now = c.part_of.new in
    record {
      full =
          subst (λ (files : Trees). IsFullRequest task files c.args.changes now.working.request) old.invariant.full.files
          (subst (λ (lists : List Changes). IsFullRequest task old.working.request.files lists now.working.request) old.invariant.full.lists c.in-Ok.ensures.full);
      observed = c.in-Ok.ensures.observed ∙ old.invariant.observed;
      ready = (subst (λ (actions : List Action). AllByRecursion (IsReadyAction g.A.Actions.meanings c.args.table.now task) actions) next old.invariant.ready).1;
      able = (subst (λ (actions : List Action). AllByRecursion (CanGoOn g.A.Actions.meanings c.args.table.now) actions) next old.invariant.able).1;
      places = subst (λ (parts : List Part). AllByRecursion (AreStepsAt (is_output_of task)) parts) (sym c.in_ok-push-in-Ok.ensures.items) (all_last (AreStepsAt (is_output_of task)) old.parts.items c.in-Ok.part old.invariant.places c.in-Ok.ensures.places);
      works = λ kinds agrees.
          let run = increment_of kinds task c.args.files c.args.changes c.args.outputs in
          subst (λ (parts : List Part). IsWorkingBy run left parts) (sym c.in_ok-push-in-Ok.ensures.items)
          (works_more run action left old.parts.items
          (subst (λ (actions : List Action). IsWorkingBy run actions old.parts.items) next (old.invariant.works kinds agrees))
          c.in-Ok.part
          (same_run (λ r. IsPart r action (part_held c.in-Ok.part)) kinds task old.working.request.files c.args.files old.working.request.changes.lists c.args.changes old.working.observed c.args.outputs
          old.invariant.full.files old.invariant.full.lists old.invariant.observed (c.in-Ok.ensures.ok kinds agrees)));
      makes = λ kinds agrees before existing sorted good goes_on.
          reports_more kinds task c.args.files c.args.changes existing c.args.outputs before goes_on
          (all_fitting g.A.Actions.meanings kinds c.args.table.now task task.actions g.A.Actions.own_output agrees c.requires.ready)
          action left old.working.digests
          (subst (λ (actions : List Action). IsReporting kinds task c.args.files c.args.changes existing actions old.working.digests) next (old.invariant.makes kinds agrees before existing sorted good goes_on))
          now.working.digests
          (λ fits quiet.
          subst (λ (trees : Trees). (made_by kinds task action trees ≡ Ok []) × (now.working.digests ≡ old.working.digests)) old.invariant.full.files
          (c.in-Ok.ensures.kept kinds agrees fits quiet))
          (λ turn is.
          subst (λ (trees : Trees). Makes kinds task action trees now.working.digests) old.invariant.full.files
          (c.in-Ok.ensures.makes kinds agrees existing sorted good
          (subst (λ (trees : Trees). IsItsExecution kinds task action trees old.working.request.changes.lists old.working.observed existing) (sym old.invariant.full.files)
          (subst (λ (lists : List Changes). IsItsExecution kinds task action c.args.files lists old.working.observed existing) (sym old.invariant.full.lists)
          (subst (λ (observed : List OutputFiles). IsItsExecution kinds task action c.args.files c.args.changes observed existing) (sym old.invariant.observed) turn))) is));
    }

-- what holds of a value together with another
ok_both : {T E : Type 0} (P Q : T → Type 0) (X : Type 0) (r : Result T E) → IfOk r P → OnOk r X → ((x : T) → P x → X → Q x) → IfOk r Q
ok_both P Q X (Ok x) p beside so = so x p beside
ok_both P Q X (Err e) p beside so = tt

-- a work that failed has made nothing
failed : (P : Vec Prints Global → Type 0) (parts : Vec Part Global) (fault : Fault) (r : Result Work AllocError) → IfOk r (λ (work : Work). (work.parts ≡ parts) × (work.made ≡ Err fault)) → IfOk r (λ work. IfOk work.made P)
failed P parts fault (Ok work) same = subst (λ (made : Result (Vec Prints Global) Fault). IfOk made P) (sym same.1) tt
failed P parts fault (Err e) same = tt

pub returns-in-Err-clause-places : goal.returns-in-Err-clause-places
returns-in-Err-clause-places g c =
    ok_both (λ (work : Work). (work.parts ≡ c.loop-action.parts) × (work.made ≡ Err c.in-Err.fault)) (λ (work : Work). AllByRecursion (AreStepsAt (is_output_of c.args.task.now)) work.parts.items)
    (c.in-Err.fault ≡ faults.OutOfMemory → ⊥) c.stopped.result c.stopped.ensures.same c.stopped.ensures.own (λ work same own.
    subst (λ (ps : Vec Part Global). AllByRecursion (AreStepsAt (is_output_of c.args.task.now)) ps.items) (sym same.0) c.loop-action.invariant.places)

pub returns-in-Err-clause-blames : goal.returns-in-Err-clause-blames
returns-in-Err-clause-blames g c =
    ok_both (λ (work : Work). (work.parts ≡ c.loop-action.parts) × (work.made ≡ Err c.in-Err.fault)) (λ (work : Work). IfErr work.made (λ fault. (place : List ℕ) → fault ≡ faults.Device place → ⊥))
    (c.in-Err.fault ≡ faults.OutOfMemory → ⊥) c.stopped.result c.stopped.ensures.same c.stopped.ensures.own (λ work same own.
    subst (λ (made : Result (Vec Prints Global) Fault). IfErr made (λ fault. (place : List ℕ) → fault ≡ faults.Device place → ⊥)) (sym same.1) c.in-Err.ensures.blames)

pub returns-in-Err-clause-named : goal.returns-in-Err-clause-named
returns-in-Err-clause-named g c = failed _ c.loop-action.parts c.in-Err.fault c.stopped.result c.stopped.ensures.same

pub returns-in-Err-clause-made : goal.returns-in-Err-clause-made
returns-in-Err-clause-made g c = failed _ c.loop-action.parts c.in-Err.fault c.stopped.result c.stopped.ensures.same

pub returns-in-Err-clause-work : goal.returns-in-Err-clause-work
returns-in-Err-clause-work g c =
    let task = c.args.task.now in
    let old = c.loop-action in
    let action = c.in-Some.action.now in
    let left = deque_iter_rest c.next.new.self in
    let next : deque_iter_rest old.action-iterator ≡ action ∷ left = c.in-Some.ensures.steps in
    let fault = c.in-Err.fault in
    ok_both (λ (work : Work). (work.parts ≡ old.parts) × (work.made ≡ Err fault))
    (λ (work : Work). (kinds : Kinds) → Agrees g.A.Actions.meanings c.args.table.now kinds → IsWorkByChanges (increment_of kinds task c.args.files c.args.changes c.args.outputs) (work_held work))
    (fault ≡ faults.OutOfMemory → ⊥) c.stopped.result c.stopped.ensures.same c.stopped.ensures.own (λ work same own kinds agrees.
    let run = increment_of kinds task c.args.files c.args.changes c.args.outputs in
    subst (λ (w : SaidWork). IsWorkByChanges run w) (sym (ap₂ (λ (ps : Vec Part Global) (made : Result (Vec Prints Global) Fault). record { parts = map part_held ps.items; fault = result_err made }) same.0 same.1))
    (elim c.in-Err.ensures.err [
      | inl memory ↦ absurd (own memory)
      | inr fails ↦
          works_until run action left old.parts.items (subst (λ (actions : List Action). IsWorkingBy run actions old.parts.items) next (old.invariant.works kinds agrees)) fault
          (same_run (λ r. FailsWith r action fault) kinds task old.working.request.files c.args.files old.working.request.changes.lists c.args.changes old.working.observed c.args.outputs
          old.invariant.full.files old.invariant.full.lists old.invariant.observed (fails kinds agrees))
    ]))

pub returns-clause-work : goal.returns-clause-work
returns-clause-work g c = λ kinds agrees.
    let old = c.loop-action in
    let run = increment_of kinds c.args.task.now c.args.files c.args.changes c.args.outputs in
    let nothing = none_left (deque_iter_rest old.action-iterator) c.in-None.ensures.steps.0 in
    works_all run old.parts.items (subst (λ (actions : List Action). IsWorkingBy run actions old.parts.items) nothing (old.invariant.works kinds agrees))

pub returns-clause-named : goal.returns-clause-named
returns-clause-named g c = c.in_ok-made.ensures.named ∙ ap (λ (outputs : List Output). map (λ (output : Output). output.name) outputs) c.as_slice-3.ensures

pub returns-clause-made : goal.returns-clause-made
returns-clause-made g c = λ kinds agrees before existing sorted good goes_on.
    let task = c.args.task.now in
    let old = c.loop-action in
    let all = reports_all kinds task c.args.files c.args.changes existing c.args.outputs before goes_on
    (all_fitting g.A.Actions.meanings kinds c.args.table.now task task.actions g.A.Actions.own_output agrees c.requires.ready) old.working.digests
    (subst (λ (actions : List Action). IsReporting kinds task c.args.files c.args.changes existing actions old.working.digests)
    (none_left (deque_iter_rest old.action-iterator) c.in-None.ensures.steps.0) (old.invariant.makes kinds agrees before existing sorted good goes_on)) in
    (all.0, all.1, c.in_ok-made.ensures.prints all.0 all.2 ∙ ap (λ (outputs : List Output). prints_at outputs all.0) c.as_slice-3.ensures)
