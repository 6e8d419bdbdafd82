use Rattle.std.proofs.Common.{rules, ◌≡◌, ◌++◌, ℕ, [], ◌∷◌, List, Some, Result, Ok, Err, IfOk, IfErr, OnOk, map, sym, ap, ap₂, subst, ◌∙◌, inl, inr}
use Rattle.std.specs.Result.{result_err}
use Rattle.std.specs.List.{AllByRecursion}
use Rattle.std.specs.VecDeque.Iter.{deque_iter_rest}
use Rattle.std.specs.declared.vec.Vec.{Vec}
use Rattle.std.specs.Global.{Global}
use Rattle.std.specs.declared.alloc.AllocError.{AllocError}
use Rattle.gb_core.specs.Lists.{first_of}
use Rattle.gb_folder.specs.Files.{Files}
use Rattle.gb_report.specs.declared.fault.Fault.{Fault}
use Rattle.gb_report.specs.declared.fault.Fault.TheVariants as faults
use Rattle.gb_action.specs.Changes.{Changes}
use Rattle.gb_action.specs.Files.{Trees}
use Rattle.gb_plan.specs.Ready.{IsReadyAction}
use Rattle.gb_plan.specs.declared.task.Action.{Action}
use Rattle.gb_plan.specs.declared.task.Output.{Output}
use Rattle.gb_plan.specs.Task.{is_output_of}
use Rattle.gb_semantics.specs.Headline.{Agrees}
use Rattle.gb_semantics.specs.Kinds.{Kinds, kind_of}
use Rattle.gb_semantics.specs.Made.{put_result}
use Rattle.gb_run.specs.Asking.{IsFullRequest}
use Rattle.gb_run.specs.RunInput.{run_input}
use Rattle.gb_run.proofs.Endings.{none_left}
use Rattle.gb_run.specs.Work.{part_of, work_of}
use Rattle.gb_run.specs.Digests.{prints_at}
use Rattle.gb_run.specs.Step.{IsKept}
use Rattle.gb_run.specs.Worked.{AreStepsAt, part_held, work_held}
use Rattle.gb_run.specs.declared.work.Part.{Part}
use Rattle.gb_run.specs.declared.work.Work.{Work}
use Rattle.gb_run.proofs.Working.{IsWorking, all_made, begins, worked, works_on, works_until}
use Rattle.gb_run.proofs.work.work_in_full.Goals as goal

abbrev Prints : Type 0
Prints = List ℕ × List (List ℕ × List ℕ)

all_last : {X : Type 0} (P : X → Type 0) (xs : List X) (x : X) → AllByRecursion P xs → P x → AllByRecursion P (xs ++ x ∷ [])
all_last P [] x all last = (last, tt)
all_last P (y ∷ xs) x all last = (all.0, all_last P xs x all.1 last)

pub loop-action-init : goal.loop-action-init
loop-action-init g c = record {
  full = search rules;
  placed = search rules;
  ready = search rules;
  places = search rules;
  works = λ kinds agrees. begins (run_input kinds c.args.task.now c.args.files c.args.changes []) _ _ _ _ (search rules) c.new.ensures c.new-2.ensures c.new-parts.ensures.items;
}

pub loop-action-preserved : goal.loop-action-preserved
loop-action-preserved g c =
    let task = c.args.task.now in
    let old = c.loop-action in
    let action = c.in-Some.action.now in
    let left = deque_iter_rest c.next.new.self in
    let next : deque_iter_rest old.action-iterator ≡ action ∷ left = c.in-Some.ensures.steps in
    record {
      full =
          subst (λ (files : Trees). IsFullRequest task files c.args.changes c.part_of.new.working.request) old.invariant.full.files
          (subst (λ (lists : List Changes). IsFullRequest task old.working.request.files lists c.part_of.new.working.request) old.invariant.full.lists c.in-Ok.ensures.full);
      placed = c.in-Ok.ensures.placed;
      ready = (subst (λ (actions : List Action). AllByRecursion (IsReadyAction g.A.Actions.meanings c.args.table.now task) actions) next old.invariant.ready).1;
      places = subst (λ (parts : List Part). AllByRecursion (AreStepsAt (is_output_of task)) parts) (sym c.in_ok-push-in-Ok.ensures.items) (all_last (AreStepsAt (is_output_of task)) old.parts.items c.in-Ok.part old.invariant.places c.in-Ok.ensures.places);
      works = λ kinds agrees.
          let input = run_input kinds task c.args.files c.args.changes [] in
          subst (λ (parts : List Part). IsWorking input left c.part_of.new.working.taken c.part_of.new.working.digests parts) (sym c.in_ok-push-in-Ok.ensures.items)
          (works_on input action left old.working.taken old.working.digests old.parts.items
          (subst (λ (actions : List Action). IsWorking input actions old.working.taken old.working.digests old.parts.items) next (old.invariant.works kinds agrees))
          c.in-Ok.part c.part_of.new.working.taken c.part_of.new.working.digests
          (λ held is.
          subst (λ (files : Trees). (more : Files) × (put_result task.outputs held (kinds.makes (kind_of action) action.args task.values files) ≡ Ok more) × IsKept more c.part_of.new.working.taken c.part_of.new.working.digests
          × (part_held c.in-Ok.part ≡ part_of (run_input kinds task files c.args.changes []) action)) old.invariant.full.files
          (subst (λ (lists : List Changes). (more : Files) × (put_result task.outputs held (kinds.makes (kind_of action) action.args task.values old.working.request.files) ≡ Ok more) × IsKept more c.part_of.new.working.taken c.part_of.new.working.digests
          × (part_held c.in-Ok.part ≡ part_of (run_input kinds task old.working.request.files lists []) action)) old.invariant.full.lists
          (c.in-Ok.ensures.ok kinds agrees held is))));
    }

-- what holds of a value together with another
ok_both : {T E : Type 0} (P Q : T → Type 0) (X : Type 0) (r : Result T E) → IfOk r P → OnOk r X → ((x : T) → P x → X → Q x) → IfOk r Q
ok_both P Q X (Ok x) p beside so = so x p beside
ok_both P Q X (Err e) p beside so = tt

pub returns-in-Err-clause-places : goal.returns-in-Err-clause-places
returns-in-Err-clause-places g c =
    ok_both (λ (work : Work). (work.parts ≡ c.loop-action.parts) × (work.made ≡ Err c.in-Err.fault)) (λ (work : Work). AllByRecursion (AreStepsAt (is_output_of c.args.task.now)) work.parts.items)
    (c.in-Err.fault ≡ faults.OutOfMemory → ⊥) c.stopped.result c.stopped.ensures.same c.stopped.ensures.own (λ work same own.
    subst (λ (ps : Vec Part Global). AllByRecursion (AreStepsAt (is_output_of c.args.task.now)) ps.items) (sym same.0) c.loop-action.invariant.places)

pub returns-in-Err-clause-blames : goal.returns-in-Err-clause-blames
returns-in-Err-clause-blames g c =
    ok_both (λ (work : Work). (work.parts ≡ c.loop-action.parts) × (work.made ≡ Err c.in-Err.fault)) (λ (work : Work). IfErr work.made (λ fault. (place : List ℕ) → fault ≡ faults.Device place → ⊥))
    (c.in-Err.fault ≡ faults.OutOfMemory → ⊥) c.stopped.result c.stopped.ensures.same c.stopped.ensures.own (λ work same own.
    subst (λ (made : Result (Vec Prints Global) Fault). IfErr made (λ fault. (place : List ℕ) → fault ≡ faults.Device place → ⊥)) (sym same.1) c.in-Err.ensures.blames)

-- a work that failed has made nothing
failed : (P : Vec Prints Global → Type 0) (parts : Vec Part Global) (fault : Fault) (r : Result Work AllocError) → IfOk r (λ (work : Work). (work.parts ≡ parts) × (work.made ≡ Err fault)) → IfOk r (λ work. IfOk work.made P)
failed P parts fault (Ok work) same = subst (λ (made : Result (Vec Prints Global) Fault). IfOk made P) (sym same.1) tt
failed P parts fault (Err e) same = tt

pub returns-in-Err-clause-named : goal.returns-in-Err-clause-named
returns-in-Err-clause-named g c = failed _ c.loop-action.parts c.in-Err.fault c.stopped.result c.stopped.ensures.same

pub returns-in-Err-clause-made : goal.returns-in-Err-clause-made
returns-in-Err-clause-made g c = failed _ c.loop-action.parts c.in-Err.fault c.stopped.result c.stopped.ensures.same

pub returns-in-Err-clause-work : goal.returns-in-Err-clause-work
returns-in-Err-clause-work g c =
    let task = c.args.task.now in
    let old = c.loop-action in
    let action = c.in-Some.action.now in
    let left = deque_iter_rest c.next.new.self in
    let next : deque_iter_rest old.action-iterator ≡ action ∷ left = c.in-Some.ensures.steps in
    let fault = c.in-Err.fault in
    ok_both (λ (work : Work). (work.parts ≡ old.parts) × (work.made ≡ Err fault))
    (λ (work : Work). (kinds : Kinds) → Agrees g.A.Actions.meanings c.args.table.now kinds → work_held work ≡ work_of (run_input kinds task c.args.files c.args.changes []) [] task.actions)
    (fault ≡ faults.OutOfMemory → ⊥) c.stopped.result c.stopped.ensures.same c.stopped.ensures.own (λ work same own kinds agrees.
    let input = run_input kinds task c.args.files c.args.changes [] in
    ap₂ (λ (ps : Vec Part Global) (made : Result (Vec Prints Global) Fault). record { parts = map part_held ps.items; fault = result_err made }) same.0 same.1
    ∙ sym (elim c.in-Err.ensures.err [
      | inl memory ↦ absurd (own memory)
      | inr stops ↦
          works_until input action left old.working.taken old.working.digests old.parts.items
          (subst (λ (actions : List Action). IsWorking input actions old.working.taken old.working.digests old.parts.items) next (old.invariant.works kinds agrees)) fault
          (λ held is. subst (λ (files : Trees). (hindrances : List Fault) × (put_result task.outputs held (kinds.makes (kind_of action) action.args task.values files) ≡ Err hindrances) × (first_of hindrances ≡ Some fault))
          old.invariant.full.files (stops kinds agrees held is))
    ]))

pub returns-clause-work : goal.returns-clause-work
returns-clause-work g c = λ kinds agrees.
    let old = c.loop-action in
    let input = run_input kinds c.args.task.now c.args.files c.args.changes [] in
    let nothing = none_left (deque_iter_rest old.action-iterator) c.in-None.ensures.steps.0 in
    sym (worked input old.working.taken old.working.digests old.parts.items
    (subst (λ (actions : List Action). IsWorking input actions old.working.taken old.working.digests old.parts.items) nothing (old.invariant.works kinds agrees)))

pub returns-clause-named : goal.returns-clause-named
returns-clause-named g c = c.in_ok-made.ensures.named ∙ ap (λ (outputs : List Output). map (λ (output : Output). output.name) outputs) c.as_slice.ensures

pub returns-clause-made : goal.returns-clause-made
returns-clause-made g c = λ kinds agrees.
    let old = c.loop-action in
    let input = run_input kinds c.args.task.now c.args.files c.args.changes [] in
    let nothing = none_left (deque_iter_rest old.action-iterator) c.in-None.ensures.steps.0 in
    let all = all_made input old.working.taken old.working.digests old.parts.items
    (subst (λ (actions : List Action). IsWorking input actions old.working.taken old.working.digests old.parts.items) nothing (old.invariant.works kinds agrees)) in
    (all.0, all.1, c.in_ok-made.ensures.prints all.0 all.2 ∙ ap (λ (outputs : List Output). prints_at outputs all.0) c.as_slice.ensures)
