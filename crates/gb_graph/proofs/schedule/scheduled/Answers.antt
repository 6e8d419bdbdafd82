use Rattle.std.proofs.Common.{◌≡◌, ◌⊎◌, List, Ok, Err, inl, inr, sym, subst, refl}
use Rattle.std.proofs.lemmas.Result.{err_from_is_err_and}
use Rattle.gb_report.specs.declared.fault.Fault.{Fault}
use Rattle.gb_report.specs.declared.fault.Fault.TheVariants.{OutOfMemory}
use Rattle.gb_plan.specs.Task.{Path}
use Rattle.gb_plan.specs.Graph.{Request, words_of}
use Rattle.gb_plan.specs.Refusal.{IsTaskFault, request_of}
use Rattle.gb_graph.specs.Words.{AreDone, asked}
use Rattle.gb_graph.proofs.Selections.{err_so}
use Rattle.gb_graph.proofs.Schedules.{lists_registered, asks_for, are_done}
use Rattle.gb_graph.proofs.schedule.scheduled.Goals as goal

pub declared_of-requires : goal.declared_of-requires
declared_of-requires g c =
    let registry = g.T.Tasks.registry c.args.tasks.now in
    lists_registered registry (words_of registry c.args.requested.now) c.in_ok-selection.selection.requested.items c.in_ok-selection.ensures.requested

pub planned_of-requires : goal.planned_of-requires
planned_of-requires g c = c.in_ok-found.ensures.once

pub returns : goal.returns
returns g c =
    let registry = g.T.Tasks.registry c.args.tasks.now in
    let request = asked registry c.args.requested.now c.args.excluded.now in
    let lists : List (List Path) = c.in_ok-selection.selection.requested.items in
    let asks = asks_for registry c.args.requested.now c.args.excluded.now lists c.in_ok-selection.selection.excluded.items c.in_ok-selection.ensures.requested c.in_ok-selection.ensures.excluded in
    record {
      kept = c.in_ok-found.ensures.kept;
      request = c.in_ok-selection.ensures.request;
      scheduled = c.in_ok-planned_of.ensures request
          (subst (λ (ls : List (List Path)). AreDone request c.in_ok-found.found.items ls) (sym c.as_slice.ensures.value)
          (are_done request registry c.in_ok-found.found.items lists refl c.in_ok-found.ensures.declared (c.in_ok-found.ensures.queued request asks) c.in_ok-selection.ensures.requested));
      fault = tt;
    }

pub returns-in_err-found-clause-fault : goal.returns-in_err-found-clause-fault
returns-in_err-found-clause-fault g c =
    let registry = g.T.Tasks.registry c.args.tasks.now in
    let request = asked registry c.args.requested.now c.args.excluded.now in
    let asks = asks_for registry c.args.requested.now c.args.excluded.now c.in_ok-selection.selection.requested.items c.in_ok-selection.selection.excluded.items c.in_ok-selection.ensures.requested c.in_ok-selection.ensures.excluded in
    let fault : Fault = c.in_err-found.field-0.0 in
    let p = err_from_is_err_and c.from_residual-in_err-found.result c.from_residual-in_err-found.ensures.1 in
    err_so (λ f. (f ≡ OutOfMemory) ⊎ ((request_of registry c.args.requested.now c.args.excluded.now ≡ Err f) ⊎ ((r : Request) × (request_of registry c.args.requested.now c.args.excluded.now ≡ Ok r) × IsTaskFault r f)))
    c.from_residual-in_err-found.result p.0 fault p.1 p.2 (elim c.in_err-found.ensures.fault [
      | inl e ↦ inl e
      | inr at ↦ inr (inr (request, c.in_ok-selection.ensures.request, at request asks))
    ])
