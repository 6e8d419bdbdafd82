use Rattle.std.proofs.Common.{◌⊎◌, Vec, Result, IfErr, ◌≡◌, ◌<◌, ◌≤◌, [], Some, Ok, inl, inr, true, length, get_or, sym, ap, subst, ◌∙◌, arith}
use Rattle.std.proofs.lemmas.Result.{err_from_is_err_and}
use Rattle.std.specs.Global.{Global}
use Rattle.std.specs.BTreeSet.{contains}
use Rattle.gb_report.specs.declared.fault.Fault.{Fault}
use Rattle.gb_report.specs.declared.fault.Fault.TheVariants.{OutOfMemory}
use Rattle.gb_plan.specs.Refusal.{IsTaskFault}
use Rattle.gb_core.specs.Lists.{byte_order}
use Rattle.gb_plan.specs.declared.task.TaskDeclaration.{TaskDeclaration}
use Rattle.gb_plan.specs.Task.{Path, has_path}
use Rattle.gb_plan.specs.Graph.{Registry, Request, IsRegistry, brings, declaration_at, no_repeats, paths_of}
use Rattle.gb_graph.specs.Queue.{HasCome, IsAsked, added}
use Rattle.gb_graph.proofs.Edges.{has_at}
use Rattle.gb_graph.proofs.Queues.{come_begin, come_on, come_fault, come_end, once_added, in_added, brought_registered, no_more}
use Rattle.gb_graph.proofs.queue.declare_all.Goals as goal

pub declare-requires-clause-within : goal.declare-requires-clause-within
declare-requires-clause-within g c = omega (arith, c.loop-at-test.true, c.len.ensures)

pub declare-requires-clause-registered : goal.declare-requires-clause-registered
declare-requires-clause-registered g c =
    let queue = c.loop-at.queue.items in
    let lt : c.loop-at.at < length queue = omega (arith, c.loop-at-test.true, c.len.ensures) in
    ap (λ r. has_path (paths_of r) (get_or queue c.loop-at.at [])) c.loop-at.invariant.kept
    ∙ c.loop-at.invariant.registered (get_or queue c.loop-at.at []) (has_at queue c.loop-at.at lt)

pub loop-at-init : goal.loop-at-init
loop-at-init g c = record {
  kept = λ i. g.T.Tasks.registry c.args.tasks.now;
  known = c.requires.known;
  once = c.requires.once;
  registered = c.requires.registered;
  is_at = c.new-found.ensures.len;
  come = subst (HasCome (g.T.Tasks.registry c.args.tasks.now) c.args.queue.now.items (contains byte_order c.args.excluded.now) c.args.queue.now.items) (sym c.new-found.ensures.items)
      (come_begin (g.T.Tasks.registry c.args.tasks.now) c.args.queue.now.items (contains byte_order c.args.excluded.now));
}

pub loop-at-preserved : goal.loop-at-preserved
loop-at-preserved g c =
    let registry = g.T.Tasks.registry c.args.tasks.now in
    let sound : IsRegistry registry = g.T.Tasks.sound c.args.tasks.now in
    let shut = contains byte_order c.args.excluded.now in
    let begin = c.args.queue.now.items in
    let queue = c.loop-at.queue.items in
    let found = c.loop-at.found.items in
    let at = c.loop-at.at in
    let task = c.in_ok-declare.field-0 in
    let old = c.loop-at.invariant in
    let lt : at < length queue = omega (arith, c.loop-at-test.true, c.len.ensures) in
    let path : Path = get_or queue at [] in
    let declared : declaration_at registry path ≡ Some (Ok task) = ap (λ r. declaration_at r path) (sym old.kept) ∙ c.in_ok-declare.ensures.task in
    let grown : c.declare.new.queue.items ≡ added shut queue (brings registry path) = c.in_ok-declare.ensures.queue ∙ ap (λ r. added shut queue (brings r path)) old.kept in
    let is_at : length found ≡ at = omega (arith, old.is_at) in
    record {
      kept = c.declare.ensures.kept ∙ old.kept;
      known = c.in_ok-declare.ensures.known;
      once = ap no_repeats grown ∙ once_added shut queue (brings registry path) old.once;
      registered = λ p h.
          in_added shut (λ q. has_path (paths_of registry) q ≡ true) queue (brings registry path) old.registered (brought_registered registry sound path task declared) p (ap (λ q. has_path q p) (sym grown) ∙ h);
      is_at = omega (arith, c.in_ok-push.ensures.len, old.is_at);
      come = subst (HasCome registry begin shut c.declare.new.queue.items) (sym c.in_ok-push.ensures.items)
          (come_on registry sound begin shut queue found at is_at task declared old.come lt c.declare.new.queue.items grown);
    }

pub loop-at-smaller : goal.loop-at-smaller
loop-at-smaller g c =
    let old = c.loop-at.invariant in
    let registry = g.T.Tasks.registry c.args.tasks.now in
    let queue = c.loop-at.queue.items in
    let most = no_more queue (paths_of registry) old.once old.registered in
    let same = ap (λ (r : Registry). length (paths_of r)) (c.declare.ensures.kept ∙ old.kept) in
    let here = ap (λ (r : Registry). length (paths_of r)) old.kept in
    omega (arith, most, same, here, c.loop-at-test.true, c.len.ensures)

pub returns : goal.returns
returns g c =
    let registry = g.T.Tasks.registry c.args.tasks.now in
    let old = c.loop-at.invariant in
    let queue = c.loop-at.queue.items in
    let found = c.loop-at.found.items in
    let is_at : length found ≡ c.loop-at.at = omega (arith, old.is_at) in
    let over : length queue ≤ c.loop-at.at = omega (arith, c.loop-at-test.false, c.len.ensures) in
    let end = come_end registry (g.T.Tasks.sound c.args.tasks.now) c.args.queue.now.items (contains byte_order c.args.excluded.now) queue found c.loop-at.at is_at old.come over in
    record {
      kept = old.kept;
      declared = old.come.declared;
      once = ap no_repeats (sym end.0) ∙ old.once;
      queued = end.1;
      fault = tt;
    }

pub returns-in_err-declare-clause-fault : goal.returns-in_err-declare-clause-fault
returns-in_err-declare-clause-fault g c =
    let registry = g.T.Tasks.registry c.args.tasks.now in
    let shut = contains byte_order c.args.excluded.now in
    let begin = c.args.queue.now.items in
    let old = c.loop-at.invariant in
    let queue = c.loop-at.queue.items in
    let found = c.loop-at.found.items in
    let at = c.loop-at.at in
    let is_at : length found ≡ at = omega (arith, old.is_at) in
    let lt : at < length queue = omega (arith, c.loop-at-test.true, c.len.ensures) in
    let fault : Fault = c.in_err-declare.field-0.0 in
    let p = err_from_is_err_and c.from_residual.result c.from_residual.ensures.1 in
    subst (λ (r : Result (Vec TaskDeclaration Global) Fault). IfErr r (λ f. (f ≡ OutOfMemory) ⊎ ((request : Request) → IsAsked request registry begin shut → IsTaskFault request f))) (sym p.1)
    (subst (λ f. (f ≡ OutOfMemory) ⊎ ((request : Request) → IsAsked request registry begin shut → IsTaskFault request f)) (sym p.2)
    (elim c.in_err-declare.ensures.fault [
      | inl e ↦ inl e
      | inr e ↦ inr (come_fault registry (g.T.Tasks.sound c.args.tasks.now) begin shut queue found at is_at old.come lt fault (ap (λ r. declaration_at r (get_or queue at [])) (sym old.kept) ∙ e))
    ]))
