use Rattle.std.proofs.Common.{◌≡◌, ◌⊎◌, [], Vec, inl, inr, true, sym, ap, ◌∙◌}
use Rattle.std.proofs.lemmas.Result.{IfOk-weaker}
use Rattle.std.specs.Global.{Global}
use Rattle.std.specs.BTreeSet.{contains}
use Rattle.gb_core.specs.Lists.{byte_order}
use Rattle.gb_report.specs.declared.fault.Fault.TheVariants.{OutOfMemory}
use Rattle.gb_plan.specs.declared.task.TaskDeclaration.{TaskDeclaration}
use Rattle.gb_plan.specs.Task.{has_path}
use Rattle.gb_plan.specs.Graph.{Request, no_repeats, paths_of}
use Rattle.gb_plan.specs.Refusal.{IsTaskFault, Queued}
use Rattle.gb_graph.specs.Queue.{IsAsked, added, paths_in}
use Rattle.gb_graph.specs.Words.{AsksFor, joined_paths}
use Rattle.gb_graph.proofs.Queues.{once_added, in_added}
use Rattle.gb_graph.proofs.Schedules.{is_asked, err_weaker, not_in_none}
use Rattle.gb_graph.proofs.schedule.declared_of.Goals as goal

pub declare_all-requires : goal.declare_all-requires
declare_all-requires g c =
    let registry = g.T.Tasks.registry c.args.tasks.now in
    let shut = contains byte_order c.in_ok-excluded.excluded in
    let lists = c.args.selection.now.requested.items in
    let grown : c.enqueue_all.new.queue.items ≡ added shut c.new-queue.result.items (joined_paths lists) = c.in_ok-enqueue_all.ensures.queue ∙ ap (λ ls. added shut c.new-queue.result.items (joined_paths ls)) c.as_slice-2.ensures.value in
    record {
      known = c.in_ok-enqueue_all.ensures.known;
      once = ap no_repeats grown ∙ once_added shut c.new-queue.result.items (joined_paths lists) (ap no_repeats c.new-queue.ensures.items);
      registered = λ p h. in_added shut (λ q. has_path (paths_of registry) q ≡ true) c.new-queue.result.items (joined_paths lists)
          (λ q e. not_in_none c.new-queue.result.items q c.new-queue.ensures.items e) c.requires p (ap (λ q. has_path q p) (sym grown) ∙ h);
    }

pub returns : goal.returns
returns g c =
    let registry = g.T.Tasks.registry c.args.tasks.now in
    let shut = contains byte_order c.in_ok-excluded.excluded in
    let lists = c.args.selection.now.requested.items in
    let others = c.args.selection.now.excluded.items in
    let queue = c.enqueue_all.new.queue.items in
    let asks = λ (request : Request) (a : AsksFor request registry lists others).
    is_asked request registry lists others a shut (λ p. c.in_ok-excluded.ensures p ∙ ap (λ ls. has_path (joined_paths ls) p) c.as_slice.ensures.value)
    c.new-queue.result.items queue c.new-queue.ensures.items (c.in_ok-enqueue_all.ensures.queue ∙ ap (λ ls. added shut c.new-queue.result.items (joined_paths ls)) c.as_slice-2.ensures.value) in
    record {
      kept = c.declare_all.ensures.kept;
      declared = c.declare_all.ensures.declared;
      once = c.declare_all.ensures.once;
      queued = IfOk-weaker c.declare_all.result
          (λ (found : Vec TaskDeclaration Global). (request : Request) → IsAsked request registry queue shut → Queued request (paths_in found.items) [])
          (λ (found : Vec TaskDeclaration Global). (request : Request) → AsksFor request registry lists others → Queued request (paths_in found.items) [])
          (λ found h request a. h request (asks request a)) c.declare_all.ensures.queued;
      fault = err_weaker c.declare_all.result
          (λ fault. (fault ≡ OutOfMemory) ⊎ ((request : Request) → IsAsked request registry queue shut → IsTaskFault request fault))
          (λ fault. (fault ≡ OutOfMemory) ⊎ ((request : Request) → AsksFor request registry lists others → IsTaskFault request fault))
          (λ fault h. elim h [ inl e ↦ inl e | inr at ↦ inr (λ request a. at request (asks request a)) ]) c.declare_all.ensures.fault;
    }
