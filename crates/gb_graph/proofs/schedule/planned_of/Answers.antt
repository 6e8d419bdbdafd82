use Rattle.std.proofs.Common.{List, Vec, [], get_or, length, sym, ap, subst, arith}
use Rattle.std.proofs.lemmas.Result.{IfOk-weaker}
use Rattle.std.specs.Global.{Global}
use Rattle.std.specs.BTreeSet.{contains}
use Rattle.gb_core.specs.Lists.{byte_order}
use Rattle.gb_plan.specs.declared.plan.Planned.{Planned}
use Rattle.gb_plan.specs.declared.task.TaskDeclaration.{TaskDeclaration}
use Rattle.gb_plan.specs.Graph.{Request, IsFirstWord}
use Rattle.gb_graph.specs.Queue.{paths_in}
use Rattle.gb_graph.specs.Words.{AreDone, AreScheduled, AreWorded}
use Rattle.gb_graph.proofs.Schedules.{are_scheduled}
use Rattle.gb_graph.proofs.schedule.planned_of.Goals as goal

pub worded-requires : goal.worded-requires
worded-requires c =
    let e = c.in_ok-words.ensures.each in
    let f = ap length c.as_slice.ensures.value in
    omega (arith, e, f, c.as_slice-2.ensures.len)

pub returns : goal.returns
returns c =
    let found = c.args.found.items in
    let lists = c.args.requested.now in
    let words = c.in_ok-words.words.items in
    let these = contains byte_order c.in_ok-selected.selected in
    let long = ap length c.as_slice.ensures.value in
    IfOk-weaker c.worded.result
    (λ (planned : Vec Planned Global). AreWorded found c.as_slice-2.result.now these planned.items)
    (λ (planned : Vec Planned Global). (request : Request) → AreDone request found lists → AreScheduled request planned.items)
    (λ planned h request done.
    are_scheduled request found lists done words
    (λ k lt. subst (λ (ts : List TaskDeclaration). IsFirstWord request (get_or (paths_in ts) k []) (get_or words k 0)) c.as_slice.ensures.value
    (c.in_ok-words.ensures.first request (subst (λ (ts : List TaskDeclaration). AreDone request ts lists) (sym c.as_slice.ensures.value) done) k (omega (arith, lt, long))))
    these c.in_ok-selected.ensures planned.items (subst (λ ws. AreWorded found ws these planned.items) c.as_slice-2.ensures.value h) c.requires)
    c.worded.ensures
