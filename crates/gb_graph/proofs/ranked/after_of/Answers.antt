use Rattle.std.proofs.Common.{Contains, Vec, ℕ, List, length, sym, subst}
use Rattle.std.proofs.lemmas.Result.{IfOk-weaker}
use Rattle.std.specs.Global.{Global}
use Rattle.gb_graph.specs.Order.{rows}
use Rattle.gb_graph.specs.Ranked.{HoldEdges, GiveAfter}
use Rattle.gb_graph.proofs.ranked.after_of.Goals as goal

pub rows_of-requires : goal.rows_of-requires
rows_of-requires c = λ task before h. (c.in_ok-edges.ensures.known task before (subst (λ es. Contains es (task, before)) c.as_slice.ensures.value h)).0

pub returns : goal.returns
returns c =
    let reported = subst (λ es. (after : List (List ℕ)) → HoldEdges (length c.args.tasks.now) es after → GiveAfter c.args.tasks.now after) (sym c.as_slice.ensures.value)
    (λ (after : List (List ℕ)) (held : HoldEdges (length c.args.tasks.now) c.in_ok-edges.edges.items after). record {
      each = held.each;
      known = λ task before h. c.in_ok-edges.ensures.known task before ((held.reported task before).0 h);
      reported = λ task before d. (λ h. (c.in_ok-edges.ensures.reported task before d).0 ((held.reported task before).0 h), λ g. (held.reported task before).1 ((c.in_ok-edges.ensures.reported task before d).1 g));
    }) in
    IfOk-weaker c.rows_of.result (λ (after : Vec (Vec ℕ Global) Global). HoldEdges (length c.args.tasks.now) c.as_slice.result.now (rows after.items)) (λ (after : Vec (Vec ℕ Global) Global). GiveAfter c.args.tasks.now (rows after.items)) (λ after. reported (rows after.items)) c.rows_of.ensures
