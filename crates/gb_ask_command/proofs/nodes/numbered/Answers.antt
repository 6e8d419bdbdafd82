use Rattle.std.proofs.Common.{◌≡◌, ◌+◌, List, [], ◌∷◌, ◌++◌, ap, subst, sym, take, ◌∙◌}
use Rattle.std.proofs.lemmas.Grind.{take_at_read}
use Rattle.std.specs.List.{AllZip}
use Rattle.gb_picture.specs.declared.graph.Node.{Node}
use Rattle.gb_plan.specs.Graph.{Plan}
use Rattle.gb_plan.specs.declared.plan.Planned.{Planned}
use Rattle.gb_tree.proofs.Gathering.{all_zip_push}
use Rattle.gb_ask_command.specs.Graph.{IsNodeOf}
use Rattle.gb_ask_command.proofs.nodes.numbered.Goals as goal

pub loop-planned-preserved : goal.loop-planned-preserved
loop-planned-preserved c =
    let plan : Plan = c.args.plan.now in
    let i = c.loop-planned.planned-index in
    let planned = c.planned-item.result in
    let node = c.in_ok-node_of.field-0 in
    let taken : take (i + 1) plan ≡ take i plan ++ planned ∷ [] = (take_at_read plan i planned c.loop-planned-test.true).1 ∙ ap (λ (v : Planned). take i plan ++ v ∷ []) (sym c.planned-item.is) in
    let pushed : AllZip (IsNodeOf plan) (take i plan ++ planned ∷ []) (c.loop-planned.nodes.items ++ node ∷ []) =
    all_zip_push (IsNodeOf plan) (take i plan) c.loop-planned.nodes.items planned node c.loop-planned.invariant (c.in_ok-node_of.ensures plan c.requires) in
    subst (λ (nodes : List Node). AllZip (IsNodeOf plan) (take (i + 1) plan) nodes) (sym c.in_ok-push.ensures.items)
    (subst (λ (done : Plan). AllZip (IsNodeOf plan) done (c.loop-planned.nodes.items ++ node ∷ [])) (sym taken) pushed)
