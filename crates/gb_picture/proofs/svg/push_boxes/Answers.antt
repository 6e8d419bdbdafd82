use Rattle.std.proofs.Common.{ℕ, List, ◌++◌, ap, string_bytes, ◌∙◌}
use Rattle.gb_picture.specs.Svg.{svg_node}
use Rattle.gb_picture.specs.declared.graph.Node.{Node}
use Rattle.gb_picture.proofs.Numbered.{numbered_step}
use Rattle.gb_picture.proofs.svg.push_boxes.Goals as goal

pub loop-number-preserved : goal.loop-number-preserved
loop-number-preserved c =
    let write : ℕ → Node → List ℕ = svg_node c.args.width c.args.spots.now in
    let before = string_bytes c.loop-number.out in
    let i = c.loop-number.number in
    let node = c.index-nodes-number.result in
    numbered_step write _ before (string_bytes c.push_node.new.out) c.args.nodes.now i node c.loop-number-test.true c.loop-number.invariant
    (c.in_ok-push_node.ensures ∙ ap (λ n. before ++ write i n) c.index-nodes-number.is)
