use Rattle.std.proofs.Common.{string_bytes}
use Rattle.std.proofs.lemmas.Result.{IfOk-weaker}
use Rattle.gb_picture.specs.Svg.{box_begun, box_name, box_sides}
use Rattle.gb_picture.proofs.Numbered.{three}
use Rattle.gb_picture.proofs.svg.push_box.Goals as goal

pub returns : goal.returns
returns c =
    IfOk-weaker c.push_name.result _ _
    (λ done e. three (string_bytes c.args.out.now) (box_begun c.args.spot) (box_sides c.args.width c.args.tint) (box_name c.args.name.now)
    (string_bytes c.push_corner.new.out) (string_bytes c.push_sides.new.out) (string_bytes c.push_name.new.out)
    c.in_ok-push_corner.ensures c.in_ok-push_sides.ensures e)
    c.push_name.ensures
