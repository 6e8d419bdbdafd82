use Rattle.std.proofs.Common.{codes, string_bytes}
use Rattle.std.proofs.lemmas.Result.{IfOk-weaker}
use Rattle.gb_picture.specs.Svg.{box_fill, rect_begun}
use Rattle.gb_picture.proofs.Numbered.{three}
use Rattle.gb_picture.proofs.svg.push_sides.Goals as goal

pub returns : goal.returns
returns c =
    IfOk-weaker c.push_end.result _ _
    (λ done e. three (string_bytes c.args.out.now) (rect_begun c.args.width) (box_fill c.args.tint) (codes "/>")
    (string_bytes c.push_rect.new.out) (string_bytes c.push_fill.new.out) (string_bytes c.push_end.new.out)
    c.in_ok-push_rect.ensures c.in_ok-push_fill.ensures e)
    c.push_end.ensures
