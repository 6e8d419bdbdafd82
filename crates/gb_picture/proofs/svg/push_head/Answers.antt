use Rattle.std.proofs.Common.{string_bytes}
use Rattle.std.proofs.lemmas.Result.{IfOk-weaker}
use Rattle.gb_picture.specs.Svg.{legend_text, size_text, svg_begun}
use Rattle.gb_picture.proofs.Numbered.{three}
use Rattle.gb_picture.proofs.svg.push_head.Goals as goal

pub returns : goal.returns
returns c =
    IfOk-weaker c.push_legend.result _ _
    (λ done e. three (string_bytes c.args.out.now) svg_begun (size_text c.args.frame) legend_text
    (string_bytes c.push_begin.new.out) (string_bytes c.push_size.new.out) (string_bytes c.push_legend.new.out)
    c.in_ok-push_begin.ensures c.in_ok-push_size.ensures e)
    c.push_legend.ensures
