use Rattle.std.proofs.Common.{string_bytes}
use Rattle.std.proofs.lemmas.Result.{IfOk-weaker}
use Rattle.gb_picture.specs.Svg.{curve_begun, curve_bent, curve_ended}
use Rattle.gb_picture.proofs.Numbered.{three}
use Rattle.gb_picture.proofs.svg.push_curve.Goals as goal

pub returns : goal.returns
returns c =
    IfOk-weaker c.push_ended.result _ _
    (λ done e. three (string_bytes c.args.out.now) (curve_begun c.args.from) (curve_bent c.args.from c.args.to) (curve_ended c.args.to c.args.style.now)
    (string_bytes c.push_begun.new.out) (string_bytes c.push_bent.new.out) (string_bytes c.push_ended.new.out)
    c.in_ok-push_begun.ensures c.in_ok-push_bent.ensures e)
    c.push_ended.ensures
