use Rattle.std.proofs.Common.{rules, tests, ◌&&◌, sym, ap, ◌∙◌, bytes_eq}
use Rattle.std.proofs.lemmas.Iterator.{YieldsList-from_slice}
use Rattle.std.proofs.lemmas.Iterator.Search.{any_from_yields_List}
use Rattle.gb_action.specs.Shapes.{target, is_form, has_output}
use Rattle.gb_action.proofs.shape.Shape.has_output.Goals as goal

pub returns-in-Some : goal.returns-in-Some
returns-in-Some c =
    any_from_yields_List (λ output. bytes_eq output.0 target && is_form output.1 c.in-Some.form) _ _ c.any.result c.any.ensures.ran (YieldsList-from_slice c.args.outputs.now c.iter.ensures.rest) (λ x b q k. search (rules, tests))
    ∙ ap (λ out. has_output out c.args.outputs.now) (sym c.in-Some.is)
