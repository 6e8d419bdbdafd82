use Rattle.std.proofs.Common.{rules, tests, not, ◌||◌, sym, ap, ◌∙◌, bytes_eq}
use Rattle.std.specs.List.{list_any}
use Rattle.std.proofs.lemmas.Iterator.{YieldsList-from_slice}
use Rattle.std.proofs.lemmas.Iterator.Search.{any_from_yields_List}
use Rattle.gb_action.specs.Shapes.{source}
use Rattle.gb_action.proofs.shape.Shape.has_source.Goals as goal

pub returns-else-not-self : goal.returns-else-not-self
returns-else-not-self c =
    any_from_yields_List (λ name. bytes_eq name source) _ _ c.any.result c.any.ensures.ran (YieldsList-from_slice c.args.files.now c.iter.ensures.rest) (λ x b q k. search (rules, tests))
    ∙ ap (λ src. not src || list_any (λ name. bytes_eq name source) c.args.files.now) (sym c.if-not-self.false)
