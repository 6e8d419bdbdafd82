use Rattle.std.proofs.Common.{◌++◌, ◌∷◌, [], sym, ap, ◌∙◌}
use Rattle.gb_label.specs.Deciding.{incremental_names}
use Rattle.gb_label.proofs.Names.{incremental_more}
use Rattle.gb_label.proofs.present.incremental_of.Goals as goal

pub loop-property-preserved : goal.loop-property-preserved
loop-property-preserved c =
    c.in_ok-add_incremental.ensures ∙ ap (λ names. names ++ incremental_names (c.property-item.result ∷ [])) c.loop-property.invariant
    ∙ sym (incremental_more c.args.properties.now c.loop-property.property-index c.property-item.result c.loop-property-test.true c.property-item.is)
