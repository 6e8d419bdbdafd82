use Rattle.std.proofs.Common.{◌≡◌, ◌∙◌, sym, ap, Some}
use Rattle.gb_provider.specs.Search.{known}
use Rattle.gb_provider.specs.declared.produced.Produced.TheVariants.{Endless}
use Rattle.gb_provider.proofs.EndlessLemmas.{endless_fit}
use Rattle.gb_provider.proofs.producing.report_producers.Goals as goal

pub report_endless-requires-clause-chooser : goal.report_endless-requires-clause-chooser
report_endless-requires-clause-chooser g c =
    let chooser = c.in-Some-Endless.chooser in
    let is_known : known c.args.states.now c.args.number ≡ Some (Endless chooser) = sym c.in-Some-Endless.ensures ∙ ap Some c.in-Some-Endless.field-0-is in
    (endless_fit g.T.Transforms.meanings c.args.nodes.now c.requires.within c.args.number chooser (c.requires.sound.right c.args.number (Endless chooser) is_known)).0

pub report_endless-requires-clause-endless : goal.report_endless-requires-clause-endless
report_endless-requires-clause-endless g c =
    let chooser = c.in-Some-Endless.chooser in
    let is_known : known c.args.states.now c.args.number ≡ Some (Endless chooser) = sym c.in-Some-Endless.ensures ∙ ap Some c.in-Some-Endless.field-0-is in
    (endless_fit g.T.Transforms.meanings c.args.nodes.now c.requires.within c.args.number chooser (c.requires.sound.right c.args.number (Endless chooser) is_known)).1
