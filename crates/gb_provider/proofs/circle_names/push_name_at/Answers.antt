use Rattle.std.proofs.Common.{◌++◌, sym, ap, ◌∙◌}
use Rattle.std.proofs.lemmas.List.{append-nil}
use Rattle.std.proofs.lemmas.Option.{slice_get_past}
use Rattle.gb_provider.specs.Names.{names_of}
use Rattle.gb_provider.proofs.circle_names.push_name_at.Goals as goal

pub returns-in-None : goal.returns-in-None
returns-in-None g c =
    let past = slice_get_past c.args.nodes.now c.args.number c.in-None.ensures.lookup.3 in
    sym (append-nil c.args.names.now) ∙ ap (λ node. c.args.names.now ++ names_of node) (sym past)
