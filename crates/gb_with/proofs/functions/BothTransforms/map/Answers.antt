use Rattle.std.proofs.Common.{subst}
use Rattle.gb_provider.specs.Meanings.{IsReply}
use Rattle.gb_with.proofs.Meant.{meant-by_first, meant-by_second}
use Rattle.gb_with.proofs.functions.BothTransforms.map.Goals as goal

pub returns-in-First : goal.returns-in-First
returns-in-First g c = subst (λ meant. IsReply c.map.result (meant c.args.value.now c.args.arguments.now))
    (meant-by_first g.A.Transforms.meanings.map g.B.Transforms.meanings.map c.args.stored.now
    c.in-First.stored c.in-First.is) c.map.ensures

pub returns-in-Second : goal.returns-in-Second
returns-in-Second g c = subst (λ meant. IsReply c.map-in-Second.result (meant c.args.value.now c.args.arguments.now))
    (meant-by_second g.A.Transforms.meanings.map g.B.Transforms.meanings.map c.args.stored.now
    c.in-Second.stored c.in-Second.is) c.map-in-Second.ensures
