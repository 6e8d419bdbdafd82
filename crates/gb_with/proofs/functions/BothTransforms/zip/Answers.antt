use Rattle.std.proofs.Common.{subst}
use Rattle.gb_provider.specs.Meanings.{IsReply}
use Rattle.gb_with.proofs.Meant.{meant-by_first, meant-by_second}
use Rattle.gb_with.proofs.functions.BothTransforms.zip.Goals as goal

pub returns-in-First : goal.returns-in-First
returns-in-First g c = subst (λ meant. IsReply c.zip.result (meant c.args.left.now c.args.right.now c.args.arguments.now))
    (meant-by_first g.A.Transforms.meanings.zip g.B.Transforms.meanings.zip c.args.stored.now
    c.in-First.stored c.in-First.is) c.zip.ensures

pub returns-in-Second : goal.returns-in-Second
returns-in-Second g c = subst (λ meant. IsReply c.zip-in-Second.result (meant c.args.left.now c.args.right.now c.args.arguments.now))
    (meant-by_second g.A.Transforms.meanings.zip g.B.Transforms.meanings.zip c.args.stored.now
    c.in-Second.stored c.in-Second.is) c.zip-in-Second.ensures
