use Rattle.std.proofs.Common.{◌≡◌, ◌<◌, length, arith}
use Rattle.std.proofs.lemmas.Result.{IfOk-weaker}
use Rattle.std.proofs.lemmas.Grind.{common_steps}
use Rattle.gb_provider.specs.Rules.{rule}
use Rattle.gb_provider.specs.Rounds.{reading}
use Rattle.gb_provider.specs.Search.{IsPast, known}
use Rattle.gb_provider.proofs.LookLemmas.{past_of_node, past_of_entry, look_of_entry}
use Rattle.gb_provider.proofs.evaluate.ValueReaderEntries.look.Goals as goal

pub look_at-requires-clause-past : goal.look_at-requires-clause-past
look_at-requires-clause-past g c =
    let below : c.args.at < length c.self.inside.nodes.now = grind (arith, common_steps) in
    past_of_node (rule g.T.Transforms.meanings) c.self.inside.nodes.now c.self.inside.nodes.now c.args.self.now c.self.view_is c.self.view_is (known c.args.states.now) c.args.at c.index-nodes-at.result below c.index-nodes-at.is c.args.past c.requires.past

pub returns-clause-past : goal.returns-clause-past
returns-clause-past g c =
    let below : c.args.at < length c.self.inside.nodes.now = grind (arith, common_steps) in
    IfOk-weaker c.look_at.result (λ found. IsPast (known c.args.states.now) found.past (rule g.T.Transforms.meanings c.self.inside.nodes.now c.index-nodes-at.result)) _ (λ found past. past_of_entry (rule g.T.Transforms.meanings) c.self.inside.nodes.now c.self.inside.nodes.now c.args.self.now c.self.view_is c.self.view_is (known c.args.states.now) c.args.at c.index-nodes-at.result below c.index-nodes-at.is found.past past) c.look_at.ensures.past

pub returns-clause-look : goal.returns-clause-look
returns-clause-look g c =
    let below : c.args.at < length c.self.inside.nodes.now = grind (arith, common_steps) in
    IfOk-weaker c.look_at.result (λ found. found.reading ≡ reading (known c.args.states.now) (rule g.T.Transforms.meanings c.self.inside.nodes.now c.index-nodes-at.result)) _ (λ found reads. look_of_entry (rule g.T.Transforms.meanings) c.self.inside.nodes.now c.self.inside.nodes.now c.args.self.now c.self.view_is c.self.view_is (known c.args.states.now) c.args.at c.index-nodes-at.result below c.index-nodes-at.is found.reading reads) c.look_at.ensures.reads

pub look_at-requires-clause-within : goal.look_at-requires-clause-within
look_at-requires-clause-within g c = grind (arith, common_steps)

pub offset_bounds-nodes-at : goal.offset_bounds-nodes-at
offset_bounds-nodes-at g c = grind (arith, common_steps)

pub bounds-nodes-at : goal.bounds-nodes-at
bounds-nodes-at g c = grind (arith, common_steps)

pub look_at-requires-clause-states : goal.look_at-requires-clause-states
look_at-requires-clause-states g c = grind (arith, common_steps)
