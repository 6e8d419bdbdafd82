use Rattle.std.proofs.Common.{[], sym, ◌∙◌, false}
use Rattle.gb_provider.specs.Rules.{list_rule}
use Rattle.gb_provider.specs.Search.{known}
use Rattle.gb_provider.proofs.ListLemmas.{past_texts, texts_read, none_copied, reads_past, reads_wait}
use Rattle.gb_provider.proofs.evaluate.look_list.Goals as goal

pub past_texts-at-requires-clause-before : goal.past_texts-at-requires-clause-before
past_texts-at-requires-clause-before c = past_texts (known c.args.states.now) c.args.operands.now c.args.past c.requires.past

pub returns-then-is_none-clause-reads : goal.returns-then-is_none-clause-reads
returns-then-is_none-clause-reads c =
    let reads = texts_read (known c.args.states.now) c.args.operands.now false [] c.past_texts-at.result c.past_texts-at.ensures.before c.if-at-operands.true in
    sym (reads_wait (known c.args.states.now) _ c.past_texts-at.result (list_rule false [] c.args.operands.now) reads (sym c.known_at.ensures ∙ none_copied c.known_at.result c.if-is_none.ensures))

pub returns-then-is_none-clause-past : goal.returns-then-is_none-clause-past
returns-then-is_none-clause-past c =
    let reads = texts_read (known c.args.states.now) c.args.operands.now false [] c.past_texts-at.result c.past_texts-at.ensures.before c.if-at-operands.true in
    reads_past (known c.args.states.now) _ c.past_texts-at.result (list_rule false [] c.args.operands.now) reads
