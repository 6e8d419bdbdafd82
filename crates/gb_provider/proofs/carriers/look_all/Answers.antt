use Rattle.std.proofs.Common.{[], sym, ◌∙◌}
use Rattle.gb_provider.specs.Produced.{carry_all}
use Rattle.gb_provider.specs.Search.{known}
use Rattle.gb_provider.proofs.ListLemmas.{past_tasks, tasks_read, none_copied, reads_past, reads_wait}
use Rattle.gb_provider.proofs.carriers.look_all.Goals as goal

pub past_tasks-at-requires-clause-before : goal.past_tasks-at-requires-clause-before
past_tasks-at-requires-clause-before c = past_tasks (known c.args.states.now) c.args.operands.now c.args.past c.requires.past

pub returns-then-is_none-clause-reads : goal.returns-then-is_none-clause-reads
returns-then-is_none-clause-reads c =
    let reads = tasks_read (known c.args.states.now) c.args.operands.now [] c.past_tasks-at.result c.past_tasks-at.ensures.before c.if-at-operands.true in
    sym (reads_wait (known c.args.states.now) _ c.past_tasks-at.result (carry_all [] c.args.operands.now) reads (sym c.known_at.ensures ∙ none_copied c.known_at.result c.if-is_none.ensures))

pub returns-then-is_none-clause-past : goal.returns-then-is_none-clause-past
returns-then-is_none-clause-past c =
    let reads = tasks_read (known c.args.states.now) c.args.operands.now [] c.past_tasks-at.result c.past_tasks-at.ensures.before c.if-at-operands.true in
    reads_past (known c.args.states.now) _ c.past_tasks-at.result (carry_all [] c.args.operands.now) reads
