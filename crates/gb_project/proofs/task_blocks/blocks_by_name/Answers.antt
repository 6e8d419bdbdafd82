use Rattle.gb_project.specs.Blocks.{clauses_under}
use Rattle.gb_project.proofs.BlockLemmas.{blocks_on}
use Rattle.gb_project.proofs.task_blocks.blocks_by_name.Goals as goal

pub loop-statement-preserved : goal.loop-statement-preserved
loop-statement-preserved c = λ name.
    blocks_on c.args.statements.now c.loop-statement.statement-index c.statement-item.result c.loop-statement-test.true c.statement-item.is name
    (clauses_under c.loop-statement.blocks name) (clauses_under c.add_statement.new.blocks name) _ (c.in_ok-add_statement.ensures name) (c.loop-statement.invariant name)
