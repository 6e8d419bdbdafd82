use Rattle.gb_kinds.proofs.Carrying.{files_more}
use Rattle.gb_kinds.proofs.carried.meet_paths.Goals as goal

pub loop-path-preserved : goal.loop-path-preserved
loop-path-preserved c = files_more c.args.files.now c.loop-path.path-index c.loop-path-item.result c.loop-path-test.true c.loop-path-item.is c.loop-path.invariant c.as_str.ensures.path
