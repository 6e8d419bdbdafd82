use Rattle.std.proofs.Common.{length}
use Rattle.gb_action.proofs.shape.+args_fit.Given as goal

abbrev pub decreases-args_fit : goal.decreases-args_fit
decreases-args_fit l = length l.parameters.now
