use Rattle.std.proofs.Common.{subst}
use Rattle.gb_registry.specs.Faults.{ReportsFirst}
use Rattle.gb_check.proofs.Faulted.{marked_as}
use Rattle.gb_check.proofs.clause_lines.push_if_faulty.Goals as goal

pub returns-in-Err-clause-marks : goal.returns-in-Err-clause-marks
returns-in-Err-clause-marks c = λ faults first.
    marked_as c.args.marks.now.items c.push_faulty.new.marks.items c.args.path.now c.args.line c.in-Err.fault faults c.push_faulty.result c.push_faulty.ensures.fault c.push_faulty.ensures.mark
    (subst (ReportsFirst faults) c.in-Err.is first)
