-- The output where there is no table of actions.
use Rattle.std.specs.Prelude.{ℕ, List, ◌++◌, codes}
use Rattle.gb_action.specs.declared.table.TableFault.{TableFault}
use Rattle.gb_action.specs.declared.table.TableFault.TheVariants.{DuplicateAction, OutOfMemory}
use Rattle.gb_answer.specs.Answer.{not_built_text}
use Rattle.gb_report.specs.Report.{line}
use Rattle.gb_report.specs.declared.fault.Fault.TheVariants as faults

-- two kinds have one name (41), or memory ran out, which is reported as in any build
abbrev pub refused_text : TableFault → List ℕ
refused_text DuplicateAction = line (codes "REFUSED 41 duplicate action") ++ line (codes "BUILD FAILED")
refused_text OutOfMemory = not_built_text faults.OutOfMemory
