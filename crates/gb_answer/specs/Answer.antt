-- The output of a build, and its exit status.
use Rattle.std.specs.Prelude.{ℕ, List, [], ◌++◌, Result, Ok, Err, if◌then◌else◌, codes, nat_eq}
use Rattle.gb_report.specs.Fault.{fault_text, fault_number}
use Rattle.gb_report.specs.Outcome.{is_successful}
use Rattle.gb_report.specs.Report.{line, report_text}
use Rattle.gb_printer.specs.Printing.{parts_text, rest_text}
use Rattle.gb_report.specs.declared.fault.Fault.{Fault}
use Rattle.gb_report.specs.declared.report.Report.{Report}

-- the line that reports a refusal
abbrev pub refusal_text : Fault → List ℕ
refusal_text fault = line (codes "REFUSED " ++ fault_text fault)

-- the output of a refused build
abbrev pub not_built_text : Fault → List ℕ
not_built_text fault = refusal_text fault ++ line (codes "BUILD FAILED")

-- the output of a build
abbrev pub answer_text : Result Report Fault → List ℕ
answer_text (Ok report) = report_text report
answer_text (Err fault) = not_built_text fault

-- the part of the output that is printed while the build runs
abbrev pub parts_of : Result Report Fault → List ℕ
parts_of (Ok report) = parts_text report
parts_of (Err fault) = []

-- the part of the output that is printed once the build has ended
abbrev pub rest_of : Result Report Fault → List ℕ
rest_of (Ok report) = rest_text report
rest_of (Err fault) = not_built_text fault

-- the exit status: 0 after success, 2 for arguments that request no known build (96), and else 1
abbrev pub status_of : Result Report Fault → ℕ
status_of (Ok report) = if is_successful report then 0 else 1
status_of (Err fault) = if nat_eq (fault_number fault) 96 then 2 else 1
