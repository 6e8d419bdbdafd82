-- How often a build attributes a fault to the device.
use Rattle.std.specs.Prelude.{ℕ, List, count_by}
use Rattle.gb_semantics.specs.Headline.{failed_by_device}
use Rattle.gb_report.specs.declared.report.TaskReport.{TaskReport}

-- how many tasks failed by the device
abbrev pub times_attributed : List TaskReport → ℕ
times_attributed reports = count_by (λ report. failed_by_device report.outcome) reports
