-- Where findings are, and the warnings of tasks.
use Rattle.std.specs.Prelude.{List, bytes_eq, find}
use Rattle.std.specs.Option.{option_map_or}
use Rattle.gb_plan.specs.Task.{Path}
use Rattle.gb_report.specs.declared.fault.Fault.{Fault}
use Rattle.gb_report.specs.declared.fault.Fault.TheVariants as faults
use Rattle.gb_check.specs.declared.findings.Problem.{Problem}
use Rattle.gb_check.specs.declared.findings.Finding.{Finding}
use Rattle.gb_check.specs.declared.findings.Spot.{Spot}
use Rattle.gb_check.specs.declared.findings.Spot.TheVariants as spots
use Rattle.gb_check.specs.declared.sites.Site.{Site}

abbrev pub spot_of : Site → Spot
spot_of site = spots.Line site.script site.line

-- where the task at a path is registered
abbrev pub spot_at : List Site → Path → Spot
spot_at sites path = option_map_or spot_of (find (λ site. bytes_eq site.path path) sites) spots.Unknown

-- a warning of the task at a path
abbrev pub warning : List Site → Path → Problem → Finding
warning sites path cause = record { spot = spot_at sites path; cause = cause }

-- the script and the line that the fault of a text names; its first line if it names none
abbrev pub unread_spot : Fault → Spot
unread_spot (faults.Syntax script line) = spots.Line script line
unread_spot (faults.TooDeep script line) = spots.Line script line
unread_spot (faults.TooLong script) = spots.Line script 1
unread_spot (faults.NotUtf8 script) = spots.Line script 1
unread_spot other = spots.Unknown
