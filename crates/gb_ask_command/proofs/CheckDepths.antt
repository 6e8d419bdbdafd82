-- The findings as JSON are shallow, so that they read back.
use Rattle.std.proofs.Common.{◌≤◌, Result, Ok, Err, map, arith}
use Rattle.serde_json.specs.Data.{depth, items_depth}
use Rattle.serde_json.specs.Read.{max_depth}
use Rattle.serde_json.specs.View.{items_of}
use Rattle.gb_check.specs.Findings.{unread_spot}
use Rattle.gb_check.specs.declared.findings.Problem.{Problem}
use Rattle.gb_check.specs.declared.findings.Problem.TheVariants as problems
use Rattle.gb_check.specs.declared.findings.Finding.{Finding}
use Rattle.gb_check.specs.declared.findings.Findings.{Findings}
use Rattle.gb_check.specs.declared.findings.Spot.{Spot}
use Rattle.gb_check.specs.declared.findings.Spot.TheVariants as spots
use Rattle.gb_report.specs.declared.fault.Fault.{Fault}
use Rattle.gb_query.proofs.Depths.{items_low, more_low}
use Rattle.gb_ask_command.specs.CheckJson.{check_data, check_objects, file_data, finding_object, line_data, number_data, unread_object}

file_low : (spot : Spot) → depth (file_data spot) ≤ 0
file_low (spots.Line script line) = omega arith
file_low (spots.Value name) = omega arith
file_low spots.Unknown = omega arith

line_low : (spot : Spot) → depth (line_data spot) ≤ 0
line_low (spots.Line script line) = omega arith
line_low (spots.Value name) = omega arith
line_low spots.Unknown = omega arith

number_low : (cause : Problem) → depth (number_data cause) ≤ 0
number_low (problems.Fault fault) = omega arith
number_low (problems.Shared first second) = omega arith
number_low (problems.Unneeded root maker) = omega arith
number_low (problems.Stale maker reader) = omega arith
number_low (problems.Bare root) = omega arith
number_low problems.Unread = omega arith
number_low (problems.Unregistered path) = omega arith

finding_low : (finding : Finding) → depth (finding_object finding) ≤ 1
finding_low finding =
    let file = file_low finding.spot in
    let line = line_low finding.spot in
    let number = number_low finding.cause in
    omega arith

unread_low : (fault : Fault) → depth (unread_object fault) ≤ 1
unread_low fault =
    let file = file_low (unread_spot fault) in
    let line = line_low (unread_spot fault) in
    omega arith

objects_low : (reply : Result Findings Fault) → items_depth (items_of (check_objects reply)) ≤ 1
objects_low (Ok found) =
    more_low 1 (map finding_object found.faults.items) (map finding_object found.warnings.items)
    (items_low finding_object 1 finding_low found.faults.items)
    (items_low finding_object 1 finding_low found.warnings.items)
objects_low (Err fault) = let low = unread_low fault in omega arith

pub check_shallow : (reply : Result Findings Fault) → depth (check_data reply) ≤ max_depth
check_shallow reply = let low = objects_low reply in omega arith
