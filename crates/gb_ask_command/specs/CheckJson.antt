-- The findings as JSON.
use Rattle.std.specs.Prelude.{ℕ, List, [], ◌∷◌, ◌++◌, Result, Ok, Err, codes, map}
use Rattle.serde_json.specs.Data.{Data, array, member, no_members, null, number, object, string, unsigned}
use Rattle.serde_json.specs.View.{items_of}
use Rattle.gb_check.specs.Findings.{unread_spot}
use Rattle.gb_check.specs.Found.{cause_text}
use Rattle.gb_check.specs.declared.findings.Problem.{Problem}
use Rattle.gb_check.specs.declared.findings.Problem.TheVariants as problems
use Rattle.gb_check.specs.declared.findings.Finding.{Finding}
use Rattle.gb_check.specs.declared.findings.Findings.{Findings}
use Rattle.gb_check.specs.declared.findings.Spot.{Spot}
use Rattle.gb_check.specs.declared.findings.Spot.TheVariants as spots
use Rattle.gb_report.specs.Fault.{fault_number, fault_text}
use Rattle.gb_report.specs.declared.fault.Fault.{Fault}

-- the script and the line, or null
abbrev pub file_data : Spot → Data
file_data (spots.Line script line) = string script
file_data other = null

abbrev pub line_data : Spot → Data
line_data (spots.Line script line) = number (unsigned line)
line_data other = null

abbrev pub kind_word : Problem → List ℕ
kind_word (problems.Fault fault) = codes "fault"
kind_word other = codes "warning"

-- the number of a fault, or null
abbrev pub number_data : Problem → Data
number_data (problems.Fault fault) = number (unsigned (fault_number fault))
number_data other = null

-- the name of the value that a finding is about, if it is about one
abbrev pub value_text : Spot → List ℕ
value_text (spots.Value name) = codes "-P" ++ name ++ codes ": "
value_text other = []

abbrev pub words_of : Finding → List ℕ
words_of finding = value_text finding.spot ++ cause_text finding.cause

abbrev pub object_of : Data → List ℕ → Data → Data → List ℕ → Data
object_of file kind line numbered text =
    object (member (codes "file") file
    (member (codes "kind") (string kind)
    (member (codes "line") line
    (member (codes "number") numbered
    (member (codes "text") (string text) no_members)))))

abbrev pub finding_object : Finding → Data
finding_object finding =
    object_of (file_data finding.spot) (kind_word finding.cause) (line_data finding.spot)
    (number_data finding.cause) (words_of finding)

-- for a fault for which scripts or arguments cannot be read
abbrev pub unread_object : Fault → Data
unread_object fault =
    object_of (file_data (unread_spot fault)) (codes "fault") (line_data (unread_spot fault))
    (number (unsigned (fault_number fault))) (fault_text fault)

-- faults and then warnings, or why scripts or arguments cannot be read
abbrev pub check_objects : Result Findings Fault → List Data
check_objects (Ok found) = map finding_object found.faults.items ++ map finding_object found.warnings.items
check_objects (Err fault) = unread_object fault ∷ []

abbrev pub check_data : Result Findings Fault → Data
check_data reply = array (items_of (check_objects reply))
