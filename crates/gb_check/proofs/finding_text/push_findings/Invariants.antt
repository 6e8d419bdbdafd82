use Rattle.std.proofs.Common.{◌≡◌, ◌++◌, string_bytes, take}
use Rattle.gb_check.specs.Found.{findings_text}
use Rattle.gb_check.proofs.finding_text.push_findings.Given as goal

abbrev pub invariant-loop-finding : goal.invariant-loop-finding
invariant-loop-finding l = string_bytes l.text ≡ string_bytes l.fn.text ++ findings_text (take l.finding-index l.found)
