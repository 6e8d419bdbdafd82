use Rattle.std.proofs.Common.{◌≡◌, ◌++◌, string_bytes, take}
use Rattle.std.specs.List.{flat_map}
use Rattle.gb_report.specs.Report.{line}
use Rattle.gb_query.specs.Lines.{activity_text, entry_text}
use Rattle.gb_query.proofs.answer_lines.status_text.Given as goal

abbrev pub invariant-loop-entry : goal.invariant-loop-entry
invariant-loop-entry l = string_bytes l.text ≡ line (activity_text l.fn.activity) ++ flat_map (λ entry. line (entry_text entry)) (take l.entry-index l.entries)
