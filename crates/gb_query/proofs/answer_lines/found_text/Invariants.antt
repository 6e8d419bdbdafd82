use Rattle.std.proofs.Common.{◌≡◌, string_bytes, take}
use Rattle.std.specs.List.{flat_map}
use Rattle.gb_query.specs.Lines.{found_line}
use Rattle.gb_query.proofs.answer_lines.found_text.Given as goal

abbrev pub invariant-loop-one : goal.invariant-loop-one
invariant-loop-one l = string_bytes l.text ≡ flat_map found_line (take l.one-index l.found)
