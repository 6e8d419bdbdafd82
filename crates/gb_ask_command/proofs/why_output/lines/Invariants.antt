use Rattle.std.proofs.Common.{◌≡◌, string_bytes, take}
use Rattle.std.specs.List.{flat_map}
use Rattle.gb_ask_command.specs.Line.{line_text}
use Rattle.gb_ask_command.proofs.why_output.lines.Given as goal

abbrev pub invariant-loop-one : goal.invariant-loop-one
invariant-loop-one l = string_bytes l.text ≡ flat_map line_text (take l.one-index l.reported)
