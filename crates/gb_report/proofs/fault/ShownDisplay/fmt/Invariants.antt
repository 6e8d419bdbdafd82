use Rattle.std.proofs.Common.{map}
use Rattle.std.specs.Prelude.{encode_utf8_all}
use Rattle.std.specs.Fmt.{HasWritten, IsPlainFormatter}
use Rattle.gb_report.specs.Fault.{shown_character}
use Rattle.gb_report.proofs.fault.ShownDisplay.fmt.Given as goal

abbrev pub invariant-loop-character : goal.invariant-loop-character
invariant-loop-character g l =
    IsPlainFormatter l.initial.f → HasWritten g.W.Write.write_str_gives l.initial.f (encode_utf8_all (map shown_character l.yielded)) l.f
