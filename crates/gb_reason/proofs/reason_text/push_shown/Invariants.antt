use Rattle.std.proofs.Common.{◌≡◌, ◌++◌, map}
use Rattle.std.specs.Prelude.{encode_utf8_all, string_bytes}
use Rattle.gb_report.specs.Fault.{shown_character}
use Rattle.gb_reason.proofs.reason_text.push_shown.Given as goal

abbrev pub invariant-loop-character : goal.invariant-loop-character
invariant-loop-character l =
    string_bytes l.text ≡ string_bytes l.fn.text ++ encode_utf8_all (map shown_character l.yielded)
