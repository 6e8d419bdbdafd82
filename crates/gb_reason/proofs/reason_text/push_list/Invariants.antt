use Rattle.std.proofs.Common.{◌≡◌, ◌++◌, take}
use Rattle.std.specs.List.{flat_map}
use Rattle.std.specs.Prelude.{codes, string_bytes}
use Rattle.gb_reason.specs.Text.{quoted}
use Rattle.gb_reason.proofs.reason_text.push_list.Given as goal

abbrev pub invariant-loop-reported : goal.invariant-loop-reported
invariant-loop-reported l =
    string_bytes l.text ≡ string_bytes l.initial.text ++ flat_map (λ text. codes " " ++ quoted text) (take l.reported-index l.texts)
