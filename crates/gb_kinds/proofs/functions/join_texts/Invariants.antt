use Rattle.std.proofs.Common.{◌≡◌, ◌++◌, drop, string_bytes}
use Rattle.std.specs.List.{flat_map}
use Rattle.gb_kinds.specs.Functions.{join_texts}
use Rattle.gb_kinds.proofs.functions.join_texts.Given as goal

abbrev pub invariant-loop-text : goal.invariant-loop-text
invariant-loop-text l = string_bytes l.joined ++ flat_map (λ text. l.separator ++ text) (drop l.text-index l.others) ≡ join_texts l.separator l.texts
