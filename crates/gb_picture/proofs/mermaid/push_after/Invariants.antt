use Rattle.std.proofs.Common.{◌≡◌, ◌++◌, codes, string_bytes, take}
use Rattle.std.specs.List.{flat_map}
use Rattle.gb_picture.specs.Mermaid.{mermaid_edge}
use Rattle.gb_picture.proofs.mermaid.push_after.Given as goal

abbrev pub invariant-loop-one : goal.invariant-loop-one
invariant-loop-one l = string_bytes l.out ≡ string_bytes l.fn.out ++ flat_map (λ one. mermaid_edge l.from (codes " ==> ") one) (take l.one-index l.to)
