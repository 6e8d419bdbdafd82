use Rattle.std.proofs.Common.{◌≡◌, ◌++◌, codes, string_bytes, take}
use Rattle.std.specs.List.{flat_map}
use Rattle.gb_picture.specs.Svg.{curve, spot_at}
use Rattle.gb_picture.proofs.svg.push_after.Given as goal

abbrev pub invariant-loop-one : goal.invariant-loop-one
invariant-loop-one l = string_bytes l.out ≡ string_bytes l.fn.out ++ flat_map (λ one. curve (spot_at l.spots l.from) (spot_at l.spots one) (codes "f")) (take l.one-index l.to)
