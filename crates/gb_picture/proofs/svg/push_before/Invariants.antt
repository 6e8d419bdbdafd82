use Rattle.std.proofs.Common.{◌≡◌, ◌++◌, string_bytes, take}
use Rattle.std.specs.List.{flat_map}
use Rattle.gb_picture.specs.Svg.{curve, spot_at}
use Rattle.gb_picture.proofs.svg.push_before.Given as goal

abbrev pub invariant-loop-one : goal.invariant-loop-one
invariant-loop-one l = string_bytes l.out ≡ string_bytes l.fn.out ++ flat_map (λ one. curve (spot_at l.spots one) (spot_at l.spots l.to) l.style) (take l.one-index l.from)
