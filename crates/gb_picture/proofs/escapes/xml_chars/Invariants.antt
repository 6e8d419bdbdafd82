use Rattle.std.proofs.Common.{◌≡◌, take}
use Rattle.std.specs.List.{flat_map}
use Rattle.gb_picture.specs.Escapes.{xml_char}
use Rattle.gb_picture.proofs.escapes.xml_chars.Given as goal

abbrev pub invariant-loop-c : goal.invariant-loop-c
invariant-loop-c l = l.out.items ≡ flat_map xml_char (take l.c-index l.chars)
