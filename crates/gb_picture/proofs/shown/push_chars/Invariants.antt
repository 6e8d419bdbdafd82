use Rattle.std.proofs.Common.{◌≡◌, ◌++◌, string_bytes, take}
use Rattle.gb_picture.specs.Shown.{bytes_of}
use Rattle.gb_picture.proofs.shown.push_chars.Given as goal

abbrev pub invariant-loop-c : goal.invariant-loop-c
invariant-loop-c l = string_bytes l.out ≡ string_bytes l.fn.out ++ bytes_of (take l.c-index l.chars)
