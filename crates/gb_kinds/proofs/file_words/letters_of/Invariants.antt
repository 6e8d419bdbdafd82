use Rattle.std.proofs.Common.{◌≡◌, map, take, string_bytes}
use Rattle.gb_kinds.specs.Words.{letter_or_space}
use Rattle.gb_kinds.proofs.file_words.letters_of.Given as goal

abbrev pub invariant-loop-byte : goal.invariant-loop-byte
invariant-loop-byte l = string_bytes l.text ≡ map letter_or_space (take l.byte-index l.bytes)
