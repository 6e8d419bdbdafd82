use Rattle.std.proofs.Common.{◌≡◌, take}
use Rattle.gb_kinds.specs.ByFile.{all_bytes}
use Rattle.gb_kinds.proofs.file_kinds.all_bytes.Given as goal

abbrev pub invariant-loop-bytes : goal.invariant-loop-bytes
invariant-loop-bytes l = l.joined.items ≡ all_bytes (take l.bytes-index l.files)
