use Rattle.std.proofs.Common.{◌≡◌, map, take, string_bytes}
use Rattle.gb_registry.specs.Projects.{slashed}
use Rattle.gb_registry.proofs.paths.slashed_text.Given as goal

abbrev pub invariant-loop-byte : goal.invariant-loop-byte
invariant-loop-byte l = string_bytes l.folder ≡ map slashed (take l.byte-index l.names)
