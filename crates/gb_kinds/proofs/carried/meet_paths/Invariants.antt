use Rattle.std.proofs.Common.{take, IsTrue}
use Rattle.std.specs.List.{list_all}
use Rattle.gb_core.specs.Place.{is_rel_path}
use Rattle.gb_kinds.proofs.carried.meet_paths.Given as goal

abbrev pub invariant-loop-path : goal.invariant-loop-path
invariant-loop-path l = IsTrue (list_all (λ file. is_rel_path file.0) (take l.path-index l.files))
