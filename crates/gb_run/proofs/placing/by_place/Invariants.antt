use Rattle.std.proofs.Common.{◌≡◌, []}
use Rattle.std.specs.Vec.Iter.{into_iter_items}
use Rattle.gb_semantics.specs.Made.{placed, put_over}
use Rattle.gb_run.specs.Texts.{files_in}
use Rattle.gb_run.proofs.placing.by_place.Given as goal

abbrev pub invariant-loop-file : goal.invariant-loop-file
invariant-loop-file l = put_over (files_in l.files) (placed l.outputs (into_iter_items l.file-iterator)) ≡ put_over [] (placed l.outputs l.fn.writes)
