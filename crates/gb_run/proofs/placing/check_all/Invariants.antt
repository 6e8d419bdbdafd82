use Rattle.std.proofs.Common.{◌≡◌, ◌++◌, map, string_bytes}
use Rattle.std.specs.Global.{Global}
use Rattle.std.specs.List.{flat_map}
use Rattle.std.specs.declared.string.String.{String}
use Rattle.gb_folder.specs.Files.{Bytes}
use Rattle.gb_semantics.specs.Made.{file_faults}
use Rattle.gb_run.specs.Named.{put}
use Rattle.gb_run.specs.Texts.{files_in}
use Rattle.gb_run.proofs.placing.check_all.Given as goal

abbrev pub invariant-loop-text : goal.invariant-loop-text
invariant-loop-text l =
    let rest = map (λ (e : String Global × Bytes). (string_bytes e.0, e.1)) l.text-iterator in
    record {
      steps : l.steps.items ++ put rest ≡ put (files_in l.fn.files);
      left : flat_map (file_faults l.all) rest ≡ flat_map (file_faults l.all) (files_in l.fn.files);
    }
