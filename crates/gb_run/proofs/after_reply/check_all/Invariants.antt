use Rattle.std.proofs.Common.{◌≡◌, Option, map, string_bytes}
use Rattle.std.specs.Borrow.{Bor}
use Rattle.std.specs.Global.{Global}
use Rattle.std.specs.List.{flat_map}
use Rattle.std.specs.Option.{option_copied}
use Rattle.std.specs.declared.string.String.{String}
use Rattle.gb_folder.specs.Files.{Bytes}
use Rattle.gb_semantics.specs.Made.{file_faults}
use Rattle.gb_run.specs.Named.{files_left}
use Rattle.gb_run.specs.ChangeTexts.{steps_in}
use Rattle.gb_run.proofs.after_reply.check_all.Given as goal

abbrev pub invariant-loop-text : goal.invariant-loop-text
invariant-loop-text l =
    flat_map (file_faults l.all) (files_left (map (λ (e : String Global × Option (Bor Bytes)). (string_bytes e.0, option_copied e.1)) l.text-iterator))
    ≡ flat_map (file_faults l.all) (files_left (steps_in l.steps))
