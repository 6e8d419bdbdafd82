use Rattle.std.proofs.Common.{◌≡◌, map, string_bytes}
use Rattle.std.specs.Global.{Global}
use Rattle.std.specs.declared.string.String.{String}
use Rattle.gb_folder.specs.Files.{Bytes}
use Rattle.gb_semantics.specs.Made.{put_over}
use Rattle.gb_run.specs.Placing.{blank}
use Rattle.gb_run.specs.Texts.{files_in}
use Rattle.gb_run.proofs.placing.hold_all.Given as goal

abbrev pub invariant-loop-text : goal.invariant-loop-text
invariant-loop-text l = put_over l.taken (blank (map (λ (e : String Global × Bytes). (string_bytes e.0, e.1)) l.text-iterator)) ≡ put_over l.fn.taken (blank (files_in l.files))
