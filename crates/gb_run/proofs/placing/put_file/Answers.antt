use Rattle.std.proofs.Common.{ℕ, List, ap, ◌∙◌}
use Rattle.gb_folder.specs.Files.{with_file}
use Rattle.gb_run.specs.Texts.{files_in}
use Rattle.gb_run.proofs.ByText.{put_by_text}
use Rattle.gb_run.proofs.placing.put_file.Goals as goal

pub returns : goal.returns
returns c =
    put_by_text c.args.files.now c.insert.new.self c.in_ok-text.text _ c.in_ok-insert.ensures.entries
    ∙ ap (λ (text : List ℕ). with_file (files_in c.args.files.now) text c.args.file.bytes) c.in_ok-text.ensures
