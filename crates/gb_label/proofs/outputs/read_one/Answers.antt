use Rattle.std.proofs.Common.{sym, ap, ◌∙◌, Err, refl}
use Rattle.gb_folder.proofs.Asked.{requests_nothing}
use Rattle.gb_tree.proofs.Answering.{output_entries_longer}
use Rattle.gb_tree.specs.Reading.{entries_observed}
use Rattle.gb_label.proofs.Reported.{device, err_is}
use Rattle.gb_label.proofs.outputs.read_one.Goals as goal

pub returns-in-Err-clause-blame : goal.returns-in-Err-clause-blame
returns-in-Err-clause-blame g c = λ place e.
    (c.output_reading.ensures.blame place (c.in-Err.is ∙ ap Err (device c.in-Err.fault place (sym c.reported.ensures ∙ err_is _ _ _ refl e)))).1

pub returns-in-Ok-clause-answered : goal.returns-in-Ok-clause-answered
returns-in-Ok-clause-answered g c = λ first before known. (
  output_entries_longer before (requests_nothing c.output_reading.new.folder) c.args.output.now.place (entries_observed c.in-Ok.reading.1) c.in-Ok.ensures.listed,
  c.in-Ok.ensures.answered first before known,
)
