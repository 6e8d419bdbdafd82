use Rattle.std.proofs.Common.{List, not, ap, refl, ◌∙◌}
use Rattle.gb_folder.specs.Files.{is_empty}
use Rattle.gb_plan.specs.declared.task.Output.{Output}
use Rattle.gb_run.specs.Emptying.{places_at}
use Rattle.gb_predict.proofs.Removing.{length_empty, none_at}
use Rattle.gb_predict.proofs.task.sourceless.Goals as goal

pub returns-clause-removes : goal.returns-clause-removes
returns-clause-removes g c = λ faithful.
    let files = (g.F.Folder.device.contents c.args.folder.now).files in (
      not c.is_empty.result,
      refl,
      ap not
          (c.is_empty.ensures ∙ length_empty c.as_slice-2.result.now
          ∙ ap is_empty (c.as_slice-2.ensures.value ∙ c.in_ok-places.ensures.listed faithful ∙ ap (λ (outputs : List Output). places_at outputs files) c.as_slice.ensures)
          ∙ none_at c.args.task.now.outputs files),
    )
