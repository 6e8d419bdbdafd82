use Rattle.std.proofs.Common.{List, ℕ, subst, sym}
use Rattle.gb_declare.specs.Views.{joined_of}
use Rattle.gb_declare.specs.Statements.{IsRun}
use Rattle.gb_project.proofs.PartLemmas.{parts_within}
use Rattle.gb_project.specs.Rows.{AreWithin}
use Rattle.gb_project.proofs.RowLemmas.{outputs_of_row}
use Rattle.gb_project.proofs.ScriptLemmas.{on_ok}
use Rattle.gb_project.specs.Stage.{with_outputs}
use Rattle.gb_project.proofs.task_declaring.add_outputs.Goals as goal

pub declare_outputs-requires : goal.declare_outputs-requires
declare_outputs-requires g c =
    let nodes = c.args.providers.now.nodes in
    (parts_within nodes c.split-parts.result (subst (AreWithin nodes) (sym c.split-parts.ensures.whole) c.requires.within)).outputs

pub returns : goal.returns
returns g c =
    let task = joined_of c.args.task.now in
    let old = c.args.providers.now in
    on_ok c.declare_outputs.result _ _
    (subst (λ (row : List ℕ). IsRun old c.declare_outputs.new.providers (with_outputs c.args.path.now old.nodes task.outputs row))
    (outputs_of_row task c.split-parts.result c.args.row.now c.split-parts.ensures.counted c.split-parts.ensures.whole)) c.declare_outputs.ensures
