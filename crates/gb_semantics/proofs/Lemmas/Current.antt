-- Whatever else failed, a task that is up to date has left what its actions make.
use Rattle.std.specs.Prelude.{◌≡◌, Bool, true, false, not, cond, List, [], ◌∷◌, ◌++◌, Option, None, Some, Ok}
use Rattle.std.proofs.Common.{sym, subst, inl, inr}
use Rattle.gb_report.specs.declared.fault.Fault.{Fault}
use Rattle.gb_report.specs.declared.report.Options.{Options}
use Rattle.gb_report.specs.declared.report.Outcome.TheVariants as outcomes
use Rattle.gb_folder.specs.Files.{is_empty}
use Rattle.gb_plan.proofs.Tests.{not_false}
use Rattle.gb_plan.specs.Graph.{Plan}
use Rattle.gb_plan.specs.declared.task.TaskDeclaration.{TaskDeclaration as Task}
use Rattle.gb_semantics.specs.Kinds.{Kinds}
use Rattle.gb_semantics.specs.Label.{Moment, Skips, HasNoActions, CannotRead, HasNoSource, EndsWith, IsCurrent, IsOutcomeOf, IsOutcomeAt, run_of}
use Rattle.gb_semantics.specs.Made.{made_of}
use Rattle.gb_semantics.specs.Memory.{World, entry_of, output_files}
use Rattle.gb_semantics.specs.Promise.{UpToDateIsMade}
use Rattle.gb_semantics.specs.Tree.{has_no_source, input_faults, listing_faults, trees_of}
use Rattle.gb_semantics.specs.Execution.{Leaves}
use Rattle.gb_semantics.proofs.Lemmas.Truth.{recalled_made}

module _ (kinds : Kinds) (options : Options) (plan : Plan) (task : Task) (moment : Moment) where
  not_run : (fault : Option Fault) → EndsWith fault outcomes.UpToDate → ⊥
  not_run None ends = cc
  not_run (Some fault) ends = cc

  by_case : (runs idle : Bool) (hindrances : List Fault) (no_source : Bool) → idle ≡ false
      → IsOutcomeAt kinds options plan task moment (cond (not runs) (Some Skips) (cond idle (Some HasNoActions)
      (cond (not (is_empty hindrances)) (Some (CannotRead hindrances)) (cond no_source (Some HasNoSource) None)))) outcomes.UpToDate
      → IsCurrent options task moment.world
  by_case false idle hindrances no_source acts label = absurd (cc)
  by_case true true hindrances no_source acts label = not_false acts
  by_case true false (fault ∷ more) no_source acts label = absurd (cc (label.2))
  by_case true false [] true acts label = absurd (cc)
  by_case true false [] false acts (inl current) = current.0
  by_case true false [] false acts (inr run) = absurd (not_run (run_of kinds task moment.world.folder.files).fault run.1)

  pub is_current : is_empty task.actions ≡ false → IsOutcomeOf kinds options plan task moment outcomes.UpToDate → IsCurrent options task moment.world
  is_current acts label =
      by_case task.runs (is_empty task.actions) (input_faults task moment.world.folder ++ listing_faults task moment.world.folder)
      (has_no_source task moment.world.folder.files) acts label

pub up_to_date : UpToDateIsMade
up_to_date kinds options plan moment task report new made acts is execution =
    let current : IsCurrent options task moment.world = elim execution.label [
      | inl label ↦ is_current kinds options plan task moment acts (subst (IsOutcomeOf kinds options plan task moment) is label)
      | inr machine ↦ absurd (cc (is, machine.2))
    ] in
    let same : new.world ≡ moment.world = subst (λ outcome. Leaves kinds options task moment.world outcome new.world) is execution.leaves in (
      same,
      subst (λ (world : World). made_of kinds task.actions task.values (trees_of task moment.world.folder.files) task.outputs ≡ Ok (output_files task world.folder.files))
          (sym same) (recalled_made kinds moment.world.memory task.path (entry_of task moment.world.folder.files) made current.same),
    )
