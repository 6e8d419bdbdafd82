use Rattle.std.proofs.Common.{◌⊎◌, Bool, Option, option_copied, Bor, is_some, sym, subst, ◌∙◌, inl, inr}
use Rattle.gb_task.specs.Case.{IsKnown}
use Rattle.gb_history.specs.declared.record.Record.{Record}
use Rattle.gb_task.specs.Executing.{BeginsAt}
use Rattle.gb_task.proofs.Later.{copied_some, due_recheck, due_in_full, due_to_go_on, inputs_read, inputs_exist, none_known, outputs_read, outputs_exist}
use Rattle.gb_task.proofs.execution.run.Goals.{in-Some+else-is_by_changes, in_default}
use Rattle.gb_task.proofs.Answered.{outputs_answered}
use Rattle.gb_task.specs.Ran.{OnlyRead, RanInFull, WasRun}
use Rattle.gb_task.proofs.ByOutcome.{one_writer, was_run}
use Rattle.gb_task.proofs.execution.run.Goals as goal

pub execute_by_changes-requires-clause-inputs : goal.execute_by_changes-requires-clause-inputs
execute_by_changes-requires-clause-inputs g c = inputs_read c.args.task.now c.args.observed c.args.decision c.requires.due c.requires.read

pub execute_by_changes-requires-clause-outputs : goal.execute_by_changes-requires-clause-outputs
execute_by_changes-requires-clause-outputs g c =
    let changes = c.is_by_changes.ensures.decided c.if-is_by_changes.true in
    outputs_read c.args.task.now c.args.observed c.args.decision changes.0 changes.1 c.requires.read

pub execute_in_full-requires-clause-inputs : goal.execute_in_full-requires-clause-inputs
execute_in_full-requires-clause-inputs g c = inputs_read c.args.task.now c.args.observed c.args.decision c.requires.due c.requires.read

pub returns-then-is_by_changes-clause-execution : goal.returns-then-is_by_changes-clause-execution
returns-then-is_by_changes-clause-execution g c = λ faithful kinds registry_of plan moment given at case case_for runs exists known.
    let F = g.F.Folder in
    let task = c.args.task.now in
    let files = (F.device.contents c.args.folder.now).files in
    let changes = c.is_by_changes.ensures.decided c.if-is_by_changes.true in
    c.execute_by_changes.ensures.execution faithful kinds registry_of plan moment given
    (subst (λ (o : Option (Bor Record)). BeginsAt task (is_some (option_copied o)) (F.device.contents c.args.folder.now) (F.device.failures c.args.folder.now) moment) c.in-Some.is at)
    (inputs_exist task files c.args.observed c.args.decision c.requires.due exists) (outputs_exist task files c.args.observed c.args.decision changes.0 changes.1 exists)
    (due_to_go_on kinds c.args.options task moment.world c.args.decision changes.0 _ changes.1 case case_for (c.is_by_changes.ensures.agreed kinds given.agrees ∙ c.if-is_by_changes.true)
    (subst (λ (o : Option (Bor Record)). IsKnown kinds task moment.world (option_copied o)) c.in-Some.is known))

pub returns-clause-execution : goal.returns-clause-execution
returns-clause-execution g c = λ faithful kinds registry_of plan moment given at case case_for runs exists known.
    let F = g.F.Folder in
    let task = c.args.task.now in
    c.execute_in_full.ensures.execution faithful kinds registry_of c.args.options plan moment given
    (subst (λ (b : Bool). BeginsAt task b (F.device.contents c.args.folder.now) (F.device.failures c.args.folder.now) moment) (copied_some c.args.last ∙ sym c.is_some.ensures) at)
    (inputs_exist task (F.device.contents c.args.folder.now).files c.args.observed c.args.decision c.requires.due exists)
    (elim c.match-last.branch [
      | in-Some+else-is_by_changes w ↦
          due_in_full kinds c.args.options task moment.world c.args.decision case runs (w.is_by_changes.ensures.agreed kinds given.agrees ∙ w.if-is_by_changes.false)
      | in_default w ↦ due_recheck kinds c.args.options task moment.world c.args.decision case runs (none_known kinds task moment.world c.args.last w.in_default.not-Some known)
    ])

pub returns-then-is_by_changes-clause-ran : goal.returns-then-is_by_changes-clause-ran
returns-then-is_by_changes-clause-ran g c = λ first before inputs was.
    let F = g.F.Folder in
    let meanings = g.A.Actions.meanings in
    let rows = c.args.table.now in
    let task = c.args.task.now in
    let by = c.execute_by_changes in
    let changes = c.is_by_changes.ensures.decided c.if-is_by_changes.true in
    let outputs = outputs_answered F.device first c.args.folder.now c.args.options task (option_copied c.args.last) c.args.observed.inputs.items c.args.decision changes.0 c.args.observed.outputs.items changes.1 was in
    let ran = by.ensures.ran first before inputs outputs in (
      ran.0,
      ran.1,
      subst (λ (o : Option (Bor Record)). OnlyRead F.device by.result.lines ran.0 first by.new.folder
          ⊎ WasRun F.device meanings rows task c.args.options (option_copied o) by.result.lines ran.0 first by.new.folder) (sym c.in-Some.is)
          (was_run F.device meanings rows task c.args.options _ by.result.lines ran.0 first by.new.folder
          (λ kinds agrees. one_writer kinds task c.args.decision changes.0 changes.1 (c.is_by_changes.ensures.agreed kinds agrees ∙ c.if-is_by_changes.true)) ran.2),
    )

pub returns-clause-ran : goal.returns-clause-ran
returns-clause-ran g c = λ first before inputs was.
    let F = g.F.Folder in
    let meanings = g.A.Actions.meanings in
    let rows = c.args.table.now in
    let task = c.args.task.now in
    let full = c.execute_in_full in
    let ran = full.ensures.ran first before inputs in (
      ran.0,
      ran.1,
      subst (λ (b : Bool). OnlyRead F.device full.result.lines ran.0 first full.new.folder
          ⊎ RanInFull F.device meanings rows task b full.result.lines ran.0 first full.new.folder
          → OnlyRead F.device full.result.lines ran.0 first full.new.folder
          ⊎ WasRun F.device meanings rows task c.args.options (option_copied c.args.last) full.result.lines ran.0 first full.new.folder)
          (copied_some c.args.last ∙ sym c.is_some.ensures)
          (λ held. elim held [ inl only ↦ inl only | inr in_full ↦ inr (inl in_full) ])
          ran.2,
    )
