use Rattle.std.proofs.Common.{◌≡◌, [], Bool, true, true≢false, List, Result, Ok, Err, IfOk, OnOk, refl, sym, subst, ◌∙◌, inl, inr}
use Rattle.std.proofs.lemmas.Result.{IfErr-weaker, IfOk-weaker, on_ok_weaker}
use Rattle.std.specs.List.{AllByRecursion}
use Rattle.gb_report.specs.declared.fault.Fault.{Fault}
use Rattle.gb_action.specs.Meanings.{Meanings}
use Rattle.gb_plan.specs.Ready.{IsReadyAction, Rows}
use Rattle.gb_plan.specs.Task.{is_output_of}
use Rattle.gb_plan.specs.declared.task.Action.{Action}
use Rattle.gb_plan.specs.declared.task.TaskDeclaration.{TaskDeclaration as Task}
use Rattle.gb_semantics.specs.Headline.{Agrees}
use Rattle.gb_semantics.specs.Kinds.{Kinds, kind_of}
use Rattle.gb_run.specs.AskingChanges.{writes_stored}
use Rattle.gb_run.specs.Steps.{Step}
use Rattle.gb_run.specs.Worked.{AreStepsAt}
use Rattle.gb_run.specs.declared.work.Part.{Part}
use Rattle.gb_run.proofs.Fitting.{agreed_writes}
use Rattle.gb_run.proofs.Writer.{fits_writer}
use Rattle.gb_run.proofs.work_by_changes.part_of.Goals as goal

-- an action that is found to write does so by its kind
found_writes : {S : Type 0} (meanings : Meanings S) (kinds : Kinds) (rows : Rows S) (task : Task) (action : Action) (ready : IsReadyAction meanings rows task action) (result : Bool) → Agrees meanings rows kinds
    → result ≡ writes_stored meanings ready.stored → kinds.writes (kind_of action) ≡ result
found_writes meanings kinds rows task action ready result agrees is = agreed_writes meanings kinds rows task action ready agrees ready.stored ready.found ∙ sym is

pub returns-then-is_writer-clause-ok : goal.returns-then-is_writer-clause-ok
returns-then-is_writer-clause-ok g c =
    let ready = c.requires.ready in
    IfOk-weaker c.part_of_writer.result _ _ (λ part is. λ kinds agrees.
    is kinds agrees (found_writes g.A.Actions.meanings kinds c.args.table.now c.args.task.now c.args.action.now ready c.is_writer.result agrees (c.is_writer.ensures ready.stored ready.found) ∙ c.if-is_writer.true)) c.part_of_writer.ensures.ok

pub returns-then-is_writer-clause-err : goal.returns-then-is_writer-clause-err
returns-then-is_writer-clause-err g c =
    let ready = c.requires.ready in
    IfErr-weaker c.part_of_writer.result _ _ (λ fault why. elim why [
      | inl memory ↦ inl memory
      | inr fails ↦ inr (λ kinds agrees.
          fails kinds agrees (found_writes g.A.Actions.meanings kinds c.args.table.now c.args.task.now c.args.action.now ready c.is_writer.result agrees (c.is_writer.ensures ready.stored ready.found) ∙ c.if-is_writer.true))
    ]) c.part_of_writer.ensures.err

pub returns-then-is_writer-clause-kept : goal.returns-then-is_writer-clause-kept
returns-then-is_writer-clause-kept g c =
    let ready = c.requires.ready in
    on_ok_weaker c.part_of_writer.result (λ _. λ kinds agrees fits quiet.
    absurd (true≢false (sym (found_writes g.A.Actions.meanings kinds c.args.table.now c.args.task.now c.args.action.now ready c.is_writer.result agrees (c.is_writer.ensures ready.stored ready.found) ∙ c.if-is_writer.true) ∙ quiet))) c.part_of_writer.ensures.full

-- what is known of a part by three clauses
together : (P R T : Part → Type 0) (Q : Type 0) (r : Result Part Fault) → IfOk r P → OnOk r Q → IfOk r R → ((part : Part) → P part → Q → R part → T part) → IfOk r T
together P R T Q (Ok part) steps made printed so = so part steps made printed
together P R T Q (Err fault) steps made printed so = tt

pub returns-else-is_writer-clause-ok : goal.returns-else-is_writer-clause-ok
returns-else-is_writer-clause-ok g c =
    let ready = c.requires.ready in
    together _ _ _ _ c.part_of_reader.result c.part_of_reader.ensures.steps c.part_of_reader.ensures.made c.part_of_reader.ensures.printed (λ part steps made printed. λ kinds agrees. (
      inl (record {
        quiet = found_writes g.A.Actions.meanings kinds c.args.table.now c.args.task.now c.args.action.now ready c.is_writer.result agrees (c.is_writer.ensures ready.stored ready.found) ∙ c.if-is_writer.false;
        made = λ fits. made kinds agrees fits (found_writes g.A.Actions.meanings kinds c.args.table.now c.args.task.now c.args.action.now ready c.is_writer.result agrees (c.is_writer.ensures ready.stored ready.found) ∙ c.if-is_writer.false);
        steps = steps;
      }),
      printed kinds agrees,
    ))

pub returns-else-is_writer-clause-err : goal.returns-else-is_writer-clause-err
returns-else-is_writer-clause-err g c =
    IfErr-weaker c.part_of_reader.result _ _ (λ fault why. elim why [
      | inl memory ↦ inl memory
      | inr failed ↦ inr (λ kinds agrees. inl (failed.0, failed.1, failed.2 kinds agrees))
    ]) c.part_of_reader.ensures.err

pub returns-else-is_writer-clause-blames : goal.returns-else-is_writer-clause-blames
returns-else-is_writer-clause-blames g c =
    IfErr-weaker c.part_of_reader.result _ _ (λ fault why. λ place is. elim why [
      | inl memory ↦ (let e = sym memory ∙ is in (cc))
      | inr failed ↦ (let e = sym failed.1 ∙ is in (cc))
    ]) c.part_of_reader.ensures.err

pub returns-else-is_writer-clause-places : goal.returns-else-is_writer-clause-places
returns-else-is_writer-clause-places g c =
    IfOk-weaker c.part_of_reader.result _ (AreStepsAt (is_output_of c.args.task.now)) (λ part none.
    subst (λ (steps : List Step). AllByRecursion (λ (s : Step). is_output_of c.args.task.now s.0 ≡ true) steps) (sym none) tt) c.part_of_reader.ensures.steps

pub returns-else-is_writer-clause-kept : goal.returns-else-is_writer-clause-kept
returns-else-is_writer-clause-kept g c = on_ok_weaker c.part_of_reader.result (λ made. λ kinds agrees fits quiet. (made kinds agrees fits quiet, refl)) c.part_of_reader.ensures.made

pub returns-else-is_writer-clause-makes : goal.returns-else-is_writer-clause-makes
returns-else-is_writer-clause-makes g c =
    let ready = c.requires.ready in
    let task = c.args.task.now in
    on_ok_weaker c.part_of_reader.result (λ _. λ kinds agrees existing sorted good turn is.
    absurd (true≢false (sym (fits_writer kinds task task.actions c.args.action.now [] turn.fitting turn.writes).0
    ∙ found_writes g.A.Actions.meanings kinds c.args.table.now task c.args.action.now ready c.is_writer.result agrees (c.is_writer.ensures ready.stored ready.found) ∙ c.if-is_writer.false))) c.part_of_reader.ensures.full
