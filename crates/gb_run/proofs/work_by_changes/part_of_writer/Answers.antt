use Rattle.std.proofs.Common.{◌≡◌, ◌⊎◌, ℕ, [], true, List, IfErr, refl, sym, ap, ◌∙◌, inl, inr}
use Rattle.std.proofs.lemmas.Result.{err_from_is_err_and}
use Rattle.gb_core.specs.Lists.{first_of}
use Rattle.gb_report.specs.declared.fault.Fault.{Fault}
use Rattle.gb_report.specs.declared.fault.Fault.TheVariants as faults
use Rattle.gb_action.specs.declared.request.Request.{Request}
use Rattle.gb_tree.specs.Prints.{digests_of}
use Rattle.gb_folder.proofs.Machine.{at_err}
use Rattle.gb_semantics.specs.Headline.{Agrees}
use Rattle.gb_semantics.specs.Kinds.{Kinds, kind_of}
use Rattle.gb_semantics.specs.Memory.{output_files}
use Rattle.gb_run.specs.Named.{held_after}
use Rattle.gb_run.specs.Steps.{Step, after_steps}
use Rattle.gb_run.specs.WorkByChanges.{FailsWith, increment_of}
use Rattle.gb_run.proofs.AtOutputs.{placing_blames_none}
use Rattle.gb_run.proofs.Same.{same_held, same_steps, steps_at}
use Rattle.gb_run.proofs.Reporting.{makes_so}
use Rattle.gb_run.proofs.work_by_changes.part_of_writer.Goals as goal

pub returns-in_err-reply-clause-err : goal.returns-in_err-reply-clause-err
returns-in_err-reply-clause-err g c =
    let request = c.args.working.now.request in
    let task = c.args.task.now in
    let action = c.args.action.now in
    let p = err_from_is_err_and c.from_residual.result c.from_residual.ensures.1 in
    let IsFault : Fault → Type 0 = λ fault. (fault ≡ faults.OutOfMemory) ⊎ ((kinds : Kinds) → Agrees g.A.Actions.meanings c.args.table.now kinds → kinds.writes (kind_of action) ≡ true
    → FailsWith (increment_of kinds task request.files request.changes.lists c.args.working.now.observed) action fault) in
    at_err (λ r. IfErr r IsFault) c.from_residual.result p.0 c.in_err-reply.field-0.0 p.1 p.2 (elim c.in_err-reply.ensures.err [
      | inl memory ↦ inl memory
      | inr failed ↦ inr (λ kinds agrees writes. inl (failed.0, failed.1, failed.2 kinds agrees))
    ])

pub returns-in_err-reply-clause-blames : goal.returns-in_err-reply-clause-blames
returns-in_err-reply-clause-blames g c =
    let p = err_from_is_err_and c.from_residual.result c.from_residual.ensures.1 in
    let IsFault : Fault → Type 0 = λ fault. (place : List ℕ) → fault ≡ faults.Device place → ⊥ in
    at_err (λ r. IfErr r IsFault) c.from_residual.result p.0 c.in_err-reply.field-0.0 p.1 p.2 (λ place is. elim c.in_err-reply.ensures.err [
      | inl memory ↦ (let e = sym memory ∙ is in (cc))
      | inr failed ↦ (let e = sym failed.1 ∙ is in (cc))
    ])

pub returns-in_err-steps-clause-err : goal.returns-in_err-steps-clause-err
returns-in_err-steps-clause-err g c =
    let request = c.args.working.now.request in
    let observed = c.args.working.now.observed in
    let task = c.args.task.now in
    let action = c.args.action.now in
    let reply = c.in_ok-reply.reply in
    let p = err_from_is_err_and c.from_residual-in_err-steps.result c.from_residual-in_err-steps.ensures.1 in
    let IsFault : Fault → Type 0 = λ fault. (fault ≡ faults.OutOfMemory) ⊎ ((kinds : Kinds) → Agrees g.A.Actions.meanings c.args.table.now kinds → kinds.writes (kind_of action) ≡ true
    → FailsWith (increment_of kinds task request.files request.changes.lists observed) action fault) in
    at_err (λ r. IfErr r IsFault) c.from_residual-in_err-steps.result p.0 c.in_err-steps.field-0.0 p.1 p.2 (elim c.in_err-steps.ensures.err [
      | inl memory ↦ inl memory
      | inr first ↦ inr (λ kinds agrees writes.
          let held = same_held c.as_slice.result.now task.outputs c.as_slice-2.result.now observed c.as_slice-3.result.now reply.removes c.as_slice-4.result.now reply.writes
          c.as_slice.ensures (c.as_slice-2.ensures ∙ ap (λ (r : Request). r.outputs) c.in_ok-reply.ensures.request) c.as_slice-3.ensures c.as_slice-4.ensures in
          inr (writes, reply, c.in_ok-reply.ensures.answered kinds agrees, ap first_of (sym held) ∙ first))
    ])

pub returns-in_err-steps-clause-blames : goal.returns-in_err-steps-clause-blames
returns-in_err-steps-clause-blames g c =
    let p = err_from_is_err_and c.from_residual-in_err-steps.result c.from_residual-in_err-steps.ensures.1 in
    let IsFault : Fault → Type 0 = λ fault. (place : List ℕ) → fault ≡ faults.Device place → ⊥ in
    at_err (λ r. IfErr r IsFault) c.from_residual-in_err-steps.result p.0 c.in_err-steps.field-0.0 p.1 p.2 (λ place is. elim c.in_err-steps.ensures.err [
      | inl memory ↦ (let e = sym memory ∙ is in (cc))
      | inr first ↦ placing_blames_none c.as_slice.result.now [] (held_after c.as_slice.result.now c.as_slice-2.result.now c.as_slice-3.result.now c.as_slice-4.result.now) c.in_err-steps.field-0.0 place first is
    ])

pub returns-clause-ok : goal.returns-clause-ok
returns-clause-ok g c = λ kinds agrees writes.
    let observed = c.args.working.now.observed in
    let task = c.args.task.now in
    let reply = c.in_ok-reply.reply in
    let held = same_held c.as_slice.result.now task.outputs c.as_slice-2.result.now observed c.as_slice-3.result.now reply.removes c.as_slice-4.result.now reply.writes
    c.as_slice.ensures (c.as_slice-2.ensures ∙ ap (λ (r : Request). r.outputs) c.in_ok-reply.ensures.request) c.as_slice-3.ensures c.as_slice-4.ensures in
    let steps = same_steps c.as_slice.result.now task.outputs c.as_slice-3.result.now reply.removes c.as_slice-4.result.now reply.writes c.as_slice.ensures c.as_slice-3.ensures c.as_slice-4.ensures in (
      inr (record { writes = writes; reply = reply; answers = c.in_ok-reply.ensures.answered kinds agrees; free = sym held ∙ c.in_ok-steps.ensures.ok; steps = c.in_ok-steps.ensures.steps ∙ steps }),
      (c.in_ok-reply.ensures.answered kinds agrees).prints_lines reply refl,
    )

pub returns-clause-makes : goal.returns-clause-makes
returns-clause-makes g c = λ kinds agrees existing sorted good turn is.
    let request = c.args.working.now.request in
    let observed = c.args.working.now.observed in
    let task = c.args.task.now in
    let action = c.args.action.now in
    let reply = c.in_ok-reply.reply in
    let held = same_held c.as_slice.result.now task.outputs c.as_slice-2.result.now observed c.as_slice-3.result.now reply.removes c.as_slice-4.result.now reply.writes
    c.as_slice.ensures (c.as_slice-2.ensures ∙ ap (λ (r : Request). r.outputs) c.in_ok-reply.ensures.request) c.as_slice-3.ensures c.as_slice-4.ensures in
    let steps = c.as_slice-5.ensures.value ∙ c.in_ok-steps.ensures.steps
    ∙ same_steps c.as_slice.result.now task.outputs c.as_slice-3.result.now reply.removes c.as_slice-4.result.now reply.writes c.as_slice.ensures c.as_slice-3.ensures c.as_slice-4.ensures in
    makes_so kinds task action request.files request.changes.lists observed existing sorted good turn reply (c.in_ok-reply.ensures.answered kinds agrees) _ (sym held ∙ c.in_ok-steps.ensures.ok)
    (c.go_back.ensures.digests ∙ c.in_ok-follow.ensures (output_files task existing) (c.in_ok-reply.ensures.digests ∙ is)
    ∙ ap (λ (ss : List Step). digests_of (after_steps (output_files task existing) ss)) steps)

pub returns-clause-places : goal.returns-clause-places
returns-clause-places g c = steps_at c.as_slice.result.now c.args.task.now.outputs c.as_slice-3.result.now c.as_slice-4.result.now c.in_ok-steps.steps.items c.as_slice.ensures c.in_ok-steps.ensures.steps
