use Rattle.std.proofs.Common.{◌≡◌, ◌⊎◌, ℕ, true, [], ◌∷◌, List, Result, Ok, Err, Some, IfErr, refl, sym, ap, ap₂, subst, ◌∙◌, inl, inr}
use Rattle.std.proofs.lemmas.Result.{err_from_is_err_and}
use Rattle.std.specs.List.{AllByRecursion}
use Rattle.gb_core.specs.Lists.{first_of}
use Rattle.gb_folder.specs.Files.{Files}
use Rattle.gb_report.specs.declared.fault.Fault.{Fault}
use Rattle.gb_report.specs.declared.fault.Fault.TheVariants as faults
use Rattle.gb_action.specs.declared.reply.Written.{Written}
use Rattle.gb_tree.specs.Prints.{digests_of}
use Rattle.gb_plan.specs.Task.{Text}
use Rattle.gb_plan.specs.declared.task.Output.{Output}
use Rattle.gb_folder.proofs.Machine.{at_err}
use Rattle.gb_semantics.specs.Headline.{Agrees}
use Rattle.gb_semantics.specs.Kinds.{Kinds, kind_of}
use Rattle.gb_semantics.specs.Made.{placed, put_over, put_result}
use Rattle.gb_run.specs.Named.{put}
use Rattle.gb_run.specs.Steps.{Step, after_steps}
use Rattle.gb_run.proofs.AsSteps.{after_put, all_put}
use Rattle.gb_run.proofs.AtOutputs.{is_at, placed_at_these, placing_blames_none}
use Rattle.gb_run.specs.Work.{files_of}
use Rattle.gb_run.specs.Step.{IsKept}
use Rattle.gb_run.proofs.Keeping.{keeps_on}
use Rattle.gb_run.proofs.Working.{hinders}
use Rattle.gb_run.proofs.work.part_of.Goals as goal

pub returns-in_err-reply-clause-err : goal.returns-in_err-reply-clause-err
returns-in_err-reply-clause-err g c =
    let task = c.args.task.now in
    let action = c.args.action.now in
    let p = err_from_is_err_and c.from_residual.result c.from_residual.ensures.1 in
    let IsFault : Fault → Type 0 = λ fault. (fault ≡ faults.OutOfMemory) ⊎ ((kinds : Kinds) → Agrees g.A.Actions.meanings c.args.table.now kinds → (held : Files) → IsKept held c.args.working.now.taken c.args.working.now.digests
    → (hindrances : List Fault) × (put_result task.outputs held (kinds.makes (kind_of action) action.args task.values c.args.working.now.request.files) ≡ Err hindrances) × (first_of hindrances ≡ Some fault)) in
    at_err (λ r. IfErr r IsFault) c.from_residual.result p.0 c.in_err-reply.field-0.0 p.1 p.2 (elim c.in_err-reply.ensures.err [
      | inl memory ↦ inl memory
      | inr failed ↦ inr (λ kinds agrees held is. (c.in_err-reply.field-0.0 ∷ [], ap (put_result task.outputs held) (failed.2 kinds agrees) ∙ ap (λ (f : Fault). Err (f ∷ [])) (sym failed.1), refl))
    ])

pub returns-in_err-steps-clause-err : goal.returns-in_err-steps-clause-err
returns-in_err-steps-clause-err g c =
    let task = c.args.task.now in
    let action = c.args.action.now in
    let p = err_from_is_err_and c.from_residual-in_err-steps.result c.from_residual-in_err-steps.ensures.1 in
    let IsFault : Fault → Type 0 = λ fault. (fault ≡ faults.OutOfMemory) ⊎ ((kinds : Kinds) → Agrees g.A.Actions.meanings c.args.table.now kinds → (held : Files) → IsKept held c.args.working.now.taken c.args.working.now.digests
    → (hindrances : List Fault) × (put_result task.outputs held (kinds.makes (kind_of action) action.args task.values c.args.working.now.request.files) ≡ Err hindrances) × (first_of hindrances ≡ Some fault)) in
    at_err (λ r. IfErr r IsFault) c.from_residual-in_err-steps.result p.0 c.in_err-steps.field-0.0 p.1 p.2 (elim c.in_err-steps.ensures.err [
      | inl memory ↦ inl memory
      | inr first ↦ inr (λ kinds agrees held is.
          let made = kinds.makes (kind_of action) action.args task.values c.args.working.now.request.files in
          let written : made ≡ Ok c.in_ok-reply.reply.writes = c.in_ok-reply.ensures.written kinds agrees in
          subst (λ (os : List Output). (hindrances : List Fault) × (put_result os held made ≡ Err hindrances) × (first_of hindrances ≡ Some c.in_err-steps.field-0.0)) c.as_slice.ensures
          (hinders c.as_slice.result.now held c.args.working.now.taken c.args.working.now.digests is made c.in_ok-reply.reply.writes c.in_err-steps.field-0.0 written first))
    ])

pub returns-in_err-reply-clause-blames : goal.returns-in_err-reply-clause-blames
returns-in_err-reply-clause-blames g c =
    let p = err_from_is_err_and c.from_residual.result c.from_residual.ensures.1 in
    let IsFault : Fault → Type 0 = λ fault. (place : List ℕ) → fault ≡ faults.Device place → ⊥ in
    at_err (λ r. IfErr r IsFault) c.from_residual.result p.0 c.in_err-reply.field-0.0 p.1 p.2 (λ place is. elim c.in_err-reply.ensures.err [
      | inl memory ↦ (let e = sym memory ∙ is in (cc))
      | inr failed ↦ (let e = sym failed.1 ∙ is in (cc))
    ])

pub returns-in_err-steps-clause-blames : goal.returns-in_err-steps-clause-blames
returns-in_err-steps-clause-blames g c =
    let p = err_from_is_err_and c.from_residual-in_err-steps.result c.from_residual-in_err-steps.ensures.1 in
    let IsFault : Fault → Type 0 = λ fault. (place : List ℕ) → fault ≡ faults.Device place → ⊥ in
    at_err (λ r. IfErr r IsFault) c.from_residual-in_err-steps.result p.0 c.in_err-steps.field-0.0 p.1 p.2 (λ place is. elim c.in_err-steps.ensures.err [
      | inl memory ↦ (let e = sym memory ∙ is in (cc))
      | inr first ↦ placing_blames_none c.as_slice.result.now c.args.working.now.taken (put_over [] (placed c.as_slice.result.now c.in_ok-reply.reply.writes)) c.in_err-steps.field-0.0 place first is
    ])

pub returns-clause-places : goal.returns-clause-places
returns-clause-places g c =
    subst (λ (steps : List Step). AllByRecursion (λ (s : Step). is_at c.args.task.now.outputs s.0 ≡ true) steps) (sym c.in_ok-steps.ensures.steps)
    (all_put (λ place. is_at c.args.task.now.outputs place ≡ true) (put_over [] (placed c.as_slice.result.now c.in_ok-reply.reply.writes))
    (placed_at_these c.as_slice.result.now c.args.task.now.outputs c.in_ok-reply.reply.writes c.as_slice.ensures))

pub returns-clause-ok : goal.returns-clause-ok
returns-clause-ok g c = λ kinds agrees held is.
    let task = c.args.task.now in
    let action = c.args.action.now in
    let made = kinds.makes (kind_of action) action.args task.values c.args.working.now.request.files in
    let written : made ≡ Ok c.in_ok-reply.reply.writes = c.in_ok-reply.ensures.written kinds agrees in
    let by_place = put_over [] (placed c.as_slice.result.now c.in_ok-reply.reply.writes) in
    let went = subst (λ (os : List Output). (more : Files) × (put_result os held made ≡ Ok more) × IsKept more c.take_places.new.taken c.follow.new.self) c.as_slice.ensures
    (keeps_on c.as_slice.result.now held c.args.working.now.taken c.args.working.now.digests made is c.in_ok-reply.reply.writes written c.in_ok-steps.ensures.ok c.take_places.new.taken c.follow.new.self c.in_ok-steps.ensures.taken
    (λ files were. c.in_ok-follow.ensures files were ∙ ap (λ (ss : List Step). digests_of (after_steps files ss)) (c.as_slice-2.ensures.value ∙ c.in_ok-steps.ensures.steps) ∙ ap digests_of (after_put files by_place))) in
    let steps : c.in_ok-steps.steps.items ≡ put (files_of task.outputs made) =
    c.in_ok-steps.ensures.steps ∙ ap (λ (r : Result (List Written) Text). put (files_of c.as_slice.result.now r)) (sym written) ∙ ap (λ (os : List Output). put (files_of os made)) c.as_slice.ensures in
    (went.0, went.1, went.2, ap₂ (λ (ss : List Step) (ls : List Text). record { steps = ss; lines = ls }) steps (c.in_ok-reply.ensures.lines kinds agrees))
