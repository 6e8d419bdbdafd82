use Rattle.std.proofs.Common.{◌≡◌, ◌⊎◌, Ok, Err, Result, inl, inr, subst}
use Rattle.gb_folder.specs.Files.{Place}
use Rattle.gb_semantics.specs.Edits.{Shown}
use Rattle.gb_query.specs.Asked.{asked_place}
use Rattle.gb_registry.specs.Tables.{tables_of}
use Rattle.gb_report.specs.declared.fault.Fault.{Fault}
use Rattle.gb_report.specs.declared.fault.Fault.TheVariants as faults
use Rattle.gb_ask_command.specs.Replies.{IsReplyAbout}
use Rattle.gb_ask_command.proofs.Replying.{of_no_place}
use Rattle.gb_ask_command.proofs.Reported.{shows}
use Rattle.gb_ask_command.proofs.place_query.answer.Goals as goal

pub returns-in-Ok-clause-reply : goal.returns-in-Ok-clause-reply
returns-in-Ok-clause-reply g c =
    let F = g.F.Folder in
    let invocation = c.args.invocation.now in
    let tables = tables_of g.T.Transforms.meanings g.A.Actions.meanings c.args.tables.now in
    let old : Shown = shows (F.device.contents c.args.folder.now) (F.device.failures c.args.folder.now) in
    let after = F.device.failures c.search_folder.new.folder in
    let found : Ok c.in-Ok.place ≡ asked_place c.as_slice.result.now = elim c.in-Ok.ensures as (λ _. Ok c.in-Ok.place ≡ asked_place c.as_slice.result.now) [
      | inl is ↦ is
      | inr none ↦ absurd (cc)
    ] in
    subst (λ (place : Result Place Fault). IsReplyAbout tables (F.device.faithful c.search_folder.new.folder) old after c.args.notation c.args.relation place invocation c.search_folder.result)
    (subst (λ words. Ok c.in-Ok.place ≡ asked_place words) c.as_slice.ensures found)
    c.search_folder.ensures.reply

pub returns-in-Err-clause-reply : goal.returns-in-Err-clause-reply
returns-in-Err-clause-reply g c =
    let F = g.F.Folder in
    let invocation = c.args.invocation.now in
    let tables = tables_of g.T.Transforms.meanings g.A.Actions.meanings c.args.tables.now in
    let old : Shown = shows (F.device.contents c.args.folder.now) (F.device.failures c.args.folder.now) in
    let found = c.asked_place.result in
    of_no_place tables (F.device.faithful c.args.folder.now) old old.failures invocation c.args.notation c.args.relation (asked_place invocation.requested) found c.in-Err.fault c.in-Err.is
    (subst (λ words. (found ≡ asked_place words) ⊎ (found ≡ Err faults.OutOfMemory)) c.as_slice.ensures c.asked_place.ensures)
