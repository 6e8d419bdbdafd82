use Rattle.std.proofs.Common.{ℕ, List, Err, ◌∙◌, ap, sym, refl, inr}
use Rattle.std.specs.FinMap.Entries.{find}
use Rattle.gb_core.specs.Lists.{byte_order}
use Rattle.gb_action.specs.Meanings.{makes_of, prints_of}
use Rattle.gb_run.proofs.Agreed.{agreed_makes, agreed_prints}
use Rattle.gb_run.proofs.calling.ask.Goals as goal

pub returns-in-Ok-run_action-clause-written : goal.returns-in-Ok-run_action-clause-written
returns-in-Ok-run_action-clause-written g c = λ kinds agrees.
    let meanings = g.A.Actions.meanings in
    let request = c.args.request.now in
    let makes = makes_of meanings c.in-Ok.stored.now in
    let found = ap (λ (name : List ℕ). find byte_order name c.args.table.now) (sym c.as_str.ensures.text) ∙ c.in-Ok.ensures in
    ap (λ f. f c.args.action.now.args c.args.task.now.values request.files) (agreed_makes meanings kinds c.args.table.now c.args.task.now c.args.action.now c.in-Ok.stored.now c.requires.ready found agrees)
    ∙ ap (λ values. makes c.args.action.now.args values request.files) (sym c.requires.full.values)
    ∙ ap (λ args. makes args request.values request.files) (sym c.in_ok-request.ensures)
    ∙ c.run_action.ensures.in_full c.in-Ok-run_action.reply c.in-Ok-run_action.is c.requires.full.in_full

pub returns-in-Ok-run_action-clause-lines : goal.returns-in-Ok-run_action-clause-lines
returns-in-Ok-run_action-clause-lines g c = λ kinds agrees.
    let meanings = g.A.Actions.meanings in
    let request = c.args.request.now in
    let prints = prints_of meanings c.in-Ok.stored.now in
    let found = ap (λ (name : List ℕ). find byte_order name c.args.table.now) (sym c.as_str.ensures.text) ∙ c.in-Ok.ensures in
    c.run_action.ensures.prints_lines c.in-Ok-run_action.reply c.in-Ok-run_action.is
    ∙ ap (λ args. prints args request.values request.files request.changes.lists) c.in_ok-request.ensures
    ∙ ap (λ values. prints c.args.action.now.args values request.files request.changes.lists) c.requires.full.values
    ∙ sym (ap (λ f. f c.args.action.now.args c.args.task.now.values request.files request.changes.lists)
    (agreed_prints meanings kinds c.args.table.now c.args.task.now c.args.action.now c.in-Ok.stored.now c.requires.ready found agrees))

pub returns-in-Err-ActionFailed-clause-err : goal.returns-in-Err-ActionFailed-clause-err
returns-in-Err-ActionFailed-clause-err g c = inr (
  c.in-Err-ActionFailed.text,
  refl,
  λ kinds agrees.
      let meanings = g.A.Actions.meanings in
      let request = c.args.request.now in
      let makes = makes_of meanings c.in-Ok.stored.now in
      let found = ap (λ (name : List ℕ). find byte_order name c.args.table.now) (sym c.as_str.ensures.text) ∙ c.in-Ok.ensures in
      ap (λ f. f c.args.action.now.args c.args.task.now.values request.files) (agreed_makes meanings kinds c.args.table.now c.args.task.now c.args.action.now c.in-Ok.stored.now c.requires.ready found agrees)
      ∙ ap (λ values. makes c.args.action.now.args values request.files) (sym c.requires.full.values)
      ∙ ap (λ args. makes args request.values request.files) (sym c.in_ok-request.ensures)
      ∙ c.run_action.ensures.failed c.in-Err-ActionFailed.text (c.in-Err-ActionFailed.is ∙ ap Err c.in-Err-ActionFailed.field-0-is),
)
