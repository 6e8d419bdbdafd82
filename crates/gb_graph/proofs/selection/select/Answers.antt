use Rattle.std.proofs.Common.{◌≡◌, ◌⊎◌, [], Err, inl, inr, sym, ap, ◌∙◌}
use Rattle.std.proofs.lemmas.Result.{err_from_is_err_and}
use Rattle.std.specs.List.{flat_map}
use Rattle.gb_core.specs.Lists.{first_of}
use Rattle.gb_folder.specs.Files.{is_empty}
use Rattle.gb_report.specs.declared.fault.Fault.{Fault}
use Rattle.gb_report.specs.declared.fault.Fault.TheVariants.{OutOfMemory}
use Rattle.gb_plan.specs.Refusal.{request_of, word_faults}
use Rattle.gb_graph.specs.Words.{newly_selected}
use Rattle.gb_graph.proofs.Selections.{err_so, some_words, no_words, asked_none, asked_ok, requested_fault, excluded_fault}
use Rattle.gb_graph.proofs.selection.select.Goals as goal

pub returns : goal.returns
returns g c =
    let registry = g.T.Tasks.registry c.args.tasks.now in
    let same = c.words_of-words.ensures in
    let some = ap is_empty (sym same) ∙ some_words c.words_of-words.result.now (sym c.is_empty.ensures ∙ c.if-is_empty.false) in
    record {
      request = asked_ok registry c.args.requested.now c.args.excluded.now some (ap (flat_map (word_faults registry)) (sym same) ∙ c.in_ok-requested.ensures.good) c.in_ok-excluded.ensures.good;
      requested = c.in_ok-requested.ensures.selected ∙ ap (newly_selected registry []) same;
      excluded = c.in_ok-excluded.ensures.selected;
      fault = tt;
    }

pub returns-then-is_empty : goal.returns-then-is_empty
returns-then-is_empty g c =
    let registry = g.T.Tasks.registry c.args.tasks.now in
    record {
      request = tt;
      requested = tt;
      excluded = tt;
      fault = inr (asked_none registry c.args.requested.now c.args.excluded.now (ap is_empty (sym c.words_of-words.ensures) ∙ no_words c.words_of-words.result.now (sym c.is_empty.ensures ∙ c.if-is_empty.true)));
    }

pub returns-in_err-requested-clause-fault : goal.returns-in_err-requested-clause-fault
returns-in_err-requested-clause-fault g c =
    let registry = g.T.Tasks.registry c.args.tasks.now in
    let same = c.words_of-words.ensures in
    let some = ap is_empty (sym same) ∙ some_words c.words_of-words.result.now (sym c.is_empty.ensures ∙ c.if-is_empty.false) in
    let fault : Fault = c.in_err-requested.field-0.0 in
    let p = err_from_is_err_and c.from_residual.result c.from_residual.ensures.1 in
    err_so (λ f. (f ≡ OutOfMemory) ⊎ (request_of registry c.args.requested.now c.args.excluded.now ≡ Err f)) c.from_residual.result p.0 fault p.1 p.2 (elim c.in_err-requested.ensures.bad [
      | inl e ↦ inl e
      | inr e ↦ inr (requested_fault registry c.args.requested.now c.args.excluded.now fault some (ap (λ ws. first_of (flat_map (word_faults registry) ws)) (sym same) ∙ e))
    ])

pub returns-in_err-excluded-clause-fault : goal.returns-in_err-excluded-clause-fault
returns-in_err-excluded-clause-fault g c =
    let registry = g.T.Tasks.registry c.args.tasks.now in
    let same = c.words_of-words.ensures in
    let some = ap is_empty (sym same) ∙ some_words c.words_of-words.result.now (sym c.is_empty.ensures ∙ c.if-is_empty.false) in
    let fault : Fault = c.in_err-excluded.field-0.0 in
    let p = err_from_is_err_and c.from_residual-in_err-excluded.result c.from_residual-in_err-excluded.ensures.1 in
    err_so (λ f. (f ≡ OutOfMemory) ⊎ (request_of registry c.args.requested.now c.args.excluded.now ≡ Err f)) c.from_residual-in_err-excluded.result p.0 fault p.1 p.2 (elim c.in_err-excluded.ensures.bad [
      | inl e ↦ inl e
      | inr e ↦ inr (excluded_fault registry c.args.requested.now c.args.excluded.now fault some (ap (flat_map (word_faults registry)) (sym same) ∙ c.in_ok-requested.ensures.good) e)
    ])
