use Rattle.std.proofs.Common.{◌≡◌, map, sym, ap, subst, ◌∙◌}
use Rattle.gb_folder.specs.Files.{Contents}
use Rattle.gb_label.specs.Reading.{AreOutputsObserved, observed_of}
use Rattle.gb_task.specs.Recheck.{IsRecheck, IsAsBefore}
use Rattle.gb_task.proofs.Given.{named_digests, named_outputs}
use Rattle.gb_task.proofs.Settling.{as_before, is_recheck}
use Rattle.gb_folder.proofs.Asked.{requests_nothing, requests_then}
use Rattle.gb_label.proofs.ReadingAnswering.{outputs_longer, trees_longer}
use Rattle.gb_task.specs.Current.{WasReadRecheck}
use Rattle.gb_task.proofs.Answered.{read_recheck}
use Rattle.gb_task.proofs.recheck.recheck_task.Goals as goal

pub decide_on-requires-clause-inputs : goal.decide_on-requires-clause-inputs
decide_on-requires-clause-inputs g c = named_digests c.in_ok-trees.field-0.prints.items c.in_ok-trees.field-0.trees _ c.in_ok-trees.ensures.digests c.in_ok-trees.ensures.named

pub decide_on-requires-clause-outputs : goal.decide_on-requires-clause-outputs
decide_on-requires-clause-outputs g c =
    named_outputs c.args.task.now.outputs c.in_ok-observed.field-0.observed c.in_ok-observed.field-0.prints.items c.in_ok-observed.ensures.digests c.in_ok-observed.ensures.formed

pub returns-clause-recheck : goal.returns-clause-recheck
returns-clause-recheck g c =
    subst (IsRecheck c.args.options c.args.task.now c.args.last.now) (sym c.recheck_by.ensures)
    (is_recheck c.args.options c.args.task.now c.args.last.now c.in_ok-decision.field-0.present c.in_ok-decision.field-0.decision _ _ c.in_ok-trees.field-0.prints.items c.in_ok-observed.field-0.prints.items
    c.in_ok-trees.ensures.named c.in_ok-trees.ensures.digests c.in_ok-observed.ensures.formed c.in_ok-observed.ensures.digests c.in_ok-decision.ensures.present c.in_ok-decision.ensures.decides
    c.in_ok-prints.ensures.inputs c.in_ok-prints.ensures.outputs)

pub returns-clause-as_before : goal.returns-clause-as_before
returns-clause-as_before g c = λ faithful kinds world at inputs_observed outputs_observed goes.
    let completed = c.complete_outputs.ensures.reads.requests.back faithful in
    let F = g.F.Folder in
    let task = c.args.task.now in
    let start : Contents = F.device.contents c.args.folder.now in
    let same : F.device.contents c.complete_inputs.new.folder ≡ start = c.complete_inputs.ensures.reads.same completed in
    subst (IsAsBefore kinds c.args.options task start.files world) (sym c.recheck_by.ensures)
    (as_before c.args.options task c.args.last.now c.in_ok-decision.field-0.present c.in_ok-decision.field-0.decision _ _ c.in_ok-trees.field-0.prints.items c.in_ok-observed.field-0.prints.items
    c.in_ok-trees.ensures.named c.in_ok-trees.ensures.digests c.in_ok-observed.ensures.formed c.in_ok-observed.ensures.digests c.in_ok-decision.ensures.present c.in_ok-decision.ensures.decides
    c.in_ok-prints.ensures.inputs c.in_ok-prints.ensures.outputs
    kinds world start c.args.observed c.requires.not_own c.outside_is_enough.ensures c.prepared_is_case.ensures at goes
    (c.in_ok-trees.ensures.trees completed inputs_observed)
    (c.in_ok-observed.ensures.files faithful (subst (λ (folder : Contents). AreOutputsObserved task folder.files c.args.observed.outputs.items) (sym same) outputs_observed)
    ∙ ap (λ (folder : Contents). map (observed_of folder.files) task.outputs) same))

pub returns-clause-answered : goal.returns-clause-answered
returns-clause-answered g c = λ first before inputs outputs.
    let F = g.F.Folder in
    let task = c.args.task.now in
    let start = c.args.folder.now in
    let mid = c.complete_inputs.new.folder in
    subst (WasReadRecheck F.device first c.complete_outputs.new.folder task) (sym c.recheck_by.ensures)
    (read_recheck F.device first c.complete_outputs.new.folder task c.in_ok-decision.field-0.decision _ _
    (trees_longer (requests_nothing first) c.complete_outputs.ensures.reads.requests task c.in_ok-trees.field-0.trees (c.in_ok-trees.ensures.answered first before inputs))
    (c.in_ok-observed.ensures.answered first (requests_then before c.complete_inputs.ensures.reads.requests)
    (outputs_longer (requests_nothing first) c.complete_inputs.ensures.reads.requests task c.args.observed.outputs.items outputs)))
