use Rattle.std.proofs.Common.{List, option_copied, subst}
use Rattle.gb_folder.proofs.Asked.{requests_nothing, requests_then}
use Rattle.gb_label.proofs.ReadingAnswering.{inputs_longer}
use Rattle.gb_label.specs.Reading.{Read}
use Rattle.gb_label.specs.Answered.{WasDecided, IsEarlyCaseRead}
use Rattle.gb_label.specs.Looking.{MayBe}
use Rattle.gb_label.specs.declared.early_outcomes.EarlyCase.{EarlyCase}
use Rattle.gb_tree.proofs.Remembering.{seen_longer}
use Rattle.gb_label.proofs.prepare.prepare.Goals as goal

pub returns-in_ok-found-in-Open-clause-answered : goal.returns-in_ok-found-in-Open-clause-answered
returns-in_ok-found-in-Open-clause-answered g c = λ first before known.
    let F = g.F.Folder in
    let mid = c.early_case_of.new.folder in
    let new = c.decided.new.folder in
    let task = c.args.task.now in
    let last = option_copied c.args.old in
    let inputs = c.in-Open.inputs.items in
    let found = c.in_ok-found-in-Open.found in (
      (subst (MayBe task) c.in-Open.is c.in_ok-early_case_of.ensures.may_be).2,
      inputs_longer (requests_nothing first) c.decided.ensures.reads.requests task inputs
          (subst (λ (look : EarlyCase). IsEarlyCaseRead F.device first mid task look) c.in-Open.is (c.in_ok-early_case_of.ensures.answered first before known)),
      subst (λ (observed : List Read). WasDecided F.device first new c.args.options task last observed found.decision found.outputs.items)
          c.as_slice-in-Open.ensures.value
          (c.in_ok-found-in-Open.ensures.answered first (requests_then before c.early_case_of.ensures.reads.requests) (seen_longer (requests_nothing first) c.early_case_of.ensures.reads.requests c.args.seen.now known)),
    )
