use Rattle.std.proofs.Common.{◌++◌, List, ap, ◌∙◌}
use Rattle.gb_folder.specs.Files.{Contents}
use Rattle.gb_folder.proofs.Asked.{requests_then}
use Rattle.gb_check.specs.Warnings.{bare_root}
use Rattle.gb_check.specs.declared.findings.Finding.{Finding}
use Rattle.gb_folder.proofs.Machine.{machine_before}
use Rattle.gb_folder.specs.Faults.{IsOfMachine}
use Rattle.gb_check.proofs.Refused.{handed}
use Rattle.gb_check.proofs.Rows.{one_more}
use Rattle.gb_check.proofs.bare.warn_each.Goals as goal

pub loop-rooted-preserved : goal.loop-rooted-preserved
loop-rooted-preserved g c =
    let F = g.F.Folder in
    let sites = c.args.sites.now in
    let outputs = c.args.outputs.now in
    let rooted = c.rooted-item.result in
    let before = c.loop-rooted.found.items in
    let back = c.push_rooted.ensures.reads.requests.back in
    let of = bare_root sites (F.device.contents c.args.folder.now) outputs in
    record {
      requests = requests_then c.loop-rooted.invariant.requests c.push_rooted.ensures.reads.requests;
      back = λ known. c.loop-rooted.invariant.back (back known);
      same = λ faithful. c.push_rooted.ensures.reads.same faithful ∙ c.loop-rooted.invariant.same (back faithful);
      found = λ faithful.
          c.in_ok-push_rooted.ensures.found faithful
          ∙ ap (λ (contents : Contents). before ++ bare_root sites contents outputs rooted) (c.loop-rooted.invariant.same (back faithful))
          ∙ ap (λ (found : List Finding). found ++ of rooted) (c.loop-rooted.invariant.found (back faithful))
          ∙ one_more of c.args.roots.now c.loop-rooted.rooted-index rooted c.loop-rooted-test.true c.rooted-item.is;
    }

pub returns-in_err-push_rooted-clause-err : goal.returns-in_err-push_rooted-clause-err
returns-in_err-push_rooted-clause-err g c = λ faithful.
    let failures = g.F.Folder.device.failures in
    let fault = c.in_err-push_rooted.field-0.0 in
    handed (IsOfMachine (failures c.args.folder.now) (failures c.push_rooted.new.folder)) c.from_residual.result fault c.from_residual.ensures.1
    (machine_before _ _ _ fault c.loop-rooted.invariant.requests.count c.push_rooted.ensures.reads.requests.count (c.in_err-push_rooted.ensures.err faithful))
