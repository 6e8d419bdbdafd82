use Rattle.std.proofs.Common.{List, arith, sym, subst, ◌∙◌, IfErr}
use Rattle.std.proofs.lemmas.Result.{err_from_is_err_and}
use Rattle.std.specs.List.{AllZip}
use Rattle.gb_plan.proofs.Tests.{not_true}
use Rattle.gb_plan.specs.Task.{Path}
use Rattle.gb_records.specs.Said.{IsReadAt}
use Rattle.gb_folder.specs.Faults.{IsOfMachine}
use Rattle.gb_build.specs.Refusing.{IsUnread}
use Rattle.gb_build.proofs.Read.{all_read, unread}
use Rattle.gb_records.specs.Answered.{WasAnswered}
use Rattle.gb_build.proofs.before.records_for.Goals as goal
use Rattle.gb_build.proofs.before.records_for.Goals.{then-dry_run, else-dry_run+in_ok-paths_of+in_ok-records}

pub returns-in_err-records-clause-unread : goal.returns-in_err-records-clause-unread
returns-in_err-records-clause-unread g c =
    let failures = g.F.Folder.device.failures in
    let p = err_from_is_err_and c.from_residual-in_err-records.result c.from_residual-in_err-records.ensures.1 in
    let fault = c.in_err-records.field-0.0 in
    subst (λ r. IfErr r (IsUnread c.args.dry_run (failures c.args.folder.now) (failures c.read_records.new.folder))) (sym p.1)
    (unread c.read_records.result fault p.0 c.as_slice.result.now (failures c.args.folder.now) (failures c.read_records.new.folder) c.in_err-records.was p.2
    c.read_records.ensures.blamed
    (subst (λ r. IfErr r (IsOfMachine (failures c.args.folder.now) (failures c.read_records.new.folder))) c.in_err-records.was c.read_records.ensures.err)
    c.args.dry_run c.if-dry_run.false)

pub returns-clause-read : goal.returns-clause-read
returns-clause-read g c = λ faithful not_dry. elim c.if-dry_run.branch [
  | then-dry_run w ↦ not_true (sym not_dry ∙ w.if-dry_run.true)
  | else-dry_run+in_ok-paths_of+in_ok-records w ↦
      all_read (IsReadAt (g.F.Folder.device.contents c.args.folder.now).files) c.args.tasks.now c.if-dry_run.records.items c.resize_with.new.self.items c.in_ok-resize_with.ensures.items.0
      (subst (λ v. AllZip (IsReadAt (g.F.Folder.device.contents c.args.folder.now).files) _ v.items) (sym w.records-is)
      (subst (λ (paths : List Path). AllZip (IsReadAt (g.F.Folder.device.contents c.args.folder.now).files) paths w.in_ok-records.records.items) (w.as_slice.ensures.value ∙ w.in_ok-paths_of.ensures) (w.in_ok-records.ensures.read (subst (λ now. g.F.Folder.device.faithful now) w.folder-is faithful))))
      c.in_ok-resize_with.ensures.items.2 (omega (arith, c.resize_with.new.self.ok.0, c.in_ok-resize_with.ensures.len))
]

pub returns-clause-answered : goal.returns-clause-answered
returns-clause-answered g c = λ not_dry.
    let F = g.F.Folder in
    let start = c.args.folder.now in
    elim c.if-dry_run.branch [
      | then-dry_run w ↦ not_true (sym not_dry ∙ w.if-dry_run.true)
      | else-dry_run+in_ok-paths_of+in_ok-records w ↦
          all_read (WasAnswered F.device start c.if-dry_run.folder) c.args.tasks.now c.if-dry_run.records.items c.resize_with.new.self.items c.in_ok-resize_with.ensures.items.0
          (subst (λ v. AllZip (WasAnswered F.device start c.if-dry_run.folder) _ v.items) (sym w.records-is)
          (subst (λ now. AllZip (WasAnswered F.device start now) _ w.in_ok-records.records.items) (sym w.folder-is)
          (subst (λ (paths : List Path). AllZip (WasAnswered F.device start w.read_records.new.folder) paths w.in_ok-records.records.items) (w.as_slice.ensures.value ∙ w.in_ok-paths_of.ensures) w.in_ok-records.ensures.answered)))
          c.in_ok-resize_with.ensures.items.2 (omega (arith, c.resize_with.new.self.ok.0, c.in_ok-resize_with.ensures.len))
    ]
