use Rattle.std.proofs.Common.{◌⊎◌, ◌++◌, arith, ◌∙◌, [], List, append-nil, append_assoc, ap, refl, subst, sym}
use Rattle.std.proofs.lemmas.List.{drop_all}
use Rattle.gb_folder.specs.Files.{Contents}
use Rattle.gb_folder.proofs.Asked.{requests_then}
use Rattle.gb_registry.specs.SoFar.{scripts_in}
use Rattle.gb_registry.specs.Tables.{tables_of}
use Rattle.gb_registry.specs.declared.checking.Scripted.{Scripted}
use Rattle.gb_report.specs.declared.fault.Fault.{Fault}
use Rattle.gb_folder.specs.Faults.{IsOfMachine}
use Rattle.gb_check.specs.Sites.{AreLinesAt, AreSites, HasTextFault, IsUnread, script_of_project, sites_of}
use Rattle.gb_check.specs.Marks.{marks_of, script_scope}
use Rattle.gb_check.specs.declared.clause_lines.ClauseMark.{ClauseMark}
use Rattle.gb_check.specs.declared.sites.Site.{Site}
use Rattle.gb_registry.specs.Projects.{Path}
use Rattle.gb_script.specs.declared.script.Statement.{Statement}
use Rattle.gb_check.proofs.Refused.{handed, unread_one}
use Rattle.gb_check.proofs.Rows.{contained, rest_from}
use Rattle.gb_check.proofs.sites.read_sites.Goals as goal

pub loop-scripted-preserved : goal.loop-scripted-preserved
loop-scripted-preserved g c =
    let F = g.F.Folder in
    let scripted = c.scripted-item.result in
    let scripts = c.args.scripts.now in
    let index = c.loop-scripted.scripted-index in
    let files = (F.device.contents c.args.folder.now).files in
    let tables = tables_of g.T.Transforms.meanings g.A.Actions.meanings c.args.tables.now in
    let names = c.args.names.now in
    let place = script_of_project scripted.project in
    let added = c.in_ok-push_script.ensures.sites in
    let before = c.loop-scripted.sites.items in
    let more = sites_of scripted.project place scripted.script added.0 in
    let marks_before = c.loop-scripted.marks.items in
    let marked = marks_of tables (script_scope names scripted.project scripted.script) scripted.project scripted.script added.0 in
    let back = c.push_script.ensures.reads.requests.back in
    record {
      requests = requests_then c.loop-scripted.invariant.requests c.push_script.ensures.reads.requests;
      back = λ known. c.loop-scripted.invariant.back (back known);
      same = λ faithful. c.push_script.ensures.reads.same faithful ∙ c.loop-scripted.invariant.same (back faithful);
      sites = λ later leads others words rest.
          subst (λ (sites : List Site). AreSites tables names (F.device.faithful later) files (scripts_in scripts) sites (c.push_script.new.marks.items ++ words)) (sym (ap (λ (sites : List Site). sites ++ others) added.2 ∙ append_assoc before more others))
          (subst (λ (marks : List ClauseMark). AreSites tables names (F.device.faithful later) files (scripts_in scripts) (before ++ (more ++ others)) marks) (sym (ap (λ (marks : List ClauseMark). marks ++ words) added.3 ∙ append_assoc marks_before marked words))
          (c.loop-scripted.invariant.sites later (λ known. back (leads known)) (more ++ others) (marked ++ words)
          (subst (λ (left : List Scripted). AreSites tables names (F.device.faithful later) files (scripts_in left) (more ++ others) (marked ++ words)) (sym (rest_from scripts index scripted c.loop-scripted-test.true c.scripted-item.is)) (
            added.0,
            others,
            words,
            λ known. subst (λ (contents : Contents). AreLinesAt contents.files place added.0) (c.loop-scripted.invariant.same (back (leads known))) (added.1 (leads known)),
            rest,
            refl,
            refl,
          ))));
    }

pub returns-in_err-push_script-clause-err : goal.returns-in_err-push_script-clause-err
returns-in_err-push_script-clause-err g c = λ faithful.
    let F = g.F.Folder in
    let scripted = c.scripted-item.result in
    let scripts = c.args.scripts.now in
    let files = (F.device.contents c.args.folder.now).files in
    let fault = c.in_err-push_script.field-0.0 in
    let script : Path × List Statement = (scripted.project, scripted.script) in
    let Bad : Fault → Type 0 = λ fault. IsOfMachine (F.device.failures c.args.folder.now) (F.device.failures c.push_script.new.folder) fault ⊎ IsUnread files (scripts_in scripts) fault in
    handed Bad c.from_residual.result fault c.from_residual.ensures.1
    (unread_one files (scripts_in scripts) script _ (F.device.failures c.loop-scripted.folder) _ fault
    (contained (λ (s : Scripted). (s.project, s.script)) scripts c.loop-scripted.scripted-index scripted c.loop-scripted-test.true c.scripted-item.is)
    c.loop-scripted.invariant.requests.count c.push_script.ensures.reads.requests.count
    (subst (λ (contents : Contents). IsOfMachine (F.device.failures c.loop-scripted.folder) (F.device.failures c.push_script.new.folder) fault ⊎ HasTextFault contents.files (script_of_project scripted.project) fault)
    (c.loop-scripted.invariant.same (c.push_script.ensures.reads.requests.back faithful)) (c.in_err-push_script.ensures.err faithful)))

pub returns-clause-sites : goal.returns-clause-sites
returns-clause-sites g c =
    let F = g.F.Folder in
    let scripts = c.args.scripts.now in
    let files = (F.device.contents c.args.folder.now).files in
    let tables = tables_of g.T.Transforms.meanings g.A.Actions.meanings c.args.tables.now in
    let names = c.args.names.now in
    let sites = c.loop-scripted.sites.items in
    let marks = c.loop-scripted.marks.items in
    let all = drop_all c.loop-scripted.scripted-index scripts (omega (arith, c.loop-scripted-test.false)) in
    subst (λ (s : List Site). AreSites tables names (F.device.faithful c.loop-scripted.folder) files (scripts_in scripts) s marks) (append-nil sites)
    (subst (λ (m : List ClauseMark). AreSites tables names (F.device.faithful c.loop-scripted.folder) files (scripts_in scripts) (sites ++ []) m) (append-nil marks)
    (c.loop-scripted.invariant.sites c.loop-scripted.folder (λ known. known) [] [] (subst (λ (left : List Scripted). AreSites tables names (F.device.faithful c.loop-scripted.folder) files (scripts_in left) [] []) (sym all) (refl, refl))))
