use Rattle.std.proofs.Common.{◌⊎◌, ◌∙◌, List, ap, arith, inl, refl, subst}
use Rattle.gb_folder.specs.Files.{Contents}
use Rattle.gb_plan.specs.Graph.{Registry}
use Rattle.gb_registry.specs.SoFar.{scripts_in}
use Rattle.gb_registry.specs.Tables.{tables_of}
use Rattle.gb_report.specs.declared.fault.Fault.{Fault}
use Rattle.gb_folder.proofs.Machine.{machine_before}
use Rattle.gb_folder.specs.Faults.{IsOfMachine}
use Rattle.gb_check.specs.All.{AreFaults}
use Rattle.gb_check.specs.Sites.{IsUnread}
use Rattle.gb_check.specs.Warnings.{AreWarnings}
use Rattle.gb_check.specs.declared.clause_lines.ClauseMark.{ClauseMark}
use Rattle.gb_check.specs.declared.sites.Site.{Site}
use Rattle.gb_check.proofs.Refused.{handed}
use Rattle.gb_check.proofs.Same.{faults_of_same, sites_of_same, warnings_of_same}
use Rattle.gb_check.proofs.find.find.Goals as goal

pub returns-in_err-warnings-clause-err : goal.returns-in_err-warnings-clause-err
returns-in_err-warnings-clause-err g c = λ faithful.
    let F = g.F.Folder in
    let fault = c.in_err-warnings.field-0.0 in
    let before = F.device.failures c.args.folder.now in
    let between = F.device.failures c.find_faults.new.folder in
    let after = F.device.failures c.warn.new.folder in
    let Bad : Fault → Type 0 = λ fault. IsOfMachine before after fault ⊎ IsUnread (F.device.contents c.args.folder.now).files (scripts_in c.args.scripts.now) fault in
    handed Bad c.from_residual-in_err-warnings.result fault c.from_residual-in_err-warnings.ensures.1
    (inl (machine_before before between after fault (omega (arith, c.read_sites.ensures.reads.requests.count, c.find_faults.ensures.reads.requests.count)) c.warn.ensures.reads.requests.count (c.in_err-warnings.ensures.err faithful)))

pub returns-clause-findings : goal.returns-clause-findings
returns-clause-findings g c =
    let F = g.F.Folder in
    let registry = g.Ts.Tasks.registry c.args.tasks.now in
    let scripts = scripts_in c.args.scripts.now in
    let sites = c.in_ok-sites.sites.items in
    let marks = c.in_ok-sites.marks.items in
    let old : Contents = F.device.contents c.args.folder.now in
    let mid : Contents = F.device.contents c.read_sites.new.folder in
    let late : Contents = F.device.contents c.find_faults.new.folder in
    let faults = c.in_ok-faults.faults.items in
    let warnings = c.in_ok-warnings.warnings.items in
    let known = F.device.faithful c.find_faults.new.folder in
    let later = F.device.faithful c.warn.new.folder in
    let back : later → known = c.warn.ensures.reads.requests.back in
    let read : later → F.device.faithful c.read_sites.new.folder = λ here. c.find_faults.ensures.reads.requests.back (back here) in
    record {
      sites = sites;
      marks = marks;
      are_sites = sites_of_same (F.device.faithful c.read_sites.new.folder) later read old.files old.files (λ _. refl) (tables_of g.T.Transforms.meanings g.A.Actions.meanings c.args.tables.now) c.args.known.now scripts sites marks c.in_ok-sites.ensures.sites;
      faults = faults_of_same known later back old.files mid.files (λ here. ap (λ (contents : Contents). contents.files) (c.read_sites.ensures.reads.same (read here))) sites marks registry scripts faults
          (subst (λ (s : List Site). AreFaults known mid.files s marks registry scripts faults) c.as_slice.ensures.value
          (subst (λ (m : List ClauseMark). AreFaults known mid.files c.as_slice.result.now m registry scripts faults) c.as_slice-2.ensures.value c.in_ok-faults.ensures.faults));
      warnings = warnings_of_same later later (λ here. here) old late (λ here. c.find_faults.ensures.reads.same (back here) ∙ c.read_sites.ensures.reads.same (read here)) sites scripts registry warnings
          (subst (λ (r : Registry). AreWarnings later sites scripts late r warnings) c.find_faults.ensures.kept
          (subst (λ (s : List Site). AreWarnings later s scripts late (g.Ts.Tasks.registry c.find_faults.new.tasks) warnings) c.as_slice-3.ensures.value c.in_ok-warnings.ensures.warnings));
    }
