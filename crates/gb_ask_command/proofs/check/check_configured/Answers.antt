use Rattle.std.proofs.Common.{◌⊎◌, ◌++◌, List, ap, inl, refl, ◌∙◌}
use Rattle.gb_check.specs.declared.findings.Finding.{Finding}
use Rattle.gb_check.specs.Sites.{IsUnread}
use Rattle.gb_declare.specs.Registered.{registry_said}
use Rattle.gb_plan.specs.Graph.{paths_of}
use Rattle.gb_registry.specs.Projects.{Path}
use Rattle.gb_registry.specs.Read.{IsRead}
use Rattle.gb_registry.specs.SoFar.{scripts_in}
use Rattle.gb_registry.specs.Tables.{tables_of}
use Rattle.gb_report.specs.declared.fault.Fault.{Fault}
use Rattle.gb_script.specs.declared.script.Statement.{Statement}
use Rattle.gb_folder.proofs.Machine.{machine_before}
use Rattle.gb_folder.specs.Faults.{IsOfMachine}
use Rattle.gb_ask_command.specs.Unread.{unread_values}
use Rattle.gb_check.proofs.Refused.{handed}
use Rattle.gb_check.proofs.Same.{found_of_same}
use Rattle.gb_ask_command.proofs.Quiet.{left_of_same}
use Rattle.gb_ask_command.proofs.check.check_configured.Goals as goal

pub returns-clause-found : goal.returns-clause-found
returns-clause-found g c =
    let F = g.F.Folder in
    let known = F.device.faithful c.warn_unregistered.new.folder in
    let back = c.warn_unregistered.ensures.reads.requests.back in
    let old = F.device.contents c.args.folder.now in
    let scripts = scripts_in c.scripts-scripts.result.now in
    let source = c.args.configured.now.registry in
    let tables = tables_of g.T.Transforms.meanings g.A.Actions.meanings c.args.configured.now.tables.now in
    let reported = c.in_ok-with_warnings.ensures in
    let found = c.in_ok-found.found in
    let left = c.in_ok-left.left.items in
    record {
      scripts = scripts;
      are_scripts = c.scripts-scripts.ensures.read;
      in_tasks = found;
      findings = found_of_same (F.device.faithful c.check_tasks.new.folder) known back old old (λ faithful. refl) tables source.names (registry_said tables source) scripts found c.in_ok-found.ensures.found;
      left = left;
      are_left = left_of_same known old (F.device.contents c.check_tasks.new.folder) (λ faithful. c.check_tasks.ensures.reads.same (back faithful))
          (paths_of (registry_said tables source)) left c.in_ok-left.ensures.found;
      faults = reported.0;
      warnings =
          reported.1
          ∙ ap (λ (first : List Finding). first ++ found.warnings.items ++ left) (c.in_ok-unread.ensures.found ∙ ap (unread_values scripts) c.given.ensures);
    }

pub returns-in_err-left-clause-err : goal.returns-in_err-left-clause-err
returns-in_err-left-clause-err g c = λ faithful.
    let F = g.F.Folder in
    let files = (F.device.contents c.args.folder.now).files in
    let failures = F.device.failures in
    let source = c.args.configured.now.registry in
    let Bad : Fault → Type 0 = λ fault.
    IsOfMachine (failures c.args.folder.now) (failures c.warn_unregistered.new.folder) fault
    ⊎ ((scripts : List (Path × List Statement)) × IsRead source scripts × IsUnread files scripts fault) in
    let fault = c.in_err-left.field-0.0 in
    handed Bad c.from_residual-in_err-left.result fault c.from_residual-in_err-left.ensures.1
    (inl (machine_before _ _ _ fault c.check_tasks.ensures.reads.requests.count c.warn_unregistered.ensures.reads.requests.count (c.in_err-left.ensures.err faithful)))
