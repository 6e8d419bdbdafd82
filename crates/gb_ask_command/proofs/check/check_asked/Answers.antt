use Rattle.std.proofs.Common.{◌≡◌, ◌⊎◌, Ok, Err, List, ap, inl, inr, subst, sym, ◌∙◌}
use Rattle.std.specs.Prelude.{IfOk}
use Rattle.gb_build.specs.Scripts.{FolderDeclares}
use Rattle.gb_check.specs.Sites.{IsUnread}
use Rattle.gb_check.specs.declared.findings.Findings.{Findings}
use Rattle.gb_folder.specs.Files.{Contents, Files}
use Rattle.gb_registry.specs.Projects.{Path}
use Rattle.gb_registry.specs.Read.{IsRead}
use Rattle.gb_registry.specs.Tables.{tables_of}
use Rattle.gb_registry.specs.declared.tables.Tables as tables_of_code
use Rattle.gb_report.specs.declared.fault.Fault.{Fault}
use Rattle.gb_script.specs.declared.script.Statement.{Statement}
use Rattle.gb_folder.proofs.Machine.{machine_after, machine_before}
use Rattle.gb_folder.specs.Faults.{IsOfMachine}
use Rattle.gb_ask_command.specs.Check.{AreFindingsOf, IsChecked, IsFoundAt}
use Rattle.gb_ask_command.specs.Faulty.{IsFaultless, IsTextFault}
use Rattle.gb_ask_command.proofs.Again.{match_of, none_again}
use Rattle.gb_ask_command.proofs.FaultyLemmas.{of_texts}
use Rattle.gb_ask_command.proofs.Quiet.{found_at_same, found_in_same, quiet}
use Rattle.gb_ask_command.proofs.check.check_asked.Goals as goal

pub returns-in-Ok-clause-reply : goal.returns-in-Ok-clause-reply
returns-in-Ok-clause-reply g c =
    let F = g.F.Folder in
    let M = g.A.Actions.meanings in
    let source = c.in-Ok.configured.registry in
    let old : Contents = F.device.contents c.args.folder.now in
    let mid : Contents = F.device.contents c.read_registry.new.folder in
    let before = F.device.failures c.args.folder.now in
    let between = F.device.failures c.read_registry.new.folder in
    let after = F.device.failures c.check_configured-found.new.folder in
    let known = F.device.faithful c.check_configured-found.new.folder in
    let back = c.check_configured-found.ensures.reads.requests.back in
    let tables = tables_of g.T.Transforms.meanings M c.args.tables.now in
    let given = c.args.invocation.now.properties in
    let said : known → FolderDeclares tables old.files given (Ok source) =
    λ faithful. subst (λ values. FolderDeclares tables old.files values (Ok source)) (c.into_vec-given.ensures ∙ c.in_ok-copied.ensures) (c.in-Ok.ensures.said (back faithful)) in
    let found : IfOk c.check_configured-found.result (AreFindingsOf tables known source mid) =
    subst (λ (handed_in : tables_of_code.Tables _ _ _ _ _ _ _). IfOk c.check_configured-found.result (AreFindingsOf (tables_of g.T.Transforms.meanings M handed_in) known source mid)) c.in-Ok.ensures.tables c.check_configured-found.ensures.found in
    let Unread : Contents → Fault → Type 0 = λ contents fault. (scripts : List (Path × List Statement)) × IsRead source scripts × IsUnread contents.files scripts fault in
    let Bad : Fault → Type 0 = λ fault. IsOfMachine between after fault ⊎ Unread mid fault in
    let Worse : Fault → Type 0 = λ fault. IsOfMachine before after fault ⊎ IsTextFault old.files fault in
    let Replied : Findings → Type 0 = λ found. IsChecked tables known c.args.invocation.now old found ⊎ IsFoundAt tables known old.files found in
    match_of c.check_configured-found.result (AreFindingsOf tables known source mid) Replied known Bad Worse
    (λ findings are.
    let here : AreFindingsOf tables known source old findings = found_in_same tables known old mid (λ faithful. c.read_registry.ensures.reads.same (back faithful)) source findings are in
    inl (record {
      source = source;
      said = said;
      found_of = here;
      quiet = λ faithful none. quiet tables source old given (said faithful) (here.findings.faults.silent (sym here.faults ∙ none));
    }))
    (λ fault faithful bad.
    elim bad as (λ _. Worse fault) [
      | inl machine ↦ inl (machine_before before between after fault c.read_registry.ensures.reads.requests.count c.check_configured-found.ensures.reads.requests.count machine)
      | inr unread ↦ absurd (none_again tables old.files given source unread.0 fault (said faithful) unread.1 (subst (λ (contents : Contents). IsUnread contents.files unread.0 fault) (c.read_registry.ensures.reads.same (back faithful)) unread.2))
    ])
    found
    c.check_configured-found.ensures.err

pub returns-in-Err-clause-reply : goal.returns-in-Err-clause-reply
returns-in-Err-clause-reply g c =
    let F = g.F.Folder in
    let old : Contents = F.device.contents c.args.folder.now in
    let mid : Contents = F.device.contents c.read_registry.new.folder in
    let before = F.device.failures c.args.folder.now in
    let between = F.device.failures c.read_registry.new.folder in
    let after = F.device.failures c.check_statements.new.folder in
    let known = F.device.faithful c.check_statements.new.folder in
    let back = c.check_statements.ensures.reads.requests.back in
    let tables = tables_of g.T.Transforms.meanings g.A.Actions.meanings c.args.tables.now in
    let given = c.args.invocation.now.properties in
    let refused = c.in-Err.fault in
    let Replied : Findings → Type 0 = λ found. IsChecked tables known c.args.invocation.now old found ⊎ IsFoundAt tables known old.files found in
    let Refused : List (List _ × List _) → Fault → Type 0 = λ values fault. IsOfMachine before between fault ⊎ FolderDeclares tables old.files values (Err fault) in
    let Faultless : Fault → Type 0 = λ fault. (fault ≡ refused) × IsFaultless tables mid.files in
    let Told : Fault → Type 0 = λ fault. IsOfMachine between after fault ⊎ (IsTextFault mid.files fault ⊎ Faultless fault) in
    let Worse : Fault → Type 0 = λ fault. IsOfMachine before after fault ⊎ IsTextFault old.files fault in
    match_of c.check_statements.result (IsFoundAt tables known mid.files) Replied known Told Worse
    (λ found is. inr (found_at_same tables known old.files mid.files (λ faithful. ap (λ (contents : Contents). contents.files) (c.read_registry.ensures.reads.same (back faithful))) found is))
    (λ fault faithful told.
    let same_files : mid.files ≡ old.files = ap (λ (contents : Contents). contents.files) (c.read_registry.ensures.reads.same (back faithful)) in
    elim told as (λ _. Worse fault) [
      | inl machine ↦ inl (machine_before before between after fault c.read_registry.ensures.reads.requests.count c.check_statements.ensures.reads.requests.count machine)
      | inr (inl text) ↦ inr (subst (λ (files : Files). IsTextFault files fault) same_files text)
      | inr (inr (is, faultless)) ↦ subst Worse (sym is)
          (elim (subst (λ values. Refused values refused) (c.into_vec-given.ensures ∙ c.in_ok-copied.ensures) (c.in-Err.ensures.said (back faithful))) as (λ _. Worse refused) [
            | inl machine ↦ inl (machine_after before between after refused c.check_statements.ensures.reads.requests.count machine)
            | inr says ↦ inr (of_texts tables old.files given refused (subst (λ (files : Files). IsFaultless tables files) same_files faultless) says)
          ])
    ])
    c.check_statements.ensures.found
    c.check_statements.ensures.err
