use Rattle.std.proofs.Common.{◌⊎◌, List, Ok, Err, subst, ◌∙◌}
use Rattle.std.specs.Prelude.{MatchResult}
use Rattle.gb_build.specs.Scripts.{FolderDeclares}
use Rattle.gb_plan.specs.Task.{Text}
use Rattle.gb_registry.specs.Tables.{tables_of}
use Rattle.gb_folder.specs.Faults.{IsOfMachine}
use Rattle.gb_ask_command.proofs.Replying.{where_known}
use Rattle.gb_ask_command.proofs.read_scripts.read_asked.Goals as goal

pub returns-in-Ok-clause-read : goal.returns-in-Ok-clause-read
returns-in-Ok-clause-read g c =
    let F = g.F.Folder in
    let tables = tables_of g.T.Transforms.meanings g.A.Actions.meanings c.args.tables.now in
    let files = (F.device.contents c.args.folder.now).files in
    let before = F.device.failures c.args.folder.now in
    let after = F.device.failures c.read_registry.new.folder in
    let given = c.args.invocation.now.properties in
    where_known (F.device.faithful c.read_registry.new.folder) (λ configured. FolderDeclares tables files given (Ok configured.registry)) (λ fault. IsOfMachine before after fault ⊎ FolderDeclares tables files given (Err fault)) c.read_registry.result
    (λ faithful. subst (λ (values : List (Text × Text)). MatchResult c.read_registry.result (λ configured. FolderDeclares tables files values (Ok configured.registry)) (λ fault. IsOfMachine before after fault ⊎ FolderDeclares tables files values (Err fault)))
    (c.into_vec-given.ensures ∙ c.in-Ok.ensures) (c.read_registry.ensures.said faithful))
