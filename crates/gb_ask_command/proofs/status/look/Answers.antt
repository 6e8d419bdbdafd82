use Rattle.std.proofs.Common.{subst}
use Rattle.std.specs.Prelude.{IfOk, string_bytes}
use Rattle.gb_declare.specs.Registered.{registry_said}
use Rattle.gb_folder.specs.Files.{Contents}
use Rattle.gb_semantics.specs.Edits.{Shown}
use Rattle.gb_plan.specs.Graph.{paths_of}
use Rattle.gb_query.specs.Notation.{IsStatusOf}
use Rattle.gb_registry.specs.Tables.{tables_of}
use Rattle.gb_registry.specs.declared.tables.Tables as handed
use Rattle.gb_ask_command.proofs.Replying.{of_status}
use Rattle.gb_ask_command.proofs.Reported.{shows}
use Rattle.gb_ask_command.proofs.status.look.Goals as goal

pub returns-in-Ok-clause-reply : goal.returns-in-Ok-clause-reply
returns-in-Ok-clause-reply g c =
    let F = g.F.Folder in
    let M = g.A.Actions.meanings in
    let notation = c.args.notation in
    let activity = c.args.activity in
    let source = c.in-Ok.configured.registry in
    let old : Shown = shows (F.device.contents c.args.folder.now) (F.device.failures c.args.folder.now) in
    let mid : Contents = F.device.contents c.read_asked.new.folder in
    let result = c.look_beside.result in
    let known = F.device.faithful c.look_beside.new.folder in
    let back = c.look_beside.ensures.reads.requests.back in
    of_status (tables_of g.T.Transforms.meanings M c.args.tables.now) known old (F.device.failures c.look_beside.new.folder) c.args.invocation.now
    notation activity source (λ faithful. c.in-Ok.ensures.read (back faithful)) mid (F.device.failures c.read_asked.new.folder)
    (λ faithful. c.read_asked.ensures.reads.same (back faithful)) c.read_asked.ensures.reads.requests.count c.look_beside.ensures.reads.requests.count result
    (subst (λ (given : handed.Tables _ _ _ _ _ _ _). IfOk result (λ text. IsStatusOf known notation activity mid.files (paths_of (registry_said (tables_of g.T.Transforms.meanings M given) source)) (string_bytes text))) c.in-Ok.ensures.tables c.look_beside.ensures.text)
    c.look_beside.ensures.refused
