use Rattle.std.proofs.Common.{subst}
use Rattle.std.specs.Prelude.{IfErr, IfOk, string_bytes}
use Rattle.gb_declare.specs.Registered.{registry_said}
use Rattle.gb_graph.specs.Answer.{IsRefusalOf}
use Rattle.gb_semantics.specs.Edits.{Shown}
use Rattle.gb_registry.specs.Tables.{tables_of}
use Rattle.gb_registry.specs.declared.tables.Tables as handed
use Rattle.gb_ask_command.specs.Graph.{IsDrawing}
use Rattle.gb_ask_command.proofs.Replying.{of_drawing}
use Rattle.gb_ask_command.proofs.Reported.{shows}
use Rattle.gb_ask_command.proofs.graph.draw.Goals as goal

pub returns-in-Ok-clause-reply : goal.returns-in-Ok-clause-reply
returns-in-Ok-clause-reply g c =
    let F = g.F.Folder in
    let M = g.A.Actions.meanings in
    let invocation = c.args.invocation.now in
    let style = c.args.style in
    let predicted = c.args.predicted.now in
    let source = c.in-Ok.configured.registry in
    let old : Shown = shows (F.device.contents c.args.folder.now) (F.device.failures c.args.folder.now) in
    let result = c.draw_registered.result in
    of_drawing (tables_of g.T.Transforms.meanings M c.args.tables.now) (F.device.faithful c.read_asked.new.folder) old (F.device.failures c.read_asked.new.folder) invocation
    style predicted source c.in-Ok.ensures.read result
    (subst (λ (given : handed.Tables _ _ _ _ _ _ _). IfOk result (λ text. IsDrawing style predicted (registry_said (tables_of g.T.Transforms.meanings M given) source) invocation.requested invocation.excluded (string_bytes text))) c.in-Ok.ensures.tables c.draw_registered.ensures.drawing)
    (subst (λ (given : handed.Tables _ _ _ _ _ _ _). IfErr result (IsRefusalOf (registry_said (tables_of g.T.Transforms.meanings M given) source) invocation.requested invocation.excluded)) c.in-Ok.ensures.tables c.draw_registered.ensures.fault)
