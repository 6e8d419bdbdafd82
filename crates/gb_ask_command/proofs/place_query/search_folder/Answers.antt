use Rattle.std.proofs.Common.{subst}
use Rattle.std.specs.Prelude.{IfOk, string_bytes}
use Rattle.gb_declare.specs.Registered.{registry_said}
use Rattle.gb_semantics.specs.Edits.{Shown}
use Rattle.gb_query.specs.Notation.{IsFoundText}
use Rattle.gb_query.specs.Search.{found_in}
use Rattle.gb_registry.specs.Tables.{tables_of}
use Rattle.gb_registry.specs.declared.tables.Tables as handed
use Rattle.gb_ask_command.proofs.Replying.{of_text}
use Rattle.gb_ask_command.proofs.Reported.{shows}
use Rattle.gb_ask_command.proofs.place_query.search_folder.Goals as goal

pub returns-in-Ok-clause-reply : goal.returns-in-Ok-clause-reply
returns-in-Ok-clause-reply g c =
    let F = g.F.Folder in
    let M = g.A.Actions.meanings in
    let notation = c.args.notation in
    let relation = c.args.relation in
    let place = c.args.place.now in
    let source = c.in-Ok.configured.registry in
    let old : Shown = shows (F.device.contents c.args.folder.now) (F.device.failures c.args.folder.now) in
    let result = c.search_registered.result in
    of_text (tables_of g.T.Transforms.meanings M c.args.tables.now) (F.device.faithful c.read_asked.new.folder) old (F.device.failures c.read_asked.new.folder) c.args.invocation.now
    (λ registry text. IsFoundText notation relation (found_in relation place registry) text) source c.in-Ok.ensures.read result
    (subst (λ (given : handed.Tables _ _ _ _ _ _ _). IfOk result (λ text. IsFoundText notation relation (found_in relation place (registry_said (tables_of g.T.Transforms.meanings M given) source)) (string_bytes text))) c.in-Ok.ensures.tables c.search_registered.ensures.text)
    c.search_registered.ensures.fault
