use Rattle.std.proofs.Common.{Ok, Err}
use Rattle.std.proofs.lemmas.Result.{err_from_is_err_and}
use Rattle.std.specs.FinMap.Entries.{find}
use Rattle.gb_project.proofs.ReportLemmas.{first_fails, passed_on, sorted_shows, then_gives}
use Rattle.gb_core.specs.Lists.{byte_order}
use Rattle.gb_registry.specs.Tables.{tables_of}
use Rattle.gb_declare.specs.Realised.{action_of, each_of, fitting, required}
use Rattle.gb_declare.specs.Whole.{spots, whole}
use Rattle.gb_project.proofs.RowValueLemmas.{arguments_there}
use Rattle.gb_project.proofs.task_actions.action.Goals as goal

pub returns-in_err-args-clause-reported : goal.returns-in_err-args-clause-reported
returns-in_err-args-clause-reported g c = λ source number over at is are.
    let context = c.args.context.now in
    let tables = tables_of g.T.Transforms.meanings g.A.Actions.meanings context.tables.now in
    let call = c.args.call.now in
    let given = each_of (required tables source at (spots tables source) (whole tables source) call.name) call.arguments in
    let fits = fitting tables source at (spots tables source) (whole tables source) call (find byte_order call.name tables.kinds) in
    let fault = c.in_err-args.field-0.0 in
    let p = err_from_is_err_and c.from_residual.result c.from_residual.ensures.1 in
    passed_on tables source (action_of tables source at (spots tables source) (whole tables source) call) c.from_residual.result p.0 fault p.1 p.2
    (first_fails tables source given fits fault
    (arguments_there tables source number at c.args.path.now is c.args.row.now call.arguments are call.name (Err fault) (c.in_err-args.ensures.reported source number over)))

pub returns-clause-reported : goal.returns-clause-reported
returns-clause-reported g c = λ source number over at is are.
    let context = c.args.context.now in
    let tables = tables_of g.T.Transforms.meanings g.A.Actions.meanings context.tables.now in
    let call = c.args.call.now in
    let given = each_of (required tables source at (spots tables source) (whole tables source) call.name) call.arguments in
    let fits = fitting tables source at (spots tables source) (whole tables source) call (find byte_order call.name tables.kinds) in
    then_gives tables source given fits c.in_ok-args.args c.fitting.result
    (arguments_there tables source number at c.args.path.now is c.args.row.now call.arguments are call.name (Ok c.in_ok-args.args) (c.in_ok-args.ensures.reported source number over))
    (sorted_shows tables source (fits c.in_ok-args.args) c.fitting.result (c.fitting.ensures source at is))
