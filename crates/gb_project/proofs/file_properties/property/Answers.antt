use Rattle.std.proofs.Common.{Ok, Err, sym, ap, ◌∙◌}
use Rattle.std.proofs.lemmas.Result.{err_from_is_err_and}
use Rattle.gb_project.proofs.ReportLemmas.{first_fails, passed_on}
use Rattle.gb_registry.specs.Tables.{tables_of}
use Rattle.gb_declare.specs.Realised.{and_then, each_of, files_under, place_of}
use Rattle.gb_declare.specs.Whole.{spots, whole}
use Rattle.gb_project.proofs.FileLemmas.{over_roots}
use Rattle.gb_project.proofs.RowValueLemmas.{places_there}
use Rattle.gb_project.proofs.file_properties.property.Goals as goal

pub returns-in_err-roots-clause-reported : goal.returns-in_err-roots-clause-reported
returns-in_err-roots-clause-reported g c = λ source number over at is are.
    let context = c.args.context.now in
    let tables = tables_of g.T.Transforms.meanings g.A.Actions.meanings context.tables.now in
    let name = c.args.name.now in
    let files = c.args.files.now in
    let places = each_of (place_of tables source at (spots tables source) (whole tables source) name) files.from in
    let fault = c.in_err-roots.field-0.0 in
    let p = err_from_is_err_and c.from_residual.result c.from_residual.ensures.1 in
    passed_on tables source (files_under tables source at (spots tables source) (whole tables source) (name, files)) c.from_residual.result p.0 fault p.1 p.2
    (first_fails tables source places (λ roots. Ok (over_roots name files roots)) fault
    (places_there tables source number at c.args.path.now is c.args.row.now files.from are name (Err fault) (c.in_err-roots.ensures.reported source number over)))

pub returns-clause-reported : goal.returns-clause-reported
returns-clause-reported g c = λ source number over at is are.
    let context = c.args.context.now in
    let tables = tables_of g.T.Transforms.meanings g.A.Actions.meanings context.tables.now in
    let name = c.args.name.now in
    let files = c.args.files.now in
    let places = each_of (place_of tables source at (spots tables source) (whole tables source) name) files.from in
    ap (λ r. and_then r (λ roots. Ok (over_roots name files roots)))
    (places_there tables source number at c.args.path.now is c.args.row.now files.from are name (Ok c.in_ok-roots.roots) (c.in_ok-roots.ensures.reported source number over))
    ∙ ap Ok (sym c.in_ok-with_roots.ensures)
