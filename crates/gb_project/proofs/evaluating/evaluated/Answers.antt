use Rattle.std.proofs.Common.{Result, Ok, Err, sym, ap, subst, ◌∙◌}
use Rattle.std.proofs.lemmas.Result.{err_from_is_err_and}
use Rattle.gb_project.proofs.ReportLemmas.{first_fails, passed_on, then_gives}
use Rattle.gb_project.specs.Over.{IsOver, Reports, known_names}
use Rattle.gb_plan.specs.declared.task.TaskDeclaration.{TaskDeclaration}
use Rattle.gb_registry.specs.Tables.{tables_of}
use Rattle.gb_report.specs.declared.fault.Fault.{Fault}
use Rattle.gb_declare.specs.Realised.{and_then, evaluated}
use Rattle.gb_declare.specs.Views.{joined_of}
use Rattle.gb_declare.specs.Whole.{spots, trees_of, whole}
use Rattle.gb_project.specs.Evaluated.{contents_of, declaration_of, flags_of}
use Rattle.gb_project.specs.Parts.{AreAllWithin, HaveAllValues}
use Rattle.gb_project.specs.Rows.{AreFor, AreWithin}
use Rattle.gb_project.specs.declared.parts.Contents.{Contents}
use Rattle.gb_project.specs.declared.parts.Flags.{Flags}
use Rattle.gb_project.proofs.EvaluatedLemmas.{in_parts, needed, needs_there}
use Rattle.gb_project.proofs.PartLemmas.{parts_for, parts_within}
use Rattle.gb_project.proofs.evaluating.evaluated.Goals as goal

pub flags-requires-clause-within : goal.flags-requires-clause-within
flags-requires-clause-within g c =
    parts_within c.args.providers.now.nodes c.split-parts.result (subst (AreWithin c.args.providers.now.nodes) (sym c.split-parts.ensures.whole) c.requires.within)

pub contents-requires-clause-within : goal.contents-requires-clause-within
contents-requires-clause-within g c =
    subst (λ p. AreAllWithin p.nodes c.split-parts.result) (sym c.in_ok-flags.ensures.kept)
    (parts_within c.args.providers.now.nodes c.split-parts.result (subst (AreWithin c.args.providers.now.nodes) (sym c.split-parts.ensures.whole) c.requires.within))

pub needs-requires-clause-within : goal.needs-requires-clause-within
needs-requires-clause-within g c =
    subst (λ p. AreAllWithin p.nodes c.split-parts.result) (sym (c.in_ok-contents.ensures.kept ∙ c.in_ok-flags.ensures.kept))
    (parts_within c.args.providers.now.nodes c.split-parts.result (subst (AreWithin c.args.providers.now.nodes) (sym c.split-parts.ensures.whole) c.requires.within))

pub needs-requires-clause-values : goal.needs-requires-clause-values
needs-requires-clause-values g c = subst (λ p. HaveAllValues g.T.Transforms.meanings p.nodes c.split-parts.result) (sym c.in_ok-contents.ensures.kept) c.in_ok-contents.ensures.given

pub returns-in_err-flags-clause-reported : goal.returns-in_err-flags-clause-reported
returns-in_err-flags-clause-reported g c = λ source number over at is are.
    let context = c.args.context.now in
    let tables = tables_of g.T.Transforms.meanings g.A.Actions.meanings context.tables.now in
    let names = known_names context.projects.now context.tasks.now in
    let task = joined_of c.args.task.now in
    let parts = parts_for tables source number at.project task c.split-parts.result c.split-parts.ensures.counted (subst (λ row. AreFor tables source number at.project row (trees_of task)) (sym c.split-parts.ensures.whole) are) in
    let go_on = λ (flags : Flags). and_then (contents_of tables source at task) (λ contents. Ok (declaration_of at.path task flags contents (needed tables source at task))) in
    let back = λ (r : Result TaskDeclaration Fault). subst (λ expected. Reports tables source expected r) (sym (in_parts tables source at task)) in
    let fault = c.in_err-flags.field-0.0 in
    let p = err_from_is_err_and c.from_residual.result c.from_residual.ensures.1 in
    passed_on tables source (evaluated tables source at (spots tables source) (whole tables source) task) c.from_residual.result p.0 fault p.1 p.2
    (back (Err fault) (first_fails tables source (flags_of tables source at task) go_on fault (c.in_err-flags.ensures.reported source number over at is.0 parts)))

pub returns-in_err-contents-clause-reported : goal.returns-in_err-contents-clause-reported
returns-in_err-contents-clause-reported g c = λ source number over at is are.
    let context = c.args.context.now in
    let tables = tables_of g.T.Transforms.meanings g.A.Actions.meanings context.tables.now in
    let names = known_names context.projects.now context.tasks.now in
    let task = joined_of c.args.task.now in
    let parts = parts_for tables source number at.project task c.split-parts.result c.split-parts.ensures.counted (subst (λ row. AreFor tables source number at.project row (trees_of task)) (sym c.split-parts.ensures.whole) are) in
    let go_on = λ (flags : Flags). and_then (contents_of tables source at task) (λ contents. Ok (declaration_of at.path task flags contents (needed tables source at task))) in
    let back = λ (r : Result TaskDeclaration Fault). subst (λ expected. Reports tables source expected r) (sym (in_parts tables source at task)) in
    let fault = c.in_err-contents.field-0.0 in
    let p = err_from_is_err_and c.from_residual-in_err-contents.result c.from_residual-in_err-contents.ensures.1 in
    let second = subst (λ p. IsOver tables source names context.faults.now p.nodes number) (sym c.in_ok-flags.ensures.kept) over in
    passed_on tables source (evaluated tables source at (spots tables source) (whole tables source) task) c.from_residual-in_err-contents.result p.0 fault p.1 p.2
    (back (Err fault) (then_gives tables source (flags_of tables source at task) go_on c.in_ok-flags.flags (Err fault) (c.in_ok-flags.ensures.reported source number over at is.0 parts)
    (first_fails tables source (contents_of tables source at task) (λ contents. Ok (declaration_of at.path task c.in_ok-flags.flags contents (needed tables source at task))) fault
    (c.in_err-contents.ensures.reported source number second at is parts))))

pub returns-clause-reported : goal.returns-clause-reported
returns-clause-reported g c = λ source number over at is are.
    let context = c.args.context.now in
    let tables = tables_of g.T.Transforms.meanings g.A.Actions.meanings context.tables.now in
    let names = known_names context.projects.now context.tasks.now in
    let task = joined_of c.args.task.now in
    let parts = parts_for tables source number at.project task c.split-parts.result c.split-parts.ensures.counted (subst (λ row. AreFor tables source number at.project row (trees_of task)) (sym c.split-parts.ensures.whole) are) in
    let go_on = λ (flags : Flags). and_then (contents_of tables source at task) (λ contents. Ok (declaration_of at.path task flags contents (needed tables source at task))) in
    let back = λ (r : Result TaskDeclaration Fault). subst (λ expected. Reports tables source expected r) (sym (in_parts tables source at task)) in
    let second = subst (λ p. IsOver tables source names context.faults.now p.nodes number) (sym c.in_ok-flags.ensures.kept) over in
    let third = subst (λ p. IsOver tables source names context.faults.now p.nodes number) (sym (c.in_ok-contents.ensures.kept ∙ c.in_ok-flags.ensures.kept)) over in
    let needs = c.in-Ok.ensures.reported source number third ∙ needs_there tables source number at task c.split-parts.result parts in
    in_parts tables source at task
    ∙ ap (λ r. and_then r go_on) (c.in_ok-flags.ensures.reported source number over at is.0 parts)
    ∙ ap (λ r. and_then r (λ (contents : Contents). Ok (declaration_of at.path task c.in_ok-flags.flags contents (needed tables source at task)))) (c.in_ok-contents.ensures.reported source number second at is parts)
    ∙ ap Ok (ap (λ path. declaration_of path task c.in_ok-flags.flags c.in_ok-contents.contents (needed tables source at task)) is.0
    ∙ ap (declaration_of c.args.path.now task c.in_ok-flags.flags c.in_ok-contents.contents) (sym needs) ∙ sym c.in_ok-declaration.ensures)
