use Rattle.std.proofs.Common.{ℕ, ◌++◌, ◌+◌, List, drop, ap, sym, ◌∙◌}
use Rattle.std.specs.Option.{option_copied}
use Rattle.gb_declare.specs.Declaring.{scope_in}
use Rattle.gb_registry.specs.Tables.{tables_of}
use Rattle.gb_script.specs.declared.script.Clause.{Clause}
use Rattle.gb_check.specs.Marks.{clause_marks, first_number, marks_at, other_numbers}
use Rattle.gb_check.proofs.Rows.{rest_from, step}
use Rattle.gb_check.proofs.clause_lines.push_clauses.Goals as goal

pub loop-clause-preserved : goal.loop-clause-preserved
loop-clause-preserved g c =
    let known = c.args.scope.now in
    let tables = tables_of g.T.Transforms.meanings g.A.Actions.meanings known.tables.now in
    let scope = scope_in known.project.now known.properties.now (option_copied known.names) in
    let path = c.args.path.now in
    let clause = c.clause-item.result in
    let index = c.loop-clause.clause-index in
    let before = c.loop-clause.marks.items in
    let lines = c.loop-clause.rest.now in
    let clauses = drop (index + 1) c.args.clauses.now in
    let left = rest_from c.args.clauses.now index clause c.loop-clause-test.true c.clause-item.is in
    ap (λ (rest : List ℕ). c.push_marks_at.new.marks.items ++ clause_marks tables scope path clauses rest) c.first_number-line.ensures.others
    ∙ step before (marks_at tables scope path (first_number lines) clause) (clause_marks tables scope path clauses (other_numbers lines)) c.push_marks_at.new.marks.items _
    (c.in_ok-push_marks_at.ensures.marks ∙ ap (λ (line : ℕ). before ++ marks_at tables scope path line clause) c.first_number-line.ensures.line)
    (ap (λ (rest : List Clause). before ++ clause_marks tables scope path rest lines) (sym left) ∙ c.loop-clause.invariant)
