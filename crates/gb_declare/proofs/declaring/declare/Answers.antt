use Rattle.std.specs.Option.{option_copied}
use Rattle.gb_declare.specs.Declaring.{scope_in}
use Rattle.std.proofs.Common.{◌≡◌, ℕ, inl, List, ap, sym, subst, ◌∙◌, []}
use Rattle.std.specs.Borrow.{Bor}
use Rattle.std.proofs.lemmas.Result.{err_from_is_err_and}
use Rattle.gb_script.specs.declared.script.Clause.{Clause}
use Rattle.gb_registry.specs.Tables.{tables_of}
use Rattle.gb_declare.specs.Borrowed.{now_of}
use Rattle.gb_declare.specs.Declaring.{clauses_faults}
use Rattle.gb_declare.specs.Views.{registered_of}
use Rattle.gb_declare.proofs.ViewLemmas.{text_clear, only_memory, known_path}
use Rattle.gb_registry.specs.Wrong.{task_faults_in}
use Rattle.gb_declare.proofs.declaring.declare.Goals as goal

-- each text is a path, so the only fault left is that memory runs out
pub returns-in_err-said-clause-faults : goal.returns-in_err-said-clause-faults
returns-in_err-said-clause-faults g c =
    let p = err_from_is_err_and c.from_residual-in_err-said.result c.from_residual-in_err-said.ensures.1 in
    let tables = tables_of g.T.Transforms.meanings g.A.Actions.meanings c.args.scope.now.tables.now in
    let scope = scope_in c.args.scope.now.project.now c.args.scope.now.properties.now (option_copied c.args.scope.now.names) in
    let clear = ap (λ (clauses : List (Bor Clause)). clauses_faults tables scope c.args.task.now.path.now [] (now_of clauses)) (sym c.deref.ensures.value) ∙ c.in_ok-check_clauses.ensures in
    rw (p.1, p.2) (inl (only_memory _ _ (text_clear tables scope (registered_of c.args.task.now) (λ text e. known_path (option_copied c.args.scope.now.names) _ text (subst (λ (p : List ℕ). task_faults_in (option_copied c.args.scope.now.names) p text ≡ []) (sym c.requires) e)) clear) c.in_err-said.ensures.faults))
