use Rattle.std.proofs.Common.{IfOk, option_copied, sym, subst}
use Rattle.gb_label.specs.declared.deciding.Basis.{Basis}
use Rattle.gb_predict.specs.Explained.{IsExplained}
use Rattle.gb_predict.proofs.explained.by_basis.Goals as goal

pub returns-in-Compared-clause-explained : goal.returns-in-Compared-clause-explained
returns-in-Compared-clause-explained g c = λ kinds agrees.
    subst (λ (b : Basis). IfOk c.compared.result (IsExplained kinds c.args.task.now (option_copied c.args.old) c.args.decision.now b)) (sym c.in-Compared.is)
    (c.compared.ensures.explained kinds agrees)
