use Rattle.std.proofs.Common.{◌≡◌, IfOk, IsTrue, IsUtf8, List, Some, ap, subst, sym, ◌∙◌, ℕ}
use Rattle.gb_core.specs.Path.{is_task_path}
use Rattle.gb_history.proofs.Places.{IsUtf8-path}
use Rattle.gb_query.specs.Owner.{coloned}
use Rattle.gb_query.proofs.Owners.{path_back}
use Rattle.gb_query.proofs.owner.path_of.Goals as goal

pub returns-in-Ok : goal.returns-in-Ok
returns-in-Ok c path good is =
    let same : c.in-Ok.text.now ≡ path = c.in-Ok.ensures.cases.0 ∙ c.as_slice.ensures.value ∙ c.in_ok-bytes.ensures ∙ ap coloned is ∙ path_back path good in
    subst (λ (text : List ℕ). IfOk c.read_path.result (λ found. found ≡ Some text)) same
    (c.read_path.ensures (subst (λ (text : List ℕ). IsTrue (is_task_path text)) (sym same) good))

pub returns : goal.returns
returns c path good is =
    let same : c.as_slice.result.now ≡ path = c.as_slice.ensures.value ∙ c.in_ok-bytes.ensures ∙ ap coloned is ∙ path_back path good in
    absurd (c.in-Err.ensures.cases.0 (subst IsUtf8 (sym same) (IsUtf8-path path good)))
