use Rattle.std.proofs.Common.{◌≡◌, ℕ, List, Result, Ok, Err, MatchResult, subst, ◌∙◌}
use Rattle.gb_action.specs.Files.{Tree}
use Rattle.gb_with.specs.TreeKinds.{IsFailure}
use Rattle.gb_pages.proofs.template.without_token.Goals as goal

pub returns : goal.returns
returns c =
    subst (λ text. MatchResult c.failed.result (λ made. ◌≡◌ {A = Result Tree (List ℕ)} (Err text)
    (Ok made.items)) (λ fault. IsFailure {A = Tree} fault (Err text)))
    (c.as_str.ensures.value ∙ c.in_ok-text.ensures) c.failed.ensures
