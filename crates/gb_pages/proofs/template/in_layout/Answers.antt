use Rattle.std.proofs.Common.{◌≡◌, ◌++◌, ℕ, List, Result, Ok, Err, false, if◌then◌else◌, codes, string_bytes}
use Rattle.std.proofs.Common.{MatchResult, sym, ap, subst, ◌∙◌}
use Rattle.gb_action.specs.Files.{Tree}
use Rattle.gb_pages.specs.Paths.{all_pages, has_token, in_layout}
use Rattle.gb_with.specs.TreeKinds.{IsFailure}
use Rattle.gb_pages.proofs.template.in_layout.Goals as goal

pub returns : goal.returns
returns c =
    let sign = string_bytes c.args.sign in
    let files = c.args.files.now in
    let path = c.args.path.now in
    let layout = c.args.layout.now in
    let none : has_token sign layout ≡ false = ap (λ s. has_token s layout) (sym c.as_bytes.ensures.value)
    ∙ sym c.has_token.ensures ∙ c.if-has_token.false in
    let is : in_layout sign files path layout ≡ Err (path ++ codes ": no " ++ sign) = ap
    (λ b. if b then all_pages sign layout files else Err (path ++ codes ": no " ++ sign)) none in
    let reported = subst (λ s. MatchResult c.without_token.result (λ made. ◌≡◌ {A = Result Tree (List ℕ)} (Err
    (path ++ codes ": no " ++ s)) (Ok made.items)) (λ fault. IsFailure {A = Tree} fault (Err
    (path ++ codes ": no " ++ s)))) c.as_str.ensures.value c.without_token.ensures in
    subst (λ meant. MatchResult c.without_token.result (λ made. meant
    ≡ Ok made.items) (λ fault. IsFailure {A = Tree} fault meant)) (sym is) reported
