use Rattle.std.proofs.Common.{◌≡◌, true, sym, ◌∙◌}
use Rattle.std.specs.Prelude.{◌==◌}
use Rattle.gb_script.specs.Lexing.{begins}
use Rattle.gb_script.specs.Scanning.{is_plain, past_run}
use Rattle.gb_script.proofs.Contents.{content_at-closed}
use Rattle.gb_script.proofs.lexing.content.Goals as goal

pub returns-then-begins-clause-exact : goal.returns-then-begins-clause-exact
returns-then-begins-clause-exact c =
    let closes : begins (λ b. b == 34) (past_run is_plain c.args.text.now) ≡ true =
    rw c.plain_run.ensures.rest at (sym c.begins.ensures ∙ c.if-begins.true) in
    rw (c.in_ok-from_str.ensures, c.past_first.ensures.rest, c.plain_run.ensures.run, c.plain_run.ensures.rest)
    (sym (content_at-closed c.args.text.now closes))
