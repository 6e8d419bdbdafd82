use Rattle.std.proofs.Common.{◌≡◌, ◌++◌, OnOk, subst, sym}
use Rattle.gb_markdown.specs.References.{meanings}
use Rattle.gb_markdown.proofs.Opened.{inline_none, inline_some}
use Rattle.gb_markdown.proofs.inline.+texts.Goals as goal

pub inline-returns-then-depth-eq0 : goal.inline-returns-then-depth-eq0
inline-returns-then-depth-eq0 t c =
    subst (λ meant. OnOk c.text.result (c.text.new.page.items ≡ c.args.page.now.items ++ meant))
    (sym (inline_none c.args.depth c.if-depth-eq0.true (meanings c.args.refs.now) c.args.line.now)) c.text.ensures

pub inline-returns : goal.inline-returns
inline-returns t c =
    subst (λ meant. OnOk c.tokens.result (c.tokens.new.page.items ≡ c.args.page.now.items ++ meant))
    (sym (inline_some c.args.depth c.if-depth-eq0.false (meanings c.args.refs.now) c.args.line.now)) c.tokens.ensures
