use Rattle.std.proofs.Common.{arith, rules, ◌≡◌, ℕ, List, Bool, true, cond, eqb, sym, ap, ◌∙◌}
use Rattle.std.specs.List.{before_last, list_any}
use Rattle.gb_core.proofs.LastColon.{cut_at_last, no_last}
use Rattle.gb_tree.specs.Pattern.{prefix_of, is_wild, plain_prefix}
use Rattle.gb_tree.proofs.starts.prefix_of.Goals as goal

-- with a wild byte, the front ends before the last slash
wild_prefix : (pattern plain prefix : List ℕ) → list_any is_wild pattern ≡ true → plain ≡ plain_prefix pattern → prefix ≡ before_last (λ b. eqb b 47) plain → prefix ≡ prefix_of pattern
wild_prefix pattern plain prefix wild same is =
    is ∙ ap (before_last (λ b. eqb b 47)) same ∙ sym (ap (λ (b : Bool). cond b (before_last (λ b. eqb b 47) (plain_prefix pattern)) pattern) wild)

pub returns-in-Some : goal.returns-in-Some
returns-in-Some c = wild_prefix c.args.pattern.now c.plain_prefix.result.now _ (let e : c.has_wild.result ≡ true = search rules in sym c.has_wild.ensures ∙ e) c.plain_prefix.ensures (cut_at_last 47 _ _ _ (omega arith) c.in-Some.ensures.cases).0

pub returns-in-None : goal.returns-in-None
returns-in-None c = wild_prefix c.args.pattern.now c.plain_prefix.result.now _ (let e : c.has_wild.result ≡ true = search rules in sym c.has_wild.ensures ∙ e) c.plain_prefix.ensures (no_last 47 _ (omega arith) c.in-None.ensures.cases).0
