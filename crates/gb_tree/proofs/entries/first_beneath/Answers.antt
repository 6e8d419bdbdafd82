use Rattle.std.proofs.Common.{◌≡◌, ℕ, List, Some, None, true, cond, take, drop, sym, ◌∙◌, ap, subst}
use Rattle.std.proofs.lemmas.List.{take_rest}
use Rattle.std.specs.List.{AllByRecursion}
use Rattle.std.specs.Ordering.{is_lt}
use Rattle.std.specs.Option.{option_copied}
use Rattle.gb_core.specs.Lists.{byte_order}
use Rattle.gb_tree.specs.Rising.{IsFrom}
use Rattle.gb_tree.proofs.Doubles.{chosen_there, none_there}
use Rattle.gb_tree.proofs.entries.first_beneath.Goals as goal
use Rattle.gb_tree.proofs.entries.first_beneath.Goals.{in_default-via-in-Some+else-is_beneath, in_default-via-in_default}

pub returns-in-Some : goal.returns-in-Some
returns-in-Some c =
    let later = c.args.later.now in
    let path = c.args.path.now in
    let n = c.count_before-index.result in
    let prefix = c.as_str.ensures.value ∙ c.in_ok-prefix.ensures in
    let there =
    chosen_there path later _ n c.in-Some.field-0.now
    (subst (λ (text : List ℕ). AllByRecursion (λ entry. is_lt (byte_order entry.0 text) ≡ true) (take n later)) prefix c.count_before-index.ensures.before)
    (subst (λ (text : List ℕ). IsFrom text (drop n later)) prefix c.count_before-index.ensures.from)
    c.requires (take_rest later n) (sym c.first.ensures.value ∙ ap option_copied c.in-Some.is) in
    sym (there ∙ ap (λ b. cond b (Some c.in-Some.field-0.now.0) None) (sym c.is_beneath.ensures ∙ c.if-is_beneath.true))

pub returns : goal.returns
returns c =
    let later = c.args.later.now in
    let path = c.args.path.now in
    let n = c.count_before-index.result in
    let prefix = c.as_str.ensures.value ∙ c.in_ok-prefix.ensures in
    let before = subst (λ (text : List ℕ). AllByRecursion (λ entry. is_lt (byte_order entry.0 text) ≡ true) (take n later)) prefix c.count_before-index.ensures.before in
    let from = subst (λ (text : List ℕ). IsFrom text (drop n later)) prefix c.count_before-index.ensures.from in
    elim c.in_default.branch [
      | in_default-via-in-Some+else-is_beneath w ↦
          let there = chosen_there path later _ n w.in-Some.field-0.now before from c.requires (take_rest later n) (sym c.first.ensures.value ∙ ap option_copied w.in-Some.is) in
          sym (there ∙ ap (λ b. cond b (Some w.in-Some.field-0.now.0) None) (sym w.is_beneath.ensures ∙ w.if-is_beneath.false))
      | in_default-via-in_default w ↦ sym (none_there path later _ n before from c.requires (take_rest later n) (sym c.first.ensures.value ∙ ap option_copied w.in_default.is))
    ]
