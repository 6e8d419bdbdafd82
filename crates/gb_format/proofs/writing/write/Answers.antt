use Rattle.std.proofs.Common.{◌≡◌, ◌++◌, ◌∷◌, [], ◌<◌, string_bytes, ◌∙◌, rules, refl, arith}
use Rattle.gb_format.proofs.SetItems.{set_all}
use Rattle.gb_format.proofs.writing.write.Goals as goal

pub returns-in_ok-push-in-len1-up : goal.returns-in_ok-push-in-len1-up
returns-in_ok-push-in-len1-up c =
    let low : 10 < 128 = omega arith in
    let last : string_bytes c.push.new.self ≡ string_bytes c.push_items.new.out ++ 10 ∷ [] = c.in_ok-push-in-len1-up.ensures.bytes ∙ rw (c.in_ok-push-in-len1-up.ensures.ascii low) refl in
    set_all _ _ _ _ c.args.items.now _ _ c.step-start.result _ (search rules) c.first_state.ensures c.step-start.ensures c.kind_of.ensures
    c.new-out.ensures.bytes c.in_ok-push_str-in-len1-up.ensures.bytes c.in_ok-push_items-in-len1-up.ensures last
