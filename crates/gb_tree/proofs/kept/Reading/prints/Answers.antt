use Rattle.std.proofs.Common.{◌≡◌, List, IsTrue, arith, sym, subst, ◌∙◌, ap, refl}
use Rattle.std.specs.FinMap.Entries.{is_sorted}
use Rattle.gb_core.specs.Lists.{byte_order}
use Rattle.gb_tree.specs.Reading.{digests_observed}
use Rattle.gb_tree.proofs.Loops.{all_done}
use Rattle.gb_tree.proofs.kept.Reading.prints.Goals as goal

pub new-requires : goal.new-requires
new-requires c =
    let files = c.deref-observed-items.result.now in
    let all : c.loop-observed.digests.items ≡ digests_observed files = all_done digests_observed c.loop-observed.digests.items files c.loop-observed.observed-index refl (omega arith) ∙ c.loop-observed.invariant in
    subst (λ (ds : List _). IsTrue (is_sorted byte_order ds)) (sym all) (ap (λ files. is_sorted byte_order (digests_observed files)) c.deref-observed-items.ensures.value ∙ c.self.invariant.in_order)
