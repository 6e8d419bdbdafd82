use Rattle.std.proofs.Common.{◌≡◌, List, IsTrue, arith, sym, subst, ◌∙◌, ap, refl}
use Rattle.std.specs.FinMap.Entries.{is_sorted}
use Rattle.gb_core.specs.Lists.{byte_order}
use Rattle.gb_tree.specs.Prints.{digests_of}
use Rattle.gb_tree.proofs.Digests.{sorted_digests}
use Rattle.gb_tree.proofs.Loops.{all_done}
use Rattle.gb_tree.proofs.digest.prints.Goals as goal

pub new-requires : goal.new-requires
new-requires c =
    let files = c.as_slice-files.result.now in
    let all : c.loop-path.digests.items ≡ digests_of files = all_done digests_of c.loop-path.digests.items files c.loop-path.path-index refl (omega arith) ∙ c.loop-path.invariant in
    subst (λ (ds : List _). IsTrue (is_sorted byte_order ds)) (sym all) (sorted_digests files ∙ ap (is_sorted byte_order) c.as_slice-files.ensures.files ∙ c.as_slice-files.ensures.ordered)
