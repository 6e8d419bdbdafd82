use Rattle.std.proofs.Common.{IsTrue, ℕ, List, IfSome, subst}
use Rattle.gb_core.specs.Place.{is_under}
use Rattle.gb_disk.proofs.device.Device.enter_all.Goals as goal

-- each folder that was found lies under the root
pub enter-requires-clause-folder : goal.enter-requires-clause-folder
enter-requires-clause-folder g c =
    let root = c.args.root.now in
    subst (λ met. IfSome met (λ (folder : List ℕ). IsTrue (is_under folder root))) c.in-Some.is
    (c.in_ok-folder.ensures root c.loop-index.invariant.folders)
