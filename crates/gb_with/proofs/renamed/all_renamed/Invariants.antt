use Rattle.std.proofs.Common.{◌≡◌, None, drop}
use Rattle.std.specs.BTreeMap.{get}
use Rattle.gb_core.specs.Lists.{byte_order}
use Rattle.gb_with.specs.Renamed.{all_renamed, following}
use Rattle.gb_with.proofs.renamed.all_renamed.Given as goal

abbrev pub invariant-loop-path : goal.invariant-loop-path
invariant-loop-path g l =
    following l.made.items (all_renamed g.K.Renaming.renamed (g.K.FileMaker.edited l.maker) (get byte_order l.taken)
    (drop l.path-index l.files))
    ≡ all_renamed g.K.Renaming.renamed (g.K.FileMaker.edited l.maker) (λ _. None) l.files
