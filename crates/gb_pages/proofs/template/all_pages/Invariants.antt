use Rattle.std.proofs.Common.{◌≡◌, drop}
use Rattle.gb_with.specs.Renamed.{following}
use Rattle.gb_pages.specs.Paths.{all_pages}
use Rattle.gb_pages.proofs.template.all_pages.Given as goal

abbrev pub invariant-loop-path : goal.invariant-loop-path
invariant-loop-path l = following l.pages.items (all_pages l.sign l.layout (drop l.path-index l.files))
    ≡ all_pages l.sign l.layout l.files
