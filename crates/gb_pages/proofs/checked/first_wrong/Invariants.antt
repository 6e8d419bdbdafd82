use Rattle.std.proofs.Common.{◌≡◌, drop}
use Rattle.gb_pages.specs.Checked.{first_wrong}
use Rattle.gb_pages.proofs.checked.first_wrong.Given as goal

abbrev pub invariant-loop-path : goal.invariant-loop-path
invariant-loop-path l = first_wrong (drop l.path-index l.files) ≡ first_wrong l.files
