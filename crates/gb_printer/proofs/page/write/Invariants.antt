use Rattle.std.proofs.Common.{◌≡◌, ℕ, List, ◌++◌}
use Rattle.std.specs.Io.KnownBytes.{Appends}
use Rattle.gb_printer.proofs.page.write.Given as goal

abbrev pub invariant-loop : goal.invariant-loop
invariant-loop g l = (done : List ℕ) × (l.fn.text ≡ done ++ l.left) × Appends (g.W.Write.contents l.fn.writer) (g.W.Write.contents l.writer) done
