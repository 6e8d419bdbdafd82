use Rattle.std.proofs.Common.{◌+◌, ℕ, List, Option, take, sym, subst}
use Rattle.std.proofs.lemmas.List.{take_all}
use Rattle.gb_folder.specs.Files.{Place}
use Rattle.gb_predict.specs.Least.{ByOne, IsLeast, IsReadAt}
use Rattle.gb_predict.proofs.Least.{least_more}
use Rattle.gb_predict.proofs.marks.first_at_roots.Goals as goal

pub loop-root-preserved : goal.loop-root-preserved
loop-root-preserved c =
    let Read = IsReadAt c.args.row.now c.args.reported.now in
    let roots = c.args.roots.now in
    subst (λ (o : Option ℕ). IsLeast (ByOne Read (take (c.loop-root.root-index + 1) roots)) o) (sym c.lesser-first.ensures)
    (least_more Read roots c.loop-root.root-index c.root-item.result c.loop-root.first c.in_ok-first_at.field-0 c.loop-root-test.true c.root-item.is c.loop-root.invariant c.in_ok-first_at.ensures)

pub returns : goal.returns
returns c =
    subst (λ (roots : List Place). IsLeast (ByOne (IsReadAt c.args.row.now c.args.reported.now) roots) c.loop-root.first)
    (take_all c.loop-root.root-index c.args.roots.now c.loop-root-test.false) c.loop-root.invariant
