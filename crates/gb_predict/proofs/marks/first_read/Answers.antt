use Rattle.std.proofs.Common.{◌+◌, ℕ, List, Option, take, sym, subst}
use Rattle.std.proofs.lemmas.List.{take_all}
use Rattle.gb_folder.specs.Files.{Place}
use Rattle.gb_plan.specs.declared.task.FileProperty.{FileProperty}
use Rattle.gb_predict.specs.Least.{ByOne, IsLeast, IsReadAt, IsReadBy}
use Rattle.gb_predict.proofs.Least.{least_more}
use Rattle.gb_predict.proofs.marks.first_read.Goals as goal

pub loop-property-preserved : goal.loop-property-preserved
loop-property-preserved c =
    let Read : FileProperty → ℕ → Type 0 = λ property. ByOne (IsReadAt c.args.row.now c.args.reported.now) property.roots in
    let files = c.args.files.now in
    subst (λ (o : Option ℕ). IsLeast (ByOne Read (take (c.loop-property.property-index + 1) files)) o) (sym c.lesser-first.ensures)
    (least_more Read files c.loop-property.property-index c.property-item.result c.loop-property.first c.in_ok-found.found c.loop-property-test.true c.property-item.is c.loop-property.invariant
    (subst (λ (roots : List Place). IsLeast (ByOne (IsReadAt c.args.row.now c.args.reported.now) roots) c.in_ok-found.found) c.as_slice.ensures c.in_ok-found.ensures))

pub returns : goal.returns
returns c =
    subst (λ (files : List FileProperty). IsLeast (IsReadBy c.args.row.now c.args.reported.now files) c.loop-property.first)
    (take_all c.loop-property.property-index c.args.files.now c.loop-property-test.false) c.loop-property.invariant
