use Rattle.std.proofs.Common.{◌≡◌, refl, rules}
use Rattle.gb_kinds.proofs.Taken.{only_memory}
use Rattle.gb_kinds.proofs.table.add.Goals as goal

pub returns-clause-err : goal.returns-clause-err
returns-clause-err g c =
    let is : c.in_ok-name.name ≡ c.args.name.now = search rules in
    only_memory _ c.in_ok-name.name c.args.name.now c.args.table.now c.add.result (λ e. refl) c.requires.other is c.add.ensures.duplicate.0
