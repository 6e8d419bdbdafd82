use Rattle.std.proofs.Common.{◌≡◌, rules}
use Rattle.gb_kinds.proofs.FunctionNamed.{only_memory}
use Rattle.gb_kinds.proofs.function_table.add_map.Goals as goal

pub returns-clause-err : goal.returns-clause-err
returns-clause-err g c =
    let is : c.in_ok-name.name ≡ c.args.name.now = search rules in
    only_memory (λ f. f.kind) (λ f. f.kind) (λ f. f.kind) (λ f. f.kind) c.in_ok-name.name c.args.name.now c.args.table.now c.add_map.result c.requires.other is c.add_map.ensures.duplicate.0
