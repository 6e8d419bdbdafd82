use Rattle.std.proofs.Common.{◌≡◌, ◌+◌, ◌-◌, arith, sym, drop, take}
use Rattle.std.specs.declared.cmp.Ordering.TheVariants.{Equal, Greater}
use Rattle.gb_provider.proofs.NamesLemmas.{not_before}
use Rattle.gb_provider.proofs.circle_names.is_before.Goals as goal

pub returns-in-Equal-clause-not_before : goal.returns-in-Equal-clause-not_before
returns-in-Equal-clause-not_before c =
    let here : c.args.place + c.args.count - c.args.place ≡ c.args.count = omega arith in
    let there : c.args.other + c.args.count - c.args.other ≡ c.args.count = omega arith in
    not_before (take c.args.count (drop c.args.place c.args.names.now)) (take c.args.count (drop c.args.other c.args.names.now)) Equal (sym (rw (here, there) at c.in-Equal.ensures)) (λ e. cc)

pub returns-in-Greater-clause-not_before : goal.returns-in-Greater-clause-not_before
returns-in-Greater-clause-not_before c =
    let here : c.args.place + c.args.count - c.args.place ≡ c.args.count = omega arith in
    let there : c.args.other + c.args.count - c.args.other ≡ c.args.count = omega arith in
    not_before (take c.args.count (drop c.args.place c.args.names.now)) (take c.args.count (drop c.args.other c.args.names.now)) Greater (sym (rw (here, there) at c.in-Greater.ensures)) (λ e. cc)
