use Rattle.std.proofs.Common.{◌≡◌, ◌+◌, ◌-◌, ◌++◌, ◌∙◌, ap, arith, length}
use Rattle.std.proofs.lemmas.Grind.{common_steps}
use Rattle.gb_provider.proofs.NamesLemmas.{reported_round}
use Rattle.gb_provider.proofs.circle_names.least_round.Goals as goal

pub returns : goal.returns
returns c =
    let names = c.args.names in
    let place = c.least_place-least.result in
    let span : place + length names - place ≡ length names = omega arith in
    let count = c.as_slice-count.ensures in
    let twice : c.append.new.self ≡ names ++ names = c.in_ok-append.ensures.ok ∙ ap (λ xs. xs ++ names) c.in_ok-twice.ensures in
    let within = rw count at c.least_place-least.ensures.within in
    let is = rw (c.new-round.ensures, count, span, c.as_slice-2.ensures, twice) at c.in_ok-push_copies.ensures in
    let all = rw (count, c.as_slice.ensures, twice) at c.least_place-least.ensures.least in
    reported_round names place c.push_copies.new.to within is all

pub slice_bounds-push_copies-end : goal.slice_bounds-push_copies-end
slice_bounds-push_copies-end c = grind (arith, common_steps)

pub least_place-least-requires : goal.least_place-least-requires
least_place-least-requires c = grind (arith, common_steps)
