use Rattle.std.proofs.Common.{rules}
use Rattle.std.proofs.lemmas.List.Sorted.{Contains-permutation, IsPermutation-sym, answers_always}
use Rattle.gb_graph.proofs.Sorted.{places_before, places_weak, sorted_rising}
use Rattle.gb_graph.proofs.places.sort_by_place.Goals as goal

pub returns-clause-rising : goal.returns-clause-rising
returns-clause-rising c =
    sorted_rising c.sort_unstable_by.new.self.items
    (c.sort_unstable_by.ensures.sorted places_before places_weak (answers_always _ _ _ (λ f a r g h. search rules)))

pub returns-clause-same : goal.returns-clause-same
returns-clause-same c =
    let old = c.args.row.now.items in
    let new = c.sort_unstable_by.new.self.items in
    let moved = c.sort_unstable_by.ensures.permutation in
    λ at. (λ h. Contains-permutation new old at (IsPermutation-sym old new moved) h, λ h. Contains-permutation old new at moved h)
