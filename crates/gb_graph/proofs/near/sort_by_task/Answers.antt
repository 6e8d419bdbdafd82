use Rattle.std.proofs.lemmas.List.Sorted.{Contains-permutation, IsPermutation-sym}
use Rattle.gb_graph.proofs.near.sort_by_task.Goals as goal

pub returns : goal.returns
returns c =
    let old = c.args.row.now.items in
    let new = c.sort_unstable_by.new.self.items in
    let moved = c.sort_unstable_by.ensures.permutation in
    λ at. (λ h. Contains-permutation new old at (IsPermutation-sym old new moved) h, λ h. Contains-permutation old new at moved h)
