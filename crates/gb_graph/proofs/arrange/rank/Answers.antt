use Rattle.std.proofs.Common.{rules}
use Rattle.std.proofs.lemmas.List.Sorted.{Contains-permutation, IsPermutation-sym, answers_always}
use Rattle.gb_graph.proofs.Arranged.{ranks_before, rank_weak, sorted_ranked}
use Rattle.gb_graph.proofs.Permuted.{still_once}
use Rattle.gb_graph.proofs.arrange.rank.Goals as goal

pub returns-clause-ranked : goal.returns-clause-ranked
returns-clause-ranked c =
    let moved = c.sort_unstable_by.ensures.permutation in
    sorted_ranked c.sort_unstable_by.new.self.items (still_once c.args.tasks.now.items c.sort_unstable_by.new.self.items moved c.requires)
    (c.sort_unstable_by.ensures.sorted ranks_before rank_weak (answers_always _ _ _ (λ f a r g h. search rules)))

pub returns-clause-same : goal.returns-clause-same
returns-clause-same c =
    let old = c.args.tasks.now.items in
    let new = c.sort_unstable_by.new.self.items in
    let moved = c.sort_unstable_by.ensures.permutation in
    record {
      within = λ z h. Contains-permutation new old z (IsPermutation-sym old new moved) h;
      back = λ z h. Contains-permutation old new z moved h;
    }
