use Rattle.std.proofs.Common.{◌≡◌, ◌||◌, ℕ, List}
use Rattle.std.specs.BTreeSet.{contains}
use Rattle.std.specs.List.{list_any}
use Rattle.std.specs.Ordering.{eq_by_cmp}
use Rattle.gb_core.specs.Lists.{byte_order}
use Rattle.gb_kinds.proofs.carried.add_words.Given as goal

abbrev pub invariant-loop-word : goal.invariant-loop-word
invariant-loop-word l = (word : List ℕ) → (contains byte_order l.words word || list_any (eq_by_cmp byte_order word) l.word-iterator) ≡ (contains byte_order l.initial.words word || list_any (eq_by_cmp byte_order word) l.initial.word-iterator)
