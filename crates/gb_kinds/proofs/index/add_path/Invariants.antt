use Rattle.std.proofs.Common.{◌≡◌, ℕ, List, IsTrue}
use Rattle.std.specs.FinMap.Entries.{is_sorted}
use Rattle.std.specs.List.{list_any}
use Rattle.std.specs.List.Sorted.{IsStrictlySortedBy}
use Rattle.std.specs.Ordering.{eq_by_cmp}
use Rattle.gb_core.specs.Lists.{byte_order}
use Rattle.gb_action.specs.Files.{file_at}
use Rattle.gb_kinds.specs.Words.{index_files, with_path}
use Rattle.gb_kinds.proofs.index.add_path.Given as goal

abbrev pub invariant-loop-word : goal.invariant-loop-word
invariant-loop-word l = record {
  ordered : IsTrue (is_sorted byte_order (index_files l.index));
  distinct : IsStrictlySortedBy byte_order l.word-iterator;
  paths : (word : List ℕ) → with_path l.path (list_any (eq_by_cmp byte_order word) l.word-iterator) (file_at (index_files l.index) word) ≡ with_path l.path (list_any (eq_by_cmp byte_order word) l.initial.word-iterator) (file_at (index_files l.initial.index) word);
}
