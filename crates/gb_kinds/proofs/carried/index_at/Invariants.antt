use Rattle.std.proofs.Common.{◌≡◌, true, false, [], None, unwrap_or, ℕ, List, IsTrue}
use Rattle.std.specs.BTreeSet.{contains}
use Rattle.std.specs.FinMap.Entries.{is_sorted}
use Rattle.std.specs.List.{list_any}
use Rattle.std.specs.List.Sorted.{IsStrictlySortedBy}
use Rattle.std.specs.Ordering.{eq_by_cmp}
use Rattle.gb_core.specs.Lists.{byte_order}
use Rattle.gb_action.specs.Files.{file_at}
use Rattle.gb_action.specs.Outputs.{exists_at}
use Rattle.gb_action.specs.Shapes.{target}
use Rattle.gb_kinds.specs.Carried.{is_line_of, IsEntry}
use Rattle.gb_kinds.specs.Words.{index_files}
use Rattle.gb_kinds.proofs.carried.index_at.Given as goal

abbrev pub invariant-loop-word : goal.invariant-loop-word
invariant-loop-word l = record {
  ordered : IsTrue (is_sorted byte_order (index_files l.index));
  distinct : IsStrictlySortedBy byte_order l.word-iterator;
  within : (word : List ℕ) → list_any (eq_by_cmp byte_order word) l.word-iterator ≡ true → contains byte_order l.words word ≡ true;
  entries : (word : List ℕ) → contains byte_order l.words word ≡ true → list_any (eq_by_cmp byte_order word) l.word-iterator ≡ false
      → IsEntry (is_line_of (unwrap_or (exists_at l.request.outputs target word) []) (contains byte_order l.gone) (unwrap_or (file_at (index_files l.new) word) [])) (file_at (index_files l.index) word);
  left : (word : List ℕ) → list_any (eq_by_cmp byte_order word) l.word-iterator ≡ true → file_at (index_files l.index) word ≡ None;
  others : (word : List ℕ) → contains byte_order l.words word ≡ false → file_at (index_files l.index) word ≡ None;
}
