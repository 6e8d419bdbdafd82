use Rattle.std.proofs.Common.{◌≡◌, ℕ, List, take, IsTrue}
use Rattle.std.specs.FinMap.Entries.{is_sorted}
use Rattle.gb_core.specs.Lists.{byte_order}
use Rattle.gb_action.specs.Files.{file_at}
use Rattle.gb_kinds.specs.Words.{index_files}
use Rattle.gb_kinds.proofs.WordFiles.{entry_of}
use Rattle.gb_kinds.proofs.index.index_of.Given as goal

abbrev pub invariant-loop-path : goal.invariant-loop-path
invariant-loop-path l = record {
  ordered : IsTrue (is_sorted byte_order (index_files l.index));
  entries : (word : List ℕ) → file_at (index_files l.index) word ≡ entry_of word (take l.path-index l.files);
}
