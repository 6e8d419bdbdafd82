use Rattle.std.proofs.Common.{◌≡◌, ◌||◌, ◌&&◌, ℕ, List, take, bytes_eq}
use Rattle.std.specs.BTreeSet.{contains}
use Rattle.std.specs.List.{list_any}
use Rattle.bstr.specs.Text.{lines_of}
use Rattle.gb_core.specs.Lists.{byte_order}
use Rattle.gb_kinds.proofs.carried.add_reported.Given as goal

abbrev pub invariant-loop-word : goal.invariant-loop-word
invariant-loop-word l = (word : List ℕ) → contains byte_order l.words word ≡ (contains byte_order l.initial.words word || list_any (λ file. bytes_eq file.0 word && list_any (contains byte_order l.lines) (lines_of file.1)) (take l.word-index l.index))
