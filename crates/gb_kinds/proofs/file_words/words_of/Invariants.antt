use Rattle.std.proofs.Common.{◌≡◌, ◌==◌, ℕ, List, length, map, take, bytes_eq}
use Rattle.std.specs.BTreeSet.{contains}
use Rattle.std.specs.List.{filter, list_any, slice_split}
use Rattle.gb_core.specs.Lists.{byte_order}
use Rattle.gb_kinds.specs.Words.{is_word, letter_or_space}
use Rattle.gb_kinds.proofs.file_words.words_of.Given as goal

abbrev pub invariant-loop-run : goal.invariant-loop-run
invariant-loop-run l = (word : List ℕ) → contains byte_order l.words word ≡ list_any (bytes_eq word) (filter is_word (take (length l.yielded) (slice_split (λ byte. byte == 32) (map letter_or_space l.bytes))))
