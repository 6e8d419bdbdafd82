-- Entries in the order of their paths, with repeats.
use Rattle.std.specs.Prelude.{◌≡◌, ℕ, false, List, [], ◌∷◌, ⊤}
use Rattle.std.specs.List.{AllByRecursion}
use Rattle.std.specs.Ordering.{is_lt}
use Rattle.gb_core.specs.Lists.{byte_order}
use Rattle.gb_tree.specs.Tree.{Entries}

-- none of the paths comes before this one
abbrev pub IsFrom : List ℕ → Entries → Type 0
IsFrom path entries = AllByRecursion (λ entry. is_lt (byte_order entry.0 path) ≡ false) entries

-- no path comes before an earlier one
abbrev pub IsRising : Entries → Type 0
IsRising [] = ⊤
IsRising (entry ∷ entries) = IsFrom entry.0 entries × IsRising entries
