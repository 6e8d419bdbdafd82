-- How two lists of entries are merged.
use Rattle.std.specs.Prelude.{ℕ, List, [], ◌∷◌, Some}
use Rattle.std.specs.declared.cmp.Ordering.{Ordering}
use Rattle.std.specs.FinMap.Entries.{by_order}
use Rattle.gb_action.specs.Changes.{change_at}
use Rattle.gb_action.specs.declared.change.Change.{Change}
use Rattle.gb_action.specs.declared.change.Change.TheVariants.{Added, Removed}

-- the changes that two compared entries show, by the order of their paths
abbrev pub reported : Ordering → List ℕ × List ℕ → List ℕ × List ℕ → List Change
reported order old new =
    by_order order (Removed old.0 ∷ []) (change_at old.0 (Some old.1) (Some new.1)) (Added new.0 ∷ [])

-- how many entries of either list are done then
abbrev pub past : Ordering → ℕ × ℕ
past order = by_order order (1, 0) (1, 1) (0, 1)
