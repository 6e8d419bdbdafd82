-- Files that are smaller than a piece.
use Rattle.std.proofs.Common.{◌≡◌, inl, inr, Bool, true, false, ℕ, List, Some, refl, ap}
use Rattle.gb_tree.specs.Reading.{KeepsOnly}
use Rattle.gb_tree.specs.Waiting.{kept_in}
use Rattle.gb_tree.specs.declared.scanning.Content.TheVariants.{Undigested}

-- what is kept of a small file are its bytes
pub small_kept : (is_kept : Bool) (bytes file : List ℕ) → bytes ≡ file → KeepsOnly file (kept_in (Undigested bytes is_kept))
small_kept false bytes file is = inl refl
small_kept true bytes file is = inr (ap Some is)
