use Rattle.std.proofs.Common.{◌≡◌, ℕ, List, length}
use denote.Text.{Utf8}
use denote.Shadow.{shadow}
use Rattle.std.specs.List.{list_any}
use Rattle.gb_core.specs.Place.{is_beneath}
use Rattle.gb_tree.specs.Starts.{HoldsPlaces}
use Rattle.gb_tree.proofs.starts.lies_in_any.Given as goal

-- the place lies under one of them where what is left of it does
abbrev pub invariant-loop-folder : goal.invariant-loop-folder
invariant-loop-folder l = record {
  utf8 : shadow (Utf8 l.rest);
  same : (places : List (List ℕ)) → HoldsPlaces l.met places → list_any (is_beneath l.place) places ≡ list_any (is_beneath l.rest) places;
}

abbrev pub decreases-loop-folder : goal.decreases-loop-folder
decreases-loop-folder l = length l.rest
