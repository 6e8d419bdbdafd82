use Rattle.std.proofs.Common.{◌≡◌, ℕ, List, take}
use Rattle.std.specs.BTreeSet.{contains}
use Rattle.std.specs.List.{list_any}
use Rattle.std.specs.Prelude.{bytes_eq}
use Rattle.gb_core.specs.Lists.{byte_order}
use Rattle.gb_tree.specs.Property.{distinct}
use Rattle.gb_tree.proofs.starts.distinct.Given as goal

abbrev pub invariant-loop-place : goal.invariant-loop-place
invariant-loop-place l = record {
  kept : l.kept.items ≡ distinct (take l.place-index l.places);
  met : (place : List ℕ) → contains byte_order l.met place ≡ list_any (λ other. bytes_eq other place) (distinct (take l.place-index l.places));
}
