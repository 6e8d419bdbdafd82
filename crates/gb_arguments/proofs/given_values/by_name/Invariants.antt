use Rattle.std.proofs.Common.{◌≡◌, ◌≤◌, length, drop, take}
use Rattle.std.specs.Prelude.{IsTrue, All}
use Rattle.std.specs.List.{flat_map}
use Rattle.gb_core.specs.Name.{is_name}
use Rattle.gb_arguments.specs.Values.{IsLastOf, names_of, part_faults, texts_after}
use Rattle.gb_arguments.proofs.given_values.by_name.Given as goal

abbrev pub invariant-loop-text : goal.invariant-loop-text
invariant-loop-text l = record {
  last : IsLastOf (texts_after (take l.text-index l.texts)) l.given.entries;
  names : All (λ name. IsTrue (is_name name)) (names_of l.given.entries);
  most : length l.given.entries ≤ l.text-index;
  faults : flat_map part_faults (texts_after l.texts) ≡ flat_map part_faults (texts_after (drop l.text-index l.texts));
}
