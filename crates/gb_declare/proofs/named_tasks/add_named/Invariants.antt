use Rattle.std.proofs.Common.{◌≡◌, drop}
use Rattle.std.specs.List.{flat_map}
use Rattle.gb_registry.specs.References.{name_faults}
use Rattle.gb_declare.specs.Joined.{with_named}
use Rattle.gb_declare.proofs.named_tasks.add_named.Given as goal

abbrev pub invariant-loop-text : goal.invariant-loop-text
invariant-loop-text l = record {
  tasks : with_named l.project l.tasks (drop l.text-index l.text-items) ≡ with_named l.project l.initial.tasks l.texts;
  faults : flat_map (name_faults l.project) l.texts ≡ flat_map (name_faults l.project) (drop l.text-index l.text-items);
}
