use Rattle.std.proofs.Common.{◌≡◌, drop}
use Rattle.std.specs.List.{flat_map}
use Rattle.gb_registry.specs.Projects.{lineage_of, texts_faults, with_paths}
use Rattle.gb_registry.proofs.projects.include_all.Given as goal

abbrev pub invariant-loop-text : goal.invariant-loop-text
invariant-loop-text l = record {
  paths :
      with_paths l.fn.projects (flat_map lineage_of l.texts)
      ≡ with_paths l.projects (flat_map lineage_of (drop l.text-index l.texts));
  faults : texts_faults l.fn.projects l.texts ≡ texts_faults l.projects (drop l.text-index l.texts);
}
