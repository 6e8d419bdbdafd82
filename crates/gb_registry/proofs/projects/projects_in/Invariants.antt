use Rattle.std.proofs.Common.{◌≡◌, [], ◌∷◌, drop}
use Rattle.std.specs.List.{flat_map}
use Rattle.gb_registry.specs.Projects.{included, lineage_of, root_path, texts_faults, with_paths}
use Rattle.gb_registry.proofs.projects.projects_in.Given as goal

abbrev pub invariant-loop-texts : goal.invariant-loop-texts
invariant-loop-texts l = record {
  paths :
      with_paths (root_path ∷ []) (flat_map lineage_of (included l.includes))
      ≡ with_paths l.projects (flat_map lineage_of (included (drop l.texts-index l.includes)));
  faults :
      texts_faults (root_path ∷ []) (included l.includes)
      ≡ texts_faults l.projects (included (drop l.texts-index l.includes));
}
