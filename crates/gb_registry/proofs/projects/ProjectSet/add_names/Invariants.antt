use Rattle.std.proofs.Common.{◌≡◌, ◌==◌, true, drop, length, string_bytes}
use Rattle.std.specs.List.{list_all, slice_split}
use Rattle.gb_core.specs.Path.{is_project_path}
use Rattle.gb_registry.specs.Projects.{lineage_of_names, lineage_from, paths_faults, with_paths}
use Rattle.gb_registry.proofs.projects.ProjectSet.add_names.Given as goal

-- what is left of the lineage
abbrev pub invariant-loop-name : goal.invariant-loop-name
invariant-loop-name l =
    let left = lineage_from (string_bytes l.prefix) (drop (length l.yielded) (slice_split (λ b. b == 58) l.fn.names)) in
    record {
      good : list_all is_project_path left ≡ true;
      paths : with_paths l.fn.self (lineage_of_names l.fn.names) ≡ with_paths l.self left;
      faults : paths_faults l.fn.self (lineage_of_names l.fn.names) ≡ paths_faults l.self left;
    }
