use Rattle.std.proofs.Common.{◌≡◌, ◌≤◌, ◌+◌, ◌++◌, length, drop}
use Rattle.std.specs.Prelude.{zip}
use Rattle.std.specs.Vec.Iter.{into_iter_items}
use Rattle.gb_registry.specs.Projects.{with_folders}
use Rattle.gb_registry.specs.SoFar.{scripts_in}
use Rattle.gb_registry.proofs.configure.with_projects.Given as goal

abbrev pub invariant-loop-script : goal.invariant-loop-script
invariant-loop-script l =
    let rest = into_iter_items l.script-iterator in
    record {
      places : l.places ≡ with_folders l.projects;
      so_far : zip l.projects l.fn.scripts.items ≡ scripts_in l.made.items ++ zip (drop l.next l.projects) rest;
      room : length rest + l.next ≤ length l.projects;
    }
