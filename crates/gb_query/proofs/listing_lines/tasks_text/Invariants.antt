use Rattle.std.proofs.Common.{◌≡◌, string_bytes, take}
use Rattle.std.specs.List.{flat_map}
use Rattle.gb_query.specs.Listing.{task_line}
use Rattle.gb_query.proofs.listing_lines.tasks_text.Given as goal

abbrev pub invariant-loop-path : goal.invariant-loop-path
invariant-loop-path g l = record {
  kept : g.Ts.Tasks.registry l.tasks ≡ g.Ts.Tasks.registry l.fn.tasks;
  text : string_bytes l.text ≡ flat_map (task_line (g.Ts.Tasks.registry l.fn.tasks)) (take l.path-index l.names);
}
