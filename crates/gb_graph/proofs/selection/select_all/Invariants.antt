use Rattle.std.proofs.Common.{◌≡◌, [], List, ℕ, take}
use Rattle.std.specs.List.{flat_map}
use Rattle.std.specs.BTreeSet.{contains}
use Rattle.gb_core.specs.Lists.{byte_order}
use Rattle.gb_plan.specs.Task.{has_path}
use Rattle.gb_plan.specs.Refusal.{word_faults}
use Rattle.gb_graph.specs.Words.{newly_selected}
use Rattle.gb_graph.proofs.selection.select_all.Given as goal

abbrev pub invariant-loop-word : goal.invariant-loop-word
invariant-loop-word g l = record {
  before : (text : List ℕ) → contains byte_order l.before text ≡ has_path (take l.word-index l.words) text;
  selected : l.found.items ≡ newly_selected (g.T.Tasks.registry l.tasks) [] (take l.word-index l.words);
  good : flat_map (word_faults (g.T.Tasks.registry l.tasks)) (take l.word-index l.words) ≡ [];
}
