use Rattle.std.proofs.Common.{◌≡◌, take}
use Rattle.std.specs.List.{flat_map}
use Rattle.gb_plan.specs.Refusal.{word_faults}
use Rattle.gb_check.proofs.default_words.faults_of.Given as goal

abbrev pub invariant-loop-word : goal.invariant-loop-word
invariant-loop-word g l = l.faults.items ≡ flat_map (word_faults (g.Ts.Tasks.registry l.tasks)) (take l.word-index l.words)
