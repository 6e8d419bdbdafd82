use Rattle.std.proofs.Common.{◌≡◌}
use Rattle.gb_markdown.specs.Inline.{Matched, matched}
use Rattle.gb_markdown.proofs.stress.end_words.Given as goal

abbrev pub invariant-loop-step : goal.invariant-loop-step
invariant-loop-step l =
    ◌≡◌ {A = Matched} (l.stack.items, l.ends.items, l.left)
    (matched l._step l.second l.rest (l.initial.stack.items, l.initial.ends.items, l.second.count))
