use Rattle.std.proofs.Common.{◌≡◌, drop}
use Rattle.std.specs.Prelude.{fold, option_copied}
use Rattle.gb_registry.specs.Select.{defaults_after, texts_or_none}
use Rattle.gb_registry.proofs.registry.later_defaults.Given as goal

abbrev pub invariant-loop-statement : goal.invariant-loop-statement
invariant-loop-statement l =
    fold defaults_after (texts_or_none (option_copied l.fn.before)) l.statements
    ≡ fold defaults_after (texts_or_none (option_copied l.last)) (drop l.statement-index l.statements)
