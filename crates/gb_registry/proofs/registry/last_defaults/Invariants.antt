use Rattle.std.proofs.Common.{◌≡◌, drop}
use Rattle.std.specs.Prelude.{fold, option_copied}
use Rattle.gb_registry.specs.Projects.{root_path}
use Rattle.gb_registry.specs.Said.{script_of}
use Rattle.gb_registry.specs.SoFar.{said_in}
use Rattle.gb_registry.specs.Select.{default_tasks, defaults_after, texts_or_none}
use Rattle.gb_registry.proofs.registry.last_defaults.Given as goal

abbrev pub invariant-loop-scripted : goal.invariant-loop-scripted
invariant-loop-scripted l =
    default_tasks (said_in l.scripts)
    ≡ fold defaults_after (texts_or_none (option_copied l.last)) (script_of (said_in (drop l.scripted-index l.scripts)) root_path)
