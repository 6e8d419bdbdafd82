use Rattle.std.proofs.Common.{◌≡◌, false, take}
use Rattle.std.specs.List.{list_any}
use Rattle.gb_ask_command.specs.Unread.{is_read_by}
use Rattle.gb_ask_command.proofs.unread.is_read_in_scripts.Given as goal

abbrev pub invariant-loop-scripted : goal.invariant-loop-scripted
invariant-loop-scripted l = list_any (λ scripted. list_any (is_read_by l.name) scripted.script) (take l.scripted-index l.scripts) ≡ false
