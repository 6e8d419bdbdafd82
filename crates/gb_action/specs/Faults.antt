-- The fault numbers that are reported to users.
use Rattle.std.specs.Prelude.{ℕ}
use Rattle.gb_action.specs.declared.reply.ActionFault.{ActionFault}
use Rattle.gb_action.specs.declared.reply.ActionFault.TheVariants as actions
use Rattle.gb_action.specs.declared.table.TableFault.{TableFault}
use Rattle.gb_action.specs.declared.table.TableFault.TheVariants as tables
use Rattle.gb_table.specs.declared.table.AddFault.{AddFault}
use Rattle.gb_table.specs.declared.table.AddFault.TheVariants as adding

abbrev pub action_fault_number : ActionFault → ℕ
action_fault_number actions.OutOfMemory = 3
action_fault_number (actions.ActionFailed text) = 42

abbrev pub table_fault_number : TableFault → ℕ
table_fault_number tables.DuplicateAction = 41
table_fault_number tables.OutOfMemory = 3

-- why a table did not accept an action
abbrev pub reported_of : AddFault → TableFault
reported_of adding.Taken = tables.DuplicateAction
reported_of adding.OutOfMemory = tables.OutOfMemory
