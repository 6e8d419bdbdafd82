-- The numbers under which faults are reported to users.
use Rattle.std.specs.Prelude.{ℕ}
use Rattle.gb_provider.specs.declared.fault.Refusal.{Refusal}
use Rattle.gb_provider.specs.declared.fault.Refusal.TheVariants as refusals
use Rattle.gb_provider.specs.declared.fault.ValueFault.{ValueFault}
use Rattle.gb_provider.specs.declared.fault.ValueFault.TheVariants as values
use Rattle.gb_provider.specs.declared.fault.StepFault.{StepFault}
use Rattle.gb_provider.specs.declared.fault.StepFault.TheVariants as steps
use Rattle.gb_provider.specs.declared.fault.ProviderFault.{ProviderFault}
use Rattle.gb_provider.specs.declared.fault.ProviderFault.TheVariants as providers
use Rattle.gb_provider.specs.declared.fault.TableFault.{TableFault}
use Rattle.gb_provider.specs.declared.fault.TableFault.TheVariants as tables
use Rattle.gb_table.specs.declared.table.AddFault.{AddFault}
use Rattle.gb_table.specs.declared.table.AddFault.TheVariants as adding

abbrev pub refusal_number : Refusal → ℕ
refusal_number refusals.BadArguments = 32
refusal_number refusals.WrongValue = 34

abbrev pub value_fault_number : ValueFault → ℕ
value_fault_number (values.Refused function refusal) = refusal_number refusal
value_fault_number (values.Unrealised output) = 36

abbrev pub step_fault_number : StepFault → ℕ
step_fault_number steps.UnknownTransform = 31
step_fault_number steps.BadArguments = 32
step_fault_number steps.OutOfMemory = 3

abbrev pub provider_fault_number : ProviderFault → ℕ
provider_fault_number (providers.Circular names) = 30
provider_fault_number (providers.Step fault) = step_fault_number fault
provider_fault_number providers.NoValue = 33
provider_fault_number (providers.Value fault) = value_fault_number fault
provider_fault_number providers.OutOfMemory = 3

abbrev pub table_fault_number : TableFault → ℕ
table_fault_number tables.DuplicateTransform = 37
table_fault_number tables.OutOfMemory = 3

-- why a table did not take a function
abbrev pub reported_of : AddFault → TableFault
reported_of adding.Taken = tables.DuplicateTransform
reported_of adding.OutOfMemory = tables.OutOfMemory
