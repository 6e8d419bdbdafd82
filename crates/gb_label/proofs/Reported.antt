-- A tree's fault that is reported as the device's is the device's.
use Rattle.std.specs.Prelude.{ℕ, ◌≡◌, Option, None, Some, Result, Ok, Err}
use Rattle.std.proofs.Common.{sym, ap, ◌∙◌, inl, inr}
use Rattle.gb_folder.specs.Files.{Place}
use Rattle.gb_report.specs.declared.fault.Fault.{Fault}
use Rattle.gb_report.specs.declared.fault.Fault.TheVariants as faults
use Rattle.gb_tree.specs.declared.fault.TreeFault.{TreeFault}
use Rattle.gb_tree.specs.declared.fault.TreeFault.TheVariants as trees
use Rattle.gb_tree.specs.Tree.{IsTreeFaultOfMachine}
use Rattle.gb_folder.specs.Faults.{IsOfMachine}
use Rattle.gb_semantics.specs.Tree.{reported_of_tree}
use Rattle.gb_semantics.proofs.Common.{none_some, some_same}

-- the place of a fault that is attributed to the device
abbrev blamed_by : Fault → Option Place
blamed_by (faults.Device place) = Some place
blamed_by other = None

pub device : (fault : TreeFault) (place : Place) → reported_of_tree fault ≡ faults.Device place → fault ≡ trees.Device place
device trees.OutOfMemory place e = none_some (ap blamed_by e)
device (trees.Device at) place e = ap trees.Device (some_same (ap blamed_by e))
device (trees.Missing at) place e = none_some (ap blamed_by e)
device (trees.Blocked at) place e = none_some (ap blamed_by e)
device (trees.TooLarge at) place e = none_some (ap blamed_by e)
device (trees.BadFileName at) place e = none_some (ap blamed_by e)
device (trees.DuplicateInput name path) place e = none_some (ap blamed_by e)
device (trees.TooManyFiles name) place e = none_some (ap blamed_by e)

-- errors of one result are one
pub err_is : {T E : Type 0} (r : Result T E) (y w : E) → r ≡ Err y → r ≡ Err w → y ≡ w
err_is {E = E} r y w a b = ap (λ o. either o y) (sym a ∙ b)
  where
    either : {T : Type 0} → Result T E → E → E
    either (Ok x) e = e
    either (Err e) d = e

-- a tree's fault that is the machine's is reported as one
pub reported_machine : (before after : ℕ) (fault : TreeFault) (reported : Fault) → reported ≡ reported_of_tree fault → IsTreeFaultOfMachine before after fault → IsOfMachine before after reported
reported_machine before after fault reported is (inl none) = inl (is ∙ ap reported_of_tree none)
reported_machine before after fault reported is (inr device) = inr (device.0, is ∙ ap reported_of_tree device.1, device.2)
