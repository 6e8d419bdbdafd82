-- Of declarations one after another, the first fault counts.
use Rattle.std.specs.Prelude.{◌≡◌, ◌⊎◌, List, [], Some, Result, Ok, Err}
use Rattle.gb_registry.specs.Faults.{first_of}
use Rattle.gb_report.specs.declared.fault.Fault.{Fault}

-- what has no faults passes; else the first of them is reported
abbrev pub Passes : {X : Type 0} → List Fault → X → Result X Fault → Type 0
Passes faults x (Ok passed) = (faults ≡ []) × (passed ≡ x)
Passes faults x (Err fault) = first_of faults ≡ Some fault

-- One thing is declared, and then another that depends on it; or the fault of the first of the two that has
-- one.
module _ {X Y : Type 0} (First : Result X Fault → Type 0) (Next : X → Result Y Fault → Type 0) where
  abbrev pub InTurn : Result Y Fault → Type 0
  InTurn (Ok y) = (x : X) × First (Ok x) × Next x (Ok y)
  InTurn (Err fault) = First (Err fault) ⊎ ((x : X) × First (Ok x) × Next x (Err fault))
