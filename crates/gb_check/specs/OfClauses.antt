-- The fault of a declaration is that of a clause.
use Rattle.std.specs.Prelude.{◌≡◌, ◌⊎◌, ◌++◌, List, Some}
use Rattle.std.specs.List.{flat_map}
use Rattle.gb_declare.specs.Declaring.{clause_faults, faults_within, main_faults}
use Rattle.gb_registry.specs.Faults.{first_of}
use Rattle.gb_registry.specs.Said.{Registered}
use Rattle.gb_registry.specs.Tables.{Tables}
use Rattle.gb_registry.specs.Wrong.{Scope}
use Rattle.gb_report.specs.declared.fault.Fault.{Fault}
use Rattle.gb_report.specs.declared.fault.Fault.TheVariants as faults

module _ {M F Z S A : Type 0} (tables : Tables M F Z S A) where
  -- the faults that the action after the colon and the clauses of a task have, each by itself, in their order
  abbrev pub own_faults : Scope → Registered → List Fault
  own_faults scope task =
      main_faults tables scope task.action ++ flat_map (clause_faults tables scope) task.clauses

  -- The fault for which a task is not declared is the first of these; or its clauses or actions do not fit
  -- together (55).
  abbrev pub FaultsAreOfClauses : Type 0
  FaultsAreOfClauses =
      (scope : Scope) (task : Registered) (fault : Fault)
      → first_of (faults_within tables scope task) ≡ Some fault
      → (fault ≡ faults.BadShape task.path) ⊎ (first_of (own_faults scope task) ≡ Some fault)
