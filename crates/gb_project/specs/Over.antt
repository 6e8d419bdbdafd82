-- Providers that contain everything that the scripts declare, and the other context of evaluating tasks.
use Rattle.std.specs.Prelude.{ℕ, ◌≡◌, ◌⊎◌, List, map, Option, Some, None, Result, Ok, Err}
use Rattle.gb_provider.specs.declared.expression.Expression.{Expression}
use Rattle.gb_provider.specs.declared.fault.ProviderFault.{ProviderFault}
use Rattle.gb_provider.specs.declared.fault.ProviderFault.TheVariants as providers
use Rattle.gb_report.specs.declared.fault.Fault.{Fault}
use Rattle.gb_report.specs.declared.fault.Fault.TheVariants.{Circular, OutOfMemory}
use Rattle.gb_registry.specs.Projects.{Path}
use Rattle.gb_registry.specs.References.{Names}
use Rattle.gb_registry.specs.Said.{paths_of, tasks_of}
use Rattle.gb_registry.specs.Source.{Source}
use Rattle.gb_registry.specs.Tables.{Tables}
use Rattle.gb_declare.specs.Declaring.{declared}
use Rattle.gb_declare.specs.Joined.{Joined}
use Rattle.gb_declare.specs.Realised.{Trouble, reported}
use Rattle.gb_declare.specs.Reported.{IsReported}
use Rattle.gb_declare.specs.Complete.{IsComplete}

-- the fault that keeps a task from being declared, if one does
abbrev pub fault_in : Result Joined Fault → Option Fault
fault_in (Ok task) = None
fault_in (Err fault) = Some fault

-- the names of these projects and tasks
abbrev pub known_names : List Path → List Path → Names
known_names projects tasks = record { projects = projects; tasks = tasks }

-- memory ran out, or it is this fault
abbrev pub IsFault : Fault → Fault → Type 0
IsFault known fault = (fault ≡ OutOfMemory) ⊎ (fault ≡ known)

module _ {M F Z S A : Type 0} (tables : Tables M F Z S A) (source : Source) where
  -- for all registered tasks, in the order of registration
  abbrev pub declaring_faults : List (Option Fault)
  declaring_faults =
      map (λ task. fault_in (declared tables source.names source.said task)) (tasks_of source.said)

  -- The names of projects and tasks, and why each task is not declared.
  pub record AreKnown (known : Names) (why : List (Option Fault)) : Type 0 where
    pub names : known ≡ source.names
    pub tasks : source.names.tasks ≡ paths_of source.said
    pub faults : why ≡ declaring_faults

  -- These, and everything that the scripts declare, by these numbers.
  pub record IsOver (names : Names) (why : List (Option Fault)) (nodes : List (Expression M F Z))
      (number : ℕ → ℕ) : Type 0 where
    pub known : AreKnown names why
    pub complete : IsComplete tables source number nodes

  -- The expected value is given; or its trouble is reported, or memory ran out.
  abbrev pub Reports : {X : Type 0} → Result X Trouble → Result X Fault → Type 0
  Reports expected (Ok x) = expected ≡ Ok x
  Reports expected (Err fault) =
      (fault ≡ OutOfMemory)
      ⊎ ((trouble : Trouble) × (expected ≡ Err trouble) × IsReported tables source trouble fault)

-- The result matches the expected one, in the sense of `Reports`, for any scripts, by any numbers, that fit
-- these names, faults and expressions.
abbrev pub ReportsOver : {M F Z S A X : Type 0} → Tables M F Z S A → Names → List (Option Fault)
    → List (Expression M F Z) → (Source → (ℕ → ℕ) → Result X Trouble) → Result X Fault → Type 0
ReportsOver tables names why nodes expected reported =
    (source : Source) (number : ℕ → ℕ) → IsOver tables source names why nodes number
    → Reports tables source (expected source number) reported

module _ {M F Z S A : Type 0} (tables : Tables M F Z S A) (names : Names) (why : List (Option Fault)) where
  -- The fault of a provider is reported as this one: a circle by its names, the fault of a value as the
  -- definitions report it; or memory ran out.
  abbrev pub IsReportedOf : ProviderFault → Fault → Type 0
  IsReportedOf (providers.Circular texts) known = known ≡ Circular texts
  IsReportedOf (providers.Value fault) known =
      (source : Source) → AreKnown tables source names why → IsFault (reported tables source fault) known
  IsReportedOf providers.OutOfMemory known = known ≡ OutOfMemory
  IsReportedOf (providers.Step fault) known = ⊥
  IsReportedOf providers.NoValue known = ⊥
