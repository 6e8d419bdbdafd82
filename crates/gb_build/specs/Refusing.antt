-- Why a build ends before its first task.
use Rattle.std.specs.Prelude.{ℕ, ◌≡◌, ◌⊎◌, ◌&&◌, Bool, not, IsTrue}
use Rattle.gb_folder.specs.Files.{Place, is_own}
use Rattle.gb_graph.specs.Answer.{IsRefusalOf}
use Rattle.gb_semantics.specs.Events.{IsDeviceFault}
use Rattle.gb_semantics.specs.declared.events.Invocation.{Invocation}
use Rattle.gb_plan.specs.Graph.{Registry}
use Rattle.gb_report.specs.declared.fault.Fault.{Fault}
use Rattle.gb_report.specs.declared.fault.Fault.TheVariants as faults

-- Records could not be read: memory ran out; or, except in a dry run, the device failed between these counts,
-- at a place of the tool's own.
abbrev pub IsUnread : Bool → ℕ → ℕ → Fault → Type 0
IsUnread dry_run before after fault =
    (fault ≡ faults.OutOfMemory)
    ⊎ ((place : Place) × IsTrue (is_own place && not dry_run) × IsDeviceFault before after place fault)

-- what is requested of this registry is refused, or the records of its tasks could not be read
abbrev pub IsNotBegun : Registry → Invocation → ℕ → ℕ → Fault → Type 0
IsNotBegun registry invocation before after fault =
    IsRefusalOf registry invocation.requested invocation.excluded fault
    ⊎ IsUnread invocation.options.dry_run before after fault
