-- The result of a record's fault, as a build reports it.
use Rattle.std.specs.Prelude.{ℕ, ◌≢◌, Option, Err}
use Rattle.std.proofs.Common.{refl, inl, inr}
use Rattle.gb_folder.specs.Files.{Bytes, Contents, Files, Place, Tearing}
use Rattle.gb_semantics.specs.Memory.{Entry, Memory}
use Rattle.gb_plan.specs.Task.{Path}
use Rattle.gb_plan.specs.declared.task.TaskDeclaration.{TaskDeclaration as Task}
use Rattle.gb_records.specs.Faults.{reported_of}
use Rattle.gb_records.specs.Holding.{ComesToNothing, HoldsWith, HoldsWithout}
use Rattle.gb_records.specs.declared.fault.Unwritten.{Unwritten}
use Rattle.gb_records.specs.declared.fault.Unwritten.TheVariants as unwritten
use Rattle.gb_report.specs.declared.fault.Fault.TheVariants as faults
use Rattle.gb_task.specs.Keeping.{IsForgotten, IsRemembered, IsUnwritten}

pub not_of_device : (fault : Unwritten) (place : Place) → reported_of fault ≢ faults.Device place
not_of_device unwritten.OutOfMemory place e = cc
not_of_device unwritten.NotWritten place e = cc

pub why_unwritten : (may_leave : Tearing) (path : Path) (next : Option Bytes) (before after : ℕ) (old new : Contents) (fault : Unwritten)
    → ComesToNothing may_leave path next before after old fault new → IsUnwritten path next old.files before after (reported_of fault)
why_unwritten may_leave path next before after old new unwritten.OutOfMemory nothing = inl refl
why_unwritten may_leave path next before after old new unwritten.NotWritten (inl still) = inr (refl, inl still.1)
why_unwritten may_leave path next before after old new unwritten.NotWritten (inr torn) = inr (refl, inr torn.0)

pub forgotten_reported : (path : Path) (memory : Memory) (fault : Unwritten) (files : Files) → HoldsWithout path memory (Err fault) files → IsForgotten path memory (Err (reported_of fault)) files
forgotten_reported path memory unwritten.OutOfMemory files exists = exists
forgotten_reported path memory unwritten.NotWritten files exists = exists

pub remembered_reported : (task : Task) (entry : Entry) (memory : Memory) (fault : Unwritten) (files : Files) → HoldsWith task.path entry memory (Err fault) files
    → IsRemembered task entry memory (Err (reported_of fault)) files
remembered_reported task entry memory unwritten.OutOfMemory files exists = exists
remembered_reported task entry memory unwritten.NotWritten files exists = exists
