-- What a build leaves, over a folder whose contents are known.
use Rattle.std.specs.Prelude.{ℕ, Bool, List, Option, IsTrue, Contains}
use Rattle.std.specs.List.{AllByRecursion, AllZip, flat_map}
use Rattle.gb_folder.specs.Files.{Bytes, Contents}
use Rattle.gb_history.specs.Record.{Record}
use Rattle.gb_semantics.specs.Edits.{Shown}
use Rattle.gb_semantics.specs.Events.{Setting, State, own_files, rules_in, world_in}
use Rattle.gb_semantics.specs.Headline.{StillClear, observed_with, state_of}
use Rattle.gb_semantics.specs.Kinds.{Kinds}
use Rattle.gb_semantics.specs.Label.{Moment}
use Rattle.gb_semantics.specs.Memory.{Memory}
use Rattle.gb_semantics.specs.TrueRecord.{IsMade, contents_of, outside}
use Rattle.gb_semantics.specs.Execution.{Builds, Guard, Execution}
use Rattle.gb_plan.specs.Graph.{Plan, order}
use Rattle.gb_plan.specs.declared.plan.Planned.{Planned}
use Rattle.gb_records.specs.Said.{IsReadAt}
use Rattle.gb_records.specs.Holding.{HoldsRecords}
use Rattle.gb_report.specs.declared.report.Options.{Options}
use Rattle.gb_report.specs.declared.report.TaskReport.{TaskReport}

-- ---- Before a build

-- The records of what is remembered exist in the folder, and all of it is true; these are what was read of
-- the plan's tasks; and all remembered contents are among those that were read.
pub record AreTrueBefore (kinds : Kinds) (plan : Plan) (records : List (Option Record))
    (observed : List Bytes) (folder : Contents) (remembered : Memory) : Type 0 where
  pub existing : HoldsRecords folder.files remembered
  pub made : AllByRecursion (λ entry. IsMade kinds entry.1) remembered
  pub read : AllZip (IsReadAt folder.files) (order plan) records
  pub was_observed : (bytes : Bytes) → Contains (flat_map (λ entry. contents_of entry.1) remembered) bytes
      → Contains observed bytes

-- ---- One execution

-- This was the execution of a task of the plan, and the records of what is remembered after it exist.
pub record IsExecutionOf (setting : Setting) (options : Options) (plan : Plan) (moment : Moment)
    (planned : Planned) (report : TaskReport) (old : Contents) (after : ℕ) (new : Contents) : Type 0 where
  pub memory : Memory
  pub execution : Execution (rules_in setting (own_files old) options plan) moment planned report
      (record { world = record { folder = outside new; memory = memory }; failures = after })
  pub records : HoldsRecords new.files memory

-- ---- After a build

-- a build is based on its records where all was collision-free before it, and no two contents read in it have
-- one digest
abbrev pub guard : Setting → Bool → State → Guard
guard setting clear old = StillClear setting (IsTrue clear) old

-- From a state to this folder it is a build of the plan, where the contents that were read are
-- collision-free. If all of these are, the records of what is remembered exist after it.
pub record HasBuilt (setting : Setting) (clear : Bool) (observed : List Bytes) (options : Options)
    (plan : Plan)
    (old : State) (reports : List TaskReport) (new : Shown) : Type 0 where
  pub remembered : Memory
  pub builds : Builds (rules_in setting (own_files old.contents) options plan) (guard setting clear old)
      observed
      (record { world = world_in old; failures = old.failures }) reports
      (record { world = world_in (state_of new remembered); failures = new.failures })
  pub records : guard setting clear old (observed_with observed old (state_of new remembered))
      → HoldsRecords new.contents.files remembered
