-- What is known of a task by its record, where true records existed and what was read is collision-free.
use Rattle.std.specs.Prelude.{◌≡◌, ◌⊎◌, ◌++◌, false, Option, IsTrue}
use Rattle.std.specs.List.{AllByRecursion, flat_map, list_any}
use Rattle.sha2.specs.Sha256.{sha256}
use Rattle.gb_core.specs.Path.{is_task_path}
use Rattle.gb_folder.specs.Files.{Files, IsFolder, are_placed, is_empty, is_own}
use Rattle.gb_history.specs.Record.{Record}
use Rattle.gb_semantics.specs.Kinds.{Kinds}
use Rattle.gb_semantics.specs.Memory.{Memory, World, folder_contents, recalled}
use Rattle.gb_semantics.specs.TrueRecord.{AreCollisionFree, IsMade, contents_of}
use Rattle.gb_plan.specs.declared.task.TaskDeclaration.{TaskDeclaration as Task}
use Rattle.gb_records.specs.Said.{IsReadAt}
use Rattle.gb_records.specs.Holding.{HoldsRecords}
use Rattle.gb_task.specs.Case.{IsKnown}

-- The records of a memory existed in these files, and all of them are true. What is remembered of the task
-- has not changed since. If anything was remembered, no two contents that were remembered or exist now share
-- a digest.
pub record AreTrueRecords (kinds : Kinds) (task : Task) (files : Files) (memory : Memory)
    (world : World) : Type 0 where
  pub is_task : IsTrue (is_task_path task.path)
  pub existed : HoldsRecords files memory
  pub made : AllByRecursion (λ entry. IsMade kinds entry.1) memory
  pub kept : recalled world.memory task.path ≡ recalled memory task.path
  pub is_folder : IsFolder world.folder.files
  pub placed : IsTrue (are_placed world.folder.files)
  pub not_own : list_any (λ output. is_own output.place) task.outputs ≡ false
  pub clear : IsTrue (is_empty memory)
      ⊎ AreCollisionFree sha256 (flat_map (λ entry. contents_of entry.1) memory ++ folder_contents world)

-- what is read of a task is known of it, if such records existed
abbrev pub WhatIsReadIsKnown : Type 0
WhatIsReadIsKnown =
    (kinds : Kinds) (task : Task) (files : Files) (memory : Memory) (world : World) (read : Option Record)
    → AreTrueRecords kinds task files memory world → IsReadAt files task.path read
    → IsKnown kinds task world read
