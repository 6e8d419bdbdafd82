-- Executions that went well, between contents.
use Rattle.std.specs.Prelude.{◌≡◌, ◌++◌, List, [], ◌∷◌, Option, Some}
use Rattle.sha2.specs.Sha256.{sha256}
use Rattle.gb_folder.specs.Files.{Bytes, Contents, DiffersOnlyAt}
use Rattle.gb_history.specs.Record.{IsWellFormed, Record}
use Rattle.gb_semantics.specs.Headline.{contents_outside}
use Rattle.gb_semantics.specs.Kinds.{Kinds}
use Rattle.gb_semantics.specs.Memory.{Entry, World}
use Rattle.gb_semantics.specs.TrueRecord.{AreCollisionFree, IsMade, contents_of, outside}
use Rattle.gb_semantics.proofs.Lemmas.Worked.{Did}
use Rattle.gb_plan.specs.Task.{is_output_of}
use Rattle.gb_plan.specs.declared.plan.Planned.{Planned}
use Rattle.gb_plan.specs.declared.task.TaskDeclaration.{TaskDeclaration as Task}
use Rattle.gb_records.specs.Said.{IsSaidOf}
use Rattle.gb_answers.specs.Answering.{IsSound}

-- the world that contents show; nothing is remembered in it
abbrev pub world_of : Contents → World
world_of contents = record { folder = outside contents; memory = [] }

-- a record of a true entry
pub record IsOfTrue (kinds : Kinds) (run : Record) : Type 0 where
  pub held : IsWellFormed run
  pub entry : Entry
  pub is_made : IsMade kinds entry
  pub said : IsSaidOf run entry

-- the record that was read of a task, if one was, is of a true entry whose contents, with these, share no digest
abbrev pub GoesByTrue : Kinds → Option Record → List Bytes → Type 0
GoesByTrue kinds last contents =
    (run : Record) → last ≡ Some run
    → (true_one : IsOfTrue kinds run) × AreCollisionFree sha256 (contents_of true_one.entry ++ contents)

-- An execution that went well: the files outside `.gb` differ only at its outputs, and its part was done if the
-- record that was read of it is true.
pub record WentWell (kinds : Kinds) (task : Task) (last : Option Record) (before after : Contents) : Type 0 where
  pub sound : IsSound after
  pub files : DiffersOnlyAt (is_output_of task) (outside before).files (outside after).files
  pub special : after.special ≡ before.special
  pub done : GoesByTrue kinds last (contents_outside before) → Did kinds task (world_of before) (world_of after)

-- one after another
abbrev pub AllWentWell : Kinds → List Planned → List (Option Record) → Contents → Contents → Type 0
AllWentWell kinds [] [] before after = after ≡ before
AllWentWell kinds (planned ∷ rest) (last ∷ records) before after =
    (mid : Contents) × WentWell kinds planned.task last before mid × AllWentWell kinds rest records mid after
AllWentWell kinds plan records before after = ⊥
