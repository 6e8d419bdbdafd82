-- What is read of a task is known of it, where `AreTrueRecords` holds of the records that existed.
use Rattle.std.specs.Prelude.{◌≡◌, ◌⊎◌, ◌++◌, true, false, List, [], ◌∷◌, cond, Option, Some, None}
use Rattle.std.specs.List.{AllByRecursion, flat_map}
use Rattle.std.specs.Ordering.{eq_by_cmp}
use Rattle.std.proofs.Common.{refl, sym, subst, ◌∙◌, inl, inr}
use Rattle.sha2.specs.Sha256.{sha256}
use Rattle.gb_core.specs.Lists.{byte_order}
use Rattle.gb_folder.specs.Files.{Bytes, Files, file_at, is_empty}
use Rattle.gb_history.specs.Places.{record_place}
use Rattle.gb_history.specs.Record.{Record}
use Rattle.gb_semantics.specs.Kinds.{Kinds}
use Rattle.gb_semantics.specs.Memory.{Entry, Memory, World, entry_of, folder_contents, recalled}
use Rattle.gb_semantics.specs.TrueRecord.{AreCollisionFree, IsMade, IsTextOfNoRecord, Stores, contents_of, record_of}
use Rattle.gb_semantics.proofs.Common.{none_some, some_same}
use Rattle.gb_semantics.proofs.Lemmas.Clear.{Among, separate_of_fewer, in_left, in_one, in_right}
use Rattle.gb_semantics.proofs.Lemmas.Observed.{entry_observed}
use Rattle.gb_plan.specs.Task.{Path, has_path}
use Rattle.gb_plan.specs.declared.task.TaskDeclaration.{TaskDeclaration as Task}
use Rattle.gb_records.specs.Digests.{IsClearTo}
use Rattle.gb_records.specs.Said.{IsReadAs, IsText}
use Rattle.gb_records.proofs.Reported.{texts_are_records}
use Rattle.gb_task.specs.Case.{IsKnown}
use Rattle.gb_task.specs.Known.{AreTrueRecords, WhatIsReadIsKnown}

abbrev reported_by : Memory → List Bytes
reported_by memory = flat_map (λ (entry : Path × Entry). contents_of entry.1) memory

-- what is remembered of a task is one of all that is remembered
recalled_made : (kinds : Kinds) (path : Path) (memory : Memory) (entry : Entry) → AllByRecursion (λ (e : Path × Entry). IsMade kinds e.1) memory
    → recalled memory path ≡ Some entry → IsMade kinds entry
recalled_made kinds path [] entry all e = none_some e
recalled_made kinds path (m ∷ memory) entry all e =
    elim (eq_by_cmp byte_order path m.0) as (λ b. cond b (Some m.1) (recalled memory path) ≡ Some entry → IsMade kinds entry) [
      | true ↦ λ here. subst (IsMade kinds) (some_same here) all.0
      | false ↦ λ later. recalled_made kinds path memory entry all.1 later
    ] e

recalled_reported : (path : Path) (memory : Memory) (entry : Entry) → recalled memory path ≡ Some entry → Among (contents_of entry) (reported_by memory)
recalled_reported path [] entry e = none_some e
recalled_reported path (m ∷ memory) entry e =
    elim (eq_by_cmp byte_order path m.0) as (λ b. cond b (Some m.1) (recalled memory path) ≡ Some entry → Among (contents_of entry) (contents_of m.1 ++ reported_by memory)) [
      | true ↦ λ here c h. in_left c (contents_of m.1) (reported_by memory) (subst (λ (x : Entry). has_path (contents_of x) c ≡ true) (sym (some_same here)) h)
      | false ↦ λ later c h. in_right c (contents_of m.1) (reported_by memory) (recalled_reported path memory entry later c h)
    ] e

none_in_empty : (path : Path) (memory : Memory) (entry : Entry) → recalled memory path ≡ Some entry → is_empty memory ≡ true → ⊥
none_in_empty path [] entry e empty = none_some e
none_in_empty path (m ∷ memory) entry e empty = absurd (cc)

module _ (kinds : Kinds) (task : Task) (files : Files) (memory : Memory) (world : World) (worth : AreTrueRecords kinds task files memory world) where
  now : Entry
  now = entry_of task world.folder.files

  separate : (entry : Entry) → recalled memory task.path ≡ Some entry → AreCollisionFree sha256 (contents_of entry ++ contents_of (entry_of task world.folder.files))
  separate entry e = by worth.clear
    where
      among : Among (contents_of entry ++ contents_of (entry_of task world.folder.files)) (reported_by memory ++ folder_contents world)
      among c h = elim (in_one c (contents_of entry) (contents_of (entry_of task world.folder.files)) h) [
        | inl old ↦ in_left c (reported_by memory) (folder_contents world) (recalled_reported task.path memory entry e c old)
        | inr new ↦ in_right c (reported_by memory) (folder_contents world) (entry_observed task world.folder.files c new)
      ]

      by : (is_empty memory ≡ true) ⊎ AreCollisionFree sha256 (reported_by memory ++ folder_contents world) → AreCollisionFree sha256 (contents_of entry ++ contents_of (entry_of task world.folder.files))
      by (inl empty) = absurd (none_in_empty task.path memory entry e empty)
      by (inr all) = separate_of_fewer sha256 (reported_by memory ++ folder_contents world) (contents_of entry ++ contents_of (entry_of task world.folder.files)) among all

  clear : (entry : Entry) → recalled memory task.path ≡ Some entry → IsClearTo kinds task world.folder.files entry
  clear entry e = record {
    is_made = recalled_made kinds task.path memory entry worth.made e;
    is_folder = worth.is_folder;
    placed = worth.placed;
    not_own = worth.not_own;
    separate = separate entry e;
  }

  known : (left : Option Bytes) (entry : Option Entry) (read : Option Record) → recalled memory task.path ≡ entry → Stores sha256 IsText task.path left entry → IsReadAs task.path left read
      → IsKnown kinds task world read
  known left None None e stored is = worth.kept ∙ e
  known left None (Some run) e stored is = absurd (subst (IsTextOfNoRecord IsText task.path) is.1 stored run is.2)
  known left (Some entry) None e stored is = absurd (subst (IsTextOfNoRecord IsText task.path) stored.1 is (record_of sha256 entry) stored.2)
  known left (Some entry) (Some run) e stored is =
      let same : is.0 ≡ stored.0 = some_same (sym is.1 ∙ stored.1) in
      let text : IsText task.path run stored.0 = subst (IsText task.path run) same is.2 in (
        entry,
        worth.kept ∙ e,
        texts_are_records.one task.path run (record_of sha256 entry) stored.0 text stored.2,
        clear entry e,
      )

pub what_is_read_is_known : WhatIsReadIsKnown
what_is_read_is_known kinds task files memory world read worth is =
    known kinds task files memory world worth (file_at files (record_place task.path)) (recalled memory task.path) read refl
    (worth.existed.records task.path worth.is_task) is
