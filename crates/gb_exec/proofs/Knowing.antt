-- What was read of a task is known of it when its execution begins, where the contents that were read are
-- collision-free.
use Rattle.std.specs.Prelude.{ℕ, ◌≡◌, ◌⊎◌, ◌++◌, List, [], ◌∷◌, Contains, Option, Some, None, bytes_eq, slice_get, slice_index_or, IsTrue, false}
use Rattle.std.specs.List.{AllZip, flat_map, list_any}
use Rattle.std.proofs.Common.{zero, suc, sym, subst, inl, inr}
use Rattle.sha2.specs.Sha256.{sha256}
use Rattle.gb_task.specs.Case.{IsKnown}
use Rattle.gb_task.specs.Known.{WhatIsReadIsKnown}
use Rattle.gb_core.specs.Path.{is_task_path}
use Rattle.gb_folder.specs.Files.{Bytes, Contents, Files, IsFolder, are_placed, is_empty, is_own}
use Rattle.gb_history.specs.Record.{Record}
use Rattle.gb_semantics.specs.Kinds.{Kinds}
use Rattle.gb_semantics.specs.Memory.{Memory, World, folder_contents, recalled}
use Rattle.gb_semantics.specs.TrueRecord.{AreCollisionFree, contents_of}
use Rattle.gb_semantics.proofs.Common.{none_some, some_same}
use Rattle.gb_semantics.proofs.Lemmas.Clear.{Among, separate_of_fewer, in_left, in_one, in_right}
use Rattle.gb_plan.specs.Graph.{order}
use Rattle.gb_plan.specs.declared.plan.Planned.{Planned}
use Rattle.gb_records.specs.Said.{IsReadAt}
use Rattle.gb_exec.proofs.ByNumber.{at_some, contained, contains_any}
use Rattle.gb_plan.proofs.Tests.{itself}
use Rattle.std.specs.Cmp.Lexicographic.{bytes_decides}
use Rattle.gb_exec.specs.Built.{AreTrueBefore}

-- what was read of the task of a number
pub read_at : (files : Files) (plan : List Planned) (records : List (Option Record)) (index : ℕ) (planned : Planned) → AllZip (IsReadAt files) (order plan) records
    → slice_get plan index ≡ Some planned → IsReadAt files planned.task.path (slice_index_or records index None)
read_at files [] records index planned read is = none_some is
read_at files (p ∷ plan) [] index planned read is = absurd read
read_at files (p ∷ plan) (record_read ∷ records) zero planned read is = subst (λ (z : Planned). IsReadAt files z.task.path record_read) (some_same is) read.0
read_at files (p ∷ plan) (record_read ∷ records) (suc index) planned read is = read_at files plan records index planned read.1 is

among_of : (some all : List Bytes) → ((bytes : Bytes) → Contains some bytes → Contains all bytes) → Among some all
among_of some all h c e =
    let found = at_some (bytes_eq c) some e in
    let same : c ≡ found.1 = (bytes_decides c found.1).0 found.3 in
    contains_any (bytes_eq c) all c (h c (subst (Contains some) (sym same) (contained some found.0 found.1 found.2))) (itself c)

pub knows : (law : WhatIsReadIsKnown) (kinds : Kinds) (plan : List Planned) (records : List (Option Record)) (observed observed_now : List Bytes) (start : Contents) (remembered : Memory) (world : World)
    (index : ℕ) (planned : Planned) → slice_get plan index ≡ Some planned → AreTrueBefore kinds plan records observed start remembered → IsTrue (is_task_path planned.task.path)
    → recalled world.memory planned.task.path ≡ recalled remembered planned.task.path → IsFolder world.folder.files → IsTrue (are_placed world.folder.files)
    → list_any (λ output. is_own output.place) planned.task.outputs ≡ false → Among observed observed_now
    → IsTrue (is_empty remembered) ⊎ AreCollisionFree sha256 (observed_now ++ folder_contents world)
    → IsKnown kinds planned.task world (slice_index_or records index None)
knows law kinds plan records observed observed_now start remembered world index planned is worth is_task same is_folder placed not_own keeps clear =
    law kinds planned.task start.files remembered world (slice_index_or records index None)
    (record {
      is_task = is_task;
      existed = worth.existing;
      made = worth.made;
      kept = same;
      is_folder = is_folder;
      placed = placed;
      not_own = not_own;
      clear = elim clear [
        | inl empty ↦ inl empty
        | inr separate ↦ inr (separate_of_fewer sha256 (observed_now ++ folder_contents world) (flat_map (λ entry. contents_of entry.1) remembered ++ folder_contents world)
            (λ c h. elim (in_one c (flat_map (λ entry. contents_of entry.1) remembered) (folder_contents world) h) [
              | inl of_memory ↦ in_left c observed_now (folder_contents world) (keeps c (among_of (flat_map (λ entry. contents_of entry.1) remembered) observed worth.was_observed c of_memory))
              | inr here ↦ in_right c observed_now (folder_contents world) here
            ]) separate)
      ];
    })
    (read_at start.files plan records index planned worth.read is)
