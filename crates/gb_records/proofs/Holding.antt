-- Which records exist after a file at a record's place is changed.
use Rattle.std.proofs.Common.{◌≡◌, ◌⊎◌, ℕ, Bool, true, false, not, cond, IsTrue, List, [], ◌∷◌, Option, Some, None, refl, sym, ap, subst, inl, inr, true≢false, ◌∙◌}
use Rattle.std.specs.Prelude.{bytes_eq}
use Rattle.std.specs.declared.cmp.Ordering.TheVariants.{Less, Equal, Greater}
use Rattle.std.specs.List.{AllByRecursion}
use Rattle.std.specs.Cmp.Lexicographic.{bytes_decides}
use Rattle.std.specs.FinMap.Entries.{by_order, is_sorted, find-put, find-where_key, is_sorted-put, is_sorted-where_key}
use Rattle.std.proofs.lemmas.Map.Text.{is_eq-slice_cmp}
use Rattle.sha2.specs.Sha256.{sha256}
use Rattle.gb_core.specs.Lists.{byte_order}
use Rattle.gb_core.specs.Path.{is_task_path}
use Rattle.gb_folder.specs.Files.{Bytes, Files, Place, Tearing, file_at, with_left}
use Rattle.gb_folder.proofs.Changes.{file_at-with_file, file_at-without}
use Rattle.gb_plan.specs.Task.{Path}
use Rattle.gb_history.specs.Places.{record_place}
use Rattle.gb_history.proofs.Places.{separate}
use Rattle.gb_semantics.specs.Headline.{TornWritesAreDetected}
use Rattle.gb_semantics.specs.Memory.{Entry, Memory, recalled, remember, forget}
use Rattle.gb_semantics.specs.TrueRecord.{Stores, IsTextOfNoRecord, record_of}
use Rattle.gb_semantics.proofs.Lemmas.Files.{total, tied_same, of_T, T_of}
use Rattle.gb_semantics.proofs.Lemmas.Truth.{filter_each}
use Rattle.gb_records.specs.Said.{IsText}
use Rattle.gb_records.specs.Holding.{HoldsRecords}

abbrev AreOfTasks : Memory → Type 0
AreOfTasks memory = AllByRecursion (λ (entry : Path × Entry). IsTrue (is_task_path entry.0)) memory

-- ---- what is recalled

itself : (path : List ℕ) → bytes_eq path path ≡ true
itself path = (bytes_decides path path).1 refl

recalled-forget : (memory : Memory) (path other : Path) → recalled (forget memory path) other ≡ cond (not (bytes_eq other path)) (recalled memory other) None
recalled-forget memory path other =
    find-where_key byte_order (λ p. not (bytes_eq p path)) other (λ x t. ap (λ p. not (bytes_eq p path)) (sym (tied_same other x t))) memory

recalled-remember : (memory : Memory) (path : Path) (entry : Entry) (other : Path) → recalled (remember memory path entry) other ≡ cond (bytes_eq other path) (Some entry) (recalled memory other)
recalled-remember memory path entry other =
    find-put byte_order total other path entry memory ∙ ap (λ b. cond b (Some entry) (recalled memory other)) (is_eq-slice_cmp other path)

of_tasks-remember : (memory : Memory) (path : Path) (entry : Entry) → IsTrue (is_task_path path) → AreOfTasks memory → AreOfTasks (remember memory path entry)
of_tasks-remember [] path entry good all = (good, tt)
of_tasks-remember (m ∷ memory) path entry good all =
    elim (byte_order path m.0) as (λ o. AreOfTasks (by_order o ((path, entry) ∷ m ∷ memory) ((m.0, entry) ∷ memory) (m ∷ remember memory path entry))) [
      | Less ↦ (good, all)
      | Equal ↦ (all.0, all.1)
      | Greater ↦ (all.0, of_tasks-remember memory path entry good all.1)
    ]

of_tasks-forget : (memory : Memory) (path : Path) → AreOfTasks memory → AreOfTasks (forget memory path)
of_tasks-forget memory path all = filter_each (λ (e : Path × Entry). not (bytes_eq e.0 path)) (λ (e : Path × Entry). IsTrue (is_task_path e.0)) memory all

-- ---- a change at one record's place

-- two tasks' records are not at one place
other_place : (path other : Path) → IsTrue (is_task_path path) → IsTrue (is_task_path other) → bytes_eq other path ≡ false
    → bytes_eq (record_place other) (record_place path) ≡ false
other_place path other good fine different = by (bytes_eq (record_place other) (record_place path)) refl
  where
    by : (b : Bool) → bytes_eq (record_place other) (record_place path) ≡ b → b ≡ false
    by true e = absurd (true≢false (sym ((bytes_decides other path).1 (separate other path fine good ((bytes_decides (record_place other) (record_place path)).0 e))) ∙ different))
    by false e = refl

-- the files agree except at the task's record
abbrev pub SameElsewhere : Path → Files → Files → Type 0
SameElsewhere path old new = (place : Place) → bytes_eq place (record_place path) ≡ false → file_at new place ≡ file_at old place

changed : (old new : Files) (memory after : Memory) (path : Path) → IsTrue (is_task_path path) → HoldsRecords old memory → SameElsewhere path old new
    → ((other : Path) → bytes_eq other path ≡ false → recalled after other ≡ recalled memory other)
    → Stores sha256 IsText path (file_at new (record_place path)) (recalled after path)
    → IsTrue (is_sorted byte_order after) → AreOfTasks after → HoldsRecords new after
changed old new memory after path good existed elsewhere others stored sorted tasks = record {
  in_order = sorted;
  of_tasks = tasks;
  records = λ other fine. by other fine (bytes_eq other path) refl;
}
  where
    by : (other : Path) → IsTrue (is_task_path other) → (b : Bool) → bytes_eq other path ≡ b
        → Stores sha256 IsText other (file_at new (record_place other)) (recalled after other)
    by other fine true e =
        subst (λ p. Stores sha256 IsText p (file_at new (record_place p)) (recalled after p)) (sym ((bytes_decides other path).0 e)) stored
    by other fine false e =
        rw (elsewhere (record_place other) (other_place path other good fine e), others other e) (existed.records other fine)

pub forgotten : (old new : Files) (memory : Memory) (path : Path) → IsTrue (is_task_path path) → HoldsRecords old memory → SameElsewhere path old new
    → IsTextOfNoRecord IsText path (file_at new (record_place path)) → HoldsRecords new (forget memory path)
forgotten old new memory path good existed elsewhere none =
    changed old new memory (forget memory path) path good existed elsewhere
    (λ other e. recalled-forget memory path other ∙ ap (λ b. cond (not b) (recalled memory other) None) e)
    (rw (recalled-forget memory path path ∙ ap (λ b. cond (not b) (recalled memory path) None) (itself path)) none)
    (of_T _ (is_sorted-where_key byte_order (λ p. not (bytes_eq p path)) memory (T_of _ existed.in_order)))
    (of_tasks-forget memory path existed.of_tasks)

pub remembered : (old new : Files) (memory : Memory) (path : Path) (entry : Entry) (bytes : Bytes) → IsTrue (is_task_path path) → HoldsRecords old memory
    → SameElsewhere path old new → file_at new (record_place path) ≡ Some bytes → IsText path (record_of sha256 entry) bytes
    → HoldsRecords new (remember memory path entry)
remembered old new memory path entry bytes good existed elsewhere there said =
    changed old new memory (remember memory path entry) path good existed elsewhere
    (λ other e. recalled-remember memory path entry other ∙ ap (λ b. cond b (Some entry) (recalled memory other)) e)
    (rw (recalled-remember memory path entry path ∙ ap (λ b. cond b (Some entry) (recalled memory path)) (itself path)) (bytes, there, said))
    (of_T _ (is_sorted-put byte_order total path entry memory (T_of _ existed.in_order)))
    (of_tasks-remember memory path entry good existed.of_tasks)

-- files that agree at all places hold the same records
pub kept : (old new : Files) (memory : Memory) → ((place : Place) → file_at new place ≡ file_at old place) → HoldsRecords old memory → HoldsRecords new memory
kept old new memory same existed = record {
  in_order = existed.in_order;
  of_tasks = existed.of_tasks;
  records = λ other fine. rw (same (record_place other)) (existed.records other fine);
}

-- nothing was remembered, and nothing changed
pub not_there : (files : Files) (memory : Memory) (path : Path) → IsTrue (is_task_path path) → HoldsRecords files memory → recalled memory path ≡ None
    → HoldsRecords files (forget memory path)
not_there files memory path good existed none =
    forgotten files files memory path good existed (λ place e. refl)
    (subst (Stores sha256 IsText path (file_at files (record_place path))) none (existed.records path good))

-- ---- what is there after a write or a removal

pub at_left : (files : Files) (place : Place) (left : Option Bytes) → file_at (with_left files place left) place ≡ left
at_left files place None = file_at-without files place place ∙ ap (λ b. cond (not b) (file_at files place) None) (itself place)
at_left files place (Some bytes) = file_at-with_file files place bytes place ∙ ap (λ b. cond b (Some bytes) (file_at files place)) (itself place)

pub elsewhere_left : (files : Files) (path : Path) (left : Option Bytes) → SameElsewhere path files (with_left files (record_place path) left)
elsewhere_left files path None place e = file_at-without files (record_place path) place ∙ ap (λ b. cond (not b) (file_at files place) None) e
elsewhere_left files path (Some bytes) place e = file_at-with_file files (record_place path) bytes place ∙ ap (λ b. cond b (Some bytes) (file_at files place)) e

-- what was left is what was there
pub as_it_was : (files : Files) (place : Place) (left : Option Bytes) → left ≡ file_at files place → (other : Place) → file_at (with_left files place left) other ≡ file_at files other
as_it_was files place left same other = by (bytes_eq other place) refl
  where
    at : (o : Option Bytes) (b : Bool) → bytes_eq other place ≡ b → file_at (with_left files place o) other ≡ cond b o (file_at files other)
    at None true e = file_at-without files place other ∙ ap (λ b. cond (not b) (file_at files other) None) e
    at None false e = file_at-without files place other ∙ ap (λ b. cond (not b) (file_at files other) None) e
    at (Some bytes) b e = file_at-with_file files place bytes other ∙ ap (λ b. cond b (Some bytes) (file_at files other)) e

    by : (b : Bool) → bytes_eq other place ≡ b → file_at (with_left files place left) other ≡ file_at files other
    by true e = at left true e ∙ same ∙ ap (file_at files) (sym ((bytes_decides other place).0 e))
    by false e = at left false e

-- If a stopped removal is recognized for what it is, the record is still there, or is gone.
pub torn_out : (may_leave : Tearing) (files : Files) (memory : Memory) (path : Path) (left : Option Bytes) → IsTrue (is_task_path path)
    → TornWritesAreDetected IsText record_place may_leave → may_leave (record_place path) (file_at files (record_place path)) None left
    → HoldsRecords files memory
    → HoldsRecords (with_left files (record_place path) left) memory ⊎ HoldsRecords (with_left files (record_place path) left) (forget memory path)
torn_out may_leave files memory path left good observed torn existed =
    elim (observed path (file_at files (record_place path)) None left good tt torn) [
      | inl as_old ↦ inl (kept files _ memory (as_it_was files (record_place path) left as_old) existed)
      | inr rest ↦ elim rest [
        | inl gone ↦ inr (no_record (subst (IsTextOfNoRecord IsText path) (sym gone) tt))
        | inr none ↦ inr (no_record none)
      ]
    ]
  where
    no_record : IsTextOfNoRecord IsText path left → HoldsRecords (with_left files (record_place path) left) (forget memory path)
    no_record none = forgotten files _ memory path good existed (elsewhere_left files path left) (subst (IsTextOfNoRecord IsText path) (sym (at_left files (record_place path) left)) none)

-- If a stopped write is recognized for what it is, the old record is there, or the new one, or none.
pub torn_in : (may_leave : Tearing) (files : Files) (memory : Memory) (path : Path) (entry : Entry) (bytes : Bytes) (left : Option Bytes)
    → IsTrue (is_task_path path) → TornWritesAreDetected IsText record_place may_leave → IsText path (record_of sha256 entry) bytes
    → may_leave (record_place path) (file_at files (record_place path)) (Some bytes) left → HoldsRecords files memory
    → HoldsRecords (with_left files (record_place path) left) memory ⊎ HoldsRecords (with_left files (record_place path) left) (remember memory path entry)
    ⊎ HoldsRecords (with_left files (record_place path) left) (forget memory path)
torn_in may_leave files memory path entry bytes left good observed said torn existed =
    elim (observed path (file_at files (record_place path)) (Some bytes) left good (record_of sha256 entry, said) torn) [
      | inl as_old ↦ inl (kept files _ memory (as_it_was files (record_place path) left as_old) existed)
      | inr rest ↦ elim rest [
        | inl whole ↦ inr (inl (remembered files _ memory path entry bytes good existed (elsewhere_left files path left) (at_left files (record_place path) left ∙ whole) said))
        | inr none ↦ inr (inr (forgotten files _ memory path good existed (elsewhere_left files path left) (subst (IsTextOfNoRecord IsText path) (sym (at_left files (record_place path) left)) none)))
      ]
    ]
