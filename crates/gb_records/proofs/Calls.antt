-- What follows from a folder's answer at a record's place.
use Rattle.std.proofs.Common.{◌≡◌, ◌≢◌, ◌⊎◌, ◌≤◌, ◌<◌, ◌||◌, ℕ, Bool, true, false, not, cond, IsTrue, List, [], ◌∷◌, ◌++◌, ◌+◌, get_or, take, drop, length, Option, Some, None, Result, Ok, Err, refl, sym, ap, subst, inl, inr, true≢false, arith, ◌∙◌}
use Rattle.std.specs.Prelude.{IfOk, IfErr, IsSomeAnd, OnOk}
use Rattle.std.specs.Ordering.{eq_by_cmp}
use Rattle.std.specs.List.{AllZip, list_all}
use Rattle.std.proofs.lemmas.Bool.{and_parts}
use Rattle.std.proofs.lemmas.List.{take-append-drop, take_more}
use Rattle.std.specs.Str.{IsUtf8}
use Rattle.gb_core.specs.Path.{is_task_path}
use Rattle.gb_core.specs.Place.{is_place}
use Rattle.gb_core.specs.Lists.{byte_order}
use Rattle.gb_folder.specs.Files.{Bytes, Files, Place, Contents, HasRisen, IsFolder, Tearing, are_placed, file_at, is_blocked, with_file, with_left, without}
use Rattle.gb_folder.specs.declared.folder.FolderFault.{FolderFault}
use Rattle.gb_folder.specs.declared.folder.FolderFault.TheVariants as folders
use Rattle.gb_core.specs.declared.place.PlaceFault.{PlaceFault}
use Rattle.gb_core.specs.declared.place.PlaceFault.TheVariants as places
use Rattle.gb_report.specs.declared.fault.Fault.{Fault}
use Rattle.gb_report.specs.declared.fault.Fault.TheVariants as faults
use Rattle.gb_plan.specs.Task.{Path}
use Rattle.gb_folder.proofs.Emptied.{without_none, blocked_none}
use Rattle.gb_history.specs.Places.{record_place}
use Rattle.gb_history.specs.Record.{Record, IsWellFormed}
use Rattle.gb_history.specs.Text.{record_text}
use Rattle.gb_history.specs.declared.record.Edition.TheVariants as editions
use Rattle.gb_history.proofs.Lists.{all_true}
use Rattle.gb_semantics.specs.Events.{max_record}
use Rattle.gb_semantics.specs.Headline.{TornWritesAreDetected}
use Rattle.gb_semantics.specs.Memory.{Entry, Memory, remember, forget}
use Rattle.gb_semantics.specs.TrueRecord.{IsTextOfNoRecord}
use Rattle.gb_semantics.proofs.Lemmas.Files.{same_place}
use Rattle.gb_records.specs.Faults.{none_for, removed_by, unwritten_for}
use Rattle.gb_records.specs.Said.{IsText, IsSaidOf, IsReadAt}
use Rattle.gb_records.specs.Texts.{IsTextAt}
use Rattle.gb_records.specs.Holding.{ComesToNothing, HoldsRecords, HoldsWithout, HoldsWith, taken_out, written_in}
use Rattle.gb_records.proofs.Holding.{at_left, elsewhere_left, forgotten, remembered, torn_in, torn_out}

pub or_true : (b : Bool) → (b || true) ≡ true
or_true true = refl
or_true false = refl

-- what a stopped call left at a place
abbrev pub LeftAt : Tearing → Place → Option Bytes → Contents → Contents → Type 0
LeftAt may_leave place next old new =
    (left : Option Bytes) × may_leave place (file_at old.files place) next left × (new ≡ record old { files = with_left old.files place left })

-- ---- a removal

pub out_missing : (path : Path) (old new : Contents) → IsFolder old.files → new ≡ old → file_at old.files (record_place path) ≡ None → new ≡ taken_out true path old
out_missing path old new sound same none = same ∙ ap (λ files. record old { files = files }) (sym (without_none old.files (record_place path) sound none))

pub out_of : (path : Path) (old new : Contents) (fault : FolderFault) → IsFolder old.files → (fault ≢ folders.Device → new ≡ old)
    → (fault ≡ folders.Missing → file_at old.files (record_place path) ≡ None) → OnOk (removed_by fault) (new ≡ taken_out true path old)
out_of path old new folders.OutOfMemory sound same missing = tt
out_of path old new folders.Device sound same missing = tt
out_of path old new folders.Missing sound same missing = out_missing path old new sound (same (λ e. cc)) (missing refl)
out_of path old new folders.Blocked sound same missing = tt
out_of path old new folders.TooLarge sound same missing = tt
out_of path old new folders.BadFileName sound same missing = tt

pub nothing_of : (may_leave : Tearing) (path : Path) (before after : ℕ) (old new : Contents) (fault : FolderFault)
    → (fault ≢ folders.Device → new ≡ old) → (fault ≡ folders.Device → HasRisen before after)
    → (fault ≡ folders.Device → LeftAt may_leave (record_place path) None old new)
    → (fault ≡ folders.Blocked → is_blocked old.files (record_place path) ≡ true) → fault ≢ folders.TooLarge → fault ≢ folders.BadFileName
    → IfErr (removed_by fault) (λ reported. ComesToNothing may_leave path None before after old reported new)
nothing_of may_leave path before after old new folders.OutOfMemory same rose torn blocked large named = same (λ e. cc)
nothing_of may_leave path before after old new folders.Device same rose torn blocked large named = inr (rose refl, refl, torn refl)
nothing_of may_leave path before after old new folders.Missing same rose torn blocked large named = tt
nothing_of may_leave path before after old new folders.Blocked same rose torn blocked large named =
    inl (same (λ e. cc), inl (ap (λ b. not (is_place (record_place path)) || b) (blocked refl) ∙ or_true (not (is_place (record_place path)))))
nothing_of may_leave path before after old new folders.TooLarge same rose torn blocked large named = absurd (large refl)
nothing_of may_leave path before after old new folders.BadFileName same rose torn blocked large named = absurd (named refl)

pub gone : (path : Path) (old new : Contents) (memory : Memory) → IsTrue (is_task_path path) → new ≡ taken_out true path old → HoldsRecords old.files memory
    → HoldsRecords new.files (forget memory path)
gone path old new memory good out existed =
    subst (λ (c : Contents). HoldsRecords c.files (forget memory path)) (sym out)
    (forgotten old.files (without old.files (record_place path)) memory path good existed (elsewhere_left old.files path None)
    (subst (IsTextOfNoRecord IsText path) (sym (at_left old.files (record_place path) None)) tt))

same_exists : (old new : Contents) (memory : Memory) → new ≡ old → HoldsRecords old.files memory → HoldsRecords new.files memory
same_exists old new memory same existed = subst (λ (c : Contents). HoldsRecords c.files memory) (sym same) existed

pub exists_out : (may_leave : Tearing) (path : Path) (old new : Contents) (fault : FolderFault) (memory : Memory) → IsTrue (is_task_path path)
    → IsFolder old.files → (fault ≢ folders.Device → new ≡ old) → (fault ≡ folders.Missing → file_at old.files (record_place path) ≡ None)
    → (fault ≡ folders.Device → LeftAt may_leave (record_place path) None old new) → TornWritesAreDetected IsText record_place may_leave
    → HoldsRecords old.files memory → HoldsWithout path memory (removed_by fault) new.files
exists_out may_leave path old new folders.OutOfMemory memory good sound same missing torn observed existed = same_exists old new memory (same (λ e. cc)) existed
exists_out may_leave path old new folders.Device memory good sound same missing torn observed existed =
    let t = torn refl in
    subst (λ (c : Contents). HoldsRecords c.files memory ⊎ HoldsRecords c.files (forget memory path)) (sym t.2)
    (torn_out may_leave old.files memory path t.0 good observed t.1 existed)
exists_out may_leave path old new folders.Missing memory good sound same missing torn observed existed =
    gone path old new memory good (out_missing path old new sound (same (λ e. cc)) (missing refl)) existed
exists_out may_leave path old new folders.Blocked memory good sound same missing torn observed existed = inl (same_exists old new memory (same (λ e. cc)) existed)
exists_out may_leave path old new folders.TooLarge memory good sound same missing torn observed existed = inl (same_exists old new memory (same (λ e. cc)) existed)
exists_out may_leave path old new folders.BadFileName memory good sound same missing torn observed existed = inl (same_exists old new memory (same (λ e. cc)) existed)

-- ---- a write

-- the text that is written for a record is one of it
pub text_said : (path : Path) (run : Record) → IsUtf8 path → IsWellFormed run → length (record_text path run) ≤ max_record
    → IsText path run (record_text path run)
text_said path run utf8 held short = record {
  utf8 = utf8;
  held = held;
  text = record { edition = editions.Second; fits = all_true run.actions; same = refl };
  short = short;
}

pub put : (path : Path) (old new : Contents) (memory : Memory) (entry : Entry) (run : Record) → IsTrue (is_task_path path) → new ≡ written_in path run old
    → IsText path run (record_text path run) → IsSaidOf run entry → HoldsRecords old.files memory → HoldsRecords new.files (remember memory path entry)
put path old new memory entry run good written said of existed =
    subst (λ (c : Contents). HoldsRecords c.files (remember memory path entry)) (sym written)
    (remembered old.files (with_file old.files (record_place path) (record_text path run)) memory path entry (record_text path run) good existed
    (elsewhere_left old.files path (Some (record_text path run))) (at_left old.files (record_place path) (Some (record_text path run)))
    (subst (λ s. IsText path s (record_text path run)) of said))

pub exists_in : (may_leave : Tearing) (path : Path) (old new : Contents) (fault : FolderFault) (memory : Memory) (entry : Entry) (run : Record)
    → IsTrue (is_task_path path) → (fault ≢ folders.Device → new ≡ old)
    → (fault ≡ folders.Device → LeftAt may_leave (record_place path) (Some (record_text path run)) old new) → TornWritesAreDetected IsText record_place may_leave
    → IsText path run (record_text path run) → IsSaidOf run entry → HoldsRecords old.files memory
    → HoldsWith path entry memory (Err (unwritten_for fault)) new.files
exists_in may_leave path old new folders.OutOfMemory memory entry run good same torn observed said of existed = same_exists old new memory (same (λ e. cc)) existed
exists_in may_leave path old new folders.Device memory entry run good same torn observed said of existed =
    let t = torn refl in
    subst (λ (c : Contents). HoldsRecords c.files memory ⊎ HoldsRecords c.files (remember memory path entry) ⊎ HoldsRecords c.files (forget memory path)) (sym t.2)
    (torn_in may_leave old.files memory path entry (record_text path run) t.0 good observed (subst (λ s. IsText path s (record_text path run)) of said) t.1 existed)
exists_in may_leave path old new folders.Missing memory entry run good same torn observed said of existed = inl (same_exists old new memory (same (λ e. cc)) existed)
exists_in may_leave path old new folders.Blocked memory entry run good same torn observed said of existed = inl (same_exists old new memory (same (λ e. cc)) existed)
exists_in may_leave path old new folders.TooLarge memory entry run good same torn observed said of existed = inl (same_exists old new memory (same (λ e. cc)) existed)
exists_in may_leave path old new folders.BadFileName memory entry run good same torn observed said of existed = inl (same_exists old new memory (same (λ e. cc)) existed)

-- ---- a read

-- there is nothing at what is no place
pub unplaced : (files : Files) (place : Place) → are_placed files ≡ true → is_place place ≡ false → file_at files place ≡ None
unplaced [] place all bad = refl
unplaced (file ∷ files) place all bad =
    let parts = and_parts (is_place file.0) (list_all (λ (f : Place × Bytes). is_place f.0) files) all in
    elim (eq_by_cmp byte_order place file.0) as (λ b. eq_by_cmp byte_order place file.0 ≡ b → cond b (Some file.1) (file_at files place) ≡ None) [
      | true ↦ λ e. absurd (true≢false (sym parts.0 ∙ ap is_place (sym (same_place place file.0 e)) ∙ bad))
      | false ↦ λ _. unplaced files place parts.1 bad
    ] refl

-- if there is nothing, there is no record
pub none_read : (files : Files) (path : Path) → file_at files (record_place path) ≡ None → IsReadAt files path None
none_read files path none = subst (IsTextOfNoRecord IsText path) (sym none) tt

-- a file that is too large is the text of no record
large_read : (files : Files) (path : Path) → IsSomeAnd (file_at files (record_place path)) (λ bytes. max_record < length bytes) → IsReadAt files path None
large_read files path large = by (file_at files (record_place path)) large
  where
    by : (o : Option Bytes) → IsSomeAnd o (λ bytes. max_record < length bytes) → IsTextOfNoRecord IsText path o
    by None h = tt
    by (Some bytes) h = λ said text. absurd (omega (arith, text.short, h))

pub read_of : (files : Files) (path : Path) (place : Place) (fault : FolderFault) → IsFolder files
    → (fault ≡ folders.Missing → file_at files (record_place path) ≡ None) → (fault ≡ folders.Blocked → is_blocked files (record_place path) ≡ true)
    → (fault ≡ folders.TooLarge → IsSomeAnd (file_at files (record_place path)) (λ bytes. max_record < length bytes)) → fault ≢ folders.BadFileName
    → IfOk (none_for place fault) (IsTextAt files path)
read_of files path place folders.OutOfMemory sound missing blocked large named = tt
read_of files path place folders.Device sound missing blocked large named = tt
read_of files path place folders.Missing sound missing blocked large named = none_read files path (missing refl)
read_of files path place folders.Blocked sound missing blocked large named = none_read files path (blocked_none files (record_place path) sound (blocked refl))
read_of files path place folders.TooLarge sound missing blocked large named = large_read files path (large refl)
read_of files path place folders.BadFileName sound missing blocked large named = absurd (named refl)

-- one more pair of two lists is related
all_zip_push : {X Y : Type 0} (R : X → Y → Type 0) (xs : List X) (ys : List Y) (x : X) (y : Y) → AllZip R xs ys → R x y → AllZip R (xs ++ x ∷ []) (ys ++ y ∷ [])
all_zip_push R [] [] x y all here = (here, tt)
all_zip_push R [] (b ∷ ys) x y all here = absurd all
all_zip_push R (a ∷ xs) [] x y all here = absurd all
all_zip_push R (a ∷ xs) (b ∷ ys) x y all here = (all.0, all_zip_push R xs ys x y all.1 here)

-- a list is its first items and the others
pub parted : {X : Type 0} (n : ℕ) (xs ys zs : List X) → ys ≡ take n xs → zs ≡ drop n xs → ys ++ zs ≡ xs
parted n xs ys zs first others = ap (λ vs. vs ++ zs) first ∙ ap (λ vs. take n xs ++ vs) others ∙ take-append-drop n xs

-- two lists of related pairs, one after the other
pub zip_append : {X Y : Type 0} (R : X → Y → Type 0) (xs vs : List X) (ys ws : List Y) → AllZip R xs ys → AllZip R vs ws → AllZip R (xs ++ vs) (ys ++ ws)
zip_append R [] vs [] ws all more = more
zip_append R [] vs (b ∷ ys) ws all more = absurd all
zip_append R (a ∷ xs) vs [] ws all more = absurd all
zip_append R (a ∷ xs) vs (b ∷ ys) ws all more = (all.0, zip_append R xs vs ys ws all.1 more)

-- what is related by way of a third list
pub zip_through : {X Y Z : Type 0} (R : X → Y → Type 0) (S : Y → Z → Type 0) (T : X → Z → Type 0) → ((x : X) (y : Y) (z : Z) → R x y → S y z → T x z)
    → (xs : List X) (ys : List Y) (zs : List Z) → AllZip R xs ys → AllZip S ys zs → AllZip T xs zs
zip_through R S T step [] [] [] one other = tt
zip_through R S T step [] [] (z ∷ zs) one other = absurd other
zip_through R S T step [] (y ∷ ys) zs one other = absurd one
zip_through R S T step (x ∷ xs) [] zs one other = absurd one
zip_through R S T step (x ∷ xs) (y ∷ ys) [] one other = absurd other
zip_through R S T step (x ∷ xs) (y ∷ ys) (z ∷ zs) one other =
    (step x y z one.0 other.0, zip_through R S T step xs ys zs one.1 other.1)

-- one more task's record is read
pub read_more : {X Y : Type 0} (R : X → Y → Type 0) (xs : List X) (i : ℕ) (x : X) (out more : List Y) (y : Y) → i < length xs → x ≡ get_or xs i x
    → AllZip R (take i xs) out → R x y → more ≡ out ++ y ∷ [] → AllZip R (take (i + 1) xs) more
read_more R xs i x out more y low at all here is = rw (take_more xs i x low, ← at, is) (all_zip_push R (take i xs) out x y all here)

pub placeless_read : (files : Files) (path : Path) (fault : PlaceFault) (result : Result (Option Bytes) Fault) → are_placed files ≡ true
    → (fault ≡ places.BadPlace → is_place (record_place path) ≡ false) → (fault ≡ places.BadPlace → result ≡ Ok None)
    → (fault ≡ places.OutOfMemory → result ≡ Err faults.OutOfMemory) → IfOk result (IsTextAt files path)
placeless_read files path places.BadPlace result all bad none out =
    subst (λ r. IfOk r (IsTextAt files path)) (sym (none refl)) (none_read files path (unplaced files (record_place path) all (bad refl)))
placeless_read files path places.OutOfMemory result all bad none out = subst (λ r. IfOk r (IsTextAt files path)) (sym (out refl)) tt
