-- Places taken as empty files represent the files: the faults of an action's files are the same given the
-- places taken as given the files themselves.
use Rattle.std.proofs.Common.{◌≡◌, ℕ, suc, Bool, true, false, cond, not, ◌||◌, List, [], ◌∷◌, ◌++◌, length, map, Option, Some, None, refl, sym, ap, ◌∙◌}
use Rattle.std.specs.List.{flat_map}
use Rattle.std.specs.Prelude.{nat_lt}
use Rattle.std.specs.declared.cmp.Ordering.TheVariants.{Less, Equal, Greater}
use Rattle.std.specs.Cmp.Lexicographic.{slice_cmp}
use Rattle.std.specs.FinMap.Entries.{by_order, is_sorted}
use Rattle.std.specs.Ordering.{nat_cmp, eq_by_cmp}
use Rattle.gb_core.specs.Lists.{byte_order}
use Rattle.gb_core.specs.Place.{is_place, is_beneath, is_under}
use Rattle.gb_folder.specs.Files.{Place, Bytes, Files, file_at, files_under, is_blocked, with_file}
use Rattle.gb_folder.specs.Limits.{max_file, max_files}
use Rattle.gb_report.specs.declared.fault.Fault.TheVariants as faults
use Rattle.gb_plan.specs.declared.task.Output.{Output}
use Rattle.gb_semantics.specs.Made.{fault_if, file_faults, full_outputs, put_over, step_faults}
use Rattle.gb_semantics.proofs.Lemmas.Files.{at-put_over, at-with, or_else, same_files, sorted-put_over}
use Rattle.gb_run.specs.Placing.{blank, count_faults, faults_beside}

-- ---- by place

-- what is at a place once these are put: the last of them counts
last_at : List (Place × Bytes) → Place → Option Bytes
last_at [] q = None
last_at (f ∷ files) q = or_else (last_at files q) (cond (eq_by_cmp byte_order q f.0) (Some f.1) None)

three : (o : Option Bytes) (b : Bool) (v : Bytes) (w : Option Bytes) → or_else o (cond b (Some v) w) ≡ or_else (or_else o (cond b (Some v) None)) w
three (Some x) b v w = refl
three None true v w = refl
three None false v w = refl

at_last : (held : Files) (files : List (Place × Bytes)) (q : Place) → file_at (put_over held files) q ≡ or_else (last_at files q) (file_at held q)
unfolding last_at
at_last held [] q = refl
at_last held (f ∷ files) q =
    at_last (with_file held f.0 f.1) files q ∙ ap (or_else (last_at files q)) (at-with held f.0 f.1 q)
    ∙ three (last_at files q) (eq_by_cmp byte_order q f.0) f.1 (file_at held q)

pub or_none : (o : Option Bytes) → or_else o None ≡ o
or_none None = refl
or_none (Some b) = refl

-- files put over others take precedence over them, in whatever order they are put
pub at_over : (held : Files) (files : List (Place × Bytes)) (q : Place) → file_at (put_over held files) q ≡ or_else (file_at (put_over [] files) q) (file_at held q)
at_over held files q = at_last held files q ∙ ap (λ o. or_else o (file_at held q)) (sym (at_last [] files q ∙ or_none (last_at files q)))

-- files give the same by place
pub over_by_place : (held : Files) (files : List (Place × Bytes)) → is_sorted byte_order held ≡ true → put_over held files ≡ put_over held (put_over [] files)
over_by_place held files h =
    same_files _ _ (sorted-put_over held files h) (sorted-put_over held (put_over [] files) h)
    (λ q. at_over held files q ∙ sym (at-put_over held (put_over [] files) q (sorted-put_over [] files refl)))

assoc : (a b c : Option Bytes) → or_else a (or_else b c) ≡ or_else (or_else a b) c
assoc (Some x) b c = refl
assoc None b c = refl

-- the rest with files put over it, and then more files
pub over_rest : (rest held : Files) (files : List (Place × Bytes)) → is_sorted byte_order rest ≡ true → is_sorted byte_order held ≡ true
    → put_over (put_over rest held) (put_over [] files) ≡ put_over rest (put_over held files)
over_rest rest held files r h =
    same_files _ _ (sorted-put_over (put_over rest held) (put_over [] files) (sorted-put_over rest held r)) (sorted-put_over rest (put_over held files) r)
    (λ q.
    at-put_over (put_over rest held) (put_over [] files) q (sorted-put_over [] files refl)
    ∙ ap (or_else (file_at (put_over [] files) q)) (at-put_over rest held q h)
    ∙ assoc (file_at (put_over [] files) q) (file_at held q) (file_at rest q)
    ∙ ap (λ o. or_else o (file_at rest q)) (sym (at_over held files q))
    ∙ sym (at-put_over rest (put_over held files) q (sorted-put_over held files h)))

-- ---- empty files

blank_with : (files : Files) (place bytes : List ℕ) → blank (with_file files place bytes) ≡ with_file (blank files) place []
blank_with [] place bytes = refl
blank_with (file ∷ files) place bytes =
    elim (slice_cmp nat_cmp place file.0) as (λ o.
    blank (by_order o ((place, bytes) ∷ file ∷ files) ((file.0, bytes) ∷ files) (file ∷ with_file files place bytes))
    ≡ by_order o ((place, []) ∷ (file.0, []) ∷ blank files) ((file.0, []) ∷ blank files) ((file.0, []) ∷ with_file (blank files) place [])) [
      | Less ↦ refl
      | Equal ↦ refl
      | Greater ↦ ap (λ (fs : Files). (file.0, []) ∷ fs) (blank_with files place bytes)
    ]

pub blank_over : (held : Files) (files : List (Place × Bytes)) → blank (put_over held files) ≡ put_over (blank held) (blank files)
blank_over held [] = refl
blank_over held (f ∷ files) = blank_over (with_file held f.0 f.1) files ∙ ap (λ m. put_over m (blank files)) (blank_with held f.0 f.1)

blocked_blank : (files : Files) (place : Place) → is_blocked (blank files) place ≡ is_blocked files place
blocked_blank [] place = refl
blocked_blank (file ∷ files) place = ap (λ b. (is_beneath place file.0 || is_beneath file.0 place) || b) (blocked_blank files place)

under_blank : (files : Files) (root : Place) → length (files_under (blank files) root) ≡ length (files_under files root)
under_blank [] root = refl
under_blank (file ∷ files) root =
    elim (is_under file.0 root) as (λ b.
    length (cond b ((file.0, []) ∷ files_under (blank files) root) (files_under (blank files) root)) ≡ length (cond b (file ∷ files_under files root) (files_under files root))) [
      | true ↦ ap suc (under_blank files root)
      | false ↦ under_blank files root
    ]

full_blank : (outputs : List Output) (files : Files) → full_outputs outputs (blank files) ≡ full_outputs outputs files
full_blank [] files = refl
full_blank (o ∷ outputs) files =
    ap (λ n. cond (nat_lt max_files n) (o ∷ full_outputs outputs (blank files)) (full_outputs outputs (blank files))) (under_blank files o.place)
    ∙ ap (λ (more : List Output). cond (nat_lt max_files (length (files_under files o.place))) (o ∷ more) more) (full_blank outputs files)

faults_blank : (all : Files) (files : List (Place × Bytes)) → flat_map (file_faults (blank all)) files ≡ flat_map (file_faults all) files
faults_blank all [] = refl
faults_blank all (f ∷ files) =
    ap (λ b. (fault_if (not (is_place f.0)) (faults.BadPlace f.0) ++ fault_if b (faults.Blocked f.0) ++ fault_if (nat_lt max_file (length f.1)) (faults.TooLarge f.0)) ++ flat_map (file_faults (blank all)) files)
    (blocked_blank all f.0)
    ∙ ap (λ more. file_faults all f ++ more) (faults_blank all files)

-- the places taken with an action's files
pub taken_then : (held : Files) (files : List (Place × Bytes)) → is_sorted byte_order held ≡ true → put_over (blank held) (blank (put_over [] files)) ≡ blank (put_over held files)
taken_then held files h = sym (blank_over held (put_over [] files)) ∙ ap blank (sym (over_by_place held files h))

-- the faults of files given the places taken are those given the files
pub beside_held : (outputs : List Output) (held : Files) (files : List (Place × Bytes)) → is_sorted byte_order held ≡ true
    → faults_beside outputs (blank held) (put_over [] files) ≡ step_faults outputs held files
beside_held outputs held files h =
    let now = put_over held files in
    let by_place = put_over [] files in
    ap (λ all. flat_map (file_faults all) by_place ++ count_faults outputs all) (taken_then held files h)
    ∙ ap (λ fs. fs ++ count_faults outputs (blank now)) (faults_blank now by_place)
    ∙ ap (λ (full : List Output). flat_map (file_faults now) by_place ++ map (λ output. faults.TooManyFiles output.name) full) (full_blank outputs now)
