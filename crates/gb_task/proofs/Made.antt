-- What actions make is a folder: no file of it is under another.
use Rattle.std.specs.Prelude.{◌≡◌, ◌&&◌, ◌||◌, ◌++◌, ℕ, Bool, true, false, not, cond, List, [], ◌∷◌, length, nat_lt, Result, Ok, Err, ⊤}
use Rattle.std.specs.List.{flat_map, fold, list_all}
use Rattle.std.proofs.Common.{refl, sym, subst, ◌∙◌}
use Rattle.std.proofs.lemmas.Bool.{and_parts}
use mathlib.Core.Bool.{true≢false}
use Rattle.gb_core.specs.Place.{is_beneath, is_place}
use Rattle.gb_report.specs.declared.fault.Fault.{Fault}
use Rattle.gb_report.specs.declared.fault.Fault.TheVariants as faults
use Rattle.gb_folder.specs.Files.{Place, Bytes, Files, IsFolder, is_blocked, is_empty, with_file}
use Rattle.gb_folder.specs.Limits.{max_file}
use Rattle.gb_folder.proofs.Sound.{all_put, any_put, sound_put}
use Rattle.gb_action.specs.Files.{Trees}
use Rattle.gb_action.specs.Meanings.{Values}
use Rattle.gb_action.specs.declared.reply.Written.{Written}
use Rattle.gb_plan.specs.declared.task.Action.{Action}
use Rattle.gb_plan.specs.declared.task.Output.{Output}
use Rattle.gb_plan.proofs.Tests.{no_longer, none_right}
use Rattle.gb_semantics.specs.Kinds.{Kinds, kind_of}
use Rattle.gb_semantics.specs.Made.{act, fault_if, file_faults, made_of, placed, put_over, put_result, step_faults}

-- each place of these files passes the test
abbrev AllAt : (Place → Bool) → List (Place × Bytes) → Type 0
AllAt test files = list_all (λ (file : Place × Bytes). test file.0) files ≡ true

both : (a b : Bool) → a ≡ true → b ≡ true → (a && b) ≡ true
both a b p q = rw (p, q) refl

-- if all written files pass, each of them passes, and those that they were written over
held_pass : (test : Place → Bool) (held : Files) (files : List (Place × Bytes)) → AllAt test (put_over held files) → AllAt test held
held_pass test held [] all = all
held_pass test held (file ∷ files) all =
    let more : (test file.0 && list_all (λ (f : Place × Bytes). test f.0) held) ≡ true = sym (all_put test file.0 file.1 held) ∙ held_pass test (with_file held file.0 file.1) files all in
    (and_parts (test file.0) _ more).1

new_pass : (test : Place → Bool) (held : Files) (files : List (Place × Bytes)) → AllAt test (put_over held files) → AllAt test files
new_pass test held [] all = refl
new_pass test held (file ∷ files) all =
    let more : (test file.0 && list_all (λ (f : Place × Bytes). test f.0) held) ≡ true = sym (all_put test file.0 file.1 held) ∙ held_pass test (with_file held file.0 file.1) files all in
    both (test file.0) (list_all (λ (f : Place × Bytes). test f.0) files) (and_parts (test file.0) _ more).0 (new_pass test (with_file held file.0 file.1) files all)

-- what is not blocked by more files is not by fewer
still_free : (held : Files) (files : List (Place × Bytes)) (place : Place) → is_blocked (put_over held files) place ≡ false → is_blocked held place ≡ false
still_free held [] place free = free
still_free held (file ∷ files) place free =
    none_right (is_beneath place file.0 || is_beneath file.0 place) (is_blocked held place)
    (sym (any_put (λ other. is_beneath place other || is_beneath other place) file.0 file.1 held) ∙ still_free (with_file held file.0 file.1) files place free)

-- files put over a folder, none of them blocked by all, leave a folder
folder_over : (held : Files) (files : List (Place × Bytes)) → IsFolder held
    → AllAt (λ place. not (is_blocked (put_over held files) place)) files → IsFolder (put_over held files)
folder_over held [] sound all = sound
folder_over held (file ∷ files) sound all =
    let parts = and_parts (not (is_blocked (put_over (with_file held file.0 file.1) files) file.0)) _ all in
    folder_over (with_file held file.0 file.1) files
    (sound_put held file.0 file.1 sound (still_free held (file ∷ files) file.0 (no_longer _ parts.0)))
    parts.1

-- ---- what hinders none of the files

none_first : (one two three more : List Fault) → is_empty ((one ++ two ++ three) ++ more) ≡ true → is_empty two ≡ true
none_first [] [] three more e = refl
none_first [] (fault ∷ two) three more e = absurd (true≢false (sym e))
none_first (fault ∷ one) two three more e = absurd (true≢false (sym e))

none_later : (one more : List Fault) → is_empty (one ++ more) ≡ true → is_empty more ≡ true
none_later [] more e = e
none_later (fault ∷ one) more e = absurd (true≢false (sym e))

joined : (one two more : List Fault) → is_empty ((one ++ two) ++ more) ≡ true → is_empty (one ++ (two ++ more)) ≡ true
joined [] two more e = e
joined (fault ∷ one) two more e = absurd (true≢false (sym e))

unblocked : (all : Files) (files : List (Place × Bytes)) (more : List Fault) → is_empty (flat_map (file_faults all) files ++ more) ≡ true
    → AllAt (λ place. not (is_blocked all place)) files
unblocked all [] more e = refl
unblocked all (file ∷ files) more e =
    let parts = joined (file_faults all file) (flat_map (file_faults all) files) more e in
    both (not (is_blocked all file.0)) (list_all (λ (f : Place × Bytes). not (is_blocked all f.0)) files)
    (by (is_blocked all file.0) (none_first (fault_if (not (is_place file.0)) (faults.BadPlace file.0)) (fault_if (is_blocked all file.0) (faults.Blocked file.0))
    (fault_if (nat_lt max_file (length file.1)) (faults.TooLarge file.0)) (flat_map (file_faults all) files ++ more) parts))
    (unblocked all files more (none_later (file_faults all file) (flat_map (file_faults all) files ++ more) parts))
  where
    by : (b : Bool) → is_empty (fault_if b (faults.Blocked file.0)) ≡ true → not b ≡ true
    by true e = absurd (true≢false (sym e))
    by false e = refl

-- ---- along the actions

abbrev IsFolderIn : Result Files (List Fault) → Type 0
IsFolderIn (Ok files) = IsFolder files
IsFolderIn (Err fault) = ⊤

module _ (kinds : Kinds) (outputs : List Output) (values : Values) (trees : Trees) where
  put_folder : (held : Files) → IsFolder held → (r : Result (List Written) (List ℕ)) → IsFolderIn (put_result outputs held r)
  put_folder held sound (Err text) = tt
  put_folder held sound (Ok written) = by (is_empty (step_faults outputs held (placed outputs written))) refl
    where
      by : (b : Bool) → is_empty (step_faults outputs held (placed outputs written)) ≡ b
          → IsFolderIn (cond b (Ok (put_over held (placed outputs written))) (Err (step_faults outputs held (placed outputs written))))
      by false e = tt
      by true e =
          folder_over held (placed outputs written) sound
          (new_pass (λ place. not (is_blocked (put_over held (placed outputs written)) place)) [] (placed outputs written)
          (unblocked (put_over held (placed outputs written)) (put_over [] (placed outputs written)) _ e))

  act_folder : (held : Result Files (List Fault)) → IsFolderIn held → (action : Action) → IsFolderIn (act kinds outputs values trees held action)
  act_folder (Err fault) sound action = tt
  act_folder (Ok held) sound action = put_folder held sound (kinds.makes (kind_of action) action.args values trees)

  fold_folder : (actions : List Action) (held : Result Files (List Fault)) → IsFolderIn held → IsFolderIn (fold (act kinds outputs values trees) held actions)
  fold_folder [] held sound = sound
  fold_folder (action ∷ actions) held sound = fold_folder actions (act kinds outputs values trees held action) (act_folder held sound action)

-- what actions make is a folder
pub made_folder : (kinds : Kinds) (outputs : List Output) (values : Values) (trees : Trees) (actions : List Action) (new : Files)
    → made_of kinds actions values trees outputs ≡ Ok new → IsFolder new
made_folder kinds outputs values trees actions new e =
    subst IsFolderIn e (fold_folder kinds outputs values trees actions (Ok []) (record { in_order = refl; none_blocked = refl }))
