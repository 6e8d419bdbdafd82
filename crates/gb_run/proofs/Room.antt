-- Where the files of an action have room, and which is the first that has none.
use Rattle.std.proofs.Common.{◌≡◌, Bool, true, false, cond, ◌||◌, List, [], ◌∷◌, ◌++◌, map, Some, Ok, Err, refl, sym, ap, subst, ◌∙◌}
use Rattle.std.specs.List.{AllByRecursion, filter, list_any}
use Rattle.std.specs.FinMap.Entries.{is_sorted}
use Rattle.gb_core.specs.Lists.{byte_order, first_of}
use Rattle.gb_core.specs.Place.{is_beneath}
use Rattle.gb_folder.specs.Files.{Place, Bytes, Files, is_blocked, is_empty, with_file}
use Rattle.gb_folder.proofs.Sound.{any_put}
use Rattle.gb_report.specs.declared.fault.Fault.{Fault}
use Rattle.gb_report.specs.declared.fault.Fault.TheVariants as faults
use Rattle.gb_action.specs.declared.reply.Written.{Written}
use Rattle.gb_plan.specs.declared.task.Output.{Output}
use Rattle.gb_plan.proofs.Tests.{any_append, none_left, none_right}
use Rattle.gb_semantics.specs.Made.{blocked_in, placed, put_over, step_faults}
use Rattle.gb_semantics.specs.Run.{has_room, hindrances, step_by, unless_hindered}
use Rattle.gb_run.specs.RunInput.{free_files}
use Rattle.gb_run.specs.Placing.{count_faults}
use Rattle.gb_run.proofs.Placed.{first_more, free_files_of, none_before}
use Rattle.gb_run.proofs.Beside.{over_by_place}

or_shift : (a b c : Bool) → ((a || b) || c) ≡ (b || (a || c))
or_shift true true c = refl
or_shift true false c = refl
or_shift false b c = refl

pub or_none : (b : Bool) → (b || false) ≡ b
or_none true = refl
or_none false = refl

any_over : (test : Place → Bool) (held : Files) (files : List (Place × Bytes))
    → list_any (λ (file : Place × Bytes). test file.0) (put_over held files) ≡ (list_any (λ (file : Place × Bytes). test file.0) held || list_any (λ (file : Place × Bytes). test file.0) files)
any_over test held [] = sym (or_none (list_any (λ (file : Place × Bytes). test file.0) held))
any_over test held (file ∷ files) =
    any_over test (with_file held file.0 file.1) files
    ∙ ap (λ b. b || list_any (λ (f : Place × Bytes). test f.0) files) (any_put test file.0 file.1 held)
    ∙ or_shift (test file.0) (list_any (λ (f : Place × Bytes). test f.0) held) (list_any (λ (f : Place × Bytes). test f.0) files)

-- what is blocked by files put over others is blocked by the ones or the others
pub blocked_over : (held : Files) (files : List (Place × Bytes)) (place : Place) → is_blocked (put_over held files) place ≡ (is_blocked held place || is_blocked files place)
blocked_over held files place = any_over (λ other. is_beneath place other || is_beneath other place) held files

-- what more files leave free the ones leave free
pub fewer_room : (rest held : Files) (files : List (Place × Bytes)) → has_room (put_over rest held) files → has_room rest files
fewer_room rest held [] free = refl
fewer_room rest held (f ∷ files) free =
    let here = none_left (is_blocked (put_over rest held) f.0) (list_any (λ (g : Place × Bytes). is_blocked (put_over rest held) g.0) files) free in
    let later = none_right (is_blocked (put_over rest held) f.0) (list_any (λ (g : Place × Bytes). is_blocked (put_over rest held) g.0) files) free in
    ap (λ b. b || list_any (λ (g : Place × Bytes). is_blocked rest g.0) files) (none_left (is_blocked rest f.0) (is_blocked held f.0) (sym (blocked_over rest held f.0) ∙ here))
    ∙ fewer_room rest held files later

none_passes : {X : Type 0} (t : X → Bool) (xs : List X) → list_any t xs ≡ false → filter t xs ≡ []
none_passes t [] e = refl
none_passes t (x ∷ xs) e =
    ap (λ b. cond b (x ∷ filter t xs) (filter t xs)) (none_left (t x) (list_any t xs) e) ∙ none_passes t xs (none_right (t x) (list_any t xs) e)

none_blocked : (rest : Files) (files : List (Place × Bytes)) → has_room rest files → blocked_in rest files ≡ []
none_blocked rest files free = ap (map (λ (f : Place × Bytes). f.0)) (none_passes (λ (f : Place × Bytes). is_blocked rest f.0) files free)

-- the first that is blocked, after some that are not
first_blocked : (rest : Files) (prefix : List (Place × Bytes)) (file : Place × Bytes) (following : List (Place × Bytes)) → has_room rest prefix → is_blocked rest file.0 ≡ true
    → blocked_in rest (prefix ++ file ∷ following) ≡ file.0 ∷ blocked_in rest following
first_blocked rest [] file following free blocked =
    ap (λ b. map (λ (f : Place × Bytes). f.0) (cond b (file ∷ filter (λ (f : Place × Bytes). is_blocked rest f.0) following) (filter (λ (f : Place × Bytes). is_blocked rest f.0) following))) blocked
first_blocked rest (f ∷ prefix) file following free blocked =
    let more = filter (λ (g : Place × Bytes). is_blocked rest g.0) (prefix ++ file ∷ following) in
    ap (λ b. map (λ (g : Place × Bytes). g.0) (cond b (f ∷ more) more)) (none_left (is_blocked rest f.0) (list_any (λ (g : Place × Bytes). is_blocked rest g.0) prefix) free)
    ∙ first_blocked rest prefix file following (none_right (is_blocked rest f.0) (list_any (λ (g : Place × Bytes). is_blocked rest g.0) prefix) free) blocked

pub all_mid : {X : Type 0} (P : X → Type 0) (prefix : List X) (x : X) (following : List X) → AllByRecursion P (prefix ++ x ∷ following) → P x
all_mid P [] x following all = all.0
all_mid P (y ∷ prefix) x following all = all_mid P prefix x following all.1

met_first : (faults : List Fault) (held : Files) (fault : Fault) → first_of faults ≡ Some fault → unless_hindered faults held ≡ Err fault
met_first [] held fault e = absurd (cc)
met_first (first ∷ faults) held fault e = cc

module _ (outputs : List Output) (rest held : Files) (written : List Written) where
  -- the files have no fault: the action ends
  pub step_ends : step_faults outputs held (placed outputs written) ≡ [] → has_room (put_over rest held) (put_over [] (placed outputs written))
      → step_by outputs rest held (Ok written) ≡ Ok (put_over held (placed outputs written))
  step_ends none free =
      ap (λ hs. unless_hindered (hs ++ map faults.Blocked (blocked_in rest (put_over [] (placed outputs written)))) (put_over held (placed outputs written))) none
      ∙ ap (λ (places : List Place). unless_hindered (map faults.Blocked places) (put_over held (placed outputs written)))
      (none_blocked rest (put_over [] (placed outputs written)) (fewer_room rest held (put_over [] (placed outputs written)) free))

  -- its files are in conflict with one another
  pub step_hindered : (fault : Fault) → first_of (step_faults outputs held (placed outputs written)) ≡ Some fault → step_by outputs rest held (Ok written) ≡ Err fault
  step_hindered fault e =
      met_first (hindrances outputs rest held (placed outputs written)) (put_over held (placed outputs written)) fault
      (first_more (step_faults outputs held (placed outputs written)) (map faults.Blocked (blocked_in rest (put_over [] (placed outputs written)))) fault e)

  -- the rest of the folder has no room for this file, and it has for those before it
  pub step_blocked : (prefix : List (Place × Bytes)) (file : Place × Bytes) (following : List (Place × Bytes)) → is_sorted byte_order held ≡ true
      → put_over [] (placed outputs written) ≡ prefix ++ file ∷ following
      → step_faults outputs held (placed outputs written) ≡ [] → has_room (put_over rest held) prefix
      → is_blocked (put_over (put_over rest held) prefix) file.0 ≡ true → step_by outputs rest held (Ok written) ≡ Err (faults.Blocked file.0)
  step_blocked prefix file following sorted is none free blocked =
      ap (λ hs. unless_hindered (hs ++ map faults.Blocked (blocked_in rest by_place)) all) none
      ∙ ap (λ (fs : List (Place × Bytes)). unless_hindered (map faults.Blocked (blocked_in rest fs)) all) is
      ∙ ap (λ (places : List Place). unless_hindered (map faults.Blocked places) all) (first_blocked rest prefix file following (fewer_room rest held prefix free) by_rest)
    where
      by_place : Files
      by_place = put_over [] (placed outputs written)

      all : Files
      all = put_over held (placed outputs written)

      among : AllByRecursion (λ (f : Place × Bytes). is_blocked (put_over held (placed outputs written)) f.0 ≡ false) (put_over [] (placed outputs written))
      among = free_files_of (put_over held (placed outputs written)) (put_over [] (placed outputs written)) (none_before _ (count_faults outputs (put_over held (placed outputs written))) none)

      own : is_blocked (put_over held (placed outputs written)) file.0 ≡ false
      own = all_mid (λ (f : Place × Bytes). is_blocked (put_over held (placed outputs written)) f.0 ≡ false) prefix file following
          (subst (λ (fs : List (Place × Bytes)). AllByRecursion (λ (f : Place × Bytes). is_blocked (put_over held (placed outputs written)) f.0 ≡ false) fs) is among)

      parts : (is_blocked held file.0 || is_blocked (prefix ++ file ∷ following) file.0) ≡ false
      parts = ap (λ (fs : List (Place × Bytes)). is_blocked held file.0 || is_blocked fs file.0) (sym is)
          ∙ sym (blocked_over held (put_over [] (placed outputs written)) file.0)
          ∙ ap (λ m. is_blocked m file.0) (sym (over_by_place held (placed outputs written) sorted)) ∙ own

      by_held : is_blocked held file.0 ≡ false
      by_held = none_left (is_blocked held file.0) (is_blocked (prefix ++ file ∷ following) file.0) parts

      by_prefix : is_blocked prefix file.0 ≡ false
      by_prefix = none_left (is_blocked prefix file.0) (is_blocked (file ∷ following) file.0)
          (sym (any_append (λ (other : Place × Bytes). is_beneath file.0 other.0 || is_beneath other.0 file.0) prefix (file ∷ following))
          ∙ none_right (is_blocked held file.0) (is_blocked (prefix ++ file ∷ following) file.0) parts)

      by_rest : is_blocked rest file.0 ≡ true
      by_rest =
          sym (or_none (is_blocked rest file.0))
          ∙ ap (λ b. is_blocked rest file.0 || b) (sym by_held) ∙ sym (blocked_over rest held file.0)
          ∙ sym (or_none (is_blocked (put_over rest held) file.0)) ∙ ap (λ b. is_blocked (put_over rest held) file.0 || b) (sym by_prefix)
          ∙ sym (blocked_over (put_over rest held) prefix file.0) ∙ blocked

  -- the files of an action that have no fault within the task
  pub free_is : step_faults outputs held (placed outputs written) ≡ [] → free_files outputs held (Ok written) ≡ put_over [] (placed outputs written)
  free_is none = ap (λ hs. cond (is_empty hs) (put_over [] (placed outputs written)) []) none
