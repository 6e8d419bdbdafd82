-- What actions make is at places.
use Rattle.std.specs.Prelude.{◌≡◌, ◌&&◌, ◌++◌, ℕ, Bool, true, false, not, cond, List, [], ◌∷◌, length, nat_lt, Result, Ok, Err, ⊤}
use Rattle.std.specs.List.{flat_map, fold, list_all}
use Rattle.std.proofs.Common.{refl, sym, subst, ◌∙◌}
use Rattle.std.proofs.lemmas.Bool.{and_parts}
use mathlib.Core.Bool.{true≢false}
use Rattle.gb_core.specs.Place.{is_place}
use Rattle.gb_report.specs.declared.fault.Fault.{Fault}
use Rattle.gb_report.specs.declared.fault.Fault.TheVariants as faults
use Rattle.gb_folder.specs.Files.{Place, Bytes, Files, are_placed, is_blocked, is_empty, with_file}
use Rattle.gb_folder.specs.Limits.{max_file}
use Rattle.gb_folder.proofs.Sound.{all_put}
use Rattle.gb_action.specs.Files.{Trees}
use Rattle.gb_action.specs.Meanings.{Values}
use Rattle.gb_action.specs.declared.reply.Written.{Written}
use Rattle.gb_plan.specs.declared.task.Action.{Action}
use Rattle.gb_plan.specs.declared.task.Output.{Output}
use Rattle.gb_semantics.specs.Kinds.{Kinds, kind_of}
use Rattle.gb_semantics.specs.Made.{act, fault_if, file_faults, made_of, placed, put_over, put_result, step_faults}

abbrev exist : List (Place × Bytes) → Bool
exist files = list_all (λ (file : Place × Bytes). is_place file.0) files

both : (a b : Bool) → a ≡ true → b ≡ true → (a && b) ≡ true
both a b p q = rw (p, q) refl

-- files put over others are at places if both are
put_exists : (held : Files) (files : List (Place × Bytes)) → exist files ≡ true → are_placed held ≡ true → are_placed (put_over held files) ≡ true
put_exists held [] all placed = placed
put_exists held (file ∷ files) all at =
    let parts = and_parts (is_place file.0) (exist files) all in
    put_exists (with_file held file.0 file.1) files parts.1 (all_put is_place file.0 file.1 held ∙ both (is_place file.0) (are_placed held) parts.0 at)

-- and only then
held_exists : (held : Files) (files : List (Place × Bytes)) → are_placed (put_over held files) ≡ true → are_placed held ≡ true
held_exists held [] at = at
held_exists held (file ∷ files) at =
    let more : (is_place file.0 && are_placed held) ≡ true = sym (all_put is_place file.0 file.1 held) ∙ held_exists (with_file held file.0 file.1) files at in
    (and_parts (is_place file.0) (are_placed held) more).1

new_exist : (held : Files) (files : List (Place × Bytes)) → are_placed (put_over held files) ≡ true → exist files ≡ true
new_exist held [] at = refl
new_exist held (file ∷ files) at =
    let more : (is_place file.0 && are_placed held) ≡ true = sym (all_put is_place file.0 file.1 held) ∙ held_exists (with_file held file.0 file.1) files at in
    both (is_place file.0) (exist files) (and_parts (is_place file.0) (are_placed held) more).0 (new_exist (with_file held file.0 file.1) files at)

-- parts of a list without a fault have none
none_before : (faults more : List Fault) → is_empty (faults ++ more) ≡ true → is_empty more ≡ true
none_before [] more e = e
none_before (fault ∷ faults) more e = absurd (true≢false (sym e))

none_first : (one two more : List Fault) → is_empty ((one ++ two) ++ more) ≡ true → is_empty (two ++ more) ≡ true
none_first [] two more e = e
none_first (fault ∷ one) two more e = absurd (true≢false (sym e))

unhindered : (all : Files) (files : List (Place × Bytes)) (more : List Fault) → is_empty (flat_map (file_faults all) files ++ more) ≡ true → exist files ≡ true
unhindered all [] more e = refl
unhindered all (file ∷ files) more e =
    both (is_place file.0) (exist files) (by (is_place file.0) e)
    (unhindered all files more (none_first (file_faults all file) (flat_map (file_faults all) files) more e))
  where
    by : (b : Bool) → is_empty (((fault_if (not b) (faults.BadPlace file.0) ++ fault_if (is_blocked all file.0) (faults.Blocked file.0)
        ++ fault_if (nat_lt max_file (length file.1)) (faults.TooLarge file.0)) ++ flat_map (file_faults all) files) ++ more) ≡ true → b ≡ true
    by true h = refl
    by false h = absurd (true≢false (sym h))

-- ---- along the actions

abbrev AreAtPlaces : Result Files (List Fault) → Type 0
AreAtPlaces (Ok files) = are_placed files ≡ true
AreAtPlaces (Err fault) = ⊤

module _ (kinds : Kinds) (outputs : List Output) (values : Values) (trees : Trees) where
  put_at_places : (held : Files) → are_placed held ≡ true → (r : Result (List Written) (List ℕ)) → AreAtPlaces (put_result outputs held r)
  put_at_places held at (Err text) = tt
  put_at_places held at (Ok written) = by (is_empty (step_faults outputs held (placed outputs written))) refl
    where
      by : (b : Bool) → is_empty (step_faults outputs held (placed outputs written)) ≡ b
          → AreAtPlaces (cond b (Ok (put_over held (placed outputs written))) (Err (step_faults outputs held (placed outputs written))))
      by false e = tt
      by true e = put_exists held (placed outputs written) (new_exist [] (placed outputs written) (unhindered (put_over held (placed outputs written)) (put_over [] (placed outputs written)) _ e)) at

  act_at_places : (held : Result Files (List Fault)) → AreAtPlaces held → (action : Action) → AreAtPlaces (act kinds outputs values trees held action)
  act_at_places (Err fault) at action = tt
  act_at_places (Ok held) at action = put_at_places held at (kinds.makes (kind_of action) action.args values trees)

  fold_at_places : (actions : List Action) (held : Result Files (List Fault)) → AreAtPlaces held → AreAtPlaces (fold (act kinds outputs values trees) held actions)
  fold_at_places [] held at = at
  fold_at_places (action ∷ actions) held at = fold_at_places actions (act kinds outputs values trees held action) (act_at_places held at action)

-- what actions make is at places
pub made_placed : (kinds : Kinds) (outputs : List Output) (values : Values) (trees : Trees) (actions : List Action) (new : Files)
    → made_of kinds actions values trees outputs ≡ Ok new → are_placed new ≡ true
made_placed kinds outputs values trees actions new e = subst AreAtPlaces e (fold_at_places kinds outputs values trees actions (Ok []) refl)
