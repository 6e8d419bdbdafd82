-- A run that reached its end made what the actions make.
use Rattle.std.specs.Prelude.{ℕ, ◌≡◌, ◌++◌, Bool, true, false, cond, ◌||◌, List, [], ◌∷◌, map, Some, None, Result, Ok, Err}
use Rattle.std.specs.List.{filter, fold, list_any}
use Rattle.std.specs.declared.cmp.Ordering.TheVariants.{Less, Equal, Greater}
use Rattle.std.specs.Cmp.Lexicographic.{slice_cmp}
use Rattle.std.specs.FinMap.{slice_cmp-IsAntisymmetric, nat_cmp-IsAntisymmetric}
use Rattle.std.specs.FinMap.Entries.{by_order}
use Rattle.std.specs.Ordering.{nat_cmp}
use Rattle.std.proofs.Common.{refl, sym, ap, ◌∙◌}
use Rattle.gb_core.proofs.Booleans.{or_itself, or_swap}
use Rattle.gb_report.specs.declared.fault.Fault.{Fault}
use Rattle.gb_report.specs.declared.fault.Fault.TheVariants as faults
use Rattle.gb_folder.specs.Files.{Place, Bytes, Files, is_blocked, is_empty, with_file}
use Rattle.gb_plan.specs.Task.{Text}
use Rattle.gb_action.specs.declared.reply.Written.{Written}
use Rattle.gb_semantics.specs.Kinds.{kind_of}
use Rattle.gb_semantics.specs.Made.{act, blocked_in, placed, put_over, put_result, step_faults}
use Rattle.gb_semantics.specs.Run.{Ended, EndedIsMade, ends, or_end, step_by, hindrances, unless_hindered, has_room}

or_shift : (a b c : Bool) → ((a || b) || c) ≡ (b || (a || c))
or_shift true true c = refl
or_shift true false c = refl
or_shift false b c = refl

-- a test of the places with one more
any_put : (test : Place → Bool) (place bytes : List ℕ) (files : Files)
    → list_any (λ (file : Place × Bytes). test file.0) (with_file files place bytes) ≡ (test place || list_any (λ (file : Place × Bytes). test file.0) files)
any_put test place bytes [] = refl
any_put test place bytes (file ∷ files) =
    let any : Files → Bool = λ fs. list_any (λ (f : Place × Bytes). test f.0) fs in
    elim (slice_cmp nat_cmp place file.0) as (λ o. slice_cmp nat_cmp place file.0 ≡ o
    → list_any (λ (f : Place × Bytes). test f.0) (by_order o ((place, bytes) ∷ file ∷ files) ((file.0, bytes) ∷ files) (file ∷ with_file files place bytes)) ≡ (test place || (test file.0 || list_any (λ (f : Place × Bytes). test f.0) files))) [
      | Less ↦ λ _. refl
      | Equal ↦ λ is. or_itself (test file.0) (any files) ∙ ap (λ q. test q || (test file.0 || any files)) (sym (slice_cmp-IsAntisymmetric nat_cmp-IsAntisymmetric place file.0 is))
      | Greater ↦ λ _. ap (λ b. test file.0 || b) (any_put test place bytes files) ∙ or_swap (test file.0) (test place) (any files)
    ] refl

any_over : (test : Place → Bool) (held : Files) (files : List (Place × Bytes))
    → list_any (λ (file : Place × Bytes). test file.0) (put_over held files) ≡ (list_any (λ (file : Place × Bytes). test file.0) held || list_any (λ (file : Place × Bytes). test file.0) files)
any_over test held [] = sym (or_none (list_any (λ (file : Place × Bytes). test file.0) held))
  where
    or_none : (b : Bool) → (b || false) ≡ b
    or_none true = refl
    or_none false = refl
any_over test held (file ∷ files) =
    any_over test (with_file held file.0 file.1) files
    ∙ ap (λ b. b || list_any (λ (f : Place × Bytes). test f.0) files) (any_put test file.0 file.1 held)
    ∙ or_shift (test file.0) (list_any (λ (f : Place × Bytes). test f.0) held) (list_any (λ (f : Place × Bytes). test f.0) files)

none_passes : {X Y Z : Type 0} (g : X → Y) (h : Y → Z) (t : X → Bool) (xs : List X) → map h (map g (filter t xs)) ≡ [] → list_any t xs ≡ false
none_passes g h t [] e = refl
none_passes g h t (x ∷ xs) e =
    elim (t x) as (λ b. t x ≡ b → map h (map g (cond b (x ∷ filter t xs) (filter t xs))) ≡ [] → (b || list_any t xs) ≡ false) [
      | true ↦ λ _ some. absurd (no_cons some)
      | false ↦ λ _ none. none_passes g h t xs none
    ] refl e
  where
    no_cons : {W : Type 0} {w : W} {ws : List W} → w ∷ ws ≡ [] → ⊥
    no_cons q = cc

pub none_blocked : {X Y : Type 0} (g : X → Y) (t : X → Bool) (xs : List X) → list_any t xs ≡ false → is_empty (map g (filter t xs)) ≡ true
none_blocked g t [] e = refl
none_blocked g t (x ∷ xs) e =
    elim (t x) as (λ b. (b || list_any t xs) ≡ false → is_empty (map g (cond b (x ∷ filter t xs) (filter t xs))) ≡ true) [
      | true ↦ λ some. absurd (let q = some in (cc))
      | false ↦ λ none. none_blocked g t xs none
    ] e

left_none : {X : Type 0} (xs ys : List X) → xs ++ ys ≡ [] → xs ≡ []
left_none [] ys e = refl
left_none (x ∷ xs) ys e = absurd (cc)

right_none : {X : Type 0} (xs ys : List X) → xs ++ ys ≡ [] → ys ≡ []
right_none [] ys e = e
right_none (x ∷ xs) ys e = absurd (cc)

no_fault : {A : Type 0} {fault : Fault} → Some fault ≡ None → A
no_fault e = absurd (let q = e in (cc))

pub ended_is_made : EndedIsMade
ended_is_made kinds outputs values trees rest held [] free none = (refl, free, refl)
ended_is_made kinds outputs values trees rest held (action ∷ actions) free none =
    by_result (λ more. ended_is_made kinds outputs values trees rest more actions) (kinds.makes (kind_of action) action.args values trees) none
  where
    after : Files → Ended
    after more = ends kinds outputs values trees rest more actions

    on : Ended → Result Files (List Fault) → Type 0
    on ended made = (fold (act kinds outputs values trees) made actions ≡ Ok ended.held) × has_room rest ended.held × (ended.done ≡ action ∷ actions)

    Again : Type 0
    Again = (more : Files) → has_room rest more → (after more).fault ≡ None
        → (fold (act kinds outputs values trees) (Ok more) actions ≡ Ok (after more).held) × has_room rest (after more).held × ((after more).done ≡ actions)

    by_result : Again → (r : Result (List Written) Text) → (or_end action held (step_by outputs rest held r) after).fault ≡ None → on (or_end action held (step_by outputs rest held r) after) (put_result outputs held r)
    by_result again (Err text) e = no_fault e
    by_result again (Ok written) e =
        elim (hindrances outputs rest held (placed outputs written)) as (λ h. hindrances outputs rest held (placed outputs written) ≡ h
        → (or_end action held (unless_hindered h (put_over held (placed outputs written))) after).fault ≡ None
        → on (or_end action held (unless_hindered h (put_over held (placed outputs written))) after) (put_result outputs held (Ok written))) [
          | [] ↦ λ clear ended.
              let files = placed outputs written in
              let own = left_none (step_faults outputs held files) (map faults.Blocked (blocked_in rest (put_over [] files))) clear in
              let room = none_passes (λ (f : Place × Bytes). f.0) faults.Blocked (λ (f : Place × Bytes). is_blocked rest f.0) (put_over [] files) (right_none (step_faults outputs held files) (map faults.Blocked (blocked_in rest (put_over [] files))) clear) in
              let free_then : has_room rest (put_over held files) =
              any_over (is_blocked rest) held files ∙ ap (λ b. b || list_any (λ (f : Place × Bytes). is_blocked rest f.0) files) free ∙ sym (any_over (is_blocked rest) [] files) ∙ room in
              let more = again (put_over held files) free_then ended in
              (ap (λ hs. fold (act kinds outputs values trees) (cond (is_empty hs) (Ok (put_over held files)) (Err hs)) actions) own ∙ more.0, more.1, ap (λ rest_of. action ∷ rest_of) more.2)
          | fault ∷ others ↦ λ _ ended. no_fault ended
        ] refl e
