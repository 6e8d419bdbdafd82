-- The tasks of a plan one after another: those before a number, the one of the number, and those after it.
use Rattle.std.specs.Prelude.{ℕ, ◌≡◌, ◌<◌, ◌+◌, ◌-◌, ◌&&◌, Bool, true, false, not, cond, List, [], ◌∷◌, ◌++◌, bytes_eq, length, slice_get, Some}
use Rattle.std.specs.List.{AllByRecursion, AllZip, list_any}
use Rattle.std.proofs.Common.{zero, suc, refl, sym, ap, subst, ◌∙◌, arith, drop, take, get_or, take-append-drop}
use Rattle.std.proofs.lemmas.List.{drop_more, length-drop, length-map, take_more}
use Rattle.std.proofs.lemmas.Option.{get_or_from_slice_get, slice_get_within}
use Rattle.gb_folder.specs.Files.{Files, Place, are_placed, files_where}
use Rattle.gb_core.specs.Place.{is_place}
use Rattle.gb_semantics.proofs.Common.{none_some, some_same}
use Rattle.gb_plan.specs.Graph.{no_repeats, order}
use Rattle.gb_plan.specs.Task.{Path, has_path}
use Rattle.gb_plan.specs.declared.plan.Planned.{Planned}
use Rattle.gb_plan.proofs.Tests.{left_of, no_longer, right_of}

-- ---- Lists

pub at_index : {X : Type 0} (xs : List X) (i : ℕ) → i < length xs → (x : X) × (slice_get xs i ≡ Some x)
at_index [] i less = absurd (omega (arith, less))
at_index (x ∷ xs) zero less = (x, refl)
at_index (x ∷ xs) (suc i) less = at_index xs i (omega (arith, less))

pub each_at : {X : Type 0} (P : X → Type 0) (xs : List X) (i : ℕ) (x : X) → slice_get xs i ≡ Some x → AllByRecursion P xs → P x
each_at P [] i x is all = none_some is
each_at P (y ∷ xs) zero x is all = subst P (some_same is) all.0
each_at P (y ∷ xs) (suc i) x is all = each_at P xs i x is all.1

pub zip_more : {X Y : Type 0} (R : X → Y → Type 0) (xs : List X) (ys : List Y) (x : X) (y : Y) → AllZip R xs ys → R x y → AllZip R (xs ++ x ∷ []) (ys ++ y ∷ [])
zip_more R [] [] x y all here = (here, tt)
zip_more R [] (z ∷ ys) x y all here = absurd all
zip_more R (w ∷ xs) [] x y all here = absurd all
zip_more R (w ∷ xs) (z ∷ ys) x y all here = (all.0, zip_more R xs ys x y all.1 here)

module _ {X : Type 0} (xs : List X) (i : ℕ) (x : X) (is : slice_get xs i ≡ Some x) where
  pub drop_at : drop i xs ≡ x ∷ drop (i + 1) xs
  drop_at = drop_more xs i x (slice_get_within xs i x is) ∙ ap (λ (y : X). y ∷ drop (i + 1) xs) (get_or_from_slice_get xs i x x is)

  pub take_at : take (i + 1) xs ≡ take i xs ++ x ∷ []
  take_at = take_more xs i x (slice_get_within xs i x is) ∙ ap (λ (y : X). take i xs ++ y ∷ []) (get_or_from_slice_get xs i x x is)

  pub whole_at : xs ≡ take i xs ++ x ∷ drop (i + 1) xs
  whole_at = sym (take-append-drop i xs) ∙ ap (λ (ys : List X). take i xs ++ ys) drop_at

-- ---- Paths

pub left_less : (tasks : List Planned) (i : ℕ) (path : Path) (rest : List Path) → order (drop i tasks) ≡ path ∷ rest → i < length tasks
left_less tasks i path rest e =
    let mapped : length (order (drop i tasks)) ≡ length (drop i tasks) = length-map _ _ in
    let dropped : length (drop i tasks) ≡ length tasks - i = length-drop i tasks in
    omega (arith, ap length e, mapped, dropped)

same_head : (p q : Path) (ps qs : List Path) → p ∷ ps ≡ q ∷ qs → p ≡ q
same_head p q ps qs e = ap (λ (l : List Path). get_or l 0 p) e

same_tail : (p q : Path) (ps qs : List Path) → p ∷ ps ≡ q ∷ qs → ps ≡ qs
same_tail p q ps qs e = ap (drop 1) e

pub next_path : (tasks : List Planned) (i : ℕ) (planned : Planned) (path : Path) (rest : List Path) → slice_get tasks i ≡ Some planned → order (drop i tasks) ≡ path ∷ rest
    → (path ≡ planned.task.path) × (rest ≡ order (drop (i + 1) tasks))
next_path tasks i planned path rest is e =
    let both : path ∷ rest ≡ planned.task.path ∷ order (drop (i + 1) tasks) = sym e ∙ ap order (drop_at tasks i planned is) in
    (same_head path planned.task.path rest (order (drop (i + 1) tasks)) both, same_tail path planned.task.path rest (order (drop (i + 1) tasks)) both)

-- no later task has the path of one
pub once_after : (prefix rest : List Planned) (planned : Planned) → no_repeats (order (prefix ++ planned ∷ rest)) ≡ true → list_any (bytes_eq planned.task.path) (order rest) ≡ false
once_after [] rest planned e = no_longer (has_path (order rest) planned.task.path) (left_of (not (has_path (order rest) planned.task.path)) (no_repeats (order rest)) e)
once_after (p ∷ prefix) rest planned e =
    once_after prefix rest planned (right_of (not (has_path (order (prefix ++ planned ∷ rest)) p.task.path)) (no_repeats (order (prefix ++ planned ∷ rest))) e)

-- ---- Changes

pub placed_where : (test : Place → Bool) (files : Files) → are_placed files ≡ true → are_placed (files_where test files) ≡ true
placed_where test [] e = refl
placed_where test (f ∷ files) e =
    let rest = placed_where test files (right_of (is_place f.0) (are_placed files) e) in
    elim (test f.0) as (λ b. are_placed (cond b (f ∷ files_where test files) (files_where test files)) ≡ true) [
      | true ↦ ap (λ b. b && are_placed (files_where test files)) (left_of (is_place f.0) (are_placed files) e) ∙ rest
      | false ↦ rest
    ]
