-- The tool's own folder: which places are in it, and which places it does not block.
use Rattle.std.specs.Prelude.{ℕ, ◌≡◌, ◌++◌, ◌||◌, Bool, true, false, not, List, [], ◌∷◌, length, codes, cond, get_or}
use Rattle.std.specs.List.{list_any}
use Rattle.std.proofs.Common.{refl, sym, ap, ◌∙◌, inl, inr, arith, length-append}
use Rattle.gb_core.specs.Place.{is_beneath, is_under}
use Rattle.gb_folder.specs.Files.{Place, Files, files_where, is_blocked, is_own}
use Rattle.gb_plan.proofs.Places.{under_both}
use Rattle.gb_plan.proofs.Tests.{neither, no_longer, none_left, none_right, not_false, not_true, open_in, or_right}
use Rattle.gb_plan.specs.declared.task.Output.{Output}
use Rattle.gb_tree.proofs.Under.{IsUnder, own_place, under_parts}

-- not one of the tool's own
abbrev pub is_kept : Place → Bool
is_kept place = not (is_own place)

no_slash : (root rest : List ℕ) → codes ".gb" ≡ root ++ 47 ∷ rest → ⊥
no_slash [] rest e = absurd (omega (arith, ap (λ l. get_or l 0 0) e))
no_slash (a ∷ []) rest e = absurd (omega (arith, ap (λ l. get_or l 1 0) e))
no_slash (a ∷ b ∷ []) rest e = absurd (omega (arith, ap (λ l. get_or l 2 0) e))
no_slash (a ∷ b ∷ c ∷ root) rest e = absurd (omega (arith, ap length e, length-append root (47 ∷ rest)))

-- the tool's folder is in no other
not_above : (root : Place) → is_own root ≡ false → is_under (codes ".gb") root ≡ true → ⊥
not_above root out above = by (under_parts (codes ".gb") root above)
  where
    by : IsUnder (codes ".gb") root → ⊥
    by (inl same) = not_false (sym (own_place (codes ".gb")) ∙ ap (λ r. is_under r (codes ".gb")) same ∙ out)
    by (inr found) = no_slash root found.0 found.1

-- what is under a place that is not the tool's own is none of it
pub kept_under : (root : Place) → is_own root ≡ false → (q : Place) → is_under q root ≡ true → is_kept q ≡ true
kept_under root out q under = by (is_own q) refl
  where
    by : (b : Bool) → is_own q ≡ b → not b ≡ true
    by true own = absurd (not_above root out (open_in (is_own root) (is_under (codes ".gb") root) (under_both q root (codes ".gb") under own) out))
    by false own = refl

-- what is under the tool's own is its own
own_under : (q root : Place) → is_under q root ≡ true → is_own root ≡ true → is_own q ≡ true
own_under q root under own = by (under_parts q root under) (under_parts root (codes ".gb") own)
  where
    by : IsUnder q root → IsUnder root (codes ".gb") → is_own q ≡ true
    by (inl same) top = ap is_own same ∙ own
    by (inr found) (inl top) = ap is_own (found.1 ∙ ap (λ r. r ++ 47 ∷ found.0) top)
    by (inr found) (inr more) = ap is_own (found.1 ∙ ap (λ r. r ++ 47 ∷ found.0) more.1)

-- what is at outputs that are not the tool's own is none of it
pub kept_at : (outputs : List Output) → list_any (λ (o : Output). is_own o.place) outputs ≡ false → (q : Place)
    → list_any (λ (o : Output). is_under q o.place) outputs ≡ true → is_kept q ≡ true
kept_at [] out q at = not_true at
kept_at (output ∷ outputs) out q at =
    elim (is_under q output.place) as (λ b. is_under q output.place ≡ b → (b || list_any (λ (o : Output). is_under q o.place) outputs) ≡ true → is_kept q ≡ true) [
      | true ↦ λ under _. kept_under output.place (none_left (is_own output.place) (list_any (λ (o : Output). is_own o.place) outputs) out) q under
      | false ↦ λ _ more. kept_at outputs (none_right (is_own output.place) (list_any (λ (o : Output). is_own o.place) outputs) out) q more
    ] refl at

-- ---- what is in the way

pub false_if : (b : Bool) → (b ≡ true → ⊥) → b ≡ false
false_if true never = absurd (never refl)
false_if false never = refl

-- a file of the tool's own and one that is not are not in each other's way
pub not_in_way : (place own : Place) → is_own place ≡ false → is_own own ≡ true → (is_beneath place own || is_beneath own place) ≡ false
not_in_way place own out in_own =
    neither (is_beneath place own) (is_beneath own place)
    (false_if (is_beneath place own) (λ e. not_true (sym out ∙ own_under place own (or_right _ (is_beneath place own) e) in_own)))
    (false_if (is_beneath own place) (λ e. not_true (sym (no_longer (is_own own) (kept_under place out own (or_right _ (is_beneath own place) e))) ∙ in_own)))

turned : (a b : Bool) → (a || b) ≡ false → (b || a) ≡ false
turned a b e = neither b a (none_right a b e) (none_left a b e)

pub not_in_own_way : (place kept : Place) → is_own place ≡ true → is_own kept ≡ false → (is_beneath place kept || is_beneath kept place) ≡ false
not_in_own_way place kept own out = turned (is_beneath kept place) (is_beneath place kept) (not_in_way kept place out own)

-- files that are in no one's way may be removed
pub blocked_where : (test : Place → Bool) (place : Place) → ((f : Place) → test f ≡ false → (is_beneath place f || is_beneath f place) ≡ false) → (files : Files)
    → is_blocked (files_where test files) place ≡ is_blocked files place
blocked_where test place free [] = refl
blocked_where test place free (f ∷ files) =
    let rest = blocked_where test place free files in
    elim (test f.0) as (λ b. test f.0 ≡ b → is_blocked (cond b (f ∷ files_where test files) (files_where test files)) place
    ≡ ((is_beneath place f.0 || is_beneath f.0 place) || is_blocked files place)) [
      | true ↦ λ _. ap (λ b. (is_beneath place f.0 || is_beneath f.0 place) || b) rest
      | false ↦ λ out. rest ∙ sym (ap (λ b. b || is_blocked files place) (free f.0 out))
    ] refl

-- ---- one test after another

pub swapped : (one other : Place → Bool) (files : Files) → files_where one (files_where other files) ≡ files_where other (files_where one files)
swapped one other [] = refl
swapped one other (f ∷ files) =
    let rest = swapped one other files in
    elim (one f.0) as (λ a. one f.0 ≡ a → files_where one (cond (other f.0) (f ∷ files_where other files) (files_where other files)) ≡ files_where other (cond a (f ∷ files_where one files) (files_where one files))) [
      | true ↦ λ first. elim (other f.0) as (λ b. other f.0 ≡ b → files_where one (cond b (f ∷ files_where other files) (files_where other files)) ≡ cond b (f ∷ files_where other (files_where one files)) (files_where other (files_where one files))) [
        | true ↦ λ _. ap (λ b. cond b (f ∷ files_where one (files_where other files)) (files_where one (files_where other files))) first ∙ ap (λ (xs : Files). f ∷ xs) rest
        | false ↦ λ _. rest
      ] refl
      | false ↦ λ first. elim (other f.0) as (λ b. files_where one (cond b (f ∷ files_where other files) (files_where other files)) ≡ files_where other (files_where one files)) [
        | true ↦ ap (λ b. cond b (f ∷ files_where one (files_where other files)) (files_where one (files_where other files))) first ∙ rest
        | false ↦ rest
      ]
    ] refl
