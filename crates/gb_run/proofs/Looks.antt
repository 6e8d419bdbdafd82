-- What is at a place once steps are done.
use Rattle.std.specs.Prelude.{◌≡◌, ◌≢◌, ◌++◌, ◌&&◌, Bool, true, false, not, cond, List, [], ◌∷◌, Option, Some, None, is_some, unwrap_or, option_and_then, bytes_eq}
use Rattle.std.specs.List.{AllByRecursion, filter}
use Rattle.std.specs.Cmp.{unsigned_ties}
use Rattle.std.specs.Cmp.Lexicographic.{lists_ties, nat_list_cmp_total}
use Rattle.std.specs.Ordering.{eq_by_cmp, is_eq, is_lt, nat_cmp}
use Rattle.std.specs.FinMap.Entries.{below_all, find, find-put, is_sorted, is_sorted-put, put}
use Rattle.std.specs.declared.cmp.Ordering.{Ordering}
use Rattle.std.specs.declared.cmp.Ordering.TheVariants.{Less, Equal, Greater}
use Rattle.std.proofs.Common.{refl, sym, ap, ◌∙◌}
use mathlib.Core.Bool.{true≢false}
use Rattle.gb_core.specs.Lists.{byte_order}
use Rattle.gb_core.specs.Place.{is_place}
use Rattle.gb_folder.specs.Files.{Place, Bytes, Files, file_at, with_left}
use Rattle.gb_folder.proofs.Changes.{file_at-with_file, file_at-without}
use Rattle.gb_semantics.proofs.Lemmas.Files.{T_of, left_of, of_T, right_of, same_place}
use Rattle.gb_run.specs.Steps.{Step, after_steps, in_step_order, put_steps}

-- ---- tests

pub ties : (a b : Place) → bytes_eq a b ≡ eq_by_cmp byte_order a b
ties a b = lists_ties nat_cmp unsigned_ties a b

pub both_of : (a b : Bool) → a ≡ true → b ≡ true → (a && b) ≡ true
both_of a b e f = ap (λ x. x && b) e ∙ f

not_tied : (r : Ordering) → is_lt r ≡ true → is_eq r ≡ false
not_tied Less e = refl
not_tied Equal e = absurd (true≢false (sym e))
not_tied Greater e = refl

-- ---- one step

pub at_left : (files : Files) (place : Place) (left : Option Bytes) (q : Place) → file_at (with_left files place left) q ≡ cond (eq_by_cmp byte_order q place) left (file_at files q)
at_left files place None q = file_at-without files place q ∙ turned (bytes_eq q place) ∙ ap (λ b. cond b None (file_at files q)) (ties q place)
  where
    turned : (b : Bool) → cond (not b) (file_at files q) None ≡ cond b None (file_at files q)
    turned true = refl
    turned false = refl
at_left files place (Some bytes) q = file_at-with_file files place bytes q ∙ ap (λ b. cond b (Some bytes) (file_at files q)) (ties q place)

-- ---- steps by place

-- there is nothing at a place below all of them
pub none_below : {X : Type 0} (p : Place) (steps : List (Place × X)) → below_all byte_order p steps ≡ true → find byte_order p steps ≡ None
none_below p [] h = refl
none_below p (s ∷ steps) h =
    ap (λ b. cond b (Some s.1) (find byte_order p steps)) (not_tied (byte_order p s.0) (left_of (is_lt (byte_order p s.0)) (below_all byte_order p steps) h))
    ∙ none_below p steps (right_of (is_lt (byte_order p s.0)) (below_all byte_order p steps) h)

pub none_again : {X : Type 0} (q : Place) (s : Place × X) (steps : List (Place × X)) → is_sorted byte_order (s ∷ steps) ≡ true → eq_by_cmp byte_order q s.0 ≡ true → find byte_order q steps ≡ None
none_again q s steps h e =
    ap (λ p. find byte_order p steps) (same_place q s.0 e) ∙ none_below s.0 steps (left_of (below_all byte_order s.0 steps) (is_sorted byte_order steps) h)

-- what a list of steps by place leaves
pub at_after : (old : Files) (steps : List Step) (q : Place) → is_sorted byte_order steps ≡ true → file_at (after_steps old steps) q ≡ unwrap_or (find byte_order q steps) (file_at old q)
at_after old [] q h = refl
at_after old (s ∷ steps) q h =
    at_after (with_left old s.0 s.1) steps q (right_of (below_all byte_order s.0 steps) (is_sorted byte_order steps) h)
    ∙ ap (unwrap_or (find byte_order q steps)) (at_left old s.0 s.1 q)
    ∙ by (eq_by_cmp byte_order q s.0) refl
  where
    by : (b : Bool) → eq_by_cmp byte_order q s.0 ≡ b → unwrap_or (find byte_order q steps) (cond b s.1 (file_at old q)) ≡ unwrap_or (cond b (Some s.1) (find byte_order q steps)) (file_at old q)
    by true e = ap (λ o. unwrap_or o s.1) (none_again q s steps h e)
    by false e = refl

-- ---- some of them

module _ {X : Type 0} (t : Place → X → Bool) where
  abbrev pub kept : List (Place × X) → List (Place × X)
  kept steps = filter (λ (s : Place × X). t s.0 s.1) steps

  abbrev pub if_kept : Place → Option X → Option X
  if_kept q o = option_and_then (λ v. cond (t q v) (Some v) None) o

  -- one of those that pass
  pub find_kept : (q : Place) (steps : List (Place × X)) → is_sorted byte_order steps ≡ true → find byte_order q (kept steps) ≡ if_kept q (find byte_order q steps)
  find_kept q [] h = refl
  find_kept q (s ∷ steps) h =
      by (find_kept q steps (right_of (below_all byte_order s.0 steps) (is_sorted byte_order steps) h)) (eq_by_cmp byte_order q s.0) (t s.0 s.1) refl refl
    where
      by : find byte_order q (kept steps) ≡ if_kept q (find byte_order q steps) → (e b : Bool) → eq_by_cmp byte_order q s.0 ≡ e → t s.0 s.1 ≡ b
          → find byte_order q (cond b (s ∷ kept steps) (kept steps)) ≡ if_kept q (cond e (Some s.1) (find byte_order q steps))
      by again true true e b =
          ap (λ x. cond x (Some s.1) (find byte_order q (kept steps))) e
          ∙ sym (ap (λ x. cond x (Some s.1) None) (ap (λ p. t p s.1) (same_place q s.0 e) ∙ b))
      by again true false e b =
          again ∙ ap (if_kept q) (none_again q s steps h e)
          ∙ sym (ap (λ x. cond x (Some s.1) None) (ap (λ p. t p s.1) (same_place q s.0 e) ∙ b))
      by again false true e b = ap (λ x. cond x (Some s.1) (find byte_order q (kept steps))) e ∙ again
      by again false false e b = again

  below_kept : (p : Place) (steps : List (Place × X)) → below_all byte_order p steps ≡ true → below_all byte_order p (kept steps) ≡ true
  below_kept p [] h = refl
  below_kept p (s ∷ steps) h = by (below_kept p steps (right_of (is_lt (byte_order p s.0)) (below_all byte_order p steps) h)) (t s.0 s.1)
    where
      by : below_all byte_order p (kept steps) ≡ true → (b : Bool) → below_all byte_order p (cond b (s ∷ kept steps) (kept steps)) ≡ true
      by later true = both_of (is_lt (byte_order p s.0)) (below_all byte_order p (kept steps)) (left_of (is_lt (byte_order p s.0)) (below_all byte_order p steps) h) later
      by later false = later

  pub sorted_kept : (steps : List (Place × X)) → is_sorted byte_order steps ≡ true → is_sorted byte_order (kept steps) ≡ true
  sorted_kept [] h = refl
  sorted_kept (s ∷ steps) h = by (sorted_kept steps (right_of (below_all byte_order s.0 steps) (is_sorted byte_order steps) h)) (t s.0 s.1)
    where
      by : is_sorted byte_order (kept steps) ≡ true → (b : Bool) → is_sorted byte_order (cond b (s ∷ kept steps) (kept steps)) ≡ true
      by later true = both_of (below_all byte_order s.0 (kept steps)) (is_sorted byte_order (kept steps)) (below_kept s.0 steps (left_of (below_all byte_order s.0 steps) (is_sorted byte_order steps) h)) later
      by later false = later

pub after_append : (old : Files) (xs ys : List Step) → after_steps old (xs ++ ys) ≡ after_steps (after_steps old xs) ys
after_append old [] ys = refl
after_append old (x ∷ xs) ys = after_append (with_left old x.0 x.1) xs ys

-- what steps in execution order leave
pub at_in_execution : (old : Files) (steps : List Step) (q : Place) → is_sorted byte_order steps ≡ true
    → file_at (after_steps old (in_step_order steps)) q ≡ cond (is_place q) (unwrap_or (find byte_order q steps) (file_at old q)) (file_at old q)
at_in_execution old steps q h =
    ap (λ (fs : Files). file_at fs q) (after_append old (kept goes steps) (kept comes steps))
    ∙ at_after (after_steps old (kept goes steps)) (kept comes steps) q (sorted_kept comes steps h)
    ∙ ap (unwrap_or (find byte_order q (kept comes steps))) (at_after old (kept goes steps) q (sorted_kept goes steps h))
    ∙ ap (λ o. unwrap_or o (unwrap_or (find byte_order q (kept goes steps)) (file_at old q))) (find_kept comes q steps h)
    ∙ ap (λ o. unwrap_or (if_kept comes q (find byte_order q steps)) (unwrap_or o (file_at old q))) (find_kept goes q steps h)
    ∙ by (find byte_order q steps) (is_place q)
  where
    goes : Place → Option Bytes → Bool
    goes p o = is_place p && not (is_some o)

    comes : Place → Option Bytes → Bool
    comes p o = is_place p && is_some o

    by : (o : Option (Option Bytes)) (b : Bool)
        → unwrap_or (option_and_then (λ v. cond (b && is_some v) (Some v) None) o) (unwrap_or (option_and_then (λ v. cond (b && not (is_some v)) (Some v) None) o) (file_at old q))
        ≡ cond b (unwrap_or o (file_at old q)) (file_at old q)
    by None true = refl
    by None false = refl
    by (Some None) true = refl
    by (Some None) false = refl
    by (Some (Some x)) true = refl
    by (Some (Some x)) false = refl

-- ---- steps put over others

pub sorted_steps : (held steps : List Step) → is_sorted byte_order held ≡ true → is_sorted byte_order (put_steps held steps) ≡ true
sorted_steps held [] h = h
sorted_steps held (s ∷ steps) h = sorted_steps (put byte_order s.0 s.1 held) steps (of_T _ (is_sorted-put byte_order nat_list_cmp_total s.0 s.1 held (T_of _ h)))

pub at_put : (held : List Step) (s : Step) (q : Place) → find byte_order q (put byte_order s.0 s.1 held) ≡ cond (eq_by_cmp byte_order q s.0) (Some s.1) (find byte_order q held)
at_put held s q = find-put byte_order nat_list_cmp_total q s.0 s.1 held

separate_from : (p q : Place) → p ≢ q → eq_by_cmp byte_order q p ≡ false
separate_from p q other = by (eq_by_cmp byte_order q p) refl
  where
    by : (b : Bool) → eq_by_cmp byte_order q p ≡ b → b ≡ false
    by true e = absurd (other (sym (same_place q p e)))
    by false e = refl

-- steps at other places do not affect this one
pub at_others : (held steps : List Step) (q : Place) → AllByRecursion (λ (s : Step). s.0 ≢ q) steps → find byte_order q (put_steps held steps) ≡ find byte_order q held
at_others held [] q all = refl
at_others held (s ∷ steps) q all =
    at_others (put byte_order s.0 s.1 held) steps q all.1 ∙ at_put held s q ∙ ap (λ b. cond b (Some s.1) (find byte_order q held)) (separate_from s.0 q all.0)

pub steps_append : (held xs ys : List Step) → put_steps held (xs ++ ys) ≡ put_steps (put_steps held xs) ys
steps_append held [] ys = refl
steps_append held (x ∷ xs) ys = steps_append (put byte_order x.0 x.1 held) xs ys
