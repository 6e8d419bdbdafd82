-- Tasks that do not start, by their paths.
use Rattle.std.specs.Prelude.{ℕ, zero, suc, ◌≡◌, ◌<◌, ◌+◌, ◌&&◌, Bool, true, false, cond, List, [], ◌∷◌, ◌++◌, length, bytes_eq, Option, None, Some, is_some, option_and_then, slice_get}
use Rattle.std.proofs.Common.{refl, sym, ap, subst, ◌∙◌, arith, true≢false}
use Rattle.gb_graph.specs.Ranked.{number_at}
use Rattle.gb_plan.specs.Task.{Path}
use Rattle.gb_predict.specs.Least.{AreNotStarting, IsBelow, culprit_of}
use Rattle.gb_predict.specs.Marks.{culprit, culprit_at, first_culprit, or_else}
use Rattle.gb_predict.specs.declared.predicted_outcome.Prediction.{Prediction}

or_none : (o : Option Path) → or_else o None ≡ o
or_none None = refl
or_none (Some path) = refl

or_some : (o other : Option Path) → is_some o ≡ true → or_else o other ≡ o
or_some None other e = absurd (true≢false (sym e))
or_some (Some path) other e = refl

or_grouped : (a b c : Option Path) → or_else (or_else a b) c ≡ or_else a (or_else b c)
or_grouped None b c = refl
or_grouped (Some path) b c = refl

no_culprit : (o : Option Path) → is_some o ≡ false → o ≡ None
no_culprit None e = refl
no_culprit (Some path) e = absurd (true≢false e)

culprit_push : (reported : List Prediction) (one : Prediction) (path : Path)
    → culprit_at (reported ++ one ∷ []) path ≡ or_else (cond (bytes_eq one.path path) (culprit one) None) (culprit_at reported path)
culprit_push [] one path = sym (or_none (cond (bytes_eq one.path path) (culprit one) None))
culprit_push (other ∷ reported) one path =
    ap (λ o. or_else o (cond (bytes_eq other.path path) (culprit other) None)) (culprit_push reported one path)
    ∙ or_grouped (cond (bytes_eq one.path path) (culprit one) None) (culprit_at reported path) (cond (bytes_eq other.path path) (culprit other) None)

get_prefix : {X : Type 0} (xs : List X) (x : X) (n : ℕ) → n < length xs → slice_get (xs ++ x ∷ []) n ≡ slice_get xs n
get_prefix [] x n less = absurd (omega (arith, less))
get_prefix (y ∷ xs) x zero less = refl
get_prefix (y ∷ xs) x (suc n) less = get_prefix xs x n (omega (arith, less))

get_last : {X : Type 0} (xs : List X) (x : X) → slice_get (xs ++ x ∷ []) (length xs) ≡ Some x
get_last [] x = refl
get_last (y ∷ xs) x = get_last xs x

long_push : {X : Type 0} (xs : List X) (x : X) → length (xs ++ x ∷ []) ≡ length xs + 1
long_push [] x = refl
long_push (y ∷ xs) x = let rest = long_push xs x in omega (arith, rest)

module _ (reported : List Prediction) (one : Prediction) (not_starting new : List (List ℕ × ℕ)) (are : AreNotStarting reported not_starting)
    (noted : (other : Path) → number_at new other ≡ cond (is_some (culprit one) && bytes_eq one.path other) (Some (length reported)) (number_at not_starting other)) where
  below : (o : Option ℕ) → IsBelow (length reported) o → IsBelow (length (reported ++ one ∷ [])) o
  below None low = tt
  below (Some n) low = let long = long_push reported one in omega (arith, low, long)

  earlier : (o : Option ℕ) → IsBelow (length reported) o → culprit_of (reported ++ one ∷ []) o ≡ culprit_of reported o
  earlier None low = refl
  earlier (Some n) low = ap (option_and_then culprit) (get_prefix reported one n low)

  now_last : length reported < length (reported ++ one ∷ [])
  now_last = let long = long_push reported one in omega (arith, long)

  by_low : (path : Path) (b : Bool) → IsBelow (length (reported ++ one ∷ [])) (cond b (Some (length reported)) (number_at not_starting path))
  by_low path true = now_last
  by_low path false = below (number_at not_starting path) (are.low path)

  by_culprit : (path : Path) (has own : Bool) → is_some (culprit one) ≡ has → bytes_eq one.path path ≡ own
      → culprit_of (reported ++ one ∷ []) (cond (has && own) (Some (length reported)) (number_at not_starting path)) ≡ culprit_at (reported ++ one ∷ []) path
  by_culprit path true true has own =
      ap (option_and_then culprit) (get_last reported one) ∙ sym (or_some (culprit one) (culprit_at reported path) has)
      ∙ ap (λ b. or_else (cond b (culprit one) None) (culprit_at reported path)) (sym own) ∙ sym (culprit_push reported one path)
  by_culprit path true false has own =
      earlier (number_at not_starting path) (are.low path) ∙ are.culprits path
      ∙ ap (λ b. or_else (cond b (culprit one) None) (culprit_at reported path)) (sym own) ∙ sym (culprit_push reported one path)
  by_culprit path false own has is =
      earlier (number_at not_starting path) (are.low path) ∙ are.culprits path
      ∙ ap (λ o. or_else o (culprit_at reported path)) (sym (none (bytes_eq one.path path))) ∙ sym (culprit_push reported one path)
    where
      none : (b : Bool) → cond b (culprit one) None ≡ None
      none true = no_culprit (culprit one) has
      none false = refl

  -- one task more
  pub lost_more : AreNotStarting (reported ++ one ∷ []) new
  lost_more = record {
    low = λ path. subst (IsBelow (length (reported ++ one ∷ []))) (sym (noted path)) (by_low path (is_some (culprit one) && bytes_eq one.path path));
    culprits = λ path. ap (culprit_of (reported ++ one ∷ [])) (noted path) ∙ by_culprit path (is_some (culprit one)) (bytes_eq one.path path) refl refl;
  }

-- no task yet
pub none_lost : (not_starting : List (List ℕ × ℕ)) → not_starting ≡ [] → AreNotStarting [] not_starting
none_lost not_starting none = subst (AreNotStarting []) (sym none) (record { low = λ path. tt; culprits = λ path. refl })

-- ---- One need after another

pub culprit_here : (reported : List Prediction) (path : Path) (paths left : List Path) (found : Path) (all : Option Path) → left ≡ path ∷ paths → all ≡ first_culprit reported left
    → culprit_at reported path ≡ Some found → all ≡ Some found
culprit_here reported path paths left found all is so_far here =
    so_far ∙ ap (first_culprit reported) is ∙ ap (λ o. or_else o (first_culprit reported paths)) here

pub culprit_later : (reported : List Prediction) (path : Path) (paths left : List Path) (all : Option Path) → left ≡ path ∷ paths → all ≡ first_culprit reported left
    → culprit_at reported path ≡ None → all ≡ first_culprit reported paths
culprit_later reported path paths left all is so_far here =
    so_far ∙ ap (first_culprit reported) is ∙ ap (λ o. or_else o (first_culprit reported paths)) here
