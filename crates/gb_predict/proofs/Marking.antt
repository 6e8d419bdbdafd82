-- The marks that earlier tasks give to a task, pair by pair.
use Rattle.std.specs.Prelude.{ℕ, zero, suc, ◌≡◌, ◌<◌, ◌≤◌, ◌+◌, List, [], ◌∷◌, ◌++◌, map, length, take, get_or}
use Rattle.std.specs.List.{AllZip, zip}
use Rattle.std.proofs.Common.{refl, sym, ap, subst, ◌∙◌, arith, append_assoc}
use Rattle.std.proofs.lemmas.List.{map-append, take_all, take_more}
use Rattle.gb_plan.specs.declared.plan.Planned.{Planned}
use Rattle.gb_predict.specs.Marks.{AreMarkedAfter, keeper, mark}
use Rattle.gb_predict.specs.declared.predicted_outcome.Prediction.{Prediction}

one_later : (n : ℕ) → suc n + 1 ≡ suc (n + 1)
one_later n = omega arith

-- one pair more
pub zip_more : {X Y : Type 0} (xs : List X) (ys : List Y) (i : ℕ) (x : X) (y : Y) → i < length xs → length ys ≡ i → x ≡ get_or xs i x
    → zip (take (i + 1) xs) (ys ++ y ∷ []) ≡ zip (take i xs) ys ++ (x, y) ∷ []
zip_more [] ys i x y less long is = absurd (omega (arith, less))
zip_more (w ∷ xs) [] zero x y less long is = ap (λ z. (z, y) ∷ []) (sym is)
zip_more (w ∷ xs) (v ∷ ys) zero x y less long is = absurd (omega (arith, long))
zip_more (w ∷ xs) [] (suc i) x y less long is = absurd (omega (arith, long))
zip_more (w ∷ xs) (v ∷ ys) (suc i) x y less long is =
    ap (λ n. zip (take n (w ∷ xs)) ((v ∷ ys) ++ y ∷ [])) (one_later i)
    ∙ ap (λ ps. (w, v) ∷ ps) (zip_more xs ys i x y (omega (arith, less)) (omega (arith, long)) is)

abbrev reported_in : List (Planned × Prediction) → List Prediction
reported_in pairs = map (λ (pair : Planned × Prediction). pair.1) pairs

marked_push : (before pairs : List (Planned × Prediction)) (pair : Planned × Prediction) → AreMarkedAfter before pairs
    → pair.1.after ≡ mark (before ++ pairs) pair.0.task pair.1.coming → pair.1.kept_by ≡ keeper pair.0.task (reported_in (before ++ pairs))
    → AreMarkedAfter before (pairs ++ pair ∷ [])
marked_push before [] pair all is lacks =
    (is ∙ ap (λ ps. mark ps pair.0.task pair.1.coming) (append_nil before), lacks ∙ ap (λ ps. keeper pair.0.task (reported_in ps)) (append_nil before), tt)
  where
    append_nil : (ps : List (Planned × Prediction)) → ps ++ [] ≡ ps
    append_nil [] = refl
    append_nil (p ∷ ps) = ap (λ l. p ∷ l) (append_nil ps)
marked_push before (p ∷ pairs) pair all is lacks = (
  all.0,
  all.1,
  marked_push (before ++ p ∷ []) pairs pair all.2 (is ∙ ap (λ ps. mark ps pair.0.task pair.1.coming) (sym (append_assoc before (p ∷ []) pairs)))
      (lacks ∙ ap (λ ps. keeper pair.0.task (reported_in ps)) (sym (append_assoc before (p ∷ []) pairs))),
)

prefix_long : {X : Type 0} (xs : List X) (i : ℕ) → i < length xs → length (take i xs) ≡ i
prefix_long [] i less = absurd (omega (arith, less))
prefix_long (x ∷ xs) zero less = refl
prefix_long (x ∷ xs) (suc i) less = ap suc (prefix_long xs i (omega (arith, less)))

-- pairs with the prefix of a list that is as long
pub zip_prefix : {X Y : Type 0} (xs : List X) (ys : List Y) (i : ℕ) → length ys ≡ i → zip (take i xs) ys ≡ zip xs ys
zip_prefix [] ys zero long = refl
zip_prefix [] ys (suc i) long = refl
zip_prefix (x ∷ xs) [] zero long = refl
zip_prefix (x ∷ xs) (y ∷ ys) zero long = absurd (omega (arith, long))
zip_prefix (x ∷ xs) [] (suc i) long = refl
zip_prefix (x ∷ xs) (y ∷ ys) (suc i) long = ap (λ (l : List _). (x, y) ∷ l) (zip_prefix xs ys i (omega (arith, long)))

-- the second parts of pairs
seconds : {X Y : Type 0} (xs : List X) (ys : List Y) → length ys ≡ length xs → map (λ (pair : X × Y). pair.1) (zip xs ys) ≡ ys
seconds [] [] long = refl
seconds [] (y ∷ ys) long = absurd (omega (arith, long))
seconds (x ∷ xs) [] long = refl
seconds (x ∷ xs) (y ∷ ys) long = ap (λ (l : List _). y ∷ l) (seconds xs ys (omega (arith, long)))

-- one task more is marked
pub marked_more : (plan : List Planned) (reported : List Prediction) (i : ℕ) (planned : Planned) (one : Prediction) → i < length plan → length reported ≡ i
    → planned ≡ get_or plan i planned → AreMarkedAfter [] (zip (take i plan) reported) → one.after ≡ mark (zip (take i plan) reported) planned.task one.coming
    → one.kept_by ≡ keeper planned.task reported → AreMarkedAfter [] (zip (take (i + 1) plan) (reported ++ one ∷ []))
marked_more plan reported i planned one less long is all here lacks =
    subst (AreMarkedAfter []) (sym (zip_more plan reported i planned one less long is))
    (marked_push [] (zip (take i plan) reported) (planned, one) all here
    (lacks ∙ ap (keeper planned.task) (sym (seconds (take i plan) reported (long ∙ sym (prefix_long plan i less))))))

-- one pair's third more
pub related_more : {X Y Z : Type 0} (R : X × Y → Z → Type 0) (xs : List X) (ys : List Y) (zs : List Z) (i : ℕ) (x : X) (y : Y) (z : Z)
    → i < length xs → i < length ys → x ≡ get_or xs i x → y ≡ get_or ys i y → AllZip R (take i (zip xs ys)) zs → R (x, y) z
    → AllZip R (take (i + 1) (zip xs ys)) (zs ++ z ∷ [])
related_more R [] ys zs i x y z less short is at all here = absurd (omega (arith, less))
related_more R (w ∷ xs) [] zs i x y z less short is at all here = absurd (omega (arith, short))
related_more R (w ∷ xs) (v ∷ ys) [] zero x y z less short is at all here =
    (subst (λ a. R (a, v) z) is (subst (λ b. R (x, b) z) at here), tt)
related_more R (w ∷ xs) (v ∷ ys) (u ∷ zs) zero x y z less short is at all here = absurd all
related_more R (w ∷ xs) (v ∷ ys) [] (suc i) x y z less short is at all here = absurd all
related_more R (w ∷ xs) (v ∷ ys) (u ∷ zs) (suc i) x y z less short is at all here =
    subst (λ n. AllZip R (take n ((w, v) ∷ zip xs ys)) ((u ∷ zs) ++ z ∷ [])) (sym (one_later i))
    (all.0, related_more R xs ys zs i x y z (omega (arith, less)) (omega (arith, short)) is at all.1 here)

-- the path of one task more
pub path_more : {X : Type 0} (f : X → List ℕ) (xs : List X) (paths more : List (List ℕ)) (i : ℕ) (x : X) → i < length xs → x ≡ get_or xs i x
    → paths ≡ map f (take i xs) → more ≡ paths ++ f x ∷ [] → more ≡ map f (take (i + 1) xs)
path_more f xs paths more i x less is so then =
    then ∙ ap (λ ps. ps ++ f x ∷ []) so
    ∙ sym (ap (map f) (take_more xs i x less ∙ ap (λ z. take i xs ++ z ∷ []) (sym is)) ∙ map-append f (take i xs) (x ∷ []))

-- all pairs
pub all_pairs : {X Y : Type 0} (xs : List X) (ys : List Y) (i : ℕ) → length xs ≤ i → take i (zip xs ys) ≡ zip xs ys
all_pairs [] ys i all = take_all i [] (omega arith)
all_pairs (x ∷ xs) [] i all = take_all i [] (omega arith)
all_pairs (x ∷ xs) (y ∷ ys) zero all = absurd (omega (arith, all))
all_pairs (x ∷ xs) (y ∷ ys) (suc i) all = ap (λ ps. (x, y) ∷ ps) (all_pairs xs ys i (omega (arith, all)))
