-- One pass along a pattern keeps which texts are matched.
use Rattle.std.proofs.Common.{arith, zero, suc, replicate, ◌≡◌, ◌≤◌, ◌<◌, ◌+◌, ◌-◌, ◌*◌, ℕ, Bool, true, false, cond, ◌&&◌, ◌||◌, List, [], ◌∷◌, ◌++◌, length, get_or, take, drop, slice_set, append_assoc, refl, sym, ◌∙◌, ap, subst}
use Rattle.std.proofs.lemmas.List.{at_drop_more, take_more_set, drop-set-lt}
use Rattle.std.specs.Str.{chars, chars_after, continuation_len, lead_bits}
use Rattle.std.specs.List.{list_any, AllByRecursion}
use Rattle.gb_tree.specs.Pattern.{matches_by, ends_of}
use Rattle.gb_tree.specs.Passes.{pass, goes_on}

-- an item that matches any number of elements may match none
none_read : {P X : Type 0} (any : P → Bool) (fits : P → X → Bool) (p : P) (ps : List P) (xs : List X) → any p ≡ true
    → (matches_by any fits ps xs || matches_by any fits (p ∷ ps) xs) ≡ matches_by any fits (p ∷ ps) xs
none_read any fits p ps [] is = ap (λ b. matches_by any fits ps [] || (b && matches_by any fits ps [])) is ∙ twice (matches_by any fits ps []) ∙ sym (ap (λ b. b && matches_by any fits ps []) is)
  where
    twice : (a : Bool) → (a || a) ≡ a
    twice true = refl
    twice false = refl
none_read any fits p ps (x ∷ xs) is =
    let rest = list_any (matches_by any fits ps) (ends_of xs) in
    let here = matches_by any fits ps (x ∷ xs) in
    ap (λ b. here || cond b (here || rest) (fits p x && matches_by any fits ps xs)) is ∙ again here rest ∙ sym (ap (λ b. cond b (here || rest) (fits p x && matches_by any fits ps xs)) is)
  where
    again : (a b : Bool) → (a || (a || b)) ≡ (a || b)
    again true b = refl
    again false b = refl

-- it matches nothing, or the next element and more
pub unrolled : {P X : Type 0} (any : P → Bool) (fits : P → X → Bool) (p : P) (ps : List P) (x : X) (xs : List X) → any p ≡ true
    → matches_by any fits (p ∷ ps) (x ∷ xs) ≡ (matches_by any fits ps (x ∷ xs) || matches_by any fits (p ∷ ps) xs)
unrolled any fits p ps x xs is =
    ap (λ b. cond b (matches_by any fits ps (x ∷ xs) || list_any (matches_by any fits ps) (ends_of xs)) (fits p x && matches_by any fits ps xs)) is
    ∙ ap (λ b. matches_by any fits ps (x ∷ xs) || b) (rest xs)
  where
    or_false : (a : Bool) → (a || false) ≡ a
    or_false true = refl
    or_false false = refl

    rest : (ys : List _) → list_any (matches_by any fits ps) (ends_of ys) ≡ matches_by any fits (p ∷ ps) ys
    rest [] = or_false (matches_by any fits ps []) ∙ sym (ap (λ b. b && matches_by any fits ps []) is)
    rest (y ∷ ys) = sym (ap (λ b. cond b (list_any (matches_by any fits ps) (ends_of (y ∷ ys))) (fits p y && matches_by any fits ps ys)) is)

where_any : (en op s a b c r : Bool)
    → (((en || (s || op)) && (c || a)) || ((((en || (s || op)) && c) || ((s || op) && b)) || r)) ≡ (((en && (c || a)) || (op && (b || (c || a)))) || ((s && (b || (c || a))) || r))
where_any en op s a b c r = grind arith

where_one : (en op s f a c r : Bool)
    → (((en || false) && a) || (((((s || op) && f) && c) || false) || r)) ≡ (((en && a) || (op && (f && c))) || ((s && (f && c)) || r))
where_one en op s f a c r = grind arith

-- One element more is read: what continues now continued with the element before it, or reached the start.
pub goes_on-read : {P X : Type 0} (any : P → Bool) (fits : P → X → Bool) (states : List Bool) (ps : List P) (en op : Bool) (x : X) (t : List X) → length ps ≤ length states
    → goes_on any fits (pass any (λ p. fits p x) en op states ps).0 ps (pass any (λ p. fits p x) en op states ps).1 t
    ≡ (((en && matches_by any fits ps t) || (op && matches_by any fits ps (x ∷ t))) || goes_on any fits states ps false (x ∷ t))
goes_on-read any fits states [] en op x t fit = no_more en op (matches_by any fits [] t)
  where
    no_more : (a b c : Bool) → (a && c) ≡ (((a && c) || (b && false)) || false)
    no_more a b c = grind arith
goes_on-read any fits [] (p ∷ ps) en op x t fit = absurd (omega (arith, fit))
goes_on-read any fits (s ∷ states) (p ∷ ps) en op x t fit =
    let here = s || op in
    let whole = matches_by any fits (p ∷ ps) t in
    let whole_with = matches_by any fits (p ∷ ps) (x ∷ t) in
    let tail = matches_by any fits ps t in
    let tail_with = matches_by any fits ps (x ∷ t) in
    let rest = goes_on any fits states ps false (x ∷ t) in
    elim (any p) as (λ b. any p ≡ b →
    ((en || (b && here)) && whole || goes_on any fits (pass any (λ q. fits q x) (cond b (en || (b && here)) (here && fits p x)) (b && here) states ps).0 ps (pass any (λ q. fits q x) (cond b (en || (b && here)) (here && fits p x)) (b && here) states ps).1 t)
    ≡ (((en && whole) || (op && whole_with)) || ((s && whole_with) || rest))) [
      | true ↦ λ is.
          ap (λ r. (en || here) && whole || r) (goes_on-read any fits states ps (en || here) here x t (omega (arith, fit)))
          ∙ subst (λ (a : Bool). (((en || here) && a) || ((((en || here) && tail) || (here && tail_with)) || rest)) ≡ (((en && a) || (op && (tail_with || a))) || ((s && (tail_with || a)) || rest))) (none_read any fits p ps t is) (where_any en op s whole tail_with tail rest)
          ∙ ap (λ w. ((en && whole) || (op && w)) || ((s && w) || rest)) (sym (unrolled any fits p ps x t is))
      | false ↦ λ is.
          ap (λ r. (en || false) && whole || r) (goes_on-read any fits states ps (here && fits p x) false x t (omega (arith, fit)))
          ∙ where_one en op s (fits p x) whole tail rest
          ∙ ap (λ b. ((en && whole) || (op && cond b (list_any (matches_by any fits ps) (ends_of (x ∷ t))) (fits p x && tail))) || ((s && cond b (list_any (matches_by any fits ps) (ends_of (x ∷ t))) (fits p x && tail)) || rest)) (sym is)
    ] refl

at_start_any : (en a c : Bool) → (((en || false) && (c || a)) || ((en || false) && c)) ≡ (en && (c || a))
at_start_any en a c = grind arith

at_start_one : (en a c : Bool) → (((en || false) && a) || (false && c)) ≡ (en && a)
at_start_one en a c = grind arith

-- before anything is read, what continues is what matches
pub goes_on-start : {P X : Type 0} (any : P → Bool) (fits : P → X → Bool) (states : List Bool) (ps : List P) (en : Bool) (t : List X) → AllByRecursion (λ s. s ≡ false) states → length ps ≤ length states
    → goes_on any fits (pass any (λ p. false) en false states ps).0 ps (pass any (λ p. false) en false states ps).1 t ≡ (en && matches_by any fits ps t)
goes_on-start any fits states [] en t none fit = refl
goes_on-start any fits [] (p ∷ ps) en t none fit = absurd (omega (arith, fit))
goes_on-start any fits (s ∷ states) (p ∷ ps) en t none fit =
    let whole = matches_by any fits (p ∷ ps) t in
    let tail = matches_by any fits ps t in
    subst (λ (existed : Bool). ((en || (any p && (existed || false))) && whole || goes_on any fits (pass any (λ q. false) (cond (any p) (en || (any p && (existed || false))) ((existed || false) && false)) (any p && (existed || false)) states ps).0 ps (pass any (λ q. false) (cond (any p) (en || (any p && (existed || false))) ((existed || false) && false)) (any p && (existed || false)) states ps).1 t) ≡ (en && whole)) (sym none.0)
    (elim (any p) as (λ b. any p ≡ b →
    ((en || (b && false)) && whole || goes_on any fits (pass any (λ q. false) (cond b (en || (b && false)) false) (b && false) states ps).0 ps (pass any (λ q. false) (cond b (en || (b && false)) false) (b && false) states ps).1 t) ≡ (en && whole)) [
      | true ↦ λ is.
          ap (λ r. (en || false) && whole || r) (goes_on-start any fits states ps (en || false) t none.1 (omega (arith, fit)))
          ∙ subst (λ (a : Bool). (((en || false) && a) || ((en || false) && tail)) ≡ (en && a)) (none_read any fits p ps t is) (at_start_any en whole tail)
      | false ↦ λ is.
          ap (λ r. (en || false) && whole || r) (goes_on-start any fits states ps false t none.1 (omega (arith, fit)))
          ∙ at_start_one en whole tail
    ] refl)

-- what is before items that may all match nothing has reached the end
ended_too : {P X : Type 0} (any : P → Bool) (fits : P → X → Bool) (good : P → Bool) (states : List Bool) (ps : List P) (en op : Bool) → length ps ≤ length states
    → en ≡ true → matches_by {X = X} any fits ps [] ≡ true → (pass any good en op states ps).1 ≡ true
ended_too any fits good states [] en op fit is all = is
ended_too any fits good [] (p ∷ ps) en op fit is all = absurd (omega (arith, fit))
ended_too any fits good (s ∷ states) (p ∷ ps) en op fit is all =
    let parts = both (any p) (matches_by any fits ps []) all in
    ended_too any fits good states ps (cond (any p) (en || (any p && (s || op))) ((s || op) && good p)) (any p && (s || op)) (omega (arith, fit))
    (ap (λ b. cond b (en || (b && (s || op))) ((s || op) && good p)) parts.0 ∙ ap (λ b. b || (s || op)) is) parts.1
  where
    both : (a b : Bool) → (a && b) ≡ true → (a ≡ true) × (b ≡ true)
    both true b e = (refl, e)
    both false b e = absurd (cc)

-- nothing continues past the text's end but what has reached the pattern's end
pub goes_on-end : {P X : Type 0} (any : P → Bool) (fits : P → X → Bool) (good : P → Bool) (states : List Bool) (ps : List P) (en op : Bool) → length ps ≤ length states
    → goes_on any fits (pass any good en op states ps).0 ps (pass any good en op states ps).1 [] ≡ (pass any good en op states ps).1
goes_on-end any fits good states [] en op fit = and_true en
  where
    and_true : (a : Bool) → (a && true) ≡ a
    and_true true = refl
    and_true false = refl
goes_on-end any fits good [] (p ∷ ps) en op fit = absurd (omega (arith, fit))
goes_on-end any fits good (s ∷ states) (p ∷ ps) en op fit =
    let here = s || op in
    let entered = cond (any p) (en || (any p && here)) (here && good p) in
    let after = pass any good entered (any p && here) states ps in
    ap (λ r. ((en || (any p && here)) && (any p && matches_by any fits ps [])) || r) (goes_on-end any fits good states ps entered (any p && here) (omega (arith, fit)))
    ∙ implied _ after.1 (λ exists.
    let parts = three (en || (any p && here)) (any p) (matches_by any fits ps []) exists in
    ended_too any fits good states ps entered (any p && here) (omega (arith, fit)) (ap (λ b. cond b (en || (any p && here)) (here && good p)) parts.1 ∙ parts.0) parts.2)
  where
    implied : (a b : Bool) → (a ≡ true → b ≡ true) → (a || b) ≡ b
    implied true b h = sym (h refl)
    implied false b h = refl

    three : (a b c : Bool) → (a && (b && c)) ≡ true → (a ≡ true) × (b ≡ true) × (c ≡ true)
    three true true c e = (refl, refl, e)
    three true false c e = absurd (cc)
    three false b c e = absurd (cc)

-- where more is read, what has reached the pattern's end counts no more
not_ended : {P X : Type 0} (any : P → Bool) (fits : P → X → Bool) (states : List Bool) (ps : List P) (ended : Bool) (x : X) (t : List X)
    → goes_on any fits states ps ended (x ∷ t) ≡ goes_on any fits states ps false (x ∷ t)
not_ended any fits states [] true x t = refl
not_ended any fits states [] false x t = refl
not_ended any fits [] (p ∷ ps) ended x t = refl
not_ended any fits (exists ∷ states) (p ∷ ps) ended x t = ap (λ b. (exists && matches_by any fits (p ∷ ps) (x ∷ t)) || b) (not_ended any fits states ps ended x t)

-- one step of a loop over what is read
pub read_on : {P X : Type 0} (any : P → Bool) (fits : P → X → Bool) (states : List Bool) (ps : List P) (ended : Bool) (xs : List X) (i : ℕ) (x : X) → length ps ≤ length states → i < length xs → x ≡ get_or xs i x
    → goes_on any fits (pass any (λ p. fits p x) false false states ps).0 ps (pass any (λ p. fits p x) false false states ps).1 (drop (i + 1) xs) ≡ goes_on any fits states ps ended (drop i xs)
read_on any fits states ps ended xs i x fit within is =
    goes_on-read any fits states ps false false x (drop (i + 1) xs) fit
    ∙ sym (at_drop_more (goes_on any fits states ps ended) xs i x within ∙ ap (λ y. goes_on any fits states ps ended (y ∷ drop (i + 1) xs)) (sym is) ∙ not_ended any fits states ps ended x (drop (i + 1) xs))

-- one step of a loop over a pattern
pub pass_on : {P : Type 0} (any good : P → Bool) (en op : Bool) (states : List Bool) (ps : List P) (i : ℕ) (p : P) (f exists en_next op_next : Bool) → i < length states → i < length ps → p ≡ get_or ps i p
    → ((get_or states i false || op) && f) ≡ ((get_or states i false || op) && good p) → exists ≡ (en || (any p && (get_or states i false || op)))
    → en_next ≡ cond (any p) (en || (any p && (get_or states i false || op))) ((get_or states i false || op) && f) → op_next ≡ (any p && (get_or states i false || op))
    → (take (i + 1) (slice_set states i exists) ++ (pass any good en_next op_next (drop (i + 1) (slice_set states i exists)) (drop (i + 1) ps)).0 ≡ take i states ++ (pass any good en op (drop i states) (drop i ps)).0)
    × ((pass any good en_next op_next (drop (i + 1) (slice_set states i exists)) (drop (i + 1) ps)).1 ≡ (pass any good en op (drop i states) (drop i ps)).1)
pass_on any good en op states ps i p f exists en_next op_next within item is fitting existing entering waiting =
    let here = get_or states i false || op in
    let rest = drop (i + 1) ps in
    let next = pass any good (cond (any p) (en || (any p && here)) (here && good p)) (any p && here) (drop (i + 1) states) rest in
    let old : pass any good en op (drop i states) (drop i ps) ≡ ((en || (any p && here)) ∷ next.0, next.1) =
    at_drop_more (λ ss. pass any good en op ss (drop i ps)) states i false within
    ∙ at_drop_more (λ qs. pass any good en op (get_or states i false ∷ drop (i + 1) states) qs) ps i p item
    ∙ ap (λ q. pass any good en op (get_or states i false ∷ drop (i + 1) states) (q ∷ rest)) (sym is) in
    let new : pass any good en_next op_next (drop (i + 1) (slice_set states i exists)) rest ≡ next =
    ap (λ ss. pass any good en_next op_next ss rest) (drop-set-lt (i + 1) states i exists (omega arith))
    ∙ ap (λ e. pass any good e op_next (drop (i + 1) states) rest) (entering ∙ ap (λ b. cond (any p) (en || (any p && here)) b) fitting)
    ∙ ap (λ w. pass any good (cond (any p) (en || (any p && here)) (here && good p)) w (drop (i + 1) states) rest) waiting in (
      ap (λ (r : List Bool × Bool). take (i + 1) (slice_set states i exists) ++ r.0) new
          ∙ ap (λ ss. ss ++ next.0) (take_more_set states i exists within)
          ∙ append_assoc (take i states) (exists ∷ []) next.0
          ∙ ap (λ b. take i states ++ b ∷ next.0) existing
          ∙ sym (ap (λ (r : List Bool × Bool). take i states ++ r.0) old),
      ap (λ (r : List Bool × Bool). r.1) new ∙ sym (ap (λ (r : List Bool × Bool). r.1) old),
    )

-- the same where a test returned whether the item matches any number of elements, and its fit was evaluated
-- only where a match is
pub pass_on_reported : {P : Type 0} (any good : P → Bool) (en op : Bool) (states : List Bool) (ps : List P) (i : ℕ) (p : P) (a f exists en_next op_next : Bool) → i < length states → i < length ps → p ≡ get_or ps i p
    → a ≡ any p → f ≡ ((get_or states i false || op) && good p) → exists ≡ (en || (a && (get_or states i false || op)))
    → en_next ≡ cond a (en || (a && (get_or states i false || op))) ((get_or states i false || op) && f) → op_next ≡ (a && (get_or states i false || op))
    → (take (i + 1) (slice_set states i exists) ++ (pass any good en_next op_next (drop (i + 1) (slice_set states i exists)) (drop (i + 1) ps)).0 ≡ take i states ++ (pass any good en op (drop i states) (drop i ps)).0)
    × ((pass any good en_next op_next (drop (i + 1) (slice_set states i exists)) (drop (i + 1) ps)).1 ≡ (pass any good en op (drop i states) (drop i ps)).1)
pass_on_reported any good en op states ps i p a f exists en_next op_next within item is reported fitting existing entering waiting =
    let here = get_or states i false || op in
    pass_on any good en op states ps i p f exists en_next op_next within item is
    (ap (λ b. here && b) fitting ∙ twice here (good p))
    (existing ∙ ap (λ b. en || (b && here)) reported)
    (entering ∙ ap (λ b. cond b (en || (b && here)) (here && f)) reported)
    (waiting ∙ ap (λ b. b && here) reported)
  where
    twice : (x y : Bool) → (x && (x && y)) ≡ (x && y)
    twice true y = refl
    twice false y = refl

-- a text has no more characters than bytes
characters_after : (n c : ℕ) (bytes : List ℕ) → length (chars_after n c bytes) ≤ length bytes + 1
characters_after zero c [] = omega arith
characters_after zero c (b ∷ bytes) = omega (arith, characters_after (continuation_len b) (lead_bits b) bytes)
characters_after (suc n) c [] = omega arith
characters_after (suc n) c (b ∷ bytes) = omega (arith, characters_after n (c * 64 + (b - 128)) bytes)

pub characters : (bytes : List ℕ) → length (chars bytes) ≤ length bytes
unfolding chars
characters [] = omega arith
characters (b ∷ bytes) = omega (arith, characters_after (continuation_len b) (lead_bits b) bytes)

-- at first no match is anywhere
pub none_exist : (n : ℕ) → AllByRecursion (λ s. s ≡ false) (replicate n false)
none_exist zero = tt
none_exist (suc n) = (refl, none_exist n)
