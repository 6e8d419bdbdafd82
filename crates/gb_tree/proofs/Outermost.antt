-- The places that lie under no other place: each place under any of all lies under exactly one of these.
use Rattle.std.proofs.Common.{arith, ◌≡◌, ◌⊎◌, inl, inr, ℕ, zero, suc, ◌+◌, ◌<◌, ◌≤◌, Bool, true, false, cond, not, ◌&&◌, ◌||◌, nat_eq, List, [], ◌∷◌, ◌++◌, length, refl, sym, ◌∙◌, ap, subst, append_assoc, length-append}
use Rattle.std.proofs.lemmas.Bool.{eq-eqb, false≢true}
use Rattle.std.specs.Cmp.Lexicographic.{bytes_decides}
use Rattle.std.specs.List.{AllByRecursion, filter, list_any, starts_with}
use Rattle.std.specs.Prelude.{bytes_eq}
use Rattle.gb_core.specs.Place.{is_beneath, is_under}
use Rattle.gb_folder.specs.Files.{Place}
use Rattle.gb_folder.proofs.Beneath.{not_beneath_itself}
use Rattle.gb_tree.specs.Property.{distinct, outermost}
use Rattle.gb_tree.proofs.InOrder.{all_filter}
use Rattle.gb_tree.proofs.Under.{IsUnder, under_parts}

-- ---- Under and at

or_second : (a b : Bool) → b ≡ true → (a || b) ≡ true
or_second true b h = refl
or_second false b h = h

begun : (prefix rest : List ℕ) → starts_with nat_eq (prefix ++ rest) prefix ≡ true
begun [] rest = refl
begun (c ∷ prefix) rest = ap (λ b. b && starts_with nat_eq (prefix ++ rest) prefix) (eq-eqb c c refl) ∙ begun prefix rest

pub beneath_from : (place root rest : List ℕ) → place ≡ root ++ 47 ∷ rest → is_beneath place root ≡ true
beneath_from place root rest is = ap (λ p. is_beneath p root) (is ∙ sym (append_assoc root (47 ∷ []) rest)) ∙ begun (root ++ 47 ∷ []) rest

pub under_from : (place root : List ℕ) → IsUnder place root → is_under place root ≡ true
under_from place root (inl same) = ap (λ b. b || is_beneath place root) ((bytes_decides place root).1 same)
under_from place root (inr more) = or_second (bytes_eq place root) (is_beneath place root) (beneath_from place root more.0 more.1)

-- strictly under
abbrev IsIn : List ℕ → List ℕ → Type 0
IsIn place root = (rest : List ℕ) × (place ≡ root ++ 47 ∷ rest)

in_from : (place root : List ℕ) → is_beneath place root ≡ true → IsIn place root
in_from place root h = by (under_parts place root (or_second (bytes_eq place root) (is_beneath place root) h))
  where
    by : IsUnder place root → IsIn place root
    by (inl same) = absurd (false≢true (sym (not_beneath_itself root) ∙ ap (λ p. is_beneath p root) (sym same) ∙ h))
    by (inr more) = more

in_through : (a b c : List ℕ) → IsUnder a b → IsIn b c → IsIn a c
in_through a b c (inl same) more = (more.0, same ∙ more.1)
in_through a b c (inr first) more = (more.0 ++ 47 ∷ first.0, first.1 ∙ ap (λ t. t ++ 47 ∷ first.0) more.1 ∙ append_assoc c (47 ∷ more.0) (47 ∷ first.0))

under_through : (a b c : List ℕ) → IsUnder a b → IsUnder b c → IsUnder a c
under_through a b c first (inl same) = subst (λ (d : List ℕ). IsUnder a d) same first
under_through a b c first (inr more) = inr (in_through a b c first more)

pub under_under : (a b c : List ℕ) → is_under a b ≡ true → is_under b c ≡ true → is_under a c ≡ true
under_under a b c first second = under_from a c (under_through a b c (under_parts a b first) (under_parts b c second))

-- two folders of a place are one, or one lies in the other
abbrev Meet : List ℕ → List ℕ → Type 0
Meet a b = (a ≡ b) ⊎ (IsIn a b ⊎ IsIn b a)

meet_in : (a b x y : List ℕ) → a ++ 47 ∷ x ≡ b ++ 47 ∷ y → Meet a b
meet_in [] [] x y same = inl refl
meet_in [] (d ∷ b) x y same = inr (inr (b, ap (λ c. c ∷ b) (let e : d ≡ 47 = cc in e)))
meet_in (c ∷ a) [] x y same = inr (inl (a, ap (λ d. d ∷ a) (let e : c ≡ 47 = cc in e)))
meet_in (c ∷ a) (d ∷ b) x y same =
    let head : c ≡ d = cc in
    let tail : a ++ 47 ∷ x ≡ b ++ 47 ∷ y = cc in
    elim (meet_in a b x y tail) [
      | inl is ↦ inl (ap (λ e. e ∷ a) head ∙ ap (λ t. d ∷ t) is)
      | inr (inl in_b) ↦ inr (inl (in_b.0, ap (λ e. e ∷ a) head ∙ ap (λ t. d ∷ t) in_b.1))
      | inr (inr in_a) ↦ inr (inr (in_a.0, ap (λ e. e ∷ b) (sym head) ∙ ap (λ t. c ∷ t) in_a.1))
    ]

meet : (place a b : List ℕ) → IsUnder place a → IsUnder place b → Meet a b
meet place a b (inl first) (inl second) = inl (sym first ∙ second)
meet place a b (inl first) (inr second) = inr (inl (second.0, sym first ∙ second.1))
meet place a b (inr first) (inl second) = inr (inr (first.0, sym second ∙ first.1))
meet place a b (inr first) (inr second) = meet_in a b first.0 second.0 (sym first.1 ∙ second.1)

-- ---- Sums over lists

abbrev pub total : {X : Type 0} → (X → ℕ) → List X → ℕ
total f [] = 0
total f (x ∷ xs) = f x + total f xs

pub total_alike : {X : Type 0} (f g : X → ℕ) (xs : List X) → AllByRecursion (λ x. f x ≡ g x) xs → total f xs ≡ total g xs
total_alike f g [] all = refl
total_alike f g (x ∷ xs) all = omega (arith, all.0, total_alike f g xs all.1)

pub total_none : {X : Type 0} (f : X → ℕ) (xs : List X) → AllByRecursion (λ x. f x ≡ 0) xs → total f xs ≡ 0
total_none f [] all = refl
total_none f (x ∷ xs) all = omega (arith, all.0, total_none f xs all.1)

total_filter : {X : Type 0} (f : X → ℕ) (test : X → Bool) (xs : List X) → total f (filter test xs) ≡ total (λ x. cond (test x) (f x) 0) xs
total_filter f test [] = refl
total_filter f test (x ∷ xs) = elim (test x) as (λ b. total f (cond b (x ∷ filter test xs) (filter test xs)) ≡ cond b (f x) 0 + total (λ x. cond (test x) (f x) 0) xs) [
  | true ↦ ap (λ n. f x + n) (total_filter f test xs)
  | false ↦ omega (arith, total_filter f test xs)
]

-- ---- Each place once

abbrev exists_in : Place → List Place → Bool
exists_in place places = list_any (λ other. bytes_eq other place) places

abbrev others : Place → List Place → List Place
others place places = filter (λ other. not (bytes_eq place other)) places

abbrev if_same : ℕ → Place → Place → ℕ
if_same n place other = cond (bytes_eq other place) n 0

gone : (n : ℕ) (place : Place) (places : List Place) → total (if_same n place) (others place places) ≡ 0
gone n place [] = refl
gone n place (other ∷ places) = by (bytes_eq place other) refl (gone n place places)
  where
    by : (b : Bool) → bytes_eq place other ≡ b → total (if_same n place) (others place places) ≡ 0 → total (if_same n place) (cond (not b) (other ∷ others place places) (others place places)) ≡ 0
    by true is more = more
    by false is more = omega (arith, more, ap (λ b. cond b n 0) (separate (bytes_eq other place) refl))
      where
        separate : (b : Bool) → bytes_eq other place ≡ b → b ≡ false
        separate false e = refl
        separate true e = absurd (false≢true (sym is ∙ (bytes_decides place other).1 (sym ((bytes_decides other place).0 e))))

still : (n : ℕ) (place y : Place) (places : List Place) → bytes_eq y place ≡ false → total (if_same n place) (others y places) ≡ total (if_same n place) places
still n place y [] separate = refl
still n place y (other ∷ places) separate = by (bytes_eq y other) refl (still n place y places separate)
  where
    by : (b : Bool) → bytes_eq y other ≡ b → total (if_same n place) (others y places) ≡ total (if_same n place) places
        → total (if_same n place) (cond (not b) (other ∷ others y places) (others y places)) ≡ if_same n place other + total (if_same n place) places
    by true is more =
        let other_separate : bytes_eq other place ≡ false = ap (λ p. bytes_eq p place) (sym ((bytes_decides y other).0 is)) ∙ separate in
        omega (arith, more, ap (λ b. cond b n 0) other_separate)
    by false is more = ap (λ m. if_same n place other + m) more

total_distinct : (n : ℕ) (place : Place) (places : List Place) → total (if_same n place) (distinct places) ≡ cond (exists_in place places) n 0
total_distinct n place [] = refl
total_distinct n place (y ∷ places) = by (bytes_eq y place) refl (total_distinct n place places)
  where
    by : (b : Bool) → bytes_eq y place ≡ b → total (if_same n place) (distinct places) ≡ cond (exists_in place places) n 0
        → cond b n 0 + total (if_same n place) (others y (distinct places)) ≡ cond (b || exists_in place places) n 0
    by true is more =
        let none : total (if_same n place) (others y (distinct places)) ≡ 0 =
        ap (λ z. total (if_same n place) (others z (distinct places))) ((bytes_decides y place).0 is) ∙ gone n place (distinct places) in
        omega (arith, none)
    by false is more = omega (arith, still n place y (distinct places) is, more)

pub all_distinct : (P : Place → Type 0) (places : List Place) → AllByRecursion P places → AllByRecursion P (distinct places)
all_distinct P [] all = tt
all_distinct P (place ∷ places) all = (all.0, all_filter P (λ other. not (bytes_eq place other)) (distinct places) (all_distinct P places all.1))

-- ---- One of several

exists_itself : (all places : List Place) → ((place : Place) → exists_in place places ≡ true → exists_in place all ≡ true) → AllByRecursion (λ place. exists_in place all ≡ true) places
exists_itself all [] within = tt
exists_itself all (place ∷ places) within = (
  within place (ap (λ b. b || exists_in place places) ((bytes_decides place place).1 refl)),
  exists_itself all places (λ other h. within other (or_second (bytes_eq place other) (exists_in other places) h)),
)

-- one of them passes the test
abbrev IsOne : (Place → Bool) → List Place → Type 0
IsOne test places = (place : Place) × (exists_in place places ≡ true) × (test place ≡ true)

one_of : (test : Place → Bool) (places : List Place) → list_any test places ≡ true → IsOne test places
one_of test [] h = absurd (false≢true h)
one_of test (place ∷ places) h = by (test place) refl h (λ more. one_of test places more)
  where
    by : (b : Bool) → test place ≡ b → (b || list_any test places) ≡ true → (list_any test places ≡ true → IsOne test places) → IsOne test (place ∷ places)
    by true is h more = (place, ap (λ b. b || exists_in place places) ((bytes_decides place place).1 refl), is)
    by false is h more = let found = more h in (found.0, or_second (bytes_eq place found.0) (exists_in found.0 places) found.1, found.2)

any_from : (test : Place → Bool) (place : Place) (places : List Place) → exists_in place places ≡ true → test place ≡ true → list_any test places ≡ true
any_from test place [] exists passes = absurd (false≢true exists)
any_from test place (other ∷ places) exists passes = by (bytes_eq other place) refl exists (λ more. any_from test place places more passes)
  where
    by : (b : Bool) → bytes_eq other place ≡ b → (b || exists_in place places) ≡ true → (exists_in place places ≡ true → list_any test places ≡ true) → (test other || list_any test places) ≡ true
    by true is h more = ap (λ b. b || list_any test places) (ap test ((bytes_decides other place).0 is) ∙ passes)
    by false is h more = or_second (test other) (list_any test places) (more h)

-- ---- The outermost of them

module _ (all : List Place) (at : Place) where
  -- of those above the place, one that lies under none of all
  record IsTop (top : Place) : Type 0 where
    pub among : exists_in top all ≡ true
    pub above : is_under at top ≡ true
    pub free : list_any (is_beneath top) all ≡ false

  shorter : (a b : Place) → is_beneath a b ≡ true → length b < length a
  shorter a b h = let parts = in_from a b h in omega (arith, ap length parts.1, length-append b (47 ∷ parts.0))

  climb : (place : Place) → ((next : Place) → length next < length place → exists_in next all ≡ true → is_under at next ≡ true → (top : Place) × IsTop top)
      → exists_in place all ≡ true → is_under at place ≡ true → (top : Place) × IsTop top
  climb place higher exists under = by (list_any (is_beneath place) all) refl
    where
      by : (b : Bool) → list_any (is_beneath place) all ≡ b → (top : Place) × IsTop top
      by true is =
          let found = one_of (is_beneath place) all is in
          higher found.0 (shorter place found.0 found.2) found.1
          (under_under at place found.0 under (or_second (bytes_eq place found.0) (is_beneath place found.0) found.2))
      by false is = (place, record { among = exists; above = under; free = is })

  top_of : (n : ℕ) (place : Place) → length place ≤ n → exists_in place all ≡ true → is_under at place ≡ true → (top : Place) × IsTop top
  top_of zero place short exists under = climb place (λ next less more above. absurd (omega (arith, short, less))) exists under
  top_of (suc n) place short exists under = climb place (λ next less more above. top_of n next (omega (arith, short, less)) more above) exists under

  -- it is the only one
  only : (a b : Place) → IsTop a → IsTop b → a ≡ b
  only a b first second = elim (meet at a b (under_parts at a first.above) (under_parts at b second.above)) [
    | inl same ↦ same
    | inr (inl in_b) ↦ absurd (false≢true (sym first.free ∙ any_from (is_beneath a) b all second.among (beneath_from a b in_b.0 in_b.1)))
    | inr (inr in_a) ↦ absurd (false≢true (sym second.free ∙ any_from (is_beneath b) a all first.among (beneath_from b a in_a.0 in_a.1)))
  ]

  abbrev is_out : Place → Bool
  is_out place = not (list_any (is_beneath place) all)

  abbrev if_under : ℕ → Place → ℕ
  if_under n place = cond (is_under at place) n 0

  as_same : (n : ℕ) (top place : Place) → IsTop top → exists_in place all ≡ true → cond (is_out place) (if_under n place) 0 ≡ if_same n top place
  as_same n top place is exists = by (bytes_eq place top) refl
    where
      other : bytes_eq place top ≡ false → (out under : Bool) → list_any (is_beneath place) all ≡ out → is_under at place ≡ under → cond (not out) (cond under n 0) 0 ≡ 0
      other separate true under o u = refl
      other separate false false o u = refl
      other separate false true o u =
          absurd (false≢true (sym separate ∙ (bytes_decides place top).1 (only place top (record { among = exists; above = u; free = o }) is)))

      by : (b : Bool) → bytes_eq place top ≡ b → cond (is_out place) (if_under n place) 0 ≡ cond b n 0
      by true same =
          let e = (bytes_decides place top).0 same in
          ap (λ (p : Place). cond (is_out p) (if_under n p) 0) e ∙ ap (λ b. cond (not b) (if_under n top) 0) is.free ∙ ap (λ b. cond b n 0) is.above
      by false separate = other separate (list_any (is_beneath place) all) (is_under at place) refl refl

  -- a place under one of all lies under one of the outermost
  pub one_above : (n : ℕ) → list_any (is_under at) all ≡ true → total (if_under n) (outermost all) ≡ n
  one_above n any =
      let found = one_of (is_under at) all any in
      let top = top_of (length found.0) found.0 (omega arith) found.1 found.2 in
      total_filter (if_under n) is_out (distinct all)
      ∙ total_alike (λ place. cond (is_out place) (if_under n place) 0) (if_same n top.0) (distinct all)
      (all_distinct (λ place. cond (is_out place) (if_under n place) 0 ≡ if_same n top.0 place) all (each top.0 top.1 all (exists_itself all all (λ place h. h))))
      ∙ total_distinct n top.0 all
      ∙ ap (λ b. cond b n 0) top.1.among
    where
      each : (top : Place) → IsTop top → (places : List Place) → AllByRecursion (λ place. exists_in place all ≡ true) places → AllByRecursion (λ place. cond (is_out place) (if_under n place) 0 ≡ if_same n top place) places
      each top is [] exists = tt
      each top is (place ∷ places) exists = (as_same n top place is exists.0, each top is places exists.1)

  -- what holds of all holds of the outermost
  pub all_outermost : (P : Place → Type 0) → AllByRecursion P all → AllByRecursion P (outermost all)
  all_outermost P holds = all_filter P is_out (distinct all) (all_distinct P all holds)
