-- Tests on lists, and what is reached.
use Rattle.std.specs.Prelude.{◌≡◌, Bool, true, false, not, cond, ◌&&◌, ◌||◌, List, [], ◌∷◌, ◌++◌, map, bytes_eq, refl}
use Rattle.std.specs.List.{list_any, list_all, filter, AllByRecursion}
use Rattle.std.specs.Cmp.Lexicographic.{bytes_decides}
use Rattle.std.proofs.Common.{sym, ap, subst, ◌∙◌, true≢false}
use Rattle.gb_plan.specs.Task.{Path, has_path}
use Rattle.gb_plan.specs.Graph.{Reached, start, step}

-- ---- Truth values

pub not_true : {A : Type 0} → false ≡ true → A
not_true e = absurd (true≢false (sym e))

pub not_false : {A : Type 0} → true ≡ false → A
not_false e = absurd (true≢false e)

pub no_longer : (a : Bool) → not a ≡ true → a ≡ false
no_longer true e = not_true e
no_longer false e = refl

pub left_of : (a b : Bool) → (a && b) ≡ true → a ≡ true
left_of true b e = refl
left_of false b e = e

pub right_of : (a b : Bool) → (a && b) ≡ true → b ≡ true
right_of true b e = e
right_of false b e = not_true e

pub none_left : (a b : Bool) → (a || b) ≡ false → a ≡ false
none_left true b e = e
none_left false b e = refl

pub none_right : (a b : Bool) → (a || b) ≡ false → b ≡ false
none_right true b e = not_false e
none_right false b e = e

pub neither : (a b : Bool) → a ≡ false → b ≡ false → (a || b) ≡ false
neither true b e f = e
neither false b e f = f

pub or_true : (b : Bool) → (b || true) ≡ true
or_true true = refl
or_true false = refl

pub or_right : (a b : Bool) → b ≡ true → (a || b) ≡ true
or_right true b e = refl
or_right false b e = e

pub open_in : (a b : Bool) → (a || b) ≡ true → a ≡ false → b ≡ true
open_in true b e f = not_false f
open_in false b e f = e

-- ---- Lists

pub any_append : {X : Type 0} (p : X → Bool) (xs ys : List X) → list_any p (xs ++ ys) ≡ (list_any p xs || list_any p ys)
any_append p [] ys = refl
any_append p (x ∷ xs) ys =
    elim (p x) as (λ b. (b || list_any p (xs ++ ys)) ≡ ((b || list_any p xs) || list_any p ys)) [ true ↦ refl | false ↦ any_append p xs ys ]

pub any_map : {X Y : Type 0} (p : Y → Bool) (f : X → Y) (xs : List X) → list_any p (map f xs) ≡ list_any (λ x. p (f x)) xs
any_map p f [] = refl
any_map p f (x ∷ xs) = ap (λ b. p (f x) || b) (any_map p f xs)

pub all_at : {X : Type 0} (P : X → Type 0) (before : List X) (x : X) (rest : List X) → AllByRecursion P (before ++ x ∷ rest) → P x × AllByRecursion P rest
all_at P [] x rest h = (h.0, h.1)
all_at P (y ∷ before) x rest h = all_at P before x rest h.1

pub each_all : {X : Type 0} (P Q : X → Type 0) → ((x : X) → P x → Q x) → (xs : List X) → AllByRecursion P xs → AllByRecursion Q xs
each_all P Q f [] h = tt
each_all P Q f (x ∷ xs) h = (f x h.0, each_all P Q f xs h.1)

pub all_both : {X : Type 0} (p : X → Bool) (xs ys : List X) → list_all p xs ≡ true → list_all p ys ≡ true → list_all p (xs ++ ys) ≡ true
all_both p [] ys h g = g
all_both p (x ∷ xs) ys h g =
    elim (p x) as (λ b. (b && list_all p xs) ≡ true → (b && list_all p (xs ++ ys)) ≡ true) [ true ↦ λ e. all_both p xs ys e g | false ↦ λ e. e ] h

pub filter_append : {X : Type 0} (t : X → Bool) (xs ys : List X) → filter t (xs ++ ys) ≡ filter t xs ++ filter t ys
filter_append t [] ys = refl
filter_append t (x ∷ xs) ys =
    elim (t x) as (λ b. cond b (x ∷ filter t (xs ++ ys)) (filter t (xs ++ ys)) ≡ cond b (x ∷ filter t xs) (filter t xs) ++ filter t ys) [
      | true ↦ ap (λ zs. x ∷ zs) (filter_append t xs ys)
      | false ↦ filter_append t xs ys
    ]

-- ---- Paths

pub itself : (p : Path) → bytes_eq p p ≡ true
itself p = (bytes_decides p p).1 refl

pub turned : (a b : Path) → bytes_eq a b ≡ bytes_eq b a
turned a b = elim (bytes_eq a b) as (λ x. bytes_eq a b ≡ x → x ≡ bytes_eq b a) [
  | true ↦ λ e. sym ((bytes_decides b a).1 (sym ((bytes_decides a b).0 e)))
  | false ↦ λ e. elim (bytes_eq b a) as (λ y. bytes_eq b a ≡ y → false ≡ y) [
    | true ↦ λ f. not_false (sym ((bytes_decides a b).1 (sym ((bytes_decides b a).0 f))) ∙ e)
    | false ↦ λ _. refl
  ] refl
] refl

-- what holds at each of a list holds at one that the list has
pub at_each : (P : Path → Type 0) (set : List Path) (path : Path) → AllByRecursion P set → has_path set path ≡ true → P path
at_each P [] path all h = not_true h
at_each P (x ∷ set) path all h =
    elim (bytes_eq path x) as (λ b. bytes_eq path x ≡ b → (b || list_any (bytes_eq path) set) ≡ true → P path) [
      | true ↦ λ e _. subst P (sym ((bytes_decides path x).0 e)) all.0
      | false ↦ λ e h. at_each P set path all.1 h
    ] refl h

pub each_of_all : {X : Type 0} (p : X → Bool) (xs : List X) → list_all p xs ≡ true → AllByRecursion (λ x. p x ≡ true) xs
each_of_all p [] h = tt
each_of_all p (x ∷ xs) h = (left_of (p x) (list_all p xs) h, each_of_all p xs (right_of (p x) (list_all p xs) h))

-- what passes for each, passes for one that the list has
pub at_member : (test : Path → Bool) (set : List Path) (path : Path) → list_all test set ≡ true → has_path set path ≡ true → test path ≡ true
at_member test set path all h = at_each (λ p. test p ≡ true) set path (each_of_all test set all) h

pub all_of_members : (test : Path → Bool) (set : List Path) → ((p : Path) → has_path set p ≡ true → test p ≡ true) → list_all test set ≡ true
all_of_members test [] h = refl
all_of_members test (x ∷ set) h =
    ap (λ b. b && list_all test set) (h x (ap (λ b. b || has_path set x) (itself x)))
    ∙ all_of_members test set (λ p e. h p (ap (λ b. bytes_eq p x || b) e ∙ or_true (bytes_eq p x)))

-- what a list without some of its members has, the list has
pub in_filter : (test : Path → Bool) (xs : List Path) (p : Path) → has_path (filter test xs) p ≡ true → (has_path xs p ≡ true) × (test p ≡ true)
in_filter test [] p h = not_true h
in_filter test (x ∷ xs) p h =
    elim (test x) as (λ b. test x ≡ b → has_path (cond b (x ∷ filter test xs) (filter test xs)) p ≡ true → ((bytes_eq p x || has_path xs p) ≡ true) × (test p ≡ true)) [
      | true ↦ λ e h. elim (bytes_eq p x) as (λ c. bytes_eq p x ≡ c → (c || has_path (filter test xs) p) ≡ true → ((c || has_path xs p) ≡ true) × (test p ≡ true)) [
        | true ↦ λ same _. (refl, ap test ((bytes_decides p x).0 same) ∙ e)
        | false ↦ λ _ h. in_filter test xs p h
      ] refl h
      | false ↦ λ _ h. (or_right (bytes_eq p x) (has_path xs p) (in_filter test xs p h).0, (in_filter test xs p h).1)
    ] refl h

-- what the list has and passes is among those that pass
pub into_filter : (test : Path → Bool) (xs : List Path) (p : Path) → has_path xs p ≡ true → test p ≡ true → has_path (filter test xs) p ≡ true
into_filter test [] p h t = not_true h
into_filter test (x ∷ xs) p h t =
    elim (bytes_eq p x) as (λ c. bytes_eq p x ≡ c → (c || has_path xs p) ≡ true → has_path (cond (test x) (x ∷ filter test xs) (filter test xs)) p ≡ true) [
      | true ↦ λ same _. ap (λ b. has_path (cond b (x ∷ filter test xs) (filter test xs)) p) (sym (ap test ((bytes_decides p x).0 same)) ∙ t)
          ∙ ap (λ b. b || has_path (filter test xs) p) same
      | false ↦ λ other h. elim (test x) as (λ b. has_path (cond b (x ∷ filter test xs) (filter test xs)) p ≡ true) [
        | true ↦ or_right (bytes_eq p x) (has_path (filter test xs) p) (into_filter test xs p h t)
        | false ↦ into_filter test xs p h t
      ]
    ] refl h

-- ---- What is reached

-- each of the list is shut, or in the set
abbrev pub goes_into : (Path → Bool) → List Path → List Path → Bool
goes_into shut set paths = list_all (λ path. shut path || has_path set path) paths

-- a list that holds the open starts and is closed under open steps holds all that is reached
pub reached_in : (starts : List Path) (steps : Path → List Path) (shut : Path → Bool) (set : List Path)
    → goes_into shut set starts ≡ true → list_all (λ path. goes_into shut set (steps path)) set ≡ true
    → {path : Path} → Reached starts steps shut path → has_path set path ≡ true
reached_in starts steps shut set from_starts closed (start {path = p} h o) =
    open_in (shut p) (has_path set p) (at_member (λ path. shut path || has_path set path) starts p from_starts h) o
reached_in starts steps shut set from_starts closed (step {from = q} {path = p} r h o) =
    open_in (shut p) (has_path set p)
    (at_member (λ path. shut path || has_path set path) (steps q) p
    (at_member (λ path. goes_into shut set (steps path)) set q closed (reached_in starts steps shut set from_starts closed r)) h) o
