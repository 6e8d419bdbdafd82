-- What arguments select, and the request.
use Rattle.std.specs.Prelude.{ℕ, ◌≡◌, ◌<◌, ◌+◌, ◌==◌, suc, Bool, true, false, cond, ◌||◌, List, [], ◌∷◌, ◌++◌, map, length, get_or, take, drop, bytes_eq, refl, Option, Some, None, Result, Ok, Err, IfErr}
use Rattle.std.specs.List.{flat_map}
use Rattle.std.specs.Ordering.{eq_by_cmp}
use Rattle.std.proofs.Common.{sym, ap, subst, ◌∙◌, arith, append-nil, take-append-drop}
use Rattle.std.proofs.Math.Seq.{drop-cons}
use Rattle.std.proofs.lemmas.Grind.{take_at_read}
use Rattle.std.proofs.lemmas.List.{map-append}
use Rattle.std.proofs.lemmas.List.Concat.{flat_map-append}
use Rattle.std.proofs.lemmas.Bool.{eqb-true}
use Rattle.std.proofs.lemmas.Map.Text.{is_eq-slice_cmp}
use Rattle.gb_core.specs.Lists.{byte_order, first_of}
use Rattle.gb_folder.specs.Files.{is_empty}
use Rattle.gb_report.specs.declared.fault.Fault.{Fault}
use Rattle.gb_report.specs.declared.fault.Fault.TheVariants as faults
use Rattle.gb_plan.specs.Task.{Text, Path, has_path}
use Rattle.gb_plan.specs.Graph.{Registry, Request, words_of}
use Rattle.gb_plan.specs.Refusal.{request_of, word_faults}
use Rattle.gb_plan.proofs.Tests.{not_false, turned}
use Rattle.gb_graph.specs.Words.{asked}

-- ---- Errors that are returned

pub err_so : {X E : Type 0} (P : E → Type 0) (r : Result X E) (y z : E) → r ≡ Err y → y ≡ z → P z → IfErr r P
err_so {X} {E} P r y z is same holds = subst (λ (v : Result X E). IfErr v P) (sym is) (subst P (sym same) holds)

-- ---- The first of several

pub first_prefix : {X : Type 0} (xs ys : List X) (x : X) → first_of xs ≡ Some x → first_of (xs ++ ys) ≡ Some x
first_prefix [] ys x e = absurd (let f : None ≡ Some x = e in cc)
first_prefix (y ∷ xs) ys x e = e

pub first_back : {X : Type 0} (xs ys : List X) (x : X) → xs ≡ [] → first_of ys ≡ Some x → first_of (xs ++ ys) ≡ Some x
first_back xs ys x none e = ap (λ v. first_of (v ++ ys)) none ∙ e

-- of a list, the first faults after a prefix without faults
pub first_at : {X Y : Type 0} (f : X → List Y) (xs : List X) (i : ℕ) (x : X) (y : Y) → i < length xs → x ≡ get_or xs i x → flat_map f (take i xs) ≡ [] → first_of (f x) ≡ Some y
    → first_of (flat_map f xs) ≡ Some y
first_at f xs i x y lt is none e =
    ap (λ v. first_of (flat_map f v)) (sym (take-append-drop i xs))
    ∙ ap first_of (flat_map-append f (take i xs) (drop i xs))
    ∙ first_back (flat_map f (take i xs)) (flat_map f (drop i xs)) y none
    (ap (λ v. first_of (flat_map f v)) (drop-cons xs i x lt ∙ ap (λ v. v ∷ drop (suc i) xs) (sym is)) ∙ first_prefix (f x) (flat_map f (drop (suc i) xs)) y e)

-- one more of a list
pub flat_more : {X Y : Type 0} (f : X → List Y) (xs : List X) (i : ℕ) (x : X) → i < length xs → x ≡ get_or xs i x → flat_map f (take (i + 1) xs) ≡ flat_map f (take i xs) ++ f x
flat_more f xs i x lt is =
    ap (flat_map f) ((take_at_read xs i x lt).1 ∙ ap (λ v. take i xs ++ v ∷ []) (sym is))
    ∙ (flat_map-append f (take i xs) (x ∷ []) ∙ ap (λ v. flat_map f (take i xs) ++ v) (append-nil (f x)))

pub map_more : {X Y : Type 0} (f : X → Y) (xs : List X) (i : ℕ) (x : X) → i < length xs → x ≡ get_or xs i x → map f (take (i + 1) xs) ≡ map f (take i xs) ++ f x ∷ []
map_more f xs i x lt is = ap (map f) ((take_at_read xs i x lt).1 ∙ ap (λ v. take i xs ++ v ∷ []) (sym is)) ∙ map-append f (take i xs) (x ∷ [])

-- ---- The request

decided : Registry → List Text → List Text → Bool → Option Fault → Result Request Fault
decided registry requested excluded true found = Err faults.NoTasks
decided registry requested excluded false None = Ok (asked registry requested excluded)
decided registry requested excluded false (Some fault) = Err fault

is_decided : (registry : Registry) (requested excluded : List Text)
    → request_of registry requested excluded ≡ decided registry requested excluded (is_empty (words_of registry requested)) (first_of (flat_map (word_faults registry) (words_of registry requested ++ excluded)))
unfolding decided
is_decided registry requested excluded =
    both (is_empty (words_of registry requested)) (first_of (flat_map (word_faults registry) (words_of registry requested ++ excluded)))
  where
    both : (b : Bool) (found : Option Fault) → cond b (Err faults.NoTasks) (elim found as (λ _. Result Request Fault) [ None ↦ Ok (asked registry requested excluded) | Some fault ↦ Err fault ])
        ≡ decided registry requested excluded b found
    both true found = refl
    both false None = refl
    both false (Some fault) = refl

pub some_words : {X : Type 0} (words : List X) → (length words == 0) ≡ false → is_empty words ≡ false
some_words [] e = not_false e
some_words (word ∷ words) e = refl

pub no_words : {X : Type 0} (words : List X) → (length words == 0) ≡ true → is_empty words ≡ true
no_words [] e = refl
no_words (word ∷ words) e = let f : suc (length words) ≡ 0 = eqb-true (suc (length words)) 0 e in absurd (omega (arith, f))

module _ (registry : Registry) (requested excluded : List Text) where
  abbrev words : List Text
  words = words_of registry requested

  abbrev faults_of : List Text → List Fault
  faults_of ws = flat_map (word_faults registry) ws

  pub asked_none : is_empty words ≡ true → request_of registry requested excluded ≡ Err faults.NoTasks
  unfolding decided
  asked_none e = is_decided registry requested excluded ∙ ap (λ b. decided registry requested excluded b (first_of (faults_of (words ++ excluded)))) e

  pub asked_fault : (fault : Fault) → is_empty words ≡ false → first_of (faults_of (words ++ excluded)) ≡ Some fault → request_of registry requested excluded ≡ Err fault
  unfolding decided
  asked_fault fault e f = is_decided registry requested excluded ∙ (λ i. decided registry requested excluded (e i) (f i))

  pub asked_ok : is_empty words ≡ false → faults_of words ≡ [] → faults_of excluded ≡ [] → request_of registry requested excluded ≡ Ok (asked registry requested excluded)
  unfolding decided
  asked_ok e f g =
      is_decided registry requested excluded
      ∙ (λ i. decided registry requested excluded (e i) (none i))
    where
      none : first_of (faults_of (words ++ excluded)) ≡ None
      none = ap first_of (flat_map-append (word_faults registry) words excluded ∙ (λ i. f i ++ g i))

  pub requested_fault : (fault : Fault) → is_empty words ≡ false → first_of (faults_of words) ≡ Some fault → request_of registry requested excluded ≡ Err fault
  requested_fault fault e f = asked_fault fault e (ap first_of (flat_map-append (word_faults registry) words excluded) ∙ first_prefix (faults_of words) (faults_of excluded) fault f)

  pub excluded_fault : (fault : Fault) → is_empty words ≡ false → faults_of words ≡ [] → first_of (faults_of excluded) ≡ Some fault → request_of registry requested excluded ≡ Err fault
  excluded_fault fault e f g = asked_fault fault e (ap first_of (flat_map-append (word_faults registry) words excluded) ∙ first_back (faults_of words) (faults_of excluded) fault f g)

-- ---- Sets of paths

or_moved : (a b c : Bool) → (cond a true b || c) ≡ (b || (a || c))
or_moved true true c = refl
or_moved true false c = refl
or_moved false true c = refl
or_moved false false c = refl

-- one path more is in the set, and one less is left
pub set_more : (old new : Path → Bool) (key path : Path) (rest whole : List Path) → key ≡ path → whole ≡ path ∷ rest → ((p : Path) → new p ≡ cond (eq_by_cmp byte_order key p) true (old p))
    → (p : Path) → (new p || has_path rest p) ≡ (old p || has_path whole p)
set_more old new key path rest whole same is next p =
    ap (λ b. b || has_path rest p) (next p)
    ∙ ap (λ b. cond b true (old p) || has_path rest p) (is_eq-slice_cmp key p ∙ (turned key p ∙ ap (bytes_eq p) same))
    ∙ or_moved (bytes_eq p path) (old p) (has_path rest p)
    ∙ ap (λ ps. old p || has_path ps p) (sym is)

pub or_none : (b : Bool) → (b || false) ≡ b
or_none true = refl
or_none false = refl
