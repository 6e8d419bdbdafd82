-- Paths of tasks have neither slashes nor dots, so their records' places are disjoint.
use Rattle.std.proofs.Common.{◌≡◌, ◌≢◌, ◌<◌, zero, suc, IsUtf8, ℕ, Bool, true, false, cond, eqb, List, [], ◌∷◌, ◌++◌, refl, ap, sym, ◌∙◌, arith, codes}
use Rattle.std.specs.Prelude.{◌==◌, if◌then◌else◌}
use Rattle.std.specs.List.{AllByRecursion, list_all, slice_split, onto_first}
use Rattle.std.proofs.lemmas.Bool.{and_parts, eqb-true}
use Rattle.std.proofs.lemmas.Bool.Decides.{nat_tests}
use Rattle.std.proofs.lemmas.List.{append_cancel_left}
use Rattle.std.specs.Str.{IsAscii}
use Rattle.std.proofs.lemmas.Str.{IsUtf8-append, IsUtf8-from_ascii}
use Rattle.json.proofs.Printed.Utf8.{IsUtf8-are_ascii}
use Rattle.gb_core.specs.Name.{is_name, is_name_byte, is_letter}
use Rattle.gb_core.specs.Path.{is_task_path}
use Rattle.gb_core.proofs.TaskPaths.{name_bytes}
use Rattle.gb_core.proofs.BySegments.{begins}
use Rattle.gb_history.specs.Places.{slashed, record_place, PlacesAreDistinct, NoPlaceBeneath}

-- of ASCII, and neither a slash nor a dot
abbrev IsPlain : ℕ → Type 0
IsPlain c = (c ≢ 47) × (c ≢ 46) × (c < 128)

letter_low : (c : ℕ) → is_letter c ≡ true → c < 128
letter_low c h = grind (arith, nat_tests)

byte_low : (c : ℕ) → is_name_byte c ≡ true → c < 128
byte_low c h = grind (arith, nat_tests)

plain_byte : (c : ℕ) → is_name_byte c ≡ true → IsPlain c
plain_byte c h = ((λ e. absurd (cc (h, ap is_name_byte e))), (λ e. absurd (cc (h, ap is_name_byte e))), byte_low c h)

letter_plain : (c : ℕ) → is_letter c ≡ true → IsPlain c
letter_plain c h = ((λ e. absurd (cc (h, ap is_letter e))), (λ e. absurd (cc (h, ap is_letter e))), letter_low c h)

all_plain : (text : List ℕ) → list_all is_name_byte text ≡ true → AllByRecursion IsPlain text
all_plain [] h = tt
all_plain (c ∷ text) h = let p = and_parts (is_name_byte c) (list_all is_name_byte text) h in (plain_byte c p.0, all_plain text p.1)

name_plain : (name : List ℕ) → is_name name ≡ true → AllByRecursion IsPlain name
name_plain [] h = tt
name_plain (c ∷ text) h = let b = name_bytes c text h in (letter_plain c b.0, all_plain text b.1)

names_plain : (parts : List (List ℕ)) → list_all is_name parts ≡ true → AllByRecursion (AllByRecursion IsPlain) parts
names_plain [] h = tt
names_plain (p ∷ parts) h = let q = and_parts (is_name p) (list_all is_name parts) h in (name_plain p q.0, names_plain parts q.1)

colon_plain : (c : ℕ) → eqb c 58 ≡ true → IsPlain c
colon_plain c h = let e : c ≡ 58 = eqb-true c 58 h in ((λ s. omega (arith, e, s)), (λ s. omega (arith, e, s)), omega (arith, e))

first_plain : (c : ℕ) (parts : List (List ℕ)) → AllByRecursion (AllByRecursion IsPlain) (onto_first c parts) → IsPlain c × AllByRecursion (AllByRecursion IsPlain) parts
first_plain c [] h = (h.0.0, tt)
first_plain c (p ∷ parts) h = (h.0.0, (h.0.1, h.1))

split_step : (c : ℕ) (text : List ℕ) (b : Bool) → eqb c 58 ≡ b → AllByRecursion (AllByRecursion IsPlain) (cond b ([] ∷ slice_split (λ b. eqb b 58) text) (onto_first c (slice_split (λ b. eqb b 58) text)))
    → IsPlain c × AllByRecursion (AllByRecursion IsPlain) (slice_split (λ b. eqb b 58) text)
split_step c text true e k = (colon_plain c e, k.1)
split_step c text false e k = first_plain c (slice_split (λ b. eqb b 58) text) k

split_plain : (text : List ℕ) → AllByRecursion (AllByRecursion IsPlain) (slice_split (λ b. eqb b 58) text) → AllByRecursion IsPlain text
split_plain [] h = tt
split_plain (c ∷ text) h = let s = split_step c text (eqb c 58) refl h in (s.0, split_plain text s.1)

path_plain : (path : List ℕ) → is_task_path path ≡ true → AllByRecursion IsPlain path
path_plain [] h = tt
path_plain (c ∷ text) h =
    let p = and_parts (eqb c 58) (list_all is_name (slice_split (λ b. eqb b 58) text)) h in
    (colon_plain c p.0, split_plain text (names_plain _ p.1))

-- ---- colons as slashes

abbrev swap : ℕ → ℕ
swap b = if b == 58 then 47 else b

swap_back : (a b : ℕ) → IsPlain a → IsPlain b → swap a ≡ swap b → a ≡ b
swap_back a b p q e = by (eqb a 58) (eqb b 58) refl refl e
  where
    by : (x y : Bool) → eqb a 58 ≡ x → eqb b 58 ≡ y → (if x then 47 else a) ≡ (if y then 47 else b) → a ≡ b
    by true true x y k = eqb-true a 58 x ∙ sym (eqb-true b 58 y)
    by true false x y k = absurd (q.0 (sym k))
    by false true x y k = absurd (p.0 k)
    by false false x y k = k

slashed_back : (one other : List ℕ) → AllByRecursion IsPlain one → AllByRecursion IsPlain other → slashed one ≡ slashed other → one ≡ other
slashed_back [] [] p q e = refl
slashed_back [] (b ∷ other) p q e = absurd (cc)
slashed_back (a ∷ one) [] p q e = absurd (cc)
slashed_back (a ∷ one) (b ∷ other) p q e =
    let head : swap a ≡ swap b = cc in
    let rest : slashed one ≡ slashed other = cc in
    let same : a ≡ b = swap_back a b p.0 q.0 head in
    let more : one ≡ other = slashed_back one other p.1 q.1 rest in
    cc (same, more)

no_dot : (b : ℕ) → IsPlain b → swap b ≢ 46
no_dot b p e = by (eqb b 58) refl e
  where
    by : (x : Bool) → eqb b 58 ≡ x → (if x then 47 else b) ≡ 46 → ⊥
    by true x k = omega (arith, k)
    by false x k = p.1 k

-- what is before the first dot is one thing
before_dot : (one other x y : List ℕ) → AllByRecursion IsPlain one → AllByRecursion IsPlain other
    → slashed one ++ 46 ∷ x ≡ slashed other ++ 46 ∷ y → (slashed one ≡ slashed other) × (x ≡ y)
before_dot [] [] x y p q e = let rest : x ≡ y = cc in (refl, rest)
before_dot [] (b ∷ other) x y p q e = let head : swap b ≡ 46 = cc in absurd (no_dot b q.0 head)
before_dot (a ∷ one) [] x y p q e = let head : swap a ≡ 46 = cc in absurd (no_dot a p.0 head)
before_dot (a ∷ one) (b ∷ other) x y p q e =
    let head : swap a ≡ swap b = cc in
    let rest : slashed one ++ 46 ∷ x ≡ slashed other ++ 46 ∷ y = cc in
    let r = before_dot one other x y p.1 q.1 rest in
    let more : slashed one ≡ slashed other = r.0 in
    (cc (head, more), r.1)

pub separate : PlacesAreDistinct
separate one other p q e =
    let inner : slashed one ++ codes ".record" ≡ slashed other ++ codes ".record" = append_cancel_left (codes ".gb/tasks") _ _ e in
    let r = before_dot one other (codes "record") (codes "record") (path_plain one p) (path_plain other q) inner in
    slashed_back one other (path_plain one p) (path_plain other q) r.0

append_assoc₃ : (a b d rest : List ℕ) → ((a ++ (b ++ d)) ++ 47 ∷ []) ++ rest ≡ a ++ (b ++ (d ++ 47 ∷ rest))
append_assoc₃ [] [] [] rest = refl
append_assoc₃ [] [] (x ∷ d) rest = ap (λ l. x ∷ l) (append_assoc₃ [] [] d rest)
append_assoc₃ [] (x ∷ b) d rest = ap (λ l. x ∷ l) (append_assoc₃ [] b d rest)
append_assoc₃ (x ∷ a) b d rest = ap (λ l. x ∷ l) (append_assoc₃ a b d rest)

pub none_beneath : NoPlaceBeneath
none_beneath one other p q h =
    let b = begins (record_place one) (record_place other ++ 47 ∷ []) h in
    let whole : record_place one ≡ codes ".gb/tasks" ++ (slashed other ++ (codes ".record" ++ 47 ∷ b.0)) = b.1 ∙ append_assoc₃ (codes ".gb/tasks") (slashed other) (codes ".record") b.0 in
    let inner : slashed one ++ codes ".record" ≡ slashed other ++ (codes ".record" ++ 47 ∷ b.0) = append_cancel_left (codes ".gb/tasks") _ _ whole in
    let r = before_dot one other (codes "record") (codes "record" ++ 47 ∷ b.0) (path_plain one p) (path_plain other q) inner in
    let tail : codes "record" ≡ codes "record" ++ 47 ∷ b.0 = r.1 in
    absurd (cc (tail))

-- ---- a record's place is a text

swap_low : (c : ℕ) → IsPlain c → swap c < 128
swap_low c p = by (eqb c 58)
  where
    by : (b : Bool) → (if b then 47 else c) < 128
    by true = omega arith
    by false = p.2

slashed_ascii : (text : List ℕ) → AllByRecursion IsPlain text → IsAscii (slashed text)
slashed_ascii [] p i = omega arith
slashed_ascii (c ∷ text) p zero = swap_low c p.0
slashed_ascii (c ∷ text) p (suc i) = slashed_ascii text p.1 i

pub IsUtf8-record_place : (path : List ℕ) → is_task_path path ≡ true → IsUtf8 (record_place path)
IsUtf8-record_place path h =
    IsUtf8-append _ _ (IsUtf8-append _ _ (IsUtf8-are_ascii (codes ".gb/tasks") refl) (IsUtf8-from_ascii _ (slashed_ascii path (path_plain path h))))
    (IsUtf8-are_ascii (codes ".record") refl)

-- a path of a task is a text
path_ascii : (text : List ℕ) → AllByRecursion IsPlain text → IsAscii text
path_ascii [] p i = omega arith
path_ascii (c ∷ text) p zero = p.0.2
path_ascii (c ∷ text) p (suc i) = path_ascii text p.1 i

pub IsUtf8-path : (path : List ℕ) → is_task_path path ≡ true → IsUtf8 path
IsUtf8-path path h = IsUtf8-from_ascii _ (path_ascii path (path_plain path h))
