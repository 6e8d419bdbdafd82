-- The path of a task is the middle of its record's place, with slashes replaced by colons.
use Rattle.std.proofs.Common.{◌≡◌, ◌≢◌, ℕ, Bool, true, false, cond, eqb, List, [], ◌∷◌, refl, ap, ap₂, sym, arith}
use Rattle.std.specs.Prelude.{◌==◌, if◌then◌else◌}
use Rattle.std.specs.List.{AllByRecursion, list_all, slice_split, onto_first}
use Rattle.std.proofs.lemmas.Bool.{and_parts, eqb-true}
use Rattle.gb_core.specs.Name.{is_letter, is_name, is_name_byte}
use Rattle.gb_core.specs.Path.{is_task_path}
use Rattle.gb_core.proofs.TaskPaths.{name_bytes}
use Rattle.gb_history.specs.Places.{slashed}
use Rattle.gb_query.specs.Owner.{coloned}

-- ---- A path of a task has no slash

abbrev IsNoSlash : ℕ → Type 0
IsNoSlash c = c ≢ 47

abbrev HasNoSlash : List ℕ → Type 0
HasNoSlash text = AllByRecursion IsNoSlash text

all_free : (text : List ℕ) → list_all is_name_byte text ≡ true → HasNoSlash text
all_free [] h = tt
all_free (c ∷ text) h = let p = and_parts (is_name_byte c) (list_all is_name_byte text) h in ((λ e. absurd (cc (p.0, ap is_name_byte e))), all_free text p.1)

name_free : (name : List ℕ) → is_name name ≡ true → HasNoSlash name
name_free [] h = tt
name_free (c ∷ text) h = let b = name_bytes c text h in ((λ e. absurd (cc (b.0, ap is_letter e))), all_free text b.1)

names_free : (parts : List (List ℕ)) → list_all is_name parts ≡ true → AllByRecursion HasNoSlash parts
names_free [] h = tt
names_free (p ∷ parts) h = let q = and_parts (is_name p) (list_all is_name parts) h in (name_free p q.0, names_free parts q.1)

colon_free : (c : ℕ) → eqb c 58 ≡ true → IsNoSlash c
colon_free c h = let e : c ≡ 58 = eqb-true c 58 h in λ s. omega (arith, e, s)

first_free : (c : ℕ) (parts : List (List ℕ)) → AllByRecursion HasNoSlash (onto_first c parts) → IsNoSlash c × AllByRecursion HasNoSlash parts
first_free c [] h = (h.0.0, tt)
first_free c (p ∷ parts) h = (h.0.0, (h.0.1, h.1))

split_step : (c : ℕ) (text : List ℕ) (b : Bool) → eqb c 58 ≡ b → AllByRecursion HasNoSlash (cond b ([] ∷ slice_split (λ b. eqb b 58) text) (onto_first c (slice_split (λ b. eqb b 58) text)))
    → IsNoSlash c × AllByRecursion HasNoSlash (slice_split (λ b. eqb b 58) text)
split_step c text true e k = (colon_free c e, k.1)
split_step c text false e k = first_free c (slice_split (λ b. eqb b 58) text) k

split_free : (text : List ℕ) → AllByRecursion HasNoSlash (slice_split (λ b. eqb b 58) text) → HasNoSlash text
split_free [] h = tt
split_free (c ∷ text) h = let s = split_step c text (eqb c 58) refl h in (s.0, split_free text s.1)

path_free : (path : List ℕ) → is_task_path path ≡ true → HasNoSlash path
path_free [] h = tt
path_free (c ∷ text) h =
    let p = and_parts (eqb c 58) (list_all is_name (slice_split (λ b. eqb b 58) text)) h in
    (colon_free c p.0, split_free text (names_free _ p.1))

-- ---- Slashes as colons again

back : (b : ℕ) → IsNoSlash b → (if (if b == 58 then 47 else b) == 47 then 58 else (if b == 58 then 47 else b)) ≡ b
back b free = by (eqb b 58) (eqb b 47) refl refl
  where
    by : (x y : Bool) → eqb b 58 ≡ x → eqb b 47 ≡ y → (if (if x then 47 else b) == 47 then 58 else (if x then 47 else b)) ≡ b
    by true y colon slash = sym (eqb-true b 58 colon)
    by false true colon slash = absurd (free (eqb-true b 47 slash))
    by false false colon slash = ap (λ t. if t then 58 else b) slash

all_back : (text : List ℕ) → HasNoSlash text → coloned (slashed text) ≡ text
all_back [] free = refl
all_back (b ∷ text) free = ap₂ (λ x xs. x ∷ xs) (back b free.0) (all_back text free.1)

pub path_back : (path : List ℕ) → is_task_path path ≡ true → coloned (slashed path) ≡ path
path_back path h = all_back path (path_free path h)
