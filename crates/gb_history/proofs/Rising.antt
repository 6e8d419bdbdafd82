-- Keys ascending from one to the next are strictly in order; and appending to them.
use Rattle.std.proofs.Common.{◌≡◌, ℕ, zero, suc, List, [], ◌∷◌, ◌++◌, map, take, Bool, true, ◌&&◌, Ordering, Less, Equal, Greater, refl, ap, ◌∙◌}
use Rattle.std.specs.Ordering.{is_lt, ordering_reverse, match_ordering}
use Rattle.std.specs.BTreeMap.{insert_entry}
use Rattle.std.specs.List.{AllByRecursion}
use Rattle.std.specs.List.Sorted.{IsStrictlySortedBy}
use Rattle.std.specs.Map.{keys_of}
use Rattle.std.specs.FinMap.Entries.{is_sorted, below_all}
use Rattle.std.proofs.lemmas.Bool.{and_parts}
use Rattle.std.proofs.lemmas.Cmp.{nat_list_cmp_total}
use Rattle.std.specs.Cmp.{both_ways}
use Rattle.gb_core.specs.Lists.{byte_order}
use Rattle.gb_history.specs.Ascending.{ascends_from, ascends}
use Rattle.gb_history.specs.Record.{prints_in}
use Rattle.gb_history.specs.declared.record.OutputRecord.{OutputRecord}

less : (o : Ordering) → is_lt o ≡ true → o ≡ Less
less Less h = refl
less Equal h = absurd (cc)
less Greater h = absurd (cc)

both : (a b : Bool) → a ≡ true → b ≡ true → (a && b) ≡ true
both a b p q = rw (p, q) refl

further : {V : Type 0} (x y : List ℕ) (es : List (List ℕ × V)) → byte_order x y ≡ Less → below_all byte_order y es ≡ true → below_all byte_order x es ≡ true
further x y [] low h = refl
further x y (e ∷ es) low h =
    let parts = and_parts (is_lt (byte_order y e.0)) (below_all byte_order y es) h in
    both _ _ (ap is_lt (nat_list_cmp_total.trans x y e.0 low (less _ parts.0))) (further x y es low parts.1)

below : {V : Type 0} (x : List ℕ) (es : List (List ℕ × V)) → ascends_from x (map (λ e. e.0) es) ≡ true
    → (below_all byte_order x es ≡ true) × (is_sorted byte_order es ≡ true)
below x [] h = (refl, refl)
below x (e ∷ es) h =
    let parts = and_parts (is_lt (byte_order x e.0)) (ascends_from e.0 (map (λ e. e.0) es)) h in
    let rest = below e.0 es parts.1 in
    (both _ _ parts.0 (further x e.0 es (less _ parts.0) rest.0), both _ _ rest.0 rest.1)

above : {V : Type 0} (x : List ℕ) (es : List (List ℕ × V)) → below_all byte_order x es ≡ true → is_sorted byte_order es ≡ true
    → ascends_from x (map (λ e. e.0) es) ≡ true
above x [] low h = refl
above x (e ∷ es) low h =
    let first = and_parts (is_lt (byte_order x e.0)) (below_all byte_order x es) low in
    let parts = and_parts (below_all byte_order e.0 es) (is_sorted byte_order es) h in
    both _ _ first.0 (above e.0 es parts.0 parts.1)

pub ascends-is_sorted : {V : Type 0} (es : List (List ℕ × V)) → ascends (map (λ e. e.0) es) ≡ is_sorted byte_order es
ascends-is_sorted [] = refl
ascends-is_sorted (e ∷ es) = both_ways _ _ (λ h. let b = below e.0 es h in both _ _ b.0 b.1)
    (λ h. let parts = and_parts (below_all byte_order e.0 es) (is_sorted byte_order es) h in above e.0 es parts.0 parts.1)

names_of_outputs : (outputs : List OutputRecord) → map (λ output. output.prints.0) outputs ≡ map (λ prints. prints.0) (prints_in outputs)
names_of_outputs [] = refl
names_of_outputs (output ∷ outputs) = ap (λ names. output.prints.0 ∷ names) (names_of_outputs outputs)

pub outputs-is_sorted : (outputs : List OutputRecord) → ascends (map (λ output. output.prints.0) outputs) ≡ is_sorted byte_order (prints_in outputs)
outputs-is_sorted outputs = ap ascends (names_of_outputs outputs) ∙ ascends-is_sorted (prints_in outputs)

-- ---- entries by ascending keys

below_keys : {V : Type 0} (x : List ℕ) (es : List (List ℕ × V)) → AllByRecursion (λ y. byte_order x y ≡ Less) (keys_of es) → below_all byte_order x es ≡ true
below_keys x [] h = refl
below_keys x (e ∷ es) h = both _ _ (ap is_lt h.0) (below_keys x es h.1)

-- the entries of a map are in order
pub strictly-is_sorted : {V : Type 0} (es : List (List ℕ × V)) → IsStrictlySortedBy byte_order (keys_of es) → is_sorted byte_order es ≡ true
unfolding IsStrictlySortedBy
strictly-is_sorted [] h = refl
strictly-is_sorted (e ∷ es) h = both _ _ (below_keys e.0 es h.0) (strictly-is_sorted es h.1)

below_take : {V : Type 0} (x : List ℕ) (n : ℕ) (es : List (List ℕ × V)) → below_all byte_order x es ≡ true → below_all byte_order x (take n es) ≡ true
below_take x zero es h = refl
below_take x (suc n) [] h = refl
below_take x (suc n) (e ∷ es) h =
    let parts = and_parts (is_lt (byte_order x e.0)) (below_all byte_order x es) h in
    both _ _ parts.0 (below_take x n es parts.1)

pub is_sorted-take : {V : Type 0} (n : ℕ) (es : List (List ℕ × V)) → is_sorted byte_order es ≡ true → is_sorted byte_order (take n es) ≡ true
is_sorted-take zero es h = refl
is_sorted-take (suc n) [] h = refl
is_sorted-take (suc n) (e ∷ es) h =
    let parts = and_parts (below_all byte_order e.0 es) (is_sorted byte_order es) h in
    both _ _ (below_take e.0 n es parts.0) (is_sorted-take n es parts.1)

last_above : {V : Type 0} (y : List ℕ) (prefix : List (List ℕ × V)) (last : List ℕ × V) → below_all byte_order y (prefix ++ last ∷ []) ≡ true → byte_order y last.0 ≡ Less
last_above y [] last h = less _ (and_parts (is_lt (byte_order y last.0)) true h).0
last_above y (e ∷ prefix) last h = last_above y prefix last (and_parts (is_lt (byte_order y e.0)) (below_all byte_order y (prefix ++ last ∷ [])) h).1

-- an entry above all others is appended
pub insert_after : {V : Type 0} (prefix : List (List ℕ × V)) (last : List ℕ × V) → is_sorted byte_order (prefix ++ last ∷ []) ≡ true
    → insert_entry byte_order prefix last.0 last.1 ≡ prefix ++ last ∷ []
insert_after [] last h = refl
insert_after (e ∷ prefix) last h =
    let parts = and_parts (below_all byte_order e.0 (prefix ++ last ∷ [])) (is_sorted byte_order (prefix ++ last ∷ [])) h in
    let high : byte_order last.0 e.0 ≡ Greater =
    nat_list_cmp_total.antisymm last.0 e.0 ∙ ap ordering_reverse (last_above e.0 prefix last parts.0) in
    rw high (ap (λ l. e ∷ l) (insert_after prefix last parts.1))

-- what holds of all values holds of them with one more
pub all_inserted : {V : Type 0} (P : V → Type 0) (es : List (List ℕ × V)) (k : List ℕ) (v : V) → AllByRecursion (λ e. P e.1) es → P v
    → AllByRecursion (λ e. P e.1) (insert_entry byte_order es k v)
all_inserted P [] k v all here = (here, tt)
all_inserted {V = V} P (e ∷ es) k v all here =
    elim (byte_order k e.0) as (λ o. AllByRecursion (λ (x : List ℕ × V). P x.1) (match_ordering o ((k, v) ∷ e ∷ es) ((e.0, v) ∷ es) (e ∷ insert_entry byte_order es k v))) [
      | Less ↦ (here, all)
      | Equal ↦ (here, all.1)
      | Greater ↦ (all.0, all_inserted P es k v all.1 here)
    ]
