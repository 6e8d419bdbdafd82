-- A list in order is the only list in order of its entries.
use Rattle.std.proofs.Common.{arith, add-one, ◌≡◌, ◌+◌, ℕ, suc, Bool, true, false, cond, List, [], ◌∷◌, refl, sym, ◌∙◌, ap}
use Rattle.std.proofs.lemmas.Cmp.{then_total, on_total}
use Rattle.std.proofs.lemmas.List.Elements.{recursion_from_All}
use Rattle.std.proofs.lemmas.List.Sorted.{ranks_by, sorted_far, sum_by-IsPermutation}
use Rattle.std.proofs.lemmas.List.Sums.{sum_by-cons}
use Rattle.std.specs.Cmp.{IsTotalOrder, IsStrictWeakOrder, tied_itself}
use Rattle.std.specs.Cmp.Lexicographic.{nat_list_cmp_total}
use Rattle.std.specs.List.{AllByRecursion, sum_by}
use Rattle.std.specs.List.Sorted.{IsPermutation, IsSorted}
use Rattle.std.specs.Ordering.{is_eq, is_lt, ordering_reverse, ordering_then}
use Rattle.std.specs.Prelude.{⊤}
use Rattle.std.specs.declared.cmp.Ordering.{Ordering}
use Rattle.std.specs.declared.cmp.Ordering.TheVariants.{Less, Equal, Greater}
use Rattle.gb_core.specs.Lists.{byte_order}
use Rattle.gb_folder.specs.Files.{Place}
use Rattle.gb_core.proofs.Found.{tied_same}
use Rattle.gb_tree.specs.Property.{entry_order, in_order, inserted}
use Rattle.gb_tree.specs.Rising.{IsFrom, IsRising}
use Rattle.gb_tree.specs.Tree.{Entries}

abbrev pub Entry : Type 0
Entry = List ℕ × Place

pub order_total : IsTotalOrder entry_order
order_total = then_total (on_total (λ (e : Entry). e.0) nat_list_cmp_total) (on_total (λ (e : Entry). e.1) nat_list_cmp_total)

abbrev comes_before : Entry → Entry → Bool
comes_before a b = is_lt (entry_order a b)

weak : IsStrictWeakOrder comes_before
weak = ranks_by order_total (λ (e : Entry). e)

same_entry : (a b : Entry) → entry_order a b ≡ Equal → a ≡ b
same_entry a b e = parts (byte_order a.0 b.0) refl e
  where
    parts : (o : Ordering) → byte_order a.0 b.0 ≡ o → ordering_then o (byte_order a.1 b.1) ≡ Equal → a ≡ b
    parts Less is e = absurd (let h : Less ≡ Equal = e in cc)
    parts Equal is e = ap (λ path. (path, a.1)) (tied_same a.0 b.0 is) ∙ ap (λ place. (b.0, place)) (tied_same a.1 b.1 e)
    parts Greater is e = absurd (let h : Greater ≡ Equal = e in cc)

abbrev Follow : Entry → Entries → Type 0
Follow entry entries = AllByRecursion (λ other. comes_before other entry ≡ false) entries

abbrev AreOrdered : Entries → Type 0
AreOrdered [] = ⊤
AreOrdered (entry ∷ entries) = Follow entry entries × AreOrdered entries

pub all_inserted : (P : Entry → Type 0) (entry : Entry) (entries : Entries) → P entry → AllByRecursion P entries → AllByRecursion P (inserted entry entries)
all_inserted P entry [] one all = (one, tt)
all_inserted P entry (other ∷ others) one all = elim (comes_before other entry) as (λ b. AllByRecursion P (cond b (other ∷ inserted entry others) (entry ∷ other ∷ others))) [
  | true ↦ (all.0, all_inserted P entry others one all.1)
  | false ↦ (one, all)
]

pub all_in_order : (P : Entry → Type 0) (entries : Entries) → AllByRecursion P entries → AllByRecursion P (in_order entries)
all_in_order P [] all = tt
all_in_order P (entry ∷ entries) all = all_inserted P entry (in_order entries) all.0 (all_in_order P entries all.1)

follow_later : (entry other : Entry) (entries : Entries) → comes_before other entry ≡ false → Follow other entries → Follow entry entries
follow_later entry other [] h all = tt
follow_later entry other (next ∷ entries) h all = (weak.chain next other entry all.0 h, follow_later entry other entries h all.1)

ordered_inserted : (entry : Entry) (entries : Entries) → AreOrdered entries → AreOrdered (inserted entry entries)
ordered_inserted entry [] ordered = (tt, tt)
ordered_inserted entry (other ∷ others) ordered = elim (comes_before other entry) as (λ b. comes_before other entry ≡ b → AreOrdered (cond b (other ∷ inserted entry others) (entry ∷ other ∷ others))) [
  | true ↦ λ is. (all_inserted (λ next. comes_before next other ≡ false) entry others (weak.one_way other entry is) ordered.0, ordered_inserted entry others ordered.1)
  | false ↦ λ is. ((is, follow_later entry other others is ordered.0), ordered)
] refl

ordered_in_order : (entries : Entries) → AreOrdered (in_order entries)
ordered_in_order [] = tt
ordered_in_order (entry ∷ entries) = ordered_inserted entry (in_order entries) (ordered_in_order entries)

-- ---- How often an entry occurs

abbrev pub one_if : Ordering → ℕ
one_if o = cond (is_eq o) 1 0

abbrev count : Entry → Entries → ℕ
count entry entries = sum_by (λ other. one_if (entry_order entry other)) entries

count-cons : (entry other : Entry) (entries : Entries) → count entry (other ∷ entries) ≡ one_if (entry_order entry other) + count entry entries
count-cons entry other entries = sum_by-cons (λ other. one_if (entry_order entry other)) other entries

count_inserted : (sought entry : Entry) (entries : Entries) → count sought (inserted entry entries) ≡ one_if (entry_order sought entry) + count sought entries
count_inserted sought entry [] = count-cons sought entry []
count_inserted sought entry (other ∷ others) = elim (comes_before other entry) as (λ b. count sought (cond b (other ∷ inserted entry others) (entry ∷ other ∷ others)) ≡ one_if (entry_order sought entry) + count sought (other ∷ others)) [
  | true ↦ omega (arith, count-cons sought other (inserted entry others), count_inserted sought entry others, count-cons sought other others)
  | false ↦ count-cons sought entry (other ∷ others)
]

count_in_order : (sought : Entry) (entries : Entries) → count sought (in_order entries) ≡ count sought entries
count_in_order sought [] = refl
count_in_order sought (entry ∷ entries) = omega (arith, count_inserted sought entry (in_order entries), count_in_order sought entries, count-cons sought entry entries)

count_first : (entry : Entry) (entries : Entries) → count entry (entry ∷ entries) ≡ 1 + count entry entries
count_first entry entries = count-cons entry entry entries ∙ ap (λ o. one_if o + count entry entries) (tied_itself order_total entry)

-- an entry before all others is none of them
none_later : (entry other : Entry) (entries : Entries) → entry_order entry other ≡ Less → Follow other entries → count entry entries ≡ 0
none_later entry other [] less all = refl
none_later entry other (next ∷ entries) less all =
    omega (arith, count-cons entry next entries, separate (entry_order entry next) refl, none_later entry other entries less all.1)
  where
    separate : (o : Ordering) → entry_order entry next ≡ o → one_if o ≡ 0
    separate Less is = refl
    separate Equal is = absurd (let e : true ≡ false = sym (ap is_lt less) ∙ ap (λ (x : Entry). comes_before x other) (same_entry entry next is) ∙ all.0 in cc)
    separate Greater is = refl

none_in : (entry other : Entry) (entries : Entries) → entry_order entry other ≡ Less → Follow other entries → count entry (other ∷ entries) ≡ 0
none_in entry other entries less all =
    let separate = ap (λ o. one_if o) less in
    omega (arith, count-cons entry other entries, separate, none_later entry other entries less all)

same_list : (xs ys : Entries) → AreOrdered xs → AreOrdered ys → ((entry : Entry) → count entry xs ≡ count entry ys) → xs ≡ ys
same_list [] [] first second same = refl
same_list [] (y ∷ ys) first second same = absurd (omega (arith, same y, count_first y ys))
same_list (x ∷ xs) [] first second same = absurd (omega (arith, same x, count_first x xs))
same_list (x ∷ xs) (y ∷ ys) first second same = by (entry_order x y) refl (same_list xs ys first.1 second.1)
  where
    by : (o : Ordering) → entry_order x y ≡ o → (((entry : Entry) → count entry xs ≡ count entry ys) → xs ≡ ys) → x ∷ xs ≡ y ∷ ys
    by Less is more = absurd (omega (arith, same x, count_first x xs, none_in x y ys is second.0))
    by Equal is more =
        ap (λ z. z ∷ xs) (same_entry x y is)
        ∙ ap (λ zs. y ∷ zs) (more (λ entry.
        let here = ap (λ (z : Entry). one_if (entry_order entry z)) (same_entry x y is) in
        omega (arith, here, same entry, count-cons entry x xs, count-cons entry y ys)))
    by Greater is more = absurd (omega (arith, same y, count_first y ys, none_in y x xs (order_total.antisymm y x ∙ ap ordering_reverse is) first.0))

-- ---- What a sort gives

ordered_from : (entries : Entries) → IsSorted entry_order entries → AreOrdered entries
ordered_from [] sorted = tt
ordered_from (entry ∷ entries) sorted = (
  recursion_from_All (λ other. comes_before other entry ≡ false) entries (λ i d within. sorted_far comes_before weak (entry ∷ entries) sorted 0 (suc i) d (omega arith) (omega (arith, within))),
  ordered_from entries (λ k d low high. rw add-one (rw add-one at (sorted (suc k) d (omega arith) (omega (arith, high))))),
)

pub sorted_is : (xs ys : Entries) → IsPermutation xs ys → IsSorted entry_order ys → ys ≡ in_order xs
sorted_is xs ys permutation sorted =
    same_list ys (in_order xs) (ordered_from ys sorted) (ordered_in_order xs)
    (λ entry. sum_by-IsPermutation (λ other. one_if (entry_order entry other)) xs ys permutation ∙ sym (count_in_order entry xs))

-- two lists in order that have each entry equally often are the same list
pub same_in_order : (xs ys : Entries) → ((entry : Entry) → sum_by (λ other. one_if (entry_order entry other)) xs ≡ sum_by (λ other. one_if (entry_order entry other)) ys) → in_order xs ≡ in_order ys
same_in_order xs ys same =
    same_list (in_order xs) (in_order ys) (ordered_in_order xs) (ordered_in_order ys)
    (λ entry. count_in_order entry xs ∙ same entry ∙ sym (count_in_order entry ys))

first_counts : (o p : Ordering) → is_lt (ordering_then o p) ≡ false → is_lt o ≡ false
first_counts Less p h = h
first_counts Equal p h = refl
first_counts Greater p h = refl

paths_follow : (entry : Entry) (entries : Entries) → Follow entry entries → IsFrom entry.0 entries
paths_follow entry [] all = tt
paths_follow entry (other ∷ entries) all = (first_counts (byte_order other.0 entry.0) (byte_order other.1 entry.1) all.0, paths_follow entry entries all.1)

paths_rise : (entries : Entries) → AreOrdered entries → IsRising entries
paths_rise [] ordered = tt
paths_rise (entry ∷ entries) ordered = (paths_follow entry entries ordered.0, paths_rise entries ordered.1)

pub rising_in_order : (entries : Entries) → IsRising (in_order entries)
rising_in_order entries = paths_rise (in_order entries) (ordered_in_order entries)
