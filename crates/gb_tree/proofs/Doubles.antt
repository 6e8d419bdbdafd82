-- Paths in order where one lies under another.
use Rattle.std.proofs.Common.{arith, ◌≡◌, ◌≤◌, ◌<◌, ℕ, zero, suc, Bool, true, false, cond, not, ◌&&◌, ◌||◌, List, [], ◌∷◌, ◌++◌, length, get_or, take, drop, Option, Some, None, refl, sym, ◌∙◌, ap}
use Rattle.std.proofs.lemmas.Bool.{false≢true}
use Rattle.std.proofs.lemmas.List.Sorted.{ranks_by}
use Rattle.std.specs.Cmp.{IsStrictWeakOrder, tied_itself}
use Rattle.std.specs.Cmp.Lexicographic.{bytes_decides, nat_list_cmp_total}
use Rattle.std.specs.FinMap.Entries.{below_all, is_sorted}
use Rattle.std.specs.List.{AllByRecursion, filter}
use Rattle.std.specs.List.Sorted.{IsPartitionedBy, IsPartitionPoint}
use Rattle.std.specs.Ordering.{is_le, is_lt, ordering_reverse}
use Rattle.std.specs.Prelude.{bytes_eq, slice_get}
use Rattle.std.specs.declared.cmp.Ordering.{Ordering}
use Rattle.std.specs.declared.cmp.Ordering.TheVariants.{Less, Equal, Greater}
use Rattle.gb_core.specs.Place.{is_beneath, is_under}
use Rattle.gb_core.specs.Lists.{byte_order, first_of}
use Rattle.gb_folder.specs.Files.{Place}
use Rattle.gb_folder.proofs.Beneath.{between_is_beneath}
use Rattle.gb_core.proofs.Found.{tied_same}
use Rattle.gb_tree.specs.Property.{doubled, paths_of}
use Rattle.gb_tree.specs.Rising.{IsFrom, IsRising}
use Rattle.gb_tree.specs.Tree.{Entries}

abbrev Entry : Type 0
Entry = List ℕ × Place

abbrev comes_before : List ℕ → List ℕ → Bool
comes_before a b = is_lt (byte_order a b)

weak : IsStrictWeakOrder comes_before
weak = ranks_by nat_list_cmp_total (λ (path : List ℕ). path)

-- ---- What lies under a path

not_after : (o : Ordering) → is_le (ordering_reverse o) ≡ not (is_lt o)
not_after Less = refl
not_after Equal = refl
not_after Greater = refl

le_is : (a b : List ℕ) → is_le (byte_order a b) ≡ not (comes_before b a)
le_is a b = ap is_le (nat_list_cmp_total.antisymm a b) ∙ not_after (byte_order b a)

beneath_by : (path text : List ℕ) → is_beneath text path ≡ (not (comes_before text (path ++ 47 ∷ [])) && not (not (comes_before text (path ++ 48 ∷ []))))
beneath_by path text =
    sym (between_is_beneath path text)
    ∙ ap (λ b. b && not (is_le (byte_order (path ++ 48 ∷ []) text))) (le_is (path ++ 47 ∷ []) text)
    ∙ ap (λ b. not (comes_before text (path ++ 47 ∷ [])) && not b) (le_is (path ++ 48 ∷ []) text)

too_early : (path text : List ℕ) → comes_before text (path ++ 47 ∷ []) ≡ true → is_beneath text path ≡ false
too_early path text early = beneath_by path text ∙ ap (λ b. not b && not (not (comes_before text (path ++ 48 ∷ [])))) early

late_from : (early late : Bool) → early ≡ false → (not early && not (not late)) ≡ false → late ≡ false
late_from true late e h = absurd (false≢true (sym e))
late_from false true e h = absurd (false≢true (sym h))
late_from false false e h = refl

and_not : (b : Bool) → (b && false) ≡ false
and_not true = refl
and_not false = refl

too_late : (path text later : List ℕ) → comes_before text (path ++ 47 ∷ []) ≡ false → is_beneath text path ≡ false → comes_before later text ≡ false → is_beneath later path ≡ false
too_late path text later from miss order =
    let past = late_from (comes_before text (path ++ 47 ∷ [])) (comes_before text (path ++ 48 ∷ [])) from (sym (beneath_by path text) ∙ miss) in
    beneath_by path later
    ∙ ap (λ b. not (comes_before later (path ++ 47 ∷ [])) && not (not b)) (weak.chain later text (path ++ 48 ∷ []) order past)
    ∙ and_not (not (comes_before later (path ++ 47 ∷ [])))

none_late : (path text : List ℕ) (entries : Entries) → comes_before text (path ++ 47 ∷ []) ≡ false → is_beneath text path ≡ false → IsFrom text entries → filter (λ other. is_beneath other path) (paths_of entries) ≡ []
none_late path text [] from miss all = refl
none_late path text (entry ∷ entries) from miss all =
    ap (λ b. cond b (entry.0 ∷ filter (λ other. is_beneath other path) (paths_of entries)) (filter (λ other. is_beneath other path) (paths_of entries))) (too_late path text entry.0 from miss all.0)
    ∙ none_late path text entries from miss all.1

-- the first of these, if it lies under the path
abbrev chosen : List ℕ → Entries → Option (List ℕ)
chosen path [] = None
chosen path (entry ∷ entries) = cond (is_beneath entry.0 path) (Some entry.0) None

first_from : (path : List ℕ) (entries : Entries) → IsFrom (path ++ 47 ∷ []) entries → IsRising entries → first_of (filter (λ other. is_beneath other path) (paths_of entries)) ≡ chosen path entries
first_from path [] from rising = refl
first_from path (entry ∷ entries) from rising =
    elim (is_beneath entry.0 path) as (λ b. is_beneath entry.0 path ≡ b
    → first_of (cond b (entry.0 ∷ filter (λ other. is_beneath other path) (paths_of entries)) (filter (λ other. is_beneath other path) (paths_of entries))) ≡ cond b (Some entry.0) None) [
      | true ↦ λ is. refl
      | false ↦ λ miss. ap first_of (none_late path entry.0 entries from.0 miss rising.0)
    ] refl

chosen_of : (path : List ℕ) (entries : Entries) (n : ℕ) → AllByRecursion (λ entry. comes_before entry.0 (path ++ 47 ∷ []) ≡ true) (take n entries) → IsFrom (path ++ 47 ∷ []) (drop n entries) → IsRising entries
    → first_of (filter (λ other. is_beneath other path) (paths_of entries)) ≡ chosen path (drop n entries)
chosen_of path [] n before from rising = ap (chosen path) (nothing n)
  where
    nothing : (n : ℕ) → ◌≡◌ {A = Entries} [] (drop n [])
    nothing zero = refl
    nothing (suc n) = refl
chosen_of path (entry ∷ entries) zero before from rising = first_from path (entry ∷ entries) from rising
chosen_of path (entry ∷ entries) (suc n) before from rising =
    ap (λ b. first_of (cond b (entry.0 ∷ filter (λ other. is_beneath other path) (paths_of entries)) (filter (λ other. is_beneath other path) (paths_of entries)))) (too_early path entry.0 before.0)
    ∙ chosen_of path entries n before.1 from rising.1

pub chosen_there : (path : List ℕ) (entries rest : Entries) (n : ℕ) (entry : Entry) → AllByRecursion (λ entry. comes_before entry.0 (path ++ 47 ∷ []) ≡ true) (take n entries) → IsFrom (path ++ 47 ∷ []) (drop n entries) → IsRising entries
    → rest ≡ drop n entries → slice_get rest 0 ≡ Some entry → first_of (filter (λ other. is_beneath other path) (paths_of entries)) ≡ cond (is_beneath entry.0 path) (Some entry.0) None
chosen_there path entries rest n entry before from rising all is = chosen_of path entries n before from rising ∙ ap (chosen path) (sym all) ∙ by rest is
  where
    reported : Option Entry → Option (List ℕ)
    reported None = None
    reported (Some e) = cond (is_beneath e.0 path) (Some e.0) None

    by : (es : Entries) → slice_get es 0 ≡ Some entry → chosen path es ≡ reported (Some entry)
    by [] is = absurd (cc)
    by (other ∷ es) is = ap reported is

pub none_there : (path : List ℕ) (entries rest : Entries) (n : ℕ) → AllByRecursion (λ entry. comes_before entry.0 (path ++ 47 ∷ []) ≡ true) (take n entries) → IsFrom (path ++ 47 ∷ []) (drop n entries) → IsRising entries
    → rest ≡ drop n entries → slice_get rest 0 ≡ None → first_of (filter (λ other. is_beneath other path) (paths_of entries)) ≡ None
none_there path entries rest n before from rising all is = chosen_of path entries n before from rising ∙ ap (chosen path) (sym all) ∙ by rest is
  where
    by : (es : Entries) → slice_get es 0 ≡ None → chosen path es ≡ None
    by [] is = refl
    by (other ∷ es) is = absurd (cc)

-- ---- What comes before a text

rising_at : (entries : Entries) (i j : ℕ) (d : Entry) → IsRising entries → i ≤ j → j < length entries → comes_before (get_or entries j d).0 (get_or entries i d).0 ≡ false
rising_at [] i j d rising le within = absurd (omega (arith, within))
rising_at (entry ∷ entries) zero zero d rising le within = ap is_lt (tied_itself nat_list_cmp_total entry.0)
rising_at (entry ∷ entries) zero (suc j) d rising le within = from_at entry.0 entries j d rising.0 (omega (arith, within))
  where
    from_at : (path : List ℕ) (entries : Entries) (j : ℕ) (d : Entry) → IsFrom path entries → j < length entries → comes_before (get_or entries j d).0 path ≡ false
    from_at path [] j d from within = absurd (omega (arith, within))
    from_at path (entry ∷ entries) zero d from within = from.0
    from_at path (entry ∷ entries) (suc j) d from within = from_at path entries j d from.1 (omega (arith, within))
rising_at (entry ∷ entries) (suc i) zero d rising le within = absurd (omega (arith, le))
rising_at (entry ∷ entries) (suc i) (suc j) d rising le within = rising_at entries i j d rising.1 (omega (arith, le)) (omega (arith, within))

pub parted : (text : List ℕ) (entries : Entries) → IsRising entries → IsPartitionedBy (λ (entry : Entry). comes_before entry.0 text) entries
parted text entries rising i j d le within before = by (comes_before (get_or entries i d).0 text) refl
  where
    by : (b : Bool) → comes_before (get_or entries i d).0 text ≡ b → b ≡ true
    by true is = refl
    by false is = absurd (false≢true (sym (weak.chain (get_or entries j d).0 (get_or entries i d).0 text (rising_at entries i j d rising le within) is) ∙ before))

pub all_before : (text : List ℕ) (entries : Entries) (n : ℕ) → n ≤ length entries → IsPartitionPoint (λ (entry : Entry). comes_before entry.0 text ≡ true) (λ entry. comes_before entry.0 text ≡ false) entries n
    → AllByRecursion (λ entry. comes_before entry.0 text ≡ true) (take n entries)
all_before text [] n within point = nothing n
  where
    nothing : (n : ℕ) → AllByRecursion (λ (entry : Entry). comes_before entry.0 text ≡ true) (take n [])
    nothing zero = tt
    nothing (suc n) = tt
all_before text (entry ∷ entries) zero within point = tt
all_before text (entry ∷ entries) (suc n) within point = (
  point.0 0 entry (omega arith) (omega arith),
  all_before text entries n (omega (arith, within)) (λ k d low high. point.0 (suc k) d (omega arith) (omega (arith, high)), λ k d low high. point.1 (suc k) d (omega (arith, low)) (omega (arith, high))),
)

pub all_from : (text : List ℕ) (entries : Entries) (n : ℕ) → IsPartitionPoint (λ (entry : Entry). comes_before entry.0 text ≡ true) (λ entry. comes_before entry.0 text ≡ false) entries n → IsFrom text (drop n entries)
all_from text [] n point = nothing n
  where
    nothing : (n : ℕ) → IsFrom text (drop n [])
    nothing zero = tt
    nothing (suc n) = tt
all_from text (entry ∷ entries) zero point = (
  point.1 0 entry (omega arith) (omega arith),
  all_from text entries zero (λ k d low high. absurd (omega (arith, high)), λ k d low high. point.1 (suc k) d (omega arith) (omega (arith, high))),
)
all_from text (entry ∷ entries) (suc n) point =
    all_from text entries n (λ k d low high. point.0 (suc k) d (omega arith) (omega (arith, high)), λ k d low high. point.1 (suc k) d (omega (arith, low)) (omega (arith, high)))

-- ---- A path that occurs again

-- none of these is the path itself
none_same : (path : List ℕ) (entries : Entries) → AllByRecursion (λ entry. bytes_eq entry.0 path ≡ false) entries → filter (λ other. is_under other path) (paths_of entries) ≡ filter (λ other. is_beneath other path) (paths_of entries)
none_same path [] all = refl
none_same path (entry ∷ entries) all =
    ap (λ b. cond (b || is_beneath entry.0 path) (entry.0 ∷ filter (λ other. is_under other path) (paths_of entries)) (filter (λ other. is_under other path) (paths_of entries))) all.0
    ∙ ap (λ others. cond (is_beneath entry.0 path) (entry.0 ∷ others) others) (none_same path entries all.1)

strictly : (a b : List ℕ) → comes_before b a ≡ false → bytes_eq b a ≡ false → byte_order a b ≡ Less
strictly a b from other = by (byte_order b a) refl
  where
    by : (o : Ordering) → byte_order b a ≡ o → byte_order a b ≡ Less
    by Less is = absurd (false≢true (sym from ∙ ap is_lt is))
    by Equal is = absurd (false≢true (sym other ∙ (bytes_decides b a).1 (tied_same b a is)))
    by Greater is = nat_list_cmp_total.antisymm a b ∙ ap ordering_reverse is

not_same : (path text other : List ℕ) → byte_order path text ≡ Less → comes_before other text ≡ false → bytes_eq other path ≡ false
not_same path text other less from = by (bytes_eq other path) refl
  where
    by : (b : Bool) → bytes_eq other path ≡ b → b ≡ false
    by false is = refl
    by true is = absurd (false≢true (sym from ∙ ap (λ x. comes_before x text) ((bytes_decides other path).0 is) ∙ ap is_lt less))

all_other : (path text : List ℕ) (entries : Entries) → byte_order path text ≡ Less → IsFrom text entries → AllByRecursion (λ entry. bytes_eq entry.0 path ≡ false) entries
all_other path text [] less from = tt
all_other path text (entry ∷ entries) less from = (not_same path text entry.0 less from.0, all_other path text entries less from.1)

pub not_again : (path : List ℕ) (entries : Entries) → IsRising entries → IsFrom path entries → ((entry : Entry) → slice_get entries 0 ≡ Some entry → bytes_eq entry.0 path ≡ false)
    → filter (λ other. is_under other path) (paths_of entries) ≡ filter (λ other. is_beneath other path) (paths_of entries)
not_again path [] rising from other = refl
not_again path (entry ∷ entries) rising from other =
    let separate = other entry refl in
    none_same path (entry ∷ entries) (separate, all_other path entry.0 entries (strictly path entry.0 from.0 separate) rising.0)

pub again : (path : List ℕ) (entries : Entries) (entry : Entry) → slice_get entries 0 ≡ Some entry → bytes_eq entry.0 path ≡ true → first_of (filter (λ other. is_under other path) (paths_of entries)) ≡ Some entry.0
again path [] entry is same = absurd (cc)
again path (other ∷ entries) entry is same =
    ap (λ o. reported o) is
    ∙ ap (λ b. first_of (cond (b || is_beneath entry.0 path) (entry.0 ∷ filter (λ other. is_under other path) (paths_of entries)) (filter (λ other. is_under other path) (paths_of entries)))) same
  where
    reported : Option Entry → Option (List ℕ)
    reported None = None
    reported (Some e) = first_of (cond (is_under e.0 path) (e.0 ∷ filter (λ other. is_under other path) (paths_of entries)) (filter (λ other. is_under other path) (paths_of entries)))

-- ---- All of them

pub rising_drop : (entries : Entries) (n : ℕ) → IsRising entries → IsRising (drop n entries)
rising_drop [] zero rising = tt
rising_drop [] (suc n) rising = tt
rising_drop (entry ∷ entries) zero rising = rising
rising_drop (entry ∷ entries) (suc n) rising = rising_drop entries n rising.1

pub from_here : (entries : Entries) (i : ℕ) (d : Entry) → i < length entries → IsRising entries → IsFrom (get_or entries i d).0 (drop (suc i) entries)
from_here [] i d within rising = absurd (omega (arith, within))
from_here (entry ∷ entries) zero d within rising = rising.0
from_here (entry ∷ entries) (suc i) d within rising = from_here entries i d (omega (arith, within)) rising.1

none_under : (path : List ℕ) (entries : Entries) → filter (λ other. is_under other path) (paths_of entries) ≡ [] → IsFrom path entries → below_all byte_order path entries ≡ true
none_under path [] none from = refl
none_under path (entry ∷ entries) none from = by (bytes_eq entry.0 path) (is_beneath entry.0 path) refl (λ rest. none_under path entries rest from.1) none
  where
    by : (same beneath : Bool) → bytes_eq entry.0 path ≡ same → (filter (λ other. is_under other path) (paths_of entries) ≡ [] → below_all byte_order path entries ≡ true)
        → cond (same || beneath) (entry.0 ∷ filter (λ other. is_under other path) (paths_of entries)) (filter (λ other. is_under other path) (paths_of entries)) ≡ []
        → (is_lt (byte_order path entry.0) && below_all byte_order path entries) ≡ true
    by true beneath is more none = absurd (cc)
    by false true is more none = absurd (cc)
    by false false is more none = ap (λ o. is_lt o && below_all byte_order path entries) (strictly path entry.0 from.0 is) ∙ more none

prefix_none : {X : Type 0} (xs ys : List X) → xs ++ ys ≡ [] → (xs ≡ []) × (ys ≡ [])
prefix_none [] ys none = (refl, none)
prefix_none (x ∷ xs) ys none = absurd (cc)

-- where no path occurs again and none lies under another, the paths are strictly ascending
pub strictly_sorted : (entries : Entries) → IsRising entries → doubled (paths_of entries) ≡ [] → is_sorted byte_order entries ≡ true
strictly_sorted [] rising none = refl
strictly_sorted (entry ∷ entries) rising none =
    let parts = prefix_none (filter (λ other. is_under other entry.0) (paths_of entries)) (doubled (paths_of entries)) none in
    ap (λ b. b && is_sorted byte_order entries) (none_under entry.0 entries parts.0 rising.0) ∙ strictly_sorted entries rising.1 parts.1
