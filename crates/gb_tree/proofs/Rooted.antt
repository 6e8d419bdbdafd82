-- What the starts of one root more give.
use Rattle.std.proofs.Common.{arith, ◌≡◌, ◌≤◌, ◌<◌, ◌+◌, inl, inr, ℕ, zero, suc, ◌||◌, IsTrue, List, [], ◌∷◌, ◌++◌, length, map, take, drop, get_or, refl, sym, ◌∙◌, ap, subst, append_assoc}
use Rattle.std.proofs.lemmas.Bool.{or_left, or_right}
use Rattle.std.proofs.lemmas.Grind.{flat_map-append}
use Rattle.std.proofs.lemmas.List.{map-append, take-append-drop, take_more}
use Rattle.std.proofs.lemmas.List.Elements.{filter-append}
use Rattle.std.proofs.lemmas.List.Folds.{list_any-append}
use Rattle.std.specs.List.{AllZip, flat_map, list_any, zip}
use Rattle.gb_core.specs.Lists.{first_of}
use Rattle.gb_core.specs.Place.{is_under}
use Rattle.gb_folder.specs.Calls.{Requests, no_change}
use Rattle.gb_folder.specs.Files.{Contents, Files, Place, is_special_under}
use Rattle.gb_folder.specs.Limits.{max_files}
use Rattle.gb_folder.proofs.Answering.{on_longer_way}
use Rattle.gb_folder.proofs.Asked.{requests_nothing}
use Rattle.gb_tree.specs.Answered.{IsStartListed, listed_in}
use Rattle.gb_tree.specs.Property.{entries_in, found_from, held, is_under_any, places_of, starts_in, starts_of}
use Rattle.gb_tree.specs.Tree.{Entries, IsRefused, special_roots}
use Rattle.gb_tree.specs.declared.fault.TreeFault.{TreeFault}
use Rattle.gb_tree.specs.declared.fault.TreeFault.TheVariants as faults
use Rattle.gb_tree.specs.declared.property.Naming.{Naming}
use Rattle.gb_tree.proofs.Answering.{all_zip_more}
use Rattle.gb_tree.proofs.Holding.{take_again}
use Rattle.gb_tree.proofs.Loops.{step_here}
use Rattle.gb_tree.proofs.Refused.{back_first, prefix_first, machine_before}
use Rattle.gb_folder.specs.Calls.{Device}

-- ---- What is held

take_less : {X : Type 0} (n m : ℕ) (ys : List X) → n ≤ m → take n (take m ys) ≡ take n ys
take_less zero m ys le = refl
take_less (suc n) zero ys le = absurd (omega (arith, le))
take_less (suc n) (suc m) [] le = refl
take_less (suc n) (suc m) (y ∷ ys) le = ap (λ zs. y ∷ zs) (take_less n m ys (omega (arith, le)))

take_after : {X : Type 0} (n m : ℕ) (xs ys : List X) → n ≤ m → take n (xs ++ take m ys) ≡ take n (xs ++ ys)
take_after zero m xs ys le = refl
take_after (suc n) m [] ys le = take_less (suc n) m ys le
take_after (suc n) m (x ∷ xs) ys le = ap (λ zs. x ∷ zs) (take_after n m xs ys (omega (arith, le)))

-- what is held of two parts is held of the whole
pub held_both : (kept here xs ys : Entries) → kept ≡ held xs → here ≡ held ys → held (kept ++ here) ≡ held (xs ++ ys)
held_both kept here xs ys first second =
    ap (λ es. held (es ++ here)) first ∙ ap (λ es. held (held xs ++ es)) second
    ∙ take_again (max_files + 1) xs (held ys)
    ∙ take_after (max_files + 1) (max_files + 1) xs ys (omega arith)

-- ---- The starts

abbrev from_root : List (List ℕ) → Place → List (Place × Place)
from_root include root = map (λ start. (root, start)) (starts_of include root)

-- the starts of a root come after those of the roots before it
pub starts_more : (include : List (List ℕ)) (roots : List Place) (i : ℕ) (root : Place) → i < length roots → root ≡ get_or roots i root
    → starts_in include (take (i + 1) roots) ≡ starts_in include (take i roots) ++ starts_in include (root ∷ [])
starts_more include roots i root within is =
    ap (starts_in include) (take_more roots i root within ∙ ap (λ next. take i roots ++ next ∷ []) (sym is))
    ∙ flat_map-append (from_root include) (take i roots) (root ∷ [])

-- and before those of the roots after it
starts_around : (include : List (List ℕ)) (roots : List Place) (i : ℕ) (root : Place) → i < length roots → root ≡ get_or roots i root
    → starts_in include roots ≡ starts_in include (take i roots) ++ (starts_in include (root ∷ []) ++ starts_in include (drop (i + 1) roots))
starts_around include roots i root within is =
    ap (starts_in include) (sym (take-append-drop i roots))
    ∙ flat_map-append (from_root include) (take i roots) (drop i roots)
    ∙ ap (λ starts. starts_in include (take i roots) ++ starts)
    (step_here (starts_in include) roots i root within is ∙ flat_map-append (from_root include) (root ∷ []) (drop (i + 1) roots))

under_either : (first second : List (Place × Place)) (at : Place) → is_under_any (places_of (first ++ second)) at ≡ (is_under_any (places_of first) at || is_under_any (places_of second) at)
under_either first second at =
    ap (list_any (is_under at)) (map-append (λ (start : Place × Place). start.1) first second)
    ∙ list_any-append (is_under at) (places_of first) (places_of second)

-- what lies under a start of one root lies under one of all
pub under_all : (include : List (List ℕ)) (roots : List Place) (i : ℕ) (root at : Place) → i < length roots → root ≡ get_or roots i root
    → IsTrue (is_under_any (places_of (starts_in include (root ∷ []))) at) → IsTrue (is_under_any (places_of (starts_in include roots)) at)
under_all include roots i root at within is h =
    let before = starts_in include (take i roots) in
    let here = starts_in include (root ∷ []) in
    let after = starts_in include (drop (i + 1) roots) in
    ap (λ starts. is_under_any (places_of starts) at) (starts_around include roots i root within is)
    ∙ under_either before (here ++ after) at
    ∙ or_right (is_under_any (places_of before) at) (is_under_any (places_of (here ++ after)) at)
    (under_either here after at ∙ or_left (is_under_any (places_of here) at) (is_under_any (places_of after) at) h)

-- ---- Places that cannot be named

special_both : (contents : Contents) (first second : List (Place × Place))
    → special_roots contents (places_of (first ++ second)) ≡ special_roots contents (places_of first) ++ special_roots contents (places_of second)
special_both contents first second =
    ap (special_roots contents) (map-append (λ (start : Place × Place). start.1) first second)
    ∙ ap (map faults.BadFileName) (filter-append (is_special_under contents) (places_of first) (places_of second))
    ∙ map-append faults.BadFileName _ _

-- where there was none before and is none here, there is none so far
pub none_special_more : (contents : Contents) (include : List (List ℕ)) (roots : List Place) (i : ℕ) (root : Place) → i < length roots → root ≡ get_or roots i root
    → special_roots contents (places_of (starts_in include (take i roots))) ≡ [] → special_roots contents (places_of (starts_in include (root ∷ []))) ≡ []
    → special_roots contents (places_of (starts_in include (take (i + 1) roots))) ≡ []
none_special_more contents include roots i root within is before here =
    let first = starts_in include (take i roots) in
    let second = starts_in include (root ∷ []) in
    ap (λ starts. special_roots contents (places_of starts)) (starts_more include roots i root within is)
    ∙ special_both contents first second
    ∙ ap (λ faults. faults ++ special_roots contents (places_of second)) before
    ∙ here

-- where there was none before, the first here is the first of all
pub refused_here : (one two three : ℕ) (contents : Contents) (include : List (List ℕ)) (roots : List Place) (i : ℕ) (root : Place) (fault : TreeFault) → i < length roots → root ≡ get_or roots i root
    → one ≤ two → two ≤ three → special_roots contents (places_of (starts_in include (take i roots))) ≡ []
    → IsRefused two three (special_roots contents (places_of (starts_in include (root ∷ [])))) fault
    → IsRefused one three (special_roots contents (places_of (starts_in include roots))) fault
refused_here one two three contents include roots i root fault within is le more before (inl machine) = inl (machine_before one two three fault le more machine)
refused_here one two three contents include roots i root fault within is le more before (inr first) =
    let special : List (Place × Place) → List TreeFault = λ starts. special_roots contents (places_of starts) in
    let passed = starts_in include (take i roots) in
    let here = starts_in include (root ∷ []) in
    let after = starts_in include (drop (i + 1) roots) in
    let whole : special (starts_in include roots) ≡ special passed ++ (special here ++ special after) =
    ap special (starts_around include roots i root within is) ∙ special_both contents passed (here ++ after) ∙ ap (λ faults. special passed ++ faults) (special_both contents here after) in
    inr (ap first_of whole ∙ back_first (special passed) (special here ++ special after) before ∙ prefix_first (special here) (special after) fault first)

-- ---- What was found

pub found_more : (naming : Naming) (include exclude : List (List ℕ)) (files : Files) (roots : List Place) (i : ℕ) (root : Place) (kept here : Entries) → i < length roots → root ≡ get_or roots i root
    → kept ≡ held (found_from naming include exclude files (starts_in include (take i roots))) → here ≡ held (found_from naming include exclude files (starts_in include (root ∷ [])))
    → held (kept ++ here) ≡ held (found_from naming include exclude files (starts_in include (take (i + 1) roots)))
found_more naming include exclude files roots i root kept here within is before now =
    let found = found_from naming include exclude files in
    let first = starts_in include (take i roots) in
    let second = starts_in include (root ∷ []) in
    held_both kept here (found first) (found second) before now
    ∙ ap held (sym (ap found (starts_more include roots i root within is) ∙ flat_map-append _ first second))

-- ---- What was listed

zip_both : {A B : Type 0} (R : A → B → Type 0) (xs : List A) (ys : List B) (more : List A) (others : List B) → AllZip R xs ys → AllZip R more others
    → AllZip R (xs ++ more) (ys ++ others)
zip_both R [] [] more others first second = second
zip_both R [] (b ∷ ys) more others first second = absurd first
zip_both R (a ∷ xs) [] more others first second = absurd first
zip_both R (a ∷ xs) (b ∷ ys) more others first second = (first.0, zip_both R xs ys more others first.1 second)

flat_both : {A B Y : Type 0} (R : A → B → Type 0) (f : A × B → List Y) (xs : List A) (ys : List B) (more : List A) (others : List B) → AllZip R xs ys
    → flat_map f (zip (xs ++ more) (ys ++ others)) ≡ flat_map f (zip xs ys) ++ flat_map f (zip more others)
flat_both R f [] [] more others all = refl
flat_both R f [] (b ∷ ys) more others all = absurd all
flat_both R f (a ∷ xs) [] more others all = absurd all
flat_both R f (a ∷ xs) (b ∷ ys) more others all =
    ap (λ rest. f (a, b) ++ rest) (flat_both R f xs ys more others all.1) ∙ sym (append_assoc (f (a, b)) (flat_map f (zip xs ys)) (flat_map f (zip more others)))

module _ {F : Type 0} {device : Device F} where
  -- what was listed at the starts of one root more
  pub one_root_more : {old now new : F} (naming : Naming) (include exclude : List (List ℕ)) (roots : List Place) (i : ℕ) (root : Place) (kept here : Entries)
      → i < length roots → root ≡ get_or roots i root → Requests device no_change old now → Requests device no_change now new
      → ((listings : List (List Place)) × AllZip (IsStartListed device old now) (starts_in include (take i roots)) listings
      × (kept ≡ held (listed_in naming include exclude (zip (starts_in include (take i roots)) listings))))
      → ((listings : List (List Place)) × AllZip (IsStartListed device now new) (starts_in include (root ∷ [])) listings
      × (here ≡ held (listed_in naming include exclude (zip (starts_in include (root ∷ [])) listings))))
      → (listings : List (List Place)) × AllZip (IsStartListed device old new) (starts_in include (take (i + 1) roots)) listings
      × (held (kept ++ here) ≡ held (listed_in naming include exclude (zip (starts_in include (take (i + 1) roots)) listings)))
  one_root_more {old = old} {now = now} {new = new} naming include exclude roots i root kept here within is before requests first second =
      let listed = IsStartListed device old new in
      let passed = starts_in include (take i roots) in
      let these = starts_in include (root ∷ []) in
      let earlier = all_zip_more (IsStartListed device old now) listed (λ start places was. on_longer_way (requests_nothing old) requests was) passed first.0 first.1 in
      let later = all_zip_more (IsStartListed device now new) listed (λ start places was. on_longer_way before (requests_nothing new) was) these second.0 second.1 in
      let listings = first.0 ++ second.0 in
      let prefix = starts_more include roots i root within is in
      let given = λ (listing : (Place × Place) × List Place). entries_in naming include exclude listing.0.0 listing.1 in
      let all : List (Place × Place) → Entries = λ starts. listed_in naming include exclude (zip starts listings) in (
        listings,
        subst (λ (starts : List (Place × Place)). AllZip listed starts listings) (sym prefix) (zip_both listed passed first.0 these second.0 earlier later),
        held_both kept here (listed_in naming include exclude (zip passed first.0)) (listed_in naming include exclude (zip these second.0)) first.2 second.2
            ∙ sym (ap held (ap all prefix ∙ flat_both listed given passed first.0 these second.0 earlier)),
      )
