-- Lists of tasks in order.
use Rattle.std.proofs.Common.{◌≡◌, ℕ, List, [], ◌∷◌, ◌++◌, length, take, append-nil, refl, sym, ap, subst, ◌∙◌, Result, Ok, Err, OnErr, OnOk, arith}
use Rattle.std.specs.BTreeSet.{insert_key}
use Rattle.std.specs.List.{AllByRecursion, AllZip}
use Rattle.std.specs.List.Sorted.{IsStrictlySortedBy}
use Rattle.std.specs.Ordering.{match_ordering, ordering_reverse}
use Rattle.std.specs.Cmp.Lexicographic.{nat_list_cmp_total}
use Rattle.std.specs.declared.cmp.Ordering.TheVariants.{Less, Greater}
use Rattle.std.proofs.lemmas.List.{append_assoc}
use Rattle.std.proofs.lemmas.List.Elements.{same_from_all_zip}
use Rattle.std.proofs.Math.Seq.{take-append_seam}
use Rattle.gb_core.specs.Tasks.{with_tasks}
use Rattle.gb_core.specs.Lists.{byte_order}

-- a task above all others goes last
put_last : (tasks : List (List ℕ)) (task : List ℕ) → AllByRecursion (λ other. byte_order other task ≡ Less) tasks → insert_key byte_order tasks task ≡ tasks ++ task ∷ []
put_last [] task below = refl
put_last (other ∷ tasks) task below =
    let after : byte_order task other ≡ Greater = nat_list_cmp_total.antisymm task other ∙ ap ordering_reverse below.0 in
    ap (λ o. match_ordering o (task ∷ other ∷ tasks) (other ∷ tasks) (other ∷ insert_key byte_order tasks task)) after
    ∙ ap (λ rest. other ∷ rest) (put_last tasks task below.1)

at_seam : {X : Type 0} (P : X → Type 0) (prefix : List X) (x : X) (back : List X) → AllByRecursion P (prefix ++ x ∷ back) → P x
at_seam P [] x back all = all.0
at_seam P (y ∷ prefix) x back all = at_seam P prefix x back all.1

prefix_below : (prefix : List (List ℕ)) (task : List ℕ) (back : List (List ℕ)) → IsStrictlySortedBy byte_order (prefix ++ task ∷ back) → AllByRecursion (λ other. byte_order other task ≡ Less) prefix
unfolding IsStrictlySortedBy
prefix_below [] task back sorted = tt
prefix_below (other ∷ prefix) task back sorted = (at_seam (λ y. byte_order other y ≡ Less) prefix task back sorted.0, prefix_below prefix task back sorted.1)

with_above : (tasks prefix : List (List ℕ)) → IsStrictlySortedBy byte_order (prefix ++ tasks) → with_tasks prefix tasks ≡ prefix ++ tasks
with_above [] prefix sorted = sym (append-nil prefix)
with_above (task ∷ tasks) prefix sorted =
    let last = put_last prefix task (prefix_below prefix task tasks sorted) in
    let seam = append_assoc prefix (task ∷ []) tasks in
    ap (λ f. with_tasks f tasks) last
    ∙ (with_above tasks (prefix ++ task ∷ []) (subst (IsStrictlySortedBy byte_order) (sym seam) sorted) ∙ seam)

-- inserting tasks that are already in order into the empty list gives the same tasks
pub with_ordered : (tasks : List (List ℕ)) → IsStrictlySortedBy byte_order tasks → with_tasks [] tasks ≡ tasks
with_ordered tasks sorted = with_above tasks [] sorted

with_more : (there a b : List (List ℕ)) → with_tasks there (a ++ b) ≡ with_tasks (with_tasks there a) b
with_more there [] b = refl
with_more there (task ∷ a) b = with_more (insert_key byte_order there task) a b

-- the prefix of tasks already inserted, one task longer
pub prefix_grows : (there prefix whole rest : List (List ℕ)) (task : List ℕ) → prefix ++ task ∷ rest ≡ whole
    → (longer : List (List ℕ)) × (longer ++ rest ≡ whole) × (insert_key byte_order (with_tasks there prefix) task ≡ with_tasks there longer)
prefix_grows there prefix whole rest task is =
    (prefix ++ task ∷ [], append_assoc prefix (task ∷ []) rest ∙ is, sym (with_more there prefix (task ∷ [])))

-- the prefix of tasks already inserted, given by its length
pub prefix_counted : (there now prefix whole rest : List (List ℕ)) → prefix ++ rest ≡ whole → now ≡ with_tasks there prefix
    → (added : ℕ) × (now ≡ with_tasks there (take added whole))
prefix_counted there now prefix whole rest is put =
    (length prefix, put ∙ ap (with_tasks there) (sym (ap (take (length prefix)) (sym is) ∙ take-append_seam prefix rest)))

pub if_refused : {T E P : Type 0} (result : Result T E) → P → OnErr result P
if_refused (Ok value) p = tt
if_refused (Err error) p = p

-- a clone of tasks in order equals the result of inserting them into an empty list
pub with_cloned : (there tasks cloned : List (List ℕ)) → length there ≡ 0 → IsStrictlySortedBy byte_order tasks → AllZip (λ task copied. copied ≡ task) tasks cloned → cloned ≡ with_tasks there tasks
with_cloned [] tasks cloned none sorted same = same_from_all_zip (λ task copied. copied ≡ task) tasks cloned same (λ x y e. e) ∙ sym (with_ordered tasks sorted)
with_cloned (task ∷ there) tasks cloned none sorted same = absurd (omega arith)

pub if_done : {T E P Q : Type 0} (result : Result T E) → (P → Q) → OnOk result P → OnOk result Q
if_done (Ok value) f p = f p
if_done (Err error) f p = tt
