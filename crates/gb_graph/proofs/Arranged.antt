-- The order by number is the order of a plan.
use Rattle.std.specs.Prelude.{ℕ, ◌≡◌, ◌<◌, ◌≤◌, ◌↔◌, Bool, true, false, not, cond, ◌&&◌, ◌||◌, List, [], ◌∷◌, ◌++◌, map, length, get_or, bytes_eq, refl, Contains}
use Rattle.std.specs.List.{list_all, list_any}
use Rattle.std.proofs.Common.{sym, ap, subst, ◌∙◌, inl, inr, arith, append-nil}
use Rattle.std.proofs.lemmas.Bool.{cases_eq}
use Rattle.std.proofs.lemmas.Bool.Decides.{nat_tests}
use Rattle.std.proofs.lemmas.Cmp.{then_total, on_total, nat_cmp_total}
use Rattle.std.proofs.lemmas.List.{map-append, length-map, get_or-map, get_or_default}
use Rattle.std.proofs.lemmas.List.Elements.{Contains-get_or}
use Rattle.std.proofs.lemmas.List.Sorted.{ranks_by, sorted_far}
use Rattle.std.specs.Cmp.{IsTotalOrder, IsStrictWeakOrder}
use Rattle.std.specs.Cmp.Lexicographic.{nat_list_cmp_total}
use Rattle.std.specs.List.Sorted.{IsSortedBy}
use Rattle.std.specs.Ordering.{is_lt, nat_cmp, ordering_then, ordering_reverse}
use Rattle.std.specs.declared.cmp.Ordering.{Ordering}
use Rattle.std.specs.declared.cmp.Ordering.TheVariants.{Less, Equal, Greater}
use Rattle.gb_core.specs.Lists.{byte_order}
use Rattle.gb_core.proofs.Found.{tied_same}
use Rattle.gb_plan.specs.declared.plan.Planned.{Planned}
use Rattle.gb_plan.specs.Task.{Path, has_path}
use Rattle.gb_plan.specs.Graph.{Plan, order, after, needs_in, finalized_by, orders_in, is_scheduled_in, is_ready, precedes, is_in_order, stuck, no_repeats}
use Rattle.gb_plan.proofs.Tests.{not_true, not_false, no_longer, left_of, right_of, or_true, any_append, any_map, at_member, all_of_members, in_filter, into_filter}
use Rattle.gb_plan.proofs.Same.{In, found, finds, planned_at, path_of_in}
use Rattle.gb_graph.specs.Order.{row, IsReady, IsNext, IsOrder}
use Rattle.gb_graph.specs.Ranked.{comes_after, AreDistinct, AreOthers, AreRanked, AreRanks, AreSame, IsArranged, rank_order}
use Rattle.gb_graph.proofs.Edges.{one_number, once_at}
use Rattle.gb_graph.proofs.Bits.{order_known}
use Rattle.gb_graph.proofs.Numbers.{in_of, of_in, in_prefix, in_back, in_either, among, of_map, into_map, both, all_mapped, has_mapped, of_mapped, separate_parts, separate_both, in_order_separate, next_at, grouped, regrouped, either_of, or_first, or_second, or_third, left_or}

-- ---- What a task of a plan comes after

pub path_once : (plan : List Planned) → no_repeats (order plan) ≡ true → (y z : Planned) → In y plan → In z plan → y.task.path ≡ z.task.path → y ≡ z
path_once [] once y z i j e = absurd i
path_once (x ∷ xs) once y z (inl e) (inl f) same = e ∙ sym f
path_once (x ∷ xs) once y z (inl e) (inr j) same =
    not_true (sym (no_longer (has_path (order xs) x.task.path) (left_of (not (has_path (order xs) x.task.path)) (no_repeats (order xs)) once))
    ∙ (ap (has_path (order xs)) (ap (λ (p : Planned). p.task.path) (sym e) ∙ same) ∙ path_of_in xs z j))
path_once (x ∷ xs) once y z (inr i) (inl f) same =
    not_true (sym (no_longer (has_path (order xs) x.task.path) (left_of (not (has_path (order xs) x.task.path)) (no_repeats (order xs)) once))
    ∙ (ap (has_path (order xs)) (ap (λ (p : Planned). p.task.path) (sym f) ∙ sym same) ∙ path_of_in xs y i))
path_once (x ∷ xs) once y z (inr i) (inr j) same = path_once xs (right_of (not (has_path (order xs) x.task.path)) (no_repeats (order xs)) once) y z i j same

module _ (plan : Plan) (z : Planned) where
  abbrev needed : Path → Bool
  needed p = has_path (needs_in plan z.task) p

  abbrev finalized : Path → Bool
  finalized p = has_path (finalized_by plan z.task.path) p

  abbrev ordered : Path → Bool
  ordered p = has_path (orders_in plan z.task) p

  abbrev is_finalizer : Planned → Bool
  is_finalizer w = has_path w.task.finalizers z.task.path

  parts : (p : Path) → has_path (after plan z.task) p ≡ (needed p || finalized p || ordered p)
  parts p =
      any_append (bytes_eq p) (needs_in plan z.task ++ finalized_by plan z.task.path) (orders_in plan z.task)
      ∙ ap (λ b. b || ordered p) (any_append (bytes_eq p) (needs_in plan z.task) (finalized_by plan z.task.path))

  pub after_known : (p : Path) → has_path (after plan z.task) p ≡ true → has_path (order plan) p ≡ true
  after_known p h = either_of (needed p) (finalized p) (ordered p) (sym (parts p) ∙ h)
      (λ e. (in_filter (is_scheduled_in plan) z.task.needs p e).1)
      (λ e. let at = found is_finalizer plan p e in subst (λ q. has_path (order plan) q ≡ true) at.3 (path_of_in plan at.0 at.1))
      (λ e. (in_filter (is_scheduled_in plan) z.task.must_run_after p e).1)

  pub after_is : no_repeats (order plan) ≡ true → (y : Planned) → In y plan → has_path (after plan z.task) y.task.path ≡ true → comes_after z y ≡ true
  after_is once y i h =
      let a = has_path z.task.needs y.task.path in
      let b = has_path y.task.finalizers z.task.path in
      let c = has_path z.task.must_run_after y.task.path in
      either_of (needed y.task.path) (finalized y.task.path) (ordered y.task.path) (sym (parts y.task.path) ∙ h)
      (λ e. or_first a b c (in_filter (is_scheduled_in plan) z.task.needs y.task.path e).0)
      (λ e. let at = found is_finalizer plan y.task.path e in
      or_second a b c (subst (λ (w : Planned). has_path w.task.finalizers z.task.path ≡ true) (path_once plan once at.0 y at.1 i at.3) at.2))
      (λ e. or_third a b c (in_filter (is_scheduled_in plan) z.task.must_run_after y.task.path e).0)

  pub after_so : (y : Planned) → In y plan → comes_after z y ≡ true → has_path (after plan z.task) y.task.path ≡ true
  after_so y i h =
      let p = y.task.path in
      parts p ∙ either_of (has_path z.task.needs p) (has_path y.task.finalizers z.task.path) (has_path z.task.must_run_after p) h
      (λ e. or_first (needed p) (finalized p) (ordered p) (into_filter (is_scheduled_in plan) z.task.needs p e (path_of_in plan y i)))
      (λ e. or_second (needed p) (finalized p) (ordered p) (finds is_finalizer plan y i e))
      (λ e. or_third (needed p) (finalized p) (ordered p) (into_filter (is_scheduled_in plan) z.task.must_run_after p e (path_of_in plan y i)))

-- ---- An order by number

module _ (n : ℕ) (f : ℕ → Planned) (table : List (List ℕ)) (done others : List ℕ)
    (each : length table ≡ n)
    (reported : (k j : ℕ) → Contains (row table k) j ↔ ((k < n) × (j < n) × (comes_after (f k) (f j) ≡ true)))
    (ranked : (i j : ℕ) → i < j → j < n → precedes (f i) (f j) ≡ true)
    (paths : (i j : ℕ) → i < n → j < n → (f i).task.path ≡ (f j).task.path → i ≡ j)
    (is_order : IsOrder table done) (are_others : AreOthers n done others) where
  abbrev numbers : List ℕ
  numbers = done ++ others

  abbrev path : ℕ → Path
  path k = (f k).task.path

  abbrev plan : Plan
  plan = map f (done ++ others)

  done_known : (k : ℕ) → In k done → k < n
  done_known k i = let lt = order_known is_order.in_order k (of_in k done i) in omega (arith, lt, each)

  pub number_known : (k : ℕ) → In k (done ++ others) → k < n
  number_known k i = elim (in_either k done others i) [ inl j ↦ done_known k j | inr j ↦ (are_others.within k (of_in k others j)).0 ]

  pub in_numbers : (k : ℕ) → k < n → In k (done ++ others)
  in_numbers k lt = elim (among k done) [
    | inl i ↦ in_prefix k done others i
    | inr lacks ↦ in_back k done others (in_of others k (are_others.back k lt (λ c. lacks (in_of done k c))))
  ]

  numbers_distinct : AreDistinct (done ++ others)
  numbers_distinct = separate_both done others (in_order_separate table done is_order.in_order) are_others.separate
      (λ k i j. (are_others.within k (of_in k others j)).1 (of_in k done i))

  pub order_mapped : (ks : List ℕ) → order (map f ks) ≡ map path ks
  order_mapped [] = refl
  order_mapped (k ∷ ks) = ap (λ ps. path k ∷ ps) (order_mapped ks)

  pub once_mapped : (ks : List ℕ) → AreDistinct ks → ((k : ℕ) → In k ks → k < n) → no_repeats (order (map f ks)) ≡ true
  once_mapped [] separate known = refl
  once_mapped (k ∷ ks) separate known = both (not (has_path (order (map f ks)) (path k))) (no_repeats (order (map f ks)))
      (elim (has_path (order (map f ks)) (path k)) as (λ b. has_path (order (map f ks)) (path k) ≡ b → not b ≡ true) [
        | true ↦ λ e. let at = of_mapped path ks (path k) (ap (λ ps. has_path ps (path k)) (sym (order_mapped ks)) ∙ e) in
            absurd (separate.0 (of_in k ks (subst (λ i. In i ks) (sym (paths k at.0 (known k (inl refl)) (known at.0 (inr at.1)) at.2)) at.1)))
        | false ↦ λ _. refl
      ] refl)
      (once_mapped ks separate.1 (λ i j. known i (inr j)))

  pub plan_once : no_repeats (order plan) ≡ true
  plan_once = once_mapped (done ++ others) numbers_distinct number_known

  -- ---- Who is ready

  ready_if : (prefix : List ℕ) (k : ℕ) → k < n → IsReady table prefix k → is_ready plan (map path prefix) (f k).task ≡ true
  ready_if prefix k lt h = all_of_members (has_path (map path prefix)) (after plan (f k).task) (λ p g.
      let at = planned_at plan p (after_known plan (f k) p g) in
      let number = of_map f (done ++ others) at.0 at.1 in
      let known : number.0 < n = number_known number.0 number.1 in
      let same : path number.0 ≡ p = ap (λ (y : Planned). y.task.path) (sym number.2) ∙ at.2 in
      let edge : comes_after (f k) (f number.0) ≡ true = after_is plan (f k) plan_once (f number.0) (subst (λ (y : Planned). In y plan) number.2 at.1)
      (subst (λ q. has_path (after plan (f k).task) q ≡ true) (sym same) g) in
      let exists : Contains prefix number.0 = h number.0 ((reported k number.0).1 (lt, known, edge)) in
      subst (λ q. has_path (map path prefix) q ≡ true) same (has_mapped path prefix number.0 (in_of prefix number.0 exists)))

  ready_only : (prefix : List ℕ) (k : ℕ) → ((i : ℕ) → In i prefix → i < n) → is_ready plan (map path prefix) (f k).task ≡ true → IsReady table prefix k
  ready_only prefix k known h j c =
      let edge = (reported k j).0 c in
      let comes = after_so plan (f k) (f j) (into_map f (done ++ others) j (in_numbers j edge.1)) edge.2 in
      let exists = at_member (has_path (map path prefix)) (after plan (f k).task) (path j) h comes in
      let at = of_mapped path prefix (path j) exists in
      of_in j prefix (subst (λ i. In i prefix) (sym (paths j at.0 edge.1 (known at.0 at.1) at.2)) at.1)

  unready : (u : ℕ) → (u < n) × (¬ Contains done u) → is_ready plan (map path done) (f u).task ≡ false
  unready u h = elim (is_ready plan (map path done) (f u).task) as (λ b. is_ready plan (map path done) (f u).task ≡ b → b ≡ false) [
    | true ↦ λ e. absurd (is_order.whole u (omega (arith, each, h.0)) h.1 (ready_only done u done_known e))
    | false ↦ λ _. refl
  ] refl

  -- ---- From the front on

  walk_others : (us : List ℕ) → ((u : ℕ) → In u us → (u < n) × (¬ Contains done u)) → is_in_order plan (map path done) (map f us) ≡ true
  walk_others [] h = refl
  walk_others (u ∷ us) h =
      ap (λ b. cond b (list_all (λ other. precedes (f u) other || not (is_ready plan (map path done) other.task)) (map f us) && is_in_order plan (map path done ++ path u ∷ []) (map f us))
      (list_all (λ other. not (is_ready plan (map path done) other.task)) (map f us))) (unready u (h u (inl refl)))
      ∙ all_mapped (λ (other : Planned). not (is_ready plan (map path done) other.task)) f us (λ k i. ap not (unready k (h k (inr i))))

  stuck_others : (us : List ℕ) → ((u : ℕ) → In u us → (u < n) × (¬ Contains done u)) → stuck plan (map path done) (map f us) ≡ map f us
  stuck_others [] h = refl
  stuck_others (u ∷ us) h = ap (λ b. cond b (stuck plan (map path done ++ path u ∷ []) (map f us)) (f u ∷ map f us)) (unready u (h u (inl refl)))

  others_known : (u : ℕ) → In u others → (u < n) × (¬ Contains done u)
  others_known u i = are_others.within u (of_in u others i)

  -- among those after the next one, it precedes the ready ones
  later : (prefix : List ℕ) (t : ℕ) (back : List ℕ) → done ≡ prefix ++ t ∷ back → IsNext table prefix t → (k : ℕ) → In k (back ++ others)
      → (precedes (f t) (f k) || not (is_ready plan (map path prefix) (f k).task)) ≡ true
  later prefix t back e next k i =
      elim (is_ready plan (map path prefix) (f k).task) as (λ b. is_ready plan (map path prefix) (f k).task ≡ b → (precedes (f t) (f k) || not b) ≡ true) [
        | true ↦ λ ready. left_or (precedes (f t) (f k)) false (first ready)
        | false ↦ λ _. or_true (precedes (f t) (f k))
      ] refl
    where
      split : done ++ others ≡ (prefix ++ t ∷ []) ++ (back ++ others)
      split = ap (λ ks. ks ++ others) e ∙ regrouped prefix t back others

      separate : AreDistinct ((prefix ++ t ∷ []) ++ (back ++ others))
      separate = subst AreDistinct split numbers_distinct

      lacks : In k (prefix ++ t ∷ []) → ⊥
      lacks j = separate_parts (prefix ++ t ∷ []) (back ++ others) separate k j i

      lt : k < n
      lt = number_known k (subst (λ ks. In k ks) (sym split) (in_back k (prefix ++ t ∷ []) (back ++ others) i))

      prefix_known : (j : ℕ) → In j prefix → j < n
      prefix_known j g = done_known j (subst (λ ks. In j ks) (sym e) (in_prefix j prefix (t ∷ back) g))

      first : is_ready plan (map path prefix) (f k).task ≡ true → precedes (f t) (f k) ≡ true
      first ready =
          let low : t ≤ k = next.least k (omega (arith, each, lt)) (λ c. lacks (in_prefix k prefix (t ∷ []) (in_of prefix k c))) (ready_only prefix k prefix_known ready) in
          let separate_from : k ≡ t → ⊥ = λ same. lacks (in_back k prefix (t ∷ []) (inl same)) in
          ranked t k (elim (cases_eq k t) [ inl same ↦ absurd (separate_from same) | inr differs ↦ omega (arith, low, differs) ]) lt

  next_known : (prefix : List ℕ) (t : ℕ) (back : List ℕ) → done ≡ prefix ++ t ∷ back → t < n
  next_known prefix t back e = done_known t (subst (λ ks. In t ks) (sym e) (in_back t prefix (t ∷ back) (inl refl)))

  walk : (prefix back : List ℕ) → done ≡ prefix ++ back → is_in_order plan (map path prefix) (map f (back ++ others)) ≡ true
  walk prefix [] e = subst (λ ks. is_in_order plan (map path ks) (map f others) ≡ true) (e ∙ append-nil prefix) (walk_others others others_known)
  walk prefix (t ∷ back) e =
      let next = next_at table done is_order.in_order prefix t back e in
      ap (λ b. cond b (list_all (λ other. precedes (f t) other || not (is_ready plan (map path prefix) other.task)) (map f (back ++ others)) && is_in_order plan (map path prefix ++ path t ∷ []) (map f (back ++ others)))
      (list_all (λ other. not (is_ready plan (map path prefix) other.task)) (map f (back ++ others)))) (ready_if prefix t (next_known prefix t back e) next.ready)
      ∙ both (list_all (λ other. precedes (f t) other || not (is_ready plan (map path prefix) other.task)) (map f (back ++ others))) (is_in_order plan (map path prefix ++ path t ∷ []) (map f (back ++ others)))
      (all_mapped (λ (other : Planned). precedes (f t) other || not (is_ready plan (map path prefix) other.task)) f (back ++ others) (later prefix t back e next))
      (subst (λ st. is_in_order plan st (map f (back ++ others)) ≡ true) (map-append path prefix (t ∷ [])) (walk (prefix ++ t ∷ []) back (e ∙ grouped prefix t back)))

  walk_left : (prefix back : List ℕ) → done ≡ prefix ++ back → stuck plan (map path prefix) (map f (back ++ others)) ≡ map f others
  walk_left prefix [] e = subst (λ ks. stuck plan (map path ks) (map f others) ≡ map f others) (e ∙ append-nil prefix) (stuck_others others others_known)
  walk_left prefix (t ∷ back) e =
      let next = next_at table done is_order.in_order prefix t back e in
      ap (λ b. cond b (stuck plan (map path prefix ++ path t ∷ []) (map f (back ++ others))) (f t ∷ map f (back ++ others))) (ready_if prefix t (next_known prefix t back e) next.ready)
      ∙ subst (λ st. stuck plan st (map f (back ++ others)) ≡ map f others) (map-append path prefix (t ∷ [])) (walk_left (prefix ++ t ∷ []) back (e ∙ grouped prefix t back))

  pub plan_in_order : is_in_order plan [] plan ≡ true
  plan_in_order = walk [] done refl

  pub plan_stuck : stuck plan [] plan ≡ map f others
  plan_stuck = walk_left [] done refl

-- ---- A list of tasks that is ranked

module _ (tasks : List Planned) (are_ranked : AreRanked tasks) where
  same_length : length (order tasks) ≡ length tasks
  same_length = length-map tasks (λ (z : Planned). z.task.path)

  pub path_of : (d : Planned) (j : ℕ) → j < length tasks → get_or (order tasks) j [] ≡ (get_or tasks j d).task.path
  path_of d j lt = get_or-map (λ (z : Planned). z.task.path) tasks j d [] lt

  pub one_path : (d : Planned) (i j : ℕ) → i < length tasks → j < length tasks → (get_or tasks i d).task.path ≡ (get_or tasks j d).task.path → i ≡ j
  one_path d i j li lj e = one_number (order tasks) are_ranked.once i j (omega (arith, li, same_length)) (omega (arith, lj, same_length)) (path_of d i li ∙ (e ∙ sym (path_of d j lj)))

  module _ (after : List (List ℕ)) (done others : List ℕ) (ranks : AreRanks tasks after done others) (d : Planned) where
    abbrev pub arranged_at : List Planned
    arranged_at = map (λ k. get_or tasks k d) (done ++ others)

    same_tasks : AreSame tasks (map (λ k. get_or tasks k d) (done ++ others))
    same_tasks = record {
      within = λ z c.
          let at = of_map (λ k. get_or tasks k d) (done ++ others) z (in_of (map (λ k. get_or tasks k d) (done ++ others)) z c) in
          let lt : at.0 < length tasks = known at.0 at.1 in
          subst (Contains tasks) (sym at.2) (Contains-get_or tasks at.0 d lt);
      back = λ z c.
          let i = in_numbers (length tasks) (λ k. get_or tasks k d) after done others ranks.reported.each (λ k j. ranks.reported.reported k j d) (λ i j. are_ranked.ranked i j d) (one_path d) ranks.is_order ranks.are_others c.0 c.1 in
          of_in z (map (λ k. get_or tasks k d) (done ++ others))
          (subst (λ y. In y (map (λ k. get_or tasks k d) (done ++ others))) (get_or_default tasks c.0 d z c.1 ∙ c.2) (into_map (λ k. get_or tasks k d) (done ++ others) c.0 i));
    }
      where
        known : (k : ℕ) → In k (done ++ others) → k < length tasks
        known = number_known (length tasks) (λ k. get_or tasks k d) after done others ranks.reported.each (λ k j. ranks.reported.reported k j d) (λ i j. are_ranked.ranked i j d) (one_path d) ranks.is_order ranks.are_others

    pub is_arranged : IsArranged tasks (map (λ k. get_or tasks k d) (done ++ others))
    is_arranged = record {
      same = same_tasks;
      once = plan_once (length tasks) (λ k. get_or tasks k d) after done others ranks.reported.each (λ k j. ranks.reported.reported k j d) (λ i j. are_ranked.ranked i j d) (one_path d) ranks.is_order ranks.are_others;
      in_order = plan_in_order (length tasks) (λ k. get_or tasks k d) after done others ranks.reported.each (λ k j. ranks.reported.reported k j d) (λ i j. are_ranked.ranked i j d) (one_path d) ranks.is_order ranks.are_others;
    }

    pub stuck_others_are : stuck (map (λ k. get_or tasks k d) (done ++ others)) [] (map (λ k. get_or tasks k d) (done ++ others)) ≡ map (λ k. get_or tasks k d) others
    stuck_others_are = plan_stuck (length tasks) (λ k. get_or tasks k d) after done others ranks.reported.each (λ k j. ranks.reported.reported k j d) (λ i j. are_ranked.ranked i j d) (one_path d) ranks.is_order ranks.are_others

-- ---- Sorting

pub rank_total : IsTotalOrder rank_order
rank_total = then_total (on_total (λ (z : Planned). z.word) nat_cmp_total) (on_total (λ (z : Planned). z.task.path) nat_list_cmp_total)

abbrev pub ranks_before : Planned → Planned → Bool
ranks_before a b = is_lt (rank_order a b)

pub rank_weak : IsStrictWeakOrder ranks_before
rank_weak = ranks_by rank_total (λ (z : Planned). z)

flips : (o : Ordering) → is_lt o ≡ false → (o ≡ Equal → ⊥) → is_lt (ordering_reverse o) ≡ true
flips Less e f = not_false e
flips Equal e f = absurd (f refl)
flips Greater e f = refl

then_equal : (o p : Ordering) → ordering_then o p ≡ Equal → p ≡ Equal
then_equal Less p e = absurd (let f : Less ≡ Equal = e in cc)
then_equal Equal p e = e
then_equal Greater p e = absurd (let f : Greater ≡ Equal = e in cc)

precedes_by : (a b : Planned) → ranks_before a b ≡ true → precedes a b ≡ true
precedes_by a b h = grind (arith, nat_tests)

-- tasks of different paths precede each other in sorted order
pub precedes_sorted : (a b : Planned) → ranks_before b a ≡ false → (a.task.path ≡ b.task.path → ⊥) → precedes a b ≡ true
precedes_sorted a b h differs =
    precedes_by a b (ap is_lt (rank_total.antisymm a b)
    ∙ flips (rank_order b a) h (λ e. differs (sym (tied_same b.task.path a.task.path (then_equal (nat_cmp b.word a.word) (byte_order b.task.path a.task.path) e)))))

order_has : (xs : List Planned) (p : Path) → has_path (order xs) p ≡ list_any (λ (z : Planned). bytes_eq p z.task.path) xs
order_has xs p = any_map (bytes_eq p) (λ (z : Planned). z.task.path) xs

pub sorted_ranked : (tasks : List Planned) → no_repeats (order tasks) ≡ true → IsSortedBy ranks_before tasks → AreRanked tasks
sorted_ranked tasks once sorted = record {
  once = once;
  ranked = λ i j d low lt.
      precedes_sorted (get_or tasks i d) (get_or tasks j d) (sorted_far ranks_before rank_weak tasks sorted i j d (omega (arith, low)) lt)
      (λ e. let same : length (order tasks) ≡ length tasks = length-map tasks (λ (z : Planned). z.task.path) in
      once_at (order tasks) once i j low (omega (arith, lt, same))
      (get_or-map (λ (z : Planned). z.task.path) tasks i d [] (omega (arith, low, lt)) ∙ (e ∙ sym (get_or-map (λ (z : Planned). z.task.path) tasks j d [] lt))));
}

-- ---- All get ready

abbrev pub IsWhole : List Planned → List Planned → Type 0
IsWhole tasks plan = IsArranged tasks plan × (stuck plan [] plan ≡ [])

whole_with : (tasks placed : List Planned) (after : List (List ℕ)) (done others : List ℕ) → AreRanked tasks → AreRanks tasks after done others → others ≡ []
    → (d : Planned) → placed ≡ map (λ k. get_or tasks k d) done → IsWhole tasks placed
whole_with tasks placed after done others ranked ranks none d is =
    let f : ℕ → Planned = λ k. get_or tasks k d in
    let same : map f (done ++ others) ≡ placed = ap (λ us. map f (done ++ us)) none ∙ (ap (map f) (append-nil done) ∙ sym is) in
    let ready : stuck (map f (done ++ others)) [] (map f (done ++ others)) ≡ [] = stuck_others_are tasks ranked after done others ranks d ∙ ap (map f) none in
    (subst (IsArranged tasks) same (is_arranged tasks ranked after done others ranks d), subst (λ (zs : List Planned). stuck zs [] zs ≡ []) same ready)

pub whole_plan : (tasks placed : List Planned) (after : List (List ℕ)) (done others : List ℕ) → AreRanked tasks → AreRanks tasks after done others → others ≡ []
    → ((d : Planned) → placed ≡ map (λ k. get_or tasks k d) done) → IsWhole tasks placed
whole_plan (z ∷ tasks) placed after done others ranked ranks none is = whole_with (z ∷ tasks) placed after done others ranked ranks none z (is z)
whole_plan [] (p ∷ placed) after done others ranked ranks none is = whole_with [] (p ∷ placed) after done others ranked ranks none p (is p)
whole_plan [] [] after done others ranked ranks none is = (record { same = record { within = λ z c. c; back = λ z c. c }; once = refl; in_order = refl }, refl)
