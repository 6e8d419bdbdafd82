-- The least conflict of two kinds is the lesser of the least of each; which tasks and places make the least.
use Rattle.std.specs.Prelude.{ℕ, ◌≡◌, ◌⊎◌, ◌<◌, ◌+◌, true, false, cond, List, [], length, get_or, take, Option, Some, None, MatchOption, Contains, refl}
use Rattle.std.proofs.Common.{ap, sym, subst, ◌∙◌, inl, inr, arith, Less, Equal, Greater}
use Rattle.std.proofs.lemmas.Bool.{cases_Bool, false≢true}
use Rattle.std.proofs.lemmas.Cmp.{then_total, on_total}
use Rattle.std.proofs.lemmas.List.Sorted.{ranks_by}
use Rattle.std.specs.Cmp.{IsTotalOrder, IsStrictWeakOrder}
use Rattle.std.specs.Cmp.Lexicographic.{nat_list_cmp_total}
use Rattle.std.specs.Ordering.{is_gt, is_lt, ordering_then, ordering_reverse}
use Rattle.std.specs.declared.cmp.Ordering.{Ordering}
use Rattle.gb_core.specs.Lists.{byte_order}
use Rattle.gb_plan.specs.declared.plan.Planned.{Planned}
use Rattle.gb_plan.specs.Refusal.{Conflict, is_before}
use Rattle.gb_graph.proofs.Edges.{take_grows}
use Rattle.gb_graph.specs.Cycle.{path_at}
use Rattle.gb_graph.specs.declared.least.Found.{Found}
use Rattle.gb_graph.specs.declared.least.FoundConflict.{FoundConflict}
use Rattle.gb_graph.specs.declared.conflicting.Search.{Search}
use Rattle.gb_graph.specs.declared.places.TaskPlace.{TaskPlace}
use Rattle.gb_graph.specs.Places.{place_at}
use Rattle.gb_graph.specs.Conflicts.{IsLeast, IsLeastTask, IsConflictThere, IsConflictAt, IsWithin, found_by, lesser, conflict_of}
use Rattle.gb_graph.proofs.Sorted.{texts_weak}

abbrev conflict_order : Conflict → Conflict → Ordering
conflict_order a b = ordering_then (byte_order a.task b.task) (ordering_then (byte_order a.other b.other) (byte_order a.place b.place))

conflict_total : IsTotalOrder conflict_order
conflict_total =
    then_total (on_total (λ (m : Conflict). m.task) nat_list_cmp_total)
    (then_total (on_total (λ (m : Conflict). m.other) nat_list_cmp_total) (on_total (λ (m : Conflict). m.place) nat_list_cmp_total))

pub conflicts_weak : IsStrictWeakOrder is_before
conflicts_weak = ranks_by conflict_total (λ (m : Conflict). m)

pub not_before_itself : (m : Conflict) → is_before m m ≡ false
not_before_itself m = elim (cases_Bool (is_before m m)) [ inl t ↦ conflicts_weak.one_way m m t | inr f ↦ f ]

pub least_same : (P Q : Conflict → Type 0) → ((m : Conflict) → P m → Q m) → ((m : Conflict) → Q m → P m) → (o : Option Found) → IsLeast P o → IsLeast Q o
least_same P Q to back None h = λ m q. h m (back m q)
least_same P Q to back (Some f) h = record { meets = to (conflict_of f) h.meets; least = λ m q. h.least m (back m q) }

pub least_one : (found : Found) → IsLeast (λ m. m ≡ conflict_of found) (Some found)
least_one found = record { meets = refl; least = λ m e. ap (λ v. is_before v (conflict_of found)) e ∙ not_before_itself (conflict_of found) }

pub least_either : (P Q : Conflict → Type 0) (a b : Option Found) → IsLeast P a → IsLeast Q b → IsLeast (λ m. P m ⊎ Q m) (lesser a b)
least_either P Q None None h g = λ m e. elim e [ inl p ↦ h m p | inr q ↦ g m q ]
least_either P Q None (Some f) h g = record { meets = inr g.meets; least = λ m e. elim e [ inl p ↦ absurd (h m p) | inr q ↦ g.least m q ] }
least_either P Q (Some f) None h g = record { meets = inl h.meets; least = λ m e. elim e [ inl p ↦ h.least m p | inr q ↦ absurd (g m q) ] }
least_either P Q (Some f) (Some e) h g =
    elim (is_before (conflict_of e) (conflict_of f)) as (λ b. is_before (conflict_of e) (conflict_of f) ≡ b → IsLeast (λ m. P m ⊎ Q m) (cond b (Some e) (Some f))) [
      | true ↦ λ t. record {
        meets = inr g.meets;
        least = λ m either. elim either [
          | inl p ↦ conflicts_weak.chain m (conflict_of f) (conflict_of e) (h.least m p) (conflicts_weak.one_way (conflict_of e) (conflict_of f) t)
          | inr q ↦ g.least m q
        ];
      }
      | false ↦ λ n. record {
        meets = inl h.meets;
        least = λ m either. elim either [
          | inl p ↦ h.least m p
          | inr q ↦ conflicts_weak.chain m (conflict_of e) (conflict_of f) (g.least m q) n
        ];
      }
    ] refl

pub none_meets : (P : Conflict → Type 0) (o : Option Found) → o ≡ None → IsLeast P o → (m : Conflict) → ¬ P m
none_meets P o e h = let none : IsLeast P None = subst (IsLeast P) e h in none

pub no_conflict : (P : Conflict → Type 0) (o : Option Found) → ((found : Found) → o ≡ Some found → ⊥) → IsLeast P o → (m : Conflict) → ¬ P m
no_conflict P None differs h = h
no_conflict P (Some found) differs h = absurd (differs found refl)

-- ---- The least of tasks

equal_of : (o : Ordering) → o ≡ ordering_reverse o → o ≡ Equal
equal_of Less e = absurd (let f : Less ≡ Greater = e in cc)
equal_of Equal e = refl
equal_of Greater e = absurd (let f : Greater ≡ Less = e in cc)

none_in : (k : ℕ) → Contains [] k → ⊥
none_in k c = omega (arith, c.1)

texts_distinct : (t : List ℕ) → is_lt (byte_order t t) ≡ false
texts_distinct t = ap is_lt (equal_of (byte_order t t) (nat_list_cmp_total.antisymm t t))

-- one more task comes before those so far, if there are any
pub task_lesser : (tasks : List Planned) (numbers : List ℕ) (i k : ℕ) → i < length numbers → k ≡ get_or numbers i k → (least : Option ℕ)
    → MatchOption least (take i numbers ≡ []) (IsLeastTask tasks (take i numbers)) → MatchOption least (true ≡ true) (λ l. true ≡ is_lt (byte_order (path_at tasks k) (path_at tasks l)))
    → IsLeastTask tasks (take (i + 1) numbers) k
task_lesser tasks numbers i k lt is None none first = record {
  is_in = (take_grows numbers i k k lt is).1 (inr refl);
  least = λ other c. elim ((take_grows numbers i k other lt is).0 c) [
    | inl before ↦ absurd (none_in other (subst (λ ks. Contains ks other) none before))
    | inr e ↦ ap (λ n. is_lt (byte_order (path_at tasks n) (path_at tasks k))) (sym e) ∙ texts_distinct (path_at tasks k)
  ];
}
task_lesser tasks numbers i k lt is (Some least) reported first = record {
  is_in = (take_grows numbers i k k lt is).1 (inr refl);
  least = λ other c. elim ((take_grows numbers i k other lt is).0 c) [
    | inl before ↦ texts_weak.chain (path_at tasks other) (path_at tasks least) (path_at tasks k) (reported.least other before) (texts_weak.one_way (path_at tasks k) (path_at tasks least) (sym first))
    | inr e ↦ ap (λ n. is_lt (byte_order (path_at tasks n) (path_at tasks k))) (sym e) ∙ texts_distinct (path_at tasks k)
  ];
}

-- one more task does not come before the least so far
pub task_passed : (tasks : List Planned) (numbers : List ℕ) (i k : ℕ) → i < length numbers → k ≡ get_or numbers i k → (least : Option ℕ)
    → MatchOption least (take i numbers ≡ []) (IsLeastTask tasks (take i numbers)) → MatchOption least (false ≡ true) (λ l. false ≡ is_lt (byte_order (path_at tasks k) (path_at tasks l)))
    → MatchOption least (take (i + 1) numbers ≡ []) (IsLeastTask tasks (take (i + 1) numbers))
task_passed tasks numbers i k lt is None none first = absurd (false≢true first)
task_passed tasks numbers i k lt is (Some least) reported first = record {
  is_in = (take_grows numbers i k least lt is).1 (inl reported.is_in);
  least = λ other c. elim ((take_grows numbers i k other lt is).0 c) [
    | inl before ↦ reported.least other before
    | inr e ↦ ap (λ n. is_lt (byte_order (path_at tasks n) (path_at tasks least))) (sym e) ∙ sym first
  ];
}

-- ---- The conflicts of one place

separate_by : (o u v : Ordering) → o ≡ Equal → v ≡ Equal → is_lt u ≡ false → is_lt (ordering_then o (ordering_then u v)) ≡ false
separate_by o Less v e f h = absurd (false≢true (sym h))
separate_by o Equal v e f h = ap (λ w. is_lt (ordering_then w v)) e ∙ ap is_lt f
separate_by o Greater v e f h = ap (λ w. is_lt (ordering_then w Greater)) e

same_text : (a b : List ℕ) → a ≡ b → byte_order a b ≡ Equal
same_text a b e = ap (λ t. byte_order t b) e ∙ equal_of (byte_order b b) (nat_list_cmp_total.antisymm b b)

-- the least of the tasks that conflict at a place makes the least conflict
pub least_there : (tasks : List Planned) (places : List TaskPlace) (at : TaskPlace) (others : List ℕ) (met : FoundConflict) → met.task ≡ at.task → place_at places met.place ≡ at.place
    → IsLeastTask tasks others met.other → IsLeast (IsConflictAt tasks at others) (found_by tasks places (Some met))
least_there tasks places at others met is_task is_place h = record {
  meets = record { other = met.other; other_in = h.is_in; is_task = ap (path_at tasks) is_task; is_other = refl; is_place = is_place };
  least = λ m there.
      separate_by (byte_order m.task (path_at tasks met.task)) (byte_order m.other (path_at tasks met.other)) (byte_order m.place (place_at places met.place))
      (same_text m.task (path_at tasks met.task) (there.is_task ∙ ap (path_at tasks) (sym is_task)))
      (same_text m.place (place_at places met.place) (there.is_place ∙ sym is_place))
      (ap (λ p. is_lt (byte_order p (path_at tasks met.other))) there.is_other ∙ h.least there.other there.other_in);
}

-- the conflicts of a place whose task comes after the least so far
pub passed_by : (search : Search) (chains : List (List ℕ)) (tasks : List Planned) (outputs places : List TaskPlace) (i : ℕ) (at : TaskPlace) → i < length places → at ≡ get_or places i at
    → (found : Found) → is_gt (byte_order (path_at tasks at.task) found.task) ≡ true
    → IsLeast (IsConflictThere search chains tasks outputs (take i places)) (Some found) → IsLeast (IsConflictThere search chains tasks outputs (take (i + 1) places)) (Some found)
passed_by search chains tasks outputs places i at lt is found later h = record {
  meets = let m = h.meets in record { at = m.at; at_in = (take_grows places i at m.at lt is).1 (inl m.at_in); other = m.other; met = m.met; is_task = m.is_task; is_other = m.is_other; is_place = m.is_place };
  least = λ conflict m. elim ((take_grows places i at m.at lt is).0 m.at_in) [
    | inl o ↦ h.least conflict (record { at = m.at; at_in = o; other = m.other; met = m.met; is_task = m.is_task; is_other = m.is_other; is_place = m.is_place })
    | inr e ↦ greater_first (byte_order conflict.task found.task) (ordering_then (byte_order conflict.other found.other) (byte_order conflict.place found.place))
        (ap (λ p. is_gt (byte_order p found.task)) (m.is_task ∙ ap (λ (p : TaskPlace). path_at tasks p.task) (sym e)) ∙ later)
  ];
}
  where
    greater_first : (o u : Ordering) → is_gt o ≡ true → is_lt (ordering_then o u) ≡ false
    greater_first Less u e = absurd (false≢true e)
    greater_first Equal u e = absurd (false≢true e)
    greater_first Greater u e = refl

pub none_there : (tasks : List Planned) (at : TaskPlace) (others : List ℕ) → others ≡ [] → IsLeast (IsConflictAt tasks at others) None
none_there tasks at others is m there = none_in there.other (subst (λ ks. Contains ks there.other) is there.other_in)

-- ---- By number

pub task_within : (tasks : List Planned) (places : List TaskPlace) (o : Option FoundConflict) → MatchOption o (Unit {0}) (IsWithin tasks places) → MatchOption o (Unit {0}) (λ met. met.task < length tasks)
task_within tasks places None h = tt
task_within tasks places (Some met) h = h.task

-- the conflict at a place, if there is one
abbrev pub IsNear : List Planned → List ℕ → ℕ → ℕ → Option FoundConflict → Type 0
IsNear tasks others task index o = MatchOption o (others ≡ []) (λ met. (met.task ≡ task) × (met.place ≡ index) × IsLeastTask tasks others met.other)

pub within_near : (tasks : List Planned) (places : List TaskPlace) (others : List ℕ) (task index : ℕ) (o : Option FoundConflict) → task < length tasks → index < length places
    → ((other : ℕ) → Contains others other → other < length tasks) → IsNear tasks others task index o → MatchOption o (Unit {0}) (IsWithin tasks places)
within_near tasks places others task index None low in_row known h = tt
within_near tasks places others task index (Some met) low in_row known h =
    let t = h.0 in
    let p = h.1 in
    record { task = omega (arith, t, low); other = known met.other h.2.is_in; place = omega (arith, p, in_row) }

pub least_near : (tasks : List Planned) (places : List TaskPlace) (at : TaskPlace) (others : List ℕ) (task index : ℕ) (o : Option FoundConflict) → task ≡ at.task → place_at places index ≡ at.place
    → IsNear tasks others task index o → IsLeast (IsConflictAt tasks at others) (found_by tasks places o)
least_near tasks places at others task index None is_task is_place h = none_there tasks at others h
least_near tasks places at others task index (Some met) is_task is_place h = least_there tasks places at others met (h.0 ∙ is_task) (ap (place_at places) h.1 ∙ is_place) h.2

pub passed_near : (search : Search) (chains : List (List ℕ)) (tasks : List Planned) (outputs places : List TaskPlace) (i : ℕ) (at : TaskPlace) → i < length places → at ≡ get_or places i at
    → (o : Option FoundConflict) → MatchOption o (true ≡ false) (λ met. true ≡ is_gt (byte_order (path_at tasks at.task) (path_at tasks met.task)))
    → IsLeast (IsConflictThere search chains tasks outputs (take i places)) (found_by tasks places o) → IsLeast (IsConflictThere search chains tasks outputs (take (i + 1) places)) (found_by tasks places o)
passed_near search chains tasks outputs places i at lt is None later h = absurd (false≢true (sym later))
passed_near search chains tasks outputs places i at lt is (Some met) later h =
    passed_by search chains tasks outputs places i at lt is (record { task = path_at tasks met.task; other = path_at tasks met.other; place = place_at places met.place }) (sym later) h
