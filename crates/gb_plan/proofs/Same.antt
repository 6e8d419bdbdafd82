-- A request has one schedule in which all tasks become ready, and so one plan.
use Rattle.std.specs.Prelude.{ℕ, ◌≡◌, ◌⊎◌, ◌==◌, Bool, true, false, not, cond, ◌&&◌, ◌||◌, List, [], ◌∷◌, ◌++◌, bytes_eq, nat_lt, refl, Option, Some, None, Result, Ok, Err}
use Rattle.std.specs.List.{list_all, filter, flat_map, AllByRecursion}
use Rattle.std.specs.Ordering.{is_lt, ordering_reverse}
use Rattle.std.specs.declared.cmp.Ordering.{Ordering}
use Rattle.std.specs.declared.cmp.Ordering.TheVariants.{Less, Equal, Greater}
use Rattle.std.specs.Cmp.Lexicographic.{bytes_decides, nat_list_cmp_total}
use Rattle.std.proofs.Common.{sym, ap, subst, ◌∙◌, inl, inr, arith}
use Rattle.std.proofs.lemmas.Bool.Decides.{nat_tests}
use Rattle.std.proofs.lemmas.Bool.{cases_order}
use Rattle.gb_core.specs.Lists.{byte_order}
use Rattle.gb_report.specs.declared.fault.Fault.{Fault}
use Rattle.gb_plan.specs.declared.plan.Planned.{Planned}
use Rattle.gb_plan.specs.declared.task.TaskDeclaration.{TaskDeclaration}
use Rattle.gb_plan.specs.Task.{Path, has_path}
use Rattle.gb_plan.specs.Graph.{Plan, Request, order, after, after_at, is_ready, is_scheduled_in, needs_in, finalized_by, is_in_order, stuck, no_repeats, precedes, declaration_at, selected, IsFirstWord, IsSchedule, IsPlan}
use Rattle.gb_plan.proofs.Tests.{not_true, not_false, no_longer, left_of, right_of, or_right, any_append, each_of_all, at_member, all_of_members, in_filter, into_filter}
use Rattle.gb_plan.proofs.Chains.{ready_here, stuck_rest}

-- ---- Members

-- it is one of these
abbrev pub In : {X : Type 0} → X → List X → Type 0
In x [] = ⊥
In x (y ∷ ys) = (x ≡ y) ⊎ In x ys

pub at_in : {X : Type 0} (P : X → Type 0) (xs : List X) (x : X) → AllByRecursion P xs → In x xs → P x
at_in P [] x all i = absurd i
at_in P (y ∷ ys) x all (inl e) = subst P (sym e) all.0
at_in P (y ∷ ys) x all (inr i) = at_in P ys x all.1 i

-- for a path that passing tasks have, a task that passes
pub found : (test : Planned → Bool) (plan : List Planned) (path : Path) → has_path (order (filter test plan)) path ≡ true
    → (z : Planned) × In z plan × (test z ≡ true) × (z.task.path ≡ path)
found test [] path h = not_true h
found test (z ∷ plan) path h =
    elim (test z) as (λ b. test z ≡ b → has_path (order (cond b (z ∷ filter test plan) (filter test plan))) path ≡ true → (y : Planned) × In y (z ∷ plan) × (test y ≡ true) × (y.task.path ≡ path)) [
      | true ↦ λ passes h. elim (bytes_eq path z.task.path) as (λ b. bytes_eq path z.task.path ≡ b → (b || has_path (order (filter test plan)) path) ≡ true → (y : Planned) × In y (z ∷ plan) × (test y ≡ true) × (y.task.path ≡ path)) [
        | true ↦ λ same _. (z, inl refl, passes, sym ((bytes_decides path z.task.path).0 same))
        | false ↦ λ _ h. let rest = found test plan path h in (rest.0, inr rest.1, rest.2, rest.3)
      ] refl h
      | false ↦ λ _ h. let rest = found test plan path h in (rest.0, inr rest.1, rest.2, rest.3)
    ] refl h

pub finds : (test : Planned → Bool) (plan : List Planned) (z : Planned) → In z plan → test z ≡ true → has_path (order (filter test plan)) z.task.path ≡ true
finds test [] z i h = absurd i
finds test (y ∷ plan) z (inl e) h =
    ap (λ b. has_path (order (cond b (y ∷ filter test plan) (filter test plan))) z.task.path) (sym (ap test e) ∙ h)
    ∙ ap (λ b. b || has_path (order (filter test plan)) z.task.path) ((bytes_decides z.task.path y.task.path).1 (ap (λ (x : Planned). x.task.path) e))
finds test (y ∷ plan) z (inr i) h =
    elim (test y) as (λ b. has_path (order (cond b (y ∷ filter test plan) (filter test plan))) z.task.path ≡ true) [
      | true ↦ or_right (bytes_eq z.task.path y.task.path) (has_path (order (filter test plan)) z.task.path) (finds test plan z i h)
      | false ↦ finds test plan z i h
    ]

keep_all : {X : Type 0} (xs : List X) → filter (λ x. true) xs ≡ xs
keep_all [] = refl
keep_all (x ∷ xs) = ap (λ ys. x ∷ ys) (keep_all xs)

-- for a path that the plan has, the task
pub planned_at : (plan : List Planned) (path : Path) → has_path (order plan) path ≡ true → (z : Planned) × In z plan × (z.task.path ≡ path)
planned_at plan path h =
    let at = found (λ _. true) plan path (ap (λ zs. has_path (order zs) path) (keep_all plan) ∙ h) in (at.0, at.1, at.3)

pub path_of_in : (plan : List Planned) (z : Planned) → In z plan → has_path (order plan) z.task.path ≡ true
path_of_in plan z i = ap (λ zs. has_path (order zs) z.task.path) (sym (keep_all plan)) ∙ finds (λ _. true) plan z i refl

-- ---- The least

one_side : (o : Ordering) → is_lt o ≡ true → is_lt (ordering_reverse o) ≡ true → ⊥
one_side Less e f = not_true f
one_side Equal e f = not_true e
one_side Greater e f = not_true e

pub not_both_less : (a b : Path) → is_lt (byte_order a b) ≡ true → is_lt (byte_order b a) ≡ true → ⊥
not_both_less a b e f = one_side (byte_order a b) e (sym (ap is_lt (nat_list_cmp_total.antisymm b a)) ∙ f)

not_both_lower : (a b : ℕ) → nat_lt a b ≡ true → nat_lt b a ≡ true → ⊥
not_both_lower a b e f = grind (arith, nat_tests)

split_or : {A : Type 0} (a b : Bool) → (a || b) ≡ true → (a ≡ true → A) → (b ≡ true → A) → A
split_or true b e f g = f refl
split_or false b e f g = g e

-- no two tasks precede each other
pub not_both_first : (a b : Planned) → precedes a b ≡ true → precedes b a ≡ true → ⊥
not_both_first a b e f =
    split_or (nat_lt a.word b.word) _ e
    (λ lower. split_or (nat_lt b.word a.word) _ f (λ higher. not_both_lower a.word b.word lower higher)
    (λ same. not_true (sym (same_lower (left_of (b.word == a.word) _ same)) ∙ lower)))
    (λ same. split_or (nat_lt b.word a.word) _ f (λ higher. not_true (sym (same_lower_back (left_of (a.word == b.word) _ same)) ∙ higher))
    (λ back. not_both_less a.task.path b.task.path (right_of (a.word == b.word) _ same) (right_of (b.word == a.word) _ back)))
  where
    same_lower : (b.word == a.word) ≡ true → nat_lt a.word b.word ≡ false
    same_lower e = grind (arith, nat_tests)

    same_lower_back : (a.word == b.word) ≡ true → nat_lt b.word a.word ≡ false
    same_lower_back e = grind (arith, nat_tests)

-- ---- Two schedules of one request

abbrev declared_as : TaskDeclaration → Option (Result TaskDeclaration Fault)
declared_as task = Some (Ok task)

abbrev task_in : TaskDeclaration → Option (Result TaskDeclaration Fault) → TaskDeclaration
task_in other (Some (Ok task)) = task
task_in other (Some (Err fault)) = other
task_in other None = other

same_task : (a b : TaskDeclaration) → declared_as a ≡ declared_as b → a ≡ b
same_task a b e = ap (task_in a) e

same_index : (request : Request) (path : Path) (m n : ℕ) → IsFirstWord request path m → IsFirstWord request path n → m ≡ n
same_index request path m n first second = elim (cases_order m n) [
  | inl e ↦ e
  | inr separate ↦ elim separate [ inl lower ↦ absurd (second.none_before m lower first.reaches) | inr higher ↦ absurd (first.none_before n higher second.reaches) ]
]

same_planned : (request : Request) (p q : Plan) → IsSchedule request p → IsSchedule request q → (a b : Planned) → In a p → In b q → b.task.path ≡ a.task.path → a ≡ b
same_planned request p q of_p of_q a b in_p in_q e =
    let a_declared = at_in (λ (z : Planned). declaration_at request.registry z.task.path ≡ declared_as z.task) p a of_p.declared in_p in
    let b_declared = at_in (λ (z : Planned). declaration_at request.registry z.task.path ≡ declared_as z.task) q b of_q.declared in_q in
    let task = same_task a.task b.task (sym a_declared ∙ (ap (declaration_at request.registry) (sym e) ∙ b_declared)) in
    let word = same_index request a.task.path a.word b.word (at_in (λ (z : Planned). IsFirstWord request z.task.path z.word) p a of_p.words in_p)
    (subst (λ path. IsFirstWord request path b.word) e (at_in (λ (z : Planned). IsFirstWord request z.task.path z.word) q b of_q.words in_q)) in
    let is_selected = at_in (λ (z : Planned). z.is_selected ≡ has_path (selected request) z.task.path) p a of_p.selection in_p
    ∙ (ap (has_path (selected request)) (sym e) ∙ sym (at_in (λ (z : Planned). z.is_selected ≡ has_path (selected request) z.task.path) q b of_q.selection in_q)) in
    λ i. record { task = task i; word = word i; is_selected = is_selected i }

-- what is scheduled in the one is scheduled in the other
pub same_paths : (request : Request) (p q : Plan) → IsSchedule request p → IsSchedule request q → (path : Path) → is_scheduled_in p path ≡ true → is_scheduled_in q path ≡ true
same_paths request p q of_p of_q path h = (of_q.scheduled path).1 ((of_p.scheduled path).0 h)

-- each task of the one is in the other
pub same_tasks : (request : Request) (p q : Plan) → IsSchedule request p → IsSchedule request q → (z : Planned) → In z p → In z q
same_tasks request p q of_p of_q z i =
    let at = planned_at q z.task.path (same_paths request p q of_p of_q z.task.path (path_of_in p z i)) in
    subst (λ (y : Planned). In y q) (sym (same_planned request p q of_p of_q z at.0 i at.1 at.2)) at.1

either_of : {A : Type 0} (a b c : Bool) → (a || b || c) ≡ true → (a ≡ true → A) → (b ≡ true → A) → (c ≡ true → A) → A
either_of true b c e f g h = f refl
either_of false true c e f g h = g refl
either_of false false c e f g h = h e

three : (xs ys zs : List Path) (path : Path) → has_path (xs ++ ys ++ zs) path ≡ (has_path xs path || has_path ys path || has_path zs path)
three xs ys zs path = any_append (bytes_eq path) (xs ++ ys) zs ∙ ap (λ b. b || has_path zs path) (any_append (bytes_eq path) xs ys)

-- a task comes after the same tasks in both
pub same_after : (request : Request) (p q : Plan) → IsSchedule request p → IsSchedule request q → (task : TaskDeclaration) (path : Path)
    → has_path (after p task) path ≡ true → has_path (after q task) path ≡ true
same_after request p q of_p of_q task path h =
    let finalized = λ (plan : Plan). finalized_by plan task.path in
    let later = λ (plan : Plan). filter (is_scheduled_in plan) task.must_run_after in
    three (needs_in q task) (finalized q) (later q) path
    ∙ either_of (has_path (needs_in p task) path) (has_path (finalized p) path) (has_path (later p) path)
    (sym (three (needs_in p task) (finalized p) (later p) path) ∙ h)
    (λ needed. ap (λ b. b || has_path (finalized q) path || has_path (later q) path) (cut task.needs needed))
    (λ finalizes. ap (λ b. b || has_path (later q) path) (or_right (has_path (needs_in q task) path) (has_path (finalized q) path) (finalizer finalizes)))
    (λ ordered. or_right (has_path (needs_in q task) path || has_path (finalized q) path) (has_path (later q) path) (cut task.must_run_after ordered))
  where
    cut : (paths : List Path) → has_path (filter (is_scheduled_in p) paths) path ≡ true → has_path (filter (is_scheduled_in q) paths) path ≡ true
    cut paths h =
        let both = in_filter (is_scheduled_in p) paths path h in
        into_filter (is_scheduled_in q) paths path both.0 (same_paths request p q of_p of_q path both.1)

    finalizer : has_path (finalized_by p task.path) path ≡ true → has_path (finalized_by q task.path) path ≡ true
    finalizer h =
        let at = found (λ (z : Planned). has_path z.task.finalizers task.path) p path h in
        subst (λ x. has_path (finalized_by q task.path) x ≡ true) at.3
        (finds (λ (z : Planned). has_path z.task.finalizers task.path) q at.0 (same_tasks request p q of_p of_q at.0 at.1) at.2)

-- and so becomes ready at the same point
pub same_ready : (request : Request) (p q : Plan) → IsSchedule request p → IsSchedule request q → (existing : List Path) (task : TaskDeclaration)
    → is_ready p existing task ≡ true → is_ready q existing task ≡ true
same_ready request p q of_p of_q existing task h =
    all_of_members (has_path existing) (after q task)
    (λ path after_q. at_member (has_path existing) (after p task) path h (same_after request q p of_q of_p task path after_q))

-- ---- One order

-- where another is ready, the next is ready too, and precedes it
next_is_least : (plan : Plan) (existing : List Path) (next : Planned) (rest : List Planned) → is_in_order plan existing (next ∷ rest) ≡ true
    → (other : Planned) → In other rest → is_ready plan existing other.task ≡ true → (is_ready plan existing next.task ≡ true) × (precedes next other ≡ true)
next_is_least plan existing next rest in_order other i ready =
    elim (is_ready plan existing next.task) as (λ b. cond b (list_all (λ o. precedes next o || not (is_ready plan existing o.task)) rest && is_in_order plan (existing ++ next.task.path ∷ []) rest)
    (list_all (λ o. not (is_ready plan existing o.task)) rest) ≡ true → (b ≡ true) × (precedes next other ≡ true)) [
      | true ↦ λ e. (
        refl,
        unless (precedes next other) (is_ready plan existing other.task) ready
            (at_in (λ (o : Planned). (precedes next o || not (is_ready plan existing o.task)) ≡ true) rest other
            (each_of_all (λ (o : Planned). precedes next o || not (is_ready plan existing o.task)) rest (left_of _ _ e)) i),
      )
      | false ↦ λ e. not_true (sym (no_longer (is_ready plan existing other.task)
          (at_in (λ (o : Planned). not (is_ready plan existing o.task) ≡ true) rest other (each_of_all (λ (o : Planned). not (is_ready plan existing o.task)) rest e) i)) ∙ ready)
    ] in_order
  where
    unless : (a b : Bool) → b ≡ true → (a || not b) ≡ true → a ≡ true
    unless true b e h = refl
    unless false true e h = h
    unless false false e h = e

rest_in_order : (plan : Plan) (existing : List Path) (next : Planned) (rest : List Planned) → is_ready plan existing next.task ≡ true
    → is_in_order plan existing (next ∷ rest) ≡ true → is_in_order plan (existing ++ next.task.path ∷ []) rest ≡ true
rest_in_order plan existing next rest ready in_order =
    right_of (list_all (λ o. precedes next o || not (is_ready plan existing o.task)) rest) _
    (sym (ap (λ b. cond b (list_all (λ o. precedes next o || not (is_ready plan existing o.task)) rest && is_in_order plan (existing ++ next.task.path ∷ []) rest)
    (list_all (λ o. not (is_ready plan existing o.task)) rest)) ready) ∙ in_order)

-- the same tasks without the next one, which occurs once
rest_has : (x : Planned) (xs ys : List Planned) → no_repeats (order (x ∷ xs)) ≡ true → ((z : Planned) → In z (x ∷ xs) → In z (x ∷ ys)) → (z : Planned) → In z xs → In z ys
rest_has x xs ys once within z i = elim (within z (inr i)) [
  | inl e ↦ absurd (not_true (sym (no_longer (has_path (order xs) x.task.path) (left_of _ _ once)) ∙ ap (has_path (order xs)) (ap (λ (y : Planned). y.task.path) (sym e)) ∙ path_of_in xs z i))
  | inr j ↦ j
]

module _ (request : Request) (p q : Plan) (of_p : IsSchedule request p) (of_q : IsSchedule request q) where
  next_same : (existing : List Path) (x y : Planned) (xs ys : List Planned) → is_ready p existing x.task ≡ true
      → is_in_order p existing (x ∷ xs) ≡ true → is_in_order q existing (y ∷ ys) ≡ true → In x (y ∷ ys) → In y (x ∷ xs) → x ≡ y
  next_same existing x y xs ys ready p_order q_order (inl e) back = e
  next_same existing x y xs ys ready p_order q_order (inr i) (inl e) = sym e
  next_same existing x y xs ys ready p_order q_order (inr i) (inr j) =
      let y_first = next_is_least q existing y ys q_order x i (same_ready request p q of_p of_q existing x.task ready) in
      let x_first = next_is_least p existing x xs p_order y j (same_ready request q p of_q of_p existing y.task y_first.0) in
      absurd (not_both_first x y x_first.1 y_first.1)

  one_order : (existing : List Path) (xs ys : List Planned) → stuck p existing xs ≡ [] → is_in_order p existing xs ≡ true → is_in_order q existing ys ≡ true
      → no_repeats (order xs) ≡ true → no_repeats (order ys) ≡ true → ((z : Planned) → In z xs → In z ys) → ((z : Planned) → In z ys → In z xs) → xs ≡ ys
  one_order existing [] [] ready p_order q_order p_once q_once within back = refl
  one_order existing [] (y ∷ ys) ready p_order q_order p_once q_once within back = absurd (back y (inl refl))
  one_order existing (x ∷ xs) [] ready p_order q_order p_once q_once within back = absurd (within x (inl refl))
  one_order existing (x ∷ xs) (y ∷ ys) ready p_order q_order p_once q_once within back =
      subst (λ (z : Planned). is_in_order q existing (z ∷ ys) ≡ true → no_repeats (order (z ∷ ys)) ≡ true → ((o : Planned) → In o (x ∷ xs) → In o (z ∷ ys)) → ((o : Planned) → In o (z ∷ ys) → In o (x ∷ xs)) → x ∷ xs ≡ z ∷ ys)
      (next_same existing x y xs ys (ready_here p existing x xs ready) p_order q_order (within x (inl refl)) (back y (inl refl)))
      (λ q_order q_once within back.
      let x_ready = ready_here p existing x xs ready in
      ap (λ zs. x ∷ zs)
      (one_order (existing ++ x.task.path ∷ []) xs ys (stuck_rest p existing x xs ready)
      (rest_in_order p existing x xs x_ready p_order)
      (rest_in_order q existing x ys (same_ready request p q of_p of_q existing x.task x_ready) q_order)
      (right_of _ _ p_once) (right_of _ _ q_once)
      (rest_has x xs ys p_once within) (rest_has x ys xs q_once back)))
      q_order q_once within back

  -- a schedule in which all tasks become ready is the only one of the request
  pub schedules_are_one : stuck p [] p ≡ [] → p ≡ q
  schedules_are_one ready =
      one_order [] p q ready of_p.in_order of_q.in_order of_p.once of_q.once
      (same_tasks request p q of_p of_q) (same_tasks request q p of_q of_p)

  -- where the next is not ready, none is
  none_ready : (plan : Plan) (existing : List Path) (next : Planned) (rest : List Planned) → is_ready plan existing next.task ≡ false
      → is_in_order plan existing (next ∷ rest) ≡ true → (z : Planned) → In z (next ∷ rest) → is_ready plan existing z.task ≡ false
  none_ready plan existing next rest unready in_order z (inl e) = ap (λ (y : Planned). is_ready plan existing y.task) e ∙ unready
  none_ready plan existing next rest unready in_order z (inr i) =
      no_longer (is_ready plan existing z.task) (at_in (λ (o : Planned). not (is_ready plan existing o.task) ≡ true) rest z
      (each_of_all (λ (o : Planned). not (is_ready plan existing o.task)) rest
      (sym (ap (λ b. cond b (list_all (λ o. precedes next o || not (is_ready plan existing o.task)) rest && is_in_order plan (existing ++ next.task.path ∷ []) rest)
      (list_all (λ o. not (is_ready plan existing o.task)) rest)) unready) ∙ in_order)) i)

  -- what never becomes ready in the one schedule, never does in the other
  stuck_within : (existing : List Path) (xs ys : List Planned) → is_in_order p existing xs ≡ true → is_in_order q existing ys ≡ true
      → no_repeats (order xs) ≡ true → no_repeats (order ys) ≡ true → ((z : Planned) → In z xs → In z ys) → ((z : Planned) → In z ys → In z xs)
      → (z : Planned) → In z (stuck p existing xs) → In z (stuck q existing ys)
  stuck_within existing [] ys p_order q_order p_once q_once within back z i = absurd i
  stuck_within existing (x ∷ xs) [] p_order q_order p_once q_once within back z i = absurd (within x (inl refl))
  stuck_within existing (x ∷ xs) (y ∷ ys) p_order q_order p_once q_once within back z i =
      elim (is_ready p existing x.task) as (λ b. is_ready p existing x.task ≡ b → In z (cond b (stuck p (existing ++ x.task.path ∷ []) xs) (x ∷ xs)) → In z (stuck q existing (y ∷ ys))) [
        | true ↦ λ x_ready i. subst (λ (o : Planned). is_in_order q existing (o ∷ ys) ≡ true → no_repeats (order (o ∷ ys)) ≡ true → ((v : Planned) → In v (x ∷ xs) → In v (o ∷ ys)) → ((v : Planned) → In v (o ∷ ys) → In v (x ∷ xs)) → In z (stuck q existing (o ∷ ys)))
            (next_same existing x y xs ys x_ready p_order q_order (within x (inl refl)) (back y (inl refl)))
            (λ q_order q_once within back.
            let q_ready = same_ready request p q of_p of_q existing x.task x_ready in
            subst (λ b. In z (cond b (stuck q (existing ++ x.task.path ∷ []) ys) (x ∷ ys))) (sym q_ready)
            (stuck_within (existing ++ x.task.path ∷ []) xs ys
            (rest_in_order p existing x xs x_ready p_order) (rest_in_order q existing x ys q_ready q_order)
            (right_of _ _ p_once) (right_of _ _ q_once) (rest_has x xs ys p_once within) (rest_has x ys xs q_once back) z i))
            q_order q_once within back
        | false ↦ λ unready i. subst (λ b. In z (cond b (stuck q (existing ++ y.task.path ∷ []) ys) (y ∷ ys)))
            (sym (unready_too y (none_ready p existing x xs unready p_order y (back y (inl refl))))) (within z i)
      ] refl i
    where
      unready_too : (o : Planned) → is_ready p existing o.task ≡ false → is_ready q existing o.task ≡ false
      unready_too o unready = elim (is_ready q existing o.task) as (λ b. is_ready q existing o.task ≡ b → b ≡ false) [
        | true ↦ λ ready. not_false (sym (same_ready request q p of_q of_p existing o.task ready) ∙ unready)
        | false ↦ λ _. refl
      ] refl

  pub same_stuck : (path : Path) → has_path (order (stuck p [] p)) path ≡ true → has_path (order (stuck q [] q)) path ≡ true
  same_stuck path h =
      let at = planned_at (stuck p [] p) path h in
      subst (λ x. has_path (order (stuck q [] q)) x ≡ true) at.2
      (path_of_in (stuck q [] q) at.0
      (stuck_within [] p q of_p.in_order of_q.in_order of_p.once of_q.once (same_tasks request p q of_p of_q) (same_tasks request q p of_q of_p) at.0 at.1))

  -- what the tasks at a path come after is the same in both
  pub same_after_at : (path other : Path) → has_path (after_at p path) other ≡ true → has_path (after_at q path) other ≡ true
  same_after_at path other h =
      let at = found_after p other h in
      finds_after at.0 q (same_tasks request p q of_p of_q at.0 at.1) at.2 (same_after request p q of_p of_q at.0.task other at.3)
    where
      found_after : (zs : List Planned) (other : Path) → has_path (flat_map (λ z. after p z.task) (filter (λ z. bytes_eq z.task.path path) zs)) other ≡ true
          → (z : Planned) × In z zs × (bytes_eq z.task.path path ≡ true) × (has_path (after p z.task) other ≡ true)
      found_after [] other h = not_true h
      found_after (z ∷ zs) other h =
          elim (bytes_eq z.task.path path) as (λ b. bytes_eq z.task.path path ≡ b → has_path (flat_map (λ z. after p z.task) (cond b (z ∷ filter (λ z. bytes_eq z.task.path path) zs) (filter (λ z. bytes_eq z.task.path path) zs))) other ≡ true
          → (y : Planned) × In y (z ∷ zs) × (bytes_eq y.task.path path ≡ true) × (has_path (after p y.task) other ≡ true)) [
            | true ↦ λ e h. split_or (has_path (after p z.task) other) _ (sym (any_append (bytes_eq other) (after p z.task) _) ∙ h)
                (λ here. (z, inl refl, e, here)) (λ later. let rest = found_after zs other later in (rest.0, inr rest.1, rest.2, rest.3))
            | false ↦ λ _ h. let rest = found_after zs other h in (rest.0, inr rest.1, rest.2, rest.3)
          ] refl h

      finds_after : (z : Planned) (zs : List Planned) → In z zs → bytes_eq z.task.path path ≡ true → has_path (after q z.task) other ≡ true
          → has_path (flat_map (λ z. after q z.task) (filter (λ z. bytes_eq z.task.path path) zs)) other ≡ true
      finds_after z [] i e h = absurd i
      finds_after z (y ∷ ys) (inl same) e h =
          ap (λ b. has_path (flat_map (λ z. after q z.task) (cond b (y ∷ filter (λ z. bytes_eq z.task.path path) ys) (filter (λ z. bytes_eq z.task.path path) ys))) other) (sym (ap (λ (o : Planned). bytes_eq o.task.path path) same) ∙ e)
          ∙ any_append (bytes_eq other) (after q y.task) _
          ∙ ap (λ b. b || has_path (flat_map (λ z. after q z.task) (filter (λ z. bytes_eq z.task.path path) ys)) other) (sym (ap (λ (o : Planned). has_path (after q o.task) other) same) ∙ h)
      finds_after z (y ∷ ys) (inr i) e h =
          elim (bytes_eq y.task.path path) as (λ b. has_path (flat_map (λ z. after q z.task) (cond b (y ∷ filter (λ z. bytes_eq z.task.path path) ys) (filter (λ z. bytes_eq z.task.path path) ys))) other ≡ true) [
            | true ↦ any_append (bytes_eq other) (after q y.task) _ ∙ or_right (has_path (after q y.task) other) _ (finds_after z ys i e h)
            | false ↦ finds_after z ys i e h
          ]

pub plans_are_one : (request : Request) (p q : Plan) → IsPlan request p → IsPlan request q → p ≡ q
plans_are_one request p q of_p of_q = schedules_are_one request p q of_p.schedule of_q.schedule of_p.all_ready
