-- From numbers to paths: the cycle of tasks that never get ready.
use Rattle.std.specs.Prelude.{ℕ, ◌≡◌, ◌⊎◌, ◌<◌, Bool, true, false, not, cond, List, [], ◌∷◌, ◌++◌, map, length, get_or, bytes_eq, refl, Contains, ◌==◌}
use Rattle.std.specs.List.{filter, flat_map, AllByRecursion}
use Rattle.std.specs.Ordering.{is_lt}
use Rattle.std.specs.Cmp.Lexicographic.{bytes_decides}
use Rattle.std.proofs.Common.{sym, ap, subst, ◌∙◌, inl, inr, arith}
use Rattle.std.proofs.lemmas.Bool.{eqb-true}
use Rattle.std.proofs.lemmas.List.Elements.{All-contains, All-from_recursion, recursion_from_All, Contains-get_or}
use Rattle.gb_folder.specs.Files.{is_empty}
use Rattle.gb_report.specs.declared.fault.Fault.TheVariants as faults
use Rattle.gb_core.specs.Lists.{byte_order}
use Rattle.gb_plan.specs.declared.plan.Planned.{Planned}
use Rattle.gb_plan.specs.Task.{Path, has_path}
use Rattle.gb_plan.specs.Graph.{Plan, Request, IsSchedule, IsRegistered, IsFirstWord, selected, order, after, after_at, stuck, no_repeats}
use Rattle.gb_plan.specs.Refusal.{IsLeastOf, IsLeastBefore, IsCycle, IsWalk, IsRefused, has_cycle}
use Rattle.gb_plan.specs.Refusal as refusal
use Rattle.gb_plan.proofs.Tests.{not_true, or_right, all_of_members, in_filter, into_filter}
use Rattle.gb_plan.proofs.Same.{In, planned_at, path_of_in}
use Rattle.gb_graph.specs.Order.{row}
use Rattle.gb_graph.specs.Settled.{is_marked}
use Rattle.gb_graph.specs.Ranked.{AreRanked, AreRanks, AreSame, IsArranged}
use Rattle.gb_graph.specs.Words.{AreScheduled}
use Rattle.gb_graph.specs.Cycle.{IsLeastNumber, IsNextNumber, IsRound, LeadsTo, is_there, goes, path_at}
use Rattle.gb_graph.proofs.Arranged.{after_is, after_so, order_mapped, once_mapped, plan_once, in_numbers, one_path, path_of, path_once, stuck_others_are, is_arranged}
use Rattle.gb_graph.proofs.Numbers.{among, in_of, of_in, has_mapped, of_mapped, into_map, left_or}
use Rattle.gb_graph.proofs.Queues.{split_or, has_append}
use Rattle.gb_graph.proofs.Reached.{nil_of}
use Rattle.gb_graph.proofs.Firsts.{element}

-- ---- What the tasks at a path come after

pub to_after : (plan : Plan) (path other : Path) (zs : List Planned) → has_path (flat_map (λ z. after plan z.task) (filter (λ z. bytes_eq z.task.path path) zs)) other ≡ true
    → (z : Planned) × In z zs × (z.task.path ≡ path) × (has_path (after plan z.task) other ≡ true)
to_after plan path other [] h = not_true h
to_after plan path other (z ∷ zs) h =
    elim (bytes_eq z.task.path path) as (λ b. bytes_eq z.task.path path ≡ b → has_path (flat_map (λ z. after plan z.task) (cond b (z ∷ filter (λ z. bytes_eq z.task.path path) zs) (filter (λ z. bytes_eq z.task.path path) zs))) other ≡ true
    → (y : Planned) × In y (z ∷ zs) × (y.task.path ≡ path) × (has_path (after plan y.task) other ≡ true)) [
      | true ↦ λ e h. split_or (has_path (after plan z.task) other) (has_path (flat_map (λ z. after plan z.task) (filter (λ z. bytes_eq z.task.path path) zs)) other)
          (sym (has_append (after plan z.task) (flat_map (λ z. after plan z.task) (filter (λ z. bytes_eq z.task.path path) zs)) other) ∙ h)
          (λ here. (z, inl refl, (bytes_decides z.task.path path).0 e, here))
          (λ later. let rest = to_after plan path other zs later in (rest.0, inr rest.1, rest.2, rest.3))
      | false ↦ λ _ h. let rest = to_after plan path other zs h in (rest.0, inr rest.1, rest.2, rest.3)
    ] refl h

pub from_after : (plan : Plan) (path other : Path) (z : Planned) (zs : List Planned) → In z zs → z.task.path ≡ path → has_path (after plan z.task) other ≡ true
    → has_path (flat_map (λ z. after plan z.task) (filter (λ z. bytes_eq z.task.path path) zs)) other ≡ true
from_after plan path other z [] i e h = absurd i
from_after plan path other z (y ∷ ys) (inl same) e h =
    let is : bytes_eq y.task.path path ≡ true = ap (λ (o : Planned). bytes_eq o.task.path path) (sym same) ∙ (bytes_decides z.task.path path).1 e in
    let rest = filter (λ (z : Planned). bytes_eq z.task.path path) ys in
    ap (λ b. has_path (flat_map (λ z. after plan z.task) (cond b (y ∷ rest) rest)) other) is
    ∙ has_append (after plan y.task) (flat_map (λ (z : Planned). after plan z.task) rest) other
    ∙ left_or (has_path (after plan y.task) other) (has_path (flat_map (λ (z : Planned). after plan z.task) rest) other) (ap (λ (o : Planned). has_path (after plan o.task) other) (sym same) ∙ h)
from_after plan path other z (y ∷ ys) (inr i) e h =
    let rest = filter (λ (z : Planned). bytes_eq z.task.path path) ys in
    elim (bytes_eq y.task.path path) as (λ b. has_path (flat_map (λ z. after plan z.task) (cond b (y ∷ rest) rest)) other ≡ true) [
      | true ↦ has_append (after plan y.task) (flat_map (λ (z : Planned). after plan z.task) rest) other
          ∙ or_right (has_path (after plan y.task) other) (has_path (flat_map (λ (z : Planned). after plan z.task) rest) other) (from_after plan path other z ys i e h)
      | false ↦ from_after plan path other z ys i e h
    ]

module _ (tasks : List Planned) (ranked : AreRanked tasks) (table : List (List ℕ)) (done others : List ℕ) (ranks : AreRanks tasks table done others) (d : Planned)
    (marks : List Bool) (shows : (k : ℕ) → is_marked marks k ≡ true → Contains others k) (marked : (k : ℕ) → Contains others k → is_marked marks k ≡ true) where
  abbrev f : ℕ → Planned
  f k = get_or tasks k d

  abbrev path : ℕ → Path
  path k = (get_or tasks k d).task.path

  abbrev plan : Plan
  plan = map (λ k. get_or tasks k d) (done ++ others)

  known : (k : ℕ) → Contains others k → k < length tasks
  known k c = (ranks.are_others.within k c).0

  path_is : (k : ℕ) → k < length tasks → path_at tasks k ≡ path k
  path_is k lt = path_of tasks ranked d k lt

  in_plan : (k : ℕ) → k < length tasks → In (get_or tasks k d) plan
  in_plan k lt = into_map f (done ++ others) k (in_numbers (length tasks) f table done others ranks.reported.each (λ k j. ranks.reported.reported k j d) (λ i j. ranked.ranked i j d) (one_path tasks ranked d) ranks.is_order ranks.are_others k lt)

  once : no_repeats (order plan) ≡ true
  once = plan_once (length tasks) f table done others ranks.reported.each (λ k j. ranks.reported.reported k j d) (λ i j. ranked.ranked i j d) (one_path tasks ranked d) ranks.is_order ranks.are_others

  mapped : (ks : List ℕ) → order (map f ks) ≡ map path ks
  mapped = order_mapped (length tasks) f table done others ranks.reported.each (λ k j. ranks.reported.reported k j d) (λ i j. ranked.ranked i j d) (one_path tasks ranked d) ranks.is_order ranks.are_others

  abbrev unplaced : List Path
  unplaced = order (stuck plan [] plan)

  unplaced_is : order (stuck plan [] plan) ≡ map path others
  unplaced_is = ap order (stuck_others_are tasks ranked table done others ranks d) ∙ mapped others

  has_unplaced : (k : ℕ) → Contains others k → has_path unplaced (path k) ≡ true
  has_unplaced k c = ap (λ ps. has_path ps (path k)) unplaced_is ∙ has_mapped path others k (in_of others k c)

  of_unplaced : (p : Path) → has_path unplaced p ≡ true → (k : ℕ) × Contains others k × (p ≡ path k)
  of_unplaced p h = let at = of_mapped path others p (ap (λ ps. has_path ps p) (sym unplaced_is) ∙ h) in (at.0, of_in at.0 others at.1, at.2)

  not_before : (j k : ℕ) → j < length tasks → k < length tasks → is_lt (byte_order (path_at tasks j) (path_at tasks k)) ≡ false → not (is_lt (byte_order (path j) (path k))) ≡ true
  not_before j k lj lk e = ap not (sym (λ i. is_lt (byte_order (path_is j lj i) (path_is k lk i))) ∙ e)

  -- a least number of some has the least path of them
  least_path : (numbers : List ℕ) → ((k : ℕ) → Contains numbers k → k < length tasks) → ((k : ℕ) → Contains numbers k → is_marked marks k ≡ true) → (k : ℕ) → IsLeastNumber tasks numbers marks k → IsLeastOf (map path numbers) (path k)
  least_path numbers low all k is = record {
    is_in = has_mapped path numbers k (in_of numbers k is.is_in);
    least = all_of_members (λ other. not (is_lt (byte_order other (path k)))) (map path numbers) (λ p h.
        let at = of_mapped path numbers p h in
        let c = of_in at.0 numbers at.1 in
        subst (λ q. not (is_lt (byte_order q (path k))) ≡ true) (sym at.2) (not_before at.0 k (low at.0 c) (low k is.is_in) (is.least at.0 c (all at.0 c))));
  }

  edge_to : (k j : ℕ) → Contains (row table k) j → has_path (after_at plan (path k)) (path j) ≡ true
  edge_to k j c =
      let e = (ranks.reported.reported k j d).0 c in
      from_after plan (path k) (path j) (f k) plan (in_plan k e.0) refl (after_so plan (f k) (f j) (in_plan j e.1) e.2)

  edge_from : (k j : ℕ) → k < length tasks → j < length tasks → has_path (after_at plan (path k)) (path j) ≡ true → Contains (row table k) j
  edge_from k j lk lj h =
      let at = to_after plan (path k) (path j) plan h in
      let same : at.0 ≡ f k = path_once plan once at.0 (f k) at.1 (in_plan k lk) at.2 in
      (ranks.reported.reported k j d).1 (lk, lj, after_is plan (f k) once (f j) (in_plan j lj) (ap (λ (z : Planned). has_path (after plan z.task) (path j)) (sym same) ∙ at.3))

  step_path : (k j : ℕ) → k < length tasks → IsNextNumber tasks table marks k j → IsLeastBefore plan unplaced (path k) (path j)
  step_path k j lk is =
      let lj = known j (shows j is.marked) in record {
        is_in = into_filter (has_path unplaced) (after_at plan (path k)) (path j) (edge_to k j is.is_in) (has_unplaced j (shows j is.marked));
        least = all_of_members (λ other. not (is_lt (byte_order other (path j)))) (filter (has_path unplaced) (after_at plan (path k))) (λ p h.
            let both = in_filter (has_path unplaced) (after_at plan (path k)) p h in
            let at = of_unplaced p both.1 in
            let lu = known at.0 at.1 in
            subst (λ q. not (is_lt (byte_order q (path j))) ≡ true) (sym at.2)
            (not_before at.0 j lu lj (is.least at.0 (edge_from k at.0 lk lu (ap (has_path (after_at plan (path k))) (sym at.2) ∙ both.0)) (marked at.0 at.1))));
      }

  way_path : (a b : ℕ) (xs : List ℕ) → a < length tasks → LeadsTo (IsNextNumber tasks table marks) a xs b → IsWalk (IsLeastBefore plan unplaced) (path a) (map path xs) (path b)
  way_path a b xs la is_there = refusal.is_there
  way_path a b xs la (goes {next = next} {passed = passed} s way) = refusal.goes (step_path a next la s) (way_path next b passed (known next (shows next s.marked)) way)

  way_marked : (a b : ℕ) (xs : List ℕ) → is_marked marks a ≡ true → LeadsTo (IsNextNumber tasks table marks) a xs b → (k : ℕ) → In k xs → is_marked marks k ≡ true
  way_marked a b xs m is_there k i = absurd i
  way_marked a b xs m (goes {next = next} {passed = passed} s way) k (inl e) = ap (is_marked marks) e ∙ m
  way_marked a b xs m (goes {next = next} {passed = passed} s way) k (inr i) = way_marked next b passed s.marked way k i

  pub cycle_is : (cycle : List ℕ) → IsRound tasks table marks others cycle → IsCycle plan unplaced (map path cycle)
  cycle_is cycle is =
      let all : (k : ℕ) → Contains cycle k → is_marked marks k ≡ true = λ k c. way_marked is.first is.first cycle is.least_first.marked is.goes_round k (in_of cycle k c) in
      let low : (k : ℕ) → Contains cycle k → k < length tasks = λ k c. known k (shows k (all k c)) in
      record {
        start = path is.start;
        first = path is.first;
        way = map path is.way;
        from_least = subst (λ ps. IsLeastOf ps (path is.start)) (sym unplaced_is) (least_path others known marked is.start is.from_least);
        comes_to = way_path is.start is.first is.way (known is.start (shows is.start is.from_least.marked)) is.comes_to;
        goes_round = way_path is.first is.first cycle (known is.first (shows is.first is.least_first.marked)) is.goes_round;
        once = ap no_repeats (sym (mapped cycle)) ∙ once_mapped (length tasks) f table done others ranks.reported.each (λ k j. ranks.reported.reported k j d) (λ i j. ranked.ranked i j d) (one_path tasks ranked d) ranks.is_order ranks.are_others
            cycle is.once (λ k i. low k (of_in k cycle i));
        least_first = least_path cycle low all is.first is.least_first;
      }

  pub cycle_known : (cycle : List ℕ) → IsRound tasks table marks others cycle → (k : ℕ) → Contains cycle k → k < length tasks
  cycle_known cycle is k c = known k (shows k (way_marked is.first is.first cycle is.least_first.marked is.goes_round k (in_of cycle k c)))

  pub paths_are : (cycle : List ℕ) → ((k : ℕ) → Contains cycle k → k < length tasks) → map (path_at tasks) cycle ≡ map path cycle
  paths_are [] low = refl
  paths_are (k ∷ cycle) low = (λ i. path_is k (low k (0, omega arith, refl)) i ∷ paths_are cycle (λ j c. low j (of_in j (k ∷ cycle) (inr (in_of cycle j c)))) i)

-- ---- The requirements of the code

-- one of these is not in the order, or all are
some_lacks : (numbers order : List ℕ) → ((k : ℕ) × Contains numbers k × (¬ Contains order k)) ⊎ ((k : ℕ) → Contains numbers k → Contains order k)
some_lacks [] order = inr (λ k c. absurd (omega (arith, c.1)))
some_lacks (x ∷ xs) order = elim (among x order) [
  | inr lacks ↦ inl (x, (0, omega arith, refl), λ c. lacks (in_of order x c))
  | inl i ↦ elim (some_lacks xs order) [
    | inl found ↦ inl (found.0, of_in found.0 (x ∷ xs) (inr (in_of xs found.0 found.1)), found.2)
    | inr all ↦ inr (λ k c. elim (in_of (x ∷ xs) k c) [ inl e ↦ subst (Contains order) (sym e) (of_in x order i) | inr j ↦ all k (of_in k xs j) ])
  ]
]

-- a task that never gets ready comes after another one
pub comes_after_other : (tasks : List Planned) (table : List (List ℕ)) (done others : List ℕ) → AreRanks tasks table done others → (k : ℕ) → Contains others k
    → (next : ℕ) × Contains (row table k) next × Contains others next
comes_after_other tasks table done others ranks k c =
    let at = ranks.are_others.within k c in
    elim (some_lacks (row table k) done) [
      | inl found ↦ (found.0, found.1, ranks.are_others.back found.0 (ranks.reported.known k found.0 found.1).1 found.2)
      | inr all ↦ absurd (ranks.is_order.whole k (omega (arith, at.0, ranks.reported.each)) at.1 all)
    ]

pub some_number : (xs : List ℕ) (n : ℕ) → n ≡ length xs → (n == 0) ≡ false → (k : ℕ) × Contains xs k
some_number [] n e f = not_true (sym f ∙ ap (λ m. m == 0) e)
some_number (x ∷ xs) n e f = (x, (0, omega arith, refl))

pub no_number : (xs : List ℕ) (n : ℕ) → n ≡ length xs → (n == 0) ≡ true → xs ≡ []
no_number xs n e f = let z : n ≡ 0 = eqb-true n 0 f in nil_of xs (omega (arith, e, z))

-- ---- Schedules

path_in : (xs ys : List Planned) → ((z : Planned) → Contains xs z → Contains ys z) → (p : Path) → has_path (order xs) p ≡ true → has_path (order ys) p ≡ true
path_in xs ys within p h =
    let at = planned_at xs p h in
    subst (λ q. has_path (order ys) q ≡ true) at.2 (path_of_in ys at.0 (in_of ys at.0 (within at.0 (of_in at.0 xs at.1))))

all_in : (P : Planned → Type 0) (xs ys : List Planned) → ((z : Planned) → Contains ys z → Contains xs z) → AllByRecursion P xs → AllByRecursion P ys
all_in P xs ys within all = recursion_from_All P ys (λ k e lt.
    All-contains P xs (get_or ys k e) (All-from_recursion P xs all) (within (get_or ys k e) (Contains-get_or ys k e lt)))

pub schedule_of : (request : Request) (tasks sorted plan : List Planned) → AreScheduled request tasks → AreSame tasks sorted → IsArranged sorted plan → IsSchedule request plan
schedule_of request tasks sorted plan s same arranged =
    let within : (z : Planned) → Contains plan z → Contains tasks z = λ z c. same.within z (arranged.same.within z c) in
    let back : (z : Planned) → Contains tasks z → Contains plan z = λ z c. arranged.same.back z (same.back z c) in
    record {
      scheduled = λ p. (λ h. s.scheduled p (path_in plan tasks within p h), λ h. path_in tasks plan back p (s.back p h));
      declared = all_in (λ (z : Planned). IsRegistered request.registry z.task) tasks plan within s.declared;
      words = all_in (λ (z : Planned). IsFirstWord request z.task.path z.word) tasks plan within s.words;
      selection = all_in (λ (z : Planned). z.is_selected ≡ has_path (selected request) z.task.path) tasks plan within s.selection;
      once = arranged.once;
      in_order = arranged.in_order;
    }

not_empty_map : {X : Type 0} (f : ℕ → X) (xs : List ℕ) (k : ℕ) → Contains xs k → is_empty (map f xs) ≡ false
not_empty_map f [] k c = absurd (omega (arith, c.1))
not_empty_map f (x ∷ xs) k c = refl

-- the request is refused with the cycle
pub cycle_refused : (request : Request) (tasks sorted : List Planned) (table : List (List ℕ)) (done others : List ℕ) (cycle : List Path) → AreScheduled request tasks → AreSame tasks sorted
    → AreRanked sorted → AreRanks sorted table done others → (some : (k : ℕ) × Contains others k)
    → ((d : Planned) → IsCycle (map (λ k. get_or sorted k d) (done ++ others)) (order (stuck (map (λ k. get_or sorted k d) (done ++ others)) [] (map (λ k. get_or sorted k d) (done ++ others)))) cycle)
    → IsRefused request (faults.Cycle cycle)
cycle_refused request tasks sorted table done others cycle s same ranked ranks some is =
    let lt = (ranks.are_others.within some.0 some.1).0 in
    let d = (element sorted some.0 lt).0 in
    let plan : List Planned = map (λ k. get_or sorted k d) (done ++ others) in
    inr (
      plan,
      schedule_of request tasks sorted plan s same (is_arranged sorted ranked table done others ranks d),
      has_cycle (record {
        some_stuck = ap is_empty (stuck_others_are sorted ranked table done others ranks d) ∙ not_empty_map (λ k. get_or sorted k d) others some.0 some.1;
        cycle = cycle;
        is_cycle = is d;
        reported = refl;
      }),
    )
