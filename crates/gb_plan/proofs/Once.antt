-- A request is refused with at most one fault.
use Rattle.std.specs.Prelude.{◌≡◌, Bool, true, false, not, List, [], ◌∷◌, ◌++◌, refl, Option, Some, None, Result, Ok, Err}
use Rattle.std.specs.List.{filter}
use Rattle.std.specs.Ordering.{is_lt, ordering_reverse, ordering_then}
use Rattle.std.specs.declared.cmp.Ordering.{Ordering}
use Rattle.std.specs.declared.cmp.Ordering.TheVariants.{Less, Equal, Greater}
use Rattle.std.specs.Cmp.Lexicographic.{nat_list_cmp_total}
use Rattle.std.proofs.Common.{sym, ap, subst, ◌∙◌, inl, inr}
use Rattle.gb_core.specs.Lists.{byte_order}
use Rattle.gb_core.proofs.Found.{tied_same}
use Rattle.gb_folder.specs.Files.{is_empty}
use Rattle.gb_report.specs.declared.fault.Fault.{Fault}
use Rattle.gb_report.specs.declared.fault.Fault.TheVariants as faults
use Rattle.gb_tree.specs.Property.{distinct}
use Rattle.gb_plan.specs.declared.task.TaskDeclaration.{TaskDeclaration}
use Rattle.gb_plan.specs.Task.{Path, has_path}
use Rattle.gb_plan.specs.Graph.{Plan, Request, order, stuck, after_at, declaration_at, selected, IsSchedule}
use Rattle.gb_plan.specs.Refusal.{Queued, newly_brought, begins, goes_on, open_of, IsTaskFault, IsLeastOf, IsLeastBefore, IsWalk, is_there, goes, IsCycle, Conflict, IsLeastConflict, IsScheduleFault, has_cycle, has_overlap, has_own_input, is_undeclared, IsCycleFault, IsRefused}
use Rattle.gb_plan.proofs.Tests.{not_true, not_false, at_member, all_of_members, in_filter, into_filter}
use Rattle.gb_plan.proofs.Same.{schedules_are_one, same_stuck, same_after_at}
use Rattle.gb_plan.proofs.Refused.{no_task_fault}
use Rattle.gb_plan.proofs.Cycles.{neither_less, cycles_are_one}

-- ---- The queue

abbrev following : Request → List Path → Path → List Path → List Path
following request done path waiting = waiting ++ newly_brought request path (done ++ path ∷ waiting)

-- from one state of the queue to a later one
data Comes (request : Request) : List Path → List Path → List Path → List Path → Type 0 where
  stays : {done : List Path} {waiting : List Path} → Comes request done waiting done waiting
  moves : {done : List Path} {path : Path} {waiting : List Path} {task : TaskDeclaration} {later : List Path} {rest : List Path}
      → declaration_at request.registry path ≡ Some (Ok task)
      → Comes request (done ++ path ∷ []) (following request done path waiting) later rest → Comes request done (path ∷ waiting) later rest

one_more : (request : Request) (done waiting later : List Path) (path : Path) (rest : List Path) (task : TaskDeclaration) → Comes request done waiting later (path ∷ rest)
    → declaration_at request.registry path ≡ Some (Ok task) → Comes request done waiting (later ++ path ∷ []) (following request later path rest)
one_more request done waiting later path rest task stays declared = moves declared stays
one_more request done waiting later path rest task (moves first comes) declared = moves first (one_more request _ _ later path rest task comes declared)

from_beginning : (request : Request) (done waiting : List Path) → Queued request done waiting → Comes request [] (distinct (open_of request (selected request))) done waiting
from_beginning request done waiting begins = stays
from_beginning request done waiting (goes_on {done = before} {path = path} {waiting = others} {task = task} queued declared) =
    one_more request _ _ before path others task (from_beginning request before (path ∷ others) queued) declared

abbrev is_declared : Option (Result TaskDeclaration Fault) → Bool
is_declared (Some (Ok task)) = true
is_declared (Some (Err fault)) = false
is_declared None = false

not_at_fault : {A : Type 0} (request : Request) (path : Path) (task : TaskDeclaration) (fault : Fault)
    → declaration_at request.registry path ≡ Some (Ok task) → declaration_at request.registry path ≡ Some (Err fault) → A
not_at_fault request path task fault e f = not_true (sym (ap is_declared f) ∙ ap is_declared e)

-- a state that the queue reaches with a task at fault in front is reached from each of its states
comes_there : (request : Request) (later : List Path) (last : Path) (rest : List Path) (fault : Fault) → declaration_at request.registry last ≡ Some (Err fault)
    → Comes request [] (distinct (open_of request (selected request))) later (last ∷ rest) → (done waiting : List Path) → Queued request done waiting → Comes request done waiting later (last ∷ rest)
comes_there request later last rest fault at_fault whole done waiting begins = whole
comes_there request later last rest fault at_fault whole done waiting (goes_on {done = before} {path = path} {waiting = others} {task = task} queued declared) =
    past before path others (comes_there request later last rest fault at_fault whole before (path ∷ others) queued) declared
  where
    past : (before : List Path) (path : Path) (others : List Path) → Comes request before (path ∷ others) later (last ∷ rest) → declaration_at request.registry path ≡ Some (Ok task)
        → Comes request (before ++ path ∷ []) (following request before path others) later (last ∷ rest)
    past before path others stays declared = not_at_fault request last task fault declared at_fault
    past before path others (moves first comes) declared = comes

abbrev fault_or : Fault → Option (Result TaskDeclaration Fault) → Fault
fault_or other (Some (Err fault)) = fault
fault_or other (Some (Ok task)) = other
fault_or other None = other

task_faults_are_one : (request : Request) (f g : Fault) → IsTaskFault request f → IsTaskFault request g → f ≡ g
task_faults_are_one request f g of_f of_g =
    there of_g.done of_g.path of_g.waiting
    (comes_there request of_f.done of_f.path of_f.waiting f of_f.at_fault (from_beginning request of_f.done (of_f.path ∷ of_f.waiting) of_f.queued) of_g.done (of_g.path ∷ of_g.waiting) of_g.queued)
    of_g.at_fault
  where
    there : (done : List Path) (path : Path) (waiting : List Path) → Comes request done (path ∷ waiting) of_f.done (of_f.path ∷ of_f.waiting) → declaration_at request.registry path ≡ Some (Err g) → f ≡ g
    there done path waiting stays at_fault = ap (fault_or f) (sym of_f.at_fault ∙ at_fault)
    there done path waiting (moves {task = task} declared comes) at_fault = not_at_fault request path task g declared at_fault

-- ---- The least conflict

neither_before : (x y : Path) (r s : Ordering) → is_lt (ordering_then (byte_order x y) r) ≡ false → is_lt (ordering_then (byte_order y x) s) ≡ false
    → (x ≡ y) × (is_lt r ≡ false) × (is_lt s ≡ false)
neither_before x y r s e f =
    let both = cases (byte_order x y) e (sym (ap (λ o. is_lt (ordering_then o s)) (nat_list_cmp_total.antisymm y x)) ∙ f) in
    (tied_same x y both.0, both.1, both.2)
  where
    cases : (o : Ordering) → is_lt (ordering_then o r) ≡ false → is_lt (ordering_then (ordering_reverse o) s) ≡ false → (o ≡ Equal) × (is_lt r ≡ false) × (is_lt s ≡ false)
    cases Less e f = not_false e
    cases Equal e f = (refl, e, f)
    cases Greater e f = not_false f

pub conflicts_are_one : (IsConflict : Conflict → Type 0) (a b : Conflict) → IsLeastConflict IsConflict a → IsLeastConflict IsConflict b → a ≡ b
conflicts_are_one IsConflict a b of_a of_b =
    let first = neither_before a.task b.task _ _ (of_b.least a of_a.meets) (of_a.least b of_b.meets) in
    let second = neither_before a.other b.other _ _ first.1 first.2 in
    let third = neither_less a.place b.place second.1 second.2 in
    λ i. record { task = first.0 i; other = second.0 i; place = third i }

-- ---- Faults of a schedule

schedule_faults : (plan : Plan) (f g : Fault) → stuck plan [] plan ≡ [] → IsScheduleFault plan f → IsScheduleFault plan g → f ≡ g
schedule_faults plan f g ready (has_cycle a) other = not_false (sym (ap is_empty ready) ∙ a.some_stuck)
schedule_faults plan f g ready (has_overlap a) (has_cycle b) = not_false (sym (ap is_empty ready) ∙ b.some_stuck)
schedule_faults plan f g ready (has_overlap a) (has_overlap b) =
    a.reported ∙ (ap (λ (m : Conflict). faults.OverlappingOutputs m.task m.other m.place) (conflicts_are_one _ a.conflict b.conflict a.is_least b.is_least) ∙ sym b.reported)
schedule_faults plan f g ready (has_overlap a) (has_own_input b) = absurd (b.outputs_separate a.conflict a.is_least.meets)
schedule_faults plan f g ready (has_overlap a) (is_undeclared b) = absurd (b.outputs_separate a.conflict a.is_least.meets)
schedule_faults plan f g ready (has_own_input a) (has_cycle b) = not_false (sym (ap is_empty ready) ∙ b.some_stuck)
schedule_faults plan f g ready (has_own_input a) (has_overlap b) = absurd (a.outputs_separate b.conflict b.is_least.meets)
schedule_faults plan f g ready (has_own_input a) (has_own_input b) =
    a.reported ∙ (ap (λ (m : Conflict). faults.OwnOutputAsInput m.task m.place) (conflicts_are_one _ a.conflict b.conflict a.is_least b.is_least) ∙ sym b.reported)
schedule_faults plan f g ready (has_own_input a) (is_undeclared b) = absurd (b.inputs_separate a.conflict a.is_least.meets)
schedule_faults plan f g ready (is_undeclared a) (has_cycle b) = not_false (sym (ap is_empty ready) ∙ b.some_stuck)
schedule_faults plan f g ready (is_undeclared a) (has_overlap b) = absurd (a.outputs_separate b.conflict b.is_least.meets)
schedule_faults plan f g ready (is_undeclared a) (has_own_input b) = absurd (a.inputs_separate b.conflict b.is_least.meets)
schedule_faults plan f g ready (is_undeclared a) (is_undeclared b) =
    a.reported ∙ (ap (λ (m : Conflict). faults.UndeclaredDependency m.task m.other m.place) (conflicts_are_one _ a.conflict b.conflict a.is_least b.is_least) ∙ sym b.reported)

-- the least of a list is the least of a list with the same paths
least_of_same : (xs ys : List Path) → ((x : Path) → has_path xs x ≡ true → has_path ys x ≡ true) → ((x : Path) → has_path ys x ≡ true → has_path xs x ≡ true) → (path : Path) → IsLeastOf xs path → IsLeastOf ys path
least_of_same xs ys within back path is = record {
  is_in = within path is.is_in;
  least = all_of_members (λ other. not (is_lt (byte_order other path))) ys (λ x h. at_member (λ other. not (is_lt (byte_order other path))) xs x is.least (back x h));
}

module _ (request : Request) (p q : Plan) (of_p : IsSchedule request p) (of_q : IsSchedule request q) where
  abbrev left : Plan → List Path
  left plan = order (stuck plan [] plan)

  open_within : (path other : Path) → has_path (filter (has_path (left q)) (after_at q path)) other ≡ true → has_path (filter (has_path (left p)) (after_at p path)) other ≡ true
  open_within path other h =
      let both = in_filter (has_path (left q)) (after_at q path) other h in
      into_filter (has_path (left p)) (after_at p path) other (same_after_at request q p of_q of_p path other both.0) (same_stuck request q p of_q of_p other both.1)

  open_back : (path other : Path) → has_path (filter (has_path (left p)) (after_at p path)) other ≡ true → has_path (filter (has_path (left q)) (after_at q path)) other ≡ true
  open_back path other h =
      let both = in_filter (has_path (left p)) (after_at p path) other h in
      into_filter (has_path (left q)) (after_at q path) other (same_after_at request p q of_p of_q path other both.0) (same_stuck request p q of_p of_q other both.1)

  way_of : (a b : Path) (xs : List Path) → IsWalk (IsLeastBefore q (left q)) a xs b → IsWalk (IsLeastBefore p (left p)) a xs b
  way_of a b xs is_there = is_there
  way_of a b xs (goes {next = next} {passed = passed} s way) = goes (least_of_same _ _ (open_within a) (open_back a) next s) (way_of next b passed way)

  cycle_of : (cycle : List Path) → IsCycle q (left q) cycle → IsCycle p (left p) cycle
  cycle_of cycle is = record {
    start = is.start;
    first = is.first;
    way = is.way;
    from_least = least_of_same (left q) (left p) (same_stuck request q p of_q of_p) (same_stuck request p q of_p of_q) is.start is.from_least;
    comes_to = way_of is.start is.first is.way is.comes_to;
    goes_round = way_of is.first is.first cycle is.goes_round;
    once = is.once;
    least_first = is.least_first;
  }

  cycle_faults : (f g : Fault) → IsCycleFault p f → IsCycleFault q g → f ≡ g
  cycle_faults f g of_f of_g =
      of_f.reported ∙ (ap faults.Cycle (cycles_are_one p (left p) of_f.cycle of_g.cycle of_f.is_cycle (cycle_of of_g.cycle of_g.is_cycle)) ∙ sym of_g.reported)

  -- where all become ready in the second, the two are equal
  ready_faults : (f g : Fault) → stuck q [] q ≡ [] → IsScheduleFault p f → IsScheduleFault q g → f ≡ g
  ready_faults f g ready of_f of_g = schedule_faults q f g ready (subst (λ plan. IsScheduleFault plan f) (sym (schedules_are_one request q p of_q of_p ready)) of_f) of_g

  no_cycle : {A : Type 0} (g : Fault) → stuck p [] p ≡ [] → IsCycleFault q g → A
  no_cycle g ready b = not_false (sym (ap is_empty (subst (λ plan. stuck plan [] plan ≡ []) (schedules_are_one request p q of_p of_q ready) ready)) ∙ b.some_stuck)

  both_faults : (f g : Fault) → IsScheduleFault p f → IsScheduleFault q g → f ≡ g
  both_faults f g (has_cycle a) (has_cycle b) = cycle_faults f g a b
  both_faults f g (has_overlap a) (has_cycle b) = no_cycle g a.all_ready b
  both_faults f g (has_own_input a) (has_cycle b) = no_cycle g a.all_ready b
  both_faults f g (is_undeclared a) (has_cycle b) = no_cycle g a.all_ready b
  both_faults f g of_f (has_overlap b) = ready_faults f g b.all_ready of_f (has_overlap b)
  both_faults f g of_f (has_own_input b) = ready_faults f g b.all_ready of_f (has_own_input b)
  both_faults f g of_f (is_undeclared b) = ready_faults f g b.all_ready of_f (is_undeclared b)

pub refusals_are_one : (request : Request) (f g : Fault) → IsRefused request f → IsRefused request g → f ≡ g
refusals_are_one request f g (inl a) (inl b) = task_faults_are_one request f g a b
refusals_are_one request f g (inl a) (inr b) = absurd (no_task_fault request b.0 f b.1 a)
refusals_are_one request f g (inr a) (inl b) = absurd (no_task_fault request a.0 g a.1 b)
refusals_are_one request f g (inr a) (inr b) = both_faults request a.0 b.0 a.1 b.1 f g a.2 b.2
