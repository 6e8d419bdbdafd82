-- In a plan whose tasks all get ready, the tasks that a task comes after have lesser numbers, and chains by
-- number are chains by path.
use Rattle.std.specs.Prelude.{ℕ, zero, suc, ◌≡◌, ◌⊎◌, ◌<◌, ◌↔◌, true, List, [], ◌∷◌, ◌++◌, length, get_or, bytes_eq, refl, Contains}
use Rattle.std.specs.Cmp.Lexicographic.{bytes_decides}
use Rattle.std.proofs.Common.{sym, ap, subst, ◌∙◌, inl, inr, arith}
use Rattle.std.proofs.lemmas.List.{get_or-map, length-map}
use Rattle.std.proofs.lemmas.List.Elements.{Contains-get_or}
use Rattle.gb_plan.specs.declared.plan.Planned.{Planned}
use Rattle.gb_plan.specs.Task.{Path, has_path}
use Rattle.gb_plan.specs.Graph.{Plan, order, after, is_ready, stuck, no_repeats, IsAfter}
use Rattle.gb_plan.specs.Graph as graph
use Rattle.gb_plan.proofs.Tests.{not_true, at_member}
use Rattle.gb_plan.proofs.Chains.{ready_here, stuck_rest}
use Rattle.gb_plan.proofs.Same.{In}
use Rattle.gb_graph.specs.Order.{row}
use Rattle.gb_graph.specs.Ranked.{GiveAfter}
use Rattle.gb_graph.specs.Chains as chains
use Rattle.gb_graph.specs.Chains.{bit_in}
use Rattle.gb_graph.specs.Conflicts.{GiveChains}
use Rattle.gb_graph.specs.Cycle.{path_at}
use Rattle.gb_graph.proofs.Edges.{one_number, at_path}
use Rattle.gb_graph.proofs.Firsts.{element}
use Rattle.gb_graph.proofs.Queues.{split_or, has_push}
use Rattle.gb_graph.proofs.Arranged.{after_is, after_so, after_known, path_once}
use Rattle.gb_graph.proofs.Cycled.{to_after, from_after}
use Rattle.gb_graph.proofs.Numbers.{in_of}

-- the elements before an index
abbrev pub before_at : List Planned → ℕ → List Path → List Path
before_at [] i existing = existing
before_at (z ∷ zs) zero existing = existing
before_at (z ∷ zs) (suc i) existing = before_at zs i (existing ++ z.task.path ∷ [])

-- each is ready when those before it are placed
ready_at : (plan : Plan) (existing : List Path) (zs : List Planned) (i : ℕ) (d : Planned) → stuck plan existing zs ≡ [] → i < length zs
    → is_ready plan (before_at zs i existing) (get_or zs i d).task ≡ true
ready_at plan existing [] i d none lt = absurd (omega (arith, lt))
ready_at plan existing (z ∷ zs) zero d none lt = ready_here plan existing z zs none
ready_at plan existing (z ∷ zs) (suc i) d none lt = ready_at plan (existing ++ z.task.path ∷ []) zs i d (stuck_rest plan existing z zs none) (omega (arith, lt))

of_before : (zs : List Planned) (i : ℕ) (existing : List Path) (p : Path) → has_path (before_at zs i existing) p ≡ true
    → (has_path existing p ≡ true) ⊎ ((j : ℕ) × (j < i) × (j < length zs) × (get_or (order zs) j [] ≡ p))
of_before [] i existing p h = inl h
of_before (z ∷ zs) zero existing p h = inl h
of_before (z ∷ zs) (suc i) existing p h = elim (of_before zs i (existing ++ z.task.path ∷ []) p h) [
  | inl o ↦ split_or (has_path existing p) (bytes_eq p z.task.path) (sym (has_push existing z.task.path p) ∙ o)
      (λ e. inl e)
      (λ e. inr (0, omega arith, omega arith, sym ((bytes_decides p z.task.path).0 e)))
  | inr at ↦ inr (suc at.0, omega (arith, at.1), omega (arith, at.2), at.3)
]

module _ (plan : Plan) (once : no_repeats (order plan) ≡ true) where
  same_length : length (order plan) ≡ length plan
  same_length = length-map plan (λ (z : Planned). z.task.path)

  pub path_is : (d : Planned) (j : ℕ) → j < length plan → path_at plan j ≡ (get_or plan j d).task.path
  path_is d j lt = get_or-map (λ (z : Planned). z.task.path) plan j d [] lt

  pub in_plan : (d : Planned) (j : ℕ) → j < length plan → In (get_or plan j d) plan
  in_plan d j lt = in_of plan (get_or plan j d) (Contains-get_or plan j d lt)

  pub one_path : (i j : ℕ) → i < length plan → j < length plan → path_at plan i ≡ path_at plan j → i ≡ j
  one_path i j li lj e = one_number (order plan) once i j (omega (arith, li, same_length)) (omega (arith, lj, same_length)) e

  module _ (table : List (List ℕ)) (reported : GiveAfter plan table) where
    -- the tasks that a task comes after are before it, where all get ready
    pub lower : stuck plan [] plan ≡ [] → (t b : ℕ) → Contains (row table t) b → b < t
    lower none t b c =
        let known = reported.known t b c in
        let d = (element plan t known.0).0 in
        let z = get_or plan t d in
        let y = get_or plan b d in
        let exists = at_member (has_path (before_at plan t [])) (after plan z.task) y.task.path (ready_at plan [] plan t d none known.0)
        (after_so plan z y (in_plan d b known.1) ((reported.reported t b d).0 c).2) in
        elim (of_before plan t [] y.task.path exists) [
          | inl no_more ↦ not_true no_more
          | inr at ↦ (let same = one_path at.0 b at.2 known.1 (at.3 ∙ sym (path_is d b known.1)) in omega (arith, at.1, same))
        ]

    edge : (d : Planned) (t b : ℕ) → Contains (row table t) b → has_path (after plan (get_or plan t d).task) (path_at plan b) ≡ true
    edge d t b c =
        let at = (reported.reported t b d).0 c in
        ap (has_path (after plan (get_or plan t d).task)) (path_is d b at.1) ∙ after_so plan (get_or plan t d) (get_or plan b d) (in_plan d b at.1) at.2

    pub to_path : (d : Planned) (t b : ℕ) → chains.IsAfter table t b → IsAfter plan (get_or plan t d).task (path_at plan b)
    to_path d t b (chains.start c) = graph.start (edge d t b c) refl
    to_path d t b (chains.step {between = m} h c) =
        let known = reported.known m b c in
        graph.step (to_path d t m h)
        (from_after plan (path_at plan m) (path_at plan b) (get_or plan m d) plan (in_plan d m known.0) (sym (path_is d m known.0)) (edge d m b c)) refl

    number_of : (d : Planned) (t : ℕ) → t < length plan → (p : Path) → has_path (after plan (get_or plan t d).task) p ≡ true
        → (b : ℕ) × (path_at plan b ≡ p) × (b < length plan) × Contains (row table t) b
    number_of d t lt p h =
        let z = get_or plan t d in
        let at = at_path (order plan) p (after_known plan z p h) in
        let low : at.0 < length plan = omega (arith, at.1, same_length) in
        let y = get_or plan at.0 d in
        (at.0, at.2, low, (reported.reported t at.0 d).1 (lt, low, after_is plan z once y (in_plan d at.0 low) (ap (has_path (after plan z.task)) (sym (path_is d at.0 low) ∙ at.2) ∙ h)))

    to_number : (d : Planned) (t : ℕ) → t < length plan → (p : Path) → IsAfter plan (get_or plan t d).task p
        → (b : ℕ) × (path_at plan b ≡ p) × (b < length plan) × chains.IsAfter table t b
    to_number d t lt p (graph.start h o) = let at = number_of d t lt p h in (at.0, at.1, at.2, chains.start at.3)
    to_number d t lt p (graph.step {from = q} r h o) =
        let m = to_number d t lt q r in
        let z = to_after plan q p plan h in
        let same : z.0 ≡ get_or plan m.0 d = path_once plan once z.0 (get_or plan m.0 d) z.1 (in_plan d m.0 m.2) (z.2 ∙ (sym m.1 ∙ path_is d m.0 m.2)) in
        let at = number_of d m.0 m.2 p (ap (λ (w : Planned). has_path (after plan w.task) p) (sym same) ∙ z.3) in
        (at.0, at.1, at.2, chains.step m.3 at.3)

    pub of_path : (d : Planned) (t b : ℕ) → t < length plan → b < length plan → IsAfter plan (get_or plan t d).task (path_at plan b) → chains.IsAfter table t b
    of_path d t b lt low h =
        let at = to_number d t lt (path_at plan b) h in
        subst (chains.IsAfter table t) (one_path at.0 b at.2 low at.1) at.3

    pub chains_reported : (numbers : List ℕ) → ((t : ℕ) → t < length table → Contains numbers t) → (found : List (List ℕ))
        → ((t b : ℕ) → Contains numbers t → (bit_in (row found t) b ≡ 1) ↔ chains.IsAfter table t b) → GiveChains plan found
    chains_reported numbers all found bits t b d lt low =
        let bit = bits t b (all t (omega (arith, lt, reported.each))) in
        (λ h. to_path d t b (bit.0 h), λ h. bit.1 (of_path d t b lt low h))
