-- Edges between numbers: from paths to numbers, and from edges to rows.
use Rattle.std.specs.Prelude.{ℕ, zero, suc, ◌≡◌, ◌⊎◌, ◌<◌, ◌+◌, ◌↔◌, true, false, not, cond, ◌||◌, List, [], ◌∷◌, ◌++◌, map, length, get_or, take, bytes_eq, refl, Contains, Option, Some, None, unwrap_or}
use Rattle.std.specs.List.{filter_map, cons_option}
use Rattle.std.specs.Cmp.Lexicographic.{bytes_decides}
use Rattle.std.proofs.Common.{sym, ap, subst, ◌∙◌, inl, inr, arith}
use Rattle.std.proofs.lemmas.Bool.{cases_eq, cases_order}
use Rattle.std.proofs.lemmas.Grind.{take_at_read}
use Rattle.std.proofs.lemmas.List.{get_or-map, get_or_default, length-map}
use Rattle.std.proofs.lemmas.List.Elements.{Contains-append_left, Contains-push, Contains-push_cases}
use Rattle.gb_plan.specs.declared.plan.Planned.{Planned}
use Rattle.gb_plan.specs.Task.{Path, has_path}
use Rattle.gb_plan.specs.Graph.{order, no_repeats}
use Rattle.gb_plan.proofs.Tests.{not_true, no_longer, left_of, right_of, or_right, itself}
use Rattle.gb_plan.proofs.Same.{In}
use Rattle.gb_graph.specs.Ranked.{Numbers, GiveNumbers, GiveEdges, comes_after, edges_at, edges_from, number_at, numbers_in}
use Rattle.gb_graph.proofs.Numbers.{in_of, of_in, in_prefix, in_back, in_either, of_map, into_map, either_of, or_first, or_second, or_third}

-- ---- Paths that occur once

pub has_at : (paths : List Path) (i : ℕ) → i < length paths → has_path paths (get_or paths i []) ≡ true
has_at [] i lt = absurd (omega (arith, lt))
has_at (p ∷ ps) zero lt = ap (λ b. b || has_path ps p) (itself p)
has_at (p ∷ ps) (suc i) lt = or_right (bytes_eq (get_or ps i []) p) (has_path ps (get_or ps i [])) (has_at ps i (omega (arith, lt)))

pub at_path : (paths : List Path) (path : Path) → has_path paths path ≡ true → (i : ℕ) × (i < length paths) × (get_or paths i [] ≡ path)
at_path [] path h = not_true h
at_path (p ∷ ps) path h =
    elim (bytes_eq path p) as (λ b. bytes_eq path p ≡ b → (b || has_path ps path) ≡ true → (i : ℕ) × (i < length (p ∷ ps)) × (get_or (p ∷ ps) i [] ≡ path)) [
      | true ↦ λ e _. (0, omega arith, sym ((bytes_decides path p).0 e))
      | false ↦ λ _ h. let at = at_path ps path h in (suc at.0, omega (arith, at.1), at.2)
    ] refl h

pub once_at : (paths : List Path) → no_repeats paths ≡ true → (i j : ℕ) → i < j → j < length paths → get_or paths i [] ≡ get_or paths j [] → ⊥
once_at [] once i j low lt e = omega (arith, lt)
once_at (p ∷ ps) once i zero low lt e = omega (arith, low)
once_at (p ∷ ps) once zero (suc j) low lt e =
    not_true (sym (no_longer (has_path ps p) (left_of (not (has_path ps p)) (no_repeats ps) once)) ∙ (ap (has_path ps) e ∙ has_at ps j (omega (arith, lt))))
once_at (p ∷ ps) once (suc i) (suc j) low lt e = once_at ps (right_of (not (has_path ps p)) (no_repeats ps) once) i j (omega (arith, low)) (omega (arith, lt)) e

pub one_number : (paths : List Path) → no_repeats paths ≡ true → (i j : ℕ) → i < length paths → j < length paths → get_or paths i [] ≡ get_or paths j [] → i ≡ j
one_number paths once i j li lj e = elim (cases_order i j) [
  | inl same ↦ same
  | inr separate ↦ elim separate [ inl low ↦ absurd (once_at paths once i j low lj e) | inr high ↦ absurd (once_at paths once j i high li (sym e)) ]
]

-- ---- Numbers of paths

some_same : (i j : ℕ) → Some i ≡ Some j → i ≡ j
some_same i j e = ap (λ o. unwrap_or o 0) e

pub numbers_next : (old new : Path → Option ℕ) (paths : List Path) (i : ℕ) (key : Path) → no_repeats paths ≡ true → i < length paths → key ≡ get_or paths i []
    → ((q : Path) → new q ≡ cond (bytes_eq key q) (Some i) (old q))
    → ((q : Path) (k : ℕ) → (old q ≡ Some k) ↔ ((k < i) × (get_or paths k [] ≡ q)))
    → (q : Path) (k : ℕ) → (new q ≡ Some k) ↔ ((k < i + 1) × (get_or paths k [] ≡ q))
numbers_next old new paths i key once lt is next reported q k = (to, back)
  where
    to : new q ≡ Some k → (k < i + 1) × (get_or paths k [] ≡ q)
    to h = elim (bytes_eq key q) as (λ b. bytes_eq key q ≡ b → cond b (Some i) (old q) ≡ Some k → (k < i + 1) × (get_or paths k [] ≡ q)) [
      | true ↦ λ e g. let same = some_same i k g in
          (omega (arith, same), ap (λ j. get_or paths j []) (sym same) ∙ (sym is ∙ (bytes_decides key q).0 e))
      | false ↦ λ _ g. let at = (reported q k).0 g in (omega (arith, at.0), at.1)
    ] refl (sym (next q) ∙ h)

    differs : k < i → get_or paths k [] ≡ q → bytes_eq key q ≡ false
    differs low e = elim (bytes_eq key q) as (λ b. bytes_eq key q ≡ b → b ≡ false) [
      | true ↦ λ h. absurd (once_at paths once k i low lt (e ∙ (sym ((bytes_decides key q).0 h) ∙ is)))
      | false ↦ λ _. refl
    ] refl

    back : (k < i + 1) × (get_or paths k [] ≡ q) → new q ≡ Some k
    back at = elim (cases_eq k i) [
      | inl e ↦ next q ∙ (ap (λ b. cond b (Some i) (old q)) ((bytes_decides key q).1 (is ∙ (ap (λ j. get_or paths j []) (sym e) ∙ at.1))) ∙ ap Some (sym e))
      | inr separate ↦
          let low : k < i = omega (arith, at.0, separate) in
          next q ∙ (ap (λ b. cond b (Some i) (old q)) (differs low at.1) ∙ (reported q k).1 (low, at.1))
    ]

-- ---- The results of a map over a list

pub of_kept : (g : Path → Option ℕ) (paths : List Path) (k : ℕ) → In k (filter_map g paths) → (p : Path) × (has_path paths p ≡ true) × (g p ≡ Some k)
of_kept g [] k i = absurd i
of_kept g (p ∷ ps) k i =
    elim (g p) as (λ o. g p ≡ o → In k (cons_option o (filter_map g ps)) → (q : Path) × ((bytes_eq q p || has_path ps q) ≡ true) × (g q ≡ Some k)) [
      | None ↦ λ _ j. let at = of_kept g ps k j in (at.0, or_right (bytes_eq at.0 p) (has_path ps at.0) at.1, at.2)
      | Some x ↦ λ e j. elim j [
        | inl same ↦ (p, ap (λ b. b || has_path ps p) (itself p), e ∙ ap Some (sym same))
        | inr later ↦ let at = of_kept g ps k later in (at.0, or_right (bytes_eq at.0 p) (has_path ps at.0) at.1, at.2)
      ]
    ] refl i

pub into_kept : (g : Path → Option ℕ) (paths : List Path) (p : Path) (k : ℕ) → has_path paths p ≡ true → g p ≡ Some k → In k (filter_map g paths)
into_kept g [] p k h e = not_true h
into_kept g (q ∷ qs) p k h e =
    elim (bytes_eq p q) as (λ b. bytes_eq p q ≡ b → (b || has_path qs p) ≡ true → In k (cons_option (g q) (filter_map g qs))) [
      | true ↦ λ same _. subst (λ o. In k (cons_option o (filter_map g qs))) (sym (ap g (sym ((bytes_decides p q).0 same)) ∙ e)) (inl refl)
      | false ↦ λ _ h. elim (g q) as (λ o. In k (cons_option o (filter_map g qs))) [ None ↦ into_kept g qs p k h e | Some x ↦ inr (into_kept g qs p k h e) ]
    ] refl h

-- ---- Edges of tasks

module _ (m : Numbers) where
  abbrev IsEdge : ℕ → ℕ → ℕ → Planned → Type 0
  IsEdge k j i z =
      ((k ≡ i) × In j (numbers_in m z.task.needs)) ⊎ (((k ≡ i) × In j (numbers_in m z.task.must_run_after)) ⊎ ((j ≡ i) × In k (numbers_in m z.task.finalizers)))

  edge_of : (k j i : ℕ) (z : Planned) → In (k, j) (edges_at m i z) → IsEdge k j i z
  edge_of k j i z at =
      elim (in_either (k, j) (map (λ before. (i, before)) (numbers_in m z.task.needs) ++ map (λ before. (i, before)) (numbers_in m z.task.must_run_after)) (map (λ later. (later, i)) (numbers_in m z.task.finalizers)) at) [
        | inl before ↦ elim (in_either (k, j) (map (λ before. (i, before)) (numbers_in m z.task.needs)) (map (λ before. (i, before)) (numbers_in m z.task.must_run_after)) before) [
          | inl needed ↦ let b = of_map (λ before. (i, before)) (numbers_in m z.task.needs) (k, j) needed in
              inl (ap (λ (p : ℕ × ℕ). p.0) b.2, subst (λ v. In v (numbers_in m z.task.needs)) (sym (ap (λ (p : ℕ × ℕ). p.1) b.2)) b.1)
          | inr ordered ↦ let b = of_map (λ before. (i, before)) (numbers_in m z.task.must_run_after) (k, j) ordered in
              inr (inl (ap (λ (p : ℕ × ℕ). p.0) b.2, subst (λ v. In v (numbers_in m z.task.must_run_after)) (sym (ap (λ (p : ℕ × ℕ). p.1) b.2)) b.1))
        ]
        | inr later ↦ let b = of_map (λ later. (later, i)) (numbers_in m z.task.finalizers) (k, j) later in
            inr (inr (ap (λ (p : ℕ × ℕ). p.1) b.2, subst (λ v. In v (numbers_in m z.task.finalizers)) (sym (ap (λ (p : ℕ × ℕ). p.0) b.2)) b.1))
      ]

  of_edges : (zs : List Planned) (first k j : ℕ) → In (k, j) (edges_from m first zs) → (i : ℕ) × (z : Planned) × (i < length zs) × (z ≡ get_or zs i z) × IsEdge k j (first + i) z
  of_edges [] first k j at = absurd at
  of_edges (z ∷ zs) first k j at = elim (in_either (k, j) (edges_at m first z) (edges_from m (first + 1) zs) at) [
    | inl here ↦ (0, z, omega arith, refl, subst (λ i. IsEdge k j i z) (let e : first ≡ first + 0 = omega arith in e) (edge_of k j first z here))
    | inr later ↦ let more = of_edges zs (first + 1) k j later in
        (suc more.0, more.1, omega (arith, more.2), more.3, subst (λ i. IsEdge k j i more.1) (let e : first + 1 + more.0 ≡ first + suc more.0 = omega arith in e) more.4)
  ]

  into_edges : (zs : List Planned) (first i : ℕ) (z : Planned) (edge : ℕ × ℕ) → i < length zs → z ≡ get_or zs i z → In edge (edges_at m (first + i) z) → In edge (edges_from m first zs)
  into_edges [] first i z edge lt is at = absurd (omega (arith, lt))
  into_edges (y ∷ ys) first zero z edge lt is at =
      in_prefix edge (edges_at m first y) (edges_from m (first + 1) ys)
      (subst (λ i. In edge (edges_at m i y)) (let e : first + 0 ≡ first = omega arith in e) (subst (λ v. In edge (edges_at m (first + 0) v)) is at))
  into_edges (y ∷ ys) first (suc i) z edge lt is at =
      in_back edge (edges_at m first y) (edges_from m (first + 1) ys)
      (into_edges ys (first + 1) i z edge (omega (arith, lt)) is (subst (λ n. In edge (edges_at m n z)) (let e : first + suc i ≡ first + 1 + i = omega arith in e) at))

  module _ (tasks : List Planned) (numbers : GiveNumbers (order tasks) m) where
    same_length : length (order tasks) ≡ length tasks
    same_length = length-map tasks (λ (z : Planned). z.task.path)

    path_of : (d : Planned) (j : ℕ) → j < length tasks → get_or (order tasks) j [] ≡ (get_or tasks j d).task.path
    path_of d j lt = get_or-map (λ (z : Planned). z.task.path) tasks j d [] lt

    number_of : (d : Planned) (paths : List Path) (j : ℕ) → In j (numbers_in m paths) → (j < length tasks) × (has_path paths (get_or tasks j d).task.path ≡ true)
    number_of d paths j i =
        let at = of_kept (number_at m) paths j i in
        let is = (numbers at.0 j).0 at.2 in
        let lt : j < length tasks = omega (arith, is.0, same_length) in
        (lt, ap (has_path paths) (sym (path_of d j lt) ∙ is.1) ∙ at.1)

    into_numbers : (d : Planned) (paths : List Path) (j : ℕ) → j < length tasks → has_path paths (get_or tasks j d).task.path ≡ true → In j (numbers_in m paths)
    into_numbers d paths j lt h =
        into_kept (number_at m) paths (get_or tasks j d).task.path j h ((numbers (get_or tasks j d).task.path j).1 (omega (arith, lt, same_length), path_of d j lt))

    reported_to : (k j : ℕ) (d : Planned) → Contains (edges_from m 0 tasks) (k, j) → (k < length tasks) × (j < length tasks) × (comes_after (get_or tasks k d) (get_or tasks j d) ≡ true)
    reported_to k j d c =
        let at = of_edges tasks 0 k j (in_of (edges_from m 0 tasks) (k, j) c) in
        let here : 0 + at.0 ≡ at.0 = omega arith in
        let is : get_or tasks at.0 d ≡ at.1 = get_or_default tasks at.0 d at.1 at.2 ∙ sym at.3 in
        elim at.4 [
          | inl needed ↦
              let b = number_of d at.1.task.needs j needed.1 in
              let same : k ≡ at.0 = needed.0 ∙ here in (
                omega (arith, at.2, same),
                b.0,
                or_first (has_path (get_or tasks k d).task.needs (get_or tasks j d).task.path) _ _
                    (ap (λ (z : Planned). has_path z.task.needs (get_or tasks j d).task.path) (ap (λ n. get_or tasks n d) same ∙ is) ∙ b.1),
              )
          | inr (inl ordered) ↦
              let b = number_of d at.1.task.must_run_after j ordered.1 in
              let same : k ≡ at.0 = ordered.0 ∙ here in (
                omega (arith, at.2, same),
                b.0,
                or_third (has_path (get_or tasks k d).task.needs (get_or tasks j d).task.path) (has_path (get_or tasks j d).task.finalizers (get_or tasks k d).task.path) _
                    (ap (λ (z : Planned). has_path z.task.must_run_after (get_or tasks j d).task.path) (ap (λ n. get_or tasks n d) same ∙ is) ∙ b.1),
              )
          | inr (inr finalized) ↦
              let b = number_of d at.1.task.finalizers k finalized.1 in
              let same : j ≡ at.0 = finalized.0 ∙ here in (
                b.0,
                omega (arith, at.2, same),
                or_second (has_path (get_or tasks k d).task.needs (get_or tasks j d).task.path) (has_path (get_or tasks j d).task.finalizers (get_or tasks k d).task.path) _
                    (ap (λ (z : Planned). has_path z.task.finalizers (get_or tasks k d).task.path) (ap (λ n. get_or tasks n d) same ∙ is) ∙ b.1),
              )
        ]

    reported_back : (k j : ℕ) (d : Planned) → (k < length tasks) × (j < length tasks) × (comes_after (get_or tasks k d) (get_or tasks j d) ≡ true) → Contains (edges_from m 0 tasks) (k, j)
    reported_back k j d (lk, lj, h) =
        let x = get_or tasks k d in
        let y = get_or tasks j d in
        of_in (k, j) (edges_from m 0 tasks) (either_of (has_path x.task.needs y.task.path) (has_path y.task.finalizers x.task.path) (has_path x.task.must_run_after y.task.path) h
        (λ e. into_edges tasks 0 k x (k, j) lk (get_or_default tasks k d x lk) (edge_at k x (in_prefix (k, j) _ (map (λ later. (later, k)) (numbers_in m x.task.finalizers)) (in_prefix (k, j) _ (map (λ before. (k, before)) (numbers_in m x.task.must_run_after))
        (into_map (λ before. (k, before)) (numbers_in m x.task.needs) j (into_numbers d x.task.needs j lj e))))))
        (λ e. into_edges tasks 0 j y (k, j) lj (get_or_default tasks j d y lj) (edge_at j y (in_back (k, j) (map (λ before. (j, before)) (numbers_in m y.task.needs) ++ map (λ before. (j, before)) (numbers_in m y.task.must_run_after)) _
        (into_map (λ later. (later, j)) (numbers_in m y.task.finalizers) k (into_numbers d y.task.finalizers k lk e)))))
        (λ e. into_edges tasks 0 k x (k, j) lk (get_or_default tasks k d x lk) (edge_at k x (in_prefix (k, j) _ (map (λ later. (later, k)) (numbers_in m x.task.finalizers)) (in_back (k, j) (map (λ before. (k, before)) (numbers_in m x.task.needs)) _
        (into_map (λ before. (k, before)) (numbers_in m x.task.must_run_after) j (into_numbers d x.task.must_run_after j lj e)))))))
      where
        edge_at : (i : ℕ) (z : Planned) → In (k, j) (edges_at m i z) → In (k, j) (edges_at m (0 + i) z)
        edge_at i z at = subst (λ n. In (k, j) (edges_at m n z)) (let e : i ≡ 0 + i = omega arith in e) at

    pub edges_reported : GiveEdges tasks (edges_from m 0 tasks)
    edges_reported = record {
      known = λ k j c.
          let at = of_edges tasks 0 k j (in_of (edges_from m 0 tasks) (k, j) c) in
          let reported = reported_to k j at.1 c in (reported.0, reported.1);
      reported = λ k j d. (reported_to k j d, reported_back k j d);
    }

-- ---- A front that grows

pub take_grows : {X : Type 0} (xs : List X) (i : ℕ) (x y : X) → i < length xs → x ≡ get_or xs i x → Contains (take (i + 1) xs) y ↔ (Contains (take i xs) y ⊎ (x ≡ y))
take_grows xs i x y lt is = (to, back)
  where
    next : take (i + 1) xs ≡ take i xs ++ x ∷ []
    next = (take_at_read xs i x lt).1 ∙ ap (λ v. take i xs ++ v ∷ []) (sym is)

    to : Contains (take (i + 1) xs) y → Contains (take i xs) y ⊎ (x ≡ y)
    to c = Contains-push_cases (take i xs) x y (subst (λ vs. Contains vs y) next c)

    back : Contains (take i xs) y ⊎ (x ≡ y) → Contains (take (i + 1) xs) y
    back (inl c) = subst (λ vs. Contains vs y) (sym next) (Contains-append_left (take i xs) (x ∷ []) y c)
    back (inr e) = subst (λ vs. Contains vs y) (sym next) (subst (λ v. Contains (take i xs ++ x ∷ []) v) e (Contains-push (take i xs) x))
