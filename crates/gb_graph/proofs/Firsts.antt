-- From numbers to paths: the first argument that reaches a scheduled task.
use Rattle.std.specs.Prelude.{ℕ, zero, suc, ◌≡◌, ◌⊎◌, ◌<◌, ◌≤◌, Bool, true, false, ◌||◌, List, [], ◌∷◌, ◌++◌, map, length, get_or, take, refl, Contains, Some, Ok}
use Rattle.std.specs.List.{flat_map}
use Rattle.std.proofs.Common.{sym, ap, subst, ◌∙◌, inl, inr, arith}
use Rattle.std.proofs.Math.ListN.{get_or-eq_default}
use Rattle.std.proofs.lemmas.Bool.{cases_order}
use Rattle.std.proofs.lemmas.List.{get_or-map, length-map, map-append}
use Rattle.std.proofs.lemmas.List.Elements.{All-from_recursion}
use Rattle.std.proofs.lemmas.Option.{slice_get-get_or, get_or_from_slice_get, slice_get_within}
use Rattle.gb_plan.specs.declared.plan.Planned.{Planned}
use Rattle.gb_plan.specs.declared.task.TaskDeclaration.{TaskDeclaration}
use Rattle.gb_plan.specs.Task.{Text, Path, has_path}
use Rattle.gb_plan.specs.Graph.{Request, Reached, start, step, brings, declaration_at, leaves_out, selected, selected_by, IsRegistered, IsScheduled, IsFirstWord, WordReaches}
use Rattle.gb_plan.proofs.Tests.{not_true, or_right}
use Rattle.gb_plan.proofs.Registered.{brings_declared}
use Rattle.gb_graph.specs.Order.{row}
use Rattle.gb_graph.specs.Queue.{paths_in}
use Rattle.gb_graph.specs.Ranked.{Numbers, GiveNumbers, number_at, numbers_in}
use Rattle.gb_graph.specs.Reach.{Reaches, IsFirstStart}
use Rattle.gb_graph.specs.Reach as reach
use Rattle.gb_graph.specs.Words.{AreDone, brought_rows, selected_once}
use Rattle.gb_graph.proofs.Edges.{at_path, has_at, of_kept, into_kept}
use Rattle.gb_graph.proofs.Newly.{first_index, newly_at, newly_length}
use Rattle.gb_graph.proofs.Numbers.{in_of, of_in, in_prefix, in_back, in_either, left_or, grouped}
use Rattle.gb_graph.proofs.Queues.{has_append, split_or}

-- the element at an index
pub element : {X : Type 0} (xs : List X) (k : ℕ) → k < length xs → (x : X) × (x ≡ get_or xs k x)
element [] k lt = absurd (omega (arith, lt))
element (x ∷ xs) zero lt = (x, refl)
element (x ∷ xs) (suc k) lt = element xs k (omega (arith, lt))

reached_open : {starts : List Path} {steps : Path → List Path} {shut : Path → Bool} {path : Path} → Reached starts steps shut path → shut path ≡ false
reached_open (start h o) = o
reached_open (step r h o) = o

widen : (starts more : List Path) (steps : Path → List Path) (shut : Path → Bool) → ((p : Path) → has_path starts p ≡ true → has_path more p ≡ true) → (path : Path) → Reached starts steps shut path
    → Reached more steps shut path
widen starts more steps shut within path (start h o) = start (within path h) o
widen starts more steps shut within path (step {from = from} r h o) = step (widen starts more steps shut within from r) h o

-- what all arguments select, one of them selects
one_word : (f : Text → List Path) (words : List Text) (p : Path) → has_path (flat_map f words) p ≡ true → (i : ℕ) × (i < length words) × (has_path (f (get_or words i [])) p ≡ true)
one_word f [] p h = not_true h
one_word f (w ∷ words) p h = split_or (has_path (f w) p) (has_path (flat_map f words) p) (sym (has_append (f w) (flat_map f words) p) ∙ h)
    (λ e. (0, omega arith, e))
    (λ e. let at = one_word f words p e in (suc at.0, omega (arith, at.1), at.2))

some_word : (f : Text → List Path) (words : List Text) (i : ℕ) (p : Path) → i < length words → has_path (f (get_or words i [])) p ≡ true → has_path (flat_map f words) p ≡ true
some_word f [] i p lt h = absurd (omega (arith, lt))
some_word f (w ∷ words) zero p lt h = has_append (f w) (flat_map f words) p ∙ left_or (has_path (f w) p) (has_path (flat_map f words) p) h
some_word f (w ∷ words) (suc i) p lt h = has_append (f w) (flat_map f words) p ∙ or_right (has_path (f w) p) (has_path (flat_map f words) p) (some_word f words i p (omega (arith, lt)) h)

module _ (tasks : List TaskDeclaration) (m : Numbers) (numbers : GiveNumbers (paths_in tasks) m) where
  same_length : length (paths_in tasks) ≡ length tasks
  same_length = length-map tasks (λ (task : TaskDeclaration). task.path)

  abbrev path : ℕ → Path
  path k = get_or (paths_in tasks) k []

  number_of : (ps : List Path) (k : ℕ) → Contains (numbers_in m ps) k → (k < length tasks) × (has_path ps (path k) ≡ true)
  number_of ps k c =
      let at = of_kept (number_at m) ps k (in_of (numbers_in m ps) k c) in
      let is = (numbers at.0 k).0 at.2 in
      (omega (arith, is.0, same_length), ap (has_path ps) is.1 ∙ at.1)

  into_number : (ps : List Path) (k : ℕ) → k < length tasks → has_path ps (path k) ≡ true → Contains (numbers_in m ps) k
  into_number ps k lt h = of_in k (numbers_in m ps) (into_kept (number_at m) ps (path k) k h ((numbers (path k) k).1 (omega (arith, lt, same_length), refl)))

  row_within : (table : List (List ℕ)) (k j : ℕ) → Contains (row table k) j → k < length table
  row_within table k j c = elim (cases_order k (length table)) [
    | inl e ↦ absurd (beyond (omega (arith, e)))
    | inr (inl low) ↦ low
    | inr (inr high) ↦ absurd (beyond (omega (arith, high)))
  ]
    where
      beyond : length table ≤ k → ⊥
      beyond le = let lt = (subst (λ xs. Contains xs j) (get_or-eq_default table [] le) c).1 in omega (arith, lt)

  abbrev table : List (List ℕ)
  table = brought_rows m tasks

  table_length : length (brought_rows m tasks) ≡ length tasks
  table_length = length-map tasks (λ (task : TaskDeclaration). numbers_in m task.needs ++ numbers_in m task.finalizers)

  row_is : (k : ℕ) (z : TaskDeclaration) → k < length tasks → z ≡ get_or tasks k z → row (brought_rows m tasks) k ≡ numbers_in m z.needs ++ numbers_in m z.finalizers
  row_is k z lt is =
      get_or-map (λ (task : TaskDeclaration). numbers_in m task.needs ++ numbers_in m task.finalizers) tasks k z [] lt
      ∙ ap (λ (task : TaskDeclaration). numbers_in m task.needs ++ numbers_in m task.finalizers) (sym is)

  pub table_known : (k j : ℕ) → Contains (row (brought_rows m tasks) k) j → (k < length tasks) × (j < length tasks)
  table_known k j c =
      let low = row_within (brought_rows m tasks) k j c in
      let lt : k < length tasks = omega (arith, low, table_length) in
      let z = element tasks k lt in (
        lt,
        elim (in_either j (numbers_in m z.0.needs) (numbers_in m z.0.finalizers) (in_of _ j (subst (λ xs. Contains xs j) (row_is k z.0 lt z.1) c))) [
          | inl i ↦ (number_of z.0.needs j (of_in j (numbers_in m z.0.needs) i)).0
          | inr i ↦ (number_of z.0.finalizers j (of_in j (numbers_in m z.0.finalizers) i)).0
        ],
      )

  pub starts_known : (lists : List (List Path)) (index j : ℕ) → Contains (row (map (numbers_in m) lists) index) j → j < length tasks
  starts_known lists index j c =
      let low = row_within (map (numbers_in m) lists) index j c in
      let same : length (map (numbers_in m) lists) ≡ length lists = length-map lists (numbers_in m) in
      (number_of (get_or lists index []) j (subst (λ xs. Contains xs j) (get_or-map (numbers_in m) lists index [] [] (omega (arith, low, same))) c)).0

  module _ (request : Request) (lists : List (List Path)) (done : AreDone request tasks lists) where
    at_number : (k : ℕ) (z : TaskDeclaration) → k < length tasks → z ≡ get_or tasks k z → (z.path ≡ path k) × (declaration_at request.registry (path k) ≡ Some (Ok z))
    at_number k z lt is =
        let same : path k ≡ z.path = get_or-map (λ (task : TaskDeclaration). task.path) tasks k z [] lt ∙ ap (λ (task : TaskDeclaration). task.path) (sym is) in
        let declared = All-from_recursion (IsRegistered request.registry) tasks done.declared k z lt in
        (sym same, ap (declaration_at request.registry) same ∙ subst (IsRegistered request.registry) (sym is) declared)

    brought : (k : ℕ) (z : TaskDeclaration) → k < length tasks → z ≡ get_or tasks k z → (p : Path) → has_path (brings request.registry (path k)) p ≡ (has_path z.needs p || has_path z.finalizers p)
    brought k z lt is p = brings_declared request.registry (path k) z (at_number k z lt is).1 p ∙ has_append z.needs z.finalizers p

    edge : (k j : ℕ) → Contains (row (brought_rows m tasks) k) j → (k < length tasks) × (j < length tasks) × (has_path (brings request.registry (path k)) (path j) ≡ true)
    edge k j c =
        let low = row_within (brought_rows m tasks) k j c in
        let lt : k < length tasks = omega (arith, low, table_length) in
        let z = element tasks k lt in
        elim (in_either j (numbers_in m z.0.needs) (numbers_in m z.0.finalizers) (in_of _ j (subst (λ xs. Contains xs j) (row_is k z.0 lt z.1) c))) [
          | inl i ↦ let b = number_of z.0.needs j (of_in j (numbers_in m z.0.needs) i) in
              (lt, b.0, brought k z.0 lt z.1 (path j) ∙ left_or (has_path z.0.needs (path j)) (has_path z.0.finalizers (path j)) b.1)
          | inr i ↦ let b = number_of z.0.finalizers j (of_in j (numbers_in m z.0.finalizers) i) in
              (lt, b.0, brought k z.0 lt z.1 (path j) ∙ or_right (has_path z.0.needs (path j)) (has_path z.0.finalizers (path j)) b.1)
        ]

    edge_back : (k j : ℕ) → k < length tasks → j < length tasks → has_path (brings request.registry (path k)) (path j) ≡ true → Contains (row (brought_rows m tasks) k) j
    edge_back k j lk lj h =
        let z = element tasks k lk in
        subst (λ xs. Contains xs j) (sym (row_is k z.0 lk z.1)) (of_in j (numbers_in m z.0.needs ++ numbers_in m z.0.finalizers)
        (split_or (has_path z.0.needs (path j)) (has_path z.0.finalizers (path j)) (sym (brought k z.0 lk z.1 (path j)) ∙ h)
        (λ e. in_prefix j (numbers_in m z.0.needs) (numbers_in m z.0.finalizers) (in_of (numbers_in m z.0.needs) j (into_number z.0.needs j lj e)))
        (λ e. in_back j (numbers_in m z.0.needs) (numbers_in m z.0.finalizers) (in_of (numbers_in m z.0.finalizers) j (into_number z.0.finalizers j lj e)))))

    is_open : (k : ℕ) → k < length tasks → leaves_out request (path k) ≡ false
    is_open k lt = reached_open (done.scheduled (path k) (has_at (paths_in tasks) k (omega (arith, lt, same_length))))

    to_path : (list : List Path) (k : ℕ) → Reaches (brought_rows m tasks) (numbers_in m list) k → (k < length tasks) × Reached list (brings request.registry) (leaves_out request) (path k)
    to_path list k (reach.start c) = let b = number_of list k c in (b.0, start b.1 (is_open k b.0))
    to_path list k (reach.step {from = from} r c) =
        let e = edge from k c in
        let before = to_path list from r in
        (e.1, step before.1 e.2 (is_open k e.1))

    from_path : (list : List Path) → ((p : Path) → has_path list p ≡ true → has_path (selected request) p ≡ true) → (p : Path) → Reached list (brings request.registry) (leaves_out request) p
        → (k : ℕ) → k < length tasks → path k ≡ p → Reaches (brought_rows m tasks) (numbers_in m list) k
    from_path list within p (start h o) k lt is = reach.start (into_number list k lt (ap (has_path list) is ∙ h))
    from_path list within p (step {from = from} r h o) k lt is =
        let scheduled = widen list (selected request) (brings request.registry) (leaves_out request) within from r in
        let at = at_path (paths_in tasks) from (done.back from scheduled) in
        let low : at.0 < length tasks = omega (arith, at.1, same_length) in
        reach.step (from_path list within from r at.0 low at.2)
        (edge_back at.0 k low lt (ap (λ q. has_path (brings request.registry q) (path k)) at.2 ∙ (ap (has_path (brings request.registry from)) is ∙ h)))

    words_length : length lists ≡ length request.words
    words_length = ap length done.selects ∙ newly_length request.registry [] request.words

    list_is : (i : ℕ) → i < length request.words
        → row (map (numbers_in m) lists) i ≡ numbers_in m (selected_once request.registry (has_path (take i request.words) (get_or request.words i [])) (get_or request.words i []))
    list_is i lt =
        get_or-map (numbers_in m) lists i [] [] (omega (arith, lt, words_length))
        ∙ ap (λ ls. numbers_in m (get_or ls i [])) done.selects
        ∙ ap (numbers_in m) (newly_at request.registry request.words i lt)

    selects : (i : ℕ) → i < length request.words → (p : Path) → has_path (selected_by request.registry (get_or request.words i [])) p ≡ true → has_path (selected request) p ≡ true
    selects i lt p h = some_word (selected_by request.registry) request.words i p lt h

    -- the argument of an index reaches a task where its start reaches the number
    to_word : (i k : ℕ) → i < length request.words → Reaches (brought_rows m tasks) (row (map (numbers_in m) lists) i) k → WordReaches request i (path k)
    to_word i k lt r = (
      get_or request.words i [],
      slice_get-get_or request.words i [] lt,
      by (has_path (take i request.words) (get_or request.words i [])) (subst (λ xs. Reaches (brought_rows m tasks) xs k) (list_is i lt) r),
    )
      where
        by : (known : Bool) → Reaches (brought_rows m tasks) (numbers_in m (selected_once request.registry known (get_or request.words i []))) k
            → Reached (selected_by request.registry (get_or request.words i [])) (brings request.registry) (leaves_out request) (path k)
        by true r = widen [] (selected_by request.registry (get_or request.words i [])) (brings request.registry) (leaves_out request) (λ p h. not_true h) (path k) (to_path [] k r).1
        by false r = (to_path (selected_by request.registry (get_or request.words i [])) k r).1

    -- where an argument reaches a task, the start of the argument's first occurrence reaches the number
    from_word : (i k : ℕ) → k < length tasks → WordReaches request i (path k) → (j : ℕ) × (j < length request.words) × (j ≤ i) × Reaches (brought_rows m tasks) (row (map (numbers_in m) lists) j) k
    from_word i k lk (word, is, r) =
        let first = first_index request.words i (slice_get_within request.words i word is) in
        let j = first.index in
        let same : get_or request.words j [] ≡ word = first.same ∙ get_or_from_slice_get request.words i word [] is in (
          j,
          first.within,
          first.upto,
          subst (λ xs. Reaches (brought_rows m tasks) xs k) (sym (list_is j first.within ∙ ap (λ b. numbers_in m (selected_once request.registry b (get_or request.words j []))) first.fresh))
              (from_path (selected_by request.registry (get_or request.words j [])) (selects j first.within) (path k)
              (subst (λ w. Reached (selected_by request.registry w) (brings request.registry) (leaves_out request) (path k)) (sym same) r) k lk refl),
        )

    word_of : (p : Path) → IsScheduled request p → (i : ℕ) × (i < length request.words) × Reached (selected_by request.registry (get_or request.words i [])) (brings request.registry) (leaves_out request) p
    word_of p (start h o) = let at = one_word (selected_by request.registry) request.words p h in (at.0, at.1, start at.2 o)
    word_of p (step {from = from} r h o) = let at = word_of from r in (at.0, at.1, step at.2 h o)

    pub first_word : (words : List ℕ) → ((index task : ℕ) → index < length lists → Reaches (brought_rows m tasks) (row (map (numbers_in m) lists) index) task
        → IsFirstStart (brought_rows m tasks) (map (numbers_in m) lists) task (get_or words task 0)) → (k : ℕ) → k < length tasks → IsFirstWord request (path k) (get_or words k 0)
    first_word words first k lt =
        let some = word_of (path k) (done.scheduled (path k) (has_at (paths_in tasks) k (omega (arith, lt, same_length)))) in
        let there = from_word some.0 k lt (get_or request.words some.0 [], slice_get-get_or request.words some.0 [] some.1, some.2) in
        let is = first there.0 k (omega (arith, there.1, words_length)) there.3 in
        let within = is.within in
        let starts_length : length (map (numbers_in m) lists) ≡ length lists = length-map lists (numbers_in m) in
        record {
          reaches = to_word (get_or words k 0) k (omega (arith, within, starts_length, words_length)) is.reaches;
          none_before = λ i low r. let at = from_word i k lt r in is.none_before at.0 (omega (arith, low, at.2)) at.3;
        }

-- ---- Tasks with their arguments

pub push_at : {X : Type 0} (xs : List X) (x : X) (k : ℕ) (d : X) → k < length (xs ++ x ∷ [])
    → ((k < length xs) × (get_or (xs ++ x ∷ []) k d ≡ get_or xs k d)) ⊎ ((k ≡ length xs) × (get_or (xs ++ x ∷ []) k d ≡ x))
push_at [] x zero d lt = inr (refl, refl)
push_at [] x (suc k) d lt = absurd (omega (arith, lt))
push_at (y ∷ ys) x zero d lt = inl (omega arith, refl)
push_at (y ∷ ys) x (suc k) d lt = elim (push_at ys x k d (omega (arith, lt))) [
  | inl at ↦ let low = at.0 in inl (omega (arith, low), at.1)
  | inr at ↦ let same = at.0 in inr (omega (arith, same), at.1)
]

pub worded_more : (old : List Planned) (next : Planned) (words : List ℕ) → ((k : ℕ) (d : Planned) → k < length old → (get_or old k d).word ≡ get_or words k 0) → next.word ≡ get_or words (length old) 0
    → (k : ℕ) (d : Planned) → k < length (old ++ next ∷ []) → (get_or (old ++ next ∷ []) k d).word ≡ get_or words k 0
worded_more old next words reported here k d lt = elim (push_at old next k d lt) [
  | inl at ↦ ap (λ (p : Planned). p.word) at.1 ∙ reported k d at.0
  | inr at ↦ ap (λ (p : Planned). p.word) at.1 ∙ (here ∙ ap (λ n. get_or words n 0) (sym at.0))
]

pub same_more : (old : List Planned) (next : Planned) (rest whole all : List TaskDeclaration) → whole ≡ next.task ∷ rest → map (λ (p : Planned). p.task) old ++ whole ≡ all
    → map (λ (p : Planned). p.task) (old ++ next ∷ []) ++ rest ≡ all
same_more old next rest whole all is reported =
    ap (λ ts. ts ++ rest) (map-append (λ (p : Planned). p.task) old (next ∷ []))
    ∙ (sym (grouped (map (λ (p : Planned). p.task) old) next.task rest) ∙ (ap (λ ts. map (λ (p : Planned). p.task) old ++ ts) (sym is) ∙ reported))
