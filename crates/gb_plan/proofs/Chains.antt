-- In a plan in order, all tasks that a task comes after by a chain are before it.
use Rattle.std.specs.Prelude.{◌≡◌, Bool, true, false, not, cond, ◌&&◌, ◌||◌, List, [], ◌∷◌, ◌++◌, bytes_eq, refl}
use Rattle.std.specs.List.{list_all, filter, flat_map, AllByRecursion}
use Rattle.std.specs.Cmp.Lexicographic.{bytes_decides}
use Rattle.std.proofs.Common.{sym, ap, subst, ◌∙◌, append-nil}
use Rattle.gb_folder.specs.Files.{is_empty}
use Rattle.gb_plan.specs.declared.plan.Planned.{Planned}
use Rattle.gb_plan.specs.declared.task.TaskDeclaration.{TaskDeclaration}
use Rattle.gb_plan.specs.Task.{Path, has_path}
use Rattle.gb_plan.specs.Graph.{Plan, order, after, after_at, is_ready, stuck, no_repeats, IsAfter, IsSound, IsReadInOrder, reads_output_of}
use Rattle.gb_plan.proofs.Tests.{not_true, no_longer, left_of, right_of, none_left, none_right, any_append, all_at, each_all, all_both, filter_append, itself, turned, all_of_members, goes_into, reached_in}

-- ---- Paths that occur once

pub repeats_tail : (xs ys : List Path) → no_repeats (xs ++ ys) ≡ true → no_repeats ys ≡ true
repeats_tail [] ys e = e
repeats_tail (x ∷ xs) ys e = repeats_tail xs ys (right_of (not (has_path (xs ++ ys) x)) (no_repeats (xs ++ ys)) e)

-- what is in the first part is not in the second
pub parts_separate : (xs ys : List Path) (p : Path) → no_repeats (xs ++ ys) ≡ true → has_path xs p ≡ true → has_path ys p ≡ false
parts_separate [] ys p e h = not_true h
parts_separate (x ∷ xs) ys p e h =
    elim (bytes_eq p x) as (λ b. bytes_eq p x ≡ b → (b || has_path xs p) ≡ true → has_path ys p ≡ false) [
      | true ↦ λ same _. ap (has_path ys) ((bytes_decides p x).0 same)
          ∙ none_right (has_path xs x) (has_path ys x)
          (sym (any_append (bytes_eq x) xs ys) ∙ no_longer (has_path (xs ++ ys) x) (left_of (not (has_path (xs ++ ys) x)) (no_repeats (xs ++ ys)) e))
      | false ↦ λ _ h. parts_separate xs ys p (right_of (not (has_path (xs ++ ys) x)) (no_repeats (xs ++ ys)) e) h
    ] refl h

-- ---- The order of parts

abbrev with_path : Path → List Planned → List Planned
with_path p plan = filter (λ planned. bytes_eq planned.task.path p) plan

none_with : (p : Path) (rest : List Planned) → has_path (order rest) p ≡ false → with_path p rest ≡ []
none_with p [] e = refl
none_with p (z ∷ rest) e =
    ap (λ b. cond b (z ∷ with_path p rest) (with_path p rest)) (turned z.task.path p ∙ none_left (bytes_eq p z.task.path) (has_path (order rest) p) e)
    ∙ none_with p rest (none_right (bytes_eq p z.task.path) (has_path (order rest) p) e)

pub order_append : (xs ys : List Planned) → order (xs ++ ys) ≡ order xs ++ order ys
order_append [] ys = refl
order_append (x ∷ xs) ys = ap (λ zs. x.task.path ∷ zs) (order_append xs ys)

pub wider : (p s : Path → Bool) → ((x : Path) → p x ≡ true → s x ≡ true) → (xs : List Path) → list_all p xs ≡ true → list_all s xs ≡ true
wider p s f [] e = refl
wider p s f (x ∷ xs) e = ap (λ b. b && list_all s xs) (f x (left_of (p x) (list_all p xs) e)) ∙ wider p s f xs (right_of (p x) (list_all p xs) e)

pub grouped : (placed : List Planned) (next : Planned) (rest : List Planned) → placed ++ next ∷ rest ≡ (placed ++ next ∷ []) ++ rest
grouped [] next rest = refl
grouped (z ∷ placed) next rest = ap (λ zs. z ∷ zs) (grouped placed next rest)

module _ (plan : Plan) where
  -- all that these come after is in the set
  abbrev pub Closed : List Path → List Planned → Type 0
  Closed set placed = AllByRecursion (λ (z : Planned). list_all (has_path set) (after plan z.task) ≡ true) placed

  steps_in : (set : List Path) (p : Path) (placed : List Planned) → Closed set placed
      → list_all (has_path set) (flat_map (λ z. after plan z.task) (with_path p placed)) ≡ true
  steps_in set p [] h = refl
  steps_in set p (z ∷ placed) h =
      elim (bytes_eq z.task.path p) as (λ b. list_all (has_path set) (flat_map (λ (y : Planned). after plan y.task) (cond b (z ∷ with_path p placed) (with_path p placed))) ≡ true) [
        | true ↦ all_both (has_path set) (after plan z.task) (flat_map (λ (y : Planned). after plan y.task) (with_path p placed)) h.0 (steps_in set p placed h.1)
        | false ↦ steps_in set p placed h.1
      ]

  -- what a task comes after by a chain is before it
  pub exists_before : (set : List Path) (placed rest : List Planned) (task : TaskDeclaration) (path : Path) → plan ≡ placed ++ rest → set ≡ order placed
      → no_repeats (order plan) ≡ true → Closed set placed → is_ready plan set task ≡ true → IsAfter plan task path → has_path set path ≡ true
  exists_before set placed rest task path whole same once closed ready chain =
      reached_in (after plan task) (after_at plan) _ set ready
      (all_of_members (λ p. goes_into (λ _. false) set (after_at plan p)) set (λ p h.
      subst (λ zs. list_all (has_path set) (flat_map (λ (z : Planned). after plan z.task) zs) ≡ true)
      (sym (ap (with_path p) whole ∙ filter_append (λ z. bytes_eq z.task.path p) placed rest
      ∙ ap (λ zs. with_path p placed ++ zs) (none_with p rest
      (parts_separate (order placed) (order rest) p (ap no_repeats (sym (order_append placed rest) ∙ ap order (sym whole)) ∙ once) (ap (λ s. has_path s p) (sym same) ∙ h)))
      ∙ append-nil (with_path p placed)))
      (steps_in set p placed closed)))
      chain

  -- no task reads an output of a later one
  pub reads_no_later : (set : List Path) (placed : List Planned) (reader : Planned) (rest : List Planned) → plan ≡ placed ++ reader ∷ rest → set ≡ order placed
      → no_repeats (order plan) ≡ true → Closed set placed → is_ready plan set reader.task ≡ true → IsSound plan
      → AllByRecursion (λ (writer : Planned). reads_output_of reader.task writer.task ≡ false) rest
  reads_no_later set placed reader rest whole same once closed ready sound =
      none_of rest
      (all_at _ placed reader rest (subst (AllByRecursion (λ (writer : Planned). IsReadInOrder plan reader.task writer.task)) whole
      (all_at _ placed reader rest (subst (AllByRecursion (λ (r : Planned). AllByRecursion (λ (writer : Planned). IsReadInOrder plan r.task writer.task) plan)) whole sound.declared)).0)).1
      (λ p h. none_right (bytes_eq p reader.task.path) (has_path (order rest) p) (parts_separate (order placed) (order (reader ∷ rest)) p repeats (ap (λ s. has_path s p) (sym same) ∙ h)))
      (no_longer (has_path (order rest) reader.task.path)
      (left_of (not (has_path (order rest) reader.task.path)) (no_repeats (order rest)) (repeats_tail (order placed) (order (reader ∷ rest)) repeats)))
    where
      repeats : no_repeats (order placed ++ order (reader ∷ rest)) ≡ true
      repeats = ap no_repeats (sym (order_append placed (reader ∷ rest)) ∙ ap order (sym whole)) ∙ once

      none_of : (later : List Planned) → AllByRecursion (λ (writer : Planned). IsReadInOrder plan reader.task writer.task) later
          → ((p : Path) → has_path set p ≡ true → has_path (order later) p ≡ false)
          → has_path (order later) reader.task.path ≡ false → AllByRecursion (λ (writer : Planned). reads_output_of reader.task writer.task ≡ false) later
      none_of [] declared separate differs = tt
      none_of (w ∷ later) declared separate differs = (
        elim (reads_output_of reader.task w.task) as (λ b. reads_output_of reader.task w.task ≡ b → b ≡ false) [
          | true ↦ λ e. not_true (sym (none_left (bytes_eq w.task.path w.task.path) (has_path (order later) w.task.path)
              (separate w.task.path (exists_before set placed (reader ∷ rest) reader.task w.task.path whole same once closed ready
              (declared.0 e (none_left (bytes_eq reader.task.path w.task.path) (has_path (order later) reader.task.path) differs)))))
              ∙ itself w.task.path)
          | false ↦ λ _. refl
        ] refl,
        none_of later declared.1 (λ p h. none_right (bytes_eq p w.task.path) (has_path (order later) p) (separate p h))
            (none_right (bytes_eq reader.task.path w.task.path) (has_path (order later) reader.task.path) differs),
      )

  -- ---- A plan in which all become ready

  not_empty : {X : Type 0} {x : X} {xs : List X} {A : Type 0} → x ∷ xs ≡ [] → A
  not_empty e = not_true (ap is_empty e)

  -- the next is ready
  pub ready_here : (set : List Path) (next : Planned) (rest : List Planned) → stuck plan set (next ∷ rest) ≡ [] → is_ready plan set next.task ≡ true
  ready_here set next rest e =
      elim (is_ready plan set next.task) as (λ b. cond b (stuck plan (set ++ next.task.path ∷ []) rest) (next ∷ rest) ≡ [] → b ≡ true) [
        | true ↦ λ _. refl
        | false ↦ λ e. not_empty e
      ] e

  -- and so are the others, one after another
  pub stuck_rest : (set : List Path) (next : Planned) (rest : List Planned) → stuck plan set (next ∷ rest) ≡ [] → stuck plan (set ++ next.task.path ∷ []) rest ≡ []
  stuck_rest set next rest e =
      elim (is_ready plan set next.task) as (λ b. cond b (stuck plan (set ++ next.task.path ∷ []) rest) (next ∷ rest) ≡ [] → stuck plan (set ++ next.task.path ∷ []) rest ≡ []) [
        | true ↦ λ e. e
        | false ↦ λ e. not_empty e
      ] e

  has_more : (set more : List Path) (p : Path) → has_path set p ≡ true → has_path (set ++ more) p ≡ true
  has_more set more p e = any_append (bytes_eq p) set more ∙ ap (λ b. b || has_path more p) e

  pub closed_more : (set more : List Path) (placed : List Planned) → Closed set placed → Closed (set ++ more) placed
  closed_more set more placed h = each_all _ _ (λ z e. wider (has_path set) (has_path (set ++ more)) (has_more set more) (after plan z.task) e) placed h

  pub closed_push : (set : List Path) (placed : List Planned) (next : Planned) → Closed set placed → list_all (has_path set) (after plan next.task) ≡ true
      → Closed set (placed ++ next ∷ [])
  closed_push set [] next h e = (e, tt)
  closed_push set (z ∷ placed) next h e = (h.0, closed_push set placed next h.1 e)
