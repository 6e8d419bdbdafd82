-- How the queue grows, and its final contents.
use Rattle.std.specs.Prelude.{ℕ, ◌≡◌, ◌<◌, ◌≤◌, ◌+◌, ◌↔◌, Bool, true, false, not, cond, ◌||◌, List, [], ◌∷◌, ◌++◌, length, get_or, bytes_eq, refl, Some, Ok, Err}
use Rattle.std.specs.List.{list_any, filter, AllByRecursion, IsDistinct}
use Rattle.std.specs.Cmp.{IsEquivalence}
use Rattle.std.specs.BTreeSet.{insert_key}
use Rattle.std.specs.Ordering.{match_ordering, ordering_reverse, eq_by_cmp}
use Rattle.std.specs.declared.cmp.Ordering.TheVariants.{Less, Equal, Greater}
use Rattle.std.specs.Cmp.Lexicographic.{bytes_decides, nat_list_cmp_total}
use Rattle.std.proofs.Common.{sym, ap, subst, ◌∙◌, arith, append-nil}
use Rattle.std.proofs.lemmas.List.{append_assoc, map-append, length-map, length-append}
use Rattle.std.proofs.lemmas.List.Elements.{filter_agree}
use Rattle.std.proofs.lemmas.Map.Made.{length-le_from_is_member}
use Rattle.std.proofs.lemmas.Map.Text.{is_eq-slice_cmp}
use Rattle.gb_core.specs.Lists.{byte_order}
use Rattle.gb_core.specs.Tasks.{with_tasks}
use Rattle.gb_core.proofs.Found.{same_tied}
use Rattle.gb_tree.specs.Property.{distinct}
use Rattle.gb_tree.proofs.Found.{distinct_more}
use Rattle.gb_report.specs.declared.fault.Fault.{Fault}
use Rattle.gb_plan.specs.declared.task.TaskDeclaration.{TaskDeclaration}
use Rattle.gb_plan.specs.Task.{Path, has_path}
use Rattle.gb_plan.specs.Graph.{Registry, Request, no_repeats, brings, brought_by, declaration_at, paths_of, selected, leaves_out, IsRegistered, IsRegistry, IsDeclared, IsScheduled}
use Rattle.gb_plan.specs.Refusal.{Queued, begins, goes_on, open_of, newly_brought, IsTaskFault}
use Rattle.gb_plan.proofs.Tests.{not_true, no_longer, left_of, right_of, none_left, none_right, or_right, any_append, each_all, at_member, all_of_members, in_filter, into_filter, itself, turned, goes_into, reached_in}
use Rattle.gb_plan.proofs.Registered.{at_declared, brings_declared}
use Rattle.gb_plan.proofs.Refused.{waits_scheduled}
use Rattle.gb_graph.specs.Queue.{added, IsAsked, HasCome, paths_in}
use Rattle.gb_graph.proofs.Numbers.{both, left_or, regrouped}

-- ---- Paths by bytes

abbrev Rising : List Path → Type 0
Rising [] = Unit {0}
Rising (x ∷ xs) = AllByRecursion (λ y. byte_order x y ≡ Less) xs × Rising xs

all_insert : (P : Path → Type 0) (xs : List Path) (p : Path) → AllByRecursion P xs → P p → AllByRecursion P (insert_key byte_order xs p)
all_insert P [] p all one = (one, tt)
all_insert P (x ∷ xs) p all one = elim (byte_order p x) as (λ o. AllByRecursion P (match_ordering o (p ∷ x ∷ xs) (x ∷ xs) (x ∷ insert_key byte_order xs p))) [
  | Less ↦ (one, (all.0, all.1))
  | Equal ↦ all
  | Greater ↦ (all.0, all_insert P xs p all.1 one)
]

rising_insert : (xs : List Path) (p : Path) → Rising xs → Rising (insert_key byte_order xs p)
rising_insert [] p rising = (tt, tt)
rising_insert (x ∷ xs) p rising =
    elim (byte_order p x) as (λ o. byte_order p x ≡ o → Rising (match_ordering o (p ∷ x ∷ xs) (x ∷ xs) (x ∷ insert_key byte_order xs p))) [
      | Less ↦ λ e. ((e, each_all (λ y. byte_order x y ≡ Less) (λ y. byte_order p y ≡ Less) (λ y h. nat_list_cmp_total.trans p x y e h) xs rising.0), rising)
      | Equal ↦ λ _. rising
      | Greater ↦ λ e. (all_insert (λ y. byte_order x y ≡ Less) xs p rising.0 (nat_list_cmp_total.antisymm x p ∙ ap ordering_reverse e), rising_insert xs p rising.1)
    ] refl

rising_with : (xs ys : List Path) → Rising xs → Rising (with_tasks xs ys)
rising_with xs [] rising = rising
rising_with xs (y ∷ ys) rising = rising_with (insert_key byte_order xs y) ys (rising_insert xs y rising)

not_below : (x : Path) (xs : List Path) → AllByRecursion (λ y. byte_order x y ≡ Less) xs → has_path xs x ≡ false
not_below x [] all = refl
not_below x (y ∷ ys) all =
    elim (bytes_eq x y) as (λ b. bytes_eq x y ≡ b → (b || has_path ys x) ≡ false) [
      | true ↦ λ e. absurd (let f : Less ≡ Equal = sym all.0 ∙ same_tied x y ((bytes_decides x y).0 e) in cc)
      | false ↦ λ _. not_below x ys all.1
    ] refl

once_rising : (xs : List Path) → Rising xs → no_repeats xs ≡ true
once_rising [] rising = refl
once_rising (x ∷ xs) rising = both (not (has_path xs x)) (no_repeats xs) (ap not (not_below x xs rising.0)) (once_rising xs rising.1)

pub once_with : (xs : List Path) → no_repeats (with_tasks [] xs) ≡ true
once_with xs = once_rising (with_tasks [] xs) (rising_with [] xs tt)

pub with_append : (ts xs ys : List Path) → with_tasks ts (xs ++ ys) ≡ with_tasks (with_tasks ts xs) ys
with_append ts [] ys = refl
with_append ts (x ∷ xs) ys = with_append (insert_key byte_order ts x) xs ys

-- ---- What is added

pub has_append : (xs ys : List Path) (p : Path) → has_path (xs ++ ys) p ≡ (has_path xs p || has_path ys p)
has_append xs ys p = any_append (bytes_eq p) xs ys

or_nothing : (b : Bool) → (b || false) ≡ b
or_nothing true = refl
or_nothing false = refl

pub has_push : (xs : List Path) (x p : Path) → has_path (xs ++ x ∷ []) p ≡ (has_path xs p || bytes_eq p x)
has_push xs x p = has_append xs (x ∷ []) p ∙ ap (λ b. has_path xs p || b) (or_nothing (bytes_eq p x))

once_push : (xs : List Path) (x : Path) → no_repeats xs ≡ true → has_path xs x ≡ false → no_repeats (xs ++ x ∷ []) ≡ true
once_push [] x once lacks = refl
once_push (y ∷ ys) x once lacks = both (not (has_path (ys ++ x ∷ []) y)) (no_repeats (ys ++ x ∷ []))
    (ap not (has_push ys x y ∙ ap (λ b. b || bytes_eq y x) (no_longer (has_path ys y) (left_of (not (has_path ys y)) (no_repeats ys) once))
    ∙ (turned y x ∙ none_left (bytes_eq x y) (has_path ys x) lacks)))
    (once_push ys x (right_of (not (has_path ys y)) (no_repeats ys) once) (none_right (bytes_eq x y) (has_path ys x) lacks))

module _ (shut : Path → Bool) where
  abbrev pub next_queue : List Path → Path → List Path
  next_queue queue path = cond (shut path || has_path queue path) queue (queue ++ path ∷ [])

  abbrev is_open : Path → Bool
  is_open p = not (shut p)

  once_next : (queue : List Path) (p : Path) → no_repeats queue ≡ true → no_repeats (next_queue queue p) ≡ true
  once_next queue p once = elim (shut p || has_path queue p) as (λ b. (shut p || has_path queue p) ≡ b → no_repeats (cond b queue (queue ++ p ∷ [])) ≡ true) [
    | true ↦ λ _. once
    | false ↦ λ e. once_push queue p once (none_right (shut p) (has_path queue p) e)
  ] refl

  pub once_added : (queue xs : List Path) → no_repeats queue ≡ true → no_repeats (added shut queue xs) ≡ true
  once_added queue [] once = once
  once_added queue (x ∷ xs) once = once_added (next_queue queue x) xs (once_next queue x once)

  pub in_added : (P : Path → Type 0) (queue xs : List Path) → ((p : Path) → has_path queue p ≡ true → P p) → ((p : Path) → has_path xs p ≡ true → P p)
      → (p : Path) → has_path (added shut queue xs) p ≡ true → P p
  in_added P queue [] old new p h = old p h
  in_added P queue (x ∷ xs) old new p h = in_added P (next_queue queue x) xs
      (λ q g. elim (shut x || has_path queue x) as (λ b. has_path (cond b queue (queue ++ x ∷ [])) q ≡ true → P q) [
        | true ↦ λ g. old q g
        | false ↦ λ g. elim (bytes_eq q x) as (λ b. bytes_eq q x ≡ b → (has_path queue q || b) ≡ true → P q) [
          | true ↦ λ same _. new q (left_or (bytes_eq q x) (has_path xs q) same)
          | false ↦ λ _ k. old q (sym (or_nothing (has_path queue q)) ∙ k)
        ] refl (sym (has_push queue x q) ∙ g)
      ] g)
      (λ q g. new q (or_right (bytes_eq q x) (has_path xs q) g)) p h

  filter_same : (p q : Path → Bool) (xs : List Path) → ((x : Path) → has_path xs x ≡ true → p x ≡ q x) → filter p xs ≡ filter q xs
  filter_same p q [] h = refl
  filter_same p q (x ∷ xs) h =
      ap (λ b. cond b (x ∷ filter p xs) (filter p xs)) (h x (left_or (bytes_eq x x) (has_path xs x) (itself x)))
      ∙ ap (λ ys. cond (q x) (x ∷ ys) ys) (filter_same p q xs (λ y g. h y (or_right (bytes_eq y x) (has_path xs y) g)))

  -- of paths that occur once, those that are open and new are appended
  pub added_is : (queue xs : List Path) → no_repeats xs ≡ true → added shut queue xs ≡ queue ++ filter (λ p. not (has_path queue p)) (filter is_open xs)
  added_is queue [] once = sym (append-nil queue)
  added_is queue (x ∷ xs) once =
      elim (shut x) as (λ s. added shut (cond (s || has_path queue x) queue (queue ++ x ∷ [])) xs ≡ queue ++ filter (λ p. not (has_path queue p)) (cond (not s) (x ∷ filter is_open xs) (filter is_open xs))) [
        | true ↦ added_is queue xs later
        | false ↦ elim (has_path queue x) as (λ b. has_path queue x ≡ b → added shut (cond b queue (queue ++ x ∷ [])) xs
            ≡ queue ++ cond (not b) (x ∷ filter (λ p. not (has_path queue p)) (filter is_open xs)) (filter (λ p. not (has_path queue p)) (filter is_open xs))) [
              | true ↦ λ _. added_is queue xs later
              | false ↦ λ _. added_is (queue ++ x ∷ []) xs later
                  ∙ ap (λ ys. (queue ++ x ∷ []) ++ ys) (filter_same (λ p. not (has_path (queue ++ x ∷ []) p)) (λ p. not (has_path queue p)) (filter is_open xs) same)
                  ∙ append_assoc queue (x ∷ []) (filter (λ p. not (has_path queue p)) (filter is_open xs))
            ] refl
      ]
    where
      later : no_repeats xs ≡ true
      later = right_of (not (has_path xs x)) (no_repeats xs) once

      same : (y : Path) → has_path (filter is_open xs) y ≡ true → not (has_path (queue ++ x ∷ []) y) ≡ not (has_path queue y)
      same y h = ap not (has_push queue x y ∙ (ap (λ b. has_path queue y || b) (elim (bytes_eq y x) as (λ b. bytes_eq y x ≡ b → b ≡ false) [
        | true ↦ λ e. not_true (sym (no_longer (has_path xs x) (left_of (not (has_path xs x)) (no_repeats xs) once)) ∙ (ap (has_path xs) (sym ((bytes_decides y x).0 e)) ∙ (in_filter is_open xs y h).0))
        | false ↦ λ _. refl
      ] refl) ∙ or_nothing (has_path queue y)))

  any_turned : (xs : List Path) (p : Path) → list_any (λ other. bytes_eq other p) xs ≡ has_path xs p
  any_turned [] p = refl
  any_turned (x ∷ xs) p = (λ i. turned x p i || any_turned xs p i)

  distinct_push : (xs : List Path) (x : Path) → distinct (xs ++ x ∷ []) ≡ cond (has_path (distinct xs) x) (distinct xs) (distinct xs ++ x ∷ [])
  distinct_push xs x = distinct_more xs x ∙ ap (λ b. cond b (distinct xs) (distinct xs ++ x ∷ [])) (any_turned (distinct xs) x)

  pub added_distinct : (xs ys : List Path) → added shut (distinct xs) ys ≡ distinct (xs ++ filter is_open ys)
  added_distinct xs [] = ap distinct (sym (append-nil xs))
  added_distinct xs (y ∷ ys) =
      elim (shut y) as (λ s. added shut (cond (s || has_path (distinct xs) y) (distinct xs) (distinct xs ++ y ∷ [])) ys ≡ distinct (xs ++ cond (not s) (y ∷ filter is_open ys) (filter is_open ys))) [
        | true ↦ added_distinct xs ys
        | false ↦ ap (λ q. added shut q ys) (sym (distinct_push xs y)) ∙ (added_distinct (xs ++ y ∷ []) ys ∙ ap distinct (append_assoc xs (y ∷ []) (filter is_open ys)))
      ]

  pub added_append : (queue xs ys : List Path) → added shut queue (xs ++ ys) ≡ added shut (added shut queue xs) ys
  added_append queue [] ys = refl
  added_append queue (x ∷ xs) ys = added_append (next_queue queue x) xs ys

-- ---- How many there can be

path_laws : IsEquivalence {K = Path} bytes_eq
path_laws = record {
  refl = itself;
  symm = turned;
  congr = λ x y z e. ap (λ v. bytes_eq v z) ((bytes_decides x y).0 e);
}

others_differ : (x : Path) (xs : List Path) → has_path xs x ≡ false → AllByRecursion (λ y. bytes_eq x y ≡ false) xs
others_differ x [] e = tt
others_differ x (y ∷ ys) e = (none_left (bytes_eq x y) (has_path ys x) e, others_differ x ys (none_right (bytes_eq x y) (has_path ys x) e))

once_distinct : (xs : List Path) → no_repeats xs ≡ true → IsDistinct bytes_eq xs
unfolding IsDistinct
once_distinct [] once = tt
once_distinct (x ∷ xs) once =
    (others_differ x xs (no_longer (has_path xs x) (left_of (not (has_path xs x)) (no_repeats xs) once)), once_distinct xs (right_of (not (has_path xs x)) (no_repeats xs) once))

pub no_more : (xs ys : List Path) → no_repeats xs ≡ true → ((p : Path) → has_path xs p ≡ true → has_path ys p ≡ true) → length xs ≤ length ys
no_more xs ys once within = length-le_from_is_member path_laws xs ys (once_distinct xs once) within

-- ---- One more task is declared

at_seam : (xs : List Path) (x : Path) (ys : List Path) → get_or (xs ++ x ∷ ys) (length xs) [] ≡ x
at_seam [] x ys = refl
at_seam (y ∷ xs) x ys = at_seam xs x ys

pub all_push : {X : Type 0} (P : X → Type 0) (xs : List X) (x : X) → AllByRecursion P xs → P x → AllByRecursion P (xs ++ x ∷ [])
all_push P [] x all one = (one, tt)
all_push P (y ∷ ys) x all one = (all.0, all_push P ys x all.1 one)

pub come_begin : (registry : Registry) (begin : List Path) (shut : Path → Bool) → HasCome registry begin shut begin []
come_begin registry begin shut = record {
  waiting = begin;
  whole = refl;
  declared = tt;
  queued = λ request asked. subst (Queued request []) (sym asked.begins) begins;
}

module _ (registry : Registry) (sound : IsRegistry registry) where
  own_path : (path : Path) (task : TaskDeclaration) → declaration_at registry path ≡ Some (Ok task) → task.path ≡ path
  own_path path task e = (at_declared (IsDeclared registry) registry.tasks sound.declared path task e).own_path

  pub brought_registered : (path : Path) (task : TaskDeclaration) → declaration_at registry path ≡ Some (Ok task) → (p : Path) → has_path (brings registry path) p ≡ true
      → has_path (paths_of registry) p ≡ true
  brought_registered path task e p h =
      at_member (has_path (paths_of registry)) (task.needs ++ task.finalizers) p (at_declared (IsDeclared registry) registry.tasks sound.declared path task e).registered
      (sym (brings_declared registry path task e p) ∙ h)

  module _ (begin : List Path) (shut : Path → Bool) (queue : List Path) (found : List TaskDeclaration) (at : ℕ) (is_at : length found ≡ at) where
    same_length : length (paths_in found) ≡ length found
    same_length = length-map found (λ (task : TaskDeclaration). task.path)

    abbrev AreQueued : List Path → Type 0
    AreQueued waiting = (request : Request) → IsAsked request registry begin shut → Queued request (paths_in found) waiting

    is_over : queue ≡ paths_in found ++ [] → at < length queue → ⊥
    is_over whole lt = let long = ap length (whole ∙ append-nil (paths_in found)) in omega (arith, lt, long, same_length, is_at)

    next_path : (path : Path) (rest : List Path) → queue ≡ paths_in found ++ path ∷ rest → get_or queue at [] ≡ path
    next_path path rest whole =
        ap (λ q. get_or q at []) whole ∙ (ap (λ n. get_or (paths_in found ++ path ∷ rest) n []) (sym (same_length ∙ is_at)) ∙ at_seam (paths_in found) path rest)

    module _ (task : TaskDeclaration) (declared : declaration_at registry (get_or queue at []) ≡ Some (Ok task)) where
      abbrev fresh : Path → List Path
      fresh path = filter (λ p. not (has_path queue p)) (filter (λ p. not (shut p)) (brings registry path))

      same_fresh : (request : Request) → IsAsked request registry begin shut → (path : Path) (rest : List Path) → queue ≡ paths_in found ++ path ∷ rest
          → newly_brought request path (paths_in found ++ path ∷ rest) ≡ fresh path
      same_fresh request asked path rest whole =
          ap (λ k. filter (λ n. not (has_path k n)) (open_of request (brings request.registry path))) (sym whole)
          ∙ ap (λ r. filter (λ n. not (has_path queue n)) (open_of request (brings r path))) asked.of
          ∙ ap (filter (λ n. not (has_path queue n))) (filter_agree (λ p. not (leaves_out request p)) (λ p. not (shut p)) (λ p. ap not (sym (asked.shuts p))) (brings registry path))

      go_on : (waiting : List Path) → queue ≡ paths_in found ++ waiting → AreQueued waiting → AllByRecursion (IsRegistered registry) found → at < length queue
          → (later : List Path) → later ≡ added shut queue (brings registry (get_or queue at [])) → HasCome registry begin shut later (found ++ task ∷ [])
      go_on [] whole queued all lt later grown = absurd (is_over whole lt)
      go_on (path ∷ rest) whole queued all lt later grown =
          let here = next_path path rest whole in
          let is : declaration_at registry path ≡ Some (Ok task) = ap (declaration_at registry) (sym here) ∙ declared in
          let own = own_path path task is in
          let paths : paths_in (found ++ task ∷ []) ≡ paths_in found ++ path ∷ [] = map-append (λ (t : TaskDeclaration). t.path) found (task ∷ []) ∙ ap (λ p. paths_in found ++ p ∷ []) own in
          record {
            waiting = rest ++ fresh path;
            whole =
                grown ∙ ap (λ p. added shut queue (brings registry p)) here
                ∙ added_is shut queue (brings registry path) (once_with (brought_by (declaration_at registry path)))
                ∙ ap (λ q. q ++ fresh path) whole
                ∙ regrouped (paths_in found) path rest (fresh path)
                ∙ ap (λ ps. ps ++ (rest ++ fresh path)) (sym paths);
            declared = all_push (IsRegistered registry) found task all (ap (declaration_at registry) own ∙ is);
            queued = λ request asked.
                subst (λ ps. Queued request ps (rest ++ fresh path)) (sym paths)
                (subst (λ ns. Queued request (paths_in found ++ path ∷ []) (rest ++ ns)) (same_fresh request asked path rest whole)
                (goes_on (queued request asked) (ap (λ r. declaration_at r path) asked.of ∙ is)));
          }

      pub come_on : HasCome registry begin shut queue found → at < length queue → (later : List Path) → later ≡ added shut queue (brings registry (get_or queue at []))
          → HasCome registry begin shut later (found ++ task ∷ [])
      come_on come lt later grown = go_on come.waiting come.whole come.queued come.declared lt later grown

    at_fault : (waiting : List Path) → queue ≡ paths_in found ++ waiting → AreQueued waiting → at < length queue
        → (fault : Fault) → declaration_at registry (get_or queue at []) ≡ Some (Err fault) → (request : Request) → IsAsked request registry begin shut → IsTaskFault request fault
    at_fault [] whole queued lt fault e request asked = absurd (is_over whole lt)
    at_fault (path ∷ rest) whole queued lt fault e request asked = record {
      done = paths_in found;
      path = path;
      waiting = rest;
      queued = queued request asked;
      at_fault = ap (λ r. declaration_at r path) asked.of ∙ (ap (declaration_at registry) (sym (next_path path rest whole)) ∙ e);
    }

    pub come_fault : HasCome registry begin shut queue found → at < length queue → (fault : Fault) → declaration_at registry (get_or queue at []) ≡ Some (Err fault)
        → (request : Request) → IsAsked request registry begin shut → IsTaskFault request fault
    come_fault come lt fault e request asked = at_fault come.waiting come.whole come.queued lt fault e request asked

    none_waits : (waiting : List Path) → queue ≡ paths_in found ++ waiting → length queue ≤ at → waiting ≡ []
    none_waits [] whole le = refl
    none_waits (path ∷ rest) whole le =
        let long : length queue ≡ length (paths_in found) + length (path ∷ rest) = ap length whole ∙ length-append (paths_in found) (path ∷ rest) in
        absurd (omega (arith, le, long, same_length, is_at))

    pub come_end : HasCome registry begin shut queue found → length queue ≤ at → (queue ≡ paths_in found) × ((request : Request) → IsAsked request registry begin shut → Queued request (paths_in found) [])
    come_end come le =
        let none = none_waits come.waiting come.whole le in
        (come.whole ∙ (ap (λ w. paths_in found ++ w) none ∙ append-nil (paths_in found)), λ request asked. subst (Queued request (paths_in found)) none (come.queued request asked))

-- ---- The final contents of the queue

into_distinct : (xs : List Path) (p : Path) → has_path xs p ≡ true → has_path (distinct xs) p ≡ true
into_distinct [] p h = not_true h
into_distinct (x ∷ xs) p h =
    elim (bytes_eq p x) as (λ b. bytes_eq p x ≡ b → (b || has_path xs p) ≡ true → (b || has_path (filter (λ other. not (bytes_eq x other)) (distinct xs)) p) ≡ true) [
      | true ↦ λ _ _. refl
      | false ↦ λ e h. into_filter (λ other. not (bytes_eq x other)) (distinct xs) p (into_distinct xs p h) (ap not (turned x p ∙ e))
    ] refl h

wider_queue : (done : List Path) (path : Path) (waiting more : List Path) (p : Path) → has_path (done ++ path ∷ waiting) p ≡ true → has_path ((done ++ path ∷ []) ++ (waiting ++ more)) p ≡ true
wider_queue done path waiting more p h =
    ap (λ ps. has_path ps p) (sym (regrouped done path waiting more)) ∙ (has_append (done ++ path ∷ waiting) more p ∙ left_or (has_path (done ++ path ∷ waiting) p) (has_path more p) h)

new_queue : (done : List Path) (path : Path) (waiting more : List Path) (p : Path) → has_path more p ≡ true → has_path ((done ++ path ∷ []) ++ (waiting ++ more)) p ≡ true
new_queue done path waiting more p h =
    ap (λ ps. has_path ps p) (sym (regrouped done path waiting more)) ∙ (has_append (done ++ path ∷ waiting) more p ∙ or_right (has_path (done ++ path ∷ waiting) p) (has_path more p) h)

pub split_or : {A : Type 0} (a b : Bool) → (a || b) ≡ true → (a ≡ true → A) → (b ≡ true → A) → A
split_or true b e f g = f refl
split_or false b e f g = g e

done_scheduled : (request : Request) (done waiting : List Path) → Queued request done waiting → (p : Path) → has_path done p ≡ true → IsScheduled request p
done_scheduled request done waiting begins p h = not_true h
done_scheduled request done waiting (goes_on {done = before} {path = path} {waiting = others} queued declared) p h =
    split_or (has_path before p) (bytes_eq p path) (sym (has_push before path p) ∙ h)
    (λ e. done_scheduled request before (path ∷ others) queued p e)
    (λ e. waits_scheduled request before (path ∷ others) queued p (left_or (bytes_eq p path) (has_path others p) e))

starts_queued : (request : Request) (done waiting : List Path) → Queued request done waiting → (p : Path) → has_path (selected request) p ≡ true → leaves_out request p ≡ false
    → has_path (done ++ waiting) p ≡ true
starts_queued request done waiting begins p h o = into_distinct (open_of request (selected request)) p (into_filter (λ path. not (leaves_out request path)) (selected request) p h (ap not o))
starts_queued request done waiting (goes_on {done = before} {path = path} {waiting = others} queued declared) p h o =
    wider_queue before path others (newly_brought request path (before ++ path ∷ others)) p (starts_queued request before (path ∷ others) queued p h o)

steps_queued : (request : Request) (done waiting : List Path) → Queued request done waiting → (q p : Path) → has_path done q ≡ true → has_path (brings request.registry q) p ≡ true
    → leaves_out request p ≡ false → has_path (done ++ waiting) p ≡ true
steps_queued request done waiting begins q p i h o = not_true i
steps_queued request done waiting (goes_on {done = before} {path = path} {waiting = others} queued declared) q p i h o =
    let known = before ++ path ∷ others in
    let more = newly_brought request path known in
    split_or (has_path before q) (bytes_eq q path) (sym (has_push before path q) ∙ i)
    (λ e. wider_queue before path others more p (steps_queued request before (path ∷ others) queued q p e h o))
    (λ e. elim (has_path known p) as (λ b. has_path known p ≡ b → has_path ((before ++ path ∷ []) ++ (others ++ more)) p ≡ true) [
      | true ↦ λ k. wider_queue before path others more p k
      | false ↦ λ k. new_queue before path others more p
          (into_filter (λ next. not (has_path known next)) (open_of request (brings request.registry path)) p
          (into_filter (λ next. not (leaves_out request next)) (brings request.registry path) p (ap (λ v. has_path (brings request.registry v) p) (sym ((bytes_decides q path).0 e)) ∙ h) (ap not o)) (ap not k))
    ] refl)

all_go : (shut : Path → Bool) (set paths : List Path) → ((p : Path) → has_path paths p ≡ true → shut p ≡ false → has_path set p ≡ true) → goes_into shut set paths ≡ true
all_go shut set paths h = all_of_members (λ path. shut path || has_path set path) paths (λ p i. elim (shut p) as (λ b. shut p ≡ b → (b || has_path set p) ≡ true) [
  | true ↦ λ _. refl
  | false ↦ λ o. h p i o
] refl)

-- at its end it has exactly the scheduled tasks
pub queue_scheduled : (request : Request) (done : List Path) → Queued request done [] → (p : Path) → (has_path done p ≡ true) ↔ IsScheduled request p
queue_scheduled request done queued p = (
  done_scheduled request done [] queued p,
  λ r. reached_in (selected request) (brings request.registry) (leaves_out request) done
      (all_go (leaves_out request) done (selected request) (λ q i o. ap (λ ps. has_path ps q) (sym (append-nil done)) ∙ starts_queued request done [] queued q i o))
      (all_of_members (λ path. goes_into (leaves_out request) done (brings request.registry path)) done
      (λ q i. all_go (leaves_out request) done (brings request.registry q) (λ v j o. ap (λ ps. has_path ps v) (sym (append-nil done)) ∙ steps_queued request done [] queued q v i j o)))
      r,
)

-- ---- One more path

abbrev now_known : (Path → Bool) → Path → Path → Bool
now_known old key p = cond (eq_by_cmp byte_order key p) true (old p)

cond_or : (b c : Bool) → cond b true c ≡ (c || b)
cond_or true true = refl
cond_or true false = refl
cond_or false true = refl
cond_or false false = refl

known_as : (old : Path → Bool) (queue : List Path) (key path : Path) → key ≡ path → ((p : Path) → old p ≡ has_path queue p)
    → (p : Path) → now_known old key p ≡ has_path (queue ++ path ∷ []) p
known_as old queue key path same reported p =
    ap (λ b. cond b true (old p)) (is_eq-slice_cmp key p) ∙ (cond_or (bytes_eq key p) (old p)
    ∙ ((λ i. reported p i || (turned key p ∙ ap (bytes_eq p) same) i) ∙ sym (has_push queue path p)))

-- a path that is new is appended
pub known_new : (old new shut : Path → Bool) (queue : List Path) (key path : Path) → key ≡ path → ((p : Path) → old p ≡ has_path queue p)
    → ((p : Path) → new p ≡ now_known old key p) → (p : Path) → new p ≡ has_path (queue ++ path ∷ []) p
known_new old new shut queue key path same reported next p = next p ∙ known_as old queue key path same reported p

-- a path that is known changes nothing
pub known_still : (old new : Path → Bool) (queue : List Path) (key path : Path) → key ≡ path → ((p : Path) → old p ≡ has_path queue p)
    → ((p : Path) → new p ≡ now_known old key p) → old key ≡ true → (p : Path) → new p ≡ has_path queue p
known_still old new queue key path same reported next known p =
    next p ∙ (elim (bytes_eq key p) as (λ b. bytes_eq key p ≡ b → now_known old key p ≡ has_path queue p) [
      | true ↦ λ e. ap (λ b. cond b true (old p)) (is_eq-slice_cmp key p ∙ e) ∙ sym (sym (reported p) ∙ (ap old (sym ((bytes_decides key p).0 e)) ∙ known))
      | false ↦ λ e. ap (λ b. cond b true (old p)) (is_eq-slice_cmp key p ∙ e) ∙ reported p
    ] refl)

pub queue_shut : (shut : Path → Bool) (queue : List Path) (path : Path) → shut path ≡ true → next_queue shut queue path ≡ queue
queue_shut shut queue path e = ap (λ b. cond (b || has_path queue path) queue (queue ++ path ∷ [])) e

pub queue_known : (shut : Path → Bool) (queue : List Path) (path : Path) → has_path queue path ≡ true → next_queue shut queue path ≡ queue
queue_known shut queue path e = ap (λ b. cond b queue (queue ++ path ∷ [])) (or_right (shut path) (has_path queue path) e)

pub queue_new : (shut : Path → Bool) (queue : List Path) (path : Path) → shut path ≡ false → has_path queue path ≡ false → next_queue shut queue path ≡ queue ++ path ∷ []
queue_new shut queue path e h = (λ i. cond (e i || h i) queue (queue ++ path ∷ []))

-- the rest of a loop continues
pub queue_goes : (shut : Path → Bool) (queue later rest whole : List Path) (path : Path) (all : List Path) → whole ≡ path ∷ rest → added shut queue whole ≡ all → next_queue shut queue path ≡ later
    → added shut later rest ≡ all
queue_goes shut queue later rest whole path all is reported next = ap (λ q. added shut q rest) (sym next) ∙ (ap (added shut queue) (sym is) ∙ reported)

pub turned_not : (added known : Bool) → added ≡ not known → added ≡ false → known ≡ true
turned_not added true e f = refl
turned_not added false e f = not_true (sym f ∙ e)

pub not_added : (added known : Bool) → added ≡ not known → added ≡ true → known ≡ false
not_added added true e f = not_true (sym e ∙ f)
not_added added false e f = refl
