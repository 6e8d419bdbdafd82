-- From places of tasks by number to the conflicts of a plan.
use Rattle.std.specs.Prelude.{ℕ, zero, suc, ◌≡◌, ◌⊎◌, ◌<◌, ◌+◌, Bool, true, false, ◌||◌, List, [], ◌∷◌, ◌++◌, map, length, get_or, refl, Contains}
use Rattle.std.specs.List.{list_any}
use Rattle.std.proofs.Common.{sym, ap, subst, ◌∙◌, inl, inr, arith}
use Rattle.std.proofs.lemmas.List.{map-append}
use Rattle.gb_folder.specs.Files.{Place}
use Rattle.gb_plan.specs.declared.plan.Planned.{Planned}
use Rattle.gb_plan.specs.declared.task.TaskDeclaration.{TaskDeclaration}
use Rattle.gb_plan.specs.Task.{Path, output_places}
use Rattle.gb_plan.specs.Refusal.{outputs_of}
use Rattle.gb_plan.proofs.Tests.{not_true}
use Rattle.gb_plan.proofs.Same.{In}
use Rattle.gb_graph.proofs.Numbers.{in_of, of_in, in_prefix, in_back, in_either}
use Rattle.gb_graph.specs.declared.places.TaskPlace.{TaskPlace}
use Rattle.gb_graph.specs.Places.{with_places, places_from}

-- ---- The element at an index

-- it is the element of the list at this index
abbrev pub At : {X : Type 0} → List X → ℕ → X → Type 0
At [] i x = ⊥
At (y ∷ ys) zero x = y ≡ x
At (y ∷ ys) (suc i) x = At ys i x

pub at_in : {X : Type 0} (xs : List X) (i : ℕ) (x : X) → At xs i x → In x xs
at_in [] i x h = h
at_in (y ∷ ys) zero x h = inl (sym h)
at_in (y ∷ ys) (suc i) x h = inr (at_in ys i x h)

pub in_at : {X : Type 0} (xs : List X) (x : X) → In x xs → (i : ℕ) × At xs i x
in_at [] x h = absurd h
in_at (y ∷ ys) x (inl e) = (0, sym e)
in_at (y ∷ ys) x (inr h) = let at = in_at ys x h in (suc at.0, at.1)

pub at_get : {X : Type 0} (xs : List X) (i : ℕ) (x d : X) → At xs i x → (i < length xs) × (get_or xs i d ≡ x)
at_get [] i x d h = absurd h
at_get (y ∷ ys) zero x d h = (omega arith, h)
at_get (y ∷ ys) (suc i) x d h = let at = at_get ys i x d h in (omega (arith, at.0), at.1)

pub at_so : {X : Type 0} (xs : List X) (i : ℕ) (d : X) → i < length xs → At xs i (get_or xs i d)
at_so [] i d lt = absurd (omega (arith, lt))
at_so (y ∷ ys) zero d lt = refl
at_so (y ∷ ys) (suc i) d lt = at_so ys i d (omega (arith, lt))

pub at_prefix : {X : Type 0} (xs ys : List X) (i : ℕ) (x : X) → At xs i x → At (xs ++ ys) i x
at_prefix [] ys i x h = absurd h
at_prefix (z ∷ xs) ys zero x h = h
at_prefix (z ∷ xs) ys (suc i) x h = at_prefix xs ys i x h

pub at_map : {X Y : Type 0} (f : X → Y) (xs : List X) (i : ℕ) (x : X) → At xs i x → At (map f xs) i (f x)
at_map f [] i x h = h
at_map f (y ∷ ys) zero x h = ap f h
at_map f (y ∷ ys) (suc i) x h = at_map f ys i x h

pub of_at_map : {X Y : Type 0} (f : X → Y) (xs : List X) (i : ℕ) (y : Y) → At (map f xs) i y → (x : X) × At xs i x × (f x ≡ y)
of_at_map f [] i y h = absurd h
of_at_map f (x ∷ xs) zero y h = (x, refl, h)
of_at_map f (x ∷ xs) (suc i) y h = of_at_map f xs i y h

others_after : {X : Type 0} (z : X) (xs : List X) (j : ℕ) (y : X) → At (z ∷ xs) j y → (0 ≡ j → ⊥) → In y xs
others_after z xs zero y at separate = absurd (separate refl)
others_after z xs (suc j) y at separate = at_in xs j y at

others_around : {X : Type 0} (z : X) (xs prefix back : List X) (i : ℕ) → ((j : ℕ) (y : X) → At xs j y → (i ≡ j → ⊥) → In y (prefix ++ back))
    → (j : ℕ) (y : X) → At (z ∷ xs) j y → (suc i ≡ j → ⊥) → In y (z ∷ prefix ++ back)
others_around z xs prefix back i f zero y at separate = inl (sym at)
others_around z xs prefix back i f (suc j) y at separate = inr (f j y at (λ e. separate (ap suc e)))

-- the list around an index, where each element at another index is included
pub parted : {X : Type 0} (xs : List X) (i : ℕ) (x : X) → At xs i x
    → (prefix : List X) × (back : List X) × (xs ≡ prefix ++ x ∷ back) × ((j : ℕ) (y : X) → At xs j y → (i ≡ j → ⊥) → In y (prefix ++ back))
parted [] i x h = absurd h
parted {X} (z ∷ xs) zero x h = let none : List X = [] in (none, xs, ap (λ v. v ∷ xs) h, others_after z xs)
parted (z ∷ xs) (suc i) x h =
    let rest = parted xs i x h in
    (z ∷ rest.0, rest.1, ap (λ v. z ∷ v) rest.2, others_around z xs rest.0 rest.1 i rest.3)

at_middle : {X : Type 0} (prefix back : List X) (x : X) → (i : ℕ) × At (prefix ++ x ∷ back) i x
at_middle [] back x = (0, refl)
at_middle (z ∷ prefix) back x = let at = at_middle prefix back x in (suc at.0, at.1)

-- an element around another one is at another index
pub around : {X : Type 0} (prefix back : List X) (x y : X) → In y (prefix ++ back)
    → (i : ℕ) × (j : ℕ) × At (prefix ++ x ∷ back) i x × At (prefix ++ x ∷ back) j y × (i ≡ j → ⊥)
around [] back x y h = let at = in_at back y h in (0, suc at.0, refl, at.1, λ e. (let f : 0 ≡ suc at.0 = e in omega (arith, f)))
around (z ∷ prefix) back x y (inl e) =
    let at = at_middle prefix back x in (suc at.0, 0, at.1, sym e, λ f. omega (arith, f))
around (z ∷ prefix) back x y (inr h) =
    let rest = around prefix back x y h in (suc rest.0, suc rest.1, rest.2, rest.3, λ e. rest.4 (omega (arith, e)))

-- ---- Tests on lists

pub any_in : {X : Type 0} (p : X → Bool) (xs : List X) (x : X) → In x xs → p x ≡ true → list_any p xs ≡ true
any_in p [] x i h = absurd i
any_in p (y ∷ ys) x (inl e) h = ap (λ b. b || list_any p ys) (sym (ap p e) ∙ h)
any_in p (y ∷ ys) x (inr i) h = later (p y) (any_in p ys x i h)
  where
    later : (a : Bool) → list_any p ys ≡ true → (a || list_any p ys) ≡ true
    later true e = refl
    later false e = e

pub some_in : {X : Type 0} (p : X → Bool) (xs : List X) → list_any p xs ≡ true → (x : X) × In x xs × (p x ≡ true)
some_in p [] h = not_true h
some_in {X} p (y ∷ ys) h =
    elim (p y) as (λ b. p y ≡ b → (b || list_any p ys) ≡ true → (x : X) × In x (y ∷ ys) × (p x ≡ true)) [
      | true ↦ λ e _. (y, inl refl, e)
      | false ↦ λ _ h. let rest = some_in p ys h in (rest.0, inr rest.1, rest.2)
    ] refl h

-- ---- Places of tasks by number

-- each of a row is there at its own number
pub of_placed : (row : List TaskPlace) (pairs : List (ℕ × Place)) (at : TaskPlace) → In at (with_places row pairs)
    → In at row ⊎ ((i : ℕ) × At pairs i (at.task, at.place) × (at.number ≡ length row + i))
of_placed row [] at h = inl h
of_placed row (pair ∷ pairs) at h =
    let next : TaskPlace = record { task = pair.0; number = length row; place = pair.1 } in
    elim (of_placed (row ++ next ∷ []) pairs at h) [
      | inl o ↦ elim (in_push row next at o) [
        | inl old ↦ inl old
        | inr e ↦ inr (0, λ i. (sym (ap (λ (p : TaskPlace). p.task) e) i, sym (ap (λ (p : TaskPlace). p.place) e) i), ap (λ (p : TaskPlace). p.number) e ∙ (let z : length row ≡ length row + 0 = omega arith in z))
      ]
      | inr more ↦ inr (suc more.0, more.1, more.2 ∙ longer row next more.0)
    ]
  where
    in_push : (xs : List TaskPlace) (x y : TaskPlace) → In y (xs ++ x ∷ []) → In y xs ⊎ (y ≡ x)
    in_push [] x y (inl e) = inr e
    in_push [] x y (inr h) = absurd h
    in_push (z ∷ xs) x y (inl e) = inl (inl e)
    in_push (z ∷ xs) x y (inr h) = elim (in_push xs x y h) [ inl i ↦ inl (inr i) | inr e ↦ inr e ]

    longer : (xs : List TaskPlace) (x : TaskPlace) (i : ℕ) → length (xs ++ x ∷ []) + i ≡ length xs + suc i
    longer [] x i = omega arith
    longer (z ∷ xs) x i = let e = longer xs x i in omega (arith, e)

pub kept_placed : (row : List TaskPlace) (pairs : List (ℕ × Place)) (at : TaskPlace) → In at row → In at (with_places row pairs)
kept_placed row [] at h = h
kept_placed row (pair ∷ pairs) at h = kept_placed (row ++ record { task = pair.0; number = length row; place = pair.1 } ∷ []) pairs at (in_prefix at row _ h)

pub into_placed : (row : List TaskPlace) (pairs : List (ℕ × Place)) (i : ℕ) (pair : ℕ × Place) → At pairs i pair
    → (at : TaskPlace) × In at (with_places row pairs) × (at.task ≡ pair.0) × (at.place ≡ pair.1) × (at.number ≡ length row + i)
into_placed row [] i pair h = absurd h
into_placed row (first ∷ pairs) zero pair h =
    let next : TaskPlace = record { task = first.0; number = length row; place = first.1 } in
    (next, kept_placed (row ++ next ∷ []) pairs next (in_back next row (next ∷ []) (inl refl)), ap (λ (p : ℕ × Place). p.0) h, ap (λ (p : ℕ × Place). p.1) h, omega arith)
into_placed row (first ∷ pairs) (suc i) pair h =
    let next : TaskPlace = record { task = first.0; number = length row; place = first.1 } in
    let rest = into_placed (row ++ next ∷ []) pairs i pair h in
    (rest.0, rest.1, rest.2, rest.3, rest.4 ∙ longer row next i)
  where
    longer : (xs : List TaskPlace) (x : TaskPlace) (i : ℕ) → length (xs ++ x ∷ []) + i ≡ length xs + suc i
    longer [] x i = omega arith
    longer (z ∷ xs) x i = let e = longer xs x i in omega (arith, e)

module _ (places : TaskDeclaration → List Place) where
  pub of_from : (first : ℕ) (tasks : List Planned) (pair : ℕ × Place) → In pair (places_from places first tasks)
      → (k : ℕ) × (z : Planned) × At tasks k z × (pair.0 ≡ first + k) × In pair.1 (places z.task)
  of_from first [] pair h = absurd h
  of_from first (z ∷ tasks) pair h = elim (in_either pair (map (λ place. (first, place)) (places z.task)) (places_from places (first + 1) tasks) h) [
    | inl here ↦ (let at = of_in_map (places z.task) here in (0, z, refl, at.0 ∙ (let e : first ≡ first + 0 = omega arith in e), at.1))
    | inr later ↦ (let rest = of_from (first + 1) tasks pair later in (suc rest.0, rest.1, rest.2, rest.3 ∙ (let e : first + 1 + rest.0 ≡ first + suc rest.0 = omega arith in e), rest.4))
  ]
    where
      of_in_map : (xs : List Place) → In pair (map (λ place. (first, place)) xs) → (pair.0 ≡ first) × In pair.1 xs
      of_in_map [] h = absurd h
      of_in_map (x ∷ xs) (inl e) = (ap (λ (p : ℕ × Place). p.0) e, inl (ap (λ (p : ℕ × Place). p.1) e))
      of_in_map (x ∷ xs) (inr h) = let rest = of_in_map xs h in (rest.0, inr rest.1)

  pub into_from : (first : ℕ) (tasks : List Planned) (k : ℕ) (z : Planned) (place : Place) → At tasks k z → In place (places z.task) → In {X = ℕ × Place} (first + k, place) (places_from places first tasks)
  into_from first [] k z place at h = absurd at
  into_from first (y ∷ tasks) zero z place at h =
      in_prefix (first + 0, place) (map (λ place. (first, place)) (places y.task)) (places_from places (first + 1) tasks)
      (subst (λ n. In {X = ℕ × Place} (n, place) (map (λ place. (first, place)) (places y.task))) (let e : first ≡ first + 0 = omega arith in e)
      (into_in_map (places y.task) (subst (λ (w : Planned). In place (places w.task)) (sym at) h)))
    where
      into_in_map : (xs : List Place) → In place xs → In {X = ℕ × Place} (first, place) (map (λ place. (first, place)) xs)
      into_in_map [] h = absurd h
      into_in_map (x ∷ xs) (inl e) = inl (λ i. (first, e i))
      into_in_map (x ∷ xs) (inr h) = inr (into_in_map xs h)
  into_from first (y ∷ tasks) (suc k) z place at h =
      in_back (first + suc k, place) (map (λ place. (first, place)) (places y.task)) (places_from places (first + 1) tasks)
      (subst (λ n. In {X = ℕ × Place} (n, place) (places_from places (first + 1) tasks)) (let e : first + 1 + k ≡ first + suc k = omega arith in e) (into_from (first + 1) tasks k z place at h))

  -- a row of what all tasks have
  pub of_row : (tasks : List Planned) (at : TaskPlace) → Contains (with_places [] (places_from places 0 tasks)) at
      → (z : Planned) × At tasks at.task z × In at.place (places z.task) × At (places_from places 0 tasks) at.number (at.task, at.place)
  of_row tasks at c = elim (of_placed [] (places_from places 0 tasks) at (in_of (with_places [] (places_from places 0 tasks)) at c)) [
    | inl none ↦ absurd none
    | inr here ↦
        let from = of_from 0 tasks (at.task, at.place) (at_in (places_from places 0 tasks) here.0 (at.task, at.place) here.1) in
        let same : at.task ≡ from.0 = from.3 ∙ (let e : 0 + from.0 ≡ from.0 = omega arith in e) in
        let number : here.0 ≡ at.number = (let e : here.0 ≡ 0 + here.0 = omega arith in e) ∙ sym here.2 in
        (from.1, subst (λ n. At tasks n from.1) (sym same) from.2, from.4, subst (λ n. At (places_from places 0 tasks) n (at.task, at.place)) number here.1)
  ]

  pub into_row : (tasks : List Planned) (k : ℕ) (z : Planned) (place : Place) → At tasks k z → In place (places z.task)
      → (at : TaskPlace) × Contains (with_places [] (places_from places 0 tasks)) at × (at.task ≡ k) × (at.place ≡ place)
  into_row tasks k z place at h =
      let i = in_at (places_from places 0 tasks) (0 + k, place) (into_from 0 tasks k z place at h) in
      let made = into_placed [] (places_from places 0 tasks) i.0 (0 + k, place) i.1 in
      (made.0, of_in made.0 (with_places [] (places_from places 0 tasks)) made.1, made.2 ∙ (let e : 0 + k ≡ k = omega arith in e), made.3)

-- the outputs of a plan are those of its tasks by number, each with its task's path
pub outputs_mapped : (path : ℕ → Path) (first : ℕ) (tasks : List Planned) → ((k : ℕ) (z : Planned) → At tasks k z → path (first + k) ≡ z.task.path)
    → outputs_of tasks ≡ map (λ (pair : ℕ × Place). (path pair.0, pair.1)) (places_from output_places first tasks)
outputs_mapped path first [] h = refl
outputs_mapped path first (z ∷ tasks) h =
    (λ i. head (output_places z.task) i
    ++ outputs_mapped path (first + 1) tasks (λ k y at. ap path (let e : first + 1 + k ≡ first + suc k = omega arith in e) ∙ h (suc k) y at) i)
    ∙ sym (map-append (λ (pair : ℕ × Place). (path pair.0, pair.1)) (map (λ place. (first, place)) (output_places z.task)) (places_from output_places (first + 1) tasks))
  where
    own : path first ≡ z.task.path
    own = ap path (let e : first ≡ first + 0 = omega arith in e) ∙ h 0 z refl

    head : (places : List Place) → map {B = Path × Place} (λ place. (z.task.path, place)) places ≡ map (λ (pair : ℕ × Place). (path pair.0, pair.1)) (map (λ place. (first, place)) places)
    head [] = refl
    head (place ∷ places) = λ i. (sym own i, place) ∷ head places i
