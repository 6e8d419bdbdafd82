-- The thinned row represents the whole row: both have the same conflicts.
use Rattle.std.specs.Prelude.{ℕ, zero, suc, ◌≡◌, ◌⊎◌, ◌<◌, ◌≤◌, true, not, ◌==◌, ◌&&◌, List, [], ◌∷◌, ◌++◌, length, refl, Contains, IsTrue}
use Rattle.std.proofs.Common.{sym, ap, subst, ◌∙◌, inl, inr, arith, append-nil}
use Rattle.std.proofs.lemmas.List.{append_assoc}
use Rattle.std.proofs.lemmas.Bool.{cases_eq, cases_order}
use Rattle.std.proofs.lemmas.List.Elements.{Contains-append_left, Contains-push, Contains-push_cases}
use Rattle.gb_core.specs.Place.{overlaps}
use Rattle.gb_plan.specs.declared.plan.Planned.{Planned}
use Rattle.gb_plan.specs.Refusal.{Conflict}
use Rattle.gb_graph.specs.Order.{row}
use Rattle.gb_graph.specs.Chains.{bit_in}
use Rattle.gb_graph.specs.Cycle.{path_at}
use Rattle.gb_graph.proofs.Numbers.{in_of, of_in}
use Rattle.gb_graph.specs.declared.conflicting.Search.{Search}
use Rattle.gb_graph.specs.declared.conflicting.Search.TheVariants.{Overlaps, OwnInputs, Undeclared}
use Rattle.gb_graph.specs.declared.places.TaskPlace.{TaskPlace}
use Rattle.gb_graph.specs.Conflicts.{IsConflictThere, counts}
use Rattle.gb_graph.specs.Near.{by_number}
use Rattle.gb_graph.specs.Places.{AreSamePlaces, IsRising, IsSame, IsThinned, OccursTwice, is_before, place_at}
use Rattle.gb_graph.proofs.Numbered.{differ_so}

-- ---- A row that is thinned, one place after another

-- it is in the thinned row, or twice under other numbers
abbrev pub IsKept : List TaskPlace → TaskPlace → Type 0
IsKept thinned at = Contains thinned at ⊎ OccursTwice thinned at

twice_more : (thinned : List TaskPlace) (next at : TaskPlace) → OccursTwice thinned at → OccursTwice (thinned ++ next ∷ []) at
twice_more thinned next at t = record {
  one = t.one;
  other = t.other;
  one_in = Contains-append_left thinned (next ∷ []) t.one t.one_in;
  other_in = Contains-append_left thinned (next ∷ []) t.other t.other_in;
  one_same = t.one_same;
  other_same = t.other_same;
  two = t.two;
}

pub exists_more : (thinned : List TaskPlace) (next at : TaskPlace) → IsKept thinned at → IsKept (thinned ++ next ∷ []) at
exists_more thinned next at (inl c) = inl (Contains-append_left thinned (next ∷ []) at c)
exists_more thinned next at (inr t) = inr (twice_more thinned next at t)

-- what was left is what comes next, or comes later
pub next_of : (next : TaskPlace) (rest whole : List TaskPlace) (at : TaskPlace) → whole ≡ next ∷ rest → Contains whole at → (at ≡ next) ⊎ Contains rest at
next_of next rest whole at is c = elim (in_of (next ∷ rest) at (subst (λ xs. Contains xs at) is c)) [ inl e ↦ inl e | inr i ↦ inr (of_in at rest i) ]

pub next_in : (next : TaskPlace) (rest whole : List TaskPlace) → whole ≡ next ∷ rest → Contains whole next
next_in next rest whole is = subst (λ xs. Contains xs next) (sym is) (of_in next (next ∷ rest) (inl refl))

pub later_in : (next : TaskPlace) (rest whole : List TaskPlace) (at : TaskPlace) → whole ≡ next ∷ rest → Contains rest at → Contains whole at
later_in next rest whole at is c = subst (λ xs. Contains xs at) (sym is) (of_in at (next ∷ rest) (inr (in_of rest at c)))

-- the index in the row of an index of the row without one of its places
record Skipped (whole without : List TaskPlace) (i : ℕ) : Type 0 where
  index : ℕ
  low : index < length whole
  same : place_at whole index ≡ place_at without i
  from : i ≤ index
  to : index ≤ suc i

skipped : (xs : List TaskPlace) (x : TaskPlace) (ys : List TaskPlace) (i : ℕ) → i < length (xs ++ ys) → Skipped (xs ++ x ∷ ys) (xs ++ ys) i
skipped [] x ys i lt = record { index = suc i; low = omega (arith, lt); same = refl; from = omega arith; to = omega arith }
skipped (z ∷ xs) x ys zero lt = record { index = 0; low = omega arith; same = refl; from = omega arith; to = omega arith }
skipped (z ∷ xs) x ys (suc i) lt =
    let s = skipped xs x ys i (omega (arith, lt)) in
    record { index = suc s.index; low = omega (arith, s.low); same = s.same; from = omega (arith, s.from); to = omega (arith, s.to) }

pub rising_without : (xs : List TaskPlace) (x : TaskPlace) (ys : List TaskPlace) → IsRising (xs ++ x ∷ ys) → IsRising (xs ++ ys)
rising_without xs x ys rising text i j le lt before = elim (cases_order i j) [
  | inl e ↦ subst (λ n. IsTrue (is_before (place_at (xs ++ ys) n) text)) (sym e) before
  | inr (inl less) ↦
      let a = skipped xs x ys i (omega (arith, less, lt)) in
      let b = skipped xs x ys j lt in
      subst (λ p. IsTrue (is_before p text)) a.same
      (rising text a.index b.index (omega (arith, less, a.to, b.from)) b.low (subst (λ p. IsTrue (is_before p text)) (sym b.same) before))
  | inr (inr more) ↦ absurd (omega (arith, le, more))
]

-- the state of the rest of a row: the row, its thinned form, and what comes
pub record IsSoFar (whole thinned rest : List TaskPlace) : Type 0 where
  pub within : (at : TaskPlace) → Contains thinned at → Contains whole at
  pub rest_in : (at : TaskPlace) → Contains rest at → Contains whole at
  pub exists : (at : TaskPlace) → Contains whole at → Contains rest at ⊎ IsKept thinned at
  pub rising : IsRising whole → IsRising (thinned ++ rest)

pub so_far_left : (whole thinned rest before : List TaskPlace) (next : TaskPlace) → before ≡ next ∷ rest → OccursTwice thinned next → IsSoFar whole thinned before → IsSoFar whole thinned rest
so_far_left whole thinned rest before next is twice old = record {
  within = old.within;
  rest_in = λ at c. old.rest_in at (later_in next rest before at is c);
  exists = λ at c. elim (old.exists at c) [
    | inl came ↦ elim (next_of next rest before at is came) [ inl e ↦ inr (inr (subst (OccursTwice thinned) (sym e) twice)) | inr later ↦ inl later ]
    | inr s ↦ inr s
  ];
  rising = λ r. rising_without thinned next rest (subst (λ xs. IsRising (thinned ++ xs)) is (old.rising r));
}

pub so_far_kept : (whole thinned rest before : List TaskPlace) (next : TaskPlace) → before ≡ next ∷ rest → IsSoFar whole thinned before → IsSoFar whole (thinned ++ next ∷ []) rest
so_far_kept whole thinned rest before next is old = record {
  within = λ at c. elim (Contains-push_cases thinned next at c) [ inl o ↦ old.within at o | inr e ↦ old.rest_in at (subst (Contains before) e (next_in next rest before is)) ];
  rest_in = λ at c. old.rest_in at (later_in next rest before at is c);
  exists = λ at c. elim (old.exists at c) [
    | inl came ↦ elim (next_of next rest before at is came) [ inl e ↦ inr (inl (subst (Contains (thinned ++ next ∷ [])) (sym e) (Contains-push thinned next))) | inr later ↦ inl later ]
    | inr s ↦ inr (exists_more thinned next at s)
  ];
  rising = λ r. subst IsRising (sym (append_assoc thinned (next ∷ []) rest)) (subst (λ xs. IsRising (thinned ++ xs)) is (old.rising r));
}

pub all_thinned : (whole thinned rest : List TaskPlace) → rest ≡ [] → IsSoFar whole thinned rest → IsThinned whole thinned
all_thinned whole thinned rest none old = record {
  within = old.within;
  exists = λ at c. elim (old.exists at c) [ inl came ↦ absurd (let left = subst (λ xs. Contains xs at) none came in omega (arith, left.1)) | inr s ↦ s ];
}

pub all_rising : (whole thinned rest : List TaskPlace) → rest ≡ [] → IsSoFar whole thinned rest → IsRising whole → IsRising thinned
all_rising whole thinned rest none old r = subst IsRising (append-nil thinned) (subst (λ xs. IsRising (thinned ++ xs)) none (old.rising r))

-- the same places in another order are thinned too
pub thinned_same : (whole moved thinned : List TaskPlace) → AreSamePlaces whole moved → IsThinned moved thinned → IsThinned whole thinned
thinned_same whole moved thinned same t = record {
  within = λ at c. (same at).0 (t.within at c);
  exists = λ at c. t.exists at ((same at).1 c);
}

-- ---- Conflicts

-- one of the thinned row, which is the same place of the same task
record Kept (thinned : List TaskPlace) (at : TaskPlace) : Type 0 where
  kept : TaskPlace
  kept_in : Contains thinned kept
  same : IsSame kept at

kept_of : (whole thinned : List TaskPlace) → IsThinned whole thinned → (at : TaskPlace) → Contains whole at → Kept thinned at
kept_of whole thinned t at c = elim (t.exists at c) [
  | inl h ↦ record { kept = at; kept_in = h; same = (refl, refl) }
  | inr two ↦ record { kept = two.one; kept_in = two.one_in; same = two.one_same }
]

module _ (search : Search) (chains : List (List ℕ)) where
  -- a place and an output of the thinned rows that count, as those of the whole rows do
  record Pair (places outputs : List TaskPlace) (at output : TaskPlace) : Type 0 where
    place : Kept places at
    out : Kept outputs output
    counted : counts search chains place.kept (by_number out.kept) ≡ true

pair_by_task : (search : Search) (chains : List (List ℕ)) → ((at output p o : TaskPlace) → p.task ≡ at.task → o.task ≡ output.task → counts search chains p (by_number o) ≡ counts search chains at (by_number output))
    → (whole thinned : List TaskPlace) → IsThinned whole thinned → (outputs kept : List TaskPlace) → IsThinned outputs kept
    → (at output : TaskPlace) → Contains whole at → Contains outputs output → counts search chains at (by_number output) ≡ true → Pair search chains thinned kept at output
pair_by_task search chains by_task whole thinned t outputs kept u at output c d counted =
    let p = kept_of whole thinned t at c in
    let o = kept_of outputs kept u output d in
    record { place = p; out = o; counted = by_task at output p.kept o.kept p.same.0 o.same.0 ∙ counted }

pair_of : (search : Search) (chains : List (List ℕ)) (whole thinned : List TaskPlace) → IsThinned whole thinned → (outputs kept : List TaskPlace) → IsThinned outputs kept
    → (at output : TaskPlace) → Contains whole at → Contains outputs output → counts search chains at (by_number output) ≡ true → Pair search chains thinned kept at output
pair_of Overlaps chains whole thinned t outputs kept u at output c d counted = elim (u.exists output d) [
  | inr two ↦
      let p = kept_of whole thinned t at c in
      elim (cases_eq p.kept.number two.one.number) [
        | inl e ↦ record {
          place = p;
          out = record { kept = two.other; kept_in = two.other_in; same = two.other_same };
          counted = differ_so p.kept.number two.other.number (λ f. two.two (sym e ∙ f));
        }
        | inr separate ↦ record {
          place = p;
          out = record { kept = two.one; kept_in = two.one_in; same = two.one_same };
          counted = differ_so p.kept.number two.one.number separate;
        }
      ]
  | inl here ↦
      let o : Kept kept output = record { kept = output; kept_in = here; same = (refl, refl) } in
      elim (t.exists at c) [
        | inl there ↦ record { place = record { kept = at; kept_in = there; same = (refl, refl) }; out = o; counted = counted }
        | inr two ↦ elim (cases_eq two.one.number output.number) [
          | inl e ↦ record {
            place = record { kept = two.other; kept_in = two.other_in; same = two.other_same };
            out = o;
            counted = differ_so two.other.number output.number (λ f. two.two (e ∙ sym f));
          }
          | inr separate ↦ record {
            place = record { kept = two.one; kept_in = two.one_in; same = two.one_same };
            out = o;
            counted = differ_so two.one.number output.number separate;
          }
        ]
      ]
]
pair_of OwnInputs chains whole thinned t outputs kept u at output c d counted = pair_by_task OwnInputs chains (λ at output p o e f. (λ i. e i == f i)) whole thinned t outputs kept u at output c d counted
pair_of Undeclared chains whole thinned t outputs kept u at output c d counted = pair_by_task Undeclared chains (λ at output p o e f. (λ i. not (e i == f i) && not (bit_in (row chains (e i)) (f i) == 1))) whole thinned t outputs kept u at output c d counted

module _ (search : Search) (chains : List (List ℕ)) (tasks : List Planned) (outputs kept : List TaskPlace) (u : IsThinned outputs kept) (whole thinned : List TaskPlace) (t : IsThinned whole thinned) where
  pub met_thinned : (m : Conflict) → IsConflictThere search chains tasks outputs whole m → IsConflictThere search chains tasks kept thinned m
  met_thinned m met =
      let pair = pair_of search chains whole thinned t outputs kept u met.at met.met.output met.at_in met.met.output_in met.met.counted in
      let p = pair.place in
      let o = pair.out in
      record {
        at = p.kept;
        at_in = p.kept_in;
        other = met.other;
        met = record {
          output = o.kept;
          output_in = o.kept_in;
          is_task = o.same.0 ∙ met.met.is_task;
          counted = pair.counted;
          overlapped = (λ i. overlaps (p.same.1 i) (o.same.1 i)) ∙ met.met.overlapped;
        };
        is_task = met.is_task ∙ ap (path_at tasks) (sym p.same.0);
        is_other = met.is_other;
        is_place = met.is_place ∙ sym p.same.1;
      }

  pub met_whole : (m : Conflict) → IsConflictThere search chains tasks kept thinned m → IsConflictThere search chains tasks outputs whole m
  met_whole m met = record {
    at = met.at;
    at_in = t.within met.at met.at_in;
    other = met.other;
    met = record {
      output = met.met.output;
      output_in = u.within met.met.output met.met.output_in;
      is_task = met.met.is_task;
      counted = met.met.counted;
      overlapped = met.met.overlapped;
    };
    is_task = met.is_task;
    is_other = met.is_other;
    is_place = met.is_place;
  }
