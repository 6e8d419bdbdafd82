-- The outputs that overlap a place, one after another; the thinned row of them; and the tasks of those that count.
use Rattle.std.specs.Prelude.{ℕ, ◌≡◌, ◌≢◌, ◌⊎◌, ◌<◌, ◌+◌, ◌↔◌, true, false, not, ◌==◌, ◌&&◌, List, ◌∷◌, [], ◌++◌, length, get_or, take, Option, Some, None, MatchOption, refl, Contains}
use Rattle.std.proofs.Common.{sym, ap, subst, ◌∙◌, inl, inr}
use Rattle.std.proofs.lemmas.Bool.{cases_eq, false≢true}
use Rattle.std.proofs.lemmas.List.{get_or_default}
use Rattle.std.proofs.lemmas.List.Elements.{Contains-append_left, Contains-push, Contains-push_cases}
use Rattle.gb_core.specs.Place.{overlaps}
use Rattle.gb_folder.specs.Files.{Place}
use Rattle.gb_graph.proofs.Edges.{take_grows}
use Rattle.gb_graph.proofs.Keeping.{not_both}
use Rattle.gb_graph.proofs.Numbered.{differ_so}
use Rattle.gb_graph.proofs.RefusalRows.{place_found}
use Rattle.gb_graph.specs.Order.{row}
use Rattle.gb_graph.specs.Chains.{bit_in}
use Rattle.gb_graph.specs.declared.conflicting.Search.{Search}
use Rattle.gb_graph.specs.declared.conflicting.Search.TheVariants.{Overlaps, OwnInputs, Undeclared}
use Rattle.gb_graph.specs.declared.near.Near.{Near}
use Rattle.gb_graph.specs.declared.places.TaskPlace.{TaskPlace}
use Rattle.gb_graph.specs.Places.{place_at}
use Rattle.gb_graph.specs.Near.{AreNear, AreSameNumbers, AreThinned, HasTwo, IsAmong, IsNear, by_number}
use Rattle.gb_graph.specs.Conflicts.{IsConflictTask, counts}

module _ (outputs : List TaskPlace) where
  among_within : (indices more : List ℕ) (near : Near) → ((k : ℕ) → Contains indices k → Contains more k) → IsAmong outputs indices near → IsAmong outputs more near
  among_within indices more near within m = record { index = m.index; index_in = within m.index m.index_in; output = m.output; low = m.low; is_output = m.is_output; is_near = m.is_near }

  same_output : (k j : ℕ) (a b : TaskPlace) → k ≡ j → k < length outputs → a ≡ get_or outputs k a → b ≡ get_or outputs j b → a ≡ b
  same_output k j a b e lt f g = f ∙ (get_or_default outputs k a b lt ∙ (ap (λ n. get_or outputs n b) e ∙ sym g))

  -- one more index
  pub among_more : (indices : List ℕ) (i k : ℕ) (output : TaskPlace) (numbers : List Near) → i < length indices → k ≡ get_or indices i k → k < length outputs → output ≡ get_or outputs k output
      → ((near : Near) → Contains numbers near ↔ IsAmong outputs (take i indices) near)
      → (near : Near) → Contains (numbers ++ by_number output ∷ []) near ↔ IsAmong outputs (take (i + 1) indices) near
  among_more indices i k output numbers lt is low is_output reported near = (
    λ h. elim (Contains-push_cases numbers (by_number output) near h) [
      | inl o ↦ among_within (take i indices) (take (i + 1) indices) near (λ j c. (take_grows indices i k j lt is).1 (inl c)) ((reported near).0 o)
      | inr e ↦ record { index = k; index_in = (take_grows indices i k k lt is).1 (inr refl); output = output; low = low; is_output = is_output; is_near = e }
    ],
    λ m. elim ((take_grows indices i k m.index lt is).0 m.index_in) [
      | inl o ↦ Contains-append_left numbers (by_number output ∷ []) near
          ((reported near).1 (record { index = m.index; index_in = o; output = m.output; low = m.low; is_output = m.is_output; is_near = m.is_near }))
      | inr e ↦ subst (Contains (numbers ++ by_number output ∷ [])) (ap by_number (same_output k m.index output m.output e low is_output m.is_output) ∙ m.is_near) (Contains-push numbers (by_number output))
    ],
  )

  -- all that overlap
  pub among_all : (place : Place) (indices : List ℕ) (numbers : List Near) → ((k : ℕ) → Contains indices k ↔ ((k < length outputs) × (overlaps place (place_at outputs k) ≡ true)))
      → ((near : Near) → Contains numbers near ↔ IsAmong outputs indices near) → (near : Near) → Contains numbers near ↔ IsNear outputs place near
  among_all place indices numbers found reported near = (
    λ h. let m = (reported near).0 h in record {
      output = m.output;
      output_in = (m.index, m.low, sym m.is_output);
      overlapped =
          ap (λ (o : TaskPlace). overlaps place o.place) m.is_output
          ∙ (ap (overlaps place) (sym (place_found outputs m.index m.output m.low)) ∙ ((found m.index).0 m.index_in).1);
      is_near = m.is_near;
    },
    λ m. let k = m.output_in.0 in
        let low : k < length outputs = m.output_in.1 in (reported near).1 (record {
          index = k;
          index_in = (found k).1 (low, ap (overlaps place) (place_found outputs k m.output low) ∙ (ap (λ (o : TaskPlace). overlaps place o.place) m.output_in.2 ∙ m.overlapped));
          output = m.output;
          low = low;
          is_output = sym m.output_in.2;
          is_near = m.is_near;
        }),
  )

-- ---- The thinned row

two_more : (thinned : List Near) (next : Near) (task : ℕ) → HasTwo thinned task → HasTwo (thinned ++ next ∷ []) task
two_more thinned next task t = record {
  one = t.one;
  other = t.other;
  one_in = Contains-append_left thinned (next ∷ []) t.one t.one_in;
  other_in = Contains-append_left thinned (next ∷ []) t.other t.other_in;
  one_task = t.one_task;
  other_task = t.other_task;
  two = t.two;
}

module _ (whole thinned : List Near) (i : ℕ) (next : Near) (lt : i < length whole) (is : next ≡ get_or whole i next) where
  -- one more output, which is kept
  pub thinned_more : AreThinned (take i whole) thinned → AreThinned (take (i + 1) whole) (thinned ++ next ∷ [])
  thinned_more old = record {
    within = λ near c. (take_grows whole i next near lt is).1 (elim (Contains-push_cases thinned next near c) [ inl o ↦ inl (old.within near o) | inr e ↦ inr e ]);
    exists = λ near c. elim ((take_grows whole i next near lt is).0 c) [
      | inl before ↦ elim (old.exists near before) [ inl o ↦ inl (Contains-append_left thinned (next ∷ []) near o) | inr t ↦ inr (two_more thinned next near.task t) ]
      | inr e ↦ inl (subst (Contains (thinned ++ next ∷ [])) e (Contains-push thinned next))
    ];
  }

  -- one more output, of a task that has two
  pub thinned_left : HasTwo thinned next.task → AreThinned (take i whole) thinned → AreThinned (take (i + 1) whole) thinned
  thinned_left two old = record {
    within = λ near c. (take_grows whole i next near lt is).1 (inl (old.within near c));
    exists = λ near c. elim ((take_grows whole i next near lt is).0 c) [
      | inl before ↦ old.exists near before
      | inr e ↦ inr (subst (λ (n : Near). HasTwo thinned n.task) e two)
    ];
  }

-- the thinned row of all that overlap, in another order
pub near_thinned : (outputs : List TaskPlace) (place : Place) (numbers moved thinned : List Near) → ((near : Near) → Contains numbers near ↔ IsNear outputs place near)
    → AreSameNumbers numbers moved → AreThinned moved thinned → AreNear outputs place thinned
near_thinned outputs place numbers moved thinned reported same t = record {
  within = λ near c. (reported near).0 ((same near).0 (t.within near c));
  exists = λ near m. t.exists near ((same near).1 ((reported near).1 m));
}

-- ---- The last place

abbrev IsOf : List TaskPlace → List TaskPlace → List Near → Option ℕ → Type 0
IsOf outputs places row o = MatchOption o (Unit {0}) (λ index. (index < length places) × AreNear outputs (place_at places index) row)

pub last_within : (outputs places : List TaskPlace) (row : List Near) (o : Option ℕ) → IsOf outputs places row o → MatchOption o (Unit {0}) (λ index. index < length places)
last_within outputs places row None h = tt
last_within outputs places row (Some index) h = h.0

pub near_again : (outputs places : List TaskPlace) (row : List Near) (place : ℕ) (o : Option ℕ) → IsOf outputs places row o
    → MatchOption o (false ≡ true) (λ index. place_at places index ≡ place_at places place) → AreNear outputs (place_at places place) row
near_again outputs places row place None h e = absurd (false≢true e)
near_again outputs places row place (Some index) h e = subst (λ p. AreNear outputs p row) e h.1

-- ---- The tasks of the outputs that count

-- of two outputs of a task one counts, if any output of the task does
counts_of_two : (search : Search) (chains : List (List ℕ)) (at : TaskPlace) (one other near : Near) → one.task ≡ near.task → one.number ≢ other.number
    → counts search chains at near ≡ true → (counts search chains at one ≡ true) ⊎ (counts search chains at other ≡ true)
counts_of_two Overlaps chains at one other near e two counted = elim (cases_eq at.number one.number) [
  | inl same ↦ inr (differ_so at.number other.number (λ f. two (sym same ∙ f)))
  | inr separate ↦ inl (differ_so at.number one.number separate)
]
counts_of_two OwnInputs chains at one other near e two counted = inl ((λ i. at.task == e i) ∙ counted)
counts_of_two Undeclared chains at one other near e two counted = inl ((λ i. not (at.task == e i) && not (bit_in (row chains at.task) (e i) == 1)) ∙ counted)

-- one of these outputs counts, and is of the task
pub record IsMetBy (search : Search) (chains : List (List ℕ)) (at : TaskPlace) (numbers : List Near) (task : ℕ) : Type 0 where
  pub near : Near
  pub near_in : Contains numbers near
  pub is_task : near.task ≡ task
  pub counted : counts search chains at near ≡ true

module _ (search : Search) (chains : List (List ℕ)) (at : TaskPlace) where
  module _ (numbers : List Near) (i : ℕ) (next : Near) (tasks : List ℕ) (lt : i < length numbers) (is : next ≡ get_or numbers i next)
      (reported : (task : ℕ) → Contains tasks task ↔ IsMetBy search chains at (take i numbers) task) where
    met_later : (task : ℕ) → IsMetBy search chains at (take i numbers) task → IsMetBy search chains at (take (i + 1) numbers) task
    met_later task m = record { near = m.near; near_in = (take_grows numbers i next m.near lt is).1 (inl m.near_in); is_task = m.is_task; counted = m.counted }

    -- one more output, which counts
    pub met_more : counts search chains at next ≡ true → (task : ℕ) → Contains (tasks ++ next.task ∷ []) task ↔ IsMetBy search chains at (take (i + 1) numbers) task
    met_more counted task = (
      λ h. elim (Contains-push_cases tasks next.task task h) [
        | inl o ↦ met_later task ((reported task).0 o)
        | inr e ↦ record { near = next; near_in = (take_grows numbers i next next lt is).1 (inr refl); is_task = e; counted = counted }
      ],
      λ m. elim ((take_grows numbers i next m.near lt is).0 m.near_in) [
        | inl o ↦ Contains-append_left tasks (next.task ∷ []) task ((reported task).1 (record { near = m.near; near_in = o; is_task = m.is_task; counted = m.counted }))
        | inr e ↦ subst (Contains (tasks ++ next.task ∷ [])) (ap (λ (n : Near). n.task) e ∙ m.is_task) (Contains-push tasks next.task)
      ],
    )

    -- one more output, which does not count
    pub met_passed : counts search chains at next ≡ false → (task : ℕ) → Contains tasks task ↔ IsMetBy search chains at (take (i + 1) numbers) task
    met_passed passed task = (
      λ h. met_later task ((reported task).0 h),
      λ m. (reported task).1 (elim ((take_grows numbers i next m.near lt is).0 m.near_in) [
        | inl o ↦ record { near = m.near; near_in = o; is_task = m.is_task; counted = m.counted }
        | inr e ↦ not_both m.counted (ap (counts search chains at) (sym e) ∙ passed)
      ]),
    )

  -- all that overlap
  pub met_all : (outputs : List TaskPlace) (numbers : List Near) (tasks : List ℕ) → AreNear outputs at.place numbers
      → ((task : ℕ) → Contains tasks task ↔ IsMetBy search chains at numbers task) → (task : ℕ) → Contains tasks task ↔ IsConflictTask search chains outputs at task
  met_all outputs numbers tasks near reported task = (
    λ h. let m = (reported task).0 h in
        let n = near.within m.near m.near_in in record {
          output = n.output;
          output_in = n.output_in;
          is_task = ap (λ (it : Near). it.task) n.is_near ∙ m.is_task;
          counted = ap (counts search chains at) n.is_near ∙ m.counted;
          overlapped = n.overlapped;
        },
    λ m. (reported task).1 (elim (near.exists (by_number m.output) (record { output = m.output; output_in = m.output_in; overlapped = m.overlapped; is_near = refl })) [
      | inl c ↦ record { near = by_number m.output; near_in = c; is_task = m.is_task; counted = m.counted }
      | inr t ↦ elim (counts_of_two search chains at t.one t.other (by_number m.output) t.one_task t.two m.counted) [
        | inl one ↦ record { near = t.one; near_in = t.one_in; is_task = t.one_task ∙ m.is_task; counted = one }
        | inr other ↦ record { near = t.other; near_in = t.other_in; is_task = t.other_task ∙ m.is_task; counted = other }
      ]
    ]),
  )
