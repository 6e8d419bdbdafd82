-- What the tables imply for the conflicts of a plan, and that a plan without conflicts is sound.
use Rattle.std.specs.Prelude.{ℕ, suc, ◌≡◌, ◌<◌, true, false, ◌&&◌, List, [], ◌∷◌, ◌++◌, map, length, bytes_eq, refl, Contains, Option}
use Rattle.std.specs.List.{list_any, AllByRecursion}
use Rattle.std.proofs.Common.{sym, ap, ◌∙◌, inl, inr, arith}
use Rattle.std.proofs.lemmas.Bool.{cases_Bool, cases_eq}
use Rattle.gb_core.specs.Place.{overlaps}
use Rattle.gb_folder.specs.Files.{Place}
use Rattle.gb_plan.specs.declared.plan.Planned.{Planned}
use Rattle.gb_plan.specs.Task.{Path, output_places, roots_of}
use Rattle.gb_plan.specs.Graph.{Plan, order, no_repeats, some_overlap, reads_output_of, IsSound, IsReadInOrder}
use Rattle.gb_plan.specs.Refusal.{Conflict, outputs_of, IsOverlap, IsRead, IsOwnInput, IsUndeclared}
use Rattle.gb_plan.proofs.Tests.{itself, neither}
use Rattle.gb_plan.proofs.Same.{In}
use Rattle.gb_plan.proofs.Refused.{places_of}
use Rattle.gb_graph.specs.Order.{row, rows}
use Rattle.gb_graph.specs.Chains.{bit_in}
use Rattle.gb_graph.proofs.Numbers.{of_in}
use Rattle.gb_graph.specs.declared.least.Found.{Found}
use Rattle.gb_graph.specs.declared.conflicting.Search.{Search}
use Rattle.gb_graph.specs.declared.conflicting.Search.TheVariants.{Overlaps, OwnInputs, Undeclared}
use Rattle.gb_graph.specs.declared.places.TaskPlace.{TaskPlace}
use Rattle.gb_graph.specs.declared.plan_tables.Tables.{Tables}
use Rattle.gb_graph.specs.Places.{AreSamePlaces, places_from, with_places}
use Rattle.gb_graph.specs.Conflicts.{AreTables, IsLeast, IsConflictThere, IsConflict, places_for}
use Rattle.gb_graph.proofs.Bridges.{At, in_at, at_get, any_in, some_in, parted, of_row}
use Rattle.gb_graph.proofs.Lesser.{least_same}
use Rattle.gb_graph.proofs.Thinned.{met_thinned, met_whole}
use Rattle.gb_graph.proofs.Numbered.{to_overlap, of_overlap, to_own, of_own, to_undeclared, of_undeclared, in_path, chain, task_of}

same_row : (row : List TaskPlace) → AreSamePlaces row row
same_row row at = (λ h. h, λ h. h)

module _ (plan : Plan) (once : no_repeats (order plan) ≡ true) (tables : Tables) (are : AreTables plan tables) where
  pub low_outputs : (at : TaskPlace) → Contains tables.outputs.items at → at.task < length plan
  low_outputs at c = let row = of_row output_places plan at (are.outputs.within at c) in (at_get plan at.task row.0 row.0 row.1).0

  pub low_roots : (at : TaskPlace) → Contains tables.roots.items at → at.task < length plan
  low_roots at c = let row = of_row roots_of plan at (are.roots.within at c) in (at_get plan at.task row.0 row.0 row.1).0

  pub low_places : (search : Search) (at : TaskPlace) → Contains (places_for tables search) at → at.task < length plan
  low_places Overlaps = low_outputs
  low_places OwnInputs = low_roots
  low_places Undeclared = low_roots

  abbrev outs : List TaskPlace
  outs = with_places [] (places_from output_places 0 plan)

  abbrev ins : List TaskPlace
  ins = with_places [] (places_from roots_of 0 plan)

  abbrev chained : List (List ℕ)
  chained = rows tables.chains.items

  pub least_meets : (search : Search) (o : Option Found) → IsLeast (IsConflictThere search chained plan tables.outputs.items (places_for tables search)) o → IsLeast (IsConflict plan search) o
  least_meets Overlaps o h =
      least_same (IsConflictThere Overlaps chained plan outs outs) (IsOverlap plan) (to_overlap plan once outs (same_row outs) chained) (of_overlap plan once outs (same_row outs) chained) o
      (least_same (IsConflictThere Overlaps chained plan tables.outputs.items tables.outputs.items) (IsConflictThere Overlaps chained plan outs outs)
      (met_whole Overlaps chained plan outs tables.outputs.items are.outputs outs tables.outputs.items are.outputs)
      (met_thinned Overlaps chained plan outs tables.outputs.items are.outputs outs tables.outputs.items are.outputs) o h)
  least_meets OwnInputs o h =
      least_same (IsConflictThere OwnInputs chained plan outs ins) (IsOwnInput plan) (to_own plan once outs (same_row outs) ins (same_row ins) chained) (of_own plan once outs (same_row outs) ins (same_row ins) chained) o
      (least_same (IsConflictThere OwnInputs chained plan tables.outputs.items tables.roots.items) (IsConflictThere OwnInputs chained plan outs ins)
      (met_whole OwnInputs chained plan outs tables.outputs.items are.outputs ins tables.roots.items are.roots)
      (met_thinned OwnInputs chained plan outs tables.outputs.items are.outputs ins tables.roots.items are.roots) o h)
  least_meets Undeclared o h =
      least_same (IsConflictThere Undeclared chained plan outs ins) (IsUndeclared plan)
      (to_undeclared plan once outs (same_row outs) ins (same_row ins) chained are.chains) (of_undeclared plan once outs (same_row outs) ins (same_row ins) chained are.chains) o
      (least_same (IsConflictThere Undeclared chained plan tables.outputs.items tables.roots.items) (IsConflictThere Undeclared chained plan outs ins)
      (met_whole Undeclared chained plan outs tables.outputs.items are.outputs ins tables.roots.items are.roots)
      (met_thinned Undeclared chained plan outs tables.outputs.items are.outputs ins tables.roots.items are.roots) o h)

  -- ---- A sound plan

  separate_of : (xs : List (Path × Place)) → ((i j : ℕ) (x y : Path × Place) → At xs i x → At xs j y → (i ≡ j → ⊥) → overlaps x.1 y.1 ≡ false)
      → some_overlap (map (λ (output : Path × Place). output.1) xs) ≡ false
  separate_of [] h = refl
  separate_of (x ∷ xs) h =
      neither (list_any (overlaps x.1) (map (λ (output : Path × Place). output.1) xs)) (some_overlap (map (λ (output : Path × Place). output.1) xs))
      (none_of xs (λ j y at. h 0 (suc j) x y refl at (λ e. (let f : 0 ≡ suc j = e in omega (arith, f)))))
      (separate_of xs (λ i j y z a b e. h (suc i) (suc j) y z a b (λ f. e (let g : suc i ≡ suc j = f in omega (arith, g)))))
    where
      none_of : (ys : List (Path × Place)) → ((j : ℕ) (y : Path × Place) → At ys j y → overlaps x.1 y.1 ≡ false) → list_any (overlaps x.1) (map (λ (output : Path × Place). output.1) ys) ≡ false
      none_of [] h = refl
      none_of (y ∷ ys) h = neither (overlaps x.1 y.1) (list_any (overlaps x.1) (map (λ (output : Path × Place). output.1) ys)) (h 0 y refl) (none_of ys (λ j z at. h (suc j) z at))

  some_separate : ((conflict : Conflict) → ¬ IsOverlap plan conflict) → (i j : ℕ) (x y : Path × Place) → At (outputs_of plan) i x → At (outputs_of plan) j y → (i ≡ j → ⊥) → overlaps x.1 y.1 ≡ false
  some_separate none i j x y a b separate = elim (cases_Bool (overlaps x.1 y.1)) [
    | inr f ↦ f
    | inl t ↦
        let parts = parted (outputs_of plan) i x a in
        absurd (none (record { task = x.0; other = y.0; place = x.1 }) (record {
          prefix = parts.0;
          back = parts.1;
          exists = parts.2;
          overlapped = any_in (λ (o : Path × Place). bytes_eq o.0 y.0 && overlaps x.1 o.1) (parts.0 ++ parts.1) y (parts.3 j y b separate) (ap (λ c. c && overlaps x.1 y.1) (itself y.0) ∙ t);
        }))
  ]

  all_of : (P : Planned → Type 0) (zs : List Planned) → ((z : Planned) → In z zs → P z) → AllByRecursion P zs
  all_of P [] h = tt
  all_of P (z ∷ zs) h = (h z (inl refl), all_of P zs (λ y i. h y (inr i)))

  in_tasks : (zs : List Planned) (z : Planned) → In z zs → In z.task (map task_of zs)
  in_tasks [] z i = absurd i
  in_tasks (y ∷ zs) z (inl e) = inl (ap task_of e)
  in_tasks (y ∷ zs) z (inr i) = inr (in_tasks zs z i)

  -- a root at which one of the tasks reads the output of the other
  read_of : (z w : Planned) → In z plan → In w plan → reads_output_of z.task w.task ≡ true → (root : Place) × IsRead plan z.task w.task root
  read_of z w i j h =
      let some = some_in (λ root. list_any (overlaps root) (output_places w.task)) (roots_of z.task) h in (
        some.0,
        record {
          reader_in = of_in z.task (map task_of plan) (in_tasks plan z i);
          writer_in = of_in w.task (map task_of plan) (in_tasks plan w j);
          is_root = in_path (roots_of z.task) some.0 some.1;
          overlapped = some.2;
        },
      )

  reads_none : ((conflict : Conflict) → ¬ IsOwnInput plan conflict) → (z : Planned) → In z plan → reads_output_of z.task z.task ≡ false
  reads_none none z i = elim (cases_Bool (reads_output_of z.task z.task)) [
    | inr f ↦ f
    | inl t ↦
        let read = read_of z z i i t in
        absurd (none (record { task = z.task.path; other = z.task.path; place = read.0 }) (record { task = z.task; is_task = refl; is_same = refl; reads = read.1 }))
  ]

  reads_in_order : ((conflict : Conflict) → ¬ IsUndeclared plan conflict) → (z w : Planned) → In z plan → In w plan → IsReadInOrder plan z.task w.task
  reads_in_order none z w i j t two =
      let read = read_of z w i j t in
      let k = in_at plan z i in
      let l = in_at plan w j in
      let reported = chain plan once outs (same_row outs) ins (same_row ins) chained are.chains k.0 l.0 z w k.1 l.1 in
      elim (cases_eq (bit_in (row (rows tables.chains.items) k.0) l.0) 1) [
        | inl e ↦ reported.0 e
        | inr separate ↦ absurd (none (record { task = z.task.path; other = w.task.path; place = read.0 })
            (record { reader = z.task; writer = w.task; is_reader = refl; is_writer = refl; two = two; reads = read.1; not_after = λ h. separate (reported.1 h) }))
      ]

  pub is_sound : ((conflict : Conflict) → ¬ IsOverlap plan conflict) → ((conflict : Conflict) → ¬ IsOwnInput plan conflict) → ((conflict : Conflict) → ¬ IsUndeclared plan conflict) → IsSound plan
  is_sound no_overlap no_own no_undeclared = record {
    outputs_separate = ap some_overlap (sym (places_of plan)) ∙ separate_of (outputs_of plan) (some_separate no_overlap);
    inputs_separate = all_of (λ z. reads_output_of z.task z.task ≡ false) plan (reads_none no_own);
    declared = all_of (λ z. AllByRecursion (λ (w : Planned). IsReadInOrder plan z.task w.task) plan) plan
        (λ z i. all_of (λ w. IsReadInOrder plan z.task w.task) plan (λ w j. reads_in_order no_undeclared z w i j));
  }
