-- The conflicts by number are the conflicts of a plan.
use Rattle.std.specs.Prelude.{ℕ, ◌≡◌, ◌<◌, ◌+◌, ◌↔◌, ◌==◌, true, not, ◌&&◌, List, [], ◌∷◌, ◌++◌, map, length, get_or, bytes_eq, refl, Contains}
use Rattle.std.specs.Cmp.Lexicographic.{bytes_decides}
use Rattle.std.proofs.Common.{sym, ap, subst, ◌∙◌, inl, inr, arith}
use Rattle.std.proofs.lemmas.Bool.{cases_Bool}
use Rattle.std.proofs.lemmas.Bool.Decides.{nat_tests}
use Rattle.gb_core.specs.Place.{overlaps}
use Rattle.gb_folder.specs.Files.{Place}
use Rattle.gb_plan.specs.declared.plan.Planned.{Planned}
use Rattle.gb_plan.specs.declared.task.TaskDeclaration.{TaskDeclaration}
use Rattle.gb_plan.specs.Task.{Path, has_path, output_places, roots_of}
use Rattle.gb_plan.specs.Graph.{Plan, order, no_repeats, IsAfter}
use Rattle.gb_plan.specs.Refusal.{Conflict, outputs_of, IsOverlap, IsRead, IsOwnInput, IsUndeclared}
use Rattle.gb_plan.proofs.Tests.{left_of, right_of, itself}
use Rattle.gb_plan.proofs.Same.{In}
use Rattle.gb_graph.specs.Order.{row}
use Rattle.gb_graph.specs.Chains.{bit_in}
use Rattle.gb_graph.specs.Cycle.{path_at}
use Rattle.gb_graph.proofs.Keeping.{not_both}
use Rattle.gb_graph.proofs.Numbers.{in_of, of_in, both}
use Rattle.gb_graph.specs.declared.conflicting.Search.TheVariants.{Overlaps, OwnInputs, Undeclared}
use Rattle.gb_graph.specs.declared.places.TaskPlace.{TaskPlace}
use Rattle.gb_graph.specs.Places.{AreSamePlaces, with_places, places_from}
use Rattle.gb_graph.specs.Conflicts.{IsConflictThere, GiveChains}
use Rattle.gb_graph.proofs.Bridges.{At, at_in, in_at, at_get, at_map, of_at_map, parted, around, any_in, some_in, of_row, into_row, into_placed, outputs_mapped}
use Rattle.gb_graph.proofs.Planned.{one_path}

pub differ : (a b : ℕ) → not (a == b) ≡ true → a ≡ b → ⊥
differ a b h e = grind (arith, nat_tests)

pub differ_so : (a b : ℕ) → (a ≡ b → ⊥) → not (a == b) ≡ true
differ_so a b h = grind (arith, nat_tests)

same_of : (a b : ℕ) → (a == b) ≡ true → a ≡ b
same_of a b h = grind (arith, nat_tests)

same_so : (a b : ℕ) → a ≡ b → (a == b) ≡ true
same_so a b h = grind (arith, nat_tests)

path_in : (paths : List Path) (path : Path) → has_path paths path ≡ true → In path paths
path_in paths path h = let at = some_in (bytes_eq path) paths h in subst (λ p. In p paths) (sym ((bytes_decides path at.0).0 at.2)) at.1

pub in_path : (paths : List Path) (path : Path) → In path paths → has_path paths path ≡ true
in_path paths path h = any_in (bytes_eq path) paths path h (itself path)

abbrev pub task_of : Planned → TaskDeclaration
task_of planned = planned.task

module _ (plan : Plan) (once : no_repeats (order plan) ≡ true) where
  path_of : (k : ℕ) (z : Planned) → At plan k z → path_at plan k ≡ z.task.path
  path_of k z at = (at_get (order plan) k z.task.path [] (at_map (λ (p : Planned). p.task.path) plan k z at)).1

  low_of : (k : ℕ) (z : Planned) → At plan k z → k < length plan
  low_of k z at = (at_get plan k z z at).0

  same_at : (j k : ℕ) (y z : Planned) → At plan j y → At plan k z → j ≡ k → y ≡ z
  same_at j k y z a b e = sym (at_get plan j y y a).1 ∙ (ap (λ n. get_or plan n y) e ∙ (at_get plan k z y b).1)

  same_number : (j k : ℕ) (y z : Planned) → At plan j y → At plan k z → y.task.path ≡ z.task.path → j ≡ k
  same_number j k y z a b e = one_path plan once j k (low_of j y a) (low_of k z b) (path_of j y a ∙ (e ∙ sym (path_of k z b)))

  abbrev output_row : List TaskPlace
  output_row = with_places [] (places_from output_places 0 plan)

  abbrev root_row : List TaskPlace
  root_row = with_places [] (places_from roots_of 0 plan)

  mapped : outputs_of plan ≡ map (λ (pair : ℕ × Place). (path_at plan pair.0, pair.1)) (places_from output_places 0 plan)
  mapped = outputs_mapped (path_at plan) 0 plan (λ k z at. ap (path_at plan) (let e : 0 + k ≡ k = omega arith in e) ∙ path_of k z at)

  module _ (outputs : List TaskPlace) (same : AreSamePlaces output_row outputs) where
    out_of : (at : TaskPlace) → Contains outputs at → At (outputs_of plan) at.number (path_at plan at.task, at.place)
    out_of at c =
        let row = of_row output_places plan at ((same at).0 c) in
        subst (λ (os : List (Path × Place)). At os at.number (path_at plan at.task, at.place)) (sym mapped)
        (at_map (λ (pair : ℕ × Place). (path_at plan pair.0, pair.1)) (places_from output_places 0 plan) at.number (at.task, at.place) row.3)

    into_out : (i : ℕ) (output : Path × Place) → At (outputs_of plan) i output
        → (at : TaskPlace) × Contains outputs at × (at.number ≡ i) × (path_at plan at.task ≡ output.0) × (at.place ≡ output.1)
    into_out i output h =
        let pair = of_at_map (λ (pair : ℕ × Place). (path_at plan pair.0, pair.1)) (places_from output_places 0 plan) i output (subst (λ (os : List (Path × Place)). At os i output) mapped h) in
        let made = into_placed [] (places_from output_places 0 plan) i pair.0 pair.1 in (
          made.0,
          (same made.0).1 (of_in made.0 output_row made.1),
          made.4 ∙ (let e : 0 + i ≡ i = omega arith in e),
          ap (path_at plan) made.2 ∙ ap (λ (o : Path × Place). o.0) pair.2,
          made.3 ∙ ap (λ (o : Path × Place). o.1) pair.2,
        )

    -- ---- Overlaps

    pub to_overlap : (chains : List (List ℕ)) (m : Conflict) → IsConflictThere Overlaps chains plan outputs outputs m → IsOverlap plan m
    to_overlap chains m met =
        let at = met.at in
        let output = met.met.output in
        let here = out_of at met.at_in in
        let there = out_of output met.met.output_in in
        let parts = parted (outputs_of plan) at.number (path_at plan at.task, at.place) here in
        let is : (path_at plan at.task, at.place) ≡ (m.task, m.place) = λ i. (sym met.is_task i, sym met.is_place i) in
        record {
          prefix = parts.0;
          back = parts.1;
          exists = parts.2 ∙ ap (λ (o : Path × Place). parts.0 ++ o ∷ parts.1) is;
          overlapped =
              any_in (λ (o : Path × Place). bytes_eq o.0 m.other && overlaps m.place o.1) (parts.0 ++ parts.1) (path_at plan output.task, output.place)
              (parts.3 output.number (path_at plan output.task, output.place) there (differ at.number output.number met.met.counted))
              (both (bytes_eq (path_at plan output.task) m.other) (overlaps m.place output.place)
              ((bytes_decides (path_at plan output.task) m.other).1 (ap (path_at plan) met.met.is_task ∙ sym met.is_other))
              (ap (λ p. overlaps p output.place) met.is_place ∙ met.met.overlapped));
        }

    pub of_overlap : (chains : List (List ℕ)) (m : Conflict) → IsOverlap plan m → IsConflictThere Overlaps chains plan outputs outputs m
    of_overlap chains m h =
        let some = some_in (λ (o : Path × Place). bytes_eq o.0 m.other && overlaps m.place o.1) (h.prefix ++ h.back) h.overlapped in
        let y = some.0 in
        let two = around h.prefix h.back (m.task, m.place) y some.1 in
        let at = into_out two.0 (m.task, m.place) (subst (λ (os : List (Path × Place)). At os two.0 (m.task, m.place)) (sym h.exists) two.2) in
        let output = into_out two.1 y (subst (λ (os : List (Path × Place)). At os two.1 y) (sym h.exists) two.3) in
        record {
          at = at.0;
          at_in = at.1;
          other = output.0.task;
          met = record {
            output = output.0;
            output_in = output.1;
            is_task = refl;
            counted = differ_so at.0.number output.0.number (λ e. two.4 (sym at.2 ∙ (e ∙ output.2)));
            overlapped = ap (λ p. overlaps p output.0.place) at.4 ∙ (ap (overlaps m.place) output.4 ∙ right_of (bytes_eq y.0 m.other) (overlaps m.place y.1) some.2);
          };
          is_task = sym at.3;
          is_other = sym ((bytes_decides y.0 m.other).0 (left_of (bytes_eq y.0 m.other) (overlaps m.place y.1) some.2)) ∙ sym output.3;
          is_place = sym at.4;
        }

    -- ---- Reads

    module _ (roots : List TaskPlace) (same_roots : AreSamePlaces root_row roots) where
      to_read : (at output : TaskPlace) → Contains roots at → Contains outputs output → overlaps at.place output.place ≡ true → (place : Place) → place ≡ at.place
          → (z : Planned) × (w : Planned) × At plan at.task z × At plan output.task w × IsRead plan z.task w.task place
      to_read at output a o h place is =
          let reader = of_row roots_of plan at ((same_roots at).0 a) in
          let writer = of_row output_places plan output ((same output).0 o) in (
            reader.0,
            writer.0,
            reader.1,
            writer.1,
            record {
              reader_in = of_in reader.0.task (map task_of plan) (at_in (map task_of plan) at.task reader.0.task (at_map task_of plan at.task reader.0 reader.1));
              writer_in = of_in writer.0.task (map task_of plan) (at_in (map task_of plan) output.task writer.0.task (at_map task_of plan output.task writer.0 writer.1));
              is_root = in_path (roots_of reader.0.task) place (subst (λ p. In p (roots_of reader.0.task)) (sym is) reader.2);
              overlapped = any_in (overlaps place) (output_places writer.0.task) output.place writer.2 (ap (λ p. overlaps p output.place) is ∙ h);
            },
          )

      task_at : (task : TaskDeclaration) → Contains (map task_of plan) task → (k : ℕ) × (z : Planned) × At plan k z × (z.task ≡ task)
      task_at task c =
          let i = in_at (map task_of plan) task (in_of (map task_of plan) task c) in
          let z = of_at_map task_of plan i.0 task i.1 in (i.0, z.0, z.1, z.2)

      of_read : (reader writer : TaskDeclaration) (place : Place) → IsRead plan reader writer place
          → (at : TaskPlace) × (output : TaskPlace) × (z : Planned) × (w : Planned) × Contains roots at × Contains outputs output × (overlaps at.place output.place ≡ true) × (at.place ≡ place)
          × At plan at.task z × At plan output.task w × (z.task ≡ reader) × (w.task ≡ writer)
      of_read reader writer place h =
          let z = task_at reader h.reader_in in
          let w = task_at writer h.writer_in in
          let root = into_row roots_of plan z.0 z.1 place z.2 (subst (λ t. In place (roots_of t)) (sym z.3) (path_in (roots_of reader) place h.is_root)) in
          let some = some_in (overlaps place) (output_places writer) h.overlapped in
          let out = into_row output_places plan w.0 w.1 some.0 w.2 (subst (λ t. In some.0 (output_places t)) (sym w.3) some.1) in (
            root.0,
            out.0,
            z.1,
            w.1,
            (same_roots root.0).1 root.1,
            (same out.0).1 out.1,
            ap (λ p. overlaps p out.0.place) root.3 ∙ (ap (overlaps place) out.3 ∙ some.2),
            root.3,
            subst (λ n. At plan n z.1) (sym root.2) z.2,
            subst (λ n. At plan n w.1) (sym out.2) w.2,
            z.3,
            w.3,
          )

      pub to_own : (chains : List (List ℕ)) (m : Conflict) → IsConflictThere OwnInputs chains plan outputs roots m → IsOwnInput plan m
      to_own chains m met =
          let at = met.at in
          let output = met.met.output in
          let read = to_read at output met.at_in met.met.output_in met.met.overlapped m.place met.is_place in
          let one : read.1 ≡ read.0 = same_at output.task at.task read.1 read.0 read.3 read.2 (sym (same_of at.task output.task met.met.counted)) in
          record {
            task = read.0.task;
            is_task = met.is_task ∙ path_of at.task read.0 read.2;
            is_same = met.is_other ∙ (ap (path_at plan) (sym met.met.is_task) ∙ (path_of output.task read.1 read.3 ∙ ap (λ (z : Planned). z.task.path) one));
            reads = subst (λ (w : Planned). IsRead plan read.0.task w.task m.place) one read.4;
          }

      pub of_own : (chains : List (List ℕ)) (m : Conflict) → IsOwnInput plan m → IsConflictThere OwnInputs chains plan outputs roots m
      of_own chains m h =
          let read = of_read h.task h.task m.place h.reads in
          let z_path : read.2.task.path ≡ h.task.path = ap (λ (t : TaskDeclaration). t.path) read.10 in
          let w_path : read.3.task.path ≡ h.task.path = ap (λ (t : TaskDeclaration). t.path) read.11 in
          record {
            at = read.0;
            at_in = read.4;
            other = read.1.task;
            met = record {
              output = read.1;
              output_in = read.5;
              is_task = refl;
              counted = same_so read.0.task read.1.task (same_number read.0.task read.1.task read.2 read.3 read.8 read.9 (z_path ∙ sym w_path));
              overlapped = read.6;
            };
            is_task = h.is_task ∙ (sym z_path ∙ sym (path_of read.0.task read.2 read.8));
            is_other = h.is_same ∙ (sym w_path ∙ sym (path_of read.1.task read.3 read.9));
            is_place = sym read.7;
          }

      module _ (chains : List (List ℕ)) (reported : GiveChains plan chains) where
        pub chain : (t b : ℕ) (z w : Planned) → At plan t z → At plan b w → (bit_in (row chains t) b ≡ 1) ↔ IsAfter plan z.task w.task.path
        chain t b z w at bt =
            let report = reported t b z (low_of t z at) (low_of b w bt) in
            let is : get_or plan t z ≡ z = (at_get plan t z z at).1 in
            let path = path_of b w bt in (
              λ h. subst (λ p. IsAfter plan z.task p) path (subst (λ (y : Planned). IsAfter plan y.task (path_at plan b)) is (report.0 h)),
              λ h. report.1 (subst (λ (y : Planned). IsAfter plan y.task (path_at plan b)) (sym is) (subst (λ p. IsAfter plan z.task p) (sym path) h)),
            )

        pub to_undeclared : (m : Conflict) → IsConflictThere Undeclared chains plan outputs roots m → IsUndeclared plan m
        to_undeclared m met =
            let at = met.at in
            let output = met.met.output in
            let read = to_read at output met.at_in met.met.output_in met.met.overlapped m.place met.is_place in
            let two = left_of (not (at.task == output.task)) (not (bit_in (row chains at.task) output.task == 1)) met.met.counted in
            let unset = right_of (not (at.task == output.task)) (not (bit_in (row chains at.task) output.task == 1)) met.met.counted in
            record {
              reader = read.0.task;
              writer = read.1.task;
              is_reader = met.is_task ∙ path_of at.task read.0 read.2;
              is_writer = met.is_other ∙ (ap (path_at plan) (sym met.met.is_task) ∙ path_of output.task read.1 read.3);
              two = elim (cases_Bool (bytes_eq read.0.task.path read.1.task.path)) [
                | inl t ↦ absurd (differ at.task output.task two (same_number at.task output.task read.0 read.1 read.2 read.3 ((bytes_decides read.0.task.path read.1.task.path).0 t)))
                | inr f ↦ f
              ];
              reads = read.4;
              not_after = λ h. differ (bit_in (row chains at.task) output.task) 1 unset ((chain at.task output.task read.0 read.1 read.2 read.3).1 h);
            }

        pub of_undeclared : (m : Conflict) → IsUndeclared plan m → IsConflictThere Undeclared chains plan outputs roots m
        of_undeclared m h =
            let read = of_read h.reader h.writer m.place h.reads in
            let z_path : read.2.task.path ≡ h.reader.path = ap (λ (t : TaskDeclaration). t.path) read.10 in
            let w_path : read.3.task.path ≡ h.writer.path = ap (λ (t : TaskDeclaration). t.path) read.11 in
            record {
              at = read.0;
              at_in = read.4;
              other = read.1.task;
              met = record {
                output = read.1;
                output_in = read.5;
                is_task = refl;
                counted = both (not (read.0.task == read.1.task)) (not (bit_in (row chains read.0.task) read.1.task == 1))
                    (differ_so read.0.task read.1.task (λ e. not_both ((bytes_decides h.reader.path h.writer.path).1
                    (sym z_path ∙ (ap (λ (y : Planned). y.task.path) (same_at read.0.task read.1.task read.2 read.3 read.8 read.9 e) ∙ w_path))) h.two))
                    (differ_so (bit_in (row chains read.0.task) read.1.task) 1
                    (λ e. h.not_after (subst (λ p. IsAfter plan h.reader p) w_path (subst (λ t. IsAfter plan t read.3.task.path) read.10 ((chain read.0.task read.1.task read.2 read.3 read.8 read.9).0 e)))));
                overlapped = read.6;
              };
              is_task = h.is_reader ∙ (sym z_path ∙ sym (path_of read.0.task read.2 read.8));
              is_other = h.is_writer ∙ (sym w_path ∙ sym (path_of read.1.task read.3 read.9));
              is_place = sym read.7;
            }
