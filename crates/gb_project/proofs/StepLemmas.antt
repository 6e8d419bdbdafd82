-- Tasks are declared one after another.
use Rattle.std.proofs.Common.{◌≡◌, ℕ, ◌≤◌, inl, inr, true, List, [], ◌∷◌, ◌++◌, length, map, refl, sym, ap, subst, ◌∙◌, Some, None, Result, Ok, Err, arith, append_assoc}
use Rattle.std.proofs.lemmas.List.{append-nil, map-append}
use Rattle.std.specs.Prelude.{fold}
use Rattle.std.specs.List.{AllByRecursion}
use Rattle.gb_provider.specs.Rules.{output_place}
use Rattle.gb_provider.specs.declared.expression.Expression.{Expression}
use Rattle.gb_provider.specs.declared.fault.Chosen.{Chosen}
use Rattle.gb_report.specs.declared.fault.Fault.{Fault}
use Rattle.gb_registry.specs.Projects.{Path, is_among}
use Rattle.gb_registry.specs.Said.{Registered, properties_of, tasks_of}
use Rattle.gb_registry.specs.Source.{Source}
use Rattle.gb_registry.specs.Tables.{Tables}
use Rattle.gb_declare.specs.Declaring.{block_scope}
use Rattle.gb_declare.specs.Joined as tasks
use Rattle.gb_declare.specs.Joined.{Joined, Named}
use Rattle.gb_declare.specs.Whole.{build_folder, spots, whole}
use Rattle.gb_declare.proofs.FoundLemmas.{HasNodesOf}
use Rattle.gb_declare.proofs.GrownLemmas.{right_on}
use Rattle.gb_declare.specs.Complete.{IsLaidOut}
use Rattle.gb_declare.specs.Grown.{IsRight}
use Rattle.gb_declare.specs.Site.{Site}
use Rattle.gb_declare.proofs.ScriptLemmas.{among_prefix}
use Rattle.gb_project.specs.Parts.{HavePatterns}
use Rattle.gb_project.specs.Kept.{AreKept, IsKept}
use Rattle.gb_project.specs.Stage.{DeclaredTask, Stage, with_declared}
use Rattle.gb_project.proofs.ClearLemmas.{patterns_clear}
use Rattle.gb_project.proofs.ListLemmas.{both_all}
use Rattle.gb_project.proofs.OnceLemmas.{Separate, among_itself, name_in, path_of}
use Rattle.gb_project.proofs.StageLemmas.{row_longer, row_stays, same_numbers, still_within}
use Rattle.gb_project.proofs.OneTaskLemmas.{Agree, HasOutputs, IsPlaced, chosen_of, grown, kept_more, kept_stays, made, no_fault, out, result_of, exists}

module _ {M F Z S A : Type 0} (tables : Tables M F Z S A) (source : Source) (old new : List (Expression M F Z))
    (stays : (chosen : Chosen) → IsPlaced tables source old chosen → IsPlaced tables source new chosen) where
  outputs_stay : (at : Registered) (os : List (Named tasks.Made)) → AllByRecursion (λ output. IsPlaced tables source old (chosen_of tables source at output)) os
      → AllByRecursion (λ output. IsPlaced tables source new (chosen_of tables source at output)) os
  outputs_stay at [] all = tt
  outputs_stay at (o ∷ os) all = (stays (chosen_of tables source at o) all.0, outputs_stay at os all.1)

  all_stay : (done : List Registered) → AllByRecursion (HasOutputs tables source old) done → AllByRecursion (HasOutputs tables source new) done
  all_stay [] all = tt
  all_stay (at ∷ done) all = (λ task is. outputs_stay at task.outputs (all.0 task is), all_stay done all.1)

abbrev pub task_in : Site × Registered → Registered
task_in p = p.1

module _ {M F Z S A : Type 0} (tables : Tables M F Z S A) (source : Source) where
  -- the state after some tasks
  pub record IsStage (done : List Registered) (number : ℕ → ℕ) (stage : Stage M F Z) : Type 0 where
    pub laid : IsLaidOut tables source number stage.nodes
    pub kept : AreKept tables source number stage.nodes done stage.faults stage.entries
    pub known : (chosen : Chosen) (j : ℕ) → output_place stage.nodes chosen ≡ Some j → is_among (map path_of done) chosen.task ≡ true
    pub placed : AllByRecursion (HasOutputs tables source stage.nodes) done

  pub record IsStepped (done : List Registered) (number : ℕ → ℕ) (old new : Stage M F Z) : Type 0 where
    pub numbers : ℕ → ℕ
    pub stage : IsStage done numbers new
    pub agrees : Agree tables source number numbers old.nodes
    pub longer : length old.nodes ≤ length new.nodes

  -- a task, and the site of its expressions
  pub record IsAt (number : ℕ → ℕ) (nodes : List (Expression M F Z)) (site : Site) (at : Registered) : Type 0 where
    pub right : IsRight tables source (spots tables source) (whole tables source) number nodes site
    pub here : site.project ≡ at.project
    pub knows : HasNodesOf site (properties_of source.said at.project)

  abbrev pub is_at : (ℕ → ℕ) → List (Expression M F Z) → Site × Registered → Type 0
  is_at number nodes p = IsAt number nodes p.0 p.1

  pub at_stays : (number numbers : ℕ → ℕ) (old new : List (Expression M F Z)) → Agree tables source number numbers old → length old ≤ length new → (ps : List (Site × Registered)) → AllByRecursion (is_at number old) ps → AllByRecursion (is_at numbers new) ps
  at_stays number numbers old new agree longer [] all = tt
  at_stays number numbers old new agree longer (p ∷ ps) all = (
    record { right = right_on tables source (spots tables source) (whole tables source) p.0 number numbers old new agree longer all.0.right; here = all.0.here; knows = all.0.knows },
    at_stays number numbers old new agree longer ps all.1,
  )

  abbrev pub next : Stage M F Z → Site × Registered → Stage M F Z
  next stage p = with_declared tables.functions p.0 p.1.path stage (result_of tables source p.1)

  module _ (separate : Separate path_of [] (tasks_of source.said)) (once : (other : Registered) (said : Joined) → result_of tables source other ≡ Ok said → Separate name_in [] said.outputs) where
    module _ (done back : List Registered) (at : Registered) (split : tasks_of source.said ≡ done ++ at ∷ back) (number : ℕ → ℕ) (stage : Stage M F Z) (site : Site)
        (is_stage : IsStage done number stage) (is_at : IsAt number stage.nodes site at) where
      among_done : (chosen : Chosen) → is_among (map path_of done) chosen.task ≡ true → is_among (map path_of (done ++ at ∷ [])) chosen.task ≡ true
      among_done chosen is = ap (λ paths. is_among paths chosen.task) (map-append path_of done (at ∷ [])) ∙ among_prefix (map path_of done) (at.path ∷ []) chosen.task is

      among_last : (path : Path) → path ≡ at.path → is_among (map path_of (done ++ at ∷ [])) path ≡ true
      among_last path same = ap (λ paths. is_among paths path) (map-append path_of done (at ∷ [])) ∙ ap (is_among (map path_of done ++ at.path ∷ [])) same ∙ among_itself (map path_of done) at.path

      -- a task at fault
      fault_step : (fault : Fault) → result_of tables source at ≡ Err fault → IsStepped (done ++ at ∷ []) number stage (with_declared tables.functions site at.path stage (Err fault))
      fault_step fault is = record {
        numbers = number;
        stage = record {
          laid = is_stage.laid;
          kept = kept_more tables source number stage.nodes done stage.faults stage.entries at (Some fault) None is_stage.kept is;
          known = λ chosen j found. among_done chosen (is_stage.known chosen j found);
          placed = both_all (HasOutputs tables source stage.nodes) done (at ∷ []) is_stage.placed ((λ task declared. (let clash : Err fault ≡ Ok task = sym is ∙ declared in absurd (cc))), tt);
        };
        agrees = λ i below. refl;
        longer = omega arith;
      }

      -- a task that is declared
      module _ (task : Joined) (is : result_of tables source at ≡ Ok task) where
        abbrev new : Stage M F Z
        new = with_declared tables.functions site at.path stage (Ok task)

        declared_step : IsStepped (done ++ at ∷ []) number stage new
        declared_step =
            let rows = grown tables source done back at task split is separate once number stage is_stage.laid site is_at.right is_at.here is_at.knows in
            let outs = out tables source done back at task split is separate once number stage is_stage.laid site is_at.right is_at.here is_at.knows (λ chosen j found. inl (is_stage.known chosen j found)) in
            let mid = made tables source done back at task split is separate once number stage is_stage.laid site is_at.right is_at.here is_at.knows in
            let row_le : length stage.nodes ≤ length mid.nodes = row_longer tables source number stage.nodes is_stage.laid _ mid rows in
            let out_le : length mid.nodes ≤ length new.nodes = outs.longer in
            let longer : length stage.nodes ≤ length new.nodes = omega (arith, row_le, out_le) in
            let agrees : Agree tables source number outs.numbers stage.nodes = λ i below. outs.agrees i (omega (arith, below, row_le)) ∙ rows.agrees i below in
            let fault = no_fault tables source done back at task split is separate once in
            let entry : DeclaredTask = record { build = site.build; task = task; row = mid.place } in
            let kept : IsKept tables source outs.numbers new.nodes at entry = record {
              is_declared = is;
              build = is_at.right.build ∙ ap build_folder is_at.here;
              within = still_within (length mid.nodes) (length new.nodes) out_le mid.place rows.within;
              numbers = same_numbers rows.numbers outs.numbers (length mid.nodes) outs.agrees mid.place rows.within
                  ∙ exists tables source done back at task split is separate once number stage is_stage.laid site is_at.right is_at.here is_at.knows;
              patterns = subst (λ (t : Joined). HavePatterns t.files) fault.1 (patterns_clear tables (block_scope source.names source.said at.project) at fault.0);
            } in
            let stays : (chosen : Chosen) → IsPlaced tables source stage.nodes chosen → IsPlaced tables source new.nodes chosen =
            λ chosen there. outs.stays chosen (there.0, row_stays tables source number stage.nodes is_stage.laid _ mid rows chosen there.0 there.1) in
            record {
              numbers = outs.numbers;
              stage = record {
                laid = outs.laid;
                kept = kept_more tables source outs.numbers new.nodes done stage.faults stage.entries at None (Some entry)
                    (kept_stays tables source number outs.numbers stage.nodes new.nodes agrees longer done stage.faults stage.entries is_stage.kept) kept;
                known = λ chosen j found. elim (outs.known chosen j found) [
                  | inl before ↦ among_done chosen before
                  | inr own ↦ among_last chosen.task own.0
                ];
                placed = both_all (HasOutputs tables source new.nodes) done (at ∷ []) (all_stay tables source stage.nodes new.nodes stays done is_stage.placed) (
                  λ other declared. (let same : Ok task ≡ Ok other = sym is ∙ declared in
                      let one : task ≡ other = cc in
                      subst (λ (t : Joined). AllByRecursion (λ output. IsPlaced tables source new.nodes (chosen_of tables source at output)) t.outputs) one outs.placed),
                  tt,
                );
              };
              agrees = agrees;
              longer = longer;
            }

      by_result : (r : Result Joined Fault) → result_of tables source at ≡ r → IsStepped (done ++ at ∷ []) number stage (with_declared tables.functions site at.path stage r)
      by_result (Err fault) is = fault_step fault is
      by_result (Ok task) is = declared_step task is

      pub one_step : IsStepped (done ++ at ∷ []) number stage (with_declared tables.functions site at.path stage (result_of tables source at))
      one_step = by_result (result_of tables source at) refl

    pub all_steps : (ps : List (Site × Registered)) (done : List Registered) (number : ℕ → ℕ) (stage : Stage M F Z) → tasks_of source.said ≡ done ++ map task_in ps → AllByRecursion (is_at number stage.nodes) ps
        → IsStage done number stage → IsStepped (tasks_of source.said) number stage (fold next stage ps)
    all_steps [] done number stage split ready is_stage = record {
      numbers = number;
      stage = subst (λ d. IsStage d number stage) (sym (split ∙ append-nil done)) is_stage;
      agrees = λ i below. refl;
      longer = omega arith;
    }
    all_steps (p ∷ ps) done number stage split ready is_stage =
        let one = one_step done (map task_in ps) p.1 split number stage p.0 is_stage ready.0 in
        let rest = all_steps ps (done ++ p.1 ∷ []) one.numbers (next stage p) (split ∙ sym (append_assoc done (p.1 ∷ []) (map task_in ps)))
        (at_stays number one.numbers stage.nodes (next stage p).nodes one.agrees one.longer ps ready.1) one.stage in
        let some = one.longer in
        let more = rest.longer in
        record {
          numbers = rest.numbers;
          stage = rest.stage;
          agrees = λ i below. rest.agrees i (omega (arith, below, some)) ∙ one.agrees i below;
          longer = omega (arith, some, more);
        }
