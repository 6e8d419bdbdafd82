-- One task more is declared.
use Rattle.std.proofs.Common.{◌≡◌, ℕ, ◌<◌, ◌≤◌, ◌⊎◌, inl, inr, true, false, List, [], ◌∷◌, ◌++◌, length, map, refl, sym, ap, subst, ◌∙◌, Option, Some, None, Result, Ok, Err, arith, append_assoc, length-append}
use Rattle.std.proofs.lemmas.List.{append-nil, map-append}
use Rattle.std.specs.Prelude.{slice_get}
use Rattle.std.specs.List.{AllByRecursion, flat_map}
use Rattle.gb_plan.proofs.Tests.{not_false}
use Rattle.gb_provider.specs.Rules.{is_output, output_place}
use Rattle.gb_provider.specs.declared.expression.Expression.{Expression}
use Rattle.gb_provider.specs.declared.fault.Chosen.{Chosen}
use Rattle.gb_report.specs.declared.fault.Fault.{Fault}
use Rattle.gb_registry.specs.Projects.{Path, is_among}
use Rattle.gb_registry.specs.Said.{Registered, properties_of, tasks_of}
use Rattle.gb_registry.specs.Source.{Source}
use Rattle.gb_registry.specs.Tables.{Tables}
use Rattle.gb_registry.specs.Wrong.{found_in_all, tree_faults}
use Rattle.gb_script.specs.Tree.{Tree, trees_of as trees_in}
use Rattle.gb_declare.proofs.ReadyLemmas.{no_faults}
use Rattle.gb_declare.proofs.ViewLemmas.{known_path}
use Rattle.gb_declare.specs.Declaring.{block_scope, declared, declaring_faults}
use Rattle.gb_declare.specs.Joined as tasks
use Rattle.gb_declare.specs.Joined.{Joined, Named, joined}
use Rattle.gb_declare.specs.Spots.{Spot, Made, parts}
use Rattle.gb_declare.specs.Whole.{number_of, output_spots, spots, trees_of, whole}
use Rattle.gb_declare.proofs.FoundLemmas.{HasNodesOf}
use Rattle.gb_declare.proofs.GrownLemmas.{rows_grow_so}
use Rattle.gb_declare.proofs.PlacedLemmas.{IsAmong, parts_in_table}
use Rattle.gb_declare.specs.Complete.{IsLaidOut, place_in_whole}
use Rattle.gb_declare.specs.Grown.{IsRight, IsRowGrown, IsInTable}
use Rattle.gb_declare.specs.Nodes.{Made as These}
use Rattle.gb_declare.specs.Site.{Site}
use Rattle.gb_declare.specs.Wrong.{link_faults, root_faults}
use Rattle.gb_declare.proofs.ScriptLemmas.{among_prefix}
use Rattle.gb_project.specs.Kept.{AreKept, IsKept, IsKeptAs}
use Rattle.gb_project.specs.Stage.{DeclaredTask, Stage, output_of, output_row, put_output, row_made, with_outputs}
use Rattle.gb_project.proofs.ClearLemmas.{expressions_clear, row_good}
use Rattle.gb_project.proofs.ListLemmas.{back_all, both_all, prefix_all}
use Rattle.gb_project.proofs.OnceLemmas.{Separate, among_itself, separate_at, name_in, path_of}
use Rattle.gb_project.proofs.PlacedLemmas.{output_placed, output_there, task_among}
use Rattle.gb_project.proofs.PlaceLemmas.{alone, output_itself, output_same, place_either, place_some, place_stays}
use Rattle.gb_project.proofs.StageLemmas.{dropped_within, numbers_more, output_agrees, output_laid, output_numbers, row_known, row_laid, same_numbers, still_within, taken_within}

-- the spots of expressions, and of what is made after them
module _ {M F Z S A : Type 0} (tables : Tables M F Z S A) (source : Source) where
  all_exist : (project : Path) (row : List Tree) → AllByRecursion (IsAmong (spots tables source)) (flat_map (parts project) row)
      → AllByRecursion (IsInTable tables source (spots tables source) (whole tables source)) (flat_map (parts project) row)
  all_exist project [] among = tt
  all_exist project (tree ∷ row) among =
      both_all (IsInTable tables source (spots tables source) (whole tables source)) (parts project tree) (flat_map (parts project) row)
      (parts_in_table tables source (spots tables source) project tree (prefix_all (IsAmong (spots tables source)) (parts project tree) (flat_map (parts project) row) among))
      (all_exist project row (back_all (IsAmong (spots tables source)) (parts project tree) (flat_map (parts project) row) among))

module _ {M F Z S A : Type 0} (tables : Tables M F Z S A) (source : Source) where
  abbrev table : List (Expression M F Z)
  table = whole tables source

  abbrev pub result_of : Registered → Result Joined Fault
  result_of at = declared tables source.names source.said at

  abbrev IsLaid : (ℕ → ℕ) → List (Expression M F Z) → Type 0
  IsLaid number nodes = IsLaidOut tables source number nodes

  abbrev pub IsPlaced : List (Expression M F Z) → Chosen → Type 0
  IsPlaced nodes chosen = (j : ℕ) × (output_place nodes chosen ≡ Some j)

  abbrev pub chosen_of : Registered → Named tasks.Made → Chosen
  chosen_of at output = record { task = at.path; output = output.0 }

  abbrev pub HasOutputs : List (Expression M F Z) → Registered → Type 0
  HasOutputs nodes at = (task : Joined) → result_of at ≡ Ok task → AllByRecursion (λ output. IsPlaced nodes (chosen_of at output)) task.outputs

  -- ---- What is kept is unchanged

  abbrev pub Agree : (ℕ → ℕ) → (ℕ → ℕ) → List (Expression M F Z) → Type 0
  Agree number numbers nodes = (i : ℕ) → i < length nodes → numbers i ≡ number i

  module _ (number numbers : ℕ → ℕ) (old new : List (Expression M F Z)) (agree : Agree number numbers old) (longer : length old ≤ length new) where
    entry_stays : (at : Registered) (entry : DeclaredTask) → IsKept tables source number old at entry → IsKept tables source numbers new at entry
    entry_stays at entry kept = record {
      is_declared = kept.is_declared;
      build = kept.build;
      within = still_within (length old) (length new) longer entry.row kept.within;
      numbers = same_numbers number numbers (length old) agree entry.row kept.within ∙ kept.numbers;
      patterns = kept.patterns;
    }

    kept_as_stays : (at : Registered) (fault : Option Fault) (entry : Option DeclaredTask) → IsKeptAs tables source number old at fault entry → IsKeptAs tables source numbers new at fault entry
    kept_as_stays at None (Some entry) kept = entry_stays at entry kept
    kept_as_stays at None None kept = kept
    kept_as_stays at (Some fault) (Some entry) kept = kept
    kept_as_stays at (Some fault) None kept = kept

    pub kept_stays : (done : List Registered) (faults : List (Option Fault)) (entries : List (Option DeclaredTask)) → AreKept tables source number old done faults entries → AreKept tables source numbers new done faults entries
    kept_stays [] [] [] kept = tt
    kept_stays [] [] (e ∷ es) kept = kept
    kept_stays [] (f ∷ fs) es kept = kept
    kept_stays (at ∷ done) [] es kept = kept
    kept_stays (at ∷ done) (f ∷ fs) [] kept = kept
    kept_stays (at ∷ done) (f ∷ fs) (e ∷ es) kept = (kept_as_stays at f e kept.0, kept_stays done fs es kept.1)

  pub kept_more : (number : ℕ → ℕ) (nodes : List (Expression M F Z)) (done : List Registered) (faults : List (Option Fault)) (entries : List (Option DeclaredTask)) (at : Registered) (fault : Option Fault) (entry : Option DeclaredTask)
      → AreKept tables source number nodes done faults entries → IsKeptAs tables source number nodes at fault entry → AreKept tables source number nodes (done ++ at ∷ []) (faults ++ fault ∷ []) (entries ++ entry ∷ [])
  kept_more number nodes [] [] [] at fault entry kept more = (more, tt)
  kept_more number nodes [] [] (e ∷ es) at fault entry kept more = absurd kept
  kept_more number nodes [] (f ∷ fs) es at fault entry kept more = absurd kept
  kept_more number nodes (a ∷ done) [] es at fault entry kept more = absurd kept
  kept_more number nodes (a ∷ done) (f ∷ fs) [] at fault entry kept more = absurd kept
  kept_more number nodes (a ∷ done) (f ∷ fs) (e ∷ es) at fault entry kept more = (kept.0, kept_more number nodes done fs es at fault entry kept.1 more)

  -- ---- The outputs of a task

  module _ (done back : List Registered) (at : Registered) (task : Joined) (split : tasks_of source.said ≡ done ++ at ∷ back) (is : result_of at ≡ Ok task)
      (separate : Separate path_of [] (tasks_of source.said)) (once : (other : Registered) (said : Joined) → result_of other ≡ Ok said → Separate name_in [] said.outputs) where
    abbrev known_paths : List Path
    known_paths = map path_of done

    -- outputs are those of tasks before, or earlier ones of the task
    abbrev AreKnown : List (Expression M F Z) → List (Named tasks.Made) → Type 0
    AreKnown nodes prefix =
        (chosen : Chosen) (j : ℕ) → output_place nodes chosen ≡ Some j
        → (is_among known_paths chosen.task ≡ true) ⊎ ((chosen.task ≡ at.path) × (is_among (map name_in prefix) chosen.output ≡ true))

    pub record AreOut (number : ℕ → ℕ) (nodes : List (Expression M F Z)) (prefix : List (Named tasks.Made)) (new : List (Expression M F Z)) : Type 0 where
      pub numbers : ℕ → ℕ
      pub laid : IsLaid numbers new
      pub agrees : Agree number numbers nodes
      pub longer : length nodes ≤ length new
      pub stays : (chosen : Chosen) → IsPlaced nodes chosen → IsPlaced new chosen
      pub known : AreKnown new prefix
      pub placed : AllByRecursion (λ output. IsPlaced new (chosen_of at output)) prefix

    new_path : is_among known_paths at.path ≡ false
    new_path = separate_at path_of [] done at back (subst (Separate path_of []) split separate)

    at_spots : AllByRecursion (IsAmong (spots tables source)) (flat_map (parts at.project) (trees_of task) ++ output_spots at task)
    at_spots =
        subst (λ r. AllByRecursion (IsAmong (spots tables source)) (of r)) is (task_among tables source done back at split)
      where
        of : Result Joined Fault → List Spot
        of (Ok said) = flat_map (parts at.project) (trees_of said) ++ output_spots at said
        of (Err fault) = []

    output_spot : (output : Named tasks.Made) → Spot
    output_spot output = Made at.project at.path output.0 output.1.1

    outputs_among : AllByRecursion (IsAmong (spots tables source)) (output_spots at task)
    outputs_among = back_all (IsAmong (spots tables source)) (flat_map (parts at.project) (trees_of task)) (output_spots at task) at_spots

    spot_among : (prefix others : List (Named tasks.Made)) (output : Named tasks.Made) → task.outputs ≡ prefix ++ output ∷ others → IsAmong (spots tables source) (Made at.project at.path output.0 output.1.1)
    spot_among prefix others output outputs_are =
        let made : Named tasks.Made → Spot = λ o. Made at.project at.path o.0 o.1.1 in
        let rows : output_spots at task ≡ map made prefix ++ made output ∷ map made others = ap (map made) outputs_are ∙ map-append made prefix (output ∷ others) in
        let all = subst (AllByRecursion (IsAmong (spots tables source))) rows outputs_among in
        (back_all (IsAmong (spots tables source)) (map made prefix) (made output ∷ map made others) all).0

    -- an output that is not present yet
    module _ (number : ℕ → ℕ) (nodes : List (Expression M F Z)) (prefix others : List (Named tasks.Made)) (output : Named tasks.Made) (outputs_are : task.outputs ≡ prefix ++ output ∷ others)
        (laid : IsLaid number nodes) (known : AreKnown nodes prefix) (placed : AllByRecursion (λ o. IsPlaced nodes (chosen_of at o)) prefix)
        (place : ℕ) (below : place < length nodes) (for_it : number place ≡ place_in_whole tables source at.project output.1.1) where
      abbrev it : Chosen
      it = chosen_of at output

      is_new : output_place nodes it ≡ None
      is_new =
          elim (output_place nodes it) as (λ o. output_place nodes it ≡ o → o ≡ None) [
            | None ↦ λ _. refl
            | Some j ↦ λ found.
                elim (known it j found) [
                  | inl before ↦ absurd (not_false (sym before ∙ new_path))
                  | inr own ↦ absurd (not_false (sym own.1 ∙ separate_at name_in [] prefix output others (subst (Separate name_in []) outputs_are (once at task is))))
                ]
          ] refl

      abbrev spot : Spot
      spot = Made at.project at.path output.0 output.1.1

      among : IsAmong (spots tables source) spot
      among = spot_among prefix others output outputs_are

      abbrev target : ℕ
      target = number_of tables source (spots tables source) spot

      abbrev more : List (Expression M F Z)
      more = nodes ++ output_of it place ∷ []

      abbrev one_numbers : ℕ → ℕ
      one_numbers = numbers_more tables source number nodes laid it place target (place_in_whole tables source at.project output.1.1) is_new below
          (output_placed tables source separate once at.project at.path output.0 output.1.1 among.0 among.1)
          (output_there tables source separate once at.project at.path output.0 output.1.1 among.0 among.1) for_it

      one_laid : IsLaid one_numbers more
      one_laid = output_laid tables source number nodes laid it place target (place_in_whole tables source at.project output.1.1) is_new below
          (output_placed tables source separate once at.project at.path output.0 output.1.1 among.0 among.1)
          (output_there tables source separate once at.project at.path output.0 output.1.1 among.0 among.1) for_it

      one_agrees : Agree number one_numbers nodes
      one_agrees = output_agrees tables source number nodes laid it place target (place_in_whole tables source at.project output.1.1) is_new below
          (output_placed tables source separate once at.project at.path output.0 output.1.1 among.0 among.1)
          (output_there tables source separate once at.project at.path output.0 output.1.1 among.0 among.1) for_it

      one_longer : length nodes ≤ length more
      one_longer = omega (arith, length-append nodes (output_of it place ∷ []))

      one_stays : (chosen : Chosen) → IsPlaced nodes chosen → IsPlaced more chosen
      one_stays chosen there = (there.0, place_stays (is_output chosen) nodes (output_of it place ∷ []) there.0 there.1)

      one_there : IsPlaced more it
      one_there = place_some (is_output it) more (length nodes) (output_of it place) (last nodes) (output_itself M F Z it place)
        where
          last : (ns : List (Expression M F Z)) → slice_get (ns ++ output_of it place ∷ []) (length ns) ≡ Some (output_of it place)
          last [] = refl
          last (n ∷ ns) = last ns

      one_known : AreKnown more (prefix ++ output ∷ [])
      one_known chosen j found =
          elim (place_either (is_output chosen) nodes (output_of it place ∷ []) j found) [
            | inl before ↦ elim (known chosen j before) [
              | inl of_others ↦ inl of_others
              | inr own ↦ inr (own.0, ap (λ names. is_among names chosen.output) (map-append name_in prefix (output ∷ [])) ∙ among_prefix (map name_in prefix) (output.0 ∷ []) chosen.output own.1)
            ]
            | inr following ↦
                let same : it ≡ chosen = output_same M F Z it chosen place (ap (is_output chosen) (alone (output_of it place) following.1 following.0 following.2) ∙ following.3) in
                inr (
                  sym (ap (λ (c : Chosen). c.task) same),
                  ap (λ names. is_among names chosen.output) (map-append name_in prefix (output ∷ [])) ∙ ap (is_among (map name_in prefix ++ output.0 ∷ [])) (sym (ap (λ (c : Chosen). c.output) same)) ∙ among_itself (map name_in prefix) output.0,
                )
          ]

      one_placed : AllByRecursion (λ o. IsPlaced more (chosen_of at o)) (prefix ++ output ∷ [])
      one_placed = both_all (λ o. IsPlaced more (chosen_of at o)) prefix (output ∷ []) (still prefix placed) (one_there, tt)
        where
          still : (os : List (Named tasks.Made)) → AllByRecursion (λ o. IsPlaced nodes (chosen_of at o)) os → AllByRecursion (λ o. IsPlaced more (chosen_of at o)) os
          still [] all = tt
          still (o ∷ os) all = (one_stays (chosen_of at o) all.0, still os all.1)

    abbrev trees_out : List (Named tasks.Made) → List Tree
    trees_out outputs = map (λ (output : Named tasks.Made). output.1.1) outputs

    outputs_out : (number : ℕ → ℕ) (nodes : List (Expression M F Z)) (prefix others : List (Named tasks.Made)) (row : List ℕ) → task.outputs ≡ prefix ++ others → IsLaid number nodes → AreKnown nodes prefix
        → AllByRecursion (λ o. IsPlaced nodes (chosen_of at o)) prefix → AllByRecursion (λ i. i < length nodes) row → map number row ≡ map (place_in_whole tables source at.project) (trees_out others)
        → AreOut number nodes task.outputs (with_outputs at.path nodes others row)
    outputs_out number nodes prefix [] row outputs_are laid known placed within are =
        let all : prefix ≡ task.outputs = sym (outputs_are ∙ append-nil prefix) in
        record {
          numbers = number;
          laid = laid;
          agrees = λ i below. refl;
          longer = omega arith;
          stays = λ chosen there. there;
          known = subst (AreKnown nodes) all known;
          placed = subst (AllByRecursion (λ o. IsPlaced nodes (chosen_of at o))) all placed;
        }
    outputs_out number nodes prefix (output ∷ others) [] outputs_are laid known placed within are = absurd (cc)
    outputs_out number nodes prefix (output ∷ others) (place ∷ row) outputs_are laid known placed within are =
        let for_it : number place ≡ place_in_whole tables source at.project output.1.1 = cc in
        let rest_are : map number row ≡ map (place_in_whole tables source at.project) (trees_out others) = cc in
        let one = more number nodes prefix others output outputs_are laid known placed place within.0 for_it in
        let numbers = one_numbers number nodes prefix others output outputs_are laid known placed place within.0 for_it in
        let agrees = one_agrees number nodes prefix others output outputs_are laid known placed place within.0 for_it in
        let longer = one_longer number nodes prefix others output outputs_are laid known placed place within.0 for_it in
        let rest =
        outputs_out numbers one (prefix ++ output ∷ []) others row (outputs_are ∙ sym (append_assoc prefix (output ∷ []) others))
        (one_laid number nodes prefix others output outputs_are laid known placed place within.0 for_it) (one_known number nodes prefix others output outputs_are laid known placed place within.0 for_it)
        (one_placed number nodes prefix others output outputs_are laid known placed place within.0 for_it) (still_within (length nodes) (length one) longer row within.1)
        (same_numbers number numbers (length nodes) agrees row within.1 ∙ rest_are) in
        let most = rest.longer in
        let out : AreOut number nodes task.outputs (with_outputs at.path one others row) = record {
          numbers = rest.numbers;
          laid = rest.laid;
          agrees = λ i below. rest.agrees i (omega (arith, below, longer)) ∙ agrees i below;
          longer = omega (arith, longer, most);
          stays = λ chosen there. rest.stays chosen (one_stays number nodes prefix others output outputs_are laid known placed place within.0 for_it chosen there);
          known = rest.known;
          placed = rest.placed;
        } in
        subst (λ o. AreOut number nodes task.outputs (with_outputs at.path (put_output nodes (output_of (chosen_of at output) place) o) others row))
        (sym (is_new number nodes prefix others output outputs_are laid known placed place within.0 for_it)) out

    -- ---- The task

    abbrev places_of : Path → List ℕ
    places_of project = map (place_in_whole tables source project) (trees_of task)

    pub no_fault : (declaring_faults tables source.names source.said at ≡ []) × (joined at ≡ task)
    no_fault = no_faults (declaring_faults tables source.names source.said at) (joined at) task is

    module _ (number : ℕ → ℕ) (stage : Stage M F Z) (laid : IsLaid number stage.nodes) (site : Site) (right : IsRight tables source (spots tables source) table number stage.nodes site)
        (here : site.project ≡ at.project) (knows : HasNodesOf site (properties_of source.said at.project)) where
      good : found_in_all (root_faults site) (link_faults tables.means tables.functions) (trees_in (trees_of task)) ≡ []
      good =
          let scope = block_scope source.names source.said at.project in
          row_good tables scope site here (known_path (Some source.names) at.project) knows (trees_of task)
          (subst (λ (t : Joined). AllByRecursion (λ tree. tree_faults tables scope tree ≡ []) (trees_of t)) no_fault.1 (expressions_clear tables scope at no_fault.0))

      abbrev pub made : These M F Z (List ℕ)
      made = row_made tables.functions site stage.nodes task

      pub grown : IsRowGrown table number stage.nodes (places_of site.project) made
      grown =
          rows_grow_so tables source (spots tables source) table number stage.nodes site (trees_of task) laid.part right
          (all_exist tables source site.project (trees_of task)
          (subst (λ p. AllByRecursion (IsAmong (spots tables source)) (flat_map (parts p) (trees_of task))) (sym here)
          (prefix_all (IsAmong (spots tables source)) (flat_map (parts at.project) (trees_of task)) (output_spots at task) at_spots)))
          good

      pub exists : map grown.numbers made.place ≡ places_of at.project
      exists = grown.exists ∙ ap places_of here

      abbrev pub final : List (Expression M F Z)
      final = with_outputs at.path made.nodes task.outputs (output_row task made.place)

      pub out : AreKnown stage.nodes [] → AreOut grown.numbers made.nodes task.outputs final
      out known =
          outputs_out grown.numbers made.nodes [] task.outputs (output_row task made.place) refl (row_laid tables source number stage.nodes laid (places_of site.project) made grown)
          (λ chosen j is_there. known chosen j (row_known tables source number stage.nodes laid (places_of site.project) made grown chosen j is_there)) tt
          (taken_within (λ i. i < length made.nodes) (length task.outputs) _ (dropped_within (λ i. i < length made.nodes) _ made.place grown.within))
          (output_numbers grown.numbers (place_in_whole tables source at.project) task made.place exists)
