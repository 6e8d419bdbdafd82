-- A task evaluated part by part.
use Rattle.std.specs.Prelude.{ℕ, ◌≡◌, Bool, not, ◌&&◌, List, [], ◌∷◌, ◌++◌, map, refl, Result, Ok, Err}
use Rattle.std.specs.List.{flat_map, list_all}
use Rattle.std.proofs.Common.{sym, ap, ◌∙◌}
use Rattle.std.proofs.lemmas.List.{map-append}
use Rattle.gb_core.specs.Tasks.{with_tasks}
use Rattle.gb_core.specs.declared.value.Value.{Value}
use Rattle.gb_plan.specs.declared.task.Action.{Action}
use Rattle.gb_plan.specs.declared.task.FileProperty.{FileProperty}
use Rattle.gb_plan.specs.declared.task.Output.{Output}
use Rattle.gb_plan.specs.declared.task.TaskDeclaration.{TaskDeclaration}
use Rattle.gb_provider.specs.declared.expression.Node.{Node}
use Rattle.gb_registry.specs.Projects.{Path}
use Rattle.gb_registry.specs.Said.{Registered}
use Rattle.gb_registry.specs.Source.{Source}
use Rattle.gb_registry.specs.Tables.{Tables}
use Rattle.gb_script.specs.Tree.{Tree}
use Rattle.gb_declare.specs.Joined.{Joined, Named}
use Rattle.gb_declare.specs.Realised.{Trouble, action_of, and_then, declared_with, each_of, evaluated, files_under, needs_of, output_under, passes, value_under}
use Rattle.gb_declare.specs.Whole.{spots, whole}
use Rattle.gb_declare.specs.Complete.{place_in_whole}
use Rattle.gb_project.specs.Given.{producers_at}
use Rattle.gb_project.specs.Evaluated.{contents_of, declaration_of, enabled_of, flags_of}
use Rattle.gb_project.specs.Parts.{AreAllFor}
use Rattle.gb_project.specs.Rows.{numbers_in}
use Rattle.gb_project.specs.declared.parts.Contents.{Contents}
use Rattle.gb_project.specs.declared.parts.Flags.{Flags}
use Rattle.gb_project.specs.declared.parts.Parts.{Parts}

-- ---- One part after another

module _ (path : Path) (task : Joined) (needs : List Path) where
  abbrev all_at_once : Result Bool Trouble → Result (List Bool) Trouble → Result (List Bool) Trouble → Result (List (Named Value)) Trouble → Result (List FileProperty) Trouble → Result (List Output) Trouble → Result (List Action) Trouble
      → Result TaskDeclaration Trouble
  all_at_once e p u v f o a =
      and_then e (λ enabled. and_then p (λ passed. and_then u (λ fresh. and_then v (λ values. and_then f (λ files. and_then o (λ outputs. and_then a (λ actions. Ok (declared_with path task needs enabled passed fresh values files outputs actions))))))))

  abbrev by_parts : Result Bool Trouble → Result (List Bool) Trouble → Result (List Bool) Trouble → Result (List (Named Value)) Trouble → Result (List FileProperty) Trouble → Result (List Output) Trouble → Result (List Action) Trouble
      → Result TaskDeclaration Trouble
  by_parts e p u v f o a =
      let flags : Result Flags Trouble =
      and_then e (λ enabled. and_then (and_then p (λ truths. Ok (list_all (λ truth. truth) truths))) (λ passed. and_then (and_then u (λ truths. Ok (list_all (λ truth. truth) truths))) (λ fresh. Ok (record {
        runs = enabled && passed;
        is_stale = not fresh;
      })))) in
      let contents : Result Contents Trouble = and_then v (λ values. and_then f (λ files. and_then o (λ outputs. and_then a (λ actions. Ok (record {
        values = values;
        files = files;
        outputs = outputs;
        actions = actions;
      }))))) in
      and_then flags (λ flags. and_then contents (λ contents. Ok (declaration_of path task flags contents needs)))

  same : (e : Result Bool Trouble) (p u : Result (List Bool) Trouble) (v : Result (List (Named Value)) Trouble) (f : Result (List FileProperty) Trouble) (o : Result (List Output) Trouble) (a : Result (List Action) Trouble)
      → all_at_once e p u v f o a ≡ by_parts e p u v f o a
  same (Err t) p u v f o a = refl
  same (Ok e) (Err t) u v f o a = refl
  same (Ok e) (Ok p) (Err t) v f o a = refl
  same (Ok e) (Ok p) (Ok u) (Err t) f o a = refl
  same (Ok e) (Ok p) (Ok u) (Ok v) (Err t) o a = refl
  same (Ok e) (Ok p) (Ok u) (Ok v) (Ok f) (Err t) a = refl
  same (Ok e) (Ok p) (Ok u) (Ok v) (Ok f) (Ok o) (Err t) = refl
  same (Ok e) (Ok p) (Ok u) (Ok v) (Ok f) (Ok o) (Ok a) = refl

module _ {M F Z S A : Type 0} (tables : Tables M F Z S A) (source : Source) (at : Registered) (task : Joined) where
  -- what a task needs
  abbrev pub needed : List Path
  needed = needs_of tables source at (spots tables source) (whole tables source) task

  pub in_parts : evaluated tables source at (spots tables source) (whole tables source) task
      ≡ and_then (flags_of tables source at task) (λ flags. and_then (contents_of tables source at task) (λ contents. Ok (declaration_of at.path task flags contents needed)))
  in_parts =
      let all = spots tables source in
      let table = whole tables source in
      same at.path task needed (enabled_of tables source at task.enabled) (each_of (passes tables source at all table) task.only_if) (each_of (passes tables source at all table) task.up_to_date_when)
      (each_of (value_under tables source at all table) task.values) (each_of (files_under tables source at all table) task.files) (each_of (output_under tables source at all table) task.outputs)
      (each_of (action_of tables source at all table) task.actions)

-- ---- Needs

of_mapped : {X : Type 0} (f : ℕ → List Path) (h : X → ℕ) (xs : List X) → flat_map f (map h xs) ≡ flat_map (λ x. f (h x)) xs
of_mapped f h [] = refl
of_mapped f h (x ∷ xs) = ap (λ l. f (h x) ++ l) (of_mapped f h xs)

pub needs_there : {M F Z S A : Type 0} (tables : Tables M F Z S A) (source : Source) (number : ℕ → ℕ) (at : Registered) (task : Joined) (parts : Parts) → AreAllFor tables source number at.project task parts
    → with_tasks task.depends_on (flat_map (producers_at tables source) (numbers_in number (parts.values.now ++ parts.roots.now ++ parts.arguments.now))) ≡ needed tables source at task
needs_there tables source number at task parts are =
    let place = place_in_whole tables source at.project in
    let v = parts.values.now in
    let r = parts.roots.now in
    let a = parts.arguments.now in
    let V = map (λ (value : Named Tree). value.1) task.values in
    let R = flat_map (λ files. files.1.from) task.files in
    let A = flat_map (λ call. call.arguments) task.actions in
    let of = λ (node : Node). number node.number in
    let numbers : numbers_in number (v ++ r ++ a) ≡ map place (V ++ R ++ A) =
    map-append of (v ++ r) a ∙ ap (λ l. l ++ map of a) (map-append of v r) ∙ ap (λ l. l ++ map of r ++ map of a) are.values ∙ ap (λ l. map place V ++ l ++ map of a) are.roots ∙ ap (λ l. map place V ++ map place R ++ l) are.arguments
    ∙ ap (λ l. l ++ map place A) (sym (map-append place V R)) ∙ sym (map-append place (V ++ R) A) in
    ap (λ ns. with_tasks task.depends_on (flat_map (producers_at tables source) ns)) numbers
    ∙ ap (with_tasks task.depends_on) (of_mapped (producers_at tables source) place (V ++ R ++ A))
