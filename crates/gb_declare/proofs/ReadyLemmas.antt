-- A task that is realised is ready.
use Rattle.std.proofs.Common.{◌≡◌, ℕ, Bool, true, false, not, ◌&&◌, List, [], ◌∷◌, ◌++◌, refl, sym, ap, subst, ◌∙◌}
use Rattle.std.specs.Prelude.{Option, Some, None, Result, Ok, Err, map, if◌then◌else◌}
use Rattle.std.specs.List.{AllZip, AllByRecursion, list_any}
use Rattle.std.specs.FinMap.Entries.{find}
use Rattle.gb_core.specs.Place.{is_beneath}
use Rattle.gb_core.specs.declared.value.Value.{Value}
use Rattle.gb_core.specs.Lists.{byte_order}
use Rattle.gb_core.proofs.Booleans.{left_false, right_false}
use Rattle.gb_action.specs.Meanings.{shape_of}
use Rattle.gb_action.specs.Shapes.{args_fit, fit, has_source, has_output}
use Rattle.gb_action.specs.declared.output_files.Form.{Form}
use Rattle.gb_action.specs.declared.shape.Fit.TheVariants as fits
use Rattle.gb_script.specs.declared.script.Call.{Call}
use Rattle.gb_script.specs.declared.script.InputFiles.{InputFiles}
use Rattle.gb_provider.specs.declared.expression.Expression.{Expression}
use Rattle.gb_report.specs.declared.fault.Fault.{Fault}
use Rattle.gb_plan.specs.declared.task.Action.{Action}
use Rattle.gb_plan.specs.declared.task.FileProperty.{FileProperty}
use Rattle.gb_plan.specs.declared.task.Output.{Output}
use Rattle.gb_plan.specs.declared.task.TaskDeclaration.{TaskDeclaration}
use Rattle.gb_declare.specs.Declaring.{declared, declaring_faults, is_misfit, is_misshapen, lacks_actions, shape_faults, unless}
use Rattle.gb_declare.specs.Joined.{Joined, Named, Made, joined}
use Rattle.gb_registry.specs.Projects.{Path}
use Rattle.gb_folder.specs.Files.{is_empty}
use Rattle.gb_plan.specs.Ready.{IsReadyAction}
use Rattle.gb_plan.specs.Task.{given_files, given_outputs}
use Rattle.gb_declare.specs.Ready.{IsSound, RealisedIsSound}
use Rattle.gb_declare.specs.Realised.{and_then, each_of, realised_if, realised_at, evaluated, is_enabled, passes, value_under, files_under, output_under, action_of, fitting, place_of, required}
use Rattle.gb_registry.specs.Said.{Registered, task_at}
use Rattle.gb_registry.specs.Source.{Source}
use Rattle.gb_declare.specs.Spots.{Spot}
use Rattle.gb_registry.specs.Tables.{Tables}
use Rattle.gb_declare.specs.Whole.{build_folder, spots, table_of}

pub both_ok : {X Y E : Type 0} (r : Result X E) (next : X → Result Y E) (y : Y) → and_then r next ≡ Ok y → (x : X) × (r ≡ Ok x) × (next x ≡ Ok y)
both_ok (Ok x) next y e = (x, refl, e)
both_ok (Err f) next y e = cc

abbrev pub okay : {Y : Type 0} (E : Type 0) → Y → Result Y E
okay E y = Ok y

pub same_ok : {Y E : Type 0} (a b : Y) → okay E a ≡ okay E b → a ≡ b
same_ok a b e = cc

same_head : {Y : Type 0} (a b : Y) (cs ds : List Y) → a ∷ cs ≡ b ∷ ds → a ≡ b
same_head a b cs ds e = cc

same_tail : {Y : Type 0} (a b : Y) (cs ds : List Y) → a ∷ cs ≡ b ∷ ds → cs ≡ ds
same_tail a b cs ds e = cc

module _ {X Y E : Type 0} where
  -- each of them has a result
  pub each_ok : (f : X → Result Y E) (xs : List X) (ys : List Y) → each_of f xs ≡ Ok ys → AllZip (λ x y. f x ≡ Ok y) xs ys
  each_ok f [] [] e = tt
  each_ok f [] (y ∷ ys) e = cc
  each_ok f (x ∷ xs) [] e =
      let first = both_ok (f x) (λ y. and_then (each_of f xs) (λ zs. Ok (y ∷ zs))) [] e in
      let second = both_ok (each_of f xs) (λ zs. Ok (first.0 ∷ zs)) [] first.2 in
      let clash = second.2 in cc
  each_ok f (x ∷ xs) (y ∷ ys) e =
      let first = both_ok (f x) (λ z. and_then (each_of f xs) (λ zs. Ok (z ∷ zs))) (y ∷ ys) e in
      let second = both_ok (each_of f xs) (λ zs. Ok (first.0 ∷ zs)) (y ∷ ys) first.2 in
      let same = same_ok (first.0 ∷ second.0) (y ∷ ys) second.2 in
      (first.1 ∙ ap Ok (same_head first.0 y second.0 ys same), each_ok f xs ys (second.1 ∙ ap Ok (same_tail first.0 y second.0 ys same)))

  -- the views of them are the same
  pub observed_same : {V : Type 0} (f : X → Result Y E) (a : X → V) (b : Y → V) → ((x : X) (y : Y) → f x ≡ Ok y → b y ≡ a x) → (xs : List X) (ys : List Y) → AllZip (λ x y. f x ≡ Ok y) xs ys → map b ys ≡ map a xs
  observed_same f a b same [] [] all = refl
  observed_same f a b same [] (y ∷ ys) all = absurd all
  observed_same f a b same (x ∷ xs) [] all = absurd all
  observed_same f a b same (x ∷ xs) (y ∷ ys) all = ap (λ v. v ∷ map b ys) (same x y all.0) ∙ ap (λ vs. a x ∷ vs) (observed_same f a b same xs ys all.1)

  each_has : (f : X → Result Y E) (P : Y → Type 0) → ((x : X) (y : Y) → f x ≡ Ok y → P y) → (xs : List X) (ys : List Y) → AllZip (λ x y. f x ≡ Ok y) xs ys → AllByRecursion P ys
  each_has f P has [] [] all = tt
  each_has f P has [] (y ∷ ys) all = absurd all
  each_has f P has (x ∷ xs) [] all = absurd all
  each_has f P has (x ∷ xs) (y ∷ ys) all = (has x y all.0, each_has f P has xs ys all.1)

-- no fault in all, so none in the second list
none_after : {X : Type 0} (xs ys : List X) → xs ++ ys ≡ [] → ys ≡ []
none_after [] ys e = e
none_after (x ∷ xs) ys e = cc

pub no_faults : {X : Type 0} (faults : List Fault) (x y : X) → unless faults x ≡ Ok y → (faults ≡ []) × (x ≡ y)
no_faults [] x y e = (refl, same_ok x y e)
no_faults (fault ∷ faults) x y e = cc

none_of : (b : Bool) (path : Path) (fault : Fault) → (if b then fault ∷ [] else []) ≡ [] → b ≡ false
none_of true path fault e = cc
none_of false path fault e = refl

not_false : (b : Bool) → not b ≡ false → b ≡ true
not_false true e = refl
not_false false e = cc

-- none passes a test
each_fails : {X Y : Type 0} (test : X → Bool) (R : X → Y → Type 0) (P : Y → Type 0) → ((x : X) (y : Y) → test x ≡ false → R x y → P y) → (xs : List X) (ys : List Y) → list_any test xs ≡ false → AllZip R xs ys → AllByRecursion P ys
each_fails test R P has [] [] none all = tt
each_fails test R P has [] (y ∷ ys) none all = absurd all
each_fails test R P has (x ∷ xs) [] none all = absurd all
each_fails test R P has (x ∷ xs) (y ∷ ys) none all =
    (has x y (left_false (test x) (list_any test xs) none) all.0, each_fails test R P has xs ys (right_false (test x) (list_any test xs) none) all.1)

-- where only one branch is right
taken : {Y E : Type 0} (b : Bool) (x y : Y) (fault : E) → (if b then Ok x else Err fault) ≡ Ok y → (x ≡ y) × (b ≡ true)
taken true x y fault e = (same_ok x y e, refl)
taken false x y fault e = cc

both_yes : (a b : Bool) → a ≡ true → b ≡ true → (if a then (if b then fits.Yes else fits.BadArgument) else fits.BadShape) ≡ fits.Yes
both_yes true true p q = refl
both_yes true false p q = cc
both_yes false b p q = cc

shaped_if : {X Y : Type 0} (xs : List X) (ys : List Y) → lacks_actions xs ys ≡ false → is_empty ys ≡ true → is_empty xs ≡ true
shaped_if [] ys e none = refl
shaped_if (x ∷ xs) [] e none = cc
shaped_if (x ∷ xs) (y ∷ ys) e none = cc

module _ {M F Z S A : Type 0} (tables : Tables M F Z S A) (source : Source) (at : Registered) (all : List Spot) (table : List (Expression M F Z)) where
  pub output_ok : (o : Named Made) (y : Output) → output_under tables source at all table o ≡ Ok y → (◌≡◌ {A = List ℕ × Form} (y.name, y.form) (o.0, o.1.0)) × (is_beneath y.place (build_folder at.project) ≡ true)
  output_ok o y e =
      let here = both_ok (place_of tables source at all table o.0 o.1.1) _ y e in
      let made : Output = record { name = o.0; form = o.1.0; place = here.0 } in
      let ok = taken (is_beneath here.0 (build_folder at.project)) made y _ here.2 in
      (ap (λ z. (z.name, z.form)) (sym ok.0), ap (λ z. is_beneath z.place (build_folder at.project)) (sym ok.0) ∙ ok.1)

  pub file_ok : (f : Named InputFiles) (y : FileProperty) → files_under tables source at all table f ≡ Ok y → y.name ≡ f.0
  file_ok f y e =
      let here = both_ok (each_of (place_of tables source at all table f.0) f.1.from) _ y e in
      ap (λ z. z.name) (sym (same_ok _ y here.2))

  -- an action of the kind and the version is stored, and accepts its arguments from a task with these files
  -- and outputs
  abbrev CanBeAsked : List FileProperty → List Output → Action → Type 0
  CanBeAsked files outputs action =
      (stored : A) × (find byte_order action.kind tables.kinds ≡ Some stored) × (tables.shapes.version stored ≡ action.version)
      × (fit (shape_of tables.shapes stored) action.args (given_files files) (given_outputs outputs) ≡ fits.Yes)

  all_asked : (task : TaskDeclaration) (actions : List Action) → AllByRecursion (CanBeAsked task.files task.outputs) actions
      → AllByRecursion (IsReadyAction tables.shapes tables.kinds task) actions
  all_asked task [] all = tt
  all_asked task (action ∷ actions) all =
      (record { stored = all.0.0; found = all.0.1; version = all.0.2; fits = all.0.3 }, all_asked task actions all.1)

  fitting_ok : (call : Call) (o : Option A) (args : List Value) (y : Action) → fitting tables source at all table call o args ≡ Ok y
      → (stored : A) × (o ≡ Some stored) × (y.kind ≡ call.name) × (args_fit (shape_of tables.shapes stored).args y.args ≡ true) × (tables.shapes.version stored ≡ y.version)
  fitting_ok call None args y e = cc
  fitting_ok call (Some stored) args y e =
      let made : Action = record { kind = call.name; version = tables.shapes.version stored; args = args } in
      let ok = taken (args_fit (shape_of tables.shapes stored).args args) made y _ e in
      (stored, refl, ap (λ z. z.kind) (sym ok.0), ap (λ z. args_fit (shape_of tables.shapes stored).args z.args) (sym ok.0) ∙ ok.1, ap (λ z. z.version) ok.0)

  action_ok : (call : Call) (y : Action) → action_of tables source at all table call ≡ Ok y
      → (stored : A) × (find byte_order call.name tables.kinds ≡ Some stored) × (y.kind ≡ call.name) × (args_fit (shape_of tables.shapes stored).args y.args ≡ true) × (tables.shapes.version stored ≡ y.version)
  action_ok call y e =
      let here = both_ok (each_of (required tables source at all table call.name) call.arguments) _ y e in
      fitting_ok call (find byte_order call.name tables.kinds) here.0 y here.2

  module _ (task : Joined) (files : List FileProperty) (outputs : List Output) (same_files : given_files files ≡ map (λ f. f.0) task.files) (same_outputs : given_outputs outputs ≡ map (λ o. (o.0, o.1.0)) task.outputs) where
    action_ready : (call : Call) (y : Action) → is_misfit tables task (find byte_order call.name tables.kinds) ≡ false → action_of tables source at all table call ≡ Ok y → CanBeAsked files outputs y
    action_ready call y fits_all e =
        let ok = action_ok call y e in
        let shape = shape_of tables.shapes ok.0 in
        let has : (has_source shape (map (λ f. f.0) task.files) && has_output shape.out (map (λ o. (o.0, o.1.0)) task.outputs)) ≡ true =
        not_false _ (sym (ap (is_misfit tables task) ok.1) ∙ fits_all) in (
          ok.0,
          ap (λ n. find byte_order n tables.kinds) ok.2 ∙ ok.1,
          ok.4,
          ap (λ fs. fit shape y.args fs (given_outputs outputs)) same_files ∙ ap (λ os. fit shape y.args (map (λ f. f.0) task.files) os) same_outputs
              ∙ both_yes _ _ has ok.3,
        )

  lacks_same : {X Y X' Y' : Type 0} (xs : List X) (ys : List Y) (xs' : List X') (ys' : List Y') (R : X → X' → Type 0) (Q : Y → Y' → Type 0) → AllZip R xs xs' → AllZip Q ys ys' → lacks_actions xs ys ≡ false → lacks_actions xs' ys' ≡ false
  lacks_same [] ys [] ys' R Q a b e = refl
  lacks_same [] ys (x' ∷ xs') ys' R Q a b e = absurd a
  lacks_same (x ∷ xs) ys [] ys' R Q a b e = refl
  lacks_same (x ∷ xs) [] (x' ∷ xs') ys' R Q a b e = cc
  lacks_same (x ∷ xs) (y ∷ ys) (x' ∷ xs') [] R Q a b e = absurd b
  lacks_same (x ∷ xs) (y ∷ ys) (x' ∷ xs') (y' ∷ ys') R Q a b e = refl

  ready_at : (task : Joined) → is_misshapen tables task ≡ false → (t : TaskDeclaration) → evaluated tables source at all table task ≡ Ok t → IsSound tables at t
  ready_at task shaped t e =
      let e1 = both_ok (is_enabled tables source at all table task.enabled) _ t e in
      let e2 = both_ok (each_of (passes tables source at all table) task.only_if) _ t e1.2 in
      let e3 = both_ok (each_of (passes tables source at all table) task.up_to_date_when) _ t e2.2 in
      let e4 = both_ok (each_of (value_under tables source at all table) task.values) _ t e3.2 in
      let e5 = both_ok (each_of (files_under tables source at all table) task.files) _ t e4.2 in
      let e6 = both_ok (each_of (output_under tables source at all table) task.outputs) _ t e5.2 in
      let e7 = both_ok (each_of (action_of tables source at all table) task.actions) _ t e6.2 in
      let same = same_ok _ t e7.2 in
      let files = each_ok (files_under tables source at all table) task.files e5.0 e5.1 in
      let outputs = each_ok (output_under tables source at all table) task.outputs e6.0 e6.1 in
      let actions = each_ok (action_of tables source at all table) task.actions e7.0 e7.1 in
      let observed_f : given_files e5.0 ≡ map (λ f. f.0) task.files = observed_same (files_under tables source at all table) (λ f. f.0) (λ p. p.name) file_ok task.files e5.0 files in
      let observed_o : given_outputs e6.0 ≡ map (λ o. (o.0, o.1.0)) task.outputs =
      observed_same (output_under tables source at all table) (λ o. (o.0, o.1.0)) (λ o. (o.name, o.form)) (λ o y is. (output_ok o y is).0) task.outputs e6.0 outputs in
      subst (IsSound tables at) same (record {
        own = refl;
        shaped = shaped_if e6.0 e7.0 (lacks_same task.outputs task.actions e6.0 e7.0 _ _ outputs actions (left_false (lacks_actions task.outputs task.actions) _ shaped));
        built = each_has (output_under tables source at all table) _ (λ o y is. (output_ok o y is).1) task.outputs e6.0 outputs;
        ready = all_asked _ e7.0 (each_fails (λ call. is_misfit tables task (find byte_order call.name tables.kinds)) _ (CanBeAsked e5.0 e6.0) (action_ready task e5.0 e6.0 observed_f observed_o) task.actions e7.0
            (right_false (lacks_actions task.outputs task.actions) _ shaped) actions);
      })

module _ {M F Z S A : Type 0} (tables : Tables M F Z S A) (source : Source) where
  shaped_at : (at : Registered) (task : Joined) → declared tables source.names source.said at ≡ Ok task → is_misshapen tables task ≡ false
  shaped_at at task e =
      let ok = no_faults (declaring_faults tables source.names source.said at) (joined at) task e in
      let last : shape_faults tables at.path (joined at) ≡ [] = none_after _ _ ok.0 in
      subst (λ t. is_misshapen tables t ≡ false) ok.1 (none_of (is_misshapen tables (joined at)) at.path _ last)

  realised_at_ready : (at : Registered) (r : Result Joined Fault) (task : TaskDeclaration) → declared tables source.names source.said at ≡ r → realised_at tables source at r ≡ Ok task → IsSound tables at task
  realised_at_ready at (Ok j) task is e = ready_at tables source at (spots tables source) (table_of tables source (spots tables source)) j (shaped_at at j is) task e
  realised_at_ready at (Err fault) task is e = cc

  realised_if_ready : (path : Path) (o : Option Registered) (task : TaskDeclaration) → realised_if tables source path o ≡ Ok task → (at : Registered) × (o ≡ Some at) × IsSound tables at task
  realised_if_ready path None task e = cc
  realised_if_ready path (Some at) task e = (at, refl, realised_at_ready at (declared tables source.names source.said at) task refl e)

  pub realised_is_sound : RealisedIsSound tables source
  realised_is_sound path task e = realised_if_ready path (task_at source.said path) task e
