-- What a task finds in one world and in another, and how its execution ends there.
use Rattle.std.specs.Prelude.{ℕ, ◌≡◌, ◌⊎◌, Bool, true, false, not, cond, ◌&&◌, ◌++◌, List, [], ◌∷◌, map, Option, None, Some, if◌then◌else◌}
use Rattle.std.specs.List.{filter, list_all, list_any}
use Rattle.std.proofs.Common.{refl, sym, ap, ap₂, subst, ◌∙◌, inl, inr, true≢false}
use Rattle.gb_action.specs.Changes.{Changes, changes_between}
use Rattle.gb_action.specs.Files.{Tree, Trees, tree_at}
use Rattle.gb_folder.specs.Files.{Contents, Files, is_empty}
use Rattle.gb_semantics.specs.Kinds.{Kinds}
use Rattle.gb_semantics.specs.Label.{AreChanges, CannotRead, Early, EndsWith, HasNoActions, HasNoSource, IsCurrent, IsIncremental, IsOutcomeOf, IsOutcomeAt, Moment, Skips, changes_from, early_case, has_one_writer, run_of, some_outcome}
use Rattle.gb_semantics.specs.Memory.{World, entry_of, output_files, recalled}
use Rattle.gb_semantics.specs.Tree.{has_no_source, input_faults, listing_faults, tree_of, trees_of}
use Rattle.gb_semantics.specs.Execution.{Prints, lines_of}
use Rattle.gb_semantics.proofs.Common.{some_same}
use Rattle.gb_plan.specs.Graph.{Plan, needs_in}
use Rattle.gb_plan.specs.declared.task.Action.{Action}
use Rattle.gb_plan.specs.declared.task.FileProperty.{FileProperty}
use Rattle.gb_plan.specs.declared.task.TaskDeclaration.{TaskDeclaration as Task}
use Rattle.gb_reason.specs.Reasons.{change_reasons}
use Rattle.gb_reason.specs.declared.reason.Reason.{Reason}
use Rattle.gb_report.specs.Outcome.{is_executed}
use Rattle.gb_report.specs.declared.fault.Fault.{Fault}
use Rattle.gb_report.specs.declared.report.Options.{Options}
use Rattle.gb_report.specs.declared.report.Outcome.{Outcome}
use Rattle.gb_report.specs.declared.report.Outcome.TheVariants as outcomes
use Rattle.gb_predict.specs.Marks.{reads_files}
use Rattle.gb_predict.specs.Predicted.{Fits, HasRun, IsPredicted, RunsThisWay}
use Rattle.gb_predict.specs.declared.predicted_outcome.PredictedOutcome.{PredictedOutcome}
use Rattle.gb_predict.specs.declared.predicted_outcome.PredictedOutcome.TheVariants as comings

-- ---- The same files for a task

-- The task finds the same in both worlds: what it reads, the faults of that, its outputs, and what is
-- remembered.
pub record FindsSame (task : Task) (one other : World) : Type 0 where
  pub trees : trees_of task one.folder.files ≡ trees_of task other.folder.files
  pub faults : input_faults task one.folder ≡ input_faults task other.folder
  pub listing : listing_faults task one.folder ≡ listing_faults task other.folder
  pub outputs : output_files task one.folder.files ≡ output_files task other.folder.files
  pub remembered : recalled one.memory task.path ≡ recalled other.memory task.path

pub turned_round : (task : Task) (one other : World) → FindsSame task one other → FindsSame task other one
turned_round task one other finds = record {
  trees = sym finds.trees;
  faults = sym finds.faults;
  listing = sym finds.listing;
  outputs = sym finds.outputs;
  remembered = sym finds.remembered;
}

-- a list of what is made of each tree, if the trees are the same
module _ {Y : Type 0} (f : FileProperty → Tree → Y) (test : FileProperty → Bool) (one other : Files) where
  abbrev named : Files → List FileProperty → Trees
  named files properties = map (λ (p : FileProperty). let tree : List ℕ × Tree = (p.name, tree_of p files) in tree) properties

  abbrev made : Files → List FileProperty → List Y
  made files properties = map (λ (p : FileProperty). f p (tree_of p files)) (filter test properties)

  pub per_tree : (properties : List FileProperty) → named one properties ≡ named other properties → made one properties ≡ made other properties
  per_tree [] e = refl
  per_tree (p ∷ properties) e =
      let head : tree_of p one ≡ tree_of p other = ap (λ (tree : List ℕ × Tree). tree.1) (first e) in
      let rest : named one properties ≡ named other properties = following e in
      elim (test p) as (λ b. map (λ (q : FileProperty). f q (tree_of q one)) (cond b (p ∷ filter test properties) (filter test properties))
      ≡ map (λ (q : FileProperty). f q (tree_of q other)) (cond b (p ∷ filter test properties) (filter test properties))) [
        | true ↦ ap₂ (λ (y : Y) (l : List Y). y ∷ l) (ap (f p) head) (per_tree properties rest)
        | false ↦ per_tree properties rest
      ]
    where
      first : {X : Type 0} {x y : X} {xs ys : List X} → x ∷ xs ≡ y ∷ ys → x ≡ y
      first e = cc

      following : {X : Type 0} {x y : X} {xs ys : List X} → x ∷ xs ≡ y ∷ ys → xs ≡ ys
      following e = cc

all_mapped : {X Y : Type 0} (p : Y → Bool) (f : X → Y) (xs : List X) → list_all p (map f xs) ≡ list_all (λ x. p (f x)) xs
all_mapped p f [] = refl
all_mapped p f (x ∷ xs) = ap (λ b. p (f x) && b) (all_mapped p f xs)

module _ (task : Task) (one other : World) (finds : FindsSame task one other) where
  source_same : has_no_source task one.folder.files ≡ has_no_source task other.folder.files
  source_same =
      let skips = filter (λ (p : FileProperty). p.skip_when_empty) task.files in
      ap (λ b. list_any (λ (p : FileProperty). p.skip_when_empty) task.files && b)
      (sym (all_mapped is_empty (λ p. tree_of p one.folder.files) skips)
      ∙ ap (list_all is_empty) (per_tree (λ p tree. tree) (λ (p : FileProperty). p.skip_when_empty) one.folder.files other.folder.files task.files finds.trees)
      ∙ all_mapped is_empty (λ p. tree_of p other.folder.files) skips)

  pub early_same : early_case task one.folder ≡ early_case task other.folder
  early_same =
      ap₂ (λ (hindrances : List Fault) (dry : Bool). if not task.runs then Some Skips
      else if is_empty task.actions then Some HasNoActions
      else if not (is_empty hindrances) then Some (CannotRead hindrances)
      else if dry then Some HasNoSource
      else None)
      (ap₂ (λ (x y : List Fault). x ++ y) finds.faults finds.listing) source_same

  entry_same : entry_of task one.folder.files ≡ entry_of task other.folder.files
  entry_same = λ i. record {
    actions = task.actions;
    values = task.values;
    inputs = finds.trees i;
    outputs = task.outputs;
    files = finds.outputs i;
  }

  pub current_too : (options : Options) → IsCurrent options task one → IsCurrent options task other
  current_too options is = record {
    has_outputs = is.has_outputs;
    not_stale = is.not_stale;
    no_rerun = is.no_rerun;
    same = sym finds.remembered ∙ is.same ∙ ap Some entry_same;
  }

  changes_same : (old : Trees) → changes_from task old one.folder.files ≡ changes_from task old other.folder.files
  changes_same old =
      per_tree (λ p tree. let reported : Changes = (p.name, changes_between (tree_at old p.name) tree) in reported) (λ (p : FileProperty). p.incremental)
      one.folder.files other.folder.files task.files finds.trees

  module _ (kinds : Kinds) (options : Options) where
    pub incremental_too : IsIncremental kinds options task one → IsIncremental kinds options task other
    incremental_too is = record {
      entry = is.entry;
      remembered = sym finds.remembered ∙ is.remembered;
      same_actions = is.same_actions;
      same_values = is.same_values;
      same_outputs = is.same_outputs;
      same_files = is.same_files ∙ finds.outputs;
      same_properties = is.same_properties;
      same_others = is.same_others
          ∙ per_tree (λ p tree. tree) (λ (p : FileProperty). not p.incremental) one.folder.files other.folder.files task.files finds.trees;
      not_stale = is.not_stale;
      no_rerun = is.no_rerun;
      one_writer = is.one_writer;
    }

-- ---- The same prediction

-- the early case by what it depends on
abbrev pub case_by : Bool → Bool → List Fault → Bool → Option Early
case_by runs idle hindrances dry =
    if not runs then Some Skips
    else if idle then Some HasNoActions
    else if not (is_empty hindrances) then Some (CannotRead hindrances)
    else if dry then Some HasNoSource
    else None

still_skips : (runs idle dry dry' : Bool) (faults faults' : List Fault) → case_by runs idle faults dry ≡ Some Skips → case_by runs idle faults' dry' ≡ Some Skips
still_skips false idle dry dry' faults faults' e = refl
still_skips true true dry dry' faults faults' e = absurd (cc)
still_skips true false dry dry' (fault ∷ faults) faults' e = absurd (cc)
still_skips true false true dry' [] faults' e = absurd (cc)
still_skips true false false dry' [] faults' e = absurd (cc)

still_idle : (runs idle dry dry' : Bool) (faults faults' : List Fault) → case_by runs idle faults dry ≡ Some HasNoActions
    → (case_by runs idle faults' dry' ≡ Some HasNoActions) × (idle ≡ true)
still_idle false idle dry dry' faults faults' e = absurd (cc)
still_idle true true dry dry' faults faults' e = (refl, refl)
still_idle true false dry dry' (fault ∷ faults) faults' e = absurd (cc)
still_idle true false true dry' [] faults' e = absurd (cc)
still_idle true false false dry' [] faults' e = absurd (cc)

-- a task without actions has none
pub no_actions : (task : Task) (folder : Contents) → early_case task folder ≡ Some HasNoActions → is_empty task.actions ≡ true
no_actions task folder e =
    (still_idle task.runs (is_empty task.actions) (has_no_source task folder.files) false (input_faults task folder ++ listing_faults task folder) [] e).1

module _ (kinds : Kinds) (options : Options) (task : Task) (one other : World) where
  way_too : FindsSame task one other → (by_changes : Bool) (why : List Reason) → RunsThisWay kinds options task one by_changes why → RunsThisWay kinds options task other by_changes why
  unfolding incremental_too
  way_too finds true why is = (
    λ current. is.0 (current_too task other one (turned_round task one other finds) options current),
    incremental_too task one other finds kinds options is.1,
    λ outputs. is.2 outputs ∙ ap change_reasons (changes_same task one other finds is.1.entry.inputs),
  )
  way_too finds false why is = (
    λ current. is.0 (current_too task other one (turned_round task one other finds) options current),
    λ since. is.1 (incremental_too task other one (turned_round task one other finds) kinds options since),
  )

  pub predicted_too : (coming : PredictedOutcome) → (reads_files coming ≡ true → FindsSame task one other) → IsPredicted kinds options task one coming → IsPredicted kinds options task other coming
  predicted_too comings.Skips finds is =
      still_skips task.runs (is_empty task.actions) (has_no_source task one.folder.files) (has_no_source task other.folder.files)
      (input_faults task one.folder ++ listing_faults task one.folder) (input_faults task other.folder ++ listing_faults task other.folder) is
  predicted_too comings.HasNoActions finds is =
      (still_idle task.runs (is_empty task.actions) (has_no_source task one.folder.files) (has_no_source task other.folder.files)
      (input_faults task one.folder ++ listing_faults task one.folder) (input_faults task other.folder ++ listing_faults task other.folder) is).0
  predicted_too (comings.HasNoSource removes) finds is =
      (sym (early_same task one other (finds refl)) ∙ is.0, is.1 ∙ ap (λ files. not (is_empty files)) (finds refl).outputs)
  predicted_too (comings.CannotRead fault) finds is = (is.0, sym (early_same task one other (finds refl)) ∙ is.1, is.2)
  predicted_too comings.UpToDate finds is =
      (sym (early_same task one other (finds refl)) ∙ is.0, current_too task one other (finds refl) options is.1)
  predicted_too comings.HasGrown finds is = (sym (early_same task one other (finds refl)) ∙ is.0, way_too (finds refl) false [] is.1)
  predicted_too (comings.Runs by_changes reasons) finds is =
      (sym (early_same task one other (finds refl)) ∙ is.0, way_too (finds refl) by_changes reasons.items is.1)

-- ---- Outcomes

module _ (kinds : Kinds) (options : Options) (plan : Plan) (task : Task) (moment : Moment) (outcome : Outcome) where
  has_run : (ended : Option Fault) → EndsWith ended outcome → HasRun outcome
  has_run None is = inl is
  has_run (Some fault) is = inr (fault, is)

  at_case : (case : Option Early) → early_case task moment.world.folder ≡ case → IsOutcomeOf kinds options plan task moment outcome
      → IsOutcomeAt kinds options plan task moment case outcome
  at_case case e label = subst (λ (c : Option Early). IsOutcomeAt kinds options plan task moment c outcome) e label

  runs_if : (¬ IsCurrent options task moment.world) → IsOutcomeAt kinds options plan task moment None outcome → HasRun outcome
  runs_if not_current (inl current) = absurd (not_current current.0)
  runs_if not_current (inr run) = has_run (run_of kinds task moment.world.folder.files).fault run.1

  not_current : (by_changes : Bool) (why : List Reason) → RunsThisWay kinds options task moment.world by_changes why → ¬ IsCurrent options task moment.world
  not_current true why is = is.0
  not_current false why is = is.0

  idle : (executed : Bool) → outcome ≡ (if executed then outcomes.Executed else outcomes.UpToDate) → (outcome ≡ outcomes.UpToDate) ⊎ (outcome ≡ outcomes.Executed)
  idle true e = inr e
  idle false e = inl e

  up_to_date : IsCurrent options task moment.world → IsOutcomeAt kinds options plan task moment None outcome → outcome ≡ outcomes.UpToDate
  up_to_date current (inl is) = is.1
  up_to_date current (inr run) = absurd (run.0 current)

  -- the outcome of a task is its predicted one
  pub fits : (coming : PredictedOutcome) → IsPredicted kinds options task moment.world coming → IsOutcomeOf kinds options plan task moment outcome → Fits coming outcome
  fits comings.Skips is label = at_case (Some Skips) is label
  fits comings.HasNoActions is label = idle (some_outcome is_executed moment (needs_in plan task)) (at_case (Some HasNoActions) is label)
  fits (comings.HasNoSource removes) is label = at_case (Some HasNoSource) is.0 label
  fits (comings.CannotRead fault) is label =
      let at = at_case (Some (CannotRead is.0)) is.1 label in
      at.2 ∙ ap outcomes.Failed (some_same (sym at.1 ∙ is.2))
  fits comings.UpToDate is label = up_to_date is.1 (at_case None is.0 label)
  fits comings.HasGrown is label = runs_if (not_current false [] is.1) (at_case None is.0 label)
  fits (comings.Runs by_changes reasons) is label = runs_if (not_current by_changes reasons.items is.1) (at_case None is.0 label)

-- ---- Lines

module _ (kinds : Kinds) (options : Options) (task : Task) (one other : World) where
  changes_too : FindsSame task one other → (changes : List Changes) → AreChanges kinds options task one changes → AreChanges kinds options task other changes
  unfolding incremental_too
  changes_too finds changes (inl since) =
      inl (incremental_too task one other finds kinds options since.0, since.1 ∙ changes_same task one other finds since.0.entry.inputs)
  changes_too finds changes (inr full) = inr (
    λ since. full.0 (incremental_too task other one (turned_round task one other finds) kinds options since),
    full.1 ∙ changes_same task one other finds [],
  )

  pub prints_too : FindsSame task one other → (lines : List (List ℕ)) → Prints kinds options task one outcomes.Executed lines
      → Prints kinds options task other outcomes.Executed lines
  prints_too finds lines is =
      (is.0, changes_too finds is.0 is.1, is.2 ∙ ap (λ (trees : Trees). lines_of kinds task trees is.0 task.actions) finds.trees)

  -- a task without actions prints no line in any world
  pub prints_nothing : is_empty task.actions ≡ true → (lines : List (List ℕ)) → Prints kinds options task one outcomes.Executed lines
      → Prints kinds options task other outcomes.Executed lines
  prints_nothing none lines is = (
    changes_from task [] other.folder.files,
    inr (λ since. no_writer task.actions none since.one_writer, refl),
    is.2 ∙ same task.actions none,
  )
    where
      no_writer : (actions : List Action) → is_empty actions ≡ true → has_one_writer kinds actions ≡ true → ⊥
      no_writer [] e writer = true≢false (sym writer)
      no_writer (action ∷ actions) e writer = true≢false (sym e)

      same : (actions : List Action) → is_empty actions ≡ true
          → lines_of kinds task (trees_of task one.folder.files) is.0 actions ≡ lines_of kinds task (trees_of task other.folder.files) (changes_from task [] other.folder.files) actions
      same [] e = refl
      same (action ∷ actions) e = absurd (true≢false (sym e))
