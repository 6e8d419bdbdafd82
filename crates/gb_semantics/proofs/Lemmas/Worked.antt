-- What an execution that did not fail did: the task was skipped, or had nothing to do, or its outputs are now
-- what its actions make.
use Rattle.std.specs.Prelude.{ℕ, ◌≡◌, ◌⊎◌, Bool, true, false, not, cond, List, [], ◌∷◌, ◌++◌, Option, Some, None, Ok}
use Rattle.std.specs.Result.{result_unwrap_or}
use Rattle.std.proofs.Common.{refl, sym, ap, subst, ◌∙◌, inl, inr}
use Rattle.gb_report.specs.declared.fault.Fault.{Fault}
use Rattle.gb_report.specs.declared.report.Outcome.{Outcome}
use Rattle.gb_report.specs.declared.report.Outcome.TheVariants as outcomes
use Rattle.gb_report.specs.declared.report.Options.{Options}
use Rattle.gb_report.specs.declared.report.TaskReport.{TaskReport}
use Rattle.gb_folder.specs.Files.{IsFolder, is_empty, Place, Bytes, Files, files_where, is_blocked}
use Rattle.gb_plan.specs.declared.task.TaskDeclaration.{TaskDeclaration as Task}
use Rattle.gb_plan.specs.Task.{is_output_of}
use Rattle.gb_semantics.proofs.Existing.{rules_of, existing}
use Rattle.gb_semantics.proofs.Lemmas.Ending.{ended_is_made, none_blocked}
use Rattle.gb_semantics.specs.Tree.{input_faults, listing_faults, has_no_source, trees_of}
use Rattle.gb_semantics.specs.Kinds.{Kinds}
use Rattle.gb_semantics.specs.Made.{made, made_of, with_outputs, blocked_in, rest_of}
use Rattle.gb_semantics.specs.Memory.{Memory, World, recalled, remember, forget, entry_of}
use Rattle.gb_plan.specs.Graph.{Plan, needs_in}
use Rattle.gb_semantics.specs.Label.{Moment, Early, Skips, HasNoActions, CannotRead, HasNoSource, some_outcome, IsOutcomeAt, EndsWith, run_of}
use Rattle.gb_report.specs.Outcome.{is_failed, is_executed}
use Rattle.gb_semantics.specs.Execution.{May, Leaves, HasEnded, memory_after, StartedExecution}
use Rattle.gb_plan.proofs.Tests.{not_true, not_false}

-- the outputs in the folder are what the actions make of the inputs there
pub record Shows (kinds : Kinds) (task : Task) (files : Files) : Type 0 where
  pub made_files : Files
  pub makes : made_of kinds task.actions task.values (trees_of task files) task.outputs ≡ Ok made_files
  pub same : files ≡ with_outputs task files made_files
  pub room : is_empty (blocked_in (rest_of task files) made_files) ≡ true

-- what is remembered of the task is true wherever it is current
abbrev pub IsTrusted : Kinds → Memory → Task → Type 0
IsTrusted kinds memory task = (files : Files) → IsFolder files → recalled memory task.path ≡ Some (entry_of task files) → Shows kinds task files

-- the task's outputs are now what its actions make
pub record Worked (kinds : Kinds) (task : Task) (old new : World) : Type 0 where
  pub runs : task.runs ≡ true
  pub has_actions : is_empty task.actions ≡ false
  pub readable : is_empty (input_faults task old.folder) ≡ true
  pub made_files : Files
  pub makes : made kinds task old.folder.files ≡ Ok made_files
  pub room : is_empty (blocked_in (rest_of task old.folder.files) made_files) ≡ true
  pub files : new.folder.files ≡ with_outputs task old.folder.files made_files
  pub special : new.folder.special ≡ old.folder.special
  pub memory : (new.memory ≡ old.memory) ⊎ (new.memory ≡ forget old.memory task.path) ⊎ (new.memory ≡ remember old.memory task.path (entry_of task new.folder.files))

pub data Did (kinds : Kinds) (task : Task) (old new : World) : Type 0 where
  skipped : task.runs ≡ false → new ≡ old → Did kinds task old new
  idle : task.runs ≡ true → is_empty task.actions ≡ true → new ≡ old → Did kinds task old new
  worked : Worked kinds task old new → Did kinds task old new

abbrev case_from : Bool → Bool → List Fault → Bool → Option Early
case_from r a h n = cond (not r) (Some Skips) (cond a (Some HasNoActions) (cond (not (is_empty h)) (Some (CannotRead h)) (cond n (Some HasNoSource) None)))

not_failed : {A : Type 0} (outcome : Outcome) (fault : Fault) → is_failed outcome ≡ false → outcome ≡ outcomes.Failed fault → A
not_failed outcome fault h e = not_false (sym (ap is_failed e) ∙ h)

first_empty : {X : Type 0} (xs ys : List X) → is_empty (xs ++ ys) ≡ true → is_empty xs ≡ true
first_empty [] ys e = refl
first_empty (x ∷ xs) ys e = not_true e

module _ (kinds : Kinds) (options : Options) (plan : Plan) (task : Task) (moment : Moment) (new : World) where
  abbrev old : World
  old = moment.world

  memory_kept : (files : Files) → new ≡ Rattle.gb_semantics.specs.Execution.world_with task old files (memory_after task old.memory (with_outputs task old.folder.files files))
      → (new.memory ≡ old.memory) ⊎ (new.memory ≡ forget old.memory task.path) ⊎ (new.memory ≡ remember old.memory task.path (entry_of task new.folder.files))
  memory_kept files e =
      elim (is_empty task.outputs) as (λ b. new.memory ≡ cond b (forget old.memory task.path) (remember old.memory task.path (entry_of task (with_outputs task old.folder.files files)))
      → (new.memory ≡ old.memory) ⊎ (new.memory ≡ forget old.memory task.path) ⊎ (new.memory ≡ remember old.memory task.path (entry_of task new.folder.files))) [
        | true ↦ λ m. inr (inl m)
        | false ↦ λ m. inr (inr (m ∙ ap (λ (w : World). remember old.memory task.path (entry_of task w.folder.files)) (sym e)))
      ] (ap (λ (w : World). w.memory) e)

  ended : has_no_source task old.folder.files ≡ false → task.runs ≡ true → is_empty task.actions ≡ false → is_empty (input_faults task old.folder) ≡ true
      → (files : Files) → made kinds task old.folder.files ≡ Ok files → is_empty (blocked_in (rest_of task old.folder.files) files) ≡ true
      → HasEnded kinds task old new → Did kinds task old new
  ended source runs acts readable files makes room end =
      let same : end.0 ≡ files = ap (λ r. result_unwrap_or r []) (sym end.1 ∙ sym (ap (λ b. cond b (Ok []) (made_of kinds task.actions task.values (trees_of task old.folder.files) task.outputs)) source) ∙ makes) in
      worked (record {
        runs = runs;
        has_actions = acts;
        readable = readable;
        made_files = files;
        makes = makes;
        room = room;
        files = ap (λ (w : World). w.folder.files) end.2 ∙ ap (with_outputs task old.folder.files) same;
        special = ap (λ (w : World). w.folder.special) end.2;
        memory = memory_kept end.0 end.2;
      })

  ran : (outcome : Outcome) → is_failed outcome ≡ false → has_no_source task old.folder.files ≡ false → task.runs ≡ true → is_empty task.actions ≡ false → is_empty (input_faults task old.folder) ≡ true
      → (fault : Option Fault) → (run_of kinds task old.folder.files).fault ≡ fault → EndsWith fault outcome
      → Leaves kinds options task old outcome new → Did kinds task old new
  ran outcome well source runs acts readable (Some fault) is to leaves = not_failed outcome fault well to
  ran outcome well source runs acts readable None is to leaves =
      let files = old.folder.files in
      let rest = files_where (λ place. not (is_output_of task place)) files in
      let law = ended_is_made kinds task.outputs task.values (trees_of task files) rest [] task.actions refl is in
      elim (subst (λ o. Leaves kinds options task old o new) to leaves) [
        | inl none ↦ not_false (sym none.0 ∙ acts)
        | inr end ↦ ended source runs acts readable (run_of kinds task files).held
            (ap (λ b. cond b (Ok []) (made_of kinds task.actions task.values (trees_of task files) task.outputs)) source ∙ law.0)
            (none_blocked (λ (f : Place × Bytes). f.0) (λ (f : Place × Bytes). is_blocked rest f.0) (run_of kinds task files).held law.1) end.1
      ]

  by_case : (outcome : Outcome) → is_failed outcome ≡ false → IsFolder old.folder.files → IsTrusted kinds old.memory task → (r a n : Bool) → task.runs ≡ r → is_empty task.actions ≡ a → has_no_source task old.folder.files ≡ n
      → IsOutcomeAt kinds options plan task moment (case_from r a (input_faults task old.folder ++ listing_faults task old.folder) n) outcome
      → Leaves kinds options task old outcome new → Did kinds task old new
  by_case outcome well folder trusted false a n runs acts source label leaves = skipped runs (subst (λ o. Leaves kinds options task old o new) label leaves)
  by_case outcome well folder trusted true true n runs acts source label leaves =
      elim (some_outcome is_executed moment (needs_in plan task)) as (λ b. outcome ≡ cond b outcomes.Executed outcomes.UpToDate → Did kinds task old new) [
        | true ↦ λ e. elim (subst (λ o. Leaves kinds options task old o new) e leaves) [
          | inl none ↦ idle runs acts none.1
          | inr end ↦ not_false (sym acts ∙ end.0)
        ]
        | false ↦ λ e. idle runs acts (subst (λ o. Leaves kinds options task old o new) e leaves)
      ] label
  by_case outcome well folder trusted true false n runs acts source label leaves =
      elim (is_empty (input_faults task old.folder ++ listing_faults task old.folder))
      as (λ b. is_empty (input_faults task old.folder ++ listing_faults task old.folder) ≡ b
      → IsOutcomeAt kinds options plan task moment (cond (not b) (Some (CannotRead (input_faults task old.folder ++ listing_faults task old.folder))) (cond n (Some HasNoSource) None)) outcome
      → Did kinds task old new) [
        | false ↦ λ _ label. not_failed outcome label.0 well label.2
        | true ↦ λ empty label. readable_case n source (first_empty (input_faults task old.folder) (listing_faults task old.folder) empty) label
      ] refl label
    where
      readable_case : (n : Bool) → has_no_source task old.folder.files ≡ n → is_empty (input_faults task old.folder) ≡ true
          → IsOutcomeAt kinds options plan task moment (cond n (Some HasNoSource) None) outcome → Did kinds task old new
      readable_case true source readable label =
          let end = subst (λ o. Leaves kinds options task old o new) label leaves in
          worked (record {
            runs = runs;
            has_actions = acts;
            readable = readable;
            made_files = [];
            makes = ap (λ b. cond b (Ok []) (made_of kinds task.actions task.values (trees_of task old.folder.files) task.outputs)) source;
            room = refl;
            files = ap (λ (w : World). w.folder.files) end;
            special = ap (λ (w : World). w.folder.special) end;
            memory = inr (inl (ap (λ (w : World). w.memory) end));
          })
      readable_case false source readable label = elim label [
        | inl current ↦
            let same = subst (λ o. Leaves kinds options task old o new) current.1 leaves in
            let shows = trusted old.folder.files folder current.0.same in
            worked (record {
              runs = runs;
              has_actions = acts;
              readable = readable;
              made_files = shows.made_files;
              makes = ap (λ b. cond b (Ok []) (made_of kinds task.actions task.values (trees_of task old.folder.files) task.outputs)) source ∙ shows.makes;
              room = shows.room;
              files = ap (λ (w : World). w.folder.files) same ∙ shows.same;
              special = ap (λ (w : World). w.folder.special) same;
              memory = inl (ap (λ (w : World). w.memory) same);
            })
        | inr run ↦ ran outcome well source runs acts readable ((run_of kinds task old.folder.files).fault) refl run.1 leaves
      ]

  pub what_it_did : (may_occur : May) (failures : ℕ) (report : TaskReport) → is_failed report.outcome ≡ false → IsFolder old.folder.files → IsTrusted kinds old.memory task
      → StartedExecution (rules_of kinds options may_occur plan) moment task report (existing new failures) → Did kinds task old new
  what_it_did may_occur failures report well folder trusted execution = elim execution.label [
    | inl label ↦ by_case report.outcome well folder trusted task.runs (is_empty task.actions) (has_no_source task old.folder.files) refl refl refl label execution.leaves
    | inr fault ↦ not_failed report.outcome fault.0 well fault.2
  ]
