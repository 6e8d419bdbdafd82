-- What is remembered after a build is among known contents: it existed before the build, or exists after it,
-- or was remembered.
use Rattle.std.specs.Prelude.{ℕ, ◌≡◌, Bool, true, false, not, cond, ◌||◌, List, [], ◌∷◌, ◌++◌, map, Option, Some, None, bytes_eq, is_some, unwrap_or}
use Rattle.std.specs.List.{AllByRecursion, list_any, flat_map}
use Rattle.std.specs.FinMap.Entries.{by_order}
use Rattle.std.specs.declared.cmp.Ordering.TheVariants.{Less, Equal, Greater}
use Rattle.std.proofs.Common.{refl, sym, ap, subst, ◌∙◌, inl, inr}
use Rattle.gb_report.specs.declared.fault.Fault.{Fault}
use Rattle.gb_report.specs.declared.report.Outcome.{Outcome}
use Rattle.gb_report.specs.declared.report.Outcome.TheVariants as outcomes
use Rattle.gb_report.specs.declared.report.Options.{Options}
use Rattle.gb_report.specs.declared.report.TaskReport.{TaskReport}
use Rattle.gb_folder.specs.Files.{Place, Bytes, Files, is_empty, file_at, files_where, places_under}
use Rattle.gb_core.specs.Lists.{byte_order}
use Rattle.gb_core.specs.Place.{is_under}
use Rattle.std.specs.Ordering.{eq_by_cmp}
use Rattle.std.proofs.lemmas.Map.Text.{is_eq-slice_cmp}
use Rattle.gb_plan.specs.Task.{Path, has_path, is_output_of, output_places}
use Rattle.gb_plan.specs.declared.task.TaskDeclaration.{TaskDeclaration as Task}
use Rattle.gb_plan.specs.declared.task.FileProperty.{FileProperty}
use Rattle.gb_semantics.proofs.Existing.{rules_of, existing}
use Rattle.gb_semantics.specs.Tree.{tree_of, trees_of}
use Rattle.gb_tree.specs.Tree.{Entries, bytes_at, contents_at}
use Rattle.gb_tree.specs.Property.{distinct, entries_of, found}
use Rattle.gb_semantics.proofs.Lemmas.Reading.{all_entries, all_in_order, each}
use Rattle.gb_semantics.specs.Kinds.{Kinds}
use Rattle.gb_semantics.specs.Made.{with_outputs}
use Rattle.gb_semantics.specs.Memory.{Memory, Entry, World, folder_contents, forget, remember, entry_of, output_files}
use Rattle.gb_semantics.specs.TrueRecord.{contents_of, contents_in, memory_contents}
use Rattle.gb_plan.specs.Graph.{Plan, some_overlap}
use Rattle.gb_plan.specs.declared.plan.Planned.{Planned}
use Rattle.gb_semantics.specs.Label.{Early, Skips, HasNoActions, CannotRead, HasNoSource, early_case, Moment}
use Rattle.gb_semantics.specs.Execution.{May, Executions, Builds, Leaves, FailureLeaves, HasEnded, IsGivenUp, moment_after, Cause, ByItself, ByMachine, cause_of, FailedRunLeaves}
use Rattle.gb_semantics.proofs.Common.{all_assumed}
use Rattle.gb_plan.proofs.Tests.{not_true, itself, any_map}
use Rattle.gb_semantics.proofs.Lemmas.Clear.{Among, either, right, in_left, in_right, in_one, part_of, existed, later_separate, rest_leave, places_of}
use Rattle.gb_plan.proofs.Places.{separate_places, overlap_tail, out_of}

-- ---- Contents of trees

exists_at : (f : Place × Bytes) (files : Files) (place : Place) → is_some (file_at files place) ≡ true → is_some (file_at (f ∷ files) place) ≡ true
exists_at f files place e = elim (eq_by_cmp byte_order place f.0) as (λ b. is_some (cond b (Some f.1) (file_at files place)) ≡ true) [ true ↦ refl | false ↦ e ]

exists_here : (f : Place × Bytes) (files : Files) → is_some (file_at (f ∷ files) f.0) ≡ true
exists_here f files = ap (λ b. is_some (cond b (Some f.1) (file_at files f.0))) (is_eq-slice_cmp f.0 f.0 ∙ itself f.0)

-- at each place of these files there is one of them
all_exist : (inner : Place → Bool) (files : Files) → AllByRecursion (λ place. is_some (file_at files place) ≡ true) (map (λ (file : Place × Bytes). file.0) (files_where inner files))
all_exist inner [] = tt
all_exist inner (f ∷ files) =
    let rest = each _ _ (exists_at f files) (map (λ (file : Place × Bytes). file.0) (files_where inner files)) (all_exist inner files) in
    elim (inner f.0) as (λ b. AllByRecursion (λ place. is_some (file_at (f ∷ files) place) ≡ true) (map (λ (file : Place × Bytes). file.0) (cond b (f ∷ files_where inner files) (files_where inner files)))) [
      | true ↦ (exists_here f files, rest)
      | false ↦ rest
    ]

module _ (c : Bytes) where
  abbrev P : Place × Bytes → Bool
  P file = bytes_eq c file.1

  -- the bytes at a place are among the files
  any_at : (files : Files) (place : Place) → is_some (file_at files place) ≡ true → bytes_eq c (bytes_at files place) ≡ true → list_any P files ≡ true
  any_at [] place exists e = not_true exists
  any_at (f ∷ files) place exists e =
      elim (eq_by_cmp byte_order place f.0) as (λ b. is_some (cond b (Some f.1) (file_at files place)) ≡ true → bytes_eq c (unwrap_or (cond b (Some f.1) (file_at files place)) []) ≡ true → (P f || list_any P files) ≡ true) [
        | true ↦ λ _ same. ap (λ x. x || list_any P files) same
        | false ↦ λ exists same. right (P f) (list_any P files) (any_at files place exists same)
      ] exists e

  any_entries : (files : Files) (entries : Entries) → AllByRecursion (λ (entry : List ℕ × Place). is_some (file_at files entry.1) ≡ true) entries → list_any P (contents_at files entries) ≡ true → list_any P files ≡ true
  any_entries files [] all h = not_true h
  any_entries files (entry ∷ entries) all h = elim (either (bytes_eq c (bytes_at files entry.1)) (list_any P (contents_at files entries)) h) [
    | inl here ↦ any_at files entry.1 all.0 here
    | inr there ↦ any_entries files entries all.1 there
  ]

  any_tree : (property : FileProperty) (files : Files) → list_any P (tree_of property files) ≡ true → list_any P files ≡ true
  any_tree property files h =
      any_entries files (entries_of property.naming property.roots property.include property.exclude files)
      (all_in_order (λ (entry : List ℕ × Place). is_some (file_at files entry.1) ≡ true) (found property.naming property.include property.exclude files (distinct property.roots))
      (all_entries (λ place. is_some (file_at files place) ≡ true) property.naming property.include property.exclude files (distinct property.roots)
      (all_roots (distinct property.roots)))) h
    where
      all_roots : (roots : List Place) → AllByRecursion (λ root. AllByRecursion (λ place. is_some (file_at files place) ≡ true) (places_under files root)) roots
      all_roots [] = tt
      all_roots (root ∷ roots) = (all_exist (λ place. is_under place root) files, all_roots roots)

  any_trees : (files : Files) (properties : List FileProperty) → has_path (contents_in (map (λ (property : FileProperty). (property.name, tree_of property files)) properties)) c ≡ true → list_any P files ≡ true
  any_trees files [] h = not_true h
  any_trees files (property ∷ properties) h =
      elim (in_one c (map (λ (file : Place × Bytes). file.1) (tree_of property files)) (contents_in (map (λ (property : FileProperty). (property.name, tree_of property files)) properties)) h) [
        | inl here ↦ any_tree property files (sym (any_map (bytes_eq c) (λ (file : Place × Bytes). file.1) (tree_of property files)) ∙ here)
        | inr later ↦ any_trees files properties later
      ]

-- all contents of an entry that is made now exist now
pub entry_observed : (task : Task) (files : Files) → Among (contents_of (entry_of task files)) (map (λ (file : Place × Bytes). file.1) files)
entry_observed task files c h = any_map (bytes_eq c) (λ (file : Place × Bytes). file.1) files ∙ elim (in_one c (contents_in (trees_of task files)) (map (λ (file : Place × Bytes). file.1) (output_files task files)) h) [
  | inl read ↦ any_trees c files task.files read
  | inr written ↦ part_of (λ (file : Place × Bytes). bytes_eq c file.1) (is_output_of task) files (sym (any_map (bytes_eq c) (λ (file : Place × Bytes). file.1) (output_files task files)) ∙ written)
]

-- ---- Contents of memory

abbrev reported_by : Memory → List Bytes
reported_by memory = flat_map (λ (entry : Path × Entry). contents_of entry.1) memory

forget_observed : (path : Path) (memory : Memory) → Among (reported_by (forget memory path)) (reported_by memory)
forget_observed path [] c h = h
forget_observed path (m ∷ memory) c h =
    elim (not (bytes_eq m.0 path)) as (λ b. has_path (reported_by (cond b (m ∷ forget memory path) (forget memory path))) c ≡ true → has_path (contents_of m.1 ++ reported_by memory) c ≡ true) [
      | true ↦ λ e. elim (in_one c (contents_of m.1) (reported_by (forget memory path)) e) [ inl here ↦ in_left c (contents_of m.1) (reported_by memory) here | inr there ↦ in_right c (contents_of m.1) (reported_by memory) (forget_observed path memory c there) ]
      | false ↦ λ e. in_right c (contents_of m.1) (reported_by memory) (forget_observed path memory c e)
    ] h

remember_observed : (path : Path) (entry : Entry) (memory : Memory) → Among (reported_by (remember memory path entry)) (contents_of entry ++ reported_by memory)
remember_observed path entry [] c h = h
remember_observed path entry (m ∷ memory) c h =
    elim (byte_order path m.0) as (λ o. has_path (reported_by (by_order o ((path, entry) ∷ m ∷ memory) ((m.0, entry) ∷ memory) (m ∷ remember memory path entry))) c ≡ true
    → has_path (contents_of entry ++ (contents_of m.1 ++ reported_by memory)) c ≡ true) [
      | Less ↦ λ e. e
      | Equal ↦ λ e. elim (in_one c (contents_of entry) (reported_by memory) e) [
        | inl here ↦ in_left c (contents_of entry) (contents_of m.1 ++ reported_by memory) here
        | inr there ↦ in_right c (contents_of entry) (contents_of m.1 ++ reported_by memory) (in_right c (contents_of m.1) (reported_by memory) there)
      ]
      | Greater ↦ λ e. elim (in_one c (contents_of m.1) (reported_by (remember memory path entry)) e) [
        | inl here ↦ in_right c (contents_of entry) (contents_of m.1 ++ reported_by memory) (in_left c (contents_of m.1) (reported_by memory) here)
        | inr there ↦ elim (in_one c (contents_of entry) (reported_by memory) (remember_observed path entry memory c there)) [
          | inl new ↦ in_left c (contents_of entry) (contents_of m.1 ++ reported_by memory) new
          | inr old ↦ in_right c (contents_of entry) (contents_of m.1 ++ reported_by memory) (in_right c (contents_of m.1) (reported_by memory) old)
        ]
      ]
    ] h

-- ---- One execution

module _ (kinds : Kinds) (options : Options) (task : Task) (old new : World) where
  -- what the new memory contains was remembered, or exists now
  abbrev IsObserved : World → Type 0
  IsObserved w = Among (reported_by w.memory) (reported_by old.memory ++ folder_contents w)

  kept_observed : (memory : Memory) → Among (reported_by memory) (reported_by old.memory) → new.memory ≡ memory → IsObserved new
  kept_observed memory among e c h = in_left c (reported_by old.memory) (folder_contents new) (among c (subst (λ m. has_path (reported_by m) c ≡ true) e h))

  same_observed : new ≡ old → IsObserved new
  same_observed e = kept_observed old.memory (λ c h. h) (ap (λ (w : World). w.memory) e)

  ended_observed : HasEnded kinds task old new → IsObserved new
  ended_observed end = subst IsObserved (sym end.2) (by_outputs (is_empty task.outputs))
    where
      files : Files
      files = with_outputs task old.folder.files end.0

      by_outputs : (b : Bool) → Among (reported_by (cond b (forget old.memory task.path) (remember old.memory task.path (entry_of task files)))) (reported_by old.memory ++ map (λ (file : Place × Bytes). file.1) files)
      by_outputs true c h = in_left c (reported_by old.memory) (map (λ (file : Place × Bytes). file.1) files) (forget_observed task.path old.memory c h)
      by_outputs false c h = elim (in_one c (contents_of (entry_of task files)) (reported_by old.memory) (remember_observed task.path (entry_of task files) old.memory c h)) [
        | inl entry ↦ in_right c (reported_by old.memory) (map (λ (file : Place × Bytes). file.1) files) (entry_observed task files c entry)
        | inr before ↦ in_left c (reported_by old.memory) (map (λ (file : Place × Bytes). file.1) files) before
      ]

  given_up_observed : (fault : Fault) → IsGivenUp kinds task fault old new → IsObserved new
  given_up_observed fault given = kept_observed (forget old.memory task.path) (forget_observed task.path old.memory) given.memory

  failed_run_observed : (fault : Fault) (cause : Cause) → FailedRunLeaves kinds options task fault old new cause → IsObserved new
  failed_run_observed fault ByItself leaves = given_up_observed fault leaves.0
  failed_run_observed fault ByMachine leaves = elim leaves.1 [ inl same ↦ same_observed same | inr begun ↦ elim begun [ inl given ↦ given_up_observed fault given.0 | inr end ↦ ended_observed end.1 ] ]

  failure_observed : (fault : Fault) (case : Option Early) → FailureLeaves kinds options task fault old new case → IsObserved new
  failure_observed fault (Some Skips) leaves = same_observed leaves
  failure_observed fault (Some HasNoActions) leaves = same_observed leaves
  failure_observed fault (Some (CannotRead hindrances)) leaves = same_observed leaves
  failure_observed fault (Some HasNoSource) leaves = elim leaves [ inl same ↦ same_observed same | inr given ↦ given_up_observed fault given ]
  failure_observed fault None leaves = failed_run_observed fault (cause_of fault) leaves

  leaves_observed : (outcome : Outcome) → Leaves kinds options task old outcome new → IsObserved new
  leaves_observed outcomes.Executed leaves = elim leaves [ inl same ↦ same_observed same.1 | inr end ↦ ended_observed end.1 ]
  leaves_observed outcomes.UpToDate leaves = same_observed leaves
  leaves_observed outcomes.Skipped leaves = same_observed leaves
  leaves_observed outcomes.NoSource leaves = kept_observed (forget old.memory task.path) (forget_observed task.path old.memory) (ap (λ (w : World). w.memory) leaves)
  leaves_observed (outcomes.Failed fault) leaves = failure_observed fault (early_case task old.folder) leaves
  leaves_observed outcomes.NotRun leaves = same_observed leaves

-- ---- All executions

module _ (kinds : Kinds) (options : Options) (may_occur : May) (plan : Plan) where
  pub executions_observed : (observed : List Bytes) (rest : List Planned) (moment : Moment) (reports : List TaskReport) (new : World) (failures : ℕ) → some_overlap (places_of rest) ≡ false
      → Among (memory_contents moment.world) (observed ++ folder_contents moment.world)
      → Executions (rules_of kinds options may_occur plan) all_assumed observed rest moment reports (existing new failures)
      → Among (memory_contents new) (observed ++ folder_contents moment.world ++ folder_contents new)
  executions_observed observed [] moment [] new failures separate was executions =
      λ c h. in_left c (observed ++ folder_contents moment.world) (folder_contents new) (was c (subst (λ (w : World). has_path (memory_contents w) c ≡ true) executions.0 h))
  executions_observed observed [] moment (report ∷ reports) new failures separate was executions = absurd executions
  executions_observed observed (planned ∷ rest) moment [] new failures separate was executions = absurd executions
  executions_observed observed (planned ∷ rest) moment (report ∷ reports) new failures separate was executions =
      λ c h. between c (executions_observed before rest (moment_after moment report executions.0) reports new failures (overlap_tail (output_places planned.task) (places_of rest) separate) is executions.2 c h)
    where
      before : List Bytes
      before = observed ++ folder_contents moment.world

      of_execution : Among (reported_by executions.0.world.memory) (reported_by moment.world.memory ++ folder_contents executions.0.world)
      of_execution = elim (executions.1.execution tt).2 [
        | inl started ↦ leaves_observed kinds options planned.task moment.world executions.0.world report.outcome started.1.leaves
        | inr passed ↦ same_observed kinds options planned.task moment.world executions.0.world passed.1.unchanged
      ]

      is : Among (memory_contents executions.0.world) (before ++ folder_contents executions.0.world)
      is d e = elim (in_one d (reported_by moment.world.memory) (folder_contents executions.0.world) (of_execution d e)) [
        | inl remembered ↦ in_left d before (folder_contents executions.0.world) (was d remembered)
        | inr now ↦ in_right d before (folder_contents executions.0.world) now
      ]

      later_leave : files_where (is_output_of planned.task) new.folder.files ≡ files_where (is_output_of planned.task) executions.0.world.folder.files
      later_leave = rest_leave kinds options may_occur plan all_assumed (is_output_of planned.task) before rest (moment_after moment report executions.0) reports new failures
          (later_separate planned.task rest (λ q e. separate_places q (output_places planned.task) (places_of rest) separate (sym (out_of planned.task q) ∙ e))) executions.2

      between : Among (before ++ folder_contents executions.0.world ++ folder_contents new) (before ++ folder_contents new)
      between d e = elim (in_one d (before ++ folder_contents executions.0.world) (folder_contents new) e) [
        | inr after ↦ in_right d before (folder_contents new) after
        | inl earlier ↦ elim (in_one d before (folder_contents executions.0.world) earlier) [
          | inl observed_before ↦ in_left d before (folder_contents new) observed_before
          | inr mid ↦ elim (existed (is_output_of planned.task) moment.world.folder.files executions.0.world.folder.files new.folder.files executions.1.files later_leave d mid) [
            | inl old ↦ in_left d before (folder_contents new) (in_right d observed (folder_contents moment.world) old)
            | inr last ↦ in_right d before (folder_contents new) last
          ]
        ]
      ]

-- Over a build: what is remembered after it was among the contents so far, or existed before it, or exists
-- after it, if that held before.
pub remembered_was_observed : (kinds : Kinds) (options : Options) (may_occur : May) (plan : Plan) (observed : List Bytes) (before after : ℕ) (old new : World) (reports : List TaskReport)
    → some_overlap (places_of plan) ≡ false → Among (memory_contents old) observed
    → Builds (rules_of kinds options may_occur plan) all_assumed observed (existing old before) reports (existing new after)
    → Among (memory_contents new) (observed ++ folder_contents old ++ folder_contents new)
remembered_was_observed kinds options may_occur plan observed before after old new reports separate was builds = elim builds [
  | inl dry ↦ λ c h. in_left c (observed ++ folder_contents old) (folder_contents new) (in_left c observed (folder_contents old) (was c (subst (λ (w : World). has_path (memory_contents w) c ≡ true) dry.2 h)))
  | inr run ↦ executions_observed kinds options may_occur plan observed plan (record { world = old; outcomes = []; failures = before }) reports new after separate (λ c h. in_left c observed (folder_contents old) (was c h)) run.1
]
