-- The results of a run determine its states, where no task failed and nothing was stopped.
use Rattle.std.specs.Prelude.{ℕ, ◌≡◌, Bool, true, false, not, cond, ◌++◌, List, [], ◌∷◌, map, Option, Some, None, Result, Ok, Err, bytes_eq, ⊤}
use Rattle.std.specs.List.{list_any, AllZip}
use Rattle.std.proofs.Common.{refl, sym, ap, subst, ◌∙◌, inl, inr}
use Rattle.gb_report.specs.declared.fault.Fault.{Fault}
use Rattle.gb_report.specs.declared.fault.Fault.TheVariants as faults
use Rattle.gb_report.specs.declared.report.Options.{Options}
use Rattle.gb_report.specs.declared.report.Outcome.{Outcome}
use Rattle.gb_report.specs.declared.report.Outcome.TheVariants as outcomes
use Rattle.gb_report.specs.declared.report.Report.{Report}
use Rattle.gb_report.specs.declared.report.TaskReport.{TaskReport}
use Rattle.gb_report.specs.Outcome.{is_failed}
use Rattle.gb_folder.specs.Files.{Bytes, Contents, Files, IsFolder, Place, Tearing, file_at, files_where, is_own, with_file, without}
use Rattle.gb_plan.specs.Graph.{Plan, some_overlap}
use Rattle.gb_plan.specs.Task.{is_output_of, output_places}
use Rattle.gb_plan.specs.declared.plan.Planned.{Planned}
use Rattle.gb_plan.specs.declared.task.TaskDeclaration.{TaskDeclaration as Task}
use Rattle.gb_plan.proofs.Places.{separate_places, overlap_tail, out_of}
use Rattle.gb_plan.proofs.Tests.{none_left, none_right, not_false}
use Rattle.gb_semantics.specs.declared.events.Event.{Event}
use Rattle.gb_semantics.specs.declared.events.Event.TheVariants as events
use Rattle.gb_semantics.specs.declared.events.Answer.{Answer}
use Rattle.gb_semantics.specs.declared.events.Answer.TheVariants as answers
use Rattle.gb_semantics.specs.declared.events.Invocation.{Invocation}
use Rattle.gb_semantics.specs.Kinds.{Kinds}
use Rattle.gb_semantics.specs.Label.{Moment}
use Rattle.gb_semantics.specs.Made.{with_outputs}
use Rattle.gb_semantics.specs.Memory.{Memory, World, folder_contents}
use Rattle.gb_semantics.specs.TrueRecord.{AreCollisionFree, outside}
use Rattle.gb_semantics.specs.Execution.{Builds, Guard, HasEnded, Leaves, May, Rules, WorldState, Execution, Executions, memory_after, moment_after, world_with}
use Rattle.gb_semantics.specs.Edits.{IsStopped, PutStep, RemoveStep, Shown}
use Rattle.gb_semantics.specs.Events.{HasPlan, IsBuild, Setting, State, Step, has_failure, may_occur, own_files, shown_in, world_in}
use Rattle.gb_semantics.specs.Headline.{GoesThrough, IsClear, StillClear, contents_outside, is_of_device, observed_with}
use Rattle.gb_semantics.specs.Every.{UnconditionalRun, always, contents_of_all}
use Rattle.gb_semantics.specs.Pinned.{HaveOnePlan, IsSettled, StatesAreOne}
use Rattle.gb_semantics.proofs.Existing.{rules_of, existing}
use Rattle.gb_semantics.proofs.Lemmas.Clear.{Among, separate_of_fewer, in_left, in_one, in_right, later_separate, places_of, rest_leave, existed}
use Rattle.gb_semantics.proofs.Lemmas.Every.{joined, up_to_here}
use Rattle.gb_semantics.proofs.Lemmas.Files.{at-where, at-with, same_files, sorted-where, sorted-with}
use Rattle.gb_semantics.proofs.Lemmas.Plain.{Spreads, clear_spreads, plain}
use Rattle.std.specs.Ordering.{eq_by_cmp}
use Rattle.gb_core.specs.Lists.{byte_order}
use Rattle.std.specs.FinMap.Entries.{is_sorted}

-- ---- What an outcome leaves

abbrev files_or : Files → Result Files (List Fault) → Files
files_or other (Ok files) = files
files_or other (Err fault) = other

ended_one : (kinds : Kinds) (task : Task) (old one other : World) → HasEnded kinds task old one → HasEnded kinds task old other → one ≡ other
ended_one kinds task old one other a b =
    let same : a.0 ≡ b.0 = ap (files_or []) (sym a.1 ∙ b.1) in
    a.2 ∙ ap (λ (files : Files). world_with task old files (memory_after task old.memory (with_outputs task old.folder.files files))) same ∙ sym b.2

leaves_one : (kinds : Kinds) (options : Options) (task : Task) (old : World) (outcome : Outcome) (one other : World) → is_failed outcome ≡ false
    → Leaves kinds options task old outcome one → Leaves kinds options task old outcome other → one ≡ other
leaves_one kinds options task old outcomes.Executed one other well (inl a) (inl b) = a.1 ∙ sym b.1
leaves_one kinds options task old outcomes.Executed one other well (inl a) (inr b) = not_false (sym a.0 ∙ b.0)
leaves_one kinds options task old outcomes.Executed one other well (inr a) (inl b) = not_false (sym b.0 ∙ a.0)
leaves_one kinds options task old outcomes.Executed one other well (inr a) (inr b) = ended_one kinds task old one other a.1 b.1
leaves_one kinds options task old outcomes.UpToDate one other well a b = a ∙ sym b
leaves_one kinds options task old outcomes.Skipped one other well a b = a ∙ sym b
leaves_one kinds options task old outcomes.NoSource one other well a b = a ∙ sym b
leaves_one kinds options task old outcomes.NotRun one other well a b = a ∙ sym b
leaves_one kinds options task old (outcomes.Failed fault) one other well a b = not_false well

execution_leaves : (rules : Rules) (moment : Moment) (planned : Planned) (report : TaskReport) (new : WorldState) → Execution rules moment planned report new
    → Leaves rules.kinds rules.options planned.task moment.world report.outcome new.world
execution_leaves rules moment planned report new execution = elim execution.2 [
  | inl starts ↦ starts.1.leaves
  | inr passed ↦ subst (λ (o : Outcome). Leaves rules.kinds rules.options planned.task moment.world o new.world) (sym passed.1.outcome) passed.1.unchanged
]

-- ---- Executions

module _ (kinds : Kinds) (options : Options) (plan : Plan) (may other_may : May) (assumed : Guard) (spreads : Spreads assumed) where
  executions_one : (observed other_observed : List Bytes) (rest : List Planned) (moment real : Moment) (reports : List TaskReport) (new left : World) (after later : ℕ)
      → moment.world ≡ real.world → some_overlap (places_of rest) ≡ false → list_any (λ task. is_failed task.outcome) reports ≡ false
      → assumed (observed ++ folder_contents real.world ++ folder_contents left)
      → Executions (rules_of kinds options may plan) assumed observed rest moment reports (existing new after)
      → Executions (rules_of kinds options other_may plan) always other_observed rest real reports (existing left later) → new ≡ left
  executions_one observed other_observed [] moment real [] new left after later same separate well given executions reals = executions.0 ∙ same ∙ sym reals.0
  executions_one observed other_observed [] moment real (report ∷ reports) new left after later same separate well given executions reals = absurd executions
  executions_one observed other_observed (planned ∷ rest) moment real [] new left after later same separate well given executions reals = absurd executions
  executions_one observed other_observed (planned ∷ rest) moment real (report ∷ reports) new left after later same separate well given executions reals =
      executions_one (observed ++ folder_contents moment.world) (other_observed ++ folder_contents real.world) rest (moment_after moment report executions.0) (moment_after real report reals.0) reports new left after later
      next (overlap_tail (output_places planned.task) (places_of rest) separate)
      (none_right (is_failed report.outcome) (list_any (λ task. is_failed task.outcome) reports) well)
      (subst (λ (world : World). assumed ((observed ++ folder_contents world) ++ folder_contents reals.0.world ++ folder_contents left)) (sym same)
      (spreads (before ++ folder_contents left) (before ++ folder_contents reals.0.world ++ folder_contents left) between given))
      executions.2 reals.2
    where
      before : List Bytes
      before = observed ++ folder_contents real.world

      next : executions.0.world ≡ reals.0.world
      next = leaves_one kinds options planned.task real.world report.outcome executions.0.world reals.0.world
          (none_left (is_failed report.outcome) (list_any (λ task. is_failed task.outcome) reports) well)
          (subst (λ (world : World). Leaves kinds options planned.task world report.outcome executions.0.world) same
          (execution_leaves (rules_of kinds options may plan) moment planned report executions.0 (executions.1.execution
          (subst (λ (world : World). assumed (observed ++ folder_contents world)) (sym same)
          (spreads (before ++ folder_contents left) before (λ c e. in_left c before (folder_contents left) e) given)))))
          (execution_leaves (rules_of kinds options other_may plan) real planned report reals.0 (reals.1.execution tt))

      later_leave : files_where (is_output_of planned.task) left.folder.files ≡ files_where (is_output_of planned.task) reals.0.world.folder.files
      later_leave = rest_leave kinds options other_may plan always (is_output_of planned.task) (other_observed ++ folder_contents real.world) rest (moment_after real report reals.0) reports left later
          (later_separate planned.task rest (λ q e. separate_places q (output_places planned.task) (places_of rest) separate (sym (out_of planned.task q) ∙ e))) reals.2

      between : Among (before ++ folder_contents reals.0.world ++ folder_contents left) (before ++ folder_contents left)
      between c h = elim (in_one c (before ++ folder_contents reals.0.world) (folder_contents left) h) [
        | inr last ↦ in_right c before (folder_contents left) last
        | inl earlier ↦ elim (in_one c before (folder_contents reals.0.world) earlier) [
          | inl was ↦ in_left c before (folder_contents left) was
          | inr mid ↦ elim (existed (is_output_of planned.task) real.world.folder.files reals.0.world.folder.files left.folder.files reals.1.files later_leave c mid) [
            | inl old ↦ in_left c before (folder_contents left) (in_right c observed (folder_contents real.world) old)
            | inr last ↦ in_right c before (folder_contents left) last
          ]
        ]
      ]

-- ---- Files outside

abbrev not_own : Place → Bool
not_own place = not (is_own place)

module _ (one other : Files) (sorted : is_sorted byte_order one ≡ true) (other_sorted : is_sorted byte_order other ≡ true) where
  -- files that return the same outside are the same there
  alike : ((q : Place) → not_own q ≡ true → file_at one q ≡ file_at other q) → files_where not_own one ≡ files_where not_own other
  alike same = same_files (files_where not_own one) (files_where not_own other) (sorted-where not_own one sorted) (sorted-where not_own other other_sorted)
      (λ q. at-where not_own one q ∙ by q (not_own q) refl ∙ sym (at-where not_own other q))
    where
      by : (q : Place) (b : Bool) → not_own q ≡ b → cond b (file_at one q) None ≡ cond b (file_at other q) None
      by q true e = same q e
      by q false e = refl

-- and the other way round
answers_alike : (one other : Files) → files_where not_own one ≡ files_where not_own other → (q : Place) → not_own q ≡ true → file_at one q ≡ file_at other q
answers_alike one other same q e =
    sym (ap (λ b. cond b (file_at one q) None) e) ∙ sym (at-where not_own one q) ∙ ap (λ (files : Files). file_at files q) same ∙ at-where not_own other q
    ∙ ap (λ b. cond b (file_at other q) None) e

-- ---- One event

-- the worlds of two states with these contents and what is remembered
worlds_same : (one other : State) → outside one.contents ≡ outside other.contents → one.remembered ≡ other.remembered → world_in one ≡ world_in other
worlds_same one other contents remembered =
    ap (λ (folder : Contents). let world : World = record { folder = folder; memory = one.remembered } in world) contents
    ∙ ap (λ (memory : Memory). let world : World = record { folder = outside other.contents; memory = memory } in world) remembered

-- two folders with the same files and special files outside the own places
outsides_same : (one other : Contents) → files_where not_own one.files ≡ files_where not_own other.files → one.special ≡ other.special → outside one ≡ outside other
outsides_same one other files special =
    ap (λ (fs : Files). let folder : Contents = record { files = fs; special = one.special } in folder) files
    ∙ ap (λ (os : List (List ℕ)). let folder : Contents = record { files = files_where not_own other.files; special = os } in folder) special

module _ (old real : State) (same : world_in old ≡ world_in real) (folder : IsFolder old.contents.files) (real_folder : IsFolder real.contents.files) where
  memory_same : old.remembered ≡ real.remembered
  memory_same = ap (λ (world : World). world.memory) same

  special_same : old.contents.special ≡ real.contents.special
  special_same = ap (λ (world : World). world.folder.special) same

  files_same : (q : Place) → not_own q ≡ true → file_at old.contents.files q ≡ file_at real.contents.files q
  files_same = answers_alike old.contents.files real.contents.files (ap (λ (world : World). world.folder.files) same)

  -- where nothing changes
  kept_one : (new left : State) → new.contents ≡ old.contents → new.remembered ≡ old.remembered → left.contents ≡ real.contents → left.remembered ≡ real.remembered → world_in new ≡ world_in left
  kept_one new left contents remembered real_contents real_remembered =
      worlds_same new old (ap outside contents) remembered ∙ same ∙ sym (worlds_same left real (ap outside real_contents) real_remembered)

  -- where the same is done to both
  done_one : (change : Files → Files) → ((files : Files) → is_sorted byte_order files ≡ true → is_sorted byte_order (change files) ≡ true)
      → ((one other : Files) → ((q : Place) → not_own q ≡ true → file_at one q ≡ file_at other q) → (q : Place) → not_own q ≡ true → file_at (change one) q ≡ file_at (change other) q)
      → (new left : State) → new.contents ≡ record old.contents { files = change old.contents.files }
      → left.contents ≡ record real.contents { files = change real.contents.files } → new.remembered ≡ left.remembered → world_in new ≡ world_in left
  done_one change sorted alike_then new left contents real_contents remembered =
      worlds_same new left
      (ap outside contents
      ∙ outsides_same (record old.contents { files = change old.contents.files }) (record real.contents { files = change real.contents.files })
      (alike (change old.contents.files) (change real.contents.files) (sorted old.contents.files folder.in_order) (sorted real.contents.files real_folder.in_order)
      (alike_then old.contents.files real.contents.files files_same)) special_same
      ∙ sym (ap outside real_contents))
      remembered

put_alike : (place : Place) (bytes : Bytes) (one other : Files) → ((q : Place) → not_own q ≡ true → file_at one q ≡ file_at other q)
    → (q : Place) → not_own q ≡ true → file_at (with_file one place bytes) q ≡ file_at (with_file other place bytes) q
put_alike place bytes one other same q e =
    at-with one place bytes q ∙ ap (λ (rest : Option Bytes). cond (eq_by_cmp byte_order q place) (Some bytes) rest) (same q e) ∙ sym (at-with other place bytes q)

where_alike : (test : Place → Bool) (one other : Files) → ((q : Place) → not_own q ≡ true → file_at one q ≡ file_at other q)
    → (q : Place) → not_own q ≡ true → file_at (files_where test one) q ≡ file_at (files_where test other) q
where_alike test one other same q e = at-where test one q ∙ ap (λ (rest : Option Bytes). cond (test q) rest None) (same q e) ∙ sym (at-where test other q)

-- a refused edit that the device did not stop changes nothing
device_not : (place : Place) (fault : Fault) → is_of_device fault ≡ false → fault ≡ faults.Device place → ⊥
device_not place fault not_device is = not_false (sym (ap is_of_device is) ∙ not_device)

module _ (may_leave : Tearing) (place : Place) (next : Option Bytes) (old : Shown) (fault : Fault) (new : Shown) (not_device : is_of_device fault ≡ false) where
  stopped_kept : IsStopped may_leave place next old fault new → new.contents ≡ old.contents
  stopped_kept (inl memory) = memory.0
  stopped_kept (inr torn) = absurd (device_not place fault not_device torn.reported)

  put_kept : (bytes : Bytes) → PutStep may_leave place bytes old (answers.Refused fault) new → next ≡ Some bytes → new.contents ≡ old.contents
  put_kept bytes (inl stopped) is = stopped_kept (subst (λ (n : Option Bytes). IsStopped may_leave place n old fault new) (sym is) stopped)
  put_kept bytes (inr (inl no_place)) is = no_place.0
  put_kept bytes (inr (inr too_large)) is = too_large.0

  remove_kept : RemoveStep may_leave place old (answers.Refused fault) new → next ≡ None → new.contents ≡ old.contents
  remove_kept (inl stopped) is = stopped_kept (subst (λ (n : Option Bytes). IsStopped may_leave place n old fault new) (sym is) stopped)
  remove_kept (inr (inl no_place)) is = no_place.0
  remove_kept (inr (inr missing)) is = missing.0

module _ (setting : Setting) (one_plan : HaveOnePlan setting) (assumed : Guard) (spreads : Spreads assumed) where
  runs_one : (options : Options) (plan : Plan) (may other_may : May) (observed other_observed : List Bytes) (old real new left : World) (first real_first after later : ℕ) (reports : List TaskReport)
      → old ≡ real → some_overlap (places_of plan) ≡ false → list_any (λ task. is_failed task.outcome) reports ≡ false
      → assumed (observed ++ folder_contents real ++ folder_contents left)
      → Builds (rules_of setting.kinds options may plan) assumed observed (existing old first) reports (existing new after)
      → Builds (rules_of setting.kinds options other_may plan) always other_observed (existing real real_first) reports (existing left later) → new ≡ left
  runs_one options plan may other_may observed other_observed old real new left first real_first after later reports same separate well given (inl dry) (inl real_dry) = dry.2 ∙ same ∙ sym real_dry.2
  runs_one options plan may other_may observed other_observed old real new left first real_first after later reports same separate well given (inl dry) (inr run) = not_false (sym dry.0 ∙ run.0)
  runs_one options plan may other_may observed other_observed old real new left first real_first after later reports same separate well given (inr run) (inl dry) = not_false (sym dry.0 ∙ run.0)
  runs_one options plan may other_may observed other_observed old real new left first real_first after later reports same separate well given (inr run) (inr real_run) =
      executions_one setting.kinds options plan may other_may assumed spreads observed other_observed plan
      (record { world = old; outcomes = []; failures = first }) (record { world = real; outcomes = []; failures = real_first }) reports new left after later
      same separate well given run.1 real_run.1

  built_one : (observed other_observed : List Bytes) (old real new left : State) (invocation : Invocation) (report : Report) → world_in old ≡ world_in real → has_failure report ≡ false
      → assumed (observed ++ folder_contents (world_in real) ++ folder_contents (world_in left))
      → IsBuild setting assumed observed old invocation report new → IsBuild setting always other_observed real invocation report left → world_in new ≡ world_in left
  built_one observed other_observed old real new left invocation report same well given built real_built =
      let plans : built.plan ≡ real_built.plan =
      one_plan (outside real.contents) invocation built.plan real_built.plan
      (subst (λ (world : World). HasPlan setting world.folder invocation built.plan) same built.planned) real_built.planned in
      runs_one invocation.options real_built.plan (may_occur setting (own_files old.contents) invocation.options) (may_occur setting (own_files real.contents) invocation.options) observed other_observed
      (world_in old) (world_in real) (world_in new) (world_in left) old.failures real.failures new.failures left.failures report.tasks same
      real_built.planned.planned.sound.outputs_separate well given
      (subst (λ (plan : Plan). Builds (rules_of setting.kinds invocation.options (may_occur setting (own_files old.contents) invocation.options) plan) assumed observed
      (existing (world_in old) old.failures) report.tasks (existing (world_in new) new.failures)) plans built.builds)
      real_built.builds

  step_one : (observed other_observed : List Bytes) (old real new left : State) (event : Event) (answer : Answer) → world_in old ≡ world_in real
      → IsFolder old.contents.files → IsFolder real.contents.files → IsSettled event answer
      → assumed (observed ++ folder_contents (world_in real) ++ folder_contents (world_in left))
      → Step setting assumed observed old event answer new → Step setting always other_observed real event answer left → world_in new ≡ world_in left
  step_one observed other_observed old real new left (events.Put place bytes) answers.Edited same folder real_folder settled given s r =
      done_one old real same folder real_folder (λ files. with_file files place bytes) (λ files sorted. sorted-with files place bytes sorted) (put_alike place bytes) new left s.0.3 r.0.3
      (s.1 ∙ memory_same old real same folder real_folder ∙ sym r.1)
  step_one observed other_observed old real new left (events.Put place bytes) (answers.Refused fault) same folder real_folder settled given s r =
      kept_one old real same folder real_folder new left
      (put_kept setting.may_leave place (Some bytes) (shown_in old) fault (shown_in new) settled bytes s.0 refl) s.1
      (put_kept setting.may_leave place (Some bytes) (shown_in real) fault (shown_in left) settled bytes r.0 refl) r.1
  step_one observed other_observed old real new left (events.Put place bytes) (answers.Built report) same folder real_folder settled given s r = absurd s.0
  step_one observed other_observed old real new left (events.Put place bytes) (answers.NotBuilt fault) same folder real_folder settled given s r = absurd s.0
  step_one observed other_observed old real new left (events.Remove place) answers.Edited same folder real_folder settled given s r =
      done_one old real same folder real_folder (λ files. without files place) (λ files sorted. sorted-where (λ other. not (bytes_eq other place)) files sorted)
      (where_alike (λ other. not (bytes_eq other place))) new left s.0.2 r.0.2
      (s.1 ∙ memory_same old real same folder real_folder ∙ sym r.1)
  step_one observed other_observed old real new left (events.Remove place) (answers.Refused fault) same folder real_folder settled given s r =
      kept_one old real same folder real_folder new left
      (remove_kept setting.may_leave place None (shown_in old) fault (shown_in new) settled s.0 refl) s.1
      (remove_kept setting.may_leave place None (shown_in real) fault (shown_in left) settled r.0 refl) r.1
  step_one observed other_observed old real new left (events.Remove place) (answers.Built report) same folder real_folder settled given s r = absurd s.0
  step_one observed other_observed old real new left (events.Remove place) (answers.NotBuilt fault) same folder real_folder settled given s r = absurd s.0
  step_one observed other_observed old real new left events.Lost answers.Edited same folder real_folder settled given s r =
      done_one old real same folder real_folder (files_where not_own) (sorted-where not_own) (where_alike not_own) new left s.0 r.0 (s.1 ∙ sym r.1)
  step_one observed other_observed old real new left events.Lost (answers.Refused fault) same folder real_folder settled given s r = absurd settled
  step_one observed other_observed old real new left events.Lost (answers.Built report) same folder real_folder settled given s r = absurd s.0
  step_one observed other_observed old real new left events.Lost (answers.NotBuilt fault) same folder real_folder settled given s r = absurd s.0
  step_one observed other_observed old real new left (events.Invoke invocation) (answers.Built report) same folder real_folder settled given s r =
      built_one observed other_observed old real new left invocation report same settled given s r
  step_one observed other_observed old real new left (events.Invoke invocation) (answers.NotBuilt fault) same folder real_folder settled given s r =
      kept_one old real same folder real_folder new left s.1 s.2 r.1 r.2
  step_one observed other_observed old real new left (events.Invoke invocation) answers.Edited same folder real_folder settled given s r = absurd s
  step_one observed other_observed old real new left (events.Invoke invocation) (answers.Refused fault) same folder real_folder settled given s r = absurd s

-- ---- A run

module _ (setting : Setting) (one_plan : HaveOnePlan setting) where
  states_one : (clear : Type 0) (observed : List Bytes) (old real : State) (states reals : List State) (all : List Event) (reported : List Answer) (end left : Shown) → world_in old ≡ world_in real
      → IsFolder old.contents.files → IsFolder real.contents.files → AllZip IsSettled all reported → clear
      → GoesThrough setting clear observed old states all reported end → UnconditionalRun setting real reals all reported left
      → AreCollisionFree setting.digest (observed ++ contents_of_all (real ∷ reals)) → map world_in states ≡ map world_in reals
  states_one clear observed old real [] [] [] [] end left same folder real_folder settled is_clear run reals separate = refl
  states_one clear observed old real (next ∷ states) (then ∷ others) (event ∷ rest) (answer ∷ more) end left same folder real_folder settled is_clear run reals separate =
      ap (λ (world : World). world ∷ map world_in states) next_one
      ∙ ap (λ (worlds : List World). world_in then ∷ worlds)
      (states_one (StillClear setting clear old (observed_with observed old next)) (observed ++ contents_outside old.contents) next then states others rest more end left next_one
      (run.2 (is_clear, here_too)).is_folder reals.2.is_folder settled.1 (is_clear, here_too) run.3 reals.3 later)
    where
      here_observed : List Bytes
      here_observed = contents_outside real.contents

      here : IsClear setting old.remembered (observed ++ here_observed ++ contents_outside then.contents)
      here = inr (separate_of_fewer setting.digest (observed ++ contents_of_all (real ∷ then ∷ others)) (observed ++ here_observed ++ contents_outside then.contents)
          (up_to_here observed here_observed (contents_outside then.contents) (contents_of_all others)) separate)

      next_one : world_in next ≡ world_in then
      next_one = step_one setting one_plan (StillClear setting clear old) (clear_spreads setting clear old) observed [] old real next then event answer same folder real_folder settled.0
          (is_clear, here) run.1 (reals.1 [])

      here_too : IsClear setting old.remembered (observed_with observed old next)
      here_too = subst (λ (world : World). IsClear setting old.remembered (observed ++ folder_contents world ++ contents_outside next.contents)) (sym same)
          (subst (λ (world : World). IsClear setting old.remembered (observed ++ here_observed ++ folder_contents world)) (sym next_one) here)

      later : AreCollisionFree setting.digest ((observed ++ contents_outside old.contents) ++ contents_of_all (then ∷ others))
      later = subst (λ (world : World). AreCollisionFree setting.digest ((observed ++ folder_contents world) ++ contents_of_all (then ∷ others))) (sym same)
          (separate_of_fewer setting.digest (observed ++ contents_of_all (real ∷ then ∷ others)) ((observed ++ here_observed) ++ contents_of_all (then ∷ others))
          (joined observed here_observed (contents_of_all (then ∷ others))) separate)
  states_one clear observed old real [] [] [] (answer ∷ more) end left same folder real_folder settled is_clear run reals separate = absurd run
  states_one clear observed old real [] [] (event ∷ rest) [] end left same folder real_folder settled is_clear run reals separate = absurd run
  states_one clear observed old real [] [] (event ∷ rest) (answer ∷ more) end left same folder real_folder settled is_clear run reals separate = absurd run
  states_one clear observed old real [] (then ∷ others) [] [] end left same folder real_folder settled is_clear run reals separate = absurd reals
  states_one clear observed old real [] (then ∷ others) [] (answer ∷ more) end left same folder real_folder settled is_clear run reals separate = absurd run
  states_one clear observed old real [] (then ∷ others) (event ∷ rest) [] end left same folder real_folder settled is_clear run reals separate = absurd run
  states_one clear observed old real [] (then ∷ others) (event ∷ rest) (answer ∷ more) end left same folder real_folder settled is_clear run reals separate = absurd run
  states_one clear observed old real (next ∷ states) [] [] [] end left same folder real_folder settled is_clear run reals separate = absurd run
  states_one clear observed old real (next ∷ states) [] [] (answer ∷ more) end left same folder real_folder settled is_clear run reals separate = absurd run
  states_one clear observed old real (next ∷ states) [] (event ∷ rest) [] end left same folder real_folder settled is_clear run reals separate = absurd run
  states_one clear observed old real (next ∷ states) [] (event ∷ rest) (answer ∷ more) end left same folder real_folder settled is_clear run reals separate = absurd reals
  states_one clear observed old real (next ∷ states) (then ∷ others) [] [] end left same folder real_folder settled is_clear run reals separate = absurd run
  states_one clear observed old real (next ∷ states) (then ∷ others) [] (answer ∷ more) end left same folder real_folder settled is_clear run reals separate = absurd run
  states_one clear observed old real (next ∷ states) (then ∷ others) (event ∷ rest) [] end left same folder real_folder settled is_clear run reals separate = absurd run

pub one : (setting : Setting) → StatesAreOne setting
one setting one_plan start exists states others all reported end left settled went other_went separate =
    states_one setting one_plan ⊤ _ start start states others all reported end left refl exists.is_folder exists.is_folder settled tt went
    (plain setting start others all reported left other_went separate) separate
