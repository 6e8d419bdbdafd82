-- A run has the same result with the tool's own files next to it as without them.
use Rattle.std.specs.Prelude.{◌≡◌, ◌++◌, Bool, true, false, not, List, [], ◌∷◌, map, length, take, cond, ◌+◌, Option, None, Some, Result, Ok, Err, Contains}
use Rattle.std.specs.List.{AllByRecursion, filter, list_any}
use Rattle.std.proofs.Common.{refl, sym, ap, subst, ◌∙◌, inl, inr}
use Rattle.gb_action.specs.Files.{Trees}
use Rattle.gb_action.specs.Meanings.{Values}
use Rattle.gb_action.specs.declared.reply.Written.{Written}
use Rattle.gb_folder.specs.Files.{Place, Bytes, Files, file_at, files_where, is_blocked, is_own}
use Rattle.gb_folder.proofs.Changes.{file_at-files_where}
use Rattle.gb_semantics.specs.Events.{IsTornInRun, Setting, ExistsInRun}
use Rattle.gb_semantics.specs.Kinds.{Kinds, kind_of}
use Rattle.gb_semantics.specs.Label.{run_of}
use Rattle.gb_semantics.specs.Made.{blocked_in, placed, put_over, rest_of, step_faults}
use Rattle.gb_semantics.specs.Run.{Ended, ends, or_end, step_by, unless_hindered}
use Rattle.gb_semantics.specs.Tree.{trees_of}
use Rattle.gb_semantics.specs.Execution.{IsWritten}
use Rattle.gb_plan.proofs.Tests.{no_longer}
use Rattle.gb_plan.specs.Task.{Text, is_output_of}
use Rattle.gb_plan.specs.declared.task.Action.{Action}
use Rattle.gb_plan.specs.declared.task.Output.{Output}
use Rattle.gb_plan.specs.declared.task.TaskDeclaration.{TaskDeclaration as Task}
use Rattle.gb_report.specs.declared.fault.Fault.TheVariants as faults
use Rattle.gb_run.proofs.AtOutputs.{is_at, placed_at_outputs}
use Rattle.gb_task.proofs.Outside.{kept, source_outside, trees_outside}
use Rattle.gb_task.proofs.Own.{blocked_where, is_kept, kept_at, not_in_way, swapped}

-- ---- two rests that are in the way of the same places

module _ (outputs : List Output) (one other : Files) (same : (q : Place) → is_at outputs q ≡ true → is_blocked one q ≡ is_blocked other q) where
  blocked_same : (files : Files) → AllByRecursion (λ (f : Place × Bytes). is_at outputs f.0 ≡ true) files → blocked_in one files ≡ blocked_in other files
  blocked_same [] all = refl
  blocked_same (f ∷ files) all =
      ap (λ b. map (λ (file : Place × Bytes). file.0) (cond b (f ∷ filter (λ (file : Place × Bytes). is_blocked one file.0) files) (filter (λ (file : Place × Bytes). is_blocked one file.0) files)))
      (same f.0 all.0)
      ∙ elim (is_blocked other f.0) as (λ b. map (λ (file : Place × Bytes). file.0) (cond b (f ∷ filter (λ (file : Place × Bytes). is_blocked one file.0) files) (filter (λ (file : Place × Bytes). is_blocked one file.0) files))
      ≡ map (λ (file : Place × Bytes). file.0) (cond b (f ∷ filter (λ (file : Place × Bytes). is_blocked other file.0) files) (filter (λ (file : Place × Bytes). is_blocked other file.0) files))) [
        | true ↦ ap (λ (ps : List Place). f.0 ∷ ps) (blocked_same files all.1)
        | false ↦ blocked_same files all.1
      ]

  step_same : (held : Files) (made : Result (List Written) Text) → step_by outputs one held made ≡ step_by outputs other held made
  step_same held (Err text) = refl
  step_same held (Ok written) =
      ap (λ (ps : List Place). unless_hindered (step_faults outputs held (placed outputs written) ++ map faults.Blocked ps) (put_over held (placed outputs written)))
      (blocked_same (put_over [] (placed outputs written)) (placed_at_outputs outputs written))

  ends_same : (kinds : Kinds) (values : Values) (trees : Trees) (held : Files) (actions : List Action)
      → ends kinds outputs values trees one held actions ≡ ends kinds outputs values trees other held actions
  ends_same kinds values trees held [] = refl
  ends_same kinds values trees held (action ∷ actions) = λ i.
      or_end action held (step_same held (kinds.makes (kind_of action) action.args values trees) i) (λ more. ends_same kinds values trees more actions i)

-- ---- a task's run

module _ (kinds : Kinds) (task : Task) (out : list_any (λ (o : Output). is_own o.place) task.outputs ≡ false) (files : Files) where
  in_way_same : (q : Place) → is_at task.outputs q ≡ true → is_blocked (rest_of task (files_where is_kept files)) q ≡ is_blocked (rest_of task files) q
  in_way_same q at =
      ap (λ (fs : Files). is_blocked fs q) (swapped (λ place. not (is_output_of task place)) is_kept files)
      ∙ blocked_where is_kept q (λ f own. not_in_way q f (no_longer (is_own q) (kept_at task.outputs out q at)) (is_its_own f own)) (rest_of task files)
    where
      is_its_own : (f : Place) → is_kept f ≡ false → is_own f ≡ true
      is_its_own f e = by (is_own f) e
        where
          by : (b : Bool) → not b ≡ false → b ≡ true
          by true e = refl
          by false e = sym e

  pub run_outside : run_of kinds task (kept files) ≡ run_of kinds task files
  run_outside =
      ap (λ (trees : Trees). ends kinds task.outputs task.values trees (rest_of task (files_where is_kept files)) [] task.actions) (trees_outside task files)
      ∙ ends_same task.outputs (rest_of task (files_where is_kept files)) (rest_of task files) in_way_same kinds task.values (trees_of task files) [] task.actions

  pub written_outside : (place : Place) (bytes : Bytes) → IsWritten kinds task files place bytes → IsWritten kinds task (kept files) place bytes
  written_outside place bytes w = (
    source_outside task files ∙ w.0,
    w.1,
    w.2,
    subst (λ (ended : Ended). Contains (take (length ended.done + 1) task.actions) w.1) (sym run_outside) w.3,
    ap (λ (trees : Trees). kinds.makes (kind_of w.1) w.1.args task.values trees) (trees_outside task files) ∙ w.4,
    w.5,
  )

-- what is in a run is there without the tool's own files, too
module _ (setting : Setting) (task : Task) (out : list_any (λ (o : Output). is_own o.place) task.outputs ≡ false) (files : Files) (place : Place) (at : is_output_of task place ≡ true) where
  pub exists_outside : (left : Option Bytes) → ExistsInRun setting.kinds task files place left → ExistsInRun setting.kinds task (kept files) place left
  exists_outside None exists = tt
  exists_outside (Some bytes) (inl existed) = inl (file_at-files_where files is_kept place ∙ ap (λ b. cond b (file_at files place) None) (kept_at task.outputs out place at) ∙ existed)
  exists_outside (Some bytes) (inr written) = inr (written_outside setting.kinds task out files place bytes written)

  pub torn_outside : (left : Option Bytes) → IsTornInRun setting task files place left → IsTornInRun setting task (kept files) place left
  torn_outside left torn = (torn.0, torn.1, exists_outside torn.0 torn.2, exists_outside torn.1 torn.3, torn.4)
