-- What an incremental run of a task leaves in contents, outside of the tool's own folder.
use Rattle.std.specs.Prelude.{◌≡◌, true, not, List, map, Ok, Err, IsTrue}
use Rattle.std.specs.List.{AllByRecursion}
use Rattle.std.proofs.Common.{sym, ap, subst, ◌∙◌}
use Rattle.gb_folder.specs.Calls.{Call}
use Rattle.gb_folder.specs.Each.{OrStops}
use Rattle.gb_folder.specs.Files.{Contents, Files, IsFolder, Tearing, are_placed, is_empty}
use Rattle.gb_folder.specs.Semantics.{AnswersAll}
use Rattle.gb_action.specs.Changes.{Changes}
use Rattle.gb_action.specs.Files.{Trees}
use Rattle.gb_action.specs.Meanings.{Meanings}
use Rattle.gb_action.specs.declared.output_files.OutputFiles.{OutputFiles}
use Rattle.gb_plan.specs.Ready.{Rows}
use Rattle.gb_plan.specs.Task.{Text, is_output_of}
use Rattle.gb_plan.specs.declared.task.TaskDeclaration.{TaskDeclaration as Task}
use Rattle.gb_semantics.specs.Headline.{Agrees}
use Rattle.gb_semantics.specs.Kinds.{Kinds}
use Rattle.gb_semantics.specs.Made.{blocked_in, made_of, rest_of, with_outputs}
use Rattle.gb_semantics.specs.Tree.{trees_of}
use Rattle.gb_semantics.specs.TrueRecord.{outside}
use Rattle.gb_semantics.proofs.Lemmas.Files.{sorted-where}
use Rattle.gb_run.specs.AskingChanges.{GoesOn, IsFitting, observed_of}
use Rattle.gb_run.specs.Doing.{Ending}
use Rattle.gb_run.proofs.Changed.{changes_of}
use Rattle.gb_run.proofs.Composed.{answered_then}
use Rattle.gb_run.proofs.Owned.{owned_observed}
use Rattle.gb_task.specs.Stages.{DeletesRecord, IsOfRunByChanges, RunByChanges, Silently, Stores, Then, WritesChanges}
use Rattle.gb_task.specs.Truth.{AreSeparate}
use Rattle.gb_task.proofs.Outside.{kept}
use Rattle.gb_task.proofs.Own.{is_kept, kept_at, swapped}
use Rattle.gb_answers.proofs.Changed.{changed_ends, goes_on_here}
use Rattle.gb_answers.proofs.Cleared.{deleted, deleted_folder, deleted_placed, stored_stage}
use Rattle.gb_answers.proofs.Full.{HasRun, ended_outside}

-- outputs are read alike in contents that are the same outside of the tool's own folder
pub observed_alike : (task : Task) (old new : Contents) → AreSeparate task → IsFolder old.files → IsFolder new.files → outside new ≡ outside old
    → map (observed_of old.files) task.outputs ≡ map (observed_of new.files) task.outputs
observed_alike task old new lie folder_old folder_new same =
    sym (owned_observed is_kept old.files folder_old.in_order task.outputs (kept_at task.outputs lie.not_own))
    ∙ ap (λ (c : Contents). map (observed_of c.files) task.outputs) (sym same)
    ∙ owned_observed is_kept new.files folder_new.in_order task.outputs (kept_at task.outputs lie.not_own)

module _ {S : Type 0} (leaves : Tearing) (kinds : Kinds) (meanings : Meanings S) (rows : Rows S) (agrees : Agrees meanings rows kinds) (task : Task) (trees : Trees)
    (changes : List Changes) (observed : List OutputFiles) where
  -- what was written and stored, over contents from which the run starts
  wrote : (before : Trees) (calls : List Call) (lines : List Text) (cur new : Contents) → IsFolder cur.files → IsTrue (are_placed cur.files) → AreSeparate task
      → AllByRecursion (IsFitting kinds task) task.actions → GoesOn kinds task before trees changes observed cur.files
      → Then (WritesChanges meanings rows task trees changes observed) (Stores task (IsOfRunByChanges meanings rows task trees changes observed)) calls lines (Ok tt) → AnswersAll leaves cur calls new
      → HasRun kinds task trees (rest_of task (outside cur).files) (outside new).files × (new.special ≡ cur.special)
  wrote before calls lines cur new folder placed lie fitting goes_on does answers = on does.4 does.7 does.8
    where
      parts : (mid : Contents) × AnswersAll leaves cur does.0 mid × AnswersAll leaves mid does.1 new
      parts = answered_then leaves does.0 does.1 cur new (subst (λ (cs : List Call). AnswersAll leaves cur cs new) does.5 answers)

      on : (mid : Ending) → WritesChanges meanings rows task trees changes observed does.0 does.2 mid
          → OrStops mid (Stores task (IsOfRunByChanges meanings rows task trees changes observed) does.1 does.3 (Ok tt)) does.1 does.3 (Ok tt)
          → HasRun kinds task trees (rest_of task (outside cur).files) (outside new).files × (new.special ≡ cur.special)
      on (Ok done) writes stores =
          let well = changed_ends leaves kinds task before trees changes observed cur parts.0 does.0 does.2 folder placed goes_on fitting (writes.1 kinds agrees) parts.1 in
          let same = stored_stage leaves task (IsOfRunByChanges meanings rows task trees changes observed) does.1 does.3 parts.0 new stores parts.2 in (
            subst (λ (c : Contents). HasRun kinds task trees (rest_of task (outside cur).files) c.files) (sym same)
                (ended_outside kinds task trees changes (rest_of task cur.files) (rest_of task (kept cur.files)) parts.0.files does.2 lie.not_own
                (sorted-where (λ q. not (is_output_of task q)) cur.files folder.in_order) (swapped is_kept (λ q. not (is_output_of task q)) cur.files) well),
            ap (λ (c : Contents). c.special) same ∙ (changes_of (is_output_of task) leaves cur parts.0 does.0 writes.0 parts.1).special,
          )
      on (Err fault) writes stores = absurd (let e = stores.2 in (cc))

  -- An incremental run that went well leaves what the actions make, in the emptied outputs, with room there.
  pub ran_by_changes : (calls : List Call) (lines : List Text) (old new : Contents) → IsFolder old.files → IsTrue (are_placed old.files) → AreSeparate task → trees ≡ trees_of task (outside old).files
      → AllByRecursion (IsFitting kinds task) task.actions → (before : Trees) (existing : Files) → GoesOn kinds task before trees changes observed existing → observed ≡ map (observed_of old.files) task.outputs
      → RunByChanges meanings rows task trees changes observed calls lines (Ok tt) → AnswersAll leaves old calls new
      → (made : Files) × (made_of kinds task.actions task.values (trees_of task (outside old).files) task.outputs ≡ Ok made)
      × ((outside new).files ≡ with_outputs task (outside old).files made) × (is_empty (blocked_in (rest_of task (outside old).files) made) ≡ true)
      × (new.special ≡ old.special)
  ran_by_changes calls lines old new folder placed lie trees_are fitting before existing goes_on observed_are does answers = on does.4 does.7 does.8
    where
      parts : (mid : Contents) × AnswersAll leaves old does.0 mid × AnswersAll leaves mid does.1 new
      parts = answered_then leaves does.0 does.1 old new (subst (λ (cs : List Call). AnswersAll leaves old cs new) does.5 answers)

      on : (mid : Ending) → Silently (DeletesRecord task.path true) does.0 does.2 mid
          → OrStops mid (Then (WritesChanges meanings rows task trees changes observed) (Stores task (IsOfRunByChanges meanings rows task trees changes observed)) does.1 does.3 (Ok tt)) does.1 does.3 (Ok tt)
          → (made : Files) × (made_of kinds task.actions task.values (trees_of task (outside old).files) task.outputs ≡ Ok made)
          × ((outside new).files ≡ with_outputs task (outside old).files made) × (is_empty (blocked_in (rest_of task (outside old).files) made) ≡ true)
          × (new.special ≡ old.special)
      on (Ok done) first second =
          let same = deleted leaves task.path true does.0 old parts.0 first.1 parts.1 in
          let folder_then = deleted_folder leaves task.path true does.0 old parts.0 first.1 parts.1 folder in
          let placed_then = deleted_placed leaves task.path true does.0 old parts.0 first.1 parts.1 placed in
          let goes_then = goes_on_here kinds task before trees changes observed existing parts.0.files folder_then placed_then goes_on (observed_are ∙ observed_alike task old parts.0 lie folder folder_then same) in
          let there = wrote before does.1 does.3 parts.0 new folder_then placed_then lie fitting goes_then second parts.2 in
          let ran : HasRun kinds task (trees_of task (outside old).files) (rest_of task (outside old).files) (outside new).files =
          subst (λ (ts : Trees). HasRun kinds task ts (rest_of task (outside old).files) (outside new).files) trees_are
          (subst (λ (c : Contents). HasRun kinds task trees (rest_of task c.files) (outside new).files) same there.0) in
          (ran.0, ran.1, ran.2, ran.3, there.1 ∙ ap (λ (c : Contents). c.special) same)
      on (Err fault) first second = absurd (let e = second.2 in (cc))
