-- What an incremental run leaves in contents.
use Rattle.std.specs.Prelude.{◌≡◌, Bool, true, List, [], ◌∷◌, map, Option, Some, None, Ok, Err, IsTrue}
use Rattle.std.specs.List.{AllByRecursion, list_any}
use Rattle.std.proofs.Common.{refl, sym, ap, ap₂, ◌∙◌, inl, inr, arith}
use Rattle.gb_core.specs.Place.{is_under}
use Rattle.gb_folder.specs.Calls.{Call}
use Rattle.gb_folder.specs.Files.{Bytes, Contents, Files, IsFolder, Place, Tearing, are_placed, files_where, is_blocked, is_empty}
use Rattle.gb_folder.specs.Semantics.{AnswersAll}
use Rattle.gb_report.specs.declared.fault.Fault.{Fault}
use Rattle.gb_action.specs.Changes.{Changes}
use Rattle.gb_action.specs.Files.{Trees}
use Rattle.gb_action.specs.declared.output_files.OutputFiles.{OutputFiles}
use Rattle.gb_plan.specs.Task.{Text, is_output_of}
use Rattle.gb_plan.specs.declared.task.Output.{Output}
use Rattle.gb_plan.specs.declared.task.TaskDeclaration.{TaskDeclaration as Task}
use Rattle.gb_semantics.specs.Kinds.{Kinds}
use Rattle.gb_semantics.specs.Made.{blocked_in, made_of, rest_of, with_outputs}
use Rattle.gb_semantics.specs.Memory.{output_files}
use Rattle.gb_semantics.specs.Tree.{trees_of}
use Rattle.gb_semantics.proofs.Lemmas.Ending.{ended_is_made, none_blocked}
use Rattle.gb_semantics.proofs.Lemmas.Making.{made_of_is_right}
use Rattle.gb_records.proofs.Placed.{made_placed}
use Rattle.gb_run.specs.AskingChanges.{GoesOn, IsFitting, observed_of}
use Rattle.gb_run.specs.RunInput.{EndsWell, run_input, whole_run}
use Rattle.gb_run.specs.Doing.{Ending}
use Rattle.gb_run.specs.Failing.{ByChanges}
use Rattle.gb_run.specs.Work.{DoesParts, or_fault}
use Rattle.gb_run.specs.WorkByChanges.{RunsByChanges, increment_of}
use Rattle.gb_run.proofs.Composed.{Ends}
use Rattle.gb_run.proofs.Owned.{owned_again}
use Rattle.gb_run.proofs.RanBy.{done_work_ends}
use Rattle.gb_task.proofs.Part.{first_within, from_same, rest_within}
use Rattle.gb_answers.proofs.Current.{outputs_same}

-- ---- what a run that ended well leaves

-- it is what the actions make, in the emptied output places, with room there
pub made_by_ends : (kinds : Kinds) (task : Task) (changes : List Changes) (files new : Files) (lines : List Text)
    → EndsWell (run_input kinds task (trees_of task files) changes (rest_of task files)) lines new
    → (made : Files) × (made_of kinds task.actions task.values (trees_of task files) task.outputs ≡ Ok made) × (new ≡ with_outputs task files made) × (is_empty (blocked_in (rest_of task files) made) ≡ true)
made_by_ends kinds task changes files new lines well =
    let input = run_input kinds task (trees_of task files) changes (rest_of task files) in
    let law = ended_is_made kinds task.outputs task.values (trees_of task files) (rest_of task files) [] task.actions refl well.no_fault in
    ((whole_run input).held, law.0, well.files, none_blocked (λ (f : Place × Bytes). f.0) (λ (f : Place × Bytes). is_blocked (rest_of task files) f.0) (whole_run input).held law.1)

-- ---- incremental runs

-- calls of an incremental run that went well leave contents in which the run ended well
pub changed_ends : (leaves : Tearing) (kinds : Kinds) (task : Task) (before trees : Trees) (changes : List Changes) (observed : List OutputFiles) (cur new : Contents) (calls : List Call) (lines : List Text)
    → IsFolder cur.files → IsTrue (are_placed cur.files) → GoesOn kinds task before trees changes observed cur.files → AllByRecursion (IsFitting kinds task) task.actions
    → RunsByChanges (increment_of kinds task trees changes observed) calls lines (Ok tt) → AnswersAll leaves cur calls new
    → EndsWell (run_input kinds task trees changes (rest_of task cur.files)) lines new.files
changed_ends leaves kinds task before trees changes observed cur new calls lines folder placed goes_on fitting (inl memory) answers = absurd (let e = memory.2 in (cc))
changed_ends leaves kinds task before trees changes observed cur new calls lines folder placed goes_on fitting (inr ran) answers = by ran.2 ran.3 ran.4
  where
    well : (own : Option Fault) → Ok tt ≡ or_fault (Ok tt) own → Ends (run_input kinds task trees changes (rest_of task cur.files)) (ByChanges cur.files) leaves 0 0 (Ok tt) own lines new.files
        → EndsWell (run_input kinds task trees changes (rest_of task cur.files)) lines new.files
    well None result ended = ended
    well (Some fault) result ended = absurd (let e = result in (cc))

    by : (done : Ending) → DoesParts ran.0.parts calls lines done → Ok tt ≡ or_fault done ran.0.fault → EndsWell (run_input kinds task trees changes (rest_of task cur.files)) lines new.files
    by (Err fault) does result = absurd (let e = result in (cc))
    by (Ok tt) does result =
        well ran.0.fault result
        (done_work_ends kinds task trees changes observed before cur.files goes_on fitting folder placed leaves 0 0 (omega arith) ran.0 lines cur new calls (Ok tt) ran.1 refl does answers
        (λ place is. absurd (let e = is in (cc))))

-- outputs are read alike in the files at them
kept : (test : Place → Bool) (files : Files) (outputs : List Output) → ((q : Place) → list_any (λ (o : Output). is_under q o.place) outputs ≡ true → test q ≡ true)
    → map (observed_of (files_where test files)) outputs ≡ map (observed_of files) outputs
kept test files [] within = refl
kept test files (output ∷ outputs) within =
    ap₂ (λ (fs : Files) (os : List OutputFiles). let first : OutputFiles = record { name = output.name; form = output.form; files = fs } in first ∷ os)
    (from_same test files output.place (first_within test output outputs within)) (kept test files outputs (rest_within test output outputs within))

-- a run starts from any files of which its outputs were read
pub goes_on_here : (kinds : Kinds) (task : Task) (before trees : Trees) (changes : List Changes) (observed : List OutputFiles) (existing files : Files) → IsFolder files → IsTrue (are_placed files)
    → GoesOn kinds task before trees changes observed existing → observed ≡ map (observed_of files) task.outputs → GoesOn kinds task before trees changes observed files
goes_on_here kinds task before trees changes observed existing files folder placed on is = record {
  one_writer = on.one_writer;
  was_made = on.was_made ∙ ap Ok same;
  shows = on.shows;
  exists = is;
  separate = on.separate;
  not_own = on.not_own;
}
  where
    same : output_files task existing ≡ output_files task files
    same =
        sym (owned_again task existing)
        ∙ outputs_same task (output_files task existing) files (made_of_is_right kinds task.outputs task.values before task.actions (output_files task existing) on.was_made).in_order folder.in_order
        (made_placed kinds task.outputs task.values before task.actions (output_files task existing) on.was_made) placed on.not_own
        (kept (is_output_of task) existing task.outputs (λ q under. under) ∙ sym on.exists ∙ is)
