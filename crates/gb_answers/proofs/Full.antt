-- What a run of a task leaves in contents, outside of the tool's own folder.
use Rattle.std.specs.Prelude.{◌≡◌, Bool, true, false, ◌||◌, cond, List, [], ◌∷◌, Option, Some, None, Result, Ok, Err}
use Rattle.std.specs.List.{list_any}
use Rattle.std.specs.FinMap.Entries.{is_sorted}
use Rattle.std.proofs.Common.{refl, sym, ap, subst, ◌∙◌, inl, inr, arith}
use Rattle.gb_core.specs.Lists.{byte_order}
use Rattle.gb_core.specs.Place.{is_beneath}
use Rattle.gb_folder.specs.Calls.{Call}
use Rattle.gb_folder.specs.Each.{OrStops}
use Rattle.gb_folder.specs.Files.{Bytes, Contents, Files, IsFolder, Place, Tearing, file_at, is_blocked, is_empty, is_own}
use Rattle.gb_folder.specs.Semantics.{AnswersAll}
use Rattle.gb_report.specs.declared.fault.Fault.{Fault}
use Rattle.gb_action.specs.Changes.{Changes}
use Rattle.gb_action.specs.Files.{Trees}
use Rattle.gb_action.specs.Meanings.{Meanings}
use Rattle.gb_plan.specs.Ready.{Rows}
use Rattle.gb_plan.specs.Task.{Text, is_output_of}
use Rattle.gb_plan.specs.declared.task.Action.{Action}
use Rattle.gb_plan.specs.declared.task.Output.{Output}
use Rattle.gb_plan.specs.declared.task.TaskDeclaration.{TaskDeclaration as Task}
use Rattle.gb_plan.proofs.Tests.{neither, none_left, none_right, not_true}
use Rattle.gb_semantics.specs.Headline.{Agrees}
use Rattle.gb_semantics.specs.Kinds.{Kinds, kind_of}
use Rattle.gb_semantics.specs.Made.{blocked_in, made_of, put_over, put_result, rest_of, with_outputs}
use Rattle.gb_semantics.specs.Tree.{trees_of}
use Rattle.gb_semantics.specs.TrueRecord.{outside}
use Rattle.gb_semantics.proofs.Lemmas.Ending.{ended_is_made, none_blocked}
use Rattle.gb_semantics.proofs.Lemmas.Files.{at-put_over, at-where, or_else, same_files, sorted-put_over, sorted-where}
use Rattle.gb_semantics.proofs.Lemmas.Making.{IsRight, made_of_is_right}
use Rattle.gb_semantics.proofs.Lemmas.Truth.{fewer_block}
use Rattle.gb_run.specs.RunInput.{EndsWell, run_input, whole_run}
use Rattle.gb_run.specs.Doing.{Ending}
use Rattle.gb_run.specs.Failing.{InFull}
use Rattle.gb_run.specs.Work.{AreAtOutputs, DoesParts, RunsInFull, Work, or_fault, or_stop, part_of, with_part, work_of}
use Rattle.gb_run.proofs.Changed.{changes_of}
use Rattle.gb_run.proofs.Composed.{Ends, answered_then, done_work_ends}
use Rattle.gb_task.specs.Reading.{added_of}
use Rattle.gb_task.specs.Stages.{Clears, FullRun, IsOfFullRun, Stores, Then, WritesAll}
use Rattle.gb_task.specs.Truth.{AreSeparate}
use Rattle.gb_task.proofs.Outside.{kept}
use Rattle.gb_task.proofs.Own.{is_kept, kept_at}
use Rattle.gb_answers.proofs.Cleared.{cleared, cleared_folder, stored_stage}

-- ---- a run in full

-- the work does not depend on the rest of the folder
same_work : (kinds : Kinds) (task : Task) (trees : Trees) (changes : List Changes) (rest held : Files) (actions : List Action)
    → work_of (run_input kinds task trees changes []) held actions ≡ work_of (run_input kinds task trees changes rest) held actions
same_work kinds task trees changes rest held [] = refl
same_work kinds task trees changes rest held (action ∷ actions) = on (put_result task.outputs held (kinds.makes (kind_of action) action.args task.values trees)) (λ more. same_work kinds task trees changes rest more actions)
  where
    on : (r : Result Files (List Fault)) → ((more : Files) → work_of (run_input kinds task trees changes []) more actions ≡ work_of (run_input kinds task trees changes rest) more actions)
        → or_stop r (λ more. with_part (part_of (run_input kinds task trees changes []) action) (work_of (run_input kinds task trees changes []) more actions))
        ≡ or_stop r (λ more. with_part (part_of (run_input kinds task trees changes rest) action) (work_of (run_input kinds task trees changes rest) more actions))
    on (Ok more) same = ap (with_part (part_of (run_input kinds task trees changes []) action)) (same more)
    on (Err hindrances) same = refl

-- calls of a run in full that went well leave contents in which the run ended well
pub ended_in_full : (leaves : Tearing) (kinds : Kinds) (task : Task) (trees : Trees) (changes : List Changes) (calls : List Call) (lines : List Text) (old new : Contents) → IsFolder old.files
    → RunsInFull (run_input kinds task trees changes []) calls lines (Ok tt) → AnswersAll leaves old calls new
    → EndsWell (run_input kinds task trees changes old.files) lines new.files
ended_in_full leaves kinds task trees changes calls lines old new folder (inl memory) answers = absurd (let e = memory.2 in (cc))
ended_in_full leaves kinds task trees changes calls lines old new folder (inr ran) answers = by ran.0 ran.1 ran.2
  where
    well : (own : Option Fault) → Ok tt ≡ or_fault (Ok tt) own → Ends (run_input kinds task trees changes old.files) InFull leaves 0 0 (Ok tt) own lines new.files
        → EndsWell (run_input kinds task trees changes old.files) lines new.files
    well None result ended = ended
    well (Some fault) result ended = absurd (let e = result in (cc))

    by : (done : Ending) → DoesParts (work_of (run_input kinds task trees changes []) [] task.actions).parts calls lines done
        → Ok tt ≡ or_fault done (work_of (run_input kinds task trees changes []) [] task.actions).fault → EndsWell (run_input kinds task trees changes old.files) lines new.files
    by (Err fault) does result = absurd (let e = result in (cc))
    by (Ok tt) does result =
        let is = same_work kinds task trees changes old.files [] task.actions in
        well (work_of (run_input kinds task trees changes old.files) [] task.actions).fault (result ∙ ap (λ (w : Work). or_fault (Ok tt) w.fault) is)
        (done_work_ends leaves (run_input kinds task trees changes old.files) 0 0 old new calls lines (Ok tt) folder.in_order refl (omega arith) (λ place e. absurd (let d = e in (cc)))
        (subst (λ (w : Work). DoesParts w.parts calls lines (Ok tt)) is does) answers)

pub written_in_full : (leaves : Tearing) (kinds : Kinds) (task : Task) (trees : Trees) (changes : List Changes) (calls : List Call) (lines : List Text) (old new : Contents) → IsFolder old.files
    → AreAtOutputs task calls → RunsInFull (run_input kinds task trees changes []) calls lines (Ok tt) → AnswersAll leaves old calls new
    → EndsWell (run_input kinds task trees changes old.files) lines new.files × (new.special ≡ old.special)
written_in_full leaves kinds task trees changes calls lines old new folder at runs answers = (
  ended_in_full leaves kinds task trees changes calls lines old new folder runs answers,
  (changes_of (is_output_of task) leaves old new calls at answers).special,
)

-- ---- what a run that ended well leaves outside

-- what is at outputs is not the tool's own, so it may be put there first or last
kept_over : (task : Task) (held made : Files) → list_any (λ (o : Output). is_own o.place) task.outputs ≡ false → is_sorted byte_order held ≡ true → IsRight task.outputs made
    → kept (put_over held made) ≡ put_over (kept held) made
kept_over task held made out sorted right =
    same_files (kept (put_over held made)) (put_over (kept held) made) (sorted-where is_kept (put_over held made) (sorted-put_over held made sorted))
    (sorted-put_over (kept held) made (sorted-where is_kept held sorted))
    (λ q. at-where is_kept (put_over held made) q
    ∙ ap (λ (o : Option Bytes). cond (is_kept q) o None) (at-put_over held made q right.in_order)
    ∙ by (is_kept q) (file_at made q) (file_at held q) (none q)
    ∙ sym (at-put_over (kept held) made q right.in_order ∙ ap (or_else (file_at made q)) (at-where is_kept held q)))
  where
    none : (q : Place) → is_kept q ≡ false → file_at made q ≡ None
    none q own = at (is_output_of task q) refl
      where
        at : (b : Bool) → is_output_of task q ≡ b → file_at made q ≡ None
        at true is = not_true (sym own ∙ kept_at task.outputs out q is)
        at false is = right.beside q is

    by : (k : Bool) (n o : Option Bytes) → (k ≡ false → n ≡ None) → cond k (or_else n o) None ≡ or_else n (cond k o None)
    by true n o h = refl
    by false n o h = sym (ap (λ (m : Option Bytes). or_else m None) (h refl))

-- there is as much room among fewer files
room_kept : (held : Files) (files : List (Place × Bytes)) → list_any (λ (f : Place × Bytes). is_blocked held f.0) files ≡ false → list_any (λ (f : Place × Bytes). is_blocked (kept held) f.0) files ≡ false
room_kept held [] room = refl
room_kept held (f ∷ files) room =
    let rest = list_any (λ (g : Place × Bytes). is_blocked held g.0) files in
    neither (is_blocked (kept held) f.0) (list_any (λ (g : Place × Bytes). is_blocked (kept held) g.0) files)
    (fewer_block (λ (g : Place × Bytes). is_beneath f.0 g.0 || is_beneath g.0 f.0) (λ (g : Place × Bytes). is_kept g.0) held (none_left (is_blocked held f.0) rest room))
    (room_kept held files (none_right (is_blocked held f.0) rest room))

-- What is there outside of the tool's own folder: what the actions make of these trees, put over the rest, with room there.
abbrev pub HasRun : Kinds → Task → Trees → Files → Files → Type 0
HasRun kinds task trees rest new =
    (made : Files) × (made_of kinds task.actions task.values trees task.outputs ≡ Ok made) × (new ≡ put_over rest made) × (is_empty (blocked_in rest made) ≡ true)

pub ended_outside : (kinds : Kinds) (task : Task) (trees : Trees) (changes : List Changes) (held rest new : Files) (lines : List Text)
    → list_any (λ (o : Output). is_own o.place) task.outputs ≡ false → is_sorted byte_order held ≡ true → kept held ≡ rest
    → EndsWell (run_input kinds task trees changes held) lines new → HasRun kinds task trees rest (kept new)
ended_outside kinds task trees changes held rest new lines out sorted same well =
    subst (λ (fs : Files). HasRun kinds task trees fs (kept new)) same (
      made,
      law.0,
      ap kept well.files ∙ kept_over task held made out sorted (made_of_is_right kinds task.outputs task.values trees task.actions made law.0),
      none_blocked (λ (f : Place × Bytes). f.0) (λ (f : Place × Bytes). is_blocked (kept held) f.0) made (room_kept held made law.1),
    )
  where
    made : Files
    made = (whole_run (run_input kinds task trees changes held)).held

    law : (made_of kinds task.actions task.values trees task.outputs ≡ Ok made) × (list_any (λ (f : Place × Bytes). is_blocked held f.0) made ≡ false)
    law = let all = ended_is_made kinds task.outputs task.values trees held [] task.actions refl well.no_fault in (all.0, all.1)

-- ---- a full run

module _ {S : Type 0} (leaves : Tearing) (kinds : Kinds) (meanings : Meanings S) (rows : Rows S) (agrees : Agrees meanings rows kinds) (task : Task) (trees : Trees) where
  -- what was written and stored after this, over contents with nothing at the outputs
  wrote : (calls : List Call) (lines : List Text) (cur new : Contents) → IsFolder cur.files → AreSeparate task
      → Then (WritesAll meanings rows task trees) (Stores task (IsOfFullRun meanings rows task trees)) calls lines (Ok tt) → AnswersAll leaves cur calls new
      → HasRun kinds task trees (outside cur).files (outside new).files × (new.special ≡ cur.special)
  wrote calls lines cur new folder lie does answers = on does.4 does.7 does.8
    where
      parts : (mid : Contents) × AnswersAll leaves cur does.0 mid × AnswersAll leaves mid does.1 new
      parts = answered_then leaves does.0 does.1 cur new (subst (λ (cs : List Call). AnswersAll leaves cur cs new) does.5 answers)

      on : (mid : Ending) → WritesAll meanings rows task trees does.0 does.2 mid
          → OrStops mid (Stores task (IsOfFullRun meanings rows task trees) does.1 does.3 (Ok tt)) does.1 does.3 (Ok tt)
          → HasRun kinds task trees (outside cur).files (outside new).files × (new.special ≡ cur.special)
      on (Ok done) writes stores =
          let changes = added_of task.files trees in
          let well = written_in_full leaves kinds task trees changes does.0 does.2 cur parts.0 folder writes.0 (writes.1 kinds agrees) parts.1 in
          let same = stored_stage leaves task (IsOfFullRun meanings rows task trees) does.1 does.3 parts.0 new stores parts.2 in (
            subst (λ (c : Contents). HasRun kinds task trees (outside cur).files c.files) (sym same)
                (ended_outside kinds task trees changes cur.files (kept cur.files) parts.0.files does.2 lie.not_own folder.in_order refl well.0),
            ap (λ (c : Contents). c.special) same ∙ well.1,
          )
      on (Err fault) writes stores = absurd (let e = stores.2 in (cc))

  -- A full run that went well leaves what the actions make, in the emptied output places, with room there.
  pub ran_in_full : (was_read : Bool) (calls : List Call) (lines : List Text) (old new : Contents) → IsFolder old.files → AreSeparate task → trees ≡ trees_of task (outside old).files
      → FullRun meanings rows task trees was_read calls lines (Ok tt) → AnswersAll leaves old calls new
      → (made : Files) × (made_of kinds task.actions task.values (trees_of task (outside old).files) task.outputs ≡ Ok made)
      × ((outside new).files ≡ with_outputs task (outside old).files made) × (is_empty (blocked_in (rest_of task (outside old).files) made) ≡ true)
      × (new.special ≡ old.special)
  ran_in_full was_read calls lines old new folder lie trees_are (inl memory) answers = absurd (let e = memory.2 in (cc))
  ran_in_full was_read calls lines old new folder lie trees_are (inr does) answers = on does.4 does.7 does.8
    where
      parts : (mid : Contents) × AnswersAll leaves old does.0 mid × AnswersAll leaves mid does.1 new
      parts = answered_then leaves does.0 does.1 old new (subst (λ (cs : List Call). AnswersAll leaves old cs new) does.5 answers)

      on : (mid : Ending) → Clears task was_read does.0 does.2 mid
          → OrStops mid (Then (WritesAll meanings rows task trees) (Stores task (IsOfFullRun meanings rows task trees)) does.1 does.3 (Ok tt)) does.1 does.3 (Ok tt)
          → (made : Files) × (made_of kinds task.actions task.values (trees_of task (outside old).files) task.outputs ≡ Ok made)
          × ((outside new).files ≡ with_outputs task (outside old).files made) × (is_empty (blocked_in (rest_of task (outside old).files) made) ≡ true)
          × (new.special ≡ old.special)
      on (Ok done) clears second =
          let clear = cleared leaves task was_read does.0 does.2 old parts.0 folder lie clears parts.1 in
          let there = wrote does.1 does.3 parts.0 new (cleared_folder leaves task was_read does.0 does.2 old parts.0 folder clears parts.1) lie second parts.2 in
          let ran : HasRun kinds task (trees_of task (outside old).files) (rest_of task (outside old).files) (outside new).files =
          subst (λ (ts : Trees). HasRun kinds task ts (rest_of task (outside old).files) (outside new).files) trees_are
          (subst (λ (fs : Files). HasRun kinds task trees fs (outside new).files) clear.0 there.0) in
          (ran.0, ran.1, ran.2, ran.3, there.1 ∙ clear.1)
      on (Err fault) clears second = absurd (let e = second.2 in (cc))
