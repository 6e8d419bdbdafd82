-- Doing a computed incremental work is an incremental execution.
use Rattle.std.specs.Prelude.{ℕ, ◌≡◌, ◌≤◌, ◌⊎◌, ◌++◌, true, false, List, [], ◌∷◌, Option, Ok, Err, IsTrue}
use Rattle.std.specs.List.{AllByRecursion, AllZip}
use Rattle.std.proofs.Common.{refl, sym, ap, subst, ◌∙◌, inl, inr, arith, append_assoc, true≢false}
use Rattle.gb_folder.specs.Calls.{Call}
use Rattle.gb_folder.specs.Files.{Contents, Files, HasRisen, IsFolder, Place, Tearing, are_placed}
use Rattle.gb_folder.specs.Semantics.{AnswersAll}
use Rattle.gb_folder.proofs.Changes.{SameTearing-same}
use Rattle.gb_report.specs.declared.fault.Fault.{Fault}
use Rattle.gb_report.specs.declared.fault.Fault.TheVariants as faults
use Rattle.gb_action.specs.Changes.{Changes}
use Rattle.gb_action.specs.Files.{Trees}
use Rattle.gb_action.specs.declared.output_files.OutputFiles.{OutputFiles}
use Rattle.gb_plan.specs.Task.{Text}
use Rattle.gb_plan.specs.declared.task.Action.{Action}
use Rattle.gb_plan.specs.declared.task.TaskDeclaration.{TaskDeclaration as Task}
use Rattle.gb_semantics.specs.Kinds.{Kinds, kind_of}
use Rattle.gb_semantics.specs.Made.{rest_of}
use Rattle.gb_run.specs.Asking.{made_by}
use Rattle.gb_run.specs.AskingChanges.{GoesOn, IsFitting}
use Rattle.gb_run.specs.RunInput.{RunInput, run_input}
use Rattle.gb_run.specs.Doing.{Does, Ending}
use Rattle.gb_run.specs.Failing.{ByChanges, Fails}
use Rattle.gb_run.specs.Stepping.{HasRoom}
use Rattle.gb_run.specs.Steps.{Step, folder_after, in_step_order}
use Rattle.gb_run.specs.Named.{steps_of}
use Rattle.gb_run.specs.Execution.{IsItsExecution, Stops}
use Rattle.gb_run.specs.Work.{DoesParts, OrPrints, Part, Work}
use Rattle.gb_run.specs.WorkByChanges.{EndsSo, FailsWith, Increment, IsPart, IsWorkByChanges, IsWriterPart, increment_of}
use Rattle.gb_run.proofs.Composed.{Ends, answered_then}
use Rattle.gb_run.proofs.Endings.{with_none}
use Rattle.gb_run.proofs.Follows.{cut_short, leaves}
use Rattle.gb_run.proofs.Further.{begins_so, ends_so, fails_further, goes_further}
use Rattle.gb_run.proofs.Going.{IsGoing, exists_old}
use Rattle.gb_run.proofs.Small.{small_steps}
use Rattle.gb_run.proofs.WritingAction.{ends, stops_asked, stops_placing, stops_printing, stops_taking}
use Rattle.gb_run.proofs.Writer.{fits_writer}

never : {X : Type 0} (kinds : Kinds) (action : Action) → kinds.writes (kind_of action) ≡ true → kinds.writes (kind_of action) ≡ false → X
never kinds action writes quiet = absurd (true≢false (sym writes ∙ quiet))

module _ (kinds : Kinds) (task : Task) (trees : Trees) (changes : List Changes) (observed : List OutputFiles) (old : Trees) (start : Files)
    (goes_on : GoesOn kinds task old trees changes observed start) (fitting : AllByRecursion (IsFitting kinds task) task.actions) (folder : IsFolder start) (good : IsTrue (are_placed start))
    (may_leave : Tearing) (before after : ℕ) (rises : before ≤ after) where
  abbrev run : Increment
  run = increment_of kinds task trees changes observed

  abbrev input : RunInput
  input = run_input kinds task trees changes (rest_of task start)

  abbrev FailsNow : Fault → List Text → Files → Type 0
  FailsNow fault lines new = Fails input (ByChanges start) may_leave before fault lines after new

  abbrev End : Ending → Option Fault → List Text → Files → Type 0
  End result own lines new = Ends input (ByChanges start) may_leave before after result own lines new

  abbrev Goes : List Action → Files → List Text → Type 0
  Goes left files lines = IsGoing kinds task trees changes start left files lines

  -- ---- one action
  module _ (action : Action) (left : List Action) (cur : Contents) (lines : List Text) (going : Goes (action ∷ left) cur.files lines) where
    stops : (fault : Fault) (new : Files)
        → (kinds.writes (kind_of action) ≡ false → ((fault ≡ faults.OutOfMemory) ⊎ ((text : Text) × (fault ≡ faults.ActionFailed text) × (made_by kinds task action trees ≡ Err text))) × (new ≡ cur.files))
        → (IsItsExecution kinds task action trees changes observed cur.files → Stops kinds task action trees cur.files may_leave before fault after new) → FailsNow fault lines new
    stops fault new unread unwritten =
        fails_further kinds task trees changes start observed old goes_on fitting action left cur.files lines going may_leave may_leave before before after fault new lines (SameTearing-same may_leave) (omega arith) rises
        unread unwritten refl

    -- the writer begins with the files that were there
    exists : kinds.writes (kind_of action) ≡ true → IsItsExecution kinds task action trees changes observed cur.files → cur.files ≡ start
    exists writes turn = exists_old kinds task trees changes start cur.files lines action left going writes turn.writes

    folder_now : kinds.writes (kind_of action) ≡ true → IsItsExecution kinds task action trees changes observed cur.files → IsFolder cur.files
    folder_now writes turn = subst (λ (fs : Files). IsFolder fs) (sym (exists writes turn)) folder

    good_now : kinds.writes (kind_of action) ≡ true → IsItsExecution kinds task action trees changes observed cur.files → IsTrue (are_placed cur.files)
    good_now writes turn = subst (λ (fs : Files). IsTrue (are_placed fs)) (sym (exists writes turn)) good

    execution_writes : IsItsExecution kinds task action trees changes observed cur.files → kinds.writes (kind_of action) ≡ true
    execution_writes turn = (fits_writer kinds task task.actions action [] turn.fitting turn.writes).0

    -- the action itself fails
    fails_itself : (fault : Fault) → FailsWith run action fault → FailsNow fault lines cur.files
    fails_itself fault (inl failed) = stops fault cur.files (λ quiet. (inr failed, refl)) (λ turn. stops_asked kinds task action trees cur.files may_leave before fault after failed.0 failed.1 failed.2)
    fails_itself fault (inr hindered) = stops fault cur.files (λ quiet. never kinds action hindered.0 quiet)
        (λ turn. stops_placing kinds task action trees changes observed cur.files (folder_now hindered.0 turn) (good_now hindered.0 turn) turn hindered.1 hindered.2 may_leave before fault after hindered.3)

    module _ (part : Part) (calls : List Call) (between : Contents) (answers : AnswersAll may_leave cur calls between) where
      -- a reader's part changes nothing
      same : part.steps ≡ [] → Does part.steps calls (Ok tt) → between ≡ cur
      same none does =
          let nothing = subst (λ (ss : List Step). Does ss calls (Ok tt)) none does in
          subst (λ (cs : List Call). AnswersAll may_leave cur cs between) nothing.0 answers

      no_stop : {X : Type 0} (fault : Fault) → part.steps ≡ [] → Does part.steps calls (Err fault) → X
      no_stop fault none does = absurd (let nothing = subst (λ (ss : List Step). Does ss calls (Err fault)) none does in let e = nothing.1 in (cc))

      -- its part was cut short
      cut : (fault : Fault) → IsPart run action part → Does part.steps calls (Err fault) → ((place : Place) → fault ≡ faults.Device place → HasRisen before after) → FailsNow fault lines between.files
      cut fault (inl reader, prints) does risen = no_stop fault reader.steps does
      cut fault (inr writer, prints) does risen = stops fault between.files (λ quiet. never kinds action writer.writes quiet) (λ turn.
          stops_taking kinds task action trees changes observed cur.files (folder_now writer.writes turn) (good_now writer.writes turn) turn writer.reply writer.answers writer.free may_leave before fault after cur between refl risen
          (cut_short may_leave (in_step_order (steps_of task.outputs writer.reply.removes writer.reply.writes)) calls cur between fault (small_steps task.outputs observed writer.reply.removes writer.reply.writes writer.free)
          (subst (λ (ss : List Step). Does ss calls (Err fault)) writer.steps does) answers))

      left_so : (writer : IsWriterPart run action part) → Does part.steps calls (Ok tt)
          → (between ≡ folder_after cur (in_step_order (steps_of task.outputs writer.reply.removes writer.reply.writes))) × HasRoom cur.files (in_step_order (steps_of task.outputs writer.reply.removes writer.reply.writes))
      left_so writer does = leaves may_leave (in_step_order (steps_of task.outputs writer.reply.removes writer.reply.writes)) calls cur between (subst (λ (ss : List Step). Does ss calls (Ok tt)) writer.steps does) answers

      -- its part was done, and memory ran out for its lines
      mute : IsPart run action part → Does part.steps calls (Ok tt) → FailsNow faults.OutOfMemory lines between.files
      mute (inl reader, prints) does = stops faults.OutOfMemory between.files (λ quiet. (inl refl, ap (λ (c : Contents). c.files) (same reader.steps does))) (λ turn. never kinds action (execution_writes turn) reader.quiet)
      mute (inr writer, prints) does = stops faults.OutOfMemory between.files (λ quiet. never kinds action writer.writes quiet) (λ turn.
          stops_printing kinds task action trees changes observed cur.files (folder_now writer.writes turn) (good_now writer.writes turn) turn writer.reply writer.answers writer.free may_leave before faults.OutOfMemory after between.files
          (ap (λ (c : Contents). c.files) (left_so writer does).0) refl)

      -- its part was done, and printed
      goes : IsPart run action part → Does part.steps calls (Ok tt) → Goes left between.files (lines ++ part.lines)
      goes (inl reader, prints) does =
          goes_further kinds task trees changes start observed old goes_on fitting action left cur.files lines going between.files (lines ++ part.lines)
          (λ fits quiet. (reader.made fits, ap (λ (c : Contents). c.files) (same reader.steps does))) (λ turn. never kinds action (execution_writes turn) reader.quiet) (ap (λ (ls : List Text). lines ++ ls) prints)
      goes (inr writer, prints) does =
          goes_further kinds task trees changes start observed old goes_on fitting action left cur.files lines going between.files (lines ++ part.lines)
          (λ fits quiet. never kinds action writer.writes quiet)
          (λ turn.
          ends kinds task action trees changes observed cur.files (folder_now writer.writes turn) (good_now writer.writes turn) turn writer.reply writer.answers writer.free between.files
          (left_so writer does).1 (ap (λ (c : Contents). c.files) (left_so writer does).0))
          (ap (λ (ls : List Text). lines ++ ls) prints)

      -- its part was tried, and the others follow
      part_ends : IsPart run action part → (new : Contents) (own : Option Fault) (more : List Text) (result : Ending) (later : List Call) (mid : Ending) (Next : List Text → Type 0)
          → Does part.steps calls mid → AnswersAll may_leave between later new → ((place : Place) → result ≡ Err (faults.Device place) → HasRisen before after)
          → ((following : List Text) → Goes left between.files (lines ++ part.lines) → Next following → End result own ((lines ++ part.lines) ++ following) new.files)
          → OrPrints mid part.lines Next later more result → End result own (lines ++ more) new.files
      part_ends is new own more result later (Err fault) Next does then risen next ended =
          let same_end : new ≡ between = subst (λ (cs : List Call). AnswersAll may_leave between cs new) ended.0 then in
          subst (λ (r : Ending). End r own (lines ++ more) new.files) (sym ended.2)
          (subst (λ (ls : List Text). FailsNow fault ls new.files) (sym (ap (λ (ms : List Text). lines ++ ms) ended.1 ∙ with_none lines))
          (subst (λ (c : Contents). FailsNow fault lines c.files) (sym same_end) (cut fault is does (λ place device. risen place (ended.2 ∙ ap Err device)))))
      part_ends is new own more result later (Ok done) Next does then risen next (inl memory) =
          let same_end : new ≡ between = subst (λ (cs : List Call). AnswersAll may_leave between cs new) memory.0 then in
          subst (λ (r : Ending). End r own (lines ++ more) new.files) (sym memory.2)
          (subst (λ (ls : List Text). FailsNow faults.OutOfMemory ls new.files) (sym (ap (λ (ms : List Text). lines ++ ms) memory.1 ∙ with_none lines))
          (subst (λ (c : Contents). FailsNow faults.OutOfMemory lines c.files) (sym same_end) (mute is does)))
      part_ends is new own more result later (Ok done) Next does then risen next (inr printed) =
          subst (λ (ls : List Text). End result own ls new.files) (append_assoc lines part.lines printed.0 ∙ ap (λ (ms : List Text). lines ++ ms) (sym printed.1))
          (next printed.0 (goes is does) printed.2)

  -- ---- all of them
  no_more : (left : List Action) (own : Option Fault) (cur : Contents) (lines : List Text) → Goes left cur.files lines → EndsSo run left own → End (Ok tt) own lines cur.files
  no_more [] own cur lines going is = subst (λ (o : Option Fault). End (Ok tt) o lines cur.files) (sym is) (ends_so kinds task trees changes start observed old goes_on fitting cur.files lines [] refl going)
  no_more (action ∷ left) own cur lines going is = subst (λ (o : Option Fault). End (Ok tt) o lines cur.files) (sym is.1) (fails_itself action left cur lines going is.0 is.2)

  parts_end : (done left : List Action) (parts : List Part) (own : Option Fault) (lines more : List Text) (cur new : Contents) (calls : List Call) (result : Ending) → Goes (done ++ left) cur.files lines
      → AllZip (IsPart run) done parts → EndsSo run left own → DoesParts parts calls more result → AnswersAll may_leave cur calls new → ((place : Place) → result ≡ Err (faults.Device place) → HasRisen before after)
      → End result own (lines ++ more) new.files
  parts_end [] left [] own lines more cur new calls result going are is does answers risen =
      let same_end : new ≡ cur = subst (λ (cs : List Call). AnswersAll may_leave cur cs new) does.0 answers in
      subst (λ (r : Ending). End r own (lines ++ more) new.files) (sym does.2)
      (subst (λ (ls : List Text). End (Ok tt) own ls new.files) (sym (ap (λ (ms : List Text). lines ++ ms) does.1 ∙ with_none lines))
      (subst (λ (c : Contents). End (Ok tt) own lines c.files) (sym same_end) (no_more left own cur lines going is)))
  parts_end [] left (part ∷ parts) own lines more cur new calls result going are is does answers risen = absurd are
  parts_end (action ∷ done) left [] own lines more cur new calls result going are is does answers risen = absurd are
  parts_end (action ∷ done) left (part ∷ parts) own lines more cur new calls result going are is does answers risen =
      let halves = answered_then may_leave does.0 does.1 cur new (subst (λ (cs : List Call). AnswersAll may_leave cur cs new) does.3 answers) in
      part_ends action (done ++ left) cur lines going part does.0 halves.0 halves.1 are.0 new own more result does.1 does.2 (λ following. DoesParts parts does.1 following result) does.4 halves.2 risen
      (λ following on next. parts_end done left parts own (lines ++ part.lines) following halves.0 new does.1 result on are.1 is next halves.2 risen) does.5

  pub done_work_ends : (work : Work) (lines : List Text) (cur new : Contents) (calls : List Call) (result : Ending) → IsWorkByChanges run work → cur.files ≡ start → DoesParts work.parts calls lines result
      → AnswersAll may_leave cur calls new → ((place : Place) → result ≡ Err (faults.Device place) → HasRisen before after) → End result work.fault lines new.files
  done_work_ends work lines cur new calls result is existed does answers risen =
      parts_end is.done is.left work.parts work.fault [] lines cur new calls result (begins_so kinds task trees changes start (is.done ++ is.left) cur.files [] (sym is.all) existed refl) is.parts is.ends does answers risen
