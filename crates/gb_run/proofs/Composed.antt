-- Doing a computed work is a run.
use Rattle.std.specs.Prelude.{ℕ, ◌≡◌, ◌≤◌, ◌⊎◌, ◌++◌, if◌then◌else◌, List, [], ◌∷◌, Option, None, Some, Result, Ok, Err, IsTrue, length}
use Rattle.std.specs.FinMap.Entries.{is_sorted}
use Rattle.std.specs.List.{AllByRecursion, flat_map}
use Rattle.std.proofs.Common.{refl, sym, ap, subst, ◌∙◌, inl, inr, arith, append_assoc}
use Rattle.gb_core.specs.Lists.{byte_order, first_of}
use Rattle.gb_folder.specs.Calls.{Call}
use Rattle.gb_folder.specs.Files.{Bytes, Contents, Files, HasRisen, Place, Tearing, is_empty}
use Rattle.gb_folder.specs.Limits.{max_file}
use Rattle.gb_folder.proofs.Changes.{SameTearing-same}
use Rattle.gb_report.specs.declared.fault.Fault.{Fault}
use Rattle.gb_report.specs.declared.fault.Fault.TheVariants as faults
use Rattle.gb_action.specs.declared.reply.Written.{Written}
use Rattle.gb_plan.specs.Task.{Text}
use Rattle.gb_plan.specs.declared.task.Action.{Action}
use Rattle.gb_plan.specs.declared.task.Output.{Output}
use Rattle.gb_semantics.specs.Kinds.{kind_of}
use Rattle.gb_semantics.specs.Made.{placed, put_over, put_result, step_faults}
use Rattle.gb_semantics.specs.Run.{has_room, step_by}
use Rattle.gb_semantics.proofs.Lemmas.Files.{sorted-put_over}
use Rattle.gb_run.specs.RunInput.{RunInput, EndsWell, lines_by, run_along}
use Rattle.gb_run.specs.Failing.{Fails, InFull, RunMode}
use Rattle.gb_run.specs.Named.{put}
use Rattle.gb_run.specs.Placing.{blank, faults_beside}
use Rattle.gb_run.specs.Step.{IsHeld, StopsIn}
use Rattle.gb_run.specs.Stepping.{HasRoom, IsCutShort, IsSmall}
use Rattle.gb_run.specs.Steps.{Step, after_steps, folder_after}
use Rattle.gb_run.proofs.AsSteps.{after_put, room_of}
use Rattle.gb_run.proofs.Beside.{beside_held, over_rest}
use Rattle.gb_run.proofs.Endings.{more_fault, more_held, with_none}
use Rattle.gb_run.proofs.RunStates.{fails_at}
use Rattle.gb_run.proofs.Placed.{small_taken}
use Rattle.gb_run.proofs.Room.{step_ends, step_hindered}
use Rattle.gb_run.proofs.Stepped.{stops_itself, stops_printing, stops_writing}
use Rattle.gb_folder.specs.Semantics.{AnswersAll}
use Rattle.gb_run.specs.Doing.{Does, Ending}
use Rattle.gb_run.specs.Work.{DoesParts, OrPrints, Work, files_of, or_stop, part_of, with_part, work_of}
use Rattle.gb_run.proofs.Follows.{cut_short, leaves}

-- ---- the result of one action by itself

module _ (outputs : List Output) (rest held : Files) where
  abbrev pub FailsAlone : Result (List Written) Text → Type 0
  FailsAlone made = (hindrances : List Fault) × (fault : Fault) × (put_result outputs held made ≡ Err hindrances) × (first_of hindrances ≡ Some fault) × (step_by outputs rest held made ≡ Err fault)

  abbrev pub GoesOver : Result (List Written) Text → Type 0
  GoesOver made = (written : List Written) × (made ≡ Ok written) × (step_faults outputs held (placed outputs written) ≡ []) × (put_result outputs held made ≡ Ok (put_over held (placed outputs written)))

  pub comes : (made : Result (List Written) Text) → FailsAlone made ⊎ GoesOver made
  comes (Err text) = inl (faults.ActionFailed text ∷ [], faults.ActionFailed text, refl, refl, refl)
  comes (Ok written) = by (step_faults outputs held (placed outputs written)) refl
    where
      by : (hs : List Fault) → step_faults outputs held (placed outputs written) ≡ hs → FailsAlone (Ok written) ⊎ GoesOver (Ok written)
      by [] none = inr (written, refl, none, ap (λ (fs : List Fault). if is_empty fs then Ok (put_over held (placed outputs written)) else Err fs) none)
      by (fault ∷ hs) is = inl (fault ∷ hs, fault, ap (λ (fs : List Fault). if is_empty fs then Ok (put_over held (placed outputs written)) else Err fs) is, refl, step_hindered outputs rest held written fault (ap first_of is))

-- ---- done

abbrev made : RunInput → Action → Result (List Written) Text
made input action = input.kinds.makes (kind_of action) action.args input.task.values input.trees

-- how a run ends, from how its work was done and its own fault
abbrev pub Ends : RunInput → RunMode → Tearing → ℕ → ℕ → Ending → Option Fault → List Text → Files → Type 0
Ends input mode may_leave before after (Ok done) None lines new = EndsWell input lines new
Ends input mode may_leave before after (Ok done) (Some fault) lines new =
    Fails input mode may_leave before fault lines after new
Ends input mode may_leave before after (Err fault) own lines new =
    Fails input mode may_leave before fault lines after new

pub answered_then : (may_leave : Tearing) (first later : List Call) (old new : Contents) → AnswersAll may_leave old (first ++ later) new → (mid : Contents) × AnswersAll may_leave old first mid × AnswersAll may_leave mid later new
answered_then may_leave [] later old new all = (old, refl, all)
answered_then may_leave (call ∷ first) later old new all =
    let rest = answered_then may_leave first later all.1.0 new all.1.2 in
    (rest.0, (all.0, (all.1.0, all.1.1, rest.1)), rest.2)

small_put : (files : List (Place × Bytes)) → AllByRecursion (λ (f : Place × Bytes). length f.1 ≤ max_file) files → AllByRecursion IsSmall (put files)
small_put [] all = tt
small_put (f ∷ files) all = (all.0, small_put files all.1)

flat_map-last : {X Y : Type 0} (f : X → List Y) (xs : List X) (x : X) → flat_map f (xs ++ x ∷ []) ≡ flat_map f xs ++ f x
flat_map-last f [] x = with_none (f x)
flat_map-last f (y ∷ xs) x = ap (λ ys. f y ++ ys) (flat_map-last f xs x) ∙ sym (append_assoc (f y) (flat_map f xs) (f x))

-- some first actions have ended, and the task holds these files
record IsOnWay (input : RunInput) (left : List Action) (held folder : Files) (lines : List Text) : Type 0 where
  pub done : List Action
  pub all : input.task.actions ≡ done ++ left
  pub no_fault : (run_along input done).fault ≡ None
  pub is : (run_along input done).held ≡ held
  pub rest_in_order : IsTrue (is_sorted byte_order input.rest)
  pub in_order : IsTrue (is_sorted byte_order held)
  pub files : folder ≡ put_over input.rest held
  pub printed : lines ≡ lines_by input done

module _ (input : RunInput) (may_leave : Tearing) (before after : ℕ) (rises : before ≤ after) where
  abbrev End : Ending → Option Fault → List Text → Files → Type 0
  End result own lines new = Ends input InFull may_leave before after result own lines new

  -- one action more
  module _ (action : Action) (left : List Action) (held folder : Files) (lines : List Text) (on_way : IsOnWay input (action ∷ left) held folder lines) where
    is_held : IsHeld input.rest held (blank held) folder
    is_held = record { rest_in_order = on_way.rest_in_order; in_order = on_way.in_order; places = refl; files = on_way.files }

    stops : (fault : Fault) (new : Files) → StopsIn input.task.outputs input.rest held (made input action) may_leave before fault after new → Fails input InFull may_leave before fault lines after new
    stops fault new stop =
        fails_at input InFull on_way.done left action on_way.all on_way.no_fault may_leave may_leave before before after fault lines new (SameTearing-same may_leave) (omega arith) rises on_way.printed
        (subst (λ (h : Files). StopsIn input.task.outputs input.rest h (made input action) may_leave before fault after new) (sym on_way.is) stop)

    module _ (written : List Written) (is : made input action ≡ Ok written) (none : step_faults input.task.outputs held (placed input.task.outputs written) ≡ []) where
      by_place : Files
      by_place = put_over [] (placed input.task.outputs written)

      none_beside : faults_beside input.task.outputs (blank held) (put_over [] (placed input.task.outputs written)) ≡ []
      none_beside = beside_held input.task.outputs held (placed input.task.outputs written) on_way.in_order ∙ none

      steps_are : (part_of input action).steps ≡ put (put_over [] (placed input.task.outputs written))
      steps_are = ap (λ (r : Result (List Written) Text). put (files_of input.task.outputs r)) is

      then_at : (old new : Contents) → old.files ≡ folder → new ≡ folder_after old (part_of input action).steps → new.files ≡ after_steps folder (put (put_over [] (placed input.task.outputs written)))
      then_at old new existed puts =
          ap (λ (c : Contents). c.files) puts ∙ ap (after_steps old.files) steps_are ∙ ap (λ (m : Files). after_steps m (put (put_over [] (placed input.task.outputs written)))) existed

      stops_cut : (old new : Contents) (fault : Fault) → old.files ≡ folder → ((place : Place) → fault ≡ faults.Device place → HasRisen before after)
          → IsCutShort may_leave (part_of input action).steps old fault new → Fails input InFull may_leave before fault lines after new.files
      stops_cut old new fault existed risen cut =
          stops fault new.files (stops_writing input.task.outputs input.rest held (blank held) folder (made input action) is_held may_leave before fault after written is none_beside old new existed risen
          (put_over [] (placed input.task.outputs written)) refl (subst (λ (ss : List Step). IsCutShort may_leave ss old fault new) steps_are cut))

      stops_late : (old new : Contents) → old.files ≡ folder → new ≡ folder_after old (part_of input action).steps → Fails input InFull may_leave before faults.OutOfMemory lines after new.files
      stops_late old new existed puts =
          stops faults.OutOfMemory new.files (stops_printing input.task.outputs input.rest held (blank held) folder (made input action) is_held may_leave before faults.OutOfMemory after written is none_beside
          new.files (then_at old new existed puts) refl)

      goes_on : (old new : Contents) → old.files ≡ folder → new ≡ folder_after old (part_of input action).steps → HasRoom old.files (part_of input action).steps
          → IsOnWay input left (put_over held (placed input.task.outputs written)) new.files (lines ++ (part_of input action).lines)
      goes_on old new existed puts room = record {
        done = on_way.done ++ action ∷ [];
        all = on_way.all ∙ sym (append_assoc on_way.done (action ∷ []) left);
        no_fault = more_fault input.kinds input.task.outputs input.task.values input.trees input.rest on_way.done [] (put_over held (placed input.task.outputs written)) action on_way.no_fault step_is;
        is = more_held input.kinds input.task.outputs input.task.values input.trees input.rest on_way.done [] (put_over held (placed input.task.outputs written)) action on_way.no_fault step_is;
        rest_in_order = on_way.rest_in_order;
        in_order = sorted-put_over held (placed input.task.outputs written) on_way.in_order;
        files =
            then_at old new existed puts ∙ after_put folder (put_over [] (placed input.task.outputs written)) ∙ ap (λ (m : Files). put_over m (put_over [] (placed input.task.outputs written))) on_way.files
            ∙ over_rest input.rest held (placed input.task.outputs written) on_way.rest_in_order on_way.in_order;
        printed =
            ap (λ (ls : List Text). ls ++ (part_of input action).lines) on_way.printed
            ∙ sym (flat_map-last (λ (a : Action). input.kinds.prints (kind_of a) a.args input.task.values input.trees input.changes) on_way.done action);
      }
        where
          has : has_room (put_over input.rest held) (put_over [] (placed input.task.outputs written))
          has = subst (λ (m : Files). has_room m (put_over [] (placed input.task.outputs written))) on_way.files
              (room_of folder (put_over [] (placed input.task.outputs written)) (subst (λ (m : Files). HasRoom m (put (put_over [] (placed input.task.outputs written)))) existed (subst (λ (ss : List Step). HasRoom old.files ss) steps_are room)))

          step_is : step_by input.task.outputs input.rest (run_along input on_way.done).held (made input action) ≡ Ok (put_over held (placed input.task.outputs written))
          step_is =
              ap (λ (h : Files). step_by input.task.outputs input.rest h (made input action)) on_way.is
              ∙ ap (step_by input.task.outputs input.rest held) is ∙ step_ends input.task.outputs input.rest held written none has

      -- its part was tried
      part_ends : (old new : Contents) → old.files ≡ folder → (own : Option Fault) (more : List Text) (result : Ending) (first later : List Call) (mid : Ending) (Next : List Text → Type 0)
          → Does (part_of input action).steps first mid → AnswersAll may_leave old (first ++ later) new → ((place : Place) → result ≡ Err (faults.Device place) → HasRisen before after)
          → ((between : Contents) (following : List Text) → IsOnWay input left (put_over held (placed input.task.outputs written)) between.files (lines ++ (part_of input action).lines)
          → AnswersAll may_leave between later new → Next following → End result own ((lines ++ (part_of input action).lines) ++ following) new.files)
          → OrPrints mid (part_of input action).lines Next later more result → End result own (lines ++ more) new.files
      part_ends old new existed own more result first later (Err fault) Next does all risen next ended =
          let parts = answered_then may_leave first later old new all in
          let same : new ≡ parts.0 = subst (λ (cs : List Call). AnswersAll may_leave parts.0 cs new) ended.0 parts.2 in
          let cut = cut_short may_leave (part_of input action).steps first old parts.0 fault small does parts.1 in
          subst (λ (r : Ending). End r own (lines ++ more) new.files) (sym ended.2)
          (subst (λ (ls : List Text). Fails input InFull may_leave before fault ls after new.files) (sym (ap (λ (ms : List Text). lines ++ ms) ended.1 ∙ with_none lines))
          (subst (λ (c : Contents). Fails input InFull may_leave before fault lines after c.files) (sym same) (stops_cut old parts.0 fault existed (λ place device. risen place (ended.2 ∙ ap Err device)) cut)))
        where
          small : AllByRecursion IsSmall (part_of input action).steps
          small = subst (λ (ss : List Step). AllByRecursion IsSmall ss) (sym steps_are) (small_put (put_over [] (placed input.task.outputs written)) (small_taken input.task.outputs (blank held) (put_over [] (placed input.task.outputs written)) none_beside))
      part_ends old new existed own more result first later (Ok done) Next does all risen next (inl memory) =
          let parts = answered_then may_leave first later old new all in
          let same : new ≡ parts.0 = subst (λ (cs : List Call). AnswersAll may_leave parts.0 cs new) memory.0 parts.2 in
          subst (λ (r : Ending). End r own (lines ++ more) new.files) (sym memory.2)
          (subst (λ (ls : List Text). Fails input InFull may_leave before faults.OutOfMemory ls after new.files) (sym (ap (λ (ms : List Text). lines ++ ms) memory.1 ∙ with_none lines))
          (subst (λ (c : Contents). Fails input InFull may_leave before faults.OutOfMemory lines after c.files) (sym same)
          (stops_late old parts.0 existed (leaves may_leave (part_of input action).steps first old parts.0 does parts.1).0)))
      part_ends old new existed own more result first later (Ok done) Next does all risen next (inr printed) =
          let parts = answered_then may_leave first later old new all in
          let left_so = leaves may_leave (part_of input action).steps first old parts.0 does parts.1 in
          subst (λ (ls : List Text). End result own ls new.files) (append_assoc lines (part_of input action).lines printed.0 ∙ ap (λ (ms : List Text). lines ++ ms) (sym printed.1))
          (next parts.0 printed.0 (goes_on old parts.0 existed left_so.0 left_so.1) parts.2 printed.2)

  -- all parts were
  parts_end : (left : List Action) (held : Files) (lines more : List Text) (old new : Contents) (calls : List Call) (result : Ending) → IsOnWay input left held old.files lines
      → DoesParts (work_of input held left).parts calls more result → AnswersAll may_leave old calls new → ((place : Place) → result ≡ Err (faults.Device place) → HasRisen before after)
      → End result (work_of input held left).fault (lines ++ more) new.files
  parts_end [] held lines more old new calls result on_way does all risen =
      let same : new ≡ old = subst (λ (cs : List Call). AnswersAll may_leave old cs new) does.0 all in
      let actions : input.task.actions ≡ on_way.done = on_way.all ∙ with_none on_way.done in
      subst (λ (r : Ending). End r None (lines ++ more) new.files) (sym does.2) (record {
        no_fault = ap (λ (all : List Action). (run_along input all).fault) actions ∙ on_way.no_fault;
        files = ap (λ (c : Contents). c.files) same ∙ on_way.files ∙ ap (put_over input.rest) (sym (ap (λ (all : List Action). (run_along input all).held) actions ∙ on_way.is));
        printed = ap (λ (ms : List Text). lines ++ ms) does.1 ∙ with_none lines ∙ on_way.printed ∙ ap (lines_by input) (sym actions);
      })
  parts_end (action ∷ left) held lines more old new calls result on_way does all risen = elim (comes input.task.outputs input.rest held (made input action)) [
    | inl failed ↦
        let is : work_of input held (action ∷ left) ≡ record { parts = []; fault = Some failed.1 } =
        ap (λ (r : Result Files (List Fault)). or_stop r (λ over. with_part (part_of input action) (work_of input over left))) failed.2 ∙ ap (λ (f : Option Fault). record { parts = []; fault = f }) failed.3 in
        subst (λ (w : Work). DoesParts w.parts calls more result → End result w.fault (lines ++ more) new.files) (sym is) (λ nothing.
        let same : new ≡ old = subst (λ (cs : List Call). AnswersAll may_leave old cs new) nothing.0 all in
        subst (λ (r : Ending). End r (Some failed.1) (lines ++ more) new.files) (sym nothing.2)
        (subst (λ (ls : List Text). Fails input InFull may_leave before failed.1 ls after new.files) (sym (ap (λ (ms : List Text). lines ++ ms) nothing.1 ∙ with_none lines))
        (subst (λ (c : Contents). Fails input InFull may_leave before failed.1 lines after c.files) (sym same)
        (stops action left held old.files lines on_way failed.1 old.files
        (stops_itself input.task.outputs input.rest held (blank held) old.files (made input action) (is_held action left held old.files lines on_way) may_leave before failed.1 after failed.4))))) does
    | inr went ↦
        let over = put_over held (placed input.task.outputs went.0) in
        let is : work_of input held (action ∷ left) ≡ with_part (part_of input action) (work_of input over left) =
        ap (λ (r : Result Files (List Fault)). or_stop r (λ over. with_part (part_of input action) (work_of input over left))) went.3 in
        subst (λ (w : Work). DoesParts w.parts calls more result → End result w.fault (lines ++ more) new.files) (sym is) (λ parts.
        part_ends action left held old.files lines on_way went.0 went.1 went.2 old new refl (work_of input over left).fault more result parts.0 parts.1 parts.2
        (λ following. DoesParts (work_of input over left).parts parts.1 following result) parts.4 (subst (λ (cs : List Call). AnswersAll may_leave old cs new) parts.3 all) risen
        (λ between following goes answers next. parts_end left over (lines ++ (part_of input action).lines) following between new parts.1 result goes next answers risen) parts.5) does
  ]

-- If calls do such a work, and are answered as by a folder that holds these files, the run ends well or fails
-- there, as a run of the task does.
pub done_work_ends : (may_leave : Tearing) (input : RunInput) (before after : ℕ) (old new : Contents) (calls : List Call) (lines : List Text) (result : Ending)
    → IsTrue (is_sorted byte_order input.rest) → old.files ≡ input.rest → before ≤ after → ((place : Place) → result ≡ Err (faults.Device place) → HasRisen before after)
    → DoesParts (work_of input [] input.task.actions).parts calls lines result → AnswersAll may_leave old calls new →
    Ends input InFull may_leave before after result (work_of input [] input.task.actions).fault lines new.files
done_work_ends may_leave input before after old new calls lines result sorted existed rises risen does all =
    parts_end input may_leave before after rises input.task.actions [] [] lines old new calls result
    (record { done = []; all = refl; no_fault = refl; is = refl; rest_in_order = sorted; in_order = refl; files = existed; printed = refl }) does all risen
