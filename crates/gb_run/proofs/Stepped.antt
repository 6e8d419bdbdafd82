-- One action of a run: it ends, or stops.
use Rattle.std.proofs.Common.{◌≡◌, ◌⊎◌, inl, inr, ℕ, true, List, [], ◌∷◌, ◌++◌, Some, Result, Ok, Err, refl, sym, ap, subst, ◌∙◌}
use Rattle.gb_core.specs.Lists.{first_of}
use Rattle.gb_folder.specs.Files.{Place, Bytes, Contents, Files, HasRisen, Tearing, is_blocked}
use Rattle.gb_report.specs.declared.fault.Fault.{Fault}
use Rattle.gb_report.specs.declared.fault.Fault.TheVariants as faults
use Rattle.gb_action.specs.declared.reply.Written.{Written}
use Rattle.gb_plan.specs.Task.{Text}
use Rattle.gb_plan.specs.declared.task.Output.{Output}
use Rattle.gb_folder.specs.Changes.{IsHindered}
use Rattle.gb_semantics.specs.Made.{placed, put_over, step_faults}
use Rattle.gb_semantics.specs.Run.{has_room, step_by}
use Rattle.gb_semantics.proofs.Lemmas.Files.{sorted-put_over}
use Rattle.gb_run.specs.RunInput.{free_files}
use Rattle.gb_run.specs.Named.{put}
use Rattle.gb_run.specs.Placing.{blank, faults_beside}
use Rattle.gb_run.specs.Step.{IsHeld, StopsIn}
use Rattle.gb_run.specs.Stepping.{FailsByMachine, HasRoom, IsCutShort, IsShutOut}
use Rattle.gb_run.specs.Steps.{Step, after_steps, folder_after}
use Rattle.gb_run.proofs.AsSteps.{IsParted, after_put, parted, room_of}
use Rattle.gb_run.proofs.Beside.{beside_held, over_rest, taken_then}
use Rattle.gb_run.proofs.Endings.{with_none}
use Rattle.gb_run.proofs.RunStates.{by_machine}
use Rattle.gb_run.proofs.Room.{free_is, step_blocked, step_ends, step_hindered}
use Rattle.gb_run.proofs.Writer.{heads}

module _ (outputs : List Output) (rest held taken folder : Files) (made : Result (List Written) Text) (is_held : IsHeld rest held taken folder)
    (may_leave : Tearing) (before : ℕ) (fault : Fault) (after : ℕ) where
  abbrev Stops : Files → Type 0
  Stops new = StopsIn outputs rest held made may_leave before fault after new

  -- nothing was written, and the action itself stops here
  pub stops_itself : step_by outputs rest held made ≡ Err fault → Stops folder
  stops_itself is = record { prefix = []; following = put (free_files outputs held made); at_hand = refl; why = inl (is, is_held.files) }

  -- nothing was written, and memory ran out
  pub stops_for_memory : fault ≡ faults.OutOfMemory → Stops folder
  stops_for_memory is = record { prefix = []; following = put (free_files outputs held made); at_hand = refl; why = inr (inl (is, is_held.files)) }

  -- the action failed
  pub stops_asked : (text : Text) → fault ≡ faults.ActionFailed text → made ≡ Err text → Stops folder
  stops_asked text reported is = stops_itself (ap (step_by outputs rest held) is ∙ ap Err (sym reported))

  module _ (written : List Written) (is : made ≡ Ok written) where
    abbrev by_place : Files
    by_place = put_over [] (placed outputs written)

    faults_same : faults_beside outputs taken by_place ≡ step_faults outputs held (placed outputs written)
    faults_same = ap (λ (places : Files). faults_beside outputs places by_place) is_held.places ∙ beside_held outputs held (placed outputs written) is_held.in_order

    -- its files are in conflict with one another
    pub stops_placing : first_of (faults_beside outputs taken (put_over [] (placed outputs written))) ≡ Some fault → Stops folder
    stops_placing first =
        stops_itself (ap (step_by outputs rest held) is ∙ step_hindered outputs rest held written fault (ap first_of (sym faults_same) ∙ first))

    module _ (none : faults_beside outputs taken (put_over [] (placed outputs written)) ≡ []) where
      none_held : step_faults outputs held (placed outputs written) ≡ []
      none_held = sym faults_same ∙ none

      free_now : free_files outputs held made ≡ by_place
      free_now = ap (free_files outputs held) is ∙ free_is outputs rest held written none_held

      -- all is written, and memory ran out
      pub stops_printing : (new : Files) → new ≡ after_steps folder (put (put_over [] (placed outputs written))) → fault ≡ faults.OutOfMemory → Stops new
      stops_printing new now reported = record {
        prefix = put by_place;
        following = [];
        at_hand = with_none (put by_place) ∙ ap put (sym free_now);
        why = inr (inl (reported, now ∙ ap (λ (m : Files). after_steps m (put by_place)) is_held.files));
      }

      module _ (old new : Contents) (existed : old.files ≡ folder) (risen : (place : Place) → fault ≡ faults.Device place → HasRisen before after) where
        then : (prefix : List Step) → after_steps old.files prefix ≡ after_steps (put_over rest held) prefix
        then prefix = ap (λ (m : Files). after_steps m prefix) (existed ∙ is_held.files)

        -- the writing of its files was cut short
        pub stops_writing : (files : List (Place × Bytes)) → files ≡ put_over [] (placed outputs written) → IsCutShort may_leave (put files) old fault new → Stops new.files
        stops_writing files same cut = record {
          prefix = cut.prefix;
          following = cut.step ∷ cut.following;
          at_hand = sym cut.all ∙ ap put (same ∙ sym free_now);
          why = at_stop cut.stopped;
        }
          where
            parts : IsParted files cut.prefix (cut.step ∷ cut.following)
            parts = parted files cut.prefix (cut.step ∷ cut.following) (sym cut.all)

            -- what was put before the one that was shut out
            blocked : (later : List (Place × Bytes)) → cut.step ∷ cut.following ≡ put later → files ≡ parts.first ++ later → is_blocked (after_steps old.files cut.prefix) cut.step.0 ≡ true
                → step_by outputs rest held (Ok written) ≡ Err (faults.Blocked cut.step.0)
            blocked [] is_after all hit = absurd (let e = is_after in (cc))
            blocked (file ∷ later) is_after all hit =
                step_blocked outputs rest held written parts.first file later is_held.in_order (sym same ∙ all) none_held
                (room_of (put_over rest held) parts.first
                (subst (λ (ss : List Step). HasRoom (put_over rest held) ss) parts.prefix_is (subst (λ (m : Files). HasRoom m cut.prefix) (existed ∙ is_held.files) cut.room)))
                (ap (λ (p : Place). is_blocked (put_over (put_over rest held) parts.first) p) (sym here)
                ∙ ap (λ (m : Files). is_blocked m cut.step.0) (sym (then cut.prefix ∙ ap (after_steps (put_over rest held)) parts.prefix_is ∙ after_put (put_over rest held) parts.first)) ∙ hit)
                ∙ ap (λ (p : Place). Err (faults.Blocked p)) (sym here)
              where
                here : cut.step.0 ≡ file.0
                here = ap (λ (s : Step). s.0) (heads cut.step (file.0, Some file.1) cut.following (put later) is_after)

            at_stop : IsShutOut cut.step (folder_after old cut.prefix) fault new ⊎ IsHindered may_leave cut.step.0 cut.step.1 (folder_after old cut.prefix) fault new
                → ((step_by outputs rest held made ≡ Err fault) × (new.files ≡ after_steps (put_over rest held) cut.prefix))
                ⊎ FailsByMachine may_leave before (after_steps (put_over rest held) cut.prefix) (cut.step ∷ cut.following) fault after new.files
            at_stop (inl shut) = inl (
              ap (step_by outputs rest held) is ∙ blocked parts.later parts.after_is parts.all shut.blocked ∙ ap Err (sym shut.reported),
              ap (λ (c : Contents). c.files) shut.same ∙ then cut.prefix,
            )
            at_stop (inr hindered) = inr (by_machine may_leave before after old (after_steps (put_over rest held) cut.prefix) cut.prefix cut.step cut.following fault new (then cut.prefix) risen hindered)

-- an action ends
pub goes_on : (outputs : List Output) (rest held taken folder : Files) (made : Result (List Written) Text) → IsHeld rest held taken folder
    → (written : List Written) → made ≡ Ok written → faults_beside outputs taken (put_over [] (placed outputs written)) ≡ []
    → (files : List (Place × Bytes)) → files ≡ put_over [] (placed outputs written) → HasRoom folder (put files)
    → (taken_now new : Files) → taken_now ≡ put_over taken (blank (put_over [] (placed outputs written))) → new ≡ after_steps folder (put files)
    → (more : Files) × (step_by outputs rest held made ≡ Ok more) × IsHeld rest more taken_now new
goes_on outputs rest held taken folder made is_held written is none files same room taken_now new takes puts =
    let by_place = put_over [] (placed outputs written) in
    let no_faults : step_faults outputs held (placed outputs written) ≡ [] =
    sym (ap (λ (places : Files). faults_beside outputs places by_place) is_held.places ∙ beside_held outputs held (placed outputs written) is_held.in_order) ∙ none in
    let has : has_room (put_over rest held) by_place =
    subst (λ (m : Files). has_room m by_place) is_held.files (subst (λ (fs : List (Place × Bytes)). has_room folder fs) same (room_of folder files room)) in (
      put_over held (placed outputs written),
      ap (step_by outputs rest held) is ∙ step_ends outputs rest held written no_faults has,
      record {
        rest_in_order = is_held.rest_in_order;
        in_order = sorted-put_over held (placed outputs written) is_held.in_order;
        places = takes ∙ ap (λ (places : Files). put_over places (blank by_place)) is_held.places ∙ taken_then held (placed outputs written) is_held.in_order;
        files =
            puts ∙ after_put folder files ∙ ap (put_over folder) same ∙ ap (λ (m : Files). put_over m by_place) is_held.files
            ∙ over_rest rest held (placed outputs written) is_held.rest_in_order is_held.in_order;
      },
    )
