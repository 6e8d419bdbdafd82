-- Executions in a chain: from the contents after the last one back to those before the first.
use Rattle.std.specs.Prelude.{ℕ, ◌≡◌, ◌++◌, Bool, true, false, not, cond, List, [], ◌∷◌, Option, Some}
use Rattle.std.specs.List.{list_all, AllByRecursion}
use Rattle.std.proofs.Common.{refl, sym, ap, subst, ◌∙◌, inl, inr}
use Rattle.gb_action.specs.Meanings.{Meanings}
use Rattle.gb_exec.specs.Asking.{ExecutionsRequest}
use Rattle.gb_folder.specs.Files.{Bytes, Contents, Files, Place, files_where, is_empty, is_own}
use Rattle.gb_history.specs.Record.{Record}
use Rattle.gb_semantics.specs.Headline.{contents_outside}
use Rattle.gb_semantics.specs.Kinds.{Kinds}
use Rattle.gb_semantics.specs.Label.{Moment}
use Rattle.gb_semantics.specs.Outline.{AnswersAlone, AreOutlines, moment_by}
use Rattle.gb_semantics.specs.TrueRecord.{AreCollisionFree, contents_of, outside}
use Rattle.gb_semantics.proofs.Lemmas.Clear.{Among, existed, in_one, later_separate, places_of, separate_of_fewer}
use Rattle.gb_semantics.proofs.Lemmas.Files.{left_of, right_of}
use Rattle.gb_semantics.proofs.Lemmas.Scratch.{AreDone, ended_well}
use Rattle.gb_semantics.proofs.Lemmas.Success.{folder_where}
use Rattle.gb_plan.specs.Graph.{Plan, some_overlap}
use Rattle.gb_plan.specs.Ready.{Rows}
use Rattle.gb_plan.specs.Task.{IsShaped, Path, is_output_of, output_places}
use Rattle.gb_plan.specs.declared.plan.Planned.{Planned}
use Rattle.gb_plan.specs.declared.task.TaskDeclaration.{TaskDeclaration as Task}
use Rattle.gb_plan.proofs.Places.{out_of, overlap_tail, separate_places}
use Rattle.gb_plan.proofs.Tests.{not_true, not_false, no_longer}
use Rattle.gb_report.specs.Outcome.{is_failed, is_started}
use Rattle.gb_report.specs.declared.report.Options.{Options}
use Rattle.gb_report.specs.declared.report.Outcome.{Outcome}
use Rattle.gb_report.specs.declared.report.TaskReport.{TaskReport}
use Rattle.gb_task.specs.Buildable.{IsBuildable}
use Rattle.gb_task.specs.ByOutcome.{ExecutionRequests, since_after}
use Rattle.sha2.specs.Sha256.{sha256}
use Rattle.gb_answers.proofs.Going.{AllWentWell, IsOfTrue, WentWell, world_of}
use Rattle.gb_folder.specs.Calls.{Device}

-- what one execution that went well gives: contents before it under which it went well
abbrev pub Steps : {F S : Type 0} → Device F → (F → Contents → Type 0)
    → Meanings S → Rows S → Kinds → Options → Plan → Type 0
Steps {F = F} device Shows meanings rows kinds options plan =
    (moment : Moment) (task : Task) (last : Option Record) (outcome : Outcome) (lines : List (List ℕ)) (since old new : F) (after : Contents)
    → IsBuildable meanings rows task → IsShaped task → some_overlap (output_places task) ≡ false
    → AnswersAlone options plan moment task task.runs (is_empty task.actions) outcome
    → is_failed outcome ≡ false → is_started outcome ≡ true
    → ExecutionRequests device meanings rows options task last outcome lines since old new
    → Shows new after
    → (before : Contents) × Shows old before × WentWell kinds task last before after

-- what a task of a plan needs for that
abbrev pub MayStep : {S : Type 0} → Meanings S → Rows S → Planned → Type 0
MayStep meanings rows planned =
    IsBuildable meanings rows planned.task × IsShaped planned.task × (some_overlap (output_places planned.task) ≡ false)

module _ {F S : Type 0} (device : Device F) (Shows : F → Contents → Type 0)
    (meanings : Meanings S) (rows : Rows S) (kinds : Kinds) (options : Options) (plan : Plan)
    (step : Steps device Shows meanings rows kinds options plan) where
  pub chain : (done : List (Path × Outcome)) (rest : List Planned) (records : List (Option Record)) (reports : List TaskReport) (since old new : F) (after : Contents)
      → AllByRecursion (MayStep meanings rows) rest → AreOutlines options plan done rest reports → list_all ended_well reports ≡ true
      → ExecutionsRequest device meanings rows options rest records reports since old new → Shows new after
      → (before : Contents) × Shows old before × AllWentWell kinds rest records before after
  chain done [] [] [] since old new after each outlines well requests shows = (after, subst (λ (f : F). Shows f after) requests shows, refl)
  chain done [] [] (report ∷ reports) since old new after each outlines well requests shows = absurd requests
  chain done [] (last ∷ records) reports since old new after each outlines well requests shows = absurd requests
  chain done (planned ∷ rest) [] reports since old new after each outlines well requests shows = absurd requests
  chain done (planned ∷ rest) (last ∷ records) [] since old new after each outlines well requests shows = absurd requests
  chain done (planned ∷ rest) (last ∷ records) (report ∷ reports) since old new after each outlines well requests shows =
      let here = left_of (ended_well report) (list_all ended_well reports) well in
      let started = left_of (is_started report.outcome) (not (is_failed report.outcome)) here in
      elim outlines.0.answer [
        | inl answers ↦
            let later = chain (done ++ (report.path, report.outcome) ∷ []) rest records reports (since_after report.outcome since requests.0) requests.0 new after
            each.1 outlines.1 (right_of (ended_well report) (list_all ended_well reports) well) requests.2 shows in
            let from = step (moment_by done) planned.task last report.outcome report.lines since old requests.0 later.0 each.0.0 each.0.1 each.0.2 answers.1
            (no_longer (is_failed report.outcome) (right_of (is_started report.outcome) (not (is_failed report.outcome)) here)) started requests.1 later.1 in
            (from.0, from.1, (later.0, from.2, later.2))
        | inr passed ↦ not_true (sym (ap is_started passed.1) ∙ started)
      ]

-- ---- Each execution that went well was done, where the records are true and no two contents share a digest

narrow : (test wide : Place → Bool) → ((q : Place) → test q ≡ true → wide q ≡ true) → (files : Files) → files_where test (files_where wide files) ≡ files_where test files
narrow test wide h [] = refl
narrow test wide h (f ∷ files) =
    let rest = narrow test wide h files in
    elim (wide f.0) as (λ b. wide f.0 ≡ b → files_where test (cond b (f ∷ files_where wide files) (files_where wide files)) ≡ cond (test f.0) (f ∷ files_where test files) (files_where test files)) [
      | true ↦ λ _. ap (λ xs. cond (test f.0) (f ∷ xs) xs) rest
      | false ↦ λ out. elim (test f.0) as (λ b. test f.0 ≡ b → files_where test (files_where wide files) ≡ cond b (f ∷ files_where test files) (files_where test files)) [
        | true ↦ λ e. not_false (sym (h f.0 e) ∙ out)
        | false ↦ λ _. rest
      ] refl
    ] refl

same_narrow : (test wide : Place → Bool) → ((q : Place) → test q ≡ true → wide q ≡ true) → (old new : Files) → files_where wide new ≡ files_where wide old → files_where test new ≡ files_where test old
same_narrow test wide h old new e = sym (narrow test wide h new) ∙ ap (files_where test) e ∙ narrow test wide h old

-- the record that was read of a task, if one was, is of a true entry whose contents are among these
abbrev pub IsTrueWithin : Kinds → List Bytes → Option Record → Type 0
IsTrueWithin kinds all last =
    (run : Record) → last ≡ Some run → (true_one : IsOfTrue kinds run) × Among (contents_of true_one.entry) all

module _ (kinds : Kinds) where
  -- executions leave the places that are no outputs of theirs
  rest_leave : (test : Place → Bool) (rest : List Planned) (records : List (Option Record)) (before after : Contents)
      → AllByRecursion (λ (later : Planned). (q : Place) → test q ≡ true → is_output_of later.task q ≡ false) rest
      → AllWentWell kinds rest records before after → files_where test (outside after).files ≡ files_where test (outside before).files
  rest_leave test [] [] before after separate went = ap (λ (c : Contents). files_where test (outside c).files) went
  rest_leave test [] (last ∷ records) before after separate went = absurd went
  rest_leave test (planned ∷ rest) [] before after separate went = absurd went
  rest_leave test (planned ∷ rest) (last ∷ records) before after separate went =
      rest_leave test rest records went.0 after separate.1 went.2
      ∙ same_narrow test (λ place. not (is_output_of planned.task place)) (λ q e. ap not (separate.0 q e)) (outside before).files (outside went.0).files went.1.files

  module _ (all : List Bytes) (separate : AreCollisionFree sha256 all) where
    pub all_done : (rest : List Planned) (records : List (Option Record)) (before after : Contents)
        → some_overlap (places_of rest) ≡ false → AllByRecursion (IsTrueWithin kinds all) records
        → Among (contents_outside before) all → Among (contents_outside after) all
        → AllWentWell kinds rest records before after → AreDone kinds rest (world_of before) (world_of after)
    all_done [] [] before after apart trues begins ends went = ap (λ (c : Contents). (outside c).files) went
    all_done [] (last ∷ records) before after apart trues begins ends went = absurd went
    all_done (planned ∷ rest) [] before after apart trues begins ends went = absurd went
    all_done (planned ∷ rest) (last ∷ records) before after apart trues begins ends went = (
      world_of went.0,
      folder_where (λ place. not (is_own place)) went.0.files went.1.sound.folder,
      went.1.done goes,
      all_done rest records went.0 after (overlap_tail (output_places planned.task) (places_of rest) apart) trues.1 between ends went.2,
    )
      where
        goes : (run : Record) → last ≡ Some run → (true_one : IsOfTrue kinds run) × AreCollisionFree sha256 (contents_of true_one.entry ++ contents_outside before)
        goes run is =
            let known = trues.0 run is in (
              known.0,
              separate_of_fewer sha256 all (contents_of known.0.entry ++ contents_outside before)
                  (λ c h. elim (in_one c (contents_of known.0.entry) (contents_outside before) h) [
                    | inl said ↦ known.1 c said
                    | inr here ↦ begins c here
                  ]) separate,
            )

        later_leave : files_where (is_output_of planned.task) (outside after).files ≡ files_where (is_output_of planned.task) (outside went.0).files
        later_leave = rest_leave (is_output_of planned.task) rest records went.0 after
            (later_separate planned.task rest (λ q e. separate_places q (output_places planned.task) (places_of rest) apart (sym (out_of planned.task q) ∙ e))) went.2

        between : Among (contents_outside went.0) all
        between c h = elim (existed (is_output_of planned.task) (outside before).files (outside went.0).files (outside after).files went.1.files later_leave c h) [
          | inl old ↦ begins c old
          | inr last ↦ ends c last
        ]
