-- What the actions of a task make, one action more at a time, whatever the folder is.
use Rattle.std.proofs.Common.{◌≡◌, List, [], ◌∷◌, ◌++◌, Result, Ok, Err, refl, sym, ap, ◌∙◌}
use Rattle.std.specs.Prelude.{if◌then◌else◌}
use Rattle.std.specs.List.{fold}
use Rattle.gb_report.specs.declared.fault.Fault.{Fault}
use Rattle.gb_folder.specs.Files.{Files, is_empty}
use Rattle.gb_action.specs.Files.{Trees}
use Rattle.gb_action.specs.declared.reply.Written.{Written}
use Rattle.gb_tree.specs.Prints.{digests_of}
use Rattle.gb_plan.specs.Task.{Text}
use Rattle.gb_plan.specs.declared.task.Action.{Action}
use Rattle.gb_plan.specs.declared.task.Output.{Output}
use Rattle.gb_plan.specs.declared.task.TaskDeclaration.{TaskDeclaration as Task}
use Rattle.gb_semantics.specs.Kinds.{Kinds, kind_of}
use Rattle.gb_semantics.specs.Made.{act, made_of, placed, put_over, put_result, step_faults}
use Rattle.gb_semantics.proofs.Lemmas.Files.{sorted-put_over}
use Rattle.gb_run.specs.Placing.{blank, faults_beside}
use Rattle.gb_run.specs.Step.{IsKept}
use Rattle.gb_run.proofs.Beside.{beside_held, over_by_place, taken_then}

-- files without a fault are put over those so far
pub put_freely : (outputs : List Output) (held : Files) (made : Result (List Written) Text) (written : List Written) → made ≡ Ok written
    → step_faults outputs held (placed outputs written) ≡ [] → put_result outputs held made ≡ Ok (put_over held (placed outputs written))
put_freely outputs held made written is none =
    ap (put_result outputs held) is ∙ ap (λ (faults : List Fault). if is_empty faults then Ok (put_over held (placed outputs written)) else Err faults) none

-- an action's files take their places, and their digests are known
pub keeps_on : (outputs : List Output) (held taken digests : Files) (made : Result (List Written) Text) → IsKept held taken digests
    → (written : List Written) → made ≡ Ok written → faults_beside outputs taken (put_over [] (placed outputs written)) ≡ []
    → (taken_now digests_now : Files) → taken_now ≡ put_over taken (blank (put_over [] (placed outputs written)))
    → ((files : Files) → digests ≡ digests_of files → digests_now ≡ digests_of (put_over files (put_over [] (placed outputs written))))
    → (more : Files) × (put_result outputs held made ≡ Ok more) × IsKept more taken_now digests_now
keeps_on outputs held taken digests made kept written is none taken_now digests_now takes puts =
    let by_place = put_over [] (placed outputs written) in
    let no_faults : step_faults outputs held (placed outputs written) ≡ [] =
    sym (ap (λ (places : Files). faults_beside outputs places by_place) kept.places ∙ beside_held outputs held (placed outputs written) kept.in_order) ∙ none in (
      put_over held (placed outputs written),
      put_freely outputs held made written is no_faults,
      record {
        in_order = sorted-put_over held (placed outputs written) kept.in_order;
        places = takes ∙ ap (λ (places : Files). put_over places (blank by_place)) kept.places ∙ taken_then held (placed outputs written) kept.in_order;
        prints = puts held kept.prints ∙ ap digests_of (sym (over_by_place held (placed outputs written) kept.in_order));
      },
    )

fold_last : {A X : Type 0} (f : A → X → A) (a : A) (xs : List X) (x : X) → fold f a (xs ++ x ∷ []) ≡ f (fold f a xs) x
fold_last f a [] x = refl
fold_last f a (y ∷ xs) x = fold_last f (f a y) xs x

-- what actions make with one more
pub made_more : (kinds : Kinds) (task : Task) (trees : Trees) (done : List Action) (action : Action) (held more : Files)
    → made_of kinds done task.values trees task.outputs ≡ Ok held → put_result task.outputs held (kinds.makes (kind_of action) action.args task.values trees) ≡ Ok more
    → made_of kinds (done ++ action ∷ []) task.values trees task.outputs ≡ Ok more
made_more kinds task trees done action held more made puts =
    fold_last (act kinds task.outputs task.values trees) (Ok []) done action ∙ ap (λ (r : Result Files (List Fault)). act kinds task.outputs task.values trees r action) made ∙ puts

-- Some first actions have ended; these are left. The digests are those of what the ended ones make.
pub record IsMaking (kinds : Kinds) (task : Task) (trees : Trees) (left : List Action) (taken digests : Files) : Type 0 where
  pub done : List Action
  pub all : task.actions ≡ done ++ left
  pub held : Files
  pub made : made_of kinds done task.values trees task.outputs ≡ Ok held
  pub kept : IsKept held taken digests
