-- A full execution, computed action by action.
use Rattle.std.specs.Prelude.{◌≡◌, ◌++◌, if◌then◌else◌, List, [], ◌∷◌, map, Option, None, Some, Result, Ok, Err}
use Rattle.std.proofs.Common.{refl, sym, ap, ◌∙◌, append_assoc}
use Rattle.gb_core.specs.Lists.{first_of}
use Rattle.gb_folder.specs.Files.{Files, is_empty}
use Rattle.gb_report.specs.declared.fault.Fault.{Fault}
use Rattle.gb_action.specs.declared.reply.Written.{Written}
use Rattle.gb_tree.specs.Prints.{digests_of}
use Rattle.gb_plan.specs.Task.{Text}
use Rattle.gb_plan.specs.declared.task.Action.{Action}
use Rattle.gb_plan.specs.declared.task.Output.{Output}
use Rattle.gb_semantics.specs.Kinds.{kind_of}
use Rattle.gb_semantics.specs.Made.{made_of, placed, put_over, put_result, step_faults}
use Rattle.gb_run.specs.RunInput.{RunInput}
use Rattle.gb_run.specs.Placing.{faults_beside}
use Rattle.gb_run.specs.Step.{IsKept}
use Rattle.gb_run.specs.Work.{Part, Work, or_stop, part_of, with_part, work_of}
use Rattle.gb_run.specs.Worked.{part_held}
use Rattle.gb_run.specs.declared.work.Part.{Part as HeldPart}
use Rattle.gb_run.proofs.Beside.{beside_held}
use Rattle.gb_run.proofs.Endings.{with_none}
use Rattle.gb_run.proofs.Keeping.{IsMaking, made_more}

-- the files of an action are in conflict with one another
module _ (outputs : List Output) (held taken digests : Files) (kept : IsKept held taken digests) where
  beside : (written : List Written) → faults_beside outputs taken (put_over [] (placed outputs written)) ≡ step_faults outputs held (placed outputs written)
  beside written = ap (λ (places : Files). faults_beside outputs places (put_over [] (placed outputs written))) kept.places ∙ beside_held outputs held (placed outputs written) kept.in_order

  pub hinders : (made : Result (List Written) Text) (written : List Written) (fault : Fault) → made ≡ Ok written → first_of (faults_beside outputs taken (put_over [] (placed outputs written))) ≡ Some fault
      → (hindrances : List Fault) × (put_result outputs held made ≡ Err hindrances) × (first_of hindrances ≡ Some fault)
  hinders made written fault is first =
      (step_faults outputs held (placed outputs written), ap (put_result outputs held) is ∙ some (step_faults outputs held (placed outputs written)) refl (ap first_of (sym (beside written)) ∙ first), ap first_of (sym (beside written)) ∙ first)
    where
      some : (hs : List Fault) → step_faults outputs held (placed outputs written) ≡ hs → first_of hs ≡ Some fault → put_result outputs held (Ok written) ≡ Err hs
      some [] same e = absurd (cc)
      some (h ∷ hs) same e = ap (λ (fs : List Fault). if is_empty fs then Ok (put_over held (placed outputs written)) else Err fs) same

map-last : {X Y : Type 0} (f : X → Y) (xs : List X) (x : X) → map f (xs ++ x ∷ []) ≡ map f xs ++ f x ∷ []
map-last f [] x = refl
map-last f (y ∷ xs) x = ap (λ ys. f y ∷ ys) (map-last f xs x)

abbrev with_parts : List Part → Work → Work
with_parts parts work = record { parts = parts ++ work.parts; fault = work.fault }

-- The parts of some first actions are computed; these are left.
pub record IsWorking (input : RunInput) (left : List Action) (taken digests : Files) (parts : List HeldPart)
    : Type 0 where
  pub making : IsMaking input.kinds input.task input.trees left taken digests
  pub so_far : work_of input [] input.task.actions ≡ with_parts (map part_held parts) (work_of input making.held left)

module _ (input : RunInput) where
  pub begins : (left : List Action) (taken digests : Files) (parts : List HeldPart) → left ≡ input.task.actions → taken ≡ [] → digests ≡ [] → parts ≡ [] → IsWorking input left taken digests parts
  begins left taken digests parts all none_taken none_digested none = record {
    making = record { done = []; all = sym all; held = []; made = refl; kept = record { in_order = refl; places = none_taken; prints = none_digested } };
    so_far = ap (λ (ps : List HeldPart). with_parts (map part_held ps) (work_of input [] input.task.actions)) (sym none) ∙ ap (λ (actions : List Action). with_parts (map part_held parts) (work_of input [] actions)) (sym all);
  }

  module _ (action : Action) (left : List Action) (taken digests : Files) (parts : List HeldPart) (working : IsWorking input (action ∷ left) taken digests parts) where
    -- one part more
    pub works_on : (part : HeldPart) (taken_now digests_now : Files)
        → ((held : Files) → IsKept held taken digests
        → (more : Files) × (put_result input.task.outputs held (input.kinds.makes (kind_of action) action.args input.task.values input.trees) ≡ Ok more) × IsKept more taken_now digests_now × (part_held part ≡ part_of input action))
        → IsWorking input left taken_now digests_now (parts ++ part ∷ [])
    works_on part taken_now digests_now goes =
        let making = working.making in
        let went = goes making.held making.kept in
        record {
          making = record {
            done = making.done ++ action ∷ [];
            all = making.all ∙ sym (append_assoc making.done (action ∷ []) left);
            held = went.0;
            made = made_more input.kinds input.task input.trees making.done action making.held went.0 making.made went.1;
            kept = went.2;
          };
          so_far =
              working.so_far
              ∙ ap (λ (r : Result Files (List Fault)). with_parts (map part_held parts) (or_stop r (λ more. with_part (part_of input action) (work_of input more left)))) went.1
              ∙ ap (λ (ps : List Part). record { parts = ps; fault = (work_of input went.0 left).fault })
              (sym (append_assoc (map part_held parts) (part_of input action ∷ []) (work_of input went.0 left).parts)
              ∙ ap (λ (p : Part). (map part_held parts ++ p ∷ []) ++ (work_of input went.0 left).parts) (sym went.3)
              ∙ ap (λ (ps : List Part). ps ++ (work_of input went.0 left).parts) (sym (map-last part_held parts part)));
        }

    -- the action fails by itself
    pub works_until : (fault : Fault)
        → ((held : Files) → IsKept held taken digests → (hindrances : List Fault) × (put_result input.task.outputs held (input.kinds.makes (kind_of action) action.args input.task.values input.trees) ≡ Err hindrances) × (first_of hindrances ≡ Some fault))
        → work_of input [] input.task.actions ≡ record { parts = map part_held parts; fault = Some fault }
    works_until fault stops =
        let stop = stops working.making.held working.making.kept in
        working.so_far
        ∙ ap (λ (r : Result Files (List Fault)). with_parts (map part_held parts) (or_stop r (λ more. with_part (part_of input action) (work_of input more left)))) stop.1
        ∙ ap (λ (f : Option Fault). record { parts = map part_held parts ++ []; fault = f }) stop.2
        ∙ ap (λ (ps : List Part). record { parts = ps; fault = Some fault }) (with_none (map part_held parts))

  -- nothing is left
  module _ (taken digests : Files) (parts : List HeldPart) (working : IsWorking input [] taken digests parts) where
    pub worked : work_of input [] input.task.actions ≡ record { parts = map part_held parts; fault = None }
    worked = working.so_far ∙ ap (λ (ps : List Part). record { parts = ps; fault = None }) (with_none (map part_held parts))

    pub all_made : (held : Files) × (made_of input.kinds input.task.actions input.task.values input.trees input.task.outputs ≡ Ok held) × (digests ≡ digests_of held)
    all_made = (
      working.making.held,
      ap (λ (actions : List Action). made_of input.kinds actions input.task.values input.trees input.task.outputs) (working.making.all ∙ with_none working.making.done) ∙ working.making.made,
      working.making.kept.prints,
    )
