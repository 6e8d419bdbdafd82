-- An incremental execution, computed action by action.
use Rattle.std.specs.Prelude.{◌≡◌, ◌++◌, List, [], ◌∷◌, map, None, Some}
use Rattle.std.specs.List.{AllZip}
use Rattle.std.proofs.Common.{refl, sym, ap, subst, ◌∙◌, append_assoc}
use Rattle.gb_report.specs.declared.fault.Fault.{Fault}
use Rattle.gb_plan.specs.declared.task.Action.{Action}
use Rattle.gb_run.specs.Work.{Part}
use Rattle.gb_run.specs.WorkByChanges.{FailsWith, Increment, IsPart, IsWorkByChanges}
use Rattle.gb_run.specs.Worked.{part_held}
use Rattle.gb_run.specs.declared.work.Part.{Part as HeldPart}

zip_last : {A B : Type 0} (R : A → B → Type 0) (xs : List A) (ys : List B) (x : A) (y : B) → AllZip R xs ys → R x y → AllZip R (xs ++ x ∷ []) (ys ++ y ∷ [])
zip_last R [] [] x y all last = (last, tt)
zip_last R [] (b ∷ ys) x y all last = absurd all
zip_last R (a ∷ xs) [] x y all last = absurd all
zip_last R (a ∷ xs) (b ∷ ys) x y all last = (all.0, zip_last R xs ys x y all.1 last)

map-last : {X Y : Type 0} (f : X → Y) (xs : List X) (x : X) → map f (xs ++ x ∷ []) ≡ map f xs ++ f x ∷ []
map-last f [] x = refl
map-last f (y ∷ xs) x = ap (λ ys. f y ∷ ys) (map-last f xs x)

module _ (run : Increment) where
  -- Some first actions have their parts; these are left.
  pub record IsWorkingBy (left : List Action) (parts : List HeldPart) : Type 0 where
    pub done : List Action
    pub all : run.task.actions ≡ done ++ left
    pub so_far : AllZip (IsPart run) done (map part_held parts)

  pub works_none : (left : List Action) (parts : List HeldPart) → left ≡ run.task.actions → parts ≡ [] → IsWorkingBy left parts
  works_none left parts all none = record { done = []; all = sym all; so_far = subst (λ (ps : List HeldPart). AllZip (IsPart run) [] (map part_held ps)) (sym none) tt }

  module _ (action : Action) (left : List Action) (parts : List HeldPart) (working : IsWorkingBy (action ∷ left) parts) where
    pub works_more : (part : HeldPart) → IsPart run action (part_held part) → IsWorkingBy left (parts ++ part ∷ [])
    works_more part is = record {
      done = working.done ++ action ∷ [];
      all = working.all ∙ sym (append_assoc working.done (action ∷ []) left);
      so_far = subst (λ (ps : List Part). AllZip (IsPart run) (working.done ++ action ∷ []) ps) (sym (map-last part_held parts part))
          (zip_last (IsPart run) working.done (map part_held parts) action (part_held part) working.so_far is);
    }

    pub works_until : (fault : Fault) → FailsWith run action fault → IsWorkByChanges run (record { parts = map part_held parts; fault = Some fault })
    works_until fault fails = record { done = working.done; left = action ∷ left; all = working.all; parts = working.so_far; ends = (fault, refl, fails) }

  pub works_all : (parts : List HeldPart) → IsWorkingBy [] parts → IsWorkByChanges run (record { parts = map part_held parts; fault = None })
  works_all parts working = record { done = working.done; left = []; all = working.all; parts = working.so_far; ends = refl }
