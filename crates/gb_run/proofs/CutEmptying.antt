-- If the outputs of a task could not be emptied, what is there afterwards was there before, or is torn.
use Rattle.std.proofs.Common.{◌≡◌, ◌⊎◌, inl, inr, true, false, cond, not, List, [], ◌∷◌, Option, Some, None, fold, map, refl, sym, ap, subst, ◌∙◌}
use Rattle.std.specs.Prelude.{bytes_eq}
use Rattle.std.specs.Cmp.Lexicographic.{bytes_decides}
use Rattle.std.specs.List.{filter}
use Rattle.gb_core.specs.Lists.{first_of}
use Rattle.gb_folder.specs.Files.{Place, Bytes, Contents, Files, file_at, is_special_under, without}
use Rattle.gb_folder.proofs.Changes.{file_at-without}
use Rattle.gb_report.specs.declared.fault.Fault.{Fault}
use Rattle.gb_report.specs.declared.fault.Fault.TheVariants as faults
use Rattle.gb_tree.specs.declared.fault.TreeFault.TheVariants as trees
use Rattle.gb_plan.specs.Task.{output_places}
use Rattle.gb_plan.specs.declared.task.TaskDeclaration.{TaskDeclaration as Task}
use Rattle.gb_folder.specs.Changes.{IsCutShort, IsHindered, without_all}
use Rattle.gb_semantics.specs.Tree.{reported_of_tree}
use Rattle.gb_semantics.specs.Events.{IsTornInRun, Setting, ExistsInRun}
use Rattle.gb_run.specs.Emptying.{places_at}
use Rattle.gb_run.specs.Laws.{CutEmptyingsInventNothing, TornPlacesAreOfTheEmptying}
use Rattle.gb_run.proofs.FailedRuns.{left_elsewhere, left_here}

-- what is there after some places are emptied was there before
existed_before : (places : List Place) (files : Files) (q : Place) (bytes : Bytes) → file_at (fold without files places) q ≡ Some bytes → file_at files q ≡ Some bytes
existed_before [] files q bytes e = e
existed_before (place ∷ places) files q bytes e =
    let later = existed_before places (without files place) q bytes e in
    elim (bytes_eq q place) as (λ b. cond (not b) (file_at files q) None ≡ Some bytes → file_at files q ≡ Some bytes) [
      | true ↦ λ none. absurd (let h = none in (cc))
      | false ↦ λ exists. exists
    ] (sym (file_at-without files place q) ∙ later)

-- unsupported entries are reported as such, and never as a failure of the device
special_is_not_device : (contents : Contents) (roots : List Place) (place : Place) → first_of (map reported_of_tree (map trees.BadFileName (filter (is_special_under contents) roots))) ≡ Some (faults.Device place) → ⊥
special_is_not_device contents roots place e = go (filter (is_special_under contents) roots) e
  where
    go : (special : List Place) → first_of (map reported_of_tree (map trees.BadFileName special)) ≡ Some (faults.Device place) → ⊥
    go [] h = cc
    go (root ∷ special) h = cc

module _ (setting : Setting) (task : Task) where
  -- what was in the folder before is there in the run
  exists : (old : Files) (place : Place) (o : Option Bytes) → ((bytes : Bytes) → o ≡ Some bytes → file_at old place ≡ Some bytes) → ExistsInRun setting.kinds task old place o
  exists old place None h = tt
  exists old place (Some bytes) h = inl (h bytes refl)

  unchanged : (old new : Contents) (place : Place) → new ≡ old → ExistsInRun setting.kinds task old.files place (file_at new.files place)
  unchanged old new place same = exists old.files place (file_at new.files place) (λ bytes e. ap (λ (c : Contents). file_at c.files place) (sym same) ∙ e)

  from_cut : (old new : Contents) (fault : Fault) (cut : IsCutShort setting.may_leave (places_at task.outputs old.files) old fault new) (place : Place) (bytes : Bytes)
      → file_at new.files place ≡ Some bytes → (file_at old.files place ≡ Some bytes) ⊎ (fault ≡ faults.Device place)
  from_cut old new fault cut place bytes e = at_stop cut.hindered
    where
      at_stop : IsHindered setting.may_leave cut.place None (without_all old cut.gone) fault new → (file_at old.files place ≡ Some bytes) ⊎ (fault ≡ faults.Device place)
      at_stop (inl memory) = inl (existed_before cut.gone old.files place bytes (ap (λ (c : Contents). file_at c.files place) (sym memory.1) ∙ e))
      at_stop (inr torn) =
          elim (bytes_eq place cut.place) as (λ b. bytes_eq place cut.place ≡ b → (file_at old.files place ≡ Some bytes) ⊎ (fault ≡ faults.Device place)) [
            | true ↦ λ here. inr (torn.0 ∙ ap faults.Device (sym ((bytes_decides place cut.place).0 here)))
            | false ↦ λ other. inl (existed_before cut.gone old.files place bytes
                (sym (left_elsewhere (fold without old.files cut.gone) cut.place torn.1.0 place other) ∙ ap (λ (c : Contents). file_at c.files place) (sym torn.1.2) ∙ e))
          ] refl

  torn_in : (old new : Contents) (place : Place) (cut : IsCutShort setting.may_leave (places_at task.outputs old.files) old (faults.Device place) new)
      → ExistsInRun setting.kinds task old.files place (file_at new.files place) ⊎ IsTornInRun setting task old.files place (file_at new.files place)
  torn_in old new place cut = at_stop cut.hindered
    where
      at_stop : IsHindered setting.may_leave cut.place None (without_all old cut.gone) (faults.Device place) new
          → ExistsInRun setting.kinds task old.files place (file_at new.files place) ⊎ IsTornInRun setting task old.files place (file_at new.files place)
      at_stop (inl memory) = absurd (let h = memory.0 in (cc))
      at_stop (inr torn) =
          let here : place ≡ cut.place = let h = torn.0 in (cc) in
          let before = fold without old.files cut.gone in
          inr (
            file_at before place,
            None,
            exists old.files place (file_at before place) (λ bytes e. existed_before cut.gone old.files place bytes e),
            tt,
            subst (λ (q : Place). setting.may_leave q (file_at before q) None (file_at new.files q)) (sym here)
                (subst (λ (left : Option Bytes). setting.may_leave cut.place (file_at before cut.place) None left)
                (sym (ap (λ (c : Contents). file_at c.files cut.place) torn.1.2 ∙ left_here before cut.place torn.1.0)) torn.1.1),
          )

pub cut_emptyings_invent_nothing : (setting : Setting) → CutEmptyingsInventNothing setting
cut_emptyings_invent_nothing setting task before old fault after new (inl special) place bytes e = inl (ap (λ (c : Contents). file_at c.files place) (sym special.1) ∙ e)
cut_emptyings_invent_nothing setting task before old fault after new (inr machine) place bytes e = elim machine.1 [
  | inl same ↦ inl (ap (λ (c : Contents). file_at c.files place) (sym same) ∙ e)
  | inr cut ↦ from_cut setting task old new fault cut place bytes e
]

pub torn_places_are_of_the_emptying : (setting : Setting) → TornPlacesAreOfTheEmptying setting
torn_places_are_of_the_emptying setting task before old place after new (inl special) = absurd (special_is_not_device old (output_places task) place special.0)
torn_places_are_of_the_emptying setting task before old place after new (inr machine) = elim machine.1 [
  | inl same ↦ inl (unchanged setting task old new place same)
  | inr cut ↦ torn_in setting task old new place cut
]
