-- An execution is prepared in a whole folder as in the folder without the tool's own files.
use Rattle.std.specs.Prelude.{◌≡◌, ◌++◌, Bool, true, false, List, [], ◌∷◌, map, if◌then◌else◌}
use Rattle.std.specs.List.{flat_map, list_any}
use Rattle.std.proofs.Common.{refl, sym, ap, ap₂, subst, ◌∙◌}
use Rattle.gb_action.specs.Files.{Trees}
use Rattle.gb_folder.specs.Files.{Place, Bytes, Contents, Files, files_where, is_empty, is_own, places_under}
use Rattle.gb_history.specs.declared.record.OutputRecord.{OutputRecord}
use Rattle.gb_label.specs.Deciding.{IsBasisIn, IsPresentOf}
use Rattle.gb_label.specs.declared.deciding.Basis.{Basis}
use Rattle.gb_label.specs.declared.deciding.Basis.TheVariants as bases
use Rattle.gb_label.specs.declared.deciding.FullReason.TheVariants as causes
use Rattle.gb_label.specs.declared.prepare.Prepared.TheVariants as prepared
use Rattle.gb_semantics.specs.Tree.{reported_of_tree, trees_of}
use Rattle.gb_semantics.specs.TrueRecord.{outside}
use Rattle.gb_plan.proofs.Tests.{none_left, none_right}
use Rattle.gb_plan.specs.declared.task.Output.{Output}
use Rattle.gb_plan.specs.declared.task.TaskDeclaration.{TaskDeclaration as Task}
use Rattle.gb_report.specs.declared.fault.Fault.{Fault}
use Rattle.gb_report.specs.declared.report.Options.{Options}
use Rattle.gb_tree.specs.Tree.{Entries, entries_from, special_roots, too_large, too_many}
use Rattle.gb_tree.specs.declared.fault.TreeFault.{TreeFault}
use Rattle.gb_label.specs.Reading.{digests_in, print_faults, recorded_of}
use Rattle.gb_task.specs.Case.{DecidedOutside, OutsideIsEnough}
use Rattle.gb_task.proofs.Outside.{early_outside, trees_outside}
use Rattle.gb_task.proofs.Own.{is_kept, kept_under}
use Rattle.gb_task.proofs.Part.{all_from, from_same, large_same, under_same}
use Rattle.gb_task.proofs.Present.{recorded_as}

module _ (folder : Contents) where
  recorded_outside : (outputs : List Output) → list_any (λ (o : Output). is_own o.place) outputs ≡ false
      → map (recorded_of (files_where is_kept folder.files)) outputs ≡ map (recorded_of folder.files) outputs
  recorded_outside [] out = refl
  recorded_outside (output ∷ outputs) out =
      let here = none_left (is_own output.place) (list_any (λ (o : Output). is_own o.place) outputs) out in
      let rest = none_right (is_own output.place) (list_any (λ (o : Output). is_own o.place) outputs) out in
      ap₂ (λ (tree : Files) (l : List OutputRecord). recorded_as output tree ∷ l) (from_same is_kept folder.files output.place (kept_under output.place here))
      (recorded_outside outputs rest)

  one_outside : (output : Output) → is_own output.place ≡ false → print_faults (outside folder) output ≡ print_faults folder output
  one_outside output out = by (is_own output.place)
    where
      kept : Files
      kept = files_where is_kept folder.files

      observed : Files → Entries
      observed fs = entries_from output.place (places_under fs output.place)

      faults_by : Files → Bool → List Fault
      faults_by fs own = map reported_of_tree ((if own then [] else special_roots folder (output.place ∷ []) ++ too_many output.name (observed fs)) ++ too_large fs (if own then [] else observed fs))

      same : observed (files_where is_kept folder.files) ≡ observed folder.files
      same = ap (λ (fs : Files). entries_from output.place (map (λ (file : Place × Bytes). file.0) fs)) (under_same is_kept folder.files output.place (kept_under output.place out))

      by : (own : Bool) → faults_by (files_where is_kept folder.files) own ≡ faults_by folder.files own
      by true = refl
      by false =
          ap₂ (λ (es : Entries) (large : List TreeFault). map reported_of_tree ((special_roots folder (output.place ∷ []) ++ too_many output.name es) ++ large)) same
          (ap (too_large (files_where is_kept folder.files)) same
          ∙ large_same is_kept folder.files (observed folder.files) (all_from is_kept folder.files output.place (kept_under output.place out)))

  printed_outside : (outputs : List Output) → list_any (λ (o : Output). is_own o.place) outputs ≡ false
      → flat_map (print_faults (outside folder)) outputs ≡ flat_map (print_faults folder) outputs
  printed_outside [] out = refl
  printed_outside (output ∷ outputs) out =
      ap₂ (λ (x y : List Fault). x ++ y) (one_outside output (none_left (is_own output.place) (list_any (λ (o : Output). is_own o.place) outputs) out))
      (printed_outside outputs (none_right (is_own output.place) (list_any (λ (o : Output). is_own o.place) outputs) out))

module _ (options : Options) (task : Task) (folder : Contents) (out : list_any (λ (o : Output). is_own o.place) task.outputs ≡ false) where
  basis_outside : (basis : Basis) → IsBasisIn options task folder basis → IsBasisIn options task (outside folder) basis
  basis_outside (bases.Forced causes.NoRecord) is = tt
  basis_outside (bases.Forced causes.Rerun) is = tt
  basis_outside (bases.Forced causes.Stale) is = tt
  basis_outside (bases.Forced causes.Grown) large = ap is_empty (printed_outside folder task.outputs out) ∙ large
  basis_outside (bases.Compared present) is =
      subst (λ (outputs : List OutputRecord). IsPresentOf options task (digests_in (trees_of task (outside folder).files)) outputs present) (sym (recorded_outside folder task.outputs out))
      (subst (λ (ts : Trees). IsPresentOf options task (digests_in ts) (map (recorded_of folder.files) task.outputs) present) (sym (trees_outside task folder.files)) is)

pub decided_outside : DecidedOutside
decided_outside options task folder read decision out decided = (decided.0, decided.1, basis_outside options task folder out decided.0 decided.2)

pub outside_is_enough : OutsideIsEnough
outside_is_enough options task folder read prepared.Skips out case = early_outside task folder ∙ case
outside_is_enough options task folder read prepared.HasNoActions out case = early_outside task folder ∙ case
outside_is_enough options task folder read prepared.HasNoSource out case = early_outside task folder ∙ case
outside_is_enough options task folder read (prepared.Decided decision basis observed) out case =
    (early_outside task folder ∙ case.0, case.1, basis_outside options task folder out basis case.2)
