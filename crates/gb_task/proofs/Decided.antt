-- What is decided of a task by digests is its case by whole contents.
use Rattle.std.specs.Prelude.{◌≡◌, ◌⊎◌, true, false, [], Option, Some, None}
use Rattle.std.specs.List.{flat_map}
use Rattle.std.proofs.Common.{sym, ap, subst, ◌∙◌, inl, inr}
use mathlib.Core.Bool.{true≢false}
use Rattle.gb_folder.specs.Files.{is_empty}
use Rattle.gb_history.specs.Decision.{DecidesFrom}
use Rattle.gb_history.specs.Record.{Record}
use Rattle.gb_history.specs.declared.decide.Decision.{Decision}
use Rattle.gb_history.specs.declared.decide.Decision.TheVariants as decisions
use Rattle.gb_history.specs.declared.decide.Present.{Present}
use Rattle.gb_label.proofs.Cases.{listed_if_none}
use Rattle.gb_label.specs.Deciding.{FollowsFrom, IsBasisIn}
use Rattle.gb_label.specs.declared.deciding.Basis.{Basis}
use Rattle.gb_label.specs.declared.deciding.Basis.TheVariants as bases
use Rattle.gb_label.specs.declared.deciding.FullReason.TheVariants as causes
use Rattle.gb_label.specs.declared.prepare.Prepared.TheVariants as prepared
use Rattle.gb_semantics.specs.Kinds.{Kinds}
use Rattle.gb_semantics.specs.Label.{changes_from, early_case}
use Rattle.gb_semantics.specs.Memory.{Entry, World, entry_of, output_files, recalled}
use Rattle.gb_semantics.specs.Tree.{listing_faults}
use Rattle.gb_semantics.specs.TrueRecord.{IsMade}
use Rattle.gb_semantics.proofs.Common.{none_some, some_same}
use Rattle.gb_plan.specs.declared.task.TaskDeclaration.{TaskDeclaration as Task}
use Rattle.gb_records.specs.Digests.{IsClearTo, IsPresent}
use Rattle.gb_records.specs.Said.{IsSaidOf}
use Rattle.gb_records.proofs.Digests.{up_to_date_is_current}
use Rattle.gb_records.proofs.Going.{changes_are_of_contents, since_is_incremental}
use Rattle.gb_report.specs.declared.report.Options.{Options}
use Rattle.gb_label.specs.Reading.{print_faults}
use Rattle.gb_task.specs.Case.{DecisionIsCase, IsCaseFor, IsKnown, PreparedIsCase}
use Rattle.gb_task.proofs.Grown.{made_is_not_grown}
use Rattle.gb_task.proofs.Present.{present_is_of_contents}

module _ (kinds : Kinds) (options : Options) (task : Task) (world : World) where
  -- ---- a record that counts

  module _ (run : Record) (entry : Entry) (remembered : recalled world.memory task.path ≡ Some entry) (said : IsSaidOf run entry)
      (clear : IsClearTo kinds task world.folder.files entry) (present : Present) (is : IsPresent options task world.folder.files present) where
    by_case : (decision : Decision) → DecidesFrom run present decision → IsCaseFor kinds options task world decision
    by_case decisions.UpToDate same = (up_to_date_is_current kinds options task world entry run present remembered said is clear).0 same
    by_case (decisions.Incremental changes) goes = (
      λ current. goes.0 ((up_to_date_is_current kinds options task world entry run present remembered said is clear).1 current),
      λ one.
          let since = (since_is_incremental kinds options task world entry run present remembered said is clear).0 (goes.1, one) in
          let same : since.entry ≡ entry = some_same (sym since.remembered ∙ remembered) in (
            since,
            goes.2 ∙ changes_are_of_contents kinds options task world.folder.files entry run present said is clear goes.1
                ∙ ap (λ (e : Entry). changes_from task e.inputs world.folder.files) (sym same),
          ),
    )
    by_case decisions.Full runs = (
      λ current. runs.0 ((up_to_date_is_current kinds options task world entry run present remembered said is clear).1 current),
      λ since. runs.1 ((since_is_incremental kinds options task world entry run present remembered said is clear).1 since).0,
    )

  -- ---- no record that counts

  forgotten_case : recalled world.memory task.path ≡ None → IsCaseFor kinds options task world decisions.Full
  forgotten_case none = (λ current. none_some (sym none ∙ current.same), λ since. none_some (sym none ∙ since.remembered))

  recheck_case : (options.rerun ≡ true) ⊎ (task.is_stale ≡ true) → IsCaseFor kinds options task world decisions.Full
  recheck_case (inl rerun) =
      (λ current. true≢false (sym rerun ∙ current.no_rerun), λ since. true≢false (sym rerun ∙ since.no_rerun))
  recheck_case (inr stale) =
      (λ current. true≢false (sym stale ∙ current.not_stale), λ since. true≢false (sym stale ∙ since.not_stale))

  -- what a run left that ended well has not grown
  not_grown : (entry : Entry) → IsMade kinds entry → entry.outputs ≡ task.outputs → entry.files ≡ output_files task world.folder.files
      → listing_faults task world.folder ≡ [] → is_empty (flat_map (print_faults world.folder) task.outputs) ≡ false → ⊥
  not_grown entry made outputs files listed large =
      true≢false (sym (ap is_empty (made_is_not_grown kinds task world.folder entry made outputs files listed)) ∙ large)

  grown_case : (entry : Entry) → recalled world.memory task.path ≡ Some entry → IsMade kinds entry → listing_faults task world.folder ≡ []
      → is_empty (flat_map (print_faults world.folder) task.outputs) ≡ false → IsCaseFor kinds options task world decisions.Full
  grown_case entry remembered made listed large = (
    λ current.
        let same : entry ≡ entry_of task world.folder.files = some_same (sym remembered ∙ current.same) in
        not_grown entry made (ap (λ (e : Entry). e.outputs) same) (ap (λ (e : Entry). e.files) same) listed large,
    λ since.
        let same : entry ≡ since.entry = some_same (sym remembered ∙ since.remembered) in
        not_grown since.entry (subst (IsMade kinds) same made) since.same_outputs since.same_files listed large,
  )

module _ (kinds : Kinds) (options : Options) (task : Task) (world : World) (decision : Decision) (none : early_case task world.folder ≡ None) where
  full_case : decision ≡ decisions.Full → IsCaseFor kinds options task world decisions.Full → IsCaseFor kinds options task world decision
  full_case full case = subst (λ (d : Decision). IsCaseFor kinds options task world d) (sym full) case

  pub basis_case : (read : Option Record) (basis : Basis) → IsKnown kinds task world read → FollowsFrom options task read decision basis
      → IsBasisIn options task world.folder basis → IsCaseFor kinds options task world decision
  basis_case None (bases.Forced causes.NoRecord) known goes so = full_case goes.0 (forgotten_case kinds options task world known)
  basis_case None (bases.Forced causes.Rerun) known goes so = absurd goes.1
  basis_case None (bases.Forced causes.Stale) known goes so = absurd goes.1
  basis_case None (bases.Forced causes.Grown) known goes so = absurd goes.1
  basis_case None (bases.Compared present) known goes so = absurd goes
  basis_case (Some run) (bases.Forced causes.NoRecord) known goes so = absurd goes.1
  basis_case (Some run) (bases.Forced causes.Rerun) known goes so = full_case goes.0 (recheck_case kinds options task world (inl goes.1))
  basis_case (Some run) (bases.Forced causes.Stale) known goes so = full_case goes.0 (recheck_case kinds options task world (inr goes.1.1))
  basis_case (Some run) (bases.Forced causes.Grown) known goes so =
      full_case goes.0 (grown_case kinds options task world known.0 known.1 known.3.is_made (listed_if_none task world.folder none) so)
  basis_case (Some run) (bases.Compared present) known goes so =
      by_case kinds options task world run known.0 known.1 known.2 known.3 present (present_is_of_contents options task world.folder.files present so) decision goes

pub decision_is_case : DecisionIsCase
decision_is_case kinds options task world read decision known none decided =
    basis_case kinds options task world decision none read decided.0 known decided.1 decided.2

pub prepared_is_case : PreparedIsCase
prepared_is_case kinds options task world read prepared.Skips known case = case
prepared_is_case kinds options task world read prepared.HasNoActions known case = case
prepared_is_case kinds options task world read prepared.HasNoSource known case = case
prepared_is_case kinds options task world read (prepared.Decided decision basis observed) known case =
    (case.0, basis_case kinds options task world decision case.0 read basis known case.1 case.2)
