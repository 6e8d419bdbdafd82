-- A reader after a skipped task.
use Rattle.std.specs.Prelude.{◌≡◌, true, false, [], ◌∷◌, codes, refl, Some}
use Rattle.std.proofs.Common.{inl, inr, lit≤}
use Rattle.gb_report.specs.declared.report.Outcome.TheVariants as outcomes
use Rattle.gb_folder.specs.Files.{IsFolder}
use Rattle.gb_plan.specs.declared.task.TaskDeclaration.{TaskDeclaration as Task}
use Rattle.gb_plan.specs.Graph.{Plan}
use Rattle.gb_semantics.proofs.Existing.{rules_of, existing}
use Rattle.gb_semantics.specs.Memory.{World, entry_of}
use Rattle.gb_semantics.specs.Scratch.{from_scratch}
use Rattle.gb_semantics.specs.Execution.{Builds}
use Rattle.gb_semantics.proofs.RowKinds.{row_kinds}
use Rattle.gb_semantics.proofs.Common.{all_assumed}
use Rattle.gb_plan.proofs.RowTasks.{a, reads_x}
use Rattle.gb_semantics.proofs.Rows.Graphs.{reported}
use Rattle.gb_semantics.proofs.Rows.Finalized.{plain_run, no_fault_comes}
use Rattle.gb_semantics.proofs.Rows.Copies.{folder}

-- ---- A skipped task

abbrev pub skipped : Task
skipped = record a { runs = false }

abbrev pub after_skipped : Plan
after_skipped = record { task = skipped; word = 0; is_selected = false } ∷ record { task = reads_x (codes ":a" ∷ []) []; word = 0; is_selected = true } ∷ []

abbrev pub both_ran : World
both_ran = folder ((codes "build/x", codes "A") ∷ (codes "build/y", codes "A") ∷ [])
    ((codes ":a", entry_of a ((codes "build/x", codes "A") ∷ [])) ∷ (codes ":b", entry_of (reads_x (codes ":a" ∷ []) []) ((codes "build/x", codes "A") ∷ (codes "build/y", codes "A") ∷ [])) ∷ [])

-- the skipped task's file stays, and is an input of the next
pub scratch_after_skipped : from_scratch row_kinds plain_run after_skipped (record { files = (codes "build/x", codes "Z") ∷ (codes "build/y", codes "A") ∷ []; special = [] })
    ≡ Some ((codes "build/x", codes "Z") ∷ (codes "build/y", codes "Z") ∷ [])
scratch_after_skipped = refl

abbrev ran_folder : IsFolder both_ran.folder.files
ran_folder = record { in_order = refl; none_blocked = refl }

pub second_run : Builds (rules_of row_kinds plain_run no_fault_comes after_skipped) all_assumed [] (existing both_ran 0) (reported skipped outcomes.Skipped [] ∷ reported (reads_x (codes ":a" ∷ []) []) outcomes.UpToDate [] ∷ []) (existing both_ran 0)
second_run = inr (
  refl,
  (
    existing both_ran 0,
    record {
      folder = ran_folder;
      files = refl;
      special = refl;
      count = lit≤ tt;
      execution = λ assumed. (
        refl,
        refl,
        inl (
          record { needs_ended_well = refl; is_called = refl; goes_on = inl refl },
          record { label = inl refl; leaves = refl; prints = refl; reading = λ place is out. absurd (cc); begun = λ fault is printed. absurd (cc) },
        ),
      );
    },
    (
      existing both_ran 0,
      record {
        folder = ran_folder;
        files = refl;
        special = refl;
        count = lit≤ tt;
        execution = λ assumed. (
          refl,
          refl,
          inl (
            record { needs_ended_well = refl; is_called = refl; goes_on = inl refl },
            record { label = inl (inl (record { has_outputs = refl; not_stale = refl; no_rerun = refl; same = refl }, refl)); leaves = refl; prints = refl; reading = λ place is out. absurd (cc); begun = λ fault is printed. absurd (cc) },
          ),
        );
      },
      (refl, lit≤ tt),
    ),
  ),
)
