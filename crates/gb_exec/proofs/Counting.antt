-- How often faults are attributed to the device, one report more at a time.
use Rattle.std.specs.Prelude.{ℕ, ◌≡◌, ◌≤◌, ◌+◌, Bool, true, false, cond, List, [], ◌∷◌, ◌++◌}
use Rattle.std.specs.List.{fold}
use Rattle.std.proofs.Common.{refl, sym, ap, subst, inl, inr, arith}
use Rattle.gb_folder.specs.Files.{HasRisen, Place}
use Rattle.gb_semantics.specs.Headline.{HasFailed, failed_by_device, is_of_device}
use Rattle.gb_plan.proofs.Tests.{not_true}
use Rattle.gb_report.specs.declared.fault.Fault.{Fault}
use Rattle.gb_report.specs.declared.fault.Fault.TheVariants as faults
use Rattle.gb_report.specs.declared.report.Outcome.{Outcome}
use Rattle.gb_report.specs.declared.report.Outcome.TheVariants as outcomes
use Rattle.gb_report.specs.declared.report.TaskReport.{TaskReport}
use Rattle.gb_exec.specs.Failing.{times_attributed}

abbrev pub with_blame : ℕ → TaskReport → ℕ
with_blame count report = count + cond (failed_by_device report.outcome) 1 0

blamed_from : (count : ℕ) (done : List TaskReport) (report : TaskReport) → fold with_blame count (done ++ report ∷ []) ≡ fold with_blame count done + cond (failed_by_device report.outcome) 1 0
blamed_from count [] report = refl
blamed_from count (first ∷ done) report = blamed_from (with_blame count first) done report

blamed_more : (done : List TaskReport) (report : TaskReport) → times_attributed (done ++ report ∷ []) ≡ times_attributed done + cond (failed_by_device report.outcome) 1 0
blamed_more done report = blamed_from 0 done report

of_device : (fault : Fault) → is_of_device fault ≡ true → (place : Place) × (fault ≡ faults.Device place)
of_device (faults.Device place) e = (place, refl)
of_device (faults.BadName a) e = not_true e
of_device (faults.BadPlace a) e = not_true e
of_device faults.OutOfMemory e = not_true e
of_device faults.HistoryNotWritten e = not_true e
of_device (faults.Missing a) e = not_true e
of_device (faults.Blocked a) e = not_true e
of_device (faults.TooLarge a) e = not_true e
of_device (faults.BadFileName a) e = not_true e
of_device (faults.Syntax a b) e = not_true e
of_device (faults.TooLong a) e = not_true e
of_device (faults.TooDeep a b) e = not_true e
of_device (faults.NotUtf8 a) e = not_true e
of_device (faults.Circular a) e = not_true e
of_device (faults.UnknownTransform a) e = not_true e
of_device (faults.BadArguments a) e = not_true e
of_device (faults.NoValue a b) e = not_true e
of_device (faults.WrongValue a) e = not_true e
of_device (faults.Final a) e = not_true e
of_device (faults.UnknownAction a) e = not_true e
of_device (faults.ActionFailed a) e = not_true e
of_device (faults.BadArgument a b) e = not_true e
of_device (faults.UnknownProject a) e = not_true e
of_device (faults.DuplicateTask a) e = not_true e
of_device (faults.TaskNotFound a) e = not_true e
of_device (faults.DuplicateProperty a) e = not_true e
of_device (faults.UnknownProperty a) e = not_true e
of_device (faults.BadShape a) e = not_true e
of_device (faults.OutputOutsideBuild a b) e = not_true e
of_device (faults.BadProjectPlace a) e = not_true e
of_device (faults.TooMany a) e = not_true e
of_device (faults.UnknownOutput a b) e = not_true e
of_device (faults.Cycle a) e = not_true e
of_device (faults.OverlappingOutputs a b c) e = not_true e
of_device (faults.UndeclaredDependency a b c) e = not_true e
of_device (faults.OwnOutputAsInput a b) e = not_true e
of_device faults.NoTasks e = not_true e
of_device (faults.BadPattern a) e = not_true e
of_device (faults.DuplicateInput a b) e = not_true e
of_device (faults.TooManyFiles a) e = not_true e
of_device (faults.OwnState a) e = not_true e
of_device (faults.BadLine a) e = not_true e
of_device faults.Usage e = not_true e

by_device : (outcome : Outcome) → failed_by_device outcome ≡ true → (place : Place) × (outcome ≡ outcomes.Failed (faults.Device place))
by_device (outcomes.Failed fault) e = let at = of_device fault e in (at.0, ap outcomes.Failed at.1)
by_device outcomes.Executed e = not_true e
by_device outcomes.UpToDate e = not_true e
by_device outcomes.Skipped e = not_true e
by_device outcomes.NoSource e = not_true e
by_device outcomes.NotRun e = not_true e

one_more : (outcome : Outcome) (n before mid after : ℕ) → HasFailed n before mid → mid ≤ after → ((place : Place) → outcome ≡ outcomes.Failed (faults.Device place) → HasRisen mid after)
    → HasFailed (n + cond (failed_by_device outcome) 1 0) before after
one_more outcome n before mid after so_far count blame = by (failed_by_device outcome) refl
  where
    risen : HasFailed n before mid → HasRisen mid after → HasFailed (n + 1) before after
    risen (inl enough) (inl more) = inl (omega (arith, enough, more))
    risen (inl enough) (inr last) = inr (omega (arith, last, count))
    risen (inr last) more = inr (omega (arith, last, count))

    later : HasFailed n before mid → HasFailed (n + 0) before after
    later (inl enough) = inl (omega (arith, enough, count))
    later (inr last) = inr (omega (arith, last, count))

    by : (b : Bool) → failed_by_device outcome ≡ b → HasFailed (n + cond b 1 0) before after
    by true e = let at = by_device outcome e in risen so_far (blame at.0 at.1)
    by false e = later so_far

pub failed_more : (done : List TaskReport) (report : TaskReport) (before mid after : ℕ) → HasFailed (times_attributed done) before mid → mid ≤ after
    → ((place : Place) → report.outcome ≡ outcomes.Failed (faults.Device place) → HasRisen mid after) → HasFailed (times_attributed (done ++ report ∷ [])) before after
failed_more done report before mid after so_far count blame =
    subst (λ (n : ℕ). HasFailed n before after) (sym (blamed_more done report)) (one_more report.outcome (times_attributed done) before mid after so_far count blame)
