-- A dry run: nothing starts, no listener is notified, and no fault is attributed to the device.
use Rattle.std.specs.Prelude.{ℕ, ◌≡◌, ◌+◌, Bool, true, List, [], ◌∷◌, IsTrue}
use Rattle.std.specs.List.{AllZip, fold}
use Rattle.std.proofs.Common.{refl, sym, subst, ◌∙◌, inl, arith, add-zero}
use Rattle.gb_folder.specs.Files.{Bytes, Tearing}
use Rattle.gb_semantics.specs.Events.{State}
use Rattle.gb_semantics.specs.Kinds.{Kinds}
use Rattle.gb_semantics.specs.Execution.{dry_reports}
use Rattle.gb_plan.specs.Graph.{Plan}
use Rattle.gb_plan.specs.declared.plan.Planned.{Planned}
use Rattle.gb_records.specs.Holding.{HoldsRecords}
use Rattle.gb_report.specs.declared.report.Options.{Options}
use Rattle.gb_task.specs.Executing.{Registering, setting_with}
use Rattle.gb_exec.specs.Built.{HasBuilt}
use Rattle.gb_semantics.specs.Headline.{HasFailed}
use Rattle.gb_exec.specs.Failing.{times_attributed}
use Rattle.gb_exec.specs.Reports.{IsOf}
use Rattle.gb_exec.proofs.Counting.{with_blame}

pub dry_of : (plan : List Planned) → AllZip IsOf plan (dry_reports plan)
dry_of [] = tt
dry_of (planned ∷ plan) = (record { path = refl; has_actions = refl }, dry_of plan)

none_from : (count : ℕ) (plan : List Planned) → fold with_blame count (dry_reports plan) ≡ count
none_from count [] = refl
none_from count (planned ∷ plan) = none_from (count + 0) plan ∙ add-zero count

none_blamed : (plan : List Planned) → times_attributed (dry_reports plan) ≡ 0
none_blamed plan = none_from 0 plan

pub dry_blames : (plan : List Planned) (before : ℕ) → HasFailed (times_attributed (dry_reports plan)) before before
dry_blames plan before = subst (λ (n : ℕ). HasFailed n before before) (sym (none_blamed plan)) (inl (omega arith))

pub dry_built : (kinds : Kinds) (registry_of : Registering) (may_leave : Tearing) (clear : Bool) (observed : List Bytes) (options : Options) (plan : Plan) (old : State)
    → options.dry_run ≡ true → (IsTrue clear → HoldsRecords old.contents.files old.remembered)
    → HasBuilt (setting_with kinds registry_of may_leave) clear observed options plan old (dry_reports plan) (record { contents = old.contents; failures = old.failures })
dry_built kinds registry_of may_leave clear observed options plan old dry exists = record {
  remembered = old.remembered;
  builds = inl (dry, refl, refl);
  records = λ given. exists given.0;
}
