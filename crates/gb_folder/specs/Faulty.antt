-- Folders whose device fails as planned.
use Rattle.std.specs.Prelude.{ℕ, ◌≡◌, ◌⊎◌, ◌+◌, ◌-◌, ◌^◌, ◌==◌, ◌&&◌, nat_le, Bool, true, false}
use Rattle.std.specs.Prelude.{if◌then◌else◌, Option, Some, IsTrue, min}
use Rattle.gb_folder.specs.Files.{Tearing}
use Rattle.gb_folder.specs.declared.faulty.FaultMode.{FaultMode}
use Rattle.gb_folder.specs.declared.faulty.FaultMode.TheVariants.{FailOnce, Stop, StopTorn}
use Rattle.gb_folder.specs.declared.faulty.FaultPlan.{FaultPlan}
use Rattle.gb_folder.specs.declared.folder.FolderFault.{FolderFault}
use Rattle.gb_folder.specs.declared.folder.FolderFault.TheVariants.{Device}

-- one more, up to the last value of a count
abbrev pub one_more : ℕ → ℕ
one_more count = min (count + 1) (2 ^ 64 - 1)

-- the call of this number fails, if call `at` is the first that does
abbrev pub fails_at : FaultMode → ℕ → ℕ → Bool
fails_at FailOnce at call = call == at
fails_at Stop at call = nat_le at call
fails_at (StopTorn bytes) at call = nat_le at call

-- the next call fails
abbrev pub fails_next : FaultPlan → Bool
fails_next plan = fails_at plan.mode plan.at (one_more plan.calls)

-- the plan after one call
abbrev pub after_call : FaultPlan → FaultPlan
after_call plan = record plan {
  calls = one_more plan.calls;
  failed = if fails_next plan then one_more plan.failed else plan.failed;
}

abbrev pub is_torn : FaultMode → Bool
is_torn FailOnce = false
is_torn Stop = false
is_torn (StopTorn bytes) = true

-- the last call was the first that fails, and a write leaves the given bytes
abbrev pub tears : FaultPlan → Bool
tears plan = is_torn plan.mode && plan.calls == plan.at

-- The effect of a call: it is counted; one that fails as planned returns the device's fault and leaves the
-- inner folder unchanged, except for a torn write; any other is a call of the inner folder.
pub record CallOf (old : FaultPlan) (fault : Option FolderFault) (new : FaultPlan) (Kept Asked : Type 0)
    : Type 0 where
  pub counted : new ≡ after_call old
  pub fails : IsTrue (fails_next old) → fault ≡ Some Device
  pub kept : IsTrue (fails_next old) → tears new ≡ false → Kept
  pub allowed : fails_next old ≡ false → Asked

-- what a stopped call may leave at the place: what was there or what the inner folder leaves; for a torn
-- write also the given bytes or what the inner folder leaves of them
abbrev pub may_leave_by : FaultMode → Tearing → Tearing
may_leave_by (StopTorn bytes) inner place existed (Some next) left =
    (left ≡ existed) ⊎ (left ≡ Some bytes.items) ⊎ inner place existed (Some next) left
    ⊎ inner place existed (Some bytes.items) left
may_leave_by mode inner place existed next left = (left ≡ existed) ⊎ inner place existed next left

-- the inner folder's failures and its own, up to the last value of a count
abbrev pub failures_in_all : ℕ → ℕ → ℕ
failures_in_all inner own = min (inner + own) (2 ^ 64 - 1)
