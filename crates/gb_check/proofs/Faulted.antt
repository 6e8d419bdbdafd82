-- The mark of a clause with a fault.
use Rattle.std.proofs.Common.{ℕ, ◌≡◌, ◌≢◌, ◌++◌, ◌∷◌, List, [], Result, Ok, Err, inl, inr}
use Rattle.std.specs.Prelude.{OnOk}
use Rattle.gb_check.specs.Marks.{fault_marks, mark}
use Rattle.gb_check.specs.declared.clause_lines.ClauseMark.{ClauseMark}
use Rattle.gb_check.specs.declared.clause_lines.MarkKind.TheVariants as mark_kinds
use Rattle.gb_plan.specs.Task.{Path}
use Rattle.gb_registry.specs.Faults.{IsFirstFault}
use Rattle.gb_report.specs.declared.fault.Fault.{Fault}
use Rattle.gb_report.specs.declared.fault.Fault.TheVariants.{OutOfMemory}

-- a fault that is the first of some, and is not that memory ran out, is marked as they are
pub marked_as : {T : Type 0} (before now : List ClauseMark) (path : Path) (line : ℕ) (fault : Fault) (faults : List Fault) (result : Result T Fault)
    → OnOk result (fault ≢ OutOfMemory) → OnOk result (now ≡ before ++ mark path line (mark_kinds.Faulty, []) ∷ []) → IsFirstFault faults fault
    → OnOk result (now ≡ before ++ fault_marks path line faults)
marked_as before now path line fault faults (Err other) no_memory is first = tt
marked_as before now path line fault faults (Ok x) no_memory is (inl memory) = absurd (no_memory memory)
marked_as before now path line fault [] (Ok x) no_memory is (inr first) = absurd (cc)
marked_as before now path line fault (one ∷ others) (Ok x) no_memory is (inr first) = is
