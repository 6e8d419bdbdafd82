-- Which of several faults is reported.
use Rattle.std.specs.Prelude.{◌≡◌, ◌⊎◌, List, [], ◌∷◌, Option, Some, None, Result, MatchResult}
use Rattle.gb_report.specs.declared.fault.Fault.{Fault}
use Rattle.gb_report.specs.declared.fault.Fault.TheVariants.{OutOfMemory}

abbrev pub first_of : {X : Type 0} → List X → Option X
first_of [] = None
first_of (x ∷ xs) = Some x

-- the fault is the first of these, or memory ran out
abbrev pub IsFirstFault : List Fault → Fault → Type 0
IsFirstFault faults fault = (fault ≡ OutOfMemory) ⊎ (first_of faults ≡ Some fault)

-- If the call succeeds, there are no such faults. Otherwise it returns the first of them, or that memory ran
-- out.
abbrev pub ReportsFirst : {T : Type 0} → List Fault → Result T Fault → Type 0
ReportsFirst faults answer = MatchResult answer (λ _. faults ≡ []) (IsFirstFault faults)
