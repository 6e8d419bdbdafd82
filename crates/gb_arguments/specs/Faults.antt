-- Which of several faults is reported.
use Rattle.std.specs.Prelude.{◌≡◌, ◌⊎◌, false, List, [], Some, Result, MatchResult}
use Rattle.gb_core.specs.Lists.{first_of}
use Rattle.gb_core.specs.Name.{is_name}
use Rattle.gb_report.specs.declared.fault.Fault.{Fault}
use Rattle.gb_report.specs.declared.fault.Fault.TheVariants.{BadName, OutOfMemory, TooMany, Usage}
use Rattle.gb_report.specs.declared.fault.Limited.TheVariants.{Values}

-- the fault is the first of these, or memory ran out
abbrev pub IsFirstFault : List Fault → Fault → Type 0
IsFirstFault faults fault = (fault ≡ OutOfMemory) ⊎ (first_of faults ≡ Some fault)

-- If the call succeeds, there are no such faults. Otherwise it returns the first of them, or that memory ran
-- out.
abbrev pub ReportsFirst : {T : Type 0} → List Fault → Result T Fault → Type 0
ReportsFirst faults answer = MatchResult answer (λ _. faults ≡ []) (IsFirstFault faults)

-- Memory ran out, or the arguments are at fault: they do not fit the command, they give too many values, or
-- they give a value to an invalid name.
abbrev pub IsOfWords : Fault → Type 0
IsOfWords OutOfMemory = Unit {0}
IsOfWords Usage = Unit {0}
IsOfWords (TooMany Values) = Unit {0}
IsOfWords (BadName text) = is_name text ≡ false
IsOfWords other = ⊥
