-- Steps done in a folder: by which calls, and how they end.
use Rattle.std.specs.Prelude.{◌≡◌, ◌⊎◌, List, [], ◌∷◌, Some, None, Ok, Err}
use Rattle.gb_folder.specs.Calls.{Call, Writes, Removes}
use Rattle.gb_folder.specs.Calls.{Device}
use Rattle.gb_folder.specs.Device.{IsCalled}
use Rattle.gb_folder.specs.Each.{Ended}
use Rattle.gb_folder.specs.Files.{Place}
use Rattle.gb_folder.specs.Limits.{max_file}
use Rattle.gb_folder.specs.Semantics.{Answer}
use Rattle.gb_report.specs.declared.fault.Fault.{Fault}
use Rattle.gb_report.specs.declared.fault.Fault.TheVariants as faults
use Rattle.gb_folder.specs.Faults.{reported_at}
use Rattle.gb_folder.specs.Removals.{removal_ending}
use Rattle.gb_run.specs.Steps.{Step}

-- it went well, or ended with this fault
abbrev pub Ending : Type 0
Ending = Ended Fault

-- the call of a step, with its answer
abbrev pub call_of : Step → Answer → Call
call_of (place, None) answer = Removes place answer
call_of (place, Some bytes) answer = Writes place bytes max_file answer

abbrev pub write_ending : Place → Answer → Ending
write_ending place (Ok done) = Ok tt
write_ending place (Err fault) = Err (reported_at place fault)

-- how a step ends, by the answer to its call
abbrev pub ending_of : Step → Answer → Ending
ending_of (place, None) answer = removal_ending place answer
ending_of (place, Some bytes) answer = write_ending place answer

-- After a step that went well the next follows. One that failed is the last.
abbrev pub OrEnds : Ending → Type 0 → List Call → Ending → Type 0
OrEnds (Ok done) next later result = next
OrEnds (Err fault) next later result = (later ≡ []) × (result ≡ Err fault)

-- Steps were done by these calls, up to the first that failed, or for which memory ran out.
abbrev pub Does : List Step → List Call → Ending → Type 0
Does [] calls result = (calls ≡ []) × (result ≡ Ok tt)
Does (step ∷ steps) calls result =
    ((calls ≡ []) × (result ≡ Err faults.OutOfMemory))
    ⊎ ((answer : Answer) × (later : List Call) × (calls ≡ call_of step answer ∷ later)
    × OrEnds (ending_of step answer) (Does steps later result) later result)

-- One step was tried: memory ran out before its call, or the call was answered.
abbrev pub Tried : {F : Type 0} → Device F → Step → F → Ending → F → Type 0
Tried device step old result new =
    ((result ≡ Err faults.OutOfMemory) × (new ≡ old))
    ⊎ ((answer : Answer) × IsCalled device old (call_of step answer) new × (result ≡ ending_of step answer))
