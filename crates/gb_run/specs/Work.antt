-- The steps and lines of a full rebuild, computed before anything is changed, and what it means to do them.
use Rattle.std.specs.List.{AllByRecursion}
use Rattle.std.specs.Prelude.{◌≡◌, ◌⊎◌, ◌++◌, List, [], ◌∷◌, Option, None, Some, Result, Ok, Err}
use Rattle.gb_core.specs.Lists.{first_of}
use Rattle.gb_folder.specs.Calls.{Call, IsPermitted, changes_at}
use Rattle.gb_folder.specs.Files.{Files}
use Rattle.gb_report.specs.declared.fault.Fault.{Fault}
use Rattle.gb_report.specs.declared.fault.Fault.TheVariants as faults
use Rattle.gb_action.specs.declared.reply.Written.{Written}
use Rattle.gb_plan.specs.Task.{Text, is_output_of}
use Rattle.gb_plan.specs.declared.task.Action.{Action}
use Rattle.gb_plan.specs.declared.task.Output.{Output}
use Rattle.gb_plan.specs.declared.task.TaskDeclaration.{TaskDeclaration as Task}
use Rattle.gb_semantics.specs.Made.{placed, put_over, put_result}
use Rattle.gb_run.specs.Asking.{made_by, printed_by}
use Rattle.gb_run.specs.RunInput.{RunInput}
use Rattle.gb_run.specs.Doing.{Does, Ending}
use Rattle.gb_run.specs.Named.{put}
use Rattle.gb_run.specs.Steps.{Step}

-- The steps of one action, and the lines that it prints after them.
pub record Part : Type 0 where
  pub steps : List Step
  pub lines : List Text

-- The result of the actions: the parts of those up to the first that fails, and the fault of that one.
pub record Work : Type 0 where
  pub parts : List Part
  pub fault : Option Fault

abbrev pub with_part : Part → Work → Work
with_part part work = record { parts = part ∷ work.parts; fault = work.fault }

abbrev pub or_stop : Result Files (List Fault) → (Files → Work) → Work
or_stop (Ok more) next = next more
or_stop (Err hindrances) next = record { parts = []; fault = first_of hindrances }

-- the files of an action, by place
abbrev pub files_of : List Output → Result (List Written) Text → Files
files_of outputs (Ok written) = put_over [] (placed outputs written)
files_of outputs (Err text) = []

abbrev pub part_of : RunInput → Action → Part
part_of input action = record {
  steps = put (files_of input.task.outputs (made_by input.kinds input.task action input.trees));
  lines = printed_by input.kinds input.task action input.trees input.changes;
}

-- the result of these actions, given the files that the task holds by then
abbrev pub work_of : RunInput → Files → List Action → Work
work_of input held [] = record { parts = []; fault = None }
work_of input held (action ∷ actions) =
    or_stop (put_result input.task.outputs held (made_by input.kinds input.task action input.trees))
    (λ more. with_part (part_of input action) (work_of input more actions))

-- ---- Done

-- the calls change files at the outputs of the task alone
abbrev pub AreAtOutputs : Task → List Call → Type 0
AreAtOutputs task calls = AllByRecursion (IsPermitted (changes_at (is_output_of task))) calls

-- A part that is done prints its lines, unless memory runs out for them. One that failed is the last.
abbrev pub OrPrints : Ending → List Text → (List Text → Type 0) → List Call → List Text → Ending → Type 0
OrPrints (Err fault) own next later lines result = (later ≡ []) × (lines ≡ []) × (result ≡ Err fault)
OrPrints (Ok done) own next later lines result =
    ((later ≡ []) × (lines ≡ []) × (result ≡ Err faults.OutOfMemory))
    ⊎ ((more : List Text) × (lines ≡ own ++ more) × next more)

-- Parts were done by these calls, and their lines printed.
abbrev pub DoesParts : List Part → List Call → List Text → Ending → Type 0
DoesParts [] calls lines result = (calls ≡ []) × (lines ≡ []) × (result ≡ Ok tt)
DoesParts (part ∷ parts) calls lines result =
    (first : List Call) × (later : List Call) × (mid : Ending) × (calls ≡ first ++ later)
    × Does part.steps first mid
    × OrPrints mid part.lines (λ more. DoesParts parts later more result) later lines result

-- the work's own fault, if doing its parts went well
abbrev pub or_fault : Ending → Option Fault → Ending
or_fault (Ok done) None = Ok tt
or_fault (Ok done) (Some fault) = Err fault
or_fault (Err fault) own = Err fault

-- what a run returns, by how its work was done
abbrev pub or_made : {X : Type 0} → Ending → Result X Fault → Result X Fault
or_made (Ok done) made = made
or_made (Err fault) made = Err fault

-- how a run ends, without what it returns
abbrev pub ending : {X : Type 0} → Result X Fault → Ending
ending (Ok made) = Ok tt
ending (Err fault) = Err fault

-- The actions ran in full by these calls. Either memory ran out before the first of them, or the work of the
-- actions was done, and the run ends with the work's own fault if it has one.
abbrev pub RunsInFull : RunInput → List Call → List Text → Ending → Type 0
RunsInFull input calls lines result =
    let work = work_of input [] input.task.actions in
    ((calls ≡ []) × (lines ≡ []) × (result ≡ Err faults.OutOfMemory))
    ⊎ ((done : Ending) × DoesParts work.parts calls lines done × (result ≡ or_fault done work.fault))
