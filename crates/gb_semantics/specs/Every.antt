-- What any list of events promises, in one sentence.
use Rattle.std.specs.Prelude.{◌≡◌, ◌≤◌, false, List, [], ◌∷◌, ◌++◌, Some, ⊤}
use Rattle.std.specs.List.{flat_map}
use Rattle.gb_report.specs.declared.report.Report.{Report}
use Rattle.gb_semantics.specs.declared.events.Event.{Event}
use Rattle.gb_semantics.specs.declared.events.Event.TheVariants as events
use Rattle.gb_semantics.specs.declared.events.Answer.{Answer}
use Rattle.gb_semantics.specs.declared.events.Answer.TheVariants as answers
use Rattle.gb_semantics.specs.declared.events.Invocation.{Invocation}
use Rattle.gb_folder.specs.Files.{Bytes, Contents}
use Rattle.gb_semantics.specs.Memory.{Memory}
use Rattle.gb_semantics.specs.TrueRecord.{AreCollisionFree, outside, memory_contents}
use Rattle.gb_plan.specs.Graph.{Plan}
use Rattle.gb_semantics.specs.Execution.{Guard}
use Rattle.gb_semantics.specs.Scratch.{from_scratch}
use Rattle.gb_semantics.specs.Edits.{Shown}
use Rattle.gb_semantics.specs.Events.{AreStarted, Setting, State, Step, HasPlan, has_failure, world_in}
use Rattle.gb_semantics.specs.Headline.{EventsHold, HoldsMemory, WentThrough, contents_outside, state_of}

-- all contents outside `.gb` at some states
abbrev pub contents_of_all : List State → List Bytes
contents_of_all states = flat_map (λ state. contents_outside state.contents) states

-- A build of this folder started each task, left what the tasks of its plan make from scratch, and changed
-- nothing else.
pub record IsFromScratch (setting : Setting) (old : Contents) (invocation : Invocation) (report : Report)
    (new : Contents) : Type 0 where
  pub plan : Plan
  pub planned : HasPlan setting (outside old) invocation plan
  pub started : AreStarted report
  pub files : from_scratch setting.kinds invocation.options plan (outside old) ≡ Some (outside new).files

-- a build in which no task failed is from scratch; nothing is required of other results
abbrev pub Succeeds : Setting → Contents → Event → Answer → Contents → Type 0
Succeeds setting old (events.Invoke invocation) (answers.Built report) new =
    has_failure report ≡ false → IsFromScratch setting old invocation report new
Succeeds setting old event answer new = ⊤

-- one event after another, from state to state, and finally this folder
abbrev pub AllSucceed : Setting → State → List State → List Event → List Answer → Shown → Type 0
AllSucceed setting old [] [] [] end = old.contents ≡ end.contents
AllSucceed setting old (next ∷ states) (event ∷ rest) (answer ∷ others) end =
    Succeeds setting old.contents event answer next.contents × AllSucceed setting next states rest others end
AllSucceed setting old states rest others end = ⊥

-- a guard that holds for every list of contents
abbrev pub always : Guard
always contents = ⊤

-- A run without a condition on digests: each event is a step, and after each event the folder holds the
-- records of what is remembered, and these are true.
abbrev pub UnconditionalRun : Setting → State → List State → List Event → List Answer → Shown → Type 0
UnconditionalRun setting old [] [] [] end = (old.failures ≤ end.failures) × (old.contents ≡ end.contents)
UnconditionalRun setting old (next ∷ states) (event ∷ rest) (answer ∷ others) end =
    (old.failures ≤ next.failures)
    × ((observed : List Bytes) → Step setting always observed old event answer next)
    × HoldsMemory setting next.contents next.remembered × UnconditionalRun setting next states rest others end
UnconditionalRun setting old states rest others end = ⊥

-- no two contents at these states, or in the first records, share a digest
abbrev pub AllCollisionFree : Setting → State → List State → Type 0
AllCollisionFree setting start states =
    AreCollisionFree setting.digest (memory_contents (world_in start) ++ contents_of_all (start ∷ states))

-- This holds for each run, from the first state through those that it went through, if no two contents of
-- these share a digest.
abbrev pub HoldsOfRuns : Setting → (State → List State → List Event → List Answer → Shown → Type 0) → Type 0
HoldsOfRuns setting Holds =
    (start : State) (states : List State) (all : List Event) (answered : List Answer) (end : Shown)
    → WentThrough setting start states all answered end → AllCollisionFree setting start states
    → Holds start states all answered end

-- each build in which no task failed is from scratch
abbrev pub EverySuccessIsFromScratch : Setting → Type 0
EverySuccessIsFromScratch setting = HoldsOfRuns setting (AllSucceed setting)

-- the run is a plain one
abbrev pub ClearRunIsUnconditional : Setting → Type 0
ClearRunIsUnconditional setting = HoldsOfRuns setting (UnconditionalRun setting)

-- From any true records that the old folder holds, the run went through states, one after each event, and
-- finally this folder. If no two of their contents share a digest, each event is a step without a premise,
-- after each event the folder holds true records, and each build in which no task failed is from scratch.
abbrev pub PromiseHolds : Setting → Shown → List Event → List Answer → Shown → Type 0
PromiseHolds setting old all answered end =
    (remembered : Memory) → HoldsMemory setting old.contents remembered →
    let start = state_of old remembered in
    (states : List State) × WentThrough setting start states all answered end
    × (AllCollisionFree setting start states
    → UnconditionalRun setting start states all answered end
    × AllSucceed setting start states all answered end)

-- what any list of events promises
abbrev pub Headline : Setting → Type 0
Headline setting =
    (old end : Shown) (all : List Event) (answered : List Answer) → EventsHold setting old all answered end →
    PromiseHolds setting old all answered end
