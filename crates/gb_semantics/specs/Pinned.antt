-- When the states of a run are determined.
use Rattle.std.specs.Prelude.{◌≡◌, false, List, map, ⊤}
use Rattle.std.specs.List.{AllZip}
use Rattle.gb_folder.specs.Files.{Contents}
use Rattle.gb_plan.specs.Graph.{Plan}
use Rattle.gb_semantics.specs.declared.events.Event.{Event}
use Rattle.gb_semantics.specs.declared.events.Event.TheVariants as events
use Rattle.gb_semantics.specs.declared.events.Answer.{Answer}
use Rattle.gb_semantics.specs.declared.events.Answer.TheVariants as answers
use Rattle.gb_semantics.specs.declared.events.Invocation.{Invocation}
use Rattle.gb_semantics.specs.Edits.{Shown}
use Rattle.gb_semantics.specs.Events.{HasPlan, Setting, State, has_failure, world_in}
use Rattle.gb_semantics.specs.Headline.{HoldsMemory, WentThrough, is_of_device}
use Rattle.gb_semantics.specs.Every.{AllCollisionFree}

-- What such a result leaves is determined by what existed before: no task failed, no device stopped an edit,
-- and no loss was cut short.
abbrev pub IsSettled : Event → Answer → Type 0
IsSettled event answers.Edited = ⊤
IsSettled events.Lost (answers.Refused fault) = ⊥
IsSettled (events.Put place bytes) (answers.Refused fault) = is_of_device fault ≡ false
IsSettled (events.Remove place) (answers.Refused fault) = is_of_device fault ≡ false
IsSettled (events.Invoke invocation) (answers.Refused fault) = ⊤
IsSettled event (answers.Built report) = has_failure report ≡ false
IsSettled event (answers.NotBuilt fault) = ⊤

-- what scripts register and what is requested give one plan
abbrev pub HaveOnePlan : Setting → Type 0
HaveOnePlan setting =
    (folder : Contents) (invocation : Invocation) (one other : Plan)
    → HasPlan setting folder invocation one → HasPlan setting folder invocation other → one ≡ other

-- Two lists of states that a run went through with the same results have the same worlds, if no two contents
-- of the one share a digest, whatever holds for the other.
abbrev pub StatesAreOne : Setting → Type 0
StatesAreOne setting =
    HaveOnePlan setting → (start : State) → HoldsMemory setting start.contents start.remembered
    → (states others : List State) (all : List Event) (answered : List Answer) (end left : Shown)
    → AllZip IsSettled all answered
    → WentThrough setting start states all answered end → WentThrough setting start others all answered left
    → AllCollisionFree setting start others → map world_in states ≡ map world_in others
