-- The refusal of a plan, and the outcome of a request.
use Rattle.std.specs.Prelude.{◌≡◌, ◌⊎◌, List, Option, None, Some, Ok, Err}
use Rattle.gb_plan.specs.Graph.{Plan, Registry, Request, IsPlan, IsSound}
use Rattle.gb_plan.specs.Task.{Text}
use Rattle.gb_plan.specs.Refusal.{Conflict, IsLeastConflict, IsOverlap, IsOwnInput}
use Rattle.gb_plan.specs.Refusal.{IsUndeclared, IsRefused, request_of}
use Rattle.gb_report.specs.declared.fault.Fault.{Fault}
use Rattle.gb_report.specs.declared.fault.Fault.TheVariants.{OutOfMemory}
use Rattle.gb_graph.specs.declared.conflicting.Search.{Search}
use Rattle.gb_graph.specs.declared.conflicting.Search.TheVariants.{Overlaps, OwnInputs, Undeclared}
use Rattle.gb_graph.specs.declared.refusal.Refusal.{Refusal}
use Rattle.gb_graph.specs.Conflicts.{conflict_of}

-- The least conflict of the first kind that has any: overlaps, then own inputs, then undeclared ones.
abbrev pub IsFirst : Plan → Search → Conflict → Type 0
IsFirst plan Overlaps conflict = IsLeastConflict (IsOverlap plan) conflict
IsFirst plan OwnInputs conflict =
    ((other : Conflict) → ¬ IsOverlap plan other) × IsLeastConflict (IsOwnInput plan) conflict
IsFirst plan Undeclared conflict =
    ((other : Conflict) → ¬ IsOverlap plan other) × ((other : Conflict) → ¬ IsOwnInput plan other)
    × IsLeastConflict (IsUndeclared plan) conflict

-- the plan is sound, or the first of its conflicts is this one
abbrev pub IsJudged : Plan → Option Refusal → Type 0
IsJudged plan None = IsSound plan
IsJudged plan (Some refusal) = IsFirst plan refusal.search (conflict_of refusal.found)

-- there is a request, and this is its plan
abbrev pub IsPlanOf : Registry → List Text → List Text → Plan → Type 0
IsPlanOf registry requested excluded plan =
    (request : Request) × (request_of registry requested excluded ≡ Ok request) × IsPlan request plan

-- memory is out, there is no request for this reason, or the request is refused for it
abbrev pub IsRefusalOf : Registry → List Text → List Text → Fault → Type 0
IsRefusalOf registry requested excluded fault =
    (fault ≡ OutOfMemory) ⊎ ((request_of registry requested excluded ≡ Err fault)
    ⊎ ((request : Request) × (request_of registry requested excluded ≡ Ok request) × IsRefused request fault))
