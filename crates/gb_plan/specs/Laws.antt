-- Laws of plans and refusals, as statements.
use Rattle.std.specs.Prelude.{◌≡◌}
use Rattle.gb_report.specs.declared.fault.Fault.{Fault}
use Rattle.gb_plan.specs.Graph.{Plan, Request, IsPlan}
use Rattle.gb_plan.specs.Refusal.{IsRefused}

-- a request has at most one plan
abbrev pub PlansAreOne : Type 0
PlansAreOne = (request : Request) (p q : Plan) → IsPlan request p → IsPlan request q → p ≡ q

-- a request that has a plan is not refused
abbrev pub RefusalsExcludePlans : Type 0
RefusalsExcludePlans =
    (request : Request) (plan : Plan) (fault : Fault) → IsPlan request plan → ¬ IsRefused request fault

-- a request is refused with at most one fault
abbrev pub RefusalsAreOne : Type 0
RefusalsAreOne = (request : Request) (f g : Fault) → IsRefused request f → IsRefused request g → f ≡ g
