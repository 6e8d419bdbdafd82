use Rattle.std.proofs.Common.{◌≡◌, ◌&&◌, Bool, List, sym, ap, subst, ◌∙◌}
use Rattle.std.specs.Prelude.{bytes_eq}
use Rattle.std.specs.List.{list_any}
use Rattle.gb_plan.specs.declared.plan.Planned.{Planned}
use Rattle.gb_plan.specs.Task.{Path, has_path}
use Rattle.gb_plan.specs.Graph.{Plan, is_scheduled_in}
use Rattle.gb_plan.proofs.Plans.{needs_is, scheduled_is}
use Rattle.gb_plan.proofs.plan.Plan.needs.Goals as goal

abbrev names_in : Plan → Path → Path → Bool
names_in plan path other = list_any (λ (planned : Planned). bytes_eq planned.task.path path && has_path planned.task.needs other) plan

pub returns-then-exists : goal.returns-then-exists
returns-then-exists c =
    let plan = c.args.self.now in
    let path = c.args.path.now in
    let other = c.args.other.now in
    let exists : c.exists.result ≡ is_scheduled_in plan other =
    subst (λ (zs : List Planned). c.exists.result ≡ is_scheduled_in zs other) c.as_slice.ensures (c.exists.ensures ∙ scheduled_is c.as_slice.result.now other) in
    let named : c.names.result ≡ names_in plan path other = subst (λ (zs : List Planned). c.names.result ≡ names_in zs path other) c.as_slice-then-exists.ensures c.names.ensures in
    named ∙ (ap (λ b. b && names_in plan path other) (sym (sym exists ∙ c.if-exists.true)) ∙ needs_is plan path other)

pub returns-else-exists : goal.returns-else-exists
returns-else-exists c =
    let plan = c.args.self.now in
    let path = c.args.path.now in
    let other = c.args.other.now in
    let exists : c.exists.result ≡ is_scheduled_in plan other =
    subst (λ (zs : List Planned). c.exists.result ≡ is_scheduled_in zs other) c.as_slice.ensures (c.exists.ensures ∙ scheduled_is c.as_slice.result.now other) in
    c.if-exists.false ∙ (ap (λ b. b && names_in plan path other) (sym (sym exists ∙ c.if-exists.false)) ∙ needs_is plan path other)
