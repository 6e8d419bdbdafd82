-- The graph of a plan.
use Rattle.std.specs.Prelude.{ℕ, ◌≡◌, List, [], map, slice_get, string_bytes, unwrap_or}
use Rattle.std.specs.List.{AllZip, filter}
use Rattle.gb_graph.specs.Answer.{IsPlanOf}
use Rattle.gb_picture.specs.Dot.{dot_text}
use Rattle.gb_picture.specs.Mermaid.{mermaid_text}
use Rattle.gb_picture.specs.Outline.{outline_text}
use Rattle.gb_picture.specs.Svg.{IsSvgOf}
use Rattle.gb_picture.specs.declared.graph.Node.{Node}
use Rattle.gb_picture.specs.declared.graph.Tint.TheVariants as tints
use Rattle.gb_plan.specs.Graph.{Plan, Registry, is_scheduled_in, needs_in, order, orders_in}
use Rattle.gb_plan.specs.Task.{Path, Text}
use Rattle.gb_plan.specs.declared.plan.Planned.{Planned}
use Rattle.gb_predict.specs.declared.predicted_outcome.Prediction.{Prediction}
use Rattle.gb_query.specs.Drawn.{graph_data}
use Rattle.gb_query.specs.Objects.{IsJsonOf}
use Rattle.gb_ask_command.specs.Tints.{with_tints}
use Rattle.gb_ask_command.specs.declared.arguments.Style.{Style}
use Rattle.gb_ask_command.specs.declared.arguments.Style.TheVariants as styles

-- ---- The nodes

-- the path of the task with a number; empty if there is none
abbrev pub path_at : Plan → ℕ → Path
path_at plan number = unwrap_or (slice_get (order plan) number) []

-- The node has the path of the task as its name, and its edges are exactly the tasks of the plan that the
-- task needs, that it must run after, and that finalize it. It has no colour.
pub record IsNodeOf (plan : Plan) (planned : Planned) (node : Node) : Type 0 where
  pub name : string_bytes node.name ≡ planned.task.path
  pub tint : node.tint ≡ tints.Plain
  pub needs : map (path_at plan) node.needs.items ≡ needs_in plan planned.task
  pub runs_after : map (path_at plan) node.runs_after.items ≡ orders_in plan planned.task
  pub finalizers :
      map (path_at plan) node.finalizers.items ≡ filter (is_scheduled_in plan) planned.task.finalizers

-- the nodes are exactly the tasks of the plan, in its order
abbrev pub AreNodesOf : Plan → List Node → Type 0
AreNodesOf plan nodes = AllZip (IsNodeOf plan) plan nodes

-- ---- The text

-- the graph of these nodes in a style
abbrev pub IsPicture : Style → List Node → List ℕ → Type 0
IsPicture styles.Dot nodes text = text ≡ dot_text nodes
IsPicture styles.Tree nodes text = text ≡ outline_text nodes
IsPicture styles.Mermaid nodes text = text ≡ mermaid_text nodes
IsPicture styles.Svg nodes text = IsSvgOf nodes text
IsPicture styles.Json nodes text = IsJsonOf (graph_data nodes) text

-- the graph of the plan of a request for a registry, with the colours of these predictions
abbrev pub IsDrawing : Style → List Prediction → Registry → List Text → List Text → List ℕ → Type 0
IsDrawing style predicted registry requested excluded text =
    (plan : Plan) × IsPlanOf registry requested excluded plan
    × (nodes : List Node) × AreNodesOf plan nodes × IsPicture style (with_tints nodes predicted) text
