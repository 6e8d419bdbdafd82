-- A graph as an outline: each node, and under it the nodes that it is connected to.
use Rattle.std.specs.Prelude.{ℕ, List, [], ◌++◌, codes, string_bytes}
use Rattle.std.specs.List.{flat_map}
use Rattle.gb_picture.specs.Graph.{line, name_at}
use Rattle.gb_picture.specs.Shown.{shown_text}
use Rattle.gb_picture.specs.declared.graph.Node.{Node}
use Rattle.gb_picture.specs.declared.graph.Tint.{Tint}
use Rattle.gb_picture.specs.declared.graph.Tint.TheVariants as tints

abbrev pub outline_edge : List Node → List ℕ → ℕ → List ℕ
outline_edge nodes word other = line (word ++ shown_text (name_at nodes other))

-- what is shown of the outcome of a node, after its name
abbrev pub outcome_text : Tint → List ℕ
outcome_text tints.Plain = []
outcome_text tints.Runs = codes " runs"
outcome_text tints.Open = codes " may change"
outcome_text tints.Done = codes " is up to date"
outcome_text tints.Idle = codes " does nothing"

-- The node, and a line for each task that it needs, that it must run after and that finalizes it.
abbrev pub outline_node : List Node → Node → List ℕ
outline_node nodes node =
    line (shown_text (string_bytes node.name) ++ outcome_text node.tint)
    ++ flat_map (outline_edge nodes (codes "    needs ")) node.needs.items
    ++ flat_map (outline_edge nodes (codes "    runs after ")) node.runs_after.items
    ++ flat_map (outline_edge nodes (codes "    finalized by ")) node.finalizers.items

abbrev pub outline_text : List Node → List ℕ
outline_text nodes = flat_map (outline_node nodes) nodes
