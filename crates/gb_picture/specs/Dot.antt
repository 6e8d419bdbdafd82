-- A graph for Graphviz.
use Rattle.std.specs.Prelude.{ℕ, List, [], ◌++◌, codes, if◌then◌else◌, string_bytes}
use Rattle.std.specs.List.{flat_map}
use Rattle.gb_picture.specs.Escapes.{dot_char}
use Rattle.gb_picture.specs.Graph.{colour_of, id, is_tinted, line, numbered}
use Rattle.gb_picture.specs.Shown.{bytes_of, shown}
use Rattle.gb_picture.specs.declared.graph.Node.{Node}
use Rattle.gb_picture.specs.declared.graph.Tint.{Tint}
use Rattle.gb_picture.specs.declared.graph.Tint.TheVariants as tints

abbrev pub dot_edge : ℕ → ℕ → List ℕ → List ℕ
dot_edge from to style = line (codes "  " ++ id from ++ codes " -> " ++ id to ++ style)

-- the colour of a node
abbrev pub dot_fill : Tint → List ℕ
dot_fill tints.Plain = []
dot_fill tint = codes ", style=filled, fillcolor=" ++ colour_of tint

-- the line of the node
abbrev pub dot_label : ℕ → List ℕ → Tint → List ℕ
dot_label number name tint =
    line (codes "  " ++ id number ++ codes " [label=\"" ++ bytes_of (flat_map dot_char (shown name))
    ++ codes "\"" ++ dot_fill tint ++ codes "];")

-- An edge for each task that it needs, that it must run after and that finalizes it. Each edge leads to the
-- one that runs later.
abbrev pub dot_edges : ℕ → Node → List ℕ
dot_edges number node =
    flat_map (λ one. dot_edge one number (codes ";")) node.needs.items
    ++ flat_map (λ one. dot_edge one number (codes " [style=dashed];")) node.runs_after.items
    ++ flat_map (λ one. dot_edge number one (codes " [style=dotted];")) node.finalizers.items

abbrev pub dot_node : ℕ → Node → List ℕ
dot_node number node = dot_label number (string_bytes node.name) node.tint ++ dot_edges number node

-- what the colours of these nodes mean, if they have some
abbrev pub dot_legend : List Node → List ℕ
dot_legend nodes =
    if is_tinted nodes
    then line (codes "  label=\"orange runs, khaki may change, palegreen is up to date, "
    ++ codes "lightgray does nothing\";")
    else []

abbrev pub dot_text : List Node → List ℕ
dot_text nodes =
    line (codes "digraph tasks {") ++ line (codes "  rankdir=LR;") ++ line (codes "  node [shape=box];")
    ++ dot_legend nodes ++ numbered dot_node 0 nodes ++ line (codes "}")
