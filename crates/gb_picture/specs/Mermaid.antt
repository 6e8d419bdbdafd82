-- A graph for Mermaid.
use Rattle.std.specs.Prelude.{ℕ, List, [], ◌++◌, codes, string_bytes}
use Rattle.std.specs.List.{flat_map}
use Rattle.gb_picture.specs.Escapes.{mermaid_char}
use Rattle.gb_picture.specs.Graph.{colour_of, id, line, numbered}
use Rattle.gb_picture.specs.Shown.{bytes_of, shown}
use Rattle.gb_picture.specs.declared.graph.Node.{Node}
use Rattle.gb_picture.specs.declared.graph.Tint.{Tint}
use Rattle.gb_picture.specs.declared.graph.Tint.TheVariants as tints

abbrev pub mermaid_edge : ℕ → List ℕ → ℕ → List ℕ
mermaid_edge from arrow to = line (codes "  " ++ id from ++ arrow ++ id to)

-- the line of the node
abbrev pub mermaid_label : ℕ → List ℕ → List ℕ
mermaid_label number name =
    line (codes "  " ++ id number ++ codes "[\"" ++ bytes_of (flat_map mermaid_char (shown name))
    ++ codes "\"]")

-- the colour of the node
abbrev pub mermaid_fill : ℕ → Tint → List ℕ
mermaid_fill number tints.Plain = []
mermaid_fill number tint = line (codes "  style " ++ id number ++ codes " fill:" ++ colour_of tint)

-- An edge for each task that it needs, that it must run after and that finalizes it. Each edge leads to the
-- one that runs later.
abbrev pub mermaid_edges : ℕ → Node → List ℕ
mermaid_edges number node =
    flat_map (λ one. mermaid_edge one (codes " --> ") number) node.needs.items
    ++ flat_map (λ one. mermaid_edge one (codes " -.-> ") number) node.runs_after.items
    ++ flat_map (λ one. mermaid_edge number (codes " ==> ") one) node.finalizers.items

abbrev pub mermaid_node : ℕ → Node → List ℕ
mermaid_node number node =
    mermaid_label number (string_bytes node.name) ++ mermaid_fill number node.tint
    ++ mermaid_edges number node

abbrev pub mermaid_text : List Node → List ℕ
mermaid_text nodes = line (codes "flowchart LR") ++ numbered mermaid_node 0 nodes
