-- The graph of a plan as JSON.
use Rattle.std.specs.Prelude.{ℕ, List, ◌++◌, codes, map, string_bytes}
use Rattle.std.specs.List.{flat_map}
use Rattle.serde_json.specs.Data.{Data, array, member, no_members, object, string}
use Rattle.serde_json.specs.View.{items_of}
use Rattle.gb_picture.specs.Graph.{name_at}
use Rattle.gb_picture.specs.declared.graph.Node.{Node}

-- an edge of this kind to the task that runs later
abbrev pub edge_object : List ℕ → List ℕ → List ℕ → Data
edge_object sort from to =
    object (member (codes "from") (string from)
    (member (codes "sort") (string sort)
    (member (codes "to") (string to) no_members)))

-- the edges of this kind from these to the one with this name
abbrev pub edges_to : List Node → List ℕ → List ℕ → List ℕ → List Data
edges_to nodes sort to numbers = map (λ number. edge_object sort (name_at nodes number) to) numbers

-- the edges from the one with this name to those that finalize it
abbrev pub edges_from : List Node → List ℕ → List ℕ → List Data
edges_from nodes from numbers =
    map (λ number. edge_object (codes "finalizedBy") from (name_at nodes number)) numbers

-- an edge for each task that it needs, that it must run after and that finalizes it
abbrev pub edges_of : List Node → Node → List Data
edges_of nodes node =
    edges_to nodes (codes "needs") (string_bytes node.name) node.needs.items
    ++ edges_to nodes (codes "mustRunAfter") (string_bytes node.name) node.runs_after.items
    ++ edges_from nodes (string_bytes node.name) node.finalizers.items

-- the names of tasks
abbrev pub names_data : List Node → Data
names_data nodes = array (items_of (map (λ node. string (string_bytes node.name)) nodes))

-- all tasks in the order of the plan, and all edges
abbrev pub graph_data : List Node → Data
graph_data nodes =
    object (member (codes "edges") (array (items_of (flat_map (edges_of nodes) nodes)))
    (member (codes "tasks") (names_data nodes) no_members))
