-- Answers as JSON are shallow, so that they read back.
use Rattle.std.proofs.Common.{ℕ, ◌≤◌, ◌++◌, Bool, List, [], ◌∷◌, Option, Some, None, Result, Ok, Err, map, string_bytes, arith}
use Rattle.std.specs.List.{flat_map}
use Rattle.std.specs.Prelude.{codes}
use Rattle.serde_json.specs.Data.{Data, depth, items_depth, string}
use Rattle.serde_json.specs.Read.{max_depth}
use Rattle.serde_json.specs.View.{items_of}
use Rattle.gb_picture.specs.Graph.{name_at}
use Rattle.gb_picture.specs.declared.graph.Node.{Node}
use Rattle.gb_plan.specs.Graph.{Registry, declaration_at, paths_of}
use Rattle.gb_plan.specs.Task.{Path}
use Rattle.gb_plan.specs.declared.task.TaskDeclaration.{TaskDeclaration}
use Rattle.gb_report.specs.declared.fault.Fault.{Fault}
use Rattle.gb_query.specs.Drawn.{edge_object, edges_from, edges_of, edges_to, graph_data}
use Rattle.gb_query.specs.Listing.{declared_object, is_default, task_object, tasks_data}
use Rattle.gb_query.specs.Objects.{entry_object, found_data, found_object, status_data}
use Rattle.gb_query.specs.declared.inventory.Entry.{Entry}
use Rattle.gb_query.specs.declared.inventory.Entry.TheVariants as entries
use Rattle.gb_query.specs.declared.answer_lines.Activity.{Activity}
use Rattle.gb_query.specs.declared.at_place.Found.{Found}
use Rattle.gb_query.specs.declared.at_place.Found.TheVariants as founds
use Rattle.gb_query.specs.declared.at_place.Relation.{Relation}

pub items_low : {X : Type 0} (f : X → Data) (n : ℕ) → ((x : X) → depth (f x) ≤ n) → (xs : List X) → items_depth (items_of (map f xs)) ≤ n
items_low f n low [] = omega arith
items_low f n low (x ∷ xs) = let one = low x in let rest = items_low f n low xs in omega arith

found_low : (relation : Relation) (found : Found) → depth (found_object relation found) ≤ 1
found_low relation (founds.Related path name) = omega arith
found_low relation (founds.Unreadable path fault) = omega arith

pub found_shallow : (relation : Relation) (found : List Found) → depth (found_data relation found) ≤ max_depth
found_shallow relation found = let low = items_low (found_object relation) 1 (found_low relation) found in omega arith

entry_low : (entry : Entry) → depth (entry_object entry) ≤ 1
entry_low (entries.Record path) = omega arith
entry_low (entries.Damaged path) = omega arith
entry_low (entries.Unregistered path) = omega arith
entry_low (entries.Foreign place) = omega arith

pub status_shallow : (activity : Activity) (found : List Entry) → depth (status_data activity found) ≤ max_depth
status_shallow activity found = let low = items_low entry_object 1 entry_low found in omega arith

-- ---- Registered tasks

declared_low : (path : Path) (default : Bool) (declared : Option (Result TaskDeclaration Fault)) → depth (declared_object path default declared) ≤ 2
declared_low path default (Some (Ok task)) =
    let kinds = items_low (λ action. string action.kind) 0 (λ action. omega arith) task.actions in
    let places = items_low (λ output. string output.place) 0 (λ output. omega arith) task.outputs in
    omega arith
declared_low path default (Some (Err fault)) = omega arith
declared_low path default None = omega arith

pub tasks_shallow : (registry : Registry) → depth (tasks_data registry) ≤ max_depth
tasks_shallow registry =
    let low = items_low (task_object registry) 2 (λ path. declared_low path (is_default registry.default_tasks path) (declaration_at registry path)) (paths_of registry) in
    omega arith

-- ---- Graphs

pub more_low : (n : ℕ) (xs ys : List Data) → items_depth (items_of xs) ≤ n → items_depth (items_of ys) ≤ n → items_depth (items_of (xs ++ ys)) ≤ n
more_low n [] ys first later = later
more_low n (x ∷ xs) ys first later = let rest = more_low n xs ys (omega (arith, first)) later in omega (arith, first)

flat_low : {X : Type 0} (f : X → List Data) (n : ℕ) → ((x : X) → items_depth (items_of (f x)) ≤ n) → (xs : List X) → items_depth (items_of (flat_map f xs)) ≤ n
flat_low f n low [] = omega arith
flat_low f n low (x ∷ xs) = more_low n (f x) (flat_map f xs) (low x) (flat_low f n low xs)

edges_low : (nodes : List Node) (node : Node) → items_depth (items_of (edges_of nodes node)) ≤ 1
edges_low nodes node =
    let name = string_bytes node.name in
    let needs = items_low (λ number. edge_object (codes "needs") (name_at nodes number) name) 1 (λ number. omega arith) node.needs.items in
    let runs_after = items_low (λ number. edge_object (codes "mustRunAfter") (name_at nodes number) name) 1 (λ number. omega arith) node.runs_after.items in
    let finalizers = items_low (λ number. edge_object (codes "finalizedBy") name (name_at nodes number)) 1 (λ number. omega arith) node.finalizers.items in
    more_low 1 (edges_to nodes (codes "needs") name node.needs.items ++ edges_to nodes (codes "mustRunAfter") name node.runs_after.items) (edges_from nodes name node.finalizers.items)
    (more_low 1 (edges_to nodes (codes "needs") name node.needs.items) (edges_to nodes (codes "mustRunAfter") name node.runs_after.items) needs runs_after)
    finalizers

pub graph_shallow : (nodes : List Node) → depth (graph_data nodes) ≤ max_depth
graph_shallow nodes =
    let edges = flat_low (edges_of nodes) 1 (edges_low nodes) nodes in
    let names = items_low (λ node. string (string_bytes node.name)) 0 (λ node. omega arith) nodes in
    omega arith
