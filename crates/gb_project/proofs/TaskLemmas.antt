-- Tasks that are declared, or at fault, one more.
use Rattle.std.proofs.Common.{◌≡◌, ℕ, ◌+◌, List, [], ◌∷◌, ◌++◌, length, sym, ap, subst, ◌∙◌, arith, Option, Some, None, Result, Ok, length-append}
use Rattle.std.proofs.lemmas.List.{length-map, map-append}
use Rattle.std.specs.Option.{option_map}
use Rattle.gb_provider.specs.Answers.{Held}
use Rattle.gb_provider.specs.Rules.{numbers_of}
use Rattle.gb_provider.specs.Table.{Table}
use Rattle.gb_provider.specs.declared.expression.Expression.{Expression}
use Rattle.gb_provider.specs.declared.expression.Node.{Node}
use Rattle.gb_registry.specs.Projects.{Path}
use Rattle.gb_report.specs.declared.fault.Fault.{Fault}
use Rattle.gb_script.specs.Tree.{Tree, trees_of}
use Rattle.gb_declare.specs.Declaring.{unless}
use Rattle.gb_declare.specs.Joined.{Joined}
use Rattle.gb_declare.specs.Views.{joined_of}
use Rattle.gb_declare.specs.declared.registered.Joined as read
use Rattle.gb_declare.specs.Nodes.{Made, AreMade, following, tree_made, trees_made}
use Rattle.gb_declare.specs.Site.{Site}
use Rattle.gb_declare.specs.Statements.{IsRun}
use Rattle.gb_project.specs.Stage.{Stage, DeclaredTask, output_row, row_made, task_made, with_declared, with_outputs}
use Rattle.gb_project.specs.Steps.{IsStaged}
use Rattle.gb_project.specs.Views.{entries_of, entry_of, stage_of}
use Rattle.gb_project.specs.declared.declared_task.Declared.{Declared}
use Rattle.gb_project.specs.declared.declared_task.DeclaredTask as kept

-- ---- As many nodes as expressions

pub length_last : {X : Type 0} (xs : List X) (x : X) → length (xs ++ x ∷ []) ≡ length xs + 1
length_last xs x = length-append xs (x ∷ [])

trees_count : {M F Z S : Type 0} (functions : Table M F Z S) (site : Site) (row : Made M F Z (List ℕ)) (trees : List Tree)
    → length (trees_made functions site row (trees_of trees)).place ≡ length row.place + length trees
trees_count functions site row [] = omega arith
trees_count functions site row (tree ∷ trees) =
    let made = tree_made functions site row.nodes tree in
    omega (arith, trees_count functions site (following row.place made) trees, length_last row.place made.place)

pub row_count : {M F Z S : Type 0} (functions : Table M F Z S) (site : Site) (nodes : List (Expression M F Z)) (trees : List Tree) (row : List Node)
    → numbers_of row ≡ (trees_made functions site (record { nodes = nodes; place = [] }) (trees_of trees)).place → length row ≡ length trees
row_count functions site nodes trees row is =
    let count = trees_count functions site (record { nodes = nodes; place = [] }) trees in
    omega (arith, length-map row (λ (node : Node). node.number), ap length is, count)

-- ---- Outcomes

-- without a fault it is the value given
pub unless_holds : {X : Type 0} (faults : List Fault) (x y : X) → faults ≡ [] → y ≡ x → unless faults x ≡ Ok y
unless_holds faults x y none same = ap (λ fs. unless fs x) none ∙ ap Ok (sym same)

-- ---- One task more

module _ {M F Z : Type 0} where
  same_stage : (nodes nodes' : List (Expression M F Z)) (faults faults' : List (Option Fault)) (entries entries' : List (Option DeclaredTask)) → nodes ≡ nodes' → faults ≡ faults' → entries ≡ entries'
      → let one : Stage M F Z = record { nodes = nodes; faults = faults; entries = entries } in let other : Stage M F Z = record { nodes = nodes'; faults = faults'; entries = entries' } in one ≡ other
  same_stage nodes nodes' faults faults' entries entries' a b c =
      let stage : List (Expression M F Z) → List (Option Fault) → List (Option DeclaredTask) → Stage M F Z = λ n f e. record { nodes = n; faults = f; entries = e } in
      ap (λ n. stage n faults entries) a ∙ ap (λ f. stage nodes' f entries) b ∙ ap (λ e. stage nodes' faults' e) c

entry_like : (build build' : List ℕ) (task : Joined) (row row' : List ℕ) → build ≡ build' → row ≡ row' → let one : DeclaredTask = record { build = build; task = task; row = row } in let other : DeclaredTask = record { build = build'; task = task; row = row' } in one ≡ other
entry_like build build' task row row' a b =
    let entry : List ℕ → List ℕ → DeclaredTask = λ x y. record { build = x; task = task; row = y } in
    ap (λ x. entry x row) a ∙ ap (λ y. entry build' y) b

module _ {M F Z S : Type 0} (old new : Held M F Z S) (site : Site) (path : Path) (before after : Declared) where
  module _ (mid : Held M F Z S) (task : read.Joined) (row : List Node) (entry : kept.DeclaredTask)
      (made : AreMade old mid (row_made old.table site old.nodes (joined_of task)) row)
      (run : IsRun mid new (with_outputs path mid.nodes (joined_of task).outputs (output_row (joined_of task) (numbers_of row)))) where
    pub declared_one : entry.build ≡ site.build → entry.task ≡ task → entry.row.items ≡ row → after.faults.items ≡ before.faults.items ++ None ∷ [] → after.entries.items ≡ before.entries.items ++ Some entry ∷ []
        → IsStaged old new after (with_declared old.table site path (stage_of old.nodes before) (Ok (joined_of task)))
    declared_one build said rows faults entries =
        let all = task_made old.table site path old.nodes (joined_of task) in
        let nodes : new.nodes ≡ all.nodes =
        run.made ∙ ap (λ n. with_outputs path n (joined_of task).outputs (output_row (joined_of task) (numbers_of row))) made.nodes
        ∙ ap (λ r. with_outputs path (row_made old.table site old.nodes (joined_of task)).nodes (joined_of task).outputs (output_row (joined_of task) r)) made.numbers in
        let one : entry_of entry ≡ record { build = site.build; task = joined_of task; row = all.place } =
        ap (λ (t : read.Joined). let e : DeclaredTask = record { build = entry.build; task = joined_of t; row = numbers_of entry.row.items } in e) said
        ∙ entry_like entry.build site.build (joined_of task) (numbers_of entry.row.items) all.place build (ap numbers_of rows ∙ made.numbers) in
        record {
          table = run.table ∙ made.table;
          staged =
              same_stage new.nodes all.nodes after.faults.items (before.faults.items ++ None ∷ []) (entries_of after.entries.items)
              (entries_of before.entries.items ++ Some (record { build = site.build; task = joined_of task; row = all.place }) ∷ []) nodes faults
              (ap entries_of entries ∙ map-append (option_map entry_of) before.entries.items (Some entry ∷ []) ∙ ap (λ (e : DeclaredTask). entries_of before.entries.items ++ Some e ∷ []) one);
          grown = omega (arith, made.grown, run.grown);
        }

-- the same by an equal path and an equal outcome
pub staged_like : {M F Z S : Type 0} (old new : Held M F Z S) (declared : Declared) (functions : Table M F Z S) (site : Site) (stage : Stage M F Z) (path path' : Path) (outcome outcome' : Result Joined Fault)
    → path ≡ path' → outcome ≡ outcome' → IsStaged old new declared (with_declared functions site path stage outcome) → IsStaged old new declared (with_declared functions site path' stage outcome')
staged_like old new declared functions site stage path path' outcome outcome' paths outcomes is =
    subst (λ p. IsStaged old new declared (with_declared functions site p stage outcome')) paths
    (subst (λ o. IsStaged old new declared (with_declared functions site path stage o)) outcomes is)
