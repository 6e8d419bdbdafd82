-- How nodes are made one after another.
use Rattle.std.proofs.Common.{◌≡◌, ℕ, zero, suc, ◌+◌, ◌<◌, ◌≤◌, List, [], ◌∷◌, ◌++◌, length, map, get_or, drop, refl, sym, ap, subst, ◌∙◌, arith, Result}
use Rattle.std.proofs.lemmas.List.Elements.{All-from_recursion, recursion_from_All}
use Rattle.std.specs.List.{AllByRecursion}
use Rattle.std.specs.Prelude.{All}
use Rattle.gb_provider.specs.Answers.{Held}
use Rattle.gb_provider.specs.Meanings.{Meanings}
use Rattle.gb_provider.specs.Rules.{numbers_of}
use Rattle.gb_provider.specs.Table.{Table}
use Rattle.gb_provider.specs.declared.expression.Expression.{Expression}
use Rattle.gb_provider.specs.declared.expression.Node.{Node}
use Rattle.gb_report.specs.declared.fault.Fault.{Fault}
use Rattle.gb_registry.proofs.Firsts.{first_among, left_from}
use Rattle.gb_registry.specs.Faults.{IsFirstFault, ReportsFirst}
use Rattle.gb_registry.specs.Wrong.{found_in, found_at, found_in_all, found_along, found_by}
use Rattle.gb_script.specs.Tree.{Tree, Chain, Root, trees_of, Link, Links, links_of, root, links, links_size, tree_size}
use Rattle.gb_script.specs.View.{link_of}
use Rattle.gb_script.specs.declared.script_expression.Step.{Step}
use Rattle.std.specs.Borrow.{Bor}
use Rattle.gb_declare.specs.Borrowed.{now_of}
use Rattle.gb_declare.specs.Site.{Site, AreThere}
use Rattle.gb_declare.specs.Nodes.{Made, IsMade, following, tree_made, trees_made, link_made, links_made}
use Rattle.gb_declare.specs.Wrong.{root_faults, link_faults, making_faults}

-- what is present stays present
pub there_on : (site : Site) (n m : ℕ) → n ≤ m → AreThere site n → AreThere site m
there_on site n m le there name node is = omega (arith, there name node is, le)

numbers_last : (row : List Node) (node : Node) → numbers_of (row ++ node ∷ []) ≡ numbers_of row ++ node.number ∷ []
numbers_last [] node = refl
numbers_last (n ∷ row) node = ap (λ ks. n.number ∷ ks) (numbers_last row node)

last_within : (n m : ℕ) (row : List Node) (node : Node) → n ≤ m → node.number < m → AllByRecursion (λ (k : Node). k.number < n) row → AllByRecursion (λ (k : Node). k.number < m) (row ++ node ∷ [])
last_within n m [] node le below all = (below, tt)
last_within n m (k ∷ row) node le below all = let here : k.number < n = all.0 in (omega (arith, here, le), last_within n m row node le below all.1)

last_all : (n m : ℕ) (row : List Node) (node : Node) → n ≤ m → node.number < m → All (λ (k : Node). k.number < n) row → All (λ (k : Node). k.number < m) (row ++ node ∷ [])
last_all n m row node le below all =
    All-from_recursion (λ (k : Node). k.number < m) (row ++ node ∷ []) (last_within n m row node le below (recursion_from_All (λ (k : Node). k.number < n) row all))

-- one more is within
pub all_within : (n m : ℕ) (row row' : List Node) (node : Node) → row' ≡ row ++ node ∷ [] → n ≤ m → node.number < m → All (λ (k : Node). k.number < n) row → All (λ (k : Node). k.number < m) row'
all_within n m row row' node pushed le below all =
    subst (All (λ (k : Node). k.number < m)) (sym pushed) (last_all n m row node le below all)

-- an element of a borrowed row is one of what it represents
pub item_now : (row : List (Bor Tree)) (i : ℕ) (item : Bor Tree) → i < length row → item ≡ get_or row i item → item.now ≡ get_or (now_of row) i item.now
item_now [] i item below is = absurd (omega (arith, below))
item_now (b ∷ row) zero item below is = ap (λ (x : Bor Tree). x.now) is
item_now (b ∷ row) (suc i) item below is = item_now row i item (omega (arith, below)) is

pub count_now : (row : List (Bor Tree)) → length (now_of row) ≡ length row
count_now [] = refl
count_now (b ∷ row) = omega (arith, count_now row)

-- what follows a source is smaller
pub links_below : (tree : Tree) → links_size (links tree) + 1 ≤ tree_size tree
links_below (Chain r ls) = omega arith

nil_on : {X : Type 0} (xs ys : List X) → xs ≡ [] → xs ++ ys ≡ ys
nil_on xs ys e = ap (λ l. l ++ ys) e

module _ {M F Z : Type 0} where
  abbrev row_at : List (Expression M F Z) → List ℕ → Made M F Z (List ℕ)
  row_at nodes place = record { nodes = nodes; place = place }

  abbrev one_at : List (Expression M F Z) → ℕ → Made M F Z ℕ
  one_at nodes place = record { nodes = nodes; place = place }

module _ {M F Z S : Type 0} where
  module _ (old new : Held M F Z S) (node : Node) (made : Made M F Z ℕ) (is_made : IsMade old new made node) where
    same_one : made ≡ one_at new.nodes node.number
    same_one = ap (λ n. one_at n made.place) (sym is_made.nodes) ∙ ap (one_at new.nodes) (sym is_made.number)

    same_row : (row : List Node) → following (numbers_of row) made ≡ row_at new.nodes (numbers_of (row ++ node ∷ []))
    same_row row = ap (following (numbers_of row)) same_one ∙ ap (row_at new.nodes) (sym (numbers_last row node))

  module _ (site : Site) (old new : Held M F Z S) (node : Node) (functions : Table M F Z S) (same : old.table ≡ functions) where
    module _ (trees : List Tree) (i : ℕ) (tree : Tree) (below : i < length trees) (is : tree ≡ get_or trees i tree) where
      -- one element more
      pub trees_on : (row row' : List Node) (all : Made M F Z (List ℕ)) → row' ≡ row ++ node ∷ [] → IsMade old new (tree_made old.table site old.nodes tree) node
          → all ≡ trees_made functions site (row_at old.nodes (numbers_of row)) (trees_of (drop i trees))
          → all ≡ trees_made functions site (row_at new.nodes (numbers_of row')) (trees_of (drop (i + 1) trees))
      trees_on row row' all pushed is_made before =
          before ∙ ap (λ d. trees_made functions site (row_at old.nodes (numbers_of row)) (trees_of d)) (left_from trees i tree below is)
          ∙ ap (λ f. trees_made functions site (following (numbers_of row) (tree_made f site old.nodes tree)) (trees_of (drop (i + 1) trees))) (sym same)
          ∙ ap (λ r. trees_made functions site r (trees_of (drop (i + 1) trees))) (same_row old new node (tree_made old.table site old.nodes tree) is_made row)
          ∙ ap (λ r. trees_made functions site (row_at new.nodes (numbers_of r)) (trees_of (drop (i + 1) trees))) (sym pushed)

    module _ (steps : List Step) (i : ℕ) (step : Step) (below : i < length steps) (is : step ≡ get_or steps i step) where
      -- one step more
      pub links_on : (at : Node) (all : Made M F Z ℕ) → IsMade old new (link_made old.table site old.nodes at.number (link_of step)) node
          → all ≡ links_made functions site (one_at old.nodes at.number) (links_of (map link_of (drop i steps)))
          → all ≡ links_made functions site (one_at new.nodes node.number) (links_of (map link_of (drop (i + 1) steps)))
      links_on at all is_made before =
          before ∙ ap (λ d. links_made functions site (one_at old.nodes at.number) (links_of (map link_of d))) (left_from steps i step below is)
          ∙ ap (λ f. links_made functions site (link_made f site old.nodes at.number (link_of step)) (links_of (map link_of (drop (i + 1) steps)))) (sym same)
          ∙ ap (λ r. links_made functions site r (links_of (map link_of (drop (i + 1) steps)))) (same_one old new node (link_made old.table site old.nodes at.number (link_of step)) is_made)

  module _ (means : Meanings M F Z S) (site : Site) (functions table : Table M F Z S) (same : table ≡ functions) where
    abbrev by : Table M F Z S → Link → List Fault
    by f = link_faults means f

    module _ (trees : List Tree) (i : ℕ) (tree : Tree) (below : i < length trees) (is : tree ≡ get_or trees i tree) (all : List Fault)
        (before : all ≡ found_in_all (root_faults site) (by functions) (trees_of (drop i trees))) where
      trees_split : all ≡ found_in (root_faults site) (by table) tree ++ found_in_all (root_faults site) (by functions) (trees_of (drop (i + 1) trees))
      trees_split =
          before ∙ ap (λ d. found_in_all (root_faults site) (by functions) (trees_of d)) (left_from trees i tree below is)
          ∙ ap (λ f. found_in (root_faults site) (by f) tree ++ found_in_all (root_faults site) (by functions) (trees_of (drop (i + 1) trees))) (sym same)

      pub trees_good : found_in (root_faults site) (by table) tree ≡ [] → all ≡ found_in_all (root_faults site) (by functions) (trees_of (drop (i + 1) trees))
      trees_good good = trees_split ∙ nil_on (found_in (root_faults site) (by table) tree) (found_in_all (root_faults site) (by functions) (trees_of (drop (i + 1) trees))) good

      pub trees_first : (fault : Fault) → IsFirstFault (found_in (root_faults site) (by table) tree) fault → IsFirstFault all fault
      trees_first fault first = first_among (found_in (root_faults site) (by table) tree) (found_in_all (root_faults site) (by functions) (trees_of (drop (i + 1) trees))) all fault trees_split first

    module _ (steps : List Step) (i : ℕ) (step : Step) (below : i < length steps) (is : step ≡ get_or steps i step) (all : List Fault)
        (before : all ≡ found_along (root_faults site) (by functions) (links_of (map link_of (drop i steps)))) where
      links_split : all ≡ found_by (root_faults site) (by table) (link_of step) ++ found_along (root_faults site) (by functions) (links_of (map link_of (drop (i + 1) steps)))
      links_split =
          before ∙ ap (λ d. found_along (root_faults site) (by functions) (links_of (map link_of d))) (left_from steps i step below is)
          ∙ ap (λ f. found_by (root_faults site) (by f) (link_of step) ++ found_along (root_faults site) (by functions) (links_of (map link_of (drop (i + 1) steps)))) (sym same)

      pub links_good : found_by (root_faults site) (by table) (link_of step) ≡ [] → all ≡ found_along (root_faults site) (by functions) (links_of (map link_of (drop (i + 1) steps)))
      links_good good = links_split ∙ nil_on (found_by (root_faults site) (by table) (link_of step)) (found_along (root_faults site) (by functions) (links_of (map link_of (drop (i + 1) steps)))) good

      pub links_first : (fault : Fault) → IsFirstFault (found_by (root_faults site) (by table) (link_of step)) fault → IsFirstFault all fault
      links_first fault first = first_among (found_by (root_faults site) (by table) (link_of step)) (found_along (root_faults site) (by functions) (links_of (map link_of (drop (i + 1) steps)))) all fault links_split first

    -- the faults of a tree whose source has none are those of its steps
    pub tree_reported : {X : Type 0} (tree : Tree) (r : Root) (ls : Links) (answer : Result X Fault) → r ≡ root tree → ls ≡ links tree → found_at (root_faults site) (by functions) r ≡ []
        → ReportsFirst (found_along (root_faults site) (by table) ls) answer → ReportsFirst (making_faults means functions site tree) answer
    tree_reported (Chain r' ls') r ls answer is_root is_links good reported =
        let whole : making_faults means functions site (Chain r' ls') ≡ found_along (root_faults site) (by table) ls =
        ap (λ x. found_at (root_faults site) (by functions) x ++ found_along (root_faults site) (by functions) ls') (sym is_root)
        ∙ nil_on (found_at (root_faults site) (by functions) r) (found_along (root_faults site) (by functions) ls') good
        ∙ ap (λ l. found_along (root_faults site) (by functions) l) (sym is_links)
        ∙ ap (λ f. found_along (root_faults site) (by f) ls) (sym same) in
        subst (λ fs. ReportsFirst fs answer) (sym whole) reported
