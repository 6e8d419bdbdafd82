-- How the nodes of properties are made one after another.
use Rattle.std.proofs.Common.{◌≡◌, ℕ, ◌+◌, ◌<◌, ◌≤◌, arith, Bool, true, false, cond, subst, List, [], ◌∷◌, ◌++◌, length, map, get_or, drop, Some, None, refl, sym, ap, ◌∙◌, append_assoc, length-append}
use Rattle.std.specs.Prelude.{filter_map}
use Rattle.std.specs.BTreeMap.{BTreeMap, insert_entry, is_at}
use Rattle.std.specs.Map.{lookup}
use Rattle.std.specs.List.{AllByRecursion}
use Rattle.std.specs.Ordering.{match_ordering}
use Rattle.std.specs.declared.cmp.Ordering.TheVariants.{Less, Equal, Greater}
use Rattle.gb_declare.specs.Site.{AreThere}
use Rattle.gb_core.specs.Lists.{byte_order}
use Rattle.gb_provider.specs.Answers.{Held}
use Rattle.gb_provider.specs.declared.expression.Expression.{Expression}
use Rattle.gb_provider.specs.declared.expression.Node.{Node}
use Rattle.gb_registry.proofs.Firsts.{left_from}
use Rattle.gb_registry.specs.Projects.{Path}
use Rattle.gb_registry.specs.Said.{declared_property}
use Rattle.gb_script.specs.declared.script.Statement.{Statement}
use Rattle.gb_declare.specs.Statements.{named_from, properties_made, unset_property}

chosen : (s : Statement) (rest : List Statement) (name : List ℕ) → Some name ≡ declared_property s → filter_map declared_property (s ∷ rest) ≡ name ∷ filter_map declared_property rest
chosen s rest name e = rw (sym e) refl

skipped : (s : Statement) (rest : List Statement) → None ≡ declared_property s → filter_map declared_property (s ∷ rest) ≡ filter_map declared_property rest
skipped s rest e = rw (sym e) refl

module _ (ss : List Statement) (i : ℕ) (s : Statement) (below : i < length ss) (is : s ≡ get_or ss i s) where
  -- the names of the remaining statements
  pub taken : (name : List ℕ) → Some name ≡ declared_property s → filter_map declared_property (drop i ss) ≡ name ∷ filter_map declared_property (drop (i + 1) ss)
  taken name e = ap (filter_map declared_property) (left_from ss i s below is) ∙ chosen s (drop (i + 1) ss) name e

  pub passed : None ≡ declared_property s → filter_map declared_property (drop i ss) ≡ filter_map declared_property (drop (i + 1) ss)
  passed e = ap (filter_map declared_property) (left_from ss i s below is) ∙ skipped s (drop (i + 1) ss) e

-- one property more
pub made_on : {M F Z : Type 0} (project : Path) (nodes new : List (Expression M F Z)) (name : List ℕ) (before names : List (List ℕ)) → before ≡ name ∷ names
    → new ≡ nodes ++ unset_property project name ∷ [] → properties_made project nodes before ≡ properties_made project new names
made_on project nodes new name before names is made =
    ap (properties_made project nodes) is
    ∙ sym (append_assoc nodes (unset_property project name ∷ []) (map (unset_property project) names)) ∙ ap (λ n. n ++ map (unset_property project) names) (sym made)

pub named_on : {M F Z : Type 0} (nodes new : List (Expression M F Z)) (e : Expression M F Z) (there there' : List (List ℕ × Node)) (name : List ℕ) (before names : List (List ℕ))
    → before ≡ name ∷ names → new ≡ nodes ++ e ∷ [] → there' ≡ insert_entry byte_order there name (record { number = length nodes })
    → named_from (length nodes) there before ≡ named_from (length new) there' names
named_on nodes new e there there' name before names is made put =
    let longer : length new ≡ length nodes + 1 = ap length made ∙ length-append nodes (e ∷ []) in
    ap (named_from (length nodes) there) is ∙ ap (λ t. named_from (length nodes + 1) t names) (sym put) ∙ ap (λ n. named_from n there' names) (sym longer)

module _ {M F Z S : Type 0} (a b : Held M F Z S) (same : a ≡ b) where
  pub same_nodes : a.nodes ≡ b.nodes
  same_nodes = ap (λ (h : Held M F Z S). h.nodes) same

  pub same_table : a.table ≡ b.table
  same_table = ap (λ (h : Held M F Z S). h.table) same

pub same_entries : (a b : BTreeMap (List ℕ) Node) → a ≡ b → a.entries ≡ b.entries
same_entries a b same = ap (λ (m : BTreeMap (List ℕ) Node). m.entries) same

-- ---- The nodes of names are among the expressions

abbrev AreBelow : ℕ → List (List ℕ × Node) → Type 0
AreBelow m there = AllByRecursion (λ (e : List ℕ × Node). e.1.number < m) there

put_below : (m : ℕ) (there : List (List ℕ × Node)) (name : List ℕ) (node : Node) → node.number < m → AreBelow m there → AreBelow m (insert_entry byte_order there name node)
put_below m [] name node below all = (below, tt)
put_below m (e ∷ there) name node below all =
    elim (byte_order name e.0) as (λ o. AreBelow m (match_ordering o ((name, node) ∷ e ∷ there) ((e.0, node) ∷ there) (e ∷ insert_entry byte_order there name node))) [
      | Less ↦ (below, all)
      | Equal ↦ (below, all.1)
      | Greater ↦ (all.0, put_below m there name node below all.1)
    ]

named_below : (m n : ℕ) (there : List (List ℕ × Node)) (names : List (List ℕ)) → n + length names ≤ m → AreBelow m there → AreBelow m (named_from n there names)
named_below m n there [] le all = all
named_below m n there (name ∷ names) le all =
    named_below m (n + 1) (insert_entry byte_order there name (record { number = n })) names (omega (arith, le)) (put_below m there name (record { number = n }) (omega (arith, le)) all)

found_below : (m : ℕ) (test : List ℕ → Bool) (there : List (List ℕ × Node)) (node : Node) → AreBelow m there → lookup test there ≡ Some node → node.number < m
found_below m test [] node all is = absurd (cc)
found_below m test (e ∷ there) node all is =
    elim (test e.0) as (λ b. cond b (Some e.1) (lookup test there) ≡ Some node → node.number < m) [
      | true ↦ λ found. let same : e.1 ≡ node = cc in subst (λ (n : Node). n.number < m) same all.0
      | false ↦ λ found. found_below m test there node all.1 found
    ] is

count_map : {X Y : Type 0} (f : X → Y) (xs : List X) → length (map f xs) ≡ length xs
count_map f [] = refl
count_map f (x ∷ xs) = omega (arith, count_map f xs)

-- the nodes of a project's properties exist once they are made
pub laid_there : {M F Z : Type 0} (project : Path) (build : List ℕ) (given : List (List ℕ × List ℕ)) (properties : List (List ℕ × Node)) (nodes new : List (Expression M F Z)) (names : List (List ℕ))
    → properties ≡ named_from (length nodes) [] names → new ≡ properties_made project nodes names
    → AreThere (record { project = project; build = build; properties = properties; given = given }) (length new)
laid_there project build given properties nodes new names is made name node found =
    let count : length new ≡ length nodes + length names =
    ap length made ∙ length-append nodes (map (unset_property project) names) ∙ ap (λ n. length nodes + n) (count_map (unset_property project) names) in
    found_below (length new) (is_at (byte_order name)) properties node
    (subst (AreBelow (length new)) (sym is) (named_below (length new) (length nodes) [] names (omega (arith, count)) tt)) found
