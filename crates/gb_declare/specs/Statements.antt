-- The effect of the statements of a script on the properties of its project.
use Rattle.std.specs.Prelude.{◌≡◌, ℕ, List, [], ◌∷◌, ◌++◌, ◌+◌, length, map, ◌≤◌, false, Option, Some}
use Rattle.std.specs.Prelude.{None, slice_get, slice_set}
use Rattle.std.specs.BTreeMap.{insert_entry}
use Rattle.gb_core.specs.Lists.{byte_order}
use Rattle.gb_provider.specs.declared.expression.Node.{Node}
use Rattle.gb_provider.specs.Answers.{Held}
use Rattle.gb_provider.specs.Changes.{open_property, changed}
use Rattle.gb_provider.specs.declared.property_change.Change.{Change}
use Rattle.gb_provider.specs.declared.property_change.Change.TheVariants.{SetFrom, Unset}
use Rattle.gb_provider.specs.declared.property_change.Change.TheVariants.{Convention, Finalize}
use Rattle.gb_provider.specs.declared.expression.Expression.{Expression}
use Rattle.gb_provider.specs.declared.expression.Expression.TheVariants.{OfProperty}
use Rattle.gb_provider.specs.declared.expression.Property.{Property}
use Rattle.gb_provider.specs.Meanings.{Meanings}
use Rattle.gb_provider.specs.Table.{Table}
use Rattle.gb_report.specs.declared.fault.Fault.{Fault}
use Rattle.gb_report.specs.declared.fault.Fault.TheVariants as faults
use Rattle.gb_registry.specs.Projects.{Path}
use Rattle.gb_script.specs.declared.script.Statement.{Statement}
use Rattle.gb_script.specs.declared.script.Statement.TheVariants as statements
use Rattle.gb_declare.specs.Nodes.{Made, tree_made, number_in}
use Rattle.gb_declare.specs.Site.{Site, property_node}
use Rattle.gb_declare.specs.Wrong.{known_faults, making_faults}

-- ---- Properties

-- a property that nothing sets yet
abbrev pub unset_property : {M F Z : Type 0} → Path → List ℕ → Expression M F Z
unset_property project name =
    OfProperty (record {
      project = project;
      name = name;
      setting = None;
      convention = None;
      is_final = false;
    })

-- properties of these names after other expressions
abbrev pub properties_made : {M F Z : Type 0} → Path → List (Expression M F Z) → List (List ℕ)
    → List (Expression M F Z)
properties_made project nodes names = nodes ++ map (unset_property project) names

-- the nodes of names, numbered from one number on, with those of other names; the last of each name
abbrev pub named_from : ℕ → List (List ℕ × Node) → List (List ℕ) → List (List ℕ × Node)
named_from n there [] = there
named_from n there (name ∷ names) =
    named_from (n + 1) (insert_entry byte_order there name (record { number = n })) names

-- ---- Changes

module _ {M F Z : Type 0} where
  -- the property, if there is one that accepts the change, is changed at its position
  abbrev pub with_property : Change → List (Expression M F Z) → ℕ → Option Property → List (Expression M F Z)
  with_property change nodes place None = nodes
  with_property change nodes place (Some property) =
      slice_set nodes place (OfProperty (changed change property))

  abbrev pub with_change : Change → List (Expression M F Z) → ℕ → List (Expression M F Z)
  with_change change nodes place =
      with_property change nodes place (open_property change (slice_get nodes place))

-- the property accepts no more changes
abbrev pub final_faults : List ℕ → Option Property → List Fault
final_faults name None = faults.Final name ∷ []
final_faults name (Some property) = []

abbrev pub change_faults : {M F Z : Type 0} → Change → List (Expression M F Z) → ℕ → List ℕ → List Fault
change_faults change nodes place name = final_faults name (open_property change (slice_get nodes place))

-- ---- Statements

module _ {M F Z S : Type 0} (functions : Table M F Z S) (site : Site) where
  abbrev pub place_of : List ℕ → ℕ
  place_of name = number_in (property_node site name)

  -- an expression is made before the property that follows it is changed
  abbrev pub set_made : List ℕ → Made M F Z ℕ → List (Expression M F Z)
  set_made name made = with_change (SetFrom made.place) made.nodes (place_of name)

  abbrev pub convention_made : List ℕ → Made M F Z ℕ → List (Expression M F Z)
  convention_made name made = with_change (Convention made.place) made.nodes (place_of name)

  -- All expressions after a statement.
  abbrev pub statement_made : List (Expression M F Z) → Statement → List (Expression M F Z)
  statement_made nodes (statements.Set a) = set_made a.name (tree_made functions site nodes a.value)
  statement_made nodes (statements.Convention a) =
      convention_made a.name (tree_made functions site nodes a.value)
  statement_made nodes (statements.Unset name) = with_change Unset nodes (place_of name)
  statement_made nodes (statements.DisallowChanges name) = with_change Finalize nodes (place_of name)
  statement_made nodes other = nodes

  -- after the statements, one after another
  abbrev pub statements_made : List (Expression M F Z) → List Statement → List (Expression M F Z)
  statements_made nodes [] = nodes
  statements_made nodes (s ∷ ss) = statements_made (statement_made nodes s) ss

module _ {M F Z S : Type 0} (means : Meanings M F Z S) (functions : Table M F Z S) (site : Site) where
  -- no node of that name, and then that the property is final
  abbrev pub property_faults : Change → List (Expression M F Z) → List ℕ → List Fault
  property_faults change nodes name =
      known_faults name (property_node site name)
      ++ change_faults change nodes (place_of functions site name) name

  -- the faults of a statement, in the order in which it is made
  abbrev pub statement_faults : List (Expression M F Z) → Statement → List Fault
  statement_faults nodes (statements.Set a) =
      let made = tree_made functions site nodes a.value in
      making_faults means functions site a.value ++ property_faults (SetFrom made.place) made.nodes a.name
  statement_faults nodes (statements.Convention a) =
      let made = tree_made functions site nodes a.value in
      making_faults means functions site a.value ++ property_faults (Convention made.place) made.nodes a.name
  statement_faults nodes (statements.Unset name) = property_faults Unset nodes name
  statement_faults nodes (statements.DisallowChanges name) = property_faults Finalize nodes name
  statement_faults nodes other = []

  abbrev pub statements_faults : List (Expression M F Z) → List Statement → List Fault
  statements_faults nodes [] = []
  statements_faults nodes (s ∷ ss) =
      statement_faults nodes s ++ statements_faults (statement_made functions site nodes s) ss

-- the effect of a call on providers: the table of functions is unchanged, and these are the expressions
pub record IsRun {M F Z S : Type 0} (old new : Held M F Z S) (nodes : List (Expression M F Z)) : Type 0 where
  pub table : new.table ≡ old.table
  pub made : new.nodes ≡ nodes
  pub grown : length old.nodes ≤ length new.nodes
