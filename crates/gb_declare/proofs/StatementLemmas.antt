-- A statement preserves what is in the table.
use Rattle.std.proofs.Common.{◌≡◌, ℕ, ◌<◌, Bool, true, false, cond, not, ◌||◌, List, [], ◌∷◌, ◌++◌, length, get_or, refl, sym, ap, subst, ◌∙◌, Option, Some, None}
use Rattle.std.proofs.lemmas.Option.{get_or_from_slice_get, slice_get-get_or, slice_get_within}
use Rattle.std.specs.Prelude.{bytes_eq, filter_map, fold, option_map, slice_get, slice_set}
use Rattle.std.specs.List.{AllByRecursion, list_any}
use Rattle.gb_provider.specs.Changes.{ChangeWithin, changed, open_property, takes, if_taken}
use Rattle.gb_provider.specs.Rules.{OperandsWithin, PlaceWithin, SettingWithin}
use Rattle.gb_provider.specs.declared.property_change.Change.{Change}
use Rattle.gb_provider.specs.declared.property_change.Change.TheVariants.{Set, SetFrom, Unset, Convention, Finalize}
use Rattle.gb_provider.specs.declared.expression.Expression.{Expression}
use Rattle.gb_provider.specs.declared.expression.Expression.TheVariants.{Constant, OfProperty, OfOutput, Listed, Mapped, FlatMapped, Zipped, OrElse}
use Rattle.gb_provider.specs.declared.expression.Node.{Node}
use Rattle.gb_provider.specs.declared.expression.Property.{Property}
use Rattle.gb_provider.specs.declared.expression.Setting.TheVariants.{Followed}
use Rattle.gb_registry.specs.Configure as configured
use Rattle.gb_registry.specs.Configure.{finalizes, statement_scope}
use Rattle.gb_registry.specs.Projects.{is_among}
use Rattle.gb_registry.specs.Said.{Said, convention_after, declared_property, properties_of, script_of, set_after}
use Rattle.gb_registry.specs.Source.{Source}
use Rattle.gb_registry.specs.Tables.{Tables}
use Rattle.gb_registry.specs.Wrong as reported
use Rattle.gb_script.specs.Tree.{Tree, PropertyOf}
use Rattle.gb_script.specs.declared.script.Assignment.{Assignment}
use Rattle.gb_script.specs.declared.script.Statement.{Statement}
use Rattle.gb_script.specs.declared.script.Statement.TheVariants as statements
use Rattle.gb_declare.specs.Partly.{IsPartOf, renamed, renamed_setting}
use Rattle.gb_declare.specs.Spots.{Spot, Written, parts}
use Rattle.gb_declare.specs.Whole.{statement_spots}
use Rattle.gb_declare.specs.Nodes.{Made, number_in, tree_made}
use Rattle.gb_declare.specs.Site.{Site, property_node}
use Rattle.gb_declare.specs.Statements.{change_faults, final_faults, property_faults, statement_faults, statement_made, with_change, with_property}
use Rattle.gb_declare.specs.Wrong.{known_faults, making_faults}
use Rattle.gb_declare.proofs.FoundLemmas.{HasNodesOf, among_if_none, made_good, nil_both}
use Rattle.gb_declare.proofs.GrownLemmas.{all_prefix, trees_grow_so}
use Rattle.gb_registry.proofs.Fine.{nil_back, nil_prefix}
use Rattle.gb_declare.proofs.PlacedLemmas.{IsAmong, parts_in_table, written_exists}
use Rattle.gb_declare.proofs.SaidLemmas.{IsUntouched, after, bytes_distinct, more, place, property_after, property_more, property_with, same_bytes, says, script_more, table_after}
use Rattle.gb_declare.proofs.StageLemmas.{IsSite, IsStage, IsStepped, IsTreeStepped, changed_steps, grown_steps, left_steps, site_moves, then_stepped}

-- ---- Properties under other numbers

abbrev renamed_in : (ℕ → ℕ) → Property → Property
renamed_in number property = record property { setting = option_map (renamed_setting number) property.setting; convention = option_map number property.convention }

same_property : (p q : Property) → p.project ≡ q.project → p.name ≡ q.name → p.setting ≡ q.setting → p.convention ≡ q.convention → p.is_final ≡ q.is_final → p ≡ q
same_property p q project name setting convention final =
    ap (λ x. record { project = x; name = p.name; setting = p.setting; convention = p.convention; is_final = p.is_final }) project
    ∙ ap (λ x. record { project = q.project; name = x; setting = p.setting; convention = p.convention; is_final = p.is_final }) name
    ∙ ap (λ x. record { project = q.project; name = q.name; setting = x; convention = p.convention; is_final = p.is_final }) setting
    ∙ ap (λ x. record { project = q.project; name = q.name; setting = q.setting; convention = x; is_final = p.is_final }) convention
    ∙ ap (λ x. record { project = q.project; name = q.name; setting = q.setting; convention = q.convention; is_final = x }) final

module _ {M F Z : Type 0} where
  from_renamed : (number : ℕ → ℕ) (e : Expression M F Z) (p : Property) → renamed number e ≡ OfProperty p → (old : Property) × (e ≡ OfProperty old) × (renamed_in number old ≡ p)
  from_renamed number (OfProperty old) p is = let same : renamed_in number old ≡ p = cc in (old, refl, same)
  from_renamed number (Constant value) p is = absurd (cc)
  from_renamed number (OfOutput output) p is = absurd (cc)
  from_renamed number (Listed operands) p is = absurd (cc)
  from_renamed number (Mapped from call) p is = absurd (cc)
  from_renamed number (FlatMapped from call) p is = absurd (cc)
  from_renamed number (Zipped left right call) p is = absurd (cc)
  from_renamed number (OrElse left right) p is = absurd (cc)

  -- the node holds a property, which under other numbers is this one
  record IsHeldAs (number : ℕ → ℕ) (nodes : List (Expression M F Z)) (p : Property) (at : ℕ) : Type 0 where
    pub old : Property
    pub exists : slice_get nodes at ≡ Some (OfProperty old)
    pub is : renamed_in number old ≡ p

  held_as : (number : ℕ → ℕ) (nodes : List (Expression M F Z)) (p : Property) (at : ℕ) (e : Expression M F Z) → slice_get nodes at ≡ Some e → Some (renamed number e) ≡ Some (OfProperty p) → IsHeldAs number nodes p at
  held_as number nodes p at e exists whole =
      let same : renamed number e ≡ OfProperty p = cc in
      let found = from_renamed number e p same in
      record { old = found.0; exists = exists ∙ ap Some found.1; is = found.2 }

  -- what is below the length is in the whole
  below_held : (number : ℕ → ℕ) (nodes whole : List (Expression M F Z)) → IsPartOf number nodes whole → (at : ℕ) → at < length nodes
      → (e : Expression M F Z) × (slice_get nodes at ≡ Some e) × (slice_get whole (number at) ≡ Some (renamed number e))
  below_held number nodes whole part at below =
      let exists = slice_get-get_or nodes at (Constant None) below in
      (get_or nodes at (Constant None), exists, part.copied at (get_or nodes at (Constant None)) exists)

  -- ---- A change of a property that takes it

  open_is : (change : Change) (nodes : List (Expression M F Z)) (at : ℕ) (old : Property) → slice_get nodes at ≡ Some (OfProperty old) → takes change old.is_final ≡ true
      → open_property change (slice_get nodes at) ≡ Some old
  open_is change nodes at old exists taken = ap (open_property change) exists ∙ ap (if_taken old) taken

  change_made : (change : Change) (nodes : List (Expression M F Z)) (at : ℕ) (old : Property) → slice_get nodes at ≡ Some (OfProperty old) → takes change old.is_final ≡ true
      → with_change change nodes at ≡ slice_set nodes at (OfProperty (changed change old))
  change_made change nodes at old exists taken = ap (with_property change nodes at) (open_is change nodes at old exists taken)

-- the operands of a property are among the first n
abbrev AreOperands : ℕ → Property → Type 0
AreOperands n property = SettingWithin n property.setting × PlaceWithin n property.convention

operands_changed : (n : ℕ) (change : Change) (old : Property) → ChangeWithin n change → AreOperands n old → AreOperands n (changed change old)
operands_changed n (Set value) old within operands = (tt, operands.1)
operands_changed n (SetFrom from) old within operands = (within, operands.1)
operands_changed n Unset old within operands = (tt, operands.1)
operands_changed n (Convention from) old within operands = (operands.0, within)
operands_changed n Finalize old within operands = operands

same_project : (change : Change) (old : Property) → (changed change old).project ≡ old.project
same_project (Set value) old = refl
same_project (SetFrom from) old = refl
same_project Unset old = refl
same_project (Convention from) old = refl
same_project Finalize old = refl

same_name : (change : Change) (old : Property) → (changed change old).name ≡ old.name
same_name (Set value) old = refl
same_name (SetFrom from) old = refl
same_name Unset old = refl
same_name (Convention from) old = refl
same_name Finalize old = refl

not_final : {X : Type 0} (b : Bool) (x : X) → cond b (x ∷ []) [] ≡ [] → b ≡ false
not_final true x none = absurd (cc)
not_final false x none = refl

module _ {M F Z S A : Type 0} (tables : Tables M F Z S A) (source : Source) (all : List Spot) (site : Site) where
  -- a property of the project: its node, and that its declaration is one of all expressions
  pub record IsKnown (name : List ℕ) : Type 0 where
    pub node : Node
    pub found : property_node site name ≡ Some node
    pub among : IsAmong all (Written site.project (PropertyOf name) [])

  module _ (done : List Said) (number : ℕ → ℕ) (nodes : List (Expression M F Z)) (stage : IsStage tables source all done number nodes) (right : IsSite tables source all done number nodes site) where
    abbrev own : List Statement
    own = script_of done site.project

    -- the property at its node
    abbrev IsHeld : List ℕ → ℕ → Type 0
    IsHeld name at = IsHeldAs number nodes (property_after tables source all site.project name own) at

    held : (name : List ℕ) (known : IsKnown name) → IsHeld name known.node.number
    held name known =
        let p = property_after tables source all site.project name own in
        let here = below_held number nodes (table_after tables source all done) stage.part known.node.number (right.there name known.node known.found) in
        held_as number nodes p known.node.number here.0 here.1
        (sym here.2 ∙ ap (slice_get (table_after tables source all done)) (right.named name known.node known.found)
        ∙ written_exists tables (after tables source all done) all site.project (PropertyOf name) [] known.among)

    -- ---- A statement that changes a property

    module _ (statement : Statement) (name : List ℕ) (known : IsKnown name) (change : Change) (within : ChangeWithin (length nodes) change)
        (untouched : (other : List ℕ) → (other ≡ name → ⊥) → IsUntouched other statement) where
      abbrev next : List Said
      next = more tables source all done site.project statement

      abbrev here : IsHeld name known.node.number
      here = held name known

      abbrev new : Property
      new = changed change here.old

      -- as the statement says
      record IsAsSaid : Type 0 where
        pub taken : takes change here.old.is_final ≡ true
        pub set : option_map (renamed_setting number) new.setting ≡ option_map (λ tree. Followed (place tables source all site.project tree)) (set_after name (fold (set_after name) None own) statement)
        pub convention : option_map number new.convention ≡ option_map (λ tree. place tables source all site.project tree) (convention_after name (fold (convention_after name) None own) statement)
        pub final : new.is_final ≡ (list_any (finalizes name) own || (finalizes name statement || false))

      module _ (said : IsAsSaid) where
        new_is : renamed_in number new ≡ property_after tables source all site.project name (script_of next site.project)
        new_is =
            same_property (renamed_in number new)
            (property_with tables source all site.project name (set_after name (fold (set_after name) None own) statement) (convention_after name (fold (convention_after name) None own) statement) (list_any (finalizes name) own || (finalizes name statement || false)))
            (same_project change here.old ∙ ap (λ (p : Property). p.project) here.is) (same_name change here.old ∙ ap (λ (p : Property). p.name) here.is) said.set said.convention said.final
            ∙ sym (property_more tables source all site.project name own statement)
            ∙ ap (property_after tables source all site.project name) (sym (script_more done site.project statement))

        exists_next : slice_get (table_after tables source all next) (number known.node.number) ≡ Some (renamed number (OfProperty new))
        exists_next =
            ap (slice_get (table_after tables source all next)) (right.named name known.node known.found)
            ∙ written_exists tables (after tables source all next) all site.project (PropertyOf name) [] known.among
            ∙ ap (λ p. Some (OfProperty p)) (sym new_is)

        old_within : AreOperands (length nodes) here.old
        old_within =
            let at = known.node.number in
            let e : Expression M F Z = OfProperty here.old in
            subst (OperandsWithin (length nodes)) (get_or_from_slice_get nodes at e e here.exists) (stage.part.within at e (slice_get_within nodes at e here.exists))

        stepped : IsStepped tables source all next number nodes (slice_set nodes known.node.number (OfProperty new))
        stepped =
            changed_steps tables source all done site.project statement number nodes stage known.node.number here.old new here.exists
            (ap (λ (p : Property). p.project) here.is) (same_project change here.old) (same_name change here.old)
            (λ other separate. untouched other (λ same. separate (same ∙ sym (ap (λ (p : Property). p.name) here.is))))
            (operands_changed (length nodes) change here.old within old_within) exists_next

        change_steps : IsStepped tables source all next number nodes (with_change change nodes (number_in (property_node site name)))
        change_steps =
            subst (IsStepped tables source all next number nodes)
            (sym (ap (λ o. with_change change nodes (number_in o)) known.found ∙ change_made change nodes known.node.number here.old here.exists said.taken)) stepped

        change_good : property_faults tables.means tables.functions site change nodes name ≡ []
        change_good =
            nil_both (known_faults name (property_node site name)) (change_faults change nodes (number_in (property_node site name)) name)
            (ap (known_faults name) known.found)
            (ap (λ o. change_faults change nodes (number_in o) name) known.found ∙ ap (final_faults name) (open_is change nodes known.node.number here.old here.exists said.taken))

    -- a property that no statement makes final accepts a change
    is_open : (name : List ℕ) (known : IsKnown name) → list_any (finalizes name) own ≡ false → (held name known).old.is_final ≡ false
    is_open name known none = ap (λ (p : Property). p.is_final) (held name known).is ∙ none

    set_as_said : (name : List ℕ) (known : IsKnown name) → (held name known).old.is_final ≡ list_any (finalizes name) own
    set_as_said name known = ap (λ (p : Property). p.is_final) (held name known).is

-- ---- What statements do not concern

set_untouched : (a : Assignment) (other : List ℕ) → (other ≡ a.name → ⊥) → IsUntouched other (statements.Set a)
set_untouched a other separate = record {
  set = λ before. ap (λ b. cond b (Some a.value) before) (bytes_distinct a.name other (λ same. separate (sym same)));
  convention = λ before. refl;
  final = refl;
}

convention_untouched : (a : Assignment) (other : List ℕ) → (other ≡ a.name → ⊥) → IsUntouched other (statements.Convention a)
convention_untouched a other separate = record {
  set = λ before. refl;
  convention = λ before. ap (λ b. cond b (Some a.value) before) (bytes_distinct a.name other (λ same. separate (sym same)));
  final = refl;
}

unset_untouched : (name other : List ℕ) → (other ≡ name → ⊥) → IsUntouched other (statements.Unset name)
unset_untouched name other separate = record {
  set = λ before. ap (λ b. cond b None before) (bytes_distinct name other (λ same. separate (sym same)));
  convention = λ before. refl;
  final = refl;
}

final_untouched : (name other : List ℕ) → (other ≡ name → ⊥) → IsUntouched other (statements.DisallowChanges name)
final_untouched name other separate = record { set = λ before. refl; convention = λ before. refl; final = bytes_distinct other name separate }

or_none : (b : Bool) → (b || (false || false)) ≡ b
or_none true = refl
or_none false = refl

or_so : (b c : Bool) → c ≡ true → (b || (c || false)) ≡ true
or_so true c is = refl
or_so false c is = ap (λ d. d || false) is

-- ---- Statements

module _ {M F Z S A : Type 0} (tables : Tables M F Z S A) (source : Source) (all : List Spot) (site : Site) (done : List Said) where
  -- the result of a statement, and that it is made without a fault
  pub record IsDone (statement : Statement) (number : ℕ → ℕ) (nodes : List (Expression M F Z)) : Type 0 where
    pub steps : IsStepped tables source all (done ++ says site.project statement ∷ []) number nodes (statement_made tables.functions site nodes statement)
    pub good : statement_faults tables.means tables.functions site nodes statement ≡ []

  -- the properties that are declared so far are known
  abbrev AreKnown : Type 0
  AreKnown = (name : List ℕ) → is_among (properties_of done site.project) name ≡ true → IsKnown tables source all site name

  module _ (number : ℕ → ℕ) (nodes : List (Expression M F Z)) (stage : IsStage tables source all done number nodes) (right : IsSite tables source all done number nodes site) (knows : AreKnown) where
    abbrev own_script : List Statement
    own_script = script_of done site.project

    unset_done : (name : List ℕ) → configured.change_faults own_script name ≡ [] → IsDone (statements.Unset name) number nodes
    unset_done name none =
        let known = knows name (among_if_none (is_among (filter_map declared_property own_script) name) _ (nil_prefix (reported.property_faults (filter_map declared_property own_script) name) _ none)) in
        let free = not_final (list_any (finalizes name) own_script) _ (nil_back (reported.property_faults (filter_map declared_property own_script) name) _ none) in
        let h = held tables source all site done number nodes stage right name known in
        let untouched = unset_untouched name in
        let said : IsAsSaid tables source all site done number nodes stage right (statements.Unset name) name known Unset tt untouched = record {
          taken = ap not (is_open tables source all site done number nodes stage right name known free);
          set = ap (λ b. option_map (λ tree. Followed (place tables source all site.project tree)) (cond b None (fold (set_after name) None own_script))) (sym (same_bytes name));
          convention = ap (λ (p : Property). p.convention) h.is;
          final = set_as_said tables source all site done number nodes stage right name known ∙ sym (or_none (list_any (finalizes name) own_script));
        } in
        record {
          steps = change_steps tables source all site done number nodes stage right (statements.Unset name) name known Unset tt untouched said;
          good = change_good tables source all site done number nodes stage right (statements.Unset name) name known Unset tt untouched said;
        }

    final_done : (name : List ℕ) → reported.property_faults (filter_map declared_property own_script) name ≡ [] → IsDone (statements.DisallowChanges name) number nodes
    final_done name none =
        let known = knows name (among_if_none (is_among (filter_map declared_property own_script) name) _ none) in
        let h = held tables source all site done number nodes stage right name known in
        let untouched = final_untouched name in
        let said : IsAsSaid tables source all site done number nodes stage right (statements.DisallowChanges name) name known Finalize tt untouched = record {
          taken = refl;
          set = ap (λ (p : Property). p.setting) h.is;
          convention = ap (λ (p : Property). p.convention) h.is;
          final = sym (or_so (list_any (finalizes name) own_script) (bytes_eq name name) (same_bytes name));
        } in
        record {
          steps = change_steps tables source all site done number nodes stage right (statements.DisallowChanges name) name known Finalize tt untouched said;
          good = change_good tables source all site done number nodes stage right (statements.DisallowChanges name) name known Finalize tt untouched said;
        }

    -- ---- An expression, and then a change

    module _ (tree : Tree) (fine : reported.tree_faults tables (statement_scope done site.project) tree ≡ []) (among : AllByRecursion (IsAmong all) (parts site.project tree)) where
      abbrev made : Made M F Z ℕ
      made = tree_made tables.functions site nodes tree

      nodes_of : HasNodesOf site (properties_of done site.project)
      nodes_of name is = let known = knows name is in (known.node, known.found)

      tree_good : making_faults tables.means tables.functions site tree ≡ []
      tree_good = made_good tables site (statement_scope done site.project) refl (λ text none. none) nodes_of tree fine

      tree_steps : IsTreeStepped tables source all done number nodes (place tables source all site.project tree) made
      tree_steps =
          grown_steps tables source all done number nodes stage (place tables source all site.project tree) made
          (trees_grow_so tables (after tables source all done) all (table_after tables source all done) number nodes site tree stage.part right
          (parts_in_table tables (after tables source all done) all site.project tree among) tree_good)

      tree_right : IsSite tables source all done tree_steps.steps.numbers made.nodes site
      tree_right = site_moves tables source all done done number tree_steps.steps.numbers nodes made.nodes site tree_steps.steps.agrees tree_steps.steps.longer right

      module _ (name : List ℕ) (none : configured.change_faults own_script name ≡ []) where
        known_here : IsKnown tables source all site name
        known_here = knows name (among_if_none (is_among (filter_map declared_property own_script) name) _ (nil_prefix (reported.property_faults (filter_map declared_property own_script) name) _ none))

        free_here : list_any (finalizes name) own_script ≡ false
        free_here = not_final (list_any (finalizes name) own_script) _ (nil_back (reported.property_faults (filter_map declared_property own_script) name) _ none)

    set_done : (a : Assignment) → configured.change_faults own_script a.name ≡ [] → reported.tree_faults tables (statement_scope done site.project) a.value ≡ [] → AllByRecursion (IsAmong all) (parts site.project a.value)
        → IsDone (statements.Set a) number nodes
    set_done a none fine among =
        let statement = statements.Set a in
        let next = more tables source all done site.project statement in
        let mid = made a.value fine among in
        let grown = tree_steps a.value fine among in
        let mid_stage = grown.steps.stage in
        let mid_right = tree_right a.value fine among in
        let known = known_here a.value fine among a.name none in
        let h = held tables source all site done grown.steps.numbers mid.nodes mid_stage mid_right a.name known in
        let change = SetFrom mid.place in
        let said : IsAsSaid tables source all site done grown.steps.numbers mid.nodes mid_stage mid_right statement a.name known change grown.within (set_untouched a) = record {
          taken = ap not (is_open tables source all site done grown.steps.numbers mid.nodes mid_stage mid_right a.name known (free_here a.value fine among a.name none));
          set = ap (λ k. Some (Followed k)) grown.exists ∙ ap (λ b. option_map (λ tree. Followed (place tables source all site.project tree)) (cond b (Some a.value) (fold (set_after a.name) None own_script))) (sym (same_bytes a.name));
          convention = ap (λ (p : Property). p.convention) h.is;
          final = set_as_said tables source all site done grown.steps.numbers mid.nodes mid_stage mid_right a.name known ∙ sym (or_none (list_any (finalizes a.name) own_script));
        } in
        record {
          steps = then_stepped tables source all done next number nodes mid.nodes (with_change change mid.nodes (number_in (property_node site a.name))) grown.steps
              (change_steps tables source all site done grown.steps.numbers mid.nodes mid_stage mid_right statement a.name known change grown.within (set_untouched a) said);
          good = nil_both (making_faults tables.means tables.functions site a.value) (property_faults tables.means tables.functions site change mid.nodes a.name) (tree_good a.value fine among)
              (change_good tables source all site done grown.steps.numbers mid.nodes mid_stage mid_right statement a.name known change grown.within (set_untouched a) said);
        }

    convention_done : (a : Assignment) → configured.change_faults own_script a.name ≡ [] → reported.tree_faults tables (statement_scope done site.project) a.value ≡ [] → AllByRecursion (IsAmong all) (parts site.project a.value)
        → IsDone (statements.Convention a) number nodes
    convention_done a none fine among =
        let statement = statements.Convention a in
        let next = more tables source all done site.project statement in
        let mid = made a.value fine among in
        let grown = tree_steps a.value fine among in
        let mid_stage = grown.steps.stage in
        let mid_right = tree_right a.value fine among in
        let known = known_here a.value fine among a.name none in
        let h = held tables source all site done grown.steps.numbers mid.nodes mid_stage mid_right a.name known in
        let change = Convention mid.place in
        let said : IsAsSaid tables source all site done grown.steps.numbers mid.nodes mid_stage mid_right statement a.name known change grown.within (convention_untouched a) = record {
          taken = ap not (is_open tables source all site done grown.steps.numbers mid.nodes mid_stage mid_right a.name known (free_here a.value fine among a.name none));
          set = ap (λ (p : Property). p.setting) h.is;
          convention = ap Some grown.exists ∙ ap (λ b. option_map (λ tree. place tables source all site.project tree) (cond b (Some a.value) (fold (convention_after a.name) None own_script))) (sym (same_bytes a.name));
          final = set_as_said tables source all site done grown.steps.numbers mid.nodes mid_stage mid_right a.name known ∙ sym (or_none (list_any (finalizes a.name) own_script));
        } in
        record {
          steps = then_stepped tables source all done next number nodes mid.nodes (with_change change mid.nodes (number_in (property_node site a.name))) grown.steps
              (change_steps tables source all site done grown.steps.numbers mid.nodes mid_stage mid_right statement a.name known change grown.within (convention_untouched a) said);
          good = nil_both (making_faults tables.means tables.functions site a.value) (property_faults tables.means tables.functions site change mid.nodes a.name) (tree_good a.value fine among)
              (change_good tables source all site done grown.steps.numbers mid.nodes mid_stage mid_right statement a.name known change grown.within (convention_untouched a) said);
        }

    -- a statement that concerns no properties
    left_done : (statement : Statement) → ((name : List ℕ) → IsUntouched name statement) → statement_made tables.functions site nodes statement ≡ nodes
        → statement_faults tables.means tables.functions site nodes statement ≡ [] → IsDone statement number nodes
    left_done statement untouched same good = record {
      steps = subst (IsStepped tables source all (done ++ says site.project statement ∷ []) number nodes) (sym same) (left_steps tables source all done site.project statement number nodes stage untouched);
      good = good;
    }

    plain_untouched : (statement : Statement) → ((name : List ℕ) (before : Option Tree) → set_after name before statement ≡ before) → ((name : List ℕ) (before : Option Tree) → convention_after name before statement ≡ before)
        → ((name : List ℕ) → finalizes name statement ≡ false) → (name : List ℕ) → IsUntouched name statement
    plain_untouched statement set convention final name = record { set = set name; convention = convention name; final = final name }

    pub statement_done : (statement : Statement) → configured.statement_faults tables done (says site.project statement) ≡ [] → AllByRecursion (IsAmong all) (statement_spots (says site.project statement))
        → IsDone statement number nodes
    statement_done (statements.Set a) none among =
        set_done a (nil_prefix (configured.change_faults own_script a.name) _ none) (nil_back (configured.change_faults own_script a.name) _ none) (all_prefix (IsAmong all) (parts site.project a.value) [] among)
    statement_done (statements.Convention a) none among =
        convention_done a (nil_prefix (configured.change_faults own_script a.name) _ none) (nil_back (configured.change_faults own_script a.name) _ none) (all_prefix (IsAmong all) (parts site.project a.value) [] among)
    statement_done (statements.Unset name) none among = unset_done name none
    statement_done (statements.DisallowChanges name) none among = final_done name none
    statement_done (statements.Property name) none among = left_done (statements.Property name) (plain_untouched (statements.Property name) (λ n b. refl) (λ n b. refl) (λ n. refl)) refl refl
    statement_done (statements.DefaultTasks texts) none among = left_done (statements.DefaultTasks texts) (plain_untouched (statements.DefaultTasks texts) (λ n b. refl) (λ n b. refl) (λ n. refl)) refl refl
    statement_done (statements.Register r) none among = left_done (statements.Register r) (plain_untouched (statements.Register r) (λ n b. refl) (λ n b. refl) (λ n. refl)) refl refl
    statement_done (statements.Named c) none among = left_done (statements.Named c) (plain_untouched (statements.Named c) (λ n b. refl) (λ n b. refl) (λ n. refl)) refl refl
