-- Operands within the table, as it grows and changes.
use Rattle.std.proofs.Common.{◌≡◌, ℕ, zero, suc, ap, subst, ◌+◌, ◌<◌, ◌≤◌, List, [], ◌∷◌, ◌++◌, length, set, refl, sym, arith, inl, inr, length-append, length-set}
use Rattle.std.specs.Prelude.{All, Option, Some, None, Bool, true, false, Ok, slice_get}
use Rattle.std.proofs.lemmas.Option.{get_or_from_slice_get, slice_get_within}
use Rattle.gb_provider.specs.declared.property_change.Change.{Change}
use Rattle.gb_provider.specs.declared.property_change.Change.TheVariants.{Set, SetFrom, Unset, Convention, Finalize}
use Rattle.gb_provider.specs.declared.expression.Property.{Property}
use Rattle.gb_provider.specs.Changes.{open_property, if_taken, takes, changed, ChangeWithin, AreChanged}
use Rattle.std.proofs.Math.ListN.{get_or-append}
use Rattle.std.proofs.Math.Seq.{get_or-append_seam}
use Rattle.std.proofs.lemmas.Bool.{cases_lt, cases_eq}
use Rattle.std.proofs.lemmas.List.Elements.{All-map}
use Rattle.std.proofs.lemmas.List.{get_or-set_same, get_or-set_other}
use Rattle.gb_provider.specs.declared.expression.Node.{Node}
use Rattle.gb_provider.specs.declared.expression.Setting.{Setting}
use Rattle.gb_provider.specs.declared.expression.Setting.TheVariants.{Held, Followed}
use Rattle.gb_provider.specs.declared.expression.Expression.{Expression}
use Rattle.gb_provider.specs.declared.expression.Expression.TheVariants.{Constant, OfProperty, OfOutput, Listed, Mapped, FlatMapped, Zipped, OrElse}
use Rattle.gb_provider.specs.Rules.{PlaceWithin, SettingWithin, OperandsWithin, numbers_of}
use Rattle.gb_provider.specs.Remembered.{AreWithin}

place_more : (n m : ℕ) → n ≤ m → (place : Option ℕ) → PlaceWithin n place → PlaceWithin m place
place_more n m more None within = tt
place_more n m more (Some place) within = omega (arith, within, more)

setting_more : (n m : ℕ) → n ≤ m → (setting : Option (Setting ℕ)) → SettingWithin n setting → SettingWithin m setting
setting_more n m more None within = tt
setting_more n m more (Some (Held value)) within = tt
setting_more n m more (Some (Followed source)) within = omega (arith, within, more)

module _ {M F Z : Type 0} where
  -- operands within a table are within a longer one
  pub within_more : (n m : ℕ) → n ≤ m → (node : Expression M F Z) → OperandsWithin n node → OperandsWithin m node
  within_more n m more (Constant value) within = tt
  within_more n m more (OfProperty property) within = (setting_more n m more property.setting within.0, place_more n m more property.convention within.1)
  within_more n m more (OfOutput output) within = place_more n m more output.declared within
  within_more n m more (Listed operands) within = λ k d below. let here = within k d below in omega (arith, here, more)
  within_more n m more (Mapped source call) within = omega (arith, within, more)
  within_more n m more (FlatMapped source call) within = omega (arith, within, more)
  within_more n m more (Zipped left right call) within = (omega (arith, within.0, more), omega (arith, within.1, more))
  within_more n m more (OrElse left right) within = (omega (arith, within.0, more), omega (arith, within.1, more))

  -- one more expression whose operands are within
  pub added_within : (nodes : List (Expression M F Z)) (node : Expression M F Z) → AreWithin nodes → OperandsWithin (length nodes) node → AreWithin (nodes ++ node ∷ [])
  added_within nodes node all within k d below =
      let count : length (nodes ++ node ∷ []) ≡ length nodes + 1 = simp length-append refl in
      let more : length nodes ≤ length (nodes ++ node ∷ []) = omega (arith, count) in
      elim (cases_lt k (length nodes)) [
        | inl old ↦ within_more _ _ more _ (rw (get_or-append nodes (node ∷ []) d k old) (all k d old))
        | inr past ↦
            let last : k ≡ length nodes = omega (arith, count) in
            within_more _ _ more _ (rw (last, get_or-append_seam nodes node [] d) within)
      ]

  -- an expression replaced by one whose operands are within
  pub changed_within : (nodes : List (Expression M F Z)) (at : ℕ) (node : Expression M F Z) → AreWithin nodes → OperandsWithin (length nodes) node → AreWithin (set nodes at node)
  changed_within nodes at node all within k d below =
      let count = length-set nodes at node in
      let old : k < length nodes = omega (arith, count, below) in
      elim (cases_eq at k) [
        | inl same ↦ rw count (rw (← same) (rw (get_or-set_same nodes at node d (omega (arith, same, old))) within))
        | inr other ↦ rw count (rw (get_or-set_other nodes at k node d (λ same. other (sym same))) (all k d old))
      ]

-- the numbers of nodes that are within
pub numbers_within : (n : ℕ) (nodes : List Node) → All (λ node. node.number < n) nodes → All (λ number. number < n) (numbers_of nodes)
numbers_within n nodes all = All-map (λ number. number < n) (λ node. node.number) nodes all

module _ {X : Type 0} where
  -- the second of two writes to one place remains
  pub set_twice : (xs : List X) (at : ℕ) (x y : X) → set (set xs at x) at y ≡ set xs at y
  set_twice [] at x y = refl
  set_twice (z ∷ xs) zero x y = refl
  set_twice (z ∷ xs) (suc at) x y = ap (λ rest. z ∷ rest) (set_twice xs at x y)

-- the operands of a property are among the first n expressions
abbrev PropertyWithin : ℕ → Property → Type 0
PropertyWithin n property = SettingWithin n property.setting × PlaceWithin n property.convention

taken_same : (found property : Property) (b : Bool) → if_taken found b ≡ Some property → found ≡ property
taken_same found property true is = cc
taken_same found property false is = cc

module _ {M F Z : Type 0} (n : ℕ) (change : Change) where
  -- the operands of a property that accepts a change
  pub open_within : (o : Option (Expression M F Z)) → ((node : Expression M F Z) → o ≡ Some node → OperandsWithin n node) → (property : Property) → open_property change o ≡ Some property → PropertyWithin n property
  open_within None all property is = cc
  open_within (Some (Constant value)) all property is = cc
  open_within (Some (OfProperty found)) all property is =
      subst (PropertyWithin n) (taken_same found property (takes change found.is_final) is) (all (OfProperty found) refl)
  open_within (Some (OfOutput output)) all property is = cc
  open_within (Some (Listed operands)) all property is = cc
  open_within (Some (Mapped source call)) all property is = cc
  open_within (Some (FlatMapped source call)) all property is = cc
  open_within (Some (Zipped left right call)) all property is = cc
  open_within (Some (OrElse left right)) all property is = cc

changed_property : (n : ℕ) (change : Change) (property : Property) → ChangeWithin n change → PropertyWithin n property → PropertyWithin n (changed change property)
changed_property n (Set value) property change within = (tt, within.1)
changed_property n (SetFrom source) property change within = (change, within.1)
changed_property n Unset property change within = (tt, within.1)
changed_property n (Convention source) property change within = (within.0, change)
changed_property n Finalize property change within = within

-- a change keeps the operands within
pub all_changed_within : {M F Z : Type 0} (nodes : List (Expression M F Z)) (at : ℕ) (change : Change) (new : List (Expression M F Z)) (done : Unit {0}) → AreWithin nodes → ChangeWithin (length nodes) change
    → AreChanged change nodes at new (Ok done) → AreWithin new
all_changed_within nodes at change new done all within made =
    let found = open_within (length nodes) change (slice_get nodes at) (λ node is. subst (OperandsWithin (length nodes)) (get_or_from_slice_get nodes at node node is) (all at node (slice_get_within nodes at node is))) made.0 made.1 in
    subst AreWithin (sym made.2) (changed_within nodes at (OfProperty (changed change made.0)) all (changed_property (length nodes) change made.0 within found))
