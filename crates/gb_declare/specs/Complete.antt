-- A table that contains everything that the scripts declare.
use Rattle.std.specs.Prelude.{◌≡◌, ℕ, ◌<◌, true, false, All, List, length, map, Some, slice_get}
use Rattle.gb_provider.specs.Rules.{OperandsWithin, output_place}
use Rattle.gb_provider.specs.declared.expression.Expression.{Expression}
use Rattle.gb_provider.specs.declared.expression.Node.{Node}
use Rattle.gb_provider.specs.declared.fault.Chosen.{Chosen}
use Rattle.gb_registry.specs.Projects.{Path}
use Rattle.gb_registry.specs.Source.{Source}
use Rattle.gb_registry.specs.Tables.{Tables}
use Rattle.gb_script.specs.Tree.{Tree}
use Rattle.gb_declare.specs.Circles.{is_named}
use Rattle.gb_declare.specs.Joined.{Joined}
use Rattle.gb_declare.specs.Partly.{IsPartOf}
use Rattle.gb_declare.specs.Spots.{spot_of}
use Rattle.gb_declare.specs.Whole.{number_of, spots, trees_of, whole}

module _ {M F Z S A : Type 0} (tables : Tables M F Z S A) (source : Source) where
  -- the number of an expression of a project in the whole table
  abbrev pub place_in_whole : Path → Tree → ℕ
  place_in_whole project tree = number_of tables source (spots tables source) (spot_of project tree)

  module _ (number : ℕ → ℕ) (nodes : List (Expression M F Z)) where
    -- Expressions that are a part of the whole table, by these numbers: properties and outputs occur once,
    -- any other expression comes after its operands.
    pub record IsLaidOut : Type 0 where
      pub part : IsPartOf number nodes (whole tables source)
      pub once : (x y : ℕ) → is_named (slice_get nodes x) ≡ true → y < length nodes → number x ≡ number y
          → x ≡ y
      pub following : (x : ℕ) (e : Expression M F Z) → slice_get nodes x ≡ Some e → is_named (Some e) ≡ false
          → OperandsWithin x e

    -- The table contains everything that the scripts declare, including each output.
    pub record IsComplete : Type 0 where
      pub laid : IsLaidOut
      pub placed : (chosen : Chosen) (k : ℕ) → output_place (whole tables source) chosen ≡ Some k
          → (j : ℕ) × (output_place nodes chosen ≡ Some j)

    -- the nodes of a task's expressions, in the order in which they are evaluated
    pub record IsRowOf (project : Path) (task : Joined) (row : List Node) : Type 0 where
      pub within : All (λ node. node.number < length nodes) row
      pub numbers : map (λ node. number node.number) row ≡ map (place_in_whole project) (trees_of task)
