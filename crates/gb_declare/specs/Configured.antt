-- The configuration of a workspace. What it has declared since then does not affect any result.
use Rattle.std.specs.Prelude.{ℕ, List}
use Rattle.gb_action.specs.Meanings as of_actions
use Rattle.gb_provider.specs.Meanings as of_functions
use Rattle.gb_provider.specs.Table.{Table}
use Rattle.gb_registry.specs.declared.tables.Tables as handed
use Rattle.gb_registry.specs.Source.{Source}
use Rattle.gb_registry.specs.Tables.{Tables}

-- stored functions and actions by name, and the contents of scripts and the command line
pub record Configured (M F Z S A : Type 0) : Type 0 where
  pub functions : Table M F Z S
  pub kinds : List (List ℕ × A)
  pub source : Source

-- the configuration of the tables that a program passes in
abbrev pub configured : {N U M F Z S A : Type 0} → handed.Tables N U A M F Z S → Source
    → Configured M F Z S A
configured tables source = record { functions = tables.transforms; kinds = tables.actions; source = source }

module _ {M F Z S A : Type 0} where
  abbrev pub tables_in : of_functions.Meanings M F Z S → of_actions.Meanings A → Configured M F Z S A
      → Tables M F Z S A
  tables_in means shapes w =
      record { functions = w.functions; means = means; kinds = w.kinds; shapes = shapes }
