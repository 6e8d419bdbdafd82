-- What scripts may name: the functions of values and the kinds of actions.
use Rattle.std.specs.Prelude.{ℕ, List}
use Rattle.gb_action.specs.Meanings as of_actions
use Rattle.gb_provider.specs.Meanings as of_functions
use Rattle.gb_provider.specs.Table.{Table}
use Rattle.gb_registry.specs.declared.tables.Tables as handed

-- stored functions and actions by name, and their meanings
pub record Tables (M F Z S A : Type 0) : Type 0 where
  pub functions : Table M F Z S
  pub means : of_functions.Meanings M F Z S
  pub kinds : List (List ℕ × A)
  pub shapes : of_actions.Meanings A

-- those that a program passes in
abbrev pub tables_of : {N U M F Z S A : Type 0} → of_functions.Meanings M F Z S → of_actions.Meanings A
    → handed.Tables N U A M F Z S → Tables M F Z S A
tables_of means shapes tables =
    record { functions = tables.transforms; means = means; kinds = tables.actions; shapes = shapes }
