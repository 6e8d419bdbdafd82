-- Stored functions by name, in one namespace.
use Rattle.std.specs.Prelude.{ℕ, List, Option, Some, None}
use Rattle.std.specs.FinMap.Entries.{find}
use Rattle.gb_core.specs.Lists.{byte_order}
use Rattle.gb_provider.specs.declared.table.Transform.{Transform}
use Rattle.gb_provider.specs.declared.table.Transform.TheVariants as stored

-- stored functions by name
abbrev pub Table : Type 0 → Type 0 → Type 0 → Type 0 → Type 0
Table M F Z S = List (List ℕ × Transform M F Z S)

module _ {M F Z S : Type 0} where
  abbrev pub as_map : Option (Transform M F Z S) → Option M
  as_map (Some (stored.Map function)) = Some function
  as_map (Some (stored.FlatMap function)) = None
  as_map (Some (stored.Zip function)) = None
  as_map (Some (stored.Test function)) = None
  as_map None = None

  abbrev pub as_flat_map : Option (Transform M F Z S) → Option F
  as_flat_map (Some (stored.Map function)) = None
  as_flat_map (Some (stored.FlatMap function)) = Some function
  as_flat_map (Some (stored.Zip function)) = None
  as_flat_map (Some (stored.Test function)) = None
  as_flat_map None = None

  abbrev pub as_zip : Option (Transform M F Z S) → Option Z
  as_zip (Some (stored.Map function)) = None
  as_zip (Some (stored.FlatMap function)) = None
  as_zip (Some (stored.Zip function)) = Some function
  as_zip (Some (stored.Test function)) = None
  as_zip None = None

  abbrev pub as_test : Option (Transform M F Z S) → Option S
  as_test (Some (stored.Map function)) = None
  as_test (Some (stored.FlatMap function)) = None
  as_test (Some (stored.Zip function)) = None
  as_test (Some (stored.Test function)) = Some function
  as_test None = None

  -- the function of `map` of a name, and so on
  abbrev pub map_named : Table M F Z S → List ℕ → Option M
  map_named table name = as_map (find byte_order name table)

  abbrev pub flat_map_named : Table M F Z S → List ℕ → Option F
  flat_map_named table name = as_flat_map (find byte_order name table)

  abbrev pub zip_named : Table M F Z S → List ℕ → Option Z
  zip_named table name = as_zip (find byte_order name table)

  abbrev pub test_named : Table M F Z S → List ℕ → Option S
  test_named table name = as_test (find byte_order name table)
