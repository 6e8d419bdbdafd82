-- The positions of expressions in the whole table.
use Rattle.std.specs.Prelude.{◌≡◌, ℕ, List, Some, slice_get}
use Rattle.gb_script.specs.Tree.{Root, Link}
use Rattle.gb_registry.specs.Projects.{Path}
use Rattle.gb_registry.specs.Source.{Source}
use Rattle.gb_declare.specs.Spots.{Written}
use Rattle.gb_registry.specs.Tables.{Tables}
use Rattle.gb_declare.specs.Whole.{spots, number_of, expression_at, whole}

-- An expression of the scripts is in the whole table, under its number.
abbrev pub ExpressionsInTable : {M F Z S A : Type 0} → Tables M F Z S A → Source → Type 0
ExpressionsInTable tables source = (project : Path) (root : Root) (steps : List Link) (place : ℕ) →
    slice_get (spots tables source) place ≡ Some (Written project root steps) →
    slice_get (whole tables source)
    (number_of tables source (spots tables source) (Written project root steps))
    ≡ Some (expression_at tables source (spots tables source) (Written project root steps))
