-- A workspace: the contents of scripts, with the tables that they may name.
use Rattle.std.specs.Prelude.{◌≡◌}
use Rattle.gb_registry.specs.Said.{paths_of}
use Rattle.gb_registry.specs.Source.{Source}
use Rattle.gb_registry.specs.Tables.{Tables}
use Rattle.gb_registry.specs.declared.tables.Tables as handed
use Rattle.gb_project.specs.Kept.{AreDeclared}
use Rattle.gb_project.specs.Stage.{Stage}

-- The tables that are passed in, with the contents of scripts.
pub record Space (N U A M F Z S : Type 0) : Type 0 where
  pub tables : handed.Tables N U A M F Z S
  pub source : Source

-- What a workspace keeps is what its scripts declare, and the names of tasks are those of the scripts.
pub record IsKeptIn {M F Z S A : Type 0} (tables : Tables M F Z S A) (source : Source) (stage : Stage M F Z)
    : Type 0 where
  pub tasks : source.names.tasks ≡ paths_of source.said
  pub declared : AreDeclared tables source stage
