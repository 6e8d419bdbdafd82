-- File properties over their roots.
use Rattle.std.specs.Prelude.{ℕ, List, if◌then◌else◌, map}
use Rattle.gb_plan.specs.declared.task.FileProperty.{FileProperty}
use Rattle.gb_script.specs.declared.script.InputFiles.{InputFiles}
use Rattle.gb_tree.specs.Pattern.{spelled_out}
use Rattle.gb_tree.specs.declared.property.Naming.TheVariants.{NameOnly, Relative}

abbrev pub over_roots : List ℕ → InputFiles → List (List ℕ) → FileProperty
over_roots name files roots = record {
  name = name;
  incremental = files.incremental;
  skip_when_empty = files.skip_when_empty;
  naming = if files.name_only then NameOnly else Relative;
  roots = roots;
  include = map spelled_out files.include;
  exclude = map spelled_out files.exclude;
}
