-- A script with the tables in which its tasks look things up.
use Rattle.std.specs.Prelude.{◌≡◌, [], filter_map}
use Rattle.gb_registry.specs.Projects.{with_paths}
use Rattle.gb_registry.specs.Said.{declared_property}
use Rattle.gb_project.specs.Blocks.{AreBlocks}
use Rattle.gb_project.specs.declared.scripts.Indexed.{Indexed}

-- the properties of a script, and what it adds to its tasks
pub record IsIndexed (script : Indexed) : Type 0 where
  pub properties :
      script.properties ≡ with_paths [] (filter_map declared_property script.scripted.now.script)
  pub blocks : AreBlocks script.blocks script.scripted.now.script
