-- The setting of an invocation, where the scripts of a folder declare what is registered.
use Rattle.std.specs.Prelude.{◌≡◌, Ok, Err}
use Rattle.gb_declare.specs.Registered.{registry_said}
use Rattle.gb_folder.specs.Files.{Tearing}
use Rattle.gb_semantics.specs.Events.{Setting}
use Rattle.gb_semantics.specs.Headline.{Registering}
use Rattle.gb_semantics.specs.Kinds.{Kinds}
use Rattle.gb_records.specs.Setting.{setting_by}
use Rattle.gb_registry.specs.Source.{Source}
use Rattle.gb_registry.specs.Tables.{Tables}
use Rattle.gb_build.specs.Scripts.{FolderDeclares}

-- what the scripts of a folder register with these tables: the tasks that they declare, or their first fault
abbrev pub registers_in : {M F Z S A : Type 0} → Tables M F Z S A → Registering
registers_in tables files given (Ok registry) =
    (source : Source) × FolderDeclares tables files given (Ok source)
    × (registry ≡ registry_said tables source)
registers_in tables files given (Err fault) = FolderDeclares tables files given (Err fault)

-- the setting of an invocation, with records as they are in a folder
abbrev pub setting_of : {M F Z S A : Type 0} → Tables M F Z S A → Kinds → Tearing → Setting
setting_of tables kinds may_leave = setting_by kinds (registers_in tables) may_leave
