-- The setting of a build, with records as files in a folder.
use Rattle.sha2.specs.Sha256.{sha256}
use Rattle.gb_folder.specs.Files.{Tearing}
use Rattle.gb_history.specs.Places.{record_place}
use Rattle.gb_history.specs.Text.{record_text}
use Rattle.gb_semantics.specs.Events.{Setting}
use Rattle.gb_semantics.specs.Headline.{Registering}
use Rattle.gb_semantics.specs.Kinds.{Kinds}
use Rattle.gb_records.specs.Said.{IsText}

-- These are the kinds, scripts register so, and this is what a stopped call may leave.
abbrev pub setting_by : Kinds → Registering → Tearing → Setting
setting_by kinds registers may_leave = record {
  kinds = kinds;
  registers = registers;
  digest = sha256;
  says = IsText;
  record_place = record_place;
  record_text = record_text;
  may_leave = may_leave;
}
