use Rattle.gb_script.proofs.Sources.{one_said}
use Rattle.gb_script.proofs.StatementLaws.{Reads-script, script_ends_text, Reads-settings, settings_end_text}
use Rattle.gb_script.proofs.laws.bytes_have_one_meaning.Goals as goal

pub returns-clause-script : goal.returns-clause-script
returns-clause-script c = one_said Reads-script script_ends_text

pub returns-clause-settings : goal.returns-clause-settings
returns-clause-settings c = one_said Reads-settings settings_end_text
