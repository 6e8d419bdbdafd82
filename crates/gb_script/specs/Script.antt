-- What the bytes of scripts and of settings mean.
use Rattle.std.specs.Prelude.{ℕ, List, Result}
use Rattle.gb_script.specs.declared.fault.ScriptFault.{ScriptFault}
use Rattle.gb_script.specs.declared.script.Statement.{Statement}
use Rattle.gb_script.specs.Grammar.{script_tokens, settings_tokens}
use Rattle.gb_script.specs.Fits.{IsScript, IsSettings}
use Rattle.gb_script.specs.Notation.{ParsesTo, IsSaid, HasOneMeaning}

-- the bytes parse as the script
abbrev pub ParsesAs : List ℕ → List Statement → Type 0
ParsesAs bytes script = ParsesTo IsScript script_tokens bytes script

-- the meaning of the bytes as a script: a script, or their fault
abbrev pub HasMeaning : List ℕ → Result (List Statement) ScriptFault → Type 0
HasMeaning bytes said = IsSaid IsScript script_tokens bytes said

-- the bytes parse as the settings
abbrev pub ParsesAsSettings : List ℕ → List (List (List ℕ)) → Type 0
ParsesAsSettings bytes settings = ParsesTo IsSettings settings_tokens bytes settings

-- the meaning of the bytes as settings: settings, or their fault
abbrev pub MeansAsSettings : List ℕ → Result (List (List (List ℕ))) ScriptFault → Type 0
MeansAsSettings bytes said = IsSaid IsSettings settings_tokens bytes said

abbrev pub ScriptsHaveOneMeaning : Type 0
ScriptsHaveOneMeaning = HasOneMeaning IsScript script_tokens

abbrev pub SettingsHaveOneMeaning : Type 0
SettingsHaveOneMeaning = HasOneMeaning IsSettings settings_tokens
