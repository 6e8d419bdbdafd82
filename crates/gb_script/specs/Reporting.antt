-- The fault that is reported for bytes: they are not a text, or reading the tokens of the text stopped.
use Rattle.std.specs.Prelude.{ℕ, ◌+◌, ◌-◌, ◌<◌, ◌≤◌, List, length, slice_index_or, IsUtf8}
use Rattle.gb_script.specs.declared.fault.ScriptFault.{ScriptFault}
use Rattle.gb_script.specs.declared.fault.ScriptFault.TheVariants.{OutOfMemory, Syntax, TooLong, TooDeep}
use Rattle.gb_script.specs.declared.fault.ScriptFault.TheVariants.{NotUtf8}
use Rattle.gb_script.specs.declared.token_fault.Fault.TheVariants.{Stray, Deep}
use Rattle.gb_script.specs.declared.token_fault.Stop.{Stop}
use Rattle.gb_script.specs.declared.token_fault.Stop.TheVariants as stops
use Rattle.gb_script.specs.Lexing.{newlines}

-- the fault of bytes that are not a text of at most 1 MiB
abbrev pub IsTextFault : List ℕ → ScriptFault → Type 0
IsTextFault bytes OutOfMemory = ⊥
IsTextFault bytes (Syntax line) = ⊥
IsTextFault bytes TooLong = 1048576 < length bytes
IsTextFault bytes (TooDeep line) = ⊥
IsTextFault bytes NotUtf8 = (length bytes ≤ 1048576) × ¬ (IsUtf8 bytes)

-- of a text and the lines of its tokens: the line of the first of the last `left` tokens, or the last
-- line if there is none
abbrev pub line_left : List ℕ → List ℕ → ℕ → ℕ
line_left text lines left = slice_index_or lines (length lines - left) (1 + newlines text)

-- the fault of a text, by the lines of its tokens, if reading them stopped so
abbrev pub fault_reported : List ℕ → List ℕ → Stop → ScriptFault
fault_reported text lines stops.Memory = OutOfMemory
fault_reported text lines (stops.Fault (Stray left)) = Syntax (line_left text lines left)
fault_reported text lines (stops.Fault (Deep left)) = TooDeep (line_left text lines left)
