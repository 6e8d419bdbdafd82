-- How `fmt` processes the named files: its calls to the folder, and its output.
use Rattle.std.specs.Prelude.{ℕ, ◌≡◌, ◌⊎◌, ◌||◌, Bool, true, false, List, [], ◌∷◌, ◌++◌, Result, Ok, Err}
use Rattle.std.specs.Prelude.{IsTrue, Some, bytes_eq, codes, eqb, if◌then◌else◌, nat_lt, string_bytes}
use Rattle.std.specs.Global.{Global}
use Rattle.std.specs.List.{ends_with, list_any}
use Rattle.std.specs.declared.string.String.{String}
use Rattle.std.specs.declared.vec.Vec.{Vec}
use Rattle.gb_answer.specs.Answer.{refusal_text}
use Rattle.gb_core.specs.Place.{is_place}
use Rattle.gb_folder.specs.Calls.{Call, Permit, Reads, Writes}
use Rattle.gb_folder.specs.Each.{Ended}
use Rattle.gb_folder.specs.Files.{Bytes, Place, is_empty}
use Rattle.gb_folder.specs.Semantics.{Answer}
use Rattle.gb_folder.specs.declared.folder.FolderFault.{FolderFault}
use Rattle.gb_folder.specs.declared.folder.FolderFault.TheVariants as folders
use Rattle.gb_format.specs.Formatted.{AreSameScript, AreSameSettings, IsFormatted, IsLayoutFault}
use Rattle.gb_picture.specs.Shown.{shown_text}
use Rattle.gb_report.specs.Report.{line}
use Rattle.gb_report.specs.declared.fault.Fault.{Fault}
use Rattle.gb_report.specs.declared.fault.Fault.TheVariants as faults
use Rattle.gb_script.specs.Script.{HasMeaning, MeansAsSettings}
use Rattle.gb_script.specs.declared.fault.ScriptFault.{ScriptFault}
use Rattle.gb_script.specs.declared.fault.ScriptFault.TheVariants as scripts
use Rattle.gb_folder.specs.Faults.{reported_at}
use Rattle.gb_ask_command.specs.declared.arguments.Mode.{Mode}
use Rattle.gb_ask_command.specs.declared.arguments.Mode.TheVariants as modes

-- ---- names and faults

abbrev pub is_input : Place → Bool
is_input place = bytes_eq place (codes "-")

-- a file with this name has settings, any other a script
abbrev pub is_settings : Place → Bool
is_settings place = bytes_eq place (codes "settings.gb") || ends_with eqb place (codes "/settings.gb")

-- the fault of a call; a file above the limit is too long (21)
abbrev pub fault_at : Place → FolderFault → Fault
fault_at place folders.TooLarge = faults.TooLong place
fault_at place fault = reported_at place fault

-- the fault of a text
abbrev pub fault_in : Place → ScriptFault → Fault
fault_in place scripts.OutOfMemory = faults.OutOfMemory
fault_in place (scripts.Syntax number) = faults.Syntax place number
fault_in place scripts.TooLong = faults.TooLong place
fault_in place (scripts.TooDeep number) = faults.TooDeep place number
fault_in place scripts.NotUtf8 = faults.NotUtf8 place

abbrev pub answer_at : Place → Result Bytes FolderFault → Result Bytes Fault
answer_at place (Ok bytes) = Ok bytes
answer_at place (Err fault) = Err (fault_at place fault)

abbrev pub answer_in : Place → Result Bytes ScriptFault → Result Bytes Fault
answer_in place (Ok out) = Ok out
answer_in place (Err fault) = Err (fault_in place fault)

-- a file that was written is named
abbrev pub named_after : Place → Answer → Result Bytes Fault
named_after place (Ok done) = Ok (line place)
named_after place (Err fault) = Err (fault_at place fault)

-- ---- one file

-- The text of a file is the result of a read at its place. The text of `-` is the input. Memory may run out
-- first.
abbrev pub IsText : Bytes → Place → List Call → Result Bytes Fault → Type 0
IsText input place calls text =
    ((is_input place ≡ true) × (calls ≡ []) × (text ≡ Ok input))
    ⊎ ((answer : Result Bytes FolderFault) × (is_input place ≡ false)
    × (calls ≡ Reads place 1048576 answer ∷ []) × (text ≡ answer_at place answer))
    ⊎ ((is_place place ≡ false) × (calls ≡ []) × (text ≡ Err (faults.BadPlace place)))
    ⊎ ((calls ≡ []) × (text ≡ Err faults.OutOfMemory))

-- the formatted text of a script or of settings, or the fault of the text
abbrev pub Formats : Bool → Bytes → Result Bytes ScriptFault → Type 0
Formats false text (Ok out) = IsFormatted text out × AreSameScript text out
Formats true text (Ok out) = IsFormatted text out × AreSameSettings text out
Formats false text (Err fault) = HasMeaning text (Err fault) ⊎ IsLayoutFault text fault
Formats true text (Err fault) = MeansAsSettings text (Err fault) ⊎ IsLayoutFault text fault

abbrev pub FormatsAt : Place → Bytes → Result Bytes Fault → Type 0
FormatsAt place text out =
    (answer : Result Bytes ScriptFault) × Formats (is_settings place) text answer
    × (out ≡ answer_in place answer)

-- A file is written if it differs, with exactly its formatted text.
abbrev pub Replaces : Bool → Place → Bytes → List Call → Result Bytes Fault → Type 0
Replaces true place out calls printed = (calls ≡ []) × (printed ≡ Ok [])
Replaces false place out calls printed =
    (answer : Answer) × (calls ≡ Writes place out 1048576 answer ∷ []) × (printed ≡ named_after place answer)

abbrev pub heading : Bool → Place → Bytes
heading headed place = if headed then line (codes "==> " ++ shown_text place) else []

-- With these calls a formatted text is printed, or named if it differs, or written and named if it differs.
abbrev pub Shows : Mode → Bool → Place → Bytes → Bytes → List Call → Result Bytes Fault → Type 0
Shows modes.Prints headed place text out calls printed =
    (calls ≡ []) × (printed ≡ Ok (heading headed place ++ out))
Shows modes.Checks headed place text out calls printed =
    (calls ≡ []) × (printed ≡ Ok (if bytes_eq out text then [] else line place))
Shows modes.Writes headed place text out calls printed = Replaces (bytes_eq out text) place out calls printed

-- the input is never written
abbrev pub mode_as : Bool → Mode → Mode
mode_as true modes.Writes = modes.Prints
mode_as is_input mode = mode

-- a fault ends it
abbrev pub OrFails : Result Bytes Fault → (Bytes → List Call → Result Bytes Fault → Type 0) → List Call
    → Result Bytes Fault → Type 0
OrFails (Ok bytes) Next calls printed = Next bytes calls printed
OrFails (Err fault) Next calls printed = (calls ≡ []) × (printed ≡ Err fault)

module _ (mode : Mode) (headed : Bool) where
  -- the text is formatted and shown
  abbrev pub TreatsText : Place → Bytes → List Call → Result Bytes Fault → Type 0
  TreatsText place text calls printed =
      (out : Result Bytes Fault) × FormatsAt place text out
      × OrFails out (Shows (mode_as (is_input place) mode) headed place text) calls printed

  -- The file at a place, or the input, is processed with these calls, and this is the output for it.
  abbrev pub Treats : Bytes → Place → List Call → Result Bytes Fault → Type 0
  Treats input place calls printed =
      (text : Result Bytes Fault) × (first : List Call) × (later : List Call) × (calls ≡ first ++ later)
      × IsText input place first text × OrFails text (TreatsText place) later printed

-- ---- all files

abbrev pub text_of : Result Bytes Fault → Bytes
text_of (Ok text) = text
text_of (Err fault) = []

abbrev pub ended_of : Result Bytes Fault → Ended Fault
ended_of (Ok text) = Ok tt
ended_of (Err fault) = Err fault

-- if several files are printed, each has a heading
abbrev pub is_headed : Mode → ℕ → Bool
is_headed modes.Prints count = nat_lt 1 count
is_headed mode count = false

-- one of several files
abbrev pub IsTreated : Mode → Bool → Bytes → String Global → List Call → Bytes → Ended Fault → Type 0
IsTreated mode headed input name calls made ended =
    (printed : Result Bytes Fault) × Treats mode headed input (string_bytes name) calls printed
    × (made ≡ text_of printed) × (ended ≡ ended_of printed)

-- the last part of the output
abbrev pub end_text : Ended Fault → Bytes
end_text (Ok done) = []
end_text (Err fault) = refusal_text fault

-- the exit status: 1 if a file could not be processed, or was compared and differs
abbrev pub fmt_status : Mode → Bytes → Ended Fault → ℕ
fmt_status mode made (Err fault) = 1
fmt_status modes.Checks made (Ok done) = if is_empty made then 0 else 1
fmt_status modes.Prints made (Ok done) = 0
fmt_status modes.Writes made (Ok done) = 0

-- ---- permitted calls

-- If files are written, a formatted text may be written at one of these places, and nothing else may change;
-- otherwise nothing may change.
unfoldable pub may_write : Mode → List (List ℕ) → Permit
may_write modes.Writes names place next =
    IsTrue (list_any (bytes_eq place) names)
    × ((text : List ℕ) × (out : List ℕ) × IsFormatted text out × (next ≡ Some out))
may_write modes.Prints names place next = ⊥
may_write modes.Checks names place next = ⊥

-- ---- what the code holds

-- the bytes that were read, or why there are none
abbrev pub bytes_in : Result (Vec ℕ Global) Fault → Result Bytes Fault
bytes_in (Ok bytes) = Ok bytes.items
bytes_in (Err fault) = Err fault

-- the text, or why there is none
abbrev pub string_in : Result (String Global) Fault → Result Bytes Fault
string_in (Ok text) = Ok (string_bytes text)
string_in (Err fault) = Err fault

abbrev pub script_in : Result (String Global) ScriptFault → Result Bytes ScriptFault
script_in (Ok text) = Ok (string_bytes text)
script_in (Err fault) = Err fault
