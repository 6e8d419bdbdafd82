-- The output for a text or a refusal.
use Rattle.std.specs.Prelude.{ℕ, List, Result, Ok, Err, if◌then◌else◌, nat_eq, string_bytes}
use Rattle.std.specs.Global.{Global}
use Rattle.std.specs.declared.string.String.{String}
use Rattle.gb_answer.specs.Answer.{refusal_text}
use Rattle.gb_report.specs.Fault.{fault_number}
use Rattle.gb_report.specs.declared.fault.Fault.{Fault}

-- a text, or why there is none
abbrev pub Reply : Type 0
Reply = Result (String Global) Fault

-- the text, or the line that reports the refusal
abbrev pub reply_text : Reply → List ℕ
reply_text (Ok text) = string_bytes text
reply_text (Err fault) = refusal_text fault

-- the exit status: 0 if there is a text, 2 for arguments that request nothing known (96), otherwise 1
abbrev pub reply_status : Reply → ℕ
reply_status (Ok text) = 0
reply_status (Err fault) = if nat_eq (fault_number fault) 96 then 2 else 1
