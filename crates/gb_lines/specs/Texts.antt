-- The output of a replay.
use Rattle.std.specs.Prelude.{ℕ, ◌||◌, nat_eq, List, [], ◌∷◌, ◌++◌, Option, None, Some, if◌then◌else◌}
use Rattle.std.specs.Prelude.{codes, decimal, length}
use Rattle.std.specs.List.{ends_with, flat_map}
use Rattle.gb_folder.specs.Files.{Files, Place, Bytes, file_at, is_empty, places_under}
use Rattle.gb_answer.specs.Answer.{not_built_text, refusal_text}
use Rattle.gb_report.specs.Report.{line, report_text}
use Rattle.gb_semantics.specs.declared.events.Answer.{Answer}
use Rattle.gb_semantics.specs.declared.events.Answer.TheVariants as answers

-- the output for an answer
abbrev pub answer_text : Answer → List ℕ
answer_text answers.Edited = []
answer_text (answers.Refused fault) = refusal_text fault
answer_text (answers.Built report) = report_text report
answer_text (answers.NotBuilt fault) = not_built_text fault

-- the line feed that the last line lacks, if there is one
abbrev pub closing : Bytes → List ℕ
closing bytes = if is_empty bytes || ends_with nat_eq bytes (10 ∷ []) then [] else 10 ∷ []

-- a file: its place, its length and its bytes
abbrev pub shown_file : Place → Bytes → List ℕ
shown_file place bytes =
    line (codes "== " ++ place ++ codes " " ++ decimal (length bytes)) ++ bytes ++ closing bytes

-- a place, with its bytes if it has a file
abbrev pub shown_at : Place → Option Bytes → List ℕ
shown_at place None = []
shown_at place (Some bytes) = shown_file place bytes

-- these places, in their order
abbrev pub shown_places : Files → List Place → List ℕ
shown_places files [] = line (codes "== none")
shown_places files (place ∷ places) = flat_map (λ p. shown_at p (file_at files p)) (place ∷ places)

-- the files at and under a place, in the order of their places; where there is none, a line reports it
abbrev pub shown_files : Files → Place → List ℕ
shown_files files root = shown_places files (places_under files root)
