-- The files that the kinds of actions make and the lines that they print, by their numbers.
use Rattle.std.specs.Prelude.{ℕ, ◌==◌, true, List, [], ◌∷◌, ◌++◌, map, if◌then◌else◌, Option, None, Some}
use Rattle.std.specs.Prelude.{false, Result, Ok, Err, codes}
use Rattle.std.specs.Borrow.{Bor}
use Rattle.std.specs.declared.alloc.Global.{Global}
use Rattle.gb_core.specs.declared.value.Value.{Value}
use Rattle.gb_core.specs.declared.value.Value.TheVariants as values
use Rattle.gb_action.specs.Files.{tree_at}
use Rattle.gb_action.specs.Meanings.{Making, Printing}
use Rattle.gb_action.specs.Replies.{Answers}
use Rattle.gb_action.specs.Shapes.{IsAsked, source}
use Rattle.gb_action.specs.declared.output_files.Form.{Form}
use Rattle.gb_action.specs.declared.output_files.Form.TheVariants.{File, Dir}
use Rattle.gb_action.specs.declared.reply.Reply.{Reply}
use Rattle.gb_action.specs.declared.reply.ActionFault.{ActionFault}
use Rattle.gb_action.specs.declared.request.Request.{Request}
use Rattle.gb_action.specs.declared.shape.Arg.TheVariants as args
use Rattle.gb_action.specs.declared.shape.Parameter.{Parameter}
use Rattle.gb_action.specs.declared.shape.Parameter.TheVariants.{Required}
use Rattle.gb_action.specs.declared.shape.Shape.{Shape}
use Rattle.gb_kinds.specs.declared.shapes.TheConstants.{PRINT_LINE, WRITE_TEXT, FAIL, COPY_FILES}
use Rattle.gb_kinds.specs.declared.shapes.TheConstants.{REPLACE_TOKENS, KEEP_LINES, SUMS}
use Rattle.gb_kinds.specs.declared.shapes.TheConstants.{CONCAT, ADD_FILE, WORD_INDEX}
use Rattle.gb_kinds.specs.ByFile.{file_of, by_file, all_bytes, source_changes, change_line}
use Rattle.gb_kinds.specs.Contents.{sum_line, kept_lines, with_value}
use Rattle.gb_kinds.specs.Remade.{as_made}
use Rattle.gb_kinds.specs.Words.{index_of}

pub data Kind : Type 0 where
  PrintLine : Kind
  WriteText : Kind
  Fail : Kind
  CopyFiles : Kind
  ReplaceTokens : Kind
  KeepLines : Kind
  Sums : Kind
  Concat : Kind
  AddFile : Kind
  WordIndex : Kind
  NoKind : Kind

-- the kind with a number
abbrev pub kind_of : ℕ → Kind
kind_of number =
    if number == PRINT_LINE then PrintLine
    else if number == WRITE_TEXT then WriteText
    else if number == FAIL then Fail
    else if number == COPY_FILES then CopyFiles
    else if number == REPLACE_TOKENS then ReplaceTokens
    else if number == KEEP_LINES then KeepLines
    else if number == SUMS then Sums
    else if number == CONCAT then Concat
    else if number == ADD_FILE then AddFile
    else if number == WORD_INDEX then WordIndex
    else NoKind

-- the first argument, which is a text
abbrev pub first_text : List Value → List ℕ
first_text (values.Text text ∷ others) = text
first_text others = []

-- the second argument, which is a text
abbrev pub second_text : List Value → List ℕ
second_text (value ∷ others) = first_text others
second_text [] = []

-- ---- Signatures

-- a kind that reads no files
abbrev pub of_texts : List Parameter → Option Form → Shape
of_texts args out = record { args = args; src = false; out = out; incremental = false }

-- an incremental kind
abbrev pub of_files : List Parameter → Shape
of_files args = record { args = args; src = true; out = Some Dir; incremental = true }

abbrev pub kind_shape : Kind → Shape
kind_shape PrintLine = of_texts (Required args.Line ∷ []) None
kind_shape WriteText = of_texts (Required args.Text ∷ []) (Some File)
kind_shape Fail = of_texts (Required args.Line ∷ []) None
kind_shape CopyFiles = of_files []
kind_shape ReplaceTokens = of_files (Required args.Key ∷ Required args.Text ∷ [])
kind_shape KeepLines = of_files (Required args.Text ∷ [])
kind_shape Sums = of_files []
kind_shape Concat = record { args = []; src = true; out = Some File; incremental = false }
kind_shape AddFile = of_texts (Required args.Rel ∷ Required args.Text ∷ []) (Some Dir)
kind_shape WordIndex = of_files []
kind_shape NoKind = of_texts [] None

-- ---- Files made and lines printed

-- `writeText` makes the output itself, which contains the text; `fail` fails with it; `copyFiles`,
-- `replaceTokens`, `keepLines` and `sums` make a file from each file; `concat` makes one file from all, in
-- the order of their paths; `addFile` makes the file at its path under the output; `wordIndex` makes for each
-- word the file that lists the files with the word
abbrev pub kind_makes : Kind → Making
kind_makes PrintLine arguments values trees = Ok []
kind_makes WriteText arguments values trees = Ok (file_of [] (first_text arguments) ∷ [])
kind_makes Fail arguments values trees = Err (first_text arguments)
kind_makes CopyFiles arguments values trees = Ok (by_file (λ bytes. bytes) (tree_at trees source))
kind_makes ReplaceTokens arguments values trees =
    Ok (by_file (with_value (first_text arguments) (second_text arguments)) (tree_at trees source))
kind_makes KeepLines arguments values trees =
    Ok (by_file (kept_lines (first_text arguments)) (tree_at trees source))
kind_makes Sums arguments values trees = Ok (by_file sum_line (tree_at trees source))
kind_makes Concat arguments values trees = Ok (file_of [] (all_bytes (tree_at trees source)) ∷ [])
kind_makes AddFile arguments values trees = Ok (file_of (first_text arguments) (second_text arguments) ∷ [])
kind_makes WordIndex arguments values trees = Ok (as_made (index_of (tree_at trees source)))
kind_makes NoKind arguments values trees = Err []

-- an incremental kind prints a line for each change
abbrev pub prints_changes : Printing
prints_changes arguments values trees changes = map change_line (source_changes changes)

-- `printLine` prints its line
abbrev pub kind_prints : Kind → Printing
kind_prints PrintLine arguments values trees changes = first_text arguments ∷ []
kind_prints WriteText arguments values trees changes = []
kind_prints Fail arguments values trees changes = []
kind_prints CopyFiles arguments values trees changes = prints_changes arguments values trees changes
kind_prints ReplaceTokens arguments values trees changes = prints_changes arguments values trees changes
kind_prints KeepLines arguments values trees changes = prints_changes arguments values trees changes
kind_prints Sums arguments values trees changes = prints_changes arguments values trees changes
kind_prints Concat arguments values trees changes = []
kind_prints AddFile arguments values trees changes = []
kind_prints WordIndex arguments values trees changes = prints_changes arguments values trees changes
kind_prints NoKind arguments values trees changes = []

-- ---- By number

abbrev pub builtin_shape : ℕ → Shape
builtin_shape number = kind_shape (kind_of number)

abbrev pub builtin_makes : ℕ → Making
builtin_makes number = kind_makes (kind_of number)

abbrev pub builtin_prints : ℕ → Printing
builtin_prints number = kind_prints (kind_of number)

-- the built-in actions in the order of their table, each with its name, number and version:
-- those that read no files,
abbrev pub text_names : List (List ℕ × ℕ × ℕ)
text_names =
    (codes "printLine", PRINT_LINE, 1) ∷ (codes "writeText", WRITE_TEXT, 1) ∷ (codes "fail", FAIL, 1) ∷ []

-- the incremental ones,
abbrev pub file_names : List (List ℕ × ℕ × ℕ)
file_names =
    (codes "copyFiles", COPY_FILES, 1) ∷ (codes "replaceTokens", REPLACE_TOKENS, 1)
    ∷ (codes "keepLines", KEEP_LINES, 1) ∷ (codes "sums", SUMS, 1)
    ∷ (codes "wordIndex", WORD_INDEX, 1) ∷ []

-- and those that write one file
abbrev pub one_file_names : List (List ℕ × ℕ × ℕ)
one_file_names = (codes "concat", CONCAT, 1) ∷ (codes "addFile", ADD_FILE, 1) ∷ []

abbrev pub builtin_names : List (List ℕ × ℕ × ℕ)
builtin_names = text_names ++ file_names ++ one_file_names

-- a closure that may be called under `pre`, and whose result then satisfies `post`, implements the kind
pub record Implements (number : ℕ) (pre : Global → Bor Request → Type 0)
    (post : Global → Bor Request → Result Reply ActionFault → Type 0) : Type 0 where
  pub callable : (alloc : Global) (request : Bor Request) → IsAsked (builtin_shape number) request.now
      → pre alloc request
  pub keeps : (alloc : Global) (request : Bor Request) (answer : Result Reply ActionFault)
      → post alloc request answer → Answers (builtin_makes number) (builtin_prints number) request.now answer
