-- The command and options of the program's arguments.
use Rattle.std.specs.Prelude.{ℕ, ◌||◌, List, Option, Some, None, bytes_eq, codes, if◌then◌else◌}
use Rattle.gb_query.specs.declared.notation.Notation.{Notation}
use Rattle.gb_query.specs.declared.notation.Notation.TheVariants as notations
use Rattle.gb_ask_command.specs.declared.arguments.Colouring.{Colouring}
use Rattle.gb_ask_command.specs.declared.arguments.Colouring.TheVariants as colourings
use Rattle.gb_ask_command.specs.declared.arguments.Mode.{Mode}
use Rattle.gb_ask_command.specs.declared.arguments.Mode.TheVariants as modes
use Rattle.gb_ask_command.specs.declared.arguments.Question.{Question}
use Rattle.gb_ask_command.specs.declared.arguments.Question.TheVariants as questions
use Rattle.gb_ask_command.specs.declared.arguments.Style.{Style}
use Rattle.gb_ask_command.specs.declared.arguments.Style.TheVariants as styles

abbrev pub question_of : List ℕ → Question
question_of word =
    if bytes_eq word (codes "why") then questions.Why
    else if bytes_eq word (codes "fmt") then questions.Fmt
    else if bytes_eq word (codes "tasks") then questions.Tasks
    else if bytes_eq word (codes "graph") then questions.Graph
    else if bytes_eq word (codes "reads") then questions.Reads
    else if bytes_eq word (codes "makes") then questions.Makes
    else if bytes_eq word (codes "status") then questions.Status
    else if bytes_eq word (codes "check") then questions.Check
    else if bytes_eq word (codes "help") || bytes_eq word (codes "--help") then questions.Help
    else questions.Unknown

abbrev pub style_of : List ℕ → Option Style
style_of word =
    if bytes_eq word (codes "--tree") then Some styles.Tree
    else if bytes_eq word (codes "--mermaid") then Some styles.Mermaid
    else if bytes_eq word (codes "--svg") then Some styles.Svg
    else if bytes_eq word (codes "--json") then Some styles.Json
    else None

abbrev pub colouring_of : List ℕ → Option Colouring
colouring_of word = if bytes_eq word (codes "--why") then Some colourings.Outcomes else None

abbrev pub notation_of : List ℕ → Option Notation
notation_of word = if bytes_eq word (codes "--json") then Some notations.Json else None

abbrev pub mode_of : List ℕ → Option Mode
mode_of word =
    if bytes_eq word (codes "--write") then Some modes.Writes
    else if bytes_eq word (codes "--check") then Some modes.Checks
    else None
