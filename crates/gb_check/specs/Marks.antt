-- Which clause of a task is at fault, and its line.
use Rattle.std.specs.Prelude.{ℕ, ◌&&◌, Bool, List, [], ◌∷◌, ◌++◌, Option, Some, None, bytes_eq, codes, map}
use Rattle.std.specs.Prelude.{false, if◌then◌else◌, true}
use Rattle.std.specs.List.{filter_map, flat_map}
use Rattle.gb_core.specs.Path.{task_in}
use Rattle.gb_declare.specs.Declaring.{clause_faults, main_faults, scope_in}
use Rattle.gb_plan.specs.Task.{Path, Text}
use Rattle.gb_registry.specs.Projects.{with_paths}
use Rattle.gb_registry.specs.References.{Names}
use Rattle.gb_registry.specs.Said.{declared_property}
use Rattle.gb_registry.specs.Tables.{Tables}
use Rattle.gb_registry.specs.Wrong.{Scope}
use Rattle.gb_report.specs.declared.fault.Fault.{Fault}
use Rattle.gb_report.specs.declared.fault.Fault.TheVariants as faults
use Rattle.gb_script.specs.declared.script.Call.{Call}
use Rattle.gb_script.specs.declared.script.Clause.{Clause}
use Rattle.gb_script.specs.declared.script.Clause.TheVariants as clauses
use Rattle.gb_script.specs.declared.script.Statement.{Statement}
use Rattle.gb_script.specs.declared.script.Statement.TheVariants as statements
use Rattle.gb_check.specs.declared.clause_lines.ClauseMark.{ClauseMark}
use Rattle.gb_check.specs.declared.clause_lines.MarkKind.{MarkKind}
use Rattle.gb_check.specs.declared.clause_lines.MarkKind.TheVariants as mark_kinds

-- the lines of a statement and of its clauses
abbrev pub Lines : Type 0
Lines = ℕ × List ℕ

-- ---- Words of clauses

-- a word by which a fault can name a clause
abbrev pub Word : Type 0
Word = MarkKind × Text

-- the words of a clause: the name of whatever it declares, does or tests, and that it declares an output
abbrev pub words_of : Clause → List Word
words_of (clauses.Input a) = (mark_kinds.Name, a.name) ∷ []
words_of (clauses.InputFiles f) = (mark_kinds.Name, f.name) ∷ []
words_of (clauses.OutputFile a) = (mark_kinds.Name, a.name) ∷ (mark_kinds.Output, []) ∷ []
words_of (clauses.OutputDir a) = (mark_kinds.Name, a.name) ∷ (mark_kinds.Output, []) ∷ []
words_of (clauses.DependsOn tasks) = []
words_of (clauses.MustRunAfter tasks) = []
words_of (clauses.FinalizedBy tasks) = []
words_of (clauses.DoFirst call) = (mark_kinds.Name, call.name) ∷ []
words_of (clauses.DoLast call) = (mark_kinds.Name, call.name) ∷ []
words_of (clauses.OnlyIf c) = (mark_kinds.Name, c.test.name) ∷ []
words_of (clauses.UpToDateWhen c) = (mark_kinds.Name, c.test.name) ∷ []
words_of (clauses.Enabled value) = (mark_kinds.Name, codes "enabled") ∷ []

-- ---- Where they are

-- a word of the task at a path, in this line
abbrev pub mark : Path → ℕ → Word → ClauseMark
mark path line word = record { path = path; kind = word.0; text = word.1; line = line }

abbrev pub first_number : List ℕ → ℕ
first_number [] = 1
first_number (line ∷ lines) = line

abbrev pub other_numbers : List ℕ → List ℕ
other_numbers [] = []
other_numbers (line ∷ lines) = lines

-- what has a fault by itself
abbrev pub fault_marks : Path → ℕ → List Fault → List ClauseMark
fault_marks path line [] = []
fault_marks path line (fault ∷ faults) = mark path line (mark_kinds.Faulty, []) ∷ []

module _ {M F Z S A : Type 0} (tables : Tables M F Z S A) (scope : Scope) where
  -- a clause in this line: its words, and whether it has a fault by itself
  abbrev pub marks_at : Path → ℕ → Clause → List ClauseMark
  marks_at path line clause =
      map (mark path line) (words_of clause) ++ fault_marks path line (clause_faults tables scope clause)

  -- clauses, each in its line
  abbrev pub clause_marks : Path → List Clause → List ℕ → List ClauseMark
  clause_marks path [] lines = []
  clause_marks path (clause ∷ clauses) lines =
      marks_at path (first_number lines) clause ++ clause_marks path clauses (other_numbers lines)

  -- the action after the colon: its name, and whether the call has a fault by itself
  abbrev pub action_marks : Path → ℕ → Option Call → List ClauseMark
  action_marks path line (Some call) =
      mark path line (mark_kinds.Name, call.name)
      ∷ fault_marks path line (main_faults tables scope (Some call))
  action_marks path line None = []

  abbrev pub statement_marks : Path → Lines → Statement → List ClauseMark
  statement_marks project lines (statements.Register r) =
      action_marks (task_in project r.name) lines.0 r.action
      ++ clause_marks (task_in project r.name) r.block lines.1
  statement_marks project lines (statements.Named c) = clause_marks (task_in project c.name) c.block lines.1
  statement_marks project lines other = []

-- the lines of the first statement
abbrev pub first_lines : List Lines → Lines
first_lines [] = (1, [])
first_lines (lines ∷ others) = lines

abbrev pub other_lines : List Lines → List Lines
other_lines [] = []
other_lines (lines ∷ others) = others

module _ {M F Z S A : Type 0} (tables : Tables M F Z S A) where
  -- the clauses of the tasks of a script
  abbrev pub marks_of : Scope → Path → List Statement → List Lines → List ClauseMark
  marks_of scope project [] lines = []
  marks_of scope project (statement ∷ statements) lines =
      statement_marks tables scope project (first_lines lines) statement
      ++ marks_of scope project statements (other_lines lines)

-- what the clauses of a script's tasks may name: its properties, and the tasks of all scripts
abbrev pub script_scope : Names → Path → List Statement → Scope
script_scope names project statements =
    scope_in project (with_paths [] (filter_map declared_property statements)) (Some names)

-- ---- What a fault names

-- the word that the fault of a value of the task at a path takes from one of its clauses
abbrev pub word_of : Path → Fault → Option Word
word_of path (faults.WrongValue name) = Some (mark_kinds.Name, name)
word_of path (faults.NoValue task name) = if bytes_eq task path then Some (mark_kinds.Name, name) else None
word_of path (faults.BadArgument task name) =
    if bytes_eq task path then Some (mark_kinds.Name, name) else None
word_of path (faults.OutputOutsideBuild task place) =
    if bytes_eq task path then Some (mark_kinds.Output, []) else None
word_of path other = None

abbrev pub is_same_kind : MarkKind → MarkKind → Bool
is_same_kind mark_kinds.Name mark_kinds.Name = true
is_same_kind mark_kinds.Output mark_kinds.Output = true
is_same_kind mark_kinds.Faulty mark_kinds.Faulty = true
is_same_kind one other = false

abbrev pub is_mark_of : Path → Word → ClauseMark → Bool
is_mark_of path word mark =
    is_same_kind mark.kind word.0 && bytes_eq mark.path path && bytes_eq mark.text word.1

abbrev pub line_if : Path → Word → ClauseMark → List ℕ
line_if path word mark = if is_mark_of path word mark then mark.line ∷ [] else []

-- the only one of these lines, or else this line
abbrev pub only_or : ℕ → List ℕ → ℕ
only_or line [] = line
only_or line (one ∷ []) = one
only_or line (one ∷ other ∷ more) = line

-- the line of the one clause of the task with the word; if there is none, or more than one, this line
abbrev pub line_with : List ClauseMark → Path → ℕ → Option Word → ℕ
line_with marks path line (Some word) = only_or line (flat_map (line_if path word) marks)
line_with marks path line None = line

-- whether the fault of a task can be that of one clause: actions that do not fit a task are of no clause (55)
abbrev pub is_of_clause : Fault → Bool
is_of_clause (faults.BadShape path) = false
is_of_clause other = true

-- the first of these lines, or else this line
abbrev pub first_or_line : ℕ → List ℕ → ℕ
first_or_line line [] = line
first_or_line line (first ∷ others) = first

-- the lines of the clauses that have a fault by themselves
abbrev pub faulty_lines : List ClauseMark → Path → Fault → List ℕ
faulty_lines marks path fault =
    if is_of_clause fault then flat_map (line_if path (mark_kinds.Faulty, [])) marks else []

-- The line of the first clause of the task that has a fault by itself. If no clause has one, the line of the
-- one clause with the word that the fault names; if there is none, or more than one, this line.
abbrev pub line_for : List ClauseMark → Path → Fault → ℕ → ℕ
line_for marks path fault line =
    first_or_line (line_with marks path line (word_of path fault)) (faulty_lines marks path fault)
