-- Reading the lines of statements and clauses. A line is a function of how many tokens are left.
use Rattle.std.specs.Prelude.{ℕ, List, [], length, Ok}
use Rattle.gb_script.specs.declared.token.Sign.TheVariants.{OpenBrace, CloseBrace}
use Rattle.gb_script.specs.declared.keywords.StatementWord.{StatementWord}
use Rattle.gb_script.specs.declared.keywords.StatementWord.TheVariants as words
use Rattle.gb_script.specs.Words.{statement_words}
use Rattle.gb_script.specs.Reading.{Reader, ◌>>=◌, is_sign, is_any, skip_at, name_at, meaning_at, many_at}
use Rattle.gb_script.specs.Reading.{no_matter}
use Rattle.gb_script.specs.Readers.{in_block, clause_at, action_at, statement_of_at}

-- the line of the clause at the front
unfoldable pub clause_line_at : (ℕ → ℕ) → ℕ → Reader ℕ
clause_line_at line room ts = do
  clause ← clause_at room ts
  Ok (line (length ts), clause.1)

-- the lines of the clauses in braces
unfoldable pub block_lines_at : (ℕ → ℕ) → ℕ → Reader (List ℕ)
block_lines_at line room ts = do
  inner ← skip_at (is_sign OpenBrace) ts
  lines ← many_at in_block no_matter (λ s. clause_line_at line room) (length inner) tt inner
  rest ← skip_at (is_sign CloseBrace) lines.1
  Ok (lines.0, rest)

-- the lines of the clauses of a new task, after its word
unfoldable pub registration_lines_at : (ℕ → ℕ) → ℕ → Reader (List ℕ)
registration_lines_at line room ts = do
  name ← name_at ts
  action ← action_at room name.1
  block_lines_at line room action.1

-- the lines of the clauses of a task of the project, after its word
unfoldable pub configuration_lines_at : (ℕ → ℕ) → ℕ → Reader (List ℕ)
configuration_lines_at line room ts = do
  name ← name_at ts
  block_lines_at line room name.1

-- no lines, after the word of a statement without a block
unfoldable pub no_lines_at : ℕ → StatementWord → Reader (List ℕ)
no_lines_at room word ts = do
  statement ← statement_of_at room word ts
  Ok ([], statement.1)

-- the lines of the clauses of a statement, after its word
unfoldable pub clause_lines_at : (ℕ → ℕ) → ℕ → StatementWord → Reader (List ℕ)
clause_lines_at line room words.DefaultTasks ts = no_lines_at room words.DefaultTasks ts
clause_lines_at line room (words.Property word) ts = no_lines_at room (words.Property word) ts
clause_lines_at line room words.Register ts = registration_lines_at line room ts
clause_lines_at line room words.Named ts = configuration_lines_at line room ts

-- the line of the statement at the front, and the lines of its clauses
unfoldable pub statement_lines_at : (ℕ → ℕ) → ℕ → Reader (ℕ × List ℕ)
statement_lines_at line room ts = do
  word ← meaning_at statement_words ts
  clauses ← clause_lines_at line room word.0 word.1
  Ok ((line (length ts), clauses.0), clauses.1)

-- those of the statements up to the end
unfoldable pub script_lines_at : (ℕ → ℕ) → Reader (List (ℕ × List ℕ))
script_lines_at line ts = many_at is_any no_matter (λ s. statement_lines_at line 64) (length ts) tt ts
