-- The lines on which the statements of a script begin, and those of the clauses of their blocks.
use Rattle.std.specs.Prelude.{◌≡◌, ℕ, List, [], ◌∷◌, ◌++◌, length, drop, codes}
use Rattle.gb_script.specs.declared.token.Sign.TheVariants.{OpenBrace}
use Rattle.gb_script.specs.declared.script.Clause.{Clause}
use Rattle.gb_script.specs.declared.script.Statement.{Statement}
use Rattle.gb_script.specs.declared.script.Statement.TheVariants as statements
use Rattle.gb_script.specs.Lexing.{Placed}
use Rattle.gb_script.specs.Grammar.{Leveled, word, sign, action_tokens, clause_tokens, statement_tokens}
use Rattle.gb_script.specs.Notation.{line_of}
use Rattle.gb_script.specs.Script.{ParsesAs}

-- Several values are derived one after another, and these are the tokens from the first one on:
-- f of each, with the tokens from its own first token on.
abbrev pub each_from : {A B : Type 0} → (A → List Placed → B) → (A → List Leveled) → List A → List Placed
    → List B
each_from f spelled [] tokens = []
each_from f spelled (x ∷ xs) tokens = f x tokens ∷ each_from f spelled xs (drop (length (spelled x)) tokens)

-- the clauses of a statement
abbrev pub clauses_in : Statement → List Clause
clauses_in (statements.DefaultTasks x) = []
clauses_in (statements.Property x) = []
clauses_in (statements.Set x) = []
clauses_in (statements.Convention x) = []
clauses_in (statements.Unset x) = []
clauses_in (statements.DisallowChanges x) = []
clauses_in (statements.Register r) = r.block
clauses_in (statements.Named c) = c.block

-- the tokens before its clauses
abbrev pub before_clauses : Statement → List Leveled
before_clauses (statements.DefaultTasks x) = []
before_clauses (statements.Property x) = []
before_clauses (statements.Set x) = []
before_clauses (statements.Convention x) = []
before_clauses (statements.Unset x) = []
before_clauses (statements.DisallowChanges x) = []
before_clauses (statements.Register r) =
    word (codes "register") ∷ word r.name ∷ action_tokens 0 r.action ++ sign OpenBrace ∷ []
before_clauses (statements.Named c) = word (codes "named") ∷ word c.name ∷ sign OpenBrace ∷ []

-- the line of a statement and the lines of its clauses: each is the line of the first token
abbrev pub statement_lines : List ℕ → Statement → List Placed → ℕ × List ℕ
statement_lines bytes s tokens = (
  line_of bytes tokens,
  each_from (λ c. line_of bytes) (clause_tokens 0) (clauses_in s)
      (drop (length (before_clauses s)) tokens),
)

-- those of all statements
abbrev pub script_lines : List ℕ → List Statement → List Placed → List (ℕ × List ℕ)
script_lines bytes script tokens = each_from (statement_lines bytes) (statement_tokens 0) script tokens

-- The bytes parse as a script, and these are the lines of its statements and clauses.
pub record AreLinesOf (bytes : List ℕ) (lines : List (ℕ × List ℕ)) : Type 0 where
  pub script : List Statement
  pub spells : ParsesAs bytes script
  pub lines_are : lines ≡ script_lines bytes script spells.tokens
