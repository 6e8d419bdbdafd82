-- The readers of the notation.
use Rattle.std.specs.Prelude.{ℕ, zero, suc, Bool, true, false, not, List, [], ◌∷◌, length, Option, Some}
use Rattle.std.specs.Prelude.{None, Ok, codes}
use Rattle.gb_script.specs.declared.token.Sign.TheVariants.{OpenBrace, CloseBrace, OpenParen, CloseParen}
use Rattle.gb_script.specs.declared.token.Sign.TheVariants.{OpenBracket, CloseBracket, Comma}
use Rattle.gb_script.specs.declared.token.Sign.TheVariants.{Dot, Colon, Equals}
use Rattle.gb_script.specs.declared.token.Token.{Token}
use Rattle.gb_script.specs.declared.token.Token.TheVariants.{Word, Text, Mark, Wrong}
use Rattle.gb_script.specs.declared.keywords.SourceWord.{SourceWord}
use Rattle.gb_script.specs.declared.keywords.SourceWord.TheVariants as sources
use Rattle.gb_script.specs.declared.keywords.StepWord.{StepWord}
use Rattle.gb_script.specs.declared.keywords.StepWord.TheVariants as steps
use Rattle.gb_script.specs.declared.keywords.ClauseWord.{ClauseWord}
use Rattle.gb_script.specs.declared.keywords.ClauseWord.TheVariants as words
use Rattle.gb_script.specs.declared.keywords.OrderWord.{OrderWord}
use Rattle.gb_script.specs.declared.keywords.OrderWord.TheVariants as orders
use Rattle.gb_script.specs.declared.keywords.RunWord.{RunWord}
use Rattle.gb_script.specs.declared.keywords.RunWord.TheVariants as runs
use Rattle.gb_script.specs.declared.keywords.StatementWord.{StatementWord}
use Rattle.gb_script.specs.declared.keywords.StatementWord.TheVariants as begins_with
use Rattle.gb_script.specs.declared.keywords.PropertyWord.{PropertyWord}
use Rattle.gb_script.specs.declared.keywords.PropertyWord.TheVariants as properties
use Rattle.gb_script.specs.declared.function.Function.{Function}
use Rattle.gb_script.specs.declared.script.Call.{Call}
use Rattle.gb_script.specs.declared.script.Assignment.{Assignment}
use Rattle.gb_script.specs.declared.script.Condition.{Condition}
use Rattle.gb_script.specs.declared.script.InputFiles.{InputFiles}
use Rattle.gb_script.specs.declared.script.Clause.{Clause}
use Rattle.gb_script.specs.declared.script.Clause.TheVariants as clauses
use Rattle.gb_script.specs.declared.script.Registration.{Registration}
use Rattle.gb_script.specs.declared.script.Configuration.{Configuration}
use Rattle.gb_script.specs.declared.script.Statement.{Statement}
use Rattle.gb_script.specs.declared.script.Statement.TheVariants as statements
use Rattle.gb_script.specs.Tree.{Tree, Chain, Root, TextOf, FlagOf, ListOf, PropertyOf, DirOf, FileOf}
use Rattle.gb_script.specs.Tree.{TheBuildDir, GradlePropertyOf, TaskOf, Link, MapBy, FlatMapBy, ZipBy}
use Rattle.gb_script.specs.Tree.{Else, trees_of, links_of}
use Rattle.gb_script.specs.Words.{source_words, step_words, clause_words, statement_words, meaning_in}
use Rattle.gb_script.specs.Reading.{Reader, ◌>>=◌, stray, is_sign, is_word, is_any, skip_at, name_at}
use Rattle.gb_script.specs.Reading.{property_at, text_at, meaning_at, maybe_at, many_at, no_matter, past_at}
use Rattle.gb_script.specs.Reading.{list_at, pair_at, made_at, closed_at, opened_at, said_at}

-- a text in brackets
unfoldable pub bracketed_text_at : ℕ → Reader (List ℕ)
bracketed_text_at room ts = opened_at OpenParen room (λ inner. closed_at (is_sign CloseParen) text_at) ts

-- texts in brackets
unfoldable pub bracketed_texts_at : ℕ → Reader (List (List ℕ))
bracketed_texts_at room ts =
    opened_at OpenParen room (λ inner. closed_at (is_sign CloseParen) (list_at text_at)) ts

abbrev pub function_from : List ℕ × List (List ℕ) → Function
function_from x = record { name = x.0; arguments = x.1 }

unfoldable pub function_at : ℕ → Reader Function
function_at room ts =
    made_at function_from
    (pair_at name_at (λ ts. maybe_at (is_sign OpenParen) (bracketed_texts_at room) [] ts)) ts

-- ---- expressions

-- the rest of a source, after its word
unfoldable pub root_of_at : ℕ → SourceWord → Reader Root
root_of_at room sources.True ts = Ok (FlagOf true, ts)
root_of_at room sources.False ts = Ok (FlagOf false, ts)
root_of_at room sources.Dir ts = made_at DirOf (bracketed_text_at room) ts
root_of_at room sources.File ts = made_at FileOf (bracketed_text_at room) ts
root_of_at room sources.BuildDir ts = Ok (TheBuildDir, ts)
root_of_at room sources.GradleProperty ts = made_at GradlePropertyOf (bracketed_text_at room) ts
root_of_at room sources.Task ts = made_at TaskOf (bracketed_text_at room) ts

abbrev pub in_list : Token → Bool
in_list t = not (is_sign CloseBracket t)

abbrev pub list_from : List Tree → Root
list_from trees = ListOf (trees_of trees)

-- a list, of values that are read so
unfoldable pub list_root_at : ℕ → Reader Tree → Reader Root
list_root_at room inside ts =
    opened_at OpenBracket room
    (λ inner. closed_at (is_sign CloseBracket)
    (made_at list_from (λ ts. maybe_at in_list (list_at inside) [] ts))) ts

-- the first word as it was found: the word of a source, or else a property
unfoldable pub word_root_at : ℕ → Option SourceWord → List Token → Reader Root
word_root_at room (Some word) whole ts = root_of_at room word ts
word_root_at room None whole ts = made_at PropertyOf property_at whole

unfoldable pub root_at : ℕ → Reader Tree → Reader Root
root_at room inside [] = stray []
root_at room inside (Text t ∷ ts) = Ok (TextOf t, ts)
root_at room inside (Word w ∷ ts) = word_root_at room (meaning_in source_words w) (Word w ∷ ts) ts
root_at room inside (Mark s ∷ ts) = list_root_at room inside (Mark s ∷ ts)
root_at room inside (Wrong ∷ ts) = stray (Wrong ∷ ts)

abbrev pub zip_from : Tree × Function → Link
zip_from x = ZipBy x.0 x.1

-- the rest of a step, after its word
unfoldable pub link_of_at : ℕ → Reader Tree → StepWord → Reader Link
link_of_at room inside steps.Map ts =
    opened_at OpenParen room (λ inner. closed_at (is_sign CloseParen) (made_at MapBy (function_at inner))) ts
link_of_at room inside steps.FlatMap ts =
    opened_at OpenParen room (λ inner. closed_at (is_sign CloseParen) (made_at FlatMapBy (function_at inner)))
    ts
link_of_at room inside steps.Zip ts =
    opened_at OpenParen room
    (λ inner. closed_at (is_sign CloseParen)
    (made_at zip_from (pair_at inside (λ ts. past_at (is_sign Comma) (function_at inner) ts)))) ts
link_of_at room inside steps.OrElse ts =
    opened_at OpenParen room (λ inner. closed_at (is_sign CloseParen) (made_at Else inside)) ts

-- a step, after its dot
unfoldable pub link_at : ℕ → Reader Tree → Reader Link
link_at room inside ts = do
  rest ← skip_at (is_sign Dot) ts
  word ← meaning_at step_words rest
  link_of_at room inside word.0 word.1

abbrev pub chain_from : Root × List Link → Tree
chain_from x = Chain x.0 (links_of x.1)

-- a source, and at most 64 steps
unfoldable pub chain_at : ℕ → Reader Tree → Reader Tree
chain_at room inside ts =
    made_at chain_from
    (pair_at (root_at room inside)
    (λ ts. many_at (is_sign Dot) no_matter (λ s. link_at room inside) 64 tt ts)) ts

-- a value after a bracket for which there was this much room
unfoldable pub inside_at : ℕ → Reader Tree
inside_at zero ts = stray ts
inside_at (suc room) ts = chain_at room (inside_at room) ts

-- a value in which this many more brackets may be open at once
abbrev pub tree_at : ℕ → Reader Tree
tree_at room = inside_at (suc room)

-- ---- clauses

-- values in brackets
unfoldable pub bracketed_values_at : ℕ → Reader (List Tree)
bracketed_values_at room ts =
    opened_at OpenParen room (λ inner. closed_at (is_sign CloseParen) (list_at (tree_at inner))) ts

abbrev pub call_from : List ℕ × List Tree → Call
call_from x = record { name = x.0; arguments = x.1 }

unfoldable pub call_at : ℕ → Reader Call
call_at room ts =
    made_at call_from (pair_at name_at (λ ts. maybe_at (is_sign OpenParen) (bracketed_values_at room) [] ts))
    ts

abbrev pub assignment_from : List ℕ × Tree → Assignment
assignment_from x = record { name = x.0; value = x.1 }

-- a name that is read so, and the value assigned to it
unfoldable pub assignment_at : Reader (List ℕ) → ℕ → Reader Assignment
assignment_at named room ts =
    made_at assignment_from (pair_at named (λ ts. past_at (is_sign Equals) (tree_at room) ts)) ts

abbrev pub condition_from : Tree × Function → Condition
condition_from x = record { value = x.0; test = x.1 }

unfoldable pub condition_at : ℕ → Reader Condition
condition_at room ts =
    made_at condition_from
    (pair_at (tree_at room) (λ ts. past_at (is_word (codes "is")) (function_at room) ts)) ts

-- texts after the word, or none
unfoldable pub patterns_at : List ℕ → Reader (List (List ℕ))
patterns_at w ts = maybe_at (is_word w) (λ ts. past_at (is_word w) (list_at text_at) ts) [] ts

abbrev pub Flags : Type 0
Flags = Bool × (Bool × Bool)

abbrev pub Roots : Type 0
Roots = List Tree × (List (List ℕ) × List (List ℕ))

unfoldable pub flags_at : Reader Flags
flags_at ts =
    pair_at (said_at (codes "incremental"))
    (pair_at (said_at (codes "skipWhenEmpty")) (said_at (codes "nameOnly"))) ts

unfoldable pub roots_at : ℕ → Reader Roots
roots_at room ts =
    pair_at (list_at (tree_at room))
    (pair_at (patterns_at (codes "include")) (patterns_at (codes "exclude"))) ts

abbrev pub input_files_from : List ℕ × (Flags × Roots) → InputFiles
input_files_from x = record {
  name = x.0;
  incremental = x.1.0.0;
  skip_when_empty = x.1.0.1.0;
  name_only = x.1.0.1.1;
  from = x.1.1.0;
  include = x.1.1.1.0;
  exclude = x.1.1.1.1;
}

unfoldable pub input_files_at : ℕ → Reader InputFiles
input_files_at room ts =
    made_at input_files_from
    (pair_at name_at (pair_at flags_at (λ ts. past_at (is_word (codes "from")) (roots_at room) ts))) ts

-- the rest of a clause that orders a task before or after others, after its word
unfoldable pub order_of_at : OrderWord → Reader Clause
order_of_at orders.DependsOn ts = made_at clauses.DependsOn (list_at text_at) ts
order_of_at orders.MustRunAfter ts = made_at clauses.MustRunAfter (list_at text_at) ts
order_of_at orders.FinalizedBy ts = made_at clauses.FinalizedBy (list_at text_at) ts

-- the rest of a clause that sets what a task does or when it runs, after its word
unfoldable pub run_of_at : ℕ → RunWord → Reader Clause
run_of_at room runs.DoFirst ts = made_at clauses.DoFirst (call_at room) ts
run_of_at room runs.DoLast ts = made_at clauses.DoLast (call_at room) ts
run_of_at room runs.OnlyIf ts = made_at clauses.OnlyIf (condition_at room) ts
run_of_at room runs.UpToDateWhen ts = made_at clauses.UpToDateWhen (condition_at room) ts
run_of_at room runs.Enabled ts = made_at clauses.Enabled (tree_at room) ts

-- the rest of a clause, after its word
unfoldable pub clause_of_at : ℕ → ClauseWord → Reader Clause
clause_of_at room words.Input ts = made_at clauses.Input (assignment_at name_at room) ts
clause_of_at room words.InputFiles ts = made_at clauses.InputFiles (input_files_at room) ts
clause_of_at room words.OutputFile ts = made_at clauses.OutputFile (assignment_at name_at room) ts
clause_of_at room words.OutputDir ts = made_at clauses.OutputDir (assignment_at name_at room) ts
clause_of_at room (words.Order word) ts = order_of_at word ts
clause_of_at room (words.Run word) ts = run_of_at room word ts

unfoldable pub clause_at : ℕ → Reader Clause
clause_at room ts = do
  word ← meaning_at clause_words ts
  clause_of_at room word.0 word.1

abbrev pub in_block : Token → Bool
in_block t = not (is_sign CloseBrace t)

unfoldable pub block_at : ℕ → Reader (List Clause)
block_at room ts = do
  inner ← skip_at (is_sign OpenBrace) ts
  clauses ← many_at in_block no_matter (λ s. clause_at room) (length inner) tt inner
  rest ← skip_at (is_sign CloseBrace) clauses.1
  Ok (clauses.0, rest)

-- ---- statements

-- a call after a colon, or none
unfoldable pub action_at : ℕ → Reader (Option Call)
action_at room ts =
    maybe_at (is_sign Colon) (λ ts. past_at (is_sign Colon) (made_at Some (call_at room)) ts) None ts

abbrev pub registration_from : List ℕ × (Option Call × List Clause) → Registration
registration_from x = record { name = x.0; action = x.1.0; block = x.1.1 }

unfoldable pub registration_at : ℕ → Reader Registration
registration_at room ts =
    made_at registration_from (pair_at name_at (pair_at (action_at room) (block_at room))) ts

abbrev pub configuration_from : List ℕ × List Clause → Configuration
configuration_from x = record { name = x.0; block = x.1 }

unfoldable pub configuration_at : ℕ → Reader Configuration
configuration_at room ts = made_at configuration_from (pair_at name_at (block_at room)) ts

-- the rest of a statement about a property, after its word
unfoldable pub property_of_at : ℕ → PropertyWord → Reader Statement
property_of_at room properties.Declare ts = made_at statements.Property property_at ts
property_of_at room properties.Set ts = made_at statements.Set (assignment_at property_at room) ts
property_of_at room properties.Convention ts =
    made_at statements.Convention (assignment_at property_at room) ts
property_of_at room properties.Unset ts = made_at statements.Unset property_at ts
property_of_at room properties.DisallowChanges ts = made_at statements.DisallowChanges property_at ts

-- the rest of a statement, after its word
unfoldable pub statement_of_at : ℕ → StatementWord → Reader Statement
statement_of_at room begins_with.DefaultTasks ts = made_at statements.DefaultTasks (list_at text_at) ts
statement_of_at room (begins_with.Property word) ts = property_of_at room word ts
statement_of_at room begins_with.Register ts = made_at statements.Register (registration_at room) ts
statement_of_at room begins_with.Named ts = made_at statements.Named (configuration_at room) ts

unfoldable pub statement_at : ℕ → Reader Statement
statement_at room ts = do
  word ← meaning_at statement_words ts
  statement_of_at room word.0 word.1

-- the statements up to the end, with room for 64 brackets
unfoldable pub script_at : Reader (List Statement)
script_at ts = many_at is_any no_matter (λ s. statement_at 64) (length ts) tt ts

-- the texts after the word
unfoldable pub include_at : Reader (List (List ℕ))
include_at ts = past_at (is_word (codes "include")) (list_at text_at) ts

unfoldable pub settings_at : Reader (List (List (List ℕ)))
settings_at ts = many_at is_any no_matter (λ s. include_at) (length ts) tt ts
