-- The grammar: the tokens of a script. A bracket has the number of brackets that are open with it, and the
-- dot of a step has the number of that step in its chain; every other token has 0.
use Rattle.std.specs.Prelude.{ℕ, ◌+◌, Bool, true, false, List, [], ◌∷◌, ◌++◌, codes, map, Option, None, Some}
use Rattle.std.specs.List.{flat_map}
use Rattle.gb_script.specs.declared.token.Sign.{Sign}
use Rattle.gb_script.specs.declared.token.Sign.TheVariants.{OpenBrace, CloseBrace, OpenParen, CloseParen}
use Rattle.gb_script.specs.declared.token.Sign.TheVariants.{OpenBracket, CloseBracket, Comma}
use Rattle.gb_script.specs.declared.token.Sign.TheVariants.{Dot, Colon, Equals}
use Rattle.gb_script.specs.declared.token.Token.{Token}
use Rattle.gb_script.specs.declared.token.Token.TheVariants.{Word, Text, Mark}
use Rattle.gb_script.specs.declared.function.Function.{Function}
use Rattle.gb_script.specs.Tree.{Tree, Chain, Root, TextOf, FlagOf, ListOf, PropertyOf, DirOf, FileOf}
use Rattle.gb_script.specs.Tree.{TheBuildDir, GradlePropertyOf, TaskOf, Link, MapBy, FlatMapBy, ZipBy, Else}
use Rattle.gb_script.specs.Tree.{Trees, NoTree, AndTree, Links, NoLink, AndLink}
use Rattle.gb_script.specs.declared.script.Call.{Call}
use Rattle.gb_script.specs.declared.script.Assignment.{Assignment}
use Rattle.gb_script.specs.declared.script.Condition.{Condition}
use Rattle.gb_script.specs.declared.script.InputFiles.{InputFiles}
use Rattle.gb_script.specs.declared.script.Clause.{Clause}
use Rattle.gb_script.specs.declared.script.Clause.TheVariants as clauses
use Rattle.gb_script.specs.declared.script.Registration.{Registration}
use Rattle.gb_script.specs.declared.script.Configuration.{Configuration}
use Rattle.gb_script.specs.declared.script.Statement.{Statement}
use Rattle.gb_script.specs.declared.script.Statement.TheVariants as statements

-- a token, and its depth if it is a bracket that opens or the dot of a step
abbrev pub Leveled : Type 0
Leveled = Token × ℕ

abbrev pub tokens_of : List Leveled → List Token
tokens_of ms = map (λ m. m.0) ms

abbrev pub word : List ℕ → Leveled
word w = (Word w, 0)

abbrev pub text : List ℕ → Leveled
text t = (Text t, 0)

abbrev pub sign : Sign → Leveled
sign s = (Mark s, 0)

-- a bracket inside d others
abbrev pub opened : Sign → ℕ → Leveled
opened s d = (Mark s, d + 1)

-- ---- texts and functions

-- one, and the others, each after a comma
abbrev pub list_tokens : {A : Type 0} → (A → List Leveled) → List A → List Leveled
list_tokens spelled [] = []
list_tokens spelled (x ∷ xs) = spelled x ++ flat_map (λ y. sign Comma ∷ spelled y) xs

abbrev pub text_tokens : List ℕ → List Leveled
text_tokens t = text t ∷ []

-- TEXT ("," TEXT)*
abbrev pub texts_tokens : List (List ℕ) → List Leveled
texts_tokens ts = list_tokens text_tokens ts

-- "(" TEXT ")"
abbrev pub bracketed_tokens : ℕ → List ℕ → List Leveled
bracketed_tokens d t = opened OpenParen d ∷ text t ∷ sign CloseParen ∷ []

-- texts in brackets, if there are any
abbrev pub given_tokens : ℕ → List (List ℕ) → List Leveled
given_tokens d [] = []
given_tokens d (t ∷ ts) = opened OpenParen d ∷ texts_tokens (t ∷ ts) ++ sign CloseParen ∷ []

-- NAME ["(" TEXTS ")"]
abbrev pub function_tokens : ℕ → Function → List Leveled
function_tokens d f = word f.name ∷ given_tokens d f.arguments

-- ---- expressions

abbrev mutual
  -- the source, and then the steps from the first on
  pub tree_tokens : ℕ → Tree → List Leveled
  tree_tokens d (Chain root links) = root_tokens d root ++ links_tokens d 1 links

  pub root_tokens : ℕ → Root → List Leveled
  root_tokens d (TextOf t) = text t ∷ []
  root_tokens d (FlagOf true) = word (codes "true") ∷ []
  root_tokens d (FlagOf false) = word (codes "false") ∷ []
  root_tokens d (ListOf trees) = opened OpenBracket d ∷ trees_tokens (d + 1) trees ++ sign CloseBracket ∷ []
  root_tokens d (PropertyOf w) = word w ∷ []
  root_tokens d (DirOf t) = word (codes "dir") ∷ bracketed_tokens d t
  root_tokens d (FileOf t) = word (codes "file") ∷ bracketed_tokens d t
  root_tokens d TheBuildDir = word (codes "buildDir") ∷ []
  root_tokens d (GradlePropertyOf t) = word (codes "gradleProperty") ∷ bracketed_tokens d t
  root_tokens d (TaskOf t) = word (codes "task") ∷ bracketed_tokens d t

  -- EXPR ("," EXPR)*
  pub trees_tokens : ℕ → Trees → List Leveled
  trees_tokens d NoTree = []
  trees_tokens d (AndTree tree trees) = tree_tokens d tree ++ further_tokens d trees

  -- the others, each after a comma
  pub further_tokens : ℕ → Trees → List Leveled
  further_tokens d NoTree = []
  further_tokens d (AndTree tree trees) = sign Comma ∷ tree_tokens d tree ++ further_tokens d trees

  -- the steps from the n-th on, each after its dot
  pub links_tokens : ℕ → ℕ → Links → List Leveled
  links_tokens d n NoLink = []
  links_tokens d n (AndLink link links) =
      (Mark Dot, n) ∷ link_tokens d link ++ links_tokens d (n + 1) links

  pub link_tokens : ℕ → Link → List Leveled
  link_tokens d (MapBy f) =
      word (codes "map") ∷ opened OpenParen d ∷ function_tokens (d + 1) f ++ sign CloseParen ∷ []
  link_tokens d (FlatMapBy f) =
      word (codes "flatMap") ∷ opened OpenParen d ∷ function_tokens (d + 1) f ++ sign CloseParen ∷ []
  link_tokens d (ZipBy tree f) =
      word (codes "zip") ∷ opened OpenParen d ∷ tree_tokens (d + 1) tree ++ sign Comma
      ∷ function_tokens (d + 1) f ++ sign CloseParen ∷ []
  link_tokens d (Else tree) =
      word (codes "orElse") ∷ opened OpenParen d ∷ tree_tokens (d + 1) tree ++ sign CloseParen ∷ []

-- EXPR ("," EXPR)*
abbrev pub values_tokens : ℕ → List Tree → List Leveled
values_tokens d trees = list_tokens (tree_tokens d) trees

-- ---- clauses

-- values in brackets, if there are any
abbrev pub arguments_tokens : ℕ → List Tree → List Leveled
arguments_tokens d [] = []
arguments_tokens d (t ∷ ts) = opened OpenParen d ∷ values_tokens (d + 1) (t ∷ ts) ++ sign CloseParen ∷ []

-- NAME ["(" EXPRS ")"]
abbrev pub call_tokens : ℕ → Call → List Leveled
call_tokens d c = word c.name ∷ arguments_tokens d c.arguments

-- NAME "=" EXPR
abbrev pub assignment_tokens : ℕ → Assignment → List Leveled
assignment_tokens d a = word a.name ∷ sign Equals ∷ tree_tokens d a.value

-- EXPR is FUNCTION
abbrev pub condition_tokens : ℕ → Condition → List Leveled
condition_tokens d c = tree_tokens d c.value ++ word (codes "is") ∷ function_tokens d c.test

-- the word, if it is present
abbrev pub said_tokens : List ℕ → Bool → List Leveled
said_tokens w true = word w ∷ []
said_tokens w false = []

-- texts after the word, if there are any
abbrev pub patterns_tokens : List ℕ → List (List ℕ) → List Leveled
patterns_tokens w [] = []
patterns_tokens w (t ∷ ts) = word w ∷ texts_tokens (t ∷ ts)

-- NAME [incremental] [skipWhenEmpty] [nameOnly] from EXPRS [include TEXTS] [exclude TEXTS]
abbrev pub input_files_tokens : ℕ → InputFiles → List Leveled
input_files_tokens d i =
    word i.name
    ∷ said_tokens (codes "incremental") i.incremental
    ++ said_tokens (codes "skipWhenEmpty") i.skip_when_empty
    ++ said_tokens (codes "nameOnly") i.name_only
    ++ word (codes "from")
    ∷ values_tokens d i.from
    ++ patterns_tokens (codes "include") i.include
    ++ patterns_tokens (codes "exclude") i.exclude

abbrev pub clause_tokens : ℕ → Clause → List Leveled
clause_tokens d (clauses.Input a) = word (codes "input") ∷ assignment_tokens d a
clause_tokens d (clauses.InputFiles i) = word (codes "inputFiles") ∷ input_files_tokens d i
clause_tokens d (clauses.OutputFile a) = word (codes "outputFile") ∷ assignment_tokens d a
clause_tokens d (clauses.OutputDir a) = word (codes "outputDir") ∷ assignment_tokens d a
clause_tokens d (clauses.DependsOn ts) = word (codes "dependsOn") ∷ texts_tokens ts
clause_tokens d (clauses.MustRunAfter ts) = word (codes "mustRunAfter") ∷ texts_tokens ts
clause_tokens d (clauses.FinalizedBy ts) = word (codes "finalizedBy") ∷ texts_tokens ts
clause_tokens d (clauses.DoFirst c) = word (codes "doFirst") ∷ call_tokens d c
clause_tokens d (clauses.DoLast c) = word (codes "doLast") ∷ call_tokens d c
clause_tokens d (clauses.OnlyIf c) = word (codes "onlyIf") ∷ condition_tokens d c
clause_tokens d (clauses.UpToDateWhen c) = word (codes "upToDateWhen") ∷ condition_tokens d c
clause_tokens d (clauses.Enabled tree) = word (codes "enabled") ∷ tree_tokens d tree

-- "{" CLAUSE* "}"
abbrev pub block_tokens : ℕ → List Clause → List Leveled
block_tokens d cs = sign OpenBrace ∷ flat_map (clause_tokens d) cs ++ sign CloseBrace ∷ []

-- ---- statements

-- the call after a colon, if there is one
abbrev pub action_tokens : ℕ → Option Call → List Leveled
action_tokens d None = []
action_tokens d (Some c) = sign Colon ∷ call_tokens d c

-- NAME [":" CALL] BLOCK
abbrev pub registration_tokens : ℕ → Registration → List Leveled
registration_tokens d r = word r.name ∷ action_tokens d r.action ++ block_tokens d r.block

-- NAME BLOCK
abbrev pub configuration_tokens : ℕ → Configuration → List Leveled
configuration_tokens d c = word c.name ∷ block_tokens d c.block

abbrev pub statement_tokens : ℕ → Statement → List Leveled
statement_tokens d (statements.DefaultTasks ts) = word (codes "defaultTasks") ∷ texts_tokens ts
statement_tokens d (statements.Property w) = word (codes "property") ∷ word w ∷ []
statement_tokens d (statements.Set a) = word (codes "set") ∷ assignment_tokens d a
statement_tokens d (statements.Convention a) = word (codes "convention") ∷ assignment_tokens d a
statement_tokens d (statements.Unset w) = word (codes "unset") ∷ word w ∷ []
statement_tokens d (statements.DisallowChanges w) = word (codes "disallowChanges") ∷ word w ∷ []
statement_tokens d (statements.Register r) = word (codes "register") ∷ registration_tokens d r
statement_tokens d (statements.Named c) = word (codes "named") ∷ configuration_tokens d c

-- the statements one after another
abbrev pub script_tokens : List Statement → List Leveled
script_tokens statements = flat_map (statement_tokens 0) statements

-- ---- settings

-- include TEXTS
abbrev pub include_tokens : List (List ℕ) → List Leveled
include_tokens ts = word (codes "include") ∷ texts_tokens ts

-- one after another
abbrev pub settings_tokens : List (List (List ℕ)) → List Leveled
settings_tokens includes = flat_map include_tokens includes
