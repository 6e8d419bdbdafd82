-- Worked spellings, by computation.
use Rattle.std.proofs.Common.{◌≡◌, ℕ, true, false, List, [], ◌∷◌, refl}
use Rattle.std.specs.Prelude.{codes}
use Rattle.gb_script.specs.declared.token.Sign.TheVariants.{OpenParen, CloseParen, OpenBracket, CloseBracket, Comma, Dot, Equals}
use Rattle.gb_script.specs.declared.token.Token.TheVariants.{Mark}
use Rattle.gb_script.specs.declared.function.Function.{Function}
use Rattle.gb_script.specs.declared.script.Clause.TheVariants as clauses
use Rattle.gb_script.specs.declared.script.Statement.TheVariants as statements
use Rattle.gb_script.specs.Tree.{Tree, Chain, TextOf, FlagOf, ListOf, PropertyOf, TheBuildDir, MapBy, NoTree, AndTree, NoLink, AndLink}
use Rattle.gb_script.specs.Words.{is_reserved}
use Rattle.gb_script.specs.Grammar.{word, text, sign, opened, tree_tokens, clause_tokens, script_tokens, settings_tokens}

abbrev plain : List ℕ → Function
plain name = record { name = name; arguments = [] }

abbrev property : List ℕ → Tree
property name = Chain (PropertyOf name) NoLink

-- onlyIf is is isTrue
only_if : clause_tokens 0 (clauses.OnlyIf (record { value = property (codes "is"); test = plain (codes "isTrue") })) ≡ word (codes "onlyIf") ∷ word (codes "is") ∷ word (codes "is") ∷ word (codes "isTrue") ∷ []
only_if = refl

-- [["a"], []]: the inner brackets are the second that are open at once
nested : tree_tokens 0 (Chain (ListOf (AndTree (Chain (ListOf (AndTree (Chain (TextOf (codes "a")) NoLink) NoTree)) NoLink) (AndTree (Chain (ListOf NoTree) NoLink) NoTree))) NoLink) ≡ opened OpenBracket 0 ∷ opened OpenBracket 1 ∷ text (codes "a") ∷ sign CloseBracket ∷ sign Comma ∷ opened OpenBracket 1 ∷ sign CloseBracket ∷ sign CloseBracket ∷ []
nested = refl

-- buildDir.map(f).map(g): the dots are the first and the second of their chain
chained : tree_tokens 0 (Chain TheBuildDir (AndLink (MapBy (plain (codes "f"))) (AndLink (MapBy (plain (codes "g"))) NoLink))) ≡ word (codes "buildDir") ∷ (Mark Dot, 1) ∷ word (codes "map") ∷ opened OpenParen 0 ∷ word (codes "f") ∷ sign CloseParen ∷ (Mark Dot, 2) ∷ word (codes "map") ∷ opened OpenParen 0 ∷ word (codes "g") ∷ sign CloseParen ∷ []
chained = refl

-- inputFiles src nameOnly from m exclude "x"
files : clause_tokens 0 (clauses.InputFiles (record { name = codes "src"; incremental = false; skip_when_empty = false; name_only = true; from = property (codes "m") ∷ []; include = []; exclude = codes "x" ∷ [] })) ≡ word (codes "inputFiles") ∷ word (codes "src") ∷ word (codes "nameOnly") ∷ word (codes "from") ∷ word (codes "m") ∷ word (codes "exclude") ∷ text (codes "x") ∷ []
files = refl

-- property a set a = true
statements_row : script_tokens (statements.Property (codes "a") ∷ statements.Set (record { name = codes "a"; value = Chain (FlagOf true) NoLink }) ∷ []) ≡ word (codes "property") ∷ word (codes "a") ∷ word (codes "set") ∷ word (codes "a") ∷ sign Equals ∷ word (codes "true") ∷ []
statements_row = refl

-- include "lib", ":a:b"
included : settings_tokens ((codes "lib" ∷ codes ":a:b" ∷ []) ∷ []) ≡ word (codes "include") ∷ text (codes "lib") ∷ sign Comma ∷ text (codes ":a:b") ∷ []
included = refl

-- `true` is no name of a property, and `set` is one
reserved : is_reserved (codes "true") ≡ true
reserved = refl

free : is_reserved (codes "set") ≡ false
free = refl
