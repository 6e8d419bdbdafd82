-- How a text parses in a notation, or has a fault. A notation is its values and the spelling of each.
use Rattle.std.specs.Prelude.{◌≡◌, ℕ, ◌+◌, ◌<◌, ◌≤◌, List, [], ◌∷◌, ◌++◌, length, map, Result}
use Rattle.std.specs.Prelude.{Ok, Err, IsUtf8}
use Rattle.gb_script.specs.declared.token.Token.{Token}
use Rattle.gb_script.specs.declared.fault.ScriptFault.{ScriptFault}
use Rattle.gb_script.specs.declared.fault.ScriptFault.TheVariants.{OutOfMemory, Syntax, TooLong, TooDeep}
use Rattle.gb_script.specs.declared.fault.ScriptFault.TheVariants.{NotUtf8}
use Rattle.gb_script.specs.Lexing.{Placed, HasTokens, newlines}
use Rattle.gb_script.specs.Grammar.{Leveled, tokens_of}
use Rattle.gb_script.specs.Verdict.{AllWithin, IsFirstStray, IsFirstDeep}

abbrev pub tokens_in : List Placed → List Token
tokens_in tokens = map (λ p. p.0) tokens

-- The bytes are a text of at most 1 MiB, and these are its tokens.
pub record IsSource (bytes : List ℕ) (tokens : List Placed) : Type 0 where
  pub short : length bytes ≤ 1048576
  pub utf8 : IsUtf8 bytes
  pub has : HasTokens bytes tokens

-- the line of the first of these tokens, or the last line of the text if none is left
abbrev pub line_of : List ℕ → List Placed → ℕ
line_of bytes [] = 1 + newlines bytes
line_of bytes (p ∷ ps) = p.1

module _ {A : Type 0} (Is : A → Type 0) (spelled : A → List Leveled) where
  -- The bytes parse as the value: their tokens are its spelling, and pass no limit.
  pub record ParsesTo (bytes : List ℕ) (said : A) : Type 0 where
    pub tokens : List Placed
    pub source : IsSource bytes tokens
    pub tokens_are : tokens_in tokens ≡ tokens_of (spelled said)
    pub within : AllWithin (spelled said)
    pub is : Is said

  -- the line of the first token that no spelling has after the tokens before it, or the last line
  -- if the text ends too early
  pub record IsSyntaxFault (bytes : List ℕ) (line : ℕ) : Type 0 where
    pub before : List Placed
    pub bad : List Placed
    pub source : IsSource bytes (before ++ bad)
    pub first : IsFirstStray Is spelled (tokens_in before) (tokens_in bad)
    pub line_is : line ≡ line_of bytes bad

  -- the line of the first token past a limit, which some spelling has there, limits aside
  pub record IsDepthFault (bytes : List ℕ) (line : ℕ) : Type 0 where
    pub before : List Placed
    pub bad : List Placed
    pub source : IsSource bytes (before ++ bad)
    pub first : IsFirstDeep Is spelled (tokens_in before) (tokens_in bad)
    pub line_is : line ≡ line_of bytes bad

  -- The meaning of the bytes in the notation, or the one fault that they have.
  abbrev pub IsSaid : List ℕ → Result A ScriptFault → Type 0
  IsSaid bytes (Ok said) = ParsesTo bytes said
  IsSaid bytes (Err OutOfMemory) = ⊥
  IsSaid bytes (Err (Syntax line)) = IsSyntaxFault bytes line
  IsSaid bytes (Err TooLong) = 1048576 < length bytes
  IsSaid bytes (Err (TooDeep line)) = IsDepthFault bytes line
  IsSaid bytes (Err NotUtf8) = (length bytes ≤ 1048576) × ¬ (IsUtf8 bytes)

  -- bytes never have two meanings
  abbrev pub HasOneMeaning : Type 0
  HasOneMeaning = (bytes : List ℕ) (a b : Result A ScriptFault) → IsSaid bytes a → IsSaid bytes b → a ≡ b
