-- A text is a sequence of pieces, which are blanks, comments and tokens.
use Rattle.std.specs.Prelude.{◌≡◌, ℕ, ◌+◌, Bool, false, not, ◌||◌, ◌==◌, nat_le, IsTrue, List, [], ◌∷◌}
use Rattle.std.specs.Prelude.{◌++◌, if◌then◌else◌, count_by}
use Rattle.std.specs.List.{flat_map, list_all}
use Rattle.gb_core.specs.Name.{is_name, is_name_byte}
use Rattle.gb_script.specs.declared.token.Sign.{Sign}
use Rattle.gb_script.specs.declared.token.Sign.TheVariants.{OpenBrace, CloseBrace, OpenParen, CloseParen}
use Rattle.gb_script.specs.declared.token.Sign.TheVariants.{OpenBracket, CloseBracket, Comma}
use Rattle.gb_script.specs.declared.token.Sign.TheVariants.{Dot, Colon, Equals}
use Rattle.gb_script.specs.declared.token.Token.{Token}
use Rattle.gb_script.specs.declared.token.Token.TheVariants.{Word, Text, Mark, Wrong}

-- a space, a tab, a newline or a carriage return
abbrev pub is_blank : ℕ → Bool
is_blank b = b == 32 || b == 9 || b == 10 || b == 13

abbrev pub is_newline : ℕ → Bool
is_newline b = b == 10

-- the byte of a mark
abbrev pub sign_byte : Sign → ℕ
sign_byte OpenBrace = 123
sign_byte CloseBrace = 125
sign_byte OpenParen = 40
sign_byte CloseParen = 41
sign_byte OpenBracket = 91
sign_byte CloseBracket = 93
sign_byte Comma = 44
sign_byte Dot = 46
sign_byte Colon = 58
sign_byte Equals = 61

-- how a byte is written in a text: \" \\ \n \t, or itself
abbrev pub escaped : ℕ → List ℕ
escaped b =
    if b == 34 then 92 ∷ 34 ∷ []
    else (if b == 92 then 92 ∷ 92 ∷ []
    else (if b == 10 then 92 ∷ 110 ∷ []
    else (if b == 9 then 92 ∷ 116 ∷ []
    else b ∷ [])))

-- a byte that a text can have: of the control bytes only newline and tab
abbrev pub is_writable : ℕ → Bool
is_writable b = nat_le 32 b || b == 10 || b == 9

-- the first one, if there is one, passes the test
abbrev pub begins : {A : Type 0} → (A → Bool) → List A → Bool
begins test [] = false
begins test (x ∷ xs) = test x

-- a blank, a comment or a token
pub data Piece : Type 0 where
  Blank : (b : ℕ) → Piece
  -- the rest after //
  Comment : (c : List ℕ) → Piece
  Single : (t : Token) → Piece

-- how a piece is written
abbrev pub written : Piece → List ℕ
written (Blank b) = b ∷ []
written (Comment c) = 47 ∷ 47 ∷ c
written (Single (Word w)) = w
written (Single (Text t)) = 34 ∷ flat_map escaped t ++ 34 ∷ []
written (Single (Mark s)) = sign_byte s ∷ []
written (Single Wrong) = []

-- The piece may be followed by this text. A comment goes up to a newline or the end;
-- a word is all of its run.
abbrev pub MayPrecede : Piece → List ℕ → Type 0
MayPrecede (Blank b) rest = IsTrue (is_blank b)
MayPrecede (Comment c) rest =
    IsTrue (list_all (λ b. not (is_newline b)) c) × (begins (λ b. not (is_newline b)) rest ≡ false)
MayPrecede (Single (Word w)) rest = IsTrue (is_name w) × (begins is_name_byte rest ≡ false)
MayPrecede (Single (Text t)) rest = IsTrue (list_all is_writable t)
MayPrecede (Single (Mark s)) rest = Unit {0}
MayPrecede (Single Wrong) rest = ⊥

-- the text is these pieces, one after another, and then the rest
abbrev pub IsCut : List ℕ → List Piece → List ℕ → Type 0
IsCut text [] rest = text ≡ rest
IsCut text (p ∷ ps) rest =
    (after : List ℕ) × (text ≡ written p ++ after) × MayPrecede p after × IsCut after ps rest

-- No piece is at the front: the text ends, or the next part is a text that is not closed, a word of more
-- than 64 bytes, or anything else that begins no piece.
abbrev pub IsStuck : List ℕ → Type 0
IsStuck rest = (p : Piece) (after : List ℕ) → rest ≡ written p ++ after → MayPrecede p after → ⊥

-- a token and its line
abbrev pub Placed : Type 0
Placed = Token × ℕ

abbrev pub newlines : List ℕ → ℕ
newlines bytes = count_by is_newline bytes

-- the tokens of the pieces from a line on; a token that no script has represents a rest that begins no piece
abbrev pub placed : ℕ → List Piece → List ℕ → List Placed
placed line [] [] = []
placed line [] (b ∷ rest) = (Wrong, line) ∷ []
placed line (Blank b ∷ ps) rest = placed (line + newlines (b ∷ [])) ps rest
placed line (Comment c ∷ ps) rest = placed line ps rest
placed line (Single t ∷ ps) rest = (t, line) ∷ placed line ps rest

-- The tokens of the text, each with its line: 1 plus the number of newlines before it. Nothing after a
-- position that begins no piece matters.
pub record HasTokens (text : List ℕ) (tokens : List Placed) : Type 0 where
  pub pieces : List Piece
  pub rest : List ℕ
  pub cut : IsCut text pieces rest
  pub stuck : IsStuck rest
  pub tokens_are : tokens ≡ placed 1 pieces rest
