-- Cutting a text from the left, a part at a time.
use Rattle.std.specs.Prelude.{ℕ, zero, suc, ◌+◌, Bool, not, ◌==◌, List, [], ◌∷◌, ◌++◌, drop, length, Option}
use Rattle.std.specs.Prelude.{None, Some, if◌then◌else◌, take_while, nat_le, ◌&&◌}
use Rattle.std.specs.List.{prefix_len}
use Rattle.gb_core.specs.Name.{is_name, is_name_byte}
use Rattle.gb_script.specs.declared.token.Sign.{Sign}
use Rattle.gb_script.specs.declared.token.Sign.TheVariants.{OpenBrace, CloseBrace, OpenParen, CloseParen}
use Rattle.gb_script.specs.declared.token.Sign.TheVariants.{OpenBracket, CloseBracket, Comma}
use Rattle.gb_script.specs.declared.token.Sign.TheVariants.{Dot, Colon, Equals}
use Rattle.gb_script.specs.declared.token.Token.TheVariants.{Word, Text, Mark, Wrong}
use Rattle.gb_script.specs.declared.lexing.Part.{Part}
use Rattle.gb_script.specs.declared.lexing.Part.TheVariants.{Newline, Gap, Found}
use Rattle.gb_script.specs.Lexing.{begins, is_blank, is_newline, Placed}

-- the mark of a byte
abbrev pub sign_of : ℕ → Option Sign
sign_of b =
    if b == 123 then Some OpenBrace
    else (if b == 125 then Some CloseBrace
    else (if b == 40 then Some OpenParen
    else (if b == 41 then Some CloseParen
    else (if b == 91 then Some OpenBracket
    else (if b == 93 then Some CloseBracket
    else (if b == 44 then Some Comma
    else (if b == 46 then Some Dot
    else (if b == 58 then Some Colon
    else (if b == 61 then Some Equals
    else None)))))))))

-- A byte that is literal in a text: no control byte, no quotation mark (34) and no backslash (92).
abbrev pub is_plain : ℕ → Bool
is_plain b = nat_le 32 b && not (b == 34) && not (b == 92)

-- the byte that this one denotes after a backslash
abbrev pub unescaped : ℕ → Option ℕ
unescaped e =
    if e == 34 then Some 34
    else (if e == 92 then Some 92
    else (if e == 110 then Some 10
    else (if e == 116 then Some 9
    else None)))

-- the text before its first byte that fails the test, and the text from there on
abbrev pub past_run : (ℕ → Bool) → List ℕ → List ℕ
past_run test text = drop (prefix_len test text) text

-- the result of a content and the text after it, with this put before the content
abbrev pub with_content : List ℕ → Option (List ℕ × List ℕ) → Option (List ℕ × List ℕ)
with_content prefix None = None
with_content prefix (Some x) = Some (prefix ++ x.0, x.1)

-- a byte after a backslash, and the text after the two
abbrev pub escape_of : List ℕ → Option ℕ → Option (ℕ × List ℕ)
escape_of rest None = None
escape_of rest (Some b) = Some (b, rest)

unfoldable pub escape_at : List ℕ → Option (ℕ × List ℕ)
escape_at [] = None
escape_at (b ∷ []) = None
escape_at (b ∷ e ∷ bs) = if b == 92 then escape_of bs (unescaped e) else None

-- an escaped byte before this content
abbrev pub escaped_before : Option ℕ → Option (List ℕ × List ℕ) → Option (List ℕ × List ℕ)
escaped_before None found = None
escaped_before (Some b) found = with_content (b ∷ []) found

-- the content of a text and the input after its closing mark, from the input after its opening mark
unfoldable pub content_at : List ℕ → Option (List ℕ × List ℕ)
content_at [] = None
content_at (b ∷ []) = if b == 34 then Some ([], []) else None
content_at (b ∷ e ∷ bs) =
    if b == 34 then Some ([], e ∷ bs)
    else (if b == 92 then escaped_before (unescaped e) (content_at bs)
    else (if is_plain b then with_content (b ∷ []) (content_at (e ∷ bs))
    else None))

-- nothing more of the text matters
abbrev pub lost : Part × List ℕ
lost = (Found Wrong, [])

abbrev pub text_of : Option (List ℕ × List ℕ) → Part × List ℕ
text_of None = lost
text_of (Some x) = (Found (Text x.0), x.1)

-- a word, all of its run
unfoldable pub word_at : List ℕ → Part × List ℕ
word_at text =
    if is_name (take_while is_name_byte text)
    then (Found (Word (take_while is_name_byte text)), past_run is_name_byte text)
    else lost

-- a comment up to its newline, from the input after its first slash
unfoldable pub comment_at : List ℕ → Part × List ℕ
comment_at text =
    if begins (λ b. b == 47) text then (Gap, past_run (λ b. not (is_newline b)) text)
    else lost

abbrev pub mark_of : List ℕ → Option Sign → Part × List ℕ
mark_of rest None = lost
mark_of rest (Some s) = (Found (Mark s), rest)

-- the piece at the front, and the text after it
unfoldable pub part_at : List ℕ → Part × List ℕ
part_at [] = lost
part_at (b ∷ bs) =
    if b == 10 then (Newline, bs)
    else (if is_blank b then (Gap, bs)
    else (if b == 47 then comment_at bs
    else (if b == 34 then text_of (content_at bs)
    else (if is_name_byte b then word_at (b ∷ bs)
    else mark_of bs (sign_of b)))))

-- the tokens of a piece at a line, before those of the text after it
abbrev pub scan_next : (ℕ → List ℕ → List Placed) → ℕ → Part × List ℕ → List Placed
scan_next more line (Newline, rest) = more (line + 1) rest
scan_next more line (Gap, rest) = more line rest
scan_next more line (Found t, rest) = (t, line) ∷ more line rest

-- the tokens of at most this many pieces, each with its line
unfoldable pub scan_at : ℕ → ℕ → List ℕ → List Placed
scan_at zero line text = []
scan_at (suc n) line [] = []
scan_at (suc n) line (b ∷ bs) = scan_next (scan_at n) line (part_at (b ∷ bs))

-- the tokens of a text from a line on
abbrev pub scan : ℕ → List ℕ → List Placed
scan line text = scan_at (length text) line text
