-- The kind of a comment or a token, which its first byte decides.
use Rattle.std.specs.Prelude.{ℕ, Bool, true, false, ◌||◌, ◌==◌, List, [], ◌∷◌, if◌then◌else◌}
use Rattle.gb_core.specs.Name.{is_name_byte}
use Rattle.gb_format.specs.declared.kind.Kind.{Kind}
use Rattle.gb_format.specs.declared.kind.Kind.TheVariants.{Comment, Word, Text, OpenBrace, CloseBrace}
use Rattle.gb_format.specs.declared.kind.Kind.TheVariants.{OpenParen, OpenBracket, Close, Comma, Dot, Sign}

abbrev pub kind_of_sign : ℕ → Kind
kind_of_sign b =
    if b == 123 then OpenBrace
    else (if b == 125 then CloseBrace
    else (if b == 40 then OpenParen
    else (if b == 91 then OpenBracket
    else (if b == 41 then Close
    else (if b == 93 then Close
    else (if b == 44 then Comma
    else (if b == 46 then Dot
    else Sign)))))))

abbrev pub kind_of : List ℕ → Kind
kind_of [] = Sign
kind_of (b ∷ bs) =
    if b == 47 then Comment
    else (if b == 34 then Text
    else (if is_name_byte b then Word
    else kind_of_sign b))

-- no space follows it
abbrev pub is_tight_after : Kind → Bool
is_tight_after OpenParen = true
is_tight_after OpenBracket = true
is_tight_after Dot = true
is_tight_after k = false

-- no space precedes it
abbrev pub is_tight_before : Kind → Bool
is_tight_before OpenParen = true
is_tight_before Close = true
is_tight_before Comma = true
is_tight_before Dot = true
is_tight_before k = false

-- no space separates the two
abbrev pub is_tight : Kind → Kind → Bool
is_tight before k = is_tight_after before || is_tight_before k

-- a bracket that opens
abbrev pub is_open : Kind → Bool
is_open OpenParen = true
is_open OpenBracket = true
is_open k = false
