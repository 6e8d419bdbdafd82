-- How the kinds that work file by file edit the bytes of one file.
use Rattle.std.specs.Prelude.{ℕ, Bool, List, [], ◌∷◌, ◌++◌, length, is_some, take}
use Rattle.std.specs.List.{concat, filter}
use Rattle.memchr.specs.Find.{first_of, matches}
use Rattle.bstr.specs.Text.{lines_of, replaced_at}
use Rattle.hex.specs.Hex.{encode_lower}
use Rattle.sha2.specs.Sha256.{sha256}

abbrev pub line_feed : ℕ
line_feed = 10

-- the digest of the bytes in lower-case hex, and a line feed
abbrev pub sum_line : List ℕ → List ℕ
sum_line bytes = encode_lower (sha256 bytes) ++ line_feed ∷ []

-- the text occurs somewhere in the line
abbrev pub occurs : List ℕ → List ℕ → Bool
occurs text line = is_some (first_of (matches line text 0))

-- the lines in which the text occurs; a line goes up to its line feed, which the last one may lack
abbrev pub kept_lines : List ℕ → List ℕ → List ℕ
kept_lines text bytes = concat (filter (occurs text) (lines_of bytes))

-- a key between two `@`
abbrev pub token : List ℕ → List ℕ
token key = 64 ∷ key ++ 64 ∷ []

-- One byte more than a file may have. A file with so many is refused, whatever follows them.
abbrev pub most_made : ℕ
most_made = 8388609

-- The bytes with the value in place of each sign, and of them no more than show that a file is too large.
-- Signs are found from the left and do not overlap, and an inserted value is not searched for them.
abbrev pub replaced : List ℕ → List ℕ → List ℕ → List ℕ
replaced bytes sign value = take most_made (replaced_at bytes (length sign) value 0 (matches bytes sign 0))

-- the bytes with the value in place of each token of the key
abbrev pub with_value : List ℕ → List ℕ → List ℕ → List ℕ
with_value key value bytes = replaced bytes (token key) value
