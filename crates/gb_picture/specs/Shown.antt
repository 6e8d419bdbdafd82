-- Which characters of a text are shown, and what replaces the others.
use Rattle.std.specs.Prelude.{ℕ, ◌==◌, ◌&&◌, ◌||◌, Bool, List, if◌then◌else◌, encode_utf8, map}
use Rattle.std.specs.Prelude.{nat_le, nat_lt}
use Rattle.std.specs.List.{flat_map}
use Rattle.std.specs.Str.{chars}

abbrev pub is_between : ℕ → ℕ → ℕ → Bool
is_between first last c = nat_le first c && nat_le c last

-- A control character (below U+0020, and U+007F to U+009F), a sign of direction (U+061C, U+200E and U+200F,
-- U+202A to U+202E, U+2066 to U+2069), or the end of a line or paragraph (U+2028, U+2029).
abbrev pub is_hidden : ℕ → Bool
is_hidden c =
    nat_lt c 0x20 || is_between 0x7F 0x9F c || (c == 0x61C) || is_between 0x200E 0x200F c
    || is_between 0x2028 0x202E c || is_between 0x2066 0x2069 c

-- U+FFFD instead of a character that is not shown
abbrev pub shown_char : ℕ → ℕ
shown_char c = if is_hidden c then 0xFFFD else c

-- the shown characters of a text
abbrev pub shown : List ℕ → List ℕ
shown text = map shown_char (chars text)

-- characters in UTF-8
abbrev pub bytes_of : List ℕ → List ℕ
bytes_of cs = flat_map encode_utf8 cs

-- the printed form of a text
abbrev pub shown_text : List ℕ → List ℕ
shown_text text = bytes_of (shown text)
