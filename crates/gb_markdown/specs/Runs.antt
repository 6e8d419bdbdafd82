-- Bytes and runs of bytes.
use Rattle.std.specs.Prelude.{ℕ, ◌+◌, ◌==◌, nat_le, Bool, ◌&&◌, ◌||◌, List, [], ◌∷◌, length, take}
use Rattle.std.specs.Prelude.{if◌then◌else◌}
use Rattle.std.specs.List.{prefix_len}

-- how many bytes at the beginning are the sign
abbrev pub run : ℕ → List ℕ → ℕ
run sign line = prefix_len (λ b. b == sign) line

-- a space, or one of the bytes from the tab to the carriage return
abbrev pub is_space : ℕ → Bool
is_space b = b == 32 || (nat_le 9 b && nat_le b 13)

-- how many bytes at the beginning are white space
abbrev pub spaces : List ℕ → ℕ
spaces line = prefix_len is_space line

abbrev pub is_blank : List ℕ → Bool
is_blank line = spaces line == length line

-- where the white space at the end of a text begins, if the text begins at this offset
abbrev pub end_of : (ℕ → Bool) → ℕ → ℕ → List ℕ → ℕ
end_of passes end at [] = end
end_of passes end at (b ∷ rest) = end_of passes (if passes b then end else at + 1) (at + 1) rest

-- the text without white space at its end
abbrev pub trimmed : List ℕ → List ℕ
trimmed line = take (end_of is_space 0 0 line) line
