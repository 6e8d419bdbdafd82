-- Names.
use Rattle.std.specs.Prelude.{ℕ, Bool, false, ◌&&◌, ◌||◌, ◌==◌, nat_le, List, [], ◌∷◌, length}
use Rattle.std.specs.List.{list_all}

-- an ASCII letter
abbrev pub is_letter : ℕ → Bool
is_letter c = (nat_le 65 c && nat_le c 90) || (nat_le 97 c && nat_le c 122)

abbrev pub is_digit : ℕ → Bool
is_digit c = nat_le 48 c && nat_le c 57

-- a letter, a digit, '_' or '-'
abbrev pub is_name_byte : ℕ → Bool
is_name_byte c = is_letter c || is_digit c || (c == 95) || (c == 45)

-- a letter, then letters, digits, '_' and '-': at most 64 bytes in all
abbrev pub is_name : List ℕ → Bool
is_name [] = false
is_name (c ∷ text) = is_letter c && list_all is_name_byte text && nat_le (length text) 63
