-- Files of whole lines.
use Rattle.std.specs.Prelude.{ℕ, ◌-◌, List, [], ◌∷◌, if◌then◌else◌, bytes_eq, codes, length, drop}
use Rattle.std.specs.Prelude.{Result, Ok, Err}

-- the same bytes if the last is a line feed
abbrev pub whole_lines : List ℕ → Result (List ℕ) (List ℕ)
whole_lines bytes =
    if bytes_eq (drop (length bytes - 1) bytes) (10 ∷ []) then Ok bytes
    else Err (codes "its last line has no end")
