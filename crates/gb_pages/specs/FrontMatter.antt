-- The front matter of a page: lines `key: value` between two lines `---`, before its text.
use Rattle.std.specs.Prelude.{ℕ, ◌+◌, List, ◌++◌, codes, if◌then◌else◌, bytes_eq, length, take, drop}
use Rattle.std.specs.Prelude.{nat_eq, Option, None, Some, unwrap_or}
use Rattle.std.specs.List.{starts_with}
use Rattle.std.specs.Option.{option_map, option_or}
use Rattle.bstr.specs.Text.{split_at}
use Rattle.memchr.specs.Find.{first_of, matches}

-- the text before the first occurrence of a sign, and the text after it
abbrev pub cut : List ℕ → List ℕ → Option (List ℕ × List ℕ)
cut sign text = option_map (λ k. (take k text, drop (k + length sign) text)) (first_of (matches text sign 0))

-- the text after a sign with which it begins
abbrev pub following : List ℕ → List ℕ → Option (List ℕ)
following sign text = if bytes_eq (take (length sign) text) sign then Some (drop (length sign) text) else None

-- the text before the first occurrence of a sign, or the whole text
abbrev pub up_to : List ℕ → List ℕ → List ℕ
up_to sign text = unwrap_or (option_map (λ half. half.0) (cut sign text)) text

-- the parts before, between and after the occurrences of a sign
abbrev pub parts : List ℕ → List ℕ → List (List ℕ)
parts sign text = split_at text (length sign) 0 (matches text sign 0)

-- the first line of a text, without its line end
abbrev pub first_line : List ℕ → List ℕ
first_line text = unwrap_or (option_map (λ line. line.0) (cut (codes "\n") text)) text

-- ---- Front matter

-- The front matter, each line after a line feed, and the text after it. It begins on the first line; without
-- an end there is no front matter.
abbrev pub halves : List ℕ → Option (List ℕ × List ℕ)
halves text = if starts_with nat_eq text (codes "---\n") then cut (codes "\n---\n") (drop 3 text) else None

abbrev pub front_matter : List ℕ → List ℕ
front_matter text = unwrap_or (option_map (λ half. half.0) (halves text)) (codes "")

-- the page without its front matter
abbrev pub body : List ℕ → List ℕ
body text = unwrap_or (option_map (λ half. half.1) (halves text)) text

-- the rest of the first line that begins with the key and `: `
abbrev pub value_of : List ℕ → List ℕ → Option (List ℕ)
value_of key front = option_map (λ found. first_line found.1) (cut (codes "\n" ++ (key ++ codes ": ")) front)

-- ---- Titles

-- the words of the heading with which a page begins
abbrev pub heading : List ℕ → Option (List ℕ)
heading text = option_map first_line (following (codes "# ") text)

-- the title of a page: the one of its front matter, or else its heading, or else the name
abbrev pub title_of : List ℕ → List ℕ → List ℕ
title_of text name =
    unwrap_or (option_or (value_of (codes "title") (front_matter text)) (heading (body text))) name
