-- How a line of a page is parsed.
use Rattle.std.specs.Prelude.{ℕ, ◌+◌, ◌==◌, nat_le, nat_lt, Bool, true, false, not, ◌&&◌, ◌||◌, List, []}
use Rattle.std.specs.Prelude.{◌∷◌, if◌then◌else◌, codes, bytes_eq, length, take, drop, Option, None}
use Rattle.std.specs.Prelude.{Some}
use Rattle.std.specs.List.{prefix_len}
use Rattle.std.specs.Char.{is_ascii_digit}
use Rattle.gb_markdown.specs.Runs.{run, is_space, spaces, is_blank, end_of, trimmed}
use Rattle.gb_markdown.specs.declared.rendered.Element.{Element}
use Rattle.gb_markdown.specs.declared.rendered.Element.TheVariants as elements
use Rattle.gb_markdown.specs.declared.line_parsing.Line.{Line}
use Rattle.gb_markdown.specs.declared.line_parsing.Line.TheVariants as lines
use Rattle.gb_markdown.specs.declared.line_parsing.Fence.{Fence}
use Rattle.gb_markdown.specs.declared.line_parsing.Marker.{Marker}

pub data Said : Type 0 where
  Nothing : Said
  Code : Fence → List ℕ → Said
  Heading : Element → List ℕ → Said
  Rule : Said
  Quote : List ℕ → Said
  Item : Marker → List ℕ → List ℕ → Said
  Indented : List ℕ → Said
  Words : List ℕ → Said

abbrev pub said_by : Line → Said
said_by lines.Nothing = Nothing
said_by (lines.Fence fence language) = Code fence language.now
said_by (lines.Heading element text) = Heading element text.now
said_by lines.Rule = Rule
said_by (lines.Quote text) = Quote text.now
said_by (lines.Item marker first text) = Item marker first.now text.now
said_by (lines.Indented text) = Indented text.now
said_by (lines.Words text) = Words text.now

-- ---- Lines that begin with at most three spaces

-- the text without a leading space
abbrev pub without_space : List ℕ → List ℕ
without_space [] = []
without_space (b ∷ rest) = if b == 32 then rest else b ∷ rest

-- a heading has one to six `#`, then white space and its words
abbrev pub headed : ℕ → Option Element
headed rank =
    if rank == 1 then Some elements.HeadingOne else if rank == 2 then Some elements.HeadingTwo
    else if rank == 3 then Some elements.HeadingThree else if rank == 4 then Some elements.HeadingFour
    else if rank == 5 then Some elements.HeadingFive else if rank == 6 then Some elements.HeadingSix
    else None

-- its words exclude the `#` at their end that follow white space
abbrev pub without_signs : ℕ → List ℕ → List ℕ
without_signs sign words = take (end_of (λ b. b == sign) 0 0 words) words

abbrev pub without_end : List ℕ → List ℕ
without_end words =
    let front = without_signs 35 words in
    if bytes_eq front [] || nat_lt (length (trimmed front)) (length front) then trimmed front else words

abbrev pub words_of : List ℕ → List ℕ
words_of rest = drop (spaces rest) rest

abbrev pub heading_of : Option Element → List ℕ → List ℕ → Said
heading_of None rest body = Words body
heading_of (Some element) rest body =
    if is_blank rest || not (spaces rest == 0) then Heading element (without_end (trimmed (words_of rest)))
    else Words body

abbrev pub heading : List ℕ → Said
heading body = heading_of (headed (run 35 body)) (drop (run 35 body) body) body

-- code begins with three or more backquotes or `~`; its language is the first word after them
abbrev pub is_letter : ℕ → Bool
is_letter b = not (is_space b)

abbrev pub word : List ℕ → List ℕ
word line = take (prefix_len is_letter line) line

abbrev pub has : ℕ → List ℕ → Bool
has sign [] = false
has sign (b ∷ rest) = if b == sign then true else has sign rest

abbrev pub fence : ℕ → ℕ → List ℕ → Said
fence indent sign body =
    let length = run sign body in
    let info = words_of (drop length body) in
    if nat_lt length 3 || (sign == 96 && has 96 info) then Words body
    else Code (record { sign = sign; length = length; indent = indent }) (word info)

-- a rule is one sign three times or more, and white space
abbrev pub is_rule : ℕ → ℕ → List ℕ → Bool
is_rule sign earlier [] = nat_le 3 earlier
is_rule sign earlier (b ∷ rest) =
    if b == sign then is_rule sign (earlier + 1) rest else if is_space b then is_rule sign earlier rest
    else false

-- an item has its words after one to four spaces, or no words; the width of its sign reaches up to them
abbrev pub gap_of : ℕ → ℕ
gap_of gap = if nat_lt 4 gap then 1 else gap

abbrev pub item : ℕ → ℕ → List ℕ → List ℕ → List ℕ → Said
item sign width first rest body =
    if is_blank rest then Item (record { sign = sign; width = width + 1 }) first []
    else if run 32 rest == 0 then Words body
    else Item (record { sign = sign; width = width + gap_of (run 32 rest) }) first
    (drop (gap_of (run 32 rest)) rest)

abbrev pub rule_or_item : ℕ → ℕ → List ℕ → Said
rule_or_item indent sign rest =
    if not (sign == 43) && is_rule sign 0 (sign ∷ rest) then Rule
    else if sign == 95 then Words (sign ∷ rest)
    else item sign (indent + 1) [] rest (sign ∷ rest)

-- the number of an item has one to nine digits, then `.` or `)`
abbrev pub number : List ℕ → List ℕ
number digits =
    if run 48 digits == length digits then codes "0" else drop (run 48 digits) digits

abbrev pub after_number : ℕ → ℕ → List ℕ → List ℕ → List ℕ → Said
after_number indent length first [] body = Words body
after_number indent length first (b ∷ rest) body =
    if (b == 46 || b == 41) && (nat_lt 0 length && nat_lt length 10)
    then item b (indent + length + 1) (number first) rest body else Words body

abbrev pub numbered : ℕ → List ℕ → Said
numbered indent body =
    let length = prefix_len is_ascii_digit body in
    after_number indent length (take length body) (drop length body) body

abbrev pub said_after : ℕ → List ℕ → Said
said_after indent [] = Nothing
said_after indent (b ∷ rest) =
    if b == 35 then heading (b ∷ rest)
    else if b == 62 then Quote (without_space rest)
    else if b == 96 || b == 126 then fence indent b (b ∷ rest)
    else if b == 42 || b == 45 || b == 95 || b == 43 then rule_or_item indent b rest
    else numbered indent (b ∷ rest)

-- ---- Any line

-- nothing; code after four spaces; or one of these
unfoldable pub said : List ℕ → Said
said line =
    if is_blank line then Nothing
    else if nat_lt 3 (run 32 line) then Indented (drop 4 line)
    else said_after (run 32 line) (drop (run 32 line) line)
