-- How a text within a block is parsed.
use Rattle.std.specs.Prelude.{ℕ, zero, suc, ◌+◌, ◌-◌, ◌%◌, ◌==◌, nat_le, nat_lt, Bool, true, false, not, ◌&&◌}
use Rattle.std.specs.Prelude.{◌||◌}
use Rattle.std.specs.Prelude.{List, [], ◌∷◌, ◌++◌, if◌then◌else◌, length, take, drop, slice_index}
use Rattle.std.specs.Prelude.{map, reverse}
use Rattle.std.specs.Prelude.{Option, None, Some}
use Rattle.std.specs.List.{prefix_len}
use Rattle.std.specs.Option.{option_map}
use Rattle.std.specs.Char.{is_ascii_punctuation}
use Rattle.gb_markdown.specs.Runs.{run, is_space, is_blank}
use Rattle.gb_markdown.specs.Addresses.{has_scheme, is_safe, link_address, page_address}
use Rattle.gb_markdown.specs.References.{Refs, referred}
use Rattle.gb_markdown.specs.Targets.{angle_end, quote_end, target, unescaped}
use Rattle.gb_markdown.specs.Pieces.{Piece, Open, Close, Link, Picture, Text}
use Rattle.gb_markdown.specs.declared.rendered.Element.{Element}
use Rattle.gb_markdown.specs.declared.rendered.Element.TheVariants as elements
use Rattle.gb_markdown.specs.declared.inline.Token.{Token}
use Rattle.gb_markdown.specs.declared.inline.Token.TheVariants as tokens
use Rattle.gb_markdown.specs.declared.inline.Nested.{Nested}
use Rattle.gb_markdown.specs.declared.inline.Nested.TheVariants as nested
use Rattle.gb_markdown.specs.declared.stress.Ending.{Ending}
use Rattle.gb_markdown.specs.declared.stress.Signs.{Signs}

-- the token at the beginning of a text: words; the end of a line; code; a link with a label, an address and a
-- title; a picture with these; or an address that is a link
pub data Meant : Type 0 where
  Words : List ℕ → Meant
  Break : Meant
  Code : List ℕ → Meant
  Linked : List ℕ → List ℕ → List ℕ → Meant
  Pictured : List ℕ → List ℕ → List ℕ → Meant
  Led : List ℕ → Meant

abbrev pub meant_by : Token → Meant
meant_by (tokens.Words text) = Words text.now
meant_by tokens.Break = Break
meant_by (tokens.Code text) = Code text.now
meant_by (tokens.Linked label target) = Linked label.now target.address.now target.title.now
meant_by (tokens.Pictured label target) = Pictured label.now target.address.now target.title.now
meant_by (tokens.Led address) = Led address.now

-- ---- Bytes

abbrev pub first_is : ℕ → List ℕ → Bool
first_is sign [] = false
first_is sign (b ∷ rest) = b == sign

-- the first byte of what follows, or the end of a line
abbrev pub byte_after : List ℕ → ℕ
byte_after [] = 10
byte_after (b ∷ rest) = b

-- this many bytes, unchanged; each token is paired with how many bytes after its first belong to it
abbrev pub plain : ℕ → List ℕ → Meant × ℕ
plain length line = (Words (take length line), length - 1)

-- ---- Backslashes and spaces

-- a backslash before a sign of ASCII makes it literal, and before the end of a line it breaks the line
abbrev pub escaped_in : List ℕ → Meant × ℕ
escaped_in [] = (Words (92 ∷ []), 0)
escaped_in (b ∷ rest) =
    if b == 10 then (Break, 1) else if is_ascii_punctuation b then (Words (b ∷ []), 1)
    else (Words (92 ∷ []), 0)

-- two spaces or more before the end of a line break it
abbrev pub spaced : List ℕ → Meant × ℕ
spaced line =
    if first_is 10 (drop (run 32 line) line)
    then if run 32 line == 1 then (Words (10 ∷ []), 1) else (Break, run 32 line)
    else plain (run 32 line) line

-- ---- Code

-- where the first run of this many backquotes begins; `earlier` counts the backquotes directly before this
-- position
abbrev pub code_end : ℕ → ℕ → ℕ → List ℕ → Option ℕ
code_end length earlier at [] = if earlier == length then Some (at - earlier) else None
code_end length earlier at (b ∷ rest) =
    if b == 96 then code_end length (earlier + 1) (at + 1) rest
    else if earlier == length then Some (at - earlier) else code_end length 0 (at + 1) rest

-- a space or the end of a line on both sides is left out, unless there is nothing else
abbrev pub is_edge : ℕ → Bool
is_edge b = b == 32 || b == 10

abbrev pub stripped : List ℕ → List ℕ
stripped code =
    if nat_le 2 (length code) && (is_edge (slice_index code 0)
    && (is_edge (slice_index code (length code - 1)) && not (is_blank code)))
    then take (length code - 2) (drop 1 code) else code

abbrev pub code_of : ℕ → List ℕ → Option ℕ → Meant × ℕ
code_of length line None = plain length line
code_of length line (Some end) =
    (Code (stripped (take end (drop length line))), length + end + length - 1)

-- one to eight backquotes begin code; as many end it
abbrev pub coded : List ℕ → Meant × ℕ
coded line =
    let length = run 96 line in
    if length == 0 || nat_lt 8 length then plain length line
    else code_of length line (code_end length 0 0 (drop length line))

-- how many bytes after the first hide other signs: the byte after a backslash, or code
abbrev pub hidden : List ℕ → ℕ
hidden [] = 0
hidden (b ∷ rest) = if b == 92 then 1 else if b == 96 then (coded (b ∷ rest)).1 else 0

-- ---- Links and pictures

-- a label ends at the first `]` that ends no brackets in it; it may have brackets in it, of words and of
-- pictures, but no links, and no brackets in these
abbrev pub is_nothing : Nested → Bool
is_nothing nested.Nothing = true
is_nothing nested.Words = false
is_nothing nested.Picture = false

abbrev pub is_words : Nested → Bool
is_words nested.Nothing = false
is_words nested.Words = true
is_words nested.Picture = false

abbrev pub ends_label : Nested → ℕ → Bool
ends_label inside b = b == 93 && is_nothing inside

abbrev pub is_no_label : Nested → ℕ → List ℕ → Bool
is_no_label inside b rest =
    (b == 91 && not (is_nothing inside)) || (b == 93 && (is_words inside && first_is 40 rest))

abbrev pub brackets : Nested → ℕ → ℕ → Nested
brackets inside before b =
    if b == 91 then if before == 33 then nested.Picture else nested.Words
    else if b == 93 then nested.Nothing else inside

abbrev pub label_end : Nested → ℕ → ℕ → ℕ → List ℕ → Option ℕ
label_end inside skip before at [] = None
label_end inside skip before at (b ∷ rest) =
    if not (skip == 0) then label_end inside (skip - 1) b (at + 1) rest
    else if ends_label inside b then Some at
    else if is_no_label inside b rest then None
    else label_end (brackets inside before b) (hidden (b ∷ rest)) b (at + 1) rest

-- a label, the address and title of its target, and the rest after these
abbrev pub Aimed : Type 0
Aimed = List ℕ × List ℕ × List ℕ × List ℕ

-- the label itself is a reference
abbrev pub referring : Refs → List ℕ → List ℕ → List ℕ → Option Aimed
referring refs name label rest =
    option_map (λ target. (label, target.0, target.1, rest)) (referred name refs)

-- `(target)`, or else the label itself
abbrev pub aimed_at : Refs → List ℕ → List ℕ → Option (List ℕ × List ℕ × List ℕ) → Option Aimed
aimed_at refs label rest None = referring refs label label rest
aimed_at refs label rest (Some target) = Some (label, target.0, target.1, target.2)

-- `[name]`; an empty name means the label's own
abbrev pub named_by : List ℕ → List ℕ → List ℕ
named_by label name = if is_blank name then label else name

abbrev pub referring_to : Refs → List ℕ → List ℕ → List ℕ → Option ℕ → Option Aimed
referring_to refs label rest inside None = referring refs label label rest
referring_to refs label rest inside (Some end) =
    referring refs (named_by label (take end inside)) label (drop (end + 1) inside)

abbrev pub after_label : Refs → List ℕ → List ℕ → Option Aimed
after_label refs label [] = referring refs label label []
after_label refs label (b ∷ rest) =
    if b == 40 then aimed_at refs label (b ∷ rest) (target rest)
    else if b == 91 then referring_to refs label (b ∷ rest) rest (quote_end 93 false 0 rest)
    else referring refs label label (b ∷ rest)

abbrev pub labelled : Refs → List ℕ → Option ℕ → Option Aimed
labelled refs rest None = None
labelled refs rest (Some end) = after_label refs (take end rest) (drop (end + 1) rest)

-- `label](target)`, `label][name]`, `label][]` or `label]`
abbrev pub aimed : Refs → List ℕ → Option Aimed
aimed refs rest = labelled refs rest (label_end nested.Nothing 0 91 0 rest)

-- a link after its bracket, or the bracket itself
abbrev pub link_of : List ℕ → Option Aimed → Meant × ℕ
link_of rest None = (Words (91 ∷ []), 0)
link_of rest (Some link) = (Linked link.0 link.1 link.2, length rest - length link.3)

abbrev pub linked : Refs → List ℕ → Meant × ℕ
linked refs rest = link_of rest (aimed refs rest)

-- a picture after its `!`, or the `!` itself
abbrev pub picture_of : List ℕ → Option Aimed → Meant × ℕ
picture_of rest None = (Words (33 ∷ []), 0)
picture_of rest (Some picture) = (Pictured picture.0 picture.1 picture.2, length rest - length picture.3)

abbrev pub pictured : Refs → List ℕ → Meant × ℕ
pictured refs [] = (Words (33 ∷ []), 0)
pictured refs (b ∷ rest) =
    if b == 91 then picture_of (b ∷ rest) (aimed refs rest) else (Words (33 ∷ []), 0)

-- an address in `<` and `>` is a link, if it is safe and has a scheme
abbrev pub led : List ℕ → ℕ → Meant × ℕ
led address more =
    if is_safe address && has_scheme address then (Led address, more) else (Words (60 ∷ []), 0)

abbrev pub angled_to : List ℕ → Option ℕ → Meant × ℕ
angled_to rest None = (Words (60 ∷ []), 0)
angled_to rest (Some end) = led (take end rest) (end + 1)

abbrev pub angled : List ℕ → Meant × ℕ
angled rest = angled_to rest (angle_end false 0 rest)

-- ---- Stressed words

-- signs between two bytes are at the left side of a word
abbrev pub is_left : ℕ → ℕ → Bool
is_left before after =
    not (is_space after)
    && (not (is_ascii_punctuation after) || is_space before || is_ascii_punctuation before)

-- they begin stressed words there, and end them at the right side; `_` does so at the side of a word alone
abbrev pub opens : ℕ → ℕ → ℕ → Bool
opens sign before after =
    is_left before after && (sign == 42 || not (is_left after before) || is_ascii_punctuation before)

abbrev pub closes : ℕ → ℕ → ℕ → Bool
closes sign before after =
    is_left after before && (sign == 42 || not (is_left before after) || is_ascii_punctuation after)

-- signs in a row between two bytes, how many they are, and how many of them are left; more than sixteen
-- neither begin nor end stressed words
abbrev pub signs_by : ℕ → ℕ → ℕ → ℕ → Signs
signs_by sign before count after =
    record {
      sign = sign;
      count = count;
      left = count;
      opens = nat_le count 16 && opens sign before after;
      closes = nat_le count 16 && closes sign before after;
    }

abbrev pub signs_at : ℕ → ℕ → List ℕ → Signs
signs_at sign before line =
    signs_by sign before (run sign line) (byte_after (drop (run sign line) line))

abbrev pub with_left : ℕ → Signs → Signs
with_left left signs =
    record {
      sign = signs.sign;
      count = signs.count;
      left = left;
      opens = signs.opens;
      closes = signs.closes;
    }

-- Whether signs may end what others begin. Where either could do both, the sum of their numbers is not a
-- multiple of three, unless both numbers are.
abbrev pub fits : Signs → Signs → Bool
fits first second =
    first.sign == second.sign
    && (not (second.opens || first.closes) || (not ((first.count % 3 + second.count % 3) % 3 == 0)
    || first.count % 3 == 0))

-- the last of the open signs that fit, and its index
abbrev pub last_fit : Signs → Option (ℕ × Signs) → ℕ → List Signs → Option (ℕ × Signs)
last_fit second best index [] = best
last_fit second best index (first ∷ others) =
    last_fit second (if fits first second then Some (index, first) else best) (index + 1) others

-- two signs are `strong` where both sides have two; one is `em`
abbrev pub wide_of : ℕ → ℕ → ℕ
wide_of first second = if nat_le 2 first && nat_le 2 second then 2 else 1

abbrev pub stress_of : ℕ → Element
stress_of wide = if wide == 2 then elements.Strong else elements.Emphasis

-- the open signs with those at an index used, and without those after it
abbrev pub used : ℕ → Signs → ℕ → List Signs → List Signs
used index first wide stack =
    take index stack
    ++ (if nat_le first.left wide then [] else with_left (first.left - wide) first ∷ [])

-- the words that the first of the open signs begin end where so much of the text is left, with so many signs
abbrev pub with_end : ℕ → ℕ → ℕ → List Ending → List Ending
with_end index rest wide ends =
    if index == 0 then ends ++ record { rest = rest; wide = wide } ∷ [] else ends

-- the open signs, the ends of the words that the first of them begin, and how many signs are left
abbrev pub Matched : Type 0
Matched = List Signs × List Ending × ℕ

abbrev pub matched_by : ℕ → Matched → Option (ℕ × Signs) → Matched
matched_by rest state None = state
matched_by rest state (Some found) =
    let wide = wide_of found.1.left state.2 in
    (used found.0 found.1 wide state.0, with_end found.0 rest wide state.1, state.2 - wide)

-- signs end the words of the last open signs that fit, if some are left
abbrev pub matched_once : Signs → ℕ → Matched → Matched
matched_once second rest state =
    if state.2 == 0 then state else matched_by rest state (last_fit second None 0 state.0)

-- again and again, so many times
abbrev pub matched : ℕ → Signs → ℕ → Matched → Matched
matched zero second rest state = state
matched (suc steps) second rest state = matched_once second rest (matched steps second rest state)

abbrev pub ended : Signs → ℕ → List Signs → List Ending → Matched
ended second rest stack ends =
    matched (if second.closes then second.count else 0) second rest (stack, ends, second.count)

-- those that are left begin words
abbrev pub with_signs : Signs → ℕ → List Signs → List Signs
with_signs signs left stack =
    if signs.opens && not (left == 0) then stack ++ with_left left signs ∷ [] else stack

-- how many bytes after the first are skipped: a link, or whatever hides others
abbrev pub passed : Refs → List ℕ → ℕ
passed refs [] = 0
passed refs (b ∷ rest) =
    if b == 91 then (linked refs rest).1 else if b == 60 then (angled rest).1 else hidden (b ∷ rest)

abbrev pub is_sign : ℕ → Bool
is_sign b = b == 42 || b == 95

-- the search for ends is over at the end of the words around these, when the first signs are used up, and
-- with more than six open ones
abbrev pub is_over : ℕ → ℕ → List Signs → Bool
is_over stop rest stack = nat_le rest stop || (length stack == 0 || nat_lt 6 (length stack))

-- the open signs and the ends found after a byte, and how many bytes after it are skipped, or that the search
-- for ends is over
abbrev pub Step : Type 0
Step = List Signs × List Ending × Option ℕ

abbrev pub signs_step : ℕ → ℕ → Signs → Matched → Step
signs_step stop rest signs state = (
  with_signs signs state.2 state.0,
  state.1,
  if is_over stop rest state.0 then None else Some (signs.count - 1),
)

abbrev pub byte_step : Refs → ℕ → List Signs → List Ending → ℕ → List ℕ → Step
byte_step refs stop stack ends before [] = (stack, ends, None)
byte_step refs stop stack ends before (b ∷ rest) =
    if is_sign b
    then signs_step stop (length (b ∷ rest)) (signs_at b before (b ∷ rest))
    (ended (signs_at b before (b ∷ rest)) (length (b ∷ rest)) stack ends)
    else (stack, ends, Some (passed refs (b ∷ rest)))

abbrev pub ends_after : (List Signs → List Ending → ℕ → List Ending) → List Signs → List Ending → Option ℕ
    → List Ending
ends_after more stack ends None = ends
ends_after more stack ends (Some skip) = more stack ends skip

-- the ends of the words that the first of the open signs begin
abbrev pub ends_from : Refs → ℕ → List Signs → List Ending → ℕ → ℕ → List ℕ → List Ending
ends_from refs stop stack ends skip before [] = ends
ends_from refs stop stack ends skip before (b ∷ rest) =
    if not (skip == 0) then ends_from refs stop stack ends (skip - 1) b rest
    else let step = byte_step refs stop stack ends before (b ∷ rest) in
    ends_after (λ next found more. ends_from refs stop next found more b rest) step.0 step.1 step.2

-- how many of the expected ends are here
abbrev pub here : ℕ → List Ending → ℕ
here rest ends = prefix_len (λ end. end.rest == rest) ends

-- how many signs are left without those of these ends
abbrev pub left_after : ℕ → List Ending → ℕ
left_after left [] = left
left_after left (end ∷ ends) = left_after (left - end.wide) ends

abbrev pub stop_of : List Ending → ℕ
stop_of [] = 0
stop_of (end ∷ ends) = end.rest

-- the ends of the words that signs begin, of which so many are left
abbrev pub begun : Refs → ℕ → Signs → ℕ → List ℕ → List Ending
begun refs stop signs left line =
    if signs.opens && not (left == 0)
    then ends_from refs stop (with_left left signs ∷ []) [] 0 signs.sign (drop signs.count line) else []

-- what signs do, given the ends that are expected: they end words, stay as they are, and begin words
abbrev pub Done : Type 0
Done = List Piece × List Ending

abbrev pub closing : List Ending → List Piece
closing ends = map (λ end. Close (stress_of end.wide)) ends

abbrev pub opening : List Ending → List Piece
opening ends = map (λ end. Open (stress_of end.wide)) (reverse ends)

abbrev pub done_by : List Ending → List Ending → ℕ → List Ending → List ℕ → Done
done_by ended later left found line =
    (closing ended ++ (Text (take (left_after left found) line) ∷ opening found), found ++ later)

abbrev pub done : Refs → List Ending → Signs → List ℕ → Done
done refs ends signs line =
    let ended = take (here (length line) ends) ends in
    let later = drop (here (length line) ends) ends in
    let left = left_after signs.count ended in
    done_by ended later left (begun refs (stop_of later) signs left line) line

-- ---- Texts

-- a byte that begins no other token
abbrev pub is_plain : ℕ → Bool
is_plain b =
    not (b == 92 || b == 96 || b == 42 || b == 95 || b == 91 || b == 33 || b == 32 || b == 60)

-- the token at the beginning of a text
unfoldable pub token : Refs → List ℕ → Meant × ℕ
token refs [] = (Words [], 0)
token refs (b ∷ rest) =
    if b == 92 then escaped_in rest
    else if b == 96 then coded (b ∷ rest)
    else if b == 91 then linked refs rest
    else if b == 33 then pictured refs rest
    else if b == 32 then spaced (b ∷ rest)
    else if b == 60 then angled rest
    else plain (prefix_len is_plain (b ∷ rest)) (b ∷ rest)

-- the pieces of a token, given those of the texts in it; in the label of a link there are no references
abbrev pub shown : (Refs → List ℕ → List Piece) → Refs → Meant → List Piece
shown inner refs (Words text) = Text text ∷ []
shown inner refs Break = Open elements.Break ∷ Text (10 ∷ []) ∷ []
shown inner refs (Code text) = Open elements.Code ∷ Text text ∷ Close elements.Code ∷ []
shown inner refs (Linked label address title) =
    Link (link_address (page_address (unescaped false address))) (unescaped false title)
    ∷ inner [] label ++ Close elements.Anchor ∷ []
shown inner refs (Pictured label address title) =
    Picture (link_address (unescaped false address)) label (unescaped false title) ∷ []
shown inner refs (Led address) = Link address [] ∷ Text address ∷ Close elements.Anchor ∷ []

-- the tokens of a text, one after the other, given the ends of stressed words that are expected
abbrev pub tokens_of : (Refs → List ℕ → List Piece) → Refs → List Ending → ℕ → ℕ → List ℕ → List Piece
tokens_of inner refs ends skip before [] = []
tokens_of inner refs ends skip before (b ∷ rest) =
    if not (skip == 0) then tokens_of inner refs ends (skip - 1) b rest
    else if is_sign b
    then (done refs ends (signs_at b before (b ∷ rest)) (b ∷ rest)).0
    ++ tokens_of inner refs (done refs ends (signs_at b before (b ∷ rest)) (b ∷ rest)).1
    (run b (b ∷ rest) - 1) b rest
    else shown inner refs (token refs (b ∷ rest)).0
    ++ tokens_of inner refs ends (token refs (b ∷ rest)).1 b rest

-- a text as pieces, with labels nested at most this deep; deeper ones stay text
unfoldable pub inline : ℕ → Refs → List ℕ → List Piece
inline zero refs text = Text text ∷ []
inline (suc depth) refs text = tokens_of (inline depth) refs [] 0 10 text
