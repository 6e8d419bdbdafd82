-- The blocks of a page.
use Rattle.std.specs.Prelude.{ℕ, zero, suc, ◌==◌, nat_le, nat_lt, Bool, true, false, not}
use Rattle.std.specs.Prelude.{◌&&◌, ◌||◌, List, [], ◌∷◌, ◌++◌, if◌then◌else◌, codes, bytes_eq}
use Rattle.std.specs.Prelude.{drop, length, count_by, decimal, Option, None, Some}
use Rattle.std.specs.List.{flat_map}
use Rattle.std.specs.Char.{is_ascii_alphanumeric, to_ascii_lowercase}
use Rattle.gb_markdown.specs.Runs.{run, is_blank, trimmed}
use Rattle.gb_markdown.specs.Pieces.{Piece, Open, Close, Listing, Coded, Named, Text, written}
use Rattle.gb_markdown.specs.Lines.{Said, Nothing, Code, Heading, Rule, Quote, Item, Indented, Words}
use Rattle.gb_markdown.specs.Lines.{has, said, words_of}
use Rattle.gb_markdown.specs.References.{Refs, defined}
use Rattle.gb_markdown.specs.Tables.{both_ended, inline_of, is_divider, line_end, lines_in, rows_of, table}
use Rattle.gb_markdown.specs.Tables.{words_in}
use Rattle.gb_markdown.specs.declared.rendered.Element.{Element}
use Rattle.gb_markdown.specs.declared.rendered.Element.TheVariants as elements
use Rattle.gb_markdown.specs.declared.line_parsing.Fence.{Fence}
use Rattle.gb_markdown.specs.declared.line_parsing.Marker.{Marker}
use Rattle.gb_markdown.specs.declared.blocks.OpenList.{OpenList}
use Rattle.gb_markdown.specs.declared.blocks.Block.{Block}
use Rattle.gb_markdown.specs.declared.blocks.Block.TheVariants as blocks

-- ---- Lines that belong to the open block

abbrev pub is_words : Said → Bool
is_words (Words text) = true
is_words (Indented text) = true
is_words (Item marker first text) =
    bytes_eq text [] || (not (bytes_eq first []) && not (bytes_eq first (codes "1")))
is_words Nothing = false
is_words (Code fence language) = false
is_words (Heading element text) = false
is_words Rule = false
is_words (Quote text) = false

-- code ends at a line with as many signs as began it, or more
abbrev pub ends_code : Fence → List ℕ → Bool
ends_code fence line =
    let body = drop (run 32 line) line in
    nat_lt (run 32 line) 4
    && (nat_le fence.length (run fence.sign body) && is_blank (drop (run fence.sign body) body))

abbrev pub is_indented : Said → Bool
is_indented Nothing = true
is_indented (Indented text) = true
is_indented (Code fence language) = false
is_indented (Heading element text) = false
is_indented Rule = false
is_indented (Quote text) = false
is_indented (Item marker first text) = false
is_indented (Words text) = false

-- a quote continues with words where its last line is open to them
abbrev pub is_quoted : Bool → Said → Bool
is_quoted more (Quote text) = true
is_quoted more (Words text) = more
is_quoted more (Indented text) = more
is_quoted more Nothing = false
is_quoted more (Code fence language) = false
is_quoted more (Heading element text) = false
is_quoted more Rule = false
is_quoted more (Item marker first text) = false

-- a list continues with an empty line, with words after a line that is not empty, and with an item with the
-- same sign
abbrev pub is_listed : OpenList → Said → Bool
is_listed list Nothing = true
is_listed list (Words text) = not list.ended
is_listed list (Indented text) = not list.ended
is_listed list (Item marker first text) = marker.sign == list.marker.sign
is_listed list (Code fence language) = false
is_listed list (Heading element text) = false
is_listed list Rule = false
is_listed list (Quote text) = false

-- and with a line that begins with at least as many spaces as its item is wide
abbrev pub is_outside : ℕ → List ℕ → Bool
is_outside width line = nat_lt (run 32 line) width

abbrev pub goes_on : Block → List ℕ → Bool
goes_on blocks.Nothing line = false
goes_on blocks.Paragraph line = is_words (said line)
goes_on (blocks.Code fence) line = not (ends_code fence line)
goes_on blocks.Indented line = is_indented (said line)
goes_on (blocks.Quote more) line = is_quoted more (said line)
goes_on (blocks.Items list) line = not (is_outside list.marker.width line) || is_listed list (said line)

-- ---- The part of such a line that is taken

-- the line without this many spaces before it, or without all of them if there are fewer
abbrev pub without_indent : ℕ → List ℕ → List ℕ
without_indent count line = if is_outside count line then drop (run 32 line) line else drop count line

abbrev pub unquoted_by : List ℕ → Said → List ℕ
unquoted_by line (Quote text) = text
unquoted_by line Nothing = line
unquoted_by line (Code fence language) = line
unquoted_by line (Heading element text) = line
unquoted_by line Rule = line
unquoted_by line (Item marker first text) = line
unquoted_by line (Indented text) = line
unquoted_by line (Words text) = line

abbrev pub unquoted : List ℕ → List ℕ
unquoted line = unquoted_by line (said line)

-- the part of a line that is in an item of this width
abbrev pub inside : ℕ → List ℕ → List ℕ
inside width line = if is_outside width line then line else drop width line

abbrev pub kept_pieces : Block → List ℕ → List Piece
kept_pieces blocks.Nothing line = []
kept_pieces blocks.Paragraph line = []
kept_pieces (blocks.Code fence) line = Text (without_indent fence.indent line) ∷ line_end ∷ []
kept_pieces blocks.Indented line = []
kept_pieces (blocks.Quote more) line = []
kept_pieces (blocks.Items list) line = []

abbrev pub kept_text : Block → List ℕ → List ℕ
kept_text blocks.Nothing line = []
kept_text blocks.Paragraph line = words_of line ++ 10 ∷ []
kept_text (blocks.Code fence) line = []
kept_text blocks.Indented line = without_indent 4 line ++ 10 ∷ []
kept_text (blocks.Quote more) line = unquoted line ++ 10 ∷ []
kept_text (blocks.Items list) line = line ++ 10 ∷ []

-- a quote is open to words where its last line is words, a quote or an item
abbrev pub is_open : Said → Bool
is_open (Words text) = true
is_open (Quote text) = true
is_open (Item marker first text) = true
is_open Nothing = false
is_open (Code fence language) = false
is_open (Heading element text) = false
is_open Rule = false
is_open (Indented text) = false

-- a list has the sign of its last item; it is spaced where more content follows an empty line, except for an
-- item of a nested list
abbrev pub ended_list : OpenList → OpenList
ended_list list = record { marker = list.marker; ended = true; spaced = list.spaced }

abbrev pub with_item : OpenList → Bool → Marker → OpenList
with_item list outer marker =
    record {
      marker = if outer then marker else list.marker;
      ended = false;
      spaced = list.spaced || (list.ended && outer);
    }

abbrev pub with_words : OpenList → OpenList
with_words list = record { marker = list.marker; ended = false; spaced = list.spaced || list.ended }

abbrev pub after_by : OpenList → Bool → Said → OpenList
after_by list outer Nothing = ended_list list
after_by list outer (Item marker first text) = with_item list outer marker
after_by list outer (Code fence language) = with_words list
after_by list outer (Heading element text) = with_words list
after_by list outer Rule = with_words list
after_by list outer (Quote text) = with_words list
after_by list outer (Indented text) = with_words list
after_by list outer (Words text) = with_words list

abbrev pub after : OpenList → List ℕ → OpenList
after list line =
    after_by list (is_outside list.marker.width line) (said (inside list.marker.width line))

abbrev pub kept_block : Block → List ℕ → Block
kept_block blocks.Nothing line = blocks.Nothing
kept_block blocks.Paragraph line = blocks.Paragraph
kept_block (blocks.Code fence) line = blocks.Code fence
kept_block blocks.Indented line = blocks.Indented
kept_block (blocks.Quote more) line = blocks.Quote (is_open (said (unquoted line)))
kept_block (blocks.Items list) line = blocks.Items (after list line)

-- ---- Lines that begin a block

-- the name of a heading: letters and digits in lower case, `-` and `_`, and `-` for each space
abbrev pub slug_byte : ℕ → List ℕ
slug_byte b =
    if b == 32 then 45 ∷ []
    else if is_ascii_alphanumeric b || b == 45 || b == 95 || nat_le 128 b then to_ascii_lowercase b ∷ []
    else []

abbrev pub slug : List ℕ → List ℕ
slug words = flat_map slug_byte words

-- the names of the page's headings so far; at most this many count
abbrev pub Names : Type 0
Names = List (List ℕ)

-- a heading whose name others have gets their number appended
abbrev pub id_by : ℕ → List ℕ → List ℕ
id_by earlier name = if earlier == 0 then name else name ++ 45 ∷ decimal earlier

abbrev pub id_of : Names → List ℕ → List ℕ
id_of names name = id_by (count_by (bytes_eq name) names) name

abbrev pub with_name : Names → List ℕ → Names
with_name names name = if nat_lt (length names) 512 then names ++ name ∷ [] else names

abbrev pub heading : Refs → Names → Element → List ℕ → List Piece
heading refs names element words =
    Named element (id_of names (slug words)) ∷ inline_of refs words ++ Close element ∷ line_end ∷ []

abbrev pub list_of : ℕ → Element
list_of sign = if sign == 46 || sign == 41 then elements.Numbered else elements.Items

-- a list begins with the number of its first item, if that is not 1
abbrev pub listing_of : List ℕ → Piece
listing_of first = if bytes_eq first (codes "1") then Open elements.Numbered else Listing first

abbrev pub listing : ℕ → List ℕ → List Piece
listing sign first =
    (if sign == 46 || sign == 41 then listing_of first else Open elements.Items) ∷ line_end ∷ []

abbrev pub is_code : Block → Bool
is_code blocks.Nothing = false
is_code blocks.Paragraph = false
is_code (blocks.Code fence) = true
is_code blocks.Indented = false
is_code (blocks.Quote more) = false
is_code (blocks.Items list) = false

abbrev pub begun_pieces : Refs → Names → Bool → Said → List Piece
begun_pieces refs names ended Nothing = []
begun_pieces refs names ended (Code fence language) =
    if ended then [] else Open elements.Block ∷ Coded language ∷ []
begun_pieces refs names ended (Heading element words) = heading refs names element words
begun_pieces refs names ended Rule = Open elements.Rule ∷ line_end ∷ []
begun_pieces refs names ended (Quote text) = []
begun_pieces refs names ended (Item marker first text) = listing marker.sign first
begun_pieces refs names ended (Indented text) = []
begun_pieces refs names ended (Words text) = []

abbrev pub begun_names : Names → Said → Names
begun_names names (Heading element words) = with_name names (slug words)
begun_names names Nothing = names
begun_names names (Code fence language) = names
begun_names names Rule = names
begun_names names (Quote text) = names
begun_names names (Item marker first text) = names
begun_names names (Indented text) = names
begun_names names (Words text) = names

abbrev pub begun_text : List ℕ → Said → List ℕ
begun_text line Nothing = []
begun_text line (Code fence language) = []
begun_text line (Heading element words) = []
begun_text line Rule = []
begun_text line (Quote text) = text ++ 10 ∷ []
begun_text line (Item marker first text) = line ++ 10 ∷ []
begun_text line (Indented text) = text ++ 10 ∷ []
begun_text line (Words text) = text ++ 10 ∷ []

abbrev pub begun_block : Bool → Said → Block
begun_block ended Nothing = blocks.Nothing
begun_block ended (Code fence language) = if ended then blocks.Nothing else blocks.Code fence
begun_block ended (Heading element words) = blocks.Nothing
begun_block ended Rule = blocks.Nothing
begun_block ended (Quote text) = blocks.Quote (is_open (said text))
begun_block ended (Item marker first text) =
    blocks.Items (record { marker = marker; ended = false; spaced = false })
begun_block ended (Indented text) = blocks.Indented
begun_block ended (Words text) = blocks.Paragraph

-- ---- Blocks that end

-- in a list without empty lines paragraphs have no tags
abbrev pub paragraph : Refs → Bool → List ℕ → List Piece
paragraph refs true text = inline_of refs (trimmed text) ++ line_end ∷ []
paragraph refs false text =
    words_in refs elements.Paragraph (trimmed text) ++ line_end ∷ []

abbrev pub table_or : Refs → Bool → List ℕ → Option (List ℕ × List ℕ × List ℕ) → List Piece
table_or refs tight text None = paragraph refs tight text
table_or refs tight text (Some rows) =
    if is_divider false false rows.1 && has 124 rows.0 then table refs rows.0 rows.2
    else paragraph refs tight text

-- an item begins, after one of this width
abbrev pub is_item : Said → Bool
is_item (Item marker first text) = true
is_item Nothing = false
is_item (Code fence language) = false
is_item (Heading element text) = false
is_item Rule = false
is_item (Quote text) = false
is_item (Indented text) = false
is_item (Words text) = false

abbrev pub starts : ℕ → List ℕ → Bool
starts width line = is_item (said line) && (width == 0 || is_outside width line)

abbrev pub item_width : Said → ℕ
item_width (Item marker first text) = marker.width
item_width Nothing = 0
item_width (Code fence language) = 0
item_width (Heading element text) = 0
item_width Rule = 0
item_width (Quote text) = 0
item_width (Indented text) = 0
item_width (Words text) = 0

abbrev pub item_words : List ℕ → Said → List ℕ
item_words line (Item marker first text) = text
item_words line Nothing = line
item_words line (Code fence language) = line
item_words line (Heading element text) = line
item_words line Rule = line
item_words line (Quote text) = line
item_words line (Indented text) = line
item_words line (Words text) = line

-- pieces, and the names after them
abbrev pub Inner : Type 0
Inner = Names → Bool → List ℕ → List Piece × Names

-- pieces between others
abbrev pub between : List Piece → List Piece × Names → List Piece → List Piece × Names
between front made back = (front ++ (made.0 ++ back), made.1)

abbrev pub then_more : List Piece × Names → (Names → List Piece × Names) → List Piece × Names
then_more made more = (made.0 ++ (more made.1).0, (more made.1).1)

-- an item of this width is written, if one has begun
abbrev pub item_of : Inner → Names → Bool → ℕ → List ℕ → List Piece × Names
item_of inner names tight width taken =
    if width == 0 then ([], names)
    else between (Open elements.Item ∷ []) (inner names tight taken) (Close elements.Item ∷ line_end ∷ [])

abbrev pub items : Inner → Names → Bool → ℕ → List ℕ → List (List ℕ) → List Piece × Names
items inner names tight width taken [] = item_of inner names tight width taken
items inner names tight width taken (line ∷ others) =
    if starts width line
    then then_more (item_of inner names tight width taken) (λ more. items inner more tight
    (item_width (said line)) (item_words line (said line) ++ 10 ∷ []) others)
    else items inner names tight width (taken ++ (inside width line ++ 10 ∷ [])) others

abbrev pub code_ended : List Piece
code_ended = both_ended elements.Code elements.Block

abbrev pub indented : List ℕ → List Piece
indented taken =
    Open elements.Block ∷ Open elements.Code ∷ Text (trimmed taken) ∷ line_end ∷ code_ended

unfoldable pub quote_begun : List Piece
quote_begun = Open elements.Quote ∷ []

unfoldable pub quote_ended : List Piece
quote_ended = Close elements.Quote ∷ line_end ∷ []

abbrev pub finished : Inner → Refs → Names → Bool → Block → List ℕ → List Piece × Names
finished inner refs names tight blocks.Nothing taken = ([], names)
finished inner refs names tight blocks.Paragraph taken = (table_or refs tight taken (rows_of taken), names)
finished inner refs names tight (blocks.Code fence) taken = (code_ended, names)
finished inner refs names tight blocks.Indented taken = (indented taken, names)
finished inner refs names tight (blocks.Quote more) taken =
    between quote_begun (inner names false taken) quote_ended
finished inner refs names tight (blocks.Items list) taken =
    between [] (items inner names (not list.spaced) 0 [] (lines_in taken))
    (Close (list_of list.marker.sign) ∷ line_end ∷ [])

-- ---- Texts

-- each line continues the open block, or ends it and begins another
abbrev pub read : Inner → Refs → Names → Bool → Block → List ℕ → List (List ℕ) → List Piece × Names
read inner refs names tight block taken [] = finished inner refs names tight block taken
read inner refs names tight block taken (line ∷ others) =
    if goes_on block line
    then then_more (kept_pieces block line, names) (λ more. read inner refs more tight (kept_block block line)
    (taken ++ kept_text block line) others)
    else then_more (finished inner refs names tight block taken)
    (λ ended. then_more (begun_pieces refs ended (is_code block) (said line), begun_names ended (said line))
    (λ more. read inner refs more tight (begun_block (is_code block) (said line))
    (begun_text line (said line)) others))

-- the blocks of a text, with quotes and items nested at most this deep; deeper nesting becomes a paragraph
unfoldable pub blocks_of : ℕ → Refs → Inner
blocks_of zero refs names tight text = (paragraph refs tight text, names)
blocks_of (suc depth) refs names tight text =
    read (blocks_of depth refs) refs names tight blocks.Nothing [] (lines_in text)

-- how deep these may be nested
unfoldable pub blocks_depth : ℕ
blocks_depth = 16

-- ---- References

-- a page has at most this many references
abbrev pub with_reference : Refs → List ℕ × List ℕ × List ℕ → Refs
with_reference refs reference = if nat_lt (length refs) 512 then refs ++ reference ∷ [] else refs

-- what a page defines, and its other lines
abbrev pub begun_with : (Refs → Block → List ℕ → Refs × List ℕ) → Refs → Block → List ℕ → List ℕ
    → Option (List ℕ × List ℕ × List ℕ) → Refs × List ℕ
begun_with others refs block text line None =
    others refs (begun_block (is_code block) (said line)) (text ++ (line ++ 10 ∷ []))
begun_with others refs block text line (Some reference) =
    others (with_reference refs reference) blocks.Nothing text

-- a line that begins a block may define a label, unless it ends code
abbrev pub defined_after : Block → List ℕ → Option (List ℕ × List ℕ × List ℕ)
defined_after block line = if is_code block then None else defined line

abbrev pub with_labels_taken : Refs → Block → List ℕ → List (List ℕ) → Refs × List ℕ
with_labels_taken refs block text [] = (refs, text)
with_labels_taken refs block text (line ∷ others) =
    if goes_on block line
    then with_labels_taken refs (kept_block block line) (text ++ (line ++ 10 ∷ [])) others
    else begun_with (λ more next kept. with_labels_taken more next kept others) refs block text line
    (defined_after block line)

-- ---- Pages

-- the page of a text, as pieces and as bytes
abbrev pub page_by : Refs × List ℕ → List Piece
page_by found = (blocks_of blocks_depth found.0 [] false found.1).0

abbrev pub page_of : List ℕ → List Piece
page_of text = page_by (with_labels_taken [] blocks.Nothing [] (lines_in text))

abbrev pub html : List ℕ → List ℕ
html text = written (page_of text)
