-- A layout: the rule before each comment or token.
--
-- A statement or clause that fits on a line stays on it. In one that does not fit, each element after a comma
-- begins a line. In an element that does not fit on a line, each step of its chain begins a line, too. A
-- bracket that does not fit in the rest of its line is broken: each element begins a line, and so does the
-- bracket that closes. In the outermost broken bracket, each step of an element that does not fit on a line
-- begins a line, too. A block whose first clause follows its brace on the same line stays on that line if it
-- fits. A line has 100 columns, which are counted in bytes.
use Rattle.std.specs.Prelude.{ℕ, ◌+◌, ◌*◌, ◌-◌, Bool, true, false, not, ◌&&◌, ◌==◌, nat_lt, List}
use Rattle.std.specs.Prelude.{length, if◌then◌else◌}
use Rattle.gb_format.specs.declared.kind.Kind.{Kind}
use Rattle.gb_format.specs.declared.kind.Kind.TheVariants as kinds
use Rattle.gb_format.specs.declared.leading_word.Place.{Place}
use Rattle.gb_format.specs.declared.fits.Reach.TheVariants as reaches
use Rattle.gb_format.specs.declared.rule.Spacing.{Spacing}
use Rattle.gb_format.specs.declared.rule.Spacing.TheVariants.{Beside}
use Rattle.gb_format.specs.declared.rule.Rule.{Rule}
use Rattle.gb_format.specs.declared.rule.Rule.TheVariants.{Close, Space, Line, Part, After}
use Rattle.gb_format.specs.declared.state.State.{State}
use Rattle.gb_format.specs.declared.state.Advance.{Advance}
use Rattle.gb_format.specs.declared.state.LineBreak.{LineBreak}
use Rattle.gb_format.specs.declared.state.LineBreak.TheVariants as turns
use Rattle.gb_format.specs.Kinds.{kind_of, is_tight, is_open}
use Rattle.gb_format.specs.Places.{at_start, deeper, shallower, depth, begins, after}
use Rattle.gb_format.specs.Fits.{fits, fits_from}

-- how many columns a line with this indent has
abbrev pub room_at : ℕ → ℕ
room_at indent = 100 - 4 * indent

-- how many are left after this text at the start of a line
abbrev pub room_after : ℕ → List ℕ → ℕ
room_after indent t = room_at indent - length t

-- ---- within a clause

-- the innermost bracket is broken
abbrev pub is_broken : State → Bool
is_broken s = nat_lt 0 s.broken && (s.place.brackets == s.broken)

-- in an element of the outermost broken bracket that does not fit on a line
abbrev pub is_stepped : State → Bool
is_stepped s = s.is_inner_chain && (s.broken == 1)

-- an element begins after a bracket, a comma or a comment
abbrev pub break_after : Kind → LineBreak
break_after kinds.OpenParen = turns.Inside
break_after kinds.OpenBracket = turns.Inside
break_after kinds.Comma = turns.Inside
break_after kinds.Comment = turns.Inside
break_after before = turns.Flat

-- the line break in a broken bracket
abbrev pub break_in : State → Kind → Kind → LineBreak
break_in s before kinds.Close = turns.Closing
break_in s before kinds.Dot = if is_stepped s then turns.InnerStep else break_after before
break_in s before k = break_after before

-- the line break outside of brackets
abbrev pub break_out : State → Kind → Kind → LineBreak
break_out s kinds.Comment k = turns.Resumed
break_out s kinds.Comma kinds.Dot =
    if s.is_cut then turns.Element else (if s.is_chain then turns.Step else turns.Flat)
break_out s kinds.Comma k = if s.is_cut then turns.Element else turns.Flat
break_out s before kinds.Dot = if s.is_chain then turns.Step else turns.Flat
break_out s before k = turns.Flat

abbrev pub break_of : State → Kind → Kind → LineBreak
break_of s before k =
    if is_broken s then break_in s before k
    else (if s.place.brackets == 0 then break_out s before k else turns.Flat)

-- the indent of the elements of a broken bracket
abbrev pub inside_indent : State → ℕ
inside_indent s = if s.broken == 1 then s.inner else s.indent

abbrev pub break_rule : State → LineBreak → Bool → Rule
break_rule s turns.Flat tight = if tight then Close else Space
break_rule s turns.Inside tight = Line (inside_indent s)
break_rule s turns.InnerStep tight = Line (deeper s.inner)
break_rule s turns.Closing tight = Line (shallower (inside_indent s))
break_rule s turns.Resumed tight = Line (depth s.place + 1)
break_rule s turns.Element tight = Line (depth s.place + 1)
break_rule s turns.Step tight = Line (deeper s.base)

-- the state in the line with which a clause continues
abbrev pub resumed : State → Bool → List ℕ → List (List ℕ) → State
resumed s is_cut t ts = record s {
  broken = 0;
  indent = depth s.place + 1;
  base = depth s.place + 1;
  room = room_after (depth s.place + 1) t;
  is_cut = is_cut;
  is_chain = is_cut && not (fits_from reaches.Element s.place (room_at (depth s.place + 1)) t ts);
}

abbrev pub is_clause_cut : State → List ℕ → List (List ℕ) → Bool
is_clause_cut s t ts = not (fits_from reaches.Clause s.place (room_at (depth s.place + 1)) t ts)

-- the state where an element of a broken bracket begins
abbrev pub entered : State → List ℕ → List (List ℕ) → State
entered s t ts = record s {
  indent = inside_indent s;
  room = room_after (inside_indent s) t;
  is_inner_chain = not (fits_from (reaches.Inner s.broken) s.place (room_at (inside_indent s)) t ts);
}

abbrev pub after_break : State → LineBreak → Bool → List ℕ → List (List ℕ) → State
after_break s turns.Flat tight t ts = record s { room = s.room - (if tight then 0 else 1) - length t }
after_break s turns.Inside tight t ts =
    if s.broken == 1 then entered s t ts else record s { room = room_after s.indent t }
after_break s turns.InnerStep tight t ts = record s {
  indent = deeper s.inner;
  room = room_after (deeper s.inner) t;
}
after_break s turns.Closing tight t ts = record s {
  broken = shallower s.broken;
  indent = shallower (inside_indent s);
  room = room_after (shallower (inside_indent s)) t;
}
after_break s turns.Resumed tight t ts = resumed s (is_clause_cut s t ts) t ts
after_break s turns.Element tight t ts = resumed s true t ts
after_break s turns.Step tight t ts = record s { indent = deeper s.base; room = room_after (deeper s.base) t }

-- a bracket that opens does not fit on the line
abbrev pub breaks : State → Place → Kind → List (List ℕ) → Bool
breaks s place k ts =
    is_open k && s.is_cut && (s.place.brackets == s.broken)
    && not (fits (reaches.Bracket s.place.brackets) place k (s.room - 2) ts)

abbrev pub inner_indent : State → ℕ
inner_indent s = if s.broken == 0 then deeper s.indent else s.inner

abbrev pub opened : State → List ℕ → List (List ℕ) → State
opened s t ts =
    if breaks s (after s.place t) (kind_of t) ts
    then record s {
      place = after s.place t;
      broken = deeper s.broken;
      indent = deeper s.indent;
      inner = inner_indent s;
    }
    else record s { place = after s.place t }

abbrev pub inner : State → Kind → List ℕ → List (List ℕ) → Advance
inner s before t ts = record {
  rule = break_rule s (break_of s before (kind_of t)) (is_tight before (kind_of t));
  state = opened (after_break s (break_of s before (kind_of t)) (is_tight before (kind_of t)) t ts) t ts;
}

-- ---- where a statement or a clause begins

-- it continues the line of the one before
abbrev pub joins : State → Kind → Spacing → List ℕ → List (List ℕ) → Bool
joins s kinds.OpenBrace Beside t ts = fits_from reaches.Block s.place s.room t ts
joins s kinds.OpenBrace a t ts = false
joins s before a t ts = s.in_line

abbrev pub rule_after : Kind → ℕ → Rule
rule_after kinds.OpenBrace n = Line n
rule_after before n = Part n

abbrev pub begun_rule : State → Kind → Bool → Rule
begun_rule s before in_line = if in_line then Space else rule_after before (depth s.place)

abbrev pub is_begun_cut : State → Bool → List ℕ → List (List ℕ) → Bool
is_begun_cut s in_line t ts =
    not in_line && not (fits_from reaches.Clause s.place (room_at (depth s.place)) t ts)

abbrev pub begun : State → Bool → List ℕ → List (List ℕ) → State
begun s in_line t ts = record {
  place = after s.place t;
  broken = 0;
  indent = depth s.place;
  base = depth s.place;
  inner = depth s.place;
  room = if in_line then s.room - 1 - length t else room_after (depth s.place) t;
  in_line = in_line;
  is_cut = is_begun_cut s in_line t ts;
  is_chain = is_begun_cut s in_line t ts
      && not (fits_from reaches.Element s.place (room_at (depth s.place)) t ts);
  is_inner_chain = false;
}

abbrev pub begin : State → Kind → Spacing → List ℕ → List (List ℕ) → Advance
begin s before a t ts = record {
  rule = begun_rule s before (joins s before a t ts);
  state = begun s (joins s before a t ts) t ts;
}

-- ---- comments, and the brace that closes

abbrev pub comment_indent : State → ℕ
comment_indent s = if s.place.brackets == 0 then depth s.place else s.indent

abbrev pub closing_rule : State → Kind → Rule
closing_rule s kinds.OpenBrace = Space
closing_rule s before = if s.in_line then Space else Line 0

abbrev pub closed : State → List ℕ → State
closed s t = record s { place = after s.place t; in_line = false }

-- ---- all of them

abbrev pub step_as : Kind → State → Kind → Spacing → List ℕ → List (List ℕ) → Advance
step_as kinds.Comment s before a t ts = record { rule = After (comment_indent s); state = s }
step_as kinds.CloseBrace s before a t ts = record { rule = closing_rule s before; state = closed s t }
step_as k s before a t ts = if begins s.place t then begin s before a t ts else inner s before t ts

-- The rule of a comment or a token, given how it is separated from the one before, and the state after it.
unfoldable pub step : State → Kind → Spacing → List ℕ → List (List ℕ) → Advance
step s before a t ts = step_as (kind_of t) s before a t ts

abbrev pub first_state : State
first_state = record {
  place = at_start;
  broken = 0;
  indent = 0;
  base = 0;
  inner = 0;
  room = 100;
  in_line = false;
  is_cut = false;
  is_chain = false;
  is_inner_chain = false;
}
