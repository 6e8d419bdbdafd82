-- The dates of pages, as `2026-03-01`.
use Rattle.std.specs.Prelude.{ℕ, ◌+◌, ◌-◌, ◌*◌, ◌==◌, nat_le, Bool, ◌&&◌, pos, List, ◌++◌, codes, decimal}
use Rattle.std.specs.Prelude.{if◌then◌else◌, length, slice_index, count_by}
use Rattle.std.specs.Prelude.{Option, None, Some, Result, Ok, Err}
use Rattle.std.specs.Char.{is_ascii_digit}
use Rattle.std.specs.FinMap.Entries.{put}
use Rattle.jiff_core.specs.Calendar.{days_in_month}
use Rattle.gb_core.specs.Lists.{byte_order}
use Rattle.gb_action.specs.Files.{Tree}
use Rattle.gb_pages.specs.FrontMatter.{cut, first_line, front_matter}
use Rattle.gb_pages.specs.Paths.{as_path}

-- two digits, and their number
abbrev pub is_two : ℕ → ℕ → Bool
is_two tens ones = is_ascii_digit tens && is_ascii_digit ones

abbrev pub two : ℕ → ℕ → ℕ
two tens ones = 10 * (tens - 48) + (ones - 48)

-- the calendar has this day
abbrev pub is_day : ℕ → ℕ → ℕ → Bool
is_day year month day =
    nat_le 1 month && (nat_le month 12 && (nat_le 1 day && nat_le day (days_in_month (pos year) month)))

-- ten bytes, of which the fifth and the eighth are `-`
abbrev pub is_marked : List ℕ → Bool
is_marked text = length text == 10 && (slice_index text 4 == 45 && slice_index text 7 == 45)

-- a day of the calendar: the digits of a year, a month and a day, with `-` between them
abbrev pub is_date : List ℕ → Bool
is_date text =
    is_marked text
    && (is_two (slice_index text 0) (slice_index text 1) && (is_two (slice_index text 2) (slice_index text 3)
    && (is_two (slice_index text 5) (slice_index text 6) && (is_two (slice_index text 8) (slice_index text 9)
    && is_day
    (100 * two (slice_index text 0) (slice_index text 1) + two (slice_index text 2) (slice_index text 3))
    (two (slice_index text 5) (slice_index text 6)) (two (slice_index text 8) (slice_index text 9))))))

-- ---- The date of a page

-- the message for an error of a page, with its line
abbrev pub message_at : List ℕ → ℕ → List ℕ → List ℕ
message_at path line what = path ++ codes ":" ++ decimal line ++ codes ": " ++ what

-- the line of a page after this part of its front matter
abbrev pub line_after : List ℕ → ℕ
line_after front = count_by (λ b. b == 10) front + 2

abbrev pub date_in : List ℕ → Option (List ℕ × List ℕ) → Result (Option (List ℕ)) (List ℕ)
date_in path None = Ok None
date_in path (Some found) =
    if is_date (first_line found.1) then Ok (Some (first_line found.1))
    else Err (message_at path (line_after found.0) (codes "date is not YYYY-MM-DD"))

-- the value of the key `date` of its front matter; without that key it has none, and any other value is an
-- error
abbrev pub date_of : List ℕ → List ℕ → Result (Option (List ℕ)) (List ℕ)
date_of path text = date_in path (cut (codes "\ndate: ") (front_matter text))

-- ---- Entries in the order of their dates

-- the sort path of an entry: its date, and then the path of its text
abbrev pub day_path : List ℕ → List ℕ → Option (List ℕ)
day_path date path = as_path (date ++ codes "/" ++ path)

-- the entries with one more at its sort path
abbrev pub with_entry : Tree → List ℕ → List ℕ → Option (List ℕ) → Result Tree (List ℕ)
with_entry days path entry None = Err (path ++ codes ": too long for a date")
with_entry days path entry (Some day) = Ok (put byte_order day entry days)

-- the next step, unless the one before it fails
abbrev pub and_next : {A : Type 0} → (A → Result A (List ℕ)) → Result A (List ℕ) → Result A (List ℕ)
and_next next (Err text) = Err text
and_next next (Ok made) = next made
