-- What may be written when scripts are formatted.
use Rattle.std.proofs.Common.{ℕ, ◌≡◌, ◌++◌, ◌||◌, Bool, true, false, List, [], ◌∷◌, Option, Result, Ok, Err, Some, None, map, refl, sym, subst, inl, inr}
use Rattle.std.specs.Prelude.{bytes_eq, string_bytes}
use Rattle.std.specs.Global.{Global}
use Rattle.std.specs.List.{AllByRecursion}
use Rattle.std.specs.declared.string.String.{String}
use Rattle.std.specs.Cmp.Lexicographic.{bytes_decides}
use Rattle.gb_folder.specs.Calls.{Call, IsPermitted, Lists, Permit, Reads, ReadsPart, Removes, Writes}
use Rattle.gb_folder.specs.Each.{Each, Ended, OrStops}
use Rattle.gb_format.specs.Formatted.{IsFormatted}
use Rattle.gb_report.specs.declared.fault.Fault.{Fault}
use Rattle.gb_ask_command.specs.Fmt.{Formats, FormatsAt, IsText, IsTreated, Replaces, Shows, Treats, TreatsText, is_input, may_write, mode_as}
use Rattle.gb_ask_command.specs.declared.arguments.Mode.{Mode}
use Rattle.gb_ask_command.specs.declared.arguments.Mode.TheVariants as modes

-- ---- calls that are permitted

abbrev pub AllMay : Permit → List Call → Type 0
AllMay permit calls = AllByRecursion (IsPermitted permit) calls

permitted_more : {some more : Permit} → ((place : List ℕ) (next : Option (List ℕ)) → some place next → more place next) → (call : Call) → IsPermitted some call → IsPermitted more call
permitted_more wider (Lists root answer) is = tt
permitted_more wider (Reads place limit answer) is = tt
permitted_more wider (ReadsPart place at len answer) is = tt
permitted_more wider (Writes place bytes limit answer) is = wider place (Some bytes) is
permitted_more wider (Removes place answer) is = wider place None is

all_more : {some more : Permit} → ((place : List ℕ) (next : Option (List ℕ)) → some place next → more place next) → (calls : List Call) → AllMay some calls → AllMay more calls
all_more wider [] all = tt
all_more wider (call ∷ calls) all = (permitted_more wider call all.0, all_more wider calls all.1)

all_both : (permit : Permit) (first later : List Call) → AllMay permit first → AllMay permit later → AllMay permit (first ++ later)
all_both permit [] later a b = b
all_both permit (call ∷ first) later a b = (a.0, all_both permit first later a.1 b)

all_none : (permit : Permit) (calls : List Call) → calls ≡ [] → AllMay permit calls
all_none permit calls none = subst (λ (cs : List Call). AllMay permit cs) (sym none) tt

-- ---- more names, or another mode

left_true : (a b : Bool) → a ≡ true → (a || b) ≡ true
left_true true b e = refl
left_true false b e = absurd (cc)

right_true : (a b : Bool) → b ≡ true → (a || b) ≡ true
right_true true b e = refl
right_true false b e = e

only_one : (a : Bool) → (a || false) ≡ true → a ≡ true
only_one true e = refl
only_one false e = e

may_others : (mode : Mode) (name : List ℕ) (names : List (List ℕ)) (place : List ℕ) (next : Option (List ℕ)) → may_write mode names place next → may_write mode (name ∷ names) place next
unfolding may_write
may_others modes.Writes name names place next may = (right_true (bytes_eq place name) _ may.0, may.1)
may_others modes.Prints name names place next may = may
may_others modes.Checks name names place next may = may

may_first : (mode : Mode) (name : List ℕ) (names : List (List ℕ)) (place : List ℕ) (next : Option (List ℕ)) → may_write mode (name ∷ []) place next → may_write mode (name ∷ names) place next
unfolding may_write
may_first modes.Writes name names place next may = (left_true (bytes_eq place name) _ (only_one (bytes_eq place name) may.0), may.1)
may_first modes.Prints name names place next may = may
may_first modes.Checks name names place next may = may

may_as : (is_input : Bool) (mode : Mode) (names : List (List ℕ)) (place : List ℕ) (next : Option (List ℕ)) → may_write (mode_as is_input mode) names place next → may_write mode names place next
unfolding may_write
may_as true modes.Writes names place next may = absurd may
may_as true modes.Prints names place next may = may
may_as true modes.Checks names place next may = may
may_as false modes.Writes names place next may = may
may_as false modes.Prints names place next may = may
may_as false modes.Checks names place next may = may

-- ---- one file

-- a formatted text may be written at the place
may_put : (place text out : List ℕ) → IsFormatted text out → may_write modes.Writes (place ∷ []) place (Some out)
unfolding may_write
may_put place text out is = (left_true (bytes_eq place place) false ((bytes_decides place place).1 refl), (text, out, is, refl))

replaces_may : (same : Bool) (place text out : List ℕ) (calls : List Call) (printed : Result (List ℕ) Fault) → IsFormatted text out → Replaces same place out calls printed → AllMay (may_write modes.Writes (place ∷ [])) calls
replaces_may true place text out calls printed is does = all_none (may_write modes.Writes (place ∷ [])) calls does.0
replaces_may false place text out calls printed is does =
    subst (λ (cs : List Call). AllMay (may_write modes.Writes (place ∷ [])) cs) (sym does.1) (may_put place text out is, tt)

shows_may : (mode : Mode) (headed : Bool) (place text out : List ℕ) (calls : List Call) (printed : Result (List ℕ) Fault) → IsFormatted text out → Shows mode headed place text out calls printed → AllMay (may_write mode (place ∷ [])) calls
shows_may modes.Prints headed place text out calls printed is does = all_none (may_write modes.Prints (place ∷ [])) calls does.0
shows_may modes.Checks headed place text out calls printed is does = all_none (may_write modes.Checks (place ∷ [])) calls does.0
shows_may modes.Writes headed place text out calls printed is does = replaces_may (bytes_eq out text) place text out calls printed is does

formatted_as : (settings : Bool) (text out : List ℕ) → Formats settings text (Ok out) → IsFormatted text out
formatted_as true text out is = is.0
formatted_as false text out is = is.0

formatted_at : (place text out : List ℕ) → FormatsAt place text (Ok out) → IsFormatted text out
formatted_at place text out (Ok found, is, same) = subst (λ (o : List ℕ). IsFormatted text o) (let e = same in cc) (formatted_as _ text found is)
formatted_at place text out (Err fault, is, same) = absurd (let e = same in cc)

text_may : (mode : Mode) (headed : Bool) (place text : List ℕ) (calls : List Call) (printed : Result (List ℕ) Fault) → TreatsText mode headed place text calls printed → AllMay (may_write mode (place ∷ [])) calls
text_may mode headed place text calls printed (Ok out, is, does) =
    all_more (may_as (is_input place) mode (place ∷ [])) calls
    (shows_may (mode_as (is_input place) mode) headed place text out calls printed (formatted_at place text out is) does)
text_may mode headed place text calls printed (Err fault, is, does) = all_none (may_write mode (place ∷ [])) calls does.0

read_may : (permit : Permit) (input place : List ℕ) (calls : List Call) (text : Result (List ℕ) Fault) → IsText input place calls text → AllMay permit calls
read_may permit input place calls text (inl is) = all_none permit calls is.1
read_may permit input place calls text (inr (inl is)) = subst (λ (cs : List Call). AllMay permit cs) (sym is.2) (tt, tt)
read_may permit input place calls text (inr (inr (inl is))) = all_none permit calls is.1
read_may permit input place calls text (inr (inr (inr is))) = all_none permit calls is.0

treats_may : (mode : Mode) (headed : Bool) (input place : List ℕ) (calls : List Call) (printed : Result (List ℕ) Fault) → Treats mode headed input place calls printed → AllMay (may_write mode (place ∷ [])) calls
treats_may mode headed input place calls printed (Ok text, first, later, are, is, does) =
    subst (λ (cs : List Call). AllMay (may_write mode (place ∷ [])) cs) (sym are)
    (all_both (may_write mode (place ∷ [])) first later (read_may (may_write mode (place ∷ [])) input place first (Ok text) is) (text_may mode headed place text later printed does))
treats_may mode headed input place calls printed (Err fault, first, later, are, is, does) =
    subst (λ (cs : List Call). AllMay (may_write mode (place ∷ [])) cs) (sym are)
    (all_both (may_write mode (place ∷ [])) first later (read_may (may_write mode (place ∷ [])) input place first (Err fault) is) (all_none (may_write mode (place ∷ [])) later does.0))

-- ---- all files

following : (permit : Permit) (mid : Ended Fault) (next : Type 0) (later : List Call) (more : List ℕ) (ended : Ended Fault) → (next → AllMay permit later) → OrStops mid next later more ended → AllMay permit later
following permit (Ok done) next later more ended may does = may does
following permit (Err fault) next later more ended may does = all_none permit later does.0

pub all_may : (mode : Mode) (headed : Bool) (input : List ℕ) (names : List (String Global)) (calls : List Call) (made : List ℕ) (ended : Ended Fault) → Each (IsTreated mode headed input) names calls made ended → AllMay (may_write mode (map string_bytes names)) calls
all_may mode headed input [] calls made ended each = all_none (may_write mode []) calls each.0
all_may mode headed input (name ∷ names) calls made ended each =
    let permit = may_write mode (string_bytes name ∷ map string_bytes names) in
    let first : AllMay permit each.0 =
    all_more (may_first mode (string_bytes name) (map string_bytes names)) each.0
    (treats_may mode headed input (string_bytes name) each.0 each.7.0 each.7.1) in
    let later : AllMay permit each.1 =
    following permit each.4 (Each (IsTreated mode headed input) names each.1 each.3 ended) each.1 each.3 ended
    (λ next. all_more (may_others mode (string_bytes name) (map string_bytes names)) each.1 (all_may mode headed input names each.1 each.3 ended next))
    each.8 in
    subst (λ (cs : List Call). AllMay permit cs) (sym each.5) (all_both permit each.0 each.1 first later)
