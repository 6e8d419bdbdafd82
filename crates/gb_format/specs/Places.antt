-- Which word begins a statement or a clause. A name may be any word, so the text before decides.
use Rattle.std.specs.Prelude.{ℕ, ◌+◌, ◌-◌, Bool, true, false, not, ◌&&◌, ◌||◌, ◌==◌, nat_lt, codes}
use Rattle.std.specs.Prelude.{List}
use Rattle.std.specs.Prelude.{if◌then◌else◌}
use Rattle.std.specs.Str.{bytes_eq}
use Rattle.gb_format.specs.declared.kind.Kind.{Kind}
use Rattle.gb_format.specs.declared.kind.Kind.TheVariants as kinds
use Rattle.gb_format.specs.declared.leading_word.Awaits.{Awaits}
use Rattle.gb_format.specs.declared.leading_word.Awaits.TheVariants.{Start, Value, More}
use Rattle.gb_format.specs.declared.leading_word.Clause.{Clause}
use Rattle.gb_format.specs.declared.leading_word.Clause.TheVariants.{Condition, Files, Roots, Other}
use Rattle.gb_format.specs.declared.leading_word.Place.{Place}
use Rattle.gb_format.specs.Kinds.{kind_of}

abbrev pub at_start : Place
at_start = record { awaits = Start; clause = Other; brackets = 0; in_block = false }

-- one more, up to 64, which is as many brackets as may be open
abbrev pub deeper : ℕ → ℕ
deeper n = if nat_lt n 64 then n + 1 else 64

abbrev pub shallower : ℕ → ℕ
shallower n = n - 1

-- the indent of a statement or clause that begins here
abbrev pub depth : Place → ℕ
depth p = if p.in_block then 1 else 0

-- the word continues the clause
abbrev pub goes_on : Clause → List ℕ → Bool
goes_on Condition w = bytes_eq w (codes "is")
goes_on Files w =
    bytes_eq w (codes "incremental") || bytes_eq w (codes "skipWhenEmpty") || bytes_eq w (codes "nameOnly")
    || bytes_eq w (codes "from")
goes_on Roots w = bytes_eq w (codes "include") || bytes_eq w (codes "exclude")
goes_on Other w = false

-- a word here begins a statement or a clause
abbrev pub begins_after : Awaits → Place → List ℕ → Bool
begins_after Start p w = true
begins_after Value p w = false
begins_after More p w = (p.brackets == 0) && not (goes_on p.clause w)

abbrev pub begins_as : Kind → Place → List ℕ → Bool
begins_as kinds.Word p w = begins_after p.awaits p w
begins_as k p w = false

-- this token begins a statement or a clause
abbrev pub begins : Place → List ℕ → Bool
begins p t = begins_as (kind_of t) p t

-- the clause that the word begins
abbrev pub clause_of : List ℕ → Clause
clause_of w =
    if bytes_eq w (codes "inputFiles") then Files
    else (if bytes_eq w (codes "onlyIf") || bytes_eq w (codes "upToDateWhen") then Condition else Other)

abbrev pub awaiting : Awaits → Place → Place
awaiting a p = record { awaits = a; clause = p.clause; brackets = p.brackets; in_block = p.in_block }

-- after a word that continues a clause
abbrev pub more_after : Clause → Place → List ℕ → Place
more_after Files p w =
    if bytes_eq w (codes "from")
    then record { awaits = Value; clause = Roots; brackets = p.brackets; in_block = p.in_block }
    else p
more_after c p w = awaiting Value p

abbrev pub after_more : Place → List ℕ → Place
after_more p w = more_after p.clause p w

abbrev pub word_after : Awaits → Place → List ℕ → Place
word_after More p w = after_more p w
word_after a p w = awaiting More p

abbrev pub after_word : Place → List ℕ → Place
after_word p w =
    if begins p w then record { awaits = Value; clause = clause_of w; brackets = 0; in_block = p.in_block }
    else word_after p.awaits p w

abbrev pub opened : Place → Place
opened p = record { awaits = Value; clause = p.clause; brackets = deeper p.brackets; in_block = p.in_block }

abbrev pub after_as : Kind → Place → List ℕ → Place
after_as kinds.Comment p t = p
after_as kinds.Word p t = after_word p t
after_as kinds.Text p t = awaiting More p
after_as kinds.OpenBrace p t = record { awaits = Start; clause = Other; brackets = 0; in_block = true }
after_as kinds.CloseBrace p t = at_start
after_as kinds.OpenParen p t = opened p
after_as kinds.OpenBracket p t = opened p
after_as kinds.Close p t =
    record { awaits = More; clause = p.clause; brackets = shallower p.brackets; in_block = p.in_block }
after_as kinds.Comma p t = awaiting Value p
after_as kinds.Dot p t = awaiting Value p
after_as kinds.Sign p t = awaiting Value p

-- the place after a comment or a token
abbrev pub after : Place → List ℕ → Place
after p t = after_as (kind_of t) p t
