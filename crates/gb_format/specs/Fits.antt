-- Whether the next part of a text fits in the rest of a line.
use Rattle.std.specs.Prelude.{ℕ, ◌+◌, ◌-◌, Bool, true, false, ◌==◌, nat_le, nat_lt, List, [], ◌∷◌}
use Rattle.std.specs.Prelude.{length, map}
use Rattle.std.specs.Prelude.{if◌then◌else◌}
use Rattle.gb_format.specs.declared.kind.Kind.{Kind}
use Rattle.gb_format.specs.declared.kind.Kind.TheVariants as kinds
use Rattle.gb_format.specs.declared.leading_word.Place.{Place}
use Rattle.gb_format.specs.declared.fits.Reach.{Reach}
use Rattle.gb_format.specs.declared.fits.Reach.TheVariants as reaches
use Rattle.gb_format.specs.declared.fits.Item.{Item}
use Rattle.gb_format.specs.Kinds.{kind_of, is_tight}
use Rattle.gb_format.specs.Places.{begins, after}

-- the text of each
abbrev pub texts_of : List Item → List (List ℕ)
texts_of items = map (λ i. i.text.now) items

-- how many columns it takes on the line of the one before, including a space before it
abbrev pub width : Kind → List ℕ → ℕ
width before t = if is_tight before (kind_of t) then length t else length t + 1

abbrev pub is_end_as : Kind → Place → List ℕ → Bool
is_end_as kinds.CloseBrace p t = true
is_end_as kinds.Comment p t = p.brackets == 0
is_end_as k p t = begins p t

-- the clause ends before this
abbrev pub is_end : Place → List ℕ → Bool
is_end p t = is_end_as (kind_of t) p t

-- an element of a bracket ends before this, with at most this many brackets open
abbrev pub is_inner_end : ℕ → Place → Kind → Bool
is_inner_end n p kinds.Close = nat_le p.brackets n
is_inner_end n p kinds.Comment = nat_le p.brackets n
is_inner_end n p k = false

abbrev pub ends_before : Reach → Place → List ℕ → Bool
ends_before reaches.Clause p t = is_end p t
ends_before reaches.Element p t = is_end p t
ends_before (reaches.Inner n) p t = is_inner_end n p (kind_of t)
ends_before (reaches.Bracket n) p t = false
ends_before reaches.Block p t = false

-- the part that has to fit ends after this, where `place` is the place after it
abbrev pub ends_after : Reach → Place → Kind → Bool
ends_after reaches.Clause p kinds.OpenBrace = true
ends_after reaches.Element p kinds.OpenBrace = true
ends_after reaches.Element p kinds.Comma = p.brackets == 0
ends_after (reaches.Inner n) p kinds.Comma = nat_le p.brackets n
ends_after (reaches.Bracket n) p kinds.Close = nat_le p.brackets n
ends_after reaches.Block p kinds.CloseBrace = true
ends_after r p k = false

abbrev pub is_comment : Kind → Bool
is_comment kinds.Comment = true
is_comment k = false

-- the part of these texts that has to fit fits in `room` columns
abbrev pub fits : Reach → Place → Kind → ℕ → List (List ℕ) → Bool
fits reach place before room [] = true
fits reach place before room (t ∷ ts) =
    if ends_before reach place t then true
    else (if is_comment (kind_of t) then false
    else (if nat_lt room (width before t) then false
    else (if ends_after reach (after place t) (kind_of t) then true
    else fits reach (after place t) (kind_of t) (room - width before t) ts)))

-- so does the part that begins with this text
abbrev pub fits_from : Reach → Place → ℕ → List ℕ → List (List ℕ) → Bool
fits_from reach place room t ts =
    if nat_lt room (length t) then false else fits reach (after place t) (kind_of t) (room - length t) ts
