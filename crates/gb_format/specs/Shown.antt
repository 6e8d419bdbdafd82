-- The comments and tokens of a text as they are written, and the text that is written from them.
use Rattle.std.specs.Prelude.{◌≡◌, ℕ, ◌==◌, List, [], ◌∷◌, ◌++◌, map, Option, None, Some, if◌then◌else◌}
use Rattle.gb_script.specs.Lexing.{is_blank, Piece, written, MayPrecede, IsCut}
use Rattle.gb_format.specs.declared.fits.Item.{Item}
use Rattle.gb_format.specs.declared.kind.Kind.{Kind}
use Rattle.gb_format.specs.declared.kind.Kind.TheVariants as kinds
use Rattle.gb_format.specs.declared.rule.Spacing.{Spacing}
use Rattle.gb_format.specs.declared.rule.Spacing.TheVariants.{Beside, Below, Away}
use Rattle.gb_format.specs.declared.rule.Rule.{Rule}
use Rattle.gb_format.specs.declared.rule.Rule.TheVariants.{Close, Space, Line, Part, After}
use Rattle.gb_format.specs.declared.state.State.{State}
use Rattle.gb_format.specs.Kinds.{kind_of}
use Rattle.gb_format.specs.Layout.{trimmed, gap_of}
use Rattle.gb_format.specs.Pieces.{pieces_of}
use Rattle.gb_format.specs.Rules.{step, first_state}

-- each comment and token: how it is separated from the one before, and its text
abbrev pub Shown : Type 0
Shown = List (Spacing × List ℕ)

-- ---- of a text

-- the separation with one more newline
abbrev pub further : Spacing → Spacing
further Beside = Below
further Below = Away
further Away = Away

-- how the next item is separated, after this blank; nothing if it is not a blank
abbrev pub gap_after : Spacing → List ℕ → Option Spacing
gap_after a [] = None
gap_after a (b ∷ bs) =
    if b == 10 then Some (further a) else (if is_blank b then Some a else None)

abbrev pub shown_next : Option Spacing → Spacing → List ℕ → (Spacing → Shown) → Shown
shown_next None a t more = (a, trimmed t) ∷ more Beside
shown_next (Some b) a t more = more b

-- the comments and tokens of these pieces, after white space that separates so
abbrev pub shown_from : Spacing → List Piece → Shown
shown_from a [] = []
shown_from a (p ∷ ps) = shown_next (gap_after a (written p)) a (written p) (λ b. shown_from b ps)

abbrev pub shown_in : List ℕ → Shown
shown_in text = shown_from Beside (pieces_of text)

-- the comments and tokens of these items
abbrev pub shown : List Item → Shown
shown items = map (λ i. (i.spacing, i.text.now)) items

-- the text ends with this rest
abbrev pub EndsWith : List ℕ → List ℕ → Type 0
EndsWith text rest = (prefix : List ℕ) × (text ≡ prefix ++ rest)

-- a piece is at the front
pub record HasPrefix (text : List ℕ) : Type 0 where
  pub piece : Piece
  pub after : List ℕ
  pub whole : text ≡ written piece ++ after
  pub exists : MayPrecede piece after

-- the text consists of pieces up to its end
pub record IsWhole (text : List ℕ) : Type 0 where
  pub pieces : List Piece
  pub cut : IsCut text pieces []

-- ---- written back

abbrev pub texts : Shown → List (List ℕ)
texts xs = map (λ x. x.1) xs

-- the rule between two: after a comment a new line, and between two words a space
abbrev pub mended : Kind → Rule → Kind → Rule
mended kinds.Comment Close k = Part 0
mended kinds.Comment Space k = Part 0
mended kinds.Comment (Line d) k = Line d
mended kinds.Comment (Part d) k = Part d
mended kinds.Comment (After d) k = Part d
mended kinds.Word Close kinds.Word = Space
mended before r k = r

-- each after the white space of its rule
abbrev pub typeset_from : State → Kind → Shown → List ℕ
typeset_from s k [] = []
typeset_from s k (x ∷ xs) =
    gap_of (mended k (step s k x.0 x.1 (texts xs)).rule (kind_of x.1)) x.0
    ++ (x.1 ++ typeset_from (step s k x.0 x.1 (texts xs)).state (kind_of x.1) xs)

-- the state after the first
abbrev pub state_after : List ℕ → List (List ℕ) → State
state_after t ts = (step first_state kinds.Sign Beside t ts).state

abbrev pub typeset : Shown → List ℕ
typeset [] = []
typeset (x ∷ xs) = x.1 ++ (typeset_from (state_after x.1 (texts xs)) (kind_of x.1) xs ++ 10 ∷ [])
