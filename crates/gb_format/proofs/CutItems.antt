-- The comments and tokens of a text, one after another.
use Rattle.std.proofs.Common.{◌≡◌, ℕ, ◌<◌, List, [], ◌∷◌, ◌++◌, length, Option, None, Some, refl, sym, ap, subst, ◌∙◌, append_assoc, arith}
use Rattle.std.proofs.lemmas.List.{append-nil, map-append}
use Rattle.gb_script.specs.Lexing.{Piece, written, MayPrecede, IsCut}
use Rattle.gb_format.specs.Layout.{trimmed}
use Rattle.gb_format.specs.declared.fits.Item.{Item}
use Rattle.gb_format.specs.declared.rule.Spacing.{Spacing}
use Rattle.gb_format.specs.declared.rule.Spacing.TheVariants.{Beside}
use Rattle.gb_format.specs.Shown.{Shown, gap_after, shown_next, shown_from, shown_in, shown, HasPrefix, IsWhole}
use Rattle.gb_format.proofs.Cut.{stuck_nothing}
use Rattle.gb_format.proofs.Computed.{pieces_compute}

abbrev pub Prefixes : List ℕ → List ℕ → List ℕ → Type 0
Prefixes text prefix rest = (p : Piece) (after : List ℕ) → text ≡ written p ++ after → MayPrecede p after → (prefix ≡ written p) × (rest ≡ after)

-- what is left to be cut
pub record Left (text : List ℕ) (found : Shown) (spacing : Spacing) (rest : List ℕ) : Type 0 where
  pub pieces : List Piece
  pub cut : IsCut rest pieces []
  pub so_far : found ++ shown_from spacing pieces ≡ shown_in text

pub all_left : (text : List ℕ) (found : Shown) → IsWhole text → found ≡ [] → Left text found Beside text
all_left text found w none = record {
  pieces = w.pieces;
  cut = w.cut;
  so_far = ap (λ (l : Shown). l ++ shown_from Beside w.pieces) none ∙ ap (shown_from Beside) (sym (pieces_compute text w.pieces w.cut));
}

pub prefix_is : (rest : List ℕ) (ps : List Piece) → IsCut rest ps [] → 0 < length rest → HasPrefix rest
prefix_is rest [] c h = absurd (omega (arith, ap length c))
prefix_is rest (p ∷ ps) c h = record { piece = p; after = c.0; whole = c.1; exists = c.2 }

abbrev next_of : Option Spacing → Spacing → List ℕ → List Piece → Shown
next_of o a t ps = shown_next o a t (λ b. shown_from b ps)

-- the front, and the text after it
record One (spacing : Spacing) (prefix rest after : List ℕ) (ps : List Piece) : Type 0 where
  qs : List Piece
  cut : IsCut after qs []
  shown_is : shown_from spacing ps ≡ next_of (gap_after spacing prefix) spacing prefix qs

one : (spacing : Spacing) (prefix rest after : List ℕ) (ps : List Piece) → IsCut rest ps [] → 0 < length rest → Prefixes rest prefix after → One spacing prefix rest after ps
one spacing prefix rest after [] c h f = absurd (omega (arith, ap length c))
one spacing prefix rest after (p ∷ qs) c h f =
    let e = f p c.0 c.1 c.2 in
    record {
      qs = qs;
      cut = subst (λ (l : List ℕ). IsCut l qs []) (sym e.1) c.3;
      shown_is = ap (λ (t : List ℕ). next_of (gap_after spacing t) spacing t qs) (sym e.0);
    }

module _ (text : List ℕ) (found : Shown) (spacing : Spacing) (prefix rest after : List ℕ) (left : Left text found spacing rest) (some : 0 < length rest) (prefixes : Prefixes rest prefix after) where
  pub blank_cut : (next : Spacing) → Some next ≡ gap_after spacing prefix → Left text found next after
  blank_cut next h =
      let o = one spacing prefix rest after left.pieces left.cut some prefixes in
      record {
        pieces = o.qs;
        cut = o.cut;
        so_far =
            ap (λ (l : Shown). found ++ l) (sym (o.shown_is ∙ ap (λ (g : Option Spacing). next_of g spacing prefix o.qs) (sym h)))
            ∙ left.so_far;
      }

  pub kept_cut : (new : Shown) → None ≡ gap_after spacing prefix → new ≡ found ++ (spacing, trimmed prefix) ∷ [] → Left text new Beside after
  kept_cut new h n =
      let o = one spacing prefix rest after left.pieces left.cut some prefixes in
      record {
        pieces = o.qs;
        cut = o.cut;
        so_far =
            ap (λ (l : Shown). l ++ shown_from Beside o.qs) n
            ∙ append_assoc found ((spacing, trimmed prefix) ∷ []) (shown_from Beside o.qs)
            ∙ ap (λ (l : Shown). found ++ l) (sym (o.shown_is ∙ ap (λ (g : Option Spacing). next_of g spacing prefix o.qs) (sym h)))
            ∙ left.so_far;
      }

pub none_left : (text : List ℕ) (found : Shown) (spacing : Spacing) (rest : List ℕ) → Left text found spacing rest → length rest ≡ 0 → found ≡ shown_in text
none_left text found spacing rest left h = by_pieces left.pieces left.cut left.so_far
  where
    nothing : (l : List ℕ) → length l ≡ 0 → l ≡ []
    nothing [] h = refl
    nothing (b ∷ l) h = absurd (omega arith)

    by_pieces : (ps : List Piece) → IsCut rest ps [] → found ++ shown_from spacing ps ≡ shown_in text → found ≡ shown_in text
    by_pieces [] c e = sym (append-nil found) ∙ e
    by_pieces (p ∷ ps) c e = absurd (stuck_nothing p c.0 (sym (nothing rest h) ∙ c.1) c.2)

pub shown_more : (old new : List Item) (i : Item) → new ≡ old ++ i ∷ [] → shown new ≡ shown old ++ (i.spacing, i.text.now) ∷ []
shown_more old new i h = ap shown h ∙ map-append (λ (i : Item). (i.spacing, i.text.now)) old (i ∷ [])
