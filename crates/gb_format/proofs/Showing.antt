-- The shown comments and tokens of a text are those of its items.
use Rattle.std.proofs.Common.{◌≡◌, ℕ, zero, suc, ◌+◌, true, false, cond, List, [], ◌∷◌, map, Option, None, Some, refl, sym, ap, ◌∙◌, arith, inl, inr}
use Rattle.std.specs.Prelude.{◌==◌}
use Rattle.std.proofs.lemmas.Bool.Decides.{nat_tests}
use Rattle.gb_core.specs.Name.{is_name_byte}
use Rattle.gb_script.specs.declared.token.Sign.TheVariants.{OpenBrace, CloseBrace, OpenParen, CloseParen, OpenBracket, CloseBracket, Comma, Dot, Colon, Equals}
use Rattle.gb_script.specs.declared.token.Token.TheVariants.{Word, Text, Mark, Wrong}
use Rattle.gb_script.specs.Lexing.{is_blank, is_newline, newlines, Piece, Blank, Comment, Single, written, IsCut}
use Rattle.gb_script.proofs.Runs.{cases_bool}
use Rattle.gb_format.specs.Layout.{Item, Items, blank_before, items, tidy, spacing_of, spacing}
use Rattle.gb_format.specs.declared.rule.Spacing.{Spacing}
use Rattle.gb_format.specs.declared.rule.Spacing.TheVariants.{Beside}
use Rattle.gb_format.specs.Shown.{Shown, further, gap_after, shown_next, shown_from}
use Rattle.gb_format.proofs.Exist.{IsFit}
use Rattle.gb_format.proofs.Trims.{name_first, tidy_written}
use Rattle.gb_format.proofs.Twice.{from}

-- the items as they are written
abbrev pub shows : List Item → Shown
shows xs = map (λ x. (spacing x.0, written (tidy x.1))) xs

-- the same after n newlines
abbrev shows_after : ℕ → List Item → Shown
shows_after n [] = []
shows_after n (x ∷ xs) = (spacing_of (n + newlines x.0), written (tidy x.1)) ∷ shows xs

after_none : (xs : List Item) → shows_after 0 xs ≡ shows xs
after_none [] = refl
after_none (x ∷ xs) =
    let same : 0 + newlines x.0 ≡ newlines x.0 = omega arith in
    ap (λ n. (spacing_of n, written (tidy x.1)) ∷ shows xs) same

one_further : (n : ℕ) → further (spacing_of n) ≡ spacing_of (n + 1)
one_further n = by_count n ∙ ap spacing_of (one n)
  where
    one : (n : ℕ) → suc n ≡ n + 1
    one n = omega arith

    by_count : (n : ℕ) → further (spacing_of n) ≡ spacing_of (suc n)
    by_count zero = refl
    by_count (suc zero) = refl
    by_count (suc (suc n)) = refl

-- a blank before them
blank_shows : (b n : ℕ) (x : Items) → shows_after n (blank_before b x).0 ≡ shows_after (n + cond (is_newline b) 1 0) x.0
blank_shows b n ([], last) = refl
blank_shows b n (x ∷ xs, last) =
    let more : newlines (b ∷ x.0) ≡ (0 + cond (is_newline b) 1 0) + newlines x.0 = from x.0 (0 + cond (is_newline b) 1 0) in
    let same : n + newlines (b ∷ x.0) ≡ (n + cond (is_newline b) 1 0) + newlines x.0 = omega arith in
    ap (λ k. (spacing_of k, written (tidy x.1)) ∷ shows xs) same

blank_gap : (b n : ℕ) → is_blank b ≡ true → gap_after (spacing_of n) (b ∷ []) ≡ Some (spacing_of (n + cond (is_newline b) 1 0))
blank_gap b n h =
    elim (cases_bool (is_newline b)) [
      | inl y ↦ rw (y, one_further n) refl
      | inr k ↦ (let none : n + 0 ≡ n = omega arith in rw (h, k, none) refl)
    ]

name_newline : (b : ℕ) → is_name_byte b ≡ true → (b == 10) ≡ false
name_newline b h = grind (arith, nat_tests)

name_solid : (b : ℕ) → is_name_byte b ≡ true → is_blank b ≡ false
name_solid b h = grind (arith, nat_tests)

no_gap : (a : Spacing) (p : Piece) → IsFit p → gap_after a (written p) ≡ None
no_gap a (Blank b) h = absurd h
no_gap a (Comment c) h = refl
no_gap a (Single (Word [])) h = refl
no_gap a (Single (Word (b ∷ w))) h = let n = name_first b w h in rw (name_solid b n, name_newline b n) refl
no_gap a (Single (Text t)) h = refl
no_gap a (Single (Mark OpenBrace)) h = refl
no_gap a (Single (Mark CloseBrace)) h = refl
no_gap a (Single (Mark OpenParen)) h = refl
no_gap a (Single (Mark CloseParen)) h = refl
no_gap a (Single (Mark OpenBracket)) h = refl
no_gap a (Single (Mark CloseBracket)) h = refl
no_gap a (Single (Mark Comma)) h = refl
no_gap a (Single (Mark Dot)) h = refl
no_gap a (Single (Mark Colon)) h = refl
no_gap a (Single (Mark Equals)) h = refl
no_gap a (Single Wrong) h = absurd h

abbrev next_of : Option Spacing → Spacing → List ℕ → List Piece → Shown
next_of o a t ps = shown_next o a t (λ b. shown_from b ps)

kept_shows : (n : ℕ) (p : Piece) (ps : List Piece) → IsFit p → shown_from Beside ps ≡ shows (items ps).0 → shown_from (spacing_of n) (p ∷ ps) ≡ (spacing_of (n + newlines []), written (tidy p)) ∷ shows (items ps).0
kept_shows n p ps h more =
    let same : n ≡ n + newlines [] = omega arith in
    ap (λ (o : Option Spacing). next_of o (spacing_of n) (written p) ps) (no_gap (spacing_of n) p h)
    ∙ ap (λ (t : List ℕ). (spacing_of n, t) ∷ shown_from Beside ps) (tidy_written p h)
    ∙ ap (λ (xs : Shown). (spacing_of n, written (tidy p)) ∷ xs) more
    ∙ ap (λ k. (spacing_of k, written (tidy p)) ∷ shows (items ps).0) same

shown_items : (n : ℕ) (text : List ℕ) (ps : List Piece) → IsCut text ps [] → shown_from (spacing_of n) ps ≡ shows_after n (items ps).0
shown_items n text [] c = refl
shown_items n text (Blank b ∷ ps) c =
    ap (λ (o : Option Spacing). next_of o (spacing_of n) (b ∷ []) ps) (blank_gap b n c.2)
    ∙ shown_items (n + cond (is_newline b) 1 0) c.0 ps c.3
    ∙ sym (blank_shows b n (items ps))
shown_items n text (Comment k ∷ ps) c = kept_shows n (Comment k) ps c.2.0 (shown_items 0 c.0 ps c.3 ∙ after_none (items ps).0)
shown_items n text (Single (Word w) ∷ ps) c = kept_shows n (Single (Word w)) ps c.2.0 (shown_items 0 c.0 ps c.3 ∙ after_none (items ps).0)
shown_items n text (Single (Text t) ∷ ps) c = kept_shows n (Single (Text t)) ps c.2 (shown_items 0 c.0 ps c.3 ∙ after_none (items ps).0)
shown_items n text (Single (Mark s) ∷ ps) c = kept_shows n (Single (Mark s)) ps tt (shown_items 0 c.0 ps c.3 ∙ after_none (items ps).0)
shown_items n text (Single Wrong ∷ ps) c = absurd c.2

pub shown_all : (text : List ℕ) (ps : List Piece) → IsCut text ps [] → shown_from Beside ps ≡ shows (items ps).0
shown_all text ps c = shown_items 0 text ps c ∙ after_none (items ps).0
