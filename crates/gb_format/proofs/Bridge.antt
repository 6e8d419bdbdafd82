-- The written text is the layout of the pieces.
use Rattle.std.proofs.Common.{◌≡◌, ℕ, true, false, List, [], ◌∷◌, ◌++◌, refl, sym, ap, ◌∙◌, append_assoc}
use Rattle.std.specs.Prelude.{◌==◌}
use Rattle.std.proofs.lemmas.Bool.Decides.{nat_tests}
use Rattle.std.proofs.Common.{arith}
use Rattle.gb_core.specs.Name.{is_name, is_name_byte}
use Rattle.gb_script.specs.declared.token.Sign.TheVariants.{OpenBrace, CloseBrace, OpenParen, CloseParen, OpenBracket, CloseBracket, Comma, Dot, Colon, Equals}
use Rattle.gb_script.specs.declared.token.Token.TheVariants.{Word, Text, Mark, Wrong}
use Rattle.gb_script.specs.Lexing.{Piece, Blank, Comment, Single, written, IsCut}
use Rattle.gb_format.specs.declared.kind.Kind.TheVariants as kinds
use Rattle.gb_format.specs.declared.rule.Rule.{Rule}
use Rattle.gb_format.specs.declared.rule.Rule.TheVariants.{Close, Space, Line, Part, After}
use Rattle.gb_format.specs.declared.state.State.{State}
use Rattle.gb_format.specs.Kinds.{kind_of}
use Rattle.gb_format.specs.Rules.{step}
use Rattle.gb_format.specs.Layout.{Item, items, tidy, spacing, gap_of, between, placed_after, placed_first, printed, ending, layout}
use Rattle.gb_format.specs.Shown.{texts, mended, typeset_from, typeset, state_after, shown_from}
use Rattle.gb_format.specs.declared.rule.Spacing.TheVariants.{Beside}
use Rattle.gb_format.proofs.Exist.{IsFit, AllFit, tidy_fits, fit_items}
use Rattle.gb_format.proofs.Trims.{name_first}
use Rattle.gb_format.proofs.Showing.{shows, shown_all}
use Rattle.gb_format.proofs.Steady.{rules_from, rules_of, rules, rules_observed}

name_other : (b : ℕ) → is_name_byte b ≡ true → ((b == 47) ≡ false) × ((b == 34) ≡ false)
name_other b h = (grind (arith, nat_tests), grind (arith, nat_tests))

word_kind : (w : List ℕ) → is_name w ≡ true → kind_of w ≡ kinds.Word
word_kind [] h = absurd cc
word_kind (b ∷ w) h =
    let n = name_first b w h in
    let o = name_other b n in
    rw (o.0, o.1, n) refl

-- two words
word_mended : (r : Rule) (q : Piece) → IsFit q → (w : List ℕ) → between (Single (Word w)) r q ≡ mended kinds.Word r (kind_of (written q))
word_mended Close (Blank b) h w = absurd h
word_mended Close (Comment c) h w = refl
word_mended Close (Single (Word v)) h w = rw (word_kind v h) refl
word_mended Close (Single (Text t)) h w = refl
word_mended Close (Single (Mark OpenBrace)) h w = refl
word_mended Close (Single (Mark CloseBrace)) h w = refl
word_mended Close (Single (Mark OpenParen)) h w = refl
word_mended Close (Single (Mark CloseParen)) h w = refl
word_mended Close (Single (Mark OpenBracket)) h w = refl
word_mended Close (Single (Mark CloseBracket)) h w = refl
word_mended Close (Single (Mark Comma)) h w = refl
word_mended Close (Single (Mark Dot)) h w = refl
word_mended Close (Single (Mark Colon)) h w = refl
word_mended Close (Single (Mark Equals)) h w = refl
word_mended Close (Single Wrong) h w = absurd h
word_mended Space q h w = refl
word_mended (Line d) q h w = refl
word_mended (Part d) q h w = refl
word_mended (After d) q h w = refl

comment_mended : (c : List ℕ) (r : Rule) (q : Piece) → between (Comment c) r q ≡ mended kinds.Comment r (kind_of (written q))
comment_mended c Close q = refl
comment_mended c Space q = refl
comment_mended c (Line d) q = refl
comment_mended c (Part d) q = refl
comment_mended c (After d) q = refl

pub between_is : (p : Piece) (r : Rule) (q : Piece) → IsFit p → IsFit q → between p r q ≡ mended (kind_of (written p)) r (kind_of (written q))
between_is (Blank b) r q h g = absurd h
between_is (Comment c) r q h g = comment_mended c r q
between_is (Single (Word w)) r q h g = word_mended r q g w ∙ ap (λ k. mended k r (kind_of (written q))) (sym (word_kind w h))
between_is (Single (Text t)) r q h g = refl
between_is (Single (Mark OpenBrace)) r q h g = refl
between_is (Single (Mark CloseBrace)) r q h g = refl
between_is (Single (Mark OpenParen)) r q h g = refl
between_is (Single (Mark CloseParen)) r q h g = refl
between_is (Single (Mark OpenBracket)) r q h g = refl
between_is (Single (Mark CloseBracket)) r q h g = refl
between_is (Single (Mark Comma)) r q h g = refl
between_is (Single (Mark Dot)) r q h g = refl
between_is (Single (Mark Colon)) r q h g = refl
between_is (Single (Mark Equals)) r q h g = refl
between_is (Single Wrong) r q h g = absurd h

abbrev last : List ℕ
last = 10 ∷ []

set_from : (s : State) (p : Piece) (xs : List Item) → IsFit p → AllFit xs → typeset_from s (kind_of (written p)) (shows xs) ++ last ≡ printed (placed_after p (rules_from s (kind_of (written p)) (shows xs)) xs) last
set_from s p [] h g = refl
set_from s p (x ∷ xs) h g =
    let q = tidy x.1 in
    let t = written q in
    let n = step s (kind_of (written p)) (spacing x.0) t (texts (shows xs)) in
    let fit = tidy_fits x.1 g.0 in
    let gap = gap_of (mended (kind_of (written p)) n.rule (kind_of t)) (spacing x.0) in
    let rest = typeset_from n.state (kind_of t) (shows xs) in
    append_assoc gap (t ++ rest) last
    ∙ ap (λ (l : List ℕ). gap ++ l) (append_assoc t rest last ∙ ap (λ (l : List ℕ). t ++ l) (set_from n.state q xs fit g.1))
    ∙ ap (λ (r : Rule). gap_of r (spacing x.0) ++ (t ++ printed (placed_after q (rules_from n.state (kind_of t) (shows xs)) xs) last)) (sym (between_is p n.rule q h fit))

set_first : (xs : List Item) → AllFit xs → typeset (shows xs) ≡ printed (placed_first (rules_of (shows xs)) xs) (ending xs)
set_first [] g = refl
set_first (x ∷ xs) g =
    let q = tidy x.1 in
    ap (λ (l : List ℕ). written q ++ l) (set_from (state_after (written q) (texts (shows xs))) q xs (tidy_fits x.1 g.0) g.1)

-- the text written from the pieces is their layout
pub layout_is : (text : List ℕ) (ps : List Piece) → IsCut text ps [] → typeset (shown_from Beside ps) ≡ layout rules ps
layout_is text ps c =
    let xs = (items ps).0 in
    ap typeset (shown_all text ps c)
    ∙ set_first xs (fit_items text ps c)
    ∙ ap (λ (rs : List Rule). printed (placed_first rs xs) (ending xs)) (sym (rules_observed xs))
