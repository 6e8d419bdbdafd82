-- A text that was laid out from comments and tokens is cut into the same comments and tokens.
use Rattle.std.proofs.Common.{◌≡◌, ℕ, zero, suc, Bool, true, false, not, List, [], ◌∷◌, ◌++◌, refl, inl, inr}
use Rattle.std.specs.Prelude.{IsTrue, map}
use Rattle.std.specs.List.{list_all}
use Rattle.gb_core.specs.Name.{is_name, is_name_byte}
use Rattle.gb_script.specs.declared.token.Sign.{Sign}
use Rattle.gb_script.specs.declared.token.Sign.TheVariants.{OpenBrace, CloseBrace, OpenParen, CloseParen, OpenBracket, CloseBracket, Comma, Dot, Colon, Equals}
use Rattle.gb_script.specs.declared.token.Token.TheVariants.{Word, Text, Mark, Wrong}
use Rattle.gb_script.specs.Lexing.{begins, is_blank, is_newline, is_writable, sign_byte, Piece, Blank, Comment, Single, written, MayPrecede, IsCut}
use Rattle.gb_script.proofs.Runs.{cases_bool}
use Rattle.gb_script.proofs.Cuts.{and_both}
use Rattle.gb_format.specs.Layout.{Item, Items, blank_before, items, printed, laid, before_end, trimmed, tidy, spacing, indent, gap_of, between, rule_of, rules_after, placed_after, placed_first, ending}
use Rattle.gb_format.specs.declared.rule.Spacing.{Spacing}
use Rattle.gb_format.specs.declared.rule.Spacing.TheVariants.{Beside, Below, Away}
use Rattle.gb_format.specs.declared.rule.Rule.{Rule}
use Rattle.gb_format.specs.declared.rule.Rule.TheVariants.{Close, Space, Line, Part, After}

-- the form of a comment or a token, wherever it is
abbrev pub IsFit : Piece → Type 0
IsFit (Blank b) = ⊥
IsFit (Comment c) = IsTrue (list_all (λ b. not (is_newline b)) c)
IsFit (Single (Word w)) = IsTrue (is_name w)
IsFit (Single (Text t)) = IsTrue (list_all is_writable t)
IsFit (Single (Mark s)) = Unit {0}
IsFit (Single Wrong) = ⊥

abbrev pub AllFit : List Item → Type 0
AllFit [] = Unit {0}
AllFit (x ∷ xs) = IsFit x.1 × AllFit xs

-- ---- the items of a text are fit

blank_fit : (b : ℕ) (x : Items) → AllFit x.0 → AllFit (blank_before b x).0
blank_fit b ([], last) h = tt
blank_fit b (x ∷ xs, last) h = h

pub fit_items : (text : List ℕ) (ps : List Piece) → IsCut text ps [] → AllFit (items ps).0
fit_items text [] c = tt
fit_items text (Blank b ∷ ps) c = blank_fit b (items ps) (fit_items c.0 ps c.3)
fit_items text (Comment k ∷ ps) c = (c.2.0, fit_items c.0 ps c.3)
fit_items text (Single (Word w) ∷ ps) c = (c.2.0, fit_items c.0 ps c.3)
fit_items text (Single (Text t) ∷ ps) c = (c.2, fit_items c.0 ps c.3)
fit_items text (Single (Mark s) ∷ ps) c = (tt, fit_items c.0 ps c.3)
fit_items text (Single Wrong ∷ ps) c = absurd c.2

-- ---- a tidy piece is fit

end_fits : (test : ℕ → Bool) (b : ℕ) (c : List ℕ) → test b ≡ true → list_all test c ≡ true → list_all test (before_end b c) ≡ true
end_fits test b (x ∷ xs) h g = rw h g
end_fits test b [] h g =
    elim (cases_bool (is_blank b)) [
      | inl y ↦ rw y refl
      | inr n ↦ rw (n, h) refl
    ]

trimmed_fits : (test : ℕ → Bool) (c : List ℕ) → list_all test c ≡ true → list_all test (trimmed c) ≡ true
trimmed_fits test [] h = refl
trimmed_fits test (b ∷ c) h =
    let x = and_both (test b) (list_all test c) h in
    end_fits test b (trimmed c) x.0 (trimmed_fits test c x.1)

pub tidy_fits : (p : Piece) → IsFit p → IsFit (tidy p)
tidy_fits (Blank b) h = h
tidy_fits (Comment c) h = trimmed_fits (λ b. not (is_newline b)) c h
tidy_fits (Single t) h = h

-- ---- white space

indent_blank : (n : ℕ) → list_all is_blank (indent n) ≡ true
indent_blank zero = refl
indent_blank (suc n) = indent_blank n

gap_blank : (r : Rule) (a : Spacing) → list_all is_blank (gap_of r a) ≡ true
gap_blank Close a = refl
gap_blank Space a = refl
gap_blank (Line d) a = indent_blank d
gap_blank (Part d) Beside = indent_blank d
gap_blank (Part d) Below = indent_blank d
gap_blank (Part d) Away = indent_blank d
gap_blank (After d) Beside = refl
gap_blank (After d) Below = indent_blank d
gap_blank (After d) Away = indent_blank d

-- ---- the pieces before white space, and those after it

line_after : (c : List ℕ) (r : Rule) (q : Piece) (a : Spacing) (rest : List ℕ) → begins (λ b. not (is_newline b)) (gap_of (between (Comment c) r q) a ++ rest) ≡ false
line_after c Close q Beside rest = refl
line_after c Close q Below rest = refl
line_after c Close q Away rest = refl
line_after c Space q Beside rest = refl
line_after c Space q Below rest = refl
line_after c Space q Away rest = refl
line_after c (Line d) q a rest = refl
line_after c (Part d) q Beside rest = refl
line_after c (Part d) q Below rest = refl
line_after c (Part d) q Away rest = refl
line_after c (After d) q Beside rest = refl
line_after c (After d) q Below rest = refl
line_after c (After d) q Away rest = refl

no_sign : (s : Sign) → is_name_byte (sign_byte s) ≡ false
no_sign OpenBrace = refl
no_sign CloseBrace = refl
no_sign OpenParen = refl
no_sign CloseParen = refl
no_sign OpenBracket = refl
no_sign CloseBracket = refl
no_sign Comma = refl
no_sign Dot = refl
no_sign Colon = refl
no_sign Equals = refl

close_after : (w : List ℕ) (q : Piece) (a : Spacing) (rest : List ℕ) → IsFit q → begins is_name_byte (gap_of (between (Single (Word w)) Close q) a ++ (written q ++ rest)) ≡ false
close_after w (Blank b) a rest h = absurd h
close_after w (Comment c) a rest h = refl
close_after w (Single (Word v)) a rest h = refl
close_after w (Single (Text t)) a rest h = refl
close_after w (Single (Mark s)) a rest h = no_sign s
close_after w (Single Wrong) a rest h = absurd h

word_after : (w : List ℕ) (r : Rule) (q : Piece) (a : Spacing) (rest : List ℕ) → IsFit q → begins is_name_byte (gap_of (between (Single (Word w)) r q) a ++ (written q ++ rest)) ≡ false
word_after w Close q a rest h = close_after w q a rest h
word_after w Space q a rest h = refl
word_after w (Line d) q a rest h = refl
word_after w (Part d) q Beside rest h = refl
word_after w (Part d) q Below rest h = refl
word_after w (Part d) q Away rest h = refl
word_after w (After d) q Beside rest h = refl
word_after w (After d) q Below rest h = refl
word_after w (After d) q Away rest h = refl

exists_before : (p : Piece) (r : Rule) (q : Piece) (a : Spacing) (rest : List ℕ) → IsFit p → IsFit q → MayPrecede p (gap_of (between p r q) a ++ (written q ++ rest))
exists_before (Blank b) r q a rest h g = absurd h
exists_before (Comment c) r q a rest h g = (h, line_after c r q a (written q ++ rest))
exists_before (Single (Word w)) r q a rest h g = (h, word_after w r q a rest g)
exists_before (Single (Text t)) r q a rest h g = h
exists_before (Single (Mark s)) r q a rest h g = tt
exists_before (Single Wrong) r q a rest h g = absurd h

exists_last : (p : Piece) → IsFit p → MayPrecede p (10 ∷ [])
exists_last (Blank b) h = absurd h
exists_last (Comment c) h = (h, refl)
exists_last (Single (Word w)) h = (h, refl)
exists_last (Single (Text t)) h = h
exists_last (Single (Mark s)) h = tt
exists_last (Single Wrong) h = absurd h

-- ---- any white space that separates them

-- before each there is white space, and each is a piece before the text after it
abbrev pub IsLaid : List Item → List ℕ → Type 0
IsLaid [] last = IsTrue (list_all is_blank last)
IsLaid (x ∷ xs) last = IsTrue (list_all is_blank x.0) × MayPrecede x.1 (printed xs last) × IsLaid xs last

blanks_cut : (w rest : List ℕ) (ps : List Piece) → list_all is_blank w ≡ true → IsCut rest ps [] → IsCut (w ++ rest) (map Blank w ++ ps) []
blanks_cut [] rest ps h c = c
blanks_cut (b ∷ w) rest ps h c =
    let x = and_both (is_blank b) (list_all is_blank w) h in
    (w ++ rest, refl, x.0, blanks_cut w rest ps x.1 c)

blanks_last : (w : List ℕ) → list_all is_blank w ≡ true → IsCut w (map Blank w) []
blanks_last [] h = refl
blanks_last (b ∷ w) h =
    let x = and_both (is_blank b) (list_all is_blank w) h in
    (w, refl, x.0, blanks_last w x.1)

-- a printed text is cut into the pieces that were printed
pub printed_cut : (xs : List Item) (last : List ℕ) → IsLaid xs last → IsCut (printed xs last) (laid xs last) []
printed_cut [] last h = blanks_last last h
printed_cut (x ∷ xs) last h =
    blanks_cut x.0 (written x.1 ++ printed xs last) (x.1 ∷ laid xs last) h.0
    (printed xs last, refl, h.1, printed_cut xs last h.2)

-- ---- the items that a layout places

next_exists : (p : Piece) (rs : List Rule) (xs : List Item) → IsFit p → AllFit xs → MayPrecede p (printed (placed_after p rs xs) (10 ∷ []))
next_exists p rs [] h g = exists_last p h
next_exists p rs (x ∷ xs) h g = exists_before p (rule_of rs) (tidy x.1) (spacing x.0) (printed (placed_after (tidy x.1) (rules_after rs) xs) (10 ∷ [])) h (tidy_fits x.1 g.0)

after_laid : (p : Piece) (rs : List Rule) (xs : List Item) → AllFit xs → IsLaid (placed_after p rs xs) (10 ∷ [])
after_laid p rs [] g = refl
after_laid p rs (x ∷ xs) g = (
  gap_blank (between p (rule_of rs) (tidy x.1)) (spacing x.0),
  next_exists (tidy x.1) (rules_after rs) xs (tidy_fits x.1 g.0) g.1,
  after_laid (tidy x.1) (rules_after rs) xs g.1,
)

pub first_laid : (rs : List Rule) (xs : List Item) → AllFit xs → IsLaid (placed_first rs xs) (ending xs)
first_laid rs [] g = refl
first_laid rs (x ∷ xs) g =
    (refl, next_exists (tidy x.1) rs xs (tidy_fits x.1 g.0) g.1, after_laid (tidy x.1) rs xs g.1)
