-- A formatted text has at most one empty line in a row.
use Rattle.std.proofs.Common.{◌≡◌, ℕ, zero, suc, Bool, true, false, not, List, [], ◌∷◌, ◌++◌, refl, ◌∙◌, arith, inl, inr}
use Rattle.std.specs.Prelude.{◌==◌}
use Rattle.std.specs.List.{list_all, flat_map}
use Rattle.std.proofs.lemmas.Bool.Decides.{nat_tests}
use Rattle.gb_core.specs.Name.{is_name_byte}
use Rattle.gb_script.specs.declared.token.Sign.TheVariants.{OpenBrace, CloseBrace, OpenParen, CloseParen, OpenBracket, CloseBracket, Comma, Dot, Colon, Equals}
use Rattle.gb_script.specs.declared.token.Token.TheVariants.{Word, Text, Mark, Wrong}
use Rattle.gb_script.specs.Lexing.{is_blank, is_newline, escaped, Piece, Blank, Comment, Single, written}
use Rattle.gb_script.proofs.Runs.{cases_bool}
use Rattle.gb_script.proofs.Cuts.{and_both}
use Rattle.gb_format.specs.declared.rule.Spacing.{Spacing}
use Rattle.gb_format.specs.declared.rule.Spacing.TheVariants.{Beside, Below, Away}
use Rattle.gb_format.specs.declared.rule.Rule.{Rule}
use Rattle.gb_format.specs.declared.rule.Rule.TheVariants.{Close, Space, Line, Part, After}
use Rattle.gb_format.specs.Layout.{Item, tidy, spacing, indent, gap_of, between, rule_of, rules_after, placed_after, placed_first, printed, ending}
use Rattle.gb_format.specs.Formatted.{few_newlines}
use Rattle.gb_format.proofs.Exist.{IsFit, AllFit, tidy_fits}
use Rattle.gb_format.proofs.Trims.{name_first, name_bytes}

abbrev no_newline : ℕ → Bool
no_newline b = not (is_newline b)

-- ---- the text of a piece

newline_blank : (b : ℕ) → is_blank b ≡ false → (b == 10) ≡ false
newline_blank b h = grind (arith, nat_tests)

not_true : (b : ℕ) → no_newline b ≡ true → (b == 10) ≡ false
not_true b h = grind (arith, nat_tests)

-- a byte that is not a blank ends the run
solid_first : (k b : ℕ) (rest : List ℕ) → is_blank b ≡ false → few_newlines k (b ∷ rest) ≡ few_newlines 0 rest
solid_first k b rest h = rw (h, newline_blank b h) refl

same_line : (b : ℕ) (rest : List ℕ) → no_newline b ≡ true → few_newlines 0 (b ∷ rest) ≡ few_newlines 0 rest
same_line b rest h =
    elim (cases_bool (is_blank b)) [
      | inl y ↦ rw (y, not_true b h) refl
      | inr n ↦ solid_first 0 b rest n
    ]

one_line : (bs rest : List ℕ) → list_all no_newline bs ≡ true → few_newlines 0 (bs ++ rest) ≡ few_newlines 0 rest
one_line [] rest h = refl
one_line (b ∷ bs) rest h =
    let x = and_both (no_newline b) (list_all no_newline bs) h in
    same_line b (bs ++ rest) x.0 ∙ one_line bs rest x.1

name_line : (b : ℕ) → is_name_byte b ≡ true → no_newline b ≡ true
name_line b h = grind (arith, nat_tests)

name_solid : (b : ℕ) → is_name_byte b ≡ true → is_blank b ≡ false
name_solid b h = grind (arith, nat_tests)

names_line : (w : List ℕ) → list_all is_name_byte w ≡ true → list_all no_newline w ≡ true
names_line [] h = refl
names_line (b ∷ w) h =
    let x = and_both (is_name_byte b) (list_all is_name_byte w) h in
    rw (name_line b x.0) (names_line w x.1)

all_both : (xs ys : List ℕ) → list_all no_newline xs ≡ true → list_all no_newline ys ≡ true → list_all no_newline (xs ++ ys) ≡ true
all_both [] ys h g = g
all_both (x ∷ xs) ys h g =
    let p = and_both (no_newline x) (list_all no_newline xs) h in
    rw p.0 (all_both xs ys p.1 g)

escaped_line : (b : ℕ) → list_all no_newline (escaped b) ≡ true
escaped_line b =
    elim (cases_bool (b == 34)) [
      | inl y ↦ rw y refl
      | inr n1 ↦
          elim (cases_bool (b == 92)) [
            | inl y ↦ rw (n1, y) refl
            | inr n2 ↦
                elim (cases_bool (b == 10)) [
                  | inl y ↦ rw (n1, n2, y) refl
                  | inr n3 ↦
                      elim (cases_bool (b == 9)) [
                        | inl y ↦ rw (n1, n2, n3, y) refl
                        | inr n4 ↦ rw (n1, n2, n3, n4, n3) refl
                      ]
                ]
          ]
    ]

text_line : (t : List ℕ) → list_all no_newline (flat_map escaped t ++ 34 ∷ []) ≡ true
text_line t = all_both (flat_map escaped t) (34 ∷ []) (each t) refl
  where
    each : (t : List ℕ) → list_all no_newline (flat_map escaped t) ≡ true
    each [] = refl
    each (b ∷ t) = all_both (escaped b) (flat_map escaped t) (escaped_line b) (each t)

-- a piece ends the run of newlines
piece_line : (k : ℕ) (p : Piece) (rest : List ℕ) → IsFit p → few_newlines k (written p ++ rest) ≡ few_newlines 0 rest
piece_line k (Blank b) rest h = absurd h
piece_line k (Comment c) rest h = one_line c rest h
piece_line k (Single (Word [])) rest h = absurd cc
piece_line k (Single (Word (b ∷ w))) rest h =
    let n = name_first b w h in
    let x = and_both (is_name_byte b) (list_all is_name_byte w) (name_bytes (b ∷ w) h) in
    solid_first k b (w ++ rest) (name_solid b n) ∙ one_line w rest (names_line w x.1)
piece_line k (Single (Text t)) rest h = one_line (flat_map escaped t ++ 34 ∷ []) rest (text_line t)
piece_line k (Single (Mark OpenBrace)) rest h = refl
piece_line k (Single (Mark CloseBrace)) rest h = refl
piece_line k (Single (Mark OpenParen)) rest h = refl
piece_line k (Single (Mark CloseParen)) rest h = refl
piece_line k (Single (Mark OpenBracket)) rest h = refl
piece_line k (Single (Mark CloseBracket)) rest h = refl
piece_line k (Single (Mark Comma)) rest h = refl
piece_line k (Single (Mark Dot)) rest h = refl
piece_line k (Single (Mark Colon)) rest h = refl
piece_line k (Single (Mark Equals)) rest h = refl
piece_line k (Single Wrong) rest h = absurd h

-- ---- the white space that is written between two

indent_line : (k n : ℕ) (rest : List ℕ) → few_newlines k (indent n ++ rest) ≡ few_newlines k rest
indent_line k zero rest = refl
indent_line k (suc n) rest = indent_line k n rest

gap_line : (r : Rule) (a : Spacing) (p : Piece) (rest : List ℕ) → IsFit p → few_newlines 0 (gap_of r a ++ (written p ++ rest)) ≡ few_newlines 0 rest
gap_line Close a p rest h = piece_line 0 p rest h
gap_line Space a p rest h = piece_line 0 p rest h
gap_line (Line d) a p rest h = indent_line 1 d (written p ++ rest) ∙ piece_line 1 p rest h
gap_line (Part d) Beside p rest h = indent_line 1 d (written p ++ rest) ∙ piece_line 1 p rest h
gap_line (Part d) Below p rest h = indent_line 1 d (written p ++ rest) ∙ piece_line 1 p rest h
gap_line (Part d) Away p rest h = indent_line 2 d (written p ++ rest) ∙ piece_line 2 p rest h
gap_line (After d) Beside p rest h = piece_line 0 p rest h
gap_line (After d) Below p rest h = indent_line 1 d (written p ++ rest) ∙ piece_line 1 p rest h
gap_line (After d) Away p rest h = indent_line 2 d (written p ++ rest) ∙ piece_line 2 p rest h

placed_lines : (p : Piece) (rs : List Rule) (xs : List Item) → AllFit xs → few_newlines 0 (printed (placed_after p rs xs) (10 ∷ [])) ≡ true
placed_lines p rs [] h = refl
placed_lines p rs (x ∷ xs) h =
    gap_line (between p (rule_of rs) (tidy x.1)) (spacing x.0) (tidy x.1) (printed (placed_after (tidy x.1) (rules_after rs) xs) (10 ∷ [])) (tidy_fits x.1 h.0)
    ∙ placed_lines (tidy x.1) (rules_after rs) xs h.1

pub few_lines : (rs : List Rule) (xs : List Item) → AllFit xs → few_newlines 0 (printed (placed_first rs xs) (ending xs)) ≡ true
few_lines rs [] h = refl
few_lines rs (x ∷ xs) h =
    piece_line 0 (tidy x.1) (printed (placed_after (tidy x.1) rs xs) (10 ∷ [])) (tidy_fits x.1 h.0)
    ∙ placed_lines (tidy x.1) rs xs h.1
