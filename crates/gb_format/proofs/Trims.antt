-- A text without the blanks at its end.
use Rattle.std.proofs.Common.{◌≡◌, ℕ, zero, suc, ◌-◌, ◌<◌, ◌≤◌, true, false, List, [], ◌∷◌, ◌++◌, length, take, get_or, refl, sym, ap, ◌∙◌, arith}
use Rattle.std.proofs.lemmas.Bool.Decides.{nat_tests}
use Rattle.std.specs.Prelude.{◌&&◌, nat_le}
use Rattle.std.specs.List.{list_all, flat_map}
use Rattle.gb_core.specs.Name.{is_name, is_name_byte, is_letter}
use Rattle.gb_script.specs.declared.token.Sign.TheVariants.{OpenBrace, CloseBrace, OpenParen, CloseParen, OpenBracket, CloseBracket, Comma, Dot, Colon, Equals}
use Rattle.gb_script.specs.declared.token.Token.TheVariants.{Word, Text, Mark, Wrong}
use Rattle.gb_script.specs.Lexing.{is_blank, escaped, Piece, Blank, Comment, Single, written}
use Rattle.gb_script.proofs.Cuts.{and_both}
use Rattle.gb_format.specs.Layout.{before_end, trimmed, tidy}
use Rattle.gb_format.proofs.Exist.{IsFit}

-- the last one is a blank
pub blank_off : (xs : List ℕ) (b : ℕ) → is_blank b ≡ true → trimmed (xs ++ b ∷ []) ≡ trimmed xs
blank_off [] b h = rw h refl
blank_off (x ∷ xs) b h = ap (before_end x) (blank_off xs b h)

before_some : (x b : ℕ) (xs : List ℕ) → before_end x (xs ++ b ∷ []) ≡ x ∷ (xs ++ b ∷ [])
before_some x b [] = refl
before_some x b (y ∷ xs) = refl

-- the last one is not a blank
pub not_off : (xs : List ℕ) (b : ℕ) → is_blank b ≡ false → trimmed (xs ++ b ∷ []) ≡ xs ++ b ∷ []
not_off [] b h = rw h refl
not_off (x ∷ xs) b h = ap (before_end x) (not_off xs b h) ∙ before_some x b xs

pub take_more : (xs : List ℕ) (n : ℕ) → n < length xs → take (suc n) xs ≡ take n xs ++ get_or xs n 0 ∷ []
take_more [] n h = absurd (omega arith)
take_more (x ∷ xs) zero h = refl
take_more (x ∷ xs) (suc n) h = ap (λ (l : List ℕ). x ∷ l) (take_more xs n (omega arith))

pub blank_low : (b : ℕ) → is_blank b ≡ true → b < 128
blank_low b h = grind (arith, nat_tests)

-- the blank before this is dropped
pub one_less : (xs : List ℕ) (n : ℕ) → 0 < n → n ≤ length xs → is_blank (get_or xs (n - 1) 0) ≡ true → trimmed (take n xs) ≡ trimmed xs → trimmed (take (n - 1) xs) ≡ trimmed xs
one_less xs n some within h same =
    let k = n - 1 in
    let more : take (suc k) xs ≡ take k xs ++ get_or xs k 0 ∷ [] = take_more xs k (omega arith) in
    let size : suc k ≡ n = omega arith in
    sym (blank_off (take k xs) (get_or xs k 0) h) ∙ ap trimmed (sym more ∙ ap (λ i. take i xs) size) ∙ same

-- no blank is left
pub none_less : (xs : List ℕ) (n : ℕ) → 0 < n → n ≤ length xs → is_blank (get_or xs (n - 1) 0) ≡ false → trimmed (take n xs) ≡ trimmed xs → take n xs ≡ trimmed xs
none_less xs n some within h same =
    let k = n - 1 in
    let more : take (suc k) xs ≡ take k xs ++ get_or xs k 0 ∷ [] = take_more xs k (omega arith) in
    let size : suc k ≡ n = omega arith in
    let whole : take n xs ≡ take k xs ++ get_or xs k 0 ∷ [] = ap (λ i. take i xs) (sym size) ∙ more in
    whole ∙ sym (not_off (take k xs) (get_or xs k 0) h) ∙ ap trimmed (sym whole) ∙ same

-- ---- the text of a tidy piece

comment_end : (l : List ℕ) → before_end 47 (before_end 47 l) ≡ 47 ∷ 47 ∷ l
comment_end [] = refl
comment_end (x ∷ xs) = refl

name_solid : (b : ℕ) → is_name_byte b ≡ true → is_blank b ≡ false
name_solid b h = grind (arith, nat_tests)

pub letter_name : (b : ℕ) → is_letter b ≡ true → is_name_byte b ≡ true
letter_name b h = rw h refl

solid_before : (b : ℕ) (bs : List ℕ) → is_blank b ≡ false → before_end b bs ≡ b ∷ bs
solid_before b [] h = rw h refl
solid_before b (x ∷ xs) h = refl

names_stay : (w : List ℕ) → list_all is_name_byte w ≡ true → trimmed w ≡ w
names_stay [] h = refl
names_stay (b ∷ w) h =
    let x = and_both (is_name_byte b) (list_all is_name_byte w) h in
    ap (before_end b) (names_stay w x.1) ∙ solid_before b w (name_solid b x.0)

-- a name begins with a letter
pub name_first : (b : ℕ) (w : List ℕ) → is_name (b ∷ w) ≡ true → is_name_byte b ≡ true
name_first b w h =
    let x = and_both (is_letter b && list_all is_name_byte w) (nat_le (length w) 63) h in
    letter_name b (and_both (is_letter b) (list_all is_name_byte w) x.0).0

pub name_bytes : (w : List ℕ) → is_name w ≡ true → list_all is_name_byte w ≡ true
name_bytes [] h = refl
name_bytes (b ∷ w) h =
    let x = and_both (is_letter b && list_all is_name_byte w) (nat_le (length w) 63) h in
    let y = and_both (is_letter b) (list_all is_name_byte w) x.0 in
    rw (letter_name b y.0) y.1

pub tidy_written : (p : Piece) → IsFit p → trimmed (written p) ≡ written (tidy p)
tidy_written (Blank b) h = absurd h
tidy_written (Comment c) h = comment_end (trimmed c)
tidy_written (Single (Word w)) h = names_stay w (name_bytes w h)
tidy_written (Single (Text t)) h = not_off (34 ∷ flat_map escaped t) 34 refl
tidy_written (Single (Mark OpenBrace)) h = refl
tidy_written (Single (Mark CloseBrace)) h = refl
tidy_written (Single (Mark OpenParen)) h = refl
tidy_written (Single (Mark CloseParen)) h = refl
tidy_written (Single (Mark OpenBracket)) h = refl
tidy_written (Single (Mark CloseBracket)) h = refl
tidy_written (Single (Mark Comma)) h = refl
tidy_written (Single (Mark Dot)) h = refl
tidy_written (Single (Mark Colon)) h = refl
tidy_written (Single (Mark Equals)) h = refl
tidy_written (Single Wrong) h = absurd h
