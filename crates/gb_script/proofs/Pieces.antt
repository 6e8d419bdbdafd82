-- A text is cut into its pieces from the left, in one way.
use Rattle.std.proofs.Common.{◌≡◌, ℕ, zero, suc, ◌+◌, ◌<◌, ◌≤◌, Bool, true, false, not, cond, List, [], ◌∷◌, ◌++◌, length, Option, Some, None, refl, sym, ap, subst, ◌∙◌, append_assoc, arith, ◌⊎◌, inl, inr, take_while}
use Rattle.std.specs.Prelude.{◌==◌, ◌&&◌, nat_le}
use Rattle.std.specs.List.{prefix_len, flat_map, list_all}
use Rattle.std.proofs.lemmas.Bool.{eqb-true}
use Rattle.std.proofs.lemmas.Bool.Decides.{nat_tests}
use Rattle.gb_core.specs.Name.{is_name, is_name_byte, is_letter}
use Rattle.gb_script.specs.declared.token.Sign.{Sign}
use Rattle.gb_script.specs.declared.token.Sign.TheVariants.{OpenBrace, CloseBrace, OpenParen, CloseParen, OpenBracket, CloseBracket, Comma, Dot, Colon, Equals}
use Rattle.gb_script.specs.declared.token.Token.TheVariants.{Word, Text, Mark, Wrong}
use Rattle.gb_script.specs.declared.lexing.Part.{Part}
use Rattle.gb_script.specs.declared.lexing.Part.TheVariants.{Newline, Gap, Found}
use Rattle.gb_script.specs.Lexing.{begins, is_blank, is_newline, is_writable, escaped, sign_byte, Piece, Blank, Comment, Single, written, MayPrecede, IsCut, IsStuck, Placed, newlines, placed, HasTokens}
use Rattle.gb_script.specs.Scanning.{sign_of, past_run, content_at, lost, text_of, word_at, comment_at, mark_of, part_at, scan_next, scan_at, scan}
use Rattle.gb_script.proofs.Runs.{cases_bool}
use Rattle.gb_script.proofs.Contents.{run_stops}
use Rattle.gb_script.proofs.Scans.{part_short, scan_is}
use Rattle.gb_script.proofs.Cuts.{run_taken, run_passed, run_back, all_taken, and_both, content_again, content_found}

abbrev Prefix : Type 0
Prefix = Part × List ℕ

-- the part that a piece is
abbrev blank_part : Bool → Part
blank_part newline = cond newline Newline Gap

abbrev part_of : Piece → Part
part_of (Blank b) = blank_part (is_newline b)
part_of (Comment c) = Gap
part_of (Single t) = Found t

-- ---- a piece is found

blank_again : (b : ℕ) (rest : List ℕ) → is_blank b ≡ true → part_at (b ∷ rest) ≡ (blank_part (is_newline b), rest)
unfolding part_at
blank_again b rest h =
    elim (cases_bool (b == 10)) [
      | inl y ↦ rw y refl
      | inr n ↦ rw (h, n) refl
    ]

not_newline : ℕ → Bool
not_newline b = not (is_newline b)

comment_again : (c rest : List ℕ) → list_all (λ b. not (is_newline b)) c ≡ true → begins (λ b. not (is_newline b)) rest ≡ false → part_at (47 ∷ 47 ∷ (c ++ rest)) ≡ (Gap, rest)
unfolding part_at comment_at
comment_again c rest h g = ap (λ (l : List ℕ). (Gap, l)) (run_passed (λ b. not (is_newline b)) (47 ∷ c) rest h g)

word_first : (b : ℕ) (text : List ℕ) → is_letter b ≡ true → part_at (b ∷ text) ≡ word_at (b ∷ text)
unfolding part_at
word_first b text h =
    let n : (b == 10) ≡ false = grind (arith, nat_tests) in
    let blank : is_blank b ≡ false = grind (arith, nat_tests) in
    let slash : (b == 47) ≡ false = grind (arith, nat_tests) in
    let quote : (b == 34) ≡ false = grind (arith, nat_tests) in
    let letter : is_name_byte b ≡ true = rw h refl in
    rw (letter, blank, n, slash, quote) refl

word_all : (b : ℕ) (w : List ℕ) → is_name (b ∷ w) ≡ true → (is_letter b ≡ true) × (list_all is_name_byte (b ∷ w) ≡ true)
word_all b w h =
    let x = and_both (is_letter b && list_all is_name_byte w) (nat_le (length w) 63) h in
    let y = and_both (is_letter b) (list_all is_name_byte w) x.0 in
    let letter : is_name_byte b ≡ true = rw y.0 refl in
    (y.0, rw letter y.1)

word_taken : (w rest : List ℕ) → is_name w ≡ true → list_all is_name_byte w ≡ true → begins is_name_byte rest ≡ false → word_at (w ++ rest) ≡ (Found (Word w), rest)
unfolding word_at
word_taken w rest h a g =
    let t = run_taken is_name_byte w rest a g in
    let p = run_passed is_name_byte w rest a g in
    rw (t, p, h) refl

word_again : (w rest : List ℕ) → is_name w ≡ true → begins is_name_byte rest ≡ false → part_at (w ++ rest) ≡ (Found (Word w), rest)
word_again [] rest h g = absurd cc
word_again (b ∷ w) rest h g = let x = word_all b w h in word_first b (w ++ rest) x.0 ∙ word_taken (b ∷ w) rest h x.1 g

text_again : (t rest : List ℕ) → list_all is_writable t ≡ true → part_at (34 ∷ ((flat_map escaped t ++ 34 ∷ []) ++ rest)) ≡ (Found (Text t), rest)
unfolding part_at
text_again t rest h = ap text_of (ap content_at (append_assoc (flat_map escaped t) (34 ∷ []) rest) ∙ content_again t rest h)

mark_again : (s : Sign) (rest : List ℕ) → part_at (sign_byte s ∷ rest) ≡ (Found (Mark s), rest)
unfolding part_at
mark_again OpenBrace rest = refl
mark_again CloseBrace rest = refl
mark_again OpenParen rest = refl
mark_again CloseParen rest = refl
mark_again OpenBracket rest = refl
mark_again CloseBracket rest = refl
mark_again Comma rest = refl
mark_again Dot rest = refl
mark_again Colon rest = refl
mark_again Equals rest = refl

pub part_again : (p : Piece) (rest : List ℕ) → MayPrecede p rest → part_at (written p ++ rest) ≡ (part_of p, rest)
part_again (Blank b) rest h = blank_again b rest h
part_again (Comment c) rest h = comment_again c rest h.0 h.1
part_again (Single (Word w)) rest h = word_again w rest h.0 h.1
part_again (Single (Text t)) rest h = text_again t rest h
part_again (Single (Mark s)) rest h = mark_again s rest
part_again (Single Wrong) rest h = absurd h

-- ---- what is found is a piece

record IsPiece (text : List ℕ) (prefix : Prefix) : Type 0 where
  piece : Piece
  rest : List ℕ
  is : prefix ≡ (part_of piece, rest)
  whole : text ≡ written piece ++ rest
  exists : MayPrecede piece rest

abbrev Either : List ℕ → Prefix → Type 0
Either text prefix = (prefix ≡ lost) ⊎ IsPiece text prefix

blank_found : (b : ℕ) (bs : List ℕ) → is_blank b ≡ true → Either (b ∷ bs) (blank_part (is_newline b), bs)
blank_found b bs h = inr (record { piece = Blank b; rest = bs; is = refl; whole = refl; exists = h })

newline_blank : (b : ℕ) → (b == 10) ≡ true → is_blank b ≡ true
newline_blank b h = grind (arith, nat_tests)

slash_found : (bs : List ℕ) → begins (λ b. b == 47) bs ≡ true → IsPiece (47 ∷ bs) (Gap, past_run (λ b. not (is_newline b)) bs)
slash_found [] h = absurd cc
slash_found (e ∷ bs) h =
    let same : e ≡ 47 = eqb-true e 47 h in
    let nn : ℕ → Bool = λ b. not (is_newline b) in
    subst (λ (x : ℕ). IsPiece (47 ∷ x ∷ bs) (Gap, past_run (λ b. not (is_newline b)) (x ∷ bs))) (sym same)
    (record {
      piece = Comment (take_while (λ b. not (is_newline b)) bs);
      rest = past_run (λ b. not (is_newline b)) bs;
      is = ap (λ (l : List ℕ). (Gap, l)) (one_passed bs);
      whole = ap (λ (l : List ℕ). 47 ∷ 47 ∷ l) (sym (run_back (λ b. not (is_newline b)) bs));
      exists = (all_taken (λ b. not (is_newline b)) bs, run_stops (λ b. not (is_newline b)) bs);
    })
  where
    use_one : (n : ℕ) → 1 + n ≡ suc n
    use_one n = omega arith

    one_passed : (bs : List ℕ) → past_run (λ b. not (is_newline b)) (47 ∷ bs) ≡ past_run (λ b. not (is_newline b)) bs
    one_passed bs = rw (use_one (prefix_len (λ b. not (is_newline b)) bs)) refl

comment_found : (bs : List ℕ) → Either (47 ∷ bs) (comment_at bs)
unfolding comment_at
comment_found bs =
    elim (cases_bool (begins (λ b. b == 47) bs)) [
      | inl y ↦ rw y (inr (slash_found bs y))
      | inr n ↦ rw n (inl refl)
    ]

text_found : (bs : List ℕ) (found : Option (List ℕ × List ℕ)) → content_at bs ≡ found → Either (34 ∷ bs) (text_of found)
text_found bs None h = inl refl
text_found bs (Some x) h =
    let w = content_found bs x.0 x.1 h in
    inr (record {
      piece = Single (Text x.0);
      rest = x.1;
      is = refl;
      whole = ap (λ (l : List ℕ). 34 ∷ l) (w.whole ∙ sym (append_assoc (flat_map escaped x.0) (34 ∷ []) x.1));
      exists = w.each;
    })

word_found : (text : List ℕ) → Either text (word_at text)
unfolding word_at
word_found text =
    elim (cases_bool (is_name (take_while is_name_byte text))) [
      | inl y ↦
          rw y
          (inr (record {
            piece = Single (Word (take_while is_name_byte text));
            rest = past_run is_name_byte text;
            is = refl;
            whole = sym (run_back is_name_byte text);
            exists = (y, run_stops is_name_byte text);
          }))
      | inr n ↦ rw n (inl refl)
    ]

abbrev sign_is : Sign → Option Sign
sign_is s = Some s

same_sign : (s t : Sign) → sign_is s ≡ sign_is t → s ≡ t
same_sign s t e = cc

byte_as : (b c : ℕ) (s t : Sign) → (b == c) ≡ true → sign_is t ≡ sign_is s → sign_byte t ≡ c → sign_byte s ≡ b
byte_as b c s t h e f = sym (ap sign_byte (same_sign t s e)) ∙ f ∙ sym (eqb-true b c h)

-- the byte of a mark is the mark's
sign_byte-sign_of : (b : ℕ) (s : Sign) → sign_of b ≡ Some s → sign_byte s ≡ b
sign_byte-sign_of b s h =
    elim (cases_bool (b == 123)) [
      | inl y ↦ byte_as b 123 s OpenBrace y (rw y at h) refl
      | inr n1 ↦
          elim (cases_bool (b == 125)) [
            | inl y ↦ byte_as b 125 s CloseBrace y (rw (n1, y) at h) refl
            | inr n2 ↦
                elim (cases_bool (b == 40)) [
                  | inl y ↦ byte_as b 40 s OpenParen y (rw (n1, n2, y) at h) refl
                  | inr n3 ↦
                      elim (cases_bool (b == 41)) [
                        | inl y ↦ byte_as b 41 s CloseParen y (rw (n1, n2, n3, y) at h) refl
                        | inr n4 ↦
                            elim (cases_bool (b == 91)) [
                              | inl y ↦ byte_as b 91 s OpenBracket y (rw (n1, n2, n3, n4, y) at h) refl
                              | inr n5 ↦
                                  elim (cases_bool (b == 93)) [
                                    | inl y ↦ byte_as b 93 s CloseBracket y (rw (n1, n2, n3, n4, n5, y) at h) refl
                                    | inr n6 ↦
                                        elim (cases_bool (b == 44)) [
                                          | inl y ↦ byte_as b 44 s Comma y (rw (n1, n2, n3, n4, n5, n6, y) at h) refl
                                          | inr n7 ↦
                                              elim (cases_bool (b == 46)) [
                                                | inl y ↦ byte_as b 46 s Dot y (rw (n1, n2, n3, n4, n5, n6, n7, y) at h) refl
                                                | inr n8 ↦
                                                    elim (cases_bool (b == 58)) [
                                                      | inl y ↦ byte_as b 58 s Colon y (rw (n1, n2, n3, n4, n5, n6, n7, n8, y) at h) refl
                                                      | inr n9 ↦
                                                          elim (cases_bool (b == 61)) [
                                                            | inl y ↦ byte_as b 61 s Equals y (rw (n1, n2, n3, n4, n5, n6, n7, n8, n9, y) at h) refl
                                                            | inr n10 ↦ absurd (let no : None ≡ sign_is s = rw (n1, n2, n3, n4, n5, n6, n7, n8, n9, n10) at h in cc)
                                                          ]
                                                    ]
                                              ]
                                        ]
                                  ]
                            ]
                      ]
                ]
          ]
    ]

mark_found : (b : ℕ) (bs : List ℕ) (found : Option Sign) → sign_of b ≡ found → Either (b ∷ bs) (mark_of bs found)
mark_found b bs None h = inl refl
mark_found b bs (Some s) h = inr (record { piece = Single (Mark s); rest = bs; is = refl; whole = ap (λ (x : ℕ). x ∷ bs) (sym (sign_byte-sign_of b s h)); exists = tt })

-- nothing begins there, or a piece does
part_found : (b : ℕ) (bs : List ℕ) → Either (b ∷ bs) (part_at (b ∷ bs))
unfolding part_at
part_found b bs =
    elim (cases_bool (b == 10)) [
      | inl y ↦ rw y (newline_found b bs y)
      | inr n ↦
          elim (cases_bool (is_blank b)) [
            | inl y ↦ rw (y, n) (gap_found b bs n y)
            | inr m ↦
                elim (cases_bool (b == 47)) [
                  | inl y ↦ rw (m, n, y) (subst (λ (x : ℕ). Either (x ∷ bs) (comment_at bs)) (sym (eqb-true b 47 y)) (comment_found bs))
                  | inr s ↦
                      elim (cases_bool (b == 34)) [
                        | inl y ↦ rw (m, n, s, y) (subst (λ (x : ℕ). Either (x ∷ bs) (text_of (content_at bs))) (sym (eqb-true b 34 y)) (text_found bs (content_at bs) refl))
                        | inr q ↦
                            elim (cases_bool (is_name_byte b)) [
                              | inl y ↦ rw (y, m, n, s, q) (word_found (b ∷ bs))
                              | inr w ↦ rw (w, m, n, s, q) (mark_found b bs (sign_of b) refl)
                            ]
                      ]
                ]
          ]
    ]
  where
    newline_found : (b : ℕ) (bs : List ℕ) → (b == 10) ≡ true → Either (b ∷ bs) (Newline, bs)
    newline_found b bs y = subst (λ (v : Bool). Either (b ∷ bs) (blank_part v, bs)) y (blank_found b bs (newline_blank b y))

    gap_found : (b : ℕ) (bs : List ℕ) → (b == 10) ≡ false → is_blank b ≡ true → Either (b ∷ bs) (Gap, bs)
    gap_found b bs n y = subst (λ (v : Bool). Either (b ∷ bs) (blank_part v, bs)) n (blank_found b bs y)

-- ---- where nothing begins

wrong_is : (p : Piece) (after : List ℕ) → MayPrecede p after → lost ≡ (part_of p, after) → ⊥
wrong_is (Blank b) after h e =
    elim (cases_bool (is_newline b)) [
      | inl y ↦ (let no : Found Wrong ≡ Newline = rw y at (ap (λ (x : Prefix). x.0) e) in absurd cc)
      | inr n ↦ (let no : Found Wrong ≡ Gap = rw n at (ap (λ (x : Prefix). x.0) e) in absurd cc)
    ]
wrong_is (Comment c) after h e = let no : Found Wrong ≡ Gap = ap (λ (x : Prefix). x.0) e in absurd cc
wrong_is (Single (Word w)) after h e = let no : Found Wrong ≡ Found (Word w) = ap (λ (x : Prefix). x.0) e in absurd cc
wrong_is (Single (Text t)) after h e = let no : Found Wrong ≡ Found (Text t) = ap (λ (x : Prefix). x.0) e in absurd cc
wrong_is (Single (Mark s)) after h e = let no : Found Wrong ≡ Found (Mark s) = ap (λ (x : Prefix). x.0) e in absurd cc
wrong_is (Single Wrong) after h e = h

stuck_there : (rest : List ℕ) → part_at rest ≡ lost → IsStuck rest
stuck_there rest h p after e s = wrong_is p after s (sym h ∙ ap part_at e ∙ part_again p after s)

stuck_nothing : IsStuck []
unfolding part_at
stuck_nothing = stuck_there [] refl

lost_there : (b : ℕ) (bs : List ℕ) → IsStuck (b ∷ bs) → part_at (b ∷ bs) ≡ lost
lost_there b bs stuck =
    elim (part_found b bs) [
      | inl y ↦ y
      | inr x ↦ absurd (stuck x.piece x.rest x.whole x.exists)
    ]

written_some : (p : Piece) (after : List ℕ) → MayPrecede p after → 0 < length (written p ++ after)
written_some (Blank b) after h = omega arith
written_some (Comment c) after h = omega arith
written_some (Single (Word [])) after h = absurd (let no : false ≡ true = h.0 in cc)
written_some (Single (Word (b ∷ w))) after h = omega arith
written_some (Single (Text t)) after h = omega arith
written_some (Single (Mark s)) after h = omega arith
written_some (Single Wrong) after h = absurd h

-- ---- the whole text

one_newline : (b : ℕ) → is_newline b ≡ true → newlines (b ∷ []) ≡ 1
one_newline b h = rw h refl

no_newline : (b : ℕ) → is_newline b ≡ false → newlines (b ∷ []) ≡ 0
no_newline b h = rw h refl

-- the tokens of a piece, and those of the pieces after it
next_placed : (p : Piece) (line : ℕ) (after : List ℕ) (ps : List Piece) (rest : List ℕ) → ((l : ℕ) → scan l after ≡ placed l ps rest) → scan_next scan line (part_of p, after) ≡ placed line (p ∷ ps) rest
next_placed (Comment c) line after ps rest more = more line
next_placed (Single t) line after ps rest more = ap (λ (l : List Placed). (t, line) ∷ l) (more line)
next_placed (Blank b) line after ps rest more =
    elim (cases_bool (is_newline b)) [
      | inl y ↦ ap (λ (v : Bool). scan_next scan line (blank_part v, after)) y ∙ more (line + 1) ∙ ap (λ (n : ℕ). placed (line + n) ps rest) (sym (one_newline b y))
      | inr n ↦ ap (λ (v : Bool). scan_next scan line (blank_part v, after)) n ∙ more line ∙ ap (λ (l : ℕ). placed l ps rest) (same line) ∙ ap (λ (k : ℕ). placed (line + k) ps rest) (sym (no_newline b n))
    ]
  where
    same : (line : ℕ) → line ≡ line + 0
    same line = omega arith

scan_nothing : (line : ℕ) → scan line [] ≡ []
unfolding scan_at
scan_nothing line = refl

scan_lost : (line b : ℕ) (bs : List ℕ) → part_at (b ∷ bs) ≡ lost → scan line (b ∷ bs) ≡ (Wrong, line) ∷ []
scan_lost line b bs h = scan_is line (b ∷ bs) (omega arith) ∙ ap (scan_next scan line) h ∙ ap (λ (l : List Placed). (Wrong, line) ∷ l) (scan_nothing line)

-- a cut has these tokens
pub scan_complete : (text : List ℕ) (ps : List Piece) (rest : List ℕ) (line : ℕ) → IsCut text ps rest → IsStuck rest → scan line text ≡ placed line ps rest
scan_complete text [] [] line cut stuck = ap (scan line) cut ∙ scan_nothing line
scan_complete text [] (b ∷ rest) line cut stuck = ap (scan line) cut ∙ scan_lost line b rest (lost_there b rest stuck)
scan_complete text (p ∷ ps) rest line cut stuck =
    let after = cut.0 in
    ap (scan line) cut.1
    ∙ scan_is line (written p ++ after) (written_some p after cut.2)
    ∙ ap (scan_next scan line) (part_again p after cut.2)
    ∙ next_placed p line after ps rest (λ l. scan_complete after ps rest l cut.3 stuck)

-- a text is cut so
pub record HasCut (text : List ℕ) : Type 0 where
  pub pieces : List Piece
  pub rest : List ℕ
  pub cut : IsCut text pieces rest
  pub stuck : IsStuck rest

pub cut_found : (n : ℕ) (text : List ℕ) → length text ≤ n → HasCut text
cut_found n [] h = record { pieces = []; rest = []; cut = refl; stuck = stuck_nothing }
cut_found zero (b ∷ bs) h = absurd (omega arith)
cut_found (suc n) (b ∷ bs) h =
    elim (part_found b bs) [
      | inl y ↦ record { pieces = []; rest = b ∷ bs; cut = refl; stuck = stuck_there (b ∷ bs) y }
      | inr x ↦
          let less : length x.rest ≤ length bs = subst (λ (f : Prefix). length f.1 ≤ length bs) x.is (part_short b bs) in
          let more = cut_found n x.rest (omega arith) in
          record { pieces = x.piece ∷ more.pieces; rest = more.rest; cut = (x.rest, x.whole, x.exists, more.cut); stuck = more.stuck }
    ]

-- the tokens of a text are those that the scan gives
pub tokens_found : (text : List ℕ) → HasTokens text (scan 1 text)
tokens_found text =
    let c = cut_found (length text) text (omega arith) in
    record { pieces = c.pieces; rest = c.rest; cut = c.cut; stuck = c.stuck; tokens_are = scan_complete text c.pieces c.rest 1 c.cut c.stuck }

pub tokens_again : (text : List ℕ) (tokens : List Placed) → HasTokens text tokens → tokens ≡ scan 1 text
tokens_again text tokens h = h.tokens_are ∙ sym (scan_complete text h.pieces h.rest 1 h.cut h.stuck)
