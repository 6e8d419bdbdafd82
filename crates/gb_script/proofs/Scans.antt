-- Each part is taken off the text, so a text is scanned to its end.
use Rattle.std.proofs.Common.{◌≡◌, ℕ, zero, suc, ◌+◌, ◌<◌, ◌≤◌, Bool, true, false, not, cond, List, [], ◌∷◌, ◌++◌, length, map, Option, Some, None, refl, sym, ap, ◌∙◌, append_assoc, arith, inl, inr, take_while, length-drop}
use Rattle.std.specs.Prelude.{◌==◌}
use Rattle.std.specs.List.{prefix_len}
use Rattle.std.proofs.lemmas.List.{append-nil}
use Rattle.gb_core.specs.Name.{is_name, is_name_byte}
use Rattle.gb_script.specs.declared.token.Sign.{Sign}
use Rattle.gb_script.specs.declared.token.Token.{Token}
use Rattle.gb_script.specs.declared.token.Token.TheVariants.{Word}
use Rattle.gb_script.specs.declared.lexing.Part.{Part}
use Rattle.gb_script.specs.declared.lexing.Part.TheVariants.{Newline, Gap, Found}
use Rattle.gb_script.specs.Lexing.{begins, is_blank, is_newline, Placed}
use Rattle.gb_script.specs.Scanning.{is_plain, sign_of, unescaped, past_run, with_content, escaped_before, content_at, lost, text_of, word_at, comment_at, mark_of, part_at, scan_next, scan_at, scan}
use Rattle.gb_script.proofs.Runs.{cases_bool, prefix_some}

-- not longer than this, where there is one
abbrev IsBelow : ℕ → Option (List ℕ × List ℕ) → Type 0
IsBelow n None = Unit {0}
IsBelow n (Some x) = length x.1 ≤ n

below_with : (n : ℕ) (prefix : List ℕ) (found : Option (List ℕ × List ℕ)) → IsBelow n found → IsBelow n (with_content prefix found)
below_with n prefix None h = tt
below_with n prefix (Some x) h = h

below_escaped : (n : ℕ) (b : Option ℕ) (found : Option (List ℕ × List ℕ)) → IsBelow n found → IsBelow n (escaped_before b found)
below_escaped n None found h = tt
below_escaped n (Some b) found h = below_with n (b ∷ []) found h

below_more : (n m : ℕ) (found : Option (List ℕ × List ℕ)) → n ≤ m → IsBelow n found → IsBelow m found
below_more n m None h k = tt
below_more n m (Some x) h k = omega arith

below_cond : (n : ℕ) (b : Bool) (x y : Option (List ℕ × List ℕ)) → IsBelow n x → IsBelow n y → IsBelow n (cond b x y)
below_cond n true x y h k = h
below_cond n false x y h k = k

content_below : (text : List ℕ) → IsBelow (length text) (content_at text)
unfolding content_at
content_below [] = tt
content_below (b ∷ []) = below_cond _ (b == 34) (Some ([], [])) None (omega arith) tt
content_below (b ∷ e ∷ bs) =
    below_cond _ (b == 34) (Some ([], e ∷ bs)) (cond (b == 92) (escaped_before (unescaped e) (content_at bs)) (cond (is_plain b) (with_content (b ∷ []) (content_at (e ∷ bs))) None)) (omega arith)
    (below_cond _ (b == 92) (escaped_before (unescaped e) (content_at bs)) (cond (is_plain b) (with_content (b ∷ []) (content_at (e ∷ bs))) None)
    (below_escaped _ (unescaped e) (content_at bs) (below_more (length bs) _ (content_at bs) (omega arith) (content_below bs)))
    (below_cond _ (is_plain b) (with_content (b ∷ []) (content_at (e ∷ bs))) None (below_with _ (b ∷ []) (content_at (e ∷ bs)) (below_more (length (e ∷ bs)) _ (content_at (e ∷ bs)) (omega arith) (content_below (e ∷ bs)))) tt))

abbrev Prefix : Type 0
Prefix = Part × List ℕ

abbrev IsShort : ℕ → Prefix → Type 0
IsShort n x = length x.1 ≤ n

short_cond : (n : ℕ) (b : Bool) (x y : Prefix) → IsShort n x → IsShort n y → IsShort n (cond b x y)
short_cond n true x y h k = h
short_cond n false x y h k = k

text_short : (n : ℕ) (found : Option (List ℕ × List ℕ)) → IsBelow n found → IsShort n (text_of found)
text_short n None h = omega arith
text_short n (Some x) h = h

mark_short : (bs : List ℕ) (found : Option Sign) → IsShort (length bs) (mark_of bs found)
mark_short bs None = omega arith
mark_short bs (Some s) = omega arith

comment_short : (bs : List ℕ) → IsShort (length bs) (comment_at bs)
unfolding comment_at
comment_short bs =
    short_cond (length bs) (begins (λ b. b == 47) bs) (Gap, past_run (λ b. not (is_newline b)) bs) lost
    (omega (arith, length-drop (prefix_len (λ b. not (is_newline b)) bs) bs))
    (omega arith)

word_short : (b : ℕ) (bs : List ℕ) → is_name_byte b ≡ true → IsShort (length bs) (word_at (b ∷ bs))
unfolding word_at
word_short b bs h =
    let some = prefix_some is_name_byte (b ∷ bs) h in
    short_cond (length bs) (is_name (take_while is_name_byte (b ∷ bs))) (Found (Word (take_while is_name_byte (b ∷ bs))), past_run is_name_byte (b ∷ bs)) lost
    (omega (arith, length-drop (prefix_len is_name_byte (b ∷ bs)) (b ∷ bs)))
    (omega arith)

word_or_mark : (b : ℕ) (bs : List ℕ) → IsShort (length bs) (cond (is_name_byte b) (word_at (b ∷ bs)) (mark_of bs (sign_of b)))
word_or_mark b bs =
    elim (cases_bool (is_name_byte b)) [
      | inl y ↦ rw y (word_short b bs y)
      | inr y ↦ rw y (mark_short bs (sign_of b))
    ]

-- a part is taken off
pub part_short : (b : ℕ) (bs : List ℕ) → length (part_at (b ∷ bs)).1 ≤ length bs
unfolding part_at
part_short b bs =
    short_cond (length bs) (b == 10) (Newline, bs) (cond (is_blank b) (Gap, bs) (cond (b == 47) (comment_at bs) (cond (b == 34) (text_of (content_at bs)) (cond (is_name_byte b) (word_at (b ∷ bs)) (mark_of bs (sign_of b)))))) (omega arith)
    (short_cond (length bs) (is_blank b) (Gap, bs) (cond (b == 47) (comment_at bs) (cond (b == 34) (text_of (content_at bs)) (cond (is_name_byte b) (word_at (b ∷ bs)) (mark_of bs (sign_of b))))) (omega arith)
    (short_cond (length bs) (b == 47) (comment_at bs) (cond (b == 34) (text_of (content_at bs)) (cond (is_name_byte b) (word_at (b ∷ bs)) (mark_of bs (sign_of b)))) (comment_short bs)
    (short_cond (length bs) (b == 34) (text_of (content_at bs)) (cond (is_name_byte b) (word_at (b ∷ bs)) (mark_of bs (sign_of b))) (text_short (length bs) (content_at bs) (content_below bs))
    (word_or_mark b bs))))

next_same : (f g : ℕ → List ℕ → List Placed) (line : ℕ) (x : Prefix) → ((l : ℕ) → f l x.1 ≡ g l x.1) → scan_next f line x ≡ scan_next g line x
next_same f g line (Newline, rest) h = h (line + 1)
next_same f g line (Gap, rest) h = h line
next_same f g line (Found t, rest) h = ap (λ (ps : List Placed). (t, line) ∷ ps) (h line)

scan_nothing : (n line : ℕ) → scan_at n line [] ≡ []
unfolding scan_at
scan_nothing zero line = refl
scan_nothing (suc n) line = refl

scan_enough : (n k line : ℕ) (text : List ℕ) → length text ≤ n → length text ≤ k → scan_at n line text ≡ scan_at k line text
unfolding scan_at
scan_enough n k line [] p q = scan_nothing n line ∙ sym (scan_nothing k line)
scan_enough zero k line (b ∷ bs) p q = absurd (omega arith)
scan_enough (suc n) zero line (b ∷ bs) p q = absurd (omega arith)
scan_enough (suc n) (suc k) line (b ∷ bs) p q =
    let less = part_short b bs in
    next_same (scan_at n) (scan_at k) line (part_at (b ∷ bs)) (λ l. scan_enough n k l (part_at (b ∷ bs)).1 (omega arith) (omega arith))

-- a part and the others
pub scan_is : (line : ℕ) (text : List ℕ) → 0 < length text → scan line text ≡ scan_next scan line (part_at text)
unfolding scan_at
scan_is line [] h = absurd (omega arith)
scan_is line (b ∷ bs) h =
    next_same (scan_at (length bs)) scan line (part_at (b ∷ bs))
    (λ l. scan_enough (length bs) (length (part_at (b ∷ bs)).1) l (part_at (b ∷ bs)).1 (part_short b bs) (omega arith))

-- ---- what the loop over the parts keeps

pub newline_next : (line : ℕ) (rest after : List ℕ) → 0 < length rest → (Newline, after) ≡ part_at rest → scan line rest ≡ scan (line + 1) after
newline_next line rest after h e = scan_is line rest h ∙ ap (scan_next scan line) (sym e)

pub gap_next : (line : ℕ) (rest after : List ℕ) → 0 < length rest → (Gap, after) ≡ part_at rest → scan line rest ≡ scan line after
gap_next line rest after h e = scan_is line rest h ∙ ap (scan_next scan line) (sym e)

pub found_next : (line : ℕ) (t : Token) (rest after : List ℕ) → 0 < length rest → (Found t, after) ≡ part_at rest → scan line rest ≡ (t, line) ∷ scan line after
found_next line t rest after h e = scan_is line rest h ∙ ap (scan_next scan line) (sym e)

pub same_left : {A : Type 0} (f : Placed → A) (old total : List A) (left next : List Placed) → left ≡ next → old ++ map f left ≡ total → old ++ map f next ≡ total
same_left f old total left next e so_far = ap (λ (l : List Placed). old ++ map f l) (sym e) ∙ so_far

pub one_taken : {A : Type 0} (f : Placed → A) (old new total : List A) (x : Placed) (left next : List Placed) → left ≡ x ∷ next → new ≡ old ++ f x ∷ [] → old ++ map f left ≡ total → new ++ map f next ≡ total
one_taken {A} f old new total x left next e n so_far =
    ap (λ (l : List A). l ++ map f next) n
    ∙ append_assoc old (f x ∷ []) (map f next)
    ∙ ap (λ (l : List Placed). old ++ map f l) (sym e)
    ∙ so_far

pub none_left : {A : Type 0} (f : Placed → A) (old total : List A) (line : ℕ) (rest : List ℕ) → length rest ≡ 0 → old ++ map f (scan line rest) ≡ total → old ≡ total
none_left f old total line [] h so_far = sym (ap (λ (l : List Placed). old ++ map f l) (scan_nothing 0 line) ∙ append-nil old) ∙ so_far
none_left f old total line (b ∷ bs) h so_far = absurd (omega arith)
