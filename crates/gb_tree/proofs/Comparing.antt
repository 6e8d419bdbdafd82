-- Patterns that one comparison of texts answers.
use Rattle.std.proofs.Common.{arith, ◌≡◌, ◌≢◌, ℕ, ◌-◌, Bool, true, false, cond, not, ◌&&◌, ◌||◌, eqb, List, [], ◌∷◌, ◌++◌, length, take, drop, get_or, refl, sym, ◌∙◌, ap, subst, None}
use Rattle.std.proofs.lemmas.Bool.{and_parts, eq-eqb, eqb-true, false≢true, ne_eqb, not-true, or_parts}
use Rattle.std.proofs.lemmas.List.Splits.{join_with_byte-slice_split, slice_split-cons_no, slice_split_none}
use Rattle.std.proofs.lemmas.List.{get_or_default, take-append-drop}
use Rattle.std.proofs.lemmas.Str.{IsUtf8-append, IsUtf8-past_char, IsUtf8-take, chars-append, chars_past_char, encodes-append, encodes-chars}
use Rattle.std.proofs.Math.Utf8.{encode, encodes}
use Rattle.std.proofs.lemmas.Str.Pattern.{NoCharPasses-char, drop_at_char}
use Rattle.std.specs.Bool.{MatchBool}
use Rattle.std.specs.Str.{IsUtf8, NoCharPasses, chars}
use Rattle.std.specs.Str.Pattern.{FindsChar, FindsTextSuffix, HasCharAt, HasSuffixMatch, RFindsChar, SplitsAroundMatch}
use Rattle.std.specs.Cmp.Lexicographic.{bytes_decides}
use Rattle.std.specs.List.{join_with_byte, list_all, list_any, onto_first}
use Rattle.std.specs.Prelude.{bytes_eq, codes}
use Rattle.gb_core.proofs.BySegments.{beneath-to_segments, segments-joined}
use Rattle.gb_core.specs.Place.{is_beneath, is_under, segments}
use Rattle.gb_tree.proofs.Prefixes.{after_first, is_plain, no_double, same_segment, segments_plain}
use Rattle.gb_tree.proofs.GoesOn.{unrolled}
use Rattle.gb_tree.specs.Pattern.{ends_of, is_double_star, is_star, is_wild, matches_by, path_matches, segment_matches, represents, wild_matches}

-- two tests that imply each other are one
pub same_test : (a b : Bool) → (a ≡ true → b ≡ true) → (b ≡ true → a ≡ true) → a ≡ b
same_test true b there back = sym (there refl)
same_test false true there back = back refl
same_test false false there back = refl

-- ---- No wildcard

itself : (segment : List ℕ) → is_plain segment ≡ true → segment_matches segment segment ≡ true
itself segment plain =
    ap (λ b. cond b (wild_matches segment segment) (bytes_eq segment segment)) (not-true (list_any is_wild segment) plain)
    ∙ (bytes_decides segment segment).1 refl

-- a plain item matches one segment, and then the rest
one_plain : (segment : List ℕ) (rest : List (List ℕ)) (text : List ℕ) (row : List (List ℕ)) → is_plain segment ≡ true
    → matches_by is_double_star segment_matches (segment ∷ rest) (text ∷ row) ≡ (segment_matches segment text && matches_by is_double_star segment_matches rest row)
one_plain segment rest text row plain =
    ap (λ (b : Bool). cond b (list_any (matches_by is_double_star segment_matches rest) (ends_of (text ∷ row))) (segment_matches segment text && matches_by is_double_star segment_matches rest row)) (no_double segment plain)

-- plain items match the segments that are equal to them
plain_row : (plain row : List (List ℕ)) → list_all is_plain plain ≡ true → matches_by is_double_star segment_matches plain row ≡ true → plain ≡ row
plain_row [] [] all matched = refl
plain_row [] (text ∷ row) all matched = absurd (false≢true matched)
plain_row (segment ∷ plain) [] all matched =
    let parts = and_parts (is_plain segment) (list_all is_plain plain) all in
    absurd (false≢true (sym (ap (λ b. b && matches_by is_double_star segment_matches plain []) (no_double segment parts.0)) ∙ matched))
plain_row (segment ∷ plain) (text ∷ row) all matched =
    let parts = and_parts (is_plain segment) (list_all is_plain plain) all in
    let both = and_parts (segment_matches segment text) _ (sym (one_plain segment plain text row parts.0) ∙ matched) in
    ap (λ t. t ∷ plain) (same_segment segment text parts.0 both.0) ∙ ap (λ r. text ∷ r) (plain_row plain row parts.1 both.1)

-- plain items and more match what begins with them, if the rest matches
plain_prefix : (plain rest row : List (List ℕ)) → list_all is_plain plain ≡ true → matches_by is_double_star segment_matches rest row ≡ true
    → matches_by is_double_star segment_matches (plain ++ rest) (plain ++ row) ≡ true
plain_prefix [] rest row all matched = matched
plain_prefix (segment ∷ plain) rest row all matched =
    let parts = and_parts (is_plain segment) (list_all is_plain plain) all in
    one_plain segment (plain ++ rest) segment (plain ++ row) parts.0
    ∙ ap (λ b. b && matches_by is_double_star segment_matches (plain ++ rest) (plain ++ row)) (itself segment parts.0)
    ∙ plain_prefix plain rest row parts.1 matched

with_none : {X : Type 0} (xs : List X) → xs ++ [] ≡ xs
with_none [] = refl
with_none (x ∷ xs) = ap (λ ys. x ∷ ys) (with_none xs)

-- a pattern without wildcards matches the path that is equal to it
pub plain_matches : (pattern path : List ℕ) → list_any is_wild pattern ≡ false → bytes_eq pattern path ≡ path_matches pattern path
plain_matches pattern path none =
    let all = segments_plain pattern none in
    same_test (bytes_eq pattern path) (path_matches pattern path)
    (λ same. let is = (bytes_decides pattern path).0 same in
    ap (path_matches pattern) (sym is)
    ∙ ap (λ parts. matches_by is_double_star segment_matches parts parts) (sym (with_none (segments pattern)))
    ∙ plain_prefix (segments pattern) [] [] all refl)
    (λ matched. (bytes_decides pattern path).1
    (sym (join_with_byte-slice_split 47 pattern) ∙ ap (join_with_byte 47) (plain_row (segments pattern) (segments path) all matched) ∙ join_with_byte-slice_split 47 path))

-- ---- A folder and `/**`

-- `**` as the last item matches everything
all_match : (row : List (List ℕ)) → matches_by is_double_star segment_matches (codes "**" ∷ []) row ≡ true
all_match [] = refl
all_match (text ∷ row) =
    unrolled is_double_star segment_matches (codes "**") [] text row refl ∙ all_match row

pub all_under : (pattern folder path : List ℕ) → pattern ≡ folder ++ codes "/**" → list_any is_wild folder ≡ false → is_under path folder ≡ path_matches pattern path
all_under pattern folder path is none =
    let items : segments pattern ≡ segments folder ++ codes "**" ∷ [] = ap segments is ∙ segments-joined folder (codes "**") in
    let matching : (more : List (List ℕ)) → segments path ≡ segments folder ++ more → path_matches pattern path ≡ true =
    λ more same.
    ap (λ parts. matches_by is_double_star segment_matches parts (segments path)) items
    ∙ ap (matches_by is_double_star segment_matches (segments folder ++ codes "**" ∷ [])) same
    ∙ plain_prefix (segments folder) (codes "**" ∷ []) more (segments_plain folder none) (all_match more) in
    same_test (is_under path folder) (path_matches pattern path)
    (λ under. by (bytes_eq path folder) (is_beneath path folder) under
    (λ same. matching [] (ap segments ((bytes_decides path folder).0 same) ∙ sym (with_none (segments folder))))
    (λ under. let parts = beneath-to_segments path folder under in matching (parts.0 ∷ parts.1) parts.2))
    (λ matched. after_first folder (codes "**") path none (ap (λ text. path_matches text path) (sym is) ∙ matched))
  where
    by : {C : Type 0} (a b : Bool) → (a || b) ≡ true → (a ≡ true → C) → (b ≡ true → C) → C
    by true b h left right = left refl
    by false b h left right = right h

-- ---- `**/` and one more item

only_last : {P X : Type 0} (any : P → Bool) (fits : P → X → Bool) (p q : P) (prefix : List X) (x : X) → any p ≡ true → any q ≡ false
    → matches_by any fits (p ∷ q ∷ []) (prefix ++ x ∷ []) ≡ fits q x
only_last any fits p q [] x is not_any =
    unrolled any fits p (q ∷ []) x [] is
    ∙ ap (λ b. cond b (list_any (matches_by any fits []) (ends_of (x ∷ []))) (fits q x && true) || (any p && (b && true))) not_any
    ∙ end (fits q x) (any p)
  where
    end : (a b : Bool) → ((a && true) || (b && false)) ≡ a
    end true b = refl
    end false true = refl
    end false false = refl
only_last any fits p q (y ∷ prefix) x is not_any =
    unrolled any fits p (q ∷ []) y (prefix ++ x ∷ []) is
    ∙ ap (λ b. b || matches_by any fits (p ∷ q ∷ []) (prefix ++ x ∷ [])) (longer prefix)
    ∙ only_last any fits p q prefix x is not_any
  where
    and_false : (a : Bool) → (a && false) ≡ false
    and_false true = refl
    and_false false = refl

    longer : (rest : List _) → matches_by any fits (q ∷ []) (y ∷ rest ++ x ∷ []) ≡ false
    longer [] = ap (λ (b : Bool). cond b (list_any (matches_by any fits []) (ends_of (y ∷ x ∷ []))) (fits q y && false)) not_any ∙ and_false (fits q y)
    longer (z ∷ rest) = ap (λ (b : Bool). cond b (list_any (matches_by any fits []) (ends_of (y ∷ z ∷ rest ++ x ∷ []))) (fits q y && false)) not_any ∙ and_false (fits q y)

pub last_matches : (pattern path item last : List ℕ) (prefix : List (List ℕ)) → segments pattern ≡ codes "**" ∷ item ∷ [] → is_double_star item ≡ false → segments path ≡ prefix ++ last ∷ []
    → segment_matches item last ≡ path_matches pattern path
last_matches pattern path item last prefix items single ends =
    sym (ap (λ parts. matches_by is_double_star segment_matches parts (segments path)) items
    ∙ ap (matches_by is_double_star segment_matches (codes "**" ∷ item ∷ [])) ends
    ∙ only_last is_double_star segment_matches (codes "**") item prefix last refl single)

-- a text without slashes is its own segment
one_segment : (text : List ℕ) → list_any (λ b. eqb b 47) text ≡ false → segments text ≡ text ∷ []
one_segment [] none = refl
one_segment (c ∷ text) none =
    let parts = or_parts (eqb c 47) (list_any (λ b. eqb b 47) text) none in
    slice_split-cons_no (λ b. eqb b 47) c text parts.0 ∙ ap (onto_first c) (one_segment text parts.1)

pub no_slash : (text : List ℕ) → NoCharPasses (λ d. eqb d 47) text → segments text ≡ text ∷ []
no_slash text none =
    slice_split_none (λ b. eqb b 47) text (λ k d below. ne_eqb (get_or text k d) 47 (λ is. NoCharPasses-char 47 text k none (omega arith) below (get_or_default text k 0 d below ∙ is)))

-- the text around a slash
around : (text prefix back : List ℕ) (i j : ℕ) → HasCharAt 47 text i j → prefix ≡ take i text → back ≡ drop j text → text ≡ prefix ++ 47 ∷ back
around text prefix back i j at is_prefix is_back =
    sym (take-append-drop i text)
    ∙ ap (λ more. take i text ++ more) (drop_at_char 47 text i j at (omega arith))
    ∙ ap (λ xs. xs ++ 47 ∷ drop j text) (sym is_prefix)
    ∙ ap (λ xs. prefix ++ 47 ∷ xs) (sym is_back)

pub after_last_slash : (path prefix back : List ℕ) → SplitsAroundMatch (RFindsChar 47) path prefix back → (first : List (List ℕ)) × (segments path ≡ first ++ back ∷ [])
after_last_slash path prefix back (i, j, finds, at_prefix, at_back, order, long_prefix, long_back) =
    let none : NoCharPasses (λ d. eqb d 47) back = subst (NoCharPasses (λ d. eqb d 47)) (sym at_back) finds.0 in (
      segments prefix,
      ap segments (around path prefix back i j finds.1 at_prefix at_back)
          ∙ segments-joined prefix back
          ∙ ap (λ parts. segments prefix ++ parts) (no_slash back none),
    )

pub two_items : (pattern first item : List ℕ) → is_double_star first ≡ true → (not (list_any (λ b. eqb b 47) item) && not (is_double_star item)) ≡ true → SplitsAroundMatch (FindsChar 47) pattern first item
    → segments pattern ≡ codes "**" ∷ item ∷ []
two_items pattern first item is single (i, j, finds, at_prefix, at_back, order, long_prefix, long_back) =
    let parts = and_parts (not (list_any (λ b. eqb b 47) item)) (not (is_double_star item)) single in
    ap segments (around pattern first item i j finds.1 at_prefix at_back)
    ∙ segments-joined first item
    ∙ ap (λ xs. segments xs ++ segments item) ((bytes_decides first (codes "**")).0 is)
    ∙ ap (λ rest. codes "**" ∷ rest) (one_segment item (not-true (list_any (λ b. eqb b 47) item) parts.0))

-- ---- A leading `*`

-- a text has no wildcard characters if it has no wildcard bytes
tame_character : (c : ℕ) (rest : List ℕ) → list_any is_wild (encode c ++ rest) ≡ false → (eqb c 42 || eqb c 63) ≡ false
unfolding encode
tame_character c rest none = by (eqb c 42) (eqb c 63) refl refl
  where
    by : (a b : Bool) → eqb c 42 ≡ a → eqb c 63 ≡ b → (a || b) ≡ false
    by true b is _ = absurd (false≢true (sym none ∙ ap (λ d. list_any is_wild (encode d ++ rest)) (eqb-true c 42 is)))
    by false true _ is = absurd (false≢true (sym none ∙ ap (λ d. list_any is_wild (encode d ++ rest)) (eqb-true c 63 is)))
    by false false _ _ = refl

tame_after : (prefix rest : List ℕ) → list_any is_wild (prefix ++ rest) ≡ false → list_any is_wild rest ≡ false
tame_after [] rest none = none
tame_after (b ∷ prefix) rest none = tame_after prefix rest (or_parts (is_wild b) (list_any is_wild (prefix ++ rest)) none).1

tame : (cs : List ℕ) → list_any is_wild (encodes cs) ≡ false → list_any is_wild cs ≡ false
tame [] none = refl
tame (c ∷ cs) none =
    ap (λ b. b || list_any is_wild cs) (tame_character c (encodes cs) none) ∙ tame cs (tame_after (encode c) (encodes cs) none)

-- characters without wildcards match those that are equal to them
fixed : (ps cs : List ℕ) → list_any is_wild ps ≡ false → matches_by is_star represents ps cs ≡ true → ps ≡ cs
fixed [] [] none matched = refl
fixed [] (c ∷ cs) none matched = absurd (false≢true matched)
fixed (p ∷ ps) [] none matched =
    let parts = or_parts (is_wild p) (list_any is_wild ps) none in
    absurd (false≢true (sym (ap (λ b. b && matches_by is_star represents ps []) (or_parts (eqb p 42) (eqb p 63) parts.0).0) ∙ matched))
fixed (p ∷ ps) (c ∷ cs) none matched =
    let parts = or_parts (is_wild p) (list_any is_wild ps) none in
    let signs = or_parts (eqb p 42) (eqb p 63) parts.0 in
    let both = and_parts (eqb p 63 || eqb p c) _ (sym (ap (λ (b : Bool). cond b (list_any (matches_by is_star represents ps) (ends_of (c ∷ cs))) ((eqb p 63 || eqb p c) && matches_by is_star represents ps cs)) signs.0) ∙ matched) in
    ap (λ d. d ∷ ps) (eqb-true p c (sym (ap (λ b. b || eqb p c) signs.1) ∙ both.0)) ∙ ap (λ rest. c ∷ rest) (fixed ps cs parts.1 both.1)

fits_itself : (ps : List ℕ) → list_any is_wild ps ≡ false → matches_by is_star represents ps ps ≡ true
fits_itself [] none = refl
fits_itself (p ∷ ps) none =
    let parts = or_parts (is_wild p) (list_any is_wild ps) none in
    let signs = or_parts (eqb p 42) (eqb p 63) parts.0 in
    ap (λ (b : Bool). cond b (list_any (matches_by is_star represents ps) (ends_of (p ∷ ps))) ((eqb p 63 || eqb p p) && matches_by is_star represents ps ps)) signs.0
    ∙ ap (λ b. (eqb p 63 || b) && matches_by is_star represents ps ps) (eq-eqb p p refl)
    ∙ ap (λ b. (b || true) && matches_by is_star represents ps ps) signs.1
    ∙ fits_itself ps parts.1

-- a star and more match what ends with characters that the rest matches
abbrev Ends : List ℕ → List ℕ → Type 0
Ends ps cs = (prefix : List ℕ) × (back : List ℕ) × (cs ≡ prefix ++ back) × (matches_by is_star represents ps back ≡ true)

star_next : (ps : List ℕ) (c : ℕ) (cs : List ℕ) (b : Bool) → matches_by is_star represents ps (c ∷ cs) ≡ b → (b || matches_by is_star represents (42 ∷ ps) cs) ≡ true
    → (matches_by is_star represents (42 ∷ ps) cs ≡ true → Ends ps cs) → Ends ps (c ∷ cs)
star_next ps c cs true is _ _ = ([], c ∷ cs, refl, is)
star_next ps c cs false is later more = let found = more later in (c ∷ found.0, found.1, ap (λ xs. c ∷ xs) found.2, found.3)

star_to : (ps cs : List ℕ) → matches_by is_star represents (42 ∷ ps) cs ≡ true → Ends ps cs
star_to ps [] matched = ([], [], refl, matched)
star_to ps (c ∷ cs) matched = star_next ps c cs (matches_by is_star represents ps (c ∷ cs)) refl (sym (unrolled is_star represents 42 ps c cs refl) ∙ matched) (star_to ps cs)

star_from : (ps prefix back : List ℕ) → matches_by is_star represents ps back ≡ true → matches_by is_star represents (42 ∷ ps) (prefix ++ back) ≡ true
star_from ps [] [] matched = matched
star_from ps [] (c ∷ back) matched = unrolled is_star represents 42 ps c back refl ∙ ap (λ b. b || matches_by is_star represents (42 ∷ ps) back) matched
star_from ps (c ∷ prefix) back matched =
    unrolled is_star represents 42 ps c (prefix ++ back) refl ∙ ap (λ b. matches_by is_star represents ps (c ∷ prefix ++ back) || b) (star_from ps prefix back matched) ∙ or_true _
  where
    or_true : (a : Bool) → (a || true) ≡ true
    or_true true = refl
    or_true false = refl

star_utf8 : (end : List ℕ) → IsUtf8 end → chars (42 ∷ end) ≡ 42 ∷ chars end
unfolding encode
star_utf8 end good = chars_past_char (42 ∷ end) end 42 (IsUtf8-append (42 ∷ []) end (42 ∷ [], (refl, refl)) good) refl

after_sign : (pattern end : List ℕ) → IsUtf8 pattern → pattern ≡ 42 ∷ end → IsUtf8 end
unfolding encode
after_sign pattern end good is = IsUtf8-past_char pattern end 42 good is

pub ends_match : (result : Bool) (pattern end text : List ℕ) → IsUtf8 pattern → IsUtf8 text → list_any is_wild pattern ≡ true → pattern ≡ 42 ∷ end → list_any is_wild end ≡ false
    → MatchBool result (HasSuffixMatch (FindsTextSuffix end) text) (FindsTextSuffix end text None) → result ≡ segment_matches pattern text
ends_match result pattern end text good_pattern good_text wild is none finds =
    let good_end = after_sign pattern end good_pattern is in
    let no_sign : list_any is_wild (chars end) ≡ false = tame (chars end) (ap (list_any is_wild) (encodes-chars end good_end) ∙ none) in
    let pattern_is : chars pattern ≡ 42 ∷ chars end = ap chars is ∙ star_utf8 end good_end in
    by good_end result finds no_sign
    ∙ sym (ap (λ ps. matches_by is_star represents ps (chars text)) pattern_is)
    ∙ sym (ap (λ b. cond b (wild_matches pattern text) (bytes_eq pattern text)) wild)
  where
    by : IsUtf8 end → (b : Bool) → MatchBool b (HasSuffixMatch (FindsTextSuffix end) text) (FindsTextSuffix end text None) → list_any is_wild (chars end) ≡ false → b ≡ matches_by is_star represents (42 ∷ chars end) (chars text)
    by good_end true (n, (count, whole, boundary), within, cut) no_sign =
        let prefix = take (length text - n) text in
        let good_prefix : IsUtf8 prefix = IsUtf8-take text (length text - n) good_text cut in
        sym (ap (matches_by is_star represents (42 ∷ chars end)) (ap chars whole ∙ chars-append prefix end good_prefix)
        ∙ star_from (chars end) (chars prefix) (chars end) (fits_itself (chars end) no_sign))
    by good_end false lacks no_sign = no (matches_by is_star represents (42 ∷ chars end) (chars text)) (ends_so lacks no_sign)
      where
        no : (b : Bool) → (b ≡ true → ⊥) → false ≡ b
        no true h = absurd (h refl)
        no false h = refl

        ends_so : ((prefix : List ℕ) → text ≢ prefix ++ end) → list_any is_wild (chars end) ≡ false → matches_by is_star represents (42 ∷ chars end) (chars text) ≡ true → ⊥
        ends_so lacks no_sign matched =
            let found = star_to (chars end) (chars text) matched in
            let back : chars end ≡ found.1 = fixed (chars end) found.1 no_sign found.3 in
            lacks (encodes found.0)
            (sym (encodes-chars text good_text) ∙ ap encodes (found.2 ∙ ap (λ xs. found.0 ++ xs) (sym back))
            ∙ encodes-append found.0 (chars end) ∙ ap (λ xs. encodes found.0 ++ xs) (encodes-chars end good_end))
