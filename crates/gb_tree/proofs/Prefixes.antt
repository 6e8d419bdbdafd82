-- What a pattern matches is at its front or under it.
use Rattle.std.proofs.Common.{arith, ◌≡◌, ◌⊎◌, inl, inr, ℕ, zero, suc, ◌+◌, ◌-◌, ◌<◌, ◌≤◌, Bool, true, false, cond, not, ◌&&◌, ◌||◌, eqb, List, [], ◌∷◌, ◌++◌, length, take, drop, get_or, refl, sym, ◌∙◌, ap, append_assoc, length-append}
use Rattle.std.proofs.Math.Seq.{get_or-append_seam, take-append_seam}
use Rattle.std.proofs.lemmas.Bool.{and_parts, eqb-true, false≢true, not-true, or_parts}
use Rattle.std.proofs.lemmas.List.{get_or-append_right, take-append-drop}
use Rattle.std.proofs.lemmas.List.Folds.{list_any-append}
use Rattle.std.proofs.lemmas.List.Splits.{join_with_byte-slice_split}
use Rattle.std.proofs.lemmas.List.Sums.{suffix_len_is}
use Rattle.std.specs.Cmp.Lexicographic.{bytes_decides}
use Rattle.std.specs.List.{before_first, before_last, join_with_byte, list_all, list_any, onto_first, position_or_len, suffix_len}
use Rattle.std.specs.Prelude.{All, bytes_eq, codes}
use Rattle.gb_core.proofs.BySegments.{beneath-from_segments, segments-joined}
use Rattle.gb_core.specs.Place.{is_beneath, is_under, segments}
use Rattle.gb_tree.specs.Pattern.{ends_of, prefix_of, is_double_star, is_wild, matches_by, path_matches, plain_prefix, segment_matches, wild_matches}

-- ---- Segments without wild bytes

abbrev pub is_plain : List ℕ → Bool
is_plain text = not (list_any is_wild text)

pub plain_from : (text : List ℕ) → list_any is_wild text ≡ false → is_plain text ≡ true
plain_from text none = ap not none

pub no_double : (segment : List ℕ) → is_plain segment ≡ true → is_double_star segment ≡ false
no_double segment plain = by (is_double_star segment) refl
  where
    by : (b : Bool) → is_double_star segment ≡ b → b ≡ false
    by false is = refl
    by true is = absurd (false≢true (sym (ap is_plain ((bytes_decides segment (codes "**")).0 is)) ∙ plain))

pub same_segment : (segment text : List ℕ) → is_plain segment ≡ true → segment_matches segment text ≡ true → segment ≡ text
same_segment segment text plain matched =
    (bytes_decides segment text).0 (sym (ap (λ b. cond b (wild_matches segment text) (bytes_eq segment text)) (not-true (list_any is_wild segment) plain)) ∙ matched)

-- a list that plain segments and more match begins with these segments
begins_with : (plain rest row : List (List ℕ)) → list_all is_plain plain ≡ true → matches_by is_double_star segment_matches (plain ++ rest) row ≡ true → (more : List (List ℕ)) × (row ≡ plain ++ more)
begins_with [] rest row all matched = (row, refl)
begins_with (segment ∷ plain) rest [] all matched =
    let parts = and_parts (is_plain segment) (list_all is_plain plain) all in
    absurd (false≢true (sym (ap (λ b. b && matches_by is_double_star segment_matches (plain ++ rest) []) (no_double segment parts.0)) ∙ matched))
begins_with (segment ∷ plain) rest (text ∷ row) all matched =
    let parts = and_parts (is_plain segment) (list_all is_plain plain) all in
    let here : (segment_matches segment text && matches_by is_double_star segment_matches (plain ++ rest) row) ≡ true =
    sym (ap (λ (b : Bool). cond b (list_any (matches_by is_double_star segment_matches (plain ++ rest)) (ends_of (text ∷ row))) (segment_matches segment text && matches_by is_double_star segment_matches (plain ++ rest) row)) (no_double segment parts.0)) ∙ matched in
    let both = and_parts (segment_matches segment text) _ here in
    let later = begins_with plain rest row parts.1 both.1 in
    (later.0, ap (λ t. t ∷ row) (sym (same_segment segment text parts.0 both.0)) ∙ ap (λ r. segment ∷ r) later.1)

onto_plain : (c : ℕ) (parts : List (List ℕ)) → is_wild c ≡ false → list_all is_plain parts ≡ true → list_all is_plain (onto_first c parts) ≡ true
onto_plain c [] tame all = ap (λ b. not (b || false) && true) tame
onto_plain c (part ∷ parts) tame all =
    ap (λ b. not (b || list_any is_wild part) && list_all is_plain parts) tame ∙ all

pub segments_plain : (text : List ℕ) → list_any is_wild text ≡ false → list_all is_plain (segments text) ≡ true
segments_plain [] none = refl
segments_plain (c ∷ text) none =
    let parts = or_parts (is_wild c) (list_any is_wild text) none in
    let rest = segments_plain text parts.1 in
    elim (eqb c 47) as (λ b. list_all is_plain (cond b ([] ∷ segments text) (onto_first c (segments text))) ≡ true) [
      | true ↦ rest
      | false ↦ onto_plain c (segments text) parts.0 rest
    ]

-- a path whose segments begin with those of a folder is at it or under it
pub under_folder : (path folder : List ℕ) (more : List (List ℕ)) → segments path ≡ segments folder ++ more → is_under path folder ≡ true
under_folder path folder [] same =
    let is : path ≡ folder = sym (join_with_byte-slice_split 47 path) ∙ ap (join_with_byte 47) (same ∙ with_none (segments folder)) ∙ join_with_byte-slice_split 47 folder in
    ap (λ b. b || is_beneath path folder) ((bytes_decides path folder).1 is)
  where
    with_none : {X : Type 0} (xs : List X) → xs ++ [] ≡ xs
    with_none [] = refl
    with_none (x ∷ xs) = ap (λ ys. x ∷ ys) (with_none xs)
under_folder path folder (first ∷ rest) same = either (bytes_eq path folder) (is_beneath path folder) (beneath-from_segments path folder (first, rest, same))
  where
    either : (a b : Bool) → b ≡ true → (a || b) ≡ true
    either true b h = refl
    either false b h = h

-- ---- The front of a pattern

pub after_first : (prefix back : List ℕ) (path : List ℕ) → list_any is_wild prefix ≡ false → path_matches (prefix ++ 47 ∷ back) path ≡ true → is_under path prefix ≡ true
after_first prefix back path none matched =
    let found = begins_with (segments prefix) (segments back) (segments path) (segments_plain prefix none)
    (sym (ap (λ parts. matches_by is_double_star segment_matches parts (segments path)) (segments-joined prefix back)) ∙ matched) in
    under_folder path prefix found.0 found.1

all_plain : (pattern path : List ℕ) → list_any is_wild pattern ≡ false → path_matches pattern path ≡ true → is_under path pattern ≡ true
all_plain pattern path none matched =
    let found = begins_with (segments pattern) [] (segments path) (segments_plain pattern none)
    (ap (λ parts. matches_by is_double_star segment_matches parts (segments path)) (with_none (segments pattern)) ∙ matched) in
    under_folder path pattern found.0 found.1
  where
    with_none : {X : Type 0} (xs : List X) → xs ++ [] ≡ xs
    with_none [] = refl
    with_none (x ∷ xs) = ap (λ ys. x ∷ ys) (with_none xs)

-- ---- What comes before the last slash

abbrev is_slash : ℕ → Bool
is_slash b = eqb b 47

abbrev HasNone : List ℕ → Type 0
HasNone text = All (λ b. is_slash b ≡ false) text

abbrev IsCut : List ℕ → Type 0
IsCut text = HasNone text ⊎ ((prefix : List ℕ) × (back : List ℕ) × (text ≡ prefix ++ 47 ∷ back) × HasNone back)

none_after : (c : ℕ) (text : List ℕ) → is_slash c ≡ false → HasNone text → HasNone (c ∷ text)
none_after c text e h zero d below = e
none_after c text e h (suc k) d below = h k d (omega (arith, below))

cut_after : (c : ℕ) (text : List ℕ) (b : Bool) → is_slash c ≡ b → IsCut text → IsCut (c ∷ text)
cut_after c text b e (inr (prefix, back, same, none)) = inr (c ∷ prefix, back, ap (λ xs. c ∷ xs) same, none)
cut_after c text true e (inl none) = inr ([], text, ap (λ d. d ∷ text) (eqb-true c 47 e), none)
cut_after c text false e (inl none) = inl (none_after c text e none)

cut : (text : List ℕ) → IsCut text
cut [] = inl (λ k d below. absurd (omega (arith, below)))
cut (c ∷ text) = cut_after c text (is_slash c) refl (cut text)

module _ (prefix back : List ℕ) (none : HasNone back) where
  following : (k : ℕ) → length prefix + 1 ≤ k → k < length (prefix ++ 47 ∷ back) → not (is_slash (get_or (prefix ++ 47 ∷ back) k 0)) ≡ true
  following k from below =
      let index : k - length prefix ≡ suc (k - length prefix - 1) = omega (arith, from) in
      let short : k - length prefix - 1 < length back = omega (arith, from, below, length-append prefix (47 ∷ back)) in
      ap (λ b. not (is_slash b)) (get_or-append_right prefix (47 ∷ back) (length prefix) k 0 refl (omega (arith, from)) ∙ ap (λ n. get_or (47 ∷ back) n 0) index)
      ∙ ap not (none (k - length prefix - 1) 0 short)

  suffix : suffix_len (λ b. not (is_slash b)) (prefix ++ 47 ∷ back) ≡ length (prefix ++ 47 ∷ back) - (length prefix + 1)
  suffix =
      suffix_len_is (λ b. not (is_slash b)) (prefix ++ 47 ∷ back) (length prefix + 1) 0 (omega (arith, length-append prefix (47 ∷ back))) following
      (λ p. ap (λ n. not (is_slash (get_or (prefix ++ 47 ∷ back) n 0))) (let e : (length prefix + 1) - 1 ≡ length prefix = omega arith in e) ∙ ap (λ b. not (is_slash b)) (get_or-append_seam prefix 47 back 0))

  before : before_last is_slash (prefix ++ 47 ∷ back) ≡ prefix
  before =
      let count : length (prefix ++ 47 ∷ back) - suffix_len (λ b. not (is_slash b)) (prefix ++ 47 ∷ back) - 1 ≡ length prefix = omega (arith, suffix, length-append prefix (47 ∷ back)) in
      ap (λ n. take n (prefix ++ 47 ∷ back)) count ∙ take-append_seam prefix (47 ∷ back)

none_before : (text : List ℕ) → HasNone text → before_last is_slash text ≡ []
none_before text none =
    let count : suffix_len (λ b. not (is_slash b)) text ≡ length text - 0 =
    suffix_len_is (λ b. not (is_slash b)) text 0 0 (omega arith) (λ k h below. ap not (none k 0 below)) (λ p. absurd (omega (arith, p))) in
    let first : length text - (length text - 0) - 1 ≡ 0 = omega arith in
    ap (λ n. take (length text - n - 1) text) count ∙ ap (λ n. take n text) first

-- ---- What comes before the first of some bytes

none_first : (test : ℕ → Bool) (text : List ℕ) → list_any test (before_first test text) ≡ false
none_first test [] = refl
none_first test (c ∷ text) = by (test c) refl (none_first test text)
  where
    one_more : (n : ℕ) → take (1 + n) (c ∷ text) ≡ c ∷ take n text
    one_more n = let e : 1 + n ≡ suc n = omega arith in ap (λ m. take m (c ∷ text)) e

    by : (b : Bool) → test c ≡ b → list_any test (before_first test text) ≡ false → list_any test (take (cond (not b) (1 + position_or_len test text) 0) (c ∷ text)) ≡ false
    by true is more = refl
    by false is more = ap (list_any test) (one_more (position_or_len test text)) ∙ ap (λ b. b || list_any test (take (position_or_len test text) text)) is ∙ more

none_in_prefix : (test : ℕ → Bool) (text : List ℕ) (n : ℕ) → list_any test text ≡ false → list_any test (take n text) ≡ false
none_in_prefix test text zero none = refl
none_in_prefix test [] (suc n) none = refl
none_in_prefix test (c ∷ text) (suc n) none =
    let parts = or_parts (test c) (list_any test text) none in
    ap (λ b. b || list_any test (take n text)) parts.0 ∙ none_in_prefix test text n parts.1

both_tests : (text : List ℕ) → list_any (λ b. eqb b 42) text ≡ false → list_any (λ b. eqb b 63) text ≡ false → list_any is_wild text ≡ false
both_tests [] first second = refl
both_tests (c ∷ text) first second =
    let one = or_parts (eqb c 42) (list_any (λ b. eqb b 42) text) first in
    let two = or_parts (eqb c 63) (list_any (λ b. eqb b 63) text) second in
    ap (λ b. (b || eqb c 63) || list_any is_wild text) one.0 ∙ ap (λ b. b || list_any is_wild text) two.0 ∙ both_tests text one.1 two.1

prefix_plain : (pattern : List ℕ) → list_any is_wild (plain_prefix pattern) ≡ false
prefix_plain pattern =
    let first = before_first (λ b. eqb b 42) pattern in
    both_tests (plain_prefix pattern)
    (none_in_prefix (λ b. eqb b 42) first (position_or_len (λ b. eqb b 63) first) (none_first (λ b. eqb b 42) pattern))
    (none_first (λ b. eqb b 63) first)

prefix_is : (pattern : List ℕ) → (rest : List ℕ) × (pattern ≡ plain_prefix pattern ++ rest)
prefix_is pattern =
    let n = position_or_len (λ b. eqb b 42) pattern in
    let first = before_first (λ b. eqb b 42) pattern in
    let m = position_or_len (λ b. eqb b 63) first in (
      drop m first ++ drop n pattern,
      sym (take-append-drop n pattern) ∙ ap (λ text. text ++ drop n pattern) (sym (take-append-drop m first)) ∙ append_assoc (take m first) (drop m first) (drop n pattern),
    )

wild_prefix : (pattern path : List ℕ) → path_matches pattern path ≡ true → (before_last is_slash (plain_prefix pattern) ≡ []) ⊎ (is_under path (before_last is_slash (plain_prefix pattern)) ≡ true)
wild_prefix pattern path matched = by (cut (plain_prefix pattern))
  where
    by : IsCut (plain_prefix pattern) → (before_last is_slash (plain_prefix pattern) ≡ []) ⊎ (is_under path (before_last is_slash (plain_prefix pattern)) ≡ true)
    by (inl none) = inl (none_before (plain_prefix pattern) none)
    by (inr (prefix, back, same, none)) =
        let rest = prefix_is pattern in
        let is : before_last is_slash (plain_prefix pattern) ≡ prefix = ap (before_last is_slash) same ∙ before prefix back none in
        let plain = or_left_none (list_any is_wild prefix) (list_any is_wild (47 ∷ back)) (sym (list_any-append is_wild prefix (47 ∷ back)) ∙ ap (list_any is_wild) (sym same) ∙ prefix_plain pattern) in
        let whole : pattern ≡ prefix ++ 47 ∷ (back ++ rest.0) = rest.1 ∙ ap (λ text. text ++ rest.0) same ∙ append_assoc prefix (47 ∷ back) rest.0 in
        inr (ap (is_under path) is ∙ after_first prefix (back ++ rest.0) path plain (ap (λ text. path_matches text path) (sym whole) ∙ matched))
      where
        or_left_none : (a b : Bool) → (a || b) ≡ false → a ≡ false
        or_left_none a b h = (or_parts a b h).0

-- a path that the pattern matches is at its front or under it, where it has one
pub under_prefix : (pattern path : List ℕ) → path_matches pattern path ≡ true → (prefix_of pattern ≡ []) ⊎ (is_under path (prefix_of pattern) ≡ true)
under_prefix pattern path matched =
    elim (list_any is_wild pattern) as (λ b. list_any is_wild pattern ≡ b → (cond b (before_last is_slash (plain_prefix pattern)) pattern ≡ []) ⊎ (is_under path (cond b (before_last is_slash (plain_prefix pattern)) pattern) ≡ true)) [
      | true ↦ λ _. wild_prefix pattern path matched
      | false ↦ λ none. inr (all_plain pattern path none matched)
    ] refl
