-- The positions of the places that overlap a text in a sorted row, and the cuts of a text into its folders.
use Rattle.std.proofs.Common.{◌≡◌, ◌<◌, ◌≤◌, ◌+◌, ◌↔◌, ◌⊎◌, ℕ, zero, suc, Bool, true, false, not, ◌&&◌, ◌||◌, nat_eq, nat_lt, List, [], ◌∷◌, ◌++◌, length, get_or, take, refl, ap, sym, subst, ◌∙◌, arith, inl, inr, Less, Equal, Greater, Ordering, Contains}
use Rattle.std.specs.Prelude.{bytes_eq}
use Rattle.std.specs.Ordering.{nat_cmp, is_lt, is_eq, is_le, ordering_then}
use Rattle.std.specs.Cmp.Lexicographic.{slice_cmp, bytes_decides}
use Rattle.std.proofs.lemmas.Bool.{cases_eq, cases_order, false≢true}
use Rattle.std.proofs.lemmas.List.Elements.{Contains-append_left, Contains-push, Contains-push_cases}
use Rattle.std.proofs.lemmas.Bool.Decides.{nat_tests}
use Rattle.gb_core.specs.Place.{is_beneath, overlaps}
use Rattle.gb_folder.specs.Files.{Place}
use Rattle.gb_plan.proofs.Tests.{not_true, left_of, right_of, turned}
use Rattle.gb_graph.specs.declared.places.TaskPlace.{TaskPlace}
use Rattle.gb_graph.specs.Places.{place_at}
use Rattle.gb_graph.specs.Overlaps.{FindsToo, is_between}

-- ---- Between two texts

stepped : (o : Ordering) (b : Bool) (u v : Ordering) (s : Bool) → b ≡ is_eq o → (not (is_lt u) && is_lt v) ≡ s
    → (not (is_lt (ordering_then o u)) && is_lt (ordering_then o v)) ≡ (b && s)
stepped Less b u v s h ih = ap (λ c. c && s) (sym h)
stepped Equal b u v s h ih = ih ∙ ap (λ c. c && s) (sym h)
stepped Greater b u v s h ih = ap (λ c. c && s) (sym h)

same_test : (a c : ℕ) → nat_eq a c ≡ is_eq (nat_cmp c a)
same_test a c = grind (arith, nat_tests)

same_test_back : (a c : ℕ) → nat_eq c a ≡ is_eq (nat_cmp c a)
same_test_back a c = grind (arith, nat_tests)

based : (o w : Ordering) → is_lt w ≡ false → is_lt (ordering_then o w) ≡ is_lt o
based Less w h = refl
based Equal w h = h
based Greater w h = refl

not_less : (cs : List ℕ) → is_lt (slice_cmp nat_cmp cs []) ≡ false
not_less [] = refl
not_less (c ∷ cs) = refl

slash : (c : ℕ) → (not (is_lt (nat_cmp c 47)) && is_lt (nat_cmp c 48)) ≡ (nat_eq 47 c && true)
slash c = grind (arith, nat_tests)

pub below_test : (a b : ℕ) → nat_lt a b ≡ is_lt (nat_cmp a b)
below_test a b = grind (arith, nat_tests)

none_below : (c : ℕ) → is_lt (nat_cmp c 0) ≡ false
none_below c = grind (arith, nat_tests)

-- a text that is no longer than another sorts before the other followed by one more byte, unless it sorts
-- after it
pub short_before : (place text : List ℕ) (sign : ℕ) → length place ≤ length text → is_lt (slice_cmp nat_cmp place (text ++ sign ∷ [])) ≡ is_le (slice_cmp nat_cmp place text)
short_before [] [] sign le = refl
short_before [] (b ∷ text) sign le = refl
short_before (a ∷ place) [] sign le = absurd (omega (arith, le))
short_before (a ∷ place) (b ∷ text) sign le = joined (nat_cmp a b) (slice_cmp nat_cmp place (text ++ sign ∷ [])) (slice_cmp nat_cmp place text) (short_before place text sign (omega (arith, le)))
  where
    joined : (o u v : Ordering) → is_lt u ≡ is_le v → is_lt (ordering_then o u) ≡ is_le (ordering_then o v)
    joined Less u v h = refl
    joined Equal u v h = h
    joined Greater u v h = refl

-- for a longer text the prefix decides, and then the byte after it
pub long_before : (place text : List ℕ) (sign : ℕ) → length text < length place
    → is_lt (slice_cmp nat_cmp place (text ++ sign ∷ [])) ≡ is_lt (ordering_then (slice_cmp nat_cmp (take (length text) place) text) (nat_cmp (get_or place (length text) 0) sign))
long_before [] text sign lt = absurd (omega (arith, lt))
long_before (a ∷ place) [] sign lt = based (nat_cmp a sign) (slice_cmp nat_cmp place []) (not_less place)
long_before (a ∷ place) (b ∷ text) sign lt = joined (nat_cmp a b) (slice_cmp nat_cmp place (text ++ sign ∷ [])) (slice_cmp nat_cmp (take (length text) place) text) (nat_cmp (get_or place (length text) 0) sign) (long_before place text sign (omega (arith, lt)))
  where
    joined : (o u v w : Ordering) → is_lt u ≡ is_lt (ordering_then v w) → is_lt (ordering_then o u) ≡ is_lt (ordering_then (ordering_then o v) w)
    joined Less u v w h = refl
    joined Equal u v w h = h
    joined Greater u v w h = refl

-- a text is the only one between itself and itself followed by a byte 0
pub between_is_text : (text place : List ℕ) → is_between text (text ++ 0 ∷ []) place ≡ bytes_eq place text
between_is_text [] [] = refl
between_is_text [] (c ∷ cs) = based (nat_cmp c 0) (slice_cmp nat_cmp cs []) (not_less cs) ∙ none_below c
between_is_text (a ∷ text) [] = refl
between_is_text (a ∷ text) (c ∷ cs) =
    stepped (nat_cmp c a) (nat_eq c a) (slice_cmp nat_cmp cs text) (slice_cmp nat_cmp cs (text ++ 0 ∷ [])) (bytes_eq cs text) (same_test_back a c) (between_is_text text cs)

-- the texts between `folder/` and `folder0` are those under the folder
pub between_is_beneath : (folder place : List ℕ) → is_between (folder ++ 47 ∷ []) (folder ++ 48 ∷ []) place ≡ is_beneath place folder
between_is_beneath [] [] = refl
between_is_beneath [] (c ∷ cs) =
    ap (λ b. not (is_lt (ordering_then (nat_cmp c 47) (slice_cmp nat_cmp cs []))) && b) (based (nat_cmp c 48) (slice_cmp nat_cmp cs []) (not_less cs))
    ∙ ap (λ b. not b && is_lt (nat_cmp c 48)) (based (nat_cmp c 47) (slice_cmp nat_cmp cs []) (not_less cs)) ∙ slash c
between_is_beneath (a ∷ folder) [] = refl
between_is_beneath (a ∷ folder) (c ∷ cs) =
    stepped (nat_cmp c a) (nat_eq a c) (slice_cmp nat_cmp cs (folder ++ 47 ∷ [])) (slice_cmp nat_cmp cs (folder ++ 48 ∷ [])) (is_beneath cs folder) (same_test a c) (between_is_beneath folder cs)

-- ---- The folders of a text

-- the place is the text before one of its first slashes
abbrev pub IsCut : List ℕ → ℕ → Place → Type 0
IsCut text count place = (i : ℕ) × (i < count) × (get_or text i 0 ≡ 47) × (place ≡ take i text)

equal : (a b : ℕ) → nat_eq a b ≡ true → a ≡ b
equal a b h = grind (arith, nat_tests)

equal_so : (a b : ℕ) → a ≡ b → nat_eq a b ≡ true
equal_so a b h = grind (arith, nat_tests)

both : (a b : Bool) → a ≡ true → b ≡ true → (a && b) ≡ true
both true b e g = g
both false b e g = e

pub cut_of : (text place : List ℕ) → is_beneath text place ≡ true → IsCut text (length text) place
cut_of [] [] h = not_true h
cut_of [] (y ∷ place) h = not_true h
cut_of (c ∷ text) [] h = (0, omega arith, sym (equal 47 c (left_of (nat_eq 47 c) true h)), refl)
cut_of (c ∷ text) (y ∷ place) h =
    let rest = cut_of text place (right_of (nat_eq y c) (is_beneath text place) h) in
    let same = equal y c (left_of (nat_eq y c) (is_beneath text place) h) in
    (suc rest.0, omega (arith, rest.1), rest.2, λ i. same i ∷ rest.3 i)

cut_so : (text : List ℕ) (i : ℕ) → i < length text → get_or text i 0 ≡ 47 → is_beneath text (take i text) ≡ true
cut_so [] i lt e = absurd (omega (arith, lt))
cut_so (c ∷ text) zero lt e = ap (λ b. b && true) (equal_so 47 c (sym e))
cut_so (c ∷ text) (suc i) lt e = both (nat_eq c c) (is_beneath text (take i text)) (equal_so c c refl) (cut_so text i (omega (arith, lt)) e)

pub of_cut : (text place : List ℕ) → IsCut text (length text) place → is_beneath text place ≡ true
of_cut text place at = ap (is_beneath text) at.3 ∙ cut_so text at.0 at.1 at.2

-- ---- Indices

not_below : (i r : ℕ) → (i < r → ⊥) → r ≤ i
not_below i r h = elim (cases_order i r) [ inl e ↦ omega arith | inr (inl l) ↦ absurd (h l) | inr (inr g) ↦ omega arith ]

below : (i r : ℕ) → (r ≤ i → ⊥) → i < r
below i r h = elim (cases_order i r) [ inl e ↦ absurd (h (omega arith)) | inr (inl l) ↦ l | inr (inr g) ↦ absurd (h (omega arith)) ]

-- below the next one is below it or at it
pub below_or_at : (i n : ℕ) → i < n + 1 → (i < n) ⊎ (i ≡ n)
below_or_at i n l = elim (cases_order i n) [ inl e ↦ inr e | inr (inl less) ↦ inl less | inr (inr more) ↦ absurd (omega (arith, l, more)) ]

pub in_range : (u v : Bool) (i first end n : ℕ) → end ≤ n → (i < first → u ≡ true) → (first ≤ i → i < n → u ≡ false) → (first ≤ i → i < end → v ≡ true) → (end ≤ i → i < n → v ≡ false)
    → ((first ≤ i) × (i < end)) ↔ ((i < n) × ((not u && v) ≡ true))
in_range true v i first end n le p q r s = (λ l. absurd (false≢true (sym (q l.0 (omega (arith, l.1, le))))), λ h. not_true h.1)
in_range false true i first end n le p q r s =
    (λ l. (omega (arith, l.1, le), refl), λ h. (not_below i first (λ l. false≢true (p l)), below i end (λ g. false≢true (sym (s g h.0)))))
in_range false false i first end n le p q r s = (λ l. absurd (false≢true (r l.0 l.1)), λ h. not_true h.1)

pub finds_same : (row : List TaskPlace) (f g : Place → Bool) → ((p : Place) → f p ≡ g p) → (old new : List ℕ) → FindsToo row f old new → FindsToo row g old new
finds_same row f g same old new finds k = (
  λ h. elim ((finds k).0 h) [ inl o ↦ inl o | inr at ↦ inr (at.0, sym (same (place_at row k)) ∙ at.1) ],
  λ h. (finds k).1 (elim h [ inl o ↦ inl o | inr at ↦ inr (at.0, same (place_at row k) ∙ at.1) ]),
)

-- ---- Overlaps

one_of_four : {A : Type 0} (a b c : Bool) → ((a || b) || (a || c)) ≡ true → (b ≡ true → A) → (a ≡ true → A) → (c ≡ true → A) → A
one_of_four true b c h f g k = g refl
one_of_four false true c h f g k = f refl
one_of_four false false c h f g k = k h

pub overlaps_of : {A : Type 0} (text place : Place) → overlaps text place ≡ true → (is_beneath place text ≡ true → A) → (bytes_eq place text ≡ true → A) → (is_beneath text place ≡ true → A) → A
overlaps_of text place h f g k =
    one_of_four (bytes_eq place text) (is_beneath text place) (is_beneath place text) (ap (λ b. (b || is_beneath text place) || (bytes_eq place text || is_beneath place text)) (turned place text) ∙ h) k g f

some_of_four : (a b c : Bool) → (a ≡ true) ⊎ ((b ≡ true) ⊎ (c ≡ true)) → ((a || b) || (a || c)) ≡ true
some_of_four true b c h = refl
some_of_four false true c h = refl
some_of_four false false c (inl e) = not_true e
some_of_four false false c (inr (inl e)) = not_true e
some_of_four false false c (inr (inr e)) = e

pub overlaps_so : (text place : Place) → (bytes_eq place text ≡ true) ⊎ ((is_beneath text place ≡ true) ⊎ (is_beneath place text ≡ true)) → overlaps text place ≡ true
overlaps_so text place h =
    ap (λ b. (b || is_beneath text place) || (bytes_eq place text || is_beneath place text)) (turned text place) ∙ some_of_four (bytes_eq place text) (is_beneath text place) (is_beneath place text) h

-- ---- Steps

pub one_more : (initial found : List ℕ) (first n : ℕ) → first ≤ n → ((k : ℕ) → Contains found k ↔ (Contains initial k ⊎ ((first ≤ k) × (k < n))))
    → (k : ℕ) → Contains (found ++ n ∷ []) k ↔ (Contains initial k ⊎ ((first ≤ k) × (k < n + 1)))
one_more initial found first n le reported k = (
  λ h. elim (Contains-push_cases found n k h) [
    | inl o ↦ elim ((reported k).0 o) [ inl c ↦ inl c | inr at ↦ inr (at.0, omega (arith, at.1)) ]
    | inr e ↦ inr (omega (arith, e, le), omega (arith, e))
  ],
  λ h. elim h [
    | inl c ↦ Contains-append_left found (n ∷ []) k ((reported k).1 (inl c))
    | inr at ↦ elim (cases_eq k n) [
      | inl e ↦ subst (λ v. Contains (found ++ n ∷ []) v) (sym e) (Contains-push found n)
      | inr separate ↦ Contains-append_left found (n ∷ []) k ((reported k).1 (inr (at.0, omega (arith, at.1, separate))))
    ]
  ],
)

pub ends : (k first end i : ℕ) → first ≤ i → end ≤ i → (i ≡ first) ⊎ (i ≤ end) → (k < i → first ≤ k → k < end) × (k < end → k < i)
ends k first end i le ge (inl e) = (λ lt low. absurd (omega (arith, e, lt, low)), λ lt. omega (arith, lt, ge))
ends k first end i le ge (inr h) = (λ lt low. omega (arith, h, lt), λ lt. omega (arith, lt, ge))

pub all_found : (row : List TaskPlace) (place : Place) (none one two three : List ℕ) → none ≡ [] → FindsToo row (λ p. is_beneath p place) none one
    → FindsToo row (λ p. bytes_eq p place) one two → FindsToo row (λ p. is_beneath place p) two three
    → (k : ℕ) → Contains three k ↔ ((k < length row) × (overlaps place (place_at row k) ≡ true))
all_found row place none one two three is first second third k =
    let x = place_at row k in (
      λ h. elim ((third k).0 h) [
        | inr at ↦ (at.0, overlaps_so place x (inr (inl at.1)))
        | inl h₂ ↦ elim ((second k).0 h₂) [
          | inr at ↦ (at.0, overlaps_so place x (inl at.1))
          | inl h₁ ↦ elim ((first k).0 h₁) [
            | inr at ↦ (at.0, overlaps_so place x (inr (inr at.1)))
            | inl h₀ ↦ absurd (let e = ap length is in omega (arith, h₀.1, e))
          ]
        ]
      ],
      λ h. overlaps_of place x h.1
          (λ e. (third k).1 (inl ((second k).1 (inl ((first k).1 (inr (h.0, e)))))))
          (λ e. (third k).1 (inl ((second k).1 (inr (h.0, e)))))
          (λ e. (third k).1 (inr (h.0, e))),
    )

-- the folders before one more byte
pub cut_more : (text : List ℕ) (n : ℕ) (place : Place) → get_or text n 0 ≡ 47 → IsCut text (n + 1) place ↔ (IsCut text n place ⊎ (place ≡ take n text))
cut_more text n place is = (
  λ h. elim (cases_eq h.0 n) [
    | inl e ↦ inr (h.3 ∙ ap (λ i. take i text) e)
    | inr separate ↦ inl (h.0, omega (arith, h.1, separate), h.2, h.3)
  ],
  λ h. elim h [ inl at ↦ (at.0, omega (arith, at.1), at.2, at.3) | inr e ↦ (n, omega arith, is, e) ],
)

pub cut_same : (text : List ℕ) (n : ℕ) (place : Place) → (get_or text n 0 ≡ 47 → ⊥) → IsCut text (n + 1) place ↔ IsCut text n place
cut_same text n place other = (
  λ h. elim (cases_eq h.0 n) [
    | inl e ↦ absurd (other (ap (λ i. get_or text i 0) (sym e) ∙ h.2))
    | inr separate ↦ (h.0, omega (arith, h.1, separate), h.2, h.3)
  ],
  λ at. (at.0, omega (arith, at.1), at.2, at.3),
)

-- one more folder is found
pub cut_found : (row : List TaskPlace) (text : List ℕ) (n : ℕ) (initial old new : List ℕ) → get_or text n 0 ≡ 47 → ((k : ℕ) → Contains old k ↔ (Contains initial k ⊎ ((k < length row) × IsCut text n (place_at row k))))
    → FindsToo row (λ p. bytes_eq p (take n text)) old new → (k : ℕ) → Contains new k ↔ (Contains initial k ⊎ ((k < length row) × IsCut text (n + 1) (place_at row k)))
cut_found row text n initial old new is reported finds k =
    let x = place_at row k in
    let more = cut_more text n x is in (
      λ h. elim ((finds k).0 h) [
        | inl o ↦ elim ((reported k).0 o) [ inl c ↦ inl c | inr at ↦ inr (at.0, more.1 (inl at.1)) ]
        | inr at ↦ inr (at.0, more.1 (inr ((bytes_decides x (take n text)).0 at.1)))
      ],
      λ h. (finds k).1 (elim h [
        | inl c ↦ inl ((reported k).1 (inl c))
        | inr at ↦ elim (more.0 at.1) [ inl cut ↦ inl ((reported k).1 (inr (at.0, cut))) | inr e ↦ inr (at.0, (bytes_decides x (take n text)).1 e) ]
      ]),
    )

pub cut_passed : (row : List TaskPlace) (text : List ℕ) (n : ℕ) (initial old : List ℕ) → (get_or text n 0 ≡ 47 → ⊥) → ((k : ℕ) → Contains old k ↔ (Contains initial k ⊎ ((k < length row) × IsCut text n (place_at row k))))
    → (k : ℕ) → Contains old k ↔ (Contains initial k ⊎ ((k < length row) × IsCut text (n + 1) (place_at row k)))
cut_passed row text n initial old other reported k =
    let same = cut_same text n (place_at row k) other in (
      λ h. elim ((reported k).0 h) [ inl c ↦ inl c | inr at ↦ inr (at.0, same.1 at.1) ],
      λ h. (reported k).1 (elim h [ inl c ↦ inl c | inr at ↦ inr (at.0, same.0 at.1) ]),
    )

-- at the end all folders are found
pub cuts_all : (row : List TaskPlace) (text : List ℕ) (n : ℕ) (initial old : List ℕ) → n ≡ length text → ((k : ℕ) → Contains old k ↔ (Contains initial k ⊎ ((k < length row) × IsCut text n (place_at row k))))
    → FindsToo row (λ p. is_beneath text p) initial old
cuts_all row text n initial old is reported k = (
  λ h. elim ((reported k).0 h) [ inl c ↦ inl c | inr at ↦ inr (at.0, of_cut text (place_at row k) (subst (λ m. IsCut text m (place_at row k)) is at.1)) ],
  λ h. (reported k).1 (elim h [ inl c ↦ inl c | inr at ↦ inr (at.0, subst (λ m. IsCut text m (place_at row k)) (sym is) (cut_of text (place_at row k) at.1)) ]),
)
