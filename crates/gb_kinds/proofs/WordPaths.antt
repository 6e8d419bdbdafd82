-- A word is a path.
use Rattle.std.proofs.Common.{arith, ◌≡◌, ◌==◌, ℕ, ◌+◌, ◌<◌, ◌≤◌, nat_lt, nat_le, Bool, true, false, true≢false, cond, not, ◌&&◌, ◌||◌, List, [], ◌∷◌, length, get_or, map, refl, sym, ap, ◌∙◌, bytes_eq, IsTrue}
use Rattle.std.proofs.lemmas.Bool.{leb-true, le-leb, lt-ltb, ltb-true, ne_eqb}
use Rattle.std.proofs.lemmas.List.Folds.{list_all_at}
use Rattle.std.specs.Char.{is_ascii_alphabetic, is_ascii_lowercase, to_ascii_lowercase}
use Rattle.std.specs.Int.{is_in_range}
use Rattle.std.specs.List.{list_all, onto_first, slice_split}
use Rattle.gb_core.specs.Place.{is_printable, is_rel_path, is_segment, segments}
use Rattle.gb_kinds.specs.Words.{is_word, letter_or_space}

both : (a b : Bool) → a ≡ true → b ≡ true → (a && b) ≡ true
both true b p q = q
both false b p q = p

first : (a b : Bool) → (a && b) ≡ true → a ≡ true
first true b e = refl
first false b e = e

second : (a b : Bool) → (a && b) ≡ true → b ≡ true
second true b e = e
second false b e = absurd (true≢false (sym e))

within : (low high c : ℕ) → is_in_range low high c ≡ true → (low ≤ c) × (c ≤ high)
within low high c h = (leb-true low c (first _ _ h), leb-true c high (second _ _ h))

-- ---- A run of small letters

module _ (c : ℕ) (small : is_ascii_lowercase c ≡ true) where
  printable : is_printable c ≡ true
  printable =
      let r = within 97 122 c small in
      both _ _ (le-leb 32 c (omega (arith, r.0))) (ap not (ne_eqb c 127 (λ is. omega (arith, r.1, is))))

  not_slash : (c == 47) ≡ false
  not_slash = let r = within 97 122 c small in ne_eqb c 47 (λ is. omega (arith, r.0, is))

  not_dot : (c == 46) ≡ false
  not_dot = let r = within 97 122 c small in ne_eqb c 46 (λ is. omega (arith, r.0, is))

all_printable : (run : List ℕ) → list_all is_ascii_lowercase run ≡ true → list_all is_printable run ≡ true
all_printable [] h = refl
all_printable (c ∷ run) h = both _ _ (printable c (first _ _ h)) (all_printable run (second (is_ascii_lowercase c) _ h))

uncut : (run : List ℕ) → list_all is_ascii_lowercase run ≡ true → segments run ≡ run ∷ []
uncut [] h = refl
uncut (c ∷ run) h =
    ap (λ b. cond b ([] ∷ segments run) (onto_first c (segments run))) (not_slash c (first _ _ h))
    ∙ ap (onto_first c) (uncut run (second (is_ascii_lowercase c) _ h))

pub is_path : (run : List ℕ) → list_all is_ascii_lowercase run ≡ true → is_word run ≡ true → IsTrue (is_rel_path run)
is_path [] small counts = refl
is_path (c ∷ run) small counts =
    let short : length (c ∷ run) ≤ 64 = leb-true (length (c ∷ run)) 64 (second (nat_le 1 (length (c ∷ run))) _ counts) in
    let dot = not_dot c (first _ _ small) in
    let segment : is_segment (c ∷ run) ≡ true = both _ _ refl (both _ _ (ap (λ b. not (b && bytes_eq run [])) dot) (ap (λ b. not (b && bytes_eq run (46 ∷ []))) dot)) in
    both _ _ (both _ _ (le-leb (length (c ∷ run)) 1024 (omega (arith, short))) (all_printable (c ∷ run) small))
    (ap (list_all is_segment) (uncut (c ∷ run) small) ∙ both _ _ segment refl)

-- ---- The runs of a text

not_below : (c n : ℕ) → n ≤ c → nat_lt c n ≡ false
not_below c n h = by (nat_lt c n) refl
  where
    by : (b : Bool) → nat_lt c n ≡ b → b ≡ false
    by true e = absurd (let less : c < n = ltb-true c n e in omega (arith, less, h))
    by false e = refl

in_range : (low high c : ℕ) → low ≤ c → c ≤ high → is_in_range low high c ≡ true
in_range low high c p q = both _ _ (le-leb low c p) (le-leb c high q)

lowered : (c : ℕ) → is_ascii_alphabetic c ≡ true → is_ascii_lowercase (to_ascii_lowercase c) ≡ true
lowered c h = by (is_in_range 65 90 c) refl h
  where
    at : (a b : Bool) → nat_lt c 65 ≡ a → nat_lt c 91 ≡ b → is_ascii_lowercase (cond a c (cond b (c + 32) c)) ≡ true → is_ascii_lowercase (to_ascii_lowercase c) ≡ true
    at a b p q e = ap (λ x. is_ascii_lowercase (cond x c (cond (nat_lt c 91) (c + 32) c))) p ∙ ap (λ x. is_ascii_lowercase (cond a c (cond x (c + 32) c))) q ∙ e

    by : (b : Bool) → is_in_range 65 90 c ≡ b → (b || is_in_range 97 122 c) ≡ true → is_ascii_lowercase (to_ascii_lowercase c) ≡ true
    by true e g =
        let r = within 65 90 c e in
        at false true (not_below c 65 r.0) (lt-ltb c 91 (omega (arith, r.1))) (in_range 97 122 (c + 32) (omega (arith, r.0)) (omega (arith, r.1)))
    by false e g =
        let r = within 97 122 c g in
        at false false (not_below c 65 (omega (arith, r.0))) (not_below c 91 (omega (arith, r.0))) g

small_or_space : (byte : ℕ) → (letter_or_space byte == 32) ≡ false → is_ascii_lowercase (letter_or_space byte) ≡ true
small_or_space byte = by (is_ascii_alphabetic byte) refl
  where
    by : (b : Bool) → is_ascii_alphabetic byte ≡ b → (cond b (to_ascii_lowercase byte) 32 == 32) ≡ false → is_ascii_lowercase (cond b (to_ascii_lowercase byte) 32) ≡ true
    by true e other = lowered byte e
    by false e other = absurd (true≢false other)

abbrev runs : List ℕ → List (List ℕ)
runs bytes = slice_split (λ byte. byte == 32) (map letter_or_space bytes)

abbrev all_small : List (List ℕ) → Bool
all_small parts = list_all (list_all is_ascii_lowercase) parts

small_runs : (bytes : List ℕ) → all_small (runs bytes) ≡ true
small_runs [] = refl
small_runs (byte ∷ bytes) = by (letter_or_space byte == 32) refl (small_runs bytes)
  where
    onto : (c : ℕ) (parts : List (List ℕ)) → is_ascii_lowercase c ≡ true → all_small parts ≡ true → all_small (onto_first c parts) ≡ true
    onto c [] small rest = both _ _ (both _ _ small refl) refl
    onto c (part ∷ parts) small rest = both _ _ (both _ _ small (first _ _ rest)) (second (list_all is_ascii_lowercase part) _ rest)

    by : (b : Bool) → (letter_or_space byte == 32) ≡ b → all_small (runs bytes) ≡ true → all_small (cond b ([] ∷ runs bytes) (onto_first (letter_or_space byte) (runs bytes))) ≡ true
    by true e rest = rest
    by false e rest = onto (letter_or_space byte) (runs bytes) (small_or_space byte e) rest

pub small_run : (bytes run : List ℕ) (i : ℕ) → i < length (runs bytes) → run ≡ get_or (runs bytes) i run → list_all is_ascii_lowercase run ≡ true
small_run bytes run i inside is = by (list_all is_ascii_lowercase run) refl
  where
    by : (b : Bool) → list_all is_ascii_lowercase run ≡ b → b ≡ true
    by true e = refl
    by false e =
        absurd (true≢false (sym (small_runs bytes) ∙ list_all_at (list_all is_ascii_lowercase) (runs bytes) i run inside (ap (list_all is_ascii_lowercase) (sym is) ∙ e)))
