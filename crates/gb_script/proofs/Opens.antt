-- A reader of a bracket, which may pass the limit, by its laws.
use Rattle.std.proofs.Common.{◌≡◌, ℕ, zero, suc, ◌+◌, ◌-◌, ◌<◌, Bool, true, false, List, [], ◌∷◌, ◌++◌, length, Option, Ok, Err, refl, sym, ap, ◌∙◌, arith, inl, inr}
use Rattle.std.specs.Prelude.{nat_lt, drop, ◌==◌}
use Rattle.std.proofs.lemmas.Bool.{le-ltb, lt-ltb, ne_eqb}
use Rattle.gb_script.specs.declared.token.Sign.{Sign}
use Rattle.gb_script.specs.declared.token.Token.{Token}
use Rattle.gb_script.specs.declared.token.Token.TheVariants.{Mark}
use Rattle.gb_script.specs.declared.token_fault.Fault.TheVariants.{Stray, Deep}
use Rattle.gb_script.specs.Lexing.{begins}
use Rattle.gb_script.specs.Grammar.{Leveled, tokens_of}
use Rattle.gb_script.specs.Verdict.{IsWithin}
use Rattle.gb_script.specs.Reading.{Reader, ◌>>=◌, stray, deep, is_sign, skip_at, open_at}
use Rattle.gb_script.proofs.Runs.{cases_bool}
use Rattle.gb_script.proofs.Readers.{Reads, Taken, StrayIn, DeepIn}
use Rattle.gb_script.proofs.Singles.{tests_sign, head_not, begins_is}

open_none : (s : Sign) (ts : List Token) → begins (is_sign s) ts ≡ true → open_at s 0 ts ≡ deep ts
unfolding open_at skip_at
open_none s ts h = rw h refl

open_some : (s : Sign) (n : ℕ) (ts : List Token) → begins (is_sign s) ts ≡ true → open_at s (suc n) ts ≡ Ok (n, drop 1 ts)
unfolding open_at skip_at
open_some s n ts h =
    let positive : (suc n == 0) ≡ false = ne_eqb (suc n) 0 (λ e. omega arith) in
    let one : suc n - 1 ≡ n = omega arith in
    rw (h, positive, one) refl

open_fails : (s : Sign) (n : ℕ) (ts : List Token) → begins (is_sign s) ts ≡ false → open_at s n ts ≡ stray ts
unfolding open_at skip_at
open_fails s n ts h = rw h refl

module _ {B : Type 0} (P : B → Type 0) (m : B → List Leveled) (e : B → Option Token → Bool) (r : ℕ → Reader B) (s : Sign) (d : ℕ) (some : (b : B) × P b) where
  module _ (full : d ≡ 64) where
    none_takes : (ts rest : List Token) (b : B) → (open_at s 0 ts >>= λ o. r o.0 o.1) ≡ Ok (b, rest) → Taken P (λ b. (Mark s, d + 1) ∷ m b) e ts b rest
    none_takes ts rest b h =
        elim (cases_bool (begins (is_sign s) ts)) [
          | inl y ↦ absurd (let no : deep {A = B × List Token} ts ≡ Ok (b, rest) = sym (ap (λ read. read >>= λ o. r o.0 o.1) (open_none s ts y)) ∙ h in cc)
          | inr y ↦ absurd (let no : stray {A = B × List Token} ts ≡ Ok (b, rest) = sym (ap (λ read. read >>= λ o. r o.0 o.1) (open_fails s 0 ts y)) ∙ h in cc)
        ]

    none_deeps : (ts : List Token) (n : ℕ) → (open_at s 0 ts >>= λ o. r o.0 o.1) ≡ Err (Deep n) → DeepIn P (λ b. (Mark s, d + 1) ∷ m b) (λ ts. open_at s 0 ts >>= λ o. r o.0 o.1) ts n
    none_deeps ts n h =
        elim (cases_bool (begins (is_sign s) ts)) [
          | inl y ↦
              let at : deep {A = B × List Token} ts ≡ Err (Deep n) = sym (ap (λ read. read >>= λ o. r o.0 o.1) (open_none s ts y)) ∙ h in
              let size : n ≡ length ts = cc in
              record {
                value = some.0;
                fits = some.1;
                prefix = [];
                over = (Mark s, d + 1);
                more = m some.0;
                rest = drop 1 ts;
                whole = refl;
                spelled = begins_is (tests_sign s) ts y;
                size = size ∙ ap length (begins_is (tests_sign s) ts y);
                within = tt;
                past = lt-ltb 64 (d + 1) (omega arith);
                only = λ other. ap (λ read. read >>= λ o. r o.0 o.1) (open_none s (Mark s ∷ other) (tests_sign s).same);
              }
          | inr y ↦ absurd (let no : stray {A = B × List Token} ts ≡ Err (Deep n) = sym (ap (λ read. read >>= λ o. r o.0 o.1) (open_fails s 0 ts y)) ∙ h in cc)
        ]

  opening_strays : (room : ℕ) → (ts : List Token) (n : ℕ) → begins (is_sign s) ts ≡ false → n ≡ length ts → StrayIn P (λ b. (Mark s, d + 1) ∷ m b) (λ ts. open_at s room ts >>= λ o. r o.0 o.1) ts n
  opening_strays room ts n y size = record {
    value = some.0;
    fits = some.1;
    prefix = [];
    more = (Mark s, d + 1) ∷ m some.0;
    bad = ts;
    whole = refl;
    spelled = refl;
    size = size;
    within = tt;
    only = λ b rest other at. ap (λ read. read >>= λ o. r o.0 o.1) (open_fails s room (b ∷ other) (head_not (is_sign s) ts b rest y at));
  }

  none_strays : (ts : List Token) (n : ℕ) → (open_at s 0 ts >>= λ o. r o.0 o.1) ≡ Err (Stray n) → StrayIn P (λ b. (Mark s, d + 1) ∷ m b) (λ ts. open_at s 0 ts >>= λ o. r o.0 o.1) ts n
  none_strays ts n h =
      elim (cases_bool (begins (is_sign s) ts)) [
        | inl y ↦ absurd (let no : deep {A = B × List Token} ts ≡ Err (Stray n) = sym (ap (λ read. read >>= λ o. r o.0 o.1) (open_none s ts y)) ∙ h in cc)
        | inr y ↦ (let at : stray {A = B × List Token} ts ≡ Err (Stray n) = sym (ap (λ read. read >>= λ o. r o.0 o.1) (open_fails s 0 ts y)) ∙ h in let size : n ≡ length ts = cc in opening_strays 0 ts n y size)
      ]

  module _ (n : ℕ) (free : d < 64) (R : Reads P m e (r n)) where
    opened_is : (ts : List Token) → begins (is_sign s) ts ≡ true → (open_at s (suc n) ts >>= λ o. r o.0 o.1) ≡ r n (drop 1 ts)
    opened_is ts y = ap (λ read. read >>= λ o. r o.0 o.1) (open_some s n ts y)

    fits_level : IsWithin (Mark s, d + 1)
    fits_level = le-ltb 64 (d + 1) (omega arith)

    some_takes : (ts rest : List Token) (b : B) → (open_at s (suc n) ts >>= λ o. r o.0 o.1) ≡ Ok (b, rest) → Taken P (λ b. (Mark s, d + 1) ∷ m b) e ts b rest
    some_takes ts rest b h =
        elim (cases_bool (begins (is_sign s) ts)) [
          | inl y ↦
              let t = R.takes (drop 1 ts) rest b (sym (opened_is ts y) ∙ h) in
              record { fits = t.fits; spelled = begins_is (tests_sign s) ts y ∙ ap (λ (l : List Token). Mark s ∷ l) t.spelled; within = (fits_level, t.within); ends_there = t.ends_there }
          | inr y ↦ absurd (let no : stray {A = B × List Token} ts ≡ Ok (b, rest) = sym (ap (λ read. read >>= λ o. r o.0 o.1) (open_fails s (suc n) ts y)) ∙ h in cc)
        ]

    some_strays : (ts : List Token) (k : ℕ) → (open_at s (suc n) ts >>= λ o. r o.0 o.1) ≡ Err (Stray k) → StrayIn P (λ b. (Mark s, d + 1) ∷ m b) (λ ts. open_at s (suc n) ts >>= λ o. r o.0 o.1) ts k
    some_strays ts k h =
        elim (cases_bool (begins (is_sign s) ts)) [
          | inl y ↦
              let t = R.strays (drop 1 ts) k (sym (opened_is ts y) ∙ h) in
              record {
                value = t.value;
                fits = t.fits;
                prefix = (Mark s, d + 1) ∷ t.prefix;
                more = t.more;
                bad = t.bad;
                whole = ap (λ (l : List Leveled). (Mark s, d + 1) ∷ l) t.whole;
                spelled = begins_is (tests_sign s) ts y ∙ ap (λ (l : List Token). Mark s ∷ l) t.spelled;
                size = t.size;
                within = (fits_level, t.within);
                only = λ b rest other at. opened_is (Mark s ∷ (tokens_of t.prefix ++ b ∷ other)) (tests_sign s).same ∙ t.only b rest other at;
              }
          | inr y ↦ (let at : stray {A = B × List Token} ts ≡ Err (Stray k) = sym (ap (λ read. read >>= λ o. r o.0 o.1) (open_fails s (suc n) ts y)) ∙ h in let size : k ≡ length ts = cc in opening_strays (suc n) ts k y size)
        ]

    some_deeps : (ts : List Token) (k : ℕ) → (open_at s (suc n) ts >>= λ o. r o.0 o.1) ≡ Err (Deep k) → DeepIn P (λ b. (Mark s, d + 1) ∷ m b) (λ ts. open_at s (suc n) ts >>= λ o. r o.0 o.1) ts k
    some_deeps ts k h =
        elim (cases_bool (begins (is_sign s) ts)) [
          | inl y ↦
              let t = R.deeps (drop 1 ts) k (sym (opened_is ts y) ∙ h) in
              record {
                value = t.value;
                fits = t.fits;
                prefix = (Mark s, d + 1) ∷ t.prefix;
                over = t.over;
                more = t.more;
                rest = t.rest;
                whole = ap (λ (l : List Leveled). (Mark s, d + 1) ∷ l) t.whole;
                spelled = begins_is (tests_sign s) ts y ∙ ap (λ (l : List Token). Mark s ∷ l) t.spelled;
                size = t.size;
                within = (fits_level, t.within);
                past = t.past;
                only = λ other. opened_is (Mark s ∷ (tokens_of t.prefix ++ t.over.0 ∷ other)) (tests_sign s).same ∙ t.only other;
              }
          | inr y ↦ absurd (let no : stray {A = B × List Token} ts ≡ Err (Deep k) = sym (ap (λ read. read >>= λ o. r o.0 o.1) (open_fails s (suc n) ts y)) ∙ h in cc)
        ]

  -- a bracket inside d others, where room more may open
  pub Reads-open : (room : ℕ) → room + d ≡ 64 → ((n : ℕ) → room ≡ suc n → Reads P m e (r n)) → Reads P (λ b. (Mark s, d + 1) ∷ m b) e (λ ts. open_at s room ts >>= λ o. r o.0 o.1)
  Reads-open zero sum R =
      let full : d ≡ 64 = omega arith in
      let over : nat_lt 64 (d + 1) ≡ true = lt-ltb 64 (d + 1) (omega arith) in
      record {
        takes = none_takes full;
        again = λ b k p h. ap (λ read. read >>= λ o. r o.0 o.1) (open_none s (Mark s ∷ (tokens_of (m b) ++ k)) (tests_sign s).same) ∙ rw over refl;
        strays = none_strays;
        deeps = none_deeps full;
      }
  Reads-open (suc n) sum R =
      let free : d < 64 = omega arith in
      let one = R n refl in
      let low : nat_lt 64 (d + 1) ≡ false = le-ltb 64 (d + 1) (omega arith) in
      record {
        takes = some_takes n free one;
        again = λ b k p h. opened_is n free one (Mark s ∷ (tokens_of (m b) ++ k)) (tests_sign s).same ∙ (one.again b k p h ∙ rw low refl);
        strays = some_strays n free one;
        deeps = some_deeps n free one;
      }
