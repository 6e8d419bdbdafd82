-- Reading all of the tokens, by the laws.
use Rattle.std.proofs.Common.{◌≡◌, ℕ, Bool, true, cond, List, [], ◌∷◌, ◌++◌, length, Option, None, Ok, Err, refl, sym, ap, subst, ◌∙◌, arith, inl, inr, eqb}
use Rattle.std.proofs.lemmas.List.{append-nil}
use Rattle.std.proofs.lemmas.Bool.{eqb-true}
use Rattle.gb_script.specs.declared.token_fault.Fault.TheVariants.{Stray, Deep}
use Rattle.gb_script.specs.declared.token.Token.{Token}
use Rattle.gb_script.specs.Grammar.{Leveled, tokens_of}
use Rattle.gb_script.specs.Verdict.{is_over, AllWithin, IsFirstStray, IsFirstDeep}
use Rattle.gb_script.specs.Reading.{Reader, ◌>>=◌, stray, deep, all_at}
use Rattle.gb_script.proofs.Runs.{cases_bool}
use Rattle.gb_script.proofs.Readers.{Reads, first, checked, checked-within, ok_is, done, bind_ok, bind_err}

-- the first stray token is the one with n from it on
pub record StrayAt {A : Type 0} (Is : A → Type 0) (spelled : A → List Leveled) (ts : List Token) (n : ℕ) : Type 0 where
  pub before : List Token
  pub bad : List Token
  pub parts : ts ≡ before ++ bad
  pub left : n ≡ length bad
  pub first : IsFirstStray Is spelled before bad

-- the first token past a limit is the one with n from it on
pub record DeepAt {A : Type 0} (Is : A → Type 0) (spelled : A → List Leveled) (read : Reader A) (ts : List Token) (n : ℕ) : Type 0 where
  pub before : List Token
  pub over : Token
  pub rest : List Token
  pub parts : ts ≡ before ++ over ∷ rest
  pub left : n ≡ length (over ∷ rest)
  pub first : IsFirstDeep Is spelled before (over ∷ rest)
  -- whatever comes after it
  pub only : (other : List Token) → all_at read (before ++ over ∷ other) ≡ Err (Deep (length (over ∷ other)))

nil_all : (ts : List Token) → length ts ≡ 0 → ts ≡ []
nil_all [] h = refl
nil_all (t ∷ ts) h = absurd (omega arith)

pub checked_never_stray : {B : Type 0} (ms : List Leveled) (k : List Token) (y : B) (n : ℕ) → checked ms k (Ok y) ≡ Err (Stray n) → ⊥
checked_never_stray [] k y n h = absurd cc
checked_never_stray {B} (m ∷ ms) k y n h =
    elim (cases_bool (is_over m)) [
      | inl o ↦ absurd (let no : deep {A = B} (m.0 ∷ (tokens_of ms ++ k)) ≡ Err (Stray n) = rw o at h in cc)
      | inr o ↦ checked_never_stray ms k y n (rw o at h)
    ]

pub checked_ok : {B : Type 0} (ms : List Leveled) (k : List Token) (y z : B) → checked ms k (Ok y) ≡ Ok z → y ≡ z
checked_ok [] k y z h = ok_is y z h
checked_ok {B} (m ∷ ms) k y z h =
    elim (cases_bool (is_over m)) [
      | inl o ↦ absurd (let no : deep {A = B} (m.0 ∷ (tokens_of ms ++ k)) ≡ Ok z = rw o at h in cc)
      | inr o ↦ checked_ok ms k y z (rw o at h)
    ]

module _ {A : Type 0} {P : A → Type 0} {m : A → List Leveled} {e : A → Option Token → Bool} {r : Reader A} (R : Reads P m e r) (ends_text : (a : A) → P a → e a None ≡ true) where
  pub again_all : (a : A) (ts : List Token) → P a → tokens_of (m a) ≡ ts → r ts ≡ checked (m a) [] (Ok (a, []))
  again_all a ts p at = ap r (sym at ∙ sym (append-nil (tokens_of (m a)))) ∙ R.again a [] p (ends_text a p)

  pub all_stray : (ts : List Token) (n : ℕ) → all_at r ts ≡ Err (Stray n) → StrayAt P m ts n
  unfolding all_at
  all_stray ts n h =
      elim (bind_err (r ts) (λ x. cond (eqb (length x.1) 0) (Ok x.0) (stray x.1)) (Stray n) h) [
        | inl f ↦
            let s = R.strays ts n f in
            record {
              before = tokens_of s.prefix;
              bad = s.bad;
              parts = s.spelled;
              left = s.size;
              first = record {
                begun = record { value = s.value; is = s.fits; prefix = s.prefix; more = s.more; whole = s.whole; tokens = refl; within = s.within };
                none = λ b rest at a other p same. checked_never_stray (m a) [] (a, []) (length (b ∷ other)) (sym (again_all a (tokens_of s.prefix ++ b ∷ other) p same) ∙ s.only b rest other at);
                short = λ at a p same. checked_never_stray (m a) [] (a, []) n (sym (again_all a ts p (same ∙ sym (s.spelled ∙ ap (λ (l : List Token). tokens_of s.prefix ++ l) at ∙ append-nil (tokens_of s.prefix)))) ∙ f);
              };
            }
        | inr x ↦
            let a0 = x.0.0 in
            let t = R.takes ts x.0.1 a0 x.1 in
            let size : n ≡ length x.0.1 = stray_left x.0 n x.2 in
            let some : x.0.1 ≡ [] → ⊥ = stray_some x.0 n x.2 in
            record {
              before = tokens_of (m a0);
              bad = x.0.1;
              parts = t.spelled;
              left = size;
              first = record {
                begun = record { value = a0; is = t.fits; prefix = m a0; more = []; whole = sym (append-nil (m a0)); tokens = refl; within = t.within };
                none = λ b rest at a other p same.
                    let one = R.again a0 (b ∷ other) t.fits (ap (λ (l : List Token). e a0 (first l)) (sym at) ∙ t.ends_there) ∙ checked-within (m a0) (b ∷ other) (Ok (a0, b ∷ other)) t.within in
                    let two = sym (again_all a (tokens_of (m a0) ++ b ∷ other) p same) ∙ one in
                    let no : [] ≡ b ∷ other = ap (λ (x : A × List Token). x.1) (checked_ok (m a) [] (a, []) (a0, b ∷ other) two) in
                    absurd cc;
                short = λ at a p same. absurd (some at);
              };
            }
      ]
    where
      stray_left : (x : A × List Token) (n : ℕ) → cond (eqb (length x.1) 0) (Ok x.0) (stray x.1) ≡ Err (Stray n) → n ≡ length x.1
      stray_left x n h =
          elim (cases_bool (eqb (length x.1) 0)) [
            | inl y ↦ absurd (let no : done x.0 ≡ Err (Stray n) = rw y at h in cc)
            | inr y ↦ (let e : stray {A = A} x.1 ≡ Err (Stray n) = rw y at h in cc)
          ]

      stray_some : (x : A × List Token) (n : ℕ) → cond (eqb (length x.1) 0) (Ok x.0) (stray x.1) ≡ Err (Stray n) → x.1 ≡ [] → ⊥
      stray_some x n h nil = absurd (let no : done x.0 ≡ Err (Stray n) = rw nil at h in cc)

  pub all_deep : (ts : List Token) (n : ℕ) → all_at r ts ≡ Err (Deep n) → DeepAt P m r ts n
  unfolding all_at
  all_deep ts n h =
      elim (bind_err (r ts) (λ x. cond (eqb (length x.1) 0) (Ok x.0) (stray x.1)) (Deep n) h) [
        | inl f ↦
            let s = R.deeps ts n f in
            record {
              before = tokens_of s.prefix;
              over = s.over.0;
              rest = s.rest;
              parts = s.spelled;
              left = s.size;
              first = record { value = s.value; is = s.fits; prefix = s.prefix; over = s.over; more = s.more; rest = s.rest; whole = s.whole; tokens = refl; within = s.within; past = s.past; bad_is = refl };
              only = λ other. ap (λ read. read >>= λ x. cond (eqb (length x.1) 0) (Ok x.0) (stray x.1)) (s.only other);
            }
        | inr x ↦ absurd (never x.0 x.2)
      ]
    where
      never : (x : A × List Token) → cond (eqb (length x.1) 0) (Ok x.0) (stray x.1) ≡ Err (Deep n) → ⊥
      never x h =
          elim (cases_bool (eqb (length x.1) 0)) [
            | inl y ↦ absurd (let no : done x.0 ≡ Err (Deep n) = rw y at h in cc)
            | inr y ↦ absurd (let no : stray {A = A} x.1 ≡ Err (Deep n) = rw y at h in cc)
          ]

  pub all_found : (ts : List Token) (a : A) → all_at r ts ≡ Ok a → P a × (ts ≡ tokens_of (m a)) × AllWithin (m a)
  unfolding all_at
  all_found ts a h =
      let x = bind_ok (r ts) (λ x. cond (eqb (length x.1) 0) (Ok x.0) (stray x.1)) a h in
      let t = R.takes ts x.0.1 x.0.0 x.1 in
      elim (cases_bool (eqb (length x.0.1) 0)) [
        | inl y ↦
            let same : x.0.0 ≡ a = ok_is x.0.0 a (rw y at x.2) in
            let nil : x.0.1 ≡ [] = nil_all x.0.1 (eqb-true (length x.0.1) 0 y) in
            let spelled : ts ≡ tokens_of (m x.0.0) = t.spelled ∙ ap (λ (l : List Token). tokens_of (m x.0.0) ++ l) nil ∙ append-nil (tokens_of (m x.0.0)) in
            subst (λ (b : A). P b × (ts ≡ tokens_of (m b)) × AllWithin (m b)) same (t.fits, spelled, t.within)
        | inr y ↦ absurd (let no : stray {A = A} x.0.1 ≡ Ok a = rw y at x.2 in cc)
      ]

  pub all_again : (ts : List Token) (a : A) → P a → ts ≡ tokens_of (m a) → AllWithin (m a) → all_at r ts ≡ Ok a
  unfolding all_at
  all_again ts a p at within =
      ap (λ read. read >>= λ x. cond (eqb (length x.1) 0) (Ok x.0) (stray x.1)) (again_all a ts p (sym at) ∙ checked-within (m a) [] (Ok (a, [])) within)
