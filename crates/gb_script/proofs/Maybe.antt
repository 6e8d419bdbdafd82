-- A reader of what may be absent, by its laws.
use Rattle.std.proofs.Common.{◌≡◌, ℕ, Bool, true, false, not, List, [], ◌∷◌, ◌++◌, Option, Some, None, Result, Ok, Err, refl, sym, ap, subst, ◌∙◌, ◌⊎◌, inl, inr}
use Rattle.gb_script.specs.declared.token.Token.{Token}
use Rattle.gb_script.specs.declared.token_fault.Fault.{Fault}
use Rattle.gb_script.specs.declared.token_fault.Fault.TheVariants.{Stray, Deep}
use Rattle.gb_script.specs.Lexing.{begins}
use Rattle.gb_script.specs.Grammar.{Leveled, tokens_of}
use Rattle.gb_script.specs.Verdict.{AllWithin}
use Rattle.gb_script.specs.Reading.{Reader, maybe_at}
use Rattle.gb_script.proofs.Runs.{cases_bool}
use Rattle.gb_script.proofs.Readers.{Reads, Taken, StrayIn, DeepIn, first, checked, ok_is}
use Rattle.gb_script.proofs.Singles.{begins_prefix}

-- the next token fails the test, or there is none
abbrev pub stops : (Token → Bool) → Option Token → Bool
stops test None = true
stops test (Some t) = not (test t)

pub stops_is : (test : Token → Bool) (ts : List Token) → stops test (first ts) ≡ true → begins test ts ≡ false
stops_is test [] h = refl
stops_is test (t ∷ ts) h =
    elim (cases_bool (test t)) [ inl y ↦ absurd (let no : false ≡ true = rw y at h in cc) | inr y ↦ y ]

pub is_stop : (test : Token → Bool) (ts : List Token) → begins test ts ≡ false → stops test (first ts) ≡ true
is_stop test [] h = refl
is_stop test (t ∷ ts) h = rw h refl

-- the first of these passes the test
pub record Begun (test : Token → Bool) (marks : List Leveled) : Type 0 where
  pub head : Leveled
  pub tail : List Leveled
  pub whole : marks ≡ head ∷ tail
  pub passes : test head.0 ≡ true

pub begun_begins : (test : Token → Bool) (marks : List Leveled) (k : List Token) → Begun test marks → begins test (tokens_of marks ++ k) ≡ true
begun_begins test marks k b = ap (λ (l : List Leveled). begins test (tokens_of l ++ k)) b.whole ∙ b.passes

module _ {A : Type 0} {P : A → Type 0} {m : A → List Leveled} {e : A → Option Token → Bool} {r : Reader A} (test : Token → Bool) (R : Reads P m e r) (none : A)
    (Q : A → Type 0) (marks : A → List Leveled) (ends : A → Option Token → Bool)
    (begun : (a : A) → P a → Begun test (m a))
    (cases : (a : A) → Q a → (a ≡ none) ⊎ P a)
    (is-none : Q none) (is-some : (a : A) → P a → Q a)
    (marks-none : marks none ≡ []) (marks-some : (a : A) → P a → marks a ≡ m a)
    (ends-none : (o : Option Token) → ends none o ≡ stops test o) (ends-some : (a : A) (o : Option Token) → P a → ends a o ≡ e a o) where
  abbrev whole : Reader A
  whole ts = maybe_at test r none ts

  abbrev nothing : List Token → Result (A × List Token) Fault
  nothing ts = Ok (none, ts)

  present : (ts : List Token) → begins test ts ≡ true → whole ts ≡ r ts
  unfolding maybe_at
  present ts h = rw h refl

  missing : (ts : List Token) → begins test ts ≡ false → whole ts ≡ Ok (none, ts)
  unfolding maybe_at
  missing ts h = rw h refl

  maybe_takes : (ts rest : List Token) (a : A) → whole ts ≡ Ok (a, rest) → Taken Q marks ends ts a rest
  maybe_takes ts rest a h =
      elim (cases_bool (begins test ts)) [
        | inl y ↦
            let t = R.takes ts rest a (sym (present ts y) ∙ h) in
            let s = marks-some a t.fits in
            record {
              fits = is-some a t.fits;
              spelled = t.spelled ∙ ap (λ (l : List Leveled). tokens_of l ++ rest) (sym s);
              within = subst AllWithin (sym s) t.within;
              ends_there = ends-some a (first rest) t.fits ∙ t.ends_there;
            }
        | inr y ↦
            let same : (none, ts) ≡ (a, rest) = ok_is (none, ts) (a, rest) (sym (missing ts y) ∙ h) in
            subst (λ (z : A × List Token). Taken Q marks ends ts z.0 z.1) same
            (record {
              fits = is-none;
              spelled = ap (λ (l : List Leveled). tokens_of l ++ ts) (sym marks-none);
              within = subst AllWithin (sym marks-none) tt;
              ends_there = ends-none (first ts) ∙ is_stop test ts y;
            })
      ]

  none_again : (a : A) (k : List Token) → a ≡ none → ends a (first k) ≡ true → whole (tokens_of (marks a) ++ k) ≡ checked (marks a) k (Ok (a, k))
  none_again a k n h =
      let s : marks a ≡ [] = ap marks n ∙ marks-none in
      let stop : begins test k ≡ false = stops_is test k (sym (ends-none (first k)) ∙ ap (λ (x : A). ends x (first k)) (sym n) ∙ h) in
      ap (λ (l : List Leveled). whole (tokens_of l ++ k)) s
      ∙ missing k stop
      ∙ ap (λ (x : A). Ok (x, k)) (sym n)
      ∙ ap (λ (l : List Leveled). checked l k (Ok (a, k))) (sym s)

  some_again : (a : A) (k : List Token) → P a → ends a (first k) ≡ true → whole (tokens_of (marks a) ++ k) ≡ checked (marks a) k (Ok (a, k))
  some_again a k p h =
      let s = marks-some a p in
      ap (λ (l : List Leveled). whole (tokens_of l ++ k)) s
      ∙ present (tokens_of (m a) ++ k) (begun_begins test (m a) k (begun a p))
      ∙ R.again a k p (sym (ends-some a (first k) p) ∙ h)
      ∙ ap (λ (l : List Leveled). checked l k (Ok (a, k))) (sym s)

  maybe_strays : (ts : List Token) (n : ℕ) → whole ts ≡ Err (Stray n) → StrayIn Q marks whole ts n
  maybe_strays ts n h =
      elim (cases_bool (begins test ts)) [
        | inl y ↦
            let s = R.strays ts n (sym (present ts y) ∙ h) in
            record {
              value = s.value;
              fits = is-some s.value s.fits;
              prefix = s.prefix;
              more = s.more;
              bad = s.bad;
              whole = marks-some s.value s.fits ∙ s.whole;
              spelled = s.spelled;
              size = s.size;
              within = s.within;
              only = λ b rest other at.
                  present (tokens_of s.prefix ++ b ∷ other) (begins_prefix test s.prefix b other rest ∙ ap (begins test) (sym (s.spelled ∙ ap (λ (l : List Token). tokens_of s.prefix ++ l) at)) ∙ y)
                  ∙ s.only b rest other at;
            }
        | inr y ↦ absurd (let no : nothing ts ≡ Err (Stray n) = sym (missing ts y) ∙ h in cc)
      ]

  maybe_deeps : (ts : List Token) (n : ℕ) → whole ts ≡ Err (Deep n) → DeepIn Q marks whole ts n
  maybe_deeps ts n h =
      elim (cases_bool (begins test ts)) [
        | inl y ↦
            let s = R.deeps ts n (sym (present ts y) ∙ h) in
            record {
              value = s.value;
              fits = is-some s.value s.fits;
              prefix = s.prefix;
              over = s.over;
              more = s.more;
              rest = s.rest;
              whole = marks-some s.value s.fits ∙ s.whole;
              spelled = s.spelled;
              size = s.size;
              within = s.within;
              past = s.past;
              only = λ other. present (tokens_of s.prefix ++ s.over.0 ∷ other) (begins_prefix test s.prefix s.over.0 other s.rest ∙ ap (begins test) (sym s.spelled) ∙ y) ∙ s.only other;
            }
        | inr y ↦ absurd (let no : nothing ts ≡ Err (Deep n) = sym (missing ts y) ∙ h in cc)
      ]

  pub Reads-maybe : Reads Q marks ends (λ ts. maybe_at test r none ts)
  Reads-maybe = record {
    takes = maybe_takes;
    again = λ a k q h. elim (cases a q) [ inl n ↦ none_again a k n h | inr p ↦ some_again a k p h ];
    strays = maybe_strays;
    deeps = maybe_deeps;
  }
