-- Readers combined from others, by their laws.
use Rattle.std.proofs.Common.{◌≡◌, ℕ, suc, ◌+◌, Bool, true, false, cond, not, List, [], ◌∷◌, ◌++◌, Option, Some, Ok, Err, refl, sym, ap, subst, ◌∙◌, ◌⊎◌, inl, inr}
use Rattle.std.specs.Prelude.{◌&&◌}
use Rattle.std.proofs.lemmas.List.{append-nil}
use Rattle.gb_script.specs.declared.token.Sign.{Sign}
use Rattle.gb_script.specs.declared.token.Token.{Token}
use Rattle.gb_script.specs.declared.token.Token.TheVariants.{Word, Mark}
use Rattle.gb_script.specs.declared.token_fault.Fault.TheVariants.{Stray, Deep}
use Rattle.gb_script.specs.Lexing.{begins}
use Rattle.gb_script.specs.Grammar.{Leveled, tokens_of, said_tokens}
use Rattle.gb_script.specs.Reading.{Reader, ◌>>=◌, is_word, skip_at, maybe_at, past_at, pair_at, made_at, closed_at, opened_at, said_at}
use Rattle.gb_script.proofs.Runs.{cases_bool}
use Rattle.gb_script.proofs.Readers.{Reads, Taken, StrayIn, DeepIn, always, first_or, Reads-done, Reads-bind}
use Rattle.gb_script.proofs.Singles.{IsTestOf, tests_word, Reads-skip, IsAny, begins_prefix}
use Rattle.gb_script.proofs.Opens.{Reads-open}
use Rattle.gb_script.proofs.Maybe.{stops, Begun, begun_begins, Reads-maybe}
use Rattle.gb_script.proofs.Many.{both_true, and_true}

-- ---- another name for the same reader

module _ {A : Type 0} {P : A → Type 0} {m : A → List Leveled} {e : A → Option Token → Bool} {r : Reader A} (R : Reads P m e r) (s : Reader A) (same : (ts : List Token) → s ts ≡ r ts) where
  pub Reads-same : Reads P m e s
  Reads-same = record {
    takes = λ ts rest a h. R.takes ts rest a (sym (same ts) ∙ h);
    again = λ a k p h. same (tokens_of (m a) ++ k) ∙ R.again a k p h;
    strays = λ ts n h.
        let t = R.strays ts n (sym (same ts) ∙ h) in
        record { value = t.value; fits = t.fits; prefix = t.prefix; more = t.more; bad = t.bad; whole = t.whole; spelled = t.spelled; size = t.size; within = t.within; only = λ b rest other at. same (tokens_of t.prefix ++ b ∷ other) ∙ t.only b rest other at };
    deeps = λ ts n h.
        let t = R.deeps ts n (sym (same ts) ∙ h) in
        record { value = t.value; fits = t.fits; prefix = t.prefix; over = t.over; more = t.more; rest = t.rest; whole = t.whole; spelled = t.spelled; size = t.size; within = t.within; past = t.past; only = λ other. same (tokens_of t.prefix ++ t.over.0 ∷ other) ∙ t.only other };
  }

-- ---- a value made of what is read

module _ {A B : Type 0} {P : A → Type 0} {m : A → List Leveled} {e : A → Option Token → Bool} {r : Reader A} (R : Reads P m e r) (f : A → B)
    (Q : B → Type 0) (marks : B → List Leveled) (ends : B → Option Token → Bool)
    (split : (b : B) → Q b → (a : A) × (b ≡ f a) × P a) (join : (a : A) → P a → Q (f a))
    (marks-is : (a : A) → P a → marks (f a) ≡ m a) (ends-is : (a : A) (o : Option Token) → P a → ends (f a) o ≡ e a o) where
  pub Reads-into : Reads Q marks ends (made_at f r)
  Reads-into =
      Reads-bind {r2 = λ a ts. Ok (f a, ts)} R (λ a p. Reads-done (f a))
      (λ a p. (f a, refl))
      Q marks ends
      (λ b q. let s = split b q in (s.0, s.2, s.1))
      (λ a b p q. subst Q (sym q) (join a p))
      (λ a b p q. ap marks q ∙ marks-is a p ∙ sym (append-nil (m a)))
      (λ a b o p q h. (sym (ends-is a o p) ∙ ap (λ (x : B). ends x o) (sym q) ∙ h, refl))
      (λ a b o p q h g. ap (λ (x : B). ends x o) q ∙ ends-is a o p ∙ h)

-- ---- two, one after the other

module _ {A B : Type 0} {FitsFirst : A → Type 0} {m1 : A → List Leveled} {e1 : A → Option Token → Bool} {r1 : Reader A}
    {FitsSecond : B → Type 0} {m2 : B → List Leveled} {e2 : B → Option Token → Bool} {r2 : Reader B}
    (reads_first : Reads FitsFirst m1 e1 r1) (reads_second : Reads FitsSecond m2 e2 r2) (some : (b : B) × FitsSecond b) where
  abbrev pub ArePair : A × B → Type 0
  ArePair x = FitsFirst x.0 × FitsSecond x.1

  abbrev pub pair_marks : A × B → List Leveled
  pair_marks x = m1 x.0 ++ m2 x.1

  abbrev pub pair_ends : A × B → Option Token → Bool
  pair_ends x o = e1 x.0 (first_or (m2 x.1) o) && e2 x.1 o

  abbrev IsWith : A → A × B → Type 0
  IsWith a x = (x.0 ≡ a) × FitsSecond x.1

  abbrev with_first : A → B → A × B
  with_first a b = (a, b)

  Reads-second : (a : A) → Reads (IsWith a) (λ x. m2 x.1) (λ x. e2 x.1) (made_at (with_first a) r2)
  Reads-second a =
      Reads-into reads_second (with_first a) (IsWith a) (λ x. m2 x.1) (λ x. e2 x.1)
      (λ x q. (x.1, ap (λ (z : A). with_first z x.1) q.0, q.1))
      (λ b p. (refl, p))
      (λ b p. refl) (λ b o p. refl)

  pub Reads-pair : Reads ArePair pair_marks pair_ends (pair_at r1 r2)
  Reads-pair =
      Reads-bind {r2 = λ a. made_at (with_first a) r2} reads_first (λ a p. Reads-second a)
      (λ a p. (with_first a some.0, (refl, some.1)))
      ArePair pair_marks pair_ends
      (λ x p. (x.0, p.0, (refl, p.1)))
      (λ a x p q. (subst FitsFirst (sym q.0) p, q.1))
      (λ a x p q. ap (λ (z : A). m1 z ++ m2 x.1) q.0)
      (λ a x o p q h. let t = both_true (e1 x.0 (first_or (m2 x.1) o)) (e2 x.1 o) h in (ap (λ (z : A). e1 z (first_or (m2 x.1) o)) (sym q.0) ∙ t.0, t.1))
      (λ a x o p q h g. and_true (e1 x.0 (first_or (m2 x.1) o)) (e2 x.1 o) (ap (λ (z : A). e1 z (first_or (m2 x.1) o)) q.0 ∙ h) g)

-- ---- a token before it, or after it

module _ {A : Type 0} {P : A → Type 0} {m : A → List Leveled} {e : A → Option Token → Bool} {r : Reader A} {test : Token → Bool} {t : Token} (T : IsTestOf test t) (R : Reads P m e r) where
  pub Reads-past : (a : A) × P a → Reads P (λ a. (t, 0) ∷ m a) e (past_at test r)
  unfolding past_at
  Reads-past some = Reads-skip T R some

  abbrev closed_marks : A → List Leveled
  closed_marks a = m a ++ (t, 0) ∷ []

  -- the token ends it
  pub Reads-closed : ((a : A) → P a → e a (Some t) ≡ true) → Reads P closed_marks always (closed_at test r)
  Reads-closed closes =
      Reads-bind {r2 = λ a ts. skip_at test ts >>= λ rest. Ok (a, rest)} R (λ a p. Reads-skip T (Reads-done a) (a, refl))
      (λ a p. (a, refl))
      P closed_marks always
      (λ b p. (b, p, refl))
      (λ a b p q. subst P (sym q) p)
      (λ a b p q. ap closed_marks q)
      (λ a b o p q h. (closes a p, refl))
      (λ a b o p q h g. refl)

-- ---- after a bracket that opens inside d others, where room more may open

pub Reads-opened : {A : Type 0} {P : A → Type 0} {m : A → List Leveled} {e : A → Option Token → Bool} (r : ℕ → Reader A) (s : Sign) (room d : ℕ) → room + d ≡ 64 → (a : A) × P a → ((n : ℕ) → room ≡ suc n → Reads P m e (r n)) → Reads P (λ a. (Mark s, d + 1) ∷ m a) e (opened_at s room r)
Reads-opened {P} {m} {e} r s room d sum some R = Reads-open P m e r s d some room sum R

-- ---- one or the other, by the first token

module _ {A : Type 0} {FitsFirst FitsSecond : A → Type 0} {m : A → List Leveled} {e : A → Option Token → Bool} {r1 r2 : Reader A} (test : Token → Bool) (reads_first : Reads FitsFirst m e r1) (reads_second : Reads FitsSecond m e r2)
    (begun1 : (a : A) → FitsFirst a → Begun test (m a)) (begun2 : (a : A) → FitsSecond a → Begun (λ t. not (test t)) (m a)) where
  abbrev pub either_at : Reader A
  either_at ts = cond (begins test ts) (r1 ts) (r2 ts)

  abbrev pub IsEither : A → Type 0
  IsEither a = FitsFirst a ⊎ FitsSecond a

  one : (ts : List Token) → begins test ts ≡ true → either_at ts ≡ r1 ts
  one ts h = rw h refl

  other_one : (ts : List Token) → begins test ts ≡ false → either_at ts ≡ r2 ts
  other_one ts h = rw h refl

  not_begun : (a : A) (k : List Token) → FitsSecond a → begins test (tokens_of (m a) ++ k) ≡ false
  not_begun a k p =
      let b = begun2 a p in
      ap (λ (l : List Leveled). begins test (tokens_of l ++ k)) b.whole ∙ not_true (test b.head.0) b.passes
    where
      not_true : (x : Bool) → not x ≡ true → x ≡ false
      not_true true h = absurd cc
      not_true false h = refl

  either_strays : (ts : List Token) (n : ℕ) → either_at ts ≡ Err (Stray n) → StrayIn IsEither m either_at ts n
  either_strays ts n h =
      elim (cases_bool (begins test ts)) [
        | inl y ↦
            let s = reads_first.strays ts n (sym (one ts y) ∙ h) in
            record {
              value = s.value;
              fits = inl s.fits;
              prefix = s.prefix;
              more = s.more;
              bad = s.bad;
              whole = s.whole;
              spelled = s.spelled;
              size = s.size;
              within = s.within;
              only = λ b rest other at.
                  one (tokens_of s.prefix ++ b ∷ other) (begins_prefix test s.prefix b other rest ∙ ap (begins test) (sym (s.spelled ∙ ap (λ (l : List Token). tokens_of s.prefix ++ l) at)) ∙ y)
                  ∙ s.only b rest other at;
            }
        | inr y ↦
            let s = reads_second.strays ts n (sym (other_one ts y) ∙ h) in
            record {
              value = s.value;
              fits = inr s.fits;
              prefix = s.prefix;
              more = s.more;
              bad = s.bad;
              whole = s.whole;
              spelled = s.spelled;
              size = s.size;
              within = s.within;
              only = λ b rest other at.
                  other_one (tokens_of s.prefix ++ b ∷ other) (begins_prefix test s.prefix b other rest ∙ ap (begins test) (sym (s.spelled ∙ ap (λ (l : List Token). tokens_of s.prefix ++ l) at)) ∙ y)
                  ∙ s.only b rest other at;
            }
      ]

  either_deeps : (ts : List Token) (n : ℕ) → either_at ts ≡ Err (Deep n) → DeepIn IsEither m either_at ts n
  either_deeps ts n h =
      elim (cases_bool (begins test ts)) [
        | inl y ↦
            let s = reads_first.deeps ts n (sym (one ts y) ∙ h) in
            record {
              value = s.value;
              fits = inl s.fits;
              prefix = s.prefix;
              over = s.over;
              more = s.more;
              rest = s.rest;
              whole = s.whole;
              spelled = s.spelled;
              size = s.size;
              within = s.within;
              past = s.past;
              only = λ other. one (tokens_of s.prefix ++ s.over.0 ∷ other) (begins_prefix test s.prefix s.over.0 other s.rest ∙ ap (begins test) (sym s.spelled) ∙ y) ∙ s.only other;
            }
        | inr y ↦
            let s = reads_second.deeps ts n (sym (other_one ts y) ∙ h) in
            record {
              value = s.value;
              fits = inr s.fits;
              prefix = s.prefix;
              over = s.over;
              more = s.more;
              rest = s.rest;
              whole = s.whole;
              spelled = s.spelled;
              size = s.size;
              within = s.within;
              past = s.past;
              only = λ other. other_one (tokens_of s.prefix ++ s.over.0 ∷ other) (begins_prefix test s.prefix s.over.0 other s.rest ∙ ap (begins test) (sym s.spelled) ∙ y) ∙ s.only other;
            }
      ]

  either_takes : (ts rest : List Token) (a : A) → either_at ts ≡ Ok (a, rest) → Taken IsEither m e ts a rest
  either_takes ts rest a h =
      elim (cases_bool (begins test ts)) [
        | inl y ↦ (let t = reads_first.takes ts rest a (sym (one ts y) ∙ h) in record { fits = inl t.fits; spelled = t.spelled; within = t.within; ends_there = t.ends_there })
        | inr y ↦ (let t = reads_second.takes ts rest a (sym (other_one ts y) ∙ h) in record { fits = inr t.fits; spelled = t.spelled; within = t.within; ends_there = t.ends_there })
      ]

  pub Reads-either : Reads IsEither m e either_at
  Reads-either = record {
    takes = either_takes;
    again = λ a k q h.
        elim q [
          | inl p ↦ one (tokens_of (m a) ++ k) (begun_begins test (m a) k (begun1 a p)) ∙ reads_first.again a k p h
          | inr p ↦ other_one (tokens_of (m a) ++ k) (not_begun a k p) ∙ reads_second.again a k p h
        ];
    strays = either_strays;
    deeps = either_deeps;
  }

-- ---- a word that is present or absent

abbrev pub said_end : List ℕ → Bool → Option Token → Bool
said_end w true o = true
said_end w false o = stops (is_word w) o

said_either : (x : Bool) → (x ≡ false) ⊎ (x ≡ true)
said_either true = inr refl
said_either false = inl refl

abbrev said_true : List ℕ → Reader Bool
said_true w ts = skip_at (is_word w) ts >>= λ rest. Ok (true, rest)

said_is : (w : List ℕ) (ts : List Token) → said_at w ts ≡ maybe_at (is_word w) (said_true w) false ts
unfolding said_at maybe_at skip_at
said_is w ts =
    elim (cases_bool (begins (is_word w) ts)) [
      | inl y ↦ rw y refl
      | inr y ↦ rw y refl
    ]

pub Reads-said : (w : List ℕ) → Reads IsAny (said_tokens w) (said_end w) (said_at w)
Reads-said w =
    Reads-same
    (Reads-maybe (is_word w) (Reads-skip (tests_word w) (Reads-done true) (true, refl)) false
    IsAny (said_tokens w) (said_end w)
    (λ a p. record { head = (Word w, 0); tail = []; whole = refl; passes = (tests_word w).same })
    (λ a p. said_either a)
    tt (λ a p. tt)
    refl (λ a p. ap (said_tokens w) p)
    (λ o. refl) (λ a o p. ap (λ (x : Bool). said_end w x o) p))
    (said_at w) (said_is w)
