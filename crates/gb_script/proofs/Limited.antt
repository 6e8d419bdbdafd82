-- At most 64 steps, each after a dot that has the number of the step, are read by the laws.
use Rattle.std.proofs.Common.{◌≡◌, ℕ, zero, suc, ◌+◌, ◌≤◌, Bool, true, false, List, [], ◌∷◌, ◌++◌, length, Option, Result, Ok, Err, refl, sym, ap, subst, ◌∙◌, arith, ◌⊎◌, inl, inr}
use Rattle.std.specs.Prelude.{nat_lt, drop}
use Rattle.std.specs.List.{AllByRecursion}
use Rattle.std.proofs.lemmas.Bool.{lt-ltb}
use Rattle.gb_script.specs.declared.token.Sign.TheVariants.{Dot}
use Rattle.gb_script.specs.declared.token.Token.{Token}
use Rattle.gb_script.specs.declared.token.Token.TheVariants.{Mark}
use Rattle.gb_script.specs.declared.token_fault.Fault.{Fault}
use Rattle.gb_script.specs.declared.token_fault.Fault.TheVariants.{Stray, Deep}
use Rattle.gb_script.specs.Lexing.{begins}
use Rattle.gb_script.specs.Grammar.{Leveled, tokens_of}
use Rattle.gb_script.specs.Reading.{Reader, ◌>>=◌, deep, is_sign, maybe_at, many_at, no_matter}
use Rattle.gb_script.proofs.Runs.{cases_bool}
use Rattle.gb_script.proofs.Readers.{Reads, Taken, DeepIn, always, first, checked, ok_is, Reads-bind}
use Rattle.gb_script.proofs.Singles.{tests_sign, begins_is}
use Rattle.gb_script.proofs.Maybe.{stops, stops_is, is_stop, Begun, Reads-maybe}
use Rattle.gb_script.proofs.Loop.{none_left}
use Rattle.gb_script.proofs.Combined.{Reads-into}

-- the token after a chain is not a dot
abbrev pub no_dot : Option Token → Bool
no_dot o = stops (is_sign Dot) o

module _ {A : Type 0} {P : A → Type 0} (m : A → List Leveled) {r : Reader A} (R : (n : ℕ) → n ≤ 64 → Reads P (λ a. (Mark Dot, n) ∷ m a) always r) (some : (a : A) × P a) where
  abbrev steps : ℕ → Reader (List A)
  steps k ts = many_at (is_sign Dot) no_matter (λ s. r) k tt ts

  -- the steps from the n-th on
  abbrev pub chain_marks : ℕ → List A → List Leveled
  chain_marks n [] = []
  chain_marks n (x ∷ xs) = (Mark Dot, n) ∷ m x ++ chain_marks (n + 1) xs

  abbrev pub AreSteps : List A → Type 0
  AreSteps xs = AllByRecursion P xs

  -- at least one
  abbrev AreMore : List A → Type 0
  AreMore [] = ⊥
  AreMore (x ∷ xs) = P x × AreSteps xs

  abbrev none_read : List Token → Result (List A × List Token) Fault
  none_read ts = Ok ([], ts)

  -- ---- no step may follow

  full_deep : (ts : List Token) → begins (is_sign Dot) ts ≡ true → steps zero ts ≡ deep ts
  unfolding many_at
  full_deep ts h = rw h refl

  full_none : (ts : List Token) → begins (is_sign Dot) ts ≡ false → steps zero ts ≡ Ok ([], ts)
  full_none ts h = none_left (is_sign Dot) no_matter (λ s. r) zero tt ts h

  full_takes : (n : ℕ) (ts rest : List Token) (xs : List A) → steps zero ts ≡ Ok (xs, rest) → Taken AreSteps (chain_marks n) (λ xs. no_dot) ts xs rest
  full_takes n ts rest xs h =
      elim (cases_bool (begins (is_sign Dot) ts)) [
        | inl y ↦ absurd (let no : deep {A = List A × List Token} ts ≡ Ok (xs, rest) = sym (full_deep ts y) ∙ h in cc)
        | inr y ↦
            let same : ([], ts) ≡ (xs, rest) = ok_is ([], ts) (xs, rest) (sym (full_none ts y) ∙ h) in
            subst (λ (z : List A × List Token). Taken AreSteps (chain_marks n) (λ xs. no_dot) ts z.0 z.1) same
            (record { fits = tt; spelled = refl; within = tt; ends_there = is_stop (is_sign Dot) ts y })
      ]

  full_again : (n : ℕ) (over : nat_lt 64 n ≡ true) (xs : List A) (k : List Token) → AreSteps xs → no_dot (first k) ≡ true → steps zero (tokens_of (chain_marks n xs) ++ k) ≡ checked (chain_marks n xs) k (Ok (xs, k))
  full_again n over [] k p h = full_none k (stops_is (is_sign Dot) k h)
  full_again n over (x ∷ xs) k p h =
      let rest = tokens_of (m x ++ chain_marks (n + 1) xs) ++ k in
      let past : checked (chain_marks n (x ∷ xs)) k (Ok (x ∷ xs, k)) ≡ deep (Mark Dot ∷ rest) = rw over refl in
      full_deep (Mark Dot ∷ rest) (tests_sign Dot).same ∙ sym past

  full_deeps : (n : ℕ) (over : nat_lt 64 n ≡ true) (ts : List Token) (k : ℕ) → steps zero ts ≡ Err (Deep k) → DeepIn AreSteps (chain_marks n) (steps zero) ts k
  full_deeps n over ts k h =
      elim (cases_bool (begins (is_sign Dot) ts)) [
        | inl y ↦
            let at : deep {A = List A × List Token} ts ≡ Err (Deep k) = sym (full_deep ts y) ∙ h in
            let size : k ≡ length ts = cc in
            record {
              value = some.0 ∷ [];
              fits = (some.1, tt);
              prefix = [];
              over = (Mark Dot, n);
              more = m some.0 ++ [];
              rest = drop 1 ts;
              whole = refl;
              spelled = begins_is (tests_sign Dot) ts y;
              size = size ∙ ap length (begins_is (tests_sign Dot) ts y);
              within = tt;
              past = over;
              only = λ other. full_deep (Mark Dot ∷ other) (tests_sign Dot).same;
            }
        | inr y ↦ absurd (let no : none_read ts ≡ Err (Deep k) = sym (full_none ts y) ∙ h in cc)
      ]

  full_strays : (ts : List Token) (k : ℕ) → steps zero ts ≡ Err (Stray k) → ⊥
  full_strays ts k h =
      elim (cases_bool (begins (is_sign Dot) ts)) [
        | inl y ↦ (let no : deep {A = List A × List Token} ts ≡ Err (Stray k) = sym (full_deep ts y) ∙ h in absurd cc)
        | inr y ↦ (let no : none_read ts ≡ Err (Stray k) = sym (full_none ts y) ∙ h in absurd cc)
      ]

  -- ---- a step, and the others

  abbrev with_step : A → List A → List A
  with_step x xs = x ∷ xs

  abbrev tail : List A → List A
  tail [] = []
  tail (x ∷ xs) = xs

  abbrev IsAfter : A → List A → Type 0
  IsAfter x l = (l ≡ with_step x (tail l)) × AreSteps (tail l)

  more_split : (l : List A) → AreMore l → (x : A) × P x × IsAfter x l
  more_split [] p = absurd p
  more_split (x ∷ xs) p = (x, p.0, (refl, p.1))

  none_or_more : (l : List A) → AreSteps l → (l ≡ []) ⊎ AreMore l
  none_or_more [] p = inl refl
  none_or_more (x ∷ xs) p = inr p

  more_steps : (l : List A) → AreMore l → AreSteps l
  more_steps [] p = tt
  more_steps (x ∷ xs) p = p

  more_begun : (n : ℕ) (l : List A) → AreMore l → Begun (is_sign Dot) (chain_marks n l)
  more_begun n [] p = absurd p
  more_begun n (x ∷ xs) p = record { head = (Mark Dot, n); tail = m x ++ chain_marks (n + 1) xs; whole = refl; passes = (tests_sign Dot).same }

  pub Reads-chain : (k n : ℕ) → n + k ≡ 65 → Reads AreSteps (chain_marks n) (λ xs. no_dot) (λ ts. many_at (is_sign Dot) no_matter (λ s. r) k tt ts)
  unfolding many_at maybe_at
  Reads-chain zero n sum =
      let over : nat_lt 64 n ≡ true = lt-ltb 64 n (omega arith) in
      record {
        takes = full_takes n;
        again = full_again n over;
        strays = λ ts k h. absurd (full_strays ts k h);
        deeps = full_deeps n over;
      }
  Reads-chain (suc k) n sum =
      let later = Reads-chain k (n + 1) (omega arith) in
      let one = R n (omega arith) in
      Reads-maybe (is_sign Dot)
      (Reads-bind {r2 = λ x ts. many_at (is_sign Dot) no_matter (λ s. r) k tt ts >>= λ others. Ok (x ∷ others.0, others.1)} one
      (λ x p. Reads-into later (with_step x) (IsAfter x) (λ l. chain_marks (n + 1) (tail l)) (λ l. no_dot) (λ l q. (tail l, q.0, q.1)) (λ xs q. (refl, q)) (λ xs q. refl) (λ xs o q. refl))
      (λ x p. (x ∷ [], (refl, tt)))
      AreMore (chain_marks n) (λ l. no_dot)
      more_split
      (λ x l p q. subst AreMore (sym q.0) (p, q.1))
      (λ x l p q. ap (chain_marks n) q.0)
      (λ x l o p q h. (refl, h))
      (λ x l o p q h g. g))
      []
      AreSteps (chain_marks n) (λ l. no_dot)
      (more_begun n) none_or_more
      tt more_steps
      refl (λ l p. refl)
      (λ o. refl) (λ l o p. refl)
