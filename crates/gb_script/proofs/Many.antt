-- Repetition, one element after another for as long as possible, by the laws.
use Rattle.std.proofs.Common.{◌≡◌, ℕ, zero, suc, ◌<◌, ◌≤◌, Bool, true, false, List, [], ◌∷◌, ◌++◌, length, Option, Result, Ok, Err, refl, sym, ap, subst, ◌∙◌, append_assoc, arith, ◌⊎◌, inl, inr, length-append}
use Rattle.std.specs.Prelude.{◌&&◌}
use Rattle.std.specs.List.{flat_map}
use Rattle.std.proofs.lemmas.List.{append-nil}
use Rattle.gb_script.specs.declared.token.Token.{Token}
use Rattle.gb_script.specs.declared.token_fault.Fault.{Fault}
use Rattle.gb_script.specs.declared.token_fault.Fault.TheVariants.{Stray, Deep}
use Rattle.gb_script.specs.Lexing.{begins}
use Rattle.gb_script.specs.Grammar.{Leveled, tokens_of}
use Rattle.gb_script.specs.Reading.{Reader, ◌>>=◌, many_at}
use Rattle.gb_script.proofs.Runs.{cases_bool}
use Rattle.gb_script.proofs.Loop.{none_left, begins_some}
use Rattle.gb_script.proofs.Readers.{Reads, Taken, StrayIn, DeepIn, first, first_or, first_is, first_same, ok_is, bind_ok, bind_err, checked, checked-bind, checked-append, checked-within, tokens_of-append, within-append}
use Rattle.gb_script.proofs.Singles.{begins_prefix}
use Rattle.gb_script.proofs.Maybe.{stops, stops_is, is_stop, Begun, begun_begins}

pub both_true : (a b : Bool) → (a && b) ≡ true → (a ≡ true) × (b ≡ true)
both_true true b h = (refl, h)
both_true false b h = absurd cc

pub and_true : (a b : Bool) → a ≡ true → b ≡ true → (a && b) ≡ true
and_true true b p q = q
and_true false b p q = absurd cc

abbrev failed : {A : Type 0} → Fault → Result A Fault
failed d = Err d

err_is : {A : Type 0} (c d : Fault) → failed {A = A} c ≡ failed d → c ≡ d
err_is c d h = cc

module _ {S A : Type 0} (P : S → A → Type 0) (next : S → A → S) where
  -- each fits what was there before
  abbrev pub AllFrom : S → List A → Type 0
  AllFrom s [] = Unit {0}
  AllFrom s (x ∷ xs) = P s x × AllFrom (next s x) xs

module _ {A : Type 0} (m : A → List Leveled) (e : A → Option Token → Bool) (test : Token → Bool) where
  abbrev pub ends_all : List A → Option Token → Bool
  ends_all [] o = stops test o
  ends_all (x ∷ xs) o = e x (first_or (flat_map m xs) o) && ends_all xs o

module _ {S A : Type 0} {P : S → A → Type 0} {m : A → List Leveled} {e : A → Option Token → Bool} {r : S → Reader A} (test : Token → Bool) (next : S → A → S)
    (R : (s : S) → Reads (P s) m e (r s)) (begun : (s : S) (a : A) → P s a → Begun test (m a)) where
  abbrev none_read : List Token → Result (List A × List Token) Fault
  none_read ts = Ok ([], ts)

  abbrev with_one : A → Result (List A × List Token) Fault → Result (List A × List Token) Fault
  with_one a read = read >>= λ y. Ok (a ∷ y.0, y.1)

  later_err : (read : Result (List A × List Token) Fault) (a : A) (d : Fault) → with_one a read ≡ Err d → read ≡ Err d
  later_err (Ok y) a d h = absurd cc
  later_err (Err f) a d h = ap Err (err_is f d h)

  abbrev whole : S → Reader (List A)
  whole s ts = many_at test next r (length ts) s ts

  -- one, and then the others
  abbrev then_whole : S → A × List Token → Result (List A × List Token) Fault
  then_whole s x = whole (next s x.0) x.1 >>= λ y. Ok (x.0 ∷ y.0, y.1)

  abbrev then_some : ℕ → S → A × List Token → Result (List A × List Token) Fault
  then_some n s x = many_at test next r n (next s x.0) x.1 >>= λ y. Ok (x.0 ∷ y.0, y.1)

  shrinks : (s : S) (ts rest : List Token) (x : A) → r s ts ≡ Ok (x, rest) → length rest < length ts
  shrinks s ts rest x h =
      let t = (R s).takes ts rest x h in
      let b = begun s x t.fits in
      let spelled : ts ≡ b.head.0 ∷ (tokens_of b.tail ++ rest) = t.spelled ∙ ap (λ (l : List Leveled). tokens_of l ++ rest) b.whole in
      let size = ap length spelled in
      omega (arith, size, length-append (tokens_of b.tail) rest)

  one_more : (n : ℕ) (s : S) (ts : List Token) → begins test ts ≡ true → many_at test next r (suc n) s ts ≡ (r s ts >>= λ x. then_some n s x)
  unfolding many_at
  one_more n s ts h = rw h refl

  bind_same : {B C : Type 0} (read : Result B Fault) (f g : B → Result C Fault) → ((x : B) → read ≡ Ok x → f x ≡ g x) → (read >>= f) ≡ (read >>= g)
  bind_same (Ok x) f g h = h x refl
  bind_same (Err d) f g h = refl

  enough : (n k : ℕ) (s : S) (ts : List Token) → length ts ≤ n → length ts ≤ k → many_at test next r n s ts ≡ many_at test next r k s ts
  enough zero k s ts p q =
      elim (cases_bool (begins test ts)) [
        | inl y ↦ absurd (omega (arith, begins_some test ts y))
        | inr y ↦ none_left test next r zero s ts y ∙ sym (none_left test next r k s ts y)
      ]
  enough (suc n) zero s ts p q =
      elim (cases_bool (begins test ts)) [
        | inl y ↦ absurd (omega (arith, begins_some test ts y))
        | inr y ↦ none_left test next r (suc n) s ts y ∙ sym (none_left test next r zero s ts y)
      ]
  enough (suc n) (suc k) s ts p q =
      elim (cases_bool (begins test ts)) [
        | inl y ↦
            one_more n s ts y
            ∙ bind_same (r s ts) (λ x. then_some n s x) (λ x. then_some k s x)
            (λ x h. let less = shrinks s ts x.1 x.0 h in ap (with_one x.0) (enough n k (next s x.0) x.1 (omega arith) (omega arith)))
            ∙ sym (one_more k s ts y)
        | inr y ↦ none_left test next r (suc n) s ts y ∙ sym (none_left test next r (suc k) s ts y)
      ]

  goes_on : (s : S) (ts : List Token) → begins test ts ≡ true → whole s ts ≡ (r s ts >>= λ x. then_whole s x)
  goes_on s [] h = absurd cc
  goes_on s (t ∷ ts) h =
      one_more (length ts) s (t ∷ ts) h
      ∙ bind_same (r s (t ∷ ts)) (λ x. then_some (length ts) s x) (λ x. then_whole s x)
      (λ x g. let less : length x.1 < length (t ∷ ts) = shrinks s (t ∷ ts) x.1 x.0 g in ap (with_one x.0) (enough (length ts) (length x.1) (next s x.0) x.1 (omega arith) (omega arith)))

  ends_now : (s : S) (ts : List Token) → begins test ts ≡ false → whole s ts ≡ Ok ([], ts)
  ends_now s ts h = none_left test next r (length ts) s ts h

  -- no more follow, or one and the others
  cases_whole : (s : S) (ts : List Token) → ((begins test ts ≡ false) × (whole s ts ≡ Ok ([], ts))) ⊎ ((begins test ts ≡ true) × (whole s ts ≡ (r s ts >>= λ x. then_whole s x)))
  cases_whole s ts =
      elim (cases_bool (begins test ts)) [ inl y ↦ inr (y, goes_on s ts y) | inr y ↦ inl (y, ends_now s ts y) ]

  takes_none : (s : S) (ts rest : List Token) (xs : List A) → begins test ts ≡ false → whole s ts ≡ Ok ([], ts) → whole s ts ≡ Ok (xs, rest) → Taken (AllFrom P next s) (flat_map m) (ends_all m e test) ts xs rest
  takes_none s ts rest xs y w h =
      let same : ([], ts) ≡ (xs, rest) = ok_is ([], ts) (xs, rest) (sym w ∙ h) in
      subst (λ (z : List A × List Token). Taken (AllFrom P next s) (flat_map m) (ends_all m e test) ts z.0 z.1) same
      (record { fits = tt; spelled = refl; within = tt; ends_there = is_stop test ts y })

  takes_all : (n : ℕ) (s : S) (ts rest : List Token) (xs : List A) → length ts ≤ n → whole s ts ≡ Ok (xs, rest) → Taken (AllFrom P next s) (flat_map m) (ends_all m e test) ts xs rest
  takes_all zero s ts rest xs p h =
      elim (cases_whole s ts) [
        | inl y ↦ takes_none s ts rest xs y.0 y.1 h
        | inr y ↦ absurd (omega (arith, begins_some test ts y.0))
      ]
  takes_all (suc n) s ts rest xs p h =
      elim (cases_whole s ts) [
        | inl y ↦ takes_none s ts rest xs y.0 y.1 h
        | inr y ↦
            let a = bind_ok (r s ts) (λ x. then_whole s x) (xs, rest) (sym y.1 ∙ h) in
            let b = bind_ok (whole (next s a.0.0) a.0.1) (λ y. Ok (a.0.0 ∷ y.0, y.1)) (xs, rest) a.2 in
            let t = (R s).takes ts a.0.1 a.0.0 a.1 in
            let less = shrinks s ts a.0.1 a.0.0 a.1 in
            let u = takes_all n (next s a.0.0) a.0.1 b.0.1 b.0.0 (omega arith) b.1 in
            let same : (a.0.0 ∷ b.0.0, b.0.1) ≡ (xs, rest) = ok_is (a.0.0 ∷ b.0.0, b.0.1) (xs, rest) b.2 in
            subst (λ (z : List A × List Token). Taken (AllFrom P next s) (flat_map m) (ends_all m e test) ts z.0 z.1) {x = (a.0.0 ∷ b.0.0, b.0.1)} {y = (xs, rest)} same
            (record {
              fits = (t.fits, u.fits);
              spelled = t.spelled ∙ ap (λ (l : List Token). tokens_of (m a.0.0) ++ l) u.spelled ∙ sym (tokens_of-append (m a.0.0) (flat_map m b.0.0) b.0.1);
              within = within-append (m a.0.0) (flat_map m b.0.0) t.within u.within;
              ends_there = and_true _ _ (ap (e a.0.0) (sym (first_is (flat_map m b.0.0) b.0.1) ∙ ap first (sym u.spelled)) ∙ t.ends_there) u.ends_there;
            })
      ]

  again_all : (s : S) (xs : List A) (k : List Token) → AllFrom P next s xs → ends_all m e test xs (first k) ≡ true → whole s (tokens_of (flat_map m xs) ++ k) ≡ checked (flat_map m xs) k (Ok (xs, k))
  again_all s [] k p h = ends_now s k (stops_is test k h)
  again_all s (x ∷ xs) k p h =
      let n = both_true (e x (first_or (flat_map m xs) (first k))) (ends_all m e test xs (first k)) h in
      let rest = tokens_of (flat_map m xs) ++ k in
      let regrouped = tokens_of-append (m x) (flat_map m xs) k in
      let one = (R s).again x rest p.0 (ap (e x) (first_is (flat_map m xs) k) ∙ n.0) in
      let two = again_all (next s x) xs k p.1 n.1 in
      ap (whole s) regrouped
      ∙ goes_on s (tokens_of (m x) ++ rest) (begun_begins test (m x) rest (begun s x p.0))
      ∙ ap (λ read. read >>= λ x. then_whole s x) one
      ∙ checked-bind (m x) rest (Ok (x, rest)) (λ x. then_whole s x)
      ∙ ap (λ read. checked (m x) rest (with_one x read)) two
      ∙ ap (checked (m x) rest) (checked-bind (flat_map m xs) k (Ok (xs, k)) (λ y. Ok (x ∷ y.0, y.1)))
      ∙ sym (checked-append (m x) (flat_map m xs) k (Ok (x ∷ xs, k)))

  again_first : (s : S) (ts rest : List Token) (a : A) (prefix : List Leveled) (b : Token) (bad other : List Token) → Taken (P s) m e ts a rest → rest ≡ tokens_of prefix ++ b ∷ bad → whole s (tokens_of (m a ++ prefix) ++ b ∷ other) ≡ with_one a (whole (next s a) (tokens_of prefix ++ b ∷ other))
  again_first s ts rest a prefix b bad other t at =
      let k = tokens_of prefix ++ b ∷ other in
      ap (whole s) (tokens_of-append (m a) prefix (b ∷ other))
      ∙ goes_on s (tokens_of (m a) ++ k) (begun_begins test (m a) k (begun s a t.fits))
      ∙ ap (λ read. read >>= λ x. then_whole s x) ((R s).again a k t.fits (ap (e a) (first_same prefix b other bad ∙ ap first (sym at)) ∙ t.ends_there) ∙ checked-within (m a) k (Ok (a, k)) t.within)

  strays_all : (n : ℕ) (s : S) (ts : List Token) (k : ℕ) → length ts ≤ n → whole s ts ≡ Err (Stray k) → StrayIn (AllFrom P next s) (flat_map m) (whole s) ts k
  strays_all zero s ts k p h =
      elim (cases_whole s ts) [
        | inl y ↦ absurd (let no : none_read ts ≡ Err (Stray k) = sym y.1 ∙ h in cc)
        | inr y ↦ absurd (omega (arith, begins_some test ts y.0))
      ]
  strays_all (suc n) s ts k p h =
      elim (cases_whole s ts) [
        | inl y ↦ absurd (let no : none_read ts ≡ Err (Stray k) = sym y.1 ∙ h in cc)
        | inr y ↦
            elim (bind_err (r s ts) (λ x. then_whole s x) (Stray k) (sym y.1 ∙ h)) [
              | inl f ↦
                  let t = (R s).strays ts k f in
                  record {
                    value = t.value ∷ [];
                    fits = (t.fits, tt);
                    prefix = t.prefix;
                    more = t.more;
                    bad = t.bad;
                    whole = append-nil (m t.value) ∙ t.whole;
                    spelled = t.spelled;
                    size = t.size;
                    within = t.within;
                    only = λ b rest other at.
                        goes_on s (tokens_of t.prefix ++ b ∷ other) (begins_prefix test t.prefix b other rest ∙ ap (begins test) (sym (t.spelled ∙ ap (λ (l : List Token). tokens_of t.prefix ++ l) at)) ∙ y.0)
                        ∙ ap (λ read. read >>= λ x. then_whole s x) (t.only b rest other at);
                  }
              | inr x ↦
                  let a = x.0.0 in
                  let t = (R s).takes ts x.0.1 a x.1 in
                  let less = shrinks s ts x.0.1 a x.1 in
                  let later : whole (next s a) x.0.1 ≡ Err (Stray k) = later_err (whole (next s a) x.0.1) a (Stray k) x.2 in
                  let u = strays_all n (next s a) x.0.1 k (omega arith) later in
                  record {
                    value = a ∷ u.value;
                    fits = (t.fits, u.fits);
                    prefix = m a ++ u.prefix;
                    more = u.more;
                    bad = u.bad;
                    whole = ap (λ (l : List Leveled). m a ++ l) u.whole ∙ sym (append_assoc (m a) u.prefix u.more);
                    spelled = t.spelled ∙ ap (λ (l : List Token). tokens_of (m a) ++ l) u.spelled ∙ sym (tokens_of-append (m a) u.prefix u.bad);
                    size = u.size;
                    within = within-append (m a) u.prefix t.within u.within;
                    only = λ b rest other at.
                        again_first s ts x.0.1 a u.prefix b rest other t (u.spelled ∙ ap (λ (l : List Token). tokens_of u.prefix ++ l) at)
                        ∙ ap (with_one a) (u.only b rest other at);
                  }
            ]
      ]

  deeps_all : (n : ℕ) (s : S) (ts : List Token) (k : ℕ) → length ts ≤ n → whole s ts ≡ Err (Deep k) → DeepIn (AllFrom P next s) (flat_map m) (whole s) ts k
  deeps_all zero s ts k p h =
      elim (cases_whole s ts) [
        | inl y ↦ absurd (let no : none_read ts ≡ Err (Deep k) = sym y.1 ∙ h in cc)
        | inr y ↦ absurd (omega (arith, begins_some test ts y.0))
      ]
  deeps_all (suc n) s ts k p h =
      elim (cases_whole s ts) [
        | inl y ↦ absurd (let no : none_read ts ≡ Err (Deep k) = sym y.1 ∙ h in cc)
        | inr y ↦
            elim (bind_err (r s ts) (λ x. then_whole s x) (Deep k) (sym y.1 ∙ h)) [
              | inl f ↦
                  let t = (R s).deeps ts k f in
                  record {
                    value = t.value ∷ [];
                    fits = (t.fits, tt);
                    prefix = t.prefix;
                    over = t.over;
                    more = t.more;
                    rest = t.rest;
                    whole = append-nil (m t.value) ∙ t.whole;
                    spelled = t.spelled;
                    size = t.size;
                    within = t.within;
                    past = t.past;
                    only = λ other.
                        goes_on s (tokens_of t.prefix ++ t.over.0 ∷ other) (begins_prefix test t.prefix t.over.0 other t.rest ∙ ap (begins test) (sym t.spelled) ∙ y.0)
                        ∙ ap (λ read. read >>= λ x. then_whole s x) (t.only other);
                  }
              | inr x ↦
                  let a = x.0.0 in
                  let t = (R s).takes ts x.0.1 a x.1 in
                  let less = shrinks s ts x.0.1 a x.1 in
                  let later : whole (next s a) x.0.1 ≡ Err (Deep k) = later_err (whole (next s a) x.0.1) a (Deep k) x.2 in
                  let u = deeps_all n (next s a) x.0.1 k (omega arith) later in
                  record {
                    value = a ∷ u.value;
                    fits = (t.fits, u.fits);
                    prefix = m a ++ u.prefix;
                    over = u.over;
                    more = u.more;
                    rest = u.rest;
                    whole = ap (λ (l : List Leveled). m a ++ l) u.whole ∙ sym (append_assoc (m a) u.prefix (u.over ∷ u.more));
                    spelled = t.spelled ∙ ap (λ (l : List Token). tokens_of (m a) ++ l) u.spelled ∙ sym (tokens_of-append (m a) u.prefix (u.over.0 ∷ u.rest));
                    size = u.size;
                    within = within-append (m a) u.prefix t.within u.within;
                    past = u.past;
                    only = λ other. again_first s ts x.0.1 a u.prefix u.over.0 u.rest other t u.spelled ∙ ap (with_one a) (u.only other);
                  }
            ]
      ]

  -- any number of them
  pub Reads-many : (s : S) → Reads (AllFrom P next s) (flat_map m) (ends_all m e test) (λ ts. many_at test next r (length ts) s ts)
  Reads-many s = record {
    takes = λ ts rest xs h. takes_all (length ts) s ts rest xs (omega arith) h;
    again = again_all s;
    strays = λ ts n h. strays_all (length ts) s ts n (omega arith) h;
    deeps = λ ts n h. deeps_all (length ts) s ts n (omega arith) h;
  }
