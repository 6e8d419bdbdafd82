-- What a reader reads, law by law, and that readers in sequence keep the laws.
use Rattle.std.proofs.Common.{◌≡◌, ℕ, Bool, true, false, cond, List, [], ◌∷◌, ◌++◌, length, Option, Some, None, Result, Ok, Err, refl, sym, ap, subst, ◌∙◌, append_assoc, ◌⊎◌, inl, inr}
use Rattle.std.proofs.lemmas.List.{append-nil, map-append}
use Rattle.gb_script.specs.declared.token_fault.Fault.{Fault}
use Rattle.gb_script.specs.declared.token_fault.Fault.TheVariants.{Stray, Deep}
use Rattle.gb_script.specs.declared.token.Token.{Token}
use Rattle.gb_script.specs.Grammar.{Leveled, tokens_of}
use Rattle.gb_script.specs.Verdict.{is_over, AllWithin}
use Rattle.gb_script.specs.Reading.{Reader, ◌>>=◌, stray, deep}

-- what reading these gives: the first one past the limit stops it
abbrev pub checked : {B : Type 0} → List Leveled → List Token → Result B Fault → Result B Fault
checked [] k read = read
checked (m ∷ ms) k read = cond (is_over m) (deep (m.0 ∷ (tokens_of ms ++ k))) (checked ms k read)

abbrev pub first : List Token → Option Token
first [] = None
first (t ∷ ts) = Some t

abbrev pub first_or : List Leveled → Option Token → Option Token
first_or [] o = o
first_or (m ∷ ms) o = Some m.0

pub first_is : (ms : List Leveled) (k : List Token) → first (tokens_of ms ++ k) ≡ first_or ms (first k)
first_is [] k = refl
first_is (m ∷ ms) k = refl

pub first_same : (prefix : List Leveled) (b : Token) (x y : List Token) → first (tokens_of prefix ++ b ∷ x) ≡ first (tokens_of prefix ++ b ∷ y)
first_same [] b x y = refl
first_same (m ∷ ms) b x y = refl

pub tokens_of-append : (x y : List Leveled) (k : List Token) → tokens_of (x ++ y) ++ k ≡ tokens_of x ++ (tokens_of y ++ k)
tokens_of-append x y k = ap (λ (l : List Token). l ++ k) (map-append (λ (m : Leveled). m.0) x y) ∙ append_assoc (tokens_of x) (tokens_of y) k

pub within-append : (x y : List Leveled) → AllWithin x → AllWithin y → AllWithin (x ++ y)
within-append [] y p q = q
within-append (m ∷ x) y p q = (p.0, within-append x y p.1 q)

bind-cond : {A B : Type 0} (b : Bool) (ts : List Token) (read : Result A Fault) (later : Result B Fault) (f : A → Result B Fault) → (read >>= f) ≡ later → (cond b (deep ts) read >>= f) ≡ cond b (deep ts) later
bind-cond true ts read later f e = refl
bind-cond false ts read later f e = e

pub checked-bind : {A B : Type 0} (ms : List Leveled) (k : List Token) (read : Result A Fault) (f : A → Result B Fault) → (checked ms k read >>= f) ≡ checked ms k (read >>= f)
checked-bind [] k read f = refl
checked-bind (m ∷ ms) k read f = bind-cond (is_over m) (m.0 ∷ (tokens_of ms ++ k)) (checked ms k read) (checked ms k (read >>= f)) f (checked-bind ms k read f)

pub checked-append : {B : Type 0} (x y : List Leveled) (k : List Token) (read : Result B Fault) → checked (x ++ y) k read ≡ checked x (tokens_of y ++ k) (checked y k read)
checked-append [] y k read = refl
checked-append (m ∷ x) y k read =
    ap (λ (ts : List Token). cond (is_over m) (deep (m.0 ∷ ts)) (checked (x ++ y) k read)) (tokens_of-append x y k)
    ∙ ap (λ r. cond (is_over m) (deep (m.0 ∷ (tokens_of x ++ (tokens_of y ++ k)))) r) (checked-append x y k read)

pub checked-within : {B : Type 0} (ms : List Leveled) (k : List Token) (read : Result B Fault) → AllWithin ms → checked ms k read ≡ read
checked-within [] k read h = refl
checked-within (m ∷ ms) k read h = rw h.0 (checked-within ms k read h.1)

pub bind_ok : {A B : Type 0} (r : Result A Fault) (f : A → Result B Fault) (y : B) → (r >>= f) ≡ Ok y → (x : A) × (r ≡ Ok x) × (f x ≡ Ok y)
bind_ok (Ok x) f y e = (x, refl, e)
bind_ok (Err d) f y e = absurd cc

pub bind_err : {A B : Type 0} (r : Result A Fault) (f : A → Result B Fault) (d : Fault) → (r >>= f) ≡ Err d → (r ≡ Err d) ⊎ ((x : A) × (r ≡ Ok x) × (f x ≡ Err d))
bind_err (Ok x) f d e = inr (x, refl, e)
bind_err (Err c) f d e = inl cc

-- a was read, and rest is left
pub record Taken {A : Type 0} (P : A → Type 0) (marks : A → List Leveled) (ends : A → Option Token → Bool) (ts : List Token) (a : A) (rest : List Token) : Type 0 where
  pub fits : P a
  pub spelled : ts ≡ tokens_of (marks a) ++ rest
  pub within : AllWithin (marks a)
  pub ends_there : ends a (first rest) ≡ true

-- n tokens before the end is one that nothing has after the tokens before it, which begin something
pub record StrayIn {A : Type 0} (P : A → Type 0) (marks : A → List Leveled) (read : Reader A) (ts : List Token) (n : ℕ) : Type 0 where
  pub value : A
  pub fits : P value
  pub prefix : List Leveled
  pub more : List Leveled
  pub bad : List Token
  pub whole : marks value ≡ prefix ++ more
  pub spelled : ts ≡ tokens_of prefix ++ bad
  pub size : n ≡ length bad
  pub within : AllWithin prefix
  pub only : (b : Token) (rest other : List Token) → bad ≡ b ∷ rest → read (tokens_of prefix ++ b ∷ other) ≡ stray (b ∷ other)

-- n tokens before the end is one that passes the limit, and none before it does
pub record DeepIn {A : Type 0} (P : A → Type 0) (marks : A → List Leveled) (read : Reader A) (ts : List Token) (n : ℕ) : Type 0 where
  pub value : A
  pub fits : P value
  pub prefix : List Leveled
  pub over : Leveled
  pub more : List Leveled
  pub rest : List Token
  pub whole : marks value ≡ prefix ++ over ∷ more
  pub spelled : ts ≡ tokens_of prefix ++ over.0 ∷ rest
  pub size : n ≡ length (over.0 ∷ rest)
  pub within : AllWithin prefix
  pub past : is_over over ≡ true
  pub only : (other : List Token) → read (tokens_of prefix ++ over.0 ∷ other) ≡ deep (over.0 ∷ other)

pub record Reads {A : Type 0} (P : A → Type 0) (marks : A → List Leveled) (ends : A → Option Token → Bool) (read : Reader A) : Type 0 where
  -- a value that is read has this spelling
  pub takes : (ts rest : List Token) (a : A) → read ts ≡ Ok (a, rest) → Taken P marks ends ts a rest
  -- a value with this spelling is read, up to the first token past the limit
  pub again : (a : A) (k : List Token) → P a → ends a (first k) ≡ true → read (tokens_of (marks a) ++ k) ≡ checked (marks a) k (Ok (a, k))
  pub strays : (ts : List Token) (n : ℕ) → read ts ≡ Err (Stray n) → StrayIn P marks read ts n
  pub deeps : (ts : List Token) (n : ℕ) → read ts ≡ Err (Deep n) → DeepIn P marks read ts n

-- ---- nothing more to read

abbrev pub always : {A : Type 0} → A → Option Token → Bool
always a o = true

abbrev pub done : {A : Type 0} → A → Result A Fault
done x = Ok x

pub ok_is : {A : Type 0} (x y : A) → done x ≡ done y → x ≡ y
ok_is x y e = cc

pub Reads-done : {A : Type 0} (a : A) → Reads (λ b. b ≡ a) (λ _. []) always (λ ts. Ok (a, ts))
Reads-done {A} a = record {
  takes = λ ts rest b e. let same : (a, ts) ≡ (b, rest) = ok_is (a, ts) (b, rest) e in record { fits = ap (λ (x : A × List Token). x.0) (sym same); spelled = ap (λ (x : A × List Token). x.1) same; within = tt; ends_there = refl };
  again = λ b k p h. ap (λ (x : A). Ok (x, k)) (sym p);
  strays = λ ts n e. absurd cc;
  deeps = λ ts n e. absurd cc;
}

-- ---- one reader after another

module _ {A B : Type 0} {FitsFirst : A → Type 0} {m1 : A → List Leveled} {e1 : A → Option Token → Bool} {r1 : Reader A}
    {FitsSecond : A → B → Type 0} {m2 : A → B → List Leveled} {e2 : A → B → Option Token → Bool} {r2 : A → Reader B}
    (reads_first : Reads FitsFirst m1 e1 r1) (reads_second : (a : A) → FitsFirst a → Reads (FitsSecond a) (m2 a) (e2 a) (r2 a))
    (some : (a : A) → FitsFirst a → (b : B) × FitsSecond a b)
    (P : B → Type 0) (m : B → List Leveled) (e : B → Option Token → Bool)
    (split : (b : B) → P b → (a : A) × FitsFirst a × FitsSecond a b)
    (join : (a : A) (b : B) → FitsFirst a → FitsSecond a b → P b)
    (seam : (a : A) (b : B) → FitsFirst a → FitsSecond a b → m b ≡ m1 a ++ m2 a b)
    (ends_both : (a : A) (b : B) (o : Option Token) → FitsFirst a → FitsSecond a b → e b o ≡ true → (e1 a (first_or (m2 a b) o) ≡ true) × (e2 a b o ≡ true))
    (ends_whole : (a : A) (b : B) (o : Option Token) → FitsFirst a → FitsSecond a b → e1 a (first_or (m2 a b) o) ≡ true → e2 a b o ≡ true → e b o ≡ true) where
  both : Reader B
  both ts = r1 ts >>= λ x. r2 x.0 x.1

  both_takes : (ts rest : List Token) (b : B) → (r1 ts >>= λ x. r2 x.0 x.1) ≡ Ok (b, rest) → Taken P m e ts b rest
  both_takes ts rest b h =
      let x = bind_ok (r1 ts) (λ x. r2 x.0 x.1) (b, rest) h in
      let a = x.0.0 in
      let t1 = reads_first.takes ts x.0.1 a x.1 in
      let t2 = (reads_second a t1.fits).takes x.0.1 rest b x.2 in
      let s = seam a b t1.fits t2.fits in
      record {
        fits = join a b t1.fits t2.fits;
        spelled = t1.spelled ∙ ap (λ (l : List Token). tokens_of (m1 a) ++ l) t2.spelled ∙ sym (tokens_of-append (m1 a) (m2 a b) rest) ∙ ap (λ (l : List Leveled). tokens_of l ++ rest) (sym s);
        within = subst AllWithin (sym s) (within-append (m1 a) (m2 a b) t1.within t2.within);
        ends_there = ends_whole a b (first rest) t1.fits t2.fits (ap (e1 a) (sym (first_is (m2 a b) rest) ∙ ap first (sym t2.spelled)) ∙ t1.ends_there) t2.ends_there;
      }

  both_again : (b : B) (k : List Token) → P b → e b (first k) ≡ true → (r1 (tokens_of (m b) ++ k) >>= λ x. r2 x.0 x.1) ≡ checked (m b) k (Ok (b, k))
  both_again b k p h =
      let x = split b p in
      let a = x.0 in
      let n = ends_both a b (first k) x.1 x.2 h in
      let s = seam a b x.1 x.2 in
      let rest = tokens_of (m2 a b) ++ k in
      let one = reads_first.again a rest x.1 (ap (e1 a) (first_is (m2 a b) k) ∙ n.0) in
      let two = (reads_second a x.1).again b k x.2 n.1 in
      ap (λ (l : List Token). r1 l >>= λ x. r2 x.0 x.1) (ap (λ (l : List Leveled). tokens_of l ++ k) s ∙ tokens_of-append (m1 a) (m2 a b) k)
      ∙ ap (λ read. read >>= λ x. r2 x.0 x.1) one
      ∙ checked-bind (m1 a) rest (Ok (a, rest)) (λ x. r2 x.0 x.1)
      ∙ ap (checked (m1 a) rest) two
      ∙ sym (checked-append (m1 a) (m2 a b) k (Ok (b, k)))
      ∙ ap (λ (l : List Leveled). checked l k (Ok (b, k))) (sym s)

  -- what the first reader took is taken once more, whatever comes after the bad token
  again_before : (ts rest : List Token) (a : A) (prefix : List Leveled) (b : Token) (bad other : List Token) → Taken FitsFirst m1 e1 ts a rest → rest ≡ tokens_of prefix ++ b ∷ bad → r1 (tokens_of (m1 a ++ prefix) ++ b ∷ other) ≡ Ok (a, tokens_of prefix ++ b ∷ other)
  again_before ts rest a prefix b bad other t at =
      let k = tokens_of prefix ++ b ∷ other in
      ap r1 (tokens_of-append (m1 a) prefix (b ∷ other))
      ∙ reads_first.again a k t.fits (ap (e1 a) (first_same prefix b other bad ∙ ap first (sym at)) ∙ t.ends_there)
      ∙ checked-within (m1 a) k (Ok (a, k)) t.within

  both_strays : (ts : List Token) (n : ℕ) → (r1 ts >>= λ x. r2 x.0 x.1) ≡ Err (Stray n) → StrayIn P m (λ ts. r1 ts >>= λ x. r2 x.0 x.1) ts n
  both_strays ts n h =
      elim (bind_err (r1 ts) (λ x. r2 x.0 x.1) (Stray n) h) [
        | inl f ↦
            let s = reads_first.strays ts n f in
            let b = some s.value s.fits in
            record {
              value = b.0;
              fits = join s.value b.0 s.fits b.1;
              prefix = s.prefix;
              more = s.more ++ m2 s.value b.0;
              bad = s.bad;
              whole = seam s.value b.0 s.fits b.1 ∙ ap (λ (l : List Leveled). l ++ m2 s.value b.0) s.whole ∙ append_assoc s.prefix s.more (m2 s.value b.0);
              spelled = s.spelled;
              size = s.size;
              within = s.within;
              only = λ t rest other at. ap (λ read. read >>= λ x. r2 x.0 x.1) (s.only t rest other at);
            }
        | inr x ↦
            let a = x.0.0 in
            let t1 = reads_first.takes ts x.0.1 a x.1 in
            let s = (reads_second a t1.fits).strays x.0.1 n x.2 in
            record {
              value = s.value;
              fits = join a s.value t1.fits s.fits;
              prefix = m1 a ++ s.prefix;
              more = s.more;
              bad = s.bad;
              whole = seam a s.value t1.fits s.fits ∙ ap (λ (l : List Leveled). m1 a ++ l) s.whole ∙ sym (append_assoc (m1 a) s.prefix s.more);
              spelled = t1.spelled ∙ ap (λ (l : List Token). tokens_of (m1 a) ++ l) s.spelled ∙ sym (tokens_of-append (m1 a) s.prefix s.bad);
              size = s.size;
              within = within-append (m1 a) s.prefix t1.within s.within;
              only = λ t rest other at.
                  ap (λ read. read >>= λ x. r2 x.0 x.1) (again_before ts x.0.1 a s.prefix t rest other t1 (s.spelled ∙ ap (λ (l : List Token). tokens_of s.prefix ++ l) at))
                  ∙ s.only t rest other at;
            }
      ]

  both_deeps : (ts : List Token) (n : ℕ) → (r1 ts >>= λ x. r2 x.0 x.1) ≡ Err (Deep n) → DeepIn P m (λ ts. r1 ts >>= λ x. r2 x.0 x.1) ts n
  both_deeps ts n h =
      elim (bind_err (r1 ts) (λ x. r2 x.0 x.1) (Deep n) h) [
        | inl f ↦
            let s = reads_first.deeps ts n f in
            let b = some s.value s.fits in
            record {
              value = b.0;
              fits = join s.value b.0 s.fits b.1;
              prefix = s.prefix;
              over = s.over;
              more = s.more ++ m2 s.value b.0;
              rest = s.rest;
              whole = seam s.value b.0 s.fits b.1 ∙ ap (λ (l : List Leveled). l ++ m2 s.value b.0) s.whole ∙ append_assoc s.prefix (s.over ∷ s.more) (m2 s.value b.0);
              spelled = s.spelled;
              size = s.size;
              within = s.within;
              past = s.past;
              only = λ other. ap (λ read. read >>= λ x. r2 x.0 x.1) (s.only other);
            }
        | inr x ↦
            let a = x.0.0 in
            let t1 = reads_first.takes ts x.0.1 a x.1 in
            let s = (reads_second a t1.fits).deeps x.0.1 n x.2 in
            record {
              value = s.value;
              fits = join a s.value t1.fits s.fits;
              prefix = m1 a ++ s.prefix;
              over = s.over;
              more = s.more;
              rest = s.rest;
              whole = seam a s.value t1.fits s.fits ∙ ap (λ (l : List Leveled). m1 a ++ l) s.whole ∙ sym (append_assoc (m1 a) s.prefix (s.over ∷ s.more));
              spelled = t1.spelled ∙ ap (λ (l : List Token). tokens_of (m1 a) ++ l) s.spelled ∙ sym (tokens_of-append (m1 a) s.prefix (s.over.0 ∷ s.rest));
              size = s.size;
              within = within-append (m1 a) s.prefix t1.within s.within;
              past = s.past;
              only = λ other.
                  ap (λ read. read >>= λ x. r2 x.0 x.1) (again_before ts x.0.1 a s.prefix s.over.0 s.rest other t1 s.spelled)
                  ∙ s.only other;
            }
      ]

  pub Reads-bind : Reads P m e (λ ts. r1 ts >>= λ x. r2 x.0 x.1)
  Reads-bind = record { takes = both_takes; again = both_again; strays = both_strays; deeps = both_deeps }

-- ---- the same, restated

module _ {A : Type 0} {P : A → Type 0} {m : A → List Leveled} {e : A → Option Token → Bool} {r : Reader A} (R : Reads P m e r)
    (Q : A → Type 0) (marks : A → List Leveled) (ends : A → Option Token → Bool)
    (to : (a : A) → P a → Q a) (back : (a : A) → Q a → P a)
    (marks-is : (a : A) → P a → marks a ≡ m a) (ends-is : (a : A) (o : Option Token) → P a → ends a o ≡ e a o) where
  as_takes : (ts rest : List Token) (a : A) → r ts ≡ Ok (a, rest) → Taken Q marks ends ts a rest
  as_takes ts rest a h =
      let t = R.takes ts rest a h in
      let s = marks-is a t.fits in
      record {
        fits = to a t.fits;
        spelled = t.spelled ∙ ap (λ (l : List Leveled). tokens_of l ++ rest) (sym s);
        within = subst AllWithin (sym s) t.within;
        ends_there = ends-is a (first rest) t.fits ∙ t.ends_there;
      }

  as_again : (a : A) (k : List Token) → Q a → ends a (first k) ≡ true → r (tokens_of (marks a) ++ k) ≡ checked (marks a) k (Ok (a, k))
  as_again a k q h =
      let p = back a q in
      let s = marks-is a p in
      ap (λ (l : List Leveled). r (tokens_of l ++ k)) s
      ∙ R.again a k p (sym (ends-is a (first k) p) ∙ h)
      ∙ ap (λ (l : List Leveled). checked l k (Ok (a, k))) (sym s)

  pub Reads-as : Reads Q marks ends r
  Reads-as = record {
    takes = as_takes;
    again = as_again;
    strays = λ ts n h.
        let s = R.strays ts n h in
        record { value = s.value; fits = to s.value s.fits; prefix = s.prefix; more = s.more; bad = s.bad; whole = marks-is s.value s.fits ∙ s.whole; spelled = s.spelled; size = s.size; within = s.within; only = s.only };
    deeps = λ ts n h.
        let s = R.deeps ts n h in
        record { value = s.value; fits = to s.value s.fits; prefix = s.prefix; over = s.over; more = s.more; rest = s.rest; whole = marks-is s.value s.fits ∙ s.whole; spelled = s.spelled; size = s.size; within = s.within; past = s.past; only = s.only };
  }

-- ---- a value made of what is read

module _ {A B : Type 0} {P : A → Type 0} {m : A → List Leveled} {e : A → Option Token → Bool} {r : Reader A} (R : Reads P m e r)
    (f : A → B) (back : B → A) (back-f : (a : A) → back (f a) ≡ a) where
  abbrev pub IsMade : B → Type 0
  IsMade b = (b ≡ f (back b)) × P (back b)

  pub Reads-made : Reads IsMade (λ b. m (back b)) (λ b. e (back b)) (λ ts. r ts >>= λ x. Ok (f x.0, x.1))
  Reads-made =
      Reads-bind {r2 = λ a ts. Ok (f a, ts)} R (λ a p. Reads-done (f a))
      (λ a p. (f a, refl))
      IsMade (λ b. m (back b)) (λ b. e (back b))
      (λ b q. (back b, q.1, q.0))
      (λ a b p q. let same = ap back q ∙ back-f a in (q ∙ ap f (sym same), subst P (sym same) p))
      (λ a b p q. ap m (ap back q ∙ back-f a) ∙ sym (append-nil (m a)))
      (λ a b o p q h. (ap (λ (x : A). e x o) (sym (ap back q ∙ back-f a)) ∙ h, refl))
      (λ a b o p q h g. ap (λ (x : A). e x o) (ap back q ∙ back-f a) ∙ h)
