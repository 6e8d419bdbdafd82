-- The first fault of a row of tokens is a fault of the reader, so reading finds it.
use Rattle.std.proofs.Common.{◌≡◌, ℕ, ◌≤◌, Bool, true, cond, List, [], ◌∷◌, ◌++◌, length, Option, None, Result, Ok, Err, refl, sym, ap, ◌∙◌, append_assoc, arith, ◌⊎◌, inl, inr, eqb, length-append}
use Rattle.std.proofs.lemmas.List.{append-nil, map-append}
use Rattle.gb_script.specs.declared.token_fault.Fault.{Fault}
use Rattle.gb_script.specs.declared.token_fault.Fault.TheVariants.{Stray, Deep}
use Rattle.gb_script.specs.declared.token.Token.{Token}
use Rattle.gb_script.specs.Grammar.{Leveled, tokens_of}
use Rattle.gb_script.specs.Verdict.{is_over, Begins, IsFirstStray, IsFirstDeep}
use Rattle.gb_script.specs.Reading.{Reader, ◌>>=◌, stray, deep, all_at}
use Rattle.gb_script.proofs.Runs.{cases_bool}
use Rattle.gb_script.proofs.Readers.{Reads, checked, checked-append, checked-within, done, bind_err}
use Rattle.gb_script.proofs.Whole.{DeepAt, again_all, all_found, all_stray, all_deep}

abbrev head_or : Token → List Token → Token
head_or d [] = d
head_or d (t ∷ ts) = t

abbrev after_head : List Token → List Token
after_head [] = []
after_head (t ∷ ts) = ts

-- one list cut in two ways: the first cut is not after the second
record NotAfter (x y u v : List Token) : Type 0 where
  between : List Token
  prefix : u ≡ x ++ between
  rest : y ≡ between ++ v

-- the first cut is after the second
record After (x y u v : List Token) : Type 0 where
  next : Token
  between : List Token
  prefix : x ≡ u ++ next ∷ between
  rest : v ≡ next ∷ (between ++ y)

two_cuts : (x y u v : List Token) → x ++ y ≡ u ++ v → NotAfter x y u v ⊎ After x y u v
two_cuts [] y u v h = inl (record { between = u; prefix = refl; rest = h })
two_cuts (a ∷ x) y [] v h = inr (record { next = a; between = x; prefix = refl; rest = sym h })
two_cuts (a ∷ x) y (b ∷ u) v h =
    let same : a ≡ b = ap (head_or a) h in
    elim (two_cuts x y u v (ap after_head h)) [
      | inl c ↦ inl (record { between = c.between; prefix = ap (λ (t : Token). t ∷ u) (sym same) ∙ ap (λ (l : List Token). a ∷ l) c.prefix; rest = c.rest })
      | inr c ↦ inr (record { next = c.next; between = c.between; prefix = ap (λ (t : Token). t ∷ x) same ∙ ap (λ (l : List Token). b ∷ l) c.prefix; rest = c.rest })
    ]

same_cut : (x y u v : List Token) → x ++ y ≡ u ++ v → length y ≡ length v → (x ≡ u) × (y ≡ v)
same_cut x y u v h size =
    elim (two_cuts x y u v h) [
      | inl c ↦ at_once c.between c.prefix c.rest
      | inr c ↦ absurd (let more = ap length c.rest in omega (arith, length-append c.between y))
    ]
  where
    at_once : (w : List Token) → u ≡ x ++ w → y ≡ w ++ v → (x ≡ u) × (y ≡ v)
    at_once [] f r = (sym (f ∙ append-nil x), r)
    at_once (t ∷ w) f r = absurd (let more = ap length r in omega (arith, length-append w v))

module _ {A : Type 0} (P : A → Type 0) (m : A → List Leveled) where
  -- some value has a spelling that begins with the tokens
  record Spelling (before : List Token) : Type 0 where
    value : A
    is : P value
    more : List Token
    whole : tokens_of (m value) ≡ before ++ more

  begins_spelling : (before : List Token) → Begins P m before → Spelling before
  begins_spelling before b = record {
    value = b.value;
    is = b.is;
    more = tokens_of b.more;
    whole = ap tokens_of b.whole ∙ map-append (λ (l : Leveled). l.0) b.prefix b.more ∙ ap (λ (l : List Token). l ++ tokens_of b.more) (sym b.tokens);
  }

  -- no spelling has the first stray token in its place
  no_spelling : (before bad w : List Token) (b : Token) → IsFirstStray P m before bad → bad ≡ b ∷ w → (a : A) → P a → (prefix other : List Token) → tokens_of (m a) ≡ prefix ++ other → (v : List Token) → prefix ++ other ≡ before ++ b ∷ v → ⊥
  no_spelling before bad w b s at a p prefix other h v same = s.none b w at a v p (h ∙ same)

  same_stray : (before bad prefix other : List Token) → IsFirstStray P m before bad → IsFirstStray P m prefix other → before ++ bad ≡ prefix ++ other → length bad ≡ length other
  same_stray before bad prefix other s t h =
      elim (two_cuts before bad prefix other h) [
        | inl c ↦ not_after c.between c.prefix c.rest
        | inr c ↦
            let x = begins_spelling before s.begun in
            absurd (t.none c.next (c.between ++ bad) c.rest x.value (c.between ++ x.more) x.is (x.whole ∙ ap (λ (l : List Token). l ++ x.more) c.prefix ∙ append_assoc prefix (c.next ∷ c.between) x.more))
      ]
    where
      not_after : (w : List Token) → prefix ≡ before ++ w → bad ≡ w ++ other → length bad ≡ length other
      not_after [] f r = ap length r
      not_after (b ∷ w) f r =
          let x = begins_spelling prefix t.begun in
          absurd (s.none b (w ++ other) r x.value (w ++ x.more) x.is (x.whole ∙ ap (λ (l : List Token). l ++ x.more) f ∙ append_assoc before (b ∷ w) x.more))

checked_low : {B : Type 0} (ms : List Leveled) (k : List Token) (y : B) (n : ℕ) → checked ms k (Ok y) ≡ Err (Deep n) → n ≤ length (tokens_of ms ++ k)
checked_low {B} [] k y n h = absurd (let no : done y ≡ Err (Deep n) = h in cc)
checked_low {B} (l ∷ ms) k y n h =
    elim (cases_bool (is_over l)) [
      | inl o ↦ (let at : deep {A = B} (l.0 ∷ (tokens_of ms ++ k)) ≡ Err (Deep n) = rw o at h in let size : n ≡ length (l.0 ∷ (tokens_of ms ++ k)) = cc in omega arith)
      | inr o ↦ (let less = checked_low ms k y n (rw o at h) in omega arith)
    ]

too_low : (w more : List Token) (over : Token) → length (over ∷ (w ++ more)) ≤ length (more ++ []) → ⊥
too_low w more over h = omega (arith, length-append w more, ap length (append-nil more))

module _ {A : Type 0} {P : A → Type 0} {m : A → List Leveled} {e : A → Option Token → Bool} {r : Reader A} (R : Reads P m e r) (ends_text : (a : A) → P a → e a None ≡ true) where
  -- where all is read, or not: only a fault of the reader is a depth
  deep_read : (ts : List Token) (n : ℕ) → all_at r ts ≡ Err (Deep n) → r ts ≡ Err (Deep n)
  unfolding all_at
  deep_read ts n h =
      elim (bind_err (r ts) (λ x. cond (eqb (length x.1) 0) (Ok x.0) (stray x.1)) (Deep n) h) [
        | inl f ↦ f
        | inr x ↦ absurd (never x.0 x.2)
      ]
    where
      never : (x : A × List Token) → cond (eqb (length x.1) 0) (Ok x.0) (stray x.1) ≡ Err (Deep n) → ⊥
      never x h =
          elim (cases_bool (eqb (length x.1) 0)) [
            | inl y ↦ absurd (let no : done x.0 ≡ Err (Deep n) = rw y at h in cc)
            | inr y ↦ absurd (let no : stray {A = A} x.1 ≡ Err (Deep n) = rw y at h in cc)
          ]

  -- what begins something within the limits has no depth in it
  prefix_not_deep : (before u w : List Token) (over : Token) → Begins P m before → before ≡ u ++ over ∷ w → ((other : List Token) → all_at r (u ++ over ∷ other) ≡ Err (Deep (length (over ∷ other)))) → ⊥
  prefix_not_deep before u w over b at only =
      let more = tokens_of b.more in
      let ts = tokens_of (m b.value) in
      let spelled : ts ≡ u ++ over ∷ (w ++ more) =
      ap tokens_of b.whole ∙ map-append (λ (l : Leveled). l.0) b.prefix b.more ∙ ap (λ (l : List Token). l ++ more) (sym b.tokens ∙ at) ∙ append_assoc u (over ∷ w) more in
      let fails : r ts ≡ Err (Deep (length (over ∷ (w ++ more)))) = deep_read ts (length (over ∷ (w ++ more))) (ap (all_at r) spelled ∙ only (w ++ more)) in
      let rest : checked (m b.value) [] (Ok (b.value, [])) ≡ checked b.more [] (Ok (b.value, [])) =
      ap (λ (l : List Leveled). checked l [] (Ok (b.value, []))) b.whole
      ∙ checked-append b.prefix b.more [] (Ok (b.value, []))
      ∙ checked-within b.prefix (tokens_of b.more ++ []) (checked b.more [] (Ok (b.value, []))) b.within in
      let low : length (over ∷ (w ++ more)) ≤ length (tokens_of b.more ++ []) = checked_low b.more [] (b.value, []) (length (over ∷ (w ++ more))) (sym (again_all R ends_text b.value ts b.is refl ∙ rest) ∙ fails) in
      too_low w more over low

  -- all is not read where a token is stray
  not_found : (before bad : List Token) (a : A) → IsFirstStray P m before bad → P a → before ++ bad ≡ tokens_of (m a) → ⊥
  not_found before [] a s p h = s.short refl a p (sym h ∙ append-nil before)
  not_found before (b ∷ rest) a s p h = s.none b rest refl a rest p (sym h)

  -- no depth comes first where a token is stray
  not_first_deep : (before bad : List Token) (n : ℕ) → IsFirstStray P m before bad → DeepAt P m r (before ++ bad) n → ⊥
  not_first_deep before bad n s d =
      elim (two_cuts before bad d.before (d.over ∷ d.rest) d.parts) [
        | inl c ↦ not_after c.between c.prefix c.rest
        | inr c ↦ (let same : c.next ≡ d.over = sym (ap (head_or d.over) c.rest) in prefix_not_deep before d.before c.between d.over s.begun (c.prefix ∙ ap (λ (t : Token). d.before ++ t ∷ c.between) same) d.only)
      ]
    where
      f : IsFirstDeep P m d.before (d.over ∷ d.rest)
      f = d.first

      spelled : tokens_of (m d.first.value) ≡ d.before ++ d.over ∷ tokens_of d.first.more
      spelled =
          ap tokens_of d.first.whole
          ∙ map-append (λ (l : Leveled). l.0) d.first.prefix (d.first.over ∷ d.first.more)
          ∙ ap (λ (l : List Token). l ++ d.first.over.0 ∷ tokens_of d.first.more) (sym d.first.tokens)
          ∙ ap (λ (t : Token). d.before ++ t ∷ tokens_of d.first.more) (sym (ap (head_or d.over) d.first.bad_is))

      not_after : (w : List Token) → d.before ≡ before ++ w → bad ≡ w ++ d.over ∷ d.rest → ⊥
      not_after [] x y = s.none d.over d.rest y d.first.value (tokens_of d.first.more) d.first.is (spelled ∙ ap (λ (l : List Token). l ++ d.over ∷ tokens_of d.first.more) (x ∙ append-nil before))
      not_after (b ∷ w) x y = s.none b (w ++ d.over ∷ d.rest) y d.first.value (w ++ d.over ∷ tokens_of d.first.more) d.first.is (spelled ∙ ap (λ (l : List Token). l ++ d.over ∷ tokens_of d.first.more) x ∙ append_assoc before (b ∷ w) (d.over ∷ tokens_of d.first.more))

  -- a first stray token is found
  pub stray_again : (before bad : List Token) → IsFirstStray P m before bad → all_at r (before ++ bad) ≡ Err (Stray (length bad))
  stray_again before bad s = by_answer (all_at r (before ++ bad)) refl
    where
      by_answer : (read : Result A Fault) → all_at r (before ++ bad) ≡ read → all_at r (before ++ bad) ≡ Err (Stray (length bad))
      by_answer (Ok a) h = (let f = all_found R ends_text (before ++ bad) a h in absurd (not_found before bad a s f.0 f.1))
      by_answer (Err (Stray n)) h =
          let d = all_stray R ends_text (before ++ bad) n h in
          h ∙ ap (λ k. Err (Stray k)) (d.left ∙ sym (same_stray P m before bad d.before d.bad s d.first d.parts))
      by_answer (Err (Deep n)) h = absurd (not_first_deep before bad n s (all_deep R ends_text (before ++ bad) n h))

  -- a first token past a limit is found
  pub deep_again : (before bad : List Token) → IsFirstDeep P m before bad → all_at r (before ++ bad) ≡ Err (Deep (length bad))
  unfolding all_at
  deep_again before bad d =
      let more = tokens_of d.more in
      let ts = tokens_of (m d.value) in
      let spelled : ts ≡ before ++ d.over.0 ∷ more =
      ap tokens_of d.whole ∙ map-append (λ (l : Leveled). l.0) d.prefix (d.over ∷ d.more) ∙ ap (λ (l : List Token). l ++ d.over.0 ∷ more) (sym d.tokens) in
      let over : checked (d.over ∷ d.more) [] (Ok (d.value, [])) ≡ deep (d.over.0 ∷ (more ++ [])) = rw d.past refl in
      let read : r ts ≡ deep (d.over.0 ∷ (more ++ [])) =
      again_all R ends_text d.value ts d.is refl
      ∙ ap (λ (l : List Leveled). checked l [] (Ok (d.value, []))) d.whole
      ∙ checked-append d.prefix (d.over ∷ d.more) [] (Ok (d.value, []))
      ∙ checked-within d.prefix (tokens_of (d.over ∷ d.more) ++ []) (checked (d.over ∷ d.more) [] (Ok (d.value, []))) d.within
      ∙ over in
      let n = length (d.over.0 ∷ (more ++ [])) in
      let found = all_deep R ends_text ts n (ap (λ read. read >>= λ x. cond (eqb (length x.1) 0) (Ok x.0) (stray x.1)) read) in
      let size : length (found.over ∷ found.rest) ≡ length (d.over.0 ∷ more) = sym found.left ∙ ap (λ (l : List Token). length (d.over.0 ∷ l)) (append-nil more) in
      let same = same_cut found.before (found.over ∷ found.rest) before (d.over.0 ∷ more) (sym found.parts ∙ spelled) size in
      let head : found.over ≡ d.over.0 = ap (head_or d.over.0) same.1 in
      let moved : found.before ++ found.over ∷ d.rest ≡ before ++ bad =
      ap (λ (l : List Token). l ++ found.over ∷ d.rest) same.0 ∙ ap (λ (t : Token). before ++ t ∷ d.rest) head ∙ ap (λ (l : List Token). before ++ l) (sym d.bad_is) in
      ap (all_at r) (sym moved) ∙ found.only d.rest ∙ ap (λ k. Err (Deep k)) (ap (λ (t : Token). length (t ∷ d.rest)) head ∙ ap length (sym d.bad_is))
