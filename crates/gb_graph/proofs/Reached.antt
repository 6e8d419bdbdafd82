-- What is marked is what is reached.
use Rattle.std.specs.Prelude.{ℕ, zero, suc, ◌≡◌, ◌<◌, ◌+◌, ◌⊎◌, List, [], ◌∷◌, ◌++◌, length, Contains, Bool, true, false, get_or, take, replicate, refl}
use Rattle.std.proofs.Common.{sym, ap, subst, ◌∙◌, inl, inr, arith}
use Rattle.std.proofs.Math.ListN.{set}
use Rattle.std.proofs.lemmas.Bool.{cases_eq, cases_Bool}
use Rattle.std.proofs.lemmas.List.{get_or_default, get_or-set_same, get_or-set_other, length-append}
use Rattle.std.proofs.lemmas.List.Elements.{Contains-append_left, Contains-push, Contains-push_cases}
use Rattle.gb_graph.specs.Order.{row}
use Rattle.gb_graph.specs.Settled.{is_marked, missing}
use Rattle.gb_graph.specs.Reach.{Reaches, start, step, IsFirstStart, IsClosed, IsMarked, IsSpread, Spreads}
use Rattle.gb_graph.proofs.Edges.{take_grows}
use Rattle.gb_graph.proofs.Keeping.{mark_kept, mark_other, not_both}

-- ---- One after another

pub marked_none : (exists : List Bool) (words fresh : List ℕ) (word : ℕ) → IsMarked exists exists words words fresh fresh [] word
marked_none exists words fresh word = record {
  stays = λ k h. h;
  marks = λ k c. absurd (omega (arith, c.1));
  only = λ k h. inl h;
  same = λ k h. refl;
  new = λ k e h. not_both h e;
  kept = λ k c. c;
  made = λ k c. inl c;
  count = refl;
}

module _ (exists exists' : List Bool) (words words' fresh fresh' tasks : List ℕ) (word i : ℕ) (lt : i < length tasks)
    (m : IsMarked exists exists' words words' fresh fresh' (take i tasks) word) where
  abbrev t : ℕ
  t = get_or tasks i 0

  grows_to : (k : ℕ) → Contains (take (i + 1) tasks) k → Contains (take i tasks) k ⊎ (t ≡ k)
  grows_to k = (take_grows tasks i t k lt (get_or_default tasks i 0 t lt)).0

  grows_back : (k : ℕ) → Contains (take i tasks) k ⊎ (t ≡ k) → Contains (take (i + 1) tasks) k
  grows_back k = (take_grows tasks i t k lt (get_or_default tasks i 0 t lt)).1

  pub marked_old : is_marked exists' t ≡ true → IsMarked exists exists' words words' fresh fresh' (take (i + 1) tasks) word
  marked_old is = record {
    stays = m.stays;
    marks = λ k c. elim (grows_to k c) [ inl old ↦ m.marks k old | inr e ↦ ap (is_marked exists') (sym e) ∙ is ];
    only = λ k h. elim (m.only k h) [ inl old ↦ inl old | inr c ↦ inr (grows_back k (inl c)) ];
    same = m.same;
    new = m.new;
    kept = m.kept;
    made = λ k c. elim (m.made k c) [ inl old ↦ inl old | inr d ↦ inr (grows_back k (inl d)) ];
    count = m.count;
  }

  pub marked_new : t < length exists' → t < length words' → is_marked exists' t ≡ false
      → IsMarked exists (set exists' t true) words (set words' t word) fresh (fresh' ++ t ∷ []) (take (i + 1) tasks) word
  marked_new in_exists in_words lacks =
      let here : is_marked (set exists' t true) t ≡ true = get_or-set_same exists' t true false in_exists in
      record {
        stays = λ k h. mark_kept exists' t k in_exists (m.stays k h);
        marks = λ k c. elim (grows_to k c) [ inl old ↦ mark_kept exists' t k in_exists (m.marks k old) | inr e ↦ ap (is_marked (set exists' t true)) (sym e) ∙ here ];
        only = λ k h. elim (cases_eq k t) [
          | inl e ↦ inr (grows_back k (inr (sym e)))
          | inr separate ↦ elim (m.only k (sym (mark_other exists' t k separate) ∙ h)) [ inl old ↦ inl old | inr c ↦ inr (grows_back k (inl c)) ]
        ];
        same = λ k h. elim (cases_eq k t) [
          | inl e ↦ not_both (m.stays k h) (ap (is_marked exists') e ∙ lacks)
          | inr separate ↦ get_or-set_other words' t k word 0 separate ∙ m.same k h
        ];
        new = λ k e h. elim (cases_eq k t) [
          | inl same ↦ (ap (λ v. get_or (set words' t word) v 0) same ∙ get_or-set_same words' t word 0 in_words, subst (Contains (fresh' ++ t ∷ [])) (sym same) (Contains-push fresh' t))
          | inr separate ↦ let old = m.new k e (sym (mark_other exists' t k separate) ∙ h) in
              (get_or-set_other words' t k word 0 separate ∙ old.0, Contains-append_left fresh' (t ∷ []) k old.1)
        ];
        kept = λ k c. Contains-append_left fresh' (t ∷ []) k (m.kept k c);
        made = λ k c. elim (Contains-push_cases fresh' t k c) [
          | inl old ↦ elim (m.made k old) [ inl o ↦ inl o | inr d ↦ inr (grows_back k (inl d)) ]
          | inr e ↦ inr (grows_back k (inr e))
        ];
        count =
            let less = counts exists' t in_exists lacks in
            omega (arith, m.count, less, length-append fresh' (t ∷ []));
      }
    where
      counts : (bs : List Bool) (j : ℕ) → j < length bs → is_marked bs j ≡ false → missing (set bs j true) + 1 ≡ missing bs
      counts [] j l e = absurd (omega (arith, l))
      counts (true ∷ bs) zero l e = not_both refl e
      counts (false ∷ bs) zero l e = refl
      counts (true ∷ bs) (suc j) l e = counts bs j (omega (arith, l)) e
      counts (false ∷ bs) (suc j) l e = let rest = counts bs j (omega (arith, l)) e in omega (arith, rest)

-- ---- From the starts on

module _ (table : List (List ℕ)) (starts : List ℕ) (word : ℕ) (exists : List Bool) (words : List ℕ) where
  pub spreads_begin : (exists' : List Bool) (words' fresh' : List ℕ) → IsClosed table exists → IsMarked exists exists' words words' [] fresh' starts word
      → Spreads table starts word exists exists' words words' fresh'
  spreads_begin exists' words' fresh' closed m = record {
    stays = m.stays;
    begun = m.marks;
    only = λ k h. elim (m.only k h) [ inl old ↦ inl old | inr c ↦ inr (start c) ];
    same = m.same;
    new = λ k e h. (m.new k e h).0;
    goes = λ k task h c. elim (cases_Bool (is_marked exists k)) [
      | inl old ↦ inl (m.stays task (closed k task old c))
      | inr lacks ↦ inr (m.new k lacks h).1
    ];
    reached = λ k c. elim (m.made k c) [ inl none ↦ absurd (omega (arith, none.1)) | inr d ↦ start d ];
  }

  pub spreads_on : (exists₁ exists₂ : List Bool) (words₁ words₂ fresh₁ fresh₂ whole tasks : List ℕ) (t : ℕ) → whole ≡ fresh₁ ++ t ∷ [] → tasks ≡ row table t
      → Spreads table starts word exists exists₁ words words₁ whole → IsMarked exists₁ exists₂ words₁ words₂ fresh₁ fresh₂ tasks word
      → Spreads table starts word exists exists₂ words words₂ fresh₂
  spreads_on exists₁ exists₂ words₁ words₂ fresh₁ fresh₂ whole tasks t popped is s m =
      let from : Reaches table starts t = s.reached t (subst (λ fs. Contains fs t) (sym popped) (Contains-push fresh₁ t)) in
      let along : (k : ℕ) → Contains tasks k → Reaches table starts k = λ k c. step from (subst (λ ts. Contains ts k) is c) in
      record {
        stays = λ k h. m.stays k (s.stays k h);
        begun = λ k c. m.stays k (s.begun k c);
        only = λ k h. elim (m.only k h) [ inl old ↦ s.only k old | inr c ↦ inr (along k c) ];
        same = λ k h. m.same k (s.stays k h) ∙ s.same k h;
        new = λ k e h. elim (cases_Bool (is_marked exists₁ k)) [
          | inl old ↦ m.same k old ∙ s.new k e old
          | inr lacks ↦ (m.new k lacks h).0
        ];
        goes = λ k task h c. elim (cases_Bool (is_marked exists₁ k)) [
          | inl old ↦ elim (s.goes k task old c) [
            | inl g ↦ inl (m.stays task g)
            | inr waits ↦ elim (Contains-push_cases fresh₁ t k (subst (λ fs. Contains fs k) popped waits)) [
              | inl f ↦ inr (m.kept k f)
              | inr e ↦ inl (m.marks task (subst (λ ts. Contains ts task) (sym is) (subst (λ v. Contains (row table v) task) (sym e) c)))
            ]
          ]
          | inr lacks ↦ inr (m.new k lacks h).1
        ];
        reached = λ k c. elim (m.made k c) [
          | inl f ↦ s.reached k (subst (λ fs. Contains fs k) (sym popped) (Contains-append_left fresh₁ (t ∷ []) k f))
          | inr d ↦ along k d
        ];
      }

  pub spreads_end : (exists' : List Bool) (words' fresh : List ℕ) → fresh ≡ [] → Spreads table starts word exists exists' words words' fresh
      → IsSpread table starts word exists exists' words words'
  spreads_end exists' words' fresh none s = record {
    stays = s.stays;
    whole = whole;
    only = s.only;
    same = s.same;
    new = s.new;
    closed = closed;
  }
    where
      closed : IsClosed table exists'
      closed k task h c = elim (s.goes k task h c) [
        | inl g ↦ g
        | inr f ↦ let lt = (subst (λ fs. Contains fs k) none f).1 in absurd (omega (arith, lt))
      ]

      whole : (k : ℕ) → Reaches table starts k → is_marked exists' k ≡ true
      whole k (start c) = s.begun k c
      whole k (step {from = from} r c) = closed from k (whole from r) c

-- ---- Start by start

-- the marks of the first of the starts
pub record AreFirst (table starts : List (List ℕ)) (count : ℕ) (exists : List Bool) (words : List ℕ) : Type 0 where
  pub closed : IsClosed table exists
  pub whole : (index task : ℕ) → index < count → Reaches table (row starts index) task → is_marked exists task ≡ true
  pub first : (task : ℕ) → is_marked exists task ≡ true → (get_or words task 0 < count) × IsFirstStart table starts task (get_or words task 0)

pub first_more : (table starts : List (List ℕ)) (i : ℕ) → i < length starts → (exists exists' : List Bool) (words words' : List ℕ) → AreFirst table starts i exists words
    → (these : List ℕ) → these ≡ row starts i → IsSpread table these i exists exists' words words' → AreFirst table starts (i + 1) exists' words'
first_more table starts i lt exists exists' words words' old these is s = record {
  closed = s.closed;
  whole = λ index task low r. elim (cases_eq index i) [
    | inl e ↦ s.whole task (subst (λ ts. Reaches table ts task) (ap (row starts) e ∙ sym is) r)
    | inr separate ↦ s.stays task (old.whole index task (omega (arith, low, separate)) r)
  ];
  first = λ task h. elim (cases_Bool (is_marked exists task)) [
    | inl existed ↦
        let same : get_or words' task 0 ≡ get_or words task 0 = s.same task existed in
        let f = old.first task existed in
        (omega (arith, f.0, same), subst (IsFirstStart table starts task) (sym same) f.1)
    | inr lacks ↦
        let same : get_or words' task 0 ≡ i = s.new task lacks h in (
          omega (arith, same),
          subst (IsFirstStart table starts task) (sym same) (record {
            within = lt;
            reaches = elim (s.only task h) [ inl existed ↦ not_both existed lacks | inr r ↦ subst (λ ts. Reaches table ts task) is r ];
            none_before = λ j low r. not_both (old.whole j task low r) lacks;
          }),
        )
  ];
}

pub prefix_of : {X : Type 0} (n : ℕ) (new rest : List X) → length new ≡ n → take n (new ++ rest) ≡ new
prefix_of n new rest e = ap (λ k. take k (new ++ rest)) (sym e) ∙ whole new rest
  where
    whole : {X : Type 0} (xs ys : List X) → take (length xs) (xs ++ ys) ≡ xs
    whole [] ys = refl
    whole (x ∷ xs) ys = ap (λ zs. x ∷ zs) (whole xs ys)

pub marked_as : (exists exists₁ exists₂ : List Bool) (words words₁ words₂ fresh fresh₁ fresh₂ tasks tasks₂ : List ℕ) (word : ℕ)
    → exists₂ ≡ exists₁ → words₂ ≡ words₁ → fresh₂ ≡ fresh₁ → tasks₂ ≡ tasks
    → IsMarked exists exists₁ words words₁ fresh fresh₁ tasks word → IsMarked exists exists₂ words words₂ fresh fresh₂ tasks₂ word
marked_as exists exists₁ exists₂ words words₁ words₂ fresh fresh₁ fresh₂ tasks tasks₂ word p q r s m =
    subst (λ v. IsMarked exists v words words₂ fresh fresh₂ tasks₂ word) (sym p)
    (subst (λ v. IsMarked exists exists₁ words v fresh fresh₂ tasks₂ word) (sym q)
    (subst (λ v. IsMarked exists exists₁ words words₁ fresh v tasks₂ word) (sym r)
    (subst (λ v. IsMarked exists exists₁ words words₁ fresh fresh₁ v word) (sym s) m)))

pub first_none : (table starts : List (List ℕ)) (exists : List Bool) (words : List ℕ) → ((k : ℕ) → is_marked exists k ≡ false) → AreFirst table starts 0 exists words
first_none table starts exists words none = record {
  closed = λ k task h c. not_both h (none k);
  whole = λ index task low r. absurd (omega (arith, low));
  first = λ task h. not_both h (none task);
}

pub first_as : (table starts : List (List ℕ)) (count : ℕ) (exists exists' : List Bool) (words words' : List ℕ) → exists' ≡ exists → words' ≡ words → AreFirst table starts count exists words
    → AreFirst table starts count exists' words'
first_as table starts count exists exists' words words' p q f = subst (λ v. AreFirst table starts count v words') (sym p) (subst (AreFirst table starts count exists) (sym q) f)

pub spread_as : (table : List (List ℕ)) (starts : List ℕ) (word : ℕ) (exists exists₀ exists' : List Bool) (words words₀ words' : List ℕ) → exists₀ ≡ exists → words₀ ≡ words
    → IsSpread table starts word exists₀ exists' words₀ words' → IsSpread table starts word exists exists' words words'
spread_as table starts word exists exists₀ exists' words words₀ words' p q s = subst (λ v. IsSpread table starts word v exists' words words') p (subst (λ v. IsSpread table starts word exists₀ exists' v words') q s)

pub reached_known : (table : List (List ℕ)) (starts : List ℕ) (n : ℕ) → ((k task : ℕ) → Contains (row table k) task → task < n) → ((k : ℕ) → Contains starts k → k < n)
    → (k : ℕ) → Reaches table starts k → k < n
reached_known table starts n tasks known k (start c) = known k c
reached_known table starts n tasks known k (step {from = from} r c) = tasks from k c

pub none_exist : (n k : ℕ) → is_marked (replicate n false) k ≡ false
none_exist zero k = refl
none_exist (suc n) zero = refl
none_exist (suc n) (suc k) = none_exist n k

pub nil_of : {X : Type 0} (xs : List X) → length xs ≡ 0 → xs ≡ []
nil_of [] e = refl
nil_of (x ∷ xs) e = absurd (omega (arith, e))
