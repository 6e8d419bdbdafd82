-- Reading lines gives the lines of what is read.
use Rattle.std.proofs.Common.{◌≡◌, ℕ, zero, suc, ◌+◌, ◌-◌, Bool, true, false, cond, List, [], ◌∷◌, length, Option, None, Some, Result, Ok, Err, refl, sym, ap, ◌∙◌, arith, inl, inr, eqb, length-append}
use Rattle.std.proofs.lemmas.List.{length-map}
use Rattle.gb_script.specs.declared.token_fault.Fault.{Fault}
use Rattle.gb_script.specs.declared.token.Sign.TheVariants.{OpenBrace, CloseBrace}
use Rattle.gb_script.specs.declared.token.Token.{Token}
use Rattle.gb_script.specs.declared.token.Token.TheVariants.{Word, Text, Mark, Wrong}
use Rattle.gb_script.specs.declared.keywords.StatementWord.{StatementWord}
use Rattle.gb_script.specs.declared.keywords.StatementWord.TheVariants as words
use Rattle.gb_script.specs.declared.keywords.PropertyWord.TheVariants as properties
use Rattle.gb_script.specs.declared.script.Call.{Call}
use Rattle.gb_script.specs.declared.script.Clause.{Clause}
use Rattle.gb_script.specs.declared.script.Statement.{Statement}
use Rattle.gb_script.specs.declared.script.Statement.TheVariants as statements
use Rattle.gb_script.specs.Lexing.{begins}
use Rattle.gb_script.specs.Words.{statement_words, meaning_in}
use Rattle.gb_script.specs.Grammar.{Leveled, tokens_of, sign, action_tokens, clause_tokens, statement_tokens}
use Rattle.gb_script.specs.Reading.{Reader, ◌>>=◌, stray, is_sign, is_any, no_matter, skip_at, name_at, property_at, text_at, found_at, meaning_at, many_at, list_at, pair_at, all_at}
use Rattle.gb_script.specs.Readers.{in_block, clause_at, block_at, action_at, assignment_at, registration_from, registration_at, configuration_from, configuration_at, property_of_at, statement_of_at, statement_at, script_at}
use Rattle.gb_script.specs.Lines.{clauses_in, before_clauses}
use Rattle.gb_script.specs.LineReaders.{clause_line_at, block_lines_at, registration_lines_at, configuration_lines_at, no_lines_at, clause_lines_at, statement_lines_at, script_lines_at}
use Rattle.gb_script.proofs.Runs.{cases_bool}
use Rattle.gb_script.proofs.Readers.{Reads, ok_is}
use Rattle.gb_script.proofs.Singles.{Reads-name}
use Rattle.gb_script.proofs.ClauseLaws.{Reads-clause}
use Rattle.gb_script.proofs.StatementLaws.{Reads-action, Reads-statement}

-- f of each of these that are derived one after another, with how many tokens are left from its first one on
abbrev pub firsts : {A B : Type 0} → (A → ℕ → B) → (A → List Leveled) → List A → ℕ → List B
firsts f m [] n = []
firsts f m (x ∷ xs) n = f x n ∷ firsts f m xs (n - length (m x))

-- f of what is read and of how many tokens there are
abbrev pub applied : {A B : Type 0} → (A → ℕ → B) → ℕ → A × List Token → Result (B × List Token) Fault
applied f n x = Ok (f x.0 n, x.1)

assoc : {A B C : Type 0} (r : Result A Fault) (f : A → Result B Fault) (g : B → Result C Fault) → ((r >>= f) >>= g) ≡ (r >>= λ x. f x >>= g)
assoc (Ok x) f g = refl
assoc (Err e) f g = refl

bind_same : {A B : Type 0} (r : Result A Fault) (f g : A → Result B Fault) → ((x : A) → r ≡ Ok x → f x ≡ g x) → (r >>= f) ≡ (r >>= g)
bind_same (Ok x) f g h = h x refl
bind_same (Err e) f g h = refl

pair_flat : {A B C : Type 0} (first : Reader A) (second : Reader B) (ts : List Token) (g : (A × B) × List Token → Result C Fault) → (pair_at first second ts >>= g) ≡ (first ts >>= λ x. second x.1 >>= λ y. g ((x.0, y.0), y.1))
pair_flat first second ts g = assoc (first ts) (λ x. second x.1 >>= λ y. Ok ((x.0, y.0), y.1)) g ∙ bind_same (first ts) _ _ (λ x is. assoc (second x.1) (λ y. Ok ((x.0, y.0), y.1)) g)

pub read_size : {A : Type 0} {P : A → Type 0} {m : A → List Leveled} {e : A → Option Token → Bool} {r : Reader A} (R : Reads P m e r) (ts rest : List Token) (a : A) → r ts ≡ Ok (a, rest) → length rest ≡ length ts - length (m a)
read_size {m} R ts rest a h =
    let t = R.takes ts rest a h in
    let all = ap length t.spelled in
    omega (arith, all, length-append (tokens_of (m a)) rest, length-map (m a) (λ (l : Leveled). l.0))

skip_size : (test : Token → Bool) (ts rest : List Token) → skip_at test ts ≡ Ok rest → length rest ≡ length ts - 1
unfolding skip_at
skip_size test [] rest h = absurd cc
skip_size test (t ∷ ts) rest h =
    elim (cases_bool (test t)) [
      | inl y ↦ (let same : ts ≡ rest = (let is : cond true (Ok ts) (stray (t ∷ ts)) ≡ Ok rest = ap (λ b. cond b (Ok ts) (stray (t ∷ ts))) (sym y) ∙ h in cc) in omega (arith, ap length same))
      | inr n ↦ absurd (let no : cond false (Ok ts) (stray (t ∷ ts)) ≡ Ok rest = ap (λ b. cond b (Ok ts) (stray (t ∷ ts))) (sym n) ∙ h in cc)
    ]

word_size : (ts : List Token) (w : StatementWord × List Token) → meaning_at statement_words ts ≡ Ok w → length w.1 + 1 ≡ length ts
unfolding meaning_at
word_size [] w h = absurd cc
word_size (Word v ∷ ts) w h = found (meaning_in statement_words v) h
  where
    found : (o : Option StatementWord) → found_at (Word v ∷ ts) ts o ≡ Ok w → length w.1 + 1 ≡ length (Word v ∷ ts)
    found None h = absurd cc
    found (Some k) h = (let same : ts ≡ w.1 = cc in omega (arith, ap length same))
word_size (Text v ∷ ts) w h = absurd cc
word_size (Mark v ∷ ts) w h = absurd cc
word_size (Wrong ∷ ts) w h = absurd cc

-- the word of a statement without a block
abbrev HasNoBlock : StatementWord → Type 0
HasNoBlock words.DefaultTasks = Unit {0}
HasNoBlock (words.Property word) = Unit {0}
HasNoBlock words.Register = ⊥
HasNoBlock words.Named = ⊥

abbrev made_of : {A : Type 0} → (A → Statement) → A × List Token → Result (Statement × List Token) Fault
made_of f x = Ok (f x.0, x.1)

made_none : {A : Type 0} (r : Result (A × List Token) Fault) (f : A → Statement) → ((a : A) → clauses_in (f a) ≡ []) → (s : Statement) (rest : List Token) → (r >>= made_of f) ≡ Ok (s, rest) → clauses_in s ≡ []
made_none (Err e) f none s rest h = absurd cc
made_none (Ok x) f none s rest h = ap clauses_in (sym (ap (λ (p : Statement × List Token). p.0) (ok_is (f x.0, x.1) (s, rest) h))) ∙ none x.0

no_block : (k : StatementWord) → HasNoBlock k → (ts : List Token) (s : Statement) (rest : List Token) → statement_of_at 64 k ts ≡ Ok (s, rest) → clauses_in s ≡ []
unfolding statement_of_at property_of_at
no_block words.DefaultTasks p ts = made_none (list_at text_at ts) statements.DefaultTasks (λ a. refl)
no_block (words.Property properties.Declare) p ts = made_none (property_at ts) statements.Property (λ a. refl)
no_block (words.Property properties.Set) p ts = made_none (assignment_at property_at 64 ts) statements.Set (λ a. refl)
no_block (words.Property properties.Convention) p ts = made_none (assignment_at property_at 64 ts) statements.Convention (λ a. refl)
no_block (words.Property properties.Unset) p ts = made_none (property_at ts) statements.Unset (λ a. refl)
no_block (words.Property properties.DisallowChanges) p ts = made_none (property_at ts) statements.DisallowChanges (λ a. refl)
no_block words.Register p ts = absurd p
no_block words.Named p ts = absurd p

-- ---- one after another

module _ {A B : Type 0} (test : Token → Bool) (m : A → List Leveled) (f : A → ℕ → B) (r : Reader A) (q : Reader B)
    (same : (ts : List Token) → q ts ≡ (r ts >>= applied f (length ts)))
    (size : (ts rest : List Token) (a : A) → r ts ≡ Ok (a, rest) → length rest ≡ length ts - length (m a)) where
  abbrev many_q : ℕ → List Token → Result (List B × List Token) Fault
  many_q n ts = many_at test no_matter (λ s. q) n tt ts

  abbrev many_r : ℕ → List Token → Result (List A × List Token) Fault
  many_r n ts = many_at test no_matter (λ s. r) n tt ts

  abbrev all_of : ℕ → List A × List Token → Result (List B × List Token) Fault
  all_of n x = applied (firsts f m) n x

  step_q : (n : ℕ) (ts : List Token) → begins test ts ≡ true → many_q (suc n) ts ≡ (q ts >>= λ x. many_q n x.1 >>= λ y. Ok (x.0 ∷ y.0, y.1))
  unfolding many_at
  step_q n ts h = rw h refl

  step_r : (n : ℕ) (ts : List Token) → begins test ts ≡ true → many_r (suc n) ts ≡ (r ts >>= λ x. many_r n x.1 >>= λ y. Ok (x.0 ∷ y.0, y.1))
  unfolding many_at
  step_r n ts h = rw h refl

  none_left : (n : ℕ) (ts : List Token) → begins test ts ≡ false → many_q n ts ≡ (many_r n ts >>= all_of (length ts))
  unfolding many_at
  none_left zero ts h = rw h refl
  none_left (suc n) ts h = rw h refl

  too_many : (ts : List Token) → begins test ts ≡ true → many_q 0 ts ≡ (many_r 0 ts >>= all_of (length ts))
  unfolding many_at
  too_many ts h = rw h refl

  go_on : (n : ℕ) (ts : List Token) → begins test ts ≡ true → ((k : List Token) → many_q n k ≡ (many_r n k >>= all_of (length k))) → many_q (suc n) ts ≡ (many_r (suc n) ts >>= all_of (length ts))
  go_on n ts h others =
      step_q n ts h
      ∙ ap (λ z. z >>= λ x. many_q n x.1 >>= λ y. Ok (x.0 ∷ y.0, y.1)) (same ts)
      ∙ assoc (r ts) (applied f (length ts)) (λ x. many_q n x.1 >>= λ y. Ok (x.0 ∷ y.0, y.1))
      ∙ bind_same (r ts) _ _ (λ x is.
      ap (λ z. z >>= λ y. Ok (f x.0 (length ts) ∷ y.0, y.1)) (others x.1)
      ∙ assoc (many_r n x.1) (all_of (length x.1)) (λ y. Ok (f x.0 (length ts) ∷ y.0, y.1))
      ∙ bind_same (many_r n x.1) _ (λ y. all_of (length ts) (x.0 ∷ y.0, y.1)) (λ y found. ap (λ k. Ok (f x.0 (length ts) ∷ firsts f m y.0 k, y.1)) (size ts x.1 x.0 is))
      ∙ sym (assoc (many_r n x.1) (λ y. Ok (x.0 ∷ y.0, y.1)) (all_of (length ts))))
      ∙ sym (assoc (r ts) (λ x. many_r n x.1 >>= λ y. Ok (x.0 ∷ y.0, y.1)) (all_of (length ts)))
      ∙ ap (λ z. z >>= all_of (length ts)) (sym (step_r n ts h))

  pub many_same : (n : ℕ) (ts : List Token) → many_q n ts ≡ (many_r n ts >>= all_of (length ts))
  many_same zero ts =
      elim (cases_bool (begins test ts)) [
        | inl y ↦ too_many ts y
        | inr n ↦ none_left 0 ts n
      ]
  many_same (suc k) ts =
      elim (cases_bool (begins test ts)) [
        | inl y ↦ go_on k ts y (many_same k)
        | inr n ↦ none_left (suc k) ts n
      ]

-- ---- statements and clauses

module _ (line : ℕ → ℕ) where
  abbrev pub clause_first : Clause → ℕ → ℕ
  clause_first c n = line n

  abbrev pub clause_firsts : List Clause → ℕ → List ℕ
  clause_firsts cs n = firsts clause_first (clause_tokens 0) cs n

  abbrev in_braces : List Clause → ℕ → List ℕ
  in_braces cs n = clause_firsts cs (n - 1)

  abbrev pub statement_first : Statement → ℕ → ℕ × List ℕ
  statement_first s n = (line n, clause_firsts (clauses_in s) (n - length (before_clauses s)))

  clause_same : (ts : List Token) → clause_line_at line 64 ts ≡ (clause_at 64 ts >>= applied clause_first (length ts))
  unfolding clause_line_at
  clause_same ts = refl

  clauses_same : (ts : List Token) → many_at in_block no_matter (λ s. clause_line_at line 64) (length ts) tt ts ≡ (many_at in_block no_matter (λ s. clause_at 64) (length ts) tt ts >>= applied clause_firsts (length ts))
  clauses_same ts = many_same in_block (clause_tokens 0) clause_first (clause_at 64) (clause_line_at line 64) clause_same (read_size (Reads-clause 64 0 refl)) (length ts) ts

  abbrev close : {B : Type 0} → B × List Token → Result (B × List Token) Fault
  close x = skip_at (is_sign CloseBrace) x.1 >>= λ rest. Ok (x.0, rest)

  close_same : (cs : List Clause) (n k : ℕ) (s : Result (List Token) Fault) → k ≡ n - 1 → (s >>= λ rest. Ok (clause_firsts cs k, rest)) ≡ ((s >>= λ rest. Ok (cs, rest)) >>= applied in_braces n)
  close_same cs n k (Ok rest) h = ap (λ i. Ok (clause_firsts cs i, rest)) h
  close_same cs n k (Err e) h = refl

  block_same : (ts : List Token) → block_lines_at line 64 ts ≡ (block_at 64 ts >>= applied in_braces (length ts))
  unfolding block_lines_at block_at
  block_same ts =
      let opened = skip_at (is_sign OpenBrace) ts in
      bind_same opened _ _ (λ inner is.
      let read = many_at in_block no_matter (λ s. clause_at 64) (length inner) tt inner in
      ap (λ z. z >>= close) (clauses_same inner)
      ∙ assoc read (applied clause_firsts (length inner)) close
      ∙ bind_same read _ _ (λ c found. close_same c.0 (length ts) (length inner) (skip_at (is_sign CloseBrace) c.1) (skip_size (is_sign OpenBrace) ts inner is))
      ∙ sym (assoc read close (applied in_braces (length ts))))
      ∙ sym (assoc opened (λ inner. many_at in_block no_matter (λ s. clause_at 64) (length inner) tt inner >>= close) (applied in_braces (length ts)))

  -- the lines of the clauses of a statement, by how many tokens come after its word
  abbrev after_word : Statement → ℕ → List ℕ
  after_word s n = clause_firsts (clauses_in s) (n + 1 - length (before_clauses s))

  abbrev shown : ℕ → Statement × List Token → Result (List ℕ × List Token) Fault
  shown n x = applied after_word n x

  abbrev registered : ℕ → (List ℕ × (Option Call × List Clause)) × List Token → Result (List ℕ × List Token) Fault
  registered n x = shown n (statements.Register (registration_from x.0), x.1)

  abbrev configured : ℕ → (List ℕ × List Clause) × List Token → Result (List ℕ × List Token) Fault
  configured n x = shown n (statements.Named (configuration_from x.0), x.1)

  abbrev with_line : ℕ → List ℕ × List Token → Result ((ℕ × List ℕ) × List Token) Fault
  with_line n x = Ok ((line n, x.0), x.1)

  abbrev script_firsts : List Statement → ℕ → List (ℕ × List ℕ)
  script_firsts ss n = firsts statement_first (statement_tokens 0) ss n

  abbrev done_q : List (ℕ × List ℕ) × List Token → Result (List (ℕ × List ℕ)) Fault
  done_q x = cond (eqb (length x.1) 0) (Ok x.0) (stray x.1)

  abbrev done_r : List Statement × List Token → Result (List Statement) Fault
  done_r x = cond (eqb (length x.1) 0) (Ok x.0) (stray x.1)

  registration_same : (ts : List Token) → registration_lines_at line 64 ts ≡ (statement_of_at 64 words.Register ts >>= applied after_word (length ts))
  unfolding registration_lines_at statement_of_at registration_at
  registration_same ts =
      bind_same (name_at ts) _ _ (λ x is.
      bind_same (action_at 64 x.1) _ _ (λ y was.
      block_same y.1
      ∙ bind_same (block_at 64 y.1) _ _ (λ z found. ap (λ k. Ok (clause_firsts z.0 k, z.1)) (here x y z.0 is was)))
      ∙ sym (pair_flat (action_at 64) (block_at 64) x.1 (λ y. registered (length ts) ((x.0, y.0), y.1))))
      ∙ sym (pair_flat name_at (pair_at (action_at 64) (block_at 64)) ts (registered (length ts)))
      ∙ sym (assoc (pair_at name_at (pair_at (action_at 64) (block_at 64)) ts) (λ x. Ok (registration_from x.0, x.1)) (λ x. shown (length ts) (statements.Register x.0, x.1)))
      ∙ sym (assoc (registration_at 64 ts) (λ x. Ok (statements.Register x.0, x.1)) (shown (length ts)))
    where
      here : (x : List ℕ × List Token) (y : Option Call × List Token) (cs : List Clause) → name_at ts ≡ Ok x → action_at 64 x.1 ≡ Ok y → length y.1 - 1 ≡ length ts + 1 - length (before_clauses (statements.Register (registration_from (x.0, (y.0, cs)))))
      here x y cs is was =
          omega (arith, read_size Reads-name ts x.1 x.0 is, read_size (Reads-action 64 0 refl) x.1 y.1 y.0 was, length-append (action_tokens 0 y.0) (sign OpenBrace ∷ []))

  configuration_same : (ts : List Token) → configuration_lines_at line 64 ts ≡ (statement_of_at 64 words.Named ts >>= applied after_word (length ts))
  unfolding configuration_lines_at statement_of_at configuration_at
  configuration_same ts =
      bind_same (name_at ts) _ _ (λ x is.
      block_same x.1
      ∙ bind_same (block_at 64 x.1) _ _ (λ z found. ap (λ k. Ok (clause_firsts z.0 k, z.1)) (here x is)))
      ∙ sym (pair_flat name_at (block_at 64) ts (configured (length ts)))
      ∙ sym (assoc (pair_at name_at (block_at 64) ts) (λ x. Ok (configuration_from x.0, x.1)) (λ x. shown (length ts) (statements.Named x.0, x.1)))
      ∙ sym (assoc (configuration_at 64 ts) (λ x. Ok (statements.Named x.0, x.1)) (shown (length ts)))
    where
      here : (x : List ℕ × List Token) → name_at ts ≡ Ok x → length x.1 - 1 ≡ length ts + 1 - 3
      here x is = omega (arith, read_size Reads-name ts x.1 x.0 is)

  -- a statement without a block
  none_same : (k : StatementWord) (ts : List Token) → ((s : Statement) (rest : List Token) → statement_of_at 64 k ts ≡ Ok (s, rest) → clauses_in s ≡ []) → no_lines_at 64 k ts ≡ (statement_of_at 64 k ts >>= applied after_word (length ts))
  unfolding no_lines_at
  none_same k ts none =
      bind_same (statement_of_at 64 k ts) _ _ (λ x is. ap (λ (cs : List Clause). Ok (clause_firsts cs (length ts + 1 - length (before_clauses x.0)), x.1)) (sym (none x.0 x.1 is)))

  pub clause_lines_same : (k : StatementWord) (ts : List Token) → clause_lines_at line 64 k ts ≡ (statement_of_at 64 k ts >>= applied after_word (length ts))
  unfolding clause_lines_at
  clause_lines_same words.DefaultTasks ts = none_same words.DefaultTasks ts (no_block words.DefaultTasks tt ts)
  clause_lines_same (words.Property word) ts = none_same (words.Property word) ts (no_block (words.Property word) tt ts)
  clause_lines_same words.Register ts = registration_same ts
  clause_lines_same words.Named ts = configuration_same ts

  statement_same : (ts : List Token) → statement_lines_at line 64 ts ≡ (statement_at 64 ts >>= applied statement_first (length ts))
  unfolding statement_lines_at statement_at
  statement_same ts =
      bind_same (meaning_at statement_words ts) _ _ (λ w is.
      ap (λ z. z >>= with_line (length ts)) (clause_lines_same w.0 w.1)
      ∙ assoc (statement_of_at 64 w.0 w.1) (applied after_word (length w.1)) (with_line (length ts))
      ∙ bind_same (statement_of_at 64 w.0 w.1) _ _ (λ s found. ap (λ k. Ok ((line (length ts), clause_firsts (clauses_in s.0) (k - length (before_clauses s.0))), s.1)) (here w is)))
      ∙ sym (assoc (meaning_at statement_words ts) (λ w. statement_of_at 64 w.0 w.1) (applied statement_first (length ts)))
    where
      here : (w : StatementWord × List Token) → meaning_at statement_words ts ≡ Ok w → length w.1 + 1 ≡ length ts
      here w is = word_size ts w is

  pub script_same : (ts : List Token) → script_lines_at line ts ≡ (script_at ts >>= applied (firsts statement_first (statement_tokens 0)) (length ts))
  unfolding script_lines_at script_at
  script_same ts = many_same is_any (statement_tokens 0) statement_first (statement_at 64) (statement_lines_at line 64) statement_same (read_size (Reads-statement 64 0 refl)) (length ts) ts

  -- all of a script
  pub whole_same : (ts : List Token) → all_at (script_lines_at line) ts ≡ (all_at script_at ts >>= λ s. Ok (firsts statement_first (statement_tokens 0) s (length ts)))
  unfolding all_at
  whole_same ts =
      ap (λ z. z >>= done_q) (script_same ts)
      ∙ assoc (script_at ts) (applied (firsts statement_first (statement_tokens 0)) (length ts)) done_q
      ∙ bind_same (script_at ts) _ _ (λ x is. by_end (eqb (length x.1) 0) x)
      ∙ sym (assoc (script_at ts) done_r (λ s. Ok (firsts statement_first (statement_tokens 0) s (length ts))))
    where
      by_end : (b : Bool) (x : List Statement × List Token) → cond b (Ok (firsts statement_first (statement_tokens 0) x.0 (length ts))) (stray x.1) ≡ (cond b (Ok x.0) (stray x.1) >>= λ s. Ok (firsts statement_first (statement_tokens 0) s (length ts)))
      by_end true x = refl
      by_end false x = refl
