-- Clauses are read by the laws.
use Rattle.std.proofs.Common.{◌≡◌, ℕ, ◌+◌, Bool, true, false, List, [], ◌∷◌, ◌++◌, length, Option, Some, Ok, refl, sym, ap, subst, ◌∙◌, arith, append_assoc, ◌⊎◌, inl, inr, codes}
use Rattle.std.specs.Prelude.{◌&&◌}
use Rattle.std.specs.List.{AllByRecursion, flat_map}
use Rattle.gb_script.specs.declared.token.Sign.TheVariants.{OpenBrace, CloseBrace, OpenParen, CloseParen, Comma, Dot, Equals}
use Rattle.gb_script.specs.declared.token.Token.{Token}
use Rattle.gb_script.specs.declared.token.Token.TheVariants.{Word, Mark}
use Rattle.gb_script.specs.declared.keywords.ClauseWord.{ClauseWord}
use Rattle.gb_script.specs.declared.keywords.ClauseWord.TheVariants as words
use Rattle.gb_script.specs.declared.keywords.OrderWord.TheVariants as orders
use Rattle.gb_script.specs.declared.keywords.RunWord.TheVariants as runs
use Rattle.gb_script.specs.declared.script.Call.{Call}
use Rattle.gb_script.specs.declared.script.Assignment.{Assignment}
use Rattle.gb_script.specs.declared.script.Condition.{Condition}
use Rattle.gb_script.specs.declared.script.InputFiles.{InputFiles}
use Rattle.gb_script.specs.declared.script.Clause.{Clause}
use Rattle.gb_script.specs.declared.script.Clause.TheVariants as clauses
use Rattle.gb_script.specs.Tree.{Tree}
use Rattle.gb_script.specs.Words.{meaning_in, clause_words}
use Rattle.gb_script.specs.Grammar.{Leveled, opened, sign, word, tree_tokens, texts_tokens, values_tokens, arguments_tokens, call_tokens, assignment_tokens, condition_tokens, said_tokens, patterns_tokens, input_files_tokens, clause_tokens, block_tokens}
use Rattle.gb_script.specs.Fits.{AreSome, IsTree, AreValues, IsCall, IsAssignment, IsPropertyAssignment, IsCondition, IsInputFiles, IsClause, IsBlock}
use Rattle.gb_script.specs.Reading.{Reader, ◌>>=◌, is_sign, is_word, skip_at, name_at, property_at, maybe_at, many_at, past_at, list_at, no_matter, made_at, closed_at}
use Rattle.gb_script.specs.Readers.{tree_at, bracketed_values_at, call_from, call_at, assignment_from, assignment_at, condition_from, condition_at, patterns_at, Flags, Roots, flags_at, roots_at, input_files_from, input_files_at, order_of_at, run_of_at, clause_of_at, clause_at, in_block, block_at}
use Rattle.gb_script.proofs.Readers.{Reads, always, first_or, Reads-as, Reads-bind, Reads-done}
use Rattle.gb_script.proofs.Singles.{tests_sign, tests_word, Reads-skip, Reads-name, Reads-property, Reads-meaning, IsAny, a_name}
use Rattle.gb_script.proofs.Maybe.{stops, Begun, Reads-maybe}
use Rattle.gb_script.proofs.Many.{AllFrom, ends_all, Reads-many, and_true}
use Rattle.gb_script.proofs.TextLaws.{row_end, no_comma, Reads-texts, one_text, Reads-function, function_end, function_ends, a_function}
use Rattle.gb_script.proofs.Limited.{no_dot}
use Rattle.gb_script.proofs.ValueLaws.{Reads-tree, Reads-values, IsGiven, none_or_given, given_all, a_tree}
use Rattle.gb_script.proofs.Combined.{Reads-into, Reads-pair, Reads-past, Reads-closed, Reads-opened, Reads-said, said_end}

-- ---- a call

abbrev pub arguments_end : List Tree → Option Token → Bool
arguments_end [] o = stops (is_sign OpenParen) o
arguments_end (t ∷ ts) o = true

brackets_are : (d : ℕ) (ts : List Tree) → IsGiven IsTree ts → arguments_tokens d ts ≡ opened OpenParen d ∷ (values_tokens (d + 1) ts ++ sign CloseParen ∷ [])
brackets_are d [] p = absurd p
brackets_are d (t ∷ ts) p = refl

brackets_end : (ts : List Tree) (o : Option Token) → IsGiven IsTree ts → arguments_end ts o ≡ true
brackets_end [] o p = absurd p
brackets_end (t ∷ ts) o p = refl

abbrev one_value : (ts : List Tree) × IsGiven IsTree ts
one_value = (a_tree ∷ [], ((tt, tt), tt))

module _ (room d : ℕ) (sum : room + d ≡ 64) where
  abbrev brackets : List Tree → List Leveled
  brackets ts = opened OpenParen d ∷ (values_tokens (d + 1) ts ++ sign CloseParen ∷ [])

  Reads-brackets : Reads (IsGiven IsTree) brackets always (bracketed_values_at room)
  unfolding bracketed_values_at
  Reads-brackets =
      Reads-opened (λ n. closed_at (is_sign CloseParen) (list_at (tree_at n))) OpenParen room d sum one_value
      (λ n e. Reads-closed (tests_sign CloseParen) (Reads-values (d + 1) (tree_at n) (Reads-tree n (d + 1) (omega (arith, e, sum)))) (λ ts p. refl))

  Reads-arguments : Reads (AllByRecursion IsTree) (arguments_tokens d) arguments_end (λ ts. maybe_at (is_sign OpenParen) (bracketed_values_at room) [] ts)
  Reads-arguments =
      Reads-maybe (is_sign OpenParen) Reads-brackets []
      (AllByRecursion IsTree) (arguments_tokens d) arguments_end
      (λ ts p. record { head = opened OpenParen d; tail = values_tokens (d + 1) ts ++ sign CloseParen ∷ []; whole = refl; passes = refl })
      (none_or_given IsTree)
      tt (given_all IsTree)
      refl (brackets_are d)
      (λ o. refl) brackets_end

abbrev pub call_end : Call → Option Token → Bool
call_end c o = arguments_end c.arguments o

-- some call
abbrev pub a_call : Call
a_call = record { name = a_name; arguments = [] }

pub a_call_fits : IsCall a_call
a_call_fits = record { name = refl; arguments = tt }

pub Reads-call : (room d : ℕ) → room + d ≡ 64 → Reads IsCall (call_tokens d) call_end (call_at room)
unfolding call_at
Reads-call room d sum =
    Reads-into (Reads-pair Reads-name (Reads-arguments room d sum) ([], tt)) call_from
    IsCall (call_tokens d) call_end
    (λ c q. ((c.name, c.arguments), refl, (q.name, q.arguments)))
    (λ x p. record { name = p.0; arguments = p.1 })
    (λ x p. refl) (λ x o p. refl)

-- a call ends before a token that is not a bracket
pub call_ends : (c : Call) (o : Option Token) → stops (is_sign OpenParen) o ≡ true → call_end c o ≡ true
call_ends c o h = arguments_ends c.arguments o h
  where
    arguments_ends : (ts : List Tree) (o : Option Token) → stops (is_sign OpenParen) o ≡ true → arguments_end ts o ≡ true
    arguments_ends [] o h = h
    arguments_ends (t ∷ ts) o h = refl

-- ---- an assignment

abbrev pub assignment_end : Assignment → Option Token → Bool
assignment_end a o = no_dot o

-- some assignment
abbrev pub an_assignment : Assignment
an_assignment = record { name = a_name; value = a_tree }

module _ (room d : ℕ) (sum : room + d ≡ 64) where
  Reads-value : Reads IsTree (λ t. sign Equals ∷ tree_tokens d t) (λ t. no_dot) (λ ts. past_at (is_sign Equals) (tree_at room) ts)
  Reads-value = Reads-past (tests_sign Equals) (Reads-tree room d sum) (a_tree, (tt, tt))

  pub Reads-assignment : Reads IsAssignment (assignment_tokens d) assignment_end (assignment_at name_at room)
  unfolding assignment_at
  Reads-assignment =
      Reads-into (Reads-pair Reads-name Reads-value (a_tree, (tt, tt))) assignment_from
      IsAssignment (assignment_tokens d) assignment_end
      (λ a q. ((a.name, a.value), refl, (q.name, q.value)))
      (λ x p. record { name = p.0; value = p.1 })
      (λ x p. refl) (λ x o p. refl)

  pub Reads-property_assignment : Reads IsPropertyAssignment (assignment_tokens d) assignment_end (assignment_at property_at room)
  unfolding assignment_at
  Reads-property_assignment =
      Reads-into (Reads-pair Reads-property Reads-value (a_tree, (tt, tt))) assignment_from
      IsPropertyAssignment (assignment_tokens d) assignment_end
      (λ a q. ((a.name, a.value), refl, (q.name, q.value)))
      (λ x p. record { name = p.0; value = p.1 })
      (λ x p. refl) (λ x o p. refl)

-- ---- a condition

abbrev pub condition_end : Condition → Option Token → Bool
condition_end c o = function_end c.test o

-- some condition
abbrev a_condition : Condition
a_condition = record { value = a_tree; test = a_function }

Reads-condition : (room d : ℕ) → room + d ≡ 64 → Reads IsCondition (condition_tokens d) condition_end (condition_at room)
unfolding condition_at
Reads-condition room d sum =
    Reads-into (Reads-pair (Reads-tree room d sum) (Reads-past (tests_word (codes "is")) (Reads-function room d sum) (a_function, refl)) (a_function, refl)) condition_from
    IsCondition (condition_tokens d) condition_end
    (λ c q. ((c.value, c.test), refl, (q.value, q.test)))
    (λ x p. record { value = p.0; test = p.1 })
    (λ x p. refl) (λ x o p. refl)

-- ---- files

abbrev pub patterns_end : List ℕ → List (List ℕ) → Option Token → Bool
patterns_end w [] o = stops (is_word w) o
patterns_end w (t ∷ ts) o = no_comma o

none_or_patterns : (ts : List (List ℕ)) → (ts ≡ []) ⊎ AreSome ts
none_or_patterns [] = inl refl
none_or_patterns (t ∷ ts) = inr tt

patterns_are : (w : List ℕ) (ts : List (List ℕ)) → AreSome ts → patterns_tokens w ts ≡ word w ∷ texts_tokens ts
patterns_are w [] p = absurd p
patterns_are w (t ∷ ts) p = refl

patterns_same : (w : List ℕ) (ts : List (List ℕ)) (o : Option Token) → AreSome ts → patterns_end w ts o ≡ no_comma o
patterns_same w [] o p = absurd p
patterns_same w (t ∷ ts) o p = refl

Reads-patterns : (w : List ℕ) → Reads IsAny (patterns_tokens w) (patterns_end w) (patterns_at w)
unfolding patterns_at
Reads-patterns w =
    Reads-maybe (is_word w) (Reads-past (tests_word w) Reads-texts (one_text, tt)) []
    IsAny (patterns_tokens w) (patterns_end w)
    (λ ts p. record { head = word w; tail = texts_tokens ts; whole = refl; passes = (tests_word w).same })
    (λ ts p. none_or_patterns ts)
    tt (λ ts p. tt)
    refl (patterns_are w)
    (λ o. refl) (patterns_same w)

abbrev flags_marks : Flags → List Leveled
flags_marks x = said_tokens (codes "incremental") x.0 ++ (said_tokens (codes "skipWhenEmpty") x.1.0 ++ said_tokens (codes "nameOnly") x.1.1)

abbrev flags_end : Flags → Option Token → Bool
flags_end x o =
    said_end (codes "incremental") x.0 (first_or (said_tokens (codes "skipWhenEmpty") x.1.0 ++ said_tokens (codes "nameOnly") x.1.1) o)
    && (said_end (codes "skipWhenEmpty") x.1.0 (first_or (said_tokens (codes "nameOnly") x.1.1) o) && said_end (codes "nameOnly") x.1.1 o)

Reads-flags : Reads (λ x. IsAny x.0 × (IsAny x.1.0 × IsAny x.1.1)) flags_marks flags_end flags_at
unfolding flags_at
Reads-flags = Reads-pair (Reads-said (codes "incremental")) (Reads-pair (Reads-said (codes "skipWhenEmpty")) (Reads-said (codes "nameOnly")) (false, tt)) ((false, false), (tt, tt))

-- flags end before `from`
flags_close : (x : Flags) → flags_end x (Some (Word (codes "from"))) ≡ true
flags_close (true, (true, true)) = refl
flags_close (true, (true, false)) = refl
flags_close (true, (false, true)) = refl
flags_close (true, (false, false)) = refl
flags_close (false, (true, true)) = refl
flags_close (false, (true, false)) = refl
flags_close (false, (false, true)) = refl
flags_close (false, (false, false)) = refl

abbrev roots_marks : ℕ → Roots → List Leveled
roots_marks d x = values_tokens d x.0 ++ (patterns_tokens (codes "include") x.1.0 ++ patterns_tokens (codes "exclude") x.1.1)

abbrev pub roots_end : Roots → Option Token → Bool
roots_end x o =
    row_end no_dot (first_or (patterns_tokens (codes "include") x.1.0 ++ patterns_tokens (codes "exclude") x.1.1) o)
    && (patterns_end (codes "include") x.1.0 (first_or (patterns_tokens (codes "exclude") x.1.1) o) && patterns_end (codes "exclude") x.1.1 o)

abbrev AreRoots : Roots → Type 0
AreRoots x = IsGiven IsTree x.0 × (IsAny x.1.0 × IsAny x.1.1)

abbrev some_roots : Roots
some_roots = (a_tree ∷ [], ([], []))

Reads-roots : (room d : ℕ) → room + d ≡ 64 → Reads AreRoots (roots_marks d) roots_end (roots_at room)
unfolding roots_at
Reads-roots room d sum = Reads-pair (Reads-values d (tree_at room) (Reads-tree room d sum)) (Reads-pair (Reads-patterns (codes "include")) (Reads-patterns (codes "exclude")) ([], tt)) (([], []), (tt, tt))

abbrev pub roots_of : InputFiles → Roots
roots_of i = (i.from, (i.include, i.exclude))

abbrev flags_of : InputFiles → Flags
flags_of i = (i.incremental, (i.skip_when_empty, i.name_only))

abbrev pub input_files_end : InputFiles → Option Token → Bool
input_files_end i o = roots_end (roots_of i) o

-- some files
abbrev some_files : InputFiles
some_files = record { name = a_name; incremental = false; skip_when_empty = false; name_only = false; from = a_tree ∷ []; include = []; exclude = [] }

given_values : (ts : List Tree) → AreValues ts → IsGiven IsTree ts
given_values [] p = p
given_values (t ∷ ts) p = p

values_given : (ts : List Tree) → IsGiven IsTree ts → AreValues ts
values_given [] p = p
values_given (t ∷ ts) p = p

-- the parts as one row
files_are : (d : ℕ) (i : InputFiles) → input_files_tokens d i ≡ word i.name ∷ (flags_marks (flags_of i) ++ word (codes "from") ∷ roots_marks d (roots_of i))
files_are d i = regroup (said_tokens (codes "incremental") i.incremental) (said_tokens (codes "skipWhenEmpty") i.skip_when_empty) (said_tokens (codes "nameOnly") i.name_only) (values_tokens d i.from) (patterns_tokens (codes "include") i.include) (patterns_tokens (codes "exclude") i.exclude)
  where
    regroup : (a b c e f g : List Leveled) → word i.name ∷ a ++ b ++ c ++ word (codes "from") ∷ e ++ f ++ g ≡ word i.name ∷ ((a ++ (b ++ c)) ++ word (codes "from") ∷ (e ++ (f ++ g)))
    regroup a b c e f g =
        let from = word (codes "from") ∷ e in
        ap (λ (l : List Leveled). word i.name ∷ l)
        (append_assoc (((a ++ b) ++ c) ++ from) f g ∙ append_assoc ((a ++ b) ++ c) from (f ++ g) ∙ ap (λ (l : List Leveled). l ++ (from ++ (f ++ g))) (append_assoc a b c))

pub Reads-input_files : (room d : ℕ) → room + d ≡ 64 → Reads IsInputFiles (input_files_tokens d) input_files_end (input_files_at room)
unfolding input_files_at
Reads-input_files room d sum =
    Reads-into
    (Reads-pair Reads-name (Reads-pair Reads-flags (Reads-past (tests_word (codes "from")) (Reads-roots room d sum) (some_roots, (((tt, tt), tt), (tt, tt)))) (some_roots, (((tt, tt), tt), (tt, tt)))) (((false, (false, false)), some_roots), ((tt, (tt, tt)), (((tt, tt), tt), (tt, tt)))))
    input_files_from
    IsInputFiles (input_files_tokens d) input_files_end
    (λ i q. ((i.name, (flags_of i, roots_of i)), refl, (q.name, ((tt, (tt, tt)), (given_values i.from q.from, (tt, tt))))))
    (λ x p. record { name = p.0; from = values_given x.1.1.0 p.1.1.0 })
    (λ x p. files_are d (input_files_from x))
    (λ x o p. ap (λ (b : Bool). b && roots_end x.1.1 o) (sym (flags_close x.1.0)))

-- ---- a clause, after its word

abbrev clause_spelling : ClauseWord → List ℕ
clause_spelling words.Input = codes "input"
clause_spelling words.InputFiles = codes "inputFiles"
clause_spelling words.OutputFile = codes "outputFile"
clause_spelling words.OutputDir = codes "outputDir"
clause_spelling (words.Order orders.DependsOn) = codes "dependsOn"
clause_spelling (words.Order orders.MustRunAfter) = codes "mustRunAfter"
clause_spelling (words.Order orders.FinalizedBy) = codes "finalizedBy"
clause_spelling (words.Run runs.DoFirst) = codes "doFirst"
clause_spelling (words.Run runs.DoLast) = codes "doLast"
clause_spelling (words.Run runs.OnlyIf) = codes "onlyIf"
clause_spelling (words.Run runs.UpToDateWhen) = codes "upToDateWhen"
clause_spelling (words.Run runs.Enabled) = codes "enabled"

clause_means : (k : ClauseWord) → meaning_in clause_words (clause_spelling k) ≡ Some k
clause_means words.Input = refl
clause_means words.InputFiles = refl
clause_means words.OutputFile = refl
clause_means words.OutputDir = refl
clause_means (words.Order orders.DependsOn) = refl
clause_means (words.Order orders.MustRunAfter) = refl
clause_means (words.Order orders.FinalizedBy) = refl
clause_means (words.Run runs.DoFirst) = refl
clause_means (words.Run runs.DoLast) = refl
clause_means (words.Run runs.OnlyIf) = refl
clause_means (words.Run runs.UpToDateWhen) = refl
clause_means (words.Run runs.Enabled) = refl

abbrev word_of : Clause → ClauseWord
word_of (clauses.Input x) = words.Input
word_of (clauses.InputFiles x) = words.InputFiles
word_of (clauses.OutputFile x) = words.OutputFile
word_of (clauses.OutputDir x) = words.OutputDir
word_of (clauses.DependsOn x) = words.Order orders.DependsOn
word_of (clauses.MustRunAfter x) = words.Order orders.MustRunAfter
word_of (clauses.FinalizedBy x) = words.Order orders.FinalizedBy
word_of (clauses.DoFirst x) = words.Run runs.DoFirst
word_of (clauses.DoLast x) = words.Run runs.DoLast
word_of (clauses.OnlyIf x) = words.Run runs.OnlyIf
word_of (clauses.UpToDateWhen x) = words.Run runs.UpToDateWhen
word_of (clauses.Enabled x) = words.Run runs.Enabled

-- a clause without its word
abbrev tail_tokens : ℕ → Clause → List Leveled
tail_tokens d (clauses.Input x) = assignment_tokens d x
tail_tokens d (clauses.InputFiles x) = input_files_tokens d x
tail_tokens d (clauses.OutputFile x) = assignment_tokens d x
tail_tokens d (clauses.OutputDir x) = assignment_tokens d x
tail_tokens d (clauses.DependsOn x) = texts_tokens x
tail_tokens d (clauses.MustRunAfter x) = texts_tokens x
tail_tokens d (clauses.FinalizedBy x) = texts_tokens x
tail_tokens d (clauses.DoFirst x) = call_tokens d x
tail_tokens d (clauses.DoLast x) = call_tokens d x
tail_tokens d (clauses.OnlyIf x) = condition_tokens d x
tail_tokens d (clauses.UpToDateWhen x) = condition_tokens d x
tail_tokens d (clauses.Enabled x) = tree_tokens d x

clause_is : (d : ℕ) (c : Clause) → clause_tokens d c ≡ word (clause_spelling (word_of c)) ∷ tail_tokens d c
clause_is d (clauses.Input x) = refl
clause_is d (clauses.InputFiles x) = refl
clause_is d (clauses.OutputFile x) = refl
clause_is d (clauses.OutputDir x) = refl
clause_is d (clauses.DependsOn x) = refl
clause_is d (clauses.MustRunAfter x) = refl
clause_is d (clauses.FinalizedBy x) = refl
clause_is d (clauses.DoFirst x) = refl
clause_is d (clauses.DoLast x) = refl
clause_is d (clauses.OnlyIf x) = refl
clause_is d (clauses.UpToDateWhen x) = refl
clause_is d (clauses.Enabled x) = refl

abbrev pub clause_end : Clause → Option Token → Bool
clause_end (clauses.Input x) o = assignment_end x o
clause_end (clauses.InputFiles x) o = input_files_end x o
clause_end (clauses.OutputFile x) o = assignment_end x o
clause_end (clauses.OutputDir x) o = assignment_end x o
clause_end (clauses.DependsOn x) o = no_comma o
clause_end (clauses.MustRunAfter x) o = no_comma o
clause_end (clauses.FinalizedBy x) o = no_comma o
clause_end (clauses.DoFirst x) o = call_end x o
clause_end (clauses.DoLast x) o = call_end x o
clause_end (clauses.OnlyIf x) o = condition_end x o
clause_end (clauses.UpToDateWhen x) o = condition_end x o
clause_end (clauses.Enabled x) o = no_dot o

abbrev IsOf : ClauseWord → Clause → Type 0
IsOf words.Input c = (x : Assignment) × (c ≡ clauses.Input x) × IsAssignment x
IsOf words.InputFiles c = (x : InputFiles) × (c ≡ clauses.InputFiles x) × IsInputFiles x
IsOf words.OutputFile c = (x : Assignment) × (c ≡ clauses.OutputFile x) × IsAssignment x
IsOf words.OutputDir c = (x : Assignment) × (c ≡ clauses.OutputDir x) × IsAssignment x
IsOf (words.Order orders.DependsOn) c = (x : List (List ℕ)) × (c ≡ clauses.DependsOn x) × AreSome x
IsOf (words.Order orders.MustRunAfter) c = (x : List (List ℕ)) × (c ≡ clauses.MustRunAfter x) × AreSome x
IsOf (words.Order orders.FinalizedBy) c = (x : List (List ℕ)) × (c ≡ clauses.FinalizedBy x) × AreSome x
IsOf (words.Run runs.DoFirst) c = (x : Call) × (c ≡ clauses.DoFirst x) × IsCall x
IsOf (words.Run runs.DoLast) c = (x : Call) × (c ≡ clauses.DoLast x) × IsCall x
IsOf (words.Run runs.OnlyIf) c = (x : Condition) × (c ≡ clauses.OnlyIf x) × IsCondition x
IsOf (words.Run runs.UpToDateWhen) c = (x : Condition) × (c ≡ clauses.UpToDateWhen x) × IsCondition x
IsOf (words.Run runs.Enabled) c = (x : Tree) × (c ≡ clauses.Enabled x) × IsTree x

same_word : (k : ClauseWord) (c : Clause) → IsOf k c → word_of c ≡ k
same_word words.Input c q = ap word_of q.1
same_word words.InputFiles c q = ap word_of q.1
same_word words.OutputFile c q = ap word_of q.1
same_word words.OutputDir c q = ap word_of q.1
same_word (words.Order orders.DependsOn) c q = ap word_of q.1
same_word (words.Order orders.MustRunAfter) c q = ap word_of q.1
same_word (words.Order orders.FinalizedBy) c q = ap word_of q.1
same_word (words.Run runs.DoFirst) c q = ap word_of q.1
same_word (words.Run runs.DoLast) c q = ap word_of q.1
same_word (words.Run runs.OnlyIf) c q = ap word_of q.1
same_word (words.Run runs.UpToDateWhen) c q = ap word_of q.1
same_word (words.Run runs.Enabled) c q = ap word_of q.1

is_clause : (k : ClauseWord) (c : Clause) → IsOf k c → IsClause c
is_clause words.Input c q = subst IsClause (sym q.1) q.2
is_clause words.InputFiles c q = subst IsClause (sym q.1) q.2
is_clause words.OutputFile c q = subst IsClause (sym q.1) q.2
is_clause words.OutputDir c q = subst IsClause (sym q.1) q.2
is_clause (words.Order orders.DependsOn) c q = subst IsClause (sym q.1) q.2
is_clause (words.Order orders.MustRunAfter) c q = subst IsClause (sym q.1) q.2
is_clause (words.Order orders.FinalizedBy) c q = subst IsClause (sym q.1) q.2
is_clause (words.Run runs.DoFirst) c q = subst IsClause (sym q.1) q.2
is_clause (words.Run runs.DoLast) c q = subst IsClause (sym q.1) q.2
is_clause (words.Run runs.OnlyIf) c q = subst IsClause (sym q.1) q.2
is_clause (words.Run runs.UpToDateWhen) c q = subst IsClause (sym q.1) q.2
is_clause (words.Run runs.Enabled) c q = subst IsClause (sym q.1) q.2

which_clause : (c : Clause) → IsClause c → (k : ClauseWord) × IsAny k × IsOf k c
which_clause (clauses.Input x) p = (words.Input, tt, (x, refl, p))
which_clause (clauses.InputFiles x) p = (words.InputFiles, tt, (x, refl, p))
which_clause (clauses.OutputFile x) p = (words.OutputFile, tt, (x, refl, p))
which_clause (clauses.OutputDir x) p = (words.OutputDir, tt, (x, refl, p))
which_clause (clauses.DependsOn x) p = (words.Order orders.DependsOn, tt, (x, refl, p))
which_clause (clauses.MustRunAfter x) p = (words.Order orders.MustRunAfter, tt, (x, refl, p))
which_clause (clauses.FinalizedBy x) p = (words.Order orders.FinalizedBy, tt, (x, refl, p))
which_clause (clauses.DoFirst x) p = (words.Run runs.DoFirst, tt, (x, refl, p))
which_clause (clauses.DoLast x) p = (words.Run runs.DoLast, tt, (x, refl, p))
which_clause (clauses.OnlyIf x) p = (words.Run runs.OnlyIf, tt, (x, refl, p))
which_clause (clauses.UpToDateWhen x) p = (words.Run runs.UpToDateWhen, tt, (x, refl, p))
which_clause (clauses.Enabled x) p = (words.Run runs.Enabled, tt, (x, refl, p))

some_clause : (k : ClauseWord) → (c : Clause) × IsOf k c
some_clause words.Input = (clauses.Input an_assignment, (an_assignment, refl, record { name = refl; value = (tt, tt) }))
some_clause words.InputFiles = (clauses.InputFiles some_files, (some_files, refl, record { name = refl; from = ((tt, tt), tt) }))
some_clause words.OutputFile = (clauses.OutputFile an_assignment, (an_assignment, refl, record { name = refl; value = (tt, tt) }))
some_clause words.OutputDir = (clauses.OutputDir an_assignment, (an_assignment, refl, record { name = refl; value = (tt, tt) }))
some_clause (words.Order orders.DependsOn) = (clauses.DependsOn one_text, (one_text, refl, tt))
some_clause (words.Order orders.MustRunAfter) = (clauses.MustRunAfter one_text, (one_text, refl, tt))
some_clause (words.Order orders.FinalizedBy) = (clauses.FinalizedBy one_text, (one_text, refl, tt))
some_clause (words.Run runs.DoFirst) = (clauses.DoFirst a_call, (a_call, refl, a_call_fits))
some_clause (words.Run runs.DoLast) = (clauses.DoLast a_call, (a_call, refl, a_call_fits))
some_clause (words.Run runs.OnlyIf) = (clauses.OnlyIf a_condition, (a_condition, refl, record { value = (tt, tt); test = refl }))
some_clause (words.Run runs.UpToDateWhen) = (clauses.UpToDateWhen a_condition, (a_condition, refl, record { value = (tt, tt); test = refl }))
some_clause (words.Run runs.Enabled) = (clauses.Enabled a_tree, (a_tree, refl, (tt, tt)))

-- a clause made of what comes after its word
made_clause : {A : Type 0} {P : A → Type 0} {m : A → List Leveled} {e : A → Option Token → Bool} {r : Reader A} (d : ℕ) → Reads P m e r → (f : A → Clause) → ((x : A) → tail_tokens d (f x) ≡ m x) → ((x : A) (o : Option Token) → clause_end (f x) o ≡ e x o) → Reads (λ c. (x : A) × (c ≡ f x) × P x) (tail_tokens d) clause_end (made_at f r)
made_clause {A} {P} d R f same ends = Reads-into R f (λ c. (x : A) × (c ≡ f x) × P x) (tail_tokens d) clause_end (λ c q. q) (λ x p. (x, refl, p)) (λ x p. same x) (λ x o p. ends x o)

Reads-clause_of : (room d : ℕ) → room + d ≡ 64 → (k : ClauseWord) → Reads (IsOf k) (tail_tokens d) clause_end (clause_of_at room k)
unfolding clause_of_at order_of_at run_of_at
Reads-clause_of room d sum words.Input = made_clause d (Reads-assignment room d sum) clauses.Input (λ x. refl) (λ x o. refl)
Reads-clause_of room d sum words.InputFiles = made_clause d (Reads-input_files room d sum) clauses.InputFiles (λ x. refl) (λ x o. refl)
Reads-clause_of room d sum words.OutputFile = made_clause d (Reads-assignment room d sum) clauses.OutputFile (λ x. refl) (λ x o. refl)
Reads-clause_of room d sum words.OutputDir = made_clause d (Reads-assignment room d sum) clauses.OutputDir (λ x. refl) (λ x o. refl)
Reads-clause_of room d sum (words.Order orders.DependsOn) = made_clause d (Reads-texts) clauses.DependsOn (λ x. refl) (λ x o. refl)
Reads-clause_of room d sum (words.Order orders.MustRunAfter) = made_clause d (Reads-texts) clauses.MustRunAfter (λ x. refl) (λ x o. refl)
Reads-clause_of room d sum (words.Order orders.FinalizedBy) = made_clause d (Reads-texts) clauses.FinalizedBy (λ x. refl) (λ x o. refl)
Reads-clause_of room d sum (words.Run runs.DoFirst) = made_clause d (Reads-call room d sum) clauses.DoFirst (λ x. refl) (λ x o. refl)
Reads-clause_of room d sum (words.Run runs.DoLast) = made_clause d (Reads-call room d sum) clauses.DoLast (λ x. refl) (λ x o. refl)
Reads-clause_of room d sum (words.Run runs.OnlyIf) = made_clause d (Reads-condition room d sum) clauses.OnlyIf (λ x. refl) (λ x o. refl)
Reads-clause_of room d sum (words.Run runs.UpToDateWhen) = made_clause d (Reads-condition room d sum) clauses.UpToDateWhen (λ x. refl) (λ x o. refl)
Reads-clause_of room d sum (words.Run runs.Enabled) = made_clause d (Reads-tree room d sum) clauses.Enabled (λ x. refl) (λ x o. refl)

pub Reads-clause : (room d : ℕ) → room + d ≡ 64 → Reads IsClause (clause_tokens d) clause_end (clause_at room)
unfolding clause_at
Reads-clause room d sum =
    Reads-bind {r2 = clause_of_at room}
    (Reads-meaning clause_words clause_spelling (refl, (refl, (refl, (refl, (refl, (refl, (refl, (refl, (refl, (refl, (refl, (refl, tt)))))))))))) clause_means words.Input) (λ k p. Reads-clause_of room d sum k)
    (λ k p. some_clause k)
    IsClause (clause_tokens d) clause_end
    which_clause
    (λ k c p q. is_clause k c q)
    (λ k c p q. clause_is d c ∙ ap (λ (j : ClauseWord). word (clause_spelling j) ∷ tail_tokens d c) (same_word k c q))
    (λ k c o p q h. (refl, h))
    (λ k c o p q h g. g)

-- ---- a block

-- none of the words that continue a clause
record Calm (o : Option Token) : Type 0 where
  dot : stops (is_sign Dot) o ≡ true
  comma : stops (is_sign Comma) o ≡ true
  paren : stops (is_sign OpenParen) o ≡ true
  include : stops (is_word (codes "include")) o ≡ true
  exclude : stops (is_word (codes "exclude")) o ≡ true

roots_ends : (from : List Tree) (include exclude : List (List ℕ)) (o : Option Token) → Calm o → roots_end (from, (include, exclude)) o ≡ true
roots_ends from [] [] o c = and_true _ _ (and_true _ _ c.dot c.comma) (and_true _ _ c.include c.exclude)
roots_ends from [] (e ∷ es) o c = c.comma
roots_ends from (i ∷ is) [] o c = and_true _ _ c.comma c.exclude
roots_ends from (i ∷ is) (e ∷ es) o c = c.comma

clause_ends : (clause : Clause) (o : Option Token) → Calm o → clause_end clause o ≡ true
clause_ends (clauses.Input x) o c = c.dot
clause_ends (clauses.InputFiles x) o c = roots_ends x.from x.include x.exclude o c
clause_ends (clauses.OutputFile x) o c = c.dot
clause_ends (clauses.OutputDir x) o c = c.dot
clause_ends (clauses.DependsOn x) o c = c.comma
clause_ends (clauses.MustRunAfter x) o c = c.comma
clause_ends (clauses.FinalizedBy x) o c = c.comma
clause_ends (clauses.DoFirst x) o c = call_ends x o c.paren
clause_ends (clauses.DoLast x) o c = call_ends x o c.paren
clause_ends (clauses.OnlyIf x) o c = function_ends x.test o c.paren
clause_ends (clauses.UpToDateWhen x) o c = function_ends x.test o c.paren
clause_ends (clauses.Enabled x) o c = c.dot

word_calm : (k : ClauseWord) → Calm (Some (Word (clause_spelling k)))
word_calm words.Input = record { dot = refl; comma = refl; paren = refl; include = refl; exclude = refl }
word_calm words.InputFiles = record { dot = refl; comma = refl; paren = refl; include = refl; exclude = refl }
word_calm words.OutputFile = record { dot = refl; comma = refl; paren = refl; include = refl; exclude = refl }
word_calm words.OutputDir = record { dot = refl; comma = refl; paren = refl; include = refl; exclude = refl }
word_calm (words.Order orders.DependsOn) = record { dot = refl; comma = refl; paren = refl; include = refl; exclude = refl }
word_calm (words.Order orders.MustRunAfter) = record { dot = refl; comma = refl; paren = refl; include = refl; exclude = refl }
word_calm (words.Order orders.FinalizedBy) = record { dot = refl; comma = refl; paren = refl; include = refl; exclude = refl }
word_calm (words.Run runs.DoFirst) = record { dot = refl; comma = refl; paren = refl; include = refl; exclude = refl }
word_calm (words.Run runs.DoLast) = record { dot = refl; comma = refl; paren = refl; include = refl; exclude = refl }
word_calm (words.Run runs.OnlyIf) = record { dot = refl; comma = refl; paren = refl; include = refl; exclude = refl }
word_calm (words.Run runs.UpToDateWhen) = record { dot = refl; comma = refl; paren = refl; include = refl; exclude = refl }
word_calm (words.Run runs.Enabled) = record { dot = refl; comma = refl; paren = refl; include = refl; exclude = refl }

next_calm : (d : ℕ) (cs : List Clause) → Calm (first_or (flat_map (clause_tokens d) cs) (Some (Mark CloseBrace)))
next_calm d [] = record { dot = refl; comma = refl; paren = refl; include = refl; exclude = refl }
next_calm d (c ∷ cs) = subst (λ (l : List Leveled). Calm (first_or (l ++ flat_map (clause_tokens d) cs) (Some (Mark CloseBrace)))) (sym (clause_is d c)) (word_calm (word_of c))

clauses_close : (d : ℕ) (cs : List Clause) → ends_all (clause_tokens d) clause_end in_block cs (Some (Mark CloseBrace)) ≡ true
clauses_close d [] = refl
clauses_close d (c ∷ cs) = and_true _ _ (clause_ends c _ (next_calm d cs)) (clauses_close d cs)

clause_begun : (d : ℕ) (c : Clause) → Begun in_block (clause_tokens d c)
clause_begun d c = record { head = word (clause_spelling (word_of c)); tail = tail_tokens d c; whole = clause_is d c; passes = refl }

pub all_of : {A : Type 0} (P : A → Type 0) (xs : List A) → AllFrom {S = Unit {0}} (λ s. P) no_matter tt xs → AllByRecursion P xs
all_of P [] p = tt
all_of P (x ∷ xs) p = (p.0, all_of P xs p.1)

pub of_all : {A : Type 0} (P : A → Type 0) (xs : List A) → AllByRecursion P xs → AllFrom {S = Unit {0}} (λ s. P) no_matter tt xs
of_all P [] p = tt
of_all P (x ∷ xs) p = (p.0, of_all P xs p.1)

abbrev AreClauses : List Clause → Type 0
AreClauses cs = AllFrom {S = Unit {0}} (λ s. IsClause) no_matter tt cs

abbrev closed_marks : ℕ → List Clause → List Leveled
closed_marks d cs = flat_map (clause_tokens d) cs ++ sign CloseBrace ∷ []

Reads-clauses_close : (room d : ℕ) → room + d ≡ 64 → Reads AreClauses (closed_marks d) always (λ ts. many_at in_block no_matter (λ s. clause_at room) (length ts) tt ts >>= λ clauses. skip_at (is_sign CloseBrace) clauses.1 >>= λ rest. Ok (clauses.0, rest))
Reads-clauses_close room d sum =
    Reads-bind {r2 = λ a ts. skip_at (is_sign CloseBrace) ts >>= λ rest. Ok (a, rest)}
    (Reads-many {P = λ s. IsClause} {r = λ s. clause_at room} in_block no_matter (λ s. Reads-clause room d sum) (λ s c p. clause_begun d c) tt) (λ a p. Reads-skip (tests_sign CloseBrace) (Reads-done a) (a, refl))
    (λ a p. (a, refl))
    AreClauses (closed_marks d) always
    (λ b p. (b, p, refl))
    (λ a b p q. subst AreClauses (sym q) p)
    (λ a b p q. ap (closed_marks d) q)
    (λ a b o p q h. (clauses_close d a, refl))
    (λ a b o p q h g. refl)

pub Reads-block : (room d : ℕ) → room + d ≡ 64 → Reads IsBlock (block_tokens d) always (block_at room)
unfolding block_at
Reads-block room d sum =
    Reads-as (Reads-skip (tests_sign OpenBrace) (Reads-clauses_close room d sum) ([], tt)) IsBlock (block_tokens d) always
    (all_of IsClause) (of_all IsClause)
    (λ cs p. refl) (λ cs o p. refl)
