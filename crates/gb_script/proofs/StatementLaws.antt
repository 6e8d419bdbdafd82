-- Statements, scripts and settings are read by the laws.
use Rattle.std.proofs.Common.{◌≡◌, ℕ, ◌+◌, Bool, true, false, List, [], ◌∷◌, ◌++◌, Option, Some, None, refl, sym, ap, subst, ◌∙◌, ◌⊎◌, inl, inr, codes}
use Rattle.gb_script.specs.declared.token.Sign.TheVariants.{OpenBrace, Colon, Comma, Dot}
use Rattle.gb_script.specs.declared.token.Token.{Token}
use Rattle.gb_script.specs.declared.token.Token.TheVariants.{Word, Mark}
use Rattle.gb_script.specs.declared.keywords.StatementWord.{StatementWord}
use Rattle.gb_script.specs.declared.keywords.StatementWord.TheVariants as words
use Rattle.gb_script.specs.declared.keywords.PropertyWord.TheVariants as properties
use Rattle.gb_script.specs.declared.script.Call.{Call}
use Rattle.gb_script.specs.declared.script.Assignment.{Assignment}
use Rattle.gb_script.specs.declared.script.Registration.{Registration}
use Rattle.gb_script.specs.declared.script.Configuration.{Configuration}
use Rattle.gb_script.specs.declared.script.Statement.{Statement}
use Rattle.gb_script.specs.declared.script.Statement.TheVariants as statements
use Rattle.gb_script.specs.Words.{meaning_in, statement_words}
use Rattle.gb_script.specs.Grammar.{Leveled, sign, word, texts_tokens, call_tokens, assignment_tokens, action_tokens, registration_tokens, configuration_tokens, statement_tokens, script_tokens, include_tokens, settings_tokens}
use Rattle.gb_script.specs.Fits.{IsProperty, AreSome, IsCall, IsPropertyAssignment, IsAction, IsRegistration, IsConfiguration, IsStatement, IsScript, IsSettings}
use Rattle.gb_script.specs.Reading.{Reader, is_sign, is_any, no_matter, made_at}
use Rattle.gb_script.specs.Readers.{action_at, registration_from, registration_at, configuration_from, configuration_at, property_of_at, statement_of_at, statement_at, script_at, include_at, settings_at}
use Rattle.gb_script.proofs.Readers.{Reads, always, first_or, Reads-as, Reads-bind}
use Rattle.gb_script.proofs.Singles.{tests_sign, tests_word, Reads-name, Reads-property, Reads-meaning, IsAny, a_name}
use Rattle.gb_script.proofs.Maybe.{stops, Begun, Reads-maybe}
use Rattle.gb_script.proofs.Many.{ends_all, Reads-many, and_true}
use Rattle.gb_script.proofs.TextLaws.{no_comma, Reads-texts, one_text}
use Rattle.gb_script.proofs.Limited.{no_dot}
use Rattle.gb_script.proofs.ClauseLaws.{Reads-call, call_end, call_ends, a_call, a_call_fits, an_assignment, Reads-property_assignment, Reads-block, all_of, of_all}
use Rattle.gb_script.proofs.Combined.{Reads-into, Reads-pair, Reads-past}

-- ---- a call after a colon

abbrev action_end : Option Call → Option Token → Bool
action_end None o = stops (is_sign Colon) o
action_end (Some c) o = call_end c o

abbrev call_action : Call → Option Call
call_action c = Some c

abbrev IsThere : Option Call → Type 0
IsThere None = ⊥
IsThere (Some c) = IsCall c

-- the part after the colon
abbrev after_colon : ℕ → Option Call → List Leveled
after_colon d None = []
after_colon d (Some c) = call_tokens d c

abbrev there_end : Option Call → Option Token → Bool
there_end None o = true
there_end (Some c) o = call_end c o

there_split : (a : Option Call) → IsThere a → (c : Call) × (a ≡ call_action c) × IsCall c
there_split None p = absurd p
there_split (Some c) p = (c, refl, p)

none_or_there : (a : Option Call) → IsAction a → (a ≡ None) ⊎ IsThere a
none_or_there None p = inl refl
none_or_there (Some c) p = inr p

there_action : (a : Option Call) → IsThere a → IsAction a
there_action None p = tt
there_action (Some c) p = p

there_marks : (d : ℕ) (a : Option Call) → IsThere a → action_tokens d a ≡ sign Colon ∷ after_colon d a
there_marks d None p = absurd p
there_marks d (Some c) p = refl

there_same : (a : Option Call) (o : Option Token) → IsThere a → action_end a o ≡ there_end a o
there_same None o p = absurd p
there_same (Some c) o p = refl

pub Reads-action : (room d : ℕ) → room + d ≡ 64 → Reads IsAction (action_tokens d) action_end (action_at room)
unfolding action_at
Reads-action room d sum =
    let made = Reads-into (Reads-call room d sum) call_action IsThere (after_colon d) there_end there_split (λ c p. p) (λ c p. refl) (λ c o p. refl) in
    Reads-maybe (is_sign Colon) (Reads-past (tests_sign Colon) made (Some a_call, a_call_fits)) None
    IsAction (action_tokens d) action_end
    (λ a p. record { head = sign Colon; tail = after_colon d a; whole = refl; passes = refl })
    none_or_there
    tt there_action
    refl (there_marks d)
    (λ o. refl) there_same

action_closes : (a : Option Call) → action_end a (Some (Mark OpenBrace)) ≡ true
action_closes None = refl
action_closes (Some c) = call_ends c (Some (Mark OpenBrace)) refl

-- ---- tasks

abbrev a_registration : Registration
a_registration = record { name = a_name; action = None; block = [] }

abbrev a_configuration : Configuration
a_configuration = record { name = a_name; block = [] }

Reads-registration : (room d : ℕ) → room + d ≡ 64 → Reads IsRegistration (registration_tokens d) always (registration_at room)
unfolding registration_at
Reads-registration room d sum =
    Reads-into (Reads-pair Reads-name (Reads-pair (Reads-action room d sum) (Reads-block room d sum) ([], tt)) ((None, []), (tt, tt))) registration_from
    IsRegistration (registration_tokens d) always
    (λ r q. ((r.name, (r.action, r.block)), refl, (q.name, (q.action, q.block))))
    (λ x p. record { name = p.0; action = p.1.0; block = p.1.1 })
    (λ x p. refl)
    (λ x o p. sym (and_true _ _ (action_closes x.1.0) refl))

Reads-configuration : (room d : ℕ) → room + d ≡ 64 → Reads IsConfiguration (configuration_tokens d) always (configuration_at room)
unfolding configuration_at
Reads-configuration room d sum =
    Reads-into (Reads-pair Reads-name (Reads-block room d sum) ([], tt)) configuration_from
    IsConfiguration (configuration_tokens d) always
    (λ c q. ((c.name, c.block), refl, (q.name, q.block)))
    (λ x p. record { name = p.0; block = p.1 })
    (λ x p. refl) (λ x o p. refl)

-- ---- a statement, after its word

abbrev statement_spelling : StatementWord → List ℕ
statement_spelling words.DefaultTasks = codes "defaultTasks"
statement_spelling (words.Property properties.Declare) = codes "property"
statement_spelling (words.Property properties.Set) = codes "set"
statement_spelling (words.Property properties.Convention) = codes "convention"
statement_spelling (words.Property properties.Unset) = codes "unset"
statement_spelling (words.Property properties.DisallowChanges) = codes "disallowChanges"
statement_spelling words.Register = codes "register"
statement_spelling words.Named = codes "named"

statement_means : (k : StatementWord) → meaning_in statement_words (statement_spelling k) ≡ Some k
statement_means words.DefaultTasks = refl
statement_means (words.Property properties.Declare) = refl
statement_means (words.Property properties.Set) = refl
statement_means (words.Property properties.Convention) = refl
statement_means (words.Property properties.Unset) = refl
statement_means (words.Property properties.DisallowChanges) = refl
statement_means words.Register = refl
statement_means words.Named = refl

abbrev word_of : Statement → StatementWord
word_of (statements.DefaultTasks x) = words.DefaultTasks
word_of (statements.Property x) = words.Property properties.Declare
word_of (statements.Set x) = words.Property properties.Set
word_of (statements.Convention x) = words.Property properties.Convention
word_of (statements.Unset x) = words.Property properties.Unset
word_of (statements.DisallowChanges x) = words.Property properties.DisallowChanges
word_of (statements.Register x) = words.Register
word_of (statements.Named x) = words.Named

-- a statement without its word
abbrev tail_tokens : ℕ → Statement → List Leveled
tail_tokens d (statements.DefaultTasks x) = texts_tokens x
tail_tokens d (statements.Property x) = word x ∷ []
tail_tokens d (statements.Set x) = assignment_tokens d x
tail_tokens d (statements.Convention x) = assignment_tokens d x
tail_tokens d (statements.Unset x) = word x ∷ []
tail_tokens d (statements.DisallowChanges x) = word x ∷ []
tail_tokens d (statements.Register x) = registration_tokens d x
tail_tokens d (statements.Named x) = configuration_tokens d x

statement_is : (d : ℕ) (s : Statement) → statement_tokens d s ≡ word (statement_spelling (word_of s)) ∷ tail_tokens d s
statement_is d (statements.DefaultTasks x) = refl
statement_is d (statements.Property x) = refl
statement_is d (statements.Set x) = refl
statement_is d (statements.Convention x) = refl
statement_is d (statements.Unset x) = refl
statement_is d (statements.DisallowChanges x) = refl
statement_is d (statements.Register x) = refl
statement_is d (statements.Named x) = refl

abbrev statement_end : Statement → Option Token → Bool
statement_end (statements.DefaultTasks x) o = no_comma o
statement_end (statements.Property x) o = true
statement_end (statements.Set x) o = no_dot o
statement_end (statements.Convention x) o = no_dot o
statement_end (statements.Unset x) o = true
statement_end (statements.DisallowChanges x) o = true
statement_end (statements.Register x) o = true
statement_end (statements.Named x) o = true

abbrev IsOf : StatementWord → Statement → Type 0
IsOf words.DefaultTasks s = (x : List (List ℕ)) × (s ≡ statements.DefaultTasks x) × AreSome x
IsOf (words.Property properties.Declare) s = (x : List ℕ) × (s ≡ statements.Property x) × IsProperty x
IsOf (words.Property properties.Set) s = (x : Assignment) × (s ≡ statements.Set x) × IsPropertyAssignment x
IsOf (words.Property properties.Convention) s = (x : Assignment) × (s ≡ statements.Convention x) × IsPropertyAssignment x
IsOf (words.Property properties.Unset) s = (x : List ℕ) × (s ≡ statements.Unset x) × IsProperty x
IsOf (words.Property properties.DisallowChanges) s = (x : List ℕ) × (s ≡ statements.DisallowChanges x) × IsProperty x
IsOf words.Register s = (x : Registration) × (s ≡ statements.Register x) × IsRegistration x
IsOf words.Named s = (x : Configuration) × (s ≡ statements.Named x) × IsConfiguration x

same_word : (k : StatementWord) (s : Statement) → IsOf k s → word_of s ≡ k
same_word words.DefaultTasks s q = ap word_of q.1
same_word (words.Property properties.Declare) s q = ap word_of q.1
same_word (words.Property properties.Set) s q = ap word_of q.1
same_word (words.Property properties.Convention) s q = ap word_of q.1
same_word (words.Property properties.Unset) s q = ap word_of q.1
same_word (words.Property properties.DisallowChanges) s q = ap word_of q.1
same_word words.Register s q = ap word_of q.1
same_word words.Named s q = ap word_of q.1

is_statement : (k : StatementWord) (s : Statement) → IsOf k s → IsStatement s
is_statement words.DefaultTasks s q = subst IsStatement (sym q.1) q.2
is_statement (words.Property properties.Declare) s q = subst IsStatement (sym q.1) q.2
is_statement (words.Property properties.Set) s q = subst IsStatement (sym q.1) q.2
is_statement (words.Property properties.Convention) s q = subst IsStatement (sym q.1) q.2
is_statement (words.Property properties.Unset) s q = subst IsStatement (sym q.1) q.2
is_statement (words.Property properties.DisallowChanges) s q = subst IsStatement (sym q.1) q.2
is_statement words.Register s q = subst IsStatement (sym q.1) q.2
is_statement words.Named s q = subst IsStatement (sym q.1) q.2

which_statement : (s : Statement) → IsStatement s → (k : StatementWord) × IsAny k × IsOf k s
which_statement (statements.DefaultTasks x) p = (words.DefaultTasks, tt, (x, refl, p))
which_statement (statements.Property x) p = (words.Property properties.Declare, tt, (x, refl, p))
which_statement (statements.Set x) p = (words.Property properties.Set, tt, (x, refl, p))
which_statement (statements.Convention x) p = (words.Property properties.Convention, tt, (x, refl, p))
which_statement (statements.Unset x) p = (words.Property properties.Unset, tt, (x, refl, p))
which_statement (statements.DisallowChanges x) p = (words.Property properties.DisallowChanges, tt, (x, refl, p))
which_statement (statements.Register x) p = (words.Register, tt, (x, refl, p))
which_statement (statements.Named x) p = (words.Named, tt, (x, refl, p))

some_statement : (k : StatementWord) → (s : Statement) × IsOf k s
some_statement words.DefaultTasks = (statements.DefaultTasks one_text, (one_text, refl, tt))
some_statement (words.Property properties.Declare) = (statements.Property a_name, (a_name, refl, (refl, refl)))
some_statement (words.Property properties.Set) = (statements.Set an_assignment, (an_assignment, refl, record { name = (refl, refl); value = (tt, tt) }))
some_statement (words.Property properties.Convention) = (statements.Convention an_assignment, (an_assignment, refl, record { name = (refl, refl); value = (tt, tt) }))
some_statement (words.Property properties.Unset) = (statements.Unset a_name, (a_name, refl, (refl, refl)))
some_statement (words.Property properties.DisallowChanges) = (statements.DisallowChanges a_name, (a_name, refl, (refl, refl)))
some_statement words.Register = (statements.Register a_registration, (a_registration, refl, record { name = refl; action = tt; block = tt }))
some_statement words.Named = (statements.Named a_configuration, (a_configuration, refl, record { name = refl; block = tt }))

-- a statement made of the part after its word
made_statement : {A : Type 0} {P : A → Type 0} {m : A → List Leveled} {e : A → Option Token → Bool} {r : Reader A} (d : ℕ) → Reads P m e r → (f : A → Statement) → ((x : A) → tail_tokens d (f x) ≡ m x) → ((x : A) (o : Option Token) → statement_end (f x) o ≡ e x o) → Reads (λ s. (x : A) × (s ≡ f x) × P x) (tail_tokens d) statement_end (made_at f r)
made_statement {A} {P} d R f same ends = Reads-into R f (λ s. (x : A) × (s ≡ f x) × P x) (tail_tokens d) statement_end (λ s q. q) (λ x p. (x, refl, p)) (λ x p. same x) (λ x o p. ends x o)

Reads-statement_of : (room d : ℕ) → room + d ≡ 64 → (k : StatementWord) → Reads (IsOf k) (tail_tokens d) statement_end (statement_of_at room k)
unfolding statement_of_at property_of_at
Reads-statement_of room d sum words.DefaultTasks = made_statement d (Reads-texts) statements.DefaultTasks (λ x. refl) (λ x o. refl)
Reads-statement_of room d sum (words.Property properties.Declare) = made_statement d (Reads-property) statements.Property (λ x. refl) (λ x o. refl)
Reads-statement_of room d sum (words.Property properties.Set) = made_statement d (Reads-property_assignment room d sum) statements.Set (λ x. refl) (λ x o. refl)
Reads-statement_of room d sum (words.Property properties.Convention) = made_statement d (Reads-property_assignment room d sum) statements.Convention (λ x. refl) (λ x o. refl)
Reads-statement_of room d sum (words.Property properties.Unset) = made_statement d (Reads-property) statements.Unset (λ x. refl) (λ x o. refl)
Reads-statement_of room d sum (words.Property properties.DisallowChanges) = made_statement d (Reads-property) statements.DisallowChanges (λ x. refl) (λ x o. refl)
Reads-statement_of room d sum words.Register = made_statement d (Reads-registration room d sum) statements.Register (λ x. refl) (λ x o. refl)
Reads-statement_of room d sum words.Named = made_statement d (Reads-configuration room d sum) statements.Named (λ x. refl) (λ x o. refl)

pub Reads-statement : (room d : ℕ) → room + d ≡ 64 → Reads IsStatement (statement_tokens d) statement_end (statement_at room)
unfolding statement_at
Reads-statement room d sum =
    Reads-bind {r2 = statement_of_at room}
    (Reads-meaning statement_words statement_spelling (refl, (refl, (refl, (refl, (refl, (refl, (refl, (refl, tt)))))))) statement_means (words.Property properties.Declare)) (λ k p. Reads-statement_of room d sum k)
    (λ k p. some_statement k)
    IsStatement (statement_tokens d) statement_end
    which_statement
    (λ k s p q. is_statement k s q)
    (λ k s p q. statement_is d s ∙ ap (λ (j : StatementWord). word (statement_spelling j) ∷ tail_tokens d s) (same_word k s q))
    (λ k s o p q h. (refl, h))
    (λ k s o p q h g. g)

statement_begun : (s : Statement) → Begun is_any (statement_tokens 0 s)
statement_begun s = record { head = word (statement_spelling (word_of s)); tail = tail_tokens 0 s; whole = statement_is 0 s; passes = refl }

-- ---- a script

pub script_end : List Statement → Option Token → Bool
script_end ss o = ends_all (statement_tokens 0) statement_end is_any ss o

pub Reads-script : Reads IsScript script_tokens script_end script_at
unfolding script_at script_end
Reads-script =
    Reads-as
    (Reads-many {P = λ s. IsStatement} {r = λ s. statement_at 64} is_any no_matter (λ s. Reads-statement 64 0 refl) (λ s a p. statement_begun a) tt)
    IsScript script_tokens script_end
    (all_of IsStatement) (of_all IsStatement)
    (λ ss p. refl) (λ ss o p. refl)

statement_ends : (s : Statement) (o : Option Token) → stops (is_sign Dot) o ≡ true → stops (is_sign Comma) o ≡ true → statement_end s o ≡ true
statement_ends (statements.DefaultTasks x) o dot comma = comma
statement_ends (statements.Property x) o dot comma = refl
statement_ends (statements.Set x) o dot comma = dot
statement_ends (statements.Convention x) o dot comma = dot
statement_ends (statements.Unset x) o dot comma = refl
statement_ends (statements.DisallowChanges x) o dot comma = refl
statement_ends (statements.Register x) o dot comma = refl
statement_ends (statements.Named x) o dot comma = refl

-- a word or nothing follows
next_is : (test : Token → Bool) → ((w : List ℕ) → test (Word w) ≡ false) → (ss : List Statement) → stops test (first_or (script_tokens ss) None) ≡ true
next_is test h [] = refl
next_is test h (s ∷ ss) =
    let first : stops test (Some (Word (statement_spelling (word_of s)))) ≡ true = rw (h (statement_spelling (word_of s))) refl in
    ap (λ (l : List Leveled). stops test (first_or (l ++ script_tokens ss) None)) (statement_is 0 s) ∙ first

pub script_ends_text : (ss : List Statement) → IsScript ss → script_end ss None ≡ true
unfolding script_end
script_ends_text [] p = refl
script_ends_text (s ∷ ss) p =
    and_true _ _ (statement_ends s _ (next_is (is_sign Dot) (λ w. refl) ss) (next_is (is_sign Comma) (λ w. refl) ss)) (script_ends_text ss p.1)

-- ---- settings

abbrev include_end : List (List ℕ) → Option Token → Bool
include_end ts o = no_comma o

Reads-include : Reads AreSome include_tokens include_end include_at
unfolding include_at
Reads-include = Reads-past (tests_word (codes "include")) Reads-texts (one_text, tt)

pub settings_end : List (List (List ℕ)) → Option Token → Bool
settings_end includes o = ends_all include_tokens include_end is_any includes o

pub Reads-settings : Reads IsSettings settings_tokens settings_end settings_at
unfolding settings_at settings_end
Reads-settings =
    Reads-as
    (Reads-many {P = λ s. AreSome} {r = λ s. include_at} is_any no_matter (λ s. Reads-include) (λ s a p. record { head = word (codes "include"); tail = texts_tokens a; whole = refl; passes = refl }) tt)
    IsSettings settings_tokens settings_end
    (all_of AreSome) (of_all AreSome)
    (λ is p. refl) (λ is o p. refl)

pub settings_end_text : (includes : List (List (List ℕ))) → IsSettings includes → settings_end includes None ≡ true
unfolding settings_end
settings_end_text [] p = refl
settings_end_text (i ∷ []) p = refl
settings_end_text (i ∷ j ∷ is) p = settings_end_text (j ∷ is) p.1
