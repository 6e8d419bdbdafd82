-- Rows, texts and functions are read by the laws.
use Rattle.std.proofs.Common.{◌≡◌, ℕ, ◌+◌, Bool, true, List, [], ◌∷◌, ◌++◌, Option, Some, refl, sym, ap, ◌∙◌, ◌⊎◌, inl, inr}
use Rattle.std.specs.Prelude.{◌&&◌}
use Rattle.std.specs.List.{AllByRecursion, flat_map}
use Rattle.gb_script.specs.declared.token.Sign.TheVariants.{OpenParen, CloseParen, Comma}
use Rattle.gb_script.specs.declared.token.Token.{Token}
use Rattle.gb_script.specs.declared.token.Token.TheVariants.{Mark}
use Rattle.gb_script.specs.declared.function.Function.{Function}
use Rattle.gb_script.specs.Grammar.{Leveled, opened, sign, list_tokens, texts_tokens, bracketed_tokens, given_tokens, function_tokens}
use Rattle.gb_script.specs.Fits.{IsFunction, AreSome}
use Rattle.gb_script.specs.Reading.{Reader, is_sign, text_at, list_at, maybe_at, closed_at, no_matter}
use Rattle.gb_script.specs.Readers.{bracketed_text_at, bracketed_texts_at, function_from, function_at}
use Rattle.gb_script.proofs.Readers.{Reads, always, first_or, Reads-as}
use Rattle.gb_script.proofs.Singles.{tests_sign, Reads-name, a_name, Reads-text, IsAny}
use Rattle.gb_script.proofs.Maybe.{stops, Reads-maybe}
use Rattle.gb_script.proofs.Many.{AllFrom, ends_all}
use Rattle.gb_script.proofs.Lists.{IsList, list_ends, Reads-list}
use Rattle.gb_script.proofs.Combined.{Reads-into, Reads-pair, Reads-closed, Reads-opened}

-- ---- one or more, separated by commas

-- the token after a row is not a comma
abbrev pub row_end : (Option Token → Bool) → Option Token → Bool
row_end c o = c o && stops (is_sign Comma) o

module _ {A : Type 0} {P : A → Type 0} {m : A → List Leveled} {c : Option Token → Bool} {r : Reader A} (R : Reads P m (λ a. c) r) (some : (a : A) × P a) (comma : c (Some (Mark Comma)) ≡ true) where
  abbrev pub IsRow : List A → Type 0
  IsRow [] = ⊥
  IsRow (x ∷ xs) = P x × AllByRecursion P xs

  abbrev following : A → List Leveled
  following a = (Mark Comma, 0) ∷ m a

  ends_so : (xs : List A) (o : Option Token) → row_end c o ≡ (c (first_or (flat_map following xs) o) && ends_all following (λ a. c) (is_sign Comma) xs o)
  ends_so [] o = refl
  ends_so (x ∷ xs) o = ends_so xs o ∙ ap (λ (b : Bool). b && (c (first_or (flat_map following xs) o) && ends_all following (λ a. c) (is_sign Comma) xs o)) (sym comma)

  row_ends : (xs : List A) (o : Option Token) → IsList R some xs → row_end c o ≡ list_ends R some xs o
  row_ends [] o p = absurd p
  row_ends (x ∷ xs) o p = ends_so xs o

  to_all : (xs : List A) → AllFrom {S = Unit {0}} (λ s. P) no_matter tt xs → AllByRecursion P xs
  to_all [] p = tt
  to_all (x ∷ xs) p = (p.0, to_all xs p.1)

  from_all : (xs : List A) → AllByRecursion P xs → AllFrom {S = Unit {0}} (λ s. P) no_matter tt xs
  from_all [] p = tt
  from_all (x ∷ xs) p = (p.0, from_all xs p.1)

  to_row : (xs : List A) → IsList R some xs → IsRow xs
  to_row [] p = p
  to_row (x ∷ xs) p = (p.0, to_all xs p.1)

  from_row : (xs : List A) → IsRow xs → IsList R some xs
  from_row [] p = p
  from_row (x ∷ xs) p = (p.0, from_all xs p.1)

  pub Reads-row : Reads IsRow (list_tokens m) (λ xs. row_end c) (list_at r)
  Reads-row = Reads-as (Reads-list R some) IsRow (list_tokens m) (λ xs. row_end c) to_row from_row (λ xs p. refl) row_ends

-- ---- texts

abbrev pub no_comma : Option Token → Bool
no_comma o = stops (is_sign Comma) o

abbrev any_end : Option Token → Bool
any_end o = true

some_text : (ts : List (List ℕ)) → IsRow {c = any_end} Reads-text ([], tt) refl ts → AreSome ts
some_text [] p = p
some_text (t ∷ ts) p = tt

all_texts : (ts : List (List ℕ)) → AllByRecursion IsAny ts
all_texts [] = tt
all_texts (t ∷ ts) = (tt, all_texts ts)

a_row : (ts : List (List ℕ)) → AreSome ts → IsRow {c = any_end} Reads-text ([], tt) refl ts
a_row [] p = p
a_row (t ∷ ts) p = (tt, all_texts ts)

pub Reads-texts : Reads AreSome texts_tokens (λ ts. no_comma) (list_at text_at)
Reads-texts =
    Reads-as (Reads-row {c = any_end} Reads-text ([], tt) refl) AreSome texts_tokens (λ ts. no_comma) some_text a_row (λ ts p. refl) (λ ts o p. refl)

-- some texts
abbrev pub one_text : List (List ℕ)
one_text = [] ∷ []

pub Reads-bracketed_text : (room d : ℕ) → room + d ≡ 64 → Reads IsAny (bracketed_tokens d) always (bracketed_text_at room)
unfolding bracketed_text_at
Reads-bracketed_text room d sum =
    Reads-opened (λ n. closed_at (is_sign CloseParen) text_at) OpenParen room d sum ([], tt) (λ n e. Reads-closed (tests_sign CloseParen) Reads-text (λ t p. refl))

pub Reads-bracketed_texts : (room d : ℕ) → room + d ≡ 64 → Reads AreSome (λ ts. opened OpenParen d ∷ (texts_tokens ts ++ sign CloseParen ∷ [])) always (bracketed_texts_at room)
unfolding bracketed_texts_at
Reads-bracketed_texts room d sum =
    Reads-opened (λ n. closed_at (is_sign CloseParen) (list_at text_at)) OpenParen room d sum (one_text, tt) (λ n e. Reads-closed (tests_sign CloseParen) Reads-texts (λ ts p. refl))

-- ---- a function

abbrev pub given_end : List (List ℕ) → Option Token → Bool
given_end [] o = stops (is_sign OpenParen) o
given_end (t ∷ ts) o = true

none_or_texts : (ts : List (List ℕ)) → (ts ≡ []) ⊎ AreSome ts
none_or_texts [] = inl refl
none_or_texts (t ∷ ts) = inr tt

brackets_are : (d : ℕ) (ts : List (List ℕ)) → AreSome ts → given_tokens d ts ≡ opened OpenParen d ∷ (texts_tokens ts ++ sign CloseParen ∷ [])
brackets_are d [] p = absurd p
brackets_are d (t ∷ ts) p = refl

brackets_end : (ts : List (List ℕ)) (o : Option Token) → AreSome ts → given_end ts o ≡ true
brackets_end [] o p = absurd p
brackets_end (t ∷ ts) o p = refl

Reads-given : (room d : ℕ) → room + d ≡ 64 → Reads IsAny (given_tokens d) given_end (λ ts. maybe_at (is_sign OpenParen) (bracketed_texts_at room) [] ts)
Reads-given room d sum =
    Reads-maybe (is_sign OpenParen) (Reads-bracketed_texts room d sum) []
    IsAny (given_tokens d) given_end
    (λ ts p. record { head = opened OpenParen d; tail = texts_tokens ts ++ sign CloseParen ∷ []; whole = refl; passes = refl })
    (λ ts p. none_or_texts ts)
    tt (λ ts p. tt)
    refl (brackets_are d)
    (λ o. refl) (λ ts o p. brackets_end ts o p)

abbrev pub function_end : Function → Option Token → Bool
function_end f o = given_end f.arguments o

pub Reads-function : (room d : ℕ) → room + d ≡ 64 → Reads IsFunction (function_tokens d) function_end (function_at room)
unfolding function_at
Reads-function room d sum =
    Reads-into (Reads-pair Reads-name (Reads-given room d sum) ([], tt)) function_from
    IsFunction (function_tokens d) function_end
    (λ f q. ((f.name, f.arguments), refl, (q, tt)))
    (λ x p. p.0)
    (λ x p. refl) (λ x o p. refl)

-- some function
abbrev pub a_function : Function
a_function = record { name = a_name; arguments = [] }

-- a function ends before a token that is not a bracket
pub function_ends : (f : Function) (o : Option Token) → stops (is_sign OpenParen) o ≡ true → function_end f o ≡ true
function_ends f o h = given_ends f.arguments o h
  where
    given_ends : (ts : List (List ℕ)) (o : Option Token) → stops (is_sign OpenParen) o ≡ true → given_end ts o ≡ true
    given_ends [] o h = h
    given_ends (t ∷ ts) o h = refl
