-- Reading tokens from left to right, up to the first fault, and how readers are combined.
use Rattle.std.specs.Prelude.{◌≡◌, ℕ, zero, suc, ◌-◌, Bool, true, false, not, ◌&&◌, List, [], ◌∷◌, length}
use Rattle.std.specs.Prelude.{drop, Option, Some, None, Result, Ok, Err, nat_eq, ◌==◌, if◌then◌else◌}
use Rattle.std.specs.Str.{bytes_eq}
use Rattle.gb_core.specs.Name.{is_name}
use Rattle.gb_script.specs.declared.token.Sign.{Sign}
use Rattle.gb_script.specs.declared.token.Sign.TheVariants.{Comma}
use Rattle.gb_script.specs.declared.token.Token.{Token}
use Rattle.gb_script.specs.declared.token.Token.TheVariants.{Word, Text, Mark, Wrong}
use Rattle.gb_script.specs.declared.token_fault.Fault.{Fault}
use Rattle.gb_script.specs.declared.token_fault.Fault.TheVariants.{Stray, Deep}
use Rattle.gb_script.specs.declared.token_fault.Stop.{Stop}
use Rattle.gb_script.specs.declared.token_fault.Stop.TheVariants as stops
use Rattle.gb_script.specs.Lexing.{begins, sign_byte}
use Rattle.gb_script.specs.Words.{Meanings, meaning_in, is_reserved}

-- a value and the tokens after it, or the first fault
abbrev pub Reader : Type 0 → Type 0
Reader A = List Token → Result (A × List Token) Fault

infixl 10 ◌>>=◌
abbrev pub ◌>>=◌ : {A B : Type 0} → Result A Fault → (A → Result B Fault) → Result B Fault
(Ok x) >>= f = f x
(Err e) >>= f = Err e

-- The returned value, under the view, is the result of reading, unless memory ran out.
abbrev pub Fails : {Y : Type 0} → Stop → Result Y Fault → Type 0
Fails stops.Memory read = Unit {0}
Fails (stops.Fault f) read = read ≡ Err f

abbrev pub Gives : {X Y : Type 0} → (X → Y) → Result X Stop → Result Y Fault → Type 0
Gives view (Ok x) read = read ≡ Ok (view x)
Gives view (Err e) read = Fails e read

-- the first token is one that no script has there
abbrev pub stray : {A : Type 0} → List Token → Result A Fault
stray ts = Err (Stray (length ts))

abbrev pub deep : {A : Type 0} → List Token → Result A Fault
deep ts = Err (Deep (length ts))

abbrev pub is_sign : Sign → Token → Bool
is_sign s (Mark t) = nat_eq (sign_byte t) (sign_byte s)
is_sign s (Word w) = false
is_sign s (Text t) = false
is_sign s Wrong = false

abbrev pub is_word : List ℕ → Token → Bool
is_word w (Word v) = bytes_eq v w
is_word w (Text t) = false
is_word w (Mark s) = false
is_word w Wrong = false

abbrev pub is_any : Token → Bool
is_any t = true

-- ---- how readers are combined

-- a token that passes the test
unfoldable pub skip_at : (Token → Bool) → List Token → Result (List Token) Fault
skip_at test ts = if begins test ts then Ok (drop 1 ts) else stray ts

-- one more bracket, if there is room for it: the room within, and the tokens after the bracket
unfoldable pub open_at : Sign → ℕ → Reader ℕ
open_at s room ts = do
  rest ← skip_at (is_sign s) ts
  if room == 0 then deep ts else Ok (room - 1, rest)

unfoldable pub name_at : Reader (List ℕ)
name_at [] = stray []
name_at (Word w ∷ ts) = if is_name w then Ok (w, ts) else stray (Word w ∷ ts)
name_at (Text t ∷ ts) = stray (Text t ∷ ts)
name_at (Mark s ∷ ts) = stray (Mark s ∷ ts)
name_at (Wrong ∷ ts) = stray (Wrong ∷ ts)

-- a name that is not reserved
unfoldable pub property_at : Reader (List ℕ)
property_at [] = stray []
property_at (Word w ∷ ts) = if is_name w && not (is_reserved w) then Ok (w, ts) else stray (Word w ∷ ts)
property_at (Text t ∷ ts) = stray (Text t ∷ ts)
property_at (Mark s ∷ ts) = stray (Mark s ∷ ts)
property_at (Wrong ∷ ts) = stray (Wrong ∷ ts)

unfoldable pub text_at : Reader (List ℕ)
text_at [] = stray []
text_at (Word w ∷ ts) = stray (Word w ∷ ts)
text_at (Text t ∷ ts) = Ok (t, ts)
text_at (Mark s ∷ ts) = stray (Mark s ∷ ts)
text_at (Wrong ∷ ts) = stray (Wrong ∷ ts)

-- what a word was found to be, with the tokens from the word on and those after it
abbrev pub found_at : {K : Type 0} → List Token → List Token → Option K → Result (K × List Token) Fault
found_at whole ts None = stray whole
found_at whole ts (Some k) = Ok (k, ts)

-- a word that means something
unfoldable pub meaning_at : {K : Type 0} → Meanings K → Reader K
meaning_at words [] = stray []
meaning_at words (Word w ∷ ts) = found_at (Word w ∷ ts) ts (meaning_in words w)
meaning_at words (Text t ∷ ts) = stray (Text t ∷ ts)
meaning_at words (Mark s ∷ ts) = stray (Mark s ∷ ts)
meaning_at words (Wrong ∷ ts) = stray (Wrong ∷ ts)

-- an element if one begins so, or else nothing
unfoldable pub maybe_at : {A : Type 0} → (Token → Bool) → Reader A → A → Reader A
maybe_at test r none ts = if begins test ts then r ts else Ok (none, ts)

-- Each element that begins so, at most n of them. The elements read before decide which may come.
unfoldable pub many_at : {S A : Type 0} → (Token → Bool) → (S → A → S) → (S → Reader A) → ℕ → S
    → Reader (List A)
many_at test next r zero s ts = if begins test ts then deep ts else Ok ([], ts)
many_at test next r (suc n) s ts =
    if begins test ts then (do
      first ← r s ts
      others ← many_at test next r n (next s first.0) first.1
      Ok (first.0 ∷ others.0, others.1))
    else Ok ([], ts)

-- the rest after a token that passes the test
unfoldable pub past_at : {A : Type 0} → (Token → Bool) → Reader A → Reader A
past_at test r ts = skip_at test ts >>= r

-- two, one after the other
abbrev pub pair_at : {A B : Type 0} → Reader A → Reader B → Reader (A × B)
pair_at first second ts = do
  x ← first ts
  y ← second x.1
  Ok ((x.0, y.0), y.1)

-- a function of the value read
abbrev pub made_at : {A B : Type 0} → (A → B) → Reader A → Reader B
made_at make r ts = do
  x ← r ts
  Ok (make x.0, x.1)

-- the part before a token that passes the test
abbrev pub closed_at : {A : Type 0} → (Token → Bool) → Reader A → Reader A
closed_at test r ts = do
  x ← r ts
  rest ← skip_at test x.1
  Ok (x.0, rest)

-- the part after a bracket that opens, read with the room within
abbrev pub opened_at : {A : Type 0} → Sign → ℕ → (ℕ → Reader A) → Reader A
opened_at s room r ts = do
  inner ← open_at s room ts
  r inner.0 inner.1

-- whether the word is present
unfoldable pub said_at : List ℕ → Reader Bool
said_at w ts = if begins (is_word w) ts then Ok (true, drop 1 ts) else Ok (false, ts)

-- nothing to remember
abbrev pub no_matter : {A : Type 0} → Unit {0} → A → Unit {0}
no_matter s x = tt

-- one or more, separated by commas
unfoldable pub list_at : {A : Type 0} → Reader A → Reader (List A)
list_at r ts = do
  first ← r ts
  others ← many_at (is_sign Comma) no_matter (λ s. past_at (is_sign Comma) r) (length first.1) tt first.1
  Ok (first.0 ∷ others.0, others.1)

-- all of the tokens
unfoldable pub all_at : {A : Type 0} → Reader A → List Token → Result A Fault
all_at r ts = do
  x ← r ts
  if length x.1 == 0 then Ok x.0 else stray x.1
