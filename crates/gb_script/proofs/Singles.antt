-- Readers of one token, by their laws.
use Rattle.std.proofs.Common.{◌≡◌, ℕ, Bool, true, false, List, [], ◌∷◌, ◌++◌, length, Option, Some, None, Ok, Err, refl, sym, ap, ◌∙◌, inl, inr}
use Rattle.std.specs.Prelude.{drop, IsTrue, not, ◌&&◌}
use Rattle.std.specs.List.{AllByRecursion}
use Rattle.std.specs.Str.{bytes_eq}
use Rattle.std.proofs.lemmas.Bool.{eqb-true}
use Rattle.std.proofs.lemmas.Slice.Eq.{bytes_eq-Decides}
use Rattle.gb_core.specs.Name.{is_name}
use Rattle.gb_script.specs.declared.token.Sign.{Sign}
use Rattle.gb_script.specs.declared.token.Sign.TheVariants.{OpenBrace, CloseBrace, OpenParen, CloseParen, OpenBracket, CloseBracket, Comma, Dot, Colon, Equals}
use Rattle.gb_script.specs.declared.token.Token.{Token}
use Rattle.gb_script.specs.declared.token.Token.TheVariants.{Word, Text, Mark, Wrong}
use Rattle.gb_script.specs.declared.token_fault.Fault.{Fault}
use Rattle.gb_script.specs.declared.token_fault.Fault.TheVariants.{Stray, Deep}
use Rattle.gb_script.specs.Lexing.{begins, sign_byte}
use Rattle.gb_script.specs.Scanning.{sign_of}
use Rattle.gb_script.specs.Grammar.{Leveled, tokens_of}
use Rattle.gb_script.specs.Fits.{IsName, IsProperty}
use Rattle.gb_script.specs.Words.{Meanings, meaning_in, is_reserved}
use Rattle.gb_script.specs.Reading.{Reader, ◌>>=◌, stray, is_sign, is_word, skip_at, name_at, property_at, text_at, found_at, meaning_at}
use Rattle.gb_script.proofs.Runs.{cases_bool}
use Rattle.gb_script.specs.Verdict.{IsWithin}
use Rattle.gb_script.proofs.Readers.{Reads, StrayIn, DeepIn, always, done, ok_is, bind_ok, bind_err, checked}

-- ---- tests of a token

-- the test passes this token, and no other
pub record IsTestOf (test : Token → Bool) (m : Token) : Type 0 where
  pub same : test m ≡ true
  pub only : (t : Token) → test t ≡ true → t ≡ m

pub sign_of-sign_byte : (s : Sign) → sign_of (sign_byte s) ≡ Some s
sign_of-sign_byte OpenBrace = refl
sign_of-sign_byte CloseBrace = refl
sign_of-sign_byte OpenParen = refl
sign_of-sign_byte CloseParen = refl
sign_of-sign_byte OpenBracket = refl
sign_of-sign_byte CloseBracket = refl
sign_of-sign_byte Comma = refl
sign_of-sign_byte Dot = refl
sign_of-sign_byte Colon = refl
sign_of-sign_byte Equals = refl

abbrev some_of : Sign → Option Sign
some_of s = Some s

some_sign : (s t : Sign) → some_of s ≡ some_of t → s ≡ t
some_sign s t e = cc

is_sign_only : (s : Sign) (t : Token) → is_sign s t ≡ true → t ≡ Mark s
is_sign_only s (Word w) h = absurd cc
is_sign_only s (Text w) h = absurd cc
is_sign_only s Wrong h = absurd cc
is_sign_only s (Mark t) h =
    let same : sign_byte t ≡ sign_byte s = eqb-true (sign_byte t) (sign_byte s) h in
    ap Mark (some_sign t s (sym (sign_of-sign_byte t) ∙ ap sign_of same ∙ sign_of-sign_byte s))

pub tests_sign : (s : Sign) → IsTestOf (is_sign s) (Mark s)
tests_sign s = record { same = same s; only = is_sign_only s }
  where
    same : (s : Sign) → is_sign s (Mark s) ≡ true
    same OpenBrace = refl
    same CloseBrace = refl
    same OpenParen = refl
    same CloseParen = refl
    same OpenBracket = refl
    same CloseBracket = refl
    same Comma = refl
    same Dot = refl
    same Colon = refl
    same Equals = refl

is_word_only : (w : List ℕ) (t : Token) → is_word w t ≡ true → t ≡ Word w
is_word_only w (Word v) h = ap Word ((bytes_eq-Decides v w).0 h)
is_word_only w (Text t) h = absurd cc
is_word_only w (Mark s) h = absurd cc
is_word_only w Wrong h = absurd cc

pub tests_word : (w : List ℕ) → IsTestOf (is_word w) (Word w)
tests_word w = record { same = (bytes_eq-Decides w w).1 refl; only = is_word_only w }

pub head_not : (test : Token → Bool) (ts : List Token) (b : Token) (rest : List Token) → begins test ts ≡ false → ts ≡ b ∷ rest → test b ≡ false
head_not test ts b rest h at = sym (ap (begins test) at) ∙ h

pub begins_prefix : (test : Token → Bool) (prefix : List Leveled) (b : Token) (x y : List Token) → begins test (tokens_of prefix ++ b ∷ x) ≡ begins test (tokens_of prefix ++ b ∷ y)
begins_prefix test [] b x y = refl
begins_prefix test (l ∷ prefix) b x y = refl

-- ---- a token before the rest

pub begins_is : {test : Token → Bool} {m : Token} → IsTestOf test m → (ts : List Token) → begins test ts ≡ true → ts ≡ m ∷ drop 1 ts
begins_is T [] h = absurd cc
begins_is T (t ∷ ts) h = ap (λ (x : Token). x ∷ ts) (T.only t h)

skip_ok : {test : Token → Bool} {m : Token} → IsTestOf test m → (ts rest : List Token) → skip_at test ts ≡ Ok rest → ts ≡ m ∷ rest
unfolding skip_at
skip_ok {test} {m} T ts rest h =
    elim (cases_bool (begins test ts)) [
      | inl b ↦ let found : drop 1 ts ≡ rest = ok_is (drop 1 ts) rest (rw b at h) in begins_is T ts b ∙ ap (λ (l : List Token). m ∷ l) found
      | inr b ↦ absurd (let no : stray {A = List Token} ts ≡ Ok rest = rw b at h in cc)
    ]

skip_again : {test : Token → Bool} {m : Token} → IsTestOf test m → (rest : List Token) → skip_at test (m ∷ rest) ≡ Ok rest
unfolding skip_at
skip_again T rest = rw T.same refl

skip_stray : (test : Token → Bool) (ts : List Token) (d : Fault) → skip_at test ts ≡ Err d → (d ≡ Stray (length ts)) × (begins test ts ≡ false)
unfolding skip_at
skip_stray test ts d h =
    elim (cases_bool (begins test ts)) [
      | inl b ↦ absurd (let no : done (drop 1 ts) ≡ Err d = rw b at h in cc)
      | inr b ↦ (let e : stray {A = List Token} ts ≡ Err d = rw b at h in cc, b)
    ]

pub skip_fails : (test : Token → Bool) (ts : List Token) → begins test ts ≡ false → skip_at test ts ≡ stray ts
unfolding skip_at
skip_fails test ts h = rw h refl

module _ {B : Type 0} {P : B → Type 0} {marks : B → List Leveled} {e : B → Option Token → Bool} {r : Reader B} {test : Token → Bool} {m : Token} (T : IsTestOf test m) (R : Reads P marks e r) (some : (b : B) × P b) (v : ℕ) (low : IsWithin (m, v)) where
  abbrev following : B → List Leveled
  following b = (m, v) ∷ marks b

  abbrev skipped : Reader B
  skipped ts = skip_at test ts >>= r

  skip_strays : (ts : List Token) (n : ℕ) → skipped ts ≡ Err (Stray n) → StrayIn P following skipped ts n
  skip_strays ts n h =
      elim (bind_err (skip_at test ts) r (Stray n) h) [
        | inl f ↦
            let d = skip_stray test ts (Stray n) f in
            record {
              value = some.0;
              fits = some.1;
              prefix = [];
              more = following some.0;
              bad = ts;
              whole = refl;
              spelled = refl;
              size = cc;
              within = tt;
              only = λ b rest other at. ap (λ read. read >>= r) (skip_fails test (b ∷ other) (head_not test ts b rest d.1 at));
            }
        | inr x ↦
            let ts-is = skip_ok T ts x.0 x.1 in
            let t = R.strays x.0 n x.2 in
            record {
              value = t.value;
              fits = t.fits;
              prefix = (m, v) ∷ t.prefix;
              more = t.more;
              bad = t.bad;
              whole = ap (λ (l : List Leveled). (m, v) ∷ l) t.whole;
              spelled = ts-is ∙ ap (λ (l : List Token). m ∷ l) t.spelled;
              size = t.size;
              within = (low, t.within);
              only = λ b rest other at. ap (λ read. read >>= r) (skip_again T (tokens_of t.prefix ++ b ∷ other)) ∙ t.only b rest other at;
            }
      ]

  skip_deeps : (ts : List Token) (n : ℕ) → skipped ts ≡ Err (Deep n) → DeepIn P following skipped ts n
  skip_deeps ts n h =
      elim (bind_err (skip_at test ts) r (Deep n) h) [
        | inl f ↦ absurd (let d = skip_stray test ts (Deep n) f in let no : Deep n ≡ Stray (length ts) = d.0 in cc)
        | inr x ↦
            let ts-is = skip_ok T ts x.0 x.1 in
            let t = R.deeps x.0 n x.2 in
            record {
              value = t.value;
              fits = t.fits;
              prefix = (m, v) ∷ t.prefix;
              over = t.over;
              more = t.more;
              rest = t.rest;
              whole = ap (λ (l : List Leveled). (m, v) ∷ l) t.whole;
              spelled = ts-is ∙ ap (λ (l : List Token). m ∷ l) t.spelled;
              size = t.size;
              within = (low, t.within);
              past = t.past;
              only = λ other. ap (λ read. read >>= r) (skip_again T (tokens_of t.prefix ++ t.over.0 ∷ other)) ∙ t.only other;
            }
      ]

  pub Reads-skip-at : Reads P following e skipped
  Reads-skip-at = record {
    takes = λ ts rest b h.
        let x = bind_ok (skip_at test ts) r (b, rest) h in
        let t = R.takes x.0 rest b x.2 in
        record { fits = t.fits; spelled = skip_ok T ts x.0 x.1 ∙ ap (λ (l : List Token). m ∷ l) t.spelled; within = (low, t.within); ends_there = t.ends_there };
    again = λ b k p h.
        let passed : checked (following b) k (Ok (b, k)) ≡ checked (marks b) k (Ok (b, k)) = rw low refl in
        ap (λ read. read >>= r) (skip_again T (tokens_of (marks b) ++ k)) ∙ R.again b k p h ∙ sym passed;
    strays = skip_strays;
    deeps = skip_deeps;
  }

-- a token that is no level
pub Reads-skip : {B : Type 0} {P : B → Type 0} {marks : B → List Leveled} {e : B → Option Token → Bool} {r : Reader B} {test : Token → Bool} {m : Token} → IsTestOf test m → Reads P marks e r → (b : B) × P b → Reads P (λ b. (m, 0) ∷ marks b) e (λ ts. skip_at test ts >>= r)
Reads-skip T R some = Reads-skip-at T R some 0 refl

-- ---- one token with its contents

name_ok : (ts rest : List Token) (w : List ℕ) → name_at ts ≡ Ok (w, rest) → (ts ≡ Word w ∷ rest) × IsTrue (is_name w)
unfolding name_at
name_ok [] rest w h = absurd cc
name_ok (Word v ∷ ts) rest w h =
    elim (cases_bool (is_name v)) [
      | inl y ↦ (let same = ok_is (v, ts) (w, rest) (rw y at h) in (ap (λ (x : List ℕ × List Token). Word x.0 ∷ x.1) same, sym (ap (λ (x : List ℕ × List Token). is_name x.0) same) ∙ y))
      | inr y ↦ absurd (let no : stray {A = List ℕ × List Token} (Word v ∷ ts) ≡ Ok (w, rest) = rw y at h in cc)
    ]
name_ok (Text t ∷ ts) rest w h = absurd cc
name_ok (Mark s ∷ ts) rest w h = absurd cc
name_ok (Wrong ∷ ts) rest w h = absurd cc

name_bad : (ts : List Token) (d : Fault) → name_at ts ≡ Err d → (d ≡ Stray (length ts)) × ((b : Token) (rest other : List Token) → ts ≡ b ∷ rest → name_at (b ∷ other) ≡ stray (b ∷ other))
unfolding name_at
name_bad [] d h = (cc, λ b rest other at. absurd cc)
name_bad (Word v ∷ ts) d h =
    elim (cases_bool (is_name v)) [
      | inl y ↦ absurd (let no : done (v, ts) ≡ Err d = rw y at h in cc)
      | inr y ↦ (
        let e : stray {A = List ℕ × List Token} (Word v ∷ ts) ≡ Err d = rw y at h in cc,
        λ b rest other at. let same : Word v ≡ b = cc in rw (← same, y) refl,
      )
    ]
name_bad (Text t ∷ ts) d h = (cc, λ b rest other at. let same : Text t ≡ b = cc in rw (← same) refl)
name_bad (Mark s ∷ ts) d h = (cc, λ b rest other at. let same : Mark s ≡ b = cc in rw (← same) refl)
name_bad (Wrong ∷ ts) d h = (cc, λ b rest other at. let same : Wrong ≡ b = cc in rw (← same) refl)

-- a name
abbrev pub a_name : List ℕ
a_name = 97 ∷ []

name_again : (w : List ℕ) (k : List Token) → IsName w → name_at (Word w ∷ k) ≡ Ok (w, k)
unfolding name_at
name_again w k p = rw p refl

pub Reads-name : Reads IsName (λ w. (Word w, 0) ∷ []) always name_at
Reads-name = record {
  takes = λ ts rest w h. let t = name_ok ts rest w h in record { fits = t.1; spelled = t.0; within = (refl, tt); ends_there = refl };
  again = λ w k p h. name_again w k p;
  strays = λ ts n h. let d = name_bad ts (Stray n) h in let size : n ≡ length ts = (let e = d.0 in cc) in record { value = a_name; fits = refl; prefix = []; more = (Word a_name, 0) ∷ []; bad = ts; whole = refl; spelled = refl; size = size; within = tt; only = d.1 };
  deeps = λ ts n h. absurd (let d = name_bad ts (Deep n) h in let no : Deep n ≡ Stray (length ts) = d.0 in cc);
}

text_ok : (ts rest : List Token) (t : List ℕ) → text_at ts ≡ Ok (t, rest) → ts ≡ Text t ∷ rest
unfolding text_at
text_ok [] rest w h = absurd cc
text_ok (Text v ∷ ts) rest w h = ap (λ (x : List ℕ × List Token). Text x.0 ∷ x.1) (ok_is (v, ts) (w, rest) h)
text_ok (Word t ∷ ts) rest w h = absurd cc
text_ok (Mark s ∷ ts) rest w h = absurd cc
text_ok (Wrong ∷ ts) rest w h = absurd cc

text_bad : (ts : List Token) (d : Fault) → text_at ts ≡ Err d → (d ≡ Stray (length ts)) × ((b : Token) (rest other : List Token) → ts ≡ b ∷ rest → text_at (b ∷ other) ≡ stray (b ∷ other))
unfolding text_at
text_bad [] d h = (cc, λ b rest other at. absurd cc)
text_bad (Text v ∷ ts) d h = absurd cc
text_bad (Word t ∷ ts) d h = (cc, λ b rest other at. let same : Word t ≡ b = cc in rw (← same) refl)
text_bad (Mark s ∷ ts) d h = (cc, λ b rest other at. let same : Mark s ≡ b = cc in rw (← same) refl)
text_bad (Wrong ∷ ts) d h = (cc, λ b rest other at. let same : Wrong ≡ b = cc in rw (← same) refl)

abbrev pub IsAny : {A : Type 0} → A → Type 0
IsAny a = Unit {0}

pub Reads-text : Reads IsAny (λ t. (Text t, 0) ∷ []) always text_at
unfolding text_at
Reads-text = record {
  takes = λ ts rest w h. record { fits = tt; spelled = text_ok ts rest w h; within = (refl, tt); ends_there = refl };
  again = λ w k p h. refl;
  strays = λ ts n h. let d = text_bad ts (Stray n) h in let size : n ≡ length ts = (let e = d.0 in cc) in record { value = []; fits = tt; prefix = []; more = (Text [], 0) ∷ []; bad = ts; whole = refl; spelled = refl; size = size; within = tt; only = d.1 };
  deeps = λ ts n h. absurd (let d = text_bad ts (Deep n) h in let no : Deep n ≡ Stray (length ts) = d.0 in cc);
}

-- ---- a word that means something

abbrev means_this : {K : Type 0} → K → Option K
means_this k = Some k

same_meaning : {K : Type 0} (j k : K) → means_this j ≡ means_this k → j ≡ k
same_meaning j k e = cc

-- each word is the spelling of its meaning
abbrev pub AreSpelled : {K : Type 0} → (K → List ℕ) → Meanings K → Type 0
AreSpelled spelling words = AllByRecursion (λ x. x.0 ≡ spelling x.1) words

meant : {K : Type 0} (spelling : K → List ℕ) (words : Meanings K) → AreSpelled spelling words → (w : List ℕ) (k : K) → meaning_in words w ≡ Some k → w ≡ spelling k
meant spelling [] all w k h = absurd cc
meant spelling (x ∷ words) all w k h =
    elim (cases_bool (bytes_eq w x.0)) [
      | inl y ↦ (let same : x.1 ≡ k = same_meaning x.1 k (rw y at h) in (bytes_eq-Decides w x.0).0 y ∙ all.0 ∙ ap spelling same)
      | inr y ↦ meant spelling words all.1 w k (rw y at h)
    ]

found_ok : {K : Type 0} (whole ts rest : List Token) (o : Option K) (k : K) → found_at whole ts o ≡ Ok (k, rest) → (o ≡ Some k) × (ts ≡ rest)
found_ok whole ts rest None k h = absurd cc
found_ok {K} whole ts rest (Some j) k h =
    let same = ok_is (j, ts) (k, rest) h in
    (ap (λ (x : K × List Token). Some (x.0)) same, ap (λ (x : K × List Token). x.1) same)

found_bad : {K : Type 0} (whole ts : List Token) (o : Option K) (d : Fault) → found_at whole ts o ≡ Err d → (d ≡ Stray (length whole)) × (o ≡ None)
found_bad whole ts None d h = (cc, refl)
found_bad whole ts (Some j) d h = absurd cc

module _ {K : Type 0} (words : Meanings K) (spelling : K → List ℕ) (all : AreSpelled spelling words) (means : (k : K) → meaning_in words (spelling k) ≡ Some k) (some : K) where
  meaning_ok : (ts rest : List Token) (k : K) → meaning_at words ts ≡ Ok (k, rest) → ts ≡ Word (spelling k) ∷ rest
  unfolding meaning_at
  meaning_ok [] rest k h = absurd cc
  meaning_ok (Word v ∷ ts) rest k h =
      let f = found_ok (Word v ∷ ts) ts rest (meaning_in words v) k h in
      ap (λ (x : List ℕ). Word x ∷ ts) (meant spelling words all v k f.0) ∙ ap (λ (l : List Token). Word (spelling k) ∷ l) f.1
  meaning_ok (Text t ∷ ts) rest k h = absurd cc
  meaning_ok (Mark s ∷ ts) rest k h = absurd cc
  meaning_ok (Wrong ∷ ts) rest k h = absurd cc

  meaning_bad : (ts : List Token) (d : Fault) → meaning_at words ts ≡ Err d → (d ≡ Stray (length ts)) × ((b : Token) (rest other : List Token) → ts ≡ b ∷ rest → meaning_at words (b ∷ other) ≡ stray (b ∷ other))
  unfolding meaning_at
  meaning_bad [] d h = (cc, λ b rest other at. absurd cc)
  meaning_bad (Word v ∷ ts) d h =
      let f = found_bad (Word v ∷ ts) ts (meaning_in words v) d h in
      (f.0, λ b rest other at. let same : Word v ≡ b = cc in rw (← same, f.1) refl)
  meaning_bad (Text t ∷ ts) d h = (cc, λ b rest other at. let same : Text t ≡ b = cc in rw (← same) refl)
  meaning_bad (Mark s ∷ ts) d h = (cc, λ b rest other at. let same : Mark s ≡ b = cc in rw (← same) refl)
  meaning_bad (Wrong ∷ ts) d h = (cc, λ b rest other at. let same : Wrong ≡ b = cc in rw (← same) refl)

  meaning_again : (k : K) (rest : List Token) → meaning_at words (Word (spelling k) ∷ rest) ≡ Ok (k, rest)
  unfolding meaning_at
  meaning_again k rest = rw (means k) refl

  pub Reads-meaning : Reads IsAny (λ k. (Word (spelling k), 0) ∷ []) always (meaning_at words)
  Reads-meaning = record {
    takes = λ ts rest k h. record { fits = tt; spelled = meaning_ok ts rest k h; within = (refl, tt); ends_there = refl };
    again = λ k rest p h. meaning_again k rest;
    strays = λ ts n h. let d = meaning_bad ts (Stray n) h in let size : n ≡ length ts = (let e = d.0 in cc) in record { value = some; fits = tt; prefix = []; more = (Word (spelling some), 0) ∷ []; bad = ts; whole = refl; spelled = refl; size = size; within = tt; only = d.1 };
    deeps = λ ts n h. absurd (let d = meaning_bad ts (Deep n) h in let no : Deep n ≡ Stray (length ts) = d.0 in cc);
  }

-- ---- the name of a property

property_ok : (ts rest : List Token) (w : List ℕ) → property_at ts ≡ Ok (w, rest) → (ts ≡ Word w ∷ rest) × IsProperty w
unfolding property_at
property_ok [] rest w h = absurd cc
property_ok (Word v ∷ ts) rest w h =
    elim (cases_bool (is_name v)) [
      | inl y ↦
          elim (cases_bool (is_reserved v)) [
            | inl z ↦ absurd (let no : stray {A = List ℕ × List Token} (Word v ∷ ts) ≡ Ok (w, rest) = rw (y, z) at h in cc)
            | inr z ↦
                let same = ok_is (v, ts) (w, rest) (rw (y, z) at h) in
                let name : v ≡ w = ap (λ (x : List ℕ × List Token). x.0) same in
                (ap (λ (x : List ℕ × List Token). Word x.0 ∷ x.1) same, (sym (ap is_name name) ∙ y, sym (ap is_reserved name) ∙ z))
          ]
      | inr y ↦ absurd (let no : stray {A = List ℕ × List Token} (Word v ∷ ts) ≡ Ok (w, rest) = rw y at h in cc)
    ]
property_ok (Text t ∷ ts) rest w h = absurd cc
property_ok (Mark s ∷ ts) rest w h = absurd cc
property_ok (Wrong ∷ ts) rest w h = absurd cc

property_bad : (ts : List Token) (d : Fault) → property_at ts ≡ Err d → (d ≡ Stray (length ts)) × ((b : Token) (rest other : List Token) → ts ≡ b ∷ rest → property_at (b ∷ other) ≡ stray (b ∷ other))
unfolding property_at
property_bad [] d h = (cc, λ b rest other at. absurd cc)
property_bad (Word v ∷ ts) d h =
    elim (cases_bool (is_name v && not (is_reserved v))) [
      | inl y ↦ absurd (let no : done (v, ts) ≡ Err d = rw y at h in cc)
      | inr y ↦ (
        let e : stray {A = List ℕ × List Token} (Word v ∷ ts) ≡ Err d = rw y at h in cc,
        λ b rest other at. let same : Word v ≡ b = cc in rw (← same, y) refl,
      )
    ]
property_bad (Text t ∷ ts) d h = (cc, λ b rest other at. let same : Text t ≡ b = cc in rw (← same) refl)
property_bad (Mark s ∷ ts) d h = (cc, λ b rest other at. let same : Mark s ≡ b = cc in rw (← same) refl)
property_bad (Wrong ∷ ts) d h = (cc, λ b rest other at. let same : Wrong ≡ b = cc in rw (← same) refl)

property_again : (w : List ℕ) (k : List Token) → IsProperty w → property_at (Word w ∷ k) ≡ Ok (w, k)
unfolding property_at
property_again w k p = rw (p.0, p.1) refl

pub Reads-property : Reads IsProperty (λ w. (Word w, 0) ∷ []) always property_at
Reads-property = record {
  takes = λ ts rest w h. let t = property_ok ts rest w h in record { fits = t.1; spelled = t.0; within = (refl, tt); ends_there = refl };
  again = λ w k p h. property_again w k p;
  strays = λ ts n h. let d = property_bad ts (Stray n) h in let size : n ≡ length ts = (let e = d.0 in cc) in record { value = a_name; fits = (refl, refl); prefix = []; more = (Word a_name, 0) ∷ []; bad = ts; whole = refl; spelled = refl; size = size; within = tt; only = d.1 };
  deeps = λ ts n h. absurd (let d = property_bad ts (Deep n) h in let no : Deep n ≡ Stray (length ts) = d.0 in cc);
}
