-- From what a row of tokens is read as, to the meaning of the bytes of a text.
use Rattle.std.proofs.Common.{◌≡◌, ℕ, ◌+◌, ◌-◌, ◌≤◌, ◌⊎◌, Bool, true, false, cond, inl, inr, List, [], ◌∷◌, ◌++◌, length, map, get_or, Option, None, Result, Ok, Err, refl, sym, ap, subst, ◌∙◌, arith, length-append}
use Rattle.std.proofs.lemmas.List.{map-append, length-map}
use Rattle.std.proofs.lemmas.Bool.{le-ltb, lt-ltb}
use Rattle.std.proofs.lemmas.Str.{is_utf8-from_IsUtf8, IsUtf8-from_is_utf8}
use Rattle.std.specs.Prelude.{IsUtf8, nat_lt}
use Rattle.std.specs.Str.{is_utf8}
use Rattle.gb_script.specs.declared.token.Token.{Token}
use Rattle.gb_script.specs.declared.token_fault.Fault.{Fault}
use Rattle.gb_script.specs.declared.token_fault.Fault.TheVariants.{Stray, Deep}
use Rattle.gb_script.specs.declared.token_fault.Stop.{Stop}
use Rattle.gb_script.specs.declared.token_fault.Stop.TheVariants as stops
use Rattle.gb_script.specs.declared.fault.ScriptFault.{ScriptFault}
use Rattle.gb_script.specs.declared.fault.ScriptFault.TheVariants.{OutOfMemory, Syntax, TooLong, TooDeep, NotUtf8}
use Rattle.gb_script.specs.Lexing.{Placed, HasTokens, newlines}
use Rattle.gb_script.specs.Scanning.{scan}
use Rattle.gb_script.specs.Grammar.{Leveled}
use Rattle.gb_script.specs.Verdict.{IsFirstStray, IsFirstDeep}
use Rattle.gb_script.specs.Reading.{Reader, Fails, all_at}
use Rattle.gb_script.specs.Reporting.{line_left, fault_reported}
use Rattle.gb_script.specs.Notation.{tokens_in, IsSource, ParsesTo, line_of, IsSyntaxFault, IsDepthFault, IsSaid}
use Rattle.gb_script.proofs.Whole.{all_found, all_again, all_stray, all_deep}
use Rattle.gb_script.proofs.Runs.{cases_bool}
use Rattle.gb_script.proofs.Verdicts.{stray_again, deep_again}
use Rattle.gb_script.proofs.Readers.{Reads}
use Rattle.gb_script.proofs.Pieces.{tokens_found, tokens_again}

-- the tokens of a text, in two parts
record Split (placed : List Placed) (before bad : List Token) : Type 0 where
  prefix : List Placed
  rest : List Placed
  whole : placed ≡ prefix ++ rest
  prefix_is : before ≡ tokens_in prefix
  rest_is : bad ≡ tokens_in rest

abbrev first_token : List Token → Token → Token
first_token [] d = d
first_token (t ∷ ts) d = t

abbrev other_tokens : List Token → List Token
other_tokens [] = []
other_tokens (t ∷ ts) = ts

split_at : (before : List Token) (placed : List Placed) (bad : List Token) → tokens_in placed ≡ before ++ bad → Split placed before bad
split_at [] placed bad h = record { prefix = []; rest = placed; whole = refl; prefix_is = refl; rest_is = sym h }
split_at (t ∷ before) [] bad h = absurd cc
split_at (t ∷ before) (p ∷ placed) bad h =
    let s = split_at before placed bad (ap other_tokens h) in
    let same : t ≡ p.0 = sym (ap (λ (l : List Token). first_token l t) h) in
    record {
      prefix = p ∷ s.prefix;
      rest = s.rest;
      whole = ap (λ (l : List Placed). p ∷ l) s.whole;
      prefix_is = ap (λ (x : Token). x ∷ before) same ∙ ap (λ (l : List Token). p.0 ∷ l) s.prefix_is;
      rest_is = s.rest_is;
    }

-- the line at the place where the second part begins
line_at : (bytes : List ℕ) (prefix rest : List Placed) → get_or (map (λ p. p.1) (prefix ++ rest)) (length prefix) (1 + newlines bytes) ≡ line_of bytes rest
line_at bytes [] [] = refl
line_at bytes [] (p ∷ rest) = refl
line_at bytes (p ∷ prefix) rest = line_at bytes prefix rest

left_place : (prefix rest : List Placed) (n : ℕ) → n ≡ length (tokens_in rest) → length (map (λ (p : Placed). p.1) (prefix ++ rest)) - n ≡ length prefix
left_place prefix rest n h =
    let all = length-map (prefix ++ rest) (λ (p : Placed). p.1) in
    let some = length-map rest (λ (p : Placed). p.0) in
    omega (arith, all, some, length-append prefix rest)

module _ {A : Type 0} {P : A → Type 0} {m : A → List Leveled} {e : A → Option Token → Bool} {r : Reader A} (R : Reads P m e r) (ends_text : (a : A) → P a → e a None ≡ true) where
  module _ (bytes : List ℕ) (short : length bytes ≤ 1048576) (utf8 : IsUtf8 bytes) where
    source_is : IsSource bytes (scan 1 bytes)
    source_is = record { short = short; utf8 = utf8; has = tokens_found bytes }

    pub spells_found : (tokens : List Token) (script : A) → tokens ≡ tokens_in (scan 1 bytes) → all_at r tokens ≡ Ok script → ParsesTo P m bytes script
    spells_found tokens script t h =
        let f = all_found R ends_text tokens script h in
        record { tokens = scan 1 bytes; source = source_is; tokens_are = sym t ∙ f.1; within = f.2; is = f.0 }

    pub line_is : (n : ℕ) (lines : List ℕ) (prefix rest : List Placed) → lines ≡ map (λ p. p.1) (scan 1 bytes) → scan 1 bytes ≡ prefix ++ rest → n ≡ length (tokens_in rest) → get_or lines (length lines - n) (1 + newlines bytes) ≡ line_of bytes rest
    line_is n lines prefix rest l w h =
        let e : lines ≡ map (λ p. p.1) (prefix ++ rest) = l ∙ ap (map (λ (p : Placed). p.1)) w in
        ap (λ (x : List ℕ). get_or x (length x - n) (1 + newlines bytes)) e
        ∙ ap (λ i. get_or (map (λ p. p.1) (prefix ++ rest)) i (1 + newlines bytes)) (left_place prefix rest n h)
        ∙ line_at bytes prefix rest

    pub syntax_found : (tokens : List Token) (lines : List ℕ) (n line : ℕ) → tokens ≡ tokens_in (scan 1 bytes) → lines ≡ map (λ p. p.1) (scan 1 bytes) → line ≡ get_or lines (length lines - n) (1 + newlines bytes) → all_at r tokens ≡ Err (Stray n) → IsSyntaxFault P m bytes line
    syntax_found tokens lines n line t l at h =
        let s = all_stray R ends_text tokens n h in
        let x = split_at s.before (scan 1 bytes) s.bad (sym t ∙ s.parts) in
        record {
          before = x.prefix;
          bad = x.rest;
          source = subst (IsSource bytes) x.whole source_is;
          first = subst (λ (y : List Token). IsFirstStray P m y (tokens_in x.rest)) x.prefix_is (subst (IsFirstStray P m s.before) x.rest_is s.first);
          line_is = at ∙ line_is n lines x.prefix x.rest l x.whole (s.left ∙ ap length x.rest_is);
        }

    pub depth_found : (tokens : List Token) (lines : List ℕ) (n line : ℕ) → tokens ≡ tokens_in (scan 1 bytes) → lines ≡ map (λ p. p.1) (scan 1 bytes) → line ≡ get_or lines (length lines - n) (1 + newlines bytes) → all_at r tokens ≡ Err (Deep n) → IsDepthFault P m bytes line
    depth_found tokens lines n line t l at h =
        let s = all_deep R ends_text tokens n h in
        let x = split_at s.before (scan 1 bytes) (s.over ∷ s.rest) (sym t ∙ s.parts) in
        record {
          before = x.prefix;
          bad = x.rest;
          source = subst (IsSource bytes) x.whole source_is;
          first = subst (λ (y : List Token). IsFirstDeep P m y (tokens_in x.rest)) x.prefix_is (subst (IsFirstDeep P m s.before) x.rest_is s.first);
          line_is = at ∙ line_is n lines x.prefix x.rest l x.whole (s.left ∙ ap length x.rest_is);
        }

  -- what the bytes parse as is read
  pub spells_again : (bytes : List ℕ) (tokens : List Token) (script : A) → tokens ≡ tokens_in (scan 1 bytes) → ParsesTo P m bytes script → all_at r tokens ≡ Ok script
  spells_again bytes tokens script t s =
      all_again R ends_text tokens script s.is (t ∙ ap tokens_in (sym (tokens_again bytes s.tokens s.source.has)) ∙ s.tokens_are) s.within

  -- ---- the bytes have one meaning

  abbrev lines_of : List ℕ → List ℕ
  lines_of bytes = map (λ p. p.1) (scan 1 bytes)

  abbrev reported : List ℕ → Result A Fault → Result A ScriptFault
  reported bytes (Ok script) = Ok script
  reported bytes (Err f) = Err (fault_reported bytes (lines_of bytes) (stops.Fault f))

  abbrev reported_text : List ℕ → Bool → Result A ScriptFault
  reported_text bytes utf8 = cond utf8 (reported bytes (all_at r (tokens_in (scan 1 bytes)))) (Err NotUtf8)

  abbrev answer : List ℕ → Result A ScriptFault
  answer bytes = cond (nat_lt 1048576 (length bytes)) (Err TooLong) (reported_text bytes (is_utf8 bytes))

  text_answer : (bytes : List ℕ) → length bytes ≤ 1048576 → IsUtf8 bytes → answer bytes ≡ reported bytes (all_at r (tokens_in (scan 1 bytes)))
  text_answer bytes short utf8 =
      let s : nat_lt 1048576 (length bytes) ≡ false = le-ltb 1048576 (length bytes) short in
      rw (s, is_utf8-from_IsUtf8 bytes utf8) refl

  tokens_are : (bytes : List ℕ) (before bad : List Placed) → HasTokens bytes (before ++ bad) → tokens_in (scan 1 bytes) ≡ tokens_in before ++ tokens_in bad
  tokens_are bytes before bad h = ap tokens_in (sym (tokens_again bytes (before ++ bad) h)) ∙ map-append (λ (p : Placed). p.0) before bad

  left_line : (bytes : List ℕ) (before bad : List Placed) → IsSource bytes (before ++ bad) → line_left bytes (lines_of bytes) (length (tokens_in bad)) ≡ line_of bytes bad
  left_line bytes before bad s =
      line_is bytes s.short s.utf8 (length (tokens_in bad)) (map (λ p. p.1) (scan 1 bytes)) before bad refl (sym (tokens_again bytes (before ++ bad) s.has)) refl

  pub said_is : (bytes : List ℕ) (said : Result A ScriptFault) → IsSaid P m bytes said → said ≡ answer bytes
  said_is bytes (Ok script) s = sym (text_answer bytes s.source.short s.source.utf8 ∙ ap (reported bytes) (spells_again bytes (tokens_in (scan 1 bytes)) script refl s))
  said_is bytes (Err OutOfMemory) s = absurd s
  said_is bytes (Err TooLong) s = let long : nat_lt 1048576 (length bytes) ≡ true = lt-ltb 1048576 (length bytes) s in rw long refl
  said_is bytes (Err NotUtf8) s =
      let short : nat_lt 1048576 (length bytes) ≡ false = le-ltb 1048576 (length bytes) s.0 in
      elim (cases_bool (is_utf8 bytes)) [
        | inl y ↦ absurd (s.1 (IsUtf8-from_is_utf8 bytes y))
        | inr n ↦ rw (short, n) refl
      ]
  said_is bytes (Err (Syntax line)) s =
      let at = ap (all_at r) (tokens_are bytes s.before s.bad s.source.has) ∙ stray_again R ends_text (tokens_in s.before) (tokens_in s.bad) s.first in
      sym (text_answer bytes s.source.short s.source.utf8 ∙ ap (reported bytes) at ∙ ap (λ l. Err (Syntax l)) (left_line bytes s.before s.bad s.source ∙ sym s.line_is))
  said_is bytes (Err (TooDeep line)) s =
      let at = ap (all_at r) (tokens_are bytes s.before s.bad s.source.has) ∙ deep_again R ends_text (tokens_in s.before) (tokens_in s.bad) s.first in
      sym (text_answer bytes s.source.short s.source.utf8 ∙ ap (reported bytes) at ∙ ap (λ l. Err (TooDeep l)) (left_line bytes s.before s.bad s.source ∙ sym s.line_is))

  pub one_said : (bytes : List ℕ) (a b : Result A ScriptFault) → IsSaid P m bytes a → IsSaid P m bytes b → a ≡ b
  one_said bytes a b s t = said_is bytes a s ∙ sym (said_is bytes b t)

  -- ---- from the steps of the code to its result

  module _ (bytes text : List ℕ) (same : text ≡ bytes) (short : length bytes ≤ 1048576) (utf8 : IsUtf8 bytes) where
    pub parses_text : (tokens : List Token) (script : A) → tokens ≡ tokens_in (scan 1 text) → all_at r tokens ≡ Ok script → ParsesTo P m bytes script
    parses_text tokens script t h = spells_found bytes short utf8 tokens script (t ∙ ap (λ b. tokens_in (scan 1 b)) same) h

    pub reported_stop : (tokens : List Token) (lines : List ℕ) (stop : Stop) (fault : ScriptFault) → tokens ≡ tokens_in (scan 1 text) → lines ≡ lines_of text → Fails stop (all_at r tokens) → fault ≡ fault_reported text lines stop → (fault ≡ OutOfMemory) ⊎ IsSaid P m bytes (Err fault)
    reported_stop tokens lines stops.Memory fault t l h f = inl f
    reported_stop tokens lines (stops.Fault (Stray n)) fault t l h f =
        let at : fault ≡ Syntax (line_left bytes lines n) = f ∙ ap (λ b. Syntax (line_left b lines n)) same in
        inr (subst (λ f. IsSaid P m bytes (Err f)) (sym at) (syntax_found bytes short utf8 tokens lines n _ (t ∙ ap (λ b. tokens_in (scan 1 b)) same) (l ∙ ap lines_of same) refl h))
    reported_stop tokens lines (stops.Fault (Deep n)) fault t l h f =
        let at : fault ≡ TooDeep (line_left bytes lines n) = f ∙ ap (λ b. TooDeep (line_left b lines n)) same in
        inr (subst (λ f. IsSaid P m bytes (Err f)) (sym at) (depth_found bytes short utf8 tokens lines n _ (t ∙ ap (λ b. tokens_in (scan 1 b)) same) (l ∙ ap lines_of same) refl h))

  abbrev fault_of : ScriptFault → Result A ScriptFault
  fault_of f = Err f

  module _ (bytes : List ℕ) (fault : ScriptFault) where
    pub reported_back : (fault ≡ OutOfMemory) ⊎ IsSaid P m bytes (Err fault) → (said : Result A ScriptFault) → IsSaid P m bytes said → (fault_of fault ≡ said) ⊎ (fault_of fault ≡ Err OutOfMemory)
    reported_back (inl e) said s = inr (ap Err e)
    reported_back (inr w) said s = inl (one_said bytes (Err fault) said w s)

    pub reported_syntax : (fault ≡ OutOfMemory) ⊎ IsSaid P m bytes (Err fault) → (line : ℕ) → fault_of fault ≡ Err (Syntax line) → IsSyntaxFault P m bytes line
    reported_syntax (inl e) line h = absurd (let no : fault_of OutOfMemory ≡ fault_of (Syntax line) = sym (ap fault_of e) ∙ h in cc)
    reported_syntax (inr w) line h = subst (IsSaid P m bytes) h w

    pub reported_depth : (fault ≡ OutOfMemory) ⊎ IsSaid P m bytes (Err fault) → (line : ℕ) → fault_of fault ≡ Err (TooDeep line) → IsDepthFault P m bytes line
    reported_depth (inl e) line h = absurd (let no : fault_of OutOfMemory ≡ fault_of (TooDeep line) = sym (ap fault_of e) ∙ h in cc)
    reported_depth (inr w) line h = subst (IsSaid P m bytes) h w
