-- Reading the content of a text run by run.
use Rattle.std.proofs.Common.{◌≡◌, ℕ, suc, ◌+◌, ◌<◌, Bool, true, false, List, [], ◌∷◌, ◌++◌, take, drop, Option, Some, None, refl, sym, ap, ◌∙◌, append_assoc, arith, inl, inr, take_while}
use Rattle.std.specs.Prelude.{◌==◌}
use Rattle.std.specs.List.{prefix_len}
use Rattle.std.proofs.lemmas.List.{append-nil}
use Rattle.std.proofs.lemmas.Bool.Decides.{nat_tests}
use Rattle.gb_script.specs.Lexing.{begins}
use Rattle.gb_script.specs.Scanning.{is_plain, past_run, with_content, unescaped, escape_of, escape_at, content_at}
use Rattle.gb_script.proofs.Runs.{cases_bool}

abbrev Content : Type 0
Content = Option (List ℕ × List ℕ)

abbrev found_of : List ℕ × List ℕ → Content
found_of x = Some x

pub with_nothing : (found : Content) → with_content [] found ≡ found
with_nothing None = refl
with_nothing (Some x) = refl

pub with_both : (prefix more : List ℕ) (found : Content) → with_content prefix (with_content more found) ≡ with_content (prefix ++ more) found
with_both prefix more None = refl
with_both prefix more (Some x) = ap (λ (l : List ℕ). Some (l, x.1)) (sym (append_assoc prefix more x.0))

plain_is : (b : ℕ) → is_plain b ≡ true → ((b == 34) ≡ false) × ((b == 92) ≡ false)
plain_is b h = (grind (arith, nat_tests), grind (arith, nat_tests))

pub plain_first : (b e : ℕ) (bs : List ℕ) → is_plain b ≡ true → content_at (b ∷ e ∷ bs) ≡ with_content (b ∷ []) (content_at (e ∷ bs))
unfolding content_at
plain_first b e bs h = let p = plain_is b h in rw (h, p.0, p.1) refl

plain_last : (b : ℕ) → is_plain b ≡ true → content_at (b ∷ []) ≡ None
unfolding content_at
plain_last b h = let p = plain_is b h in rw p.0 refl

none_before : (prefix : List ℕ) → None ≡ with_content prefix (content_at [])
unfolding content_at
none_before prefix = refl

-- a run goes into the content whole
pub content_at-run : (text : List ℕ) → content_at text ≡ with_content (take_while is_plain text) (content_at (past_run is_plain text))
content_at-run [] = sym (with_nothing (content_at []))
content_at-run (b ∷ []) =
    elim (cases_bool (is_plain b)) [
      | inl y ↦ rw y (plain_last b y ∙ none_before (b ∷ []))
      | inr y ↦ rw y (sym (with_nothing (content_at (b ∷ []))))
    ]
content_at-run (b ∷ e ∷ bs) =
    elim (cases_bool (is_plain b)) [
      | inl y ↦
          rw y
          (plain_first b e bs y
          ∙ ap (with_content (b ∷ [])) (content_at-run (e ∷ bs))
          ∙ with_both (b ∷ []) (take_while is_plain (e ∷ bs)) (content_at (past_run is_plain (e ∷ bs)))
          ∙ one_more (prefix_len is_plain (e ∷ bs)))
      | inr y ↦ rw y (sym (with_nothing (content_at (b ∷ e ∷ bs))))
    ]
  where
    one_more : (n : ℕ) → with_content ((b ∷ []) ++ take n (e ∷ bs)) (content_at (drop n (e ∷ bs))) ≡ with_content (take (1 + n) (b ∷ e ∷ bs)) (content_at (drop (1 + n) (b ∷ e ∷ bs)))
    one_more n = let m : 1 + n ≡ suc n = omega arith in rw m refl

-- what stops a run is no part of it
pub run_stops : (p : ℕ → Bool) (text : List ℕ) → begins p (past_run p text) ≡ false
run_stops p [] = refl
run_stops p (b ∷ bs) =
    elim (cases_bool (p b)) [
      | inl y ↦ rw (y, one_more (prefix_len p bs)) (run_stops p bs)
      | inr y ↦ rw y y
    ]
  where
    one_more : (n : ℕ) → 1 + n ≡ suc n
    one_more n = omega arith

closed : (text : List ℕ) → begins (λ b. b == 34) text ≡ true → content_at text ≡ Some ([], drop 1 text)
unfolding content_at
closed [] h = absurd cc
closed (b ∷ []) h = rw h refl
closed (b ∷ e ∷ bs) h = rw h refl

-- a run and the closing mark
pub content_at-closed : (text : List ℕ) → begins (λ b. b == 34) (past_run is_plain text) ≡ true → content_at text ≡ Some (take_while is_plain text, drop 1 (past_run is_plain text))
content_at-closed text h =
    content_at-run text ∙ ap (with_content (take_while is_plain text)) (closed (past_run is_plain text) h) ∙ nil_after (take_while is_plain text) (drop 1 (past_run is_plain text))
  where
    nil_after : (xs rest : List ℕ) → found_of (xs ++ [], rest) ≡ found_of (xs, rest)
    nil_after xs rest = ap (λ (l : List ℕ). Some (l, rest)) (append-nil xs)

abbrev pair_of : ℕ × List ℕ → Option (ℕ × List ℕ)
pair_of x = Some x

pair_is : (x y : ℕ × List ℕ) → pair_of x ≡ pair_of y → x ≡ y
pair_is x y e = cc

escape_some : (bs : List ℕ) (found : Option ℕ) (c : ℕ) (following : List ℕ) → escape_of bs found ≡ Some (c, following) → (found ≡ Some c) × (bs ≡ following)
escape_some bs None c following h = absurd cc
escape_some bs (Some d) c following h =
    let same = pair_is (d, bs) (c, following) h in
    (ap (λ (x : ℕ × List ℕ). Some (x.0)) same, ap (λ (x : ℕ × List ℕ). x.1) same)

escape_none : (bs : List ℕ) (found : Option ℕ) → escape_of bs found ≡ None → found ≡ None
escape_none bs None h = refl
escape_none bs (Some d) h = absurd cc

unescaped_low : (e c : ℕ) → unescaped e ≡ Some c → c < 128
unescaped_low e c h = grind (arith, nat_tests)

pub escape_low : (text : List ℕ) (c : ℕ) (following : List ℕ) → escape_at text ≡ Some (c, following) → c < 128
unfolding escape_at
escape_low [] c following h = absurd cc
escape_low (b ∷ []) c following h = absurd cc
escape_low (b ∷ e ∷ bs) c following h =
    elim (cases_bool (b == 92)) [
      | inl y ↦ unescaped_low e c (escape_some bs (unescaped e) c following (rw y at h)).0
      | inr y ↦ absurd (let no : None ≡ pair_of (c, following) = rw y at h in cc)
    ]

escaped : (text : List ℕ) (c : ℕ) (following : List ℕ) → begins (λ b. b == 34) text ≡ false → escape_at text ≡ Some (c, following) → content_at text ≡ with_content (c ∷ []) (content_at following)
unfolding escape_at content_at
escaped [] c following q h = absurd cc
escaped (b ∷ []) c following q h = absurd cc
escaped (b ∷ e ∷ bs) c following q h =
    elim (cases_bool (b == 92)) [
      | inl y ↦ (let x = escape_some bs (unescaped e) c following (rw y at h) in rw (q, y, x.0, ← x.1) refl)
      | inr y ↦ absurd (let no : None ≡ pair_of (c, following) = rw y at h in cc)
    ]

-- a run and an escape
pub content_at-escaped : (text : List ℕ) (c : ℕ) (following : List ℕ) → begins (λ b. b == 34) (past_run is_plain text) ≡ false → escape_at (past_run is_plain text) ≡ Some (c, following) → content_at text ≡ with_content (take_while is_plain text ++ c ∷ []) (content_at following)
content_at-escaped text c following q h =
    content_at-run text ∙ ap (with_content (take_while is_plain text)) (escaped (past_run is_plain text) c following q h) ∙ with_both (take_while is_plain text) (c ∷ []) (content_at following)

none_more : (prefix : List ℕ) → with_content prefix None ≡ None
none_more prefix = refl

left_open : (text : List ℕ) → begins (λ b. b == 34) text ≡ false → begins is_plain text ≡ false → escape_at text ≡ None → content_at text ≡ None
unfolding escape_at content_at
left_open [] q p h = refl
left_open (b ∷ []) q p h = rw q refl
left_open (b ∷ e ∷ bs) q p h =
    elim (cases_bool (b == 92)) [
      | inl y ↦ (let x : unescaped e ≡ None = escape_none bs (unescaped e) (rw y at h) in rw (q, y, x) refl)
      | inr y ↦ rw (p, q, y) refl
    ]

-- a run, and what no text has
pub content_at-open : (text : List ℕ) → begins (λ b. b == 34) (past_run is_plain text) ≡ false → escape_at (past_run is_plain text) ≡ None → content_at text ≡ None
content_at-open text q h = content_at-run text ∙ ap (with_content (take_while is_plain text)) (left_open (past_run is_plain text) q (run_stops is_plain text) h)

-- ---- what the loop over the runs keeps

pub closes : (old new rest run after : List ℕ) (total : Content) → with_content old (content_at rest) ≡ total → run ≡ take_while is_plain rest → after ≡ past_run is_plain rest → new ≡ old ++ run → begins (λ b. b == 34) after ≡ true → Some (new, drop 1 after) ≡ total
closes old new rest run after total so_far r a n h =
    let here = content_at-closed rest (ap (begins (λ b. b == 34)) (sym a) ∙ h) in
    let all : total ≡ Some (old ++ take_while is_plain rest, drop 1 (past_run is_plain rest)) = sym so_far ∙ ap (with_content old) here in
    rw (n, r, a) (sym all)

pub stays_open : (old rest run after : List ℕ) (total : Content) → with_content old (content_at rest) ≡ total → after ≡ past_run is_plain rest → begins (λ b. b == 34) after ≡ false → escape_at after ≡ None → None ≡ total
stays_open old rest run after total so_far a h e =
    sym (ap (with_content old) (content_at-open rest (ap (begins (λ b. b == 34)) (sym a) ∙ h) (ap escape_at (sym a) ∙ e))) ∙ so_far

pub goes_on : (old new rest run after following : List ℕ) (c : ℕ) (total : Content) → with_content old (content_at rest) ≡ total → run ≡ take_while is_plain rest → after ≡ past_run is_plain rest → new ≡ (old ++ run) ++ c ∷ [] → begins (λ b. b == 34) after ≡ false → escape_at after ≡ Some (c, following) → with_content new (content_at following) ≡ total
goes_on old new rest run after following c total so_far r a n h e =
    let here = content_at-escaped rest c following (ap (begins (λ b. b == 34)) (sym a) ∙ h) (ap escape_at (sym a) ∙ e) in
    ap (λ (l : List ℕ). with_content l (content_at following)) (n ∙ ap (λ (l : List ℕ). (old ++ l) ++ c ∷ []) r ∙ append_assoc old (take_while is_plain rest) (c ∷ []))
    ∙ sym (with_both old (take_while is_plain rest ++ c ∷ []) (content_at following))
    ∙ ap (with_content old) (sym here)
    ∙ so_far
