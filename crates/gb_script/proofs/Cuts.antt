-- The scan at the front of a text gives a piece that may be there, and the other way round.
use Rattle.std.proofs.Common.{◌≡◌, ℕ, suc, ◌+◌, ◌<◌, Bool, true, false, List, [], ◌∷◌, ◌++◌, length, take, drop, Option, Some, None, refl, sym, ap, subst, ◌∙◌, append_assoc, arith, inl, inr, take_while, length-append}
use Rattle.std.specs.Prelude.{◌==◌, ◌&&◌}
use Rattle.std.specs.List.{prefix_len, flat_map, list_all}
use Rattle.std.proofs.lemmas.Bool.{eqb-true}
use Rattle.std.proofs.lemmas.Bool.Decides.{nat_tests}
use Rattle.gb_script.specs.Lexing.{begins, is_writable, escaped}
use Rattle.gb_script.specs.Scanning.{is_plain, unescaped, past_run, with_content, escaped_before, content_at}
use Rattle.gb_script.proofs.Runs.{cases_bool}
use Rattle.gb_script.proofs.Contents.{plain_first}

-- ---- runs

pub one_more : (n : ℕ) → 1 + n ≡ suc n
one_more n = omega arith

pub run_back : (p : ℕ → Bool) (text : List ℕ) → take_while p text ++ past_run p text ≡ text
run_back p [] = refl
run_back p (b ∷ bs) =
    elim (cases_bool (p b)) [
      | inl y ↦ rw (y, one_more (prefix_len p bs)) (ap (λ (l : List ℕ). b ∷ l) (run_back p bs))
      | inr y ↦ rw y refl
    ]

pub and_both : (a b : Bool) → (a && b) ≡ true → (a ≡ true) × (b ≡ true)
and_both true b h = (refl, h)
and_both false b h = absurd cc

prefix_all : (p : ℕ → Bool) (w rest : List ℕ) → list_all p w ≡ true → begins p rest ≡ false → prefix_len p (w ++ rest) ≡ length w
prefix_all p [] [] h g = refl
prefix_all p [] (b ∷ rest) h g = rw g refl
prefix_all p (b ∷ w) rest h g =
    let x = and_both (p b) (list_all p w) h in
    rw (x.0, prefix_all p w rest x.1 g, one_more (length w)) refl

take_length : (w rest : List ℕ) → take (length w) (w ++ rest) ≡ w
take_length [] rest = refl
take_length (b ∷ w) rest = ap (λ (l : List ℕ). b ∷ l) (take_length w rest)

drop_length : (w rest : List ℕ) → drop (length w) (w ++ rest) ≡ rest
drop_length [] rest = refl
drop_length (b ∷ w) rest = drop_length w rest

-- a run that cannot continue is taken whole
pub run_taken : (p : ℕ → Bool) (w rest : List ℕ) → list_all p w ≡ true → begins p rest ≡ false → take_while p (w ++ rest) ≡ w
run_taken p w rest h g = ap (λ n. take n (w ++ rest)) (prefix_all p w rest h g) ∙ take_length w rest

pub run_passed : (p : ℕ → Bool) (w rest : List ℕ) → list_all p w ≡ true → begins p rest ≡ false → past_run p (w ++ rest) ≡ rest
run_passed p w rest h g = ap (λ n. drop n (w ++ rest)) (prefix_all p w rest h g) ∙ drop_length w rest

pub all_taken : (p : ℕ → Bool) (text : List ℕ) → list_all p (take_while p text) ≡ true
all_taken p [] = refl
all_taken p (b ∷ bs) =
    elim (cases_bool (p b)) [
      | inl y ↦ rw (y, one_more (prefix_len p bs), y) (all_taken p bs)
      | inr y ↦ rw y refl
    ]

-- ---- the content of a text

plain_more : (b : ℕ) (text : List ℕ) → is_plain b ≡ true → 0 < length text → content_at (b ∷ text) ≡ with_content (b ∷ []) (content_at text)
plain_more b [] p h = absurd (omega arith)
plain_more b (e ∷ bs) p h = plain_first b e bs p

escape_more : (e c : ℕ) (text : List ℕ) → unescaped e ≡ Some c → content_at (92 ∷ e ∷ text) ≡ with_content (c ∷ []) (content_at text)
unfolding content_at
escape_more e c text h = rw h refl

closing : (rest : List ℕ) → content_at (34 ∷ rest) ≡ Some ([], rest)
unfolding content_at
closing [] = refl
closing (b ∷ bs) = refl

-- how a byte is written, and that it is read so
abbrev IsEscaped : ℕ → Type 0
IsEscaped b = (text : List ℕ) → 0 < length text → content_at (escaped b ++ text) ≡ with_content (b ∷ []) (content_at text)

escaped_as : (b c e : ℕ) → (b == c) ≡ true → escaped c ≡ 92 ∷ e ∷ [] → unescaped e ≡ Some c → IsEscaped b
escaped_as b c e h w u text some =
    let same : b ≡ c = eqb-true b c h in
    ap (λ (x : ℕ). content_at (escaped x ++ text)) same
    ∙ ap (λ (l : List ℕ). content_at (l ++ text)) w
    ∙ escape_more e c text u
    ∙ ap (λ (x : ℕ). with_content (x ∷ []) (content_at text)) (sym same)

plain_written : (b : ℕ) → is_writable b ≡ true → (b == 34) ≡ false → (b == 92) ≡ false → (b == 10) ≡ false → (b == 9) ≡ false → is_plain b ≡ true
plain_written b w q s n t = grind (arith, nat_tests)

itself : (b : ℕ) → (b == 34) ≡ false → (b == 92) ≡ false → (b == 10) ≡ false → (b == 9) ≡ false → escaped b ≡ b ∷ []
itself b q s n t = rw (q, s, n, t) refl

byte_again : (b : ℕ) → is_writable b ≡ true → IsEscaped b
byte_again b w =
    elim (cases_bool (b == 34)) [
      | inl y ↦ escaped_as b 34 34 y refl refl
      | inr q ↦
          elim (cases_bool (b == 92)) [
            | inl y ↦ escaped_as b 92 92 y refl refl
            | inr s ↦
                elim (cases_bool (b == 10)) [
                  | inl y ↦ escaped_as b 10 110 y refl refl
                  | inr n ↦
                      elim (cases_bool (b == 9)) [
                        | inl y ↦ escaped_as b 9 116 y refl refl
                        | inr t ↦ (λ text some. ap (λ (l : List ℕ). content_at (l ++ text)) (itself b q s n t) ∙ plain_more b text (plain_written b w q s n t) some)
                      ]
                ]
          ]
    ]

closed_some : (t rest : List ℕ) → 0 < length (t ++ 34 ∷ rest)
closed_some t rest = omega (arith, length-append t (34 ∷ rest))

-- what is written so is read
pub content_again : (t rest : List ℕ) → list_all is_writable t ≡ true → content_at (flat_map escaped t ++ 34 ∷ rest) ≡ Some (t, rest)
content_again [] rest h = closing rest
content_again (b ∷ t) rest h =
    let x = and_both (is_writable b) (list_all is_writable t) h in
    ap content_at (append_assoc (escaped b) (flat_map escaped t) (34 ∷ rest))
    ∙ byte_again b x.0 (flat_map escaped t ++ 34 ∷ rest) (closed_some (flat_map escaped t) rest)
    ∙ ap (with_content (b ∷ [])) (content_again t rest x.1)

abbrev pub Content : Type 0
Content = Option (List ℕ × List ℕ)

abbrev found_of : List ℕ × List ℕ → Content
found_of x = Some x

found_is : (x y : List ℕ × List ℕ) → found_of x ≡ found_of y → x ≡ y
found_is x y e = cc

-- the text is this content, written, and the rest
pub record IsWritten (text t rest : List ℕ) : Type 0 where
  pub whole : text ≡ flat_map escaped t ++ 34 ∷ rest
  pub each : list_all is_writable t ≡ true

one_written : (head text : List ℕ) (b : ℕ) (t rest : List ℕ) → escaped b ≡ head → is_writable b ≡ true → IsWritten text t rest → IsWritten (head ++ text) (b ∷ t) rest
one_written head text b t rest e w i = record {
  whole = ap (λ (l : List ℕ). head ++ l) i.whole ∙ ap (λ (l : List ℕ). l ++ (flat_map escaped t ++ 34 ∷ rest)) (sym e) ∙ sym (append_assoc (escaped b) (flat_map escaped t) (34 ∷ rest));
  each = rw w i.each;
}

abbrev pub AsWritten : List ℕ → Content → Type 0
AsWritten text found = (t rest : List ℕ) → found ≡ Some (t, rest) → IsWritten text t rest

before_written : (head text : List ℕ) (b : ℕ) (found : Content) → escaped b ≡ head → is_writable b ≡ true → AsWritten text found → AsWritten (head ++ text) (with_content (b ∷ []) found)
before_written head text b None e w i t rest h = absurd cc
before_written head text b (Some x) e w i t rest h =
    let same = found_is (b ∷ x.0, x.1) (t, rest) h in
    subst (λ (y : List ℕ × List ℕ). IsWritten (head ++ text) y.0 y.1) same (one_written head text b x.0 x.1 e w (i x.0 x.1 refl))

abbrev byte_of : ℕ → Option ℕ
byte_of b = Some b

byte_is : (x y : ℕ) → byte_of x ≡ byte_of y → x ≡ y
byte_is x y e = cc

abbrev IsEscapeOf : ℕ → ℕ → Type 0
IsEscapeOf e c = (escaped c ≡ 92 ∷ e ∷ []) × (is_writable c ≡ true)

escape_as : (e f c d : ℕ) → (e == f) ≡ true → byte_of d ≡ byte_of c → IsEscapeOf f d → IsEscapeOf e c
escape_as e f c d h s i =
    let same : e ≡ f = eqb-true e f h in
    subst (λ (x : ℕ). IsEscapeOf e x) (byte_is d c s) (subst (λ (x : ℕ). IsEscapeOf x d) (sym same) i)

unescaped_back : (e c : ℕ) → unescaped e ≡ Some c → IsEscapeOf e c
unescaped_back e c h =
    elim (cases_bool (e == 34)) [
      | inl y ↦ escape_as e 34 c 34 y (rw y at h) (refl, refl)
      | inr q ↦
          elim (cases_bool (e == 92)) [
            | inl y ↦ escape_as e 92 c 92 y (rw (q, y) at h) (refl, refl)
            | inr s ↦
                elim (cases_bool (e == 110)) [
                  | inl y ↦ escape_as e 110 c 10 y (rw (q, s, y) at h) (refl, refl)
                  | inr n ↦
                      elim (cases_bool (e == 116)) [
                        | inl y ↦ escape_as e 116 c 9 y (rw (q, s, n, y) at h) (refl, refl)
                        | inr t ↦ absurd (let no : None ≡ byte_of c = rw (q, s, n, t) at h in cc)
                      ]
                ]
          ]
    ]

nothing_written : (text t rest : List ℕ) → None ≡ found_of (t, rest) → IsWritten text t rest
nothing_written text t rest h = absurd cc

escape_written : (e : ℕ) (text : List ℕ) (found : Option ℕ) (content : Content) → unescaped e ≡ found → AsWritten text content → AsWritten (92 ∷ e ∷ text) (escaped_before found content)
escape_written e text None content u i = λ t rest h. nothing_written (92 ∷ e ∷ text) t rest h
escape_written e text (Some c) content u i = let x = unescaped_back e c u in before_written (92 ∷ e ∷ []) text c content x.0 x.1 i

plain_itself : (b : ℕ) → is_plain b ≡ true → (escaped b ≡ b ∷ []) × (is_writable b ≡ true)
plain_itself b p =
    let q : (b == 34) ≡ false = grind (arith, nat_tests) in
    let s : (b == 92) ≡ false = grind (arith, nat_tests) in
    let n : (b == 10) ≡ false = grind (arith, nat_tests) in
    let t : (b == 9) ≡ false = grind (arith, nat_tests) in
    (itself b q s n t, grind (arith, nat_tests))

end_written : (bs : List ℕ) → AsWritten (34 ∷ bs) (Some ([], bs))
end_written bs t rest h = subst (λ (y : List ℕ × List ℕ). IsWritten (34 ∷ bs) y.0 y.1) (found_is ([], bs) (t, rest) h) (record { whole = refl; each = refl })

-- what is read is written so
pub content_found : (text : List ℕ) → AsWritten text (content_at text)
unfolding content_at
content_found [] t rest h = nothing_written [] t rest h
content_found (b ∷ []) t rest h =
    elim (cases_bool (b == 34)) [
      | inl y ↦ subst (λ (x : ℕ). IsWritten (x ∷ []) t rest) (sym (eqb-true b 34 y)) (end_written [] t rest (rw y at h))
      | inr q ↦ nothing_written (b ∷ []) t rest (rw q at h)
    ]
content_found (b ∷ e ∷ bs) t rest h =
    elim (cases_bool (b == 34)) [
      | inl y ↦ subst (λ (x : ℕ). IsWritten (x ∷ e ∷ bs) t rest) (sym (eqb-true b 34 y)) (end_written (e ∷ bs) t rest (rw y at h))
      | inr q ↦
          elim (cases_bool (b == 92)) [
            | inl y ↦ subst (λ (x : ℕ). IsWritten (x ∷ e ∷ bs) t rest) (sym (eqb-true b 92 y)) (escape_written e bs (unescaped e) (content_at bs) refl (content_found bs) t rest (rw (q, y) at h))
            | inr s ↦
                elim (cases_bool (is_plain b)) [
                  | inl y ↦ (let x = plain_itself b y in before_written (b ∷ []) (e ∷ bs) b (content_at (e ∷ bs)) x.0 x.1 (content_found (e ∷ bs)) t rest (sym (plain_first b e bs y) ∙ h))
                  | inr p ↦ nothing_written (b ∷ e ∷ bs) t rest (rw (p, q, s) at h)
                ]
          ]
    ]
