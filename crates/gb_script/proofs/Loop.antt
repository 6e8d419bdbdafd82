-- A loop that reads one after another gives what many_at gives.
use Rattle.std.proofs.Common.{◌≡◌, ℕ, zero, suc, ◌+◌, ◌<◌, Bool, true, false, List, [], ◌∷◌, ◌++◌, length, map, Result, Ok, Err, refl, sym, ap, ◌∙◌, append_assoc, arith, length-append}
use Rattle.std.proofs.lemmas.List.{append-nil, map-append}
use Rattle.gb_script.specs.declared.token_fault.Fault.{Fault}
use Rattle.gb_script.specs.declared.token_fault.Stop.{Stop}
use Rattle.gb_script.specs.declared.token_fault.Stop.TheVariants as stops
use Rattle.gb_script.specs.declared.token.Sign.TheVariants.{Comma}
use Rattle.gb_script.specs.declared.token.Token.{Token}
use Rattle.gb_script.specs.Lexing.{begins}
use Rattle.gb_script.specs.Reading.{Reader, ◌>>=◌, Fails, deep, is_sign, past_at, many_at, list_at, no_matter}

abbrev pub with_prefix : {A : Type 0} → List A → Result (List A × List Token) Fault → Result (List A × List Token) Fault
with_prefix prefix read = read >>= λ x. Ok (prefix ++ x.0, x.1)

regroup : {A : Type 0} (prefix : List A) (x : A) (read : Result (List A × List Token) Fault) → with_prefix prefix (read >>= λ others. Ok (x ∷ others.0, others.1)) ≡ with_prefix (prefix ++ x ∷ []) read
regroup {A} prefix x (Ok others) = ap (λ (xs : List A). Ok (xs, others.1)) (sym (append_assoc prefix (x ∷ []) others.0))
regroup prefix x (Err f) = refl

module _ {S A : Type 0} (test : Token → Bool) (next : S → A → S) (r : S → Reader A) where
  step : (prefix : List A) (n : ℕ) (s : S) (ts after : List Token) (x : A) → begins test ts ≡ true → r s ts ≡ Ok (x, after) → with_prefix prefix (many_at test next r (suc n) s ts) ≡ with_prefix (prefix ++ x ∷ []) (many_at test next r n (next s x) after)
  unfolding many_at
  step prefix n s ts after x begun found = rw (begun, found) (regroup prefix x (many_at test next r n (next s x) after))

  pub goes_on : (prefix new : List A) (n m : ℕ) (s t : S) (ts after : List Token) (x : A) (total : Result (List A × List Token) Fault) → begins test ts ≡ true → n ≡ suc m → t ≡ next s x → new ≡ prefix ++ x ∷ [] → r s ts ≡ Ok (x, after) → with_prefix prefix (many_at test next r n s ts) ≡ total → with_prefix new (many_at test next r m t after) ≡ total
  goes_on prefix new n m s t ts after x total begun k same longer found so_far =
      ap (λ (l : List A). with_prefix l (many_at test next r m t after)) longer
      ∙ ap (λ (i : S). with_prefix (prefix ++ x ∷ []) (many_at test next r m i after)) same
      ∙ sym (step prefix m s ts after x begun found)
      ∙ (ap (λ i. with_prefix prefix (many_at test next r i s ts)) (sym k) ∙ so_far)

  stops_here : (e : Stop) (prefix : List A) (n : ℕ) (s : S) (ts : List Token) → begins test ts ≡ true → Fails e (r s ts) → Fails e (with_prefix prefix (many_at test next r (suc n) s ts))
  unfolding many_at
  stops_here stops.Memory prefix n s ts begun fails = tt
  stops_here (stops.Fault f) prefix n s ts begun fails = rw (begun, fails) refl

  pub ends : (e : Stop) (prefix : List A) (n m : ℕ) (s : S) (ts : List Token) (total : Result (List A × List Token) Fault) → begins test ts ≡ true → n ≡ suc m → Fails e (r s ts) → with_prefix prefix (many_at test next r n s ts) ≡ total → Fails e total
  ends stops.Memory prefix n m s ts total begun k fails so_far = tt
  ends (stops.Fault f) prefix n m s ts total begun k fails so_far = sym so_far ∙ (ap (λ i. with_prefix prefix (many_at test next r i s ts)) k ∙ stops_here (stops.Fault f) prefix m s ts begun fails)

  pub none_left : (n : ℕ) (s : S) (ts : List Token) → begins test ts ≡ false → many_at test next r n s ts ≡ Ok ([], ts)
  unfolding many_at
  none_left zero s ts over = rw over refl
  none_left (suc n) s ts over = rw over refl

  pub too_many : (prefix : List A) (n : ℕ) (s : S) (ts : List Token) (total : Result (List A × List Token) Fault) → begins test ts ≡ true → n ≡ 0 → with_prefix prefix (many_at test next r n s ts) ≡ total → total ≡ deep ts
  unfolding many_at
  too_many prefix n s ts total begun none so_far =
      let here : with_prefix prefix (many_at test next r n s ts) ≡ deep ts = rw (none, begun) refl in
      sym so_far ∙ here

  pub is_done : (prefix : List A) (n : ℕ) (s : S) (ts : List Token) (total : Result (List A × List Token) Fault) → begins test ts ≡ false → with_prefix prefix (many_at test next r n s ts) ≡ total → total ≡ Ok (prefix, ts)
  is_done prefix n s ts total over so_far =
      sym so_far ∙ (ap (with_prefix prefix) (none_left n s ts over) ∙ ap (λ (xs : List A). Ok (xs, ts)) (append-nil prefix))

-- the first of a list, before a loop over the others
pub starts_list : {A : Type 0} (r : Reader A) (ts after : List Token) (x : A) (prefix : List A) (n : ℕ) → r ts ≡ Ok (x, after) → prefix ≡ x ∷ [] → n ≡ length after → with_prefix prefix (many_at (is_sign Comma) no_matter (λ s. past_at (is_sign Comma) r) n tt after) ≡ list_at r ts
unfolding list_at
starts_list r ts after x prefix n found one fuel =
    ap (λ f. with_prefix f (many_at (is_sign Comma) no_matter (λ s. past_at (is_sign Comma) r) n tt after)) one
    ∙ ap (λ i. with_prefix (x ∷ []) (many_at (is_sign Comma) no_matter (λ s. past_at (is_sign Comma) r) i tt after)) fuel
    ∙ sym (ap (λ read. read >>= λ first. many_at (is_sign Comma) no_matter (λ s. past_at (is_sign Comma) r) (length first.1) tt first.1 >>= λ others. Ok (first.0 ∷ others.0, others.1)) found)

-- no list without its first
pub list_fails : {A : Type 0} (r : Reader A) (ts : List Token) (e : Stop) → Fails e (r ts) → Fails e (list_at r ts)
unfolding list_at
list_fails r ts stops.Memory fails = tt
list_fails r ts (stops.Fault f) fails = rw fails refl

pub begins_some : (test : Token → Bool) (ts : List Token) → begins test ts ≡ true → 0 < length ts
begins_some test [] h = absurd cc
begins_some test (t ∷ ts) h = omega arith

pub one_longer : {A : Type 0} (old new : List A) (x : A) → new ≡ old ++ x ∷ [] → length new ≡ length old + 1
one_longer old new x e = ap length e ∙ length-append old (x ∷ [])

pub pushed : {X A : Type 0} (f : X → A) (old new : List X) (x : X) → new ≡ old ++ x ∷ [] → map f new ≡ map f old ++ f x ∷ []
pushed f old new x e = ap (map f) e ∙ map-append f old (x ∷ [])
