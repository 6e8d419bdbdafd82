-- One, and the others after commas, by the laws.
use Rattle.std.proofs.Common.{◌≡◌, Bool, true, List, [], ◌∷◌, length, Option, Ok, refl, sym, ap, subst, ◌∙◌}
use Rattle.std.specs.Prelude.{◌&&◌}
use Rattle.std.specs.List.{flat_map}
use Rattle.gb_script.specs.declared.token.Sign.TheVariants.{Comma}
use Rattle.gb_script.specs.declared.token.Token.{Token}
use Rattle.gb_script.specs.declared.token.Token.TheVariants.{Mark}
use Rattle.gb_script.specs.Grammar.{Leveled, list_tokens}
use Rattle.gb_script.specs.Reading.{Reader, ◌>>=◌, is_sign, many_at, past_at, list_at, no_matter}
use Rattle.gb_script.proofs.Readers.{Reads, Reads-bind, Reads-made, first_or}
use Rattle.gb_script.proofs.Singles.{Reads-skip, tests_sign}
use Rattle.gb_script.proofs.Many.{Reads-many, AllFrom, ends_all, both_true, and_true}

module _ {A : Type 0} {P : A → Type 0} {m : A → List Leveled} {e : A → Option Token → Bool} {r : Reader A} (R : Reads P m e r) (some : (a : A) × P a) where
  abbrev following : A → List Leveled
  following a = (Mark Comma, 0) ∷ m a

  abbrev pub IsList : List A → Type 0
  IsList [] = ⊥
  IsList (x ∷ xs) = P x × AllFrom (λ s. P) no_matter tt xs

  abbrev pub list_ends : List A → Option Token → Bool
  list_ends [] o = true
  list_ends (x ∷ xs) o = e x (first_or (flat_map following xs) o) && ends_all following e (is_sign Comma) xs o

  Reads-past : Reads P following e (past_at (is_sign Comma) r)
  unfolding past_at
  Reads-past = Reads-skip (tests_sign Comma) R some

  Reads-others : Reads (AllFrom (λ s. P) no_matter tt) (flat_map following) (ends_all following e (is_sign Comma)) (λ ts. many_at (is_sign Comma) no_matter (λ s. past_at (is_sign Comma) r) (length ts) tt ts)
  Reads-others =
      Reads-many {P = λ s. P} {r = λ s. past_at (is_sign Comma) r} (is_sign Comma) no_matter (λ s. Reads-past)
      (λ s a p. record { head = (Mark Comma, 0); tail = m a; whole = refl; passes = (tests_sign Comma).same }) tt

  abbrev rest_of : List A → List A
  rest_of [] = []
  rest_of (x ∷ xs) = xs

  abbrev IsAfter : A → List A → Type 0
  IsAfter a l = (l ≡ a ∷ rest_of l) × AllFrom (λ s. P) no_matter tt (rest_of l)

  Reads-after : (a : A) → Reads (IsAfter a) (λ l. flat_map following (rest_of l)) (λ l o. ends_all following e (is_sign Comma) (rest_of l) o) (λ ts. many_at (is_sign Comma) no_matter (λ s. past_at (is_sign Comma) r) (length ts) tt ts >>= λ others. Ok (a ∷ others.0, others.1))
  Reads-after a = Reads-made Reads-others (λ others. a ∷ others) rest_of (λ others. refl)

  list_split : (l : List A) → IsList l → (a : A) × P a × IsAfter a l
  list_split [] p = absurd p
  list_split (x ∷ xs) p = (x, p.0, (refl, p.1))

  pub Reads-list : Reads IsList (list_tokens m) list_ends (list_at r)
  unfolding list_at
  Reads-list =
      Reads-bind {r2 = λ a ts. many_at (is_sign Comma) no_matter (λ s. past_at (is_sign Comma) r) (length ts) tt ts >>= λ others. Ok (a ∷ others.0, others.1)} R (λ a p. Reads-after a)
      (λ a p. (a ∷ [], (refl, tt)))
      IsList (list_tokens m) list_ends
      list_split
      (λ a l p q. subst IsList (sym q.0) (p, q.1))
      (λ a l p q. ap (list_tokens m) q.0)
      (λ a l o p q h. both_true _ _ (ap (λ (l : List A). list_ends l o) (sym q.0) ∙ h))
      (λ a l o p q h g. ap (λ (l : List A). list_ends l o) q.0 ∙ and_true _ _ h g)
