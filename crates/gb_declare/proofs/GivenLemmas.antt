-- The last value that is stored under a name is found.
use Rattle.std.proofs.Common.{◌≡◌, ℕ, ◌+◌, ◌<◌, Bool, true, false, cond, List, [], ◌∷◌, ◌++◌, length, take, get_or, reverse, refl, sym, ap, ◌∙◌, Option, Some}
use Rattle.std.proofs.lemmas.List.{reverse-append, take_more}
use Rattle.std.specs.BTreeMap.{insert_entry, is_at}
use Rattle.std.specs.FinMap.Entries.{find}
use Rattle.std.specs.Map.{lookup}
use Rattle.std.specs.Ordering.{match_ordering, is_eq}
use Rattle.std.specs.declared.cmp.Ordering.TheVariants.{Less, Equal, Greater}
use Rattle.gb_core.proofs.Found.{tied_same, same_tied}
use Rattle.gb_core.specs.Lists.{byte_order}
use Rattle.gb_declare.proofs.LaidLemmas.{equal}

hidden : {Y : Type 0} (a b : Bool) → a ≡ b → (x y z : Y) → cond a x z ≡ cond a x (cond b y z)
hidden true b e x y z = refl
hidden false true e x y z = absurd (cc)
hidden false false e x y z = refl

swapped : {Y : Type 0} (a b : Bool) → ((a ≡ true) → (b ≡ true) → ⊥) → (x y z : Y) → cond b y (cond a x z) ≡ cond a x (cond b y z)
swapped true true never x y z = absurd (never refl refl)
swapped true false never x y z = refl
swapped false true never x y z = refl
swapped false false never x y z = refl

-- a name that comes after another is not that one
separate : (q k n : List ℕ) → byte_order k n ≡ Greater → is_eq (byte_order q k) ≡ true → is_eq (byte_order q n) ≡ true → ⊥
separate q k n after a b =
    let one : q ≡ k = tied_same q k (equal (byte_order q k) a) in
    let other : q ≡ n = tied_same q n (equal (byte_order q n) b) in
    let tied : byte_order k n ≡ Equal = same_tied k n (sym one ∙ other) in
    let clash : Greater ≡ Equal = sym after ∙ tied in
    absurd (cc)

module _ {X : Type 0} (q : List ℕ) where
  abbrev at : List (List ℕ × X) → Option X
  at es = lookup (is_at (byte_order q)) es

  pub lookup_put : (es : List (List ℕ × X)) (k : List ℕ) (v : X) → at (insert_entry byte_order es k v) ≡ cond (is_eq (byte_order q k)) (Some v) (at es)
  lookup_put [] k v = refl
  lookup_put (e ∷ es) k v =
      elim (byte_order k e.0) as (λ o. byte_order k e.0 ≡ o
      → at (match_ordering o ((k, v) ∷ e ∷ es) ((e.0, v) ∷ es) (e ∷ insert_entry byte_order es k v)) ≡ cond (is_eq (byte_order q k)) (Some v) (cond (is_eq (byte_order q e.0)) (Some e.1) (at es))) [
        | Less ↦ λ _. refl
        | Equal ↦ λ tied.
            let same : is_eq (byte_order q k) ≡ is_eq (byte_order q e.0) = ap (λ n. is_eq (byte_order q n)) (tied_same k e.0 tied) in
            ap (λ b. cond b (Some v) (at es)) (sym same) ∙ hidden (is_eq (byte_order q k)) (is_eq (byte_order q e.0)) same (Some v) (Some e.1) (at es)
        | Greater ↦ λ after.
            ap (cond (is_eq (byte_order q e.0)) (Some e.1)) (lookup_put es k v)
            ∙ swapped (is_eq (byte_order q k)) (is_eq (byte_order q e.0)) (separate q k e.0 after) (Some v) (Some e.1) (at es)
      ] refl

  -- one value more
  pub given_on : (es new : List (List ℕ × X)) (given : List (List ℕ × X)) (i : ℕ) (e : List ℕ × X) (k : List ℕ) (v : X) → i < length given → e ≡ get_or given i e → k ≡ e.0 → v ≡ e.1
      → new ≡ insert_entry byte_order es k v → at es ≡ find byte_order q (reverse (take i given)) → at new ≡ find byte_order q (reverse (take (i + 1) given))
  given_on es new given i e k v below is key value put before =
      ap at put ∙ ap (λ n. at (insert_entry byte_order es n v)) key ∙ ap (λ w. at (insert_entry byte_order es e.0 w)) value
      ∙ lookup_put es e.0 e.1 ∙ ap (cond (is_eq (byte_order q e.0)) (Some e.1)) before
      ∙ sym (ap (λ g. find byte_order q (reverse g)) (take_more given i e below ∙ ap (λ x. take i given ++ x ∷ []) (sym is))
      ∙ ap (find byte_order q) (reverse-append (take i given) (e ∷ [])))
