-- A look-up in a list of entries, from an index on.
use Rattle.std.proofs.Common.{◌≡◌, ◌≢◌, ℕ, suc, ◌+◌, ◌<◌, true, false, cond, List, ◌∷◌, length, get_or, drop, Some, refl, sym, ap, subst, ◌∙◌, true≢false, add-one, bytes_eq}
use Rattle.std.proofs.Math.Seq.{drop-cons}
use Rattle.std.specs.Ordering.{is_eq}
use Rattle.std.specs.Cmp.{tied_itself}
use Rattle.std.specs.Cmp.Lexicographic.{nat_list_cmp_total, bytes_decides}
use Rattle.std.specs.declared.cmp.Ordering.TheVariants.{Less, Equal, Greater}
use Rattle.std.specs.FinMap.{nat_cmp-IsAntisymmetric, slice_cmp-IsAntisymmetric}
use Rattle.std.specs.FinMap.Entries.{find}
use Rattle.gb_core.specs.Lists.{byte_order}

-- keys that tie are equal
pub tied_same : (q k : List ℕ) → byte_order q k ≡ Equal → q ≡ k
tied_same q k e = slice_cmp-IsAntisymmetric nat_cmp-IsAntisymmetric q k e

pub same_tied : (q k : List ℕ) → q ≡ k → byte_order q k ≡ Equal
same_tied q k e = subst (λ x. byte_order q x ≡ Equal) e (tied_itself nat_list_cmp_total q)

module _ {X : Type 0} (q : List ℕ) (e : List ℕ × X) (es : List (List ℕ × X)) where
  pub find-same : e.0 ≡ q → find byte_order q (e ∷ es) ≡ Some e.1
  find-same is = ap (λ r. cond (is_eq r) (Some e.1) (find byte_order q es)) (same_tied q e.0 (sym is))

  pub find-other : e.0 ≢ q → find byte_order q (e ∷ es) ≡ find byte_order q es
  find-other other =
      elim (byte_order q e.0) as (λ r. byte_order q e.0 ≡ r → cond (is_eq r) (Some e.1) (find byte_order q es) ≡ find byte_order q es) [
        | Less ↦ λ p. refl
        | Equal ↦ λ p. absurd (other (sym (tied_same q e.0 p)))
        | Greater ↦ λ p. refl
      ] refl

-- the entry at an index of a list, by cases: its key is the one looked for, or not
module _ {X : Type 0} (q : List ℕ) (es : List (List ℕ × X)) (i : ℕ) (e : List ℕ × X) (within : i < length es) (is : e ≡ get_or es i e) where
  next : drop i es ≡ e ∷ drop (suc i) es
  next = drop-cons es i e within ∙ ap (λ x. x ∷ drop (suc i) es) (sym is)

  pub find-here : bytes_eq e.0 q ≡ true → find byte_order q (drop i es) ≡ Some e.1
  find-here same = ap (find byte_order q) next ∙ find-same q e (drop (suc i) es) ((bytes_decides e.0 q).0 same)

  pub find-next : bytes_eq e.0 q ≡ false → find byte_order q (drop i es) ≡ find byte_order q (drop (i + 1) es)
  find-next other =
      rw add-one
      (ap (find byte_order q) next ∙ find-other q e (drop (suc i) es) (λ same. true≢false (sym ((bytes_decides e.0 q).1 same) ∙ other)))
