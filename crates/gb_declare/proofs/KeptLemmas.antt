-- The empty table is a part of any table.
use Rattle.std.proofs.Common.{◌≡◌, List, [], sym, subst, arith}
use Rattle.gb_provider.specs.declared.expression.Expression.{Expression}
use Rattle.gb_declare.specs.Kept.{IsPart}
use Rattle.gb_declare.specs.Partly.{IsPartOf}

module _ {M F Z : Type 0} (whole : List (Expression M F Z)) where
  none_is_part : IsPartOf (λ i. i) [] whole
  none_is_part = record {
    within = λ k d below. absurd (omega (arith, below));
    copied = λ entry e is. cc;
    placed = λ chosen k is. cc;
  }

  pub empty_is_part : (nodes : List (Expression M F Z)) → nodes ≡ [] → IsPart nodes whole
  empty_is_part nodes none = subst (λ l. IsPart l whole) (sym none) ∣ (λ i. i, none_is_part) ∣₁
