-- Kinds of both write only to their own outputs, and each stored action has the meaning that it has alone.
use Rattle.std.specs.Prelude.{ℕ, suc, zero, ◌≡◌, true, ◌&&◌, List, Ok, bytes_eq, is_some}
use Rattle.std.specs.List.{list_all}
use Rattle.std.proofs.Common.{refl, ap, subst, sym}
use Rattle.gb_core.specs.declared.value.Value.{Value}
use Rattle.gb_action.specs.Files.{Trees}
use Rattle.gb_action.specs.Meanings.{Meanings, Values, WritesItsOutput}
use Rattle.gb_action.specs.Shapes.{target}
use Rattle.gb_action.specs.declared.reply.Written.{Written}
use Rattle.gb_with.specs.declared.both.Either.{Either}
use Rattle.gb_with.specs.declared.both.Either.TheVariants.{First, Second}
use Rattle.gb_with.specs.Both.{Whose, OfFirst, OfSecond, next, whose, twice, both, both_kind, both_makes}
use Rattle.gb_with.specs.Both.{both_shape}

pub first_is_found : (n : ℕ) → whose (twice n) ≡ OfFirst n
first_is_found zero = refl
first_is_found (suc n) = ap (λ w. next (next w)) (first_is_found n)

pub second_is_found : (n : ℕ) → whose (suc (twice n)) ≡ OfSecond n
second_is_found n = ap next (first_is_found n)

module _ {A B : Type 0} (first : Meanings A) (second : Meanings B)
    (first_own : (kind : ℕ) → WritesItsOutput first kind)
    (second_own : (kind : ℕ) → WritesItsOutput second kind) where
  own_by : (w : Whose) (arguments : List Value) (values : Values) (trees : Trees) (written : List Written)
      → both_makes first second w arguments values trees ≡ Ok written
      → list_all (λ (file : Written). bytes_eq file.output target && is_some (both_shape first second w).out)
      written
      ≡ true
  own_by (OfFirst n) = first_own n
  own_by (OfSecond n) = second_own n

  pub both_own : (kind : ℕ) → WritesItsOutput (both first second) kind
  both_own kind = own_by (whose kind)

module _ {A B : Type 0} (first : Meanings A) (second : Meanings B) where
  pub as_first : (stored : Either A B) (one : A) → stored ≡ First one
      → whose (both_kind first second stored) ≡ OfFirst (first.kind one)
  as_first stored one is = subst (λ (s : Either A B). whose (both_kind first second s)
      ≡ OfFirst (first.kind one)) (sym is) (first_is_found (first.kind one))

  pub as_second : (stored : Either A B) (one : B) → stored ≡ Second one
      → whose (both_kind first second stored) ≡ OfSecond (second.kind one)
  as_second stored one is = subst (λ (s : Either A B). whose (both_kind first second s)
      ≡ OfSecond (second.kind one)) (sym is) (second_is_found (second.kind one))
