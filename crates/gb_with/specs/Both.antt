-- The meanings of two implementations of `Actions` as one.
use Rattle.std.specs.Prelude.{ℕ, suc, zero, List, map}
use Rattle.gb_action.specs.Meanings.{Meanings, Making, Printing}
use Rattle.gb_action.specs.declared.shape.Shape.{Shape}
use Rattle.gb_with.specs.declared.both.Either.{Either}
use Rattle.gb_with.specs.declared.both.Either.TheVariants.{First, Second}

-- the implementation whose kind has a number, and the number of the kind there
pub data Whose : Type 0 where
  OfFirst : ℕ → Whose
  OfSecond : ℕ → Whose

abbrev pub next : Whose → Whose
next (OfFirst n) = OfSecond n
next (OfSecond n) = OfFirst (suc n)

abbrev pub whose : ℕ → Whose
whose zero = OfFirst zero
whose (suc n) = next (whose n)

abbrev pub twice : ℕ → ℕ
twice zero = zero
twice (suc n) = suc (suc (twice n))

module _ {A B : Type 0} (first : Meanings A) (second : Meanings B) where
  abbrev pub both_kind : Either A B → ℕ
  both_kind (First stored) = twice (first.kind stored)
  both_kind (Second stored) = suc (twice (second.kind stored))

  abbrev pub both_version : Either A B → ℕ
  both_version (First stored) = first.version stored
  both_version (Second stored) = second.version stored

  abbrev pub both_shape : Whose → Shape
  both_shape (OfFirst n) = first.shape n
  both_shape (OfSecond n) = second.shape n

  abbrev pub both_makes : Whose → Making
  both_makes (OfFirst n) = first.makes n
  both_makes (OfSecond n) = second.makes n

  abbrev pub both_prints : Whose → Printing
  both_prints (OfFirst n) = first.prints n
  both_prints (OfSecond n) = second.prints n

  abbrev pub both : Meanings (Either A B)
  both = record {
    kind = both_kind;
    version = both_version;
    shape = λ n. both_shape (whose n);
    makes = λ n. both_makes (whose n);
    prints = λ n. both_prints (whose n);
  }

-- the actions of a table as actions of both
abbrev pub firsts : {A B : Type 0} → List (List ℕ × A) → List (List ℕ × Either A B)
firsts table = map (λ entry. (entry.0, First entry.1)) table

abbrev pub seconds : {A B : Type 0} → List (List ℕ × B) → List (List ℕ × Either A B)
seconds table = map (λ entry. (entry.0, Second entry.1)) table
