-- The meanings of functions of values of two implementations as one.
use Rattle.std.specs.Prelude.{ℕ, suc}
use Rattle.gb_provider.specs.Meanings.{Kinds, Meanings}
use Rattle.gb_with.specs.Both.{Whose, OfFirst, OfSecond, twice, whose}
use Rattle.gb_with.specs.declared.both.Either.{Either}
use Rattle.gb_with.specs.declared.both.Either.TheVariants.{First, Second}

module _ {S T A : Type 0} (first : Kinds S A) (second : Kinds T A) where
  abbrev pub use_kind : Either S T → ℕ
  use_kind (First stored) = twice (first.kind stored)
  use_kind (Second stored) = suc (twice (second.kind stored))

  abbrev pub use_arity : Either S T → ℕ
  use_arity (First stored) = first.arity stored
  use_arity (Second stored) = second.arity stored

  abbrev pub use_means : Whose → A
  use_means (OfFirst n) = first.means n
  use_means (OfSecond n) = second.means n

  -- the functions of one use
  abbrev pub both_kinds : Kinds (Either S T) A
  both_kinds = record { kind = use_kind; arity = use_arity; means = λ n. use_means (whose n) }

abbrev pub both_functions : {M F Z S N G Y T : Type 0} → Meanings M F Z S → Meanings N G Y T
    → Meanings (Either M N) (Either F G) (Either Z Y) (Either S T)
both_functions first second = record {
  map = both_kinds first.map second.map;
  flat_map = both_kinds first.flat_map second.flat_map;
  zip = both_kinds first.zip second.zip;
  test = both_kinds first.test second.test;
}
