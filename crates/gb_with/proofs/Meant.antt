-- A function of one of two implementations has the meaning that it has there.
use Rattle.std.proofs.Common.{◌≡◌, sym, ap, ◌∙◌}
use Rattle.gb_provider.specs.Meanings.{Kinds, meaning_of}
use Rattle.gb_with.specs.declared.both.Either.{Either}
use Rattle.gb_with.specs.declared.both.Either.TheVariants.{First, Second}
use Rattle.gb_with.specs.Functions.{both_kinds, use_means}
use Rattle.gb_with.specs.Own.{first_is_found, second_is_found}

module _ {S T A : Type 0} (first : Kinds S A) (second : Kinds T A) (stored : Either S T) where
  pub meant-by_first : (one : S) → stored ≡ First one
      → meaning_of first one ≡ meaning_of (both_kinds first second) stored
  meant-by_first one is =
      sym (ap (meaning_of (both_kinds first second)) is
      ∙ ap (use_means first second) (first_is_found (first.kind one)))

  pub meant-by_second : (one : T) → stored ≡ Second one
      → meaning_of second one ≡ meaning_of (both_kinds first second) stored
  meant-by_second one is =
      sym (ap (meaning_of (both_kinds first second)) is
      ∙ ap (use_means first second) (second_is_found (second.kind one)))
