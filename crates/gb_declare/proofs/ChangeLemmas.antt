-- A property that is changed in a table, compared with the same property changed in the whole.
use Rattle.std.proofs.Common.{◌≡◌, ◌≢◌, ℕ, ◌==◌, Bool, true, false, List, length, get_or, refl, sym, ap, ◌∙◌, Some, None}
use Rattle.std.proofs.lemmas.Bool.{eqb-true, eq-eqb}
use Rattle.std.proofs.lemmas.Option.{slice_get_within, get_or_from_slice_get}
use Rattle.std.proofs.lemmas.List.{length-set}
use Rattle.std.proofs.lemmas.List.Folds.{position_or_len-set}
use Rattle.std.specs.List.{position_or_len}
use Rattle.std.specs.Prelude.{position, slice_get, slice_set, cond, nat_lt, option_map}
use Rattle.gb_provider.specs.Rules.{OperandsWithin, is_output, output_place}
use Rattle.gb_provider.specs.declared.expression.Expression.{Expression}
use Rattle.gb_provider.specs.declared.expression.Expression.TheVariants.{OfProperty}
use Rattle.gb_provider.specs.declared.expression.Property.{Property}
use Rattle.gb_provider.specs.declared.fault.Chosen.{Chosen}
use Rattle.gb_provider.proofs.SearchLemmas.{get_set_same, get_set_other}
use Rattle.gb_provider.proofs.WithinLemmas.{changed_within}
use Rattle.gb_declare.specs.Partly.{IsPartOf, renamed}
use Rattle.gb_declare.specs.Changing.{IsDistinct, ChangesKeepParts}

-- the first position that passes is unchanged, where an element that does not pass is changed to one that
-- does not
position_kept : {X : Type 0} (p : X → Bool) (xs : List X) (i : ℕ) (x y : X) → slice_get xs i ≡ Some x → p x ≡ false → p y ≡ false → position p (slice_set xs i y) ≡ position p xs
position_kept p xs i x y is old new =
    let same : p y ≡ p (get_or xs i x) = new ∙ sym old ∙ ap p (sym (get_or_from_slice_get xs i x x is)) in
    ap (λ n. cond (nat_lt n (length (slice_set xs i y))) (Some n) None) (position_or_len-set p xs i y x same)
    ∙ ap (λ n. cond (nat_lt (position_or_len p xs) n) (Some (position_or_len p xs)) None) (length-set xs i y)

module _ {M F Z : Type 0} (number : ℕ → ℕ) (part whole : List (Expression M F Z)) (place : ℕ) (old new : Property) (is_part : IsPartOf number part whole) (exists : slice_get part place ≡ Some (OfProperty old))
    (within : OperandsWithin {M = M} {F = F} {Z = Z} (length part) (OfProperty new)) (separate : IsDistinct number (length part) place) where
  exists_whole : slice_get whole (number place) ≡ Some (renamed number (OfProperty old))
  exists_whole = is_part.copied place (OfProperty old) exists

  abbrev part_new : List (Expression M F Z)
  part_new = slice_set part place (OfProperty new)

  abbrev whole_new : List (Expression M F Z)
  whole_new = slice_set whole (number place) (renamed number (OfProperty new))

  copied_new : (entry : ℕ) (e : Expression M F Z) → slice_get part_new entry ≡ Some e → slice_get whole_new (number entry) ≡ Some (renamed number e)
  copied_new entry e is =
      elim (entry == place) as (λ b. (entry == place) ≡ b → slice_get whole_new (number entry) ≡ Some (renamed number e)) [
        | true ↦ λ same.
            let at : entry ≡ place = eqb-true entry place same in
            let here : slice_get part_new place ≡ Some (OfProperty new) = get_set_same part place (OfProperty new) (slice_get_within part place (OfProperty old) exists) in
            let e_is : Some e ≡ Some (OfProperty new) = sym is ∙ ap (slice_get part_new) at ∙ here in
            ap (λ i. slice_get whole_new (number i)) at
            ∙ get_set_same whole (number place) (renamed number (OfProperty new)) (slice_get_within whole (number place) (renamed number (OfProperty old)) exists_whole)
            ∙ ap (option_map (renamed number)) (sym e_is)
        | false ↦ λ other.
            let ne : place ≢ entry = λ q. (let clash : true ≡ false = sym (eq-eqb entry place (sym q)) ∙ other in cc) in
            let there : slice_get part entry ≡ Some e = sym (get_set_other part place entry (OfProperty new) ne) ∙ is in
            let separate_there : number place ≢ number entry = λ q. ne (sym (separate entry (slice_get_within part entry e there) (sym q))) in
            get_set_other whole (number place) (number entry) (renamed number (OfProperty new)) separate_there ∙ is_part.copied entry e there
      ] refl

  part_kept : (chosen : Chosen) → output_place part_new chosen ≡ output_place part chosen
  part_kept chosen = position_kept (is_output chosen) part place (OfProperty old) (OfProperty new) exists refl refl

  whole_kept : (chosen : Chosen) → output_place whole_new chosen ≡ output_place whole chosen
  whole_kept chosen = position_kept (is_output chosen) whole (number place) (renamed number (OfProperty old)) (renamed number (OfProperty new)) exists_whole refl refl

  changed_part : IsPartOf number part_new whole_new
  changed_part = record {
    within = changed_within part place (OfProperty new) is_part.within within;
    copied = copied_new;
    placed = λ chosen k is. whole_kept chosen ∙ is_part.placed chosen k (sym (part_kept chosen) ∙ is);
  }

pub changes_keep_parts : {M F Z : Type 0} → ChangesKeepParts M F Z
changes_keep_parts number part whole place old new is_part exists within separate = changed_part number part whole place old new is_part exists within separate
