-- The path of a place from a root is a place.
use Rattle.std.proofs.Common.{arith, ◌≡◌, ◌+◌, inl, inr, ℕ, suc, true, false, List, ◌∷◌, ◌++◌, take, drop, add-one, refl, sym, ◌∙◌, ap}
use Rattle.std.proofs.Math.Seq.{drop-cons}
use Rattle.std.proofs.lemmas.List.{take-append-drop}
use Rattle.std.proofs.lemmas.Str.{len_utf8_ascii}
use Rattle.std.proofs.lemmas.Bool.{false≢true}
use Rattle.std.specs.Prelude.{bytes_eq}
use Rattle.std.specs.Cmp.Lexicographic.{bytes_decides}
use Rattle.std.specs.Str.Pattern.{RFindsChar, SplitsAroundMatch}
use Rattle.gb_core.specs.Place.{is_place, is_under}
use Rattle.gb_tree.specs.Tree.{path_from}
use Rattle.gb_tree.proofs.InOrder.{past_root}
use Rattle.gb_tree.proofs.Rest.{rest_is_place}
use Rattle.gb_tree.proofs.Under.{under_parts}

-- what is left after the last slash
pub last_is_place : (place prefix back : List ℕ) → SplitsAroundMatch (RFindsChar 47) place prefix back → is_place place ≡ true → is_place back ≡ true
last_is_place place prefix back (i, j, finds, at_prefix, at_back, order, long_prefix, long_back) good =
    let ends : j ≡ i + 1 = finds.1.ends ∙ ap (λ n. i + n) (len_utf8_ascii 47 (omega arith)) in
    let whole : place ≡ take i place ++ 47 ∷ back =
    sym (take-append-drop i place)
    ∙ ap (λ more. take i place ++ more) (drop-cons place i 0 (omega arith) ∙ ap (λ c. c ∷ drop (suc i) place) (finds.1.byte (omega arith)) ∙ ap (λ more. 47 ∷ more) (sym (at_back ∙ ap (λ n. drop n place) ends ∙ rw add-one refl))) in
    rest_is_place (take i place) back (sym (ap is_place whole) ∙ good)

-- what is left of a place under a root
pub rest_beneath : (root place : List ℕ) → is_under place root ≡ true → bytes_eq place root ≡ false → is_place place ≡ true → is_place (path_from root place) ≡ true
rest_beneath root place under other good =
    elim (under_parts place root under) [
      | inl same ↦ absurd (false≢true (sym other ∙ (bytes_decides place root).1 same))
      | inr more ↦ ap (λ p. is_place (path_from root p)) more.1 ∙ ap is_place (past_root root more.0) ∙ rest_is_place root more.0 (sym (ap is_place more.1) ∙ good)
    ]
