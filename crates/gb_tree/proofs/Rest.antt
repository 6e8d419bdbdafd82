-- The rest of a place after a slash is a place.
use Rattle.std.proofs.Common.{arith, ◌≡◌, ◌+◌, ◌≤◌, inl, inr, ℕ, suc, true, ◌&&◌, List, [], ◌∷◌, ◌++◌, length, take, drop, add-one, refl, sym, ◌∙◌, ap}
use Rattle.std.proofs.Math.Seq.{drop-cons}
use Rattle.std.proofs.lemmas.Bool.{and_parts}
use Rattle.std.proofs.lemmas.Bool.Decides.{nat_tests}
use Rattle.std.proofs.lemmas.List.{take-append-drop, length-append}
use Rattle.std.proofs.lemmas.List.Folds.{list_all-append}
use Rattle.std.proofs.lemmas.Str.{len_utf8_ascii}
use Rattle.std.specs.List.{list_all}
use Rattle.std.specs.Prelude.{nat_le}
use Rattle.std.specs.Str.Pattern.{RFindsChar, SplitsAroundMatch}
use Rattle.gb_core.proofs.BySegments.{segments-joined}
use Rattle.gb_core.specs.Place.{is_place, is_printable, is_rel_path, is_segment, segments}
use Rattle.gb_tree.specs.Tree.{path_from}
use Rattle.gb_tree.proofs.InOrder.{at_root, past_root}
use Rattle.gb_tree.proofs.Under.{IsUnder}

shorter : (n m : ℕ) → nat_le n 1024 ≡ true → m ≤ n → nat_le m 1024 ≡ true
shorter n m h le = grind (arith, nat_tests)

pub rest_is_place : (prefix rest : List ℕ) → is_place (prefix ++ 47 ∷ rest) ≡ true → is_place rest ≡ true
rest_is_place prefix rest good =
    let parts = and_parts _ (list_all is_segment (segments (prefix ++ 47 ∷ rest))) good in
    let bytes = and_parts (nat_le (length (prefix ++ 47 ∷ rest)) 1024) _ parts.0 in
    let printable = and_parts (list_all is_printable prefix) _ (sym (list_all-append is_printable prefix (47 ∷ rest)) ∙ bytes.1) in
    let named = and_parts (list_all is_segment (segments prefix)) _ (sym (list_all-append is_segment (segments prefix) (segments rest)) ∙ ap (list_all is_segment) (sym (segments-joined prefix rest)) ∙ parts.1) in
    let count : length (prefix ++ 47 ∷ rest) ≡ length prefix + length (47 ∷ rest) = length-append prefix (47 ∷ rest) in
    ap (λ b. (b && list_all is_printable rest) && list_all is_segment (segments rest)) (shorter (length (prefix ++ 47 ∷ rest)) (length rest) bytes.0 (omega (arith, count)))
    ∙ ap (λ b. b && list_all is_segment (segments rest)) printable.1
    ∙ named.1

pub place_is_path : (text : List ℕ) → is_place text ≡ true → is_rel_path text ≡ true
place_is_path [] good = refl
place_is_path (c ∷ text) good = good

pub rest_is_path : (root place : List ℕ) → IsUnder place root → is_place place ≡ true → is_rel_path (path_from root place) ≡ true
rest_is_path root place (inl is) good = ap (λ p. is_rel_path (path_from root p)) is ∙ ap is_rel_path (at_root root)
rest_is_path root place (inr more) good =
    ap (λ p. is_rel_path (path_from root p)) more.1 ∙ ap is_rel_path (past_root root more.0) ∙ place_is_path more.0 (rest_is_place root more.0 (sym (ap is_place more.1) ∙ good))

-- after the last slash
pub last_is_path : (place prefix back : List ℕ) → SplitsAroundMatch (RFindsChar 47) place prefix back → is_place place ≡ true → is_rel_path back ≡ true
last_is_path place prefix back (i, j, finds, at_prefix, at_back, order, long_prefix, long_back) good =
    let ends : j ≡ i + 1 = finds.1.ends ∙ ap (λ n. i + n) (len_utf8_ascii 47 (omega arith)) in
    let whole : place ≡ take i place ++ 47 ∷ back =
    sym (take-append-drop i place)
    ∙ ap (λ more. take i place ++ more) (drop-cons place i 0 (omega arith) ∙ ap (λ c. c ∷ drop (suc i) place) (finds.1.byte (omega arith)) ∙ ap (λ more. 47 ∷ more) (sym (at_back ∙ ap (λ n. drop n place) ends ∙ rw add-one refl))) in
    place_is_path back (rest_is_place (take i place) back (sym (ap is_place whole) ∙ good))
