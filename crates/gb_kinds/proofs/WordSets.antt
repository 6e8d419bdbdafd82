-- The words of runs, one after another.
use Rattle.std.proofs.Common.{◌≡◌, ℕ, Bool, true, false, cond, ◌&&◌, ◌||◌, List, [], ◌∷◌, ◌++◌, ◌+◌, ◌<◌, length, take, get_or, refl, sym, ap, ◌∙◌, bytes_eq}
use Rattle.std.proofs.lemmas.List.{take_more}
use Rattle.std.proofs.lemmas.List.Elements.{filter-append}
use Rattle.std.proofs.lemmas.List.Folds.{list_any-append}
use Rattle.std.proofs.lemmas.Map.Text.{is_eq-slice_cmp}
use Rattle.std.specs.Cmp.Lexicographic.{nat_list_eq_equiv}
use Rattle.std.specs.List.{filter, list_any}
use Rattle.std.specs.Ordering.{eq_by_cmp}
use Rattle.gb_core.specs.Lists.{byte_order}
use Rattle.gb_kinds.specs.Words.{is_word}

pub or_false : (b : Bool) → (b || false) ≡ b
or_false true = refl
or_false false = refl

-- a word that is inserted into a set
pub with_word : (q word run : List ℕ) (before : Bool) → word ≡ run → is_word run ≡ true → cond (eq_by_cmp byte_order word q) true before ≡ (before || (is_word run && bytes_eq q run))
with_word q word run before is counts =
    ap (λ w. cond (eq_by_cmp byte_order w q) true before) is
    ∙ ap (λ b. cond b true before) (is_eq-slice_cmp run q ∙ nat_list_eq_equiv.symm run q)
    ∙ by (bytes_eq q run) before
    ∙ ap (λ b. before || (b && bytes_eq q run)) (sym counts)
  where
    by : (b before : Bool) → cond b true before ≡ (before || b)
    by true true = refl
    by true false = refl
    by false true = refl
    by false false = refl

-- one more run
pub word_of_more : (q run : List ℕ) (runs : List (List ℕ)) → list_any (bytes_eq q) (filter is_word (runs ++ run ∷ [])) ≡ (list_any (bytes_eq q) (filter is_word runs) || (is_word run && bytes_eq q run))
word_of_more q run runs =
    ap (list_any (bytes_eq q)) (filter-append is_word runs (run ∷ []))
    ∙ list_any-append (bytes_eq q) (filter is_word runs) (filter is_word (run ∷ []))
    ∙ ap (λ b. list_any (bytes_eq q) (filter is_word runs) || b) (by (is_word run))
  where
    by : (b : Bool) → list_any (bytes_eq q) (cond b (run ∷ []) []) ≡ (b && bytes_eq q run)
    by true = or_false (bytes_eq q run)
    by false = refl

-- the runs up to a later one
pub word_of_next : (q run : List ℕ) (runs : List (List ℕ)) (i n : ℕ) → n ≡ i + 1 → i < length runs → run ≡ get_or runs i run
    → list_any (bytes_eq q) (filter is_word (take n runs)) ≡ (list_any (bytes_eq q) (filter is_word (take i runs)) || (is_word run && bytes_eq q run))
word_of_next q run runs i n next within is =
    ap (λ k. list_any (bytes_eq q) (filter is_word (take k runs))) next
    ∙ ap (λ rs. list_any (bytes_eq q) (filter is_word rs)) (take_more runs i run within)
    ∙ ap (λ r. list_any (bytes_eq q) (filter is_word (take i runs ++ r ∷ []))) (sym is)
    ∙ word_of_more q run (take i runs)
