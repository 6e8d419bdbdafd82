-- Tasks that expressions come from.
use Rattle.std.specs.Prelude.{ℕ, ◌+◌, ◌<◌, ◌≡◌, List, [], ◌∷◌, ◌++◌, drop, get_or, length, map, refl}
use Rattle.std.specs.BTreeSet.{insert_key}
use Rattle.std.specs.List.{flat_map}
use Rattle.std.proofs.lemmas.Grind.{flat_map-append}
use Rattle.std.proofs.lemmas.List.{map-append}
use Rattle.std.proofs.Common.{sym, ap, ◌∙◌}
use Rattle.gb_core.specs.Lists.{byte_order}
use Rattle.gb_core.specs.Tasks.{with_tasks}
use Rattle.gb_project.proofs.WalkLemmas.{left_at}

pub with_both : (tasks prefix back : List (List ℕ)) → with_tasks tasks (prefix ++ back) ≡ with_tasks (with_tasks tasks prefix) back
with_both tasks [] back = refl
with_both tasks (task ∷ prefix) back = with_both (insert_key byte_order tasks task) prefix back

module _ {Node : Type 0} (producers : ℕ → List (List ℕ)) (number : Node → ℕ) (row : List Node) (i : ℕ) (d : Node) (within : i < length row) where
  pub more_needs : (old new found : List (List ℕ)) → new ≡ with_tasks old found → found ≡ producers (number (get_or row i d))
      → with_tasks new (flat_map producers (map number (drop (i + 1) row))) ≡ with_tasks old (flat_map producers (map number (drop i row)))
  more_needs old new found extended reported =
      let rest = flat_map producers (map number (drop (i + 1) row)) in
      ap (λ tasks. with_tasks tasks rest) (extended ∙ ap (with_tasks old) reported)
      ∙ sym (with_both old (producers (number (get_or row i d))) rest)
      ∙ ap (λ numbers. with_tasks old (flat_map producers numbers)) (sym (left_at number row i d within))

-- three rows, one after another
module _ {Node : Type 0} (producers : ℕ → List (List ℕ)) (number : Node → ℕ) where
  abbrev of_row : List Node → List (List ℕ)
  of_row row = flat_map producers (map number row)

  of_both : (prefix back : List Node) → of_row (prefix ++ back) ≡ of_row prefix ++ of_row back
  of_both prefix back = ap (flat_map producers) (map-append number prefix back) ∙ flat_map-append producers (map number prefix) (map number back)

  pub all_needs : (v r a : List Node) (begun one two three depends : List (List ℕ)) → begun ≡ depends → one ≡ with_tasks begun (of_row v) → two ≡ with_tasks one (of_row r) → three ≡ with_tasks two (of_row a)
      → three ≡ with_tasks depends (of_row (v ++ r ++ a))
  all_needs v r a begun one two three depends e0 e1 e2 e3 =
      e3
      ∙ ap (λ t. with_tasks t (of_row a)) (e2 ∙ ap (λ t. with_tasks t (of_row r)) (e1 ∙ ap (λ t. with_tasks t (of_row v)) e0) ∙ sym (with_both depends (of_row v) (of_row r)))
      ∙ sym (with_both depends (of_row v ++ of_row r) (of_row a))
      ∙ ap (with_tasks depends) (ap (λ l. l ++ of_row a) (sym (of_both v r)) ∙ sym (of_both (v ++ r) a))
