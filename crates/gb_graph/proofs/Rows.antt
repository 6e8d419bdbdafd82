-- Rows of vectors, as lists.
use Rattle.std.proofs.Common.{◌≡◌, ◌<◌, ℕ, List, [], ◌∷◌, ◌++◌, length, get_or, ap, sym, ◌∙◌, Vec}
use Rattle.std.specs.Global.{Global}
use Rattle.std.proofs.lemmas.List.{get_or-map, map-set}
use Rattle.std.proofs.Math.ListN.{set}
use Rattle.gb_graph.specs.Order.{rows, row}

pub rows_row : (vs : List (Vec ℕ Global)) (i : ℕ) (v : Vec ℕ Global) → i < length vs → v ≡ get_or vs i v → row (rows vs) i ≡ v.items
rows_row vs i v lt is = get_or-map (λ v. v.items) vs i v [] lt ∙ ap (λ v. v.items) (sym is)

pub rows_push : (vs : List (Vec ℕ Global)) (i : ℕ) (old new : Vec ℕ Global) (x : ℕ) → i < length vs → old ≡ get_or vs i old
    → new.items ≡ old.items ++ x ∷ [] → rows (set vs i new) ≡ set (rows vs) i (row (rows vs) i ++ x ∷ [])
rows_push vs i old new x lt is e =
    map-set (λ v. v.items) vs i new ∙ ap (set (rows vs) i) (e ∙ ap (λ r. r ++ x ∷ []) (sym (rows_row vs i old lt is)))
