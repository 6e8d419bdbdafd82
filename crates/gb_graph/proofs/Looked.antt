-- Numbers looked up by borrowed paths.
use Rattle.std.proofs.Common.{◌≡◌, ℕ, cond, List, [], ◌∷◌, map, Some, bytes_eq, refl, ap}
use Rattle.std.specs.Borrow.{Bor}
use Rattle.std.specs.Map.{lookup}
use Rattle.gb_graph.specs.Ranked.{Numbers, number_at}

abbrev pub numbers_of : List (Bor (List ℕ) × ℕ) → Numbers
numbers_of entries = map (λ e. (e.0.now, e.1)) entries

pub looked_up : (entries : List (Bor (List ℕ) × ℕ)) (path : List ℕ) → number_at (numbers_of entries) path ≡ lookup (λ k. bytes_eq path k.now) entries
looked_up [] path = refl
looked_up (e ∷ entries) path = ap (cond (bytes_eq path e.0.now) (Some e.1)) (looked_up entries path)
