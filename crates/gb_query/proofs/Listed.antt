-- What is written of tasks so far.
use Rattle.std.proofs.Common.{ℕ, ◌≡◌, ◌<◌, List, [], ◌∷◌, ◌++◌, get_or, length, refl, ap, ◌∙◌, append_assoc}
use Rattle.std.specs.Prelude.{IsTrue, bytes_eq}
use Rattle.std.specs.Cmp.Lexicographic.{bytes_decides}
use Rattle.std.proofs.lemmas.List.Folds.{list_any_at}
use Rattle.gb_plan.specs.Task.{Path, has_path}

-- what is written so far with one more, and the rest
pub step : {X : Type 0} (before one rest now all : List X) → now ≡ before ++ one → before ++ (one ++ rest) ≡ all → now ++ rest ≡ all
step before one rest now all added so_far = ap (λ t. t ++ rest) added ∙ append_assoc before one rest ∙ so_far

pub none_left : {X : Type 0} (xs : List X) → length xs ≡ 0 → xs ≡ []
none_left [] e = refl
none_left (x ∷ xs) e = absurd (cc)

-- each of these paths is among them
pub is_there : (paths : List Path) (i : ℕ) (path : Path) → i < length paths → path ≡ get_or paths i path → IsTrue (has_path paths path)
is_there paths i path lt is = list_any_at (bytes_eq path) paths i path lt ((bytes_decides path _).1 is)
