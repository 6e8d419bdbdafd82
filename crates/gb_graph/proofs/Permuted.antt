-- No path occurs twice, whatever the order of the tasks.
use Rattle.std.specs.Prelude.{ℕ, ◌≡◌, ◌≤◌, ◌+◌, Bool, true, false, not, cond, ◌||◌, List, [], ◌∷◌, bytes_eq, refl}
use Rattle.std.specs.List.{sum_by}
use Rattle.std.specs.List.Sorted.{IsPermutation}
use Rattle.std.specs.Cmp.Lexicographic.{bytes_decides}
use Rattle.std.proofs.Common.{ap, ◌∙◌, arith}
use Rattle.std.proofs.lemmas.List.Sorted.{sum_by-IsPermutation}
use Rattle.std.proofs.lemmas.List.Sums.{sum_by-cons}
use Rattle.gb_plan.specs.declared.plan.Planned.{Planned}
use Rattle.gb_plan.specs.Task.{Path, has_path}
use Rattle.gb_plan.specs.Graph.{order, no_repeats}
use Rattle.gb_plan.proofs.Tests.{not_true, no_longer, left_of, right_of, none_left, none_right, itself}
use Rattle.gb_graph.proofs.Numbers.{both}

abbrev one_if : Bool → ℕ
one_if b = cond b 1 0

-- how often the path occurs
abbrev times : Path → List Planned → ℕ
times p zs = sum_by (λ (z : Planned). one_if (bytes_eq p z.task.path)) zs

times-cons : (p : Path) (z : Planned) (zs : List Planned) → times p (z ∷ zs) ≡ one_if (bytes_eq p z.task.path) + times p zs
times-cons p z zs = sum_by-cons (λ (z : Planned). one_if (bytes_eq p z.task.path)) z zs

never : (p : Path) (zs : List Planned) → has_path (order zs) p ≡ false → times p zs ≡ 0
never p [] e = refl
never p (z ∷ zs) e =
    let here = ap one_if (none_left (bytes_eq p z.task.path) (has_path (order zs) p) e) in
    let later = never p zs (none_right (bytes_eq p z.task.path) (has_path (order zs) p) e) in
    omega (arith, times-cons p z zs, here, later)

some_times : (p : Path) (zs : List Planned) → has_path (order zs) p ≡ true → 1 ≤ times p zs
some_times p [] h = not_true h
some_times p (z ∷ zs) h =
    elim (bytes_eq p z.task.path) as (λ b. bytes_eq p z.task.path ≡ b → (b || has_path (order zs) p) ≡ true → 1 ≤ times p (z ∷ zs)) [
      | true ↦ λ e _. let here = ap one_if e in omega (arith, times-cons p z zs, here)
      | false ↦ λ _ h. let later = some_times p zs h in omega (arith, times-cons p z zs, later)
    ] refl h

at_most_once : (p : Path) (zs : List Planned) → no_repeats (order zs) ≡ true → times p zs ≤ 1
at_most_once p [] once = omega arith
at_most_once p (z ∷ zs) once =
    elim (bytes_eq p z.task.path) as (λ b. bytes_eq p z.task.path ≡ b → times p (z ∷ zs) ≤ 1) [
      | true ↦ λ e.
          let here = ap one_if e in
          let none = never p zs (ap (has_path (order zs)) ((bytes_decides p z.task.path).0 e) ∙ no_longer (has_path (order zs) z.task.path) (left_of (not (has_path (order zs) z.task.path)) (no_repeats (order zs)) once)) in
          omega (arith, times-cons p z zs, here, none)
      | false ↦ λ e.
          let here = ap one_if e in
          let later = at_most_once p zs (right_of (not (has_path (order zs) z.task.path)) (no_repeats (order zs)) once) in
          omega (arith, times-cons p z zs, here, later)
    ] refl

once_of : (zs : List Planned) → ((p : Path) → times p zs ≤ 1) → no_repeats (order zs) ≡ true
once_of [] h = refl
once_of (z ∷ zs) h = both (not (has_path (order zs) z.task.path)) (no_repeats (order zs))
    (elim (has_path (order zs) z.task.path) as (λ b. has_path (order zs) z.task.path ≡ b → not b ≡ true) [
      | true ↦ λ e.
          let here = ap one_if (itself z.task.path) in
          let later = some_times z.task.path zs e in
          absurd (omega (arith, h z.task.path, times-cons z.task.path z zs, here, later))
      | false ↦ λ _. refl
    ] refl)
    (once_of zs (λ p. let most = h p in omega (arith, most, times-cons p z zs)))

pub still_once : (xs ys : List Planned) → IsPermutation xs ys → no_repeats (order xs) ≡ true → no_repeats (order ys) ≡ true
still_once xs ys permuted once = once_of ys (λ p.
    let same = sum_by-IsPermutation (λ (z : Planned). one_if (bytes_eq p z.task.path)) xs ys permuted in
    let most = at_most_once p xs once in
    omega (arith, same, most))
