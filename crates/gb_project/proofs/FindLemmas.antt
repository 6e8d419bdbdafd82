-- Look-ups of paths.
use Rattle.std.proofs.Common.{◌≡◌, true, false, cond, ◌||◌, List, [], ◌∷◌, map, refl, sym, ap, ◌∙◌, bytes_eq}
use Rattle.std.specs.Prelude.{Some}
use Rattle.std.specs.Cmp.Lexicographic.{bytes_decides}
use Rattle.std.specs.FinMap.Entries.{find}
use Rattle.std.specs.Ordering.{is_eq}
use Rattle.std.specs.declared.cmp.Ordering.TheVariants.{Less, Equal, Greater}
use Rattle.gb_core.specs.Lists.{byte_order}
use Rattle.gb_core.proofs.Found.{find-other, find-same, tied_same}
use Rattle.gb_plan.specs.Task.{Path, has_path}
use Rattle.gb_plan.proofs.Tests.{not_true}
use Rattle.std.proofs.Common.{true≢false}

module _ {X : Type 0} (made : Path → X) where
  -- what is made from paths, each with its path
  abbrev pub all_made : List Path → List (Path × X)
  all_made paths = map (λ path. (path, made path)) paths

  pub paths_made : (paths : List Path) → map (λ (entry : Path × X). entry.0) (all_made paths) ≡ paths
  paths_made [] = refl
  paths_made (path ∷ paths) = ap (λ l. path ∷ l) (paths_made paths)

  -- at one of the paths is what is made from it
  pub find_made : (paths : List Path) (path : Path) → has_path paths path ≡ true → find byte_order path (all_made paths) ≡ Some (made path)
  find_made [] path there = not_true there
  find_made (x ∷ paths) path there =
      elim (bytes_eq path x) as (λ b. bytes_eq path x ≡ b → (b || has_path paths path) ≡ true → find byte_order path ((x, made x) ∷ all_made paths) ≡ Some (made path)) [
        | true ↦ λ is _.
            let same : x ≡ path = sym ((bytes_decides path x).0 is) in
            find-same path (x, made x) (all_made paths) same ∙ ap (λ p. Some (made p)) same
        | false ↦ λ is there.
            find-other path (x, made x) (all_made paths) (λ same. true≢false (sym ((bytes_decides path x).1 (sym same)) ∙ is))
            ∙ find_made paths path there
      ] refl there

  -- what is found at a path is what is made from it
  pub found_made : (paths : List Path) (path : Path) (x : X) → find byte_order path (all_made paths) ≡ Some x → made path ≡ x
  found_made [] path x is = absurd (cc)
  found_made (p ∷ paths) path x is =
      elim (byte_order path p) as (λ o. byte_order path p ≡ o → cond (is_eq o) (Some (made p)) (find byte_order path (all_made paths)) ≡ Some x → made path ≡ x) [
        | Less ↦ λ _ is. found_made paths path x is
        | Equal ↦ λ tied is. ap made (tied_same path p tied) ∙ some_same (made p) x is
        | Greater ↦ λ _ is. found_made paths path x is
      ] refl is
    where
      some_same : (a b : X) → Some a ≡ Some b → a ≡ b
      some_same a b e = cc
