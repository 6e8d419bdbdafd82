-- How large the parts of expressions are.
use Rattle.std.proofs.Common.{◌≡◌, ℕ, zero, suc, ◌<◌, ◌≤◌, List, [], ◌∷◌, length, map, get_or, ap, arith}
use Rattle.gb_script.specs.Tree.{Tree, links_of, links_size, link_size, tree_size, trees_of, trees_size}
use Rattle.gb_script.specs.declared.script_expression.Step.{Step}
use Rattle.gb_script.specs.View.{link_of}

pub element_size : (trees : List Tree) (i : ℕ) (tree : Tree) → i < length trees → tree ≡ get_or trees i tree → tree_size tree ≤ trees_size (trees_of trees)
element_size [] i tree within is = absurd (omega (arith, within))
element_size (t ∷ ts) zero tree within is = omega (arith, ap tree_size is)
element_size (t ∷ ts) (suc i) tree within is = omega (arith, element_size ts i tree (omega (arith, within)) is)

pub step_size : (steps : List Step) (i : ℕ) (step : Step) → i < length steps → step ≡ get_or steps i step → link_size (link_of step) ≤ links_size (links_of (map link_of steps))
step_size [] i step within is = absurd (omega (arith, within))
step_size (s ∷ ss) zero step within is = omega (arith, ap (λ s. link_size (link_of s)) is)
step_size (s ∷ ss) (suc i) step within is = omega (arith, step_size ss i step (omega (arith, within)) is)
