-- Outputs that are declared.
use Rattle.std.proofs.Common.{◌≡◌, ℕ, suc, ◌<◌, ◌≤◌, List, [], ◌∷◌, length, get_or, sym, ap, subst, ◌∙◌, arith, Option, Some, None, length-append, length-set}
use Rattle.std.specs.Prelude.{All}
use Rattle.gb_provider.specs.Answers.{Held}
use Rattle.gb_provider.specs.Changes.{IsDeclared}
use Rattle.gb_provider.specs.Rules.{numbers_of, output_place}
use Rattle.gb_provider.specs.declared.expression.Expression.{Expression}
use Rattle.gb_provider.specs.declared.expression.Node.{Node}
use Rattle.gb_provider.specs.declared.fault.Chosen.{Chosen}
use Rattle.gb_registry.specs.Projects.{Path}
use Rattle.gb_declare.specs.Joined.{Made, Named}
use Rattle.gb_declare.specs.Statements.{IsRun}
use Rattle.gb_project.specs.Stage.{output_of, put_output, with_output, with_outputs}

-- ---- One output

module _ {M F Z S : Type 0} (old new : Held M F Z S) (chosen : Chosen) (source : ℕ) (node : Node) where
  abbrev after : Option ℕ → List (Expression M F Z)
  after place = put_output old.nodes (output_of chosen source) place

  put_run : (place : Option ℕ) → IsDeclared old chosen source place new node → IsRun old new (after place)
  put_run None is =
      let nodes = ap (λ (h : Held M F Z S). h.nodes) is.1 in
      record {
        table = ap (λ (h : Held M F Z S). h.table) is.1;
        made = nodes;
        grown = omega (arith, ap length nodes, length-append old.nodes (output_of {M = M} {F = F} {Z = Z} chosen source ∷ []));
      }
  put_run (Some place) is =
      let nodes = ap (λ (h : Held M F Z S). h.nodes) is.1 in
      record {
        table = ap (λ (h : Held M F Z S). h.table) is.1;
        made = nodes;
        grown = omega (arith, ap length nodes, length-set old.nodes place (output_of {M = M} {F = F} {Z = Z} chosen source));
      }

  output_run : IsDeclared old chosen source (output_place old.nodes chosen) new node → IsRun old new (with_output old.nodes chosen source)
  output_run is = put_run (output_place old.nodes chosen) is

abbrev pub chosen_of : Path → List ℕ → Chosen
chosen_of path name = record { task = path; output = name }

-- the output of a task, under copies of its path and name
pub copied_run : {M F Z S : Type 0} (old new : Held M F Z S) (path path' : Path) (name name' : List ℕ) (source : ℕ) (node : Node) → path' ≡ path → name' ≡ name
    → IsDeclared old (chosen_of path' name') source (output_place old.nodes (chosen_of path' name')) new node → IsRun old new (with_output old.nodes (chosen_of path name) source)
copied_run old new path path' name name' source node same_path same_name is =
    subst (λ n. IsRun old new (with_output old.nodes (chosen_of path n) source)) same_name
    (subst (λ p. IsRun old new (with_output old.nodes (chosen_of p name') source)) same_path (output_run old new (chosen_of path' name') source node is))

-- ---- One output after another

-- one output more
pub outputs_on : {M F Z : Type 0} (path : Path) (nodes new : List (Expression M F Z)) (outputs others : List (Named Made)) (output : Named Made) (row rest : List Node) (node : Node) → outputs ≡ output ∷ others → row ≡ node ∷ rest
    → new ≡ with_output nodes (chosen_of path output.0) node.number → with_outputs path nodes outputs (numbers_of row) ≡ with_outputs path new others (numbers_of rest)
outputs_on path nodes new outputs others output row rest node next cut is_new =
    ap (λ o. with_outputs path nodes o (numbers_of row)) next ∙ ap (λ r. with_outputs path nodes (output ∷ others) (numbers_of r)) cut
    ∙ sym (ap (λ n. with_outputs path n others (numbers_of rest)) is_new)

-- the nodes that are left are within where there are more
pub within_on : (n m : ℕ) (row rest : List Node) (node : Node) → row ≡ node ∷ rest → n ≤ m → All (λ (node : Node). node.number < n) row → All (λ (node : Node). node.number < m) rest
within_on n m row rest node cut le all =
    let both : All (λ (node : Node). node.number < n) (node ∷ rest) = subst (All (λ (node : Node). node.number < n)) cut all in
    λ k d less. let here : (get_or rest k d).number < n = both (suc k) d (omega (arith, less)) in omega (arith, le, here)
