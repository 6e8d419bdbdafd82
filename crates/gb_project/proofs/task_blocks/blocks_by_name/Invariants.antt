use Rattle.std.proofs.Common.{◌≡◌, ℕ, List, ◌++◌, drop}
use Rattle.std.specs.List.{flat_map}
use Rattle.gb_registry.specs.Said.{added_clauses}
use Rattle.gb_project.specs.Blocks.{clauses_under}
use Rattle.gb_project.proofs.task_blocks.blocks_by_name.Given as goal

abbrev pub invariant-loop-statement : goal.invariant-loop-statement
invariant-loop-statement l =
    (name : List ℕ)
    → clauses_under l.blocks name ++ flat_map (added_clauses name) (drop l.statement-index l.statements)
    ≡ flat_map (added_clauses name) l.statements
