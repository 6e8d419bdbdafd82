use Rattle.gb_graph.specs.declared.conflicting.Search.TheVariants.{Overlaps, OwnInputs, Undeclared}
use Rattle.gb_graph.specs.Conflicts.{IsConflict}
use Rattle.gb_graph.proofs.Judged.{is_sound}
use Rattle.gb_graph.proofs.Lesser.{no_conflict, none_meets}
use Rattle.gb_graph.proofs.refusal.refusal_of.Goals as goal

pub returns : goal.returns
returns c =
    let tasks = c.args.tasks.now in
    is_sound tasks c.requires.once c.in_ok-tables.tables c.in_ok-tables.ensures
    (no_conflict (IsConflict tasks Overlaps) c.in_ok-found.field-0 c.in_default.not-Some c.in_ok-found.ensures)
    (no_conflict (IsConflict tasks OwnInputs) c.in_ok-found-2.field-0 c.in_default-2.not-Some c.in_ok-found-2.ensures)
    (none_meets (IsConflict tasks Undeclared) c.in_ok-found-3.field-0 c.in-None.is c.in_ok-found-3.ensures)
