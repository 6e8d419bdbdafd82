use Rattle.std.proofs.Common.{◌≡◌, [], subst, sym}
use Rattle.std.proofs.lemmas.Map.Iter.{rest_all}
use Rattle.std.specs.List.{AllByRecursion}
use Rattle.std.specs.Map.Iter.{deref_pair}
use Rattle.gb_history.specs.Record.{AreHeld, IsHeld}
use Rattle.gb_history.proofs.Rising.{strictly-is_sorted}
use Rattle.gb_history.proofs.Tokens.{on_ok}
use Rattle.gb_history.proofs.to_json.write_records.Goals as goal

pub returns-clause-held : goal.returns-clause-held
returns-clause-held c =
    let none : c.loop-path.path-iterator ≡ [] = rest_all deref_pair _ _ _ c.in-None.is c.next.ensures.steps in
    let held : AreHeld c.args.records.now.entries = record {
      each = c.loop-path.invariant.held (subst (AllByRecursion IsHeld) (sym none) tt);
      in_order = strictly-is_sorted c.args.records.now.entries c.iter-path-items.ensures.ordered;
    } in
    on_ok c.end_array.result held
