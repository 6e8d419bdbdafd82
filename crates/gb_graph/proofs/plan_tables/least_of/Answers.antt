use Rattle.std.proofs.Common.{List, Vec, ℕ, Option, Contains, sym, subst}
use Rattle.std.specs.Global.{Global}
use Rattle.std.proofs.lemmas.Result.{IfOk-weaker}
use Rattle.gb_graph.specs.Order.{rows}
use Rattle.gb_graph.specs.declared.least.Found.{Found}
use Rattle.gb_graph.specs.declared.places.TaskPlace.{TaskPlace}
use Rattle.gb_graph.specs.Places.{IsRising}
use Rattle.gb_graph.specs.Conflicts.{IsLeast, IsConflictThere, IsConflict, places_for}
use Rattle.gb_graph.proofs.Judged.{low_outputs, low_places, least_meets}
use Rattle.gb_graph.proofs.plan_tables.least_of.Goals as goal

pub least_conflict-requires : goal.least_conflict-requires
least_conflict-requires c =
    let tasks = c.args.tasks.now in
    let tables = c.args.tables.now in
    record {
      rising = subst IsRising (sym c.as_slice-outputs.ensures.value) c.requires.tables.rising;
      outputs = λ at h. low_outputs tasks c.requires.once tables c.requires.tables at (subst (λ row. Contains row at) c.as_slice-outputs.ensures.value h);
      places = λ at h. low_places tasks c.requires.once tables c.requires.tables c.args.search at (subst (λ row. Contains row at) c.places_for.ensures h);
    }

pub returns : goal.returns
returns c =
    let tasks = c.args.tasks.now in
    let tables = c.args.tables.now in
    let search = c.args.search in
    let Least : List (Vec ℕ Global) → List TaskPlace → List TaskPlace → Option Found → Type 0 = λ chains outputs places o. IsLeast (IsConflictThere search (rows chains) tasks outputs places) o in
    IfOk-weaker c.least_conflict.result (Least c.as_slice-chains.result.now c.as_slice-outputs.result.now c.places_for.result.now) (IsLeast (IsConflict tasks search))
    (λ o h. least_meets tasks c.requires.once tables c.requires.tables search o
    (subst (λ chains. Least chains tables.outputs.items (places_for tables search) o) c.as_slice-chains.ensures.value
    (subst (λ outputs. Least c.as_slice-chains.result.now outputs (places_for tables search) o) c.as_slice-outputs.ensures.value
    (subst (λ places. Least c.as_slice-chains.result.now c.as_slice-outputs.result.now places o) c.places_for.ensures h))))
    c.least_conflict.ensures
