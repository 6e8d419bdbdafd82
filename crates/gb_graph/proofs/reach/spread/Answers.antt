use Rattle.std.proofs.Common.{◌≡◌, ◌<◌, ◌++◌, ◌∷◌, [], Contains, length, sym, ap, subst, ◌∙◌, arith}
use Rattle.std.proofs.lemmas.List.{length-map, length-append}
use Rattle.std.proofs.lemmas.List.Elements.{Contains-push}
use Rattle.gb_graph.specs.Order.{rows, row}
use Rattle.gb_graph.specs.Reach.{IsMarked}
use Rattle.gb_graph.proofs.Reached.{spreads_begin, spreads_on, spreads_end, reached_known, nil_of}
use Rattle.gb_graph.proofs.Rows.{rows_row}
use Rattle.gb_graph.proofs.reach.spread.Goals as goal

pub mark_all-requires : goal.mark_all-requires
mark_all-requires c = record {
  known = λ task h. let lt = c.requires.known task h in omega (arith, lt, c.requires.marks);
  each = omega (arith, c.requires.each, c.requires.marks);
}

pub loop-task-init : goal.loop-task-init
loop-task-init c =
    let exists = c.args.exists.now in
    let words = c.args.words.now in
    record {
      marks = omega (arith, c.mark_all.auto.exists, c.requires.marks);
      each = omega (arith, c.mark_all.auto.words, c.requires.each);
      spreads = spreads_begin (rows c.args.table.now) c.args.starts.now c.args.word exists words c.mark_all.new.exists c.mark_all.new.words c.mark_all.new.fresh.items c.requires.closed
          (subst (λ f. IsMarked exists c.mark_all.new.exists words c.mark_all.new.words f c.mark_all.new.fresh.items c.args.starts.now c.args.word) c.new-fresh.ensures.items c.in_ok-mark_all.ensures);
    }

pub bounds-table-task : goal.bounds-table-task
bounds-table-task c =
    let same : length (rows c.args.table.now) ≡ length c.args.table.now = length-map c.args.table.now (λ v. v.items) in
    let from = c.loop-task.invariant.spreads.reached c.in-Some.task (subst (λ fs. Contains fs c.in-Some.task) (sym c.in-Some.ensures.items) (Contains-push c.pop.new.self.items c.in-Some.task)) in
    reached_known (rows c.args.table.now) c.args.starts.now (length c.args.table.now) (λ k j h. let m = c.requires.tasks k j h in omega (arith, m, same)) c.requires.known c.in-Some.task from

pub offset_bounds-table-task : goal.offset_bounds-table-task
offset_bounds-table-task c =
    let same : length (rows c.args.table.now) ≡ length c.args.table.now = length-map c.args.table.now (λ v. v.items) in
    let from = c.loop-task.invariant.spreads.reached c.in-Some.task (subst (λ fs. Contains fs c.in-Some.task) (sym c.in-Some.ensures.items) (Contains-push c.pop.new.self.items c.in-Some.task)) in
    let lt = reached_known (rows c.args.table.now) c.args.starts.now (length c.args.table.now) (λ k j h. let m = c.requires.tasks k j h in omega (arith, m, same)) c.requires.known c.in-Some.task from in
    omega (arith, lt)

pub mark_all-requires-in-Some : goal.mark_all-requires-in-Some
mark_all-requires-in-Some c =
    let same : length (rows c.args.table.now) ≡ length c.args.table.now = length-map c.args.table.now (λ v. v.items) in
    let t = c.in-Some.task in
    let from = c.loop-task.invariant.spreads.reached t (subst (λ fs. Contains fs t) (sym c.in-Some.ensures.items) (Contains-push c.pop.new.self.items t)) in
    let lt : t < length c.args.table.now = let l = reached_known (rows c.args.table.now) c.args.starts.now (length c.args.table.now) (λ k j h. let m = c.requires.tasks k j h in omega (arith, m, same)) c.requires.known t from in omega (arith, l) in
    let is : c.deref.result.now ≡ row (rows c.args.table.now) t = c.deref.ensures.value ∙ sym (rows_row c.args.table.now t c.index-table-task.result lt c.index-table-task.is) in
    record {
      known = λ task h. let m = c.requires.tasks t task (subst (λ ts. Contains ts task) is h) in omega (arith, m, same, c.loop-task.invariant.marks);
      each = omega (arith, c.loop-task.invariant.each, c.loop-task.invariant.marks);
    }

pub loop-task-preserved : goal.loop-task-preserved
loop-task-preserved c =
    let table = rows c.args.table.now in
    let old = c.loop-task.invariant in
    let t = c.in-Some.task in
    let popped : c.loop-task.fresh.items ≡ c.pop.new.self.items ++ t ∷ [] = c.in-Some.ensures.items in
    let from = old.spreads.reached t (subst (λ fs. Contains fs t) (sym popped) (Contains-push c.pop.new.self.items t)) in
    let same : length table ≡ length c.args.table.now = length-map c.args.table.now (λ v. v.items) in
    let lt : t < length c.args.table.now = let l = reached_known table c.args.starts.now (length c.args.table.now) (λ k j h. let m = c.requires.tasks k j h in omega (arith, m, same)) c.requires.known t from in omega (arith, l) in
    let is : c.deref.result.now ≡ row table t = c.deref.ensures.value ∙ sym (rows_row c.args.table.now t c.index-table-task.result lt c.index-table-task.is) in
    record {
      marks = omega (arith, c.mark_all-in-Some.auto.exists, old.marks);
      each = omega (arith, c.mark_all-in-Some.auto.words, old.each);
      spreads = spreads_on table c.args.starts.now c.args.word c.args.exists.now c.args.words.now c.loop-task.exists c.mark_all-in-Some.new.exists c.loop-task.words c.mark_all-in-Some.new.words
          c.pop.new.self.items c.mark_all-in-Some.new.fresh.items c.loop-task.fresh.items c.deref.result.now t popped is old.spreads c.in_ok-mark_all-2.ensures;
    }

pub loop-task-smaller : goal.loop-task-smaller
loop-task-smaller c =
    let count = c.in_ok-mark_all-2.ensures.count in
    let long = ap length c.in-Some.ensures.items in
    omega (arith, count, long, length-append c.pop.new.self.items (c.in-Some.task ∷ []))

pub returns : goal.returns
returns c =
    spreads_end (rows c.args.table.now) c.args.starts.now c.args.word c.args.exists.now c.args.words.now c.loop-task.exists c.loop-task.words c.loop-task.fresh.items (nil_of c.loop-task.fresh.items (let e = c.in_default.ensures.cases.0 in omega (arith, e))) c.loop-task.invariant.spreads
