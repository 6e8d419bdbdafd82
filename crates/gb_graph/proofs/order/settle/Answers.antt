use Rattle.std.proofs.Common.{◌≡◌, length, Contains, arith, subst, sym, ◌∙◌, inr, refl}
use Rattle.std.proofs.lemmas.List.{length-map}
use Rattle.gb_graph.specs.Order.{rows}
use Rattle.gb_graph.proofs.Rows.{rows_row, rows_push}
use Rattle.gb_graph.proofs.order.settle.Goals as goal

pub open_from-requires : goal.open_from-requires
open_from-requires c = record {
  known = λ before h.
      let e = rows_row c.args.after.now c.args.task c.index-after-task.result c.requires.known c.index-after-task.is in
      let lt = c.requires.tasks c.args.task before (subst (λ xs. Contains xs before) (c.deref.ensures.value ∙ sym e) h) in
      let same : length (rows c.args.after.now) ≡ length c.args.after.now = length-map _ _ in
      omega (arith, lt, same, c.requires.marks);
}

pub index_mut-requires : goal.index_mut-requires
index_mut-requires c =
    let e = rows_row c.args.after.now c.args.task c.index-after-task.result c.requires.known c.index-after-task.is in
    let lt = c.requires.tasks c.args.task c.in-Some.missing (subst (λ xs. Contains xs c.in-Some.missing) (c.deref.ensures.value ∙ sym e) c.in-Some.ensures.cases.0) in
    let same : length (rows c.args.after.now) ≡ length c.args.after.now = length-map _ _ in
    omega (arith, lt, same, c.requires.places)

pub returns-in_ok-push-in-Some-clause-settled : goal.returns-in_ok-push-in-Some-clause-settled
returns-in_ok-push-in-Some-clause-settled c =
    let e = rows_row c.args.after.now c.args.task c.index-after-task.result c.requires.known c.index-after-task.is in
    let of = subst (λ xs. Contains xs c.in-Some.missing) (c.deref.ensures.value ∙ sym e) c.in-Some.ensures.cases.0 in
    let lt = c.requires.tasks c.args.task c.in-Some.missing of in
    let same : length (rows c.args.after.now) ≡ length c.args.after.now = length-map _ _ in
    inr (record {
      before = c.in-Some.missing;
      comes_after = of;
      missing = c.in-Some.ensures.cases.1;
      put = rows_push c.args.waiting.now.items c.in-Some.missing c.index_mut.result.now c.push.new.self c.args.task
          (omega (arith, lt, same, c.requires.places)) c.index_mut.ensures.value c.in_ok-push-in-Some.ensures.items;
      same = λ other. refl;
    })
