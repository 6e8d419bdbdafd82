use Rattle.std.proofs.Common.{◌≡◌, length, Contains, sym, subst, ◌∙◌, inl, inr, arith}
use Rattle.std.proofs.lemmas.Bool.{cases_eq}
use Rattle.std.proofs.lemmas.List.{length-map}
use Rattle.gb_exec.specs.Starts.{row, rows}
use Rattle.gb_exec.proofs.Marks.{rows_row, row_known}
use Rattle.gb_exec.proofs.numbered_tasks.mark_rows.Goals as goal

pub mark_all-requires : goal.mark_all-requires
mark_all-requires c =
    let taken = rows_row c.args.table.now c.loop-row.row-index c.row-item.result c.loop-row-test.true c.row-item.is ∙ sym c.as_slice.ensures.value in
    record {
      known = λ task h.
          let less = c.requires.known c.loop-row.row-index task (subst (λ xs. Contains xs task) (sym taken) h) in
          omega (arith, less, c.loop-row.invariant.len);
    }

pub loop-row-preserved : goal.loop-row-preserved
loop-row-preserved c =
    let at = c.loop-row.row-index in
    let taken = rows_row c.args.table.now at c.row-item.result c.loop-row-test.true c.row-item.is ∙ sym c.as_slice.ensures.value in
    record {
      len = c.mark_all.ensures.len ∙ c.loop-row.invariant.len;
      kept = λ task h. c.mark_all.ensures.kept task (c.loop-row.invariant.kept task h);
      all = λ later task less h. elim (cases_eq later at) [
        | inl e ↦ c.mark_all.ensures.all task (subst (λ xs. Contains xs task) taken (subst (λ k. Contains (row (rows c.args.table.now) k) task) e h))
        | inr n ↦ c.mark_all.ensures.kept task (c.loop-row.invariant.all later task (omega (arith, less, n)) h)
      ];
      only = λ task h. elim (c.mark_all.ensures.only task h) [
        | inl was ↦ c.loop-row.invariant.only task was
        | inr new ↦ inr (at, subst (λ xs. Contains xs task) (sym taken) new)
      ];
    }

pub returns-clause-marked : goal.returns-clause-marked
returns-clause-marked c = λ task. (
  c.loop-row.invariant.only task,
  λ either. elim either [
    | inl was ↦ c.loop-row.invariant.kept task was
    | inr later ↦
        let known = row_known (rows c.args.table.now) later.0 task later.1 in
        let same : length (rows c.args.table.now) ≡ length c.args.table.now = length-map _ _ in
        c.loop-row.invariant.all later.0 task (omega (arith, known, same, c.loop-row-test.false)) later.1
  ],
)
