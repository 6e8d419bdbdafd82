use Rattle.std.proofs.Common.{◌≡◌, ◌<◌, length, Contains, sym, ap, subst, ◌∙◌, arith}
use Rattle.std.proofs.lemmas.List.{length-map}
use Rattle.gb_exec.specs.Starts.{rows}
use Rattle.gb_exec.proofs.Marks.{rows_row}
use Rattle.gb_exec.proofs.may_start.Starts.lacks_need.Goals as goal

pub some_ended_badly-requires : goal.some_ended_badly-requires
some_ended_badly-requires c =
    let needs = c.self.inside.needs.items in
    let same : length (rows needs) ≡ length needs = length-map _ _ in
    let known : c.args.task < length (rows needs) = subst (λ p. c.args.task < length p.needs) (sym c.self.view_is) c.requires.known in
    let taken = rows_row needs c.args.task c.index.result.now (omega (arith, known, same)) c.index.ensures ∙ sym c.as_slice.ensures.value in
    record {
      known = λ task h.
          let less = c.self.invariant.wired.needs_first c.args.task task (subst (λ xs. Contains xs task) (sym taken) h) in
          omega (arith, less, known, c.self.invariant.each_ending, ap length c.as_slice-2.ensures.value);
    }
