use Rattle.std.proofs.Common.{◌≡◌, ◌<◌, length, vec_len, Contains, sym, subst, ◌∙◌, inl, inr, arith, ◌&&◌, ◌||◌}
use Rattle.std.proofs.lemmas.Bool.{eqb-true}
use Rattle.std.proofs.lemmas.List.{length-map}
use Rattle.std.proofs.Math.ListN.{set}
use Rattle.gb_exec.specs.declared.may_start.Ending.TheVariants.{ToCome}
use Rattle.gb_exec.specs.Starts.{Progress, Keeps, ending_in, rows}
use Rattle.gb_exec.proofs.Marks.{rows_row}
use Rattle.gb_exec.proofs.Kept.{passed, started}
use Rattle.gb_exec.proofs.may_start.Starts.end.Goals as goal

pub mark_all-requires : goal.mark_all-requires
mark_all-requires c =
    let rowed = c.self.inside.finalizers.items in
    let same : length (rows rowed) ≡ length rowed = length-map _ _ in
    let known : c.args.task < length (rows c.self.inside.needs.items) = subst (λ p. c.args.task < length p.needs) (sym c.self.view_is) c.requires.known in
    let taken = rows_row rowed c.args.task c.index-then-has_started.result.now (omega (arith, known, same, c.self.invariant.wired.each_finalized)) c.index-then-has_started.ensures
    ∙ sym c.as_slice.ensures.value in
    record {
      known = λ task h.
          let less = c.self.invariant.wired.finalizers_known c.args.task task (subst (λ xs. Contains xs task) (sym taken) h) in
          omega (arith, less, c.self.invariant.each_called);
    }

pub invariant_of-self : goal.invariant_of-self
invariant_of-self c =
    let inside : Progress = record {
      needs = rows c.self.inside.needs.items;
      finalizers = rows c.self.inside.finalizers.items;
      wanted = c.self.inside.wanted.items;
      endings = c.self.inside.endings.items;
    } in
    let rowed = c.self.inside.finalizers.items in
    let same : length (rows rowed) ≡ length rowed = length-map _ _ in
    let known : c.args.task < length (rows c.self.inside.needs.items) = subst (λ p. c.args.task < length p.needs) (sym c.self.view_is) c.requires.known in
    let to_come = subst (λ p. ending_in p.endings c.args.task ≡ ToCome) (sym c.self.view_is) c.requires.to_come in
    let in_rows : c.args.task < length rowed = omega (arith, known, same, c.self.invariant.wired.each_finalized) in
    let first = rows_row rowed c.args.task c.index.result.now in_rows c.index.ensures in
    let taken = rows_row rowed c.args.task c.index-then-has_started.result.now in_rows c.index-then-has_started.ensures ∙ sym c.as_slice.ensures.value in
    subst (λ b. Keeps (record inside { endings = set c.self.inside.endings.items c.args.task c.of-ending.result }) c.mark_all.new.marks.items c.self.inside.serving.items (c.self.inside.is_spread && c.is_empty.result) (c.self.inside.some_failed || b)) (sym c.has_failed.ensures)
    (started inside c.self.inside.called.items c.self.inside.serving.items c.self.inside.is_spread c.self.inside.some_failed c.self.invariant
    c.args.task c.of-ending.result known to_come (sym c.has_started.ensures ∙ c.if-has_started.true)
    c.mark_all.new.marks.items (omega (arith, c.mark_all.ensures.len)) c.mark_all.ensures.kept
    (λ number h. c.mark_all.ensures.all number (subst (λ xs. Contains xs number) taken h))
    (λ number h. elim (c.mark_all.ensures.only number h) [ inl was ↦ inl was | inr new ↦ inr (subst (λ xs. Contains xs number) (sym taken) new) ])
    c.is_empty.result
    (λ none number h. absurd (let empty = eqb-true (vec_len c.index.result.now) 0 (sym c.is_empty.ensures ∙ none) in let row_h = subst (λ xs. Contains xs number) first h in omega (arith, empty, row_h.1))))

pub invariant_of-self-else-has_started : goal.invariant_of-self-else-has_started
invariant_of-self-else-has_started c =
    let inside : Progress = record {
      needs = rows c.self.inside.needs.items;
      finalizers = rows c.self.inside.finalizers.items;
      wanted = c.self.inside.wanted.items;
      endings = c.self.inside.endings.items;
    } in
    let known : c.args.task < length (rows c.self.inside.needs.items) = subst (λ p. c.args.task < length p.needs) (sym c.self.view_is) c.requires.known in
    let to_come = subst (λ p. ending_in p.endings c.args.task ≡ ToCome) (sym c.self.view_is) c.requires.to_come in
    subst (λ b. Keeps (record inside { endings = set c.self.inside.endings.items c.args.task c.of-ending.result }) c.self.inside.called.items c.self.inside.serving.items c.self.inside.is_spread (c.self.inside.some_failed || b)) (sym c.has_failed.ensures)
    (passed inside c.self.inside.called.items c.self.inside.serving.items c.self.inside.is_spread c.self.inside.some_failed c.self.invariant
    c.args.task c.of-ending.result known to_come (sym c.has_started.ensures ∙ c.if-has_started.false))
