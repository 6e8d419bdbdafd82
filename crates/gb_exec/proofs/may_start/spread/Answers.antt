use Rattle.std.proofs.Common.{◌≡◌, ◌<◌, ◌-◌, ◌⊎◌, ℕ, true, false, length, Contains, vec_len, ap, sym, subst, ◌∙◌, inl, inr, arith, refl}
use Rattle.std.proofs.lemmas.Bool.{cases_eq, false≢true}
use Rattle.std.proofs.lemmas.List.{length-map, get_or_default}
use Rattle.gb_exec.specs.Starts.{marked, further, mark_at, row, rows}
use Rattle.gb_exec.proofs.Marks.{rows_row, row_known, reached}
use Rattle.gb_exec.proofs.may_start.spread.Goals as goal
use Rattle.gb_exec.proofs.may_start.spread.Goals.{then-index, else-index}

pub loop-done-init : goal.loop-done-init
loop-done-init c = record {
  len = refl;
  sound = λ task h. marked h;
  kept = λ task h. h;
  closed = λ later task less past h s. absurd (omega (arith, less, past));
}

pub mark_all-requires : goal.mark_all-requires
mark_all-requires c =
    let needs = c.args.needs.now in
    let at = length needs - 1 - c.loop-done.done in
    let known : at < length needs = omega (arith, c.loop-done-test.true) in
    let taken = rows_row needs at c.index-needs-later.result known c.index-needs-later.is ∙ sym c.deref.ensures.value in
    record {
      known = λ task h.
          let less = c.requires.lesser at task (subst (λ xs. Contains xs task) (sym taken) h) in
          omega (arith, less, known, c.requires.marks, c.loop-done.invariant.len);
    }

pub loop-done-preserved : goal.loop-done-preserved
loop-done-preserved c = elim c.if-index.branch [
  | then-index w ↦
      let needs = c.args.needs.now in
      let at = length needs - 1 - c.loop-done.done in
      let known : at < length needs = omega (arith, c.loop-done-test.true) in
      let taken = rows_row needs at w.index-needs-later.result known w.index-needs-later.is ∙ sym w.deref.ensures.value in
      let old = c.loop-done.marks.items in
      let in_marks : at < length old = omega (arith, known, c.requires.marks, c.loop-done.invariant.len) in
      let is : mark_at old at ≡ true = get_or_default old at false c.index.result.now in_marks ∙ sym c.index.ensures ∙ w.if-index.true in
      let new = c.if-index.marks in
      let all : (task : ℕ) → Contains w.deref.result.now task → mark_at new.items task ≡ true =
      subst (λ m. (task : ℕ) → Contains w.deref.result.now task → mark_at m.items task ≡ true) (sym w.marks-is) w.mark_all.ensures.all in
      let kept : (task : ℕ) → mark_at old task ≡ true → mark_at new.items task ≡ true =
      subst (λ m. (task : ℕ) → mark_at old task ≡ true → mark_at m.items task ≡ true) (sym w.marks-is) w.mark_all.ensures.kept in
      let only : (task : ℕ) → mark_at new.items task ≡ true → (mark_at old task ≡ true) ⊎ Contains w.deref.result.now task =
      subst (λ m. (task : ℕ) → mark_at m.items task ≡ true → (mark_at old task ≡ true) ⊎ Contains w.deref.result.now task) (sym w.marks-is) w.mark_all.ensures.only in
      record {
        len = ap (λ m. vec_len m) w.marks-is ∙ w.mark_all.ensures.len ∙ c.loop-done.invariant.len;
        sound = λ task h. elim (only task h) [
          | inl before ↦ c.loop-done.invariant.sound task before
          | inr here ↦ further (c.loop-done.invariant.sound at is) (subst (λ xs. Contains xs task) (sym taken) here)
        ];
        kept = λ task h. kept task (c.loop-done.invariant.kept task h);
        closed = λ later task less past h s. elim (cases_eq later at) [
          | inl e ↦ all task (subst (λ xs. Contains xs task) taken (subst (λ k. Contains (row (rows needs) k) task) e s))
          | inr n ↦ elim (only later h) [
            | inl before ↦ kept task (c.loop-done.invariant.closed later task less (omega (arith, less, past, n)) before s)
            | inr here ↦
                let lesser = c.requires.lesser at later (subst (λ xs. Contains xs later) (sym taken) here) in
                absurd (omega (arith, lesser, past, less, c.loop-done-test.true))
          ]
        ];
      }
  | else-index w ↦
      let at = length c.args.needs.now - 1 - c.loop-done.done in
      let old = c.loop-done.marks.items in
      let in_marks : at < length old = omega (arith, c.loop-done-test.true, c.requires.marks, c.loop-done.invariant.len) in
      let is_not : mark_at old at ≡ false = get_or_default old at false c.index.result.now in_marks ∙ sym c.index.ensures ∙ w.if-index.false in
      let same : c.if-index.marks ≡ c.loop-done.marks = w.marks-is in
      record {
        len = ap (λ m. vec_len m) same ∙ c.loop-done.invariant.len;
        sound = λ task h. c.loop-done.invariant.sound task (subst (λ m. mark_at m.items task ≡ true) same h);
        kept = λ task h. subst (λ m. mark_at m.items task ≡ true) (sym same) (c.loop-done.invariant.kept task h);
        closed = λ later task less past h s.
            let was = subst (λ m. mark_at m.items later ≡ true) same h in
            subst (λ m. mark_at m.items task ≡ true) (sym same) (elim (cases_eq later at) [
              | inl e ↦ absurd (false≢true (sym is_not ∙ subst (λ k. mark_at old k ≡ true) e was))
              | inr n ↦ c.loop-done.invariant.closed later task less (omega (arith, less, past, n)) was s
            ]);
      }
]

pub returns-clause-marked : goal.returns-clause-marked
returns-clause-marked c = λ task. (
  c.loop-done.invariant.sound task,
  reached (rows c.args.needs.now) c.args.marks.now.items c.loop-done.marks.items c.loop-done.invariant.kept
      (λ later before h s.
      let known = row_known (rows c.args.needs.now) later before s in
      let same : length (rows c.args.needs.now) ≡ length c.args.needs.now = length-map _ _ in
      c.loop-done.invariant.closed later before (omega (arith, known, same)) (omega (arith, c.loop-done-test.false)) h s)
      task,
)
