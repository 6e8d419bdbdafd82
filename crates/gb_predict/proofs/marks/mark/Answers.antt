use Rattle.std.proofs.Common.{◌≡◌, List, Some, None, cond, ap, sym, subst, ◌∙◌, arith, true}
use Rattle.std.specs.Prelude.{find, option_map}
use Rattle.std.specs.List.{zip}
use Rattle.gb_plan.specs.declared.plan.Planned.{Planned}
use Rattle.gb_plan.specs.declared.task.FileProperty.{FileProperty}
use Rattle.gb_predict.specs.Least.{IsLeast, IsReadBy}
use Rattle.gb_predict.specs.Marks.{changes_for, reads_files}
use Rattle.gb_predict.specs.declared.predicted_outcome.Prediction.{Prediction}
use Rattle.gb_predict.proofs.Least.{first_low, first_path, none_first}
use Rattle.gb_predict.proofs.marks.mark.Goals as goal

pub bounds-plan-number : goal.bounds-plan-number
bounds-plan-number c =
    let row = c.args.row.now in
    let reported = c.args.reported.now in
    let task = c.args.task.now in
    first_low c.args.plan.now row reported task c.requires.of_plan c.in-Some.number
    (subst (IsLeast (IsReadBy row reported task.files)) c.in-Some.is
    (subst (λ (files : List FileProperty). IsLeast (IsReadBy row reported files) c.in_ok-number.field-0) c.as_slice.ensures c.in_ok-number.ensures))

pub offset_bounds-plan-number : goal.offset_bounds-plan-number
offset_bounds-plan-number c =
    let lt = bounds-plan-number c in
    omega (arith, lt)

pub returns-in_ok-copy-in-Some : goal.returns-in_ok-copy-in-Some
returns-in_ok-copy-in-Some c =
    let row = c.args.row.now in
    let reported = c.args.reported.now in
    let task = c.args.task.now in
    let plan = c.args.plan.now in
    let first = option_map (λ (pair : Planned × Prediction). pair.0.task.path) (find (changes_for task) (zip plan reported)) in
    let reads : reads_files c.args.coming.now ≡ true = sym c.reads_files.ensures ∙ c.if-not-reads_files.false in
    ap Some c.in_ok-copy-in-Some.ensures ∙ ap (λ (p : Planned). Some p.task.path) (sym c.index-plan-number.is)
    ∙ sym (first_path plan row reported task c.requires.of_plan c.in-Some.number c.index-plan-number.result c.index-plan-number.is
    (subst (IsLeast (IsReadBy row reported task.files)) c.in-Some.is
    (subst (λ (files : List FileProperty). IsLeast (IsReadBy row reported files) c.in_ok-number.field-0) c.as_slice.ensures c.in_ok-number.ensures)))
    ∙ ap (λ b. cond b first None) (sym reads)

pub returns-in-None : goal.returns-in-None
returns-in-None c =
    let row = c.args.row.now in
    let reported = c.args.reported.now in
    let task = c.args.task.now in
    let plan = c.args.plan.now in
    let first = option_map (λ (pair : Planned × Prediction). pair.0.task.path) (find (changes_for task) (zip plan reported)) in
    let reads : reads_files c.args.coming.now ≡ true = sym c.reads_files.ensures ∙ c.if-not-reads_files.false in
    sym (none_first plan row reported task c.requires.of_plan
    (subst (IsLeast (IsReadBy row reported task.files)) c.in-None.is
    (subst (λ (files : List FileProperty). IsLeast (IsReadBy row reported files) c.in_ok-number.field-0) c.as_slice.ensures c.in_ok-number.ensures)))
    ∙ ap (λ b. cond b first None) (sym reads)
