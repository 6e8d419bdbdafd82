use Rattle.std.proofs.Common.{◌≡◌, length, sym, subst, Bool, List, false, replicate, arith}
use Rattle.std.proofs.lemmas.List.{length-map}
use Rattle.gb_exec.specs.declared.may_start.Ending.{Ending}
use Rattle.gb_exec.specs.declared.may_start.Ending.TheVariants.{ToCome}
use Rattle.gb_exec.specs.Starts.{Keeps, rows}
use Rattle.gb_exec.proofs.Kept.{at_first}
use Rattle.gb_exec.proofs.may_start.Starts.new.Goals as goal

pub invariant_of-result : goal.invariant_of-result
invariant_of-result c =
    let needs = rows c.args.needs.items in
    let finalizers = rows c.args.finalizers.items in
    let wanted = c.args.wanted.items in
    let same : length (rows c.args.needs.items) ≡ length c.args.needs.items = length-map _ _ in
    let first = at_first needs finalizers wanted c.len.result c.len-2.result c.len-3.result (omega (arith, same)) (omega (arith, same)) (omega (arith, same)) c.requires in
    subst (λ (endings : List Ending). Keeps (record { needs = needs; finalizers = finalizers; wanted = wanted; endings = endings }) c.in_ok-called.called.items c.in_ok-serving.serving.items false false) (sym (c.in_ok-endings.ensures.items_if_clones_equal (λ y e. e)))
    (subst (λ (called : List Bool). Keeps (record { needs = needs; finalizers = finalizers; wanted = wanted; endings = replicate c.len.result ToCome }) called c.in_ok-serving.serving.items false false) (sym (c.in_ok-called.ensures.items_if_clones_equal (λ y e. e)))
    (subst (λ (serving : List Bool). Keeps (record { needs = needs; finalizers = finalizers; wanted = wanted; endings = replicate c.len.result ToCome }) (replicate c.len-2.result false) serving false false) (sym (c.in_ok-serving.ensures.items_if_clones_equal (λ y e. e)))
    first))
