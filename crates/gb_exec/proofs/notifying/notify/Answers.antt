use Rattle.std.proofs.Common.{◌≡◌, ◌<◌, ◌+◌, ◌∷◌, [], ◌&&◌, map, length, take, drop, sym, ap, subst, ◌∙◌, arith, refl}
use Rattle.std.proofs.Math.ListN.{set}
use Rattle.std.proofs.lemmas.List.{get_or-map, length-map, map-set, take_all}
use Rattle.gb_exec.specs.Notifying.{AllReported, reported_of}
use Rattle.gb_exec.proofs.Reported.{none_yet, step}
use Rattle.gb_exec.proofs.notifying.notify.Goals as goal

pub loop-at-init : goal.loop-at-init
loop-at-init g c = record { len = refl; done = none_yet (reported_of c.args.task.now c.args.ended); rest = refl }

pub loop-at-preserved : goal.loop-at-preserved
loop-at-preserved g c =
    let ear = g.L.TaskListener.ear in
    let at = c.loop-at.at in
    let items = c.loop-at.listeners.items in
    let olds = map ear c.args.listeners.now.items in
    let here = c.index_mut.result.now in
    let new = c.notify_one-all_heard.new.listener in
    let each : length olds ≡ length c.args.listeners.now.items = length-map _ _ in
    let each_new : length (map ear items) ≡ length items = length-map _ _ in
    let reported = reported_of c.args.task.now c.args.ended in
    let less : at < length (map ear items) = omega (arith, c.loop-at-test.true, each_new, c.loop-at.invariant.len) in
    let next = step reported c.loop-at.all_heard c.notify_one-all_heard.result olds (map ear items) at (ear here) (ear new)
    less (omega (arith, each, each_new, c.loop-at.invariant.len))
    (get_or-map ear items at here (ear here) (omega (arith, less, each_new)) ∙ ap ear (sym c.index_mut.ensures.value))
    c.loop-at.invariant.done c.loop-at.invariant.rest c.notify_one-all_heard.ensures.heard c.notify_one-all_heard.ensures.refused in
    let is : map ear (set items at new) ≡ set (map ear items) at (ear new) = map-set ear items at new in
    record {
      len = c.loop-at.invariant.len;
      done = subst (λ es. AllReported (reported ∷ []) (c.loop-at.all_heard && c.notify_one-all_heard.result) (take (at + 1) olds) (take (at + 1) es)) (sym is) next.0;
      rest = ap (drop (at + 1)) is ∙ next.1;
    }

pub returns : goal.returns
returns g c =
    let ear = g.L.TaskListener.ear in
    let olds = map ear c.args.listeners.now.items in
    let news = map ear c.loop-at.listeners.items in
    let reported = reported_of c.args.task.now c.args.ended in
    let each : length olds ≡ length c.args.listeners.now.items = length-map _ _ in
    let each_new : length news ≡ length c.loop-at.listeners.items = length-map _ _ in
    subst (λ es. AllReported (reported ∷ []) c.loop-at.all_heard es news) (take_all c.loop-at.at olds (omega (arith, each, c.loop-at-test.false)))
    (subst (AllReported (reported ∷ []) c.loop-at.all_heard (take c.loop-at.at olds)) (take_all c.loop-at.at news (omega (arith, each_new, c.loop-at.invariant.len, c.loop-at-test.false))) c.loop-at.invariant.done)
