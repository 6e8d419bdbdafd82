use Rattle.std.proofs.Common.{◌≡◌, ◌<◌, ◌+◌, true, length, get_or, take, sym, ap, subst, ◌∙◌, arith, refl}
use Rattle.std.proofs.Math.ListN.{set, length-set}
use Rattle.std.proofs.Math.Seq.{take-length}
use Rattle.std.proofs.lemmas.List.Elements.{Contains-get_or}
use Rattle.gb_graph.specs.Reach.{IsMarked}
use Rattle.gb_graph.proofs.Reached.{marked_none, marked_old, marked_new, marked_as}
use Rattle.gb_graph.proofs.reach.mark_all.Goals as goal
use Rattle.gb_graph.proofs.reach.mark_all.Goals.{then-not-exists-task+in_ok-push, else-not-exists-task}

pub loop-task-init : goal.loop-task-init
loop-task-init c = record { each = c.requires.each; marked = marked_none c.args.exists.now c.args.words.now c.args.fresh.now.items c.args.word }

pub bounds-exists-task : goal.bounds-exists-task
bounds-exists-task c =
    let lt = c.requires.known _ (Contains-get_or c.args.tasks.now c.loop-task.task-index 0 c.loop-task-test.true) in
    omega (arith, lt, c.loop-task.auto.exists)

pub bounds-exists-task-then-not-exists-task : goal.bounds-exists-task-then-not-exists-task
bounds-exists-task-then-not-exists-task c =
    let lt = c.requires.known _ (Contains-get_or c.args.tasks.now c.loop-task.task-index 0 c.loop-task-test.true) in
    omega (arith, lt, c.loop-task.auto.exists)

pub offset_bounds-words-task : goal.offset_bounds-words-task
offset_bounds-words-task c =
    let lt = c.requires.known _ (Contains-get_or c.args.tasks.now c.loop-task.task-index 0 c.loop-task-test.true) in
    omega (arith, lt, c.loop-task.auto.exists, c.loop-task.invariant.each)

pub bounds-words-task : goal.bounds-words-task
bounds-words-task c =
    let lt = c.requires.known _ (Contains-get_or c.args.tasks.now c.loop-task.task-index 0 c.loop-task-test.true) in
    omega (arith, lt, c.loop-task.auto.exists, c.loop-task.invariant.each)

pub loop-task-preserved : goal.loop-task-preserved
loop-task-preserved c =
    let exists = c.args.exists.now in
    let words = c.args.words.now in
    let fresh = c.args.fresh.now.items in
    let tasks = c.args.tasks.now in
    let word = c.args.word in
    let i = c.loop-task.task-index in
    let lt = c.loop-task-test.true in
    let s = c.loop-task.exists in
    let v = c.loop-task.words in
    let f = c.loop-task.fresh.items in
    let old = c.loop-task.invariant in
    let t = get_or tasks i 0 in
    let known = c.requires.known t (Contains-get_or tasks i 0 lt) in
    let in_exists : t < length s = omega (arith, known, c.loop-task.auto.exists) in
    let in_words : t < length v = omega (arith, in_exists, old.each) in
    elim c.if-not-exists-task.branch [
      | then-not-exists-task+in_ok-push w ↦ record {
        each = let p = ap length w.words-is in let q = ap length w.exists-is in omega (arith, p, q, old.each, length-set v t word, length-set s t true);
        marked = marked_as exists (set s t true) c.if-not-exists-task.exists words (set v t word) c.if-not-exists-task.words fresh _ c.if-not-exists-task.fresh.items
            (take (i + 1) tasks) (take (i + 1) tasks) word w.exists-is w.words-is (ap (λ (x : _). x.items) w.fresh-is ∙ w.in_ok-push.ensures.items) refl
            (marked_new exists s words v fresh f tasks word i lt old.marked in_exists in_words w.if-not-exists-task.true);
      }
      | else-not-exists-task w ↦ record {
        each = let p = ap length w.words-is in let q = ap length w.exists-is in omega (arith, p, q, old.each);
        marked = marked_as exists s c.if-not-exists-task.exists words v c.if-not-exists-task.words fresh f c.if-not-exists-task.fresh.items
            (take (i + 1) tasks) (take (i + 1) tasks) word w.exists-is w.words-is (ap (λ (x : _). x.items) w.fresh-is) refl
            (marked_old exists s words v fresh f tasks word i lt old.marked w.if-not-exists-task.false);
      }
    ]

pub returns : goal.returns
returns c =
    let e : length c.args.tasks.now ≡ c.loop-task.task-index = omega (arith, c.loop-task-test.false) in
    let whole : take c.loop-task.task-index c.args.tasks.now ≡ c.args.tasks.now = ap (λ n. take n c.args.tasks.now) (sym e) ∙ take-length c.args.tasks.now in
    subst (λ ts. IsMarked c.args.exists.now c.loop-task.exists c.args.words.now c.loop-task.words c.args.fresh.now.items c.loop-task.fresh.items ts c.args.word) whole c.loop-task.invariant.marked
