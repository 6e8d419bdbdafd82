use Rattle.std.proofs.Common.{◌≡◌, ◌++◌, List, Ok, Result, ap, sym, subst, ◌∙◌}
use Rattle.gb_label.specs.declared.prepare.Prepared.TheVariants as prepared
use Rattle.gb_label.specs.declared.prepare.Prepared.{Prepared}
use Rattle.gb_report.specs.declared.fault.Fault.{Fault}
use Rattle.gb_tree.specs.DigestCache.{AreAmong, CachedFile, seen_in}
use Rattle.gb_task.specs.CacheChanges.{cached_by}
use Rattle.gb_task.proofs.before_changes.settled_by.Goals as goal

pub returns-in-Ok-Decided-UpToDate-default-default-clause-seen : goal.returns-in-Ok-Decided-UpToDate-default-default-clause-seen
returns-in-Ok-Decided-UpToDate-default-default-clause-seen c =
    let w = c.in-Ok-Decided-UpToDate-default-default in
    let is : cached_by c.args.prepared c.args.has_executed_need c.args.seen.now ≡ c.args.seen.now ++ seen_in w.observed.outputs.items =
    ap (λ (found : Result Prepared Fault). cached_by found c.args.has_executed_need c.args.seen.now)
    (w.is ∙ ap Ok (w.field-0-is ∙ ap (λ decision. prepared.Decided decision w.field-0-1 w.observed) w.field-0-0-is)) in
    subst (λ (files : List CachedFile). AreAmong c.remember.new.self files) (sym is) c.remember.ensures
