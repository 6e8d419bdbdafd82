use Rattle.std.proofs.Common.{option_copied, subst}
use Rattle.gb_folder.specs.Files.{Contents}
use Rattle.gb_folder.proofs.Asked.{requests_nothing, requests_then}
use Rattle.gb_label.specs.Preparing.{IsObserved, IsPrepared}
use Rattle.gb_tree.proofs.Known.{seen_known}
use Rattle.gb_tree.proofs.Remembering.{seen_longer}
use Rattle.gb_task.proofs.CacheAfter.{prepared_longer}
use Rattle.gb_task.proofs.by_cache.prepare_by_cache.Goals as goal

pub returns-in-Some-clause-answered : goal.returns-in-Some-clause-answered
returns-in-Some-clause-answered g c = λ since before was.
    let asked = c.read_ahead.ensures.reads.requests in
    prepared_longer since c.current_by_seen.new.folder asked c.args.options c.args.task.now (option_copied c.args.last) c.in-Some.current
    (c.in-Some.ensures.answered since (requests_then before asked) (c.read_ahead.ensures.seen since before was))

pub returns-in-Some-clause-seen : goal.returns-in-Some-clause-seen
returns-in-Some-clause-seen g c = λ since before was.
    seen_longer (requests_nothing since) c.current_by_seen.ensures.reads.requests c.read_ahead.new.seen (c.read_ahead.ensures.seen since before was)

pub returns-clause-seen : goal.returns-clause-seen
returns-clause-seen g c = λ since before was.
    seen_longer (requests_nothing since) (requests_then c.current_by_seen.ensures.reads.requests c.prepare.ensures.reads.requests) c.read_ahead.new.seen (c.read_ahead.ensures.seen since before was)

pub returns-in-Some-clause-prepared : goal.returns-in-Some-clause-prepared
returns-in-Some-clause-prepared g c = λ known since before was.
    let F = g.F.Folder in
    let mid = c.read_ahead.new.folder in
    let known_there = c.current_by_seen.ensures.reads.requests.back known in
    subst (λ (contents : Contents). IsPrepared c.args.options c.args.task.now contents (option_copied c.args.last) c.in-Some.current) (c.read_ahead.ensures.reads.same known_there)
    (c.in-Some.ensures.prepared known (seen_known F.device since mid known_there c.read_ahead.new.seen (c.read_ahead.ensures.seen since before was)))

pub returns-in-Some-clause-observed : goal.returns-in-Some-clause-observed
returns-in-Some-clause-observed g c = λ known since before was.
    let F = g.F.Folder in
    let mid = c.read_ahead.new.folder in
    let known_there = c.current_by_seen.ensures.reads.requests.back known in
    subst (λ (contents : Contents). IsObserved c.args.task.now contents.files c.in-Some.current) (c.read_ahead.ensures.reads.same known_there)
    (c.in-Some.ensures.observed known (seen_known F.device since mid known_there c.read_ahead.new.seen (c.read_ahead.ensures.seen since before was)))
