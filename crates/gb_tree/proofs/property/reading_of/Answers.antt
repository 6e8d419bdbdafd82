use Rattle.std.proofs.Common.{IsTrue}
use Rattle.gb_folder.proofs.Asked.{requests_nothing, requests_then}
use Rattle.gb_folder.specs.Files.{Place}
use Rattle.gb_tree.specs.Property.{is_under_any}
use Rattle.gb_tree.specs.Reading.{entries_observed}
use Rattle.gb_tree.proofs.Again.{blames_longer, ok_as}
use Rattle.gb_tree.proofs.Answering.{entries_longer}
use Rattle.gb_tree.proofs.Remembering.{seen_longer}
use Rattle.gb_tree.proofs.property.reading_of.Goals as goal

pub returns-clause-blame : goal.returns-clause-blame
returns-clause-blame g c =
    let IsSuch : Place → Type 0 = λ at. IsTrue (is_under_any c.args.roots.now at) in
    blames_longer IsSuch _ _ _ _ c.read_once-first.ensures.reads.requests.count c.read_once.ensures.reads.requests.count c.read_once.ensures.blame

pub returns-clause-listed : goal.returns-clause-listed
returns-clause-listed g c =
    ok_as c.read_once.result c.read_once.ensures.listed
    (λ reading were. entries_longer c.read_once-first.ensures.reads.requests (requests_nothing c.read_once.new.folder) c.args.naming c.args.roots.now c.args.include.now c.args.exclude.now (entries_observed reading.1) were)

pub returns-clause-answered : goal.returns-clause-answered
returns-clause-answered g c = λ first before known.
    let asked = c.read_once-first.ensures.reads.requests in
    c.read_once.ensures.answered first (requests_then before asked) (seen_longer (requests_nothing first) asked c.args.seen.now known)
