use Rattle.std.proofs.Common.{IfSome, sym, subst}
use Rattle.std.specs.List.{Contains}
use Rattle.gb_folder.proofs.Asked.{requests_nothing}
use Rattle.gb_tree.specs.Answered.{WasObserved}
use Rattle.gb_tree.specs.Reading.{IsObservedIn}
use Rattle.gb_tree.specs.Waiting.{file_in}
use Rattle.gb_tree.specs.declared.kept.ScannedFile.{ScannedFile}
use Rattle.gb_tree.proofs.Again.{ok_as}
use Rattle.gb_tree.proofs.Answering.{observed_longer}
use Rattle.gb_tree.proofs.Known.{observed_known}
use Rattle.gb_tree.proofs.Remembering.{seen_observed, seen_observed_in}
use Rattle.gb_tree.proofs.scanning.find_file.Goals as goal

pub returns-in_ok-recalled-in-Some-clause-answered : goal.returns-in_ok-recalled-in-Some-clause-answered
returns-in_ok-recalled-in-Some-clause-answered g c = λ first before known.
    let F = g.F.Folder in
    let now = c.args.folder.now in
    let seen = c.args.seen.now in
    let place = c.args.place.now in
    let among = subst (λ r. IfSome r (λ digest. Contains seen (place, digest))) c.in-Some.is c.digest_at.ensures in
    subst (λ (file : ScannedFile). WasObserved F.device first now file) (sym c.in_ok-recalled-in-Some.ensures)
    (seen_observed F.device first now seen c.args.path.now place c.in-Some.digest among known)

pub returns-in_ok-recalled-in-Some-clause-observed : goal.returns-in_ok-recalled-in-Some-clause-observed
returns-in_ok-recalled-in-Some-clause-observed g c = λ faithful known.
    let files = (g.F.Folder.device.contents c.args.folder.now).files in
    let seen = c.args.seen.now in
    let place = c.args.place.now in
    let among = subst (λ r. IfSome r (λ digest. Contains seen (place, digest))) c.in-Some.is c.digest_at.ensures in
    subst (λ (file : ScannedFile). IsObservedIn files file) (sym c.in_ok-recalled-in-Some.ensures)
    (seen_observed_in files seen c.args.path.now place c.in-Some.digest among known)

pub returns-in-None-clause-answered : goal.returns-in-None-clause-answered
returns-in-None-clause-answered g c = λ first before known.
    ok_as c.scan_file.result c.scan_file.ensures.answered
    (λ found was. observed_longer before (requests_nothing c.scan_file.new.folder) (file_in found) was)

pub returns-in-None-clause-observed : goal.returns-in-None-clause-observed
returns-in-None-clause-observed g c = λ faithful known.
    ok_as c.scan_file.result c.scan_file.ensures.answered (λ found was. observed_known c.scan_file.ensures.reads faithful (file_in found) was)
