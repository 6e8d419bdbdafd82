use Rattle.std.proofs.Common.{subst, sym}
use Rattle.std.specs.List.{AllZip}
use Rattle.gb_tree.proofs.Again.{ok_as}
use Rattle.gb_records.proofs.Answering.{record_answered, record_read}
use Rattle.gb_records.proofs.Calls.{zip_through}
use Rattle.gb_records.specs.Answered.{WasAnswered}
use Rattle.gb_records.specs.Said.{IsReadAt}
use Rattle.gb_records.specs.Texts.{IsRecordOf, IsStoredAt, WasStoredAt}
use Rattle.gb_records.proofs.stored_records.read_some.Goals as goal

pub returns-clause-read : goal.returns-clause-read
returns-clause-read g c = λ faithful.
    let files = (g.F.Folder.device.contents c.args.folder.now).files in
    let paths = c.args.paths.now in
    let texts = c.as_slice.result.now in
    ok_as c.records_in-records.result c.records_in-records.ensures.read
    (λ records all. zip_through (IsStoredAt files) IsRecordOf (IsReadAt files) (record_read files) paths texts records.items
    (subst (AllZip (IsStoredAt files) paths) (sym c.as_slice.ensures.value) (c.in_ok-texts.ensures.read faithful)) all)

pub returns-clause-answered : goal.returns-clause-answered
returns-clause-answered g c =
    let F = g.F.Folder in
    let old = c.args.folder.now in
    let new = c.read_texts.new.folder in
    let paths = c.args.paths.now in
    let texts = c.as_slice.result.now in
    ok_as c.records_in-records.result c.records_in-records.ensures.read
    (λ records all. zip_through (WasStoredAt F.device old new) IsRecordOf (WasAnswered F.device old new)
    (record_answered F.device old new) paths texts records.items
    (subst (AllZip (WasStoredAt F.device old new) paths) (sym c.as_slice.ensures.value) c.in_ok-texts.ensures.answered) all)
