use Rattle.std.proofs.Common.{refl, subst, take, ◌∙◌}
use Rattle.std.specs.Prelude.{IfErr, Option}
use Rattle.std.proofs.lemmas.Result.{err_from_is_err_and}
use Rattle.std.proofs.lemmas.List.{take_all}
use Rattle.std.specs.List.{AllZip}
use Rattle.gb_folder.specs.Files.{Bytes, Contents}
use Rattle.gb_folder.proofs.Asked.{requests_then, requests_nothing}
use Rattle.gb_history.specs.Places.{record_place}
use Rattle.gb_plan.specs.Task.{Path}
use Rattle.gb_folder.proofs.Loops.{any_here}
use Rattle.gb_folder.proofs.Machine.{at_err, handed_on, machine_before}
use Rattle.gb_folder.specs.Changes.{is_at}
use Rattle.gb_folder.specs.Faults.{IsOfMachine}
use Rattle.gb_tree.proofs.Answering.{all_zip_more}
use Rattle.gb_records.proofs.Answering.{text_answered_longer}
use Rattle.gb_records.proofs.Calls.{read_more}
use Rattle.gb_records.specs.Texts.{IsStoredAt, IsTextAt, WasStoredAt}
use Rattle.gb_records.proofs.stored_records.read_texts.Goals as goal

pub loop-path-preserved : goal.loop-path-preserved
loop-path-preserved g c =
    let F = g.F.Folder in
    let start = c.args.folder.now in
    let before = c.loop-path.folder in
    let now = c.read_text.new.folder in
    let paths = c.args.paths.now in
    let i = c.loop-path.path-index in
    let path = c.path-item.result in
    let text : Path × Option Bytes = (path, c.in_ok-bytes.bytes) in
    record {
      requests = requests_then c.loop-path.invariant.requests c.read_text.ensures.reads.requests;
      back = λ known. c.loop-path.invariant.back (c.read_text.ensures.reads.requests.back known);
      same = λ faithful. c.read_text.ensures.reads.same faithful ∙ c.loop-path.invariant.same (c.read_text.ensures.reads.requests.back faithful);
      answered =
          read_more (WasStoredAt F.device start now) paths i path c.loop-path.texts.items _ text
          c.loop-path-test.true
          c.path-item.is
          (all_zip_more (WasStoredAt F.device start before) (WasStoredAt F.device start now)
          (text_answered_longer start start before now (requests_nothing start) c.read_text.ensures.reads.requests) (take i paths) c.loop-path.texts.items c.loop-path.invariant.answered)
          (text_answered_longer start before now now c.loop-path.invariant.requests (requests_nothing now) path text (refl, c.in_ok-bytes.ensures.answered))
          c.in_ok-push.ensures.items;
      read = λ faithful.
          read_more (IsStoredAt (F.device.contents start).files) paths i path c.loop-path.texts.items _ text
          c.loop-path-test.true
          c.path-item.is
          (c.loop-path.invariant.read (c.read_text.ensures.reads.requests.back faithful))
          (refl, subst (λ (folder : Contents). IsTextAt folder.files path c.in_ok-bytes.bytes) (c.loop-path.invariant.same (c.read_text.ensures.reads.requests.back faithful)) (c.in_ok-bytes.ensures.read faithful))
          c.in_ok-push.ensures.items;
    }

pub returns-in_err-bytes-clause-blamed : goal.returns-in_err-bytes-clause-blamed
returns-in_err-bytes-clause-blamed g c = λ place device.
    let p = err_from_is_err_and c.from_residual.result c.from_residual.ensures.1 in
    any_here (λ path. is_at (record_place path) place) c.args.paths.now c.loop-path.path-index c.path-item.result c.loop-path-test.true c.path-item.is
    (c.read_text.ensures.blamed place (handed_on c.from_residual.result c.read_text.result p.0 c.in_err-bytes.field-0.0 place p.1 p.2 c.in_err-bytes.was device))

pub returns-in_err-bytes-clause-err : goal.returns-in_err-bytes-clause-err
returns-in_err-bytes-clause-err g c =
    let failures = g.F.Folder.device.failures in
    let p = err_from_is_err_and c.from_residual.result c.from_residual.ensures.1 in
    at_err (λ r. IfErr r (IsOfMachine (failures c.args.folder.now) (failures c.read_text.new.folder))) c.from_residual.result p.0 c.in_err-bytes.field-0.0 p.1 p.2
    (machine_before _ _ _ _ c.loop-path.invariant.requests.count c.read_text.ensures.reads.requests.count c.in_err-bytes.ensures.err)

pub returns-clause-answered : goal.returns-clause-answered
returns-clause-answered g c =
    let F = g.F.Folder in
    subst (λ paths. AllZip (WasStoredAt F.device c.args.folder.now c.loop-path.folder) paths c.loop-path.texts.items)
    (take_all c.loop-path.path-index c.args.paths.now c.loop-path-test.false) c.loop-path.invariant.answered
