use Rattle.std.proofs.Common.{◌≡◌, ◌++◌, List, true, append_assoc, ap, sym, subst, ◌∙◌}
use Rattle.std.specs.List.{AllZip, list_any}
use Rattle.std.proofs.lemmas.Result.{err_from_is_err_and}
use Rattle.gb_folder.proofs.Asked.{requests_then, requests_nothing}
use Rattle.gb_folder.specs.Files.{Contents}
use Rattle.gb_history.specs.Places.{record_place}
use Rattle.gb_plan.specs.Task.{Path}
use Rattle.gb_folder.proofs.Machine.{handed_on}
use Rattle.gb_folder.specs.Changes.{is_at}
use Rattle.gb_tree.proofs.Answering.{all_zip_more}
use Rattle.gb_records.proofs.Answering.{answered_longer, any_part}
use Rattle.gb_records.proofs.Calls.{parted, zip_append}
use Rattle.gb_records.specs.Answered.{WasAnswered}
use Rattle.gb_records.specs.Said.{IsReadAt}
use Rattle.gb_records.proofs.stored_records.read_records.Goals as goal

pub returns-in_err-found-clause-blamed : goal.returns-in_err-found-clause-blamed
returns-in_err-found-clause-blamed g c = λ place device.
    let p = err_from_is_err_and c.from_residual.result c.from_residual.ensures.1 in
    let done = c.fours.invariant.done in
    let parts : c.in-Some.four.now ++ c.in-Some.others.now ≡ c.fours.rest.now = parted 4 c.fours.rest.now c.in-Some.four.now c.in-Some.others.now c.in-Some.ensures.cases.0 c.in-Some.ensures.cases.1 in
    subst (λ (paths : List Path). list_any (λ path. is_at (record_place path) place) paths ≡ true) (ap (λ (rest : List Path). done.0 ++ rest) parts ∙ done.1)
    (any_part (λ path. is_at (record_place path) place) done.0 c.in-Some.four.now c.in-Some.others.now
    (c.read_some.ensures.blamed place (handed_on c.from_residual.result c.read_some.result p.0 c.in_err-found.field-0.0 place p.1 p.2 c.in_err-found.was device)))

pub fours-preserved : goal.fours-preserved
fours-preserved g c =
    let F = g.F.Folder in
    let start = c.args.folder.now in
    let before = c.fours.folder in
    let now = c.read_some.new.folder in
    let so_far = c.fours.invariant in
    let done = so_far.done in
    let four = c.in-Some.four.now in
    let others = c.in-Some.others.now in
    let parts : four ++ others ≡ c.fours.rest.now = parted 4 c.fours.rest.now c.in-Some.four.now c.in-Some.others.now c.in-Some.ensures.cases.0 c.in-Some.ensures.cases.1 in
    record {
      requests = requests_then so_far.requests c.read_some.ensures.reads.requests;
      back = λ known. so_far.back (c.read_some.ensures.reads.requests.back known);
      same = λ faithful. c.read_some.ensures.reads.same faithful ∙ so_far.same (c.read_some.ensures.reads.requests.back faithful);
      done = (
        done.0 ++ four,
        append_assoc done.0 four others ∙ ap (λ (rest : List Path). done.0 ++ rest) parts ∙ done.1,
        subst (AllZip (WasAnswered F.device start now) (done.0 ++ four)) (sym c.in_ok-append.ensures.items)
            (zip_append (WasAnswered F.device start now) done.0 four c.fours.records.items c.in_ok-found.found.items
            (all_zip_more (WasAnswered F.device start before) (WasAnswered F.device start now)
            (answered_longer start start before now (requests_nothing start) c.read_some.ensures.reads.requests) done.0 c.fours.records.items done.2)
            (all_zip_more (WasAnswered F.device before now) (WasAnswered F.device start now)
            (answered_longer start before now now so_far.requests (requests_nothing now)) four c.in_ok-found.found.items c.in_ok-found.ensures.answered)),
        λ faithful. subst (AllZip (IsReadAt (F.device.contents start).files) (done.0 ++ four)) (sym c.in_ok-append.ensures.items)
            (zip_append (IsReadAt (F.device.contents start).files) done.0 four c.fours.records.items c.in_ok-found.found.items (done.3 (c.read_some.ensures.reads.requests.back faithful))
            (subst (λ (at : Contents). AllZip (IsReadAt at.files) four c.in_ok-found.found.items) (so_far.same (c.read_some.ensures.reads.requests.back faithful)) (c.in_ok-found.ensures.read faithful))),
      );
    }

pub returns-clause-read : goal.returns-clause-read
returns-clause-read g c = λ faithful.
    let F = g.F.Folder in
    let start = c.args.folder.now in
    let so_far = c.fours.invariant in
    let done = so_far.done in
    let rest = c.fours.rest.now in
    let found = c.in_ok-found-2.found.items in
    subst (λ (paths : List Path). AllZip (IsReadAt (F.device.contents start).files) paths c.append-2.new.self.items) done.1
    (subst (AllZip (IsReadAt (F.device.contents start).files) (done.0 ++ rest)) (sym c.in_ok-append-2.ensures.items)
    (zip_append (IsReadAt (F.device.contents start).files) done.0 rest c.fours.records.items found (done.3 (c.read_some-2.ensures.reads.requests.back faithful))
    (subst (λ (at : Contents). AllZip (IsReadAt at.files) rest found) (so_far.same (c.read_some-2.ensures.reads.requests.back faithful)) (c.in_ok-found-2.ensures.read faithful))))

pub returns-clause-answered : goal.returns-clause-answered
returns-clause-answered g c =
    let F = g.F.Folder in
    let start = c.args.folder.now in
    let before = c.fours.folder in
    let now = c.read_some-2.new.folder in
    let so_far = c.fours.invariant in
    let done = so_far.done in
    let rest = c.fours.rest.now in
    let found = c.in_ok-found-2.found.items in
    subst (λ (paths : List Path). AllZip (WasAnswered F.device start now) paths c.append-2.new.self.items) done.1
    (subst (AllZip (WasAnswered F.device start now) (done.0 ++ rest)) (sym c.in_ok-append-2.ensures.items)
    (zip_append (WasAnswered F.device start now) done.0 rest c.fours.records.items found
    (all_zip_more (WasAnswered F.device start before) (WasAnswered F.device start now)
    (answered_longer start start before now (requests_nothing start) c.read_some-2.ensures.reads.requests) done.0 c.fours.records.items done.2)
    (all_zip_more (WasAnswered F.device before now) (WasAnswered F.device start now)
    (answered_longer start before now now so_far.requests (requests_nothing now)) rest found c.in_ok-found-2.ensures.answered)))
