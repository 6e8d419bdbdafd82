use Rattle.std.proofs.Common.{◌++◌, List, [], append-nil, append_assoc, ap, arith, refl, subst, sym, ◌∙◌}
use Rattle.std.proofs.lemmas.List.{drop_all}
use Rattle.gb_folder.specs.Files.{Contents, Place}
use Rattle.gb_folder.proofs.Asked.{requests_then}
use Rattle.gb_plan.specs.Task.{Path}
use Rattle.gb_query.specs.Inventory.{AreLeftAt, IsLeftAt}
use Rattle.gb_folder.proofs.Machine.{machine_before}
use Rattle.gb_folder.specs.Faults.{IsOfMachine}
use Rattle.gb_query.proofs.Left.{handed, rest_from}
use Rattle.gb_query.proofs.inventory.left_at.Goals as goal

pub loop-place-preserved : goal.loop-place-preserved
loop-place-preserved g c =
    let F = g.F.Folder in
    let registered = c.args.registered.now in
    let places = c.args.places.now in
    let place = c.place-item.result in
    let index = c.loop-place.place-index in
    let before = c.loop-place.left.items in
    let back = c.push_left.ensures.reads.requests.back in
    let files = (F.device.contents c.args.folder.now).files in
    record {
      requests = requests_then c.loop-place.invariant.requests c.push_left.ensures.reads.requests;
      back = λ known. c.loop-place.invariant.back (back known);
      same = λ faithful. c.push_left.ensures.reads.same faithful ∙ c.loop-place.invariant.same (back faithful);
      left = λ faithful more rest.
          let added = c.in_ok-push_left.ensures.left faithful in
          let row = added.0 in
          let here : IsLeftAt files registered place row = subst (λ (folder : Contents). IsLeftAt folder.files registered place row) (c.loop-place.invariant.same (back faithful)) added.1 in
          subst (λ (found : List Path). AreLeftAt files registered places found) (sym (ap (λ (found : List Path). found ++ more) added.2 ∙ append_assoc before row more))
          (c.loop-place.invariant.left (back faithful) (row ++ more)
          (subst (λ (left : List Place). AreLeftAt files registered left (row ++ more)) (sym (rest_from places index place c.loop-place-test.true c.place-item.is))
          (row, more, here, rest, refl)));
    }

pub returns-clause-left : goal.returns-clause-left
returns-clause-left g c = λ faithful.
    let F = g.F.Folder in
    let files = (F.device.contents c.args.folder.now).files in
    let registered = c.args.registered.now in
    let places = c.args.places.now in
    let left = c.loop-place.left.items in
    let all = drop_all c.loop-place.place-index places (omega (arith, c.loop-place-test.false)) in
    subst (λ (found : List Path). AreLeftAt files registered places found) (append-nil left)
    (c.loop-place.invariant.left faithful [] (subst (λ (rest : List Place). AreLeftAt files registered rest []) (sym all) refl))

pub returns-in_err-push_left-clause-err : goal.returns-in_err-push_left-clause-err
returns-in_err-push_left-clause-err g c =
    let failures = g.F.Folder.device.failures in
    let fault = c.in_err-push_left.field-0.0 in
    handed (IsOfMachine (failures c.args.folder.now) (failures c.push_left.new.folder)) c.from_residual.result fault c.from_residual.ensures.1
    (machine_before _ _ _ fault c.loop-place.invariant.requests.count c.push_left.ensures.reads.requests.count c.in_err-push_left.ensures.err)
