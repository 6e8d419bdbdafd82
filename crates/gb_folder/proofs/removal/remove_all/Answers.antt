use Rattle.std.proofs.Common.{[], true, IfErr, List, Ok, ◌∙◌, ap, subst}
use Rattle.std.proofs.lemmas.Result.{err_from_is_err_and}
use Rattle.std.proofs.lemmas.List.{take_all}
use Rattle.gb_folder.specs.Each.{Ended}
use Rattle.gb_folder.specs.Files.{Place}
use Rattle.gb_folder.proofs.Asked.{requests_then}
use Rattle.gb_folder.proofs.EachOf.{EachLed, each_more, each_short}
use Rattle.gb_report.specs.declared.fault.Fault.{Fault}
use Rattle.gb_folder.specs.Changes.{IsCutShort, is_at, without_all}
use Rattle.gb_folder.specs.Removals.{Removal, WasRemoved}
use Rattle.gb_folder.proofs.Called.{removal_led}
use Rattle.gb_folder.proofs.Machine.{at_err, handed_on}
use Rattle.gb_folder.proofs.Loops.{any_here}
use Rattle.gb_folder.proofs.Asking.{taken_among}
use Rattle.gb_folder.proofs.Removing.{cut_at, without_more}
use Rattle.gb_folder.proofs.removal.remove_all.Goals as goal

pub loop-place-preserved : goal.loop-place-preserved
loop-place-preserved g c =
    record {
      led = each_more Removal _ c.args.places.now c.loop-place.place-index c.place-item.result c.loop-place-test.true c.place-item.is _ _ _ [] [] c.loop-place.invariant.led
          (removal_led _ _ _ _ _ (subst (λ (r : Ended Fault). WasRemoved g.F.Folder.device c.place-item.result c.loop-place.folder r c.remove_at.new.folder) c.in_ok-remove_at.was c.remove_at.ensures.call));
      requests = requests_then c.loop-place.invariant.requests
          (taken_among c.args.places.now c.loop-place.place-index c.place-item.result c.loop-place-test.true c.place-item.is c.remove_at.ensures.requests);
      back = λ faithful. c.loop-place.invariant.back (c.remove_at.ensures.requests.back faithful);
      removed = λ faithful.
          without_more _ _ _ c.args.places.now c.loop-place.place-index c.place-item.result c.loop-place-test.true c.place-item.is (c.loop-place.invariant.removed (c.remove_at.ensures.requests.back faithful)) (c.in_ok-remove_at.ensures.ok faithful);
    }

pub returns-in_err-remove_at-clause-requests : goal.returns-in_err-remove_at-clause-requests
returns-in_err-remove_at-clause-requests g c =
    requests_then c.loop-place.invariant.requests
    (taken_among c.args.places.now c.loop-place.place-index c.place-item.result c.loop-place-test.true c.place-item.is c.remove_at.ensures.requests)

pub returns-in_err-remove_at-clause-blamed : goal.returns-in_err-remove_at-clause-blamed
returns-in_err-remove_at-clause-blamed g c = λ place device.
    let p = err_from_is_err_and c.from_residual.result c.from_residual.ensures.1 in
    any_here (λ other. is_at other place) c.args.places.now c.loop-place.place-index c.place-item.result c.loop-place-test.true c.place-item.is
    (c.remove_at.ensures.blamed place (handed_on c.from_residual.result c.remove_at.result p.0 c.in_err-remove_at.field-0.0 place p.1 p.2 c.in_err-remove_at.was device))

pub returns-in_err-remove_at-clause-cut : goal.returns-in_err-remove_at-clause-cut
returns-in_err-remove_at-clause-cut g c = λ faithful.
    let p = err_from_is_err_and c.from_residual.result c.from_residual.ensures.1 in
    let F = g.F.Folder in
    let IsFault : Fault → Type 0 = λ fault. IsCutShort (F.device.may_leave c.args.folder.now) c.args.places.now (F.device.contents c.args.folder.now) fault (F.device.contents c.remove_at.new.folder) in
    at_err (λ r. IfErr r IsFault) c.from_residual.result p.0 c.in_err-remove_at.field-0.0 p.1 p.2
    (cut_at _ _ _ _ _ c.args.places.now c.loop-place.place-index c.place-item.result _ c.loop-place-test.true c.place-item.is c.loop-place.invariant.requests.tearing (c.loop-place.invariant.removed (c.remove_at.ensures.requests.back faithful)) (c.in_err-remove_at.ensures.hindered faithful))

pub returns-clause-ok : goal.returns-clause-ok
returns-clause-ok g c = λ faithful. c.loop-place.invariant.removed faithful ∙ ap (without_all (g.F.Folder.device.contents c.args.folder.now)) (take_all c.loop-place.place-index c.args.places.now c.loop-place-test.false)

pub returns-in_err-remove_at-clause-calls : goal.returns-in_err-remove_at-clause-calls
returns-in_err-remove_at-clause-calls g c =
    let F = g.F.Folder in
    let p = err_from_is_err_and c.from_residual.result c.from_residual.ensures.1 in
    at_err (λ (r : Ended Fault). EachLed Removal F.device c.args.places.now c.args.folder.now [] r c.remove_at.new.folder) c.from_residual.result p.0 c.in_err-remove_at.field-0.0 p.1 p.2
    (each_short Removal _ c.args.places.now c.loop-place.place-index c.place-item.result c.loop-place-test.true c.place-item.is _ _ _ [] [] c.in_err-remove_at.field-0.0 c.loop-place.invariant.led
    (removal_led _ _ _ _ _ (subst (λ (r : Ended Fault). WasRemoved F.device c.place-item.result c.loop-place.folder r c.remove_at.new.folder) c.in_err-remove_at.was c.remove_at.ensures.call)))

pub returns-clause-calls : goal.returns-clause-calls
returns-clause-calls g c =
    let F = g.F.Folder in
    subst (λ (places : List Place). EachLed Removal F.device places c.args.folder.now [] (Ok tt) c.loop-place.folder)
    (take_all c.loop-place.place-index c.args.places.now c.loop-place-test.false) c.loop-place.invariant.led
