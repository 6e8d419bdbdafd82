use Rattle.std.proofs.Common.{◌≡◌, ℕ, List, true, Err, ap, subst, ◌∙◌, inl}
use Rattle.std.proofs.lemmas.Result.{err_from_is_err_and}
use Rattle.std.specs.List.{list_all}
use Rattle.gb_folder.specs.Files.{is_own, places_under}
use Rattle.gb_folder.proofs.Elsewhere.{taken_there}
use Rattle.gb_folder.proofs.Machine.{at_err, among_all}
use Rattle.gb_semantics.specs.Edits.{LossStep, own_place}
use Rattle.gb_build.specs.Answers.{edit_answer}
use Rattle.gb_build.proofs.Editing.{lost_from, not_listed, shows}
use Rattle.gb_folder.proofs.Asked.{requests_reading, requests_then, takes_where}
use Rattle.gb_folder.specs.Changes.{is_among}
use Rattle.std.proofs.lemmas.List.Sums.{list_all-from_AllPass}
use Rattle.gb_core.specs.Place.{is_under}
use Rattle.gb_build.proofs.edits.lose.Goals as goal

pub returns-in_err-places-clause-step : goal.returns-in_err-places-clause-step
returns-in_err-places-clause-step g c = λ faithful.
    let contents = g.F.Folder.device.contents in
    let failures = g.F.Folder.device.failures in
    let old = contents c.args.folder.now in
    let fault = c.in_err-places.field-0.0 in
    let p = err_from_is_err_and c.from_residual-in_err-places.result c.from_residual-in_err-places.ensures.1 in
    at_err (λ edit. LossStep (g.F.Folder.device.may_leave c.args.folder.now) (shows old (failures c.args.folder.now)) (edit_answer edit) (shows (contents c.listed_at.new.folder) (failures c.listed_at.new.folder))) c.from_residual-in_err-places.result p.0 fault p.1 p.2
    (inl (c.listed_at.ensures.reads.same faithful, not_listed _ _ old _ fault c.in_ok-own.ensures (λ place device. c.listed_at.ensures.blamed place (c.in_err-places.was ∙ ap Err device)) (c.in_err-places.ensures.special faithful)))

pub returns-clause-step : goal.returns-clause-step
returns-clause-step g c = λ faithful.
    let contents = g.F.Folder.device.contents in
    let old = contents c.args.folder.now in
    let listed : c.as_slice.result.now ≡ places_under old.files own_place = c.as_slice.ensures.value ∙ c.in_ok-places.ensures.listed (c.remove_all.ensures.requests.back faithful) ∙ ap (places_under old.files) c.in_ok-own.ensures in
    lost_from _ _ c.remove_all.result c.as_slice.result.now _ _ _ old (contents c.listed_at.new.folder) (contents c.remove_all.new.folder) (g.met.F.Folder.sound c.args.folder.now) listed (c.listed_at.ensures.reads.same (c.remove_all.ensures.requests.back faithful))
    c.listed_at.ensures.reads.requests.tearing c.listed_at.ensures.reads.requests.count c.remove_all.ensures.requests.count (c.remove_all.ensures.ok faithful) (c.remove_all.ensures.err faithful) (c.remove_all.ensures.cut faithful)

pub returns-in_err-places-clause-requests : goal.returns-in_err-places-clause-requests
returns-in_err-places-clause-requests g c = requests_reading c.listed_at.ensures.reads.requests

pub returns-clause-requests : goal.returns-clause-requests
returns-clause-requests g c =
    let own : list_all is_own c.as_slice.result.now ≡ true =
    ap (list_all is_own) c.as_slice.ensures.value
    ∙ subst (λ (place : List ℕ). list_all (λ at. is_under at place) c.in_ok-places.places.items ≡ true) c.in_ok-own.ensures
    (list_all-from_AllPass (λ at. is_under at c.in_ok-own.own) c.in_ok-places.places.items c.in_ok-places.ensures.under) in
    requests_then (requests_reading c.listed_at.ensures.reads.requests)
    (takes_where (is_among c.as_slice.result.now) is_own (λ place is. among_all is_own c.as_slice.result.now place own is) c.remove_all.ensures.requests)

pub returns-clause-elsewhere : goal.returns-clause-elsewhere
returns-clause-elsewhere g c = taken_there (returns-clause-requests g c)
