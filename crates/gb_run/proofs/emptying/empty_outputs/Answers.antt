use Rattle.std.proofs.Common.{◌≡◌, true, Err, List, Ok, ℕ, fold, sym, ap, subst, ◌∙◌}
use Rattle.std.specs.List.{list_all}
use Rattle.std.proofs.lemmas.Result.{err_from_is_err_and, on_ok_weaker}
use Rattle.gb_folder.specs.Each.{Each, Ended}
use Rattle.gb_report.specs.declared.fault.Fault.{Fault}
use Rattle.gb_folder.proofs.Machine.{at_err}
use Rattle.gb_run.proofs.Listed.{EmptyingLed, emptying_done, emptying_unlisted}
use Rattle.gb_folder.specs.Files.{Contents, without}
use Rattle.gb_plan.specs.Task.{is_output_of}
use Rattle.gb_plan.specs.declared.task.Output.{Output}
use Rattle.gb_folder.proofs.Emptied.{emptied}
use Rattle.gb_folder.proofs.Machine.{among_all}
use Rattle.gb_run.specs.Emptying.{Listing, is_at_output, places_at}
use Rattle.gb_folder.proofs.Asked.{requests_reading, requests_then, takes_where}
use Rattle.gb_folder.specs.Changes.{is_among}
use Rattle.gb_run.proofs.emptying.empty_outputs.Goals as goal

pub returns-clause-blamed : goal.returns-clause-blamed
returns-clause-blamed g c = λ place is.
    let listed : list_all (is_at_output c.args.task.now.outputs) c.as_slice-2.result.now ≡ true =
    ap (list_all (is_at_output c.args.task.now.outputs)) c.as_slice-2.ensures.value
    ∙ ap (λ (outputs : List Output). list_all (is_at_output outputs) c.in_ok-places.places.items) (sym c.as_slice.ensures) ∙ c.in_ok-places.ensures.under in
    among_all (is_output_of c.args.task.now) c.as_slice-2.result.now place listed (c.remove_all.ensures.blamed place is)

pub returns-clause-ok : goal.returns-clause-ok
returns-clause-ok g c = λ faithful.
    let listing = c.remove_all.ensures.requests.back faithful in
    let F = g.F.Folder in
    let task = c.args.task.now in
    let old = F.device.contents c.args.folder.now in
    let listed : c.as_slice-2.result.now ≡ places_at task.outputs old.files =
    c.as_slice-2.ensures.value ∙ c.in_ok-places.ensures.listed listing ∙ ap (λ (outputs : List Output). places_at outputs old.files) c.as_slice.ensures in
    on_ok_weaker c.remove_all.result (λ is.
    ap (λ (folder : Contents). folder.files) is
    ∙ ap (λ (places : List (List ℕ)). fold without (F.device.contents c.listed_outputs.new.folder).files places) listed
    ∙ ap (λ (folder : Contents). fold without folder.files (places_at task.outputs old.files)) (c.listed_outputs.ensures.reads.same listing)
    ∙ emptied (λ (output : Output). output.place) task.outputs old.files (g.met.F.Folder.sound c.args.folder.now)) (c.remove_all.ensures.ok faithful)

pub returns-in_err-places-clause-requests : goal.returns-in_err-places-clause-requests
returns-in_err-places-clause-requests g c = requests_reading c.listed_outputs.ensures.reads.requests

pub returns-clause-requests : goal.returns-clause-requests
returns-clause-requests g c =
    let listed : list_all (is_at_output c.args.task.now.outputs) c.as_slice-2.result.now ≡ true =
    ap (list_all (is_at_output c.args.task.now.outputs)) c.as_slice-2.ensures.value
    ∙ ap (λ (outputs : List Output). list_all (is_at_output outputs) c.in_ok-places.places.items) (sym c.as_slice.ensures) ∙ c.in_ok-places.ensures.under in
    requests_then (requests_reading c.listed_outputs.ensures.reads.requests)
    (takes_where (is_among c.as_slice-2.result.now) (is_output_of c.args.task.now)
    (λ place is. among_all (is_output_of c.args.task.now) c.as_slice-2.result.now place listed is) c.remove_all.ensures.requests)

pub returns-in_err-places-clause-calls : goal.returns-in_err-places-clause-calls
returns-in_err-places-clause-calls g c =
    let F = g.F.Folder in
    let outputs = c.args.task.now.outputs in
    let p = err_from_is_err_and c.from_residual.result c.from_residual.ensures.1 in
    let led = c.in_err-places.ensures.calls in
    at_err (λ (r : Ended Fault). EmptyingLed F.device outputs c.args.folder.now r c.listed_outputs.new.folder) c.from_residual.result p.0 c.in_err-places.field-0.0 p.1 p.2
    (emptying_unlisted F.device outputs c.args.folder.now c.listed_outputs.new.folder led.0 led.1 c.in_err-places.field-0.0 led.2
    (subst (λ (os : List Output). Each Listing os led.0 led.1 (Err c.in_err-places.field-0.0)) c.as_slice.ensures led.3))

pub returns-clause-calls : goal.returns-clause-calls
returns-clause-calls g c =
    let F = g.F.Folder in
    let outputs = c.args.task.now.outputs in
    let led = c.in_ok-places.ensures.calls in
    let removed = c.remove_all.ensures.calls in
    emptying_done F.device outputs c.args.folder.now c.listed_outputs.new.folder c.remove_all.new.folder led.0 led.1 c.as_slice-2.result.now c.remove_all.result led.2
    (subst (λ (os : List Output). Each Listing os led.0 led.1 (Ok tt)) c.as_slice.ensures led.3)
    (c.as_slice-2.ensures.value ∙ led.4) removed.0 removed.1 removed.2
