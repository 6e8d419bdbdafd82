use Rattle.std.proofs.Common.{◌≡◌, ◌<◌, ◌≤◌, length, Err, Ok, Some, ap, subst, sym, ◌∙◌, arith}
use Rattle.gb_folder.specs.Files.{with_file}
use Rattle.gb_folder.specs.declared.folder.FolderFault.TheVariants as folders
use Rattle.gb_semantics.specs.Events.{max_record}
use Rattle.gb_history.specs.Places.{record_place}
use Rattle.gb_history.specs.Text.{record_text}
use Rattle.gb_records.specs.Called.{storing_ending}
use Rattle.gb_records.specs.Said.{IsText}
use Rattle.gb_records.specs.declared.fault.Unwritten.{Unwritten}
use Rattle.gb_records.specs.declared.fault.Unwritten.TheVariants as unwritten
use Rattle.gb_records.proofs.Called.{StoringLed, storing_called, storing_hindered, storing_too_long}
use Rattle.gb_folder.proofs.Machine.{at_err}
use Rattle.std.proofs.lemmas.Result.{err_from_is_err_and}
use Rattle.std.proofs.lemmas.Bool.{lt-ltb}
use Rattle.gb_folder.specs.Each.{Ended}
use Rattle.gb_records.specs.Holding.{HoldsWith}
use Rattle.gb_records.proofs.Calls.{LeftAt, put, exists_in, text_said}
use Rattle.gb_records.proofs.Asked.{put_as}
use Rattle.std.specs.Str.{IsUtf8}
use Rattle.gb_folder.specs.Files.{Bytes}
use Rattle.gb_history.specs.Record.{IsWellFormed, Record}
use Rattle.gb_plan.specs.Task.{Path}
use Rattle.gb_records.proofs.keeping.store_record.Goals as goal

text_of : (path : Path) (run : Record) (bytes : Bytes) → bytes ≡ record_text path run → IsUtf8 path → IsWellFormed run → length bytes ≤ max_record → IsText path run (record_text path run)
text_of path run bytes is utf8 held short = text_said path run utf8 held (subst (λ (b : Bytes). length b ≤ max_record) is short)

pub returns-in-Ok-clause-exists : goal.returns-in-Ok-clause-exists
returns-in-Ok-clause-exists g c = λ faithful observed memory entry existed of.
    let old = g.F.Folder.device.contents c.args.folder.now in
    let path = c.args.path.now in
    let run = c.args.run.now in
    let text : c.as_slice.result.now ≡ record_text path run = c.as_slice.ensures.value ∙ c.in_ok-text.ensures.text in
    let long : length c.in_ok-text.text.items ≡ length (record_text path run) = ap length c.in_ok-text.ensures.text in
    let short : length (record_text path run) ≤ max_record = omega arith in
    let reported : IsText path run (record_text path run) = text_said path run c.in_ok-text.ensures.utf8 c.in_ok-text.ensures.held short in
    put path old (g.F.Folder.device.contents c.write.new.folder) memory entry run c.in_ok-place.ensures.path
    (c.in-Ok.ensures.written faithful ∙ ap (λ p. record old { files = with_file old.files p c.as_slice.result.now }) c.in_ok-place.ensures.place
    ∙ ap (λ t. record old { files = with_file old.files (record_place path) t }) text) reported of existed

pub returns-clause-exists : goal.returns-clause-exists
returns-clause-exists g c = λ faithful observed memory entry existed of.
    let F = g.F.Folder in
    let old = F.device.contents c.args.folder.now in
    let new = F.device.contents c.write.new.folder in
    let path = c.args.path.now in
    let run = c.args.run.now in
    let text : c.as_slice.result.now ≡ record_text path run = c.as_slice.ensures.value ∙ c.in_ok-text.ensures.text in
    let long : length c.in_ok-text.text.items ≡ length (record_text path run) = ap length c.in_ok-text.ensures.text in
    let short : length (record_text path run) ≤ max_record = omega arith in
    let reported : IsText path run (record_text path run) = text_said path run c.in_ok-text.ensures.utf8 c.in_ok-text.ensures.held short in
    let torn = λ (e : c.in-Err.fault ≡ folders.Device). subst (λ t. LeftAt (F.device.may_leave c.args.folder.now) (record_place path) (Some t) old new) text
    (subst (λ p. LeftAt (F.device.may_leave c.args.folder.now) p (Some c.as_slice.result.now) old new) c.in_ok-place.ensures.place (c.write.ensures.torn faithful (c.in-Err.is ∙ ap Err e))) in
    subst (λ r. HoldsWith path entry memory (Err r) new.files) (sym c.unwritten_by.ensures)
    (exists_in (F.device.may_leave c.args.folder.now) path old new c.in-Err.fault memory entry run c.in_ok-place.ensures.path (c.in-Err.ensures.same faithful) torn observed reported of existed)

pub returns-in-Ok-clause-requests : goal.returns-in-Ok-clause-requests
returns-in-Ok-clause-requests g c =
    put_as c.in_ok-place.place (record_place c.args.path.now) c.as_slice.result.now (record_text c.args.path.now c.args.run.now)
    c.in_ok-place.ensures.place (c.as_slice.ensures.value ∙ c.in_ok-text.ensures.text) c.write.ensures.requests

pub returns-clause-requests : goal.returns-clause-requests
returns-clause-requests g c =
    put_as c.in_ok-place.place (record_place c.args.path.now) c.as_slice.result.now (record_text c.args.path.now c.args.run.now)
    c.in_ok-place.ensures.place (c.as_slice.ensures.value ∙ c.in_ok-text.ensures.text) c.write.ensures.requests

pub returns-in-Ok-clause-calls : goal.returns-in-Ok-clause-calls
returns-in-Ok-clause-calls g c =
    let F = g.F.Folder in
    let old = c.args.folder.now in
    let new = c.write.new.folder in
    let place = c.in_ok-place.place in
    let bytes = c.as_slice.result.now in
    let path = c.args.path.now in
    let text = record_text path c.args.run.now in
    storing_called F.device path c.args.run.now place bytes old new c.write.result (Ok tt)
    c.in_ok-place.ensures.place (c.as_slice.ensures.value ∙ c.in_ok-text.ensures.text) c.write.ensures.called (ap storing_ending (sym c.in-Ok.is))
    (text_of path c.args.run.now c.in_ok-text.text.items c.in_ok-text.ensures.text c.in_ok-text.ensures.utf8 c.in_ok-text.ensures.held (omega arith))

pub returns-clause-calls : goal.returns-clause-calls
returns-clause-calls g c =
    let F = g.F.Folder in
    let old = c.args.folder.now in
    let new = c.write.new.folder in
    let place = c.in_ok-place.place in
    let bytes = c.as_slice.result.now in
    let path = c.args.path.now in
    let text = record_text path c.args.run.now in
    storing_called F.device path c.args.run.now place bytes old new c.write.result (Err c.unwritten_by.result)
    c.in_ok-place.ensures.place (c.as_slice.ensures.value ∙ c.in_ok-text.ensures.text) c.write.ensures.called (ap Err c.unwritten_by.ensures ∙ ap storing_ending (sym c.in-Err.is))
    (text_of path c.args.run.now c.in_ok-text.text.items c.in_ok-text.ensures.text c.in_ok-text.ensures.utf8 c.in_ok-text.ensures.held (omega arith))

pub returns-in_err-text-clause-calls : goal.returns-in_err-text-clause-calls
returns-in_err-text-clause-calls g c =
    let F = g.F.Folder in
    let p = err_from_is_err_and c.from_residual.result c.from_residual.ensures.1 in
    at_err (λ (r : Ended Unwritten). StoringLed F.device c.args.path.now c.args.run.now c.args.folder.now r c.args.folder.now) c.from_residual.result p.0 unwritten.OutOfMemory p.1 p.2
    (storing_hindered F.device c.args.path.now c.args.run.now c.args.folder.now unwritten.OutOfMemory (λ e. absurd (cc)))

pub returns-then-len-gt-MAX_RECORD-clause-calls : goal.returns-then-len-gt-MAX_RECORD-clause-calls
returns-then-len-gt-MAX_RECORD-clause-calls g c =
    let path = c.args.path.now in
    let run = c.args.run.now in
    let long : length c.in_ok-text.text.items ≡ length (record_text path run) = ap length c.in_ok-text.ensures.text in
    let above : max_record < length (record_text path run) = omega arith in
    storing_too_long g.F.Folder.device path run c.args.folder.now (lt-ltb max_record (length (record_text path run)) above)

pub returns-in_err-place-clause-calls : goal.returns-in_err-place-clause-calls
returns-in_err-place-clause-calls g c =
    let F = g.F.Folder in
    let p = err_from_is_err_and c.from_residual-in_err-place.result c.from_residual-in_err-place.ensures.1 in
    at_err (λ (r : Ended Unwritten). StoringLed F.device c.args.path.now c.args.run.now c.args.folder.now r c.args.folder.now) c.from_residual-in_err-place.result p.0 c.in_err-place.field-0.0 p.1 p.2
    (storing_hindered F.device c.args.path.now c.args.run.now c.args.folder.now c.in_err-place.field-0.0 (λ e. c.in_err-place.ensures.shut (ap Err e)))
