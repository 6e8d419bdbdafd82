use Rattle.std.proofs.Common.{◌≡◌, ◌<◌, ◌≤◌, ℕ, List, true, Err, None, IfOk, length, ap, subst, sym, ◌∙◌}
use Rattle.std.specs.Prelude.{IsSomeAnd, Ok}
use Rattle.gb_folder.specs.Files.{file_at, is_blocked}
use Rattle.gb_history.specs.Places.{record_place}
use Rattle.gb_semantics.specs.Events.{max_record}
use Rattle.gb_records.specs.Texts.{IsTextAt, WasTextAnswered}
use Rattle.gb_records.proofs.Calls.{read_of, placeless_read}
use Rattle.gb_records.proofs.Answering.{none_placed, none_existed}
use Rattle.gb_folder.proofs.Answering.{on_way_here}
use Rattle.gb_folder.specs.Answers.{IsOnWay}
use Rattle.gb_folder.specs.Calls.{Reads, answered}
use Rattle.gb_folder.specs.Device.{IsCalled}
use Rattle.gb_records.proofs.stored_records.read_text.Goals as goal

pub returns-in-Err-clause-read : goal.returns-in-Err-clause-read
returns-in-Err-clause-read g c = λ faithful.
    placeless_read (g.F.Folder.device.contents c.args.folder.now).files c.args.path.now c.in-Err.fault c.none_if_no_place.result (g.met.F.Folder.placed c.args.folder.now)
    (λ e. c.record_place.ensures.bad (c.in-Err.is ∙ ap Err e)) c.none_if_no_place.ensures.bad c.none_if_no_place.ensures.out

pub returns-in-Err-read-clause-read : goal.returns-in-Err-read-clause-read
returns-in-Err-read-clause-read g c = λ faithful.
    let files = (g.F.Folder.device.contents c.args.folder.now).files in
    let path = c.args.path.now in
    let at : c.in-Ok.place ≡ record_place path = c.in-Ok.ensures.place in
    let allowed = c.read.ensures in
    subst (λ r. IfOk r (IsTextAt files path)) (sym c.none_if_missing.ensures)
    (read_of files path c.in-Ok.place c.in-Err-read.fault (g.met.F.Folder.sound c.args.folder.now)
    (λ e. subst (λ p. file_at files p ≡ None) at (allowed.missing faithful (c.in-Err-read.is ∙ ap Err e)))
    (λ e. subst (λ p. is_blocked files p ≡ true) at (allowed.blocked faithful (c.in-Err-read.is ∙ ap Err e)))
    (λ e. subst (λ p. IsSomeAnd (file_at files p) (λ bytes. max_record < length bytes)) at (allowed.large faithful (c.in-Err-read.is ∙ ap Err e)))
    (λ e. allowed.not_named (c.in-Err-read.is ∙ ap Err e)))

pub returns-in-Err-clause-answered : goal.returns-in-Err-clause-answered
returns-in-Err-clause-answered g c =
    let F = g.F.Folder in
    none_placed F.device c.args.folder.now c.args.folder.now c.args.path.now c.in-Err.fault c.none_if_no_place.result c.none_if_no_place.ensures.bad c.none_if_no_place.ensures.out

pub returns-in-Err-read-clause-answered : goal.returns-in-Err-read-clause-answered
returns-in-Err-read-clause-answered g c =
    let F = g.F.Folder in
    subst (λ r. IfOk r (WasTextAnswered F.device c.args.folder.now c.read.new.folder c.args.path.now)) (sym c.none_if_missing.ensures)
    (none_existed F.device c.args.folder.now c.read.new.folder c.args.path.now c.in-Ok.place c.in-Err-read.fault)

pub returns-in-Ok-read-clause-answered : goal.returns-in-Ok-read-clause-answered
returns-in-Ok-read-clause-answered g c =
    let F = g.F.Folder in
    let old = c.args.folder.now in
    let new = c.read.new.folder in
    let bytes = c.in-Ok-read.bytes.items in
    let call : IsCalled F.device old (Reads (record_place c.args.path.now) max_record (Ok bytes)) new =
    subst (λ (place : List ℕ). IsCalled F.device old (Reads place max_record (Ok bytes)) new) c.in-Ok.ensures.place
    (subst (λ r. IsCalled F.device old (Reads c.in-Ok.place max_record (answered r)) new) c.in-Ok-read.is c.read.ensures.called) in
    subst (λ (made : List ℕ). (length made ≤ max_record) × IsOnWay F.device (Reads (record_place c.args.path.now) max_record (Ok made)) old new)
    (sym c.new.ensures) (c.in-Ok-read.ensures.within, on_way_here call)
