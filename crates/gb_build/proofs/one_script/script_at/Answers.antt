use Rattle.std.proofs.Common.{ℕ, List, Err, Ok, Some, ap, subst, sym, ◌∙◌}
use Rattle.gb_script.specs.Script.{HasMeaning}
use Rattle.gb_folder.specs.Calls.{Reads}
use Rattle.gb_folder.specs.Device.{IsCalled}
use Rattle.gb_build.proofs.Parsed.{parsed_here}
use Rattle.gb_build.proofs.FileLemmas.{reported_there, unread_there}
use Rattle.gb_build.proofs.one_script.script_at.Goals as goal

pub returns-in-Ok-clause-said : goal.returns-in-Ok-clause-said
returns-in-Ok-clause-said g c = λ faithful.
    reported_there HasMeaning (g.F.Folder.device.contents c.args.folder.now).files c.args.place _ _ c.as_slice.result.now c.script_in.result (g.met.F.Folder.sound c.args.folder.now)
    (c.in-Ok.ensures.found faithful ∙ ap Some (sym c.as_slice.ensures.value)) c.script_in.ensures

pub returns-in_default-clause-said : goal.returns-in_default-clause-said
returns-in_default-clause-said g c = λ faithful.
    let allowed = c.in-Err.ensures in
    unread_there HasMeaning (g.F.Folder.device.contents c.args.folder.now).files c.args.place _ _ c.in-Err.fault c.unread.result (g.met.F.Folder.sound c.args.folder.now) (λ bytes long. long)
    (λ e. allowed.risen (ap Err e)) c.in_default.not-Missing (λ e. allowed.blocked faithful (ap Err e)) (λ e. allowed.large faithful (ap Err e)) (λ e. allowed.not_named (ap Err e)) c.unread.ensures

pub returns-in-Ok-clause-parsed : goal.returns-in-Ok-clause-parsed
returns-in-Ok-clause-parsed g c =
    let F = g.F.Folder in
    let old = c.args.folder.now in
    let new = c.read.new.folder in
    parsed_here F.device HasMeaning old new c.args.place _ c.as_slice.result.now _ c.script_in.result
    (subst (λ (bytes : List ℕ). IsCalled F.device old (Reads c.args.place _ (Ok bytes)) new) (sym c.as_slice.ensures.value) c.in-Ok.ensures.called) c.script_in.ensures
