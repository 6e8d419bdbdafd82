use Rattle.std.proofs.Common.{◌∙◌, Err, Some, ap, sym}
use Rattle.std.proofs.lemmas.Result.{IfErr-weaker}
use Rattle.gb_check.proofs.Refused.{no_script_there, unread_there}
use Rattle.gb_check.proofs.sites.lines_at.Goals as goal

pub returns-in-Ok-clause-err : goal.returns-in-Ok-clause-err
returns-in-Ok-clause-err g c = λ faithful.
    let files = (g.F.Folder.device.contents c.args.folder.now).files in
    IfErr-weaker c.lines_in.result _ _
    (λ fault why. no_script_there files c.args.place.now _ _ c.as_slice.result.now fault (c.in-Ok.ensures.found faithful ∙ ap Some (sym c.as_slice.ensures.value)) why)
    c.lines_in.ensures.err

pub returns-in_default : goal.returns-in_default
returns-in_default g c =
    let read = c.in-Err.ensures in
    record {
      reads = read.reads;
      lines = λ faithful. tt;
      err = λ faithful.
          unread_there (g.F.Folder.device.contents c.args.folder.now).files c.args.place.now _ _ c.in-Err.fault c.unread.result c.unread.ensures
          (λ e. read.risen (ap Err e)) c.in_default.not-Missing (λ e. read.blocked faithful (ap Err e)) (λ e. read.large faithful (ap Err e)) (λ e. read.not_named (ap Err e));
    }
