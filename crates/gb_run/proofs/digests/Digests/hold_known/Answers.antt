use Rattle.std.proofs.Common.{sym, ap, ◌∙◌}
use Rattle.std.proofs.lemmas.Result.{on_ok_weaker}
use Rattle.gb_folder.specs.Files.{Files, with_file}
use Rattle.gb_run.proofs.Digested.{with_digest}
use Rattle.gb_run.proofs.digests.Digests.hold_known.Goals as goal

pub returns : goal.returns
returns c =
    let place = c.args.place.now in
    on_ok_weaker c.hold.result (λ put. λ files is.
    put ∙ ap (λ (fs : Files). with_file fs place c.args.digest) is
    ∙ ap (with_file _ place) c.requires
    ∙ sym (with_digest files place c.args.bytes.now)) c.hold.ensures.ok
