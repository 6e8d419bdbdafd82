use Rattle.std.proofs.Common.{sym, ap, ◌∙◌}
use Rattle.std.proofs.lemmas.Result.{on_ok_weaker}
use Rattle.sha2.specs.Sha256.{sha256}
use Rattle.gb_folder.specs.Files.{Files, with_file}
use Rattle.gb_run.proofs.Digested.{with_digest}
use Rattle.gb_run.proofs.digests.Digests.put.Goals as goal

pub returns-clause-files : goal.returns-clause-files
returns-clause-files c =
    let place = c.args.place.now in
    on_ok_weaker c.hold.result (λ put. λ files is.
    put ∙ ap (λ (fs : Files). with_file fs place c.digest.result) is
    ∙ ap (with_file _ place) (c.digest.ensures ∙ ap sha256 c.as_slice.ensures)
    ∙ sym (with_digest files place c.args.bytes.now)) c.hold.ensures.ok
