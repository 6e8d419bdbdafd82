use Rattle.std.specs.Prelude.{map, string_bytes}
use Rattle.gb_cli.specs.Answered.{given_of}
use Rattle.gb_registry.specs.Tables.{tables_of}
use Rattle.gb_here.proofs.OnDisk.{bounded, built_on_disk, supposed_kept}
use Rattle.gb_here.proofs.on_disk.run_on_disk.Goals as goal

pub returns : goal.returns
returns g c =
    let tables = tables_of g.T.Transforms.meanings g.A.Actions.meanings c.args.tables.now in
    let given = given_of (λ words. map string_bytes words.items) c.args.words in
    let old = c.args.folder.now in
    let new = c.run-status.new.folder in
    let reported = c.run-status.ensures.reported in
    record {
      bounded = bounded _ reported.0 c.run-status.result reported.4;
      built = (
        reported.0,
        record { supposed = supposed_kept tables given reported.0 old new reported.2; promise = reported.1 },
        (λ begins. built_on_disk tables c.disk_folders_keep_calls.ensures c.answered_success_is_from_scratch.ensures given reported.0 old new begins reported.2),
        reported.3,
        reported.4,
      );
    }
