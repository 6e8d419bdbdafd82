use Rattle.std.proofs.Common.{◌∙◌, ap, codes, map, subst}
use Rattle.std.specs.Prelude.{string_bytes}
use Rattle.gb_arguments.specs.Command.{flag_in, rows_in, texts_in}
use Rattle.gb_arguments.specs.Values.{AreLast}
use Rattle.gb_arguments.proofs.arguments.read.Goals as goal

pub returns-clause-asked : goal.returns-clause-asked
returns-clause-asked c =
    let rows = c.in_ok-matches.ensures.rows ∙ ap (λ words. rows_in (map string_bytes words)) c.as_slice.ensures.value in
    record {
      requested = c.in_ok-texts_found.ensures ∙ ap (texts_in (codes "task")) rows;
      excluded = c.in_ok-texts_found-2.ensures ∙ ap (texts_in (codes "exclude")) rows;
      properties = subst (λ found. AreLast (texts_in (codes "property") found) c.in_ok-properties_found.field-0) rows c.in_ok-properties_found.ensures.last;
      keep_going = c.options_found.ensures.keep_going ∙ ap (flag_in (codes "continue")) rows;
      rerun = c.options_found.ensures.rerun ∙ ap (flag_in (codes "rerun")) rows;
      dry_run = c.options_found.ensures.dry_run ∙ ap (flag_in (codes "dry-run")) rows;
    }
