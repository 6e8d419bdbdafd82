use Rattle.std.proofs.Common.{◌≡◌, Ok, refl, ap, sym, ◌∙◌}
use Rattle.gb_semantics.specs.Kinds.{kind_of}
use Rattle.gb_run.specs.Asking.{made_by}
use Rattle.gb_run.proofs.Writer.{writes_none}
use Rattle.gb_run.proofs.work_by_changes.part_of_reader.Goals as goal

pub returns-clause-made : goal.returns-clause-made
returns-clause-made g c = λ kinds agrees fits quiet.
    let request = c.args.request.now in
    let task = c.args.task.now in
    let action = c.args.action.now in
    let reply = c.in_ok-reply.reply in
    let makes : made_by kinds task action request.files ≡ Ok reply.writes =
    ap (λ values. kinds.makes (kind_of action) action.args values request.files) (sym c.requires.full.values)
    ∙ (c.in_ok-reply.ensures.answered kinds agrees).in_full reply refl c.requires.full.in_full in
    makes ∙ ap Ok (writes_none kinds action fits.keeps action.args task.values request.files reply.writes quiet makes)
