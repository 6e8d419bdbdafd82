use Rattle.gb_declare.specs.Views.{joined_of}
use Rattle.gb_declare.specs.Whole.{trees_of as expressions_of}
use Rattle.gb_declare.specs.Site.{site_of}
use Rattle.gb_project.proofs.TaskLemmas.{row_count}
use Rattle.gb_project.proofs.task_declaring.add_row.Goals as goal

pub returns-in-Ok-clause-counted : goal.returns-in-Ok-clause-counted
returns-in-Ok-clause-counted g c =
    row_count c.args.providers.now.table (site_of c.args.site.now) c.args.providers.now.nodes (expressions_of (joined_of c.args.task.now)) c.in-Ok.row.items c.in-Ok.ensures.made.numbers
